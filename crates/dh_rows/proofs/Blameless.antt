-- A store in memory counts no fault, and is always open.
use Rattle.std.proofs.Common.{inl, inr, arith, true≢false}
use Rattle.sqlite.specs.Held.{Held}
use Rattle.sqlite.specs.Steps.{over_memory}
use Rattle.sqlite_trees.specs.View.{doubt}
use Rattle.sqlite_trees.specs.declared.memory.MemStore.{MemStore}
use Rattle.dh_rows.specs.Calls.{IsBlamed}

pub blameless : (old new : Held MemStore) → ¬ IsBlamed over_memory old new
unfolding doubt
blameless old new (inl more) = absurd (omega (arith, more))
blameless old new (inr shut) = absurd (true≢false shut)
