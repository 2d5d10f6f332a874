-- Grants: one that is not there is a free key, and what granting makes of the records.
use Rattle.std.proofs.Common.{◌≡◌, true, false, cond, List, find, is_some, Option, None, Some, true≢false, refl, ap, ◌∙◌}
use Rattle.sqlite_keyed.proofs.SliceLemmas.{any_is_found}
use Rattle.dh_rows.specs.Keyed.{IsFreeKey, added}
use Rattle.dh_records.specs.declared.records.GrantRow.{GrantRow}
use Rattle.dh_records.specs.Codings as coding
use Rattle.dh_records.specs.Lists.{is_held, granted}
use Rattle.dh_records.proofs.KeyLemmas.{held_key}
use Rattle.dh_records.proofs.Keys.{free_if_missing}

is_missing : {A : Type 0} (o : Option A) → is_some o ≡ false → o ≡ None
is_missing None e = refl
is_missing (Some a) e = absurd (true≢false e)

-- a grant that is not there is a free key
pub grant_is_free : (x : GrantRow) (rows : List GrantRow) → is_some (find (is_held x.host x.pass x.slug) rows) ≡ false → IsFreeKey coding.held.key x rows
grant_is_free x rows e = free_if_missing coding.held.key x (is_held x.host x.pass x.slug) (held_key x) rows (is_missing _ e)

pub granted_new : (x : GrantRow) (rows : List GrantRow) → is_some (find (is_held x.host x.pass x.slug) rows) ≡ false → granted x rows ≡ added coding.held.key x rows
granted_new x rows e = ap (λ b. cond b rows (added coding.held.key x rows)) (any_is_found (is_held x.host x.pass x.slug) rows ∙ e)

pub granted_there : (x : GrantRow) (rows : List GrantRow) → is_some (find (is_held x.host x.pass x.slug) rows) ≡ true → granted x rows ≡ rows
granted_there x rows e = ap (λ b. cond b rows (added coding.held.key x rows)) (any_is_found (is_held x.host x.pass x.slug) rows ∙ e)
