-- The queries that our statements stand for.
use Rattle.std.proofs.Common.{ℕ, suc, pos, negsuc, List, [], ◌∷◌, ◌++◌, map, false, None}
use Rattle.sqlite_value.specs.declared.value.Value.TheVariants.{Int}
use Rattle.sqlite_value.specs.declared.keys.Key.{Key}
use Rattle.sqlite_value.specs.declared.keys.Collation.TheVariants.{Binary}
use Rattle.sqlite_sql.specs.declared.ops.BinaryOp.TheVariants.{Compare}
use Rattle.sqlite_sql.specs.declared.ops.CompareOp.TheVariants.{Eq, Gt}
use Rattle.sqlite_sql.specs.Term.{Term, lit, col, op2}
use Rattle.sqlite_sql.specs.Query.{Query, inner, end}

-- a column, counted from 0, equals a parameter, counted from 0
abbrev pub equals : ℕ → ℕ → Term
equals k n = op2 (Compare Eq Binary) (col 1 (suc k)) (col 0 n)

-- a column is above a parameter, each counted from 0
abbrev pub above : ℕ → ℕ → Term
above k n = op2 (Compare Gt Binary) (col 1 (suc k)) (col 0 n)

-- each of these columns equals its parameter
abbrev pub wanted : List (ℕ × ℕ) → List Term
wanted = map (λ w. equals w.0 w.1)

-- the same, and this column is above its parameter
abbrev pub wanted_above : List (ℕ × ℕ) → ℕ × ℕ → List Term
wanted_above ws w = wanted ws ++ above w.0 w.1 ∷ []

-- ascending by a column
abbrev pub rising : ℕ → Term × Key
rising k = (col 1 (suc k), record { collation = Binary; descending = false })

-- ascending by the rowid
abbrev pub by_rowid : Term × Key
by_rowid = (col 1 0, record { collation = Binary; descending = false })

abbrev pub from_table : ℕ → List Term → List Term → List (Term × Key) → Query
from_table tree filter shown order = record { from = inner tree end; filter = filter; group = None; project = shown; distinct = false; collations = []; order = order; limit = lit (Int (negsuc 0)); offset = lit (Int (pos 0)) }

-- the values of these columns
abbrev pub columns_at : List ℕ → List Term
columns_at = map (λ k. col 1 (suc k))
