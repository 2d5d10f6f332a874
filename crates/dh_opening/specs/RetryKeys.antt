-- Answers to retry keys as an open judges them; none is kept.
use Rattle.std.specs.Prelude.{◌≡◌, false, Some, List, codes, IsTrue}
use Rattle.sqlite_value.specs.Order.{Row}
use Rattle.sqlite.specs.Effect.{Database}
use Rattle.dh_records.specs.Codings.{used}
use Rattle.dh_records.specs.Typed.{IsUsed}
use Rattle.dh_records.specs.declared.records.ProjectRow.{ProjectRow}
use Rattle.dh_records.specs.declared.records.RetryRow.{RetryRow}
use Rattle.dh_constraints.specs.Keys.{IsFitKey}
use Rattle.dh_opening.specs.declared.keys.JudgedKeys.{JudgedKeys}
use Rattle.dh_opening.specs.Judged.{AreFitRows, IsNewest, KeepsFitOne, StandFit}
use Rattle.dh_opening.specs.Rows.{IsNext}

-- the row keeps this answer to a retry key, which keeps the constraints beside the projects
abbrev pub KeepsFitKey : List ProjectRow → Row → RetryRow → Type 0
KeepsFitKey projects = KeepsFitOne used IsUsed (IsFitKey projects)

-- the rows keep these answers, each of which keeps the constraints beside the projects
abbrev pub AreFitKeys : List ProjectRow → List Row → List RetryRow → Type 0
AreFitKeys projects = AreFitRows used IsUsed (IsFitKey projects)

-- the rows of the table of retry keys stand for these answers, each of which keeps the constraints
abbrev pub HasKeys : List ProjectRow → Database → List RetryRow → Type 0
HasKeys projects = StandFit used IsUsed (IsFitKey projects) (codes "used")

-- The row keeps the next answer, which keeps the constraints.
pub record FindsNextKey (old new : JudgedKeys) (row : Row) : Type 0 where
  pub next : IsNext old.last row
  pub key : RetryRow
  pub keeps : KeepsFitKey old.projects.rows.items row key
  pub last : new.last ≡ Some row

-- the rows are of answers that keep the constraints
pub record HasJudged (k : JudgedKeys) (rows : List Row) : Type 0 where
  pub newest : IsNewest k.last rows
  pub all : List RetryRow
  pub fit : AreFitKeys k.projects.rows.items rows all

-- What is known of retry keys once these rows were taken.
pub record TookKeys (start k : JudgedKeys) (rows : List Row) : Type 0 where
  pub same : k.projects ≡ start.projects
  pub kept : IsTrue k.are_kept → HasJudged k rows
  pub none : k.are_kept ≡ false → (xs : List RetryRow) → ¬ AreFitKeys k.projects.rows.items rows xs
