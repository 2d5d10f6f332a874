-- A statement that drops a table, by its text.
use Rattle.std.specs.Prelude.{◌≡◌, ℕ, false, List, codes}
use Rattle.sqlite_schema.specs.Names.{same_name}
use Rattle.dh_rows.proofs.Drop.{IsDrop}

-- The text drops the table of this name, which counts for no other.
pub record DropsIt (text name : List ℕ) : Type 0 where
  pub drops : IsDrop text name
  pub apart : same_name name (codes "sqlite_sequence") ≡ false
