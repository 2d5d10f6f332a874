-- A write of a table that no foreign key refers to sets off nothing, whatever other tables there are.
use Rattle.std.proofs.Common.{◌≡◌, ℕ, ◌==◌, List, [], ◌∷◌, length, false, Option, None, Some, refl}
use Rattle.std.specs.List.{AllByRecursion, flat_map, filter_map}
use Rattle.sqlite_value.specs.Order.{Row}
use Rattle.sqlite_schema.specs.declared.schema.Table.{Table}
use Rattle.sqlite_schema.specs.declared.schema.Keys.{Keys}
use Rattle.sqlite_schema.specs.declared.schema.Reference.{Reference}
use Rattle.sqlite_schema.specs.declared.schema.Schema.{Schema}
use Rattle.sqlite_schema.specs.Rules.{parent_key, ParentKey}
use Rattle.sqlite_rules.specs.Action.{works, work_for, work_by, deed_for, pairs}
use Rattle.dh_rows.specs.Places.{is_at, IsUnreferred}

module _ (schema : Schema) (keys : Keys) (depth tree : ℕ) (olds news : List Row) where
  no_work : (child : Table) (ref : Reference) (deed : _) (key : Option ParentKey) → is_at tree key ≡ false → work_by depth tree (pairs olds news) child ref deed key ≡ None
  no_work child ref None key e = refl
  no_work child ref (Some deed) None e = refl
  no_work child ref (Some deed) (Some key) e = rw e refl

  none_of : (child : Table) (refs : List Reference) → AllByRecursion (λ ref. is_at tree (parent_key schema.tables ref) ≡ false) refs → filter_map (work_for schema keys depth tree olds news child) refs ≡ []
  none_of child [] all = refl
  none_of child (ref ∷ refs) all = rw (no_work child ref (deed_for keys (length news == 0) ref) (parent_key schema.tables ref) all.0) (none_of child refs all.1)

  none_in : (tables : List Table) → AllByRecursion (λ t. AllByRecursion (λ ref. is_at tree (parent_key schema.tables ref) ≡ false) t.references) tables → flat_map (λ child. filter_map (work_for schema keys depth tree olds news child) child.references) tables ≡ []
  none_in [] all = refl
  none_in (t ∷ ts) all = rw (none_of t t.references all.0) (none_in ts all.1)

  pub works_none : IsUnreferred schema tree → works schema keys depth tree olds news ≡ []
  works_none = none_in schema.tables
