-- A table as it is made, and that it stands in a schema with nothing of others on it.
use Rattle.std.specs.Prelude.{◌≡◌, ◌==◌, ◌&&◌, ℕ, Bool, true, nat_eq, List, map}
use Rattle.std.specs.List.{AllByRecursion}
use Rattle.std.specs.Cmp.Lexicographic.{pointwise}
use Rattle.sqlite_schema.specs.declared.schema.Table.{Table}
use Rattle.sqlite_schema.specs.declared.schema.Index.{Index}
use Rattle.sqlite_schema.specs.declared.schema.Schema.{Schema}
use Rattle.sqlite_schema.specs.Names.{same_name}
use Rattle.dh_rows.specs.declared.table_shape.Shape.{Shape}
use Rattle.dh_rows.specs.Places.{StandsInSchema, IsUnmentioned, tree_of, keyed_table, needed}

-- the table of this shape
abbrev pub table_of : Shape → Table
table_of shape = keyed_table shape.name.now shape.primary.now (map (λ c. needed c.1 c.0.now) shape.columns.now)

-- each table with this tree has this name
abbrev pub IsLone : Schema → ℕ → List ℕ → Type 0
IsLone schema tree name = AllByRecursion (λ t. t.tree ≡ tree → same_name t.name name ≡ true) schema.tables

-- each index on this tree is unique
abbrev pub IsUniquelyIndexed : Schema → ℕ → Type 0
IsUniquelyIndexed schema tree = AllByRecursion (λ i. i.table ≡ tree → i.is_unique ≡ true) schema.indexes

-- The schema has this table, and nothing of others is on it.
pub record StandsAlone (schema : Schema) (t : Table) : Type 0 where
  pub stands : StandsInSchema schema t
  -- no foreign key names it
  pub unmentioned : IsUnmentioned schema t.name
  -- no table of another name has its tree
  pub lone : IsLone schema (tree_of schema t.name) t.name
  -- it has no index that is not unique: since it stands, all are those of its own keys
  pub indexed : IsUniquelyIndexed schema (tree_of schema t.name)

-- the index is that of a key at these places: unique, and compared by bytes
abbrev pub is_key_at : List ℕ → Index → Bool
is_key_at places i = i.is_unique && (i.order.digits == 0) && pointwise nat_eq i.columns places
