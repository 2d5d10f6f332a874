-- Where a table stands among others, and what it holds.
use Rattle.std.specs.Prelude.{◌≡◌, ℕ, ◌<◌, ◌^◌, ◌==◌, ◌&&◌, Bool, true, false, if◌then◌else◌, List, [], ◌∷◌, map, filter, find, length, Option, None, Some, slice_get, option_map, option_and_then, unwrap_or}
use Rattle.std.specs.List.{AllByRecursion}
use Rattle.sqlite_value.specs.Order.{Row}
use Rattle.sqlite_value.specs.declared.value.Value.TheVariants.{Null}
use Rattle.sqlite_value.specs.declared.keys.Collation.TheVariants.{Binary}
use Rattle.sqlite_value.specs.declared.keys.Order.{Order}
use Rattle.sqlite_value.specs.Keys.{plain}
use Rattle.sqlite_schema.specs.declared.schema.Kind.{Kind}
use Rattle.sqlite_schema.specs.declared.schema.Column.{Column}
use Rattle.sqlite_schema.specs.declared.schema.Table.{Table}
use Rattle.sqlite_schema.specs.declared.schema.Schema.{Schema}
use Rattle.sqlite_schema.specs.Names.{same_name, table_named, view_named, index_named}
use Rattle.sqlite_schema.specs.Rules.{parent_key, ParentKey}
use Rattle.sqlite_rules.specs.Lists.{Has}
use Rattle.sqlite.specs.Effect.{Database}
use Rattle.dh_rows.specs.Keyed.{Coding, IsTableOf, records_in_rows}

-- a NOT NULL column of a STRICT table
abbrev pub needed : Kind → List ℕ → Column
needed kind name = record { name = name; kind = kind; is_strict = true; not_null = true; default = Null; collation = Binary }

-- A STRICT table with these columns and a primary key at these places, which count the columns from 1, or none. Its tree is the schema's to choose.
abbrev pub keyed_table : List ℕ → List ℕ → List Column → Table
keyed_table name places columns = record {
  name = name;
  tree = 0;
  columns = columns;
  key = None;
  primary = places;
  uniques = if length places == 0 then [] else places ∷ [];
  orders = if length places == 0 then [] else plain ∷ [];
  checks = [];
  references = [];
  computed = [];
  stamps = record { places = []; terms = []; formats = [] };
  is_counted = false;
}

-- no table, index or view has the name
pub record IsFree (schema : Schema) (name : List ℕ) : Type 0 where
  pub tables : table_named schema name ≡ None
  pub indexes : index_named schema name ≡ None
  pub views : view_named schema name ≡ None

-- no index and no view has the name
pub record IsUnshared (schema : Schema) (name : List ℕ) : Type 0 where
  pub indexes : index_named schema name ≡ None
  pub views : view_named schema name ≡ None

-- the table at this place has the name, and its tree is its own
pub record HasTable (schema : Schema) (name : List ℕ) (at : ℕ) (table : Table) : Type 0 where
  pub named : table_named schema name ≡ Some at
  pub stands : slice_get schema.tables at ≡ Some table
  pub found : find (λ t. t.tree == table.tree) schema.tables ≡ Some table

-- the key of a foreign key's parent is that of the table with this tree
abbrev pub is_at : ℕ → Option ParentKey → Bool
is_at tree None = false
is_at tree (Some key) = key.0 == tree

-- no foreign key refers to the table with this tree
abbrev pub IsUnreferred : Schema → ℕ → Type 0
IsUnreferred schema tree = AllByRecursion (λ t. AllByRecursion (λ ref. is_at tree (parent_key schema.tables ref) ≡ false) t.references) schema.tables

-- no foreign key names a table of this name
abbrev pub IsUnmentioned : Schema → List ℕ → Type 0
IsUnmentioned schema name = AllByRecursion (λ t. AllByRecursion (λ ref. same_name name ref.parent ≡ false) t.references) schema.tables

-- the tree of the table with this name
abbrev pub tree_of : Schema → List ℕ → ℕ
tree_of schema name = unwrap_or (option_map (λ t. t.tree) (option_and_then (slice_get schema.tables) (table_named schema name))) 0

-- the table, with the tree that it has in a schema
abbrev pub table_in : Schema → Table → Table
table_in schema t = record t { tree = tree_of schema t.name }

-- the keys of the unique indexes on a tree: the places of their columns, and the order that they compare by
abbrev pub unique_keys : Schema → ℕ → List (List ℕ × Order)
unique_keys schema tree = map (λ i. (i.columns, i.order)) (filter (λ i. i.is_unique && (i.table == tree)) schema.indexes)

-- each index is on a table that is there
abbrev pub ArePlaced : Schema → Type 0
ArePlaced schema = AllByRecursion (λ i. (t : Table) × Has schema.tables t × (i.table ≡ t.tree)) schema.indexes

-- The schema has this table at some place, where its tree is its own and no foreign key refers to it.
pub record StandsInSchema (schema : Schema) (t : Table) : Type 0 where
  pub at : ℕ
  pub has : HasTable schema t.name at (table_in schema t)
  -- no statement computes it
  pub stored : tree_of schema t.name < 2 ^ 31
  pub unreferred : IsUnreferred schema (tree_of schema t.name)
  -- its unique indexes are those of its own keys, which compare by bytes
  pub keyed : unique_keys schema (tree_of schema t.name) ≡ map (λ places. (places, plain)) t.uniques

-- the rows of the table with this name
abbrev pub rows_of : Database → List ℕ → List Row
rows_of db name = db.trees (tree_of db.schema name)

-- the records of a table, in the order of their keys
abbrev pub records_of : {X : Type 0} → Coding X → List ℕ → Database → List X
records_of c name db = records_in_rows c (rows_of db name)

-- the database has this table, and each of its rows stands for a record
pub record KeepsTable (t : Table) {X : Type 0} (c : Coding X) (db : Database) : Type 0 where
  pub stands : StandsInSchema db.schema t
  pub rows : IsTableOf c (rows_of db t.name)
