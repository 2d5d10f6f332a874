-- SELECT columns FROM one table WHERE a test ORDER BY columns, with what is found of the schema as given.
use Rattle.std.proofs.Common.{◌≡◌, ℕ, pos, negsuc, ◌^◌, nat_lt, codes, List, [], ◌∷◌, ◌++◌, ◌==◌, map, Bool, true, false, Option, None, Some, Ok, refl, slice_get, length, ap}
use Rattle.sqlite_value.specs.declared.keys.Collation.{Collation}
use Rattle.sqlite_value.specs.declared.keys.Key.{Key}
use Rattle.sqlite_value.specs.declared.value.Value.TheVariants.{Int}
use Rattle.sqlite_ast.specs.declared.Expr.{Expr, out-Expr}
use Rattle.sqlite_ast.specs.declared.Expr.TheOpen.{Expr-F, Shown-F}
use Rattle.sqlite_ast.specs.declared.Shown.{Shown, out-Shown}
use Rattle.sqlite_ast.specs.declared.Source.{Source, out-Source}
use Rattle.sqlite_ast.specs.declared.Core.{Core, out-Core}
use Rattle.sqlite_ast.specs.declared.Select.{Select, out-Select}
use Rattle.sqlite_ast.specs.declared.Sort.{Sort, out-Sort}
use Rattle.sqlite_ast.specs.declared.Origin.TheVariants as origin
use Rattle.sqlite_sql.specs.Term.{Term, lit, col}
use Rattle.sqlite_schema.specs.declared.schema.Table.{Table}
use Rattle.sqlite_schema.specs.declared.schema.Column.{Column as Column'}
use Rattle.sqlite_schema.specs.declared.schema.Schema.{Schema}
use Rattle.sqlite_schema.specs.declared.program.Program.{Program}
use Rattle.sqlite_schema.specs.Names.{table_named, column_named}
use Rattle.sqlite_schema.specs.declared.command.Command.TheVariants as command
use Rattle.sqlite_draft.specs.declared.join.Step.TheVariants.{Inner}
use Rattle.sqlite_draft.specs.declared.query.Draft.{Draft}
use Rattle.sqlite_resolve.specs.declared.state.State.{State}
use Rattle.sqlite_resolve.specs.declared.scope.Bound.{Bound}
use Rattle.sqlite_resolve.specs.declared.scope.Output.{Output}
use Rattle.sqlite_resolve.specs.declared.scope.Found.TheVariants.{Column, Rowid}
use Rattle.sqlite_resolve.specs.declared.body.Body.{Body}
use Rattle.sqlite_resolve.specs.declared.body.Joined.{Joined}
use Rattle.sqlite_resolve.specs.Lowering.{fresh, max_budget, take_slot, alone}
use Rattle.sqlite_resolve.specs.Scope.{Context, find, in_level, only, hit, column_in, is_among, is_rowid, rowid_in}
use Rattle.sqlite_resolve.specs.Body.{within, bound, bounds, table_in, tests, shown, outputs, join, joins, inner_join, shared, result, matching, body, heading, is_column, declared}
use Rattle.sqlite_resolve.specs.Order.{sort, sorts, key, keys, peeled, alias_in, collation_of, placed, is_numeral, written_on}
use Rattle.sqlite_resolve.specs.Select.{outermost, inside, having, parts, assembled, ungrouped, named, paging, constant_or}
use Rattle.sqlite_resolve.specs.Expr.{lower}
use Rattle.sqlite_resolve.specs.Program.{query, query_to, level, with, whole, alone as alone', single, sources, source, viewing, program}
use Rattle.sqlite_resolve.specs.Compile.{read}
use Rattle.sqlite_ast.specs.declared.Statement.TheVariants as written
use Rattle.sqlite_syntax.specs.declared.statement.Parsed.{Parsed}
use Rattle.sqlite_resolve.specs.Compile.{first}
use Rattle.sqlite_resolve.specs.Compile as resolve
use Rattle.sqlite_resolve.specs.Compile.{timed, returning, with_command}
use Rattle.sqlite.specs.Listing.{understood, reads_listing, misses_table}
use Rattle.dh_rows.proofs.Meaning.{compiled_as, understood_as}

abbrev pub bound_at : List ℕ → ℕ → Bound
bound_at name at = record { name = name; table = at; slot = 1; shared = [] }

-- the context within the one table
abbrev pub seen : Schema → List ℕ → ℕ → List Output → Bool → Context
seen schema name at shown may = record { schema = schema; levels = record { tables = bound_at name at ∷ []; shown = shown } ∷ []; may_aggregate = may; may_alias = true }

module _ (schema : Schema) (name : List ℕ) (at : ℕ) (table : Table) (is_named : table_named schema name ≡ Some at) (stands : slice_get schema.tables at ≡ Some table) where
  pub seen_as : (shows : List Output) (may : Bool) (c : List ℕ) (k : ℕ) → column_named table c ≡ Some k → find (seen schema name at shows may) None c ≡ Ok (Column 1 at k)
  unfolding find in_level only hit column_in is_among
  seen_as shows may c k has = rw (stands, has) refl

  pub heading_as : (shows : List Output) (may : Bool) (e : Expr) (text c : List ℕ) (k : ℕ) (column : Column') → out-Expr e ≡ Expr-F.Column None c → find (seen schema name at shows may) None c ≡ Ok (Column 1 at k) → slice_get table.columns k ≡ Some column
      → heading (seen schema name at shows may) e text ≡ column.name
  unfolding heading declared
  heading_as shows may e text c k column out found has = rw (out, found, stands, has) refl

  -- a name of the rowid that no column has, of a table that is stored
  pub rowid_seen : (shows : List Output) (may : Bool) (c : List ℕ) → column_named table c ≡ None → is_rowid c ≡ true → nat_lt table.tree (2 ^ 31) ≡ true → find (seen schema name at shows may) None c ≡ Ok (Rowid 1 at)
  unfolding find in_level only hit column_in is_among rowid_in
  rowid_seen shows may c none is stored = rw (stands, none, is, stored) refl

  pub rowid_heading : (shows : List Output) (may : Bool) (e : Expr) (text c : List ℕ) → out-Expr e ≡ Expr-F.Column None c → find (seen schema name at shows may) None c ≡ Ok (Rowid 1 at) → table.key ≡ None
      → heading (seen schema name at shows may) e text ≡ codes "rowid"
  unfolding heading declared
  rowid_heading shows may e text c out found plain = rw (out, found, stands, plain) refl

  -- FROM
  pub bounds_as : (src : Source) (s : State) → (out-Source src).origin ≡ origin.Table name → (out-Source src).alias ≡ None → (out-Source src).using ≡ [] → s.next ≡ 1
      → bounds schema (src ∷ []) s ≡ Ok (bound_at name at ∷ [], record s { next = 2 })
  unfolding bounds bound table_in take_slot
  bounds_as src s from alias using next = rw (from, alias, using, next, is_named) refl

  pub joins_as : (shows : List Output) (may : Bool) (src : Source) (s : State) → (out-Source src).on ≡ None → (out-Source src).using ≡ [] → (out-Source src).is_left ≡ false
      → joins lower (seen schema name at shows may) (bound_at name at ∷ []) (src ∷ []) s ≡ Ok (record { steps = Inner table.tree ∷ []; filter = [] }, s)
  unfolding joins join shared inner_join tests
  joins_as shows may src s on using left = rw (on, using, left, stands) refl

-- one column of the result
pub shown_as : (cx : Context) (tables : List Bound) (done : List Output) (sh : Shown) (e : Expr) (text c : List ℕ) (s s1 : State) (t : Term) → out-Shown sh ≡ Shown-F.One e None text → lower cx e s ≡ Ok (t, s1) → heading cx e text ≡ c → is_column e ≡ true
    → shown lower cx tables done sh s ≡ Ok (done ++ record { name = c; is_alias = false; is_column = true; term = t; carried = s1.last } ∷ [], s1)
unfolding shown
shown_as cx tables done sh e text c s s1 t out low head column = rw (out, low, head, column) refl

-- one key of ORDER BY
pub sort_as : (cx : Context) (shows : List Output) (done : List (Term × Key)) (so : Sort) (e : Expr) (s s1 : State) (k : ℕ) → (out-Sort so).key ≡ e → (out-Sort so).descending ≡ false → (out-Sort so).nulls_first ≡ None → peeled e ≡ e → alias_in shows e ≡ None → written_on e ≡ None
    → lower cx e s ≡ Ok (col 1 k, s1) → is_numeral e ≡ false → sort lower cx shows done so s ≡ Ok (done ++ (col 1 k, record { collation = alone s1.last; descending = false }) ∷ [], s1)
unfolding sort key collation_of placed
sort_as cx shows done so e s s1 k is down nulls peel alias written low number = rw (is, peel, down, nulls, alias, written, low, number) refl

module _ (schema : Schema) (core : Core) where
  pub body_as : (s s1 s2 s3 s4 : State) (tables : List Bound) (columns : List Output) (joined : Joined) (terms : List Term) → bounds schema (out-Core core).from s ≡ Ok (tables, s1)
      → outputs lower (within (outermost schema) (record { tables = tables; shown = [] }) true) tables (out-Core core).shown s1 ≡ Ok (columns, s2)
      → joins lower (within (outermost schema) (record { tables = tables; shown = columns }) false) tables (out-Core core).from s2 ≡ Ok (joined, s3)
      → tests lower (within (outermost schema) (record { tables = tables; shown = columns }) false) joined.filter (out-Core core).filter s3 ≡ Ok (terms, s4)
      → body lower (outermost schema) core s ≡ Ok (record { level = record { tables = tables; shown = columns }; steps = joined.steps; filter = terms }, s4)
  unfolding body result matching
  body_as s s1 s2 s3 s4 tables columns joined terms b o j t = rw (b, o, j, t) refl

  parts_as : (order : List Sort) (whole : Body) (s s1 s2 : State) (keyed : List (Term × Key)) → body lower (outermost schema) core s ≡ Ok (whole, s1) → (out-Core core).group ≡ [] → (out-Core core).having ≡ None → (length s1.aggregates == 0) ≡ true
      → sorts lower (inside schema whole.level false) whole.level.shown order s1 ≡ Ok (keyed, s2)
      → parts schema core order s ≡ Ok (record { body = whole; is_grouped = false; keys = []; collations = []; having = []; order = keyed }, s2)
  unfolding parts keys having tests
  parts_as order whole s s1 s2 keyed b group having' aggregates sorted = rw (b, group, aggregates, having') (rw sorted refl)

  pub named_as : (order : List Sort) (page : Term × Term) (whole : Body) (s1 s2 : State) (keyed : List (Term × Key)) → body lower (outermost schema) core (fresh 1 max_budget) ≡ Ok (whole, s1) → (out-Core core).group ≡ [] → (out-Core core).having ≡ None → (out-Core core).distinct ≡ false → (length s1.aggregates == 0) ≡ true
      → sorts lower (inside schema whole.level false) whole.level.shown order s1 ≡ Ok (keyed, s2)
      → named schema core order page ≡ Ok (ungrouped (whole.steps ++ s2.steps) whole.filter whole.level.shown false keyed page.0 page.1, map (λ o. o.name) whole.level.shown, map (λ o. o.carried.collation) whole.level.shown)
  unfolding named assembled
  named_as order page whole s1 s2 keyed b group having' distinct aggregates sorted = rw (parts_as order whole (fresh 1 max_budget) s1 s2 keyed b group having' aggregates sorted, distinct) refl

pub read_as : (schema : Schema) (q : Select) (core : Core) (src : Source) (name : List ℕ) (d : Draft) (names : List (List ℕ)) (carried : List (Option Collation)) (p : Program) → (out-Select q).with ≡ [] → (out-Select q).others ≡ [] → (out-Select q).limit ≡ None → (out-Select q).offset ≡ None → (out-Select q).first ≡ core
    → (out-Core core).from ≡ src ∷ [] → (out-Source src).origin ≡ origin.Table name → named schema core (out-Select q).order (lit (Int (negsuc 0)), lit (Int (pos 0))) ≡ Ok (d, names, carried) → program schema [] d ≡ Ok p → read schema q ≡ Ok (command.Select p names)
unfolding read query query_to level with whole alone' single sources source viewing paging constant_or
read_as schema q core src name d names carried p with' others limit offset first from table is prog = rw (with', others, limit, offset, first, from, table, is, prog) refl

-- ---- the whole statement

select_time : (schema : Schema) (p : Parsed) (q : Select) → p.statement ≡ written.Select q → p.formats ≡ [] → timed schema p.formats p.statement ≡ []
unfolding timed
select_time schema p q is formats = rw (is, formats) refl

select_shows : (schema : Schema) (p : Parsed) (q : Select) (base : ℕ) → p.statement ≡ written.Select q → returning schema base p.statement ≡ Ok None
unfolding returning
select_shows schema p q base is = rw is refl

select_command : (schema : Schema) (p : Parsed) (q : Select) (base : ℕ) (c : _) → p.statement ≡ written.Select q → read schema q ≡ Ok c → resolve.command schema p.formats base p.statement ≡ Ok c
unfolding resolve.command
select_command schema p q base c is h = rw (is, h) refl

pub select_means : (schema : Schema) (p : Parsed) (q : Select) (c : _) (text : List ℕ) → first text ≡ Ok p → p.statement ≡ written.Select q → p.formats ≡ [] → read schema q ≡ Ok c
    → (understood schema text ≡ Ok (with_command p ([], (c, None)))) × (reads_listing schema text ≡ false)
select_means schema p q c text parse is formats h =
    let it = compiled_as schema text p [] None c parse (select_time schema p q is formats) (select_shows schema p q _ is) (select_command schema p q _ c is h) in
    (understood_as schema text _ it, ap misses_table it)
