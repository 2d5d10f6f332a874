-- The meaning of our texts, by their shape: any list of columns, of equalities joined by AND and of sort keys.
use Rattle.std.proofs.Common.{◌≡◌, ℕ, zero, suc, ◌+◌, ◌-◌, ◌*◌, ◌^◌, ◌≤◌, ◌<◌, pos, negsuc, List, [], ◌∷◌, ◌++◌, ◌==◌, ◌&&◌, nat_lt, nat_le, map, length, Bool, true, false, cond, Option, None, Some, Ok, codes, refl, sym, ap, ap₂, subst, ◌∙◌, slice_get, unwrap_or, option_map, option_and_then, is_some, arith, append_assoc, length-append, add-one, append-nil, lt-ltb, lit≤}
use Rattle.std.specs.List.{AllByRecursion, list_all, position_from}
use Rattle.std.proofs.lemmas.Bool.{and_parts, lt-leb}
use Rattle.std.proofs.lemmas.List.{map-append}
use Rattle.sqlite_keyed.proofs.ListLemmas.{all-slice_get, all-append}
use Rattle.sqlite_value.specs.declared.value.Value.{Value}
use Rattle.sqlite_value.specs.declared.value.Value.TheVariants.{Int, Text, Blob}
use Rattle.sqlite_value.specs.Order.{Row, column}
use Rattle.sqlite_value.specs.declared.keys.Key.{Key}
use Rattle.sqlite_value.specs.declared.keys.Collation.TheVariants.{Binary}
use Rattle.sqlite_ast.specs.declared.Expr.{Expr, out-Expr}
use Rattle.sqlite_ast.specs.declared.Expr.TheOpen.{Expr-F, Shown-F}
use Rattle.sqlite_ast.specs.declared.Shown.{Shown, out-Shown}
use Rattle.sqlite_ast.specs.declared.Source.{Source, out-Source}
use Rattle.sqlite_ast.specs.declared.Core.{Core, out-Core}
use Rattle.sqlite_ast.specs.declared.Select.{Select, out-Select}
use Rattle.sqlite_ast.specs.declared.Sort.{Sort, out-Sort}
use Rattle.sqlite_ast.specs.declared.Rows.{Rows}
use Rattle.sqlite_ast.specs.declared.Origin.TheVariants as origin
use Rattle.sqlite_ast.specs.declared.Binary.{Binary as Operator}
use Rattle.sqlite_ast.specs.declared.Binary.TheVariants.{Eq, Gt, And}
use Rattle.sqlite_ast.specs.declared.Statement.TheVariants as written
use Rattle.sqlite_ast.specs.declared.Conflict.TheVariants as conflict
use Rattle.sqlite_syntax.specs.declared.statement.Parsed.{Parsed}
use Rattle.sqlite_sql.specs.declared.ops.BinaryOp.{BinaryOp}
use Rattle.sqlite_sql.specs.declared.ops.BinaryOp.TheVariants as by
use Rattle.sqlite_sql.specs.declared.ops.CompareOp.{CompareOp}
use Rattle.sqlite_sql.specs.declared.ops.CompareOp.TheVariants as compare
use Rattle.sqlite_sql.specs.Term.{Term, lit, col, op2}
use Rattle.sqlite_schema.specs.declared.schema.Kind.{Kind}
use Rattle.sqlite_schema.specs.declared.schema.Kind.TheVariants as kind
use Rattle.sqlite_schema.specs.declared.schema.Column.{Column as Declared}
use Rattle.sqlite_schema.specs.declared.schema.Table.{Table}
use Rattle.sqlite_schema.specs.declared.schema.Schema.{Schema}
use Rattle.sqlite_schema.specs.declared.command.Command.{Command}
use Rattle.sqlite_schema.specs.declared.command.Command.TheVariants as command
use Rattle.sqlite_schema.specs.declared.command.Source.TheVariants.{Values}
use Rattle.sqlite_schema.specs.Names.{column_named}
use Rattle.sqlite_draft.specs.declared.join.Step.TheVariants.{Inner}
use Rattle.sqlite_draft.specs.declared.query.Draft.{Draft}
use Rattle.sqlite_typing.specs.Types.{Slots, class_of, class_in, row_classes, term_class, are_tests, are_typed, accepts_program}
use Rattle.sqlite_resolve.specs.declared.compare.Affinity.TheVariants as affinity
use Rattle.sqlite_resolve.specs.declared.state.State.{State}
use Rattle.sqlite_resolve.specs.declared.state.Passes.TheVariants as hands
use Rattle.sqlite_resolve.specs.declared.scope.Output.{Output}
use Rattle.sqlite_resolve.specs.declared.scope.Found.TheVariants.{Rowid}
use Rattle.sqlite_resolve.specs.Lowering.{fresh, max_budget, nothing, alone}
use Rattle.sqlite_resolve.specs.Scope.{Context, column_at, find, is_rowid}
use Rattle.sqlite_resolve.specs.Terms.{conjuncts}
use Rattle.sqlite_resolve.specs.Body.{tests, outputs, outputs_from, is_column}
use Rattle.sqlite_resolve.specs.Order.{sorts, sorts_from, peeled, alias_in, written_on, is_numeral}
use Rattle.sqlite_resolve.specs.Select.{ungrouped, named as named_to}
use Rattle.sqlite_resolve.specs.Write.{simple as drafted, deleted}
use Rattle.sqlite_resolve.specs.Program.{program}
use Rattle.sqlite_resolve.specs.Compare.{compared, affinity_of, of_column, of_kind, converted, converted_by, spelled, may_be_text, is_parameter}
use Rattle.sqlite_resolve.specs.Expr.{lower, lower_to, passes, combine, is_identity, tests_truth, tests_alias, wanted_truth}
use Rattle.sqlite_resolve.specs.Compile.{first, new_rows, small, read as resolve_read}
use Rattle.sqlite_tied.specs.Compute.{everything}
use Rattle.sqlite.specs.Listing.{understood, reads_listing}
use Rattle.sqlite.specs.Given.{IsPlain}
use Rattle.dh_rows.specs.Calls.{compiled_command}
use Rattle.dh_rows.proofs.Calls.{tail_of, parameters_of}
use Rattle.dh_rows.specs.Places.{tree_of, table_in, StandsInSchema}
use Rattle.dh_rows.proofs.Terms.{equals, above, wanted, wanted_above, rising, by_rowid, from_table, columns_at}
use Rattle.dh_rows.proofs.Effects.{IsSimple}
use Rattle.dh_rows.proofs.Steps.{begun, ended, binary, column_end, rowid_end, compared_end, node_as, column_as, rowid_as, both_as, tests_as, columned_as, deleted_as, compared_as}
use Rattle.dh_rows.proofs.Choose.{seen, bound_at, seen_as, heading_as, rowid_seen, rowid_heading, bounds_as, joins_as, shown_as, sort_as, body_as, named_as, read_as, select_means}
use Rattle.dh_rows.proofs.Meaning.{delete_means, insert_means}

-- ---- the shapes

-- each column is strict, and compares by bytes
abbrev pub ArePlain : List Declared → Type 0
ArePlain = AllByRecursion (λ c. (c.is_strict ≡ true) × (c.collation ≡ Binary))

-- the expression names the column at this place of the table
pub data IsColumn (t : Table) : Expr → ℕ → Type 0 where
  named : {e : Expr} {name : List ℕ} {k : ℕ} {c : Declared} → out-Expr e ≡ Expr-F.Column None name → column_named t name ≡ Some k → slice_get t.columns k ≡ Some c → IsColumn t e k

-- `column op ?n`: the column and the parameter, each counted from 0
pub data IsCompared (t : Table) (op : Operator) : Expr → ℕ × ℕ → Type 0 where
  compares : {e a b : Expr} {k m n : ℕ} → out-Expr e ≡ Expr-F.Binary op a b → IsColumn t a k → out-Expr b ≡ Expr-F.Parameter m → m - 1 ≡ n → IsCompared t op e (k, n)

abbrev pub IsEqual : Table → Expr → ℕ × ℕ → Type 0
IsEqual t = IsCompared t Eq

-- equalities joined by AND
pub data IsTest (t : Table) : Expr → List (ℕ × ℕ) → Type 0 where
  one : {e : Expr} {w : ℕ × ℕ} → IsEqual t e w → IsTest t e (w ∷ [])
  both : {e l r : Expr} {ws : List (ℕ × ℕ)} {w : ℕ × ℕ} → out-Expr e ≡ Expr-F.Binary And l r → IsTest t l ws → IsEqual t r w → IsTest t e (ws ++ w ∷ [])

-- equalities joined by AND, and behind them `column > ?n`
pub data IsTestAbove (t : Table) : Expr → List (ℕ × ℕ) → ℕ × ℕ → Type 0 where
  ends : {e l r : Expr} {ws : List (ℕ × ℕ)} {w : ℕ × ℕ} → out-Expr e ≡ Expr-F.Binary And l r → IsTest t l ws → IsCompared t Gt r w → IsTestAbove t e ws w

-- a WHERE, or none
pub data IsWhere (t : Table) : Option Expr → List (ℕ × ℕ) → Type 0 where
  all : IsWhere t None []
  only : {e : Expr} {ws : List (ℕ × ℕ)} → IsTest t e ws → IsWhere t (Some e) ws

-- bare columns after SELECT
pub data AreShown (t : Table) : List Shown → List ℕ → Type 0 where
  none : AreShown t [] []
  next : {s : Shown} {e : Expr} {text : List ℕ} {k : ℕ} {ss : List Shown} {ks : List ℕ} → out-Shown s ≡ Shown-F.One e None text → IsColumn t e k → AreShown t ss ks → AreShown t (s ∷ ss) (k ∷ ks)

-- bare columns after ORDER BY
pub data AreSorts (t : Table) : List Sort → List ℕ → Type 0 where
  none : AreSorts t [] []
  next : {s : Sort} {e : Expr} {k : ℕ} {ss : List Sort} {ks : List ℕ} → (out-Sort s).key ≡ e → (out-Sort s).descending ≡ false → (out-Sort s).nulls_first ≡ None → IsColumn t e k → AreSorts t ss ks → AreSorts t (s ∷ ss) (k ∷ ks)

abbrev pub rowid_name : List ℕ
rowid_name = codes "rowid"

-- the expression names the rowid, as no column of the table is named
pub data IsRowidOf (t : Table) : Expr → Type 0 where
  unnamed : {e : Expr} → out-Expr e ≡ Expr-F.Column None rowid_name → column_named t rowid_name ≡ None → IsRowidOf t e

-- a SELECT from the table alone, with no WITH, UNION, GROUP BY, DISTINCT or LIMIT
pub record IsFrame (t : Table) (q : Select) (core : Core) (src : Source) : Type 0 where
  pub bare : (out-Select q).with ≡ []
  pub others : (out-Select q).others ≡ []
  pub limit : (out-Select q).limit ≡ None
  pub offset : (out-Select q).offset ≡ None
  pub first_is : (out-Select q).first ≡ core
  pub from : (out-Core core).from ≡ src ∷ []
  pub origin_is : (out-Source src).origin ≡ origin.Table t.name
  pub alias : (out-Source src).alias ≡ None
  pub using : (out-Source src).using ≡ []
  pub on : (out-Source src).on ≡ None
  pub left : (out-Source src).is_left ≡ false
  pub group : (out-Core core).group ≡ []
  pub having : (out-Core core).having ≡ None
  pub distinct : (out-Core core).distinct ≡ false

-- the text's meaning at a schema
pub record Means (schema : Schema) (text : List ℕ) (k : Command) : Type 0 where
  pub is : compiled_command (understood schema text) ≡ k
  pub plain : IsPlain (understood schema text)

-- The same of a query, and how its text ends and how many parameters it has, as they were read.
pub record Chooses (schema : Schema) (text : List ℕ) (k : Command) : Type 0 where
  pub means : Means schema text k
  pub listing : reads_listing schema text ≡ false
  pub parsed : Parsed
  pub read : first text ≡ Ok parsed
  pub tail : tail_of (understood schema text) ≡ parsed.tail
  pub given : parameters_of (understood schema text) ≡ length parsed.names

-- the value is of the column's kind, so that neither is converted where they are compared
abbrev pub suits : Kind → Value → Bool
suits kind.Integer (Int n) = true
suits kind.Text (Text x) = true
suits kind.Blob (Blob x) = true
suits _ _ = false

abbrev suits_column : Row → ℕ → Option Declared → Bool
suits_column params n (Some c) = suits c.kind (column params n)
suits_column params n None = false

abbrev suits_at : List Declared → Row → ℕ × ℕ → Bool
suits_at columns params w = suits_column params w.1 (slice_get columns w.0)

-- each parameter of a WHERE is of its column's kind
abbrev pub all_suit : Table → Row → List (ℕ × ℕ) → Bool
all_suit t params = list_all (suits_at t.columns params)

suited : (k : Kind) (v : Value) → suits k v ≡ true → is_some (option_and_then (Rattle.sqlite_typing.specs.Types.compared (Rattle.sqlite_typing.specs.Types.column_class k)) (class_of v)) ≡ true
suited kind.Integer (Int n) e = refl
suited kind.Text (Text x) e = refl
suited kind.Blob (Blob x) e = refl
suited _ _ e = absurd (cc)

-- ---- expressions

-- a text of this shape, with these columns and parameters in its WHERE
pub data IsDelete (t : Table) (text : List ℕ) (ws : List (ℕ × ℕ)) : Type 0 where
  deletes : {p : Parsed} {test : Option Expr} → first text ≡ Ok p → p.statement ≡ written.Delete t.name test [] → p.formats ≡ [] → IsWhere t test ws → length ws ≤ 100 → IsDelete t text ws

-- the same, with a column that is above its parameter
pub data IsDeleteAbove (t : Table) (text : List ℕ) (ws : List (ℕ × ℕ)) (w : ℕ × ℕ) : Type 0 where
  deletes : {p : Parsed} {e : Expr} → first text ≡ Ok p → p.statement ≡ written.Delete t.name (Some e) [] → p.formats ≡ [] → IsTestAbove t e ws w → length ws ≤ 100 → IsDeleteAbove t text ws w

-- the parts of a SELECT of this shape
pub data IsChoice (t : Table) (q : Select) (ks : List ℕ) (ws : List (ℕ × ℕ)) (os : List ℕ) : Type 0 where
  chooses : {core : Core} {src : Source} {ss : List Shown} {test : Option Expr} {by_order : List Sort} → (out-Select q).with ≡ [] → (out-Select q).others ≡ [] → (out-Select q).limit ≡ None → (out-Select q).offset ≡ None → (out-Select q).first ≡ core
      → (out-Core core).from ≡ src ∷ [] → (out-Source src).origin ≡ origin.Table t.name → (out-Source src).alias ≡ None → (out-Source src).using ≡ [] → (out-Source src).on ≡ None → (out-Source src).is_left ≡ false
      → (out-Core core).shown ≡ ss → AreShown t ss ks → length ks ≤ 100 → (out-Core core).filter ≡ test → IsWhere t test ws → length ws ≤ 100
      → (out-Core core).group ≡ [] → (out-Core core).having ≡ None → (out-Core core).distinct ≡ false → (out-Select q).order ≡ by_order → AreSorts t by_order os → length os ≤ 100 → IsChoice t q ks ws os

-- a text of this shape: the columns that it shows, those of its WHERE with their parameters, and those that it sorts by
pub data IsSelect (t : Table) (text : List ℕ) (ks : List ℕ) (ws : List (ℕ × ℕ)) (os : List ℕ) : Type 0 where
  selects : {p : Parsed} {q : Select} → first text ≡ Ok p → p.statement ≡ written.Select q → p.formats ≡ [] → IsChoice t q ks ws os → IsSelect t text ks ws os

-- a text of this shape: the rowids of the table, in their order
pub data IsIds (t : Table) (text : List ℕ) : Type 0 where
  rowids : {p : Parsed} {q : Select} {core : Core} {src : Source} {sh : Shown} {e : Expr} {heading : List ℕ} {so : Sort} → first text ≡ Ok p → p.statement ≡ written.Select q → p.formats ≡ [] → IsFrame t q core src
      → (out-Core core).shown ≡ sh ∷ [] → out-Shown sh ≡ Shown-F.One e None heading → IsRowidOf t e → (out-Core core).filter ≡ None
      → (out-Select q).order ≡ so ∷ [] → (out-Sort so).descending ≡ false → (out-Sort so).nulls_first ≡ None → IsRowidOf t (out-Sort so).key → IsIds t text

-- a text of this shape, and the terms of its one row after the rowid
pub data IsInsert (schema : Schema) (t : Table) (tree : ℕ) (text : List ℕ) (terms : List Term) (width : ℕ) : Type 0 where
  adds : {p : Parsed} {columns : List (List ℕ)} {rows : Rows} → first text ≡ Ok p → p.statement ≡ written.Insert conflict.Abort t.name columns rows [] [] → p.formats ≡ []
      → new_rows schema (record t { tree = tree }) (small p.names + small []) columns rows ≡ Ok (Values terms width) → IsInsert schema t tree text terms width

-- what reading may change: it spends of the budget, and takes no slot, step or aggregate
pub record Follows (s after : State) (cost : ℕ) : Type 0 where
  pub next : after.next ≡ s.next
  pub steps : after.steps ≡ s.steps
  pub aggregates : after.aggregates ≡ s.aggregates
  pub budget : s.budget ≤ after.budget + cost

flat : (b : Bool) → cond b affinity.None affinity.None ≡ affinity.None
flat true = refl
flat false = refl

left_same : (b : Bool) (k : Kind) (x : Term) → converted_by (cond b affinity.None (of_kind k)) affinity.None x ≡ x
left_same true k x = refl
left_same false kind.Integer x = refl
left_same false _ x = refl

right_same : (b : Bool) (k : Kind) (n : ℕ) → converted_by affinity.None (cond b affinity.None (of_kind k)) (col 0 n) ≡ col 0 n
unfolding may_be_text spelled
right_same true k n = refl
right_same false kind.Integer n = refl
right_same false _ n = refl

nonempty : {t : Table} {e : Expr} {ws : List (ℕ × ℕ)} → IsTest t e ws → 1 ≤ length ws
nonempty (one it) = omega arith
nonempty (both {ws = ws} {w = w} out left right) = omega (arith, length-append ws (w ∷ []))

enough : (n : ℕ) → 1 < n → nat_lt 1 n ≡ true
enough n h = lt-ltb 1 n h

-- what the result calls a column
abbrev pub name_at : Table → ℕ → List ℕ
name_at t k = unwrap_or (option_map (λ c. c.name) (slice_get t.columns k)) []

abbrev pub out_at : Table → ℕ → Output
out_at t k = record { name = name_at t k; is_alias = false; is_column = true; term = col 1 (suc k); carried = binary }

no_alias : (t : Table) (name : List ℕ) (from : ℕ) (ks : List ℕ) → position_from (λ (o : Output). o.is_alias && Rattle.sqlite_schema.specs.Names.same_name o.name name) from (map (out_at t) ks) ≡ None
no_alias t name from [] = refl
no_alias t name from (k ∷ ks) = no_alias t name (from + 1) ks

-- what the result calls the rowid
abbrev rowid_out : Output
rowid_out = record { name = rowid_name; is_alias = false; is_column = true; term = col 1 0; carried = nothing }

names_rowid : is_rowid rowid_name ≡ true
unfolding everything
names_rowid = refl

module _ (schema : Schema) (t : Table) (stands : StandsInSchema schema t) (simple : IsSimple t) (plain : ArePlain t.columns) where
  abbrev its : Table
  its = table_in schema t

  abbrev at : ℕ
  at = stands.at

  abbrev cx : List Output → Bool → Context
  cx = seen schema t.name at

  no_key : its.key ≡ None
  no_key = ap (λ (u : Table). u.key) simple

  there : slice_get schema.tables at ≡ Some its
  there = stands.has.stands

  has_column : (k : ℕ) (c : Declared) → slice_get t.columns k ≡ Some c → column_at schema 1 at k ≡ Ok (col 1 (suc k), binary)
  has_column k c e =
      let how = (all-slice_get _ t.columns k c e plain).1 in
      columned_as schema at its there no_key k c e ∙ rw (add-one k, how) refl

  lowers_column : (shows : List Output) (may : Bool) (e : Expr) (k : ℕ) → IsColumn t e k → (d : ℕ) (s : State) → 1 < s.budget → lower_to (suc d) (cx shows may) e s ≡ Ok (col 1 (suc k), column_end s)
  unfolding lower_to passes
  lowers_column shows may e k (named {name = name} {c = c} out is has) d s h =
      node_as (lower_to d) (cx shows may) e s (record (begun s) { last = binary }) (col 1 (suc k)) hands.All (enough s.budget h) (rw out refl)
      (column_as (lower_to d) (cx shows may) e (begun s) name 1 at k (col 1 (suc k)) binary out (seen_as schema t.name at its stands.has.named there shows may name k is) (has_column k c has))

  finds_rowid : (shows : List Output) (may : Bool) → column_named t rowid_name ≡ None → find (cx shows may) None rowid_name ≡ Ok (Rowid 1 at)
  finds_rowid shows may free = rowid_seen schema t.name at its stands.has.named there shows may rowid_name free names_rowid (lt-ltb (tree_of schema t.name) (2 ^ 31) stands.stored)

  lowers_rowid : (shows : List Output) (may : Bool) (e : Expr) → IsRowidOf t e → (d : ℕ) (s : State) → 1 < s.budget → lower_to (suc d) (cx shows may) e s ≡ Ok (col 1 0, rowid_end s)
  unfolding lower_to passes
  lowers_rowid shows may e (unnamed out free) d s h =
      node_as (lower_to d) (cx shows may) e s (begun s) (col 1 0) hands.All (enough s.budget h) (rw out refl) (rowid_as (lower_to d) (cx shows may) e (begun s) rowid_name 1 at out (finds_rowid shows may free))

  sides_same : (shows : List Output) (may : Bool) (how : BinaryOp) (k n : ℕ) (c : Declared) → slice_get t.columns k ≡ Some c → compared (cx shows may) how (col 1 (suc k)) (col 0 n) ≡ op2 how (col 1 (suc k)) (col 0 n)
  unfolding compared affinity_of of_column converted is_parameter
  sides_same shows may how k n c has =
      let strict = (all-slice_get _ t.columns k c has plain).0 in
      rw (there, has, strict, flat (n == 0)) (ap₂ (λ x y. op2 how x y) (left_same _ c.kind (col 1 (suc k))) (right_same _ c.kind n))

  -- what the operator makes of a column and a parameter
  abbrev MakesTerm : Operator → (ℕ → ℕ → Term) → Type 0
  MakesTerm op term = (shows : List Output) (may : Bool) (k n : ℕ) (c : Declared) → slice_get t.columns k ≡ Some c → (s : State) → combine (cx shows may) op Binary (col 1 (suc k)) (col 0 n) s ≡ Ok (term k n, s)

  made : MakesTerm Eq equals
  unfolding combine
  made shows may k n c has s = ap (λ x. Ok (x, s)) (sides_same shows may (by.Compare compare.Eq Binary) k n c has)

  made_above : MakesTerm Gt above
  unfolding combine
  made_above shows may k n c has s = ap (λ x. Ok (x, s)) (sides_same shows may (by.Compare compare.Gt Binary) k n c has)

  lowers_compared : (op : Operator) → is_identity op ≡ false → (term : ℕ → ℕ → Term) → MakesTerm op term
      → (shows : List Output) (may : Bool) (e : Expr) (w : ℕ × ℕ) → IsCompared t op e w → (d : ℕ) (s : State) → 2 ≤ d → 4 ≤ s.budget → lower_to d (cx shows may) e s ≡ Ok (term w.0 w.1, compared_end s)
  lowers_compared op free term makes shows may e w it zero s deep h = absurd (omega arith)
  lowers_compared op free term makes shows may e w it (suc zero) s deep h = absurd (omega arith)
  lowers_compared op free term makes shows may e w (compares {a = a} {b = b} {k = k} {m = m} {n = n} out (named {name = name} {c = c} left is has) right less) (suc (suc d)) s deep h =
      compared_as (cx shows may) at op free d e a b s name k n m (term k n) less (enough s.budget (omega arith)) (enough (s.budget - 1) (omega arith)) (enough (s.budget - 1 - 1) (omega arith)) out left right
      (seen_as schema t.name at its stands.has.named there shows may name k is) (has_column k c has) (makes shows may k n c has)

  -- a test as it is read: its terms, and what it costs
  record Lowered (shows : List Output) (may : Bool) (e : Expr) (terms : List Term) (cost d : ℕ) (s : State) : Type 0 where
    term : Term
    after : State
    is : lower_to d (cx shows may) e s ≡ Ok (term, after)
    parts : conjuncts term ≡ terms
    follows : Follows s after cost

  -- a test AND a comparison
  joined : (shows : List Output) (may : Bool) (e l r : Expr) (terms : List Term) (cost d : ℕ) (s : State) (op : Operator) → is_identity op ≡ false → (term : ℕ → ℕ → Term) → MakesTerm op term → (w : ℕ × ℕ)
      → conjuncts (term w.0 w.1) ≡ term w.0 w.1 ∷ [] → out-Expr e ≡ Expr-F.Binary And l r → IsCompared t op r w → 2 ≤ d → cost + 5 ≤ s.budget → Lowered shows may l terms cost d (begun s)
      → Lowered shows may e (terms ++ term w.0 w.1 ∷ []) (cost + 5) (suc d) s
  unfolding lower_to passes tests_truth tests_alias wanted_truth combine
  joined shows may e l r terms cost d s op free term makes w alone out right deep h x =
      let y = lowers_compared op free term makes shows may r w right d x.after deep (omega (arith, x.follows.budget)) in
      record {
        term = op2 by.And x.term (term w.0 w.1);
        after = ended s hands.Nothing (compared_end x.after);
        is = node_as (lower_to d) (cx shows may) e s (compared_end x.after) (op2 by.And x.term (term w.0 w.1)) hands.Nothing (enough s.budget (omega arith)) (rw out refl)
            (both_as (lower_to d) (cx shows may) e (begun s) x.after (compared_end x.after) (compared_end x.after) And l r x.term (term w.0 w.1) (op2 by.And x.term (term w.0 w.1)) out refl refl refl x.is y refl);
        parts = ap₂ ◌++◌ x.parts alone;
        follows = record { next = x.follows.next; steps = x.follows.steps; aggregates = x.follows.aggregates; budget = omega (arith, x.follows.budget) };
      }

  lowers : (shows : List Output) (may : Bool) (e : Expr) (ws : List (ℕ × ℕ)) → IsTest t e ws → (d : ℕ) (s : State) → length ws < d → 5 * length ws ≤ s.budget → Lowered shows may e (wanted ws) (5 * length ws) d s
  lowers shows may e ws (one {w = w} it) d s deep h =
      record { term = equals w.0 w.1; after = compared_end s; is = lowers_compared Eq refl equals made shows may e w it d s (omega arith) (omega arith); parts = refl; follows = record { next = refl; steps = refl; aggregates = refl; budget = omega arith } }
  lowers shows may e ws (both out left right) zero s deep h = absurd (omega arith)
  lowers shows may e vs (both {l = l} {r = r} {ws = ws} {w = w} out left right) (suc d) s deep h =
      let size : length (ws ++ w ∷ []) ≡ length ws + 1 = length-append ws (w ∷ []) in
      let some = nonempty left in
      let it = joined shows may e l r (wanted ws) (5 * length ws) d s Eq refl equals made w refl out right (omega arith) (omega arith) (lowers shows may l ws left d (begun s) (omega arith) (omega arith)) in
      record {
        term = it.term;
        after = it.after;
        is = it.is;
        parts = it.parts ∙ sym (map-append _ ws (w ∷ []));
        follows = record { next = it.follows.next; steps = it.follows.steps; aggregates = it.follows.aggregates; budget = omega (arith, it.follows.budget) };
      }

  record Tested (shows : List Output) (may : Bool) (test : Option Expr) (terms : List Term) (cost : ℕ) (s : State) : Type 0 where
    after : State
    is : tests lower (cx shows may) [] test s ≡ Ok (terms, after)
    follows : Follows s after cost

  tests_of : (shows : List Output) (may : Bool) (e : Expr) (terms : List Term) (cost : ℕ) (s : State) → Lowered shows may e terms cost 700 s → Tested shows may (Some e) terms cost s
  tests_of shows may e terms cost s x = record { after = x.after; is = tests_as lower (cx shows may) e s x.after [] x.term x.is ∙ ap (λ l. Ok (l, x.after)) x.parts; follows = x.follows }

  tested : (shows : List Output) (may : Bool) (test : Option Expr) (ws : List (ℕ × ℕ)) → IsWhere t test ws → length ws ≤ 100 → (s : State) → 1000 ≤ s.budget → Tested shows may test (wanted ws) (5 * length ws) s
  unfolding tests
  tested shows may test ws all few s h = record { after = s; is = refl; follows = record { next = refl; steps = refl; aggregates = refl; budget = omega arith } }
  tested shows may test ws (only {e = e} it) few s h = tests_of shows may e (wanted ws) (5 * length ws) s (lowers shows may e ws it 700 s (omega arith) (omega arith))

  tested_above : (shows : List Output) (may : Bool) (e : Expr) (ws : List (ℕ × ℕ)) (w : ℕ × ℕ) → IsTestAbove t e ws w → length ws ≤ 100 → (s : State) → 1000 ≤ s.budget → Tested shows may (Some e) (wanted_above ws w) (5 * length ws + 5) s
  tested_above shows may e ws w (ends {l = l} {r = r} out left right) few s h =
      tests_of shows may e (wanted_above ws w) (5 * length ws + 5) s
      (joined shows may e l r (wanted ws) (5 * length ws) 699 s Gt refl above made_above w refl out right (omega arith) (omega arith) (lowers shows may l ws left 699 (begun s) (omega arith) (omega arith)))

  -- ---- SELECT's columns

  name_is : (k : ℕ) (c : Declared) → slice_get t.columns k ≡ Some c → c.name ≡ name_at t k
  name_is k c e = rw e refl

  record Listed (done : List Output) (ss : List Shown) (ks : List ℕ) (s : State) : Type 0 where
    after : State
    is : outputs_from lower (cx [] true) (bound_at t.name at ∷ []) done ss s ≡ Ok (done ++ map (out_at t) ks, after)
    follows : Follows s after (length ks)

  listed : (done : List Output) (ss : List Shown) (ks : List ℕ) → AreShown t ss ks → (s : State) → 2 * length ks ≤ s.budget → Listed done ss ks s
  unfolding is_column
  listed done ss ks none s h = record { after = s; is = ap (λ l. Ok (l, s)) (sym (append-nil done)); follows = record { next = refl; steps = refl; aggregates = refl; budget = omega arith } }
  listed done ss' ks' (next {s = sh} {e = e} {text = text} {k = k} {ss = ss} {ks = ks} out (named {name = name} {c = c} names is has) more) s h =
      let low = lowers_column [] true e k (named names is has) 699 s (omega arith) in
      let head = heading_as schema t.name at its stands.has.named there [] true e text name k c names (seen_as schema t.name at its stands.has.named there [] true name k is) has ∙ name_is k c has in
      let one = shown_as (cx [] true) (bound_at t.name at ∷ []) done sh e text (name_at t k) s (column_end s) (col 1 (suc k)) out low head (rw names refl) in
      let rest = listed (done ++ out_at t k ∷ []) ss ks more (column_end s) (omega arith) in
      record {
        after = rest.after;
        is = rw one (rest.is ∙ ap (λ l. Ok (l, rest.after)) (append_assoc done (out_at t k ∷ []) (map (out_at t) ks)));
        follows = record { next = rest.follows.next; steps = rest.follows.steps; aggregates = rest.follows.aggregates; budget = omega (arith, rest.follows.budget) };
      }

  -- ---- ORDER BY

  record Sorted (shows : List Output) (done : List (Term × Key)) (ss : List Sort) (ks : List ℕ) (s : State) : Type 0 where
    after : State
    is : sorts_from lower (cx shows false) shows done ss s ≡ Ok (done ++ map rising ks, after)
    follows : Follows s after (length ks)

  sorted : (outs : List ℕ) (done : List (Term × Key)) (ss : List Sort) (ks : List ℕ) → AreSorts t ss ks → (s : State) → 2 * length ks ≤ s.budget → Sorted (map (out_at t) outs) done ss ks s
  unfolding peeled alias_in written_on is_numeral alone
  sorted outs done ss ks none s h = record { after = s; is = ap (λ l. Ok (l, s)) (sym (append-nil done)); follows = record { next = refl; steps = refl; aggregates = refl; budget = omega arith } }
  sorted outs done ss' ks' (next {s = so} {e = e} {k = k} {ss = ss} {ks = ks} key down nulls (named {name = name} {c = c} names is has) more) s h =
      let shows = map (out_at t) outs in
      let low = lowers_column shows false e k (named names is has) 699 s (omega arith) in
      let one = sort_as (cx shows false) shows done so e s (column_end s) (suc k) key down nulls (rw names refl) (rw names (no_alias t name 0 outs)) (rw names refl) low (rw names refl) in
      let rest = sorted outs (done ++ rising k ∷ []) ss ks more (column_end s) (omega arith) in
      record {
        after = rest.after;
        is = rw one (rest.is ∙ ap (λ l. Ok (l, rest.after)) (append_assoc done (rising k ∷ []) (map rising ks)));
        follows = record { next = rest.follows.next; steps = rest.follows.steps; aggregates = rest.follows.aggregates; budget = omega (arith, rest.follows.budget) };
      }

  -- ---- types

  abbrev Within : ℕ → Type 0
  Within k = (c : Declared) × (slice_get t.columns k ≡ Some c)

  abbrev slots : Slots
  slots = row_classes its ∷ []

  class_at : (cs : List Declared) (k : ℕ) (c : Declared) → slice_get cs k ≡ Some c → slice_get (map class_in cs) k ≡ Some (class_in c)
  class_at [] k c e = absurd (cc)
  class_at (d ∷ ds) zero c e = let same : d ≡ c = cc in ap (λ x. Some (class_in x)) same
  class_at (d ∷ ds) (suc k) c e = class_at ds k c e

  strict_class : (c : Declared) → c.is_strict ≡ true → class_in c ≡ Rattle.sqlite_typing.specs.Types.column_class c.kind
  strict_class c e = rw e refl

  column_typed : (params : Row) (k : ℕ) → Within k → is_some (term_class params slots (col 1 (suc k))) ≡ true
  column_typed params k h = rw (class_at t.columns k h.0 h.1) refl

  is_comparable : (k : Kind) → is_some (Rattle.sqlite_typing.specs.Types.compared (Rattle.sqlite_typing.specs.Types.column_class k) Rattle.sqlite_typing.specs.Types.no_class) ≡ true
  is_comparable kind.Integer = refl
  is_comparable kind.Real = refl
  is_comparable kind.Text = refl
  is_comparable kind.Blob = refl
  is_comparable kind.Any = refl

  test_typed : (w : ℕ × ℕ) → Within w.0 → (op : CompareOp) → is_some (term_class [] slots (op2 (by.Compare op Binary) (col 1 (suc w.0)) (col 0 w.1))) ≡ true
  test_typed w h op =
      let strict = (all-slice_get _ t.columns w.0 h.0 h.1 plain).0 in
      rw (class_at t.columns w.0 h.0 h.1, strict_class h.0 strict) (is_comparable h.0.kind)

  all_tests : (ws : List (ℕ × ℕ)) → AllByRecursion (λ w. Within w.0) ws → are_tests [] slots (wanted ws) ≡ true
  all_tests [] h = refl
  all_tests (w ∷ ws) h = rw (test_typed w h.0 compare.Eq) (all_tests ws h.1)

  all_above : (ws : List (ℕ × ℕ)) (w : ℕ × ℕ) → AllByRecursion (λ w. Within w.0) ws → Within w.0 → are_tests [] slots (wanted_above ws w) ≡ true
  all_above [] w h last = rw (test_typed w last compare.Gt) refl
  all_above (v ∷ ws) w h last = rw (test_typed v h.0 compare.Eq) (all_above ws w h.1 last)

  all_shown : (params : Row) (ks : List ℕ) → AllByRecursion Within ks → are_typed params slots (columns_at ks) ≡ true
  all_shown params [] h = refl
  all_shown params (k ∷ ks) h = rw (column_typed params k h.0) (all_shown params ks h.1)

  all_sorts : (params : Row) (ks : List ℕ) → AllByRecursion Within ks → are_typed params slots (map (λ (x : Term × Key). x.0) (map rising ks)) ≡ true
  all_sorts params [] h = refl
  all_sorts params (k ∷ ks) h = rw (column_typed params k h.0) (all_sorts params ks h.1)

  -- each parameter of a test is of its column's kind
  bound_typed : (params : Row) (w : ℕ × ℕ) → Within w.0 → suits_at t.columns params w ≡ true → is_some (term_class params slots (equals w.0 w.1)) ≡ true
  bound_typed params w h fits =
      let strict = (all-slice_get _ t.columns w.0 h.0 h.1 plain).0 in
      rw (class_at t.columns w.0 h.0 h.1, strict_class h.0 strict) (suited h.0.kind (column params w.1) (rw h.1 at fits))

  all_bound : (params : Row) (ws : List (ℕ × ℕ)) → AllByRecursion (λ w. Within w.0) ws → all_suit t params ws ≡ true → are_tests params slots (wanted ws) ≡ true
  all_bound params [] h fits = refl
  all_bound params (w ∷ ws) h fits =
      let both = and_parts _ _ fits in
      rw (bound_typed params w h.0 both.0) (all_bound params ws h.1 both.1)

  tests_within : (e : Expr) (ws : List (ℕ × ℕ)) → IsTest t e ws → AllByRecursion (λ w. Within w.0) ws
  tests_within e ws (one (compares out (named names is has) right less)) = ((_, has), tt)
  tests_within e vs (both {l = l} {ws = ws} out left (compares o (named names is has) right less)) = all-append (λ w. Within w.0) ws _ (tests_within l ws left) ((_, has), tt)

  where_within : (test : Option Expr) (ws : List (ℕ × ℕ)) → IsWhere t test ws → AllByRecursion (λ w. Within w.0) ws
  where_within test ws all = tt
  where_within test ws (only {e = e} it) = tests_within e ws it

  shown_within : (ss : List Shown) (ks : List ℕ) → AreShown t ss ks → AllByRecursion Within ks
  shown_within ss ks none = tt
  shown_within ss' ks' (next {ss = ss} {ks = ks} out (named names is has) more) = ((_, has), shown_within ss ks more)

  sorts_within : (ss : List Sort) (ks : List ℕ) → AreSorts t ss ks → AllByRecursion Within ks
  sorts_within ss ks none = tt
  sorts_within ss' ks' (next {ss = ss} {ks = ks} key down nulls (named names is has) more) = ((_, has), sorts_within ss ks more)

  small' : nat_le (2 ^ 31) (tree_of schema t.name) ≡ false
  small' = lt-leb (2 ^ 31) (tree_of schema t.name) stands.stored

  accepts : (d : Draft) (terms shown : List Term) (order : List (Term × Key)) → d ≡ record (drafted (Inner (tree_of schema t.name) ∷ []) terms shown) { order = order }
      → are_tests [] slots terms ≡ true → are_typed [] slots shown ≡ true → are_typed [] slots (map (λ (x : Term × Key). x.0) order) ≡ true
      → program schema [] d ≡ Ok (record { lets = []; body = from_table (tree_of schema t.name) terms shown order })
  unfolding program
  accepts d terms shown order is a b c = rw is (rw (small', stands.has.found, a, b, c) refl)

  columns_same : (ks : List ℕ) → map (λ (o : Output). o.term) (map (out_at t) ks) ≡ columns_at ks
  columns_same [] = refl
  columns_same (k ∷ ks) = ap (λ l. col 1 (suc k) ∷ l) (columns_same ks)

  names_same : (ks : List ℕ) → map (λ (o : Output). o.name) (map (out_at t) ks) ≡ map (name_at t) ks
  names_same [] = refl
  names_same (k ∷ ks) = ap (λ l. name_at t k ∷ l) (names_same ks)

  -- ---- DELETE FROM t WHERE ..

  deletes_as : (text : List ℕ) (p : Parsed) (test : Option Expr) (terms : List Term) (cost : ℕ) → first text ≡ Ok p → p.statement ≡ written.Delete t.name test [] → p.formats ≡ [] → Tested [] false test terms cost (fresh 2 max_budget) → are_tests [] slots terms ≡ true
      → Means schema text (command.Delete at (record { lets = []; body = from_table (tree_of schema t.name) terms (col 1 0 ∷ []) [] }))
  deletes_as text p test terms cost parse is formats x typed_tests =
      let gone = deleted_as schema at its there no_key test x.after terms x.is in
      let none : deleted schema at its test ≡ Ok (drafted (Inner its.tree ∷ []) terms (col 1 0 ∷ [])) = gone ∙ ap (λ steps. Ok (drafted (Inner its.tree ∷ steps) terms (col 1 0 ∷ []))) x.follows.steps in
      let typed = accepts _ terms (col 1 0 ∷ []) [] refl typed_tests refl refl in
      let means = delete_means schema p t.name test is formats at its _ _ stands.has.named there none typed text parse in
      record { is = ap compiled_command means; plain = subst IsPlain (sym means) (refl, refl) }

  pub delete_is : (text : List ℕ) (ws : List (ℕ × ℕ)) → IsDelete t text ws → Means schema text (command.Delete at (record { lets = []; body = from_table (tree_of schema t.name) (wanted ws) (col 1 0 ∷ []) [] }))
  delete_is text ws (deletes {p = p} {test = test} parse is formats filter few) =
      deletes_as text p test (wanted ws) _ parse is formats (tested [] false test ws filter few (fresh 2 max_budget) (lit≤ tt)) (all_tests ws (where_within test ws filter))

  pub delete_above_is : (text : List ℕ) (ws : List (ℕ × ℕ)) (w : ℕ × ℕ) → IsDeleteAbove t text ws w → Means schema text (command.Delete at (record { lets = []; body = from_table (tree_of schema t.name) (wanted_above ws w) (col 1 0 ∷ []) [] }))
  delete_above_is text ws w (deletes {p = p} {e = e} parse is formats filter few) =
      deletes_as text p (Some e) (wanted_above ws w) _ parse is formats (tested_above [] false e ws w filter few (fresh 2 max_budget) (lit≤ tt)) (typed filter)
    where
      typed : IsTestAbove t e ws w → are_tests [] slots (wanted_above ws w) ≡ true
      typed (ends {l = l} out left (compares o (named names is has) right less)) = all_above ws w (tests_within l ws left) (_, has)

  -- ---- SELECT .. FROM t

  abbrev begins : State
  begins = record (fresh 1 max_budget) { next = 2 }

  -- what a SELECT of this frame means, from what its parts are read as
  frame_is : (text : List ℕ) (p : Parsed) (q : Select) (core : Core) (src : Source) → first text ≡ Ok p → p.statement ≡ written.Select q → p.formats ≡ [] → IsFrame t q core src
      → (columns : List Output) (ws : List (ℕ × ℕ)) (order : List (Term × Key)) (s2 s3 s4 : State)
      → outputs lower (cx [] true) (bound_at t.name at ∷ []) (out-Core core).shown begins ≡ Ok (columns, s2) → tests lower (cx columns false) [] (out-Core core).filter s2 ≡ Ok (wanted ws, s3)
      → sorts lower (cx columns false) columns (out-Select q).order s3 ≡ Ok (order, s4) → s3.aggregates ≡ [] → s4.steps ≡ []
      → (shown : List Term) (names : List (List ℕ)) → map (λ (o : Output). o.term) columns ≡ shown → map (λ (o : Output). o.name) columns ≡ names
      → are_tests [] slots (wanted ws) ≡ true → are_typed [] slots shown ≡ true → are_typed [] slots (map (λ (x : Term × Key). x.0) order) ≡ true
      → Chooses schema text (command.Select (record { lets = []; body = from_table (tree_of schema t.name) (wanted ws) shown order }) names)
  unfolding ungrouped
  frame_is text p q core src parse is formats frame columns ws order s2 s3 s4 x y z bare idle shown names shown_is names_are typed_tests typed_shown typed_order =
      let whole = body_as schema core (fresh 1 max_budget) begins s2 s2 s3 (bound_at t.name at ∷ []) columns (record { steps = Inner its.tree ∷ []; filter = [] }) (wanted ws)
      (rw frame.from (bounds_as schema t.name at its stands.has.named there src (fresh 1 max_budget) frame.origin_is frame.alias frame.using refl)) x
      (rw frame.from (joins_as schema t.name at its stands.has.named there columns false src s2 frame.on frame.using frame.left)) y in
      let aggregates : (length s3.aggregates == 0) ≡ true = rw bare refl in
      let page : Term × Term = (lit (Int (negsuc 0)), lit (Int (pos 0))) in
      let draft : Draft = ungrouped ((Inner its.tree ∷ []) ++ s4.steps) (wanted ws) columns false order (lit (Int (negsuc 0))) (lit (Int (pos 0))) in
      let one : named_to schema core (out-Select q).order page ≡ Ok (draft, map (λ (o : Output). o.name) columns, map (λ (o : Output). o.carried.collation) columns) =
      named_as schema core (out-Select q).order page _ s3 s4 order whole frame.group frame.having frame.distinct aggregates z in
      let is_drafted : draft ≡ record (drafted (Inner (tree_of schema t.name) ∷ []) (wanted ws) shown) { order = order } = rw (idle, shown_is) refl in
      let typed = accepts draft (wanted ws) shown order is_drafted typed_tests typed_shown typed_order in
      let read : resolve_read schema q ≡ Ok (command.Select (record { lets = []; body = from_table (tree_of schema t.name) (wanted ws) shown order }) names) =
      read_as schema q core src t.name draft _ _ _ frame.bare frame.others frame.limit frame.offset frame.first_is frame.from frame.origin_is one typed
      ∙ ap (λ l. Ok (command.Select (record { lets = []; body = from_table (tree_of schema t.name) (wanted ws) shown order }) l)) names_are in
      let both = select_means schema p q _ text parse is formats read in
      record {
        means = record { is = ap compiled_command both.0; plain = subst IsPlain (sym both.0) (refl, refl) };
        listing = both.1;
        parsed = p;
        read = parse;
        tail = ap tail_of both.0;
        given = ap parameters_of both.0;
      }

  -- ---- SELECT .. FROM t WHERE .. ORDER BY ..

  pub select_is : (text : List ℕ) (ks : List ℕ) (ws : List (ℕ × ℕ)) (os : List ℕ) → IsSelect t text ks ws os
      → Chooses schema text (command.Select (record { lets = []; body = from_table (tree_of schema t.name) (wanted ws) (columns_at ks) (map rising os) }) (map (name_at t) ks))
  unfolding outputs sorts
  select_is text ks ws os (selects {p = p} {q = q} parse is formats (chooses {core = core} {src = src} {ss = ss} {test = test} {by_order = by_order} bare others limit offset first_is from origin_is alias using on left shows_are shows few_shown filter_is filter few group having distinct order_is sort few_sorts)) =
      let frame : IsFrame t q core src = record { bare = bare; others = others; limit = limit; offset = offset; first_is = first_is; from = from; origin_is = origin_is; alias = alias; using = using; on = on; left = left; group = group; having = having; distinct = distinct } in
      let x = listed [] ss ks shows begins (omega arith) in
      let y = tested (map (out_at t) ks) false test ws filter few x.after (omega (arith, x.follows.budget)) in
      let z = sorted ks [] by_order os sort y.after (omega (arith, x.follows.budget, y.follows.budget)) in
      frame_is text p q core src parse is formats frame (map (out_at t) ks) ws (map rising os) x.after y.after z.after (rw shows_are x.is) (rw filter_is y.is) (rw order_is z.is)
      (y.follows.aggregates ∙ x.follows.aggregates) (z.follows.steps ∙ y.follows.steps ∙ x.follows.steps) (columns_at ks) (map (name_at t) ks) (columns_same ks) (names_same ks)
      (all_tests ws (where_within test ws filter)) (all_shown [] ks (shown_within ss ks shows)) (all_sorts [] os (sorts_within by_order os sort))

  -- parameters of the columns' kinds are accepted
  pub select_accepts : (text : List ℕ) (ks : List ℕ) (ws : List (ℕ × ℕ)) (os : List ℕ) → IsSelect t text ks ws os → (params : Row) → all_suit t params ws ≡ true
      → accepts_program schema [] (from_table (tree_of schema t.name) (wanted ws) (columns_at ks) (map rising os)) params ≡ true
  select_accepts text ks ws os (selects {p = p} {q = q} parse is formats (chooses {core = core} {src = src} {ss = ss} {test = test} {by_order = by_order} bare others limit offset first_is from origin_is alias using on left shows_are shows few_shown filter_is filter few group having distinct order_is sort few_sorts)) params suits =
      rw (small', stands.has.found, all_bound params ws (where_within test ws filter) suits, all_shown params ks (shown_within ss ks shows), all_sorts params os (sorts_within by_order os sort)) refl

  -- ---- SELECT rowid FROM t ORDER BY rowid

  pub ids_is : (text : List ℕ) → IsIds t text → Chooses schema text (command.Select (record { lets = []; body = from_table (tree_of schema t.name) [] (col 1 0 ∷ []) (by_rowid ∷ []) }) (rowid_name ∷ []))
  unfolding outputs sorts tests is_column peeled alias_in written_on is_numeral alone
  ids_is text (rowids {p = p} {q = q} {core = core} {src = src} {sh = sh} {e = e} {heading = heading} {so = so} parse is formats frame shown_is show (unnamed named_e free) filter order_is down nulls (unnamed named_so other)) =
      let columns : List Output = rowid_out ∷ [] in
      let head = rowid_heading schema t.name at its stands.has.named there [] true e heading rowid_name named_e (finds_rowid [] true free) no_key in
      let x = shown_as (cx [] true) (bound_at t.name at ∷ []) [] sh e heading rowid_name begins (rowid_end begins) (col 1 0) show (lowers_rowid [] true e (unnamed named_e free) 699 begins (omega arith)) head (rw named_e refl) in
      let z = sort_as (cx columns false) columns [] so (out-Sort so).key (rowid_end begins) (rowid_end (rowid_end begins)) 0 refl down nulls (rw named_so refl) (rw named_so refl) (rw named_so refl)
      (lowers_rowid columns false (out-Sort so).key (unnamed named_so other) 699 (rowid_end begins) (omega arith)) (rw named_so refl) in
      frame_is text p q core src parse is formats frame columns [] (by_rowid ∷ []) (rowid_end begins) (rowid_end begins) (rowid_end (rowid_end begins)) (rw shown_is (rw x refl)) (rw filter refl) (rw order_is (rw z refl))
      refl refl (col 1 0 ∷ []) (rowid_name ∷ []) refl refl refl refl refl

  pub ids_accepts : accepts_program schema [] (from_table (tree_of schema t.name) [] (col 1 0 ∷ []) (by_rowid ∷ [])) [] ≡ true
  ids_accepts = rw (small', stands.has.found) refl

  -- ---- INSERT INTO t VALUES (..)

  pub insert_is : (text : List ℕ) (terms : List Term) (width : ℕ) → IsInsert schema t (tree_of schema t.name) text terms width → Means schema text (command.Insert at (Values terms width))
  insert_is text terms width (adds {p = p} {columns = columns} {rows = rows} parse is formats source) =
      let unstamped : its.stamps.formats ≡ [] = ap (λ (u : Table). u.stamps.formats) simple in
      let means = insert_means schema p t.name columns rows formats at its stands.has.named there unstamped is text (Values terms width) parse source in
      record { is = ap compiled_command means; plain = subst IsPlain (sym means) (refl, refl) }
