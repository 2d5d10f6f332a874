-- How the resolver reads expressions, step by step, with what it finds of the schema as given.
use Rattle.std.proofs.Common.{◌≡◌, ℕ, suc, ◌+◌, ◌-◌, List, [], ◌∷◌, ◌++◌, nat_lt, true, false, Option, None, Some, Ok, refl}
use Rattle.sqlite_ast.specs.declared.Expr.{Expr, out-Expr}
use Rattle.sqlite_ast.specs.declared.Expr.TheOpen.{Expr-F}
use Rattle.sqlite_ast.specs.declared.Binary.{Binary as Operator}
use Rattle.sqlite_sql.specs.Term.{Term, col}
use Rattle.sqlite_resolve.specs.declared.state.State.{State}
use Rattle.sqlite_resolve.specs.declared.state.Carried.{Carried}
use Rattle.sqlite_resolve.specs.declared.state.Passes.{Passes}
use Rattle.sqlite_resolve.specs.declared.scope.Found.TheVariants.{Column, Rowid}
use Rattle.sqlite_resolve.specs.Lowering.{Lowering, nothing, chosen, finish, begin, spend, passed, written_or, either}
use Rattle.sqlite_resolve.specs.Scope.{Context, find, column_at, column, term_of}
use Rattle.sqlite_resolve.specs.Body.{tests}
use Rattle.sqlite_resolve.specs.Terms.{conjuncts}
use Rattle.sqlite_resolve.specs.Expr.{opened, node, passes, both, operation, combine, is_identity, tests_truth, tests_alias, wanted_truth, lower_to}
use Rattle.sqlite_resolve.specs.Lowering.{fresh, max_budget}
use Rattle.sqlite_resolve.specs.Scope.{in_level, only, hit, column_in, is_among}
use Rattle.sqlite_resolve.specs.Expr.{lower}
use Rattle.sqlite_resolve.specs.Write.{over, deleted, picked, simple}
use Rattle.sqlite_draft.specs.declared.join.Step.TheVariants.{Inner}
use Rattle.std.proofs.Common.{slice_get}
use Rattle.sqlite_value.specs.declared.keys.Collation.TheVariants.{Binary}
use Rattle.sqlite_schema.specs.declared.schema.Column.{Column as Column'}
use Rattle.sqlite_schema.specs.declared.schema.Table.{Table}
use Rattle.sqlite_schema.specs.declared.schema.Schema.{Schema}
use Rattle.sqlite_schema.specs.Names.{column_named}
use Rattle.std.proofs.Common.{subst}
use Rattle.sqlite_resolve.specs.declared.state.Passes.TheVariants as hands
use Rattle.sqlite_resolve.specs.declared.state.Passes.TheVariants.{All}
use Rattle.sqlite_resolve.specs.Lowering.{alone, first_found}

abbrev pub begun : State → State
begun s = record s { budget = s.budget - 1; written = None; last = nothing }

abbrev pub ended : State → Passes → State → State
ended s p t = record t { written = either s.written t.written; last = written_or t.written (passed p t.last) }

module _ (lower : Context → Expr → Lowering Term) (cx : Context) (e : Expr) where
  pub node_as : (s s' : State) (t : Term) (p : Passes) → nat_lt 1 s.budget ≡ true → passes e ≡ p → opened lower cx e (begun s) ≡ Ok (t, s') → node lower cx e s ≡ Ok (t, ended s p s')
  unfolding node spend begin finish
  node_as s s' t p enough is h = rw (enough, h, is) refl

  pub column_as : (s : State) (name : List ℕ) (slot at k : ℕ) (t : Term) (c : Carried) → out-Expr e ≡ Expr-F.Column None name → find cx None name ≡ Ok (Column slot at k) → column_at cx.schema slot at k ≡ Ok (t, c)
      → opened lower cx e s ≡ Ok (t, record s { last = c })
  unfolding opened column term_of
  column_as s name slot at k t c out found has = rw (out, found, has) refl

  pub rowid_as : (s : State) (name : List ℕ) (slot at : ℕ) → out-Expr e ≡ Expr-F.Column None name → find cx None name ≡ Ok (Rowid slot at) → opened lower cx e s ≡ Ok (col slot 0, record s { last = nothing })
  unfolding opened column term_of
  rowid_as s name slot at out found = rw (out, found) refl

  pub parameter_as : (s : State) (n : ℕ) → out-Expr e ≡ Expr-F.Parameter n → opened lower cx e s ≡ Ok (col 0 (n - 1), s)
  unfolding opened
  parameter_as s n out = rw out refl

  pub both_as : (s s1 s2 s3 : State) (op : Operator) (a b : Expr) (x y t : Term) → out-Expr e ≡ Expr-F.Binary op a b → wanted_truth cx op b ≡ None → tests_truth op b ≡ false → tests_alias cx op b ≡ false
      → lower cx a s ≡ Ok (x, s1) → lower cx b s1 ≡ Ok (y, s2) → combine cx op (chosen s1.last s2.last) x y s2 ≡ Ok (t, s3) → opened lower cx e s ≡ Ok (t, s3)
  unfolding opened operation both
  both_as s s1 s2 s3 op a b x y t out wanted truth alias left right made = rw (out, wanted, truth, alias, left, right) made

  pub tests_as : (s s1 : State) (done : List Term) (t : Term) → lower cx e s ≡ Ok (t, s1) → tests lower cx done (Some e) s ≡ Ok (done ++ conjuncts t, s1)
  unfolding tests
  tests_as s s1 done t h = rw h refl

-- ---- what is found of the schema

module _ (schema : Schema) (at : ℕ) (table : Table) (stands : slice_get schema.tables at ≡ Some table) (plain : table.key ≡ None) where
  pub found_as : (name : List ℕ) (k : ℕ) → column_named table name ≡ Some k → find (over schema at table.name) None name ≡ Ok (Column 1 at k)
  unfolding find in_level only hit column_in is_among
  found_as name k named = rw (stands, named) refl

  pub columned_as : (k : ℕ) (c : Column') → slice_get table.columns k ≡ Some c → column_at schema 1 at k ≡ Ok (col 1 (k + 1), record { collation = Some c.collation; is_written = false })
  unfolding column_at
  columned_as k c has = rw (stands, has, plain) refl

  pub deleted_as : (test : Option Expr) (s1 : State) (terms : List Term) → tests lower (over schema at table.name) [] test (fresh 2 max_budget) ≡ Ok (terms, s1)
      → deleted schema at table test ≡ Ok (simple (Inner table.tree ∷ s1.steps) terms (col 1 0 ∷ []))
  unfolding deleted picked
  deleted_as test s1 terms h = rw h refl

abbrev pub binary : Carried
binary = record { collation = Some Binary; is_written = false }

abbrev pub column_end : State → State
column_end s = ended s All (record (begun s) { last = binary })

abbrev pub rowid_end : State → State
rowid_end s = ended s All (begun s)

abbrev pub parameter_end : State → State
parameter_end s = ended s hands.Nothing (begun s)

abbrev pub compared_end : State → State
compared_end s = ended s hands.Nothing (parameter_end (column_end (begun s)))

module _ (cx : Context) (at : ℕ) (op : Operator) (plain : is_identity op ≡ false) where
  -- `column op ?n`, of an operator that is no IS
  pub compared_as : (d : ℕ) (e a b : Expr) (s : State) (name : List ℕ) (k n m : ℕ) (t : Term) → m - 1 ≡ n → nat_lt 1 s.budget ≡ true → nat_lt 1 (s.budget - 1) ≡ true → nat_lt 1 (s.budget - 1 - 1) ≡ true
      → out-Expr e ≡ Expr-F.Binary op a b → out-Expr a ≡ Expr-F.Column None name → out-Expr b ≡ Expr-F.Parameter m
      → find cx None name ≡ Ok (Column 1 at k) → column_at cx.schema 1 at k ≡ Ok (col 1 (suc k), binary)
      → ((s : State) → combine cx op Binary (col 1 (suc k)) (col 0 n) s ≡ Ok (t, s))
      → lower_to (suc (suc d)) cx e s ≡ Ok (t, compared_end s)
  unfolding lower_to passes tests_truth tests_alias wanted_truth chosen alone first_found
  compared_as d e a b s name k n m t less one two three out left right found has made =
      let x : lower_to (suc d) cx a (begun s) ≡ Ok (col 1 (suc k), column_end (begun s)) =
      node_as (lower_to d) cx a (begun s) (record (begun (begun s)) { last = binary }) (col 1 (suc k)) All two (rw left refl) (column_as (lower_to d) cx a (begun (begun s)) name 1 at k (col 1 (suc k)) binary left found has) in
      let y : lower_to (suc d) cx b (column_end (begun s)) ≡ Ok (col 0 n, parameter_end (column_end (begun s))) =
      node_as (lower_to d) cx b (column_end (begun s)) (begun (column_end (begun s))) (col 0 n) hands.Nothing three (rw right refl) (subst (λ (j : ℕ). Rattle.sqlite_resolve.specs.Expr.opened (lower_to d) cx b (begun (column_end (begun s))) ≡ Ok (col 0 j, begun (column_end (begun s)))) less (parameter_as (lower_to d) cx b (begun (column_end (begun s))) m right)) in
      node_as (lower_to (suc d)) cx e s (parameter_end (column_end (begun s))) t hands.Nothing one (rw out refl)
      (both_as (lower_to (suc d)) cx e (begun s) (column_end (begun s)) (parameter_end (column_end (begun s))) (parameter_end (column_end (begun s))) op a b (col 1 (suc k)) (col 0 n) t out (rw plain refl) (rw plain refl) (rw plain refl) x y (made _))
