-- A query leaves what is seen as it was, whatever tables there are.
use Rattle.std.proofs.Common.{◌≡◌, ◌⊎◌, inl, inr, ℕ, ◌+◌, Bool, true, false, IsTrue, List, [], codes, Option, None, Result, Ok, Err, refl, sym, ap, subst, ◌∙◌}
use Rattle.std.proofs.lemmas.Bool.{cases_Bool}
use Rattle.sqlite_ast.specs.declared.Statement.{Statement}
use Rattle.sqlite_ast.specs.declared.Statement.TheVariants as written
use Rattle.sqlite_syntax.specs.declared.statement.Parsed.{Parsed}
use Rattle.sqlite_value.specs.Order.{Row}
use Rattle.sqlite_schema.specs.declared.schema.Schema.{Schema}
use Rattle.sqlite_schema.specs.declared.command.Command.{Command}
use Rattle.sqlite_schema.specs.declared.command.Returning.{Returning}
use Rattle.sqlite_resolve.specs.Lowering.{Checked, and_then}
use Rattle.sqlite_resolve.specs.Compile.{compiled, command, first, meaning, planned, returning, small, timed as timed_in, with_command}
use Rattle.sqlite_resolve.specs.declared.compiled.Compiled.{Compiled}
use Rattle.sqlite_resolve.specs.declared.error.CompileError.{CompileError}
use Rattle.sqlite_tied.specs.Compute.{everything}
use Rattle.sqlite.specs.Listing.{if_select, is_select, listing_schema, reads_listing, understood}
use Rattle.sqlite.specs.State.{State, FailsToQuery, FailsToShow, IsNotRun, IsRolledBack, IsUnchanged, QueriesRow, Shown, ShowsRows}
use Rattle.sqlite.specs.declared.error.Error.{Error}

-- ---- a text that is a SELECT

abbrev asks_by : Statement → Bool
asks_by (written.Select s) = true
asks_by _ = false

abbrev asks : Checked Parsed → Bool
asks (Ok p) = asks_by p.statement
asks (Err e) = false

none_returned : (schema : Schema) (base : ℕ) (s : Statement) → asks_by s ≡ true → returning schema base s ≡ Ok None
unfolding returning
none_returned schema base (written.Select s) is = refl
none_returned schema base _ is = absurd (cc)

abbrev Plan : Type 0
Plan = List (List ℕ) × (Command × Option Returning)

with_none : (formats : List (List ℕ)) (k : Checked Command) (plan : Plan) → and_then (and_then k (λ c. Ok (c, None))) (λ found. Ok (formats, found)) ≡ Ok plan → plan.1.1 ≡ None
with_none formats (Ok k) plan is = let same : (formats, (k, None)) ≡ plan = cc in ap (λ (p : Plan). p.1.1) (sym same)
with_none formats (Err e) plan is = absurd (cc)

planned_none : (schema : Schema) (p : Parsed) (plan : Plan) → asks_by p.statement ≡ true → planned schema p ≡ Ok plan → plan.1.1 ≡ None
unfolding planned meaning
planned_none schema p plan is made =
    let formats = timed_in schema p.formats p.statement in
    with_none formats (command schema p.formats (small p.names + small formats) p.statement) plan (rw (none_returned schema (small p.names + small formats) p.statement is) at made)

compiled_none : (schema : Schema) (text : List ℕ) (c : Compiled) → asks (first text) ≡ true → compiled schema text ≡ Ok c → c.returning ≡ None
unfolding compiled
compiled_none schema text c = elim (first text) as (λ r. asks r ≡ true → and_then r (λ p. and_then (planned schema p) (λ plan. Ok (with_command p plan))) ≡ Ok c → c.returning ≡ None) [
  | Ok p ↦ λ is. by_plan p is (planned schema p) (planned_none schema p)
  | Err e ↦ λ is. absurd (cc)
]
  where
    by_plan
        : (p : Parsed) → asks_by p.statement ≡ true → (r : Checked Plan) → ((plan : Plan) → asks_by p.statement ≡ true → r ≡ Ok plan → plan.1.1 ≡ None)
        → and_then r (λ plan. Ok (with_command p plan)) ≡ Ok c → c.returning ≡ None
    by_plan p is (Ok plan) none made = let same : with_command p plan ≡ c = cc in ap (λ (d : Compiled). d.returning) (sym same) ∙ none plan is refl
    by_plan p is (Err e) none made = absurd (cc)

selected : (r : Result Compiled CompileError) (c : Compiled) → if_select r ≡ Ok c → r ≡ Ok c
selected (Err e) c is = absurd (cc)
selected (Ok d) c is = elim (cases_Bool (is_select d.command)) [
  | inl chosen ↦ rw chosen at is
  | inr other ↦ absurd (let it = rw other at is in cc)
]

understood_none : (schema : Schema) (text : List ℕ) (c : Compiled) → asks (first text) ≡ true → understood schema text ≡ Ok c → c.returning ≡ None
unfolding understood
understood_none schema text c is made = elim (cases_Bool (reads_listing schema text)) [
  | inl listed ↦ compiled_none listing_schema text c is (selected (compiled listing_schema text) c (rw listed at made))
  | inr other ↦ compiled_none schema text c is (rw other at made)
]

abbrev pub count_text : List ℕ
count_text = codes "SELECT COUNT(*) FROM project"

asks_count : asks (first count_text) ≡ true
unfolding everything
asks_count = refl

-- ---- what it leaves

module _ (old new : State) where
  showed : (c : Compiled) (text : List ℕ) (params : Row) (rows : List Row) → c.returning ≡ None → ShowsRows old new text c params rows c.returning → IsUnchanged old new
  showed c text params rows none it = (subst (ShowsRows old new text c params rows) none it).3

  failed : (c : Compiled) (text : List ℕ) (params : Row) (e : Error) → c.returning ≡ None → FailsToShow old new text c params e c.returning → IsUnchanged old new
  failed c text params e none it = (subst (FailsToShow old new text c params e) none it).3

  shown_same : (params : Row) (rows : List Row) → Shown count_text params old new rows → IsUnchanged old new
  unfolding Shown
  shown_same params rows it = showed it.0 count_text _ rows (understood_none old.now.schema count_text it.0 asks_count it.1.is) it.2

  failed_same : (params : Row) (e : Error) → FailsToQuery count_text params old new e → IsUnchanged old new ⊎ IsRolledBack old new
  unfolding FailsToQuery IsNotRun
  failed_same params e (inl (inl it)) = inl it.1
  failed_same params e (inl (inr it)) = inr it.3
  failed_same params e (inr it) = inl (failed it.0 count_text _ e (understood_none old.now.schema count_text it.0 asks_count it.1.is) it.2)

  pub counted : (params : Row) (r : Result Row Error) → QueriesRow count_text params old new r → IsUnchanged old new ⊎ IsRolledBack old new
  unfolding QueriesRow
  counted params (Ok row) (inl it) = inl it.1
  counted params (Ok row) (inr it) = inl (shown_same params it.0 it.1)
  counted params (Err e) (inl it) = failed_same params e it
  counted params (Err e) (inr it) = inl (shown_same params [] it.1)

  -- what is undone outside a transaction is nothing
  pub still : IsUnchanged old new ⊎ IsRolledBack old new → (IsTrue old.is_open → old.now ≡ old.committed) → IsTrue new.is_open → IsTrue old.is_open × (new.now ≡ old.now)
  still (inl it) settled live = (it.0.was_open, it.0.now_is)
  still (inr it) settled live = let was = it.was_open live in (was, (it.undone live).0 ∙ sym (settled was))
