-- From what the connection says of a statement to what is seen of the database.
use Rattle.std.proofs.Common.{◌≡◌, ◌⊎◌, inl, inr, ℕ, Option, List, [], codes, Bool, true, false, not, cond, ◌||◌, length, None, Some, IsSome, Ok, Err, Result, IsTrue, OnOk, OnErr, IfErr, refl, sym, ap, subst, ◌∙◌, arith, append-nil, true≢false}
use Rattle.std.proofs.lemmas.Bool.{cases_Bool}
use Rattle.sqlite_value.specs.Order.{Row}
use Rattle.sqlite_trees.specs.Tree.{Trees}
use Rattle.sqlite_trees.specs.declared.error.StoreError.{StoreError}
use Rattle.sqlite_trees.specs.declared.error.StoreError.TheVariants.{OutOfMemory, Io, Corrupt, Full, Broken, Unstorable}
use Rattle.sqlite_trees.specs.declared.store.Store.{Ghosts}
use Rattle.sqlite_schema.specs.declared.schema.Schema.{Schema}
use Rattle.sqlite_schema.specs.declared.command.Command.{Command}
use Rattle.sqlite_schema.specs.declared.command.Command.TheVariants.{Select, Insert, InsertOr, Update, Delete, CreateTable, CreateIndex, DropTable, DropIndex, Begin, Commit, Rollback, Savepoint as Save, Release, RollbackTo, Nothing, CreateView, DropView, Rows}
use Rattle.sqlite_schema.specs.declared.command.Returning.{Returning}
use Rattle.sqlite_resolve.specs.declared.compiled.Compiled.{Compiled}
use Rattle.sqlite_resolve.specs.declared.error.CompileError.{CompileError}
use Rattle.sqlite_tied.specs.Compute.{everything}
use Rattle.sqlite.specs.declared.error.Error.{Error}
use Rattle.sqlite.specs.declared.error.Error.TheVariants.{InvalidQuery}
use Rattle.sqlite.specs.Effect.{Database, RefusesToRead, is_query}
use Rattle.sqlite.specs.Calls.{IsWrite}
use Rattle.sqlite.specs.Does.{Does, Tally}
use Rattle.sqlite.specs.Rows.{Outcome}
use Rattle.sqlite.specs.Listing.{understood, IsSourceOf}
use Rattle.sqlite.specs.State as state
use Rattle.sqlite.specs.State.{State, HasCleanDisk, Survives, Executes, ExecutesIn, IsNotRun, FailsToQuery, Shown, RunsCommand, FailsToShow, ShowsRows, Runs, Fails, IsUnchanged, IsRolledBack, shows_rows, CommitsBy, CommitsShowing, MayCommit, text_of}
use Rattle.sqlite.specs.Clock.{timed}
use Rattle.sqlite.specs.Held.{Held, state as state_of}
use Rattle.sqlite.proofs.Callers as callers
use Rattle.sqlite.proofs.Callers.{IsPlain, runs_as, reads_as, never_commits}
use Rattle.dh_ports.specs.declared.fault.Fault.{Fault}
use Rattle.dh_ports.specs.declared.fault.Fault.TheVariants.{Store, Memory}
use Rattle.dh_rows.specs.Faults.{statement_fault}
use Rattle.dh_ports.specs.Faults.{OnStore}
use Rattle.dh_rows.specs.Calls.{compiled_command, statement_of, IsEdit, EditsTo, EditsAs, whole, IsHonest, LeavesTrees, LeavesNoMore, KeepsFaults, MakesNoCommit, MakesNoCommitInside, NowShows, RunsStatement as Ran, EditsWhatIsSeen, EditsAtMost, ControlsTransaction, OnlyBegins, OnlyCommits, OnlyUndoes, OnlyLooks, OnlyEdits, BeginsTransaction, CommitsSeen, UndoesTransaction, RefusalUndoes, IsPlainLook, IsPlainEdit, AreRows, IsBlamed, StoreFaultHasCause, IsRejected, IsUnfit, ShowsHonestly, IsSame, IsUndone, IsRefused, BecomesSeen}

-- ---- refusals

pub refused : (sql : List ℕ) (params : Row) (old new : State) (e : Error) → Executes sql params old new (Err e) → IsUnchanged old new ⊎ IsRolledBack old new
unfolding ExecutesIn IsNotRun
refused sql params old new e (inl (inl h)) = inl h.1
refused sql params old new e (inl (inr h)) = inr h.3
refused sql params old new e (inr h) = elim (cases_Bool (shows_rows false h.0)) [
  | inl shows ↦ inl (rw shows at h.2).1
  | inr runs ↦ stopped (rw runs at h.2)
]
  where
    stopped : RunsCommand old new sql h.0 (timed params h.0.formats h.1.now) (Err e) → IsUnchanged old new ⊎ IsRolledBack old new
    stopped (inl it) = inl it.1
    stopped (inr it) = inr it.3

pub refused_to_show : (sql : List ℕ) (params : Row) (old new : State) (e : Error) → FailsToQuery sql params old new e → IsUnchanged old new ⊎ IsRolledBack old new
unfolding FailsToQuery IsNotRun
refused_to_show sql params old new e (inl (inl h)) = inl h.1
refused_to_show sql params old new e (inl (inr h)) = inr h.3
refused_to_show sql params old new e (inr h) = go h.0.returning h.2
  where
    go : (r : Option Returning) → FailsToShow old new sql h.0 (timed params h.0.formats h.1.now) e r → IsUnchanged old new ⊎ IsRolledBack old new
    go None it = inl it.3
    go (Some what) (inl it) = inl it.1
    go (Some what) (inr it) = inr it.3

-- ---- the texts of a transaction, whatever the schema is

abbrev pub begin_text : List ℕ
begin_text = codes "BEGIN"

abbrev pub commit_text : List ℕ
commit_text = codes "COMMIT"

abbrev pub rollback_text : List ℕ
rollback_text = codes "ROLLBACK"

abbrev pub tail_of : Result Compiled CompileError → ℕ
tail_of (Ok c) = c.tail
tail_of (Err e) = 0

abbrev pub parameters_of : Result Compiled CompileError → ℕ
parameters_of (Ok c) = length c.names
parameters_of (Err e) = 0

-- The text is this one statement, with no parameter, whatever the schema is, and the statement changes no table.
pub record IsBare (text : List ℕ) (k : Command) : Type 1 where
  pub is : (schema : Schema) → callers.command_of (understood schema text) ≡ k
  pub plain : (schema : Schema) → IsPlain (understood schema text)
  pub whole : (schema : Schema) → tail_of (understood schema text) ≡ length text
  pub free : (schema : Schema) → parameters_of (understood schema text) ≡ 0
  pub silent : is_query k || (state.is_pragma k || false) ≡ false
  pub spares : ¬ IsWrite k
  pub idle : (s : State) (params : Row) (text : List ℕ) (out : Outcome (Tally × Database)) → Does s.step_limit (state.mode_of s) params s.now text None k out → out ≡ Err (Some InvalidQuery)

-- So are the three, as their texts are read.
are_bare : IsBare begin_text Begin × IsBare commit_text Commit × IsBare rollback_text Rollback
unfolding understood everything
are_bare = (
  record { is = λ schema. refl; plain = λ schema. (refl, refl); whole = λ schema. refl; free = λ schema. refl; silent = refl; spares = λ it. it; idle = λ s params text out it. it },
  record { is = λ schema. refl; plain = λ schema. (refl, refl); whole = λ schema. refl; free = λ schema. refl; silent = refl; spares = λ it. it; idle = λ s params text out it. it },
  record { is = λ schema. refl; plain = λ schema. (refl, refl); whole = λ schema. refl; free = λ schema. refl; silent = refl; spares = λ it. it; idle = λ s params text out it. it },
)

-- what it did where it was run
runs_bare : {text : List ℕ} {k : Command} → IsBare text k → (old new : State) (count : ℕ) → Executes text [] old new (Ok count) → Runs old new None k (callers.statement_of text (understood old.now.schema text)) [] count
runs_bare {text = text} {k = k} bare old new count = runs_as text [] old new old.now.schema refl k (bare.is _) (bare.plain _) count

-- ---- what a statement may commit

may_commit : (sql : List ℕ) (params : Row) (s : State) (db : Trees) → IsPlain (understood s.now.schema sql) → CommitsBy sql params s db
    → (c : Compiled) × (understood s.now.schema sql ≡ Ok c) × MayCommit s None c.command (text_of sql c) params db
unfolding CommitsBy
may_commit sql params s db plain h =
    let bare = subst IsPlain h.1.is plain in
    (h.0, h.1.is, rw (bare.0, bare.1, append-nil params) at h.2)

command_is : {r : Result Compiled CompileError} {c : Compiled} {k : Command} → callers.command_of r ≡ k → r ≡ Ok c → c.command ≡ k
command_is is e = sym (ap callers.command_of e) ∙ is

-- a statement that changes no table commits what is seen, and only where it ends a transaction
bare_commits : {text : List ℕ} {k : Command} → IsBare text k → (s : State) (db : Trees) → CommitsBy text [] s db → ((k ≡ Commit) ⊎ ((name : List ℕ) × (k ≡ Release name))) × (db ≡ s.now.trees)
bare_commits {text = text} {k = k} bare s db h =
    let it = may_commit text [] s db (bare.plain _) h in
    let same : it.0.command ≡ k = command_is (bare.is _) it.1 in
    elim it.2 [
      | inl done ↦ (elim done.0 [ inl e ↦ inl (sym same ∙ e) | inr e ↦ inr (e.0, sym same ∙ e.2) ], done.1)
      | inr done ↦ absurd (let none = bare.idle s [] (text_of text it.0) (Ok (done.1, done.2)) (rw same at done.3) in cc)
    ]

begin_commits : (s : State) (db : Trees) → ¬ CommitsBy begin_text [] s db
begin_commits s db h = elim (bare_commits are_bare.0 s db h).0 [ inl e ↦ cc | inr e ↦ (let x = e.1 in cc) ]

rollback_commits : (s : State) (db : Trees) → ¬ CommitsBy rollback_text [] s db
rollback_commits s db h = elim (bare_commits are_bare.2 s db h).0 [ inl e ↦ cc | inr e ↦ (let x = e.1 in cc) ]

edit_commits : (sql : List ℕ) (params : Row) (s : State) (db : Trees) → IsPlain (understood s.now.schema sql) → IsEdit (compiled_command (understood s.now.schema sql)) → CommitsBy sql params s db
    → (s.in_transaction ≡ false) × (after : Database) × EditsTo s sql params after × (db ≡ after.trees)
edit_commits sql params s db plain edits h =
    let it = may_commit sql params s db plain h in
    elim it.2 [
      | inl done ↦ absurd (no_end it.0.command (subst (λ r. IsEdit (compiled_command r)) it.1 edits) done.0)
      | inr done ↦ (done.0, done.2, subst (EditsAs s sql params done.2) (sym it.1) (done.1, done.3, done.4), done.5)
    ]
  where
    no_end : (k : Command) → IsEdit k → (k ≡ Commit) ⊎ ((name : List ℕ) × (at : ℕ) × (k ≡ Release name) × state.IsNewestNamed (state.names_in s) name at × IsTrue (state.begins_at s at)) → ⊥
    no_end k it (inl e) = subst IsEdit e it
    no_end k it (inr e) = subst IsEdit e.2 it

-- ---- why a statement that begins or ends a transaction is refused

-- a fault of the store's own
blamed : {S : Type 0} (g : Ghosts S) (old new : Held S) (too_big : Type 0) (e : Error) → ¬ too_big → Fails (state_of g old) (state_of g new) too_big e → statement_fault e ≡ Store → IsBlamed g old new
blamed g old new too_big e small h is = go h.0 h.1 h.2
  where
    go : (cause : StoreError) → e ≡ state.store_error cause → state.HasCause (state_of g old) (state_of g new) too_big cause → IsBlamed g old new
    go OutOfMemory same why = absurd (let x = sym (ap statement_fault same) ∙ is in cc)
    go Io same why = inl why
    go Corrupt same why = inl why
    go Full same why = inl why
    go Broken same why = inr why
    go Unstorable same why = absurd (small why)

module _ {S : Type 0} (g : Ghosts S) (old new : Held S) (text : List ℕ) (k : Command) (bare : IsBare text k) where
  why : (e : Error) → Executes text [] (state_of g old) (state_of g new) (Err e) → statement_fault e ≡ Store → IsBlamed g old new ⊎ state.IsMisplaced (state_of g old) k e
  unfolding ExecutesIn IsNotRun
  why e (inl (inl h)) is = elim h.0 [
    | inl it ↦ absurd (subst IsPlain it.1 (bare.plain _))
    | inr it ↦ elim it.2 [
      | inl past ↦ absurd (past.0 (let end = subst (λ r. tail_of r ≡ length text) it.1 (bare.whole _) in omega arith))
      | inr more ↦ elim more [
        | inl given ↦ absurd (given.0 (sym (subst (λ r. parameters_of r ≡ 0) it.1 (bare.free _))))
        | inr timed ↦ absurd (timed.0 (subst IsPlain it.1 (bare.plain _)).1)
      ]
    ]
  ]
  why e (inl (inr h)) is = inl (blamed g old new _ e (λ none. none) h is)
  why e (inr h) is =
      let c = h.0 in
      let none = (subst IsPlain h.1.is (bare.plain _)).0 in
      let same = command_is (bare.is _) h.1.is in
      let silent : shows_rows false c ≡ false = rw (same, none) bare.silent in
      elim (rw silent at h.2) [
        | inl it ↦ elim it.0 [
          | inl misplaced ↦ inr (subst (λ k. state.IsMisplaced (state_of g old) k e) same misplaced)
          | inr does ↦ absurd (elim does.0 [ inl writes ↦ bare.spares (subst IsWrite same writes) | inr returns ↦ (let x = subst IsSome none returns in cc) ])
        ]
        | inr it ↦ inl (blamed g old new _ e (rw (same, none) (λ it. let e = bare.idle (state_of g old) _ _ (Err None) it in cc)) it is)
      ]

  -- A refusal is the store's own, but where the statement is out of place.
  pub blames : (P : Type 0) (r : Result (Unit {0}) Fault) → IfErr r (IsRejected g old new text []) → ((e : Error) → state.IsMisplaced (state_of g old) k e → P) → StoreFaultHasCause g old new r P
  blames P (Ok u) told out clean = tt
  blames P (Err Memory) told out clean = tt
  blames P (Err Store) told out clean =
      let it = told clean in
      elim (why it.0 it.2 (sym it.1)) [ inl own ↦ inl own | inr misplaced ↦ inr (out it.0 misplaced) ]

module _ {S : Type 0} (g : Ghosts S) (old new : Held S) (r : Result (Unit {0}) Fault) where
  begin_blames : IfErr r (IsRejected g old new begin_text []) → StoreFaultHasCause g old new r (old.in_transaction ≡ true)
  begin_blames told = blames g old new begin_text Begin are_bare.0 _ r told out
    where
      out : (e : Error) → state.IsMisplaced (state_of g old) Begin e → old.in_transaction ≡ true
      out e (inl it) = elim it.1 [ inl within ↦ within.1 | inr ends ↦ absurd (elim ends.0 [ inl x ↦ cc | inr x ↦ cc ]) ]
      out e (inr it) = absurd (elim it.2 [ inl x ↦ cc | inr x ↦ cc ])

  commit_blames : IfErr r (IsRejected g old new commit_text []) → StoreFaultHasCause g old new r (old.in_transaction ≡ false)
  commit_blames told = blames g old new commit_text Commit are_bare.1 _ r told out
    where
      out : (e : Error) → state.IsMisplaced (state_of g old) Commit e → old.in_transaction ≡ false
      out e (inl it) = elim it.1 [ inl begins ↦ absurd (let x = begins.0 in cc) | inr ends ↦ ends.1 ]
      out e (inr it) = absurd (elim it.2 [ inl x ↦ cc | inr x ↦ cc ])

  rollback_blames : IfErr r (IsRejected g old new rollback_text []) → old.in_transaction ≡ true → StoreFaultHasCause g old new r ⊥
  rollback_blames told within = blames g old new rollback_text Rollback are_bare.2 _ r told out
    where
      out : (e : Error) → state.IsMisplaced (state_of g old) Rollback e → ⊥
      out e (inl it) = elim it.1 [ inl begins ↦ absurd (let x = begins.0 in cc) | inr ends ↦ true≢false (sym within ∙ ends.1) ]
      out e (inr it) = elim it.2 [ inl x ↦ absurd (cc) | inr x ↦ absurd (cc) ]

pub within : (b c : Bool) → c ≡ not b → c ≡ false → b ≡ true
within true c is e = refl
within false c is e = absurd (true≢false (sym is ∙ e))

-- ---- why a query is refused

module _ {S : Type 0} (g : Ghosts S) (old new : Held S) (sql : List ℕ) (params : Row) (clean : HasCleanDisk (state_of g new) → HasCleanDisk (state_of g old))
    (look : IsHonest g old → IsPlainLook (state_of g old) sql) where
  unread : (e : Error) → IsHonest g old → FailsToQuery sql params (state_of g old) (state_of g new) e → statement_fault e ≡ Store → IsBlamed g old new ⊎ IsUnfit (state_of g old) sql params
  unfolding FailsToQuery IsNotRun
  unread e honest (inl (inl h)) is = inr (e, inl h.0)
  unread e honest (inl (inr h)) is = inl (blamed g old new _ e (λ none. none) h is)
  unread e honest (inr h) is =
      let bare = subst IsPlain h.1.is (look honest).plain in
      let it = rw (bare.0, bare.1, append-nil params) at h.2 in
      let db : it.0 ≡ (state_of g old).now = subst (λ b. IsSourceOf b (state_of g old).now it.0) (look honest).listing it.1 in
      let refuses = subst (λ d. RefusesToRead (state_of g old).step_limit h.0.command d params e) db it.2 in
      inr (e, inr (subst (λ r. RefusesToRead (state_of g old).step_limit (compiled_command r) (state_of g old).now params e) (sym h.1.is) refuses))

  -- the store's own fault, or the query's
  pub query_blames : HasCleanDisk (state_of g new) → (e : Error) (fault : Fault) → fault ≡ statement_fault e → FailsToQuery sql params (state_of g old) (state_of g new) e
      → OnStore {T = Unit {0}} (Err fault) (IsBlamed g old new ⊎ IsUnfit (state_of g old) sql params)
  query_blames now e Memory is fails = tt
  query_blames now e Store is fails = elim (cases_Bool (state_of g old).is_open) [
    | inl live ↦ unread e (clean now, live) fails (sym is)
    | inr shut ↦ inl (inr shut)
  ]

-- ---- a statement that ran ran on an open connection

module _ (old new : State) where
  ran_open : (returning : Option Returning) (command : Command) (text : List ℕ) (params : Row) (count : ℕ) → Runs old new returning command text params count → IsTrue new.is_open → IsTrue old.is_open
  ran_open returning (Select q names) text params count h live = absurd h
  ran_open returning (Insert at from) text params count h live = h.shown.was_open
  ran_open returning (InsertOr at how from clauses) text params count h live = h.shown.was_open
  ran_open returning (Update at q) text params count h live = h.shown.was_open
  ran_open returning (Delete at q) text params count h live = h.shown.was_open
  ran_open returning CreateTable text params count h live = h.shown.was_open
  ran_open returning (CreateIndex at) text params count h live = h.shown.was_open
  ran_open returning (DropTable at) text params count h live = h.shown.was_open
  ran_open returning (DropIndex at) text params count h live = h.shown.was_open
  ran_open returning Begin text params count h live = h.1.was_open
  ran_open returning Commit text params count h live = h.1.was_open
  ran_open returning Rollback text params count h live = h.1.was_open live
  ran_open returning (Save name) text params count h live = h.0.0.was_open
  ran_open returning (Release name) text params count h live = elim h.2 [ inl it ↦ it.1.0.was_open | inr it ↦ it.1.0.was_open ]
  ran_open returning (RollbackTo name) text params count h live = h.2.2.was_open
  ran_open returning (Rows values width names) text params count h live = h.0.0.was_open
  ran_open returning Nothing text params count h live = h.0.0.was_open
  ran_open returning CreateView text params count h live = h.shown.was_open
  ran_open returning (DropView at) text params count h live = h.shown.was_open

  pub executed_open : (sql : List ℕ) (params : Row) (count : ℕ) → Executes sql params old new (Ok count) → IsTrue new.is_open → IsTrue old.is_open
  unfolding ExecutesIn
  executed_open sql params count h live = elim (cases_Bool (shows_rows false h.0)) [
    | inl shows ↦ absurd (let e = (rw shows at h.2).0 in cc)
    | inr runs ↦ ran_open _ h.0.command _ _ count (rw runs at h.2) live
  ]

  shown_open : (sql : List ℕ) (params : Row) (rows : List Row) → Shown sql params old new rows → IsTrue old.is_open
  unfolding Shown
  shown_open sql params rows h = go h.0.returning h.2
    where
      go : (r : Option Returning) → ShowsRows old new sql h.0 (timed params h.0.formats h.1.now) rows r → IsTrue old.is_open
      go None it = it.3.0.was_open
      go (Some what) it = it.1.shown.was_open

-- ---- what follows for the view that hides nothing

module _ {S : Type 0} (g : Ghosts S) (old new : Held S) (P : Trees → Type 0) (survives : Survives (state_of g old) (state_of g new) P) where
  pub back_clean : HasCleanDisk (state_of g new) → HasCleanDisk (state_of g old)
  back_clean clean = omega (arith, survives.clean, clean)

  -- only a fault shuts the store
  pub lasts : (IsHonest g new → IsHonest g old) → KeepsFaults g old new
  lasts was = record {
    clean = back_clean;
    was = was;
    counts = survives.counts;
    lives = λ clean honest. elim (survives.closes clean honest.1) [ inl live ↦ inl (clean, live) | inr more ↦ inr more ];
    limit = survives.limit;
  }

  told : (now last : Database) (mode : Bool) → state.Shows (state_of g old) (state_of g new) now last mode → HasCleanDisk (state_of g new) → ShowsHonestly g whole old new now last mode
  told now last mode it clean = record { was_honest = (back_clean clean, it.was_open); is_open = it.is_open; now_is = it.now_is; last_is = it.committed_is; mode = it.mode }

  undone : IsRolledBack (state_of g old) (state_of g new) → IsHonest g new → IsUndone g whole old new
  undone it honest =
      let both = it.undone honest.1 in
      record { was_honest = (back_clean honest.0, it.was_open honest.1); is_open = honest.1; now_is = both.0; last_is = both.1; mode = it.autocommit }

  pub stopped : IsUnchanged (state_of g old) (state_of g new) ⊎ IsRolledBack (state_of g old) (state_of g new) → IsHonest g new → IsRefused g whole old new
  stopped (inl it) honest = inl (told _ _ _ it.0 honest.0)
  stopped (inr it) honest = inr (undone it honest)

  pub stopped_was : IsUnchanged (state_of g old) (state_of g new) ⊎ IsRolledBack (state_of g old) (state_of g new) → IsHonest g new → IsHonest g old
  stopped_was (inl it) honest = (back_clean honest.0, it.0.was_open)
  stopped_was (inr it) honest = (back_clean honest.0, it.was_open honest.1)

  pub leaves_no_more : ((db : Trees) → ¬ P db) → LeavesNoMore g old new
  leaves_no_more never clean db may = elim (survives.crash clean db may) [
    | inl before ↦ before
    | inr it ↦ absurd (never db it)
  ]

  pub leaves : (Q : Trees → Type 0) → (IsHonest g old → (db : Trees) → P db → Q db) → LeavesTrees g old new Q
  leaves Q holds honest clean db may = elim (survives.crash clean db may) [
    | inl before ↦ inl before
    | inr it ↦ inr (holds honest db it)
  ]

-- ---- what an accepted call gives

on_ok : {T E P Q : Type 0} (r : Result T E) → OnOk r P → (P → Q) → OnOk r Q
on_ok (Ok x) p f = f p
on_ok (Err e) p f = tt

-- ---- what stays committed, and what a crash may leave no more

module _ {S : Type 0} (g : Ghosts S) (old new : Held S) where
  pub refused_commits_nothing : IsRefused g whole old new → (state_of g new).committed ≡ (state_of g old).committed
  refused_commits_nothing (inl it) = it.last_is
  refused_commits_nothing (inr it) = it.last_is

  -- what is committed stays, where an accepted call keeps it
  pub stays_committed : {T E : Type 0} (P : Type 0) (r : Result T E) → (P → (state_of g new).committed ≡ (state_of g old).committed) → OnOk r P → OnErr r (IsRefused g whole old new)
      → (state_of g new).committed ≡ (state_of g old).committed
  stays_committed P (Ok x) keeps ok err = keeps ok
  stays_committed P (Err e) keeps ok err = refused_commits_nothing err

  -- of a call that a crash leaves nothing more of
  goes_by : {T E : Type 0} (P : Type 0) (r : Result T E) → (P → (state_of g new).committed ≡ (state_of g old).committed) → (IsHonest g new → OnOk r P) → RefusalUndoes g whole old new r → LeavesNoMore g old new → KeepsFaults g old new → MakesNoCommit g old new
  goes_by P r keeps ok err none lasts = record { lasts = lasts; kept = λ honest. stays_committed P r keeps (ok honest) (err honest); quiet = λ _. none }

-- ---- each call, by its result

module _ {S : Type 0} (g : Ghosts S) (old new : Held S) (r : Result (Unit {0}) Fault) where
  abbrev Failed : Type 0
  Failed = HasCleanDisk (state_of g new) → OnErr r (IsUnchanged (state_of g old) (state_of g new) ⊎ IsRolledBack (state_of g old) (state_of g new))

  module _ (P : Trees → Type 0) (survives : Survives (state_of g old) (state_of g new) P) (failed : Failed) where
    pub fails : RefusalUndoes g whole old new r
    fails honest = go r (failed honest.0)
      where
        go : (r : Result (Unit {0}) Fault) → OnErr r (IsUnchanged (state_of g old) (state_of g new) ⊎ IsRolledBack (state_of g old) (state_of g new)) → OnErr r (IsRefused g whole old new)
        go (Ok u) err = tt
        go (Err e) err = stopped g old new P survives err honest

    controls : (sql : List ℕ) (Done Misplaced : Type 0) → IfErr r (IsRejected g old new sql []) → Done → StoreFaultHasCause g old new r Misplaced → ControlsTransaction g whole old new r sql Done Misplaced
    controls sql Done Misplaced told done blames = record { done = done; err = fails; told = blames; rejected = told }

  module _ (survives : Survives (state_of g old) (state_of g new) (CommitsBy begin_text [] (state_of g old))) (ran : Ran g old new begin_text [] r) where
    begun : BeginsTransaction g whole old new r
    begun clean = on_ok r (ran clean) (λ it. told g old new _ survives _ _ _ (runs_bare are_bare.0 _ _ it.0 it.1).1 clean)

    begun_no_more : LeavesNoMore g old new
    begun_no_more = leaves_no_more g old new _ survives (begin_commits _)

    pub only_begins : KeepsFaults g old new → Failed → IfErr r (IsRejected g old new begin_text []) → OnlyBegins g whole old new r
    only_begins lasts failed told = record {
      goes = goes_by g old new _ r (λ it. it.last_is) (λ honest. begun honest.0) (fails _ survives failed) begun_no_more lasts;
      quiet = begun_no_more;
      begun = controls _ survives failed _ _ _ told begun (begin_blames g old new r told);
    }

  module _ (survives : Survives (state_of g old) (state_of g new) (CommitsBy commit_text [] (state_of g old))) where
    done : Ran g old new commit_text [] r → CommitsSeen g whole old new r
    done ran clean = on_ok r (ran clean) (λ it. told g old new _ survives _ _ _ (runs_bare are_bare.1 _ _ it.0 it.1).1 clean)

    pub only_commits : Ran g old new commit_text [] r → KeepsFaults g old new → Failed → IfErr r (IsRejected g old new commit_text []) → OnlyCommits g whole old new r
    only_commits ran lasts failed told = record { lasts = lasts; committed = controls _ survives failed _ _ _ told (done ran) (commit_blames g old new r told) }

    pub done_leaves : LeavesTrees g old new (λ db. db ≡ (state_of g old).now.trees)
    done_leaves = leaves g old new _ survives _ (λ _ db it. (bare_commits are_bare.1 _ db it).1)

  module _ (survives : Survives (state_of g old) (state_of g new) (CommitsBy rollback_text [] (state_of g old))) (ran : Ran g old new rollback_text [] r) where
    undoes : UndoesTransaction g whole old new r
    undoes honest = on_ok r (ran honest.0) (λ it. undone g old new _ survives (runs_bare are_bare.2 _ _ it.0 it.1).1 honest)

    undone_no_more : LeavesNoMore g old new
    undone_no_more = leaves_no_more g old new _ survives (rollback_commits _)

    pub only_undoes : KeepsFaults g old new → Failed → IfErr r (IsRejected g old new rollback_text []) → old.in_transaction ≡ true → OnlyUndoes g whole old new r
    only_undoes lasts failed told within = record {
      goes = goes_by g old new _ r (λ it. it.last_is) undoes (fails _ survives failed) undone_no_more lasts;
      quiet = undone_no_more;
      undone = controls _ survives failed _ _ _ told undoes (rollback_blames g old new r told within);
    }

-- ---- one write, and one query, of tables

same_words : (sql : List ℕ) (r : Result Compiled CompileError) → (compiled_command r ≡ callers.command_of r) × (statement_of sql r ≡ callers.statement_of sql r)
same_words sql (Ok c) = (refl, refl)
same_words sql (Err e) = (refl, refl)

ran_as : (sql : List ℕ) (params : Row) (old new : State) → IsPlain (understood old.now.schema sql) → (n : ℕ) → Executes sql params old new (Ok n)
    → Runs old new None (compiled_command (understood old.now.schema sql)) (statement_of sql (understood old.now.schema sql)) params n
ran_as sql params old new plain n h =
    let w = same_words sql (understood old.now.schema sql) in
    rw (w.0, w.1) (runs_as sql params old new old.now.schema refl _ refl plain n h)

wrote : (old new : State) (k : Command) (text : List ℕ) (ps : Row) (n : ℕ) → IsEdit k → Runs old new None k text ps n → state.Writes old new None k text ps n
wrote old new (Insert at from) text ps n it h = h
wrote old new (InsertOr at how from clauses) text ps n it h = h
wrote old new (Delete at q) text ps n it h = h
wrote old new CreateTable text ps n it h = h
wrote old new (DropTable at) text ps n it h = h
wrote old new _ text ps n it h = absurd it

module _ {S : Type 0} (g : Ghosts S) (old new : Held S) (sql : List ℕ) (params : Row) where
  module _ (r : Result (Unit {0}) Fault) (survives : Survives (state_of g old) (state_of g new) (CommitsBy sql params (state_of g old)))
      (edit : IsHonest g old → IsPlainEdit (state_of g old) sql) (ran : Ran g old new sql params r) where
    changed : IsHonest g old → HasCleanDisk (state_of g new) → OnOk r (BecomesSeen g whole old new (state_of g new).now × EditsTo (state_of g old) sql params (state_of g new).now)
    changed honest clean = on_ok r (ran clean) (λ it.
        let w = wrote _ _ _ _ _ _ (edit honest).edits (ran_as sql params (state_of g old) (state_of g new) (edit honest).plain it.0 it.1) in
        (told g old new _ survives _ _ _ w.shown clean, (w.tally, w.changed, w.sound)))

    makes : EditsWhatIsSeen g old new sql params r
    makes honest clean = on_ok r (changed honest clean) (λ it. it.1)

    changes_at_most : EditsAtMost g old new sql params
    changes_at_most = leaves g old new _ survives _ (λ honest db. edit_commits sql params (state_of g old) db (edit honest).plain (edit honest).edits)

    module _ (lasts : KeepsFaults g old new) where
      changed_sees : OnOk r (NowShows g whole old new (state_of g new).now)
      changed_sees = go r changed
        where
          go : (r : Result (Unit {0}) Fault) → (IsHonest g old → HasCleanDisk (state_of g new) → OnOk r (BecomesSeen g whole old new (state_of g new).now × EditsTo (state_of g old) sql params (state_of g new).now))
              → OnOk r (NowShows g whole old new (state_of g new).now)
          go (Ok u) it = record {
            live = λ honest clean. (clean, (it honest clean).0.is_open);
            now_is = λ honest. refl;
            mode = λ honest. (it (lasts.was honest) honest.0).0.mode;
            done = λ honest outside. (it (lasts.was honest) honest.0).0.last_is ∙ ap (λ b. cond b (state_of g old).committed (state_of g new).now) outside;
          }
          go (Err e) it = tt

      -- within a transaction it commits nothing
      changed_goes : Failed g old new r → MakesNoCommitInside g old new
      changed_goes failed = record {
        lasts = lasts;
        kept = λ within honest. stays_committed g old new _ r (λ it. it.0.last_is ∙ ap (λ b. cond b (state_of g old).committed (state_of g new).now) within) (changed (lasts.was honest) honest.0) (fails g old new r _ survives failed honest);
        quiet = λ within honest. leaves_no_more g old new _ survives (λ db it. true≢false (sym within ∙ (edit_commits sql params (state_of g old) db (edit honest).plain (edit honest).edits it).0));
      }

      -- what it leaves
      pub only_edits : Failed g old new r → OnlyEdits g old new sql params r
      only_edits failed = record { goes = changed_goes failed; sees = changed_sees; made = makes; err = fails g old new r _ survives failed; crash = changes_at_most }

  module _ (survives : Survives (state_of g old) (state_of g new) (CommitsShowing sql params (state_of g old))) (look : IsHonest g old → IsPlainLook (state_of g old) sql) where
    pub read : (rows : List Row) → Shown sql params (state_of g old) (state_of g new) rows → IsHonest g old → AreRows (state_of g old) sql params rows
    read rows h honest =
        rw (same_words sql (understood (state_of g old).now.schema sql)).0 (reads_as sql params (state_of g old) (state_of g new) (state_of g old).now.schema refl _ refl (look honest).plain (look honest).listing rows h)

    -- only an open store answers
    pub shown_was : (rows : List Row) → Shown sql params (state_of g old) (state_of g new) rows → HasCleanDisk (state_of g new) → IsHonest g old
    shown_was rows h clean = (back_clean g old new _ survives clean, shown_open _ _ sql params rows h)

    stays : (rows : List Row) → Shown sql params (state_of g old) (state_of g new) rows → HasCleanDisk (state_of g new) → IsSame g whole old new
    unfolding Shown
    stays rows h clean =
        let none = (subst IsPlain h.1.is (look (shown_was rows h clean)).plain).0 in
        told g old new _ survives _ _ _ ((rw none at h.2).3).0 clean

    spares : IsHonest g old → LeavesNoMore g old new
    spares honest = leaves_no_more g old new _ survives (λ db. never_commits _ _ _ db (look honest).plain)

    -- what an answered one leaves
    pub answered_looks : {T : Type 0} {x : T} (rows : List Row) → (HasCleanDisk (state_of g new) → Shown sql params (state_of g old) (state_of g new) rows) → OnlyLooks g old new {T = T} {E = Fault} (Ok x)
    answered_looks rows shown = record {
      goes = record {
        lasts = lasts g old new _ survives (λ honest. shown_was rows (shown honest.0) honest.0);
        kept = λ honest. (stays rows (shown honest.0) honest.0).last_is;
        quiet = spares;
      };
      same = λ clean. stays rows (shown clean) clean;
      err = λ honest. tt;
    }

    -- and one that was refused
    pub refused_looks : {T : Type 0} {fault : Fault} (e : Error) → (HasCleanDisk (state_of g new) → FailsToQuery sql params (state_of g old) (state_of g new) e) → OnlyLooks g old new {T = T} (Err fault)
    refused_looks e why = record {
      goes = record {
        lasts = lasts g old new _ survives (λ honest. stopped_was g old new _ survives (refused_to_show _ _ _ _ _ (why honest.0)) honest);
        kept = λ honest. refused_commits_nothing g old new (stopped g old new _ survives (refused_to_show _ _ _ _ _ (why honest.0)) honest);
        quiet = spares;
      };
      same = λ clean. tt;
      err = λ honest. stopped g old new _ survives (refused_to_show _ _ _ _ _ (why honest.0)) honest;
    }
