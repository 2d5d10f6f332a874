-- What a call leaves of a database, by a view: the part of the database that the caller reads.
use Rattle.std.specs.Prelude.{◌≡◌, ◌⊎◌, ℕ, ◌≤◌, Bool, true, false, if◌then◌else◌, Result, Ok, Err, OnOk, OnErr, IfOk, IfErr, IsTrue, List, [], codes, None, ⊤}
use Rattle.sqlite_disk.specs.Disk.{MoreFaults}
use Rattle.sqlite_value.specs.Order.{Row}
use Rattle.sqlite_schema.specs.declared.command.Command.{Command}
use Rattle.sqlite_schema.specs.declared.command.Command.TheVariants.{Insert, InsertOr, Delete, CreateTable, DropTable, Nothing}
use Rattle.sqlite_resolve.specs.declared.compiled.Compiled.{Compiled}
use Rattle.sqlite_resolve.specs.declared.error.CompileError.{CompileError}
use Rattle.sqlite_trees.specs.Tree.{Trees}
use Rattle.sqlite_trees.specs.declared.store.Store.{Ghosts}
use Rattle.sqlite.specs.Effect.{Database, IsDatabase, Reads, RefusesToRead}
use Rattle.sqlite.specs.declared.error.Error.{Error}
use Rattle.sqlite.specs.Does.{Tally, Does}
use Rattle.sqlite.specs.Given.{IsPlain}
use Rattle.sqlite.specs.Listing.{understood, reads_listing}
use Rattle.sqlite.specs.State.{State, HasCleanDisk, IsUnchanged, IsRolledBack, Executes, FailsToQuery, IsNoStatement, mode_of, text_of}
use Rattle.sqlite.specs.Held.{Held, state}
use Rattle.dh_ports.specs.declared.fault.Fault.{Fault}
use Rattle.dh_ports.specs.Faults.{OnStore}
use Rattle.dh_rows.specs.Faults.{statement_fault}

-- the command that a text stands for, or `Nothing` where it does not compile
abbrev pub compiled_command : Result Compiled CompileError → Command
compiled_command (Ok c) = c.command
compiled_command (Err e) = Nothing

-- the statement in a text
abbrev pub statement_of : List ℕ → Result Compiled CompileError → List ℕ
statement_of sql (Ok c) = text_of sql c
statement_of sql (Err e) = []

-- INSERT, DELETE, CREATE TABLE or DROP TABLE
abbrev pub IsEdit : Command → Type 0
IsEdit (Insert at from) = ⊤
IsEdit (InsertOr at how from clauses) = ⊤
IsEdit (Delete at q) = ⊤
IsEdit CreateTable = ⊤
IsEdit (DropTable at) = ⊤
IsEdit _ = ⊥

-- the statement of this meaning, run on what the connection sees, makes this sound database
abbrev pub EditsAs : State → List ℕ → Row → Database → Result Compiled CompileError → Type 0
EditsAs s sql params after meaning = (tally : Tally) × Does s.step_limit (mode_of s) params s.now (statement_of sql meaning) None (compiled_command meaning) (Ok (tally, after)) × IsDatabase after

abbrev pub EditsTo : State → List ℕ → Row → Database → Type 0
EditsTo s sql params after = EditsAs s sql params after (understood s.now.schema sql)

-- the text is one statement, with no RETURNING, that does not read the time
abbrev pub IsPlainText : State → List ℕ → Type 0
IsPlainText s sql = IsPlain (understood s.now.schema sql)

-- the text is an INSERT, a DELETE, a CREATE TABLE or a DROP TABLE
abbrev pub IsEditText : State → List ℕ → Type 0
IsEditText s sql = IsEdit (compiled_command (understood s.now.schema sql))

-- the text does not read the listing of the schema
abbrev pub SparesListing : State → List ℕ → Type 0
SparesListing s sql = reads_listing s.now.schema sql ≡ false

-- what the text of a look must be: plain, and with no reading of the schema's listing
pub record IsPlainLook (s : State) (sql : List ℕ) : Type 0 where
  pub plain : IsPlainText s sql
  pub listing : SparesListing s sql

-- what the text of an edit must be: plain, and an INSERT, a DELETE, a CREATE TABLE or a DROP TABLE
pub record IsPlainEdit (s : State) (sql : List ℕ) : Type 0 where
  pub plain : IsPlainText s sql
  pub edits : IsEditText s sql

-- the rows are those that the text asks for
abbrev pub AreRows : State → List ℕ → Row → List Row → Type 0
AreRows s sql params rows = Reads (compiled_command (understood s.now.schema sql)) s.now params rows

-- The query itself is refused, at whatever store: its text, the count or the types of its parameters, a sum, or the limit on steps.
abbrev pub IsUnfit : State → List ℕ → Row → Type 0
IsUnfit s sql params =
    (e : Error) × (IsNoStatement s sql params e ⊎ RefusesToRead s.step_limit (compiled_command (understood s.now.schema sql)) s.now params e)

-- The databases that a connection sees and has committed keep their form, outside a transaction they are one, and the
-- steps of a statement are not limited.
pub record Keep (Holds : Database → Type 0) (s : State) : Type 0 where
  pub now : Holds s.now
  pub last : Holds s.committed
  pub steady : s.now.schema ≡ s.committed.schema
  pub settled : s.in_transaction ≡ false → s.now ≡ s.committed
  pub unlimited : s.step_limit ≡ None

-- as long as the store is honest and open, its databases keep their form
abbrev pub AreOurs : (Database → Type 0) → State → Type 0
AreOurs Holds s = HasCleanDisk s → IsTrue s.is_open → Keep Holds s

-- the view that hides nothing
abbrev pub whole : Database → Database
whole db = db

module _ {S : Type 0} (g : Ghosts S) where
  -- The disk has returned what was written, and no fault has shut the store.
  abbrev pub IsHonest : Held S → Type 0
  IsHonest h = HasCleanDisk (state g h) × IsTrue (state g h).is_open

  -- A crash leaves trees that it could leave before the call, or that have P.
  abbrev pub LeavesTrees : Held S → Held S → (Trees → Type 0) → Type 0
  LeavesTrees old new P = IsHonest old → HasCleanDisk (state g new) → (db : Trees) → g.recovers new.store db → g.recovers old.store db ⊎ P db

  -- A crash leaves what it could leave before the call, or the trees that were seen then.
  abbrev pub LeavesSeen : Held S → Held S → Type 0
  LeavesSeen old new = LeavesTrees old new (λ db. db ≡ (state g old).now.trees)

  -- A crash leaves nothing that it could not leave before.
  abbrev pub LeavesNoMore : Held S → Held S → Type 0
  LeavesNoMore old new = HasCleanDisk (state g new) → (db : Trees) → g.recovers new.store db → g.recovers old.store db

  -- What is committed stays.
  abbrev pub KeepsCommitted : Held S → Held S → Type 0
  KeepsCommitted old new = IsHonest new → (state g new).committed ≡ (state g old).committed

  -- The store counted a fault in the call, or was shut before it.
  abbrev pub IsBlamed : Held S → Held S → Type 0
  IsBlamed old new = MoreFaults (state g old).faults (state g new).faults ⊎ ((state g old).is_open ≡ false)

  -- What every call leaves, whatever it answers.
  pub record KeepsFaults (old new : Held S) : Type 0 where
    -- what the disk returned before the call was right, if what it returned after it was
    pub clean : HasCleanDisk (state g new) → HasCleanDisk (state g old)
    -- a store that is honest after the call was honest before it
    pub was : IsHonest new → IsHonest old
    -- no fault is forgotten
    pub counts : (state g old).faults ≤ (state g new).faults
    -- only a fault shuts the store
    pub lives : HasCleanDisk (state g new) → IsHonest old → IsHonest new ⊎ MoreFaults (state g old).faults (state g new).faults
    -- the limit on a statement's steps stays
    pub limit : new.step_limit ≡ old.step_limit

  -- What a call leaves that commits nothing, whatever it answers.
  pub record MakesNoCommit (old new : Held S) : Type 0 where
    pub lasts : KeepsFaults old new
    pub kept : KeepsCommitted old new
    pub quiet : IsHonest old → LeavesNoMore old new

  -- What a call leaves that commits nothing within a transaction, whatever it answers.
  pub record MakesNoCommitInside (old new : Held S) : Type 0 where
    pub lasts : KeepsFaults old new
    pub kept : old.in_transaction ≡ true → KeepsCommitted old new
    pub quiet : old.in_transaction ≡ true → IsHonest old → LeavesNoMore old new

  module _ {T : Type 0} (old new : Held S) where
    -- An answered look finds a value that has P, and only an honest store answers.
    abbrev pub FindsSuch : {E : Type 0} → Result T E → (T → Type 0) → Type 0
    FindsSuch r P = HasCleanDisk (state g new) → IfOk r (λ x. IsHonest old × P x)

    -- A fault of the store is told only where the store counted a fault or was shut before, or P holds.
    abbrev pub StoreFaultHasCause : Result T Fault → Type 0 → Type 0
    StoreFaultHasCause r P = HasCleanDisk (state g new) → OnStore r (IsBlamed old new ⊎ P)

  -- A refused statement left all as it was, or undid the transaction.
  abbrev pub RefusalRollsBack : {T E : Type 0} → Held S → Held S → Result T E → Type 0
  RefusalRollsBack old new r = HasCleanDisk (state g new) → OnErr r (IsUnchanged (state g old) (state g new) ⊎ IsRolledBack (state g old) (state g new))

  module _ (old new : Held S) (sql : List ℕ) (params : Row) where
    -- the statement was refused for what the fault tells
    abbrev pub IsRejected : Fault → Type 0
    IsRejected fault = HasCleanDisk (state g new) → (e : Error) × (fault ≡ statement_fault e) × Executes sql params (state g old) (state g new) (Err e)

    -- the query was refused for what the fault tells
    abbrev pub IsUnanswered : Fault → Type 0
    IsUnanswered fault = HasCleanDisk (state g new) → (e : Error) × (fault ≡ statement_fault e) × FailsToQuery sql params (state g old) (state g new) e

    -- an answered statement ran
    abbrev pub RunsStatement : {E : Type 0} → Result (Unit {0}) E → Type 0
    RunsStatement r = HasCleanDisk (state g new) → OnOk r ((n : ℕ) × Executes sql params (state g old) (state g new) (Ok n))

    -- an answered edit has made the database that is seen now of the one that was seen before
    abbrev pub EditsWhatIsSeen : {E : Type 0} → Result (Unit {0}) E → Type 0
    EditsWhatIsSeen r = IsHonest old → HasCleanDisk (state g new) → OnOk r (EditsTo (state g old) sql params (state g new).now)

    -- A crash leaves what it could leave before the call or, outside a transaction, what the edit makes.
    abbrev pub EditsAtMost : Type 0
    EditsAtMost = LeavesTrees old new (λ db. (old.in_transaction ≡ false) × (after : Database) × EditsTo (state g old) sql params after × (db ≡ after.trees))

  module _ (old new : Held S) where
    -- the commit, or the rollback of a transaction was refused for what the fault tells
    abbrev pub IsNotCommitted : Fault → Type 0
    IsNotCommitted = IsRejected old new (codes "COMMIT") []

    abbrev pub IsNotUndone : Fault → Type 0
    IsNotUndone = IsRejected old new (codes "ROLLBACK") []

  module _ {W : Type 0} (view : Database → W) where
    -- what is seen now, and what was seen at the last commit
    abbrev pub seen_now : Held S → W
    seen_now h = view (state g h).now

    abbrev pub committed : Held S → W
    committed h = view (state g h).committed

    -- what may be seen after a crash at this moment, by the tables of the last commit
    abbrev pub MayLeave : Held S → W → Type 0
    MayLeave h w = (db : Trees) × g.recovers h.store db × (w ≡ view (record { schema = (state g h).committed.schema; trees = db }))

    -- a crash at this moment leaves what was seen at the last commit
    abbrev pub LeavesCommitted : Held S → Type 0
    LeavesCommitted h = (w : W) → MayLeave h w → w ≡ committed h

    module _ (old new : Held S) where
      -- the connection was honest and is open, and shows this now
      pub record ShowsHonestly (now last : W) (in_transaction : Bool) : Type 0 where
        pub was_honest : IsHonest old
        pub is_open : IsTrue (state g new).is_open
        pub now_is : seen_now new ≡ now
        pub last_is : committed new ≡ last
        pub mode : new.in_transaction ≡ in_transaction

      abbrev pub IsSame : Type 0
      IsSame = ShowsHonestly (seen_now old) (committed old) old.in_transaction

      -- all since the begin of the transaction is undone
      abbrev pub IsUndone : Type 0
      IsUndone = ShowsHonestly (committed old) (committed old) false

      abbrev pub IsRefused : Type 0
      IsRefused = IsSame ⊎ IsUndone

      -- this is seen now, and outside a transaction it is committed
      abbrev pub BecomesSeen : W → Type 0
      BecomesSeen w =
          ShowsHonestly w (if old.in_transaction then committed old else w) old.in_transaction

      -- What an answered call leaves, which neither begins nor ends a transaction.
      pub record NowShows (next : W) : Type 0 where
        -- the store is as honest as it was
        pub live : IsHonest old → HasCleanDisk (state g new) → IsHonest new
        -- the view shows this
        pub now_is : IsHonest new → seen_now new ≡ next
        -- a transaction stays open
        pub mode : IsHonest new → new.in_transaction ≡ old.in_transaction
        -- outside one it is committed
        pub done : IsHonest new → old.in_transaction ≡ false → committed new ≡ next

      -- A refused call leaves all as it was, or as it was at the last commit.
      abbrev pub RefusalUndoes : {T E : Type 0} → Result T E → Type 0
      RefusalUndoes r = IsHonest new → OnErr r IsRefused

      -- An answered call leaves an honest store whose transaction began, was committed, or was undone.
      abbrev pub BeginsTransaction : {T E : Type 0} → Result T E → Type 0
      BeginsTransaction r =
          HasCleanDisk (state g new) → OnOk r (ShowsHonestly (seen_now old) (committed old) true)

      abbrev pub CommitsSeen : {T E : Type 0} → Result T E → Type 0
      CommitsSeen r =
          HasCleanDisk (state g new) → OnOk r (ShowsHonestly (seen_now old) (seen_now old) false)

      abbrev pub UndoesTransaction : {T E : Type 0} → Result T E → Type 0
      UndoesTransaction r = IsHonest new → OnOk r IsUndone

      -- An answered look was at an honest store, and left all as it was.
      abbrev pub LeavesAllAsItWas : {T E : Type 0} → Result T E → Type 0
      LeavesAllAsItWas r = HasCleanDisk (state g new) → OnOk r IsSame

      -- A crash leaves what it could leave before the call, or trees that have P when seen by the tables of the last commit.
      abbrev pub CrashLeaves : (W → Type 0) → Type 0
      CrashLeaves P = LeavesTrees old new (λ db. P (view (record { schema = (state g old).committed.schema; trees = db })))

      -- A crash leaves what it could leave before the call or, outside a transaction, this.
      abbrev pub CommitsAtMost : W → Type 0
      CommitsAtMost w = CrashLeaves (λ v. (old.in_transaction ≡ false) × (v ≡ w))

  module _ {W : Type 0} (view : Database → W) (old new : Held S) (result : Result (Unit {0}) Fault) where
    -- What a statement that begins or ends a transaction leaves by its answer: `Done` is what it has done. Where it is
    -- `Misplaced` it may be refused at any store.
    pub record ControlsTransaction (sql : List ℕ) (Done Misplaced : Type 0) : Type 0 where
      pub done : Done
      -- one that was refused left all as it was, or undid the transaction
      pub err : RefusalUndoes view old new result
      -- the refusal is the store's own, but for a misplaced one
      pub told : StoreFaultHasCause old new result Misplaced
      -- it was refused for what the fault tells
      pub rejected : IfErr result (IsRejected old new sql [])

    -- What a BEGIN leaves, whatever it answers. Within a transaction it is refused.
    pub record OnlyBegins : Type 0 where
      -- nothing is committed, and a crash leaves nothing more
      pub goes : MakesNoCommit old new
      pub quiet : LeavesNoMore old new
      pub begun
          : ControlsTransaction (codes "BEGIN") (BeginsTransaction view old new result)
          (old.in_transaction ≡ true)

    -- What a COMMIT leaves, whatever it answers. Outside a transaction it is refused.
    pub record OnlyCommits : Type 0 where
      pub lasts : KeepsFaults old new
      pub committed : ControlsTransaction (codes "COMMIT") (CommitsSeen view old new result) (old.in_transaction ≡ false)

    -- What a ROLLBACK leaves, whatever it answers. Outside a transaction there is nothing to undo.
    pub record OnlyUndoes : Type 0 where
      -- nothing is committed, and a crash leaves nothing more
      pub goes : MakesNoCommit old new
      pub quiet : LeavesNoMore old new
      pub undone : ControlsTransaction (codes "ROLLBACK") (UndoesTransaction view old new result) ⊥

  -- What a look leaves, whatever it answers.
  pub record OnlyLooks (old new : Held S) {T E : Type 0} (result : Result T E) : Type 0 where
    -- nothing is committed, and a crash leaves nothing more
    pub goes : MakesNoCommit old new
    -- one that was answered was at an honest store, and left all as it was
    pub same : LeavesAllAsItWas whole old new result
    -- one that was refused left all as it was, or undid the transaction
    pub err : RefusalUndoes whole old new result

  -- What an INSERT, a DELETE, a CREATE TABLE or a DROP TABLE leaves, whatever it answers.
  pub record OnlyEdits (old new : Held S) (sql : List ℕ) (params : Row) {E : Type 0} (result : Result (Unit {0}) E) : Type 0 where
    -- within a transaction nothing is committed, and a crash leaves nothing more
    pub goes : MakesNoCommitInside old new
    -- one that was answered left the store as honest as it was, and outside a transaction committed what is seen
    pub sees : OnOk result (NowShows whole old new (state g new).now)
    -- of what was seen it made what is seen now
    pub made : EditsWhatIsSeen old new sql params result
    -- one that was refused left all as it was, or undid the transaction
    pub err : RefusalUndoes whole old new result
    -- a crash leaves what it could leave before or, outside a transaction, what the edit makes
    pub crash : EditsAtMost old new sql params
