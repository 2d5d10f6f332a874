-- From the view that hides nothing to any other.
use Rattle.std.proofs.Common.{◌≡◌, inl, inr, ℕ, List, Bool, true, false, cond, Result, Ok, Err, OnOk, OnErr, refl, sym, ap, subst, ◌∙◌}
use Rattle.sqlite_value.specs.Order.{Row}
use Rattle.sqlite_trees.specs.Tree.{Trees}
use Rattle.sqlite_trees.specs.declared.store.Store.{Ghosts}
use Rattle.sqlite.specs.Effect.{Database}
use Rattle.sqlite.specs.State.{HasCleanDisk}
use Rattle.sqlite.specs.Held.{Held, state}
use Rattle.dh_rows.specs.Calls.{EditsTo, whole, IsHonest, LeavesTrees, ShowsHonestly, IsSame, IsUndone, IsRefused, BecomesSeen, CrashLeaves}

module _ {S : Type 0} (g : Ghosts S) {W : Type 0} (view : Database → W) (old new : Held S) where
  pub shows : (now last : Database) (mode : Bool) → ShowsHonestly g whole old new now last mode → ShowsHonestly g view old new (view now) (view last) mode
  shows now last mode it = record { was_honest = it.was_honest; is_open = it.is_open; now_is = ap view it.now_is; last_is = ap view it.last_is; mode = it.mode }

  pub same : {T E : Type 0} (r : Result T E) → OnOk r (IsHonest g old → IsSame g whole old new) → IsHonest g old → OnOk r (IsSame g view old new)
  same (Ok x) it honest = shows _ _ _ (it honest)
  same (Err e) it honest = tt

  pub refused : {T E : Type 0} (r : Result T E) → OnErr r (IsRefused g whole old new) → OnErr r (IsRefused g view old new)
  refused (Ok x) it = tt
  refused (Err e) (inl it) = inl (shows _ _ _ it)
  refused (Err e) (inr it) = inr (shows _ _ _ it)

  pub undone : {T E : Type 0} (r : Result T E) → OnOk r (IsUndone g whole old new) → OnOk r (IsUndone g view old new)
  undone (Ok x) it = shows _ _ _ it
  undone (Err e) it = tt

  either : (b : Bool) (x y : Database) → view (cond b x y) ≡ cond b (view x) (view y)
  either true x y = refl
  either false x y = refl

  pub becomes : (now : Database) (w : W) → BecomesSeen g whole old new now → view now ≡ w → BecomesSeen g view old new w
  becomes now w it is =
      subst (λ v. BecomesSeen g view old new v) is (record {
        was_honest = it.was_honest;
        is_open = it.is_open;
        now_is = ap view it.now_is;
        last_is = ap view it.last_is ∙ either old.in_transaction (state g old).committed now;
        mode = it.mode;
      })

  -- a write, by what it makes of the database
  module _ (sql : List ℕ) (params : Row) (w : W) (effect : IsHonest g old → (after : Database) → EditsTo (state g old) sql params after → (after.schema ≡ (state g old).now.schema) × (view after ≡ w)) where
    pub changes : {E : Type 0} (r : Result (Unit {0}) E) → (HasCleanDisk (state g new) → OnOk r (BecomesSeen g whole old new (state g new).now × EditsTo (state g old) sql params (state g new).now))
        → IsHonest g old → HasCleanDisk (state g new) → OnOk r (BecomesSeen g view old new w)
    changes r ran honest clean = go r (ran clean)
      where
        go : {E : Type 0} (r : Result (Unit {0}) E) → OnOk r (BecomesSeen g whole old new (state g new).now × EditsTo (state g old) sql params (state g new).now) → OnOk r (BecomesSeen g view old new w)
        go (Ok u) it = becomes (state g new).now w it.0 (effect honest (state g new).now it.1).1
        go (Err e) it = tt

    -- the tables of the last commit are those that are seen
    pub leaves : (IsHonest g old → (state g old).now.schema ≡ (state g old).committed.schema)
        → LeavesTrees g old new (λ db. (old.in_transaction ≡ false) × (after : Database) × EditsTo (state g old) sql params after × (db ≡ after.trees))
        → CrashLeaves g view old new (λ v. (old.in_transaction ≡ false) × (v ≡ w))
    leaves steady it honest clean db may = elim (it honest clean db may) [
      | inl before ↦ inl before
      | inr made ↦ inr (made.0, ap (λ (d : Database). view d) (known made.1 db made.2 made.3) ∙ (effect honest made.1 made.2).1)
    ]
      where
        known : (after : Database) (db : Trees) → EditsTo (state g old) sql params after → db ≡ after.trees → record { schema = (state g old).committed.schema; trees = db } ≡ after
        known after db edits e = Rattle.std.proofs.Common.ap₂ (λ s d. record { schema = s; trees = d }) (sym (steady honest) ∙ sym (effect honest after edits).0) e

  pub leaves_now : (IsHonest g old → (state g old).now.schema ≡ (state g old).committed.schema) → LeavesTrees g old new (λ db. db ≡ (state g old).now.trees) → CrashLeaves g view old new (λ v. v ≡ view (state g old).now)
  leaves_now steady it honest clean db may = elim (it honest clean db may) [
    | inl before ↦ inl before
    | inr e ↦ inr (Rattle.std.proofs.Common.ap₂ (λ s d. view (record { schema = s; trees = d })) (sym (steady honest)) e)
  ]
