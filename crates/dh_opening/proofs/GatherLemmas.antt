-- What is left by the steps of a query whose rows are taken one at a time.
use Rattle.std.proofs.Common.{◌≡◌, inl, inr, ℕ, Bool, true, false, List, [], ◌∷◌, ◌++◌, Some, None, Result, Ok, Err, IsErrAnd, OnErr, refl, sym, subst, subst₂}
use Rattle.sqlite_value.specs.Order.{Row}
use Rattle.sqlite_trees.specs.Tree.{Trees}
use Rattle.sqlite_trees.specs.declared.store.Store.{Ghosts}
use Rattle.sqlite.specs.Effect.{Database}
use Rattle.sqlite.specs.declared.error.Error.{Error}
use Rattle.sqlite.specs.Given.{Advances, FailsToAdvance, HasBegun, HasGiven, IsPlain}
use Rattle.sqlite.specs.Held.{Held, state}
use Rattle.sqlite.specs.Listing.{understood, reads_listing}
use Rattle.sqlite.specs.State.{HasCleanDisk, Survives, CommitsShowing, FailsToQuery, IsUnchanged, Shown}
use Rattle.sqlite.proofs.Callers.{begun_plain, never_commits}
use Rattle.sqlite.proofs.StateLemmas.{survives_weaker}
use Rattle.dh_ports.specs.declared.fault.Fault.{Fault}
use Rattle.dh_ports.specs.declared.fault.Fault.TheVariants as fault
use Rattle.dh_rows.specs.Calls.{IsHonest, IsPlainLook, IsUnfit, OnlyLooks}
use Rattle.dh_rows.specs.Faults.{statement_fault}
use Rattle.dh_rows.proofs.Calls.{answered_looks, back_clean, lasts, leaves_no_more, query_blames, read, refused_looks, shown_was}
use Rattle.dh_opening.specs.declared.fault.TablesFault.{TablesFault}
use Rattle.dh_opening.specs.declared.fault.TablesFault.TheVariants.{Failed}
use Rattle.dh_opening.specs.Gathering.{HasTaken, TakesNext}
use Rattle.dh_opening.specs.Opening.{AnswersQuery, IsWhole, JudgesTables}
use Rattle.dh_opening.proofs.Looks.{handed, opens_both, out_of_memory, refused_as, then_ok}

pub refused_is : {T E P : Type 0} (r : Result T E) (e : E) → r ≡ Err e → OnErr r P → P
refused_is (Ok x) e is it = absurd (cc)
refused_is (Err f) e is it = it

module _ {S : Type 0} (g : Ghosts S) (a b : Held S) where
  -- what leaves all as it was
  module _ (P : Trees → Type 0) (survives : Survives (state g a) (state g b) P) (never : IsHonest g a → (db : Trees) → ¬ P db) (same : HasCleanDisk (state g b) → IsUnchanged (state g a) (state g b)) where
    was_honest : HasCleanDisk (state g b) → IsHonest g a
    was_honest clean = (back_clean g a b P survives clean, (same clean).0.was_open)

    pub unchanged_opens : {T : Type 0} {Q : Database → T → Type 0} {N : Database → Type 0} (x : T) → (IsHonest g a → Q (state g a).now x) → JudgesTables g a b (Ok x) Q N
    unchanged_opens x found = record {
      goes = record { lasts = lasts g a b P survives (λ honest. was_honest honest.0); kept = λ honest. (same honest.0).0.committed_is; quiet = λ honest. leaves_no_more g a b P survives (never honest) };
      same = λ clean. let it = (same clean).0 in record { was_honest = was_honest clean; is_open = it.is_open; now_is = it.now_is; last_is = it.committed_is; mode = it.mode };
      err = λ honest. tt;
      found = λ clean. (was_honest clean, found (was_honest clean));
      ours = λ clean. tt;
      current = tt;
      told = λ clean. tt;
    }

    -- a query that is refused for no reason of its own stays so
    pub whole_on : (sql : List ℕ) → (IsHonest g a → IsWhole (state g a) sql) → IsHonest g b → IsWhole (state g b) sql
    whole_on sql whole honest =
        let was = whole (was_honest honest.0) in
        let now : (state g b).now ≡ (state g a).now = (same honest.0).0.now_is in
        record {
          look = record {
            plain = subst (λ (d : Database). IsPlain (understood d.schema sql)) (sym now) was.look.plain;
            listing = subst (λ (d : Database). reads_listing d.schema sql ≡ false) (sym now) was.look.listing;
          };
          fits = λ unfit. was.fits (subst₂ (λ d l. IsUnfit (record (state g a) { now = d; step_limit = l }) sql []) now survives.limit unfit);
        }

  module _ (sql : List ℕ) (whole : IsHonest g a → IsWhole (state g a) sql) where
    look : IsHonest g a → IsPlainLook (state g a) sql
    look honest = (whole honest).look

    module _ (survives : Survives (state g a) (state g b) (CommitsShowing sql [] (state g a))) where
      never : IsHonest g a → (db : Trees) → ¬ CommitsShowing sql [] (state g a) db
      never honest db = never_commits sql [] (state g a) db (look honest).plain

      -- a query that is refused
      pub failed_opens : {T : Type 0} {Q : Database → T → Type 0} {N : Database → Type 0} (e : Error) (fault : Fault) → fault ≡ statement_fault e → (HasCleanDisk (state g b) → FailsToQuery sql [] (state g a) (state g b) e) → JudgesTables g a b {T = T} (Err (Failed fault)) Q N
      failed_opens e fault is why =
          refused_as sql (Unit {0}) fault (refused_looks g a b sql [] survives look e why) (λ clean. query_blames g a b sql [] (back_clean g a b _ survives) look clean e fault is (why clean)) whole

      -- a query that has given all its rows
      pub all_opens : (given : List Row) → (HasCleanDisk (state g b) → Shown sql [] (state g a) (state g b) given) → JudgesTables g a b (Ok false) (λ db more. more ≡ false → AnswersQuery db sql given) (λ _. ⊥)
      all_opens given shown =
          let looks : OnlyLooks g a b {T = Bool} {E = Fault} (Ok false) = answered_looks g a b sql [] survives look given shown in
          record {
            goes = looks.goes;
            same = looks.same;
            err = λ honest. tt;
            found = λ clean. let was = shown_was g a b sql [] survives look given (shown clean) clean in (was, λ _. read g a b sql [] survives look given (shown clean) was);
            ours = λ clean. tt;
            current = tt;
            told = λ clean. tt;
          }

      -- a query that begins
      module _ (begun : HasCleanDisk (state g b) → HasBegun g sql [] a b) where
        begun_honest : HasCleanDisk (state g b) → IsHonest g a
        begun_honest clean = elim (begun clean) [
          | inl it ↦ (back_clean g a b _ survives clean, it.1.0.was_open)
          | inr it ↦ shown_was g a b sql [] survives look _ it.1 clean
        ]

        plainly : HasCleanDisk (state g b) → HasGiven g sql [] b [] × IsUnchanged (state g a) (state g b)
        plainly clean = begun_plain g sql [] a b (look (begun_honest clean)).plain (begun clean)

        pub begins_opens : JudgesTables g a b {T = Unit {0}} (Ok tt) (λ _ _. Unit {0}) (λ _. ⊥)
        begins_opens = unchanged_opens _ survives never (λ clean. (plainly clean).1) tt (λ _. tt)

        pub begins_taken : HasTaken g sql b []
        begins_taken = record { whole = whole_on _ survives never (λ clean. (plainly clean).1) sql whole; has = λ clean. (plainly clean).0 }

  -- the next row of a query, by what it has given so far
  module _ (sql : List ℕ) (given : List Row) (taken : HasTaken g sql a given) (survives : Survives (state g a) (state g b) (λ _. ⊥)) where
    pub weaker : Survives (state g a) (state g b) (CommitsShowing sql [] (state g a))
    weaker = survives_weaker (state g a) (state g b) _ _ (λ _ db it. absurd it) survives

    pub next_back : HasCleanDisk (state g b) → HasCleanDisk (state g a)
    next_back = back_clean g a b _ survives

    module _ (same : HasCleanDisk (state g b) → IsUnchanged (state g a) (state g b)) where
      pub next_opens : {T : Type 0} {Q : Database → T → Type 0} {N : Database → Type 0} (x : T) → Q (state g a).now x → JudgesTables g a b (Ok x) Q N
      next_opens x found = unchanged_opens _ survives (λ _ db it. it) same x (λ _. found)

      pub next_taken : (row : Row) → (HasCleanDisk (state g b) → HasGiven g sql [] b (given ++ row ∷ [])) → HasTaken g sql b (given ++ row ∷ [])
      next_taken row has = record { whole = whole_on _ survives (λ _ db it. it) same sql taken.whole; has = has }

-- ---- the next row, for what takes it

module _ {S G : Type 0} (g : Ghosts S) (a b : Held S) (sql : List ℕ) (Took : G → List Row → Type 0) (before after : G) (survives : Survives (state g a) (state g b) (λ _. ⊥)) where
  pub takes_failed : (e : Error) (fault : Fault) → fault ≡ statement_fault e → (HasCleanDisk (state g b) → FailsToAdvance g a b e) → TakesNext g sql Took a b before after (Err (Failed fault))
  takes_failed e fault is why = record {
    opens = λ given taken. failed_opens g a b sql taken.whole (weaker g a b sql given taken survives) e fault is (λ clean. why clean sql [] given (taken.has (next_back g a b sql given taken survives clean)));
    on = λ given taken took. tt;
  }

  pub takes_no_more : (HasCleanDisk (state g b) → Advances g a b None) → after ≡ before → TakesNext g sql Took a b before after (Ok false)
  takes_no_more ok same = record {
    opens = λ given taken. all_opens g a b sql taken.whole (weaker g a b sql given taken survives) given (λ clean. ok clean sql [] given (taken.has (next_back g a b sql given taken survives clean)));
    on = λ given taken took. subst (λ (t : G). Took t given) (sym same) took;
  }

  module _ (same : HasCleanDisk (state g b) → IsUnchanged (state g a) (state g b)) where
    pub takes_one : (row : Row) → (HasCleanDisk (state g b) → Advances g a b (Some row)) → ((rows : List Row) → Took before rows → Took after (rows ++ row ∷ [])) → TakesNext g sql Took a b before after (Ok true)
    takes_one row ok more = record {
      opens = λ given taken. next_opens g a b sql given taken survives same true (λ e. absurd (cc));
      on = λ given taken took. (row, next_taken g a b sql given taken survives same row (λ clean. ok clean sql [] given (taken.has (next_back g a b sql given taken survives clean))), more given took);
    }

    pub takes_out : (r : Result Bool TablesFault) → IsErrAnd r (λ f. f ≡ Failed fault.Memory) → TakesNext g sql Took a b before after r
    takes_out (Ok more) is = absurd is
    takes_out (Err f) is = record {
      opens = λ given taken. out_of_memory (Err f) is true (next_opens g a b sql given taken survives same {T = Bool} {Q = λ _ _. Unit {0}} {N = λ _. ⊥} true tt);
      on = λ given taken took. tt;
    }

-- ---- all rows

module _ {S G : Type 0} (g : Ghosts S) (a b c : Held S) (sql : List ℕ) (Took : G → List Row → Type 0) (before after : G) (given : List Row) (taken : HasTaken g sql b given) (first : JudgesTables g a b {T = Unit {0}} (Ok tt) (λ _ _. Unit {0}) (λ _. ⊥)) where
  -- they are all
  pub gathered : Took before given → TakesNext g sql Took b c before after (Ok false) → JudgesTables g a c {T = Unit {0}} (Ok tt) (λ db _. (rows : List Row) × AnswersQuery db sql rows × Took after rows) (λ _. ⊥)
  gathered took next = then_ok false (opens_both tt (Ok false) first (next.opens given taken)) tt (λ honest it. (given, it.1 refl, next.on given taken took))

  -- there is one more
  pub gathers_on : TakesNext g sql Took b c before after (Ok true) → JudgesTables g a c {T = Unit {0}} (Ok tt) (λ _ _. Unit {0}) (λ _. ⊥)
  gathers_on next = then_ok true (opens_both tt (Ok true) first (next.opens given taken)) tt (λ honest it. tt)

  -- there is a fault
  pub gather_failed : {T : Type 0} {Q : Database → T → Type 0} (r : Result T TablesFault) (fault : TablesFault) → IsErrAnd r (λ f. f ≡ fault) → TakesNext g sql Took b c before after (Err fault) → JudgesTables g a c r Q (λ _. ⊥)
  gather_failed r fault is next = handed r fault is (λ it. it.1) (opens_both tt (Err fault) first (next.opens given taken))
