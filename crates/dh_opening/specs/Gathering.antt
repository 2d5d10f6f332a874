-- What is known of a query whose rows are taken one at a time.
use Rattle.std.specs.Prelude.{◌≡◌, ℕ, Bool, true, false, List, [], ◌∷◌, ◌++◌, Result, IfOk}
use Rattle.sqlite_value.specs.Order.{Row}
use Rattle.sqlite_trees.specs.declared.store.Store.{Ghosts}
use Rattle.sqlite.specs.Given.{HasGiven}
use Rattle.sqlite.specs.Held.{Held, state}
use Rattle.sqlite.specs.State.{HasCleanDisk}
use Rattle.dh_rows.specs.Calls.{IsHonest}
use Rattle.dh_opening.specs.declared.fault.TablesFault.{TablesFault}
use Rattle.dh_opening.specs.Opening.{AnswersQuery, IsWhole, JudgesTables}

module _ {S : Type 0} (g : Ghosts S) (sql : List ℕ) where
  -- the connection runs the query, which has given these rows
  pub record HasTaken (h : Held S) (given : List Row) : Type 0 where
    pub whole : IsHonest g h → IsWhole (state g h) sql
    pub has : HasCleanDisk (state g h) → HasGiven g sql [] h given

  module _ {G : Type 0} (Took : G → List Row → Type 0) (old new : Held S) (before after : G) where
    -- one row more is taken, or the rows so far are all
    abbrev pub TakesOn : List Row → Bool → Type 0
    TakesOn given true = (row : Row) × HasTaken new (given ++ row ∷ []) × Took after (given ++ row ∷ [])
    TakesOn given false = Took after given

    -- What taking the next row of a query leaves, once the query has given these rows.
    pub record TakesNext (result : Result Bool TablesFault) : Type 0 where
      pub opens
          : (given : List Row) → HasTaken old given
          → JudgesTables g old new result (λ db more. more ≡ false → AnswersQuery db sql given)
          (λ _. ⊥)
      pub on : (given : List Row) → HasTaken old given → Took before given → IfOk result (TakesOn given)
