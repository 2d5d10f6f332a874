-- From what two queries of a table answer to what the table is.
use Rattle.std.proofs.Common.{◌≡◌, ℕ, List, [], ◌∷◌, Option, None, Some, IsSome, IfSome, Vec, refl, sym, subst, true≢false}
use Rattle.sqlite_value.specs.Order.{Row}
use Rattle.sqlite_schema.specs.declared.schema.Table.{Table}
use Rattle.sqlite.specs.State.{State}
use Rattle.dh_rows.specs.Keyed.{Coding}
use Rattle.dh_rows.specs.Shapes.{StandsAlone}
use Rattle.dh_rows.specs.Whole.{SpellsRecords}
use Rattle.dh_rows.proofs.Whole.{AreTextsOf, IsCodingOf, SuitsSelect, asks_ids, asks_all, spelled, spells}
use Rattle.dh_opening.specs.Opening.{AnswersQuery, AreLaid, AreTold, IsSpelledBy, IsWhole, StandFor}

-- a query that only a limit on steps refuses is refused by none
as_whole : (s : State) (text : List ℕ) → s.step_limit ≡ None → SuitsSelect s text → IsWhole s text
as_whole s text unlimited it = record { look = it.look; fits = λ unfit. never s.step_limit unlimited (it.fits unfit) }
  where
    never : (o : Option ℕ) → o ≡ None → IsSome o → ⊥
    never None e it = true≢false (sym it)
    never (Some n) e it = absurd (cc)

module _ {t : Table} {ids rows order : List ℕ} (reads : AreTextsOf t ids rows order) (s : State) (laid : AreLaid (t ∷ []) s) where
  stands : StandsAlone s.now.schema t
  stands = laid.alone.0

  pub whole_ids : IsWhole s ids
  whole_ids = as_whole s ids laid.unlimited (asks_ids reads s stands.stands)

  pub whole_rows : IsWhole s rows
  whole_rows = as_whole s rows laid.unlimited (asks_all reads s stands.stands)

  module _ {X : Type 0} {c : Coding X} (typed : X → Type 0) (suits : IsCodingOf t c order) (first second : List Row) (first_are : AnswersQuery s.now ids first) (second_are : AnswersQuery s.now rows second) where
    -- what is told is what it has
    pub stand_for : (xs : List X) → AreTold c typed first second xs → StandFor c typed t.name s.now xs
    stand_for xs told =
        let it = spelled reads s stands.stands suits laid.sound first second xs first_are second_are told.spells in
        record { rows = it.0; records = it.1; typed = told.typed }

    -- what it has is told
    pub told_of : (xs : List X) → StandFor c typed t.name s.now xs → AreTold c typed first second xs
    told_of xs it = record { spells = subst (SpellsRecords c first second) it.records (spells reads s stands.stands suits first second first_are second_are it.rows); typed = it.typed }

    pub stand_for_none : ((xs : List X) → ¬ AreTold c typed first second xs) → (xs : List X) → ¬ StandFor c typed t.name s.now xs
    stand_for_none none xs it = none xs (told_of xs it)

    -- what is told, or that nothing is
    pub told_or_none : {Z : Type 0} (o : Option (Vec X Z)) → IfSome o (λ v. AreTold c typed first second v.items) → (o ≡ None → (xs : List X) → ¬ AreTold c typed first second xs) → IsSpelledBy c typed t.name s.now o
    told_or_none (Some v) some none = stand_for v.items some
    told_or_none None some none = stand_for_none (none refl)
