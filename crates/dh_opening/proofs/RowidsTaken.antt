-- Rowids that are taken one at a time.
use Rattle.std.proofs.Common.{◌≡◌, ◌↔◌, ◌&&◌, ℤ, Bool, true, false, IsTrue, Option, Some, None, List, [], ◌∷◌, ◌++◌, refl, sym, ap, ◌∙◌}
use Rattle.std.proofs.lemmas.List.{append-nil, append_assoc}
use Rattle.sqlite_value.specs.Order.{Row}
use Rattle.dh_rows.specs.Whole.{AreRowids, is_above, lone_int}
use Rattle.dh_rows.proofs.RowidLemmas.{rise_from, told_false, told_true, with_id}
use Rattle.dh_opening.specs.declared.rowids.Rowids.{Rowids}
use Rattle.dh_opening.specs.Rowids.{TookRowids, is_behind}

one_more : (rise : Bool) (last id : Option ℤ) (others : List Row) → (rise && with_id (λ n. is_above last n && rise_from (Some n) others) id) ≡ ((rise && is_behind last id) && rise_from id others)
one_more false last id others = refl
one_more true last None others = refl
one_more true last (Some n) others = refl

pub took_one : (old new : Rowids) (rows : List Row) (row : Row) → TookRowids old rows → new.last ≡ lone_int row → new.rise ≡ (old.rise && is_behind old.last (lone_int row)) → TookRowids new (rows ++ row ∷ [])
took_one old new rows row took last rise others =
    ap (rise_from None) (append_assoc rows (row ∷ []) others) ∙ took (row ∷ others) ∙ one_more old.rise old.last (lone_int row) others
    ∙ sym (ap (λ b. b && rise_from new.last others) rise ∙ ap (λ o. (old.rise && is_behind old.last (lone_int row)) && rise_from o others) last)

pub took_none : (new : Rowids) → new.last ≡ None → new.rise ≡ true → TookRowids new []
took_none new last rise others = sym (ap (λ b. b && rise_from new.last others) rise ∙ ap (λ o. rise_from o others) last)

told : (rows : List Row) (b : Bool) → rise_from None rows ≡ b → IsTrue b ↔ AreRowids rows
told rows true h = told_true rows h
told rows false h = told_false rows h

all_so : (b : Bool) → (b && true) ≡ b
all_so true = refl
all_so false = refl

pub rowids_told : (new : Rowids) (rows : List Row) → TookRowids new rows → IsTrue new.rise ↔ AreRowids rows
rowids_told new rows took = told rows new.rise (sym (ap (rise_from None) (append-nil rows)) ∙ took [] ∙ all_so new.rise)
