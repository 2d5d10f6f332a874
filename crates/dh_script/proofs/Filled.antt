-- The lines that have words.
use Rattle.std.proofs.Common.{◌≡◌, Bool, true, false, cond, List, [], ◌∷◌, map, refl, ap}
use Rattle.dh_world.specs.World.{Text}
use Rattle.dh_script.specs.Running.{is_filled, with_words, worded, words_in}

-- by their words
pub with_words_seen : (texts : List Text) → map words_in (with_words texts) ≡ worded texts
unfolding worded
with_words_seen [] = refl
with_words_seen (text ∷ texts) = by (is_filled (words_in text)) (with_words_seen texts)
  where
    by : (b : Bool) → map words_in (with_words texts) ≡ worded texts
        → map words_in (cond b (text ∷ with_words texts) (with_words texts)) ≡ cond b (words_in text ∷ worded texts) (worded texts)
    by true rest = ap (λ (words : List (List Text)). words_in text ∷ words) rest
    by false rest = rest
