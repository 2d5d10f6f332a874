-- The first record that passes a test.
use Rattle.std.proofs.Common.{◌≡◌, Bool, true, false, cond, List, [], ◌∷◌, filter, Some, refl, slice_get}
use Rattle.std.specs.List.{find}

-- the first that passes is the first of those that pass
pub first_that : {A : Type 0} (p : A → Bool) (rows : List A) → slice_get (filter p rows) 0 ≡ find p rows
first_that p [] = refl
first_that p (a ∷ rows) = go (p a) (first_that p rows)
  where
    go : (b : Bool) → slice_get (filter p rows) 0 ≡ find p rows → slice_get (cond b (a ∷ filter p rows) (filter p rows)) 0 ≡ cond b (Some a) (find p rows)
    go true more = refl
    go false more = more
