-- What a read finds.
use Rattle.std.proofs.Common.{◌≡◌, Bor, List, [], ◌∷◌, map, Option, None, Some, Result, Ok, Err, IfOk, slice_get, length, refl, sym, subst, ap, ◌∙◌}
use Rattle.std.specs.Option.{option_copied}
use Rattle.std.specs.Prelude.{is_some}
use Rattle.std.proofs.lemmas.List.{length-map}

first_mapped : {X R : Type 0} (encode : X → R) (ys : List X) → is_some (slice_get (map encode ys) 0) ≡ is_some (slice_get ys 0)
first_mapped encode [] = refl
first_mapped encode (y ∷ ys) = refl

pub some_copied : {A : Type 0} (o : Option (Bor A)) → is_some o ≡ is_some (option_copied o)
some_copied (Some x) = refl
some_copied None = refl

pub any_value : {X R : Type 0} (encode : X → R) (rows : List R) (ys : List X) (v : Option X) → rows ≡ map encode ys → slice_get ys 0 ≡ v → is_some (slice_get rows 0) ≡ is_some v
any_value encode rows ys v reads e = ap (λ l. is_some (slice_get l 0)) reads ∙ first_mapped encode ys ∙ ap is_some e

-- what holds of the list holds of the answer that is it
pub with_fact : {V E X : Type 0} (P : List X → Type 0) (items : V → List X) (r : Result V E) (ys : List X) → IfOk r (λ v. items v ≡ ys) → P ys → IfOk r (λ v. (items v ≡ ys) × P (items v))
with_fact P items (Ok v) ys e p = (e, subst P (sym e) p)
with_fact P items (Err x) ys e p = tt

-- as many rows as records
pub count_value : {X R : Type 0} (encode : X → R) (rows : List R) (ys : List X) → rows ≡ map encode ys → length rows ≡ length ys
count_value encode rows ys reads = ap length reads ∙ length-map ys encode
