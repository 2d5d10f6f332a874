-- Records read from rows one by one.
use Rattle.std.specs.Prelude.{Result, Ok, Err, IsErrAnd, Option, Some, None, slice_get}
use Rattle.std.specs.List.{AllByRecursion}
use Rattle.dh_ports.specs.declared.fault.Fault.{Fault}
use Rattle.dh_ports.specs.declared.fault.Fault.TheVariants.{Store, Memory}
use Rattle.dh_ports.specs.Faults.{OnStore}
use Rattle.std.proofs.Common.{◌≡◌, ℕ, zero, suc, ◌+◌, ◌<◌, List, [], ◌∷◌, ◌++◌, map, take, length, get_or, refl, sym, ap, subst, ◌∙◌, arith, add-one}
use Rattle.std.proofs.lemmas.List.{length-map}

module _ {X R : Type 0} (encode : X → R) (value : X) where
  step : (xs : List X) (i : ℕ) (d : R) → i < length xs → ((y : X) → get_or (map encode xs) i d ≡ encode y → value ≡ y) → take i xs ++ value ∷ [] ≡ take (suc i) xs
  step [] i d h all = absurd (omega arith)
  step (x ∷ xs) zero d h all = ap (λ v. v ∷ []) (all x refl)
  step (x ∷ xs) (suc i) d h all = ap (λ l. x ∷ l) (step xs i d (omega arith) all)

  pub next_record : (xs : List X) (i : ℕ) (row : R) (rows : List R) (before after : List X) → rows ≡ map encode xs → i < length rows → row ≡ get_or rows i row → before ≡ take i xs → after ≡ before ++ value ∷ []
      → ((y : X) → row ≡ encode y → value ≡ y) → after ≡ take (i + 1) xs
  next_record xs i row rows before after e h at is push all =
      let short : i < length xs = omega (arith, ap length e, length-map xs encode) in
      push ∙ ap (λ l. l ++ value ∷ []) is ∙ step xs i row short (λ y k. all y (at ∙ ap (λ l. get_or l i row) e ∙ k)) ∙ ap (λ n. take n xs) (sym (add-one i))

-- ---- why a record is not read

-- what a fault that is handed on says, and what follows from it
pub handed_on : {T U : Type 0} {P Q : Type 0} (r : Result T Fault) (from : Result U Fault) (fault : Fault) → from ≡ Err fault → IsErrAnd r (λ f. f ≡ fault) → (P → Q) → OnStore from P → OnStore r Q
handed_on (Ok x) from fault was same f h = tt
handed_on (Err Memory) from fault was same f h = tt
handed_on {P = P} (Err Store) from fault was same f h = f (subst (λ s. OnStore s P) (was ∙ ap Err (sym same)) h)

-- the record of a row that stands for one of these
pub some_of : {X R : Type 0} (encode : X → R) (P : X → Type 0) (xs : List X) (rows : List R) (i : ℕ) (row : R) → rows ≡ map encode xs → i < length rows → row ≡ get_or rows i row
    → AllByRecursion P xs → (y : X) × (row ≡ encode y) × P y
some_of encode P xs rows i row e h at all = go xs i (omega (arith, ap length e, length-map xs encode)) all (at ∙ ap (λ l. get_or l i row) e)
  where
    go : (xs : List _) (i : ℕ) → i < length xs → AllByRecursion P xs → row ≡ get_or (map encode xs) i row → (y : _) × (row ≡ encode y) × P y
    go [] i h all at = absurd (omega arith)
    go (x ∷ xs) zero h all at = (x, at, all.0)
    go (x ∷ xs) (suc i) h all at = go xs i (omega arith) all.1 at

-- one of the records was not read, so not all of them can be
pub handed_on_all : {T U X : Type 0} {All : Type 0} (r : Result T Fault) (from : Result U Fault) (fault : Fault) → from ≡ Err fault → IsErrAnd r (λ f. f ≡ fault) → (IsIt P : X → Type 0)
    → ((y : X) → IsIt y → OnStore from (¬ P y)) → (All → (y : X) × IsIt y × P y) → OnStore r (¬ All)
handed_on_all (Ok x) from fault was same IsIt P told one = tt
handed_on_all (Err Memory) from fault was same IsIt P told one = tt
handed_on_all (Err Store) from fault was same IsIt P told one = λ all.
    let y = one all in
    subst (λ s. OnStore s (¬ P y.0)) (was ∙ ap Err (sym same)) (told y.0 y.1) y.2

module _ {X R : Type 0} (encode : X → R) where
  pub first_of : (P : X → Type 0) (xs : List X) (rows : List R) (row : R) → rows ≡ map encode xs → slice_get rows 0 ≡ Some row → AllByRecursion P xs → (y : X) × (row ≡ encode y) × P y
  first_of P [] rows row e at all = absurd (let none : ◌≡◌ {A = Option R} None (Some row) = ap (λ l. slice_get l 0) (sym e) ∙ at in cc)
  first_of P (x ∷ xs) rows row e at all = let same : ◌≡◌ {A = Option R} (Some (encode x)) (Some row) = ap (λ l. slice_get l 0) (sym e) ∙ at in (x, cc, all.0)

  pub first_value : (value : X) (xs : List X) (rows : List R) (row : R) → rows ≡ map encode xs → slice_get rows 0 ≡ Some row → ((y : X) → row ≡ encode y → value ≡ y) → Some value ≡ slice_get xs 0
  first_value value [] rows row e at all = absurd (let none : ◌≡◌ {A = Option R} None (Some row) = ap (λ l. slice_get l 0) (sym e) ∙ at in cc)
  first_value value (x ∷ xs) rows row e at all = let same : ◌≡◌ {A = Option R} (Some (encode x)) (Some row) = ap (λ l. slice_get l 0) (sym e) ∙ at in ap Some (all x cc)
