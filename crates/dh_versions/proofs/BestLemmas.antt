-- The best release so far, in one pass over the versions, and that the last one is `stable_of`.
use Rattle.std.proofs.Common.{◌≡◌, [], ◌∷◌, ◌⊎◌, inl, inr, ⊎_elim, ℕ, ◌+◌, ◌<◌, ◌≤◌, List, length, get_or, refl, sym, ◌∙◌, ap, subst, Bool, true, false, ◌&&◌, not, arith, Option, Some, None, option_map, position, is_some, cond, nat_lt}
use Rattle.std.proofs.lemmas.Bool.{false≢true, cases_Bool, cases_lt}
use Rattle.std.proofs.lemmas.Bool.Decides.{nat_tests}
use Rattle.std.proofs.lemmas.Cmp.{upto, tied_itself, nat_cmp_total, nat_list_cmp_total, on_total, then_total}
use Rattle.std.proofs.lemmas.List.Folds.{list_any_at, Any-from_list_any}
use Rattle.std.proofs.lemmas.List.Sums.{position_or_len_is}
use Rattle.std.specs.List.{AllWithin, list_any, position_or_len}
use Rattle.std.specs.Cmp.{IsTotalOrder}
use Rattle.std.specs.Ordering.{is_gt, ordering_reverse}
use Rattle.std.specs.declared.cmp.Ordering.{Ordering}
use Rattle.std.specs.declared.cmp.Ordering.TheVariants.{Less, Equal, Greater}
use Rattle.dh_versions.specs.Release.{Numbers, release_of}
use Rattle.dh_versions.specs.Aliases.{Rank, rank_cmp, rank_of, ranked_as, outranks, is_release, is_above, stable_of}
use Rattle.dh_versions.specs.declared.version.Version.{Version}

-- ranks are in a total order
rank_total : IsTotalOrder rank_cmp
rank_total = then_total (on_total (λ (r : Rank). r.0) (then_total (then_total (on_total (λ (n : Numbers). n.0) nat_cmp_total) (on_total (λ (n : Numbers). n.1) nat_cmp_total)) (on_total (λ (n : Numbers). n.2) nat_cmp_total))) (on_total (λ (r : Rank). r.1) nat_list_cmp_total)

not_both : (o : Ordering) → is_gt o ≡ true → is_gt (ordering_reverse o) ≡ false
not_both Less h = absurd (false≢true h)
not_both Equal h = absurd (false≢true h)
not_both Greater h = refl

-- none is above itself
pub outranks_itself : (x : Rank) → outranks (Some x) (Some x) ≡ false
outranks_itself x = ap is_gt (tied_itself rank_total x)

-- what is above another is not below it
pub outranks_one_way : (x y : Rank) → outranks (Some x) (Some y) ≡ true → outranks (Some y) (Some x) ≡ false
outranks_one_way x y h = ap is_gt (rank_total.antisymm y x) ∙ not_both (rank_cmp x y) h

-- what is above the top is above all that are not
pub above_rest : (x top y : Rank) → outranks (Some x) (Some top) ≡ true → outranks (Some y) (Some top) ≡ false → outranks (Some x) (Some y) ≡ true
above_rest x top y h g = ⊎_elim (λ e. e) (λ n. absurd (false≢true (sym (upto rank_total x y top n g) ∙ h))) (cases_Bool (outranks (Some x) (Some y)))

-- at b stands a release of this rank, which none of the first n is above and which is above each release before it
pub record IsBestAt (xs : List Version) (n b : ℕ) (top : Rank) : Type 0 where
  pub within : b < n
  pub ranked : (d : Version) → rank_of (get_or xs b d) ≡ Some top
  pub unbeaten : AllWithin (λ v. outranks (rank_of v) (Some top) ≡ false) xs 0 n
  pub earlier : AllWithin (λ v. (rank_of v ≡ None) ⊎ (outranks (Some top) (rank_of v) ≡ true)) xs 0 b

-- among the first n, none is a release, or the best is at that place with those numbers
abbrev pub IsBest : List Version → ℕ → Option (ℕ × Numbers) → Type 0
IsBest xs n None = AllWithin (λ v. rank_of v ≡ None) xs 0 n
IsBest xs n (Some p) = (slug : List ℕ) × IsBestAt xs n p.0 (p.1, slug)

within_more : (P : Version → Type 0) (xs : List Version) (n : ℕ) (x : Version) → ((d : Version) → get_or xs n d ≡ x) → AllWithin P xs 0 n → P x → AllWithin P xs 0 (n + 1)
within_more P xs n x at all here = λ k d low below.
    ⊎_elim (λ less. all k d low less) (λ same. subst (λ (v : Version). P v) (sym (ap (λ j. get_or xs j d) same ∙ at d)) here) (last_or_before k n below)
  where
    last_or_before : (k n : ℕ) → k < n + 1 → (k < n) ⊎ (k ≡ n)
    last_or_before k n h = ⊎_elim (λ less. inl less) (λ (le : n ≤ k). inr (omega arith)) (cases_lt k n)

-- a version that is no release changes nothing
pub best_skips : (xs : List Version) (n : ℕ) (best : Option (ℕ × Numbers)) (x : Version) → ((d : Version) → get_or xs n d ≡ x) →
    rank_of x ≡ None → IsBest xs n best → IsBest xs (n + 1) best
best_skips xs n None x at none h = within_more (λ v. rank_of v ≡ None) xs n x at h none
best_skips xs n (Some p) x at none (slug, h) = (
  slug,
  record {
    within = let below : p.0 < n = h.within in omega arith;
    ranked = h.ranked;
    unbeaten = within_more (λ v. outranks (rank_of v) (Some (p.1, slug)) ≡ false) xs n x at h.unbeaten (ap (λ (o : Option Rank). outranks o (Some (p.1, slug))) none);
    earlier = h.earlier;
  },
)

-- the first release is the best so far
pub best_starts : (xs : List Version) (n : ℕ) (x : Version) (numbers : Numbers) → ((d : Version) → get_or xs n d ≡ x) →
    rank_of x ≡ Some (numbers, x.slug) → IsBest xs n None → IsBest xs (n + 1) (Some (n, numbers))
best_starts xs n x numbers at ranked h = (
  x.slug,
  record {
    within = omega arith;
    ranked = λ d. ap (λ (v : Version). rank_of v) (at d) ∙ ranked;
    unbeaten = within_more (λ v. outranks (rank_of v) (Some (numbers, x.slug)) ≡ false) xs n x at
        (λ k d low below. ap (λ (o : Option Rank). outranks o (Some (numbers, x.slug))) (h k d low below))
        (ap (λ (o : Option Rank). outranks o (Some (numbers, x.slug))) ranked ∙ outranks_itself (numbers, x.slug));
    earlier = λ k d low below. inl (h k d low below);
  },
)

-- a release that is not above the best changes nothing
pub best_stays : (xs : List Version) (n : ℕ) (p : ℕ × Numbers) (x : Version) (r : Rank) (slug : List ℕ) → ((d : Version) → get_or xs n d ≡ x) →
    rank_of x ≡ Some r → outranks (Some r) (Some (p.1, slug)) ≡ false → IsBestAt xs n p.0 (p.1, slug) → IsBest xs (n + 1) (Some p)
best_stays xs n p x r slug at ranked below h = (
  slug,
  record {
    within = let before : p.0 < n = h.within in omega arith;
    ranked = h.ranked;
    unbeaten = within_more (λ v. outranks (rank_of v) (Some (p.1, slug)) ≡ false) xs n x at h.unbeaten (ap (λ (o : Option Rank). outranks o (Some (p.1, slug))) ranked ∙ below);
    earlier = h.earlier;
  },
)

-- a release that is above the best is above all before it
above_all : (x top : Rank) (o : Option Rank) → outranks (Some x) (Some top) ≡ true → outranks o (Some top) ≡ false → (o ≡ None) ⊎ (outranks (Some x) o ≡ true)
above_all x top None h g = inl refl
above_all x top (Some y) h g = inr (above_rest x top y h g)

not_above : (x : Rank) (o : Option Rank) → (o ≡ None) ⊎ (outranks (Some x) o ≡ true) → outranks o (Some x) ≡ false
not_above x None h = refl
not_above x (Some y) h = ⊎_elim (λ e. absurd cc) (λ g. outranks_one_way x y g) h

-- a release that is above the best takes its place
pub best_moves : (xs : List Version) (n : ℕ) (p : ℕ × Numbers) (x : Version) (numbers : Numbers) (slug : List ℕ) → ((d : Version) → get_or xs n d ≡ x) →
    rank_of x ≡ Some (numbers, x.slug) → outranks (Some (numbers, x.slug)) (Some (p.1, slug)) ≡ true → IsBestAt xs n p.0 (p.1, slug) → IsBest xs (n + 1) (Some (n, numbers))
best_moves xs n p x numbers slug at ranked above h =
    let passed : AllWithin (λ v. (rank_of v ≡ None) ⊎ (outranks (Some (numbers, x.slug)) (rank_of v) ≡ true)) xs 0 n =
    λ k d low below. above_all (numbers, x.slug) (p.1, slug) (rank_of (get_or xs k d)) above (h.unbeaten k d low below) in (
      x.slug,
      record {
        within = omega arith;
        ranked = λ d. ap (λ (v : Version). rank_of v) (at d) ∙ ranked;
        unbeaten = within_more (λ v. outranks (rank_of v) (Some (numbers, x.slug)) ≡ false) xs n x at
            (λ k d low below. not_above (numbers, x.slug) (rank_of (get_or xs k d)) (passed k d low below))
            (ap (λ (o : Option Rank). outranks o (Some (numbers, x.slug))) ranked ∙ outranks_itself (numbers, x.slug));
        earlier = passed;
      },
    )

-- the test of `stable_of`
abbrev is_first : List Version → Version → Bool
is_first xs v = is_release v && not (list_any (λ w. is_above w v) xs)

not_first_none : (xs : List Version) (v : Version) → rank_of v ≡ None → is_first xs v ≡ false
not_first_none xs v e = ap (λ (o : Option Rank). is_some o && not (list_any (λ w. is_above w v) xs)) e

not_first_below : (xs : List Version) (v : Version) → list_any (λ w. is_above w v) xs ≡ true → is_first xs v ≡ false
not_first_below xs v e = ap (λ (b : Bool). is_release v && not b) e ∙ and_false (is_release v)
  where
    and_false : (b : Bool) → (b && false) ≡ false
    and_false true = refl
    and_false false = refl

-- none of a list is above a release that none outranks
none_above : (xs : List Version) (v : Version) (top : Rank) → rank_of v ≡ Some top → AllWithin (λ w. outranks (rank_of w) (Some top) ≡ false) xs 0 (length xs) → list_any (λ w. is_above w v) xs ≡ false
none_above xs v top e all = ⊎_elim (λ yes. absurd (beaten (Any-from_list_any (λ w. is_above w v) xs yes))) (λ no. no) (cases_Bool (list_any (λ w. is_above w v) xs))
  where
    beaten : (k : ℕ) × (x : Version) × (k < length xs) × (get_or xs k x ≡ x) × (is_above x v ≡ true) → ⊥
    beaten h =
        let free : outranks (rank_of (get_or xs h.0 h.1)) (Some top) ≡ false = all h.0 h.1 (omega arith) h.2 in
        let seen : outranks (rank_of h.1) (Some top) ≡ true = ap (λ (o : Option Rank). outranks (rank_of h.1) o) (sym e) ∙ h.4 in
        absurd (false≢true (sym free ∙ (ap (λ (w : Version). outranks (rank_of w) (Some top)) h.3 ∙ seen)))

place_found : (p : Version → Bool) (xs : List Version) (i : ℕ) → i < length xs → position_or_len p xs ≡ i → position p xs ≡ Some i
place_found p xs i below e = let test : nat_lt i (length xs) ≡ true = grind (arith, nat_tests) in
    ap (λ j. cond (nat_lt j (length xs)) (Some j) None) e ∙ ap (λ (b : Bool). cond b (Some i) None) test

no_place : (p : Version → Bool) (xs : List Version) → position_or_len p xs ≡ length xs → position p xs ≡ None
no_place p xs e = let test : nat_lt (length xs) (length xs) ≡ false = grind (arith, nat_tests) in
    ap (λ j. cond (nat_lt j (length xs)) (Some j) None) e ∙ ap (λ (b : Bool). cond b (Some (length xs)) None) test

best_is_first : (xs : List Version) (d : Version) (best : Option (ℕ × Numbers)) → IsBest xs (length xs) best → option_map (λ (p : ℕ × Numbers). p.0) best ≡ stable_of xs
best_is_first xs d None h =
    sym (no_place (is_first xs) xs (position_or_len_is (is_first xs) xs (length xs) d (omega arith)
    (λ k below. not_first_none xs (get_or xs k d) (h k d (omega arith) below)) (λ wrong. absurd (omega arith))))
best_is_first xs d (Some p) (slug, h) =
    sym (place_found (is_first xs) xs p.0 h.within (position_or_len_is (is_first xs) xs p.0 d (let below : p.0 < length xs = h.within in omega arith)
    (λ k below. ⊎_elim (λ none. not_first_none xs (get_or xs k d) none)
    (λ above. not_first_below xs (get_or xs k d) (list_any_at (λ w. is_above w (get_or xs k d)) xs p.0 d h.within
    (ap (λ (o : Option Rank). outranks o (rank_of (get_or xs k d))) (h.ranked d) ∙ above)))
    (h.earlier k d (omega arith) below))
    (λ _. ap (λ (o : Option Rank). is_some o && not (list_any (λ w. is_above w (get_or xs p.0 d)) xs)) (h.ranked d)
    ∙ ap not (none_above xs (get_or xs p.0 d) (p.1, slug) (h.ranked d) h.unbeaten))))

-- the best of all is the first release that no member is above
pub best_is_stable : (xs : List Version) (best : Option (ℕ × Numbers)) → IsBest xs (length xs) best → option_map (λ (p : ℕ × Numbers). p.0) best ≡ stable_of xs
best_is_stable [] None h = refl
best_is_stable [] (Some p) (slug, h) = let below : p.0 < 0 = h.within in absurd (omega arith)
best_is_stable (x ∷ rest) best h = best_is_first (x ∷ rest) x best h

slug_of_rank : (o : Option Numbers) (slug : List ℕ) (r : Rank) → ranked_as o slug ≡ Some r → slug ≡ r.1
slug_of_rank None slug r e = absurd cc
slug_of_rank (Some n) slug r e = cc

-- a release beside the best so far: the higher of the two is the best
pub best_compares : (xs : List Version) (n : ℕ) (p : ℕ × Numbers) (x : Version) (numbers : Numbers) (d : Version) (slug : List ℕ) (leads : Bool) (best : Option (ℕ × Numbers)) →
    ((e : Version) → get_or xs n e ≡ x) → rank_of x ≡ Some (numbers, x.slug) → slug ≡ (get_or xs p.0 d).slug →
    leads ≡ outranks (Some (numbers, x.slug)) (Some (p.1, slug)) → IsBest xs n (Some p) →
    (leads ≡ true → best ≡ Some (n, numbers)) → (leads ≡ false → best ≡ Some p) → IsBest xs (n + 1) best
best_compares xs n p x numbers d slug leads best at ranked same test (top, h) moved stayed =
    let tops : slug ≡ top = same ∙ slug_of_rank (release_of (get_or xs p.0 d).kind (get_or xs p.0 d).name) (get_or xs p.0 d).slug (p.1, top) (h.ranked d) in
    let outcome : leads ≡ outranks (Some (numbers, x.slug)) (Some (p.1, top)) = test ∙ ap (λ (s : List ℕ). outranks (Some (numbers, x.slug)) (Some (p.1, s))) tops in
    ⊎_elim (λ yes. subst (λ (b : Option (ℕ × Numbers)). IsBest xs (n + 1) b) (sym (moved yes)) (best_moves xs n p x numbers top at ranked (sym outcome ∙ yes) h))
    (λ no. subst (λ (b : Option (ℕ × Numbers)). IsBest xs (n + 1) b) (sym (stayed no)) (best_stays xs n p x (numbers, x.slug) top at ranked (sym outcome ∙ no) h))
    (cases_Bool leads)
