-- In a list whose order does not fall, the records that tie stand side by side: from the first that is not less on, as far as they tie.
use Rattle.std.proofs.Common.{◌≡◌, ℕ, zero, suc, ◌+◌, ◌<◌, ◌≤◌, Bool, true, false, ◌&&◌, cond, List, [], ◌∷◌, filter, find, take, drop, length, get_or, Some, None, refl, sym, ap, ap₂, subst, ◌∙◌, arith, true≢false, length-drop, Ordering, Less, Equal, Greater, is_eq, is_lt}
use Rattle.std.specs.List.{AllWithin}
use Rattle.std.specs.List.Sorted.{IsNonDecreasingBy, IsPartitionedBy, IsPartitionPoint, IsSortedByKey}
use Rattle.std.specs.Ordering.{ordering_index}
use Rattle.std.specs.Str.{bytes_eq}
use Rattle.std.proofs.lemmas.List.{get_or-drop, get_or_default, drop_more, drop_all}
use Rattle.std.proofs.lemmas.List.Sorted.{searchable_from_sorted}
use Rattle.std.proofs.lemmas.Map.Text.{is_eq-slice_cmp}
use Rattle.dh_world.specs.World.{text_cmp, pair_cmp}
use Rattle.dh_world.proofs.MapLemmas.{text_total, held_total, tied_pair}

module _ {X : Type 0} (test : X → Bool) where
  abbrev pub Fail : X → Type 0
  Fail x = test x ≡ false

  abbrev pub Pass : X → Type 0
  Pass x = test x ≡ true

  filter_skipped : (xs : List X) (n : ℕ) → AllWithin Fail xs 0 n → filter test xs ≡ filter test (drop n xs)
  filter_skipped [] zero out = refl
  filter_skipped [] (suc n) out = refl
  filter_skipped (x ∷ xs) zero out = refl
  filter_skipped (x ∷ xs) (suc n) out =
      ap (λ b. cond b (x ∷ filter test xs) (filter test xs)) (out 0 x (omega arith) (omega arith)) ∙ filter_skipped xs n (λ k d low within. out (suc k) d (omega arith) (omega arith))

  find_skipped : (xs : List X) (n : ℕ) → AllWithin Fail xs 0 n → find test xs ≡ find test (drop n xs)
  find_skipped [] zero out = refl
  find_skipped [] (suc n) out = refl
  find_skipped (x ∷ xs) zero out = refl
  find_skipped (x ∷ xs) (suc n) out =
      ap (λ b. cond b (Some x) (find test xs)) (out 0 x (omega arith) (omega arith)) ∙ find_skipped xs n (λ k d low within. out (suc k) d (omega arith) (omega arith))

  front_is_filter : (xs : List X) (n : ℕ) → AllWithin Pass xs 0 n → AllWithin Fail xs n (length xs) → take n xs ≡ filter test xs
  front_is_filter [] zero on out = refl
  front_is_filter [] (suc n) on out = refl
  front_is_filter (x ∷ xs) zero on out =
      front_is_filter xs zero (λ k d low within. absurd (omega arith)) (λ k d low within. out (suc k) d (omega arith) (omega arith))
      ∙ sym (ap (λ b. cond b (x ∷ filter test xs) (filter test xs)) (out 0 x (omega arith) (omega arith)))
  front_is_filter (x ∷ xs) (suc n) on out =
      ap (λ l. x ∷ l) (front_is_filter xs n (λ k d low within. on (suc k) d (omega arith) (omega arith)) (λ k d low within. out (suc k) d (omega arith) (omega arith)))
      ∙ sym (ap (λ b. cond b (x ∷ filter test xs) (filter test xs)) (on 0 x (omega arith) (omega arith)))

  find_none : (xs : List X) → AllWithin Fail xs 0 (length xs) → find test xs ≡ None
  find_none [] out = refl
  find_none (x ∷ xs) out =
      ap (λ b. cond b (Some x) (find test xs)) (out 0 x (omega arith) (omega arith)) ∙ find_none xs (λ k d low within. out (suc k) d (omega arith) (omega arith))

less_is_apart : (o : Ordering) → is_lt o ≡ true → is_eq o ≡ false
less_is_apart Less e = refl
less_is_apart Equal e = absurd (true≢false (sym e))
less_is_apart Greater e = refl

less_before : (p q : Ordering) → ordering_index p ≤ ordering_index q → is_lt q ≡ true → is_lt p ≡ true
less_before Less q h e = refl
less_before Equal Less h e = absurd (omega arith)
less_before Equal Equal h e = e
less_before Equal Greater h e = e
less_before Greater Less h e = absurd (omega arith)
less_before Greater Equal h e = e
less_before Greater Greater h e = e

tied_before : (p q : Ordering) → ordering_index p ≤ ordering_index q → is_lt p ≡ false → is_eq q ≡ true → is_eq p ≡ true
tied_before Less q h low e = absurd (true≢false low)
tied_before Equal q h low e = refl
tied_before Greater Less h low e = e
tied_before Greater Equal h low e = absurd (omega arith)
tied_before Greater Greater h low e = e

apart_behind : (p q : Ordering) → ordering_index p ≤ ordering_index q → is_lt p ≡ false → is_eq p ≡ false → is_eq q ≡ false
apart_behind Less q h low e = absurd (true≢false low)
apart_behind Equal q h low e = absurd (true≢false e)
apart_behind Greater Less h low e = refl
apart_behind Greater Equal h low e = absurd (omega arith)
apart_behind Greater Greater h low e = refl

module _ {X : Type 0} (order : X → Ordering) (test : X → Bool) (same : (x : X) → test x ≡ is_eq (order x)) (xs : List X) (up : IsNonDecreasingBy (λ x. ordering_index (order x)) xs) where
  pub less_first : IsPartitionedBy (λ x. is_lt (order x)) xs
  less_first = λ i j d before within less. less_before (order (get_or xs i d)) (order (get_or xs j d)) (up i j d before within) less

  module _ (n : ℕ) (lower : AllWithin (λ x. is_lt (order x) ≡ true) xs 0 n) (upper : AllWithin (λ x. is_lt (order x) ≡ false) xs n (length xs)) where
    skipped : AllWithin (Fail test) xs 0 n
    skipped = λ k d low within. same (get_or xs k d) ∙ less_is_apart (order (get_or xs k d)) (lower k d low within)

    within_rest : (j : ℕ) → j < length (drop n xs) → n + j < length xs
    within_rest j within = omega (arith, length-drop n xs)

    pub tied_first : IsPartitionedBy test (drop n xs)
    tied_first = λ i j d before within tied.
        let inside : n + j < length xs = within_rest j within in
        let there : test (get_or xs (n + j) d) ≡ true = ap test (sym (get_or-drop n xs j d)) ∙ tied in
        ap test (get_or-drop n xs i d) ∙ same (get_or xs (n + i) d)
        ∙ tied_before (order (get_or xs (n + i) d)) (order (get_or xs (n + j) d)) (up (n + i) (n + j) d (omega arith) inside) (upper (n + i) d (omega arith) (omega arith)) (sym (same (get_or xs (n + j) d)) ∙ there)

    -- the rest as it was lent
    pub run_is_filter : (rest : List X) (m : ℕ) → rest ≡ drop n xs → IsPartitionPoint (Pass test) (Fail test) rest m → take m rest ≡ filter test xs
    run_is_filter rest m is point =
        let there = subst (λ l. IsPartitionPoint (Pass test) (Fail test) l m) is point in
        ap (take m) is ∙ front_is_filter test (drop n xs) m there.0 there.1 ∙ sym (filter_skipped test xs n skipped)

    pub found_past : length xs ≤ n → find test xs ≡ None
    found_past end = find_skipped test xs n skipped ∙ ap (find test) (drop_all n xs end)

    pub found_there : (x : X) → n < length xs → x ≡ get_or xs n x → test x ≡ true → find test xs ≡ Some x
    found_there x within is here =
        let at : find test (drop n xs) ≡ find test (get_or xs n x ∷ drop (n + 1) xs) = ap (find test) (drop_more xs n x within) in
        find_skipped test xs n skipped ∙ at ∙ ap (λ y. find test (y ∷ drop (n + 1) xs)) (sym is) ∙ ap (λ b. cond b (Some x) (find test (drop (n + 1) xs))) here

    pub found_not : (x : X) → n < length xs → x ≡ get_or xs n x → test x ≡ false → find test xs ≡ None
    found_not x within is here =
        find_skipped test xs n skipped ∙ find_none test (drop n xs) (λ k d low inside.
        let later : n + k < length xs = within_rest k inside in
        let first : get_or xs n d ≡ x = get_or_default xs n d x within ∙ sym is in
        ap test (get_or-drop n xs k d) ∙ same (get_or xs (n + k) d)
        ∙ apart_behind (order (get_or xs n d)) (order (get_or xs (n + k) d)) (up n (n + k) d (omega arith) later) (upper n d (omega arith) within) (sym (same (get_or xs n d)) ∙ ap test first ∙ here))

-- ---- by hosts, and by hosts and names

module _ {X : Type 0} (host_of : X → List ℕ) (host : List ℕ) where
  abbrev pub by_host : X → Ordering
  by_host x = text_cmp (host_of x) host

  abbrev pub has_host : X → Bool
  has_host x = bytes_eq (host_of x) host

  pub host_ties : (x : X) → has_host x ≡ is_eq (by_host x)
  host_ties x = sym (is_eq-slice_cmp (host_of x) host)

  pub hosts_rise : (xs : List X) → IsSortedByKey host_of text_cmp xs → IsNonDecreasingBy (λ x. ordering_index (by_host x)) xs
  hosts_rise xs sorted = searchable_from_sorted text_total host_of xs host sorted

module _ {X : Type 0} (host_of name_of : X → List ℕ) (host name : List ℕ) where
  abbrev pub by_name : X → Ordering
  by_name x = pair_cmp text_cmp text_cmp (host_of x, name_of x) (host, name)

  abbrev pub has_name : X → Bool
  has_name x = bytes_eq (host_of x) host && bytes_eq (name_of x) name

  pub name_ties : (x : X) → has_name x ≡ is_eq (by_name x)
  name_ties x =
      sym (tied_pair text_cmp text_cmp (host_of x, name_of x) (host, name) ∙ ap₂ ◌&&◌ (is_eq-slice_cmp (host_of x) host) (is_eq-slice_cmp (name_of x) name))

  pub names_rise : (xs : List X) → IsSortedByKey (λ x. (host_of x, name_of x)) (pair_cmp text_cmp text_cmp) xs → IsNonDecreasingBy (λ x. ordering_index (by_name x)) xs
  names_rise xs sorted = searchable_from_sorted held_total (λ x. (host_of x, name_of x)) xs (host, name) sorted

  -- a name is found by halves
  module _ (xs : List X) (sorted : IsSortedByKey (λ x. (host_of x, name_of x)) (pair_cmp text_cmp text_cmp) xs) where
    pub names_parted : IsPartitionedBy (λ x. is_lt (by_name x)) xs
    names_parted = less_first by_name has_name name_ties xs (names_rise xs sorted)

    module _ (n : ℕ) (at : IsPartitionPoint (λ x. is_lt (by_name x) ≡ true) (λ x. is_lt (by_name x) ≡ false) xs n) where
      pub name_past : length xs ≤ n → find has_name xs ≡ None
      name_past = found_past by_name has_name name_ties xs (names_rise xs sorted) n at.0 at.1

      pub name_there : (x : X) → n < length xs → x ≡ get_or xs n x → has_name x ≡ true → find has_name xs ≡ Some x
      name_there = found_there by_name has_name name_ties xs (names_rise xs sorted) n at.0 at.1

      pub name_not : (x : X) → n < length xs → x ≡ get_or xs n x → has_name x ≡ false → find has_name xs ≡ None
      name_not = found_not by_name has_name name_ties xs (names_rise xs sorted) n at.0 at.1
