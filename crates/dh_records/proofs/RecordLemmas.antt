-- Records that are added, put and dropped: what is found of them afterwards, and the map of the records of one host.
use Rattle.std.proofs.Common.{◌≡◌, ◌≤◌, ◌+◌, Bool, true, false, not, ◌&&◌, cond, List, [], ◌∷◌, ◌++◌, map, filter, find, length, Option, Some, None, refl, sym, ap, ap₂, ◌∙◌, subst, arith, true≢false, Ordering, Less, Greater, is_gt, is_eq}
use Rattle.std.specs.Prelude.{option_map}
use Rattle.std.specs.List.{AllByRecursion}
use Rattle.std.specs.Str.{bytes_eq}
use Rattle.std.specs.Ordering.{eq_by_cmp}
use Rattle.std.specs.Cmp.{IsTotalOrder}
use Rattle.std.specs.FinMap.{FinMap, IsAntisymmetric, empty, get, insert, retain_keys, from_entries, get-from_entries, get-insert, get-retain_keys, same_map}
use Rattle.std.proofs.lemmas.Bool.{and_parts, and_from, and_right, false_from_ne_true}
use Rattle.std.proofs.lemmas.Cmp.{tied_itself}
use Rattle.std.proofs.lemmas.Slice.Eq.{bytes_eq-Decides}
use Rattle.sqlite_value.specs.Order.{Row}
use Rattle.sqlite_trees.specs.Tree.{IsAscending}
use Rattle.sqlite_keyed.specs.Lists.{insert_sorted}
use Rattle.sqlite_keyed.proofs.ListLemmas.{all_weaker, all-filter, filter_none}
use Rattle.dh_rows.specs.Keyed.{by_key, same_key, IsFreeKey, added, put}
use Rattle.dh_world.specs.World.{Text}
use Rattle.dh_records.specs.Lists.{of_host}
use Rattle.dh_world.proofs.MapLemmas.{found_in, find_in_filter, find_same}

-- ---- what a search finds

pub none_found : {A : Type 0} (t : A → Bool) (rows : List A) → find t rows ≡ None → AllByRecursion (λ y. t y ≡ false) rows
none_found t [] e = tt
none_found t (y ∷ rows) e = go (t y) refl e (none_found t rows)
  where
    go : (b : Bool) → t y ≡ b → cond b (Some y) (find t rows) ≡ None → (find t rows ≡ None → AllByRecursion (λ z. t z ≡ false) rows) → AllByRecursion (λ z. t z ≡ false) (y ∷ rows)
    go true p f more = absurd (cc)
    go false p f more = (p, more f)

pub found_none : {A : Type 0} (t : A → Bool) (rows : List A) → AllByRecursion (λ y. t y ≡ false) rows → find t rows ≡ None
found_none t [] none = refl
found_none t (y ∷ rows) none = rw none.0 (found_none t rows none.1)

pub found_passes : {A : Type 0} (t : A → Bool) (rows : List A) (x : A) → find t rows ≡ Some x → t x ≡ true
found_passes t [] x e = absurd (cc)
found_passes t (y ∷ rows) x e = go (t y) refl e (found_passes t rows x)
  where
    go : (b : Bool) → t y ≡ b → cond b (Some y) (find t rows) ≡ Some x → (find t rows ≡ Some x → t x ≡ true) → t x ≡ true
    go true p f more = let same : y ≡ x = cc in subst (λ z. t z ≡ true) same p
    go false p f more = more f

pub all_that : {A : Type 0} (P : A → Type 0) (p : A → Bool) → ((y : A) → p y ≡ true → P y) → (rows : List A) → AllByRecursion P (filter p rows)
all_that P p h [] = tt
all_that P p h (y ∷ rows) = go (p y) refl (all_that P p h rows)
  where
    go : (b : Bool) → p y ≡ b → AllByRecursion P (filter p rows) → AllByRecursion P (cond b (y ∷ filter p rows) (filter p rows))
    go true e more = (h y e, more)
    go false e more = more

pub each_passes : {A : Type 0} (p : A → Bool) (rows : List A) → AllByRecursion (λ y. p y ≡ true) (filter p rows)
each_passes p rows = all_that _ p (λ y e. e) rows

-- of those that pass a test none is left once they are taken out
pub taken_out : {A : Type 0} (t : A → Bool) (rows : List A) → AllByRecursion (λ y. t y ≡ false) (filter (λ y. not (t y)) rows)
taken_out t rows = all_that (λ y. t y ≡ false) (λ y. not (t y)) (λ y out. false_from_ne_true _ (λ e. true≢false (sym out ∙ ap not e))) rows

-- ---- a record is added

pub all_added : {A : Type 0} (P : A → Type 0) (cmp : A → A → Ordering) (x : A) (rows : List A) → P x → AllByRecursion P rows → AllByRecursion P (insert_sorted cmp x rows)
all_added P cmp x [] h all = (h, tt)
all_added P cmp x (y ∷ rows) h all = go (is_gt (cmp x y)) (all_added P cmp x rows h all.1)
  where
    go : (b : Bool) → AllByRecursion P (insert_sorted cmp x rows) → AllByRecursion P (cond b (y ∷ insert_sorted cmp x rows) (x ∷ y ∷ rows))
    go true more = (all.0, more)
    go false more = (h, all)

pub find_added : {A : Type 0} (cmp : A → A → Ordering) (t : A → Bool) (x : A) (rows : List A) → (t x ≡ true → AllByRecursion (λ y. t y ≡ false) rows)
    → find t (insert_sorted cmp x rows) ≡ cond (t x) (Some x) (find t rows)
find_added cmp t x [] none = refl
find_added cmp t x (y ∷ rows) none = go (is_gt (cmp x y)) (t x) (t y) refl refl (find_added cmp t x rows (λ e. (none e).1))
  where
    go : (g b d : Bool) → t x ≡ b → t y ≡ d → find t (insert_sorted cmp x rows) ≡ cond (t x) (Some x) (find t rows)
        → find t (cond g (y ∷ insert_sorted cmp x rows) (x ∷ y ∷ rows)) ≡ cond (t x) (Some x) (cond (t y) (Some y) (find t rows))
    go false b d p q more = refl
    go true true true p q more = absurd (true≢false (sym q ∙ (none p).0))
    go true false true p q more = rw (p, q) refl
    go true b false p q more = rw q more

-- ---- those that pass a test, after a record is added

pub none_but_added : {A : Type 0} (cmp : A → A → Ordering) (p : A → Bool) (x : A) (rows : List A) → p x ≡ true → AllByRecursion (λ y. p y ≡ false) rows → filter p (insert_sorted cmp x rows) ≡ x ∷ []
none_but_added cmp p x [] here none = rw here refl
none_but_added cmp p x (y ∷ rows) here none = go (is_gt (cmp x y)) (none_but_added cmp p x rows here none.1)
  where
    go : (g : Bool) → filter p (insert_sorted cmp x rows) ≡ x ∷ [] → filter p (cond g (y ∷ insert_sorted cmp x rows) (x ∷ y ∷ rows)) ≡ x ∷ []
    go true more = rw none.0 more
    go false more = rw (here, none.0, filter_none p rows none.1) refl

pub added_elsewhere : {A : Type 0} (cmp : A → A → Ordering) (p : A → Bool) (x : A) (rows : List A) → p x ≡ false → filter p (insert_sorted cmp x rows) ≡ filter p rows
added_elsewhere cmp p x [] out = rw out refl
added_elsewhere cmp p x (y ∷ rows) out = go (is_gt (cmp x y)) (added_elsewhere cmp p x rows out)
  where
    go : (g : Bool) → filter p (insert_sorted cmp x rows) ≡ filter p rows → filter p (cond g (y ∷ insert_sorted cmp x rows) (x ∷ y ∷ rows)) ≡ filter p (y ∷ rows)
    go true more = ap (λ l. cond (p y) (y ∷ l) l) more
    go false more = rw out refl

-- one record more is at most one more that passes
pub count_added : {A : Type 0} (cmp : A → A → Ordering) (p : A → Bool) (x : A) (rows : List A) → length (filter p (insert_sorted cmp x rows)) ≤ length (filter p rows) + 1
count_added {A} cmp p x rows = each rows
  where
    in_front : (b : Bool) (ys : List A) → length (cond b (x ∷ ys) ys) ≤ length ys + 1
    in_front true ys = omega arith
    in_front false ys = omega arith

    behind : (b : Bool) (y : A) (xs ys : List A) → length xs ≤ length ys + 1 → length (cond b (y ∷ xs) xs) ≤ length (cond b (y ∷ ys) ys) + 1
    behind true y xs ys h = omega arith
    behind false y xs ys h = h

    each : (rows : List A) → length (filter p (insert_sorted cmp x rows)) ≤ length (filter p rows) + 1
    each [] = in_front (p x) []
    each (y ∷ rows) = go (is_gt (cmp x y)) (each rows)
      where
        go : (g : Bool) → length (filter p (insert_sorted cmp x rows)) ≤ length (filter p rows) + 1 → length (filter p (cond g (y ∷ insert_sorted cmp x rows) (x ∷ y ∷ rows))) ≤ length (filter p (y ∷ rows)) + 1
        go true more = behind (p y) y (filter p (insert_sorted cmp x rows)) (filter p rows) more
        go false more = in_front (p x) (filter p (y ∷ rows))

-- of fewer records no more pass
pub count_kept : {A : Type 0} (p keep : A → Bool) (rows : List A) → length (filter p (filter keep rows)) ≤ length (filter p rows)
count_kept p keep [] = omega arith
count_kept {A} p keep (y ∷ rows) = go (keep y) (count_kept p keep rows)
  where
    beside : (b : Bool) (xs ys : List A) → length xs ≤ length ys → length (cond b (y ∷ xs) xs) ≤ length (cond b (y ∷ ys) ys)
    beside true xs ys h = omega arith
    beside false xs ys h = h

    without : (b : Bool) (xs ys : List A) → length xs ≤ length ys → length xs ≤ length (cond b (y ∷ ys) ys)
    without true xs ys h = omega arith
    without false xs ys h = h

    go : (k : Bool) → length (filter p (filter keep rows)) ≤ length (filter p rows) → length (filter p (cond k (y ∷ filter keep rows) (filter keep rows))) ≤ length (filter p (y ∷ rows))
    go true more = beside (p y) (filter p (filter keep rows)) (filter p rows) more
    go false more = without (p y) (filter p (filter keep rows)) (filter p rows) more

module _ {A : Type 0} (cmp : A → A → Ordering) (total : IsTotalOrder cmp) where
  above_rest : (x y : A) (rows : List A) → is_gt (cmp x y) ≡ false → AllByRecursion (λ z. cmp y z ≡ Less) rows → AllByRecursion (λ z. is_gt (cmp x z) ≡ false) rows
  above_rest x y rows e low = all_weaker _ (λ z. is_gt (cmp x z) ≡ false) (λ z l. Rattle.std.specs.Cmp.upto total x y z e (ap is_gt l)) rows low

  -- what is above all that pass stands behind them
  pub added_last : (p : A → Bool) (x : A) (rows : List A) → IsAscending (λ y z. cmp y z ≡ Less) rows → p x ≡ true → AllByRecursion (λ y. p y ≡ true → cmp x y ≡ Greater) rows
      → filter p (insert_sorted cmp x rows) ≡ filter p rows ++ x ∷ []
  added_last p x [] up here above = rw here refl
  added_last p x (y ∷ rows) up here above = go (is_gt (cmp x y)) refl (added_last p x rows up.1 here above.1)
    where
      none : is_gt (cmp x y) ≡ false → AllByRecursion (λ z. p z ≡ false) (y ∷ rows)
      none e = Rattle.sqlite_keyed.proofs.ListLemmas.all_both _ (λ z. is_gt (cmp x z) ≡ false) (λ z. p z ≡ false) (λ z f g. false_from_ne_true (p z) (λ h. true≢false (sym (ap is_gt (f h)) ∙ g))) (y ∷ rows) above (e, above_rest x y rows e up.0)

      go : (g : Bool) → is_gt (cmp x y) ≡ g → filter p (insert_sorted cmp x rows) ≡ filter p rows ++ x ∷ [] → filter p (cond g (y ∷ insert_sorted cmp x rows) (x ∷ y ∷ rows)) ≡ filter p (y ∷ rows) ++ x ∷ []
      go true e more = within (p y) more
        where
          within : (b : Bool) → filter p (insert_sorted cmp x rows) ≡ filter p rows ++ x ∷ [] → cond b (y ∷ filter p (insert_sorted cmp x rows)) (filter p (insert_sorted cmp x rows)) ≡ cond b (y ∷ filter p rows) (filter p rows) ++ x ∷ []
          within true f = ap (λ l. y ∷ l) f
          within false f = f
      go false e more = rw (here, filter_none p (y ∷ rows) (none e)) refl

-- ---- a record is put

module _ {A : Type 0} (code : A → Row) where
  pub all_put : (P : A → Type 0) (x : A) (rows : List A) → P x → AllByRecursion P rows → AllByRecursion P (put code x rows)
  all_put P x rows h all = all_added P (by_key code) x _ h (all-filter P _ rows all)

  -- with no record of its key to take out, to put is to add
  pub put_free : (x : A) (rows : List A) → IsFreeKey code x rows → put code x rows ≡ added code x rows
  put_free x rows free = ap (added code x) (Rattle.sqlite_keyed.proofs.ListLemmas.filter_all _ rows (all_weaker _ (λ y. not (same_key code x y) ≡ true) (λ y e. ap not e) rows free))

  module _ (t : A → Bool) (x : A) (alike : (y : A) → same_key code x y ≡ true → t y ≡ t x) (only : (y : A) → t x ≡ true → t y ≡ true → same_key code x y ≡ true) where
    none_left : (rows : List A) → t x ≡ true → AllByRecursion (λ y. t y ≡ false) (filter (λ y. not (same_key code x y)) rows)
    none_left rows here = all_weaker _ (λ y. t y ≡ false) (λ y apart. false_from_ne_true (t y) (λ e. true≢false (sym (only y here e) ∙ apart))) _ (taken_out (same_key code x) rows)

    passed : t x ≡ false → (y : A) → (not (same_key code x y) && t y) ≡ t y
    passed out y = go (same_key code x y) refl
      where
        go : (b : Bool) → same_key code x y ≡ b → (not b && t y) ≡ t y
        go true e = sym (alike y e ∙ out)
        go false e = refl

    pub find_put : (rows : List A) → find t (put code x rows) ≡ cond (t x) (Some x) (find t rows)
    find_put rows = find_added (by_key code) t x _ (none_left rows) ∙ go (t x) refl
      where
        go : (b : Bool) → t x ≡ b → cond b (Some x) (find t (filter (λ y. not (same_key code x y)) rows)) ≡ cond b (Some x) (find t rows)
        go true e = refl
        go false e = find_in_filter (λ y. not (same_key code x y)) t rows ∙ find_same _ t (passed e) rows

-- ---- one host and the others

-- what holds of one host, and of each other
pub of_each_host : (P : Text → Type 0) (host : Text) → P host → ((name : Text) → bytes_eq host name ≡ false → P name) → (name : Text) → P name
of_each_host P host here there name = go (bytes_eq host name) refl
  where
    go : (b : Bool) → bytes_eq host name ≡ b → P name
    go true e = subst P ((bytes_eq-Decides host name).0 e) here
    go false e = there name e

-- ---- the map of the records of a host

mapped : {A X : Type 0} (f : A → X) (b : Bool) (x : A) (o : Option A) → option_map f (cond b (Some x) o) ≡ cond b (Some (f x)) (option_map f o)
mapped f true x o = refl
mapped f false x o = refl

-- How the records of one host make a map: where each stands in it, and its value there.
pub record MapOf {K : Type 0} (A X : Type 0) (R : K → K → Ordering) : Type 0 where
  pub total : IsTotalOrder R
  pub exact : IsAntisymmetric R
  pub code : A → Row
  pub host_of : A → Text
  pub place : A → K
  pub value : A → X
  pub same : (x y : A) → same_key code x y ≡ (bytes_eq (host_of y) (host_of x) && eq_by_cmp R (place x) (place y))

module _ {A K X : Type 0} {R : K → K → Ordering} (k : MapOf A X R) where
  open k use {total, exact, code, host_of, place as key, value, same}

  abbrev pub map_of : List A → Text → FinMap R X
  map_of rows host = from_entries (map (λ a. (key a, value a)) (of_host host_of host rows))

  pub kept_none : (host : Text) (rows : List A) → AllByRecursion (λ a. bytes_eq (host_of a) host ≡ false) rows → map_of rows host ≡ empty
  kept_none host rows none = ap (λ l. from_entries (map (λ a. (key a, value a)) l)) (filter_none _ rows none)

  abbrev pub is_at : Text → K → A → Bool
  is_at host q a = bytes_eq (host_of a) host && eq_by_cmp R q (key a)

  get_kept : (host : Text) (rows : List A) (q : K) → get (map_of rows host) q ≡ option_map value (find (is_at host q) rows)
  get_kept host rows q =
      get-from_entries total _ q ∙ found_in R key value q (λ a. eq_by_cmp R q (key a)) (λ a. refl) (of_host host_of host rows)
      ∙ ap (option_map value) (find_in_filter (λ a. bytes_eq (host_of a) host) (λ a. eq_by_cmp R q (key a)) rows)

  -- by a test that is of the host and of the key
  pub get_by : (host : Text) (q : K) (test : A → Bool) → ((a : A) → is_at host q a ≡ test a) → (rows : List A) → get (map_of rows host) q ≡ option_map value (find test rows)
  get_by host q test same rows = get_kept host rows q ∙ ap (option_map value) (find_same _ _ same rows)

  tied : (x y : K) → eq_by_cmp R x y ≡ true → x ≡ y
  tied x y e = exact x y ((Rattle.std.specs.Cmp.Equal-is (R x y)).0 e)

  alike : (x y : A) (host : Text) (q : K) → same_key code x y ≡ true → is_at host q y ≡ is_at host q x
  alike x y host q e =
      let both = and_parts _ _ (sym (same x y) ∙ e) in
      let hosts = (bytes_eq-Decides (host_of y) (host_of x)).0 both.0 in
      let keys = tied (key x) (key y) both.1 in
      ap₂ (λ h k. bytes_eq h host && eq_by_cmp R q k) hosts (sym keys)

  only : (x y : A) (host : Text) (q : K) → is_at host q x ≡ true → is_at host q y ≡ true → same_key code x y ≡ true
  only x y host q here there =
      let one = and_parts _ _ here in
      let two = and_parts _ _ there in
      let hosts = (bytes_eq-Decides (host_of y) host).0 two.0 ∙ sym ((bytes_eq-Decides (host_of x) host).0 one.0) in
      let keys = sym (tied q (key x) one.1) ∙ tied q (key y) two.1 in
      same x y ∙ and_from _ _ ((bytes_eq-Decides (host_of y) (host_of x)).1 hosts) (subst (λ k. eq_by_cmp R (key x) k ≡ true) keys (ap is_eq (tied_itself total (key x))))

  get_put : (x : A) (host : Text) (rows : List A) (q : K) → get (map_of (put code x rows) host) q ≡ cond (is_at host q x) (Some (value x)) (get (map_of rows host) q)
  get_put x host rows q =
      get_kept host (put code x rows) q ∙ ap (option_map value) (find_put code (is_at host q) x (λ y. alike x y host q) (λ y. only x y host q) rows)
      ∙ mapped value (is_at host q x) x _ ∙ ap (cond (is_at host q x) (Some (value x))) (sym (get_kept host rows q))

  -- a record of this host is put
  pub put_here : (x : A) (host : Text) (rows : List A) → host_of x ≡ host → map_of (put code x rows) host ≡ insert (map_of rows host) (key x) (value x)
  put_here x host rows e = same_map total exact _ _ (λ q. get_put x host rows q
      ∙ ap (λ b. cond (b && eq_by_cmp R q (key x)) (Some (value x)) (get (map_of rows host) q)) ((bytes_eq-Decides (host_of x) host).1 e)
      ∙ sym (get-insert total (map_of rows host) (key x) (value x) q))

  -- a record of another host is put
  pub put_there : (x : A) (host : Text) (rows : List A) → bytes_eq (host_of x) host ≡ false → map_of (put code x rows) host ≡ map_of rows host
  put_there x host rows e = same_map total exact _ _ (λ q. get_put x host rows q
      ∙ ap (λ b. cond (b && eq_by_cmp R q (key x)) (Some (value x)) (get (map_of rows host) q)) e)

  -- the records of one host whose keys pass a test are dropped
  module _ (home : Text) (test : A → Bool) (p : K → Bool) (as_key : (a : A) → test a ≡ (bytes_eq (host_of a) home && p (key a))) where
    -- what is at a key is dropped or kept as the key says
    at_key : (host : Text) (q : K) (a : A) → (not (test a) && is_at host q a) ≡ (not (bytes_eq host home && p q) && is_at host q a)
    at_key host q a = go (is_at host q a) refl
      where
        go : (b : Bool) → is_at host q a ≡ b → (not (test a) && b) ≡ (not (bytes_eq host home && p q) && b)
        go false e = and_right (not (test a)) false refl ∙ sym (and_right (not (bytes_eq host home && p q)) false refl)
        go true e =
            let both = and_parts _ _ e in
            ap (λ t. not t && true) (as_key a ∙ ap₂ (λ h k. bytes_eq h home && p k) ((bytes_eq-Decides (host_of a) host).0 both.0) (sym (tied q (key a) both.1)))

    get_dropped : (host : Text) (rows : List A) (q : K) → get (map_of (filter (λ a. not (test a)) rows) host) q ≡ cond (bytes_eq host home && p q) None (get (map_of rows host) q)
    get_dropped host rows q =
        get_kept host _ q ∙ ap (option_map value) (find_in_filter (λ a. not (test a)) (is_at host q) rows ∙ find_same _ _ (at_key host q) rows)
        ∙ go (bytes_eq host home && p q) ∙ ap (cond (bytes_eq host home && p q) None) (sym (get_kept host rows q))
      where
        go : (b : Bool) → option_map value (find (λ a. not b && is_at host q a) rows) ≡ cond b None (option_map value (find (is_at host q) rows))
        go true = ap (option_map value) (found_none _ rows (Rattle.sqlite_keyed.proofs.ListLemmas.all_of _ (λ a. refl) rows))
        go false = refl

    pub dropped_here : (host : Text) (rows : List A) → host ≡ home → map_of (filter (λ a. not (test a)) rows) host ≡ retain_keys (map_of rows host) (λ k. not (p k))
    dropped_here host rows e = same_map total exact _ _ (λ q. get_dropped host rows q
        ∙ ap (λ b. cond (b && p q) None (get (map_of rows host) q)) ((bytes_eq-Decides host home).1 e)
        ∙ turned (p q) None (get (map_of rows host) q)
        ∙ sym (get-retain_keys (map_of rows host) (λ k. not (p k)) q (λ k t. ap (λ x. not (p x)) (sym (exact q k t)))))
      where
        turned : (b : Bool) (x y : Option X) → cond b x y ≡ cond (not b) y x
        turned true x y = refl
        turned false x y = refl

    pub dropped_there : (host : Text) (rows : List A) → bytes_eq host home ≡ false → map_of (filter (λ a. not (test a)) rows) host ≡ map_of rows host
    dropped_there host rows e = same_map total exact _ _ (λ q. get_dropped host rows q ∙ ap (λ b. cond (b && p q) None (get (map_of rows host) q)) e)
