-- Records that stand at places under their hosts: what setting the list of a host makes of them, of their constraints and of the world.
use Rattle.std.proofs.Common.{◌≡◌, ℕ, ◌+◌, ◌<◌, ◌≤◌, pos, Bool, true, false, not, ◌&&◌, cond, List, [], ◌∷◌, map, filter, length, nat_lt, Some, IsTrue, refl, sym, ap, ◌∙◌, subst, arith, true≢false, Ordering, Less, Equal, is_gt, is_eq}
use Rattle.std.specs.List.{AllByRecursion, range_with_len}
use Rattle.std.specs.Str.{bytes_eq}
use Rattle.std.specs.Cmp.{IsTotalOrder}
use Rattle.std.specs.Ordering.{ordering_reverse}
use Rattle.std.specs.FinMap.{get, insert}
use Rattle.std.proofs.Math.Nat.{eq-or-lt_of_le}
use Rattle.std.proofs.Math.Logic.{⊎_elim}
use Rattle.std.proofs.lemmas.Bool.{ltb-false, not-true}
use Rattle.std.proofs.lemmas.Cmp.{tied_itself}
use Rattle.std.proofs.lemmas.Slice.Eq.{bytes_eq-Decides}
use Rattle.sqlite_value.specs.declared.value.Value.TheVariants.{Text, Int}
use Rattle.sqlite_value.specs.Order.{Row, row_cmp}
use Rattle.sqlite_trees.specs.Tree.{IsAscending}
use Rattle.sqlite_keyed.specs.Lists.{insert_sorted}
use Rattle.sqlite_keyed.proofs.ListLemmas.{all_weaker, all_both, all-filter, filter-filter}
use Rattle.dh_rows.specs.Keyed.{by_key, same_key, added, put}
use Rattle.dh_rows.proofs.Lists.{by_key_total}
use Rattle.dh_records.specs.declared.records.ProjectRow.{ProjectRow}
use Rattle.dh_world.specs.World.{Project}
use Rattle.dh_records.specs.Lists.{Lists, world_of, placed, put_all}
use Rattle.dh_records.specs.Constraints.{InOrder, has_project, HavePlaces}
use Rattle.dh_records.proofs.KeyLemmas.{turned, place_key, later_above, elsewhere}
use Rattle.dh_records.proofs.RecordLemmas.{each_passes, all_put, added_elsewhere, of_each_host}
use Rattle.dh_records.proofs.OrderLemmas.{filtered_in_order, put_in_order}
use Rattle.dh_records.proofs.ConstraintLemmas.{of_project}
use Rattle.dh_records.proofs.WorldLemmas.{owned_by}
use Rattle.dh_records.proofs.Parts.{list_of, Part}
use Rattle.dh_records.proofs.PartLemmas.{part_changed}

-- ---- lists in order

pub commuted : {A : Type 0} (p q : A → Bool) (rows : List A) → filter p (filter q rows) ≡ filter q (filter p rows)
commuted p q [] = refl
commuted p q (y ∷ rows) = go (p y) (q y) refl refl (commuted p q rows)
  where
    go : (a b : Bool) → p y ≡ a → q y ≡ b → filter p (filter q rows) ≡ filter q (filter p rows) → filter p (cond b (y ∷ filter q rows) (filter q rows)) ≡ filter q (cond a (y ∷ filter p rows) (filter p rows))
    go true true e f more = rw (e, f) (ap (λ l. y ∷ l) more)
    go true false e f more = rw f more
    go false true e f more = rw e more
    go false false e f more = more

pub count_placed : {X V : Type 0} (row : ℕ → V → X) (n : ℕ) (vs : List V) → length (placed row n vs) ≡ length vs
count_placed row n [] = refl
count_placed row n (v ∷ vs) = let more = count_placed row (n + 1) vs in omega arith

module _ {A : Type 0} (cmp : A → A → Ordering) (total : IsTotalOrder cmp) (x : A) where
  -- what is above none stands in front
  front : (rows : List A) → AllByRecursion (λ z. is_gt (cmp x z) ≡ false) rows → insert_sorted cmp x rows ≡ x ∷ rows
  front [] low = refl
  front (z ∷ rows) low = ap (λ g. cond g (z ∷ insert_sorted cmp x rows) (x ∷ z ∷ rows)) low.0

  -- what passes is added among those that pass
  filter_added : (p : A → Bool) (rows : List A) → IsAscending (λ y z. cmp y z ≡ Less) rows → p x ≡ true → filter p (insert_sorted cmp x rows) ≡ insert_sorted cmp x (filter p rows)
  filter_added p [] up here = rw here refl
  filter_added p (y ∷ rows) up here = go (is_gt (cmp x y)) refl (filter_added p rows up.1 here)
    where
      within : (b : Bool) → is_gt (cmp x y) ≡ true → filter p (insert_sorted cmp x rows) ≡ insert_sorted cmp x (filter p rows)
          → cond b (y ∷ filter p (insert_sorted cmp x rows)) (filter p (insert_sorted cmp x rows)) ≡ insert_sorted cmp x (cond b (y ∷ filter p rows) (filter p rows))
      within true e more = ap (λ l. y ∷ l) more ∙ ap (λ g. cond g (y ∷ insert_sorted cmp x (filter p rows)) (x ∷ y ∷ filter p rows)) (sym e)
      within false e more = more

      go : (g : Bool) → is_gt (cmp x y) ≡ g → filter p (insert_sorted cmp x rows) ≡ insert_sorted cmp x (filter p rows) → filter p (cond g (y ∷ insert_sorted cmp x rows) (x ∷ y ∷ rows)) ≡ insert_sorted cmp x (filter p (y ∷ rows))
      go true e more = within (p y) e more
      go false e more =
          ap (λ b. cond b (x ∷ filter p (y ∷ rows)) (filter p (y ∷ rows))) here
          ∙ sym (front (filter p (y ∷ rows)) (all-filter _ p (y ∷ rows) (e, all_weaker _ (λ z. is_gt (cmp x z) ≡ false) (λ z l. Rattle.std.specs.Cmp.upto total x y z e (ap is_gt l)) rows up.0)))

parts : {A : Type 0} (x y : A) (xs ys : List A) → ◌≡◌ {A = List A} (x ∷ xs) (y ∷ ys) → (x ≡ y) × (xs ≡ ys)
parts x y xs ys e = (cc, cc)

-- ---- records under a host and a place

module _ {X : Type 0} (host_of : X → List ℕ) (place_of : X → ℕ) where
  abbrev key : X → Row
  key = place_key host_of place_of

  abbrev is_own : List ℕ → X → Bool
  is_own host r = bytes_eq (host_of r) host

  -- a record that passes is put among those that pass
  filter_put : (p : X → Bool) (x : X) (rows : List X) → InOrder key rows → p x ≡ true → filter p (put key x rows) ≡ put key x (filter p rows)
  filter_put p x rows up here =
      filter_added (by_key key) (by_key_total key) x p _ (filtered_in_order key (λ y. not (same_key key x y)) rows up) here
      ∙ ap (added key x) (commuted p (λ y. not (same_key key x y)) rows)

  put_elsewhere : (row : X) (rows : List X) (name : List ℕ) → bytes_eq (host_of row) name ≡ false → filter (is_own name) (put key row rows) ≡ filter (is_own name) rows
  put_elsewhere row rows name apart =
      added_elsewhere (by_key key) (is_own name) row _ apart
      ∙ filter-filter (is_own name) (λ y. not (same_key key row y))
      (λ y own. ap not (elsewhere host_of place_of row y (ap (λ h. bytes_eq h (host_of row)) ((bytes_eq-Decides (host_of y) name).0 own) ∙ turned name (host_of row) ∙ apart))) rows

  -- the places count from a number on
  abbrev CountsFrom : ℕ → List X → Type 0
  CountsFrom a rows = map place_of rows ≡ range_with_len a (length rows)

  -- and so none is before it
  none_before : (a : ℕ) (ys : List X) → CountsFrom a ys → AllByRecursion (λ r. a ≤ place_of r) ys
  none_before a [] count = tt
  none_before a (y ∷ ys) count =
      let here = parts (place_of y) a (map place_of ys) (range_with_len (a + 1) (length ys)) count in
      let first : place_of y ≡ a = here.0 in
      (omega arith, all_weaker _ (λ r. a ≤ place_of r) (λ r h. let later : a + 1 ≤ place_of r = h in omega arith) ys (none_before (a + 1) ys here.1))

  -- a record of the same host, at this place or at a later one
  record IsFrom (x y : X) : Type 0 where
    not_above : is_gt (by_key key x y) ≡ false
    beyond : not (same_key key x y) ≡ true → place_of x < place_of y

  from : (x y : X) → host_of x ≡ host_of y → place_of x ≤ place_of y → IsFrom x y
  from x y same upto = ⊎_elim at behind (eq-or-lt_of_le upto)
    where
      at : place_of x ≡ place_of y → IsFrom x y
      at e =
          let keys : key x ≡ key y = λ i. Text (same i) ∷ Int (pos (e i)) ∷ [] in
          let tied : by_key key x y ≡ Equal = ap (λ k. row_cmp k (key y)) keys ∙ tied_itself (by_key_total key) y in
          record { not_above = ap is_gt tied; beyond = λ apart. absurd (true≢false (sym apart ∙ ap (λ o. not (is_eq o)) tied)) }

      behind : place_of x < place_of y → IsFrom x y
      behind less =
          let below : by_key key x y ≡ Less = (by_key_total key).antisymm x y ∙ ap ordering_reverse (later_above host_of place_of y x same less) in
          record { not_above = ap is_gt below; beyond = λ apart. less }

  -- ---- the list of a host

  module _ {V : Type 0} (host : List ℕ) (row : ℕ → V → X) where
    -- of the records of the host, those behind the first n
    abbrev is_behind : ℕ → X → Bool
    is_behind n r = bytes_eq (host_of r) host && nat_lt n (place_of r)

    abbrev set_all : List V → List X → List X
    set_all vs rows = put_all key (placed row 1 vs) (filter (λ r. not (is_behind (length vs) r)) rows)

    put_all_in_order : (n : ℕ) (vs : List V) (rows : List X) → InOrder key rows → InOrder key (put_all key (placed row n vs) rows)
    put_all_in_order n [] rows up = up
    put_all_in_order n (v ∷ vs) rows up = put_all_in_order (n + 1) vs (put key (row n v) rows) (put_in_order key (row n v) rows up)

    pub set_in_order : (vs : List V) (rows : List X) → InOrder key rows → InOrder key (set_all vs rows)
    set_in_order vs rows up = put_all_in_order 1 vs _ (filtered_in_order key (λ r. not (is_behind (length vs) r)) rows up)

    -- what holds of all records, and of those that are put
    all_put_all : (P : X → Type 0) (Q : V → Type 0) → ((n : ℕ) (v : V) → Q v → P (row n v)) → (n : ℕ) (vs : List V) (rows : List X) → AllByRecursion Q vs → AllByRecursion P rows → AllByRecursion P (put_all key (placed row n vs) rows)
    all_put_all P Q each n [] rows new old = old
    all_put_all P Q each n (v ∷ vs) rows new old = all_put_all P Q each (n + 1) vs (put key (row n v) rows) new.1 (all_put key P (row n v) rows (each n v new.0) old)

    pub all_set : (P : X → Type 0) (Q : V → Type 0) → ((n : ℕ) (v : V) → Q v → P (row n v)) → (vs : List V) (rows : List X) → AllByRecursion Q vs → AllByRecursion P rows → AllByRecursion P (set_all vs rows)
    all_set P Q each vs rows new old = all_put_all P Q each 1 vs _ new (all-filter P (λ r. not (is_behind (length vs) r)) rows old)

    module _ (hosts : (n : ℕ) (v : V) → host_of (row n v) ≡ host) (places : (n : ℕ) (v : V) → place_of (row n v) ≡ n) where
      places_placed : (n : ℕ) (vs : List V) → CountsFrom n (placed row n vs)
      places_placed n [] = refl
      places_placed n (v ∷ vs) = let more = places_placed (n + 1) vs in λ i. places n v i ∷ more i

      -- ---- another host's records

      put_all_elsewhere : (name : List ℕ) → bytes_eq host name ≡ false → (n : ℕ) (vs : List V) (rows : List X) → filter (is_own name) (put_all key (placed row n vs) rows) ≡ filter (is_own name) rows
      put_all_elsewhere name apart n [] rows = refl
      put_all_elsewhere name apart n (v ∷ vs) rows =
          put_all_elsewhere name apart (n + 1) vs (put key (row n v) rows)
          ∙ put_elsewhere (row n v) rows name (ap (λ h. bytes_eq h name) (hosts n v) ∙ apart)

      set_elsewhere : (vs : List V) (rows : List X) (name : List ℕ) → bytes_eq host name ≡ false → filter (is_own name) (set_all vs rows) ≡ filter (is_own name) rows
      set_elsewhere vs rows name apart =
          put_all_elsewhere name apart 1 vs (filter (λ r. not (is_behind (length vs) r)) rows)
          ∙ filter-filter (is_own name) (λ r. not (is_behind (length vs) r))
          (λ r own. ap (λ b. not (b && nat_lt (length vs) (place_of r))) (ap (λ h. bytes_eq h host) ((bytes_eq-Decides (host_of r) name).0 own) ∙ turned name host ∙ apart)) rows

      -- ---- the host's own

      filter_put_all : (n : ℕ) (vs : List V) (rows : List X) → InOrder key rows → filter (is_own host) (put_all key (placed row n vs) rows) ≡ put_all key (placed row n vs) (filter (is_own host) rows)
      filter_put_all n [] rows up = refl
      filter_put_all n (v ∷ vs) rows up =
          filter_put_all (n + 1) vs (put key (row n v) rows) (put_in_order key (row n v) rows up)
          ∙ ap (put_all key (placed row (n + 1) vs)) (filter_put (is_own host) (row n v) rows up ((bytes_eq-Decides (host_of (row n v)) host).1 (hosts n v)))

      -- what stands at an earlier place stays in front
      put_behind : (x : X) → host_of x ≡ host → (n : ℕ) → place_of x < n → (vs : List V) (ys : List X) → put_all key (placed row n vs) (x ∷ ys) ≡ x ∷ put_all key (placed row n vs) ys
      put_behind x own n less [] ys = refl
      put_behind x own n less (v ∷ vs) ys =
          let z : X = row n v in
          let above = later_above host_of place_of z x (own ∙ sym (hosts n v)) (subst (λ m. place_of x < m) (sym (places n v)) less) in
          let others = filter (λ y. not (same_key key z y)) ys in
          ap (put_all key (placed row (n + 1) vs)) (ap (λ o. added key z (cond (not (is_eq o)) (x ∷ others) others)) above ∙ ap (λ o. cond (is_gt o) (x ∷ added key z others) (z ∷ x ∷ others)) above)
          ∙ put_behind x own (n + 1) (omega arith) vs (put key z ys)

      -- a record of the host, at one of n places from a number on
      record IsAmong (a n : ℕ) (y : X) : Type 0 where
        own : host_of y ≡ host
        low : a ≤ place_of y
        high : place_of y < a + n

      -- what stands at the places of a list gives way to it
      put_over : (a : ℕ) (vs : List V) (ys : List X) → AllByRecursion (IsAmong a (length vs)) ys → put_all key (placed row a vs) ys ≡ placed row a vs
      put_over a [] [] among = refl
      put_over a [] (y ∷ ys) among = let low = among.0.low in let high = among.0.high in absurd (omega arith)
      put_over a (v ∷ vs) ys among =
          ap (put_all key (placed row (a + 1) vs)) (front (by_key key) (by_key_total key) x others (all-filter _ fits ys (all_weaker _ (λ y. is_gt (by_key key x y) ≡ false) (λ y is. (start y is).not_above) ys among)))
          ∙ put_behind x (hosts a v) (a + 1) (let here = places a v in omega arith) vs others
          ∙ ap (λ l. x ∷ l) (put_over (a + 1) vs others (all_both _ _ (IsAmong (a + 1) (length vs)) later others (all-filter _ fits ys among) (each_passes fits ys)))
        where
          x : X
          x = row a v

          fits : X → Bool
          fits y = not (same_key key x y)

          others : List X
          others = filter fits ys

          start : (y : X) → IsAmong a (length (v ∷ vs)) y → IsFrom x y
          start y is = from x y (hosts a v ∙ sym is.own) (let low = is.low in let here = places a v in omega arith)

          later : (y : X) → IsAmong a (length (v ∷ vs)) y → fits y ≡ true → IsAmong (a + 1) (length vs) y
          later y is apart =
              let here = places a v in
              let high : place_of y < a + length (v ∷ vs) = is.high in
              let beyond : place_of x < place_of y = (start y is).beyond apart in
              record { own = is.own; low = omega arith; high = omega arith }

      set_here : (vs : List V) (rows : List X) → InOrder key rows → CountsFrom 1 (filter (is_own host) rows) → filter (is_own host) (set_all vs rows) ≡ placed row 1 vs
      set_here vs rows up count =
          filter_put_all 1 vs (filter kept rows) (filtered_in_order key kept rows up)
          ∙ ap (put_all key (placed row 1 vs)) (commuted (is_own host) kept rows)
          ∙ put_over 1 vs (filter kept mine) (all_both _ _ (IsAmong 1 (length vs)) (λ y is e. among y is.0 is.1 e) (filter kept mine) (all-filter _ kept mine owned) (each_passes kept mine))
        where
          kept : X → Bool
          kept r = not (is_behind (length vs) r)

          mine : List X
          mine = filter (is_own host) rows

          owned : AllByRecursion (λ y. (is_own host y ≡ true) × (1 ≤ place_of y)) mine
          owned = all_both _ _ (λ y. (is_own host y ≡ true) × (1 ≤ place_of y)) (λ y own low. (own, low)) mine (each_passes (is_own host) rows) (none_before 1 mine count)

          among : (y : X) → is_own host y ≡ true → 1 ≤ place_of y → kept y ≡ true → IsAmong 1 (length vs) y
          among y own low e =
              let upto = ltb-false (length vs) (place_of y) (not-true _ (ap (λ b. not (b && nat_lt (length vs) (place_of y))) (sym own) ∙ e)) in
              record { own = (bytes_eq-Decides (host_of y) host).0 own; low = low; high = omega arith }

      -- ---- the constraints: there are at most so many

      module _ (most : ℕ) where
        abbrev Have : List ℕ → List X → Type 0
        Have name rows = HavePlaces place_of most (filter (is_own name) rows)

        -- of a host that has a project
        places_at : (lists : Lists) (rows : List X) → AllByRecursion (λ r. Have r.host rows) lists.projects → IsTrue (has_project lists host) → Have host rows
        places_at lists rows all has =
            let it = of_project (λ r. Have r.host rows) lists host all has in
            subst (λ n. Have n rows) it.1 it.2

        pub places_set : (lists : Lists) (vs : List V) (rows : List X) → AllByRecursion (λ r. Have r.host rows) lists.projects → InOrder key rows → IsTrue (has_project lists host) → length vs ≤ most
            → AllByRecursion (λ r. Have r.host (set_all vs rows)) lists.projects
        places_set lists vs rows all up has few = all_weaker _ (λ r. Have r.host (set_all vs rows)) still lists.projects all
          where
            here : Have host (set_all vs rows)
            here = subst (HavePlaces place_of most) (sym (set_here vs rows up (places_at lists rows all has).places)) (record { places = places_placed 1 vs; few = subst (λ n. n ≤ most) (sym (count_placed row 1 vs)) few })

            still : (r : ProjectRow) → Have r.host rows → Have r.host (set_all vs rows)
            still r = of_each_host (λ name. Have name rows → Have name (set_all vs rows)) host (λ old. here) (λ name apart old. subst (HavePlaces place_of most) (sym (set_elsewhere vs rows name apart)) old) r.host

  -- ---- the world

  module _ {V : Type 0} (value : X → V) where
    module _ (host : List ℕ) (row : ℕ → V → X) (hosts : (n : ℕ) (v : V) → host_of (row n v) ≡ host) (places : (n : ℕ) (v : V) → place_of (row n v) ≡ n) (values : (n : ℕ) (v : V) → value (row n v) ≡ v) where
      values_placed : (n : ℕ) (vs : List V) → map value (placed row n vs) ≡ vs
      values_placed n [] = refl
      values_placed n (v ∷ vs) = let more = values_placed (n + 1) vs in λ i. values n v i ∷ more i

      -- the list of a project is set
      pub world_set
          : (t : Part (list_of host_of value)) (most : ℕ) (lists : Lists) (vs : List V)
          → AllByRecursion (λ r. HavePlaces place_of most (filter (is_own r.host) (t.rows lists))) lists.projects → InOrder key (t.rows lists) → (p : Project) → get (world_of lists) host ≡ Some p
          → world_of (t.replaced (set_all host row vs (t.rows lists)) lists) ≡ insert (world_of lists) host (t.set vs p)
      world_set t most lists vs all up p was =
          part_changed t lists (set_all host row vs rows) host p (λ _. vs)
          (λ name apart. ap (map value) (set_elsewhere host row hosts places vs rows name apart))
          (ap (map value) (set_here host row hosts places vs rows up (places_at host row hosts places most lists rows all (owned_by lists host p was)).places) ∙ values_placed 1 vs)
          was
        where
          rows : List X
          rows = t.rows lists
