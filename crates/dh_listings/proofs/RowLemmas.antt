-- Which rows stand on the list of all that is seen.
use Rattle.std.proofs.Common.{◌≡◌, ◌⊎◌, inl, inr, zero, suc, Bool, true, false, ◌&&◌, cond, List, [], ◌∷◌, ◌++◌, map, filter, Some, refl, sym, ap, subst, ◌∙◌, arith, true≢false}
use Rattle.std.specs.List.{Contains, flat_map}
use Rattle.std.specs.Str.{bytes_eq}
use Rattle.std.proofs.lemmas.List.Elements.{Contains-append_left, Contains-append_right}
use Rattle.std.proofs.lemmas.Slice.Eq.{bytes_eq-Decides}
use Rattle.dh_versions.specs.declared.version.Version.{Version}
use Rattle.dh_world.specs.World.{Text}
use Rattle.dh_listings.specs.ListingTexts.{page_rows, pages_in, seen_page_words, short_rows, version_page_rows}
use Rattle.dh_listings.specs.Whole.{EachPageIsListed}

-- ---- what a list has

parts : {X : Type 0} (x : X) (xs : List X) (q : X) → Contains (x ∷ xs) q → (x ≡ q) ⊎ Contains xs q
parts x xs q (zero, low, is) = inl is
parts x xs q (suc k, low, is) = inr (k, omega (arith, low), is)

first : {X : Type 0} (x : X) (xs : List X) → Contains (x ∷ xs) x
first x xs = (0, omega arith, refl)

later : {X : Type 0} (x : X) (xs : List X) (q : X) → Contains xs q → Contains (x ∷ xs) q
later x xs q (k, low, is) = (suc k, omega (arith, low), is)

in_map : {X Y : Type 0} (f : X → Y) (xs : List X) (q : X) → Contains xs q → Contains (map f xs) (f q)
in_map f [] q (k, low, is) = absurd (omega (arith, low))
in_map f (x ∷ xs) q it = go (parts x xs q it) (in_map f xs q)
  where
    go : (x ≡ q) ⊎ Contains xs q → (Contains xs q → Contains (map f xs) (f q)) → Contains (f x ∷ map f xs) (f q)
    go (inl same) more = subst (λ y. Contains (f x ∷ map f xs) (f y)) same (first (f x) (map f xs))
    go (inr there) more = later (f x) (map f xs) (f q) (more there)

in_filter : {X : Type 0} (test : X → Bool) (xs : List X) (q : X) → test q ≡ true → Contains xs q → Contains (filter test xs) q
in_filter test [] q passes (k, low, is) = absurd (omega (arith, low))
in_filter test (x ∷ xs) q passes it = go (test x) refl (parts x xs q it) (in_filter test xs q passes)
  where
    go : (b : Bool) → test x ≡ b → (x ≡ q) ⊎ Contains xs q → (Contains xs q → Contains (filter test xs) q) → Contains (cond b (x ∷ filter test xs) (filter test xs)) q
    go true e (inl same) more = subst (λ y. Contains (x ∷ filter test xs) y) same (first x (filter test xs))
    go true e (inr there) more = later x (filter test xs) q (more there)
    go false e (inl same) more = absurd (true≢false (sym passes ∙ sym (ap test same) ∙ e))
    go false e (inr there) more = more there

in_flat_map : {X Y : Type 0} (f : X → List Y) (xs : List X) (x : X) (y : Y) → Contains xs x → Contains (f x) y → Contains (flat_map f xs) y
in_flat_map f [] x y (k, low, is) own = absurd (omega (arith, low))
in_flat_map f (z ∷ xs) x y it own = go (parts z xs x it) (λ there. in_flat_map f xs x y there own)
  where
    go : (z ≡ x) ⊎ Contains xs x → (Contains xs x → Contains (flat_map f xs) y) → Contains (f z ++ flat_map f xs) y
    go (inl same) more = Contains-append_left (f z) (flat_map f xs) y (subst (λ s. Contains (f s) y) (sym same) own)
    go (inr there) more = Contains-append_right (f z) (flat_map f xs) y (more there)

both : (a b : Bool) → a ≡ true → b ≡ true → (a && b) ≡ true
both a b p q = rw (p, q) refl

-- ---- the rows of pages

pub each_page_is_listed : EachPageIsListed
each_page_is_listed p s v page version same lang =
    let lies = both (bytes_eq s.slug v.slug) (bytes_eq s.lang s.lang) ((bytes_eq-Decides s.slug v.slug).1 (sym same)) ((bytes_eq-Decides s.lang s.lang).1 refl) in
    Contains-append_right (short_rows p.langs p.versions p.latest p.stable p.«default» p.redirects) (page_rows (Some p) p.langs p.versions) (seen_page_words s)
    (in_flat_map (λ (w : Version). version_page_rows (Some p) p.langs w.slug) p.versions v (seen_page_words s) version
    (in_flat_map (λ (l : Text). map seen_page_words (pages_in v.slug l p)) p.langs s.lang (seen_page_words s) lang
    (in_map seen_page_words (pages_in v.slug s.lang p) s (in_filter (λ x. bytes_eq x.slug v.slug && bytes_eq x.lang s.lang) p.pages s lies page))))
