-- The versions of a host stand in the order of their slugs, and so do those that a caller sees.
use Rattle.std.proofs.Common.{◌≡◌, Bool, true, false, ◌&&◌, cond, List, [], ◌∷◌, map, filter, Some, None, T, refl, sym, ap, subst, ◌∙◌, Ordering, Less, Equal, Greater, is_lt, true≢false}
use Rattle.std.specs.Option.{option_map_or}
use Rattle.std.specs.List.{AllByRecursion}
use Rattle.std.specs.Str.{bytes_eq}
use Rattle.std.specs.Ordering.{eq_by_cmp, is_eq, ordering_then, ordering_reverse}
use Rattle.std.specs.Cmp.{tied_itself}
use Rattle.std.specs.FinMap.{is_sorted, get, entries, from_entries, from_sorted, retain_keys, get-from_entries, get-from_sorted, get-retain_keys, entries-from_sorted, same_map}
use Rattle.std.specs.FinMap as finite
use Rattle.std.specs.FinMap.Entries.{below_all, where_key, is_sorted-where_key, find-where_key}
use Rattle.std.proofs.lemmas.Map.Lookups.{exact_bytes}
use Rattle.std.proofs.lemmas.Slice.Eq.{bytes_eq-Decides}
use Rattle.sqlite_value.proofs.OrderLemmas.{value_cmp-Text}
use Rattle.dh_rows.specs.Keyed.{by_key}
use Rattle.dh_rows.proofs.Lists.{Rises, by_key_total}
use Rattle.dh_versions.specs.declared.version.Version.{Version}
use Rattle.dh_records.specs.declared.records.ProjectRow.{ProjectRow}
use Rattle.dh_records.specs.declared.records.VersionRow.{VersionRow}
use Rattle.dh_records.specs.Codings.{versions}
use Rattle.dh_world.specs.declared.caller.Caller.{Caller}
use Rattle.dh_world.specs.World.{text_cmp}
use Rattle.dh_world.specs.Visibility.{live_pass, holds, is_visible, may_see}
use Rattle.dh_world.specs.World as world
use Rattle.dh_records.specs.Lists.{Lists, project_of, is_version_of}
use Rattle.dh_world.specs.Seen.{visible_versions}
use Rattle.dh_records.specs.Constraints.{RiseBySlug}
use Rattle.dh_world.proofs.MapLemmas.{text_total}
use Rattle.dh_records.proofs.Parts.{spelled}

abbrev pub by_slug : VersionRow → world.Text × Version
by_slug r = (r.version.slug, r.version)

-- ---- the order of a host's versions

both : (a b : Bool) → T a → T b → T (a && b)
both true b p q = q
both false b p q = absurd p

first : (a b : Bool) → T (a && b) → T a
first true b p = tt
first false b p = absurd p

second : (a b : Bool) → T (a && b) → T b
second true b p = p
second false b p = absurd p

less_last : (o : Ordering) → ordering_then o Equal ≡ Less → T (is_lt o)
less_last Less e = tt
less_last Equal e = absurd (true≢false (ap is_eq e))
less_last Greater e = absurd (true≢false (sym (ap is_lt e)))

key_is : (x y : VersionRow) → by_key versions.key x y ≡ ordering_then (text_cmp x.host y.host) (ordering_then (text_cmp x.version.slug y.version.slug) Equal)
key_is x y = rw (value_cmp-Text x.host y.host, value_cmp-Text x.version.slug y.version.slug) refl

slug_rises : (x y : VersionRow) → y.host ≡ x.host → by_key versions.key x y ≡ Less → T (is_lt (text_cmp x.version.slug y.version.slug))
slug_rises x y same less =
    less_last _ (ap (λ o. ordering_then o (ordering_then (text_cmp x.version.slug y.version.slug) Equal)) (sym (tied_itself text_total x.host) ∙ ap (text_cmp x.host) (sym same)) ∙ sym (key_is x y) ∙ less)

module _ (host : world.Text) where
  below : (x : VersionRow) → bytes_eq x.host host ≡ true → (ys : List VersionRow) → AllByRecursion (λ y. by_key versions.key x y ≡ Less) ys
      → T (below_all text_cmp x.version.slug (map by_slug (filter (is_version_of host) ys)))
  below x own [] all = tt
  below x own (y ∷ ys) all = go (bytes_eq y.host host) refl (below x own ys all.1)
    where
      go : (b : Bool) → bytes_eq y.host host ≡ b → T (below_all text_cmp x.version.slug (map by_slug (filter (is_version_of host) ys)))
          → T (below_all text_cmp x.version.slug (map by_slug (cond b (y ∷ filter (is_version_of host) ys) (filter (is_version_of host) ys))))
      go true e more = both _ _ (slug_rises x y ((bytes_eq-Decides y.host host).0 e ∙ sym ((bytes_eq-Decides x.host host).0 own)) all.0) more
      go false e more = more

  abbrev IsRising : List VersionRow → Type 0
  IsRising rows = T (is_sorted text_cmp (map by_slug rows))

  rising : (rows : List VersionRow) → Rises (by_key versions.key) (by_key_total versions.key) rows → IsRising (filter (is_version_of host) rows)
  rising [] up = tt
  rising (r ∷ rs) up = go (bytes_eq r.host host) refl (rising rs up.1)
    where
      go : (b : Bool) → bytes_eq r.host host ≡ b → IsRising (filter (is_version_of host) rs) → IsRising (cond b (r ∷ filter (is_version_of host) rs) (filter (is_version_of host) rs))
      go true e more = both _ _ (below r e rs up.0) more
      go false e more = more

truth : (b : Bool) → T b → b ≡ true
truth true t = refl
truth false t = absurd t

-- of versions in the order of their keys
pub host_rises : (host : world.Text) → (rows : List VersionRow) → Rises (by_key versions.key) (by_key_total versions.key) rows → RiseBySlug (filter (is_version_of host) rows)
host_rises host rows up = truth _ (rising host rows up)

-- ---- a map that is made of entries in order

alike : (p : world.Text → Bool) (q x : world.Text) → text_cmp q x ≡ Equal → p x ≡ p q
alike p q x e = ap p (sym (exact_bytes q x e))

kept_entries : {X : Type 0} (es : List (world.Text × X)) (p : world.Text → Bool) → T (is_sorted text_cmp es) → entries (retain_keys (from_entries {R = text_cmp} es) p) ≡ filter (λ e. p e.0) es
kept_entries es p up =
    let kept = is_sorted-where_key text_cmp p es up in
    ap entries (same_map text_total exact_bytes (retain_keys (from_entries es) p) (from_sorted (where_key text_cmp p es)) (λ q.
    get-retain_keys (from_entries es) p q (alike p q) ∙ ap (λ o. cond (p q) o None) (get-from_entries text_total es q)
    ∙ sym (get-from_sorted text_cmp (where_key text_cmp p es) q kept ∙ find-where_key text_cmp p q (alike p q) es)))
    ∙ entries-from_sorted text_cmp (where_key text_cmp p es) kept

-- each entry is found at its key
apart : (x y : world.Text) → T (is_lt (text_cmp x y)) → eq_by_cmp text_cmp y x ≡ false
apart x y less = go (text_cmp x y) refl less
  where
    go : (o : Ordering) → text_cmp x y ≡ o → T (is_lt o) → eq_by_cmp text_cmp y x ≡ false
    go Less e t = ap is_eq (text_total.antisymm y x ∙ ap ordering_reverse e)
    go Equal e t = absurd t
    go Greater e t = absurd t

module _ {X : Type 0} where
  abbrev pub IsFound : List (world.Text × X) → world.Text × X → Type 0
  IsFound es e = finite.find text_cmp e.0 es ≡ Some e.1

  found_later : (e : world.Text × X) (es fs : List (world.Text × X)) → T (below_all text_cmp e.0 fs) → AllByRecursion (IsFound es) fs → AllByRecursion (IsFound (e ∷ es)) fs
  found_later e es [] low all = tt
  found_later e es (f ∷ fs) low all =
      (ap (λ b. cond b (Some e.1) (finite.find text_cmp f.0 es)) (apart e.0 f.0 (first _ _ low)) ∙ all.0, found_later e es fs (second _ _ low) all.1)

  pub each_found : (es : List (world.Text × X)) → T (is_sorted text_cmp es) → AllByRecursion (IsFound es) es
  each_found [] up = tt
  each_found (e ∷ es) up =
      (ap (λ o. cond (is_eq o) (Some e.1) (finite.find text_cmp e.0 es)) (tied_itself text_total e.0), found_later e es es (first _ _ up) (each_found es (second _ _ up)))

  pub each : {P Q : world.Text × X → Type 0} → ((e : world.Text × X) → P e → Q e) → (es : List (world.Text × X)) → AllByRecursion P es → AllByRecursion Q es
  each f [] all = tt
  each f (e ∷ es) all = (f e all.0, each f es all.1)

-- what passes one test at each place passes the other
pub same_filter : {A : Type 0} (p q : A → Bool) (rows : List A) → AllByRecursion (λ x. p x ≡ q x) rows → filter p rows ≡ filter q rows
same_filter p q [] all = refl
same_filter p q (x ∷ rows) all = rw all.0 (ap (λ l. cond (q x) (x ∷ l) l) (same_filter p q rows all.1))

seen_entries : (held : world.Text → Bool) (rows : List VersionRow) → filter (λ e. may_see e.1 (held e.0)) (map by_slug rows) ≡ map by_slug (filter (λ r. may_see r.version (held r.version.slug)) rows)
seen_entries held [] = refl
seen_entries held (r ∷ rows) = go (may_see r.version (held r.version.slug)) (seen_entries held rows)
  where
    go : (b : Bool) → filter (λ e. may_see e.1 (held e.0)) (map by_slug rows) ≡ map by_slug (filter (λ r. may_see r.version (held r.version.slug)) rows)
        → cond b (by_slug r ∷ filter (λ e. may_see e.1 (held e.0)) (map by_slug rows)) (filter (λ e. may_see e.1 (held e.0)) (map by_slug rows))
        ≡ map by_slug (cond b (r ∷ filter (λ r. may_see r.version (held r.version.slug)) rows) (filter (λ r. may_see r.version (held r.version.slug)) rows))
    go true more = ap (λ l. by_slug r ∷ l) more
    go false more = more

-- ---- what a caller sees

versions_are : (lists : Lists) (row : ProjectRow) → (project_of lists row).versions ≡ from_entries (map by_slug (filter (is_version_of row.host) lists.versions))
versions_are lists row = ap (λ x. x.versions) (spelled lists row)

pub visible_entries : (lists : Lists) (row : ProjectRow) (c : Caller) → RiseBySlug (filter (is_version_of row.host) lists.versions)
    → entries (visible_versions (project_of lists row) c) ≡ map by_slug (filter (λ r. may_see r.version (holds (project_of lists row) (live_pass (project_of lists row) c) r.version.slug)) (filter (is_version_of row.host) lists.versions))
visible_entries lists row c up =
    let rows = filter (is_version_of row.host) lists.versions in
    let es = map by_slug rows in
    let sorted : T (is_sorted text_cmp es) = subst T (sym up) tt in
    let seen : world.Text → Bool = is_visible (project_of lists row) c in
    let held : world.Text → Bool = holds (project_of lists row) (live_pass (project_of lists row) c) in
    let told : (e : world.Text × Version) → IsFound es e → seen e.0 ≡ may_see e.1 (held e.0) = λ e found.
    ap (λ m. option_map_or (λ v. may_see v (held e.0)) (get m e.0) false) (versions_are lists row) ∙ ap (λ o. option_map_or (λ v. may_see v (held e.0)) o false) (get-from_entries text_total es e.0 ∙ found) in
    ap (λ m. entries (retain_keys m seen)) (versions_are lists row) ∙ kept_entries es seen sorted ∙ same_filter (λ e. seen e.0) (λ e. may_see e.1 (held e.0)) es (each told es (each_found es sorted)) ∙ seen_entries held rows
