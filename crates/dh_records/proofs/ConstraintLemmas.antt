-- The constraints of the records are kept by each change: what speaks of no list that changes is at hand, so each lemma lists the rest.
use Rattle.std.proofs.Common.{◌≡◌, ℕ, zero, suc, ◌<◌, ◌≤◌, ◌+◌, Bool, true, false, not, ◌&&◌, ◌||◌, cond, List, [], ◌∷◌, ◌++◌, map, filter, find, length, slice_get, is_some, Option, Some, None, IsTrue, refl, sym, ap, ap₂, ◌∙◌, subst, arith, true≢false, length-append, map-id}
use Rattle.std.specs.List.{AllByRecursion, IsDistinct, list_any, range_with_len}
use Rattle.std.specs.Option.{option_map_or}
use Rattle.std.specs.Str.{bytes_eq}
use Rattle.std.specs.Cmp.Lexicographic.{nat_list_eq_equiv}
use Rattle.std.proofs.lemmas.Bool.{and_parts, or_left, false_from_ne_true, true_from_ne_false}
use Rattle.std.proofs.lemmas.List.{map-append}
use Rattle.std.proofs.lemmas.List.Folds.{list_any-append}
use Rattle.std.proofs.lemmas.List.FromFn.{map-range_with_len_more}
use Rattle.std.proofs.lemmas.Map.Keys.{IsDistinct-push}
use Rattle.std.proofs.lemmas.Slice.Eq.{bytes_eq-Decides}
use Rattle.sqlite_keyed.proofs.ListLemmas.{all_weaker, all_both, all_of, all-filter, all_unmap, all_kept, filter_none}
use Rattle.dh_texts.specs.SlugOfName.{slug_from}
use Rattle.dh_rows.specs.Keyed.{by_key, same_key, IsFreeKey, added, put}
use Rattle.dh_records.specs.declared.records.ProjectRow.{ProjectRow}
use Rattle.dh_records.specs.declared.records.LangRow.{LangRow}
use Rattle.dh_records.specs.declared.records.VersionRow.{VersionRow}
use Rattle.dh_records.specs.declared.records.PageRow.{PageRow}
use Rattle.dh_records.specs.declared.records.RetryRow.{RetryRow}
use Rattle.dh_records.specs.declared.records.PassRow.{PassRow}
use Rattle.dh_records.specs.declared.records.GrantRow.{GrantRow}
use Rattle.dh_records.specs.Codings as coding
use Rattle.dh_world.specs.Answers.{tells}
use Rattle.dh_world.specs.WrongTexts.{is_content}
use Rattle.dh_world.specs.World.{Text}
use Rattle.dh_world.specs.Seen.{is_alias}
use Rattle.dh_records.specs.Lists.{Lists, is_project, is_lang_of, is_version, is_page_of, is_pass}
use Rattle.dh_records.specs.Constraints.{InOrder, has_project, has_language, has_active, has_version, has_pass, AreLanguages, AreDefaults, HavePlaces, AreRules, AreRedirects, KeepsConstraints}
use Rattle.dh_records.proofs.Keys.{are_both, both_are}
use Rattle.dh_records.proofs.KeyLemmas.{turned, version_key, elsewhere, next_is_free, added_behind}
use Rattle.dh_records.proofs.RecordLemmas.{none_found, found_passes, taken_out, all_added, all_put, find_added, find_put, none_but_added, added_elsewhere, of_each_host}

pub or_later : (a b c : Bool) → (IsTrue b → IsTrue c) → IsTrue (a || b) → IsTrue (a || c)
or_later true b c h e = refl
or_later false b c h e = h e

pub and_later : (a b c : Bool) → (IsTrue b → IsTrue c) → IsTrue (a && b) → IsTrue (a && c)
and_later true b c h e = h e
and_later false b c h e = e

-- ---- versions

find_version : (row : VersionRow) (rows : List VersionRow) (host slug : Text)
    → find (is_version host slug) (put coding.versions.key row rows) ≡ cond (is_version host slug row) (Some row) (find (is_version host slug) rows)
find_version row rows host slug = find_put coding.versions.key (is_version host slug) row alike only rows
  where
    alike : (y : VersionRow) → same_key coding.versions.key row y ≡ true → is_version host slug y ≡ is_version host slug row
    alike y e =
        let same = are_both y.host y.version.slug row.host row.version.slug (sym (version_key row y) ∙ e) in
        ap₂ (λ h s. bytes_eq h host && bytes_eq s slug) same.0 same.1

    only : (y : VersionRow) → is_version host slug row ≡ true → is_version host slug y ≡ true → same_key coding.versions.key row y ≡ true
    only y here there =
        let one = are_both row.host row.version.slug host slug here in
        let two = are_both y.host y.version.slug host slug there in
        version_key row y ∙ both_are y.host y.version.slug row.host row.version.slug (two.0 ∙ sym one.0) (two.1 ∙ sym one.1)

-- a version that is not there, or inactive, has no pages
pub inactive_is_bare : (lists : Lists) (host slug : Text) → KeepsConstraints lists → has_active lists host slug ≡ false → AllByRecursion (λ x. is_page_of host slug x ≡ false) lists.pages
inactive_is_bare lists host slug constraints off = all_weaker _ (λ x. is_page_of host slug x ≡ false) apart lists.pages constraints.records.active
  where
    apart : (x : PageRow) → IsTrue (has_active lists x.host x.slug) → is_page_of host slug x ≡ false
    apart x shown = false_from_ne_true _ (λ e.
        let both = are_both x.host x.slug host slug e in
        true≢false (sym shown ∙ ap₂ (has_active lists) both.0 both.1 ∙ off))

-- nor has one whose pages were dropped
pub dropped_is_bare : (host slug : Text) (rows : List PageRow) → AllByRecursion (λ x. is_page_of host slug x ≡ false) (filter (λ x. not (is_page_of host slug x)) rows)
dropped_is_bare host slug = taken_out (is_page_of host slug)

pub constraints_with_version : (lists : Lists) (row : VersionRow) → KeepsConstraints lists → IsTrue (has_project lists row.host) → slug_from row.version.name ≡ Some row.version.slug
    → (row.version.active ≡ false → AllByRecursion (λ x. is_page_of row.host row.version.slug x ≡ false) lists.pages)
    → KeepsConstraints (record lists { versions = put coding.versions.key row lists.versions })
constraints_with_version lists row constraints host named bare =
    assumption (
      all_put coding.versions.key (λ v. IsTrue (has_project lists v.host)) row lists.versions host constraints.hosts.versions,
      all_put coding.versions.key (λ v. slug_from v.version.name ≡ Some v.version.slug) row lists.versions named constraints.texts.slugs,
      all_both _ _ (λ x. IsTrue (has_active next x.host x.slug)) still lists.pages constraints.records.active (each row.version.active refl),
      all_weaker _ (λ d. IsTrue (is_alias d.name || has_version next d.host d.name)) (λ d. or_later _ _ _ (kept d.host d.name)) lists.picks constraints.records.default_names,
      all_weaker _ (λ x. IsTrue (has_pass lists x.host x.pass && has_version next x.host x.slug)) (λ x. and_later _ _ _ (kept x.host x.slug)) lists.held constraints.records.granted,
    )
  where
    next : Lists
    next = record lists { versions = put coding.versions.key row lists.versions }

    -- a version that was there still is
    kept : (host slug : Text) → IsTrue (has_version lists host slug) → IsTrue (has_version next host slug)
    kept host slug was = ap is_some (find_version row lists.versions host slug) ∙ go (is_version host slug row)
      where
        go : (b : Bool) → is_some (cond b (Some row) (find (is_version host slug) lists.versions)) ≡ true
        go true = refl
        go false = was

    each : (b : Bool) → row.version.active ≡ b → AllByRecursion (λ x. row.version.active ≡ false → is_page_of row.host row.version.slug x ≡ false) lists.pages
    each true e = all_of _ (λ x off. absurd (true≢false (sym e ∙ off))) lists.pages
    each false e = all_weaker _ (λ x. row.version.active ≡ false → is_page_of row.host row.version.slug x ≡ false) (λ x h off. h) lists.pages (bare e)

    still : (x : PageRow) → IsTrue (has_active lists x.host x.slug) → (row.version.active ≡ false → is_page_of row.host row.version.slug x ≡ false) → IsTrue (has_active next x.host x.slug)
    still x was out = ap (λ o. option_map_or (λ (v : VersionRow). v.version.active) o false) (find_version row lists.versions x.host x.slug) ∙ go (is_version x.host x.slug row) refl
      where
        go : (b : Bool) → is_version x.host x.slug row ≡ b → option_map_or (λ (v : VersionRow). v.version.active) (cond b (Some row) (find (is_version x.host x.slug) lists.versions)) false ≡ true
        go false e = was
        go true e = true_from_ne_false _ (λ off.
            let both = are_both row.host row.version.slug x.host x.slug e in
            true≢false (sym (both_are x.host x.slug row.host row.version.slug (sym both.0) (sym both.1)) ∙ out off))

-- ---- pages

pub constraints_with_page : (lists : Lists) (row : PageRow) → KeepsConstraints lists → IsTrue (has_project lists row.host) → IsTrue (has_active lists row.host row.slug) → IsTrue (has_language lists row.host row.lang)
    → IsTrue (is_content row.page.media row.page.body)
    → KeepsConstraints (record lists { pages = put coding.pages.key row lists.pages })
constraints_with_page lists row constraints host shown spoken fit =
    assumption (
      all_put coding.pages.key (λ x. IsTrue (has_project lists x.host)) row lists.pages host constraints.hosts.pages,
      all_put coding.pages.key (λ x. IsTrue (has_active lists x.host x.slug)) row lists.pages shown constraints.records.active,
      all_put coding.pages.key (λ x. IsTrue (has_language lists x.host x.lang)) row lists.pages spoken constraints.records.spoken,
      all_put coding.pages.key (λ x. IsTrue (is_content x.page.media x.page.body)) row lists.pages fit constraints.records.fit,
    )

-- some pages less
pub constraints_without : (lists : Lists) (p : PageRow → Bool) → KeepsConstraints lists → KeepsConstraints (record lists { pages = filter p lists.pages })
constraints_without lists p constraints =
    assumption (
      all-filter _ p lists.pages constraints.hosts.pages,
      all-filter _ p lists.pages constraints.records.active,
      all-filter _ p lists.pages constraints.records.spoken,
      all-filter _ p lists.pages constraints.records.fit,
    )

-- ---- used keys

pub constraints_with_used : (lists : Lists) (row : RetryRow) → KeepsConstraints lists → IsTrue (has_project lists row.host) → IsTrue (tells row.op row.answer)
    → KeepsConstraints (record lists { used = added coding.used.key row lists.used })
constraints_with_used lists row constraints host read =
    assumption (
      all_added (λ u. IsTrue (has_project lists u.host)) (by_key coding.used.key) row lists.used host constraints.hosts.used,
      all_added (λ u. IsTrue (tells u.op u.answer)) (by_key coding.used.key) row lists.used read constraints.texts.answers,
    )

-- ---- languages

pub all_found : {A : Type 0} (P : A → Type 0) (t : A → Bool) (rows : List A) (x : A) → find t rows ≡ Some x → AllByRecursion P rows → P x
all_found P t [] x e all = absurd (cc)
all_found P t (y ∷ rows) x e all = go (t y) e (λ f. all_found P t rows x f all.1)
  where
    go : (b : Bool) → cond b (Some y) (find t rows) ≡ Some x → (find t rows ≡ Some x → P x) → P x
    go true f more = let same : y ≡ x = cc in subst P same all.0
    go false f more = more f

-- of what holds of each project, what it says of a host that has one
pub of_project : (P : ProjectRow → Type 0) (lists : Lists) (host : Text) → AllByRecursion P lists.projects → IsTrue (has_project lists host) → (r : ProjectRow) × (r.host ≡ host) × P r
of_project P lists host all = go (find (is_project host) lists.projects) refl
  where
    go : (o : Option ProjectRow) → find (is_project host) lists.projects ≡ o → is_some o ≡ true → (r : ProjectRow) × (r.host ≡ host) × P r
    go None e h = absurd (true≢false (sym h))
    go (Some r) e h = (r, (bytes_eq-Decides r.host host).0 (found_passes (is_project host) lists.projects r e), all_found P (is_project host) lists.projects r e all)

-- a grant lies under a host that has a project
pub grants_owned : (lists : Lists) → KeepsConstraints lists → AllByRecursion (λ x. IsTrue (has_project lists x.host)) lists.held
grants_owned lists constraints = all_weaker _ (λ x. IsTrue (has_project lists x.host)) owned lists.held constraints.records.granted
  where
    owned : (x : GrantRow) → IsTrue (has_pass lists x.host x.pass && has_version lists x.host x.slug) → IsTrue (has_project lists x.host)
    owned x h = go (find (is_pass x.host x.pass) lists.passes) refl (and_parts _ _ h).0
      where
        go : (o : Option PassRow) → find (is_pass x.host x.pass) lists.passes ≡ o → is_some o ≡ true → IsTrue (has_project lists x.host)
        go None e t = absurd (true≢false (sym t))
        go (Some r) e t =
            let same = are_both r.host r.pass x.host x.pass (found_passes (is_pass x.host x.pass) lists.passes r e) in
            ap (has_project lists) (sym same.0) ∙ all_found (λ p. IsTrue (has_project lists p.host)) (is_pass x.host x.pass) lists.passes r e constraints.hosts.passes

range_below : (a n m : ℕ) → a + n ≤ m → AllByRecursion (λ k. k < m) (range_with_len a n)
range_below a zero m h = tt
range_below a (suc n) m h = (omega arith, range_below (a + 1) n m (omega arith))

-- the next place is above all that are taken
pub places_below : (lists : Lists) (row : LangRow) → KeepsConstraints lists → IsTrue (has_project lists row.host) → row.place ≡ length (filter (is_lang_of row.host) lists.langs) + 1
    → AllByRecursion (λ l. is_lang_of row.host l ≡ true → l.place < row.place) lists.langs
places_below lists row constraints has next =
    let ls = filter (is_lang_of row.host) lists.langs in
    let it = of_project (λ r. AreLanguages r.main (filter (is_lang_of r.host) lists.langs)) lists row.host constraints.projects.languages has in
    let these : AreLanguages it.0.main ls = subst (λ n. AreLanguages it.0.main (filter (is_lang_of n) lists.langs)) it.1 it.2 in
    let below : AllByRecursion (λ k. k < row.place) (map (λ (l : LangRow). l.place) ls) = subst (AllByRecursion (λ k. k < row.place)) (sym these.places) (range_below 1 (length ls) row.place (omega arith)) in
    all_kept (λ l. l.place < row.place) (is_lang_of row.host) lists.langs (all_unmap (λ k. k < row.place) (λ l. l.place) ls below)

-- a language whose place is above those of its host stands behind them
pub langs_with : (row : LangRow) (rows : List LangRow) → InOrder coding.langs.key rows → AllByRecursion (λ l. is_lang_of row.host l ≡ true → l.place < row.place) rows
    → filter (is_lang_of row.host) (added coding.langs.key row rows) ≡ filter (is_lang_of row.host) rows ++ row ∷ []
langs_with = added_behind (λ l. l.host) (λ l. l.place)

-- and its place is free
pub lang_is_free : (lists : Lists) (row : LangRow) → KeepsConstraints lists → IsTrue (has_project lists row.host) → row.place ≡ length (filter (is_lang_of row.host) lists.langs) + 1 → IsFreeKey coding.langs.key row lists.langs
lang_is_free lists row constraints has next = next_is_free (λ l. l.host) (λ l. l.place) row lists.langs (places_below lists row constraints has next)

one_more : (n : ℕ) → range_with_len 1 (n + 1) ≡ range_with_len 1 n ++ (n + 1) ∷ []
one_more n = sym (map-id _) ∙ map-range_with_len_more (λ k. k) 1 n (n + 1) (omega arith) ∙ ap (λ l. l ++ (n + 1) ∷ []) (map-id _)

more_languages : (main : Text) (ls : List LangRow) (row : LangRow) → AreLanguages main ls → row.place ≡ length ls + 1 → row.place ≤ 30 → list_any (λ t. bytes_eq t row.lang) (map (λ l. l.lang) ls) ≡ false → AreLanguages main (ls ++ row ∷ [])
more_languages main ls row were next few new = record {
  places =
      map-append (λ l. l.place) ls (row ∷ []) ∙ ap₂ (λ a k. a ++ k ∷ []) were.places next
      ∙ sym (one_more (length ls)) ∙ ap (range_with_len 1) (sym (length-append ls (row ∷ [])));
  apart = subst (IsDistinct bytes_eq) (sym (map-append (λ l. l.lang) ls (row ∷ []))) (IsDistinct-push nat_list_eq_equiv (map (λ l. l.lang) ls) row.lang were.apart ((λ i. list_any (λ t. turned row.lang t i) (map (λ l. l.lang) ls)) ∙ new));
  first = ap (λ l. slice_get l 0) (map-append (λ l. l.lang) ls (row ∷ [])) ∙ leads (map (λ l. l.lang) ls) were.first;
  few = subst (λ n. n ≤ 30) (next ∙ sym (length-append ls (row ∷ []))) few;
}
  where
    leads : (xs : List Text) → slice_get xs 0 ≡ Some main → slice_get (xs ++ row.lang ∷ []) 0 ≡ Some main
    leads [] e = absurd (cc)
    leads (x ∷ xs) e = e

pub constraints_with_lang : (lists : Lists) (row : LangRow) → KeepsConstraints lists → InOrder coding.langs.key lists.langs → IsTrue (has_project lists row.host)
    → row.place ≡ length (filter (is_lang_of row.host) lists.langs) + 1 → row.place ≤ 30 → has_language lists row.host row.lang ≡ false → KeepsConstraints (record lists { langs = added coding.langs.key row lists.langs })
constraints_with_lang lists row constraints up host next few new =
    assumption (
      all_added (λ l. IsTrue (has_project lists l.host)) (by_key coding.langs.key) row lists.langs host constraints.hosts.langs,
      all_weaker _ (λ r. AreLanguages r.main (filter (is_lang_of r.host) after)) still lists.projects constraints.projects.languages,
      all_weaker _ (λ x. list_any (λ t. bytes_eq t x.lang) (map (λ l. l.lang) (filter (is_lang_of x.host) after)) ≡ true) spoken lists.pages constraints.records.spoken,
    )
  where
    after : List LangRow
    after = added coding.langs.key row lists.langs

    here : filter (is_lang_of row.host) after ≡ filter (is_lang_of row.host) lists.langs ++ row ∷ []
    here = langs_with row lists.langs up (places_below lists row constraints host next)

    other : (name : Text) → bytes_eq row.host name ≡ false → filter (is_lang_of name) after ≡ filter (is_lang_of name) lists.langs
    other name = added_elsewhere (by_key coding.langs.key) (is_lang_of name) row lists.langs

    still : (r : ProjectRow) → AreLanguages r.main (filter (is_lang_of r.host) lists.langs) → AreLanguages r.main (filter (is_lang_of r.host) after)
    still r =
        of_each_host (λ name. AreLanguages r.main (filter (is_lang_of name) lists.langs) → AreLanguages r.main (filter (is_lang_of name) after)) row.host
        (λ were. subst (AreLanguages r.main) (sym here) (more_languages r.main _ row were next few new)) (λ name apart. subst (AreLanguages r.main) (sym (other name apart))) r.host

    speaks : Text → List LangRow → Bool
    speaks lang ls = list_any (λ t. bytes_eq t lang) (map (λ l. l.lang) ls)

    spoken : (x : PageRow) → IsTrue (has_language lists x.host x.lang) → list_any (λ t. bytes_eq t x.lang) (map (λ l. l.lang) (filter (is_lang_of x.host) after)) ≡ true
    spoken x =
        of_each_host (λ name. speaks x.lang (filter (is_lang_of name) lists.langs) ≡ true → speaks x.lang (filter (is_lang_of name) after) ≡ true) row.host
        (λ was. ap (speaks x.lang) here ∙ ap (list_any (λ t. bytes_eq t x.lang)) (map-append (λ l. l.lang) (filter (is_lang_of row.host) lists.langs) (row ∷ []))
        ∙ list_any-append (λ t. bytes_eq t x.lang) (map (λ l. l.lang) (filter (is_lang_of row.host) lists.langs)) (row.lang ∷ []) ∙ or_left _ _ was)
        (λ name apart was. ap (speaks x.lang) (other name apart) ∙ was) x.host

-- ---- projects

pub find_project : (row : ProjectRow) (rows : List ProjectRow) (host : Text) → find (is_project row.host) rows ≡ None
    → find (is_project host) (added coding.projects.key row rows) ≡ cond (is_project host row) (Some row) (find (is_project host) rows)
find_project row rows host new =
    find_added (by_key coding.projects.key) (is_project host) row rows
    (λ e. subst (λ h. AllByRecursion (λ r. is_project h r ≡ false) rows) ((bytes_eq-Decides row.host host).0 e) (none_found (is_project row.host) rows new))

-- what has a project does not lie under a host that has none
apart_from_new : (lists : Lists) (host : Text) → find (is_project host) lists.projects ≡ None → (h : Text) → IsTrue (has_project lists h) → bytes_eq h host ≡ false
apart_from_new lists host new h has = false_from_ne_true _ (λ e. true≢false (sym has ∙ ap (has_project lists) ((bytes_eq-Decides h host).0 e) ∙ ap is_some new))

-- no record lies under a host that has no project
pub none_of_new : {A : Type 0} (host_of : A → Text) (rows : List A) (lists : Lists) (host : Text) → find (is_project host) lists.projects ≡ None → AllByRecursion (λ a. IsTrue (has_project lists (host_of a))) rows
    → AllByRecursion (λ a. bytes_eq (host_of a) host ≡ false) rows
none_of_new host_of rows lists host new has = all_weaker _ (λ a. bytes_eq (host_of a) host ≡ false) (λ a. apart_from_new lists host new (host_of a)) rows has

-- the place of the first language of a new project is free
pub first_lang_is_free : (lists : Lists) (lang : LangRow) → KeepsConstraints lists → find (is_project lang.host) lists.projects ≡ None → IsFreeKey coding.langs.key lang lists.langs
first_lang_is_free lists lang constraints new =
    all_weaker _ (λ l. same_key coding.langs.key lang l ≡ false) (elsewhere (λ l. l.host) (λ l. l.place) lang) lists.langs (none_of_new (λ l. l.host) lists.langs lists lang.host new constraints.hosts.langs)

one_language : (main : Text) (row : LangRow) → row.lang ≡ main → row.place ≡ 1 → AreLanguages main (row ∷ [])
unfolding IsDistinct
one_language main row lang place = record { places = ap (λ k. k ∷ []) place; apart = (tt, tt); first = ap Some lang; few = omega arith }

none_are_defaults : AreDefaults []
unfolding IsDistinct
none_are_defaults = record { ranks = refl; apart = tt }

none_have_places : {X : Type 0} (place_of : X → ℕ) (most : ℕ) → HavePlaces place_of most []
none_have_places place_of most = record { places = refl; few = omega arith }

pub constraints_with_project : (lists : Lists) (row : ProjectRow) (lang : LangRow) → KeepsConstraints lists → find (is_project row.host) lists.projects ≡ None → lang.host ≡ row.host → lang.lang ≡ row.main → lang.place ≡ 1
    → KeepsConstraints (record lists { projects = added coding.projects.key row lists.projects; langs = added coding.langs.key lang lists.langs })
constraints_with_project lists row lang constraints new home main place =
    assumption (
      all_added (λ l. IsTrue (has_project next l.host)) (by_key coding.langs.key) lang lists.langs owner (still (λ l. l.host) lists.langs constraints.hosts.langs),
      still (λ v. v.host) lists.versions constraints.hosts.versions,
      still (λ x. x.host) lists.pages constraints.hosts.pages,
      still (λ u. u.host) lists.used constraints.hosts.used,
      still (λ d. d.host) lists.picks constraints.hosts.picks,
      still (λ x. x.host) lists.passes constraints.hosts.passes,
      still (λ r. r.host) lists.rules constraints.hosts.rules,
      still (λ r. r.host) lists.redirects constraints.hosts.redirects,
      all_added (λ r. AreLanguages r.main (filter (is_lang_of r.host) after)) (by_key coding.projects.key) row lists.projects first
          (all_both _ _ (λ r. AreLanguages r.main (filter (is_lang_of r.host) after)) other lists.projects constraints.projects.languages (none_found (is_project row.host) lists.projects new)),
      begun (λ x. x.host) (λ rows. length rows ≤ 1000) lists.passes constraints.hosts.passes (omega arith) constraints.projects.few_passes,
      begun (λ d. d.host) AreDefaults lists.picks constraints.hosts.picks none_are_defaults constraints.projects.defaults,
      begun (λ r. r.host) AreRules lists.rules constraints.hosts.rules (none_have_places (λ r. r.place) 50) constraints.projects.rule_places,
      begun (λ r. r.host) AreRedirects lists.redirects constraints.hosts.redirects (none_have_places (λ r. r.place) 100) constraints.projects.places,
      all_both _ _ (λ x. IsTrue (has_language next x.host x.lang)) spoken lists.pages constraints.hosts.pages constraints.records.spoken,
    )
  where
    after : List LangRow
    after = added coding.langs.key lang lists.langs

    next : Lists
    next = record lists { projects = added coding.projects.key row lists.projects; langs = after }

    owned : (host : Text) → IsTrue (has_project lists host) → IsTrue (has_project next host)
    owned host was = ap is_some (find_project row lists.projects host new) ∙ go (is_project host row)
      where
        go : (b : Bool) → is_some (cond b (Some row) (find (is_project host) lists.projects)) ≡ true
        go true = refl
        go false = was

    -- what has a project still has one
    still : {A : Type 0} (host_of : A → Text) (rows : List A) → AllByRecursion (λ a. IsTrue (has_project lists (host_of a))) rows → AllByRecursion (λ a. IsTrue (has_project next (host_of a))) rows
    still host_of = all_weaker _ (λ a. IsTrue (has_project next (host_of a))) (λ a. owned (host_of a))

    owner : IsTrue (has_project next lang.host)
    owner = ap is_some (find_project row lists.projects lang.host new ∙ ap (λ b. cond b (Some row) (find (is_project lang.host) lists.projects)) ((bytes_eq-Decides row.host lang.host).1 (sym home)))

    -- what holds of each project's records in a list, and of none, holds of the new one's
    begun : {A : Type 0} (host_of : A → Text) (P : List A → Type 0) (rows : List A) → AllByRecursion (λ a. IsTrue (has_project lists (host_of a))) rows → P []
        → AllByRecursion (λ r. P (filter (λ a. bytes_eq (host_of a) r.host) rows)) lists.projects → AllByRecursion (λ r. P (filter (λ a. bytes_eq (host_of a) r.host) rows)) next.projects
    begun host_of P rows owned none =
        all_added (λ r. P (filter (λ a. bytes_eq (host_of a) r.host) rows)) (by_key coding.projects.key) row lists.projects
        (subst P (sym (filter_none (λ a. bytes_eq (host_of a) row.host) rows (none_of_new host_of rows lists row.host new owned))) none)

    elsewhere_added : (host : Text) → bytes_eq host row.host ≡ false → filter (is_lang_of host) after ≡ filter (is_lang_of host) lists.langs
    elsewhere_added host apart = added_elsewhere (by_key coding.langs.key) (is_lang_of host) lang lists.langs (ap (λ h. bytes_eq h host) home ∙ turned row.host host ∙ apart)

    first : AreLanguages row.main (filter (is_lang_of row.host) after)
    first = subst (AreLanguages row.main)
        (sym (none_but_added (by_key coding.langs.key) (is_lang_of row.host) lang lists.langs ((bytes_eq-Decides lang.host row.host).1 home) (none_of_new (λ l. l.host) lists.langs lists row.host new constraints.hosts.langs)))
        (one_language row.main lang main place)

    other : (r : ProjectRow) → AreLanguages r.main (filter (is_lang_of r.host) lists.langs) → is_project row.host r ≡ false → AreLanguages r.main (filter (is_lang_of r.host) after)
    other r were apart = subst (AreLanguages r.main) (sym (elsewhere_added r.host apart)) were

    spoken : (x : PageRow) → IsTrue (has_project lists x.host) → IsTrue (has_language lists x.host x.lang) → IsTrue (has_language next x.host x.lang)
    spoken x has was = ap (λ l. list_any (λ t. bytes_eq t x.lang) (map (λ l. l.lang) l)) (elsewhere_added x.host (apart_from_new lists row.host new x.host has)) ∙ was
