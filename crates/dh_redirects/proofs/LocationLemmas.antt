-- A path result has one leading slash; and memory is asked for where a text is written.
use Rattle.std.proofs.Common.{◌≡◌, ℕ, Bool, true, false, cond, ◌&&◌, ◌||◌, ◌==◌, List, [], ◌∷◌, ◌++◌, length, drop, slice_index, Option, Some, None, is_some, option_map, refl, sym, ap, ap₂, ◌∙◌, if◌then◌else◌}
use Rattle.dh_redirects.specs.declared.redirect.Asked.{Asked}
use Rattle.dh_redirects.specs.declared.redirect.Parts.{Parts}
use Rattle.dh_redirects.specs.declared.redirect.Redirect.{Redirect}
use Rattle.dh_redirects.specs.declared.redirect.RedirectKind.TheVariants.{CleanToHtml, HtmlToClean}
use Rattle.dh_redirects.specs.Locations.{one_slash, without_fragment, query_part, with_query_of, is_request, led, is_rooted, html_file, clean_file, file_path, written_by, is_page_kind, asks_memory}
use Rattle.dh_redirects.proofs.TextLemmas.{before_first-cons}
use Rattle.dh_redirects.proofs.FillLemmas.{after_slashes-head}

-- the byte after a leading slash stays, or is the `?` of a query
second : (s t q : List ℕ) → (slice_index s 0 == 47) ≡ false → (slice_index (without_fragment s ++ (63 ∷ q) ++ t) 0 == 47) ≡ false
second [] t q h = refl
second (x ∷ xs) t q h =
    rw (before_first-cons (λ b. b == 35) x xs)
    (elim (x == 35) as (λ v. (slice_index (cond v [] (x ∷ without_fragment xs) ++ (63 ∷ q) ++ t) 0 == 47) ≡ false) [ true ↦ refl | false ↦ h ])

pub with_query_of-rooted : (s : List ℕ) (query : Option (List ℕ)) → (slice_index s 0 == 47) ≡ false → is_rooted (with_query_of (47 ∷ s) query) ≡ true
unfolding with_query_of
with_query_of-rooted s None h = rw h refl
with_query_of-rooted s (Some q) h =
    elim (is_some (query_part (47 ∷ s))) as (λ v. is_rooted (if v then 47 ∷ s else without_fragment (47 ∷ s) ++ (63 ∷ q) ++ drop (length (without_fragment (47 ∷ s))) (47 ∷ s)) ≡ true) [
      | true ↦ rw h refl
      | false ↦
          let front : without_fragment (47 ∷ s) ≡ 47 ∷ without_fragment s = before_first-cons (λ b. b == 35) 47 s in
          rw (front, second s (drop (length (without_fragment s)) s) q h) refl
    ]

-- what `led` answers on this host
led_some : (asked : Asked) (text address : List ℕ) → led true asked text ≡ Some address → (address ≡ with_query_of (one_slash text) asked.query) × (is_request address asked ≡ false)
led_some asked text address h =
    let whole = with_query_of (one_slash text) asked.query in
    elim (is_request whole asked) as (λ v. is_request whole asked ≡ v → (if v then None else Some whole) ≡ Some address → (address ≡ whole) × (is_request address asked ≡ false)) [
      | true ↦ λ _ e. cc
      | false ↦ λ no e. let same : address ≡ whole = cc in (same, rw same no)
    ] refl h

pub led-rooted : (on_site : Bool) (asked : Asked) (text address : List ℕ) → led on_site asked text ≡ Some address → on_site ≡ true → is_rooted address ≡ true
led-rooted false asked text address h on = cc
led-rooted true asked text address h on =
    rw (led_some asked text address h).0 (with_query_of-rooted _ asked.query (after_slashes-head text))

some_mapped : (f : List ℕ → List ℕ) (o : Option (List ℕ)) (b : Bool) → is_some o ≡ true → (is_some (option_map f o) || b) ≡ true
some_mapped f None b h = absurd (cc)
some_mapped f (Some x) b h = refl

-- memory is asked for where a file has another name
pub asks-html : (r : Redirect) (asked : Asked) (parts : Parts) (file : List ℕ) → r.kind ≡ CleanToHtml → asked.parts ≡ Some parts → file ≡ parts.file → is_some (html_file file) ≡ true → asks_memory r asked ≡ true
asks-html r asked parts file of_kind found same some =
    ap₂ (λ k p. is_some (written_by k r.source r.target asked.path p) || (is_page_kind k && is_some p)) of_kind found
    ∙ some_mapped (file_path parts) (html_file parts.file) false (ap (λ f. is_some (html_file f)) (sym same) ∙ some)

pub asks-clean : (r : Redirect) (asked : Asked) (parts : Parts) (file : List ℕ) → r.kind ≡ HtmlToClean → asked.parts ≡ Some parts → file ≡ parts.file → is_some (clean_file file) ≡ true → asks_memory r asked ≡ true
asks-clean r asked parts file of_kind found same some =
    ap₂ (λ k p. is_some (written_by k r.source r.target asked.path p) || (is_page_kind k && is_some p)) of_kind found
    ∙ some_mapped (file_path parts) (clean_file parts.file) false (ap (λ f. is_some (clean_file f)) (sym same) ∙ some)
