-- Redirects of a documentation host (Read the Docs, Redirects), and which of them are refused.
use Rattle.std.specs.Prelude.{ℕ, ◌-◌, ◌^◌, Bool, true, false, ◌&&◌, ◌||◌, not, ◌==◌, nat_le, nat_eq, if◌then◌else◌, List, [], ◌∷◌, ◌++◌, length, take, codes, find, Option, Some, None}
use Rattle.std.specs.List.{list_all, list_any, starts_with, before_first}
use Rattle.std.specs.Str.{bytes_eq}
use Rattle.dh_texts.specs.Bytes.{hash, star, slash, question}
use Rattle.dh_texts.specs.Texts.{is_no_control, first_byte, last_byte, rest_after}
use Rattle.dh_texts.specs.Numbers.{decimal_below}
use Rattle.dh_redirects.specs.declared.redirect.RedirectKind.{RedirectKind}
use Rattle.dh_redirects.specs.declared.redirect.RedirectKind.TheVariants.{Page, Exact, CleanToHtml, HtmlToClean}
use Rattle.dh_redirects.specs.declared.redirect.Redirect.{Redirect}
use Rattle.dh_redirects.specs.declared.redirect.BadRedirect.{BadRedirect}
use Rattle.dh_redirects.specs.declared.redirect.BadRedirect.TheVariants.{BadSource, EarlyStar, BadTarget, SplatWithoutStar, BadStatus, UnusedText}
use Rattle.dh_redirects.specs.declared.texts.TheConstants.{MOST_REDIRECT_BYTES}

-- the needle stands somewhere in the text
abbrev pub has_text : List ℕ → List ℕ → Bool
has_text needle [] = starts_with nat_eq [] needle
has_text needle (b ∷ bs) = starts_with nat_eq (b ∷ bs) needle || has_text needle bs

abbrev pub is_path : List ℕ → Bool
is_path target = first_byte target == slash

-- what stands in To for the rest that From's final `*` stands for
abbrev pub splat : List ℕ
splat = codes ":splat"

-- a host, which no rest may fill, stands before the next `/`, `?` or `#`
abbrev pub begins_with_host : Option (List ℕ) → Bool
begins_with_host None = false
begins_with_host (Some text) =
    let host = before_first (λ b. b == slash || b == question || b == hash) text in
    not (length host == 0) && not (has_text splat host)

-- `http://` or `https://`, and a host
abbrev pub is_absolute : List ℕ → Bool
is_absolute target =
    begins_with_host (rest_after (codes "http://") target) || begins_with_host (rest_after (codes "https://") target)

-- short enough, no control byte
abbrev pub is_short_text : List ℕ → Bool
is_short_text text = nat_le (length text) MOST_REDIRECT_BYTES && list_all is_no_control text

abbrev pub ends_in_star : List ℕ → Bool
ends_in_star source = last_byte source == star

-- the text without its last byte
abbrev pub before_last_byte : List ℕ → List ℕ
before_last_byte text = take (length text - 1) text

-- a `*` stands before the last byte
abbrev pub has_early_star : List ℕ → Bool
has_early_star source = list_any (λ b. b == star) (before_last_byte source)

-- the kinds that have a From and a To
abbrev pub has_texts : RedirectKind → Bool
has_texts Page = true
has_texts Exact = true
has_texts CleanToHtml = false
has_texts HtmlToClean = false

-- the kind that a word names, and the number that the digits of a status write

abbrev pub redirect_kind_of : List ℕ → Option RedirectKind
redirect_kind_of text =
    if bytes_eq text (codes "page") then Some Page
    else if bytes_eq text (codes "exact") then Some Exact
    else if bytes_eq text (codes "clean-to-html") then Some CleanToHtml
    else if bytes_eq text (codes "html-to-clean") then Some HtmlToClean
    else None

abbrev pub redirect_status_of : List ℕ → Option ℕ
redirect_status_of text = decimal_below (2 ^ 16) text

-- whether a redirect has this fault
abbrev pub has_fault : Redirect → BadRedirect → Bool
has_fault r BadSource = has_texts r.kind && not (is_path r.source && is_short_text r.source)
has_fault r EarlyStar = has_texts r.kind && has_early_star r.source
has_fault r BadTarget = has_texts r.kind && not (is_short_text r.target && (is_path r.target || is_absolute r.target))
has_fault r SplatWithoutStar = has_texts r.kind && has_text splat r.target && not (ends_in_star r.source)
has_fault r BadStatus = not (r.status == 301 || r.status == 302)
has_fault r UnusedText = not (has_texts r.kind) && not (length r.source == 0 && length r.target == 0)

-- the first fault of a redirect, if it has one
unfoldable pub first_fault : Redirect → Option BadRedirect
first_fault r = find (has_fault r) (BadSource ∷ EarlyStar ∷ BadTarget ∷ SplatWithoutStar ∷ UnusedText ∷ BadStatus ∷ [])

-- the number by which a refusal tells a fault
abbrev pub fault_number : BadRedirect → ℕ
fault_number = elim [
  | BadSource ↦ 1
  | EarlyStar ↦ 2
  | BadTarget ↦ 3
  | SplatWithoutStar ↦ 4
  | BadStatus ↦ 5
  | UnusedText ↦ 6
]

-- ---- two redirects

abbrev pub same_redirect_kind : RedirectKind → RedirectKind → Bool
same_redirect_kind Page Page = true
same_redirect_kind Exact Exact = true
same_redirect_kind CleanToHtml CleanToHtml = true
same_redirect_kind HtmlToClean HtmlToClean = true
same_redirect_kind _ _ = false

abbrev pub same_force : Bool → Bool → Bool
same_force true b = b
same_force false b = not b

-- all five fields are equal
abbrev pub same_redirect : Redirect → Redirect → Bool
same_redirect a b =
    same_redirect_kind a.kind b.kind && a.status == b.status && same_force a.force b.force
    && bytes_eq a.source b.source && bytes_eq a.target b.target

-- ---- redirects of old lists

-- what stands at the end of an old From for any rest
abbrev pub old_rest : List ℕ
old_rest = codes "$rest"

-- what stands before `$rest`, where From ends in it
abbrev pub before_rest : List ℕ → Option (List ℕ)
before_rest source =
    let front = take (length source - length old_rest) source in
    if bytes_eq source (front ++ old_rest) then Some front else None

-- `*` takes the place of `$rest` in From, and To gets `:splat` at its end
abbrev pub with_rest : Redirect → Option (List ℕ) → Redirect
with_rest r None = r
with_rest r (Some front) = record r { source = front ++ codes "*"; target = r.target ++ splat }

-- rewrites a redirect of an old list; one whose From does not end in `$rest` stays as it was
abbrev pub from_old : Redirect → Redirect
from_old r = with_rest r (before_rest r.source)
