-- The keys of the tables: when two records have one key, and which free keys a search shows.
use Rattle.std.proofs.Common.{◌≡◌, ℕ, ◌<◌, pos, Bool, true, false, ◌&&◌, List, [], ◌∷◌, ◌++◌, filter, find, None, refl, sym, ap, ◌∙◌, arith, Ordering, Less, Equal, Greater, is_eq}
use Rattle.std.specs.List.{AllByRecursion}
use Rattle.std.specs.Str.{bytes_eq}
use Rattle.std.specs.Ordering.{eq_by_cmp, ordering_then, nat_cmp}
use Rattle.std.proofs.lemmas.Bool.Decides.{nat_tests}
use Rattle.std.proofs.lemmas.Cmp.{tied_itself}
use Rattle.std.proofs.lemmas.Slice.Eq.{bytes_eq-Decides}
use Rattle.sqlite_value.specs.declared.value.Value.TheVariants.{Text, Int}
use Rattle.sqlite_value.specs.Order.{Row, value_cmp}
use Rattle.sqlite_value.proofs.OrderLemmas.{value_cmp-Int, value_cmp_total, then-Equal}
use Rattle.sqlite_trees.specs.Tree.{IsAscending}
use Rattle.sqlite_keyed.proofs.ListLemmas.{all_weaker}
use Rattle.dh_rows.specs.Keyed.{by_key, same_key, flag, IsFreeKey, added}
use Rattle.dh_rows.proofs.Lists.{by_key_total}
use Rattle.dh_records.specs.declared.records.ProjectRow.{ProjectRow}
use Rattle.dh_records.specs.declared.records.VersionRow.{VersionRow}
use Rattle.dh_records.specs.declared.records.PageRow.{PageRow}
use Rattle.dh_records.specs.declared.records.RetryRow.{RetryRow}
use Rattle.dh_records.specs.declared.records.PassRow.{PassRow}
use Rattle.dh_records.specs.declared.records.GrantRow.{GrantRow}
use Rattle.dh_world.specs.declared.operation.Operation.{Operation}
use Rattle.dh_world.specs.declared.operation.Operation.TheVariants.{Push, Upload}
use Rattle.dh_records.specs.Codings as coding
use Rattle.dh_world.specs.World.{is_upload, text_cmp, PageKey, page_cmp, HeldKey, held_cmp, UsedKey, used_cmp, op_code}
use Rattle.dh_records.specs.Lists.{is_project, is_version, is_page, is_used, is_pass, is_held, same_op}
use Rattle.dh_world.proofs.MapLemmas.{tied_text, tied_page, tied_held}
use Rattle.dh_records.proofs.Keys.{one, two, three, four, host_first, host_first_of_four, eq_then, same_text, texts_key, free_if_missing}
use Rattle.dh_records.proofs.RecordLemmas.{added_last}
pub use Rattle.dh_records.proofs.Keys.{turned}

-- ---- keys that are texts

pub project_key : (x y : ProjectRow) → same_key coding.projects.key x y ≡ is_project x.host y
project_key x y = texts_key (x.host ∷ []) (y.host ∷ []) ∙ one (bytes_eq y.host x.host)

pub version_key : (x y : VersionRow) → same_key coding.versions.key x y ≡ is_version x.host x.version.slug y
version_key x y = texts_key (x.host ∷ x.version.slug ∷ []) (y.host ∷ y.version.slug ∷ []) ∙ two (bytes_eq y.host x.host) (bytes_eq y.version.slug x.version.slug)

pub page_key : (x y : PageRow) → same_key coding.pages.key x y ≡ is_page x.host x.slug x.lang x.path y
page_key x y =
    texts_key (x.host ∷ x.slug ∷ x.lang ∷ x.path ∷ []) (y.host ∷ y.slug ∷ y.lang ∷ y.path ∷ [])
    ∙ four (bytes_eq y.host x.host) (bytes_eq y.slug x.slug) (bytes_eq y.lang x.lang) (bytes_eq y.path x.path)

pub pass_key : (x y : PassRow) → same_key coding.passes.key x y ≡ is_pass x.host x.pass y
pass_key x y = texts_key (x.host ∷ x.pass ∷ []) (y.host ∷ y.pass ∷ []) ∙ two (bytes_eq y.host x.host) (bytes_eq y.pass x.pass)

pub held_key : (x y : GrantRow) → same_key coding.held.key x y ≡ is_held x.host x.pass x.slug y
held_key x y = texts_key (x.host ∷ x.pass ∷ x.slug ∷ []) (y.host ∷ y.pass ∷ y.slug ∷ []) ∙ three (bytes_eq y.host x.host) (bytes_eq y.pass x.pass) (bytes_eq y.slug x.slug)

-- ---- a host, and the key of a map of its project

abbrev pub page_place : PageRow → PageKey
page_place x = (x.slug, (x.lang, x.path))

abbrev pub held_place : GrantRow → HeldKey
held_place x = (x.pass, x.slug)

pub same_version : (x y : VersionRow) → same_key coding.versions.key x y ≡ (bytes_eq y.host x.host && eq_by_cmp text_cmp x.version.slug y.version.slug)
same_version x y = version_key x y ∙ ap (λ b. bytes_eq y.host x.host && b) (sym (tied_text x.version.slug y.version.slug))

pub same_page : (x y : PageRow) → same_key coding.pages.key x y ≡ (bytes_eq y.host x.host && eq_by_cmp page_cmp (page_place x) (page_place y))
same_page x y =
    page_key x y ∙ host_first_of_four (bytes_eq y.host x.host) (bytes_eq y.slug x.slug) (bytes_eq y.lang x.lang) (bytes_eq y.path x.path)
    ∙ ap (λ b. bytes_eq y.host x.host && b) (sym (tied_page x.slug x.lang x.path (page_place y)))

pub same_pass : (x y : PassRow) → same_key coding.passes.key x y ≡ (bytes_eq y.host x.host && eq_by_cmp text_cmp x.pass y.pass)
same_pass x y = pass_key x y ∙ ap (λ b. bytes_eq y.host x.host && b) (sym (tied_text x.pass y.pass))

pub same_held : (x y : GrantRow) → same_key coding.held.key x y ≡ (bytes_eq y.host x.host && eq_by_cmp held_cmp (held_place x) (held_place y))
same_held x y =
    held_key x y ∙ host_first (bytes_eq y.host x.host) (bytes_eq y.pass x.pass) (bytes_eq y.slug x.slug)
    ∙ ap (λ b. bytes_eq y.host x.host && b) (sym (tied_held x.pass x.slug (held_place y)))

-- ---- hosts with places: languages, defaults, rules and redirects

pub place_above : (m n : ℕ) → m < n → value_cmp (Int (pos n)) (Int (pos m)) ≡ Greater
place_above m n h = value_cmp-Int (pos n) (pos m) ∙ grind (arith, nat_tests)

module _ {X : Type 0} (host_of : X → List ℕ) (place_of : X → ℕ) where
  abbrev pub place_key : X → Row
  place_key x = Text (host_of x) ∷ Int (pos (place_of x)) ∷ []

  place_order : (x y : X) → by_key place_key x y ≡ ordering_then (value_cmp (Text (host_of x)) (Text (host_of y))) (value_cmp (Int (pos (place_of x))) (Int (pos (place_of y))))
  place_order x y = ap (ordering_then (value_cmp (Text (host_of x)) (Text (host_of y)))) (then-Equal (value_cmp (Int (pos (place_of x))) (Int (pos (place_of y)))))

  -- of the records of a host, the later stands behind
  pub later_above : (x y : X) → host_of y ≡ host_of x → place_of y < place_of x → by_key place_key x y ≡ Greater
  later_above x y e h =
      place_order x y
      ∙ ap (λ o. ordering_then o (value_cmp (Int (pos (place_of x))) (Int (pos (place_of y))))) (ap (λ t. value_cmp (Text (host_of x)) (Text t)) e ∙ tied_itself value_cmp_total (Text (host_of x)))
      ∙ place_above (place_of y) (place_of x) h

  pub elsewhere : (x y : X) → bytes_eq (host_of y) (host_of x) ≡ false → same_key place_key x y ≡ false
  elsewhere x y out =
      ap is_eq (place_order x y) ∙ eq_then (value_cmp (Text (host_of x)) (Text (host_of y))) _
      ∙ ap (λ b. b && is_eq (value_cmp (Int (pos (place_of x))) (Int (pos (place_of y))))) (same_text (host_of x) (host_of y) ∙ out)

  -- a place behind all that its host has is free
  pub behind_is_free : (x y : X) → (bytes_eq (host_of y) (host_of x) ≡ true → place_of y < place_of x) → same_key place_key x y ≡ false
  behind_is_free x y before = go (bytes_eq (host_of y) (host_of x)) refl
    where
      go : (b : Bool) → bytes_eq (host_of y) (host_of x) ≡ b → same_key place_key x y ≡ false
      go true e = ap is_eq (later_above x y ((bytes_eq-Decides (host_of y) (host_of x)).0 e) (before e))
      go false e = elsewhere x y e

  -- of the records of its host, each stands before this one
  abbrev pub AreBefore : X → List X → Type 0
  AreBefore x rows = AllByRecursion (λ y. bytes_eq (host_of y) (host_of x) ≡ true → place_of y < place_of x) rows

  pub next_is_free : (x : X) (rows : List X) → AreBefore x rows → IsFreeKey place_key x rows
  next_is_free x rows before = all_weaker _ (λ y. same_key place_key x y ≡ false) (behind_is_free x) rows before

  pub added_behind : (x : X) (rows : List X) → IsAscending (λ y z. by_key place_key y z ≡ Less) rows → AreBefore x rows
      → filter (λ y. bytes_eq (host_of y) (host_of x)) (added place_key x rows) ≡ filter (λ y. bytes_eq (host_of y) (host_of x)) rows ++ x ∷ []
  added_behind x rows up before =
      added_last (by_key place_key) (by_key_total place_key) (λ y. bytes_eq (host_of y) (host_of x)) x rows up ((bytes_eq-Decides (host_of x) (host_of x)).1 refl)
      (all_weaker _ (λ y. bytes_eq (host_of y) (host_of x) ≡ true → by_key place_key x y ≡ Greater) (λ y h e. later_above x y ((bytes_eq-Decides (host_of y) (host_of x)).0 e) (h e)) rows before)

-- ---- used keys

abbrev pub used_place : RetryRow → UsedKey
used_place x = (x.slug, (op_code x.op, x.retry))

same_flag : (a b : Operation) → is_eq (value_cmp (flag (is_upload a)) (flag (is_upload b))) ≡ eq_by_cmp nat_cmp (op_code a) (op_code b)
unfolding value_cmp lib.Ieee.is_nan lib.Ieee.lt
same_flag Push Push = refl
same_flag Push Upload = refl
same_flag Upload Push = refl
same_flag Upload Upload = refl

same_ops : (a b : Operation) → eq_by_cmp nat_cmp (op_code a) (op_code b) ≡ same_op b a
same_ops Push Push = refl
same_ops Push Upload = refl
same_ops Upload Push = refl
same_ops Upload Upload = refl

four_then : (h s o r : Ordering) → is_eq (ordering_then h (ordering_then s (ordering_then o (ordering_then r Equal)))) ≡ (is_eq h && (is_eq s && (is_eq o && is_eq r)))
four_then h s o r =
    eq_then h (ordering_then s (ordering_then o (ordering_then r Equal)))
    ∙ ap (λ b. is_eq h && b) (eq_then s (ordering_then o (ordering_then r Equal)) ∙ ap (λ b. is_eq s && b) (eq_then o (ordering_then r Equal) ∙ ap (λ b. is_eq o && is_eq b) (then-Equal r)))

tied_used : (slug : List ℕ) (op : Operation) (retry : List ℕ) (y : RetryRow) → eq_by_cmp used_cmp (slug, (op_code op, retry)) (used_place y) ≡ (bytes_eq y.slug slug && (eq_by_cmp nat_cmp (op_code op) (op_code y.op) && bytes_eq y.retry retry))
tied_used slug op retry y =
    eq_then (text_cmp slug y.slug) _
    ∙ ap (λ b. is_eq (text_cmp slug y.slug) && b) (eq_then (nat_cmp (op_code op) (op_code y.op)) (text_cmp retry y.retry))
    ∙ rw (tied_text slug y.slug, tied_text retry y.retry) refl

pub tied_used_key : (slug : List ℕ) (op : Operation) (retry : List ℕ) (y : RetryRow) → eq_by_cmp used_cmp (slug, (op_code op, retry)) (used_place y) ≡ (bytes_eq y.slug slug && (same_op y.op op && bytes_eq y.retry retry))
tied_used_key slug op retry y = tied_used slug op retry y ∙ ap (λ b. bytes_eq y.slug slug && (b && bytes_eq y.retry retry)) (same_ops op y.op)

pub same_used : (x y : RetryRow) → same_key coding.used.key x y ≡ (bytes_eq y.host x.host && eq_by_cmp used_cmp (used_place x) (used_place y))
same_used x y =
    four_then (value_cmp (Text x.host) (Text y.host)) (value_cmp (Text x.slug) (Text y.slug)) (value_cmp (flag (is_upload x.op)) (flag (is_upload y.op))) (value_cmp (Text x.retry) (Text y.retry))
    ∙ rw (same_text x.host y.host, same_text x.slug y.slug, same_flag x.op y.op, same_text x.retry y.retry) (ap (λ b. bytes_eq y.host x.host && b) (sym (tied_used x.slug x.op x.retry y)))

pub used_key : (x y : RetryRow) → same_key coding.used.key x y ≡ is_used x.host x.slug x.op x.retry y
used_key x y =
    same_used x y ∙ ap (λ b. bytes_eq y.host x.host && b) (tied_used_key x.slug x.op x.retry y)
    ∙ sym (host_first_of_four (bytes_eq y.host x.host) (bytes_eq y.slug x.slug) (same_op y.op x.op) (bytes_eq y.retry x.retry))

-- ---- free keys

-- the host of no project is a free key
pub project_is_free : (x : ProjectRow) (rows : List ProjectRow) → find (is_project x.host) rows ≡ None → IsFreeKey coding.projects.key x rows
project_is_free x = free_if_missing coding.projects.key x (is_project x.host) (project_key x)

-- a retry key that was not used is a free key
pub used_is_free : (x : RetryRow) (rows : List RetryRow) → find (is_used x.host x.slug x.op x.retry) rows ≡ None → IsFreeKey coding.used.key x rows
used_is_free x = free_if_missing coding.used.key x (is_used x.host x.slug x.op x.retry) (used_key x)

-- a pass that is not there is a free key
pub pass_is_free : (x : PassRow) (rows : List PassRow) → find (is_pass x.host x.pass) rows ≡ None → IsFreeKey coding.passes.key x rows
pass_is_free x = free_if_missing coding.passes.key x (is_pass x.host x.pass) (pass_key x)
