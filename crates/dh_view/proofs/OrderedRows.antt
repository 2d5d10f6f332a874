-- Records in the order of their keys, as the entries of a map.
use Rattle.std.proofs.Common.{◌≡◌, Bool, true, false, ◌&&◌, cond, List, [], ◌∷◌, map, filter, T, refl, sym, ap, ◌∙◌, Ordering, Less, Equal, Greater, is_lt, true≢false}
use Rattle.std.specs.List.{AllByRecursion}
use Rattle.std.specs.Str.{bytes_eq}
use Rattle.std.specs.Ordering.{is_eq, ordering_then}
use Rattle.std.specs.Cmp.{IsTotalOrder, tied_itself}
use Rattle.std.specs.FinMap.{IsAntisymmetric, is_sorted, entries, from_entries, from_sorted, get-from_entries, get-from_sorted, entries-from_sorted, same_map}
use Rattle.std.specs.FinMap.Entries.{below_all}
use Rattle.std.proofs.lemmas.Slice.Eq.{bytes_eq-Decides}
use Rattle.sqlite_value.specs.Order.{Row}
use Rattle.sqlite_value.proofs.OrderLemmas.{value_cmp-Text}
use Rattle.dh_rows.specs.Keyed.{by_key}
use Rattle.dh_world.specs.World.{Text, text_cmp, page_cmp, held_cmp}
use Rattle.dh_world.proofs.MapLemmas.{text_total}
use Rattle.dh_records.specs.Codings as coding
use Rattle.dh_records.specs.Constraints.{InOrder}
use Rattle.dh_records.specs.declared.records.ProjectRow.{ProjectRow}
use Rattle.dh_records.specs.declared.records.PageRow.{PageRow}
use Rattle.dh_records.specs.declared.records.PassRow.{PassRow}
use Rattle.dh_records.specs.declared.records.GrantRow.{GrantRow}
use Rattle.dh_records.proofs.KeyLemmas.{page_place}

-- ---- a map of entries in order

pub entries_of : {K X : Type 0} {R : K → K → Ordering} → IsTotalOrder R → IsAntisymmetric R → (es : List (K × X)) → T (is_sorted R es) → entries (from_entries {R = R} es) ≡ es
entries_of {R = R} total exact es up =
    ap entries (same_map total exact (from_entries es) (from_sorted es) (λ q. get-from_entries total es q ∙ sym (get-from_sorted R es q up)))
    ∙ entries-from_sorted R es up

-- ---- entries of records that pass a test

both : (a b : Bool) → T a → T b → T (a && b)
both true b p q = q
both false b p q = absurd p

module _ {A K X : Type 0} (R : K → K → Ordering) (key : A → Row) (place : A → K) (value : A → X) (test : A → Bool)
    (rise : (x y : A) → test x ≡ true → test y ≡ true → by_key key x y ≡ Less → T (is_lt (R (place x) (place y)))) where
  abbrev entry : A → K × X
  entry x = (place x, value x)

  below : (x : A) → test x ≡ true → (ys : List A) → AllByRecursion (λ y. by_key key x y ≡ Less) ys → T (below_all R (place x) (map entry (filter test ys)))
  below x own [] all = tt
  below x own (y ∷ ys) all = go (test y) refl (below x own ys all.1)
    where
      go : (b : Bool) → test y ≡ b → T (below_all R (place x) (map entry (filter test ys)))
          → T (below_all R (place x) (map entry (cond b (y ∷ filter test ys) (filter test ys))))
      go true e more = both _ _ (rise x y own e all.0) more
      go false e more = more

  pub rising : (rows : List A) → InOrder key rows → T (is_sorted R (map entry (filter test rows)))
  rising [] up = tt
  rising (r ∷ rs) up = go (test r) refl (rising rs up.1)
    where
      go : (b : Bool) → test r ≡ b → T (is_sorted R (map entry (filter test rs)))
          → T (is_sorted R (map entry (cond b (r ∷ filter test rs) (filter test rs))))
      go true e more = both _ _ (below r e rs up.0) more
      go false e more = more

-- ---- keys behind a host

less_last : (o : Ordering) → ordering_then o Equal ≡ Less → T (is_lt o)
less_last Less e = tt
less_last Equal e = absurd (true≢false (ap is_eq e))
less_last Greater e = absurd (true≢false (sym (ap is_lt e)))

less_two : (o p : Ordering) → ordering_then o (ordering_then p Equal) ≡ Less → T (is_lt (ordering_then o p))
less_two Less p e = tt
less_two Equal p e = less_last p e
less_two Greater p e = absurd (true≢false (sym (ap is_lt e)))

less_three : (o p q : Ordering) → ordering_then o (ordering_then p (ordering_then q Equal)) ≡ Less → T (is_lt (ordering_then o (ordering_then p q)))
less_three Less p q e = tt
less_three Equal p q e = less_two p q e
less_three Greater p q e = absurd (true≢false (sym (ap is_lt e)))

-- two records of a host, by what stands behind it in their keys
behind : (host x y : Text) (rest : Ordering) → bytes_eq x host ≡ true → bytes_eq y host ≡ true → ordering_then (text_cmp x y) rest ≡ Less → rest ≡ Less
behind host x y rest own other less =
    let same : x ≡ y = (bytes_eq-Decides x host).0 own ∙ sym ((bytes_eq-Decides y host).0 other) in
    ap (λ o. ordering_then o rest) (sym (tied_itself text_total x) ∙ ap (text_cmp x) same) ∙ less

project_key : (x y : ProjectRow) → by_key coding.projects.key x y ≡ ordering_then (text_cmp x.host y.host) Equal
project_key x y = rw (value_cmp-Text x.host y.host) refl

pub hosts_rise : (x y : ProjectRow) → true ≡ true → true ≡ true → by_key coding.projects.key x y ≡ Less → T (is_lt (text_cmp x.host y.host))
hosts_rise x y _ _ less = less_last _ (sym (project_key x y) ∙ less)

pass_key : (x y : PassRow) → by_key coding.passes.key x y ≡ ordering_then (text_cmp x.host y.host) (ordering_then (text_cmp x.pass y.pass) Equal)
pass_key x y = rw (value_cmp-Text x.host y.host, value_cmp-Text x.pass y.pass) refl

pub passes_rise : (host : Text) (x y : PassRow) → bytes_eq x.host host ≡ true → bytes_eq y.host host ≡ true → by_key coding.passes.key x y ≡ Less → T (is_lt (text_cmp x.pass y.pass))
passes_rise host x y own other less = less_last _ (behind host x.host y.host _ own other (sym (pass_key x y) ∙ less))

page_key : (x y : PageRow) → by_key coding.pages.key x y ≡ ordering_then (text_cmp x.host y.host) (ordering_then (text_cmp x.slug y.slug) (ordering_then (text_cmp x.lang y.lang) (ordering_then (text_cmp x.path y.path) Equal)))
page_key x y = rw (value_cmp-Text x.host y.host, value_cmp-Text x.slug y.slug, value_cmp-Text x.lang y.lang, value_cmp-Text x.path y.path) refl

pub pages_rise : (host : Text) (x y : PageRow) → bytes_eq x.host host ≡ true → bytes_eq y.host host ≡ true → by_key coding.pages.key x y ≡ Less → T (is_lt (page_cmp (page_place x) (page_place y)))
pages_rise host x y own other less = less_three (text_cmp x.slug y.slug) (text_cmp x.lang y.lang) (text_cmp x.path y.path) (behind host x.host y.host _ own other (sym (page_key x y) ∙ less))

held_key : (x y : GrantRow) → by_key coding.held.key x y ≡ ordering_then (text_cmp x.host y.host) (ordering_then (text_cmp x.pass y.pass) (ordering_then (text_cmp x.slug y.slug) Equal))
held_key x y = rw (value_cmp-Text x.host y.host, value_cmp-Text x.pass y.pass, value_cmp-Text x.slug y.slug) refl

pub grants_rise : (host : Text) (x y : GrantRow) → bytes_eq x.host host ≡ true → bytes_eq y.host host ≡ true → by_key coding.held.key x y ≡ Less → T (is_lt (held_cmp (x.pass, x.slug) (y.pass, y.slug)))
grants_rise host x y own other less = less_two _ _ (behind host x.host y.host _ own other (sym (held_key x y) ∙ less))
