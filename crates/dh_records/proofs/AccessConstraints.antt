-- Changes of defaults, passes and grants, and the removal of a version, keep the constraints and the order of the records: as there, each lemma lists what speaks of a list that changes.
use Rattle.std.proofs.Common.{◌≡◌, ℕ, ◌<◌, ◌≤◌, Bool, true, false, not, ◌&&◌, ◌||◌, cond, List, [], ◌∷◌, filter, find, length, is_some, Option, Some, None, IsTrue, refl, sym, ap, ◌∙◌, subst, arith, true≢false, Ordering, is_gt}
use Rattle.std.specs.List.{AllByRecursion, IsDistinct, list_any}
use Rattle.std.specs.Option.{option_map_or}
use Rattle.std.specs.Str.{bytes_eq}
use Rattle.std.specs.FinMap.{get}
use Rattle.std.proofs.lemmas.Bool.{and_parts, and_from, false_from_ne_true}
use Rattle.std.proofs.lemmas.Slice.Eq.{bytes_eq-Decides}
use Rattle.sqlite_keyed.specs.Lists.{insert_sorted}
use Rattle.sqlite_keyed.proofs.ListLemmas.{all_weaker, all_both, all_of, all-filter, all_map}
use Rattle.dh_rows.specs.Keyed.{by_key, IsFreeKey, added}
use Rattle.dh_records.specs.declared.records.ProjectRow.{ProjectRow}
use Rattle.dh_records.specs.declared.records.VersionRow.{VersionRow}
use Rattle.dh_records.specs.declared.records.DefaultRow.{DefaultRow}
use Rattle.dh_records.specs.declared.records.PassRow.{PassRow}
use Rattle.dh_records.specs.declared.records.GrantRow.{GrantRow}
use Rattle.dh_records.specs.Codings as coding
use Rattle.dh_world.specs.World.{Text, Project}
use Rattle.dh_world.specs.Seen.{is_alias}
use Rattle.dh_records.specs.Lists.{Lists, world_of, is_version, is_page_of, is_page_under, is_pick_of, is_pass_of, is_pass, is_held, is_held_by, is_held_on, picks_replaced, ranked, granted}
use Rattle.dh_records.specs.Constraints.{InOrder, AreInOrder, has_project, has_active, has_version, has_pass, AreDefaults, KeepsConstraints}
use Rattle.dh_records.proofs.GrantLemmas.{grant_is_free, granted_new, granted_there}
use Rattle.dh_records.proofs.PickLists.{set_of_host, set_elsewhere, set_in_order, all_set, all_with, all_ranked, names_ranked, ranks_ranked}
use Rattle.dh_world.proofs.MapLemmas.{find_in_filter, find_same}
use Rattle.dh_records.proofs.RecordLemmas.{taken_out, each_passes, all_added, added_elsewhere, count_added, count_kept, of_each_host}
use Rattle.dh_records.proofs.Keys.{not_others}
use Rattle.dh_records.proofs.KeyLemmas.{turned}
use Rattle.dh_records.proofs.OrderLemmas.{added_in_order, filtered_in_order}
use Rattle.dh_records.proofs.ConstraintLemmas.{or_later, and_later, constraints_without, dropped_is_bare, of_project}
use Rattle.dh_records.proofs.WorldLemmas.{owned_by, defaults_in}

-- ---- what is found after a change

-- what was found is found beside one record more
found_still : {A : Type 0} (cmp : A → A → Ordering) (t : A → Bool) (x : A) (rows : List A) → is_some (find t rows) ≡ true → is_some (find t (insert_sorted cmp x rows)) ≡ true
found_still cmp t x [] e = absurd (true≢false (sym e))
found_still cmp t x (y ∷ rows) e = go (is_gt (cmp x y)) (found_still cmp t x rows)
  where
    one : (d : Bool) → is_some (cond d (Some y) (find t rows)) ≡ true → (is_some (find t rows) ≡ true → is_some (find t (insert_sorted cmp x rows)) ≡ true) → is_some (cond d (Some y) (find t (insert_sorted cmp x rows))) ≡ true
    one true e more = refl
    one false e more = more e

    two : (b : Bool) → is_some (cond b (Some x) (find t (y ∷ rows))) ≡ true
    two true = refl
    two false = e

    go : (g : Bool) → (is_some (find t rows) ≡ true → is_some (find t (insert_sorted cmp x rows)) ≡ true) → is_some (find t (cond g (y ∷ insert_sorted cmp x rows) (x ∷ y ∷ rows))) ≡ true
    go true more = one (t y) e more
    go false more = two (t x)

-- what is found is found without those that it is not among
found_without : {A : Type 0} (t gone : A → Bool) → ((a : A) → t a ≡ true → gone a ≡ false) → (rows : List A) → find t (filter (λ a. not (gone a)) rows) ≡ find t rows
found_without t gone apart rows = find_in_filter (λ a. not (gone a)) t rows ∙ find_same _ t each rows
  where
    each : (a : _) → (not (gone a) && t a) ≡ t a
    each a = go (t a) refl
      where
        go : (b : Bool) → t a ≡ b → (not (gone a) && b) ≡ b
        go true e = ap (λ g. not g && true) (apart a e)
        go false e = Rattle.std.proofs.lemmas.Bool.and_right (not (gone a)) false refl

and_first : (a b c : Bool) → (IsTrue a → IsTrue c) → IsTrue (a && b) → IsTrue (c && b)
and_first a b c h e = let both = and_parts a b e in and_from c b (h both.0) both.1

-- ---- grants

-- some grants less
pub constraints_without_grants : (lists : Lists) (keep : GrantRow → Bool) → KeepsConstraints lists → KeepsConstraints (record lists { held = filter keep lists.held })
constraints_without_grants lists keep constraints = assumption (all-filter _ keep lists.held constraints.records.granted)

all_granted : (P : GrantRow → Type 0) (row : GrantRow) (rows : List GrantRow) → P row → AllByRecursion P rows → AllByRecursion P (granted row rows)
all_granted P row rows new old = go (list_any (is_held row.host row.pass row.slug) rows)
  where
    go : (b : Bool) → AllByRecursion P (cond b rows (added coding.held.key row rows))
    go true = old
    go false = all_added P (by_key coding.held.key) row rows new old

-- a grant of a pass and on a version that are there
pub constraints_with_grant : (lists : Lists) (row : GrantRow) → KeepsConstraints lists → IsTrue (has_pass lists row.host row.pass) → IsTrue (has_version lists row.host row.slug) → KeepsConstraints (record lists { held = granted row lists.held })
constraints_with_grant lists row constraints pass version = assumption (all_granted (λ x. IsTrue (has_pass lists x.host x.pass && has_version lists x.host x.slug)) row lists.held (and_from _ _ pass version) constraints.records.granted)

-- ---- passes

pub constraints_with_pass : (lists : Lists) (row : PassRow) → KeepsConstraints lists → IsTrue (has_project lists row.host) → length (filter (is_pass_of row.host) lists.passes) < 1000
    → KeepsConstraints (record lists { passes = added coding.passes.key row lists.passes })
constraints_with_pass lists row constraints host few =
    assumption (
      all_added (λ x. IsTrue (has_project lists x.host)) (by_key coding.passes.key) row lists.passes host constraints.hosts.passes,
      all_weaker _ (λ r. length (filter (is_pass_of r.host) next.passes) ≤ 1000) still lists.projects constraints.projects.few_passes,
      all_weaker _ (λ x. IsTrue (has_pass next x.host x.pass && has_version lists x.host x.slug))
          (λ x. and_first _ _ _ (found_still (by_key coding.passes.key) (is_pass x.host x.pass) row lists.passes)) lists.held constraints.records.granted,
    )
  where
    next : Lists
    next = record lists { passes = added coding.passes.key row lists.passes }

    still : (r : ProjectRow) → length (filter (is_pass_of r.host) lists.passes) ≤ 1000 → length (filter (is_pass_of r.host) next.passes) ≤ 1000
    still r =
        of_each_host (λ name. length (filter (is_pass_of name) lists.passes) ≤ 1000 → length (filter (is_pass_of name) next.passes) ≤ 1000) row.host
        (λ were. omega (arith, few, count_added (by_key coding.passes.key) (is_pass_of row.host) row lists.passes))
        (λ name apart. subst (λ l. length l ≤ 1000) (sym (added_elsewhere (by_key coding.passes.key) (is_pass_of name) row lists.passes apart))) r.host

-- a pass that holds nothing is removed
pub constraints_without_pass : (lists : Lists) (host pass : Text) → KeepsConstraints lists → AllByRecursion (λ x. is_held_by host pass x ≡ false) lists.held → KeepsConstraints (record lists { passes = filter (λ x. not (is_pass host pass x)) lists.passes })
constraints_without_pass lists host pass constraints none =
    assumption (
      all-filter _ (λ x. not (is_pass host pass x)) lists.passes constraints.hosts.passes,
      all_weaker _ (λ r. length (filter (is_pass_of r.host) (filter (λ x. not (is_pass host pass x)) lists.passes)) ≤ 1000)
          (λ r were. omega (arith, were, count_kept (is_pass_of r.host) (λ x. not (is_pass host pass x)) lists.passes)) lists.projects constraints.projects.few_passes,
      all_both _ _ (λ x. IsTrue (has_pass next x.host x.pass && has_version lists x.host x.slug)) (λ x was out. and_first _ _ _ (kept x out) was) lists.held constraints.records.granted none,
    )
  where
    next : Lists
    next = record lists { passes = filter (λ x. not (is_pass host pass x)) lists.passes }

    kept : (x : GrantRow) → is_held_by host pass x ≡ false → IsTrue (has_pass lists x.host x.pass) → IsTrue (has_pass next x.host x.pass)
    kept x out was =
        ap is_some (found_without (is_pass x.host x.pass) (is_pass host pass) (λ y. not_others y.host y.pass x.host x.pass host pass out) lists.passes) ∙ was

-- ---- defaults

-- a name that may be a default: an alias, or a version that is there
abbrev pub MayBeDefault : Lists → Text → Text → Type 0
MayBeDefault lists host name = IsTrue (is_alias name || has_version lists host name)

pub constraints_with_defaults : (lists : Lists) (host : Text) (names : List Text) → KeepsConstraints lists → InOrder coding.picks.key lists.picks → IsTrue (has_project lists host) → IsDistinct bytes_eq names → AllByRecursion (MayBeDefault lists host) names
    → KeepsConstraints (record lists { picks = picks_replaced host names lists.picks })
constraints_with_defaults lists host names constraints up has apart may =
    assumption (
      all_set host (λ d. IsTrue (has_project lists d.host)) names lists.picks (all_ranked host (λ d. IsTrue (has_project lists d.host)) 1 names (all_of _ (λ name rank. has) names)) constraints.hosts.picks,
      all_weaker _ (λ r. AreDefaults (filter (is_pick_of r.host) (picks_replaced host names lists.picks))) still lists.projects constraints.projects.defaults,
      all_set host (λ d. MayBeDefault lists d.host d.name) names lists.picks
          (all_ranked host (λ d. MayBeDefault lists d.host d.name) 1 names (all_weaker _ (λ name. (rank : ℕ) → MayBeDefault lists host name) (λ name h rank. h) names may)) constraints.records.default_names,
    )
  where
    are : AreDefaults (ranked host 1 names)
    are = record { ranks = ranks_ranked host 1 names; apart = subst (IsDistinct bytes_eq) (sym (names_ranked host 1 names)) apart }

    still : (r : ProjectRow) → AreDefaults (filter (is_pick_of r.host) lists.picks) → AreDefaults (filter (is_pick_of r.host) (picks_replaced host names lists.picks))
    still r =
        of_each_host (λ name. AreDefaults (filter (is_pick_of name) lists.picks) → AreDefaults (filter (is_pick_of name) (picks_replaced host names lists.picks))) host
        (λ were. subst AreDefaults (sym (set_of_host host names lists.picks up)) are)
        (λ name apart. subst AreDefaults (sym (set_elsewhere host name apart names lists.picks))) r.host

-- a name that is not among the new defaults of a host is none of its defaults
pub set_unnamed : (host slug : Text) (names : List Text) (rows : List DefaultRow) → AllByRecursion (λ n. bytes_eq n slug ≡ false) names → AllByRecursion (λ d. (is_pick_of host d && bytes_eq d.name slug) ≡ false) (picks_replaced host names rows)
set_unnamed host slug names rows none =
    all_with host IsOther 1 names (filter (λ r. not (is_pick_of host r)) rows)
    (all_ranked host IsOther 1 names (all_weaker _ (λ name. (rank : ℕ) → IsOther (record { host = host; name = name; rank = rank })) (λ name out rank. Rattle.std.proofs.lemmas.Bool.and_right (bytes_eq host host) (bytes_eq name slug) out) names none))
    (all_weaker _ IsOther (λ d out. ap (λ b. b && bytes_eq d.name slug) out) _ (taken_out (is_pick_of host) rows))
  where
    IsOther : DefaultRow → Type 0
    IsOther d = (is_pick_of host d && bytes_eq d.name slug) ≡ false

-- ---- lists of names

pub filter_distinct : (keep : Text → Bool) (names : List Text) → IsDistinct bytes_eq names → IsDistinct bytes_eq (filter keep names)
unfolding IsDistinct
filter_distinct keep [] apart = tt
filter_distinct keep (n ∷ names) apart = go (keep n) (filter_distinct keep names apart.1)
  where
    go : (b : Bool) → IsDistinct bytes_eq (filter keep names) → IsDistinct bytes_eq (cond b (n ∷ filter keep names) (filter keep names))
    go true more = (all-filter _ keep names apart.0, more)
    go false more = more

-- a name at the front, once
pub front_distinct : (name : Text) (names : List Text) → IsDistinct bytes_eq names → IsDistinct bytes_eq (name ∷ filter (λ n. not (bytes_eq n name)) names)
unfolding IsDistinct
front_distinct name names apart =
    (all_weaker _ (λ n. bytes_eq name n ≡ false) (λ n out. turned name n ∙ out) _ (taken_out (λ n. bytes_eq n name) names), filter_distinct (λ n. not (bytes_eq n name)) names apart)

-- ---- the defaults of a project of the world

module _ (lists : Lists) (host : Text) (p : Project) (constraints : KeepsConstraints lists) (was : get (world_of lists) host ≡ Some p) where
  pub defaults_distinct : IsDistinct bytes_eq p.defaults
  defaults_distinct =
      let it = of_project (λ r. AreDefaults (filter (is_pick_of r.host) lists.picks)) lists host constraints.projects.defaults (owned_by lists host p was) in
      let here : AreDefaults (filter (is_pick_of host) lists.picks) = subst (λ h. AreDefaults (filter (is_pick_of h) lists.picks)) it.1 it.2 in
      subst (IsDistinct bytes_eq) (sym (defaults_in lists host p was)) here.apart

  pub defaults_named : AllByRecursion (MayBeDefault lists host) p.defaults
  defaults_named =
      subst (AllByRecursion (MayBeDefault lists host)) (sym (defaults_in lists host p was))
      (all_map (MayBeDefault lists host) (λ d. d.name) (filter (is_pick_of host) lists.picks)
      (all_both _ _ (λ d. MayBeDefault lists host d.name) (λ d may here. subst (λ h. MayBeDefault lists h d.name) ((bytes_eq-Decides d.host host).0 here) may) (filter (is_pick_of host) lists.picks)
      (all-filter _ (is_pick_of host) lists.picks constraints.records.default_names) (each_passes (is_pick_of host) lists.picks)))

-- ---- versions

-- a version is removed that has no pages, on which no pass has a grant, and that is no default
pub constraints_without_version : (lists : Lists) (host slug : Text) → KeepsConstraints lists → AllByRecursion (λ x. is_page_of host slug x ≡ false) lists.pages → AllByRecursion (λ x. is_held_on host slug x ≡ false) lists.held
    → AllByRecursion (λ d. (is_pick_of host d && bytes_eq d.name slug) ≡ false) lists.picks → KeepsConstraints (record lists { versions = filter (λ v. not (is_version host slug v)) lists.versions })
constraints_without_version lists host slug constraints bare unheld unnamed =
    assumption (
      all-filter _ (λ v. not (is_version host slug v)) lists.versions constraints.hosts.versions,
      all-filter _ (λ v. not (is_version host slug v)) lists.versions constraints.texts.slugs,
      all_both _ _ (λ x. IsTrue (has_active next x.host x.slug)) (λ x was out. ap (λ o. option_map_or (λ (v : VersionRow). v.version.active) o false) (stays x.host x.slug out) ∙ was) lists.pages constraints.records.active bare,
      all_both _ _ (λ d. MayBeDefault next d.host d.name) (λ d was out. or_later _ _ _ (λ h. ap is_some (stays d.host d.name out) ∙ h) was) lists.picks constraints.records.default_names unnamed,
      all_both _ _ (λ x. IsTrue (has_pass lists x.host x.pass && has_version next x.host x.slug)) (λ x was out. and_later _ _ _ (λ h. ap is_some (stays x.host x.slug out) ∙ h) was) lists.held constraints.records.granted unheld,
    )
  where
    next : Lists
    next = record lists { versions = filter (λ v. not (is_version host slug v)) lists.versions }

    stays : (h s : Text) → (bytes_eq h host && bytes_eq s slug) ≡ false → find (is_version h s) (filter (λ v. not (is_version host slug v)) lists.versions) ≡ find (is_version h s) lists.versions
    stays h s out = found_without (is_version h s) (is_version host slug) (λ v. not_others v.host v.version.slug h s host slug out) lists.versions

-- ---- several changes, one after the other

-- a version is removed with its pages, the grants on it and its name among the defaults
pub constraints_gone : (lists : Lists) (host slug : Text) (p : Project) → KeepsConstraints lists → InOrder coding.picks.key lists.picks → get (world_of lists) host ≡ Some p
    → KeepsConstraints (record lists {
      versions = filter (λ v. not (is_version host slug v)) lists.versions;
      pages = filter (λ x. not (is_page_under host slug None x)) lists.pages;
      picks = picks_replaced host (filter (λ n. not (bytes_eq n slug)) p.defaults) lists.picks;
      held = filter (λ x. not (is_held_on host slug x)) lists.held;
    })
constraints_gone lists host slug p constraints up was =
    let names = filter (λ n. not (bytes_eq n slug)) p.defaults in
    let one = record lists { picks = picks_replaced host names lists.picks } in
    let two = record one { pages = filter (λ x. not (is_page_under host slug None x)) lists.pages } in
    let three = record two { held = filter (λ x. not (is_held_on host slug x)) lists.held } in
    let first : KeepsConstraints one = constraints_with_defaults lists host names constraints up (owned_by lists host p was) (filter_distinct _ p.defaults (defaults_distinct lists host p constraints was)) (all-filter _ _ p.defaults (defaults_named lists host p constraints was)) in
    let second : KeepsConstraints two = constraints_without one (λ x. not (is_page_under host slug None x)) first in
    let third : KeepsConstraints three = constraints_without_grants two (λ x. not (is_held_on host slug x)) second in
    constraints_without_version three host slug third (dropped_is_bare host slug lists.pages) (taken_out (is_held_on host slug) lists.held)
    (set_unnamed host slug names lists.picks (taken_out (λ n. bytes_eq n slug) p.defaults))

-- a pass is removed with its grants
pub constraints_pass_gone : (lists : Lists) (host pass : Text) → KeepsConstraints lists
    → KeepsConstraints (record lists { passes = filter (λ x. not (is_pass host pass x)) lists.passes; held = filter (λ x. not (is_held_by host pass x)) lists.held })
constraints_pass_gone lists host pass constraints =
    constraints_without_pass (record lists { held = filter (λ x. not (is_held_by host pass x)) lists.held }) host pass (constraints_without_grants lists (λ x. not (is_held_by host pass x)) constraints) (taken_out (is_held_by host pass) lists.held)

-- a name goes to the front of the defaults
pub constraints_with_front : (lists : Lists) (host name : Text) (p : Project) → KeepsConstraints lists → InOrder coding.picks.key lists.picks → get (world_of lists) host ≡ Some p → MayBeDefault lists host name
    → KeepsConstraints (record lists { picks = picks_replaced host (name ∷ filter (λ n. not (bytes_eq n name)) p.defaults) lists.picks })
constraints_with_front lists host name p constraints up was may =
    constraints_with_defaults lists host _ constraints up (owned_by lists host p was) (front_distinct name p.defaults (defaults_distinct lists host p constraints was)) (may, all-filter _ (λ n. not (bytes_eq n name)) p.defaults (defaults_named lists host p constraints was))

-- ---- the order of the records

module _ (lists : Lists) (up : AreInOrder lists) where
  pub order_without_version : (keep : VersionRow → Bool) → AreInOrder (record lists { versions = filter keep lists.versions })
  order_without_version keep = assumption (filtered_in_order coding.versions.key keep lists.versions up.versions)

  pub order_with_defaults : (host : Text) (names : List Text) → AreInOrder (record lists { picks = picks_replaced host names lists.picks })
  order_with_defaults host names = assumption (set_in_order host names lists.picks up.picks)

  pub order_with_pass : (row : PassRow) → IsFreeKey coding.passes.key row lists.passes → AreInOrder (record lists { passes = added coding.passes.key row lists.passes })
  order_with_pass row free = assumption (added_in_order coding.passes.key row lists.passes free up.passes)

  pub order_without_pass : (keep : PassRow → Bool) → AreInOrder (record lists { passes = filter keep lists.passes })
  order_without_pass keep = assumption (filtered_in_order coding.passes.key keep lists.passes up.passes)

  pub order_without_grants : (keep : GrantRow → Bool) → AreInOrder (record lists { held = filter keep lists.held })
  order_without_grants keep = assumption (filtered_in_order coding.held.key keep lists.held up.held)

  pub order_with_grant : (row : GrantRow) → AreInOrder (record lists { held = granted row lists.held })
  order_with_grant row = assumption (go (find (is_held row.host row.pass row.slug) lists.held) refl)
    where
      go : (o : Option GrantRow) → find (is_held row.host row.pass row.slug) lists.held ≡ o → InOrder coding.held.key (granted row lists.held)
      go None e = subst (InOrder coding.held.key) (sym (granted_new row lists.held (ap is_some e))) (added_in_order coding.held.key row lists.held (grant_is_free row lists.held (ap is_some e)) up.held)
      go (Some x) e = subst (InOrder coding.held.key) (sym (granted_there row lists.held (ap is_some e))) up.held
