-- What a change of defaults, passes or grants makes of the world, and the removal of a version with all that is on it.
use Rattle.std.proofs.Common.{◌≡◌, ℕ, suc, ◌+◌, Bool, true, false, not, ◌&&◌, cond, List, [], ◌∷◌, map, filter, find, length, Option, Some, None, is_some, is_eq, refl, sym, ap, ◌∙◌, arith, Less}
use Rattle.std.specs.Prelude.{option_map}
use Rattle.std.specs.List.{AllByRecursion}
use Rattle.std.specs.Str.{bytes_eq}
use Rattle.std.specs.Ordering.{eq_by_cmp}
use Rattle.std.specs.FinMap.{FinMap, get, len, from_entries, insert, remove, retain_keys, get-insert, get-from_entries, len-empty, len-insert, same_map}
use Rattle.std.specs.FinMap as finite
use Rattle.std.proofs.lemmas.Slice.Eq.{bytes_eq-Decides}
use Rattle.dh_rows.specs.Keyed.{by_key, IsFreeKey, added}
use Rattle.dh_records.specs.declared.records.PassRow.{PassRow}
use Rattle.dh_records.specs.declared.records.GrantRow.{GrantRow}
use Rattle.dh_records.specs.Codings as coding
use Rattle.dh_world.specs.World.{Text, text_cmp, HeldKey, held_cmp, Project, lies_under}
use Rattle.dh_records.specs.Lists.{Lists, world_of, is_version, is_page_under, is_pass_of, is_pass, is_held, is_held_by, is_held_on, picks_replaced, granted}
use Rattle.dh_records.specs.Constraints.{InOrder}
use Rattle.dh_records.proofs.Keys.{host_first}
use Rattle.dh_records.proofs.KeyLemmas.{same_pass}
use Rattle.dh_records.proofs.GrantLemmas.{grant_is_free, granted_new, granted_there}
use Rattle.dh_records.proofs.PickLists.{set_of_host, set_elsewhere, names_ranked}
use Rattle.dh_world.proofs.MapLemmas.{tied_text, tied_held, text_total, held_total, held_exact, put_same}
use Rattle.dh_records.proofs.RecordLemmas.{each_passes}
use Rattle.dh_records.proofs.Parts as parts
use Rattle.dh_records.proofs.PartLemmas.{part_in, part_changed, world_added, world_dropped, world_removed}
use Rattle.dh_records.proofs.ChangeLemmas.{world_without_version, world_without_pages}
use Rattle.dh_records.proofs.WorldLemmas.{held_in, changed_twice}
use Rattle.dh_records.proofs.OrderLemmas.{filtered_in_order}

-- ---- defaults

-- the defaults are set
pub world_with_defaults : (lists : Lists) (host : Text) (names : List Text) (p : Project) → InOrder coding.picks.key lists.picks → get (world_of lists) host ≡ Some p
    → world_of (record lists { picks = picks_replaced host names lists.picks }) ≡ insert (world_of lists) host (record p { defaults = names })
world_with_defaults lists host names p up =
    part_changed parts.picks lists (picks_replaced host names lists.picks) host p (λ l. names)
    (λ name apart. ap (map (λ d. d.name)) (set_elsewhere host name apart names lists.picks))
    (ap (map (λ d. d.name)) (set_of_host host names lists.picks up) ∙ names_ranked host 1 names)

-- ---- passes

-- a pass that was not there is added
pub world_with_pass : (lists : Lists) (row : PassRow) (p : Project) → IsFreeKey coding.passes.key row lists.passes → get (world_of lists) row.host ≡ Some p
    → world_of (record lists { passes = added coding.passes.key row lists.passes }) ≡ insert (world_of lists) row.host (record p { passes = insert p.passes row.pass row.until })
world_with_pass = world_added parts.pass_maps parts.passes

-- a pass is removed
world_without_pass : (lists : Lists) (host pass : Text) (p : Project) → get (world_of lists) host ≡ Some p
    → world_of (record lists { passes = filter (λ x. not (is_pass host pass x)) lists.passes }) ≡ insert (world_of lists) host (record p { passes = remove p.passes pass })
world_without_pass lists host pass p was =
    world_removed parts.pass_maps parts.passes lists host p (is_pass host pass) (λ k. bytes_eq k pass) (λ x. refl) was pass (tied_text pass)

-- ---- grants

-- all grants on a version are removed
world_without_grants_of : (lists : Lists) (host slug : Text) (p : Project) → get (world_of lists) host ≡ Some p
    → world_of (record lists { held = filter (λ x. not (is_held_on host slug x)) lists.held }) ≡ insert (world_of lists) host (record p { held = retain_keys p.held (λ k. not (bytes_eq k.1 slug)) })
world_without_grants_of lists host slug p = world_dropped parts.held_maps parts.held lists host p (is_held_on host slug) (λ k. bytes_eq k.1 slug) (λ x. refl)

-- all of a pass
world_without_grants_by : (lists : Lists) (host pass : Text) (p : Project) → get (world_of lists) host ≡ Some p
    → world_of (record lists { held = filter (λ x. not (is_held_by host pass x)) lists.held }) ≡ insert (world_of lists) host (record p { held = retain_keys p.held (λ k. not (bytes_eq k.0 pass)) })
world_without_grants_by lists host pass p = world_dropped parts.held_maps parts.held lists host p (is_held_by host pass) (λ k. bytes_eq k.0 pass) (λ x. refl)

-- one grant
pub world_without_grant : (lists : Lists) (host pass slug : Text) (p : Project) → get (world_of lists) host ≡ Some p
    → world_of (record lists { held = filter (λ x. not (is_held host pass slug x)) lists.held }) ≡ insert (world_of lists) host (record p { held = remove p.held (pass, slug) })
world_without_grant lists host pass slug p was =
    world_removed parts.held_maps parts.held lists host p (is_held host pass slug) (λ k. bytes_eq k.0 pass && bytes_eq k.1 slug) (λ x. host_first (bytes_eq x.host host) (bytes_eq x.pass pass) (bytes_eq x.slug slug)) was (pass, slug) (tied_held pass slug)

-- to insert what is there changes nothing
there_already : (m : FinMap held_cmp (Unit {0})) (key : HeldKey) → get m key ≡ Some tt → insert m key tt ≡ m
there_already m key e = same_map held_total held_exact _ _ (λ q. get-insert held_total m key tt q ∙ go q (eq_by_cmp held_cmp q key) refl)
  where
    go : (q : HeldKey) (b : Bool) → eq_by_cmp held_cmp q key ≡ b → cond b (Some tt) (get m q) ≡ get m q
    go q true t = sym e ∙ ap (get m) (sym (held_exact q key ((Rattle.std.specs.Cmp.Equal-is (held_cmp q key)).0 t)))
    go q false t = refl

-- a grant is added, unless it is there
pub world_with_grant : (lists : Lists) (row : GrantRow) (p : Project) → get (world_of lists) row.host ≡ Some p
    → world_of (record lists { held = granted row lists.held }) ≡ insert (world_of lists) row.host (record p { held = insert p.held (row.pass, row.slug) tt })
world_with_grant lists row p was = go (find (is_held row.host row.pass row.slug) lists.held) refl
  where
    go : (o : Option GrantRow) → find (is_held row.host row.pass row.slug) lists.held ≡ o
        → world_of (record lists { held = granted row lists.held }) ≡ insert (world_of lists) row.host (record p { held = insert p.held (row.pass, row.slug) tt })
    go None e =
        ap (λ rows. world_of (record lists { held = rows })) (granted_new row lists.held (ap is_some e))
        ∙ world_added parts.held_maps parts.held lists row p (grant_is_free row lists.held (ap is_some e)) was
    go (Some x) e =
        ap (λ rows. world_of (record lists { held = rows })) (granted_there row lists.held (ap is_some e)) ∙ sym (put_same (world_of lists) row.host p was)
        ∙ ap (λ m. insert (world_of lists) row.host (record p { held = m })) (sym (there_already p.held (row.pass, row.slug) (held_in lists row.host p was row.pass row.slug ∙ ap (option_map (λ x. tt)) e)))

-- ---- several changes, one after the other

-- a version is removed, with its pages and the grants on it, and other defaults are set
pub world_gone : (lists : Lists) (host slug : Text) (names : List Text) (p : Project) → InOrder coding.picks.key lists.picks → get (world_of lists) host ≡ Some p
    → world_of (record lists {
      versions = filter (λ v. not (is_version host slug v)) lists.versions;
      pages = filter (λ x. not (is_page_under host slug None x)) lists.pages;
      picks = picks_replaced host names lists.picks;
      held = filter (λ x. not (is_held_on host slug x)) lists.held;
    })
    ≡ insert (world_of lists) host (record p {
      versions = remove p.versions slug;
      pages = retain_keys p.pages (λ k. not (lies_under slug None k));
      defaults = names;
      held = retain_keys p.held (λ k. not (bytes_eq k.1 slug));
    })
world_gone lists host slug names p up was =
    let one = record lists { picks = picks_replaced host names lists.picks } in
    let two = record one { pages = filter (λ x. not (is_page_under host slug None x)) lists.pages } in
    let three = record two { held = filter (λ x. not (is_held_on host slug x)) lists.held } in
    let p_one = record p { defaults = names } in
    let p_two = record p_one { pages = retain_keys p.pages (λ k. not (lies_under slug None k)) } in
    let p_three = record p_two { held = retain_keys p.held (λ k. not (bytes_eq k.1 slug)) } in
    changed_twice lists three _ host p_three _
    (changed_twice lists two three host p_two p_three
    (changed_twice lists one two host p_one p_two (world_with_defaults lists host names p up was) (world_without_pages one host slug None p_one))
    (world_without_grants_of two host slug p_two))
    (world_without_version three host slug p_three)

-- a pass is removed with its grants
pub world_pass_gone : (lists : Lists) (host pass : Text) (p : Project) → get (world_of lists) host ≡ Some p
    → world_of (record lists { passes = filter (λ x. not (is_pass host pass x)) lists.passes; held = filter (λ x. not (is_held_by host pass x)) lists.held })
    ≡ insert (world_of lists) host (record p { passes = remove p.passes pass; held = retain_keys p.held (λ k. not (bytes_eq k.0 pass)) })
world_pass_gone lists host pass p was =
    changed_twice lists (record lists { held = filter (λ x. not (is_held_by host pass x)) lists.held }) _ host (record p { held = retain_keys p.held (λ k. not (bytes_eq k.0 pass)) }) _
    (world_without_grants_by lists host pass p was) (world_without_pass _ host pass _)

-- ---- how many passes a project has

abbrev marks : List PassRow → List (Text × Option ℕ)
marks rows = map (λ y. (y.pass, y.until)) rows

apart_from : (host : Text) (x : PassRow) → is_pass_of host x ≡ true → (rows : List PassRow) → AllByRecursion (λ y. by_key coding.passes.key x y ≡ Less) rows → AllByRecursion (λ y. is_pass_of host y ≡ true) rows
    → finite.find text_cmp x.pass (marks rows) ≡ None
apart_from host x own [] low all = refl
apart_from host x own (y ∷ rows) low all = rw (other, apart_from host x own rows low.1 all.1) refl
  where
    other : eq_by_cmp text_cmp x.pass y.pass ≡ false
    other =
        let hosts = (bytes_eq-Decides y.host host).0 all.0 ∙ sym ((bytes_eq-Decides x.host host).0 own) in
        ap (λ b. b && eq_by_cmp text_cmp x.pass y.pass) (sym ((bytes_eq-Decides y.host x.host).1 hosts)) ∙ sym (same_pass x y) ∙ ap is_eq low.0

one_more : (n m : ℕ) → n ≡ m → n + 1 ≡ suc m
one_more n m e = omega arith

count_rows : (host : Text) (rows : List PassRow) → InOrder coding.passes.key rows → AllByRecursion (λ y. is_pass_of host y ≡ true) rows → len (from_entries {R = text_cmp} (marks rows)) ≡ length rows
count_rows host [] up all = len-empty text_cmp (Option ℕ)
count_rows host (x ∷ rows) up all =
    let m = from_entries {R = text_cmp} (marks rows) in
    len-insert text_total m x.pass x.until
    ∙ ap (λ b. cond b (len m) (len m + 1)) (ap is_some (get-from_entries text_total (marks rows) x.pass ∙ apart_from host x all.0 rows up.0 all.1))
    ∙ one_more (len m) (length rows) (count_rows host rows up.1 all.1)

-- as many as records
pub pass_count_in : (lists : Lists) (host : Text) (p : Project) → InOrder coding.passes.key lists.passes → get (world_of lists) host ≡ Some p → len p.passes ≡ length (filter (is_pass_of host) lists.passes)
pass_count_in lists host p up was =
    ap len (part_in parts.passes lists host p was)
    ∙ count_rows host (filter (is_pass_of host) lists.passes) (filtered_in_order coding.passes.key (is_pass_of host) lists.passes up) (each_passes (is_pass_of host) lists.passes)
