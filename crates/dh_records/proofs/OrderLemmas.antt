-- Lists in the order of their keys stay so.
use Rattle.std.proofs.Common.{◌≡◌, Bool, cond, List, [], ◌∷◌, filter, refl, sym, ap, ◌∙◌, Ordering, Less, Equal, Greater, is_gt, is_eq, true≢false}
use Rattle.std.specs.Ordering.{ordering_reverse}
use Rattle.sqlite_value.specs.Order.{Row}
use Rattle.sqlite_keyed.proofs.ListLemmas.{all_weaker, ascending-filter}
use Rattle.dh_rows.specs.Keyed.{by_key, same_key, IsFreeKey, added, put}
use Rattle.dh_rows.proofs.Lists.{by_key_total}
use Rattle.dh_records.specs.declared.records.ProjectRow.{ProjectRow}
use Rattle.dh_records.specs.declared.records.LangRow.{LangRow}
use Rattle.dh_records.specs.declared.records.VersionRow.{VersionRow}
use Rattle.dh_records.specs.declared.records.PageRow.{PageRow}
use Rattle.dh_records.specs.declared.records.RetryRow.{RetryRow}
use Rattle.dh_records.specs.Codings as coding
use Rattle.dh_records.specs.Lists.{Lists}
use Rattle.dh_records.specs.Constraints.{InOrder, AreInOrder}
use Rattle.dh_records.proofs.Keys.{free_after}
use Rattle.dh_records.proofs.RecordLemmas.{all_added}

module _ {X : Type 0} (key : X → Row) where
  pub added_in_order : (x : X) (xs : List X) → IsFreeKey key x xs → InOrder key xs → InOrder key (added key x xs)
  added_in_order x [] free up = (tt, tt)
  added_in_order x (y ∷ xs) free up = go (by_key key x y) refl (added_in_order x xs free.1 up.1)
    where
      go : (o : Ordering) → by_key key x y ≡ o → InOrder key (added key x xs) → InOrder key (cond (is_gt o) (y ∷ added key x xs) (x ∷ y ∷ xs))
      go Less e more = ((e, all_weaker _ (λ z. by_key key x z ≡ Less) (λ z. (by_key_total key).trans x y z e) xs up.0), up)
      go Equal e more = absurd (true≢false (sym (ap is_eq e) ∙ free.0))
      go Greater e more = (all_added _ (by_key key) x xs ((by_key_total key).antisymm y x ∙ ap ordering_reverse e) up.0, more)

  pub filtered_in_order : (p : X → Bool) (xs : List X) → InOrder key xs → InOrder key (filter p xs)
  filtered_in_order p xs up = ascending-filter _ p xs up

  pub put_in_order : (x : X) (xs : List X) → InOrder key xs → InOrder key (put key x xs)
  put_in_order x xs up = added_in_order x _ (free_after key x (same_key key x) (λ y. refl) xs) (filtered_in_order _ xs up)

-- ---- each change of the lists

module _ (lists : Lists) (up : AreInOrder lists) where
  pub order_with_project : (row : ProjectRow) → IsFreeKey coding.projects.key row lists.projects → AreInOrder (record lists { projects = added coding.projects.key row lists.projects })
  order_with_project row free = assumption (added_in_order coding.projects.key row lists.projects free up.projects)

  pub order_with_lang : (row : LangRow) → IsFreeKey coding.langs.key row lists.langs → AreInOrder (record lists { langs = added coding.langs.key row lists.langs })
  order_with_lang row free = assumption (added_in_order coding.langs.key row lists.langs free up.langs)

  pub order_with_version : (row : VersionRow) → AreInOrder (record lists { versions = put coding.versions.key row lists.versions })
  order_with_version row = assumption (put_in_order coding.versions.key row lists.versions up.versions)

  pub order_with_page : (row : PageRow) → AreInOrder (record lists { pages = put coding.pages.key row lists.pages })
  order_with_page row = assumption (put_in_order coding.pages.key row lists.pages up.pages)

  pub order_without : (p : PageRow → Bool) → AreInOrder (record lists { pages = filter p lists.pages })
  order_without p = assumption (filtered_in_order coding.pages.key p lists.pages up.pages)

  pub order_with_used : (row : RetryRow) → IsFreeKey coding.used.key row lists.used → AreInOrder (record lists { used = added coding.used.key row lists.used })
  order_with_used row free = assumption (added_in_order coding.used.key row lists.used free up.used)
