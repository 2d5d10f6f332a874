-- What setting the defaults of a project makes of the records.
use Rattle.std.proofs.Common.{◌≡◌, ℕ, ◌+◌, ◌<◌, true, false, not, List, [], ◌∷◌, ◌++◌, map, filter, length, refl, sym, ap, ◌∙◌, arith, true≢false}
use Rattle.std.specs.List.{AllByRecursion, range_with_len}
use Rattle.std.specs.Str.{bytes_eq}
use Rattle.std.proofs.lemmas.List.{append-nil, append_assoc}
use Rattle.std.proofs.lemmas.Slice.Eq.{bytes_eq-Decides}
use Rattle.sqlite_keyed.proofs.ListLemmas.{all_weaker, all-filter, filter-filter, filter_none}
use Rattle.dh_rows.specs.Keyed.{IsFreeKey, added, by_key}
use Rattle.dh_records.specs.declared.records.DefaultRow.{DefaultRow}
use Rattle.dh_records.specs.Codings as coding
use Rattle.dh_records.specs.Lists.{is_pick_of, ranked, picks_added, picks_replaced}
use Rattle.dh_records.specs.Constraints.{InOrder}
use Rattle.dh_records.proofs.KeyLemmas.{turned, next_is_free, added_behind}
use Rattle.dh_records.proofs.OrderLemmas.{added_in_order, filtered_in_order}
use Rattle.dh_records.proofs.RecordLemmas.{taken_out, all_added, added_elsewhere}

-- of the defaults of the host, each stands before this rank
abbrev pub AreBelow : List ℕ → ℕ → List DefaultRow → Type 0
AreBelow host rank rows = AllByRecursion (λ y. bytes_eq y.host host ≡ true → y.rank < rank) rows

-- the next rank is free
pub rank_is_free : (x : DefaultRow) (rows : List DefaultRow) → AreBelow x.host x.rank rows → IsFreeKey coding.picks.key x rows
rank_is_free = next_is_free (λ d. d.host) (λ d. d.rank)

pub below_next : (x : DefaultRow) (rows : List DefaultRow) → AreBelow x.host x.rank rows → AreBelow x.host (x.rank + 1) (added coding.picks.key x rows)
below_next x rows below =
    all_added (λ y. bytes_eq y.host x.host ≡ true → y.rank < x.rank + 1) (by_key coding.picks.key) x rows (λ _. omega arith)
    (all_weaker _ (λ y. bytes_eq y.host x.host ≡ true → y.rank < x.rank + 1) (λ y h e. let l : y.rank < x.rank = h e in omega arith) rows below)

-- of a host with no default
pub none_below : (host : List ℕ) (rows : List DefaultRow) → AllByRecursion (λ r. is_pick_of host r ≡ false) rows → AreBelow host 1 rows
none_below host rows bare = all_weaker _ (λ y. bytes_eq y.host host ≡ true → y.rank < 1) (λ y out e. absurd (true≢false (sym e ∙ out))) rows bare

pub all_taken_out : (host : List ℕ) (rows : List DefaultRow) → AllByRecursion (λ r. is_pick_of host r ≡ false) (filter (λ r. not (is_pick_of host r)) rows)
all_taken_out host rows = taken_out (is_pick_of host) rows

-- ---- records

module _ (host : List ℕ) where
  -- the defaults of the host are those that it had, and behind them those that were added
  pub of_host_with : (n : ℕ) (names : List (List ℕ)) (rows : List DefaultRow) → InOrder coding.picks.key rows → AreBelow host n rows → filter (is_pick_of host) (picks_added (ranked host n names) rows) ≡ filter (is_pick_of host) rows ++ ranked host n names
  of_host_with n [] rows up below = sym (append-nil (filter (is_pick_of host) rows))
  of_host_with n (name ∷ names) rows up below =
      let x : DefaultRow = record { host = host; name = name; rank = n } in
      let free = rank_is_free x rows below in
      of_host_with (n + 1) names (added coding.picks.key x rows) (added_in_order coding.picks.key x rows free up) (below_next x rows below)
      ∙ ap (λ l. l ++ ranked host (n + 1) names) (added_behind (λ d. d.host) (λ d. d.rank) x rows up below)
      ∙ append_assoc (filter (is_pick_of host) rows) (x ∷ []) (ranked host (n + 1) names)

  -- those of the others stay
  pub elsewhere_with : (other : List ℕ) → bytes_eq host other ≡ false → (n : ℕ) (names : List (List ℕ)) (rows : List DefaultRow) → filter (is_pick_of other) (picks_added (ranked host n names) rows) ≡ filter (is_pick_of other) rows
  elsewhere_with other apart n [] rows = refl
  elsewhere_with other apart n (name ∷ names) rows =
      elsewhere_with other apart (n + 1) names (added coding.picks.key (record { host = host; name = name; rank = n }) rows)
      ∙ added_elsewhere (by_key coding.picks.key) (is_pick_of other) (record { host = host; name = name; rank = n }) rows apart

  pub with_in_order : (n : ℕ) (names : List (List ℕ)) (rows : List DefaultRow) → InOrder coding.picks.key rows → AreBelow host n rows → InOrder coding.picks.key (picks_added (ranked host n names) rows)
  with_in_order n [] rows up below = up
  with_in_order n (name ∷ names) rows up below =
      let x : DefaultRow = record { host = host; name = name; rank = n } in
      with_in_order (n + 1) names (added coding.picks.key x rows) (added_in_order coding.picks.key x rows (rank_is_free x rows below) up) (below_next x rows below)

  -- what holds of all records, and of those that are added
  pub all_with : (P : DefaultRow → Type 0) (n : ℕ) (names : List (List ℕ)) (rows : List DefaultRow) → AllByRecursion P (ranked host n names) → AllByRecursion P rows → AllByRecursion P (picks_added (ranked host n names) rows)
  all_with P n [] rows new old = old
  all_with P n (name ∷ names) rows new old = all_with P (n + 1) names _ new.1 (all_added P (by_key coding.picks.key) _ rows new.0 old)

  -- of a test that is of the names
  pub all_ranked : (P : DefaultRow → Type 0) (n : ℕ) (names : List (List ℕ)) → AllByRecursion (λ name. (rank : ℕ) → P (record { host = host; name = name; rank = rank })) names → AllByRecursion P (ranked host n names)
  all_ranked P n [] all = tt
  all_ranked P n (name ∷ names) all = (all.0 n, all_ranked P (n + 1) names all.1)

  pub names_ranked : (n : ℕ) (names : List (List ℕ)) → map (λ d. d.name) (ranked host n names) ≡ names
  names_ranked n [] = refl
  names_ranked n (name ∷ names) = ap (λ l. name ∷ l) (names_ranked (n + 1) names)

  pub ranks_ranked : (n : ℕ) (names : List (List ℕ)) → map (λ d. d.rank) (ranked host n names) ≡ range_with_len n (length (ranked host n names))
  ranks_ranked n [] = refl
  ranks_ranked n (name ∷ names) = ap (λ l. n ∷ l) (ranks_ranked (n + 1) names)

  others_stay : (other : List ℕ) → bytes_eq host other ≡ false → (rows : List DefaultRow) → filter (is_pick_of other) (filter (λ r. not (is_pick_of host r)) rows) ≡ filter (is_pick_of other) rows
  others_stay other apart =
      filter-filter (is_pick_of other) (λ r. not (is_pick_of host r))
      (λ r own. ap not (ap (λ h. bytes_eq h host) ((bytes_eq-Decides r.host other).0 own) ∙ turned other host ∙ apart))

  -- ---- setting the defaults of the host

  pub set_of_host : (names : List (List ℕ)) (rows : List DefaultRow) → InOrder coding.picks.key rows → filter (is_pick_of host) (picks_replaced host names rows) ≡ ranked host 1 names
  set_of_host names rows up =
      of_host_with 1 names (filter (λ r. not (is_pick_of host r)) rows) (filtered_in_order coding.picks.key (λ r. not (is_pick_of host r)) rows up) (none_below host _ (all_taken_out host rows))
      ∙ ap (λ l. l ++ ranked host 1 names) (filter_none (is_pick_of host) _ (all_taken_out host rows))

  pub set_elsewhere : (other : List ℕ) → bytes_eq host other ≡ false → (names : List (List ℕ)) (rows : List DefaultRow) → filter (is_pick_of other) (picks_replaced host names rows) ≡ filter (is_pick_of other) rows
  set_elsewhere other apart names rows = elsewhere_with other apart 1 names (filter (λ r. not (is_pick_of host r)) rows) ∙ others_stay other apart rows

  pub set_in_order : (names : List (List ℕ)) (rows : List DefaultRow) → InOrder coding.picks.key rows → InOrder coding.picks.key (picks_replaced host names rows)
  set_in_order names rows up = with_in_order 1 names _ (filtered_in_order coding.picks.key (λ r. not (is_pick_of host r)) rows up) (none_below host _ (all_taken_out host rows))

  pub all_set : (P : DefaultRow → Type 0) (names : List (List ℕ)) (rows : List DefaultRow) → AllByRecursion P (ranked host 1 names) → AllByRecursion P rows → AllByRecursion P (picks_replaced host names rows)
  all_set P names rows new old = all_with P 1 names _ new (all-filter P (λ r. not (is_pick_of host r)) rows old)
