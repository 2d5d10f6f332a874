-- What a change of one list makes of the world: that part of a project changes which the list's records make.
use Rattle.std.proofs.Common.{◌≡◌, Bool, true, false, not, ◌&&◌, cond, List, filter, find, Option, Some, None, refl, sym, ap, ◌∙◌, Ordering}
use Rattle.std.specs.Prelude.{option_map}
use Rattle.std.specs.Str.{bytes_eq}
use Rattle.std.specs.Ordering.{eq_by_cmp}
use Rattle.std.specs.Cmp.{IsTotalOrder, eq_by_cmp_equiv}
use Rattle.std.specs.FinMap.{FinMap, IsAntisymmetric, get, insert, remove, retain_keys, get-insert, get-remove, get-retain_keys, same_map}
use Rattle.std.proofs.lemmas.Map.Lookups.{exact_bytes}
use Rattle.std.proofs.lemmas.Slice.Eq.{bytes_eq-Decides}
use Rattle.dh_rows.specs.Keyed.{IsFreeKey, added, put}
use Rattle.dh_records.specs.declared.records.ProjectRow.{ProjectRow}
use Rattle.dh_world.specs.World.{Text, Project}
use Rattle.dh_records.specs.Lists.{Lists, project_of, world_of, is_project}
use Rattle.dh_world.proofs.MapLemmas.{tied_text, text_total}
use Rattle.dh_records.proofs.KeyLemmas.{turned}
use Rattle.dh_records.proofs.Parts.{spelled, Part}
use Rattle.dh_records.proofs.RecordLemmas.{MapOf, map_of, found_passes, of_each_host, put_here, put_there, put_free, dropped_here, dropped_there}
use Rattle.dh_records.proofs.SeenLemmas.{get_project}
use Rattle.dh_records.proofs.WorldLemmas.{told_of}

-- ---- one project changes

pub world_changed : (lists next : Lists) (host : Text) (q : Project) → option_map (project_of next) (find (is_project host) next.projects) ≡ Some q
    → ((name : Text) → bytes_eq host name ≡ false → option_map (project_of next) (find (is_project name) next.projects) ≡ option_map (project_of lists) (find (is_project name) lists.projects))
    → world_of next ≡ insert (world_of lists) host q
world_changed lists next host q here there =
    same_map text_total exact_bytes _ _ (λ name. get_project next name ∙ go name ∙ sym (get-insert text_total (world_of lists) host q name ∙ ap (λ b. cond b (Some q) (get (world_of lists) name)) (tied_text name host)))
  where
    go : (name : Text) → option_map (project_of next) (find (is_project name) next.projects) ≡ cond (bytes_eq host name) (Some q) (get (world_of lists) name)
    go =
        of_each_host (λ name. option_map (project_of next) (find (is_project name) next.projects) ≡ cond (bytes_eq host name) (Some q) (get (world_of lists) name)) host
        (rw ((bytes_eq-Decides host host).1 refl) here) (λ name apart. rw apart (there name apart ∙ sym (get_project lists name)))

-- ---- one part of it changes

module _ {A M : Type 0} {told : List A → Text → M} (t : Part told) (lists : Lists) where
  part_told : (r : ProjectRow) → t.of (project_of lists r) ≡ told (t.rows lists) r.host
  part_told r = ap t.of (spelled lists r) ∙ t.is_told lists r

  turns : (rows : List A) (r : ProjectRow) → project_of (t.replaced rows lists) r ≡ t.set (told rows r.host) (project_of lists r)
  turns rows r = spelled (t.replaced rows lists) r ∙ t.turns rows lists r ∙ ap (t.set (told rows r.host)) (sym (spelled lists r))

  -- what a project of the world has of the list
  pub part_in : (host : Text) (p : Project) → get (world_of lists) host ≡ Some p → t.of p ≡ told (t.rows lists) host
  part_in host p was = told_of lists host p was t.of (told (t.rows lists)) part_told

  -- the records of one host change
  pub part_changed : (rows : List A) (host : Text) (p : Project) (f : M → M) → ((name : Text) → bytes_eq host name ≡ false → told rows name ≡ told (t.rows lists) name) → told rows host ≡ f (told (t.rows lists) host)
      → get (world_of lists) host ≡ Some p → world_of (t.replaced rows lists) ≡ insert (world_of lists) host (t.set (f (t.of p)) p)
  part_changed rows host p f elsewhere at_host was =
      world_changed lists next host (t.set (f (t.of p)) p)
      (ap (λ l. option_map (project_of next) (find (is_project host) l)) same ∙ here (find (is_project host) lists.projects) refl (sym (get_project lists host) ∙ was))
      (λ name apart. ap (λ l. option_map (project_of next) (find (is_project name) l)) same ∙ there name apart (find (is_project name) lists.projects) refl)
    where
      next : Lists
      next = t.replaced rows lists

      same : next.projects ≡ lists.projects
      same = t.projects_stay rows lists

      here : (o : Option ProjectRow) → find (is_project host) lists.projects ≡ o → option_map (project_of lists) o ≡ Some p → option_map (project_of next) o ≡ Some (t.set (f (t.of p)) p)
      here None e g = absurd (cc)
      here (Some r) e g =
          let old : project_of lists r ≡ p = cc in
          let named : r.host ≡ host = (bytes_eq-Decides r.host host).0 (found_passes (is_project host) lists.projects r e) in
          ap Some (turns rows r ∙ ap (λ m. t.set m (project_of lists r)) (ap (told rows) named ∙ at_host ∙ ap f (ap (told (t.rows lists)) (sym named) ∙ sym (part_told r))) ∙ ap (λ x. t.set (f (t.of x)) x) old)

      there : (name : Text) → bytes_eq host name ≡ false → (o : Option ProjectRow) → find (is_project name) lists.projects ≡ o → option_map (project_of next) o ≡ option_map (project_of lists) o
      there name apart None e = refl
      there name apart (Some r) e =
          let named : r.host ≡ name = (bytes_eq-Decides r.host name).0 (found_passes (is_project name) lists.projects r e) in
          ap Some (turns rows r ∙ ap (λ m. t.set m (project_of lists r)) (ap (told rows) named ∙ elsewhere name apart ∙ ap (told (t.rows lists)) (sym named) ∙ sym (part_told r)) ∙ t.project_stays (project_of lists r))

-- ---- one key is removed

module _ {K X : Type 0} {R : K → K → Ordering} (total : IsTotalOrder R) (exact : IsAntisymmetric R) where
  -- to keep all but one key is to remove it
  removed : (m : FinMap R X) (key : K) (test : K → Bool) → ((q : K) → eq_by_cmp R key q ≡ test q) → retain_keys m (λ k. not (test k)) ≡ remove m key
  removed m key test same = same_map total exact _ _ (λ q.
      get-retain_keys m (λ k. not (test k)) q (λ k t. ap (λ x. not (test x)) (sym (exact q k t)))
      ∙ go (test q) (get m q) ∙ ap (λ b. cond b None (get m q)) (sym (same q) ∙ (eq_by_cmp_equiv total).symm key q) ∙ sym (get-remove total m key q))
    where
      go : (b : Bool) (x : Option X) → cond (not b) x None ≡ cond b None x
      go true x = refl
      go false x = refl

-- ---- a part that is a map

module _ {A K X : Type 0} {R : K → K → Ordering} (k : MapOf A X R) (t : Part (map_of k)) (lists : Lists) where
  -- a record is put
  pub world_put : (row : A) (p : Project) → get (world_of lists) (k.host_of row) ≡ Some p
      → world_of (t.replaced (put k.code row (t.rows lists)) lists) ≡ insert (world_of lists) (k.host_of row) (t.set (insert (t.of p) (k.place row) (k.value row)) p)
  world_put row p =
      part_changed t lists (put k.code row (t.rows lists)) (k.host_of row) p (λ m. insert m (k.place row) (k.value row))
      (λ name. put_there k row name (t.rows lists))
      (put_here k row (k.host_of row) (t.rows lists) refl)

  -- a record is added whose key was free
  pub world_added : (row : A) (p : Project) → IsFreeKey k.code row (t.rows lists) → get (world_of lists) (k.host_of row) ≡ Some p
      → world_of (t.replaced (added k.code row (t.rows lists)) lists) ≡ insert (world_of lists) (k.host_of row) (t.set (insert (t.of p) (k.place row) (k.value row)) p)
  world_added row p free was = ap (λ rows. world_of (t.replaced rows lists)) (sym (put_free k.code row (t.rows lists) free)) ∙ world_put row p was

  module _ (host : Text) (p : Project) (test : A → Bool) (q : K → Bool) (same : (x : A) → test x ≡ (bytes_eq (k.host_of x) host && q (k.place x))) (was : get (world_of lists) host ≡ Some p) where
    -- the records of a host whose keys pass a test are dropped
    pub world_dropped : world_of (t.replaced (filter (λ x. not (test x)) (t.rows lists)) lists) ≡ insert (world_of lists) host (t.set (retain_keys (t.of p) (λ x. not (q x))) p)
    world_dropped =
        part_changed t lists (filter (λ x. not (test x)) (t.rows lists)) host p (λ m. retain_keys m (λ x. not (q x)))
        (λ name apart. dropped_there k host test q same name (t.rows lists) (turned name host ∙ apart))
        (dropped_here k host test q same host (t.rows lists) refl) was

    -- the record of one key is dropped
    pub world_removed : (place : K) → ((x : K) → eq_by_cmp R place x ≡ q x) → world_of (t.replaced (filter (λ x. not (test x)) (t.rows lists)) lists) ≡ insert (world_of lists) host (t.set (remove (t.of p) place) p)
    world_removed place one = world_dropped ∙ ap (λ m. insert (world_of lists) host (t.set m p)) (removed k.total k.exact (t.of p) place q one)
