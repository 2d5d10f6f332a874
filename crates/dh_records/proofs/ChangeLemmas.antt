-- What a change of the lists makes of the world that they spell.
use Rattle.std.proofs.Common.{◌≡◌, ◌+◌, false, not, ◌&&◌, cond, List, [], ◌∷◌, ◌++◌, map, filter, find, length, Option, Some, None, IsTrue, refl, sym, ap, ap₂, ◌∙◌}
use Rattle.std.specs.Prelude.{option_map}
use Rattle.std.specs.List.{AllByRecursion}
use Rattle.std.specs.Str.{bytes_eq}
use Rattle.std.specs.FinMap.{empty, get, insert, remove, retain_keys}
use Rattle.std.proofs.lemmas.List.{map-append}
use Rattle.std.proofs.lemmas.Slice.Eq.{bytes_eq-Decides}
use Rattle.sqlite_keyed.proofs.ListLemmas.{filter_none}
use Rattle.dh_rows.specs.Keyed.{by_key, IsFreeKey, added, put}
use Rattle.dh_records.specs.declared.records.ProjectRow.{ProjectRow}
use Rattle.dh_records.specs.declared.records.LangRow.{LangRow}
use Rattle.dh_records.specs.declared.records.VersionRow.{VersionRow}
use Rattle.dh_records.specs.declared.records.PageRow.{PageRow}
use Rattle.dh_records.specs.declared.records.RetryRow.{RetryRow}
use Rattle.dh_records.specs.Codings as coding
use Rattle.dh_world.specs.World.{Text, op_code, Project, lies_under}
use Rattle.dh_records.specs.Lists.{Lists, project_of, world_of, kept_answer, is_project, is_lang_of, is_version, is_page_under}
use Rattle.dh_records.specs.Constraints.{InOrder, has_project, KeepsConstraints}
use Rattle.dh_records.proofs.Keys.{host_first}
use Rattle.dh_records.proofs.KeyLemmas.{page_place}
use Rattle.dh_world.proofs.MapLemmas.{tied_text}
use Rattle.dh_records.proofs.WorldLemmas.{owned_by, languages_are}
use Rattle.dh_records.proofs.ConstraintLemmas.{places_below, langs_with, find_project, none_of_new, grants_owned}
use Rattle.dh_records.proofs.RecordLemmas.{found_passes, none_but_added, added_elsewhere, kept_none}
use Rattle.dh_records.proofs.Parts as parts
use Rattle.dh_records.proofs.PartLemmas.{world_changed, part_changed, world_put, world_added, world_dropped, world_removed}

-- ---- versions

-- a version is put
pub world_with_version : (lists : Lists) (row : VersionRow) (p : Project) → get (world_of lists) row.host ≡ Some p
    → world_of (record lists { versions = put coding.versions.key row lists.versions })
    ≡ insert (world_of lists) row.host (record p { versions = insert p.versions row.version.slug row.version })
world_with_version = world_put parts.version_maps parts.versions

-- a version is removed
pub world_without_version : (lists : Lists) (host slug : Text) (p : Project) → get (world_of lists) host ≡ Some p
    → world_of (record lists { versions = filter (λ v. not (is_version host slug v)) lists.versions }) ≡ insert (world_of lists) host (record p { versions = remove p.versions slug })
world_without_version lists host slug p was =
    world_removed parts.version_maps parts.versions lists host p (is_version host slug) (λ k. bytes_eq k slug) (λ v. refl) was slug (tied_text slug)

-- ---- pages

-- a page is put
pub world_with_page : (lists : Lists) (row : PageRow) (p : Project) → get (world_of lists) row.host ≡ Some p
    → world_of (record lists { pages = put coding.pages.key row lists.pages })
    ≡ insert (world_of lists) row.host (record p { pages = insert p.pages (row.slug, (row.lang, row.path)) row.page })
world_with_page = world_put parts.page_maps parts.pages

-- the pages of a version are dropped, in one language or in all
pub world_without_pages : (lists : Lists) (host slug : Text) (lang : Option Text) (p : Project) → get (world_of lists) host ≡ Some p
    → world_of (record lists { pages = filter (λ x. not (is_page_under host slug lang x)) lists.pages }) ≡ insert (world_of lists) host (record p { pages = retain_keys p.pages (λ k. not (lies_under slug lang k)) })
world_without_pages lists host slug lang p = world_dropped parts.page_maps parts.pages lists host p (is_page_under host slug lang) (lies_under slug lang) (each lang)
  where
    each : (lang : Option Text) (x : PageRow) → is_page_under host slug lang x ≡ (bytes_eq x.host host && lies_under slug lang (page_place x))
    each None x = refl
    each (Some l) x = host_first (bytes_eq x.host host) (bytes_eq x.slug slug) (bytes_eq x.lang l)

-- ---- used keys

-- the answer to a retry key that was free is kept
pub world_with_used : (lists : Lists) (row : RetryRow) (p : Project) → IsFreeKey coding.used.key row lists.used → get (world_of lists) row.host ≡ Some p
    → world_of (record lists { used = added coding.used.key row lists.used })
    ≡ insert (world_of lists) row.host (record p { used = insert p.used (row.slug, (op_code row.op, row.retry)) (kept_answer row) })
world_with_used = world_added parts.used_maps parts.used

-- ---- languages

with_langs : (lists : Lists) (more : List ProjectRow) (rows : List LangRow) (r : ProjectRow)
    → project_of (record lists { projects = more; langs = rows }) r ≡ record (project_of lists r) { languages = map (λ l. l.lang) (filter (is_lang_of r.host) rows) }
unfolding project_of
with_langs lists more rows r = refl

-- a language is added behind those of its project
pub world_with_lang : (lists : Lists) (row : LangRow) (p : Project) → KeepsConstraints lists → InOrder coding.langs.key lists.langs → row.place ≡ length (filter (is_lang_of row.host) lists.langs) + 1 → get (world_of lists) row.host ≡ Some p
    → world_of (record lists { langs = added coding.langs.key row lists.langs }) ≡ insert (world_of lists) row.host (record p { languages = p.languages ++ row.lang ∷ [] })
world_with_lang lists row p constraints up last was =
    part_changed parts.langs lists (added coding.langs.key row lists.langs) row.host p (λ l. l ++ row.lang ∷ [])
    (λ name apart. ap (map (λ l. l.lang)) (added_elsewhere (by_key coding.langs.key) (is_lang_of name) row lists.langs apart))
    (ap (map (λ l. l.lang)) (langs_with row lists.langs up (places_below lists row constraints (owned_by lists row.host p was) last)) ∙ map-append (λ l. l.lang) (filter (is_lang_of row.host) lists.langs) (row ∷ []))
    was

-- ---- projects

-- a project of which nothing is kept yet but its own record
abbrev fresh : ProjectRow → Project
fresh row = record { languages = row.main ∷ []; branch = row.branch; new_private = row.new_private; wkey = row.wkey; versions = empty; pages = empty; defaults = []; passes = empty; held = empty; used = empty; rules = []; redirects = [] }

abbrev begun : Lists → ProjectRow → LangRow → Lists
begun lists row lang = record lists { projects = added coding.projects.key row lists.projects; langs = added coding.langs.key lang lists.langs }

module _ (lists : Lists) (row : ProjectRow) (lang : LangRow) (constraints : KeepsConstraints lists) (new : find (is_project row.host) lists.projects ≡ None) (home : lang.host ≡ row.host) (main : lang.lang ≡ row.main) where
  none : {A : Type 0} (host_of : A → Text) (rows : List A) → AllByRecursion (λ a. IsTrue (has_project lists (host_of a))) rows → AllByRecursion (λ a. bytes_eq (host_of a) row.host ≡ false) rows
  none host_of rows = none_of_new host_of rows lists row.host new

  none_told : {A V : Type 0} (host_of : A → Text) (value : A → V) (rows : List A) → AllByRecursion (λ a. IsTrue (has_project lists (host_of a))) rows → map value (filter (λ a. bytes_eq (host_of a) row.host) rows) ≡ []
  none_told host_of value rows owned = ap (map value) (filter_none (λ a. bytes_eq (host_of a) row.host) rows (none host_of rows owned))

  alone : map (λ l. l.lang) (filter (is_lang_of row.host) (added coding.langs.key lang lists.langs)) ≡ row.main ∷ []
  alone =
      ap (map (λ l. l.lang)) (none_but_added (by_key coding.langs.key) (is_lang_of row.host) lang lists.langs ((bytes_eq-Decides lang.host row.host).1 home) (none (λ l. l.host) lists.langs constraints.hosts.langs))
      ∙ ap (λ t. t ∷ []) main

  begins : project_of (begun lists row lang) row ≡ fresh row
  unfolding project_of
  begins = λ i. record {
    languages = alone i;
    branch = row.branch;
    new_private = row.new_private;
    wkey = row.wkey;
    versions = kept_none parts.version_maps row.host lists.versions (none (λ v. v.host) lists.versions constraints.hosts.versions) i;
    pages = kept_none parts.page_maps row.host lists.pages (none (λ x. x.host) lists.pages constraints.hosts.pages) i;
    defaults = none_told (λ d. d.host) (λ d. d.name) lists.picks constraints.hosts.picks i;
    passes = kept_none parts.pass_maps row.host lists.passes (none (λ x. x.host) lists.passes constraints.hosts.passes) i;
    held = kept_none parts.held_maps row.host lists.held (none (λ x. x.host) lists.held (grants_owned lists constraints)) i;
    used = kept_none parts.used_maps row.host lists.used (none (λ u. u.host) lists.used constraints.hosts.used) i;
    rules = none_told (λ r. r.host) (λ r. r.rule) lists.rules constraints.hosts.rules i;
    redirects = none_told (λ r. r.host) (λ r. r.redirect) lists.redirects constraints.hosts.redirects i;
  }

  here : option_map (project_of (begun lists row lang)) (find (is_project row.host) (added coding.projects.key row lists.projects)) ≡ Some (fresh row)
  here =
      ap (option_map (project_of (begun lists row lang))) (find_project row lists.projects row.host new ∙ ap (λ b. cond b (Some row) (find (is_project row.host) lists.projects)) ((bytes_eq-Decides row.host row.host).1 refl))
      ∙ ap Some begins

  there : (name : Text) → bytes_eq row.host name ≡ false
      → option_map (project_of (begun lists row lang)) (find (is_project name) (added coding.projects.key row lists.projects)) ≡ option_map (project_of lists) (find (is_project name) lists.projects)
  there name apart =
      ap (option_map (project_of (begun lists row lang))) (find_project row lists.projects name new ∙ ap (λ b. cond b (Some row) (find (is_project name) lists.projects)) apart) ∙ go (find (is_project name) lists.projects) refl
    where
      go : (o : Option ProjectRow) → find (is_project name) lists.projects ≡ o → option_map (project_of (begun lists row lang)) o ≡ option_map (project_of lists) o
      go None e = refl
      go (Some r) e =
          let named : r.host ≡ name = (bytes_eq-Decides r.host name).0 (found_passes (is_project name) lists.projects r e) in
          let other = added_elsewhere (by_key coding.langs.key) (is_lang_of r.host) lang lists.langs (ap₂ bytes_eq home named ∙ apart) in
          ap Some (with_langs lists (added coding.projects.key row lists.projects) (added coding.langs.key lang lists.langs) r
          ∙ ap (λ l. record (project_of lists r) { languages = l }) (ap (map (λ l. l.lang)) other ∙ sym (languages_are lists r)))

-- a project is added, with its main language
pub world_with_project : (lists : Lists) (row : ProjectRow) (lang : LangRow) → KeepsConstraints lists → find (is_project row.host) lists.projects ≡ None → lang.host ≡ row.host → lang.lang ≡ row.main
    → world_of (record lists { projects = added coding.projects.key row lists.projects; langs = added coding.langs.key lang lists.langs })
    ≡ insert (world_of lists) row.host (fresh row)
world_with_project lists row lang constraints new home main = world_changed lists (begun lists row lang) row.host (fresh row) (here lists row lang constraints new home main) (there lists row lang constraints new home main)
