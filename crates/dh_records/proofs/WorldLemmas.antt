-- What the project of a host says of the lists that spell it, and projects put back one after the other.
use Rattle.std.proofs.Common.{◌≡◌, false, map, filter, find, length, is_some, Option, Some, None, IsTrue, refl, sym, ap, ◌∙◌}
use Rattle.std.specs.Prelude.{option_map}
use Rattle.std.specs.Option.{option_map_or}
use Rattle.std.specs.List.{list_any}
use Rattle.std.specs.Str.{bytes_eq}
use Rattle.std.specs.FinMap.{get, contains_key, insert}
use Rattle.std.proofs.lemmas.List.{length-map}
use Rattle.std.proofs.lemmas.Slice.Eq.{bytes_eq-Decides}
use Rattle.dh_records.specs.declared.records.ProjectRow.{ProjectRow}
use Rattle.dh_records.specs.declared.records.VersionRow.{VersionRow}
use Rattle.dh_world.specs.declared.operation.Operation.{Operation}
use Rattle.dh_world.specs.World.{Text, op_code, Project}
use Rattle.dh_records.specs.Lists.{Lists, project_of, world_of, kept_answer, is_project, is_version, is_page, is_used, is_lang_of, is_pick_of, is_pass, is_held}
use Rattle.dh_records.specs.Constraints.{has_project, languages_of, has_language, has_active, has_version, has_pass}
use Rattle.dh_world.proofs.MapLemmas.{get_back, put_twice}
use Rattle.dh_records.proofs.RecordLemmas.{found_passes}
use Rattle.dh_records.proofs.Parts.{spelled}
use Rattle.dh_records.proofs.SeenLemmas.{get_project, get_version, get_page, get_used, get_pass, get_held, mapped_some}

-- ---- the row of a project

-- the row of a project of the world
pub record IsRowOf (lists : Lists) (host : Text) (p : Project) (row : ProjectRow) : Type 0 where
  pub found : find (is_project host) lists.projects ≡ Some row
  pub host_is : row.host ≡ host
  pub spells : project_of lists row ≡ p

pub row_of : (lists : Lists) (host : Text) (p : Project) → get (world_of lists) host ≡ Some p → (row : ProjectRow) × IsRowOf lists host p row
row_of lists host p was = go (find (is_project host) lists.projects) refl (sym (get_project lists host) ∙ was)
  where
    go : (o : Option ProjectRow) → find (is_project host) lists.projects ≡ o → option_map (project_of lists) o ≡ Some p → (row : ProjectRow) × IsRowOf lists host p row
    go None e f = absurd (cc)
    go (Some row) e f = (row, record { found = e; host_is = (bytes_eq-Decides row.host host).0 (found_passes (is_project host) lists.projects row e); spells = cc })

pub owned_by : (lists : Lists) (host : Text) (p : Project) → get (world_of lists) host ≡ Some p → IsTrue (has_project lists host)
owned_by lists host p was = ap is_some (row_of lists host p was).1.found

pub no_row : (lists : Lists) (host : Text) → get (world_of lists) host ≡ None → find (is_project host) lists.projects ≡ None
no_row lists host none = go (find (is_project host) lists.projects) (sym (get_project lists host) ∙ none)
  where
    go : (o : Option ProjectRow) → option_map (project_of lists) o ≡ None → o ≡ None
    go None e = refl
    go (Some r) e = absurd (cc)

-- what a row says of its project
pub branch_of : (lists : Lists) (row : ProjectRow) → (project_of lists row).branch ≡ row.branch
branch_of lists row = ap (λ x. x.branch) (spelled lists row)

pub new_private_of : (lists : Lists) (row : ProjectRow) → (project_of lists row).new_private ≡ row.new_private
new_private_of lists row = ap (λ x. x.new_private) (spelled lists row)

pub wkey_of : (lists : Lists) (row : ProjectRow) → (project_of lists row).wkey ≡ row.wkey
wkey_of lists row = ap (λ x. x.wkey) (spelled lists row)

pub languages_are : (lists : Lists) (row : ProjectRow) → (project_of lists row).languages ≡ languages_of lists row.host
languages_are lists row = ap (λ x. x.languages) (spelled lists row)

pub defaults_are : (lists : Lists) (row : ProjectRow) → (project_of lists row).defaults ≡ map (λ d. d.name) (filter (is_pick_of row.host) lists.picks)
defaults_are lists row = ap (λ x. x.defaults) (spelled lists row)

-- ---- what the lists have of a project of the world

module _ (lists : Lists) (host : Text) (p : Project) (was : get (world_of lists) host ≡ Some p) where
  -- what each row says of its host, of this one
  pub told_of : {M : Type 0} (part : Project → M) (says : Text → M) → ((r : ProjectRow) → part (project_of lists r) ≡ says r.host) → part p ≡ says host
  told_of part says each =
      let it = row_of lists host p was in
      ap part (sym it.1.spells) ∙ each it.0 ∙ ap says it.1.host_is

  pub languages_in : p.languages ≡ languages_of lists host
  languages_in = told_of (λ x. x.languages) (languages_of lists) (languages_are lists)

  pub speaks_in : (lang : Text) → list_any (λ l. bytes_eq l lang) p.languages ≡ has_language lists host lang
  speaks_in lang = ap (list_any (λ l. bytes_eq l lang)) languages_in

  pub count_in : length p.languages ≡ length (filter (is_lang_of host) lists.langs)
  count_in = ap length languages_in ∙ length-map (filter (is_lang_of host) lists.langs) (λ l. l.lang)

  pub version_in : (slug : Text) → get p.versions slug ≡ option_map (λ v. v.version) (find (is_version host slug) lists.versions)
  version_in slug = told_of (λ x. get x.versions slug) (λ h. option_map (λ v. v.version) (find (is_version h slug) lists.versions)) (λ r. get_version lists r slug)

  pub active_in : (slug : Text) → option_map_or (λ v. v.active) (get p.versions slug) false ≡ has_active lists host slug
  active_in slug = ap (λ o. option_map_or (λ v. v.active) o false) (version_in slug) ∙ go (find (is_version host slug) lists.versions)
    where
      go : (o : Option VersionRow) → option_map_or (λ v. v.active) (option_map (λ (r : VersionRow). r.version) o) false ≡ option_map_or (λ r. r.version.active) o false
      go None = refl
      go (Some r) = refl

  pub page_in : (slug lang path : Text) → get p.pages (slug, (lang, path)) ≡ option_map (λ x. x.page) (find (is_page host slug lang path) lists.pages)
  page_in slug lang path = told_of (λ x. get x.pages (slug, (lang, path))) (λ h. option_map (λ x. x.page) (find (is_page h slug lang path) lists.pages)) (λ r. get_page lists r slug lang path)

  pub used_in : (slug : Text) (op : Operation) (retry : Text) → get p.used (slug, (op_code op, retry)) ≡ option_map kept_answer (find (is_used host slug op retry) lists.used)
  used_in slug op retry = told_of (λ x. get x.used (slug, (op_code op, retry))) (λ h. option_map kept_answer (find (is_used h slug op retry) lists.used)) (λ r. get_used lists r slug op retry)

  pub has_version_in : (slug : Text) → contains_key p.versions slug ≡ has_version lists host slug
  has_version_in slug = ap is_some (version_in slug) ∙ mapped_some (λ v. v.version) (find (is_version host slug) lists.versions)

  pub defaults_in : p.defaults ≡ map (λ d. d.name) (filter (is_pick_of host) lists.picks)
  defaults_in = told_of (λ x. x.defaults) (λ h. map (λ d. d.name) (filter (is_pick_of h) lists.picks)) (defaults_are lists)

  pub pass_in : (pass : Text) → get p.passes pass ≡ option_map (λ x. x.until) (find (is_pass host pass) lists.passes)
  pass_in pass = told_of (λ x. get x.passes pass) (λ h. option_map (λ x. x.until) (find (is_pass h pass) lists.passes)) (λ r. get_pass lists r pass)

  pub has_pass_in : (pass : Text) → contains_key p.passes pass ≡ has_pass lists host pass
  has_pass_in pass = ap is_some (pass_in pass) ∙ mapped_some (λ x. x.until) (find (is_pass host pass) lists.passes)

  pub held_in : (pass slug : Text) → get p.held (pass, slug) ≡ option_map (λ x. tt) (find (is_held host pass slug) lists.held)
  held_in pass slug = told_of (λ x. get x.held (pass, slug)) (λ h. option_map (λ x. tt) (find (is_held h pass slug) lists.held)) (λ r. get_held lists r pass slug)

-- ---- one project put back after the other

-- two changes of one project, one after the other
pub changed_twice : (lists middle last : Lists) (host : Text) (p q : Project) → world_of middle ≡ insert (world_of lists) host p
    → (get (world_of middle) host ≡ Some p → world_of last ≡ insert (world_of middle) host q) → world_of last ≡ insert (world_of lists) host q
changed_twice lists middle last host p q first second =
    second (ap (λ w. get w host) first ∙ get_back (world_of lists) host p) ∙ ap (λ w. insert w host q) first ∙ put_twice (world_of lists) host p q
