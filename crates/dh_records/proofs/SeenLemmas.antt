-- What a project holds, by look-ups in the lists.
use Rattle.std.proofs.Common.{◌≡◌, ℕ, ◌&&◌, false, Option, Some, None, refl, sym, ap, ◌∙◌}
use Rattle.std.specs.Prelude.{option_map, is_some}
use Rattle.std.specs.List.{find}
use Rattle.std.specs.Option.{option_map_or}
use Rattle.std.specs.Str.{bytes_eq}
use Rattle.std.specs.FinMap.{get, get-from_entries}
use Rattle.dh_records.specs.declared.records.PassRow.{PassRow}
use Rattle.dh_records.specs.declared.records.ProjectRow.{ProjectRow}
use Rattle.dh_world.specs.declared.operation.Operation.{Operation}
use Rattle.dh_world.specs.World.{Text, text_cmp, op_code}
use Rattle.dh_world.specs.Visibility.{is_before, is_live, holds}
use Rattle.dh_records.specs.Lists.{Lists, project_of, world_of, kept_answer, same_op, is_project, is_version, is_page, is_used, is_pass, is_held}
use Rattle.dh_world.proofs.MapLemmas.{text_total, tied_text, tied_page, tied_held, found_in}
use Rattle.dh_records.proofs.Keys.{host_first, host_first_of_four}
use Rattle.dh_records.proofs.KeyLemmas.{page_place, held_place, tied_used_key}
use Rattle.dh_records.proofs.Parts.{version_maps, page_maps, used_maps, pass_maps, held_maps}
use Rattle.dh_records.proofs.RecordLemmas.{get_by}

pub get_project : (lists : Lists) (host : Text) → get (world_of lists) host ≡ option_map (project_of lists) (find (is_project host) lists.projects)
unfolding world_of
get_project lists host = get-from_entries text_total _ host ∙ found_in text_cmp (λ r. r.host) (project_of lists) host (is_project host) (λ r. tied_text host r.host) lists.projects

pub get_version : (lists : Lists) (row : ProjectRow) (slug : Text) → get (project_of lists row).versions slug ≡ option_map (λ v. v.version) (find (is_version row.host slug) lists.versions)
unfolding project_of
get_version lists row slug =
    get_by version_maps row.host slug (is_version row.host slug)
    (λ v. ap (λ b. bytes_eq v.host row.host && b) (tied_text slug v.version.slug)) lists.versions

pub get_page : (lists : Lists) (row : ProjectRow) (slug lang path : Text) → get (project_of lists row).pages (slug, (lang, path)) ≡ option_map (λ x. x.page) (find (is_page row.host slug lang path) lists.pages)
unfolding project_of
get_page lists row slug lang path =
    get_by page_maps row.host (slug, (lang, path)) (is_page row.host slug lang path)
    (λ x. ap (λ b. bytes_eq x.host row.host && b) (tied_page slug lang path (page_place x)) ∙ sym (host_first_of_four (bytes_eq x.host row.host) (bytes_eq x.slug slug) (bytes_eq x.lang lang) (bytes_eq x.path path))) lists.pages

pub get_used : (lists : Lists) (row : ProjectRow) (slug : Text) (op : Operation) (retry : Text) → get (project_of lists row).used (slug, (op_code op, retry)) ≡ option_map kept_answer (find (is_used row.host slug op retry) lists.used)
unfolding project_of
get_used lists row slug op retry =
    get_by used_maps row.host (slug, (op_code op, retry)) (is_used row.host slug op retry)
    (λ u. ap (λ b. bytes_eq u.host row.host && b) (tied_used_key slug op retry u) ∙ sym (host_first_of_four (bytes_eq u.host row.host) (bytes_eq u.slug slug) (same_op u.op op) (bytes_eq u.retry retry))) lists.used

pub get_pass : (lists : Lists) (row : ProjectRow) (pass : Text) → get (project_of lists row).passes pass ≡ option_map (λ x. x.until) (find (is_pass row.host pass) lists.passes)
unfolding project_of
get_pass lists row pass =
    get_by pass_maps row.host pass (is_pass row.host pass)
    (λ x. ap (λ b. bytes_eq x.host row.host && b) (tied_text pass x.pass)) lists.passes

pub get_held : (lists : Lists) (row : ProjectRow) (pass slug : Text) → get (project_of lists row).held (pass, slug) ≡ option_map (λ x. tt) (find (is_held row.host pass slug) lists.held)
unfolding project_of
get_held lists row pass slug =
    get_by held_maps row.host (pass, slug) (is_held row.host pass slug)
    (λ x. ap (λ b. bytes_eq x.host row.host && b) (tied_held pass slug (held_place x)) ∙ sym (host_first (bytes_eq x.host row.host) (bytes_eq x.pass pass) (bytes_eq x.slug slug))) lists.held

pub mapped_some : {A X : Type 0} (f : A → X) (o : Option A) → is_some (option_map f o) ≡ is_some o
mapped_some f None = refl
mapped_some f (Some x) = refl

-- a pass holds what the records of grants say
pub holds_is : (lists : Lists) (row : ProjectRow) (pass slug : Text) → holds (project_of lists row) (Some pass) slug ≡ is_some (find (is_held row.host pass slug) lists.held)
holds_is lists row pass slug = ap is_some (get_held lists row pass slug) ∙ mapped_some (λ x. tt) (find (is_held row.host pass slug) lists.held)

-- it is live as its own record says
pub live_is : (lists : Lists) (row : ProjectRow) (moment : ℕ) (pass : Text)
    → is_live (project_of lists row) moment pass ≡ option_map_or (λ x. is_before moment x.until) (find (is_pass row.host pass) lists.passes) false
live_is lists row moment pass =
    ap (λ end. option_map_or (is_before moment) end false) (get_pass lists row pass) ∙ by_row (find (is_pass row.host pass) lists.passes)
  where
    by_row : (o : Option PassRow) → option_map_or (is_before moment) (option_map (λ x. x.until) o) false ≡ option_map_or (λ x. is_before moment x.until) o false
    by_row None = refl
    by_row (Some x) = refl
