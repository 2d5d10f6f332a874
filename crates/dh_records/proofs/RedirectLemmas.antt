-- What setting the redirects of a project makes of the records, of their constraints and of the world.
use Rattle.std.proofs.Common.{◌≡◌, ◌≤◌, ℕ, List, map, filter, length, Some, None, IsTrue, refl}
use Rattle.std.specs.List.{AllByRecursion}
use Rattle.std.specs.FinMap.{get, insert}
use Rattle.dh_redirects.specs.Redirects.{first_fault}
use Rattle.dh_redirects.specs.declared.redirect.Redirect.{Redirect}
use Rattle.dh_records.specs.declared.records.RedirectRow.{RedirectRow}
use Rattle.dh_records.specs.Codings as coding
use Rattle.dh_world.specs.World.{Project}
use Rattle.dh_records.specs.Lists.{Lists, world_of, is_redirect_of, redirect_row}
use Rattle.dh_records.specs.Constraints.{InOrder, AreInOrder, has_project, KeepsConstraints}
use Rattle.dh_records.specs.Changes.{set_redirects}
use Rattle.dh_records.proofs.Parts as parts
use Rattle.dh_records.proofs.PartLemmas.{part_in}
use Rattle.dh_records.proofs.PlaceLemmas.{set_in_order, all_set, places_set, world_set}

pub order_with_redirects : (lists : Lists) → AreInOrder lists → (host : List ℕ) (redirects : List Redirect) → AreInOrder (set_redirects host redirects lists)
order_with_redirects lists up host redirects = assumption (set_in_order (λ r. r.host) (λ r. r.place) host (redirect_row host) redirects lists.redirects up.redirects)

-- at most 100 redirects, none of which has a fault, are set in a project
pub constraints_with_redirects : (lists : Lists) (host : List ℕ) (redirects : List Redirect) → KeepsConstraints lists → InOrder coding.redirects.key lists.redirects → IsTrue (has_project lists host) → length redirects ≤ 100
    → AllByRecursion (λ r. first_fault r ≡ None) redirects → KeepsConstraints (set_redirects host redirects lists)
constraints_with_redirects lists host redirects constraints up has few good =
    assumption (
      all (λ r. IsTrue (has_project lists r.host)) (λ n r fine. has) constraints.hosts.redirects,
      places_set (λ r. r.host) (λ r. r.place) host (redirect_row host) (λ n r. refl) (λ n r. refl) 100 lists redirects lists.redirects constraints.projects.places up has few,
      all (λ r. first_fault r.redirect ≡ None) (λ n r fine. fine) constraints.records.good,
    )
  where
    all : (P : RedirectRow → Type 0) → ((n : ℕ) (r : Redirect) → first_fault r ≡ None → P (redirect_row host n r)) → AllByRecursion P lists.redirects → AllByRecursion P (set_redirects host redirects lists).redirects
    all P each = all_set (λ r. r.host) (λ r. r.place) host (redirect_row host) P (λ r. first_fault r ≡ None) each redirects lists.redirects good

-- ---- the world

pub redirects_in : (lists : Lists) (host : List ℕ) (p : Project) → get (world_of lists) host ≡ Some p → p.redirects ≡ map (λ r. r.redirect) (filter (is_redirect_of host) lists.redirects)
redirects_in = part_in parts.redirects

-- the redirects of a project are set
pub world_with_redirects : (lists : Lists) (host : List ℕ) (redirects : List Redirect) (p : Project) → KeepsConstraints lists → InOrder coding.redirects.key lists.redirects → get (world_of lists) host ≡ Some p
    → world_of (set_redirects host redirects lists) ≡ insert (world_of lists) host (record p { redirects = redirects })
world_with_redirects lists host new p constraints up =
    world_set (λ r. r.host) (λ r. r.place) (λ r. r.redirect) host (redirect_row host) (λ n r. refl) (λ n r. refl) (λ n r. refl) parts.redirects 100 lists new constraints.projects.places up p
