-- Which redirect of a list is followed (Read the Docs, Redirects).
use Rattle.std.specs.Prelude.{Bool, not, ◌&&◌, if◌then◌else◌, Option, None, List, [], ◌∷◌}
use Rattle.std.specs.Option.{option_or}
use Rattle.dh_redirects.specs.declared.redirect.Redirect.{Redirect}
use Rattle.dh_redirects.specs.declared.redirect.Asked.{Asked}
use Rattle.dh_redirects.specs.declared.redirect.Location.{Location}
use Rattle.dh_redirects.specs.Locations.{redirect_result}

-- where a redirect leads, unless only redirects with force count and this one has none
abbrev pub result_in : Bool → Redirect → Asked → Option Location
result_in forced r asked = if forced && not r.force then None else redirect_result r asked

-- where the first redirect leads that has a result, of all or of those with force alone
unfoldable pub first_result : Bool → List Redirect → Asked → Option Location
first_result forced [] asked = None
first_result forced (r ∷ rs) asked =
    option_or (result_in forced r asked) (first_result forced rs asked)
