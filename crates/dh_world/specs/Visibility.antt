-- What a caller may read of a project: the versions that are visible to him.
use Rattle.std.specs.Prelude.{ℕ, Bool, true, false, not, ◌&&◌, ◌||◌, nat_lt, if◌then◌else◌, Option, Some, None, option_and_then}
use Rattle.std.specs.Option.{option_map_or}
use Rattle.std.specs.FinMap.{get, contains_key}
use Rattle.dh_versions.specs.declared.version.Version.{Version}
use Rattle.dh_world.specs.declared.caller.Caller.{Caller}
use Rattle.dh_world.specs.World.{Text, Project}

-- the moment comes before the end, where there is one
abbrev pub is_before : ℕ → Option ℕ → Bool
is_before moment None = true
is_before moment (Some end) = nat_lt moment end

-- the project has the pass, and the pass has not ended at this moment
abbrev pub is_live : Project → ℕ → Text → Bool
is_live p moment pass = option_map_or (is_before moment) (get p.passes pass) false

-- the pass that the caller shows, where it is live when he reads
abbrev pub live_pass : Project → Caller → Option Text
live_pass p caller = option_and_then (λ pass. if is_live p caller.moment pass then Some pass else None) caller.pass

-- there is a pass, and it holds the version
abbrev pub holds : Project → Option Text → Text → Bool
holds p None slug = false
holds p (Some pass) slug = contains_key p.held (pass, slug)

-- the version is active, and it is public or held by the caller's live pass
abbrev pub may_see : Version → Bool → Bool
may_see v held = v.active && (not v.private || held)

-- the version with the slug is one that the caller may see
abbrev pub is_visible : Project → Caller → Text → Bool
is_visible p caller slug = option_map_or (λ v. may_see v (holds p (live_pass p caller) slug)) (get p.versions slug) false
