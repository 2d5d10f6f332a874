use Rattle.std.proofs.Common.{◌≡◌, take, map, not}
use Rattle.std.specs.List.{filter}
use Rattle.serde_json.specs.View.{view}
use Rattle.dh_versions.specs.declared.version.Version.{Version}
use Rattle.dh_reply.specs.System.{version_data}
use Rattle.dh_reply.proofs.listing.version_values.Given as goal

abbrev pub invariant-loop-version : goal.invariant-loop-version
invariant-loop-version l = map view l.values.items ≡ map version_data (filter (λ (v : Version). not v.hidden) (take l.version-index l.versions))
