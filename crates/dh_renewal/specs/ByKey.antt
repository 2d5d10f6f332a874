-- What is looked up of a host by keys, as lists of its records.
use Rattle.std.specs.Prelude.{List, filter, map}
use Rattle.dh_world.specs.World.{Text}
use Rattle.dh_records.specs.Lists.{Lists, is_pick_of, is_version_of}
use Rattle.dh_records.specs.declared.records.VersionRow.{VersionRow}

-- the versions of a host
abbrev pub versions_at : Text → Lists → List VersionRow
versions_at host l = filter (is_version_of host) l.versions

-- the defaults of a host, in their order
abbrev pub defaults_at : Text → Lists → List Text
defaults_at host l = map (λ d. d.name) (filter (is_pick_of host) l.picks)
