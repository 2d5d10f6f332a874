-- What versions come from.
use Rattle.std.specs.Prelude.{Bool, true, false}
use Rattle.dh_versions.specs.declared.version.Kind.{Kind}
use Rattle.dh_versions.specs.declared.version.Kind.TheVariants.{Branch, Tag}

abbrev pub same_kind : Kind → Kind → Bool
same_kind Branch Branch = true
same_kind Branch Tag = false
same_kind Tag Branch = false
same_kind Tag Tag = true
