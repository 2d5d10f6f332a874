use Rattle.std.proofs.Common.{◌≡◌, Some, take}
use Rattle.std.specs.List.{AllByRecursion}
use Rattle.dh_texts.specs.SlugOfName.{slug_from}
use Rattle.dh_constraints.proofs.constraints.slugs_are_of_names.Given as goal

abbrev pub invariant-loop-row : goal.invariant-loop-row
invariant-loop-row l = AllByRecursion (λ v. slug_from v.version.name ≡ Some v.version.slug) (take l.row-index l.records.versions.items)
