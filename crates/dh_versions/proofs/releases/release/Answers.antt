use Rattle.std.proofs.Common.{rules, ◌≡◌, MatchOption, Option, Some, None, sym, subst}
use Rattle.dh_versions.specs.Release.{IsReleaseOf, Numbers, release_of}
use Rattle.dh_versions.proofs.NameLemmas.{release_of-law}
use Rattle.dh_versions.proofs.releases.release.Goals as goal

pub returns-in-Some-clause-release : goal.returns-in-Some-clause-release
returns-in-Some-clause-release c =
    let value : Some (c.in-Some.version.major, c.in-Some.version.minor, c.in-Some.version.patch) ≡ release_of c.args.kind c.args.name.now = search rules in
    subst (λ (o : Option Numbers). MatchOption o ((n : Numbers) → IsReleaseOf c.args.kind c.args.name.now n → ⊥) (IsReleaseOf c.args.kind c.args.name.now))
    (sym value) (release_of-law c.args.kind c.args.name.now)

pub returns-in_default-clause-release : goal.returns-in_default-clause-release
returns-in_default-clause-release c =
    let value : None ≡ release_of c.args.kind c.args.name.now = search rules in
    subst (λ (o : Option Numbers). MatchOption o ((n : Numbers) → IsReleaseOf c.args.kind c.args.name.now n → ⊥) (IsReleaseOf c.args.kind c.args.name.now))
    (sym value) (release_of-law c.args.kind c.args.name.now)
