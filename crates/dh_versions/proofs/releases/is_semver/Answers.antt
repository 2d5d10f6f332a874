use Rattle.std.proofs.Common.{rules, ◌≡◌, ◌↔◌, IsTrue, sym, subst, Bool}
use Rattle.dh_versions.specs.Release.{IsSemVer, is_semver_name}
use Rattle.dh_versions.proofs.NameLemmas.{is_semver_name-law}
use Rattle.dh_versions.proofs.releases.is_semver.Goals as goal

pub returns-clause-semver : goal.returns-clause-semver
returns-clause-semver c =
    let value : c.is_some.result ≡ is_semver_name c.args.name.now = search rules in
    subst (λ (yes : Bool). IsTrue yes ↔ IsSemVer c.args.name.now) (sym value) (is_semver_name-law c.args.name.now)
