use Rattle.dh_versions.proofs.NameLemmas.{is_semver_name-law, release_of-law}
use Rattle.dh_versions.proofs.laws.releases_by_grammar.Goals as goal

pub returns-clause-semver : goal.returns-clause-semver
returns-clause-semver c = is_semver_name-law

pub returns-clause-release : goal.returns-clause-release
returns-clause-release c = release_of-law
