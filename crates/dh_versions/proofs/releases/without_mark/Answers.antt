use Rattle.dh_versions.proofs.NameLemmas.{without_v_none}
use Rattle.dh_versions.proofs.releases.without_mark.Goals as goal

pub returns-in-None : goal.returns-in-None
unfolding lib.Utf8.encode
returns-in-None c = without_v_none c.args.name.now c.in-None.ensures.cases
