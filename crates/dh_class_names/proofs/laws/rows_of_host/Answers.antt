use Rattle.dh_class_names.proofs.HostLemmas as lemmas
use Rattle.dh_class_names.proofs.laws.rows_of_host.Goals as goal

pub returns : goal.returns
returns c = lemmas.rows_of_host
