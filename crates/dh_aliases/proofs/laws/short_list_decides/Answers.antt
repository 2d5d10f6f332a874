use Rattle.dh_aliases.proofs.PassLemmas as lemmas
use Rattle.dh_aliases.proofs.laws.short_list_decides.Goals as goal

pub returns : goal.returns
returns c p pass vs named private = lemmas.short_list_decides p pass vs named private
