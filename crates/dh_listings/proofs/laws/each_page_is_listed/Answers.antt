use Rattle.dh_listings.proofs.RowLemmas as lemmas
use Rattle.dh_listings.proofs.laws.each_page_is_listed.Goals as goal

pub returns : goal.returns
returns c = lemmas.each_page_is_listed
