use Rattle.dh_view.proofs.ViewLemmas.{honest, undoubted}
use Rattle.dh_view.proofs.view.looking.doubt_is_of_the_store.Goals as goal

pub returns : goal.returns
returns g c h = (honest g.S.Store h, undoubted g.S.Store h)
