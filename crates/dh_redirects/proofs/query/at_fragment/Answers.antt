use Rattle.dh_redirects.proofs.TextLemmas.{boundary_after}
use Rattle.dh_redirects.proofs.query.at_fragment.Goals as goal

pub range_from-requires : goal.range_from-requires
range_from-requires c = λ _. boundary_after c.args.text.now c.before-address.result.now _ c.utf8.text c.before-address.utf8 c.before-address.ensures
