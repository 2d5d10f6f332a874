use Rattle.std.proofs.Common.{◌∙◌}
use Rattle.dh_renewal.proofs.StandsLemmas.{placed_on}
use Rattle.dh_renewal.proofs.standing.placed_rows.Goals as goal

pub loop-i-preserved : goal.loop-i-preserved
loop-i-preserved c =
    c.in_ok-push.ensures.items
    ∙ placed_on c.args.host.now c.args.routes.now c.loop-i.i c.index-routes-i.result c.loop-i-test.true c.index-routes-i.is c.loop-i.rows.items c.in_ok-route_at.field-0 c.loop-i.invariant c.in_ok-route_at.ensures
