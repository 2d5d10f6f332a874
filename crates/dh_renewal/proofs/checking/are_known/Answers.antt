use Rattle.std.proofs.Common.{IsTrue}
use Rattle.std.specs.List.{list_any}
use Rattle.dh_records.specs.Lists.{is_project}
use Rattle.dh_renewal.proofs.StandsLemmas.{all_taken, one_more_taken}
use Rattle.dh_renewal.proofs.checking.are_known.Goals as goal

pub loop-route-preserved : goal.loop-route-preserved
loop-route-preserved c =
    one_more_taken (λ r. IsTrue (list_any (is_project r.host) c.args.projects.now)) c.args.routes.now c.loop-route.route-index c.route-item.result c.loop-route-test.true c.route-item.is
    c.loop-route.invariant (c.is_known.ensures c.if-not-is_known.false)

pub returns : goal.returns
returns c told = all_taken (λ r. IsTrue (list_any (is_project r.host) c.args.projects.now)) c.args.routes.now c.loop-route.route-index c.loop-route-test.false c.loop-route.invariant
