use Rattle.std.proofs.Common.{◌∙◌, sym, arith}
use Rattle.std.proofs.lemmas.List.{at_drop_all}
use Rattle.dh_view.specs.Stored.{best_of, led_among}
use Rattle.dh_view.proofs.Leading.{best_next}
use Rattle.dh_view.proofs.view.redirects.best_among.Goals as goal

pub loop-route-preserved : goal.loop-route-preserved
loop-route-preserved c =
    let lead = led_among c.args.redirects.now c.args.forced c.args.asked.now in
    best_next lead c.args.forced c.args.routes.now c.loop-route.route-index c.route-item.result c.loop-route.best c.in_ok-next.next (best_of lead c.args.forced c.args.routes.now c.args.best)
    c.loop-route-test.true c.route-item.is c.in_ok-next.ensures c.loop-route.invariant

pub returns : goal.returns
returns c =
    let lead = led_among c.args.redirects.now c.args.forced c.args.asked.now in
    sym (at_drop_all (λ xs. best_of lead c.args.forced xs c.loop-route.best) c.args.routes.now c.loop-route.route-index (let past = c.loop-route-test.false in omega arith)) ∙ c.loop-route.invariant
