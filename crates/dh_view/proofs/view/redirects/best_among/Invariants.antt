use Rattle.std.proofs.Common.{◌≡◌, drop}
use Rattle.dh_view.specs.Stored.{best_of, led_among}
use Rattle.dh_view.proofs.view.redirects.best_among.Given as goal

abbrev pub invariant-loop-route : goal.invariant-loop-route
invariant-loop-route l =
    best_of (led_among l.redirects l.forced l.asked) l.forced (drop l.route-index l.routes) l.best
    ≡ best_of (led_among l.redirects l.forced l.asked) l.forced l.routes l.initial.best
