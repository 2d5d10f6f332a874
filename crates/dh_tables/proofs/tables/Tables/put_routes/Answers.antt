use Rattle.std.proofs.Common.{arith, rules}
use Rattle.dh_tables.proofs.ListLemmas.{got}
use Rattle.dh_tables.proofs.RouteLemmas.{none_put, one_put, put_goes, all_put}
use Rattle.dh_tables.proofs.tables.Tables.put_routes.Goals as goal

pub loop-i-init : goal.loop-i-init
loop-i-init g c = none_put g.S.Store c.args.host.now c.args.routes.now c.args.self.now

pub loop-i-preserved : goal.loop-i-preserved
loop-i-preserved g c =
    one_put g.S.Store c.args.host.now c.args.routes.now c.args.self.now c.requires.within c.loop-i.invariant (got c.args.routes.now c.loop-i.i c.index-routes-i.result c.loop-i-test.true c.index-routes-i.is) c.in_ok-place.ensures
    c.in_ok-put_route.ensures.writes

pub returns-in_err-place : goal.returns-in_err-place
returns-in_err-place g c = record { writes = record { goes = c.loop-i.invariant.goes; sees = search rules } }

pub returns-in_err-put_route : goal.returns-in_err-put_route
returns-in_err-put_route g c = record { writes = record { goes = put_goes g.S.Store c.args.host.now c.args.routes.now c.args.self.now c.requires.within c.loop-i.invariant c.put_route.ensures.writes.goes; sees = search rules } }

pub returns : goal.returns
returns g c = record { writes = all_put g.S.Store c.args.host.now c.args.routes.now c.args.self.now c.requires.within c.loop-i.invariant (let past = c.loop-i-test.false in omega arith) }
