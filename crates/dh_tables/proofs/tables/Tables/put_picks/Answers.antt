use Rattle.std.proofs.Common.{◌+◌, arith, rules}
use Rattle.dh_records.proofs.PickLists.{rank_is_free}
use Rattle.dh_tables.proofs.PickLemmas.{none_added, one_more, more_goes, all_added}
use Rattle.dh_tables.proofs.tables.Tables.put_picks.Goals as goal

pub loop-i-init : goal.loop-i-init
loop-i-init g c = none_added g.S.Store c.args.host.now c.args.names.now c.args.self.now c.requires.bare c.requires.within

pub add_pick-requires : goal.add_pick-requires
add_pick-requires g c = record { free = λ honest. rank_is_free (record { host = c.args.host.now; name = c.index-names-i.result; rank = c.loop-i.i + 1 }) _ (c.loop-i.invariant.below honest) }

pub loop-i-preserved : goal.loop-i-preserved
loop-i-preserved g c =
    one_more g.S.Store c.args.host.now c.args.names.now c.args.self.now c.loop-i.self c.add_pick.new.self c.loop-i.i c.requires.within c.loop-i.invariant c.index-names-i.result c.index-names-i.result c.loop-i-test.true c.index-names-i.is
    c.in_ok-add_pick.ensures.writes

pub returns-in_err-add_pick : goal.returns-in_err-add_pick
returns-in_err-add_pick g c = record {
  writes = record { goes = more_goes g.S.Store c.args.host.now c.args.names.now c.args.self.now c.loop-i.self c.add_pick.new.self c.loop-i.i c.requires.within c.loop-i.invariant c.add_pick.ensures.writes.goes; sees = search rules };
}

pub returns : goal.returns
returns g c = record { writes = all_added g.S.Store c.args.host.now c.args.names.now c.args.self.now c.loop-i.self c.loop-i.i (let past = c.loop-i-test.false in omega arith) c.loop-i.invariant }
