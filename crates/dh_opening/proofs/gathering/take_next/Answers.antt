use Rattle.std.proofs.Common.{refl, sym, subst}
use Rattle.sqlite.specs.Given.{Advances}
use Rattle.dh_opening.proofs.GatherLemmas.{takes_failed, takes_no_more}
use Rattle.dh_opening.proofs.gathering.take_next.Goals as goal

pub returns-in-Err-clause-takes : goal.returns-in-Err-clause-takes
returns-in-Err-clause-takes g c sql start =
    takes_failed g.S.Store c.args.rows.now.conn.now c.advance.new.self.conn.now sql (g.G.Taker.took start) c.args.taker.now c.args.taker.now c.advance.ensures.survives c.in-Err.error c.fault_of.result c.fault_of.ensures c.in-Err.ensures.err

pub returns-in-None-clause-takes : goal.returns-in-None-clause-takes
returns-in-None-clause-takes g c sql start =
    takes_no_more g.S.Store c.args.rows.now.conn.now c.advance.new.self.conn.now sql (g.G.Taker.took start) c.args.taker.now c.args.taker.now c.advance.ensures.survives
    (λ clean. subst (Advances g.S.Store c.args.rows.now.conn.now c.advance.new.self.conn.now) (sym c.in-None.ensures) (c.in_default.ensures.ok clean)) refl
