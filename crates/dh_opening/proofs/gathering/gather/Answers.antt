use Rattle.std.proofs.Common.{◌≡◌, ◌∙◌, Bool, true, false, List, [], ◌∷◌, ◌++◌, Ok, refl, rules, subst}
use Rattle.sqlite_value.specs.Order.{Row}
use Rattle.dh_opening.specs.Gathering.{TakesNext}
use Rattle.dh_opening.specs.Opening.{AnswersQuery, JudgesTables}
use Rattle.dh_opening.proofs.GatherLemmas.{begins_opens, begins_taken, failed_opens, gather_failed, gathered, gathers_on, refused_is}
use Rattle.dh_opening.proofs.gathering.gather.Goals as goal

pub returns-in-Err-clause-opens : goal.returns-in-Err-clause-opens
returns-in-Err-clause-opens g c =
    let last = refused_is c.query.result c.in-Err.error c.in-Err.is c.query.follows.holds-at-none in
    failed_opens g.S.Store c.args.conn.now c.query.follows.lender-at-none c.args.sql.now c.requires.whole last.survives c.in-Err.error c.fault_of.result c.fault_of.ensures (λ clean. rw c.in-Err.is at (last.err clean))

pub rows-init : goal.rows-init
rows-init g c =
    let made = c.in-Ok.ensures in (
      refl,
      [],
      begins_taken g.S.Store c.args.conn.now c.in-Ok.rows.conn.now c.args.sql.now c.requires.whole made.survives made.begun,
      begins_opens g.S.Store c.args.conn.now c.in-Ok.rows.conn.now c.args.sql.now c.requires.whole made.survives made.begun,
      c.requires.start,
    )

pub returns-in_err-take_next-clause-opens : goal.returns-in_err-take_next-clause-opens
returns-in_err-take_next-clause-opens g c =
    let at = c.rows.invariant in
    let same = c.take_next.ensures.same_reference ∙ at.0 in
    let it : JudgesTables g.S.Store c.args.conn.now c.take_next.new.rows.conn.now {T = Unit {0}} c.from_residual.result (λ db _. (rows : List Row) × AnswersQuery db c.args.sql.now rows × g.G.Taker.took c.args.taker.now c.take_next.new.taker rows) (λ _. ⊥) =
    gather_failed g.S.Store c.args.conn.now c.rows.rows.conn.now c.take_next.new.rows.conn.now c.args.sql.now (g.G.Taker.took c.args.taker.now) c.rows.taker c.take_next.new.taker at.1 at.2 at.3 c.from_residual.result c.in_err-take_next.field-0.0 c.from_residual.ensures.1 (c.in_err-take_next.ensures.takes c.args.sql.now c.args.taker.now) in
    search rules

pub returns-then-not-branch-clause-opens : goal.returns-then-not-branch-clause-opens
returns-then-not-branch-clause-opens g c =
    let at = c.rows.invariant in
    let no : c.in_ok-take_next.field-0 ≡ false = search rules in
    let same = c.take_next.ensures.same_reference ∙ at.0 in
    let next = subst (λ (b : Bool). TakesNext g.S.Store c.args.sql.now (g.G.Taker.took c.args.taker.now) c.rows.rows.conn.now c.take_next.new.rows.conn.now c.rows.taker c.take_next.new.taker (Ok b)) no (c.in_ok-take_next.ensures.takes c.args.sql.now c.args.taker.now) in
    let it = gathered g.S.Store c.args.conn.now c.rows.rows.conn.now c.take_next.new.rows.conn.now c.args.sql.now (g.G.Taker.took c.args.taker.now) c.rows.taker c.take_next.new.taker at.1 at.2 at.3 at.4 next in
    search rules

pub returns-then-not-branch-clause-took : goal.returns-then-not-branch-clause-took
returns-then-not-branch-clause-took g c =
    let at = c.rows.invariant in
    let no : c.in_ok-take_next.field-0 ≡ false = search rules in
    let next = subst (λ (b : Bool). TakesNext g.S.Store c.args.sql.now (g.G.Taker.took c.args.taker.now) c.rows.rows.conn.now c.take_next.new.rows.conn.now c.rows.taker c.take_next.new.taker (Ok b)) no (c.in_ok-take_next.ensures.takes c.args.sql.now c.args.taker.now) in
    (at.1, next.on at.1 at.2 at.4)

pub rows-preserved : goal.rows-preserved
rows-preserved g c =
    let at = c.rows.invariant in
    let yes : c.in_ok-take_next.field-0 ≡ true = search rules in
    let next = subst (λ (b : Bool). TakesNext g.S.Store c.args.sql.now (g.G.Taker.took c.args.taker.now) c.rows.rows.conn.now c.take_next.new.rows.conn.now c.rows.taker c.take_next.new.taker (Ok b)) yes (c.in_ok-take_next.ensures.takes c.args.sql.now c.args.taker.now) in
    let on = next.on at.1 at.2 at.4 in (
      c.take_next.ensures.same_reference ∙ at.0,
      at.1 ++ on.0 ∷ [],
      on.1,
      gathers_on g.S.Store c.args.conn.now c.rows.rows.conn.now c.take_next.new.rows.conn.now c.args.sql.now (g.G.Taker.took c.args.taker.now) c.rows.taker c.take_next.new.taker at.1 at.2 at.3 next,
      on.2,
    )
