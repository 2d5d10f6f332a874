use Rattle.dh_renewal.proofs.StandsLemmas.{agreed}
use Rattle.dh_renewal.proofs.standing.agree.Goals as goal

pub returns-then-agree_on : goal.returns-then-agree_on
returns-then-agree_on c told seg = agreed c.args.host.now c.args.one.now c.args.two.now (c.agree_on.ensures c.if-agree_on.true) (c.agree_on-then-agree_on.ensures told) seg
