use Rattle.std.proofs.Common.{◌∙◌, sym, subst}
use Rattle.std.proofs.lemmas.Result.{IfOk-weaker}
use Rattle.dh_records.specs.Lists.{Lists}
use Rattle.dh_tables.specs.Going.{records}
use Rattle.dh_renewal.specs.Finding.{CoversNew, CoversPut}
use Rattle.dh_renewal.proofs.FindingLemmas.{put_is_new, put_replaces}
use Rattle.dh_renewal.proofs.finding.renewal_of_put.Goals as goal

pub returns-in-Some-clause-value : goal.returns-in-Some-clause-value
returns-in-Some-clause-value g c honest =
    put_replaces c.args.host.now (records g.S.Store c.args.tables.now) c.args.version.now c.in-Some.was c.renewal_of_replaced.result
    (sym c.in-Some.is ∙ c.in_ok-was.ensures.value honest) c.renewal_of_replaced.ensures

pub returns-in-None-clause-value : goal.returns-in-None-clause-value
returns-in-None-clause-value g c honest =
    let host = c.args.host.now in
    let l : Lists = records g.S.Store c.args.tables.now in
    let v = c.args.version.now in
    let before = c.renewal_of_new.ensures.asks.goes.lasts.was honest in
    IfOk-weaker c.renewal_of_new.result (CoversNew host v (records g.S.Store c.version_under.new.tables)) (CoversPut host v l)
    (λ r it.
    put_is_new host l v r (sym c.in-None.is ∙ c.in_ok-was.ensures.value before)
    (subst (λ (k : Lists). CoversNew host v k r) (c.in_ok-was.ensures.asks.looks.now_is before) it))
    (c.renewal_of_new.ensures.value honest)
