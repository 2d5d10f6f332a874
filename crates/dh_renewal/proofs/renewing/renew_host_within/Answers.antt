use Rattle.std.proofs.Common.{sym, subst}
use Rattle.dh_records.specs.Lists.{Lists}
use Rattle.dh_tables.specs.Going.{records}
use Rattle.dh_renewal.specs.Renewing.{FindsBranch, HasBranch}
use Rattle.dh_renewal.proofs.renewing.renew_host_within.Goals as goal

pub renew_host_of-requires-clause-branch : goal.renew_host_of-requires-clause-branch
renew_host_of-requires-clause-branch g c honest =
    let l : Lists = records g.S.Store c.args.tables.now in
    subst (HasBranch c.args.host.now c.in-Some.branch) (sym (c.in_ok-branch.ensures.asks.looks.now_is honest))
    (subst (FindsBranch c.args.host.now l) c.in-Some.is (c.in_ok-branch.ensures.value honest))
