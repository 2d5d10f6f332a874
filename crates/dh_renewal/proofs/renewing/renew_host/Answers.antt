use Rattle.dh_renewal.proofs.RenewingLemmas.{host_right_after}
use Rattle.dh_renewal.proofs.renewing.renew_host.Goals as goal

pub returns-clause-right : goal.returns-clause-right
returns-clause-right g c =
    host_right_after g.S.Store c.args.tables.now c.renew_host_within.new.tables c.args.host.now c.renew_host_within.result c.renew_host_within.ensures.makes c.show_order.ensures
