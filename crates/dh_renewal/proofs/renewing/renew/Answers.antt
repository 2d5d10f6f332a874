use Rattle.dh_renewal.proofs.RenewingLemmas.{right_after}
use Rattle.dh_renewal.proofs.renewing.renew.Goals as goal

pub returns-clause-right : goal.returns-clause-right
returns-clause-right g c =
    right_after g.S.Store c.args.tables.now c.renew_within.new.tables c.args.host.now c.args.renewal.now c.renew_within.result c.renew_within.ensures.makes c.show_order.ensures c.requires.lacks
