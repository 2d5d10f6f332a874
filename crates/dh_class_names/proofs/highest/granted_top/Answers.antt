use Rattle.std.specs.Option.{option_copied}
use Rattle.dh_class_names.proofs.HighestLemmas.{granted_more}
use Rattle.dh_class_names.proofs.highest.granted_top.Goals as goal

pub loop-grant-preserved : goal.loop-grant-preserved
loop-grant-preserved c = λ up public.
    granted_more c.args.rows.now c.args.grants.now c.loop-grant.grant-index c.grant-item.result c.loop-grant-test.true c.grant-item.is (option_copied c.loop-grant.best) (option_copied c.in_ok-best.best) (c.in_ok-best.ensures up) (c.loop-grant.invariant up public)
