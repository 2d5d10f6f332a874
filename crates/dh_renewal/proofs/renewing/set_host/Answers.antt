use Rattle.dh_renewal.proofs.renewing.set_host.Goals as goal

pub set_all-requires-clause-apart : goal.set_all-requires-clause-apart
set_all-requires-clause-apart g c honest = c.requires.apart (c.drop_aliases.ensures.writes.goes.lasts.was honest)
