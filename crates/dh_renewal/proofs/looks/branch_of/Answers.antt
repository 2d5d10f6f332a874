use Rattle.std.proofs.Common.{◌∙◌, Some, None, sym}
use Rattle.dh_tables.specs.Going.{records}
use Rattle.dh_renewal.proofs.FindingLemmas.{branch_found}
use Rattle.dh_renewal.proofs.looks.branch_of.Goals as goal

pub returns-in-Some-clause-value : goal.returns-in-Some-clause-value
returns-in-Some-clause-value g c honest =
    branch_found c.args.host.now (records g.S.Store c.args.tables.now) (Some c.in-Some.row) (sym c.in-Some.is ∙ c.in_ok-row.ensures.value honest)

pub returns-in-None-clause-value : goal.returns-in-None-clause-value
returns-in-None-clause-value g c honest =
    branch_found c.args.host.now (records g.S.Store c.args.tables.now) None (sym c.in-None.is ∙ c.in_ok-row.ensures.value honest)
