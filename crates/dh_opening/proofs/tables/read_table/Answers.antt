use Rattle.std.proofs.Common.{subst}
use Rattle.sqlite.specs.Held.{state}
use Rattle.dh_opening.specs.Opening.{IsSpelledBy}
use Rattle.dh_opening.proofs.Looks.{then_ok, then_not_ours}
use Rattle.dh_opening.proofs.tables.read_table.Goals as goal

pub returns-in-Some-clause-opens : goal.returns-in-Some-clause-opens
returns-in-Some-clause-opens g c =
    then_ok _ c.in_ok-records.ensures.opens c.in-Some.records
    (λ honest it. subst (IsSpelledBy g.R.Record.coding g.R.Record.typed g.R.Kept.table.name (state g.S.Store c.args.conn.now).now) c.in-Some.is it)

pub returns-in-None-clause-opens : goal.returns-in-None-clause-opens
returns-in-None-clause-opens g c =
    then_not_ours _ c.in_ok-records.ensures.opens
    (λ honest it. subst (IsSpelledBy g.R.Record.coding g.R.Record.typed g.R.Kept.table.name (state g.S.Store c.args.conn.now).now) c.in-None.is it)

pub returns-in-Some-clause-order : goal.returns-in-Some-clause-order
returns-in-Some-clause-order g c = rw c.in-Some.is at c.in_ok-records.ensures.order
