use Rattle.dh_opening.proofs.Looks.{then_ok}
use Rattle.dh_opening.proofs.Spelling.{spells_told}
use Rattle.dh_opening.proofs.tables.spells_table.Goals as goal

pub returns : goal.returns
returns g c = record { opens = then_ok c.in_ok-records.records c.in_ok-records.ensures.opens c.is_some.result (λ honest it. rw c.is_some.ensures (spells_told c.in_ok-records.records it)) }
