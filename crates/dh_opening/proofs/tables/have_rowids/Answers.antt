use Rattle.std.proofs.Common.{subst, sym, ◌↔◌, Bool, IsTrue}
use Rattle.dh_rows.specs.Whole.{AreRowids}
use Rattle.dh_opening.proofs.Looks.{then_ok}
use Rattle.dh_opening.proofs.RowidsTaken.{rowids_told}
use Rattle.dh_opening.proofs.tables.have_rowids.Goals as goal

pub returns : goal.returns
returns g c = record {
  opens = then_ok c.in_ok-gather.field-0 c.in_ok-gather.ensures.opens c.rise.result
      (λ honest it. (it.0, it.1, subst (λ (b : Bool). IsTrue b ↔ AreRowids it.0) (sym c.rise.ensures) (rowids_told c.gather.new.taker it.0 it.2)));
}
