use Rattle.std.proofs.Common.{◌≡◌, arith, rules}
use Rattle.dh_records.proofs.ReadingLemmas.{next_record, handed_on_all, some_of}
use Rattle.dh_records.proofs.reading.all.Goals as goal

pub loop-row-preserved : goal.loop-row-preserved
loop-row-preserved g c xs e =
    next_record g.R.Record.coding.encode c.in_ok-read.field-0 xs c.loop-row.row-index c.row-item.result c.args.rows.now c.loop-row.found.items _ e (omega arith) c.row-item.is (c.loop-row.invariant xs e) (search rules) c.in_ok-read.ensures.value

pub returns-in_err-read-clause-told : goal.returns-in_err-read-clause-told
returns-in_err-read-clause-told g c xs e =
    handed_on_all c.from_residual.result c.read.result c.in_err-read.field-0.0 c.in_err-read.was c.from_residual.ensures.1
    (λ y. c.row-item.result ≡ g.R.Record.coding.encode y) g.R.Record.typed c.read.ensures.told
    (some_of g.R.Record.coding.encode g.R.Record.typed xs c.args.rows.now c.loop-row.row-index c.row-item.result e (search rules) c.row-item.is)
