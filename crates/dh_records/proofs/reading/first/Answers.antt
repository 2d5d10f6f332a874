use Rattle.std.proofs.Common.{◌≡◌, sym}
use Rattle.dh_records.proofs.ReadingLemmas.{first_of, first_value, handed_on_all}
use Rattle.dh_records.proofs.reading.first.Goals as goal

pub returns-in_err-read-in-Some-clause-told : goal.returns-in_err-read-in-Some-clause-told
returns-in_err-read-in-Some-clause-told g c xs e =
    handed_on_all c.from_residual.result c.read.result c.in_err-read-in-Some.field-0.0 c.in_err-read-in-Some.was c.from_residual.ensures.1
    (λ y. c.in-Some.row.now ≡ g.R.Record.coding.encode y) g.R.Record.typed c.read.ensures.told
    (λ typed. first_of g.R.Record.coding.encode g.R.Record.typed xs c.args.rows.now c.in-Some.row.now e (sym c.in-Some.ensures.value) typed)

pub returns-in_ok-read-in-Some-clause-value : goal.returns-in_ok-read-in-Some-clause-value
returns-in_ok-read-in-Some-clause-value g c xs e =
    first_value g.R.Record.coding.encode c.in_ok-read-in-Some.field-0 xs c.args.rows.now c.in-Some.row.now e (sym c.in-Some.ensures.value) c.in_ok-read-in-Some.ensures.value
