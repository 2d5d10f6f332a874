use Rattle.std.proofs.Common.{rules}
use Rattle.dh_edits.proofs.edits.put_row.Goals as goal

pub returns-in_err-put_page : goal.returns-in_err-put_page
returns-in_err-put_page g c = record {
  makes = record {
    goes = c.put_page.ensures.writes.goes;
    sees = search rules;
    err = search rules;
  };
}
