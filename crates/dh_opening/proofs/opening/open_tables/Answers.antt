use Rattle.dh_opening.proofs.BringLemmas.{old_opens, ours_then, refused_opens, rests_then, then_opens}
use Rattle.dh_opening.proofs.opening.open_tables.Goals as goal

pub returns-in_err-check_database : goal.returns-in_err-check_database
returns-in_err-check_database g c = record { opens = refused_opens c.from_residual.result c.in_err-check_database.field-0.0 c.from_residual.ensures.1 c.in_err-check_database.ensures.opens }

pub complete-requires : goal.complete-requires
complete-requires g c = record {
  rests = rests_then c.in_ok-check_database.field-0 c.in_ok-check_database.ensures.opens c.requires.outside c.requires.settled;
  ours = ours_then c.in_ok-check_database.field-0 c.in_ok-check_database.ensures.opens c.in-Ours.derived c.in-Ours.is;
}

pub returns-in-Ours : goal.returns-in-Ours
returns-in-Ours g c = record {
  opens = then_opens c.in_ok-check_database.field-0 c.in-Ours.derived c.in-Ours.is c.complete.result c.in_ok-check_database.ensures.opens c.complete.ensures.brings c.complete.ensures.current c.complete.ensures.none;
}

pub returns-in-Old : goal.returns-in-Old
returns-in-Old g c = record { opens = old_opens c.in_ok-check_database.field-0 c.in-Old.is c.in_ok-check_database.ensures.opens }
