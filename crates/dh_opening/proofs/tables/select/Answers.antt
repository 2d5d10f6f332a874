use Rattle.std.proofs.Common.{Global, Vec}
use Rattle.sqlite.specs.declared.rows.Row.{Row}
use Rattle.dh_opening.proofs.Looks.{refused_as}
use Rattle.dh_opening.proofs.tables.select.Goals as goal

pub returns-in-Err : goal.returns-in-Err
returns-in-Err g c = record { opens = refused_as c.args.sql.now (Vec Row Global) c.in-Err.fault c.in-Err.ensures.looks c.in-Err.ensures.blamed c.requires.whole }
