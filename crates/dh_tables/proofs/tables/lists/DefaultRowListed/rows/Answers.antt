use Rattle.sqlite.specs.Held.{state}
use Rattle.dh_records.specs.Lists.{is_pick_of}
use Rattle.dh_tables.proofs.Asking.{asked_for}
use Rattle.dh_tables.proofs.Statements.{picks_asked}
use Rattle.dh_tables.proofs.tables.lists.DefaultRowListed.rows.Goals as goal

pub all_records-requires : goal.all_records-requires
all_records-requires g c = record { query = rw (c.params-to_sql.ensures, c.as_str.ensures.text) (asked_for (picks_asked (state g.S.Store c.args.tables.now) c.args.host.now)) }

pub returns : goal.returns
returns g c = c.all_records.ensures (λ l. l.picks) (is_pick_of c.args.host.now) (rw (c.params-to_sql.ensures, c.as_str.ensures.text) (picks_asked (state g.S.Store c.args.tables.now) c.args.host.now))
