use Rattle.sqlite.specs.Held.{state}
use Rattle.dh_records.specs.Lists.{is_held_by}
use Rattle.dh_tables.proofs.Asking.{asked_for}
use Rattle.dh_tables.proofs.Statements.{held_by_asked}
use Rattle.dh_tables.proofs.tables.Tables.held_by.Goals as goal

pub all_records-requires : goal.all_records-requires
all_records-requires g c = record { query = rw (c.params-to_sql.ensures, c.params-to_sql-2.ensures, c.as_str.ensures.text, c.as_str-2.ensures.text) (asked_for (held_by_asked (state g.S.Store c.args.self.now) c.args.host.now c.args.pass.now)) }

pub returns : goal.returns
returns g c = c.all_records.ensures (λ l. l.held) (is_held_by c.args.host.now c.args.pass.now) (rw (c.params-to_sql.ensures, c.params-to_sql-2.ensures, c.as_str.ensures.text, c.as_str-2.ensures.text) (held_by_asked (state g.S.Store c.args.self.now) c.args.host.now c.args.pass.now))
