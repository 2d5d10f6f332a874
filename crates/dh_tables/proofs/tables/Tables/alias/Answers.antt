use Rattle.sqlite.specs.Held.{state}
use Rattle.dh_records.specs.Lists.{is_alias_at}
use Rattle.dh_tables.proofs.Asking.{asked_for}
use Rattle.dh_tables.proofs.Statements.{alias_asked}
use Rattle.dh_tables.proofs.tables.Tables.alias.Goals as goal

pub first_record-requires : goal.first_record-requires
first_record-requires g c = record { query = rw (c.params-to_sql.ensures, c.params-to_sql-2.ensures, c.params-to_sql-3.ensures, c.as_str.ensures.text, c.alias_number.ensures) (asked_for (alias_asked (state g.S.Store c.args.self.now) c.args.host.now c.args.class.now c.args.name)) }

pub returns : goal.returns
returns g c = c.first_record.ensures (λ l. l.aliases) (is_alias_at c.args.host.now c.args.class.now c.args.name) (rw (c.params-to_sql.ensures, c.params-to_sql-2.ensures, c.params-to_sql-3.ensures, c.as_str.ensures.text, c.alias_number.ensures) (alias_asked (state g.S.Store c.args.self.now) c.args.host.now c.args.class.now c.args.name))
