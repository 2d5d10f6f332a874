use Rattle.sqlite.specs.Held.{state}
use Rattle.dh_records.specs.Lists.{is_rule_of}
use Rattle.dh_tables.proofs.Asking.{asked_for}
use Rattle.dh_tables.proofs.Statements.{rules_asked}
use Rattle.dh_tables.proofs.tables.lists.RuleRowListed.rows.Goals as goal

pub all_records-requires : goal.all_records-requires
all_records-requires g c = record { query = rw (c.params-to_sql.ensures, c.as_str.ensures.text) (asked_for (rules_asked (state g.S.Store c.args.tables.now) c.args.host.now)) }

pub returns : goal.returns
returns g c = c.all_records.ensures (λ l. l.rules) (is_rule_of c.args.host.now) (rw (c.params-to_sql.ensures, c.as_str.ensures.text) (rules_asked (state g.S.Store c.args.tables.now) c.args.host.now))
