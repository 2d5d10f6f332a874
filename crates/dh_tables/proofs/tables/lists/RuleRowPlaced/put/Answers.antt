use Rattle.sqlite.specs.Held.{state}
use Rattle.dh_records.specs.Changes as change
use Rattle.std.proofs.Common.{refl, ◌∙◌}
use Rattle.dh_tables.proofs.Kept.{as_utf8}
use Rattle.dh_records.specs.Lists.{rule_row}
use Rattle.dh_tables.proofs.Asking.{altered}
use Rattle.dh_tables.proofs.Statements.{put_rule_alters}
use Rattle.dh_tables.proofs.tables.lists.RuleRowPlaced.put.Goals as goal

pub write-requires : goal.write-requires
write-requires g c = record { change = rw (c.params-to_sql.ensures, c.params-to_sql-2.ensures, c.params-to_sql-3.ensures, c.params-to_sql-4.ensures, c.params-to_sql-5.ensures, c.as_str.ensures.text, c.as_str-2.ensures.value, c.in_ok-pattern.ensures, c.is_tag.ensures, c.action_number.ensures) (altered g.S.Store c.args.tables.now (λ honest had. put_rule_alters (state g.S.Store c.args.tables.now) had (rule_row c.args.host.now c.args.place c.args.rule.now) (record { host = (as_utf8 c.as_str.ensures.text c.as_str.utf8, c.as_str.ensures.checked); place = c.show_number.ensures; pattern = as_utf8 (c.as_str-2.ensures.value ∙ c.in_ok-pattern.ensures) c.as_str-2.utf8 })) (λ l. refl)) }

pub returns : goal.returns
returns g c = record { writes = c.write.ensures.writes (change.put_rule (rule_row c.args.host.now c.args.place c.args.rule.now)) (rw (c.params-to_sql.ensures, c.params-to_sql-2.ensures, c.params-to_sql-3.ensures, c.params-to_sql-4.ensures, c.params-to_sql-5.ensures, c.as_str.ensures.text, c.as_str-2.ensures.value, c.in_ok-pattern.ensures, c.is_tag.ensures, c.action_number.ensures) (λ honest had. put_rule_alters (state g.S.Store c.args.tables.now) had (rule_row c.args.host.now c.args.place c.args.rule.now) (record { host = (as_utf8 c.as_str.ensures.text c.as_str.utf8, c.as_str.ensures.checked); place = c.show_number.ensures; pattern = as_utf8 (c.as_str-2.ensures.value ∙ c.in_ok-pattern.ensures) c.as_str-2.utf8 }))) }
