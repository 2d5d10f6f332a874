use Rattle.std.proofs.Common.{refl}
use Rattle.sqlite.specs.Held.{state}
use Rattle.dh_records.specs.Changes as change
use Rattle.dh_tables.proofs.Kept.{as_utf8}
use Rattle.dh_tables.proofs.Asking.{altered}
use Rattle.dh_tables.proofs.Statements.{keep_alters}
use Rattle.dh_tables.proofs.tables.Tables.add_used.Goals as goal

pub write-requires : goal.write-requires
write-requires g c = record { change = rw (c.params-to_sql.ensures, c.params-to_sql-2.ensures, c.params-to_sql-3.ensures, c.params-to_sql-4.ensures, c.params-to_sql-5.ensures, c.as_str.ensures.text, c.as_str-2.ensures.text, c.as_str-3.ensures.text, c.is_upload.ensures) (altered g.S.Store c.args.self.now (λ honest had. keep_alters (state g.S.Store c.args.self.now) had (record { host = c.args.host.now; slug = c.args.slug.now; op = c.args.op; retry = c.args.retry.now; answer = c.args.answer.now }) (record { host = (as_utf8 c.as_str.ensures.text c.as_str.utf8, c.as_str.ensures.checked); slug = (as_utf8 c.as_str-2.ensures.text c.as_str-2.utf8, c.as_str-2.ensures.checked); retry = (as_utf8 c.as_str-3.ensures.text c.as_str-3.utf8, c.as_str-3.ensures.checked); answer = c.utf8.answer; tells = c.requires.tells }) (c.requires.free honest)) (λ l. refl)) }

pub returns : goal.returns
returns g c = record { writes = c.write.ensures.writes (change.add_used (record { host = c.args.host.now; slug = c.args.slug.now; op = c.args.op; retry = c.args.retry.now; answer = c.args.answer.now })) (rw (c.params-to_sql.ensures, c.params-to_sql-2.ensures, c.params-to_sql-3.ensures, c.params-to_sql-4.ensures, c.params-to_sql-5.ensures, c.as_str.ensures.text, c.as_str-2.ensures.text, c.as_str-3.ensures.text, c.is_upload.ensures) (λ honest had. keep_alters (state g.S.Store c.args.self.now) had (record { host = c.args.host.now; slug = c.args.slug.now; op = c.args.op; retry = c.args.retry.now; answer = c.args.answer.now }) (record { host = (as_utf8 c.as_str.ensures.text c.as_str.utf8, c.as_str.ensures.checked); slug = (as_utf8 c.as_str-2.ensures.text c.as_str-2.utf8, c.as_str-2.ensures.checked); retry = (as_utf8 c.as_str-3.ensures.text c.as_str-3.utf8, c.as_str-3.ensures.checked); answer = c.utf8.answer; tells = c.requires.tells }) (c.requires.free honest))) }
