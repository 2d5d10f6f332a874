use Rattle.std.proofs.Common.{refl}
use Rattle.sqlite.specs.Held.{state}
use Rattle.dh_records.specs.Changes as change
use Rattle.dh_tables.proofs.Kept.{as_utf8}
use Rattle.dh_records.specs.Lists.{redirect_row}
use Rattle.dh_tables.proofs.Asking.{altered}
use Rattle.dh_tables.proofs.Statements.{put_redirect_alters}
use Rattle.dh_tables.proofs.tables.lists.RedirectRowPlaced.put.Goals as goal

pub write-requires : goal.write-requires
write-requires g c = record { change = rw (c.params-to_sql.ensures, c.params-to_sql-2.ensures, c.params-to_sql-3.ensures, c.params-to_sql-4.ensures, c.params-to_sql-5.ensures, c.params-to_sql-6.ensures, c.params-to_sql-7.ensures, c.as_str.ensures.text, c.as_str-2.ensures, c.as_str-3.ensures, c.kind_number.ensures, c.from.ensures) (altered g.S.Store c.args.tables.now (λ honest had. put_redirect_alters (state g.S.Store c.args.tables.now) had (redirect_row c.args.host.now c.args.place c.args.redirect.now) (record { host = (as_utf8 c.as_str.ensures.text c.as_str.utf8, c.as_str.ensures.checked); place = c.show_number.ensures; status = c.show_status.ensures; source = as_utf8 c.as_str-2.ensures c.as_str-2.utf8; target = as_utf8 c.as_str-3.ensures c.as_str-3.utf8 })) (λ l. refl)) }

pub returns : goal.returns
returns g c = record { writes = c.write.ensures.writes (change.put_redirect (redirect_row c.args.host.now c.args.place c.args.redirect.now)) (rw (c.params-to_sql.ensures, c.params-to_sql-2.ensures, c.params-to_sql-3.ensures, c.params-to_sql-4.ensures, c.params-to_sql-5.ensures, c.params-to_sql-6.ensures, c.params-to_sql-7.ensures, c.as_str.ensures.text, c.as_str-2.ensures, c.as_str-3.ensures, c.kind_number.ensures, c.from.ensures) (λ honest had. put_redirect_alters (state g.S.Store c.args.tables.now) had (redirect_row c.args.host.now c.args.place c.args.redirect.now) (record { host = (as_utf8 c.as_str.ensures.text c.as_str.utf8, c.as_str.ensures.checked); place = c.show_number.ensures; status = c.show_status.ensures; source = as_utf8 c.as_str-2.ensures c.as_str-2.utf8; target = as_utf8 c.as_str-3.ensures c.as_str-3.utf8 }))) }
