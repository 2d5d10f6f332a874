use Rattle.std.proofs.Common.{refl}
use Rattle.sqlite.specs.Held.{state}
use Rattle.dh_records.specs.Changes as change
use Rattle.dh_records.specs.Lists.{route_row}
use Rattle.dh_tables.proofs.Kept.{as_utf8}
use Rattle.dh_tables.proofs.Asking.{altered}
use Rattle.dh_tables.proofs.Statements.{put_route_alters}
use Rattle.dh_tables.proofs.tables.Tables.put_route.Goals as goal

pub write-requires : goal.write-requires
write-requires g c = record { change = rw (c.params-to_sql.ensures, c.params-to_sql-2.ensures, c.params-to_sql-3.ensures, c.params-to_sql-4.ensures, c.as_str.ensures.text, c.as_str-2.ensures) (altered g.S.Store c.args.self.now (λ honest had. put_route_alters (state g.S.Store c.args.self.now) had (route_row c.args.host.now c.args.place c.args.route.now) (record { host = (as_utf8 c.as_str.ensures.text c.as_str.utf8, c.as_str.ensures.checked); seg = as_utf8 c.as_str-2.ensures c.as_str-2.utf8; place = c.show_number.ensures })) (λ l. refl)) }

pub returns : goal.returns
returns g c = record { writes = c.write.ensures.writes (change.put_route (route_row c.args.host.now c.args.place c.args.route.now)) (rw (c.params-to_sql.ensures, c.params-to_sql-2.ensures, c.params-to_sql-3.ensures, c.params-to_sql-4.ensures, c.as_str.ensures.text, c.as_str-2.ensures) (λ honest had. put_route_alters (state g.S.Store c.args.self.now) had (route_row c.args.host.now c.args.place c.args.route.now) (record { host = (as_utf8 c.as_str.ensures.text c.as_str.utf8, c.as_str.ensures.checked); seg = as_utf8 c.as_str-2.ensures c.as_str-2.utf8; place = c.show_number.ensures }))) }
