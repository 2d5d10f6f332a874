use Rattle.sqlite.specs.Held.{state}
use Rattle.dh_records.specs.Lists.{is_route_in}
use Rattle.dh_tables.proofs.Asking.{asked_for}
use Rattle.dh_tables.proofs.Statements.{routes_in_asked}
use Rattle.dh_tables.proofs.tables.Tables.routes_in.Goals as goal

pub all_records-requires : goal.all_records-requires
all_records-requires g c = record { query = rw (c.params-to_sql.ensures, c.params-to_sql-2.ensures, c.as_str.ensures.text) (asked_for (routes_in_asked (state g.S.Store c.args.self.now) c.args.host.now c.args.seg.now)) }

pub returns : goal.returns
returns g c = c.all_records.ensures (λ l. l.routes) (is_route_in c.args.host.now c.args.seg.now) (rw (c.params-to_sql.ensures, c.params-to_sql-2.ensures, c.as_str.ensures.text) (routes_in_asked (state g.S.Store c.args.self.now) c.args.host.now c.args.seg.now))
