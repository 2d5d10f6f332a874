use Rattle.sqlite.specs.Held.{state}
use Rattle.dh_tables.proofs.Asking.{asked_for}
use Rattle.dh_tables.proofs.WholeStatements.{all_routes_asked, each, whole_read}
use Rattle.dh_tables.proofs.tables.Tables.all_routes.Goals as goal

pub all_records-requires : goal.all_records-requires
all_records-requires g c = record { query = asked_for (all_routes_asked (state g.S.Store c.args.self.now)) }

pub returns : goal.returns
returns g c = whole_read g.S.Store _ _ (λ l. l.routes) c.all_records.result (c.all_records.ensures (λ l. l.routes) each (all_routes_asked (state g.S.Store c.args.self.now)))
