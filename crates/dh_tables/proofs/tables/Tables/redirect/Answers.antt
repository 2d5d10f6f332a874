use Rattle.sqlite.specs.Held.{state}
use Rattle.dh_tables.proofs.Asking.{asked_for}
use Rattle.dh_tables.proofs.Statements.{redirect_at_asked}
use Rattle.dh_tables.specs.Listing.{is_redirect_at}
use Rattle.dh_tables.proofs.tables.Tables.redirect.Goals as goal

pub first_record-requires : goal.first_record-requires
first_record-requires g c = record { query = rw (c.params-to_sql.ensures, c.params-to_sql-2.ensures, c.as_str.ensures.text) (asked_for (redirect_at_asked (state g.S.Store c.args.self.now) c.args.host.now c.args.place)) }

pub returns : goal.returns
returns g c = c.first_record.ensures (λ l. l.redirects) (is_redirect_at c.args.host.now c.args.place) (rw (c.params-to_sql.ensures, c.params-to_sql-2.ensures, c.as_str.ensures.text) (redirect_at_asked (state g.S.Store c.args.self.now) c.args.host.now c.args.place))
