use Rattle.sqlite.specs.Held.{state}
use Rattle.dh_records.specs.Lists.{is_page}
use Rattle.dh_records.specs.Codings as coding
use Rattle.dh_tables.proofs.Asking.{asked_for}
use Rattle.dh_tables.proofs.Statements.{has_page_asked}
use Rattle.dh_tables.proofs.tables.Tables.has_stored_page.Goals as goal

pub has_record-requires : goal.has_record-requires
has_record-requires g c = record { query = (coding.pages.key, rw (c.params-to_sql.ensures, c.params-to_sql-2.ensures, c.params-to_sql-3.ensures, c.params-to_sql-4.ensures, c.as_str.ensures.text, c.as_str-2.ensures.text, c.as_str-3.ensures.text) (asked_for (has_page_asked (state g.S.Store c.args.self.now) c.args.host.now c.args.slug.now c.args.lang.now c.args.path.now))) }

pub returns : goal.returns
returns g c = c.has_record.ensures coding.pages.key (λ l. l.pages) (is_page c.args.host.now c.args.slug.now c.args.lang.now c.args.path.now) (rw (c.params-to_sql.ensures, c.params-to_sql-2.ensures, c.params-to_sql-3.ensures, c.params-to_sql-4.ensures, c.as_str.ensures.text, c.as_str-2.ensures.text, c.as_str-3.ensures.text) (has_page_asked (state g.S.Store c.args.self.now) c.args.host.now c.args.slug.now c.args.lang.now c.args.path.now))
