use Rattle.sqlite.specs.Held.{state}
use Rattle.dh_records.specs.Changes as change
use Rattle.dh_tables.proofs.Asking.{altered_pages}
use Rattle.dh_tables.proofs.Statements.{put_page_alters}
use Rattle.dh_tables.proofs.tables.Tables.put_page.Goals as goal

pub write_pages-requires : goal.write_pages-requires
write_pages-requires g c = record { change = rw c.values.ensures.encoded.1 (altered_pages g.S.Store c.args.self.now (λ honest had. put_page_alters (state g.S.Store c.args.self.now) had c.args.row.now c.values.ensures.typed)) }

pub returns : goal.returns
returns g c = record { writes = c.write_pages.ensures.writes (change.put_page c.args.row.now) (rw c.values.ensures.encoded.1 (λ honest had. put_page_alters (state g.S.Store c.args.self.now) had c.args.row.now c.values.ensures.typed)) }
