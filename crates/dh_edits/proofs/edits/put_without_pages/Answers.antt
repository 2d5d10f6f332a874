use Rattle.std.proofs.Common.{None}
use Rattle.dh_tables.proofs.Together.{makes_on}
use Rattle.dh_edits.proofs.edits.put_without_pages.Goals as goal
use Rattle.dh_records.specs.Changes as change
use Rattle.dh_edits.specs.RowEdits.{version_row}

pub returns : goal.returns
returns g c = record {
  makes =
      let it = c.in_ok-drop_pages.ensures.writes in
      makes_on g.S.Store c.args.tables.now c.drop_pages.new.self c.put_version.new.tables
      (change.drop_pages c.args.host.now c.args.version.slug None) (change.put_version (version_row c.args.host.now c.args.version))
      c.put_version.result it.goes it.sees.live it.sees.now_is it.sees.mode c.put_version.ensures.makes;
}
