use Rattle.std.proofs.Common.{refl}
use Rattle.sqlite.specs.Held.{state}
use Rattle.dh_records.specs.Changes as change
use Rattle.dh_tables.proofs.Asking.{altered}
use Rattle.dh_tables.proofs.Statements.{put_alias_alters}
use Rattle.dh_tables.proofs.tables.Tables.put_alias.Goals as goal

pub write-requires : goal.write-requires
write-requires g c = record { change = rw (c.values.ensures.encoded.1) (altered g.S.Store c.args.self.now (λ honest had. put_alias_alters (state g.S.Store c.args.self.now) had c.args.row.now c.values.ensures.typed) (λ l. refl)) }

pub returns : goal.returns
returns g c = record { writes = c.write.ensures.writes (change.put_alias c.args.row.now) (rw (c.values.ensures.encoded.1) (λ honest had. put_alias_alters (state g.S.Store c.args.self.now) had c.args.row.now c.values.ensures.typed)) }
