use Rattle.std.proofs.Common.{refl}
use Rattle.sqlite.specs.Held.{state}
use Rattle.dh_records.specs.Changes as change
use Rattle.dh_tables.proofs.Asking.{altered}
use Rattle.dh_tables.proofs.Statements.{add_grant_alters}
use Rattle.dh_tables.proofs.tables.Tables.add_grant.Goals as goal

pub write-requires : goal.write-requires
write-requires g c = record { change = rw c.values.ensures.encoded.1 (altered g.S.Store c.args.self.now (λ honest had. add_grant_alters (state g.S.Store c.args.self.now) had c.args.row.now c.values.ensures.typed (c.requires.free honest)) (λ l. refl)) }

pub returns : goal.returns
returns g c = record { writes = c.write.ensures.writes (change.add_grant c.args.row.now) (rw c.values.ensures.encoded.1 (λ honest had. add_grant_alters (state g.S.Store c.args.self.now) had c.args.row.now c.values.ensures.typed (c.requires.free honest))) }
