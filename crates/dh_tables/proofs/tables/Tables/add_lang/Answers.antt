use Rattle.std.proofs.Common.{refl}
use Rattle.sqlite.specs.Held.{state}
use Rattle.dh_records.specs.Changes as change
use Rattle.dh_tables.proofs.Asking.{altered}
use Rattle.dh_tables.proofs.Statements.{add_lang_alters}
use Rattle.dh_tables.proofs.tables.Tables.add_lang.Goals as goal

pub write-requires : goal.write-requires
write-requires g c = record { change = rw c.values.ensures.encoded.1 (altered g.S.Store c.args.self.now (λ honest had. add_lang_alters (state g.S.Store c.args.self.now) had c.args.lang.now c.values.ensures.typed (c.requires.free honest)) (λ l. refl)) }

pub returns : goal.returns
returns g c = record { writes = c.write.ensures.writes (change.add_lang c.args.lang.now) (rw c.values.ensures.encoded.1 (λ honest had. add_lang_alters (state g.S.Store c.args.self.now) had c.args.lang.now c.values.ensures.typed (c.requires.free honest))) }
