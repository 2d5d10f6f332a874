use Rattle.std.proofs.Common.{refl}
use Rattle.sqlite.specs.Held.{state}
use Rattle.dh_records.specs.Changes as change
use Rattle.dh_tables.proofs.Asking.{altered}
use Rattle.dh_tables.proofs.Statements.{revoke_alters}
use Rattle.dh_tables.proofs.tables.Tables.revoke.Goals as goal

pub write-requires : goal.write-requires
write-requires g c = record { change = rw (c.params-to_sql.ensures, c.params-to_sql-2.ensures, c.params-to_sql-3.ensures, c.as_str.ensures.text, c.as_str-2.ensures.text, c.as_str-3.ensures.text) (altered g.S.Store c.args.self.now (λ honest had. revoke_alters (state g.S.Store c.args.self.now) had c.args.host.now c.args.pass.now c.args.slug.now) (λ l. refl)) }

pub returns : goal.returns
returns g c = record { writes = c.write.ensures.writes (change.revoke c.args.host.now c.args.pass.now c.args.slug.now) (rw (c.params-to_sql.ensures, c.params-to_sql-2.ensures, c.params-to_sql-3.ensures, c.as_str.ensures.text, c.as_str-2.ensures.text, c.as_str-3.ensures.text) (λ honest had. revoke_alters (state g.S.Store c.args.self.now) had c.args.host.now c.args.pass.now c.args.slug.now)) }
