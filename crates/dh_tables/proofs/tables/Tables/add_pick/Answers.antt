use Rattle.sqlite.specs.Held.{state}
use Rattle.dh_records.specs.Changes as change
use Rattle.std.proofs.Common.{refl, rules, ◌∙◌, w64, to_z, of_z, FitsSigned}
use Rattle.std.proofs.lemmas.Int.{to_z-of_z}
use Rattle.dh_tables.proofs.Kept.{as_utf8}
use Rattle.dh_tables.proofs.Asking.{altered}
use Rattle.dh_tables.proofs.Statements.{add_pick_ranked}
use Rattle.dh_tables.proofs.tables.Tables.add_pick.Goals as goal

pub write-requires : goal.write-requires
write-requires g c =
    let fits : FitsSigned w64 c.in_ok-rank.rank = search rules in
    record { change = rw (c.params-to_sql.ensures, c.params-to_sql-2.ensures, c.params-to_sql-3.ensures, c.as_str.ensures.text, c.as_str-2.ensures.text) (altered g.S.Store c.args.self.now (λ honest had. add_pick_ranked (state g.S.Store c.args.self.now) had (record { host = c.args.host.now; name = c.args.name.now; rank = c.args.rank }) (record { host = (as_utf8 c.as_str.ensures.text c.as_str.utf8, c.as_str.ensures.checked); name = (as_utf8 c.as_str-2.ensures.text c.as_str-2.utf8, c.as_str-2.ensures.checked) }) (to_z w64 (of_z w64 c.in_ok-rank.rank)) (to_z-of_z w64 c.in_ok-rank.rank fits ∙ c.in_ok-rank.ensures) (c.requires.free honest)) (λ l. refl)) }

pub returns : goal.returns
returns g c =
    let fits : FitsSigned w64 c.in_ok-rank.rank = search rules in
    record { writes = c.write.ensures.writes (change.add_pick (record { host = c.args.host.now; name = c.args.name.now; rank = c.args.rank })) (rw (c.params-to_sql.ensures, c.params-to_sql-2.ensures, c.params-to_sql-3.ensures, c.as_str.ensures.text, c.as_str-2.ensures.text) (λ honest had. add_pick_ranked (state g.S.Store c.args.self.now) had (record { host = c.args.host.now; name = c.args.name.now; rank = c.args.rank }) (record { host = (as_utf8 c.as_str.ensures.text c.as_str.utf8, c.as_str.ensures.checked); name = (as_utf8 c.as_str-2.ensures.text c.as_str-2.utf8, c.as_str-2.ensures.checked) }) (to_z w64 (of_z w64 c.in_ok-rank.rank)) (to_z-of_z w64 c.in_ok-rank.rank fits ∙ c.in_ok-rank.ensures) (c.requires.free honest))) }
