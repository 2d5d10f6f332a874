use Rattle.std.specs.Str.{bytes_eq}
use Rattle.sqlite.specs.Held.{state}
use Rattle.dh_records.specs.declared.records.GrantRow.{GrantRow}
use Rattle.dh_tables.proofs.Asking.{asked_for}
use Rattle.dh_tables.proofs.GrantStatements.{grants_asked}
use Rattle.dh_tables.proofs.tables.lists.GrantRowListed.rows.Goals as goal

pub all_records-requires : goal.all_records-requires
all_records-requires g c = record { query = rw (c.params-to_sql.ensures, c.as_str.ensures.text) (asked_for (grants_asked (state g.S.Store c.args.tables.now) c.args.host.now)) }

pub returns : goal.returns
returns g c =
    c.all_records.ensures (λ l. l.held) (λ (x : GrantRow). bytes_eq x.host c.args.host.now)
    (rw (c.params-to_sql.ensures, c.as_str.ensures.text) (grants_asked (state g.S.Store c.args.tables.now) c.args.host.now))
