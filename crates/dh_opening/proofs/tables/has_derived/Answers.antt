use Rattle.std.proofs.Common.{◌∙◌, ◌&&◌, ◌↔◌, Bool, IsTrue, Ok, ap, subst, sym}
use Rattle.sqlite.specs.Held.{state}
use Rattle.dh_opening.specs.Opening.{HasDerived}
use Rattle.dh_opening.proofs.Looks.{laid_on, opens_on, some_laid, then_ok}
use Rattle.dh_opening.proofs.Spelling.{both_derived}
use Rattle.dh_opening.proofs.tables.has_derived.Goals as goal

pub spells_table-requires : goal.spells_table-requires
spells_table-requires g c = record { laid = λ honest. some_laid (λ P all. (all.0, tt)) (c.requires.laid honest) }

pub spells_table-requires-2 : goal.spells_table-requires-2
spells_table-requires-2 g c = record { laid = λ honest. some_laid (λ P all. (all.1.0, tt)) (laid_on c.in_ok-aliases.aliases c.in_ok-aliases.ensures.opens c.requires.laid honest) }

pub returns-then-aliases : goal.returns-then-aliases
returns-then-aliases g c = record {
  opens = then_ok c.in_ok-routes.routes (opens_on c.in_ok-aliases.aliases (Ok c.in_ok-routes.routes) c.in_ok-aliases.ensures.opens c.in_ok-routes.ensures.opens) c.in_ok-routes.routes
      (λ honest it.
      subst (λ (a : Bool). IsTrue (a && c.in_ok-routes.routes) ↔ HasDerived (state g.S.Store c.args.conn.now).now) c.if-aliases.true
      (both_derived (state g.S.Store c.args.conn.now).now (c.requires.laid honest).alone c.in_ok-aliases.aliases c.in_ok-routes.routes it.0 it.1));
}

pub returns-else-aliases : goal.returns-else-aliases
returns-else-aliases g c = record {
  opens = then_ok c.in_ok-routes.routes (opens_on c.in_ok-aliases.aliases (Ok c.in_ok-routes.routes) c.in_ok-aliases.ensures.opens c.in_ok-routes.ensures.opens) c.in_ok-aliases.aliases
      (λ honest it.
      subst (λ (a : Bool). IsTrue a ↔ HasDerived (state g.S.Store c.args.conn.now).now) (ap (λ (a : Bool). a && c.in_ok-routes.routes) c.if-aliases.false ∙ sym c.if-aliases.false)
      (both_derived (state g.S.Store c.args.conn.now).now (c.requires.laid honest).alone c.in_ok-aliases.aliases c.in_ok-routes.routes it.0 it.1));
}
