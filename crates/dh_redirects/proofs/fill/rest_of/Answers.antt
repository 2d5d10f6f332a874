use Rattle.std.proofs.Common.{sym, ◌∙◌, refl}
use Rattle.dh_redirects.proofs.TextLemmas.{no_final_star}
use Rattle.dh_redirects.proofs.fill.rest_of.Goals as goal

pub returns-in-None : goal.returns-in-None
returns-in-None c =
    rw (no_final_star c.args.source.now c.in-None.ensures.cases, sym c.eq.ensures ∙ c.if-eq.true) refl

pub returns-in-None-2 : goal.returns-in-None-2
returns-in-None-2 c =
    rw (no_final_star c.args.source.now c.in-None.ensures.cases, sym c.eq.ensures ∙ c.if-eq.false) refl
