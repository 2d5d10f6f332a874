use Rattle.std.proofs.Common.{inr, refl, subst, sym, true, true≢false, ◌∙◌}
use Rattle.sqlite.specs.Held.{state}
use Rattle.dh_opening.specs.Opening.{IsDerivedBy}
use Rattle.dh_opening.proofs.BringLemmas.{any_failed, brings_nothing}
use Rattle.dh_opening.proofs.FillLemmas.{ours_brought}
use Rattle.dh_opening.proofs.filling.complete.Goals as goal

pub returns-then-derived : goal.returns-then-derived
returns-then-derived g c = record {
  brings = brings_nothing
      (λ honest.
      let mine = c.requires.ours honest in
      (mine.0, ours_brought true (state g.S.Store c.args.conn.now).now (state g.S.Store c.args.conn.now).now mine.0 (subst (λ b. IsDerivedBy b (state g.S.Store c.args.conn.now).now) c.if-derived.true mine.1) refl)) c.requires.rests;
  current = tt;
  none = λ stands. (refl, tt);
}

pub fill_at_once-requires : goal.fill_at_once-requires
fill_at_once-requires g c = record { ours = λ honest. let mine = c.requires.ours honest in (mine.0, (subst (λ b. IsDerivedBy b (state g.S.Store c.args.conn.now).now) c.if-derived.false mine.1).0) }

pub returns-else-derived : goal.returns-else-derived
returns-else-derived g c = record {
  brings = record {
    lasts = c.fill_at_once.ensures.lasts;
    done = c.fill_at_once.ensures.done;
    was = c.fill_at_once.ensures.was;
    err = c.fill_at_once.ensures.err;
    ours = λ clean. c.fill_at_once.ensures.ours;
    told = λ clean.
        any_failed c.fill_at_once.result
        (inr
        (let mine = c.requires.ours (c.requires.rests (c.fill_at_once.ensures.lasts.clean clean)).honest in
        (mine.0, (subst (λ b. IsDerivedBy b (state g.S.Store c.args.conn.now).now) c.if-derived.false mine.1).0)));
    crash = c.fill_at_once.ensures.crash;
  };
  current = c.fill_at_once.ensures.current;
  none = λ stands. absurd (true≢false (sym stands ∙ c.if-derived.false));
}
