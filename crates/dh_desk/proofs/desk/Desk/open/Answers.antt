use Rattle.std.proofs.Common.{ap, sym, subst, ◌∙◌}
use Rattle.std.proofs.lemmas.Result.{IfOk-weaker, IfErr-weaker}
use Rattle.dh_records.specs.Lists.{base_of}
use Rattle.dh_renewal.specs.Filling.{LeavesDerived}
use Rattle.dh_renewal.proofs.SameBase.{same_sound}
use Rattle.dh_desk.specs.Desk.{IsHonest, last_records}
use Rattle.dh_desk.proofs.desk.Desk.open.Goals as goal

pub over-requires : goal.over-requires
over-requires g c honest =
    let it = c.in-Ok.ensures.done honest.0 in record {
      sound = same_sound (last_records g.S.Store c.ask_and_derive.new.tables) (last_records g.S.Store c.args.tables) it.derived.base (c.requires.sound it.was);
      right = it.derived.right;
    }

pub returns-in-Ok-clause-crash : goal.returns-in-Ok-clause-crash
returns-in-Ok-clause-crash g c =
    IfOk-weaker c.over.result _ _ (λ desk is. subst (LeavesDerived g.S.Store c.args.tables) (sym is) c.in-Ok.ensures.crash) c.over.ensures.tables

pub returns-in-Ok-clause-kept : goal.returns-in-Ok-clause-kept
returns-in-Ok-clause-kept g c =
    IfErr-weaker c.over.result _ _ (λ e it honest.
    let here = subst (IsHonest g.S.Store) it.1 honest in
    ap (λ h. base_of (last_records g.S.Store h)) it.1 ∙ (c.in-Ok.ensures.done here.0).derived.base) c.over.ensures.refused

pub returns-in-Ok-clause-stop : goal.returns-in-Ok-clause-stop
returns-in-Ok-clause-stop g c =
    IfErr-weaker c.over.result _ _ (λ e it. subst (LeavesDerived g.S.Store c.args.tables) (sym it.1) c.in-Ok.ensures.crash) c.over.ensures.refused
