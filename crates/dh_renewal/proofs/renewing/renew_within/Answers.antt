use Rattle.std.proofs.Common.{◌∙◌, sym, subst}
use Rattle.dh_records.specs.Constraints.{AreSound}
use Rattle.dh_records.specs.Lists.{Lists}
use Rattle.dh_tables.specs.Going.{records}
use Rattle.dh_renewal.specs.Renewing.{FindsBranch, HasBranch, LacksRenewal}
use Rattle.dh_renewal.proofs.renewing.renew_within.Goals as goal

pub renew_of-requires : goal.renew_of-requires
renew_of-requires g c =
    let l : Lists = records g.S.Store c.args.tables.now in
    let looks = c.in_ok-branch.ensures.asks.looks in record {
      within = λ honest. looks.mode honest ∙ c.requires.within (c.branch_of.ensures.asks.goes.lasts.was honest);
      sound = λ honest. subst AreSound (sym (looks.now_is honest)) (c.requires.sound (c.branch_of.ensures.asks.goes.lasts.was honest));
      lacks = λ honest. subst (LacksRenewal c.args.renewal.now c.args.host.now) (sym (looks.now_is honest)) (c.requires.lacks (c.branch_of.ensures.asks.goes.lasts.was honest));
      branch = λ honest.
          subst (HasBranch c.args.host.now c.in-Some.branch) (sym (looks.now_is honest))
          (subst (FindsBranch c.args.host.now l) c.in-Some.is (c.in_ok-branch.ensures.value honest));
    }
