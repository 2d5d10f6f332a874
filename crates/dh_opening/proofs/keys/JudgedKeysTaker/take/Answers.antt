use Rattle.std.proofs.Common.{◌∙◌, refl, sym, true≢false}
use Rattle.dh_records.specs.Codings.{used}
use Rattle.dh_records.specs.Typed.{IsUsed}
use Rattle.dh_constraints.specs.Keys.{IsFitKey}
use Rattle.dh_opening.proofs.JudgedLemmas.{none_more}
use Rattle.dh_opening.proofs.RetryKeyLemmas.{took_more}
use Rattle.dh_opening.proofs.keys.JudgedKeysTaker.take.Goals as goal

pub returns-in_ok-self : goal.returns-in_ok-self
returns-in_ok-self c start rows took =
    took_more start c.args.self.now c.finds.new.self _ rows c.args.row.now c.in_ok-self.ensures.same refl took (took.kept c.if-self.true) _ refl c.in_ok-self.ensures.some c.in_ok-self.ensures.none refl

pub returns-else-self : goal.returns-else-self
returns-else-self c start rows took = record {
  same = took.same;
  kept = λ yes. absurd (true≢false (sym yes ∙ c.if-self.false));
  none = λ no. none_more used IsUsed (IsFitKey c.args.self.now.projects.rows.items) rows c.args.row.now (took.none c.if-self.false);
}
