use Rattle.std.proofs.Common.{◌∙◌, refl, sym, true≢false}
use Rattle.dh_records.specs.Codings.{pages}
use Rattle.dh_records.specs.Typed.{IsPage}
use Rattle.dh_opening.specs.ThinPages.{IsFit}
use Rattle.dh_opening.proofs.JudgedLemmas.{none_more, none_next}
use Rattle.dh_opening.proofs.ThinLemmas.{found_more}
use Rattle.dh_opening.proofs.thin_pages.ThinPagesTaker.take.Goals as goal

pub returns-in_ok-self : goal.returns-in_ok-self
returns-in_ok-self c start rows took = record {
  kept = λ yes. found_more c.args.self.now c.finds.new.self _ rows c.args.row.now (took.kept c.if-self.true) (c.in_ok-self.ensures.some yes) refl refl;
  none = λ no. none_next pages IsPage IsFit (λ x. refl) c.args.self.now.last rows c.args.row.now (took.kept c.if-self.true).newest (c.in_ok-self.ensures.none no);
}

pub returns-else-self : goal.returns-else-self
returns-else-self c start rows took = record {
  kept = λ yes. absurd (true≢false (sym yes ∙ c.if-self.false));
  none = λ no. none_more pages IsPage IsFit rows c.args.row.now (took.none c.if-self.false);
}
