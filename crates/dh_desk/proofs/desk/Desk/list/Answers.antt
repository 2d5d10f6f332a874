use Rattle.std.proofs.Common.{◌≡◌, IfOk, refl, ap, subst}
use Rattle.dh_listings.specs.ListingTexts.{listing_text}
use Rattle.dh_records.specs.Lists.{world_of}
use Rattle.dh_world.specs.World.{Text, World}
use Rattle.std.proofs.Common.{Option}
use Rattle.dh_desk.specs.Desk.{last_records, world}
use Rattle.dh_desk.proofs.Keeping.{unmoved_keeps}
use Rattle.dh_desk.proofs.Moving.{WorldGoesBy-refl, read_goes_from}
use Rattle.dh_desk.proofs.Reading.{sure_if_ok, under_clean}
use Rattle.dh_desk.proofs.desk.Desk.list.Goals as goal

pub invariant_of-self : goal.invariant_of-self
invariant_of-self g c =
    let it = unmoved_keeps g.S.Store c.self.inside.tables c.list-answer.new.tables c.list-answer.ensures.lasts c.list-answer.ensures.same c.self.inside.replies c.self.invariant in
    (it.0, it.1, sure_if_ok c.list-answer.result c.is_ok-self-inside.ensures.value c.list-answer.ensures.live)

pub returns-clause-value : goal.returns-clause-value
returns-clause-value g c clean =
    under_clean (λ text. text ≡ listing_text c.args.now (world g.S.Store c.args.self.now) c.args.word.now) c.list-answer.result (c.list-answer.ensures.live clean)
    (λ honest. subst (λ d. IfOk c.list-answer.result (λ text. text ≡ listing_text c.args.now (world g.S.Store d) c.args.word.now)) c.self.view_is (c.list-answer.ensures.value honest))

pub returns-then-self-clause-goes : goal.returns-then-self-clause-goes
returns-then-self-clause-goes g c = WorldGoesBy-refl (λ w. (refl, tt))

pub returns-clause-goes : goal.returns-clause-goes
returns-clause-goes g c =
    let Fact : World → Option Text → Type 0 = λ w text. text ≡ listing_text c.args.now w c.args.word.now in
    let was = world_of (last_records g.S.Store c.self.inside.tables) in
    read_goes_from _ _ _ c.list-answer.result Fact c.self.view_is c.list-answer.ensures.lasts c.list-answer.ensures.live
    (λ clean. under_clean (Fact was) c.list-answer.result (c.list-answer.ensures.live clean) c.list-answer.ensures.value)
    (λ honest. ap world_of (c.list-answer.ensures.same honest))
