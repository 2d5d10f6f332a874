use Rattle.std.proofs.Common.{◌≡◌, IfOk, sym, subst}
use Rattle.dh_listings.specs.ListingTexts.{listing_text}
use Rattle.dh_listings.specs.declared.words.ListWord.{ListWord}
use Rattle.dh_listings.specs.declared.words.ListWord.TheVariants.{Projects, OfProject}
use Rattle.dh_view.proofs.ViewLemmas.{fails_from, looks_from}
use Rattle.dh_desk.specs.Desk.{world_seen}
use Rattle.dh_desk.proofs.Listing.{of_sound, stays_from}
use Rattle.dh_desk.proofs.lists.listing_of.Goals as goal

pub returns-in-Projects : goal.returns-in-Projects
returns-in-Projects g c =
    let asks = c.list_projects.ensures.asks in
    let looks = looks_from c.requires.settled asks in
    let w = world_seen g.S.Store c.args.tables.now in
    record {
      looks = looks;
      told = fails_from c.list_projects.result asks;
      value = λ honest.
          subst (λ (word : ListWord). IfOk c.list_projects.result (λ text. text ≡ listing_text c.args.now w word)) (sym c.in-Projects.is)
          (of_sound (λ text. text ≡ listing_text c.args.now w Projects) c.list_projects.result (c.list_projects.ensures.value honest) (c.requires.consistent (looks.unmoved honest).same.was_honest).sound);
      live = stays_from c.list_projects.result asks;
    }

pub returns-in-OfProject : goal.returns-in-OfProject
returns-in-OfProject g c =
    let asks = c.list_named.ensures.asks in
    let looks = looks_from c.requires.settled asks in
    let w = world_seen g.S.Store c.args.tables.now in
    record {
      looks = looks;
      told = fails_from c.list_named.result asks;
      value = λ honest.
          subst (λ (word : ListWord). IfOk c.list_named.result (λ text. text ≡ listing_text c.args.now w word)) (sym c.in-OfProject.is)
          (of_sound (λ text. text ≡ listing_text c.args.now w (OfProject c.in-OfProject.host c.in-OfProject.list)) c.list_named.result (c.list_named.ensures.value honest) (c.requires.consistent (looks.unmoved honest).same.was_honest).sound);
      live = stays_from c.list_named.result asks;
    }

pub returns-in-Seen-clause-value : goal.returns-in-Seen-clause-value
returns-in-Seen-clause-value g c honest =
    subst (λ (word : ListWord). IfOk c.list_seen.result (λ text. text ≡ listing_text c.args.now (world_seen g.S.Store c.args.tables.now) word)) (sym c.in-Seen.is)
    (rw c.unwrap_or.ensures at (c.list_seen.ensures.value honest))
