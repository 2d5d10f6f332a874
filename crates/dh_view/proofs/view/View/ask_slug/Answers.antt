use Rattle.std.proofs.Common.{refl}
use Rattle.dh_view.proofs.ViewLemmas.{recalls, same_answer, settled_on, slug_under_host, view_on}
use Rattle.dh_view.proofs.view.View.ask_slug.Goals as goal

pub returns-in-Some : goal.returns-in-Some
returns-in-Some g c = record {
  asks = view_on g.S.Store c.in_ok-host.ensures.asks (refl, refl, refl) c.in_ok-host.ensures.settled c.visible_slug.ensures.asks;
  settled = settled_on c.visible_slug.result c.in_ok-host.ensures.settled c.visible_slug.ensures.asks;
  value = λ it.
      let before = c.visible_slug.ensures.asks.goes.lasts.was it in
      same_answer (λ o. o) c.visible_slug.result _ _
      (slug_under_host g.S.Store c.in_ok-host.ensures.asks c.in_ok-host.ensures.value c.in-Some.host c.args.name.now c.in-Some.is (c.args.self.now.is_classed (c.in_ok-host.ensures.asks.leads.3.unmoved before).same.was_honest) before)
      ((rw (c.new.ensures.host, c.new.ensures.class) at c.visible_slug.ensures.value) it);
}

pub invariant_of-self : goal.invariant_of-self
invariant_of-self g c =
    let it = recalls c.opened.new.self c.in_ok-host.ensures.settled c.visible_slug.ensures.asks in
    record { right = it.right; is_known = it.is_known; is_seen = it.is_seen; are_languages = it.are_languages; is_classed = it.is_classed }
