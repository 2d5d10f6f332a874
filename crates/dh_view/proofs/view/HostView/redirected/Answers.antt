use Rattle.std.proofs.Common.{ℕ, rules, ap, ◌∙◌}
use Rattle.std.specs.Option.{option_map}
use Rattle.dh_redirects.specs.declared.redirect.Location.{Location}
use Rattle.dh_view.proofs.view.HostView.redirected.Goals as goal

pub returns : goal.returns
returns g c = record {
  asks = search rules;
  value = λ honest. c.location_of.ensures ∙ ap (option_map (λ (led : ℕ × Location). led.1)) (c.in_ok-best.ensures.value honest);
}
