use Rattle.std.proofs.Common.{rules, ◌∙◌}
use Rattle.dh_redirects.proofs.LocationLemmas.{led-rooted}
use Rattle.dh_redirects.proofs.redirect.Redirect.result.Goals as goal

pub returns-in-Some-2-clause-rooted : goal.returns-in-Some-2-clause-rooted
returns-in-Some-2-clause-rooted c =
    λ on_site. led-rooted c.on_site.result c.args.asked.now c.as_str.result.now c.in-Some-2.text (search rules) (c.on_site.ensures ∙ on_site)
