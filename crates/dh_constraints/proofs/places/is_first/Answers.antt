use Rattle.std.proofs.Common.{ap₂, ◌∙◌}
use Rattle.std.specs.Str.{bytes_eq}
use Rattle.dh_constraints.proofs.PlaceLemmas.{first_told}
use Rattle.dh_constraints.proofs.places.is_first.Goals as goal

pub returns-in-Some : goal.returns-in-Some
returns-in-Some c =
    first_told (λ l. l.lang) c.args.langs.now c.in-Some.row.now c.args.main.now c.eq.result c.in-Some.ensures.value
    (c.eq.ensures ∙ ap₂ bytes_eq c.as_str.ensures.text c.as_str-in-Some.ensures.text)
