use Rattle.std.proofs.Common.{lit<, ◌∙◌, sym, ap₂, ◌∷◌, ◌==◌}
use Rattle.std.proofs.lemmas.List.Splits.{slice_split_first}
use Rattle.dh_redirects.specs.Locations.{colon_parts}
use Rattle.dh_texts.proofs.AddressLemmas.{slice_split_whole}
use Rattle.dh_redirects.proofs.fill.at_colon.Goals as goal

pub returns-in-Some-clause-parts : goal.returns-in-Some-clause-parts
returns-in-Some-clause-parts c =
    let cut = c.in-Some.ensures.byte (lit< tt) (λ w o h. h) in
    slice_split_first (λ b. b == 58) c.args.text.now 0 cut.2 ∙ ap₂ (λ a b. a ∷ colon_parts b) (sym cut.0) (sym cut.1)

pub returns-in-None-clause-parts : goal.returns-in-None-clause-parts
returns-in-None-clause-parts c = slice_split_whole (λ b. b == 58) c.args.text.now (c.in-None.ensures.byte (lit< tt) (λ w o h. h))
