use Rattle.std.proofs.Common.{◌∙◌, rules}
use Rattle.std.proofs.lemmas.Slice.Eq.{bytes_eq-Decides}
use Rattle.dh_world.proofs.AnswerLemmas.{not_told, told_otherwise}
use Rattle.dh_world.proofs.answer.read_exactly.Goals as goal

pub returns-in_default-clause-none : goal.returns-in_default-clause-none
returns-in_default-clause-none c none = not_told _ _ c.requires (search rules)

pub returns-else-eq-clause-none : goal.returns-else-eq-clause-none
returns-else-eq-clause-none c none =
    told_otherwise _ _ _ _ c.requires (search rules) c.in_ok-json.ensures
    (λ e. let same = (bytes_eq-Decides c.as_str.result.now c.args.text.now).1 (c.as_str.ensures.value ∙ e) in
    let test = c.eq.ensures in
    let differs = c.if-eq.false in
    cc)
