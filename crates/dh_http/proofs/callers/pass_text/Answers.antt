use Rattle.std.proofs.Common.{ℕ, List, Bor, ap, sym, ◌∙◌}
use Rattle.std.specs.Prelude.{option_map}
use Rattle.dh_world.specs.Reads.{pass_named, caller_named}
use Rattle.dh_http.proofs.PassLemmas.{by, text_shown}
use Rattle.dh_http.proofs.callers.pass_text.Goals as goal

pub returns-in-Some : goal.returns-in-Some
returns-in-Some c moment =
    let now = λ (text : Bor (List ℕ)). text.now in
    ap (λ o. caller_named (option_map now o) moment) c.ok.ensures.value
    ∙ ap (by moment) (text_shown now c.from_utf8.result c.as_slice.result.now _ c.from_utf8.ensures.cases
    ∙ ap pass_named c.as_slice.ensures)
    ∙ ap (λ pass. caller_named pass moment) (sym c.in-Some.is)
