use Rattle.std.proofs.Common.{◌∙◌, ◌<◌, length, ap, map, sym, rules}
use Rattle.std.proofs.lemmas.Iterator.{YieldsList-from_chars}
use Rattle.std.proofs.lemmas.Iterator.Consumers.{YieldsList-end, YieldsList-so_far, YieldsList-turn}
use Rattle.std.proofs.lemmas.List.{map-id}
use Rattle.std.specs.Str.{chars}
use Rattle.dh_texts.specs.SlugOfName.{slug_char, slug_text, from_letter}
use Rattle.dh_texts.proofs.SlugLemmas.{slug_more, slug_some}
use Rattle.dh_texts.proofs.slug.make_slug_text.Goals as goal

pub loop-c-preserved : goal.loop-c-preserved
loop-c-preserved c = slug_more _ _ c.loop-c.yielded c.in-Some.c c.loop-c.invariant (search rules)

pub returns-in_err-push_byte-clause-memory : goal.returns-in_err-push_byte-clause-memory
returns-in_err-push_byte-clause-memory c =
    let road = YieldsList-from_chars c.args.name.now c.utf8.name cc in
    let front = YieldsList-so_far road c.loop-c.yielded _ c.loop-c.yielded_by in
    let turn = YieldsList-turn road c.loop-c.yielded _ c.loop-c.yielded_by _ _ c.in-Some.c c.in-Some.is c.next.ensures.steps in
    let some : 0 < length (slug_text c.args.name.now) =
    slug_some _ c.loop-c.yielded (chars c.args.name.now) c.in-Some.c c.lowered.result c.loop-c.invariant c.lowered.ensures.value (sym (map-id c.loop-c.yielded) ∙ front) turn.0 turn.1 c.in_err-push_byte.ensures.memory in
    search (rules, some)

pub returns-clause-text : goal.returns-clause-text
returns-clause-text c =
    let all = YieldsList-end (YieldsList-from_chars c.args.name.now c.utf8.name cc) c.loop-c.yielded _ c.loop-c.yielded_by _ _ c.in-None.is c.next.ensures.steps in
    c.loop-c.invariant ∙ ap (λ cs. from_letter (map slug_char cs)) (sym (map-id c.loop-c.yielded) ∙ all.0)
