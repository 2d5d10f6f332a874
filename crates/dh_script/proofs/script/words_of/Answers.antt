use Rattle.std.proofs.Common.{◌∙◌, ap, sym, map, filter, string_bytes, arith}
use Rattle.std.proofs.lemmas.Iterator.Consumers.{YieldsList-end}
use Rattle.dh_script.specs.Running.{is_filled}
use Rattle.dh_script.proofs.WordLemmas.{comment_words, line_words, YieldsList-from_gaps}
use Rattle.dh_script.proofs.script.words_of.Goals as goal

pub returns-then-starts_with : goal.returns-then-starts_with
returns-then-starts_with c =
    ap (map string_bytes) c.new-words.ensures.items ∙ sym (comment_words c.args.line.now c.starts_with.result (c.starts_with.ensures.byte (omega arith) (omega arith) (λ w o h. h)) c.if-starts_with.true)

pub returns : goal.returns
returns c =
    let all = YieldsList-end (YieldsList-from_gaps c.args.line.now (cc) (cc) (cc)) c.loop-word.yielded _ c.loop-word.yielded_by _ _ c.in-None.is c.next.ensures.steps in
    c.loop-word.invariant ∙ ap (filter is_filled) all.0 ∙ line_words c.args.line.now c.starts_with.result (c.starts_with.ensures.byte (omega arith) (omega arith) (λ w o h. h)) c.if-starts_with.false
