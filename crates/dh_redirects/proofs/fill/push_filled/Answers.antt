use Rattle.std.proofs.Common.{◌≡◌, None, rules, string_bytes, sym, ◌∙◌, append-nil}
use Rattle.dh_redirects.proofs.FillLemmas.{left_parts, filled_whole}
use Rattle.dh_redirects.proofs.fill.push_filled.Goals as goal

pub returns : goal.returns
returns c =
    let none : c.loop-others.others ≡ None = search rules in
    let all = rw none at c.loop-others.invariant in
    filled_whole c.args.rest.now c.args.target.now (string_bytes c.in_ok-encoded.encoded) (string_bytes c.args.out.now) (string_bytes c.push_sent.new.out) (string_bytes c.loop-others.out) c.at_colon.result.0.now (left_parts c.at_colon.result.1)
    c.in_ok-encoded.ensures.ok c.in_ok-push_sent.ensures c.at_colon.ensures.parts
    (sym (append-nil (string_bytes c.loop-others.out)) ∙ all)
