use Rattle.std.proofs.Common.{List, ℕ, ap, ◌∙◌, sym}
use Rattle.std.specs.Str.{str_eq_ignore_ascii_case}
use Rattle.httparse.specs.declared.spans.HeaderSpan.{HeaderSpan}
use Rattle.httparse.specs.Spans.{header_bytes}
use Rattle.dh_requests.specs.Fields.{one_of, one_more}
use Rattle.dh_requests.proofs.Named.{line_more, line_less}
use Rattle.dh_requests.proofs.fields.lines_named.Goals as goal
use Rattle.dh_requests.proofs.fields.lines_named.Goals.{then-same_name, else-same_name}

nowhere : HeaderSpan
nowhere = record { name = record { start = 0; end = 0 }; value = record { start = 0; end = 0 } }

pub loop-header-preserved : goal.loop-header-preserved
unfolding nowhere
loop-header-preserved c =
    let named = λ (n : List ℕ). str_eq_ignore_ascii_case n c.args.name.now in
    elim c.if-same_name.branch [
      | then-same_name w ↦ ap one_of w.found-is ∙ w.with_line-found.ensures ∙ ap (one_more (one_of c.loop-header.found)) w.of-then-same_name.ensures
          ∙ line_more c.args.name.now (header_bytes c.args.text.now) c.args.headers.now c.loop-header.header-index nowhere (one_of c.loop-header.found) c.loop-header-test.true (sym (w.if-same_name.ensures ∙ ap named c.of.ensures)) c.loop-header.invariant
      | else-same_name w ↦ ap one_of w.found-is
          ∙ line_less c.args.name.now (header_bytes c.args.text.now) c.args.headers.now c.loop-header.header-index nowhere (one_of c.loop-header.found) c.loop-header-test.true (sym (w.if-same_name.ensures ∙ ap named c.of.ensures)) c.loop-header.invariant
    ]
