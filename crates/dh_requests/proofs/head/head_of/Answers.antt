use Rattle.std.proofs.Common.{List, ℕ, ap, ◌∙◌, codes}
use Rattle.dh_requests.specs.Fields.{NameAndValue, values_named, at_most_one}
use Rattle.dh_requests.proofs.Whole.{none_of, some_of, same_parts}
use Rattle.dh_requests.proofs.head.head_of.Goals as goal

pub returns-in_default : goal.returns-in_default
returns-in_default c = none_of c.args.text.now c.requires c.in_default.ensures.none

pub returns : goal.returns
returns c =
    let found = c.in-Some.ensures.some in
    let lines = λ (name : List ℕ) (p : List NameAndValue). at_most_one (values_named name p) in (
      found.0,
      some_of c.args.text.now _ found.0 c.requires found.1.reads,
      same_parts _ _
          (c.of.ensures ∙ found.1.method)
          (c.of-2.ensures ∙ found.1.path)
          (c.lines_named.ensures ∙ ap (lines (codes "Host")) found.1.fields)
          (c.lines_named-2.ensures ∙ ap (lines (codes "Docs-Pass")) found.1.fields)
          (c.lines_named-3.ensures ∙ ap (lines (codes "Docs-Key")) found.1.fields)
          (c.lines_named-4.ensures ∙ ap (lines (codes "Content-Length")) found.1.fields)
          (c.lines_named-5.ensures ∙ ap (lines (codes "Transfer-Encoding")) found.1.fields),
    )
