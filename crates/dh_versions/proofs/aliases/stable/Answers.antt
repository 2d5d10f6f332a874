use Rattle.std.proofs.Common.{rules, true, false, ◌≡◌, ℕ, ◌+◌, length, sym, ◌∙◌, ap, subst, get_or, Option, Some, None, option_map, arith}
use Rattle.std.proofs.lemmas.Bool.{false≢true}
use Rattle.std.proofs.lemmas.List.{get_or_read}
use Rattle.dh_versions.specs.Release.{Numbers}
use Rattle.dh_versions.specs.Aliases.{rank_of, ranked_as, outranks}
use Rattle.dh_versions.specs.declared.version.Version.{Version}
use Rattle.dh_versions.proofs.BestLemmas.{IsBest, best_skips, best_starts, best_compares, best_is_stable}
use Rattle.dh_versions.proofs.aliases.stable.Goals as goal
use Rattle.dh_versions.proofs.aliases.stable.Goals.{in-Some-best, in-None, then-leads, else-leads}

pub loop-i-preserved-in_default : goal.loop-i-preserved-in_default
loop-i-preserved-in_default c =
    let none : c.in_ok-numbers.field-0 ≡ None = search rules in
    best_skips c.args.versions.now c.loop-i.i c.loop-i.best c.index-versions-i.result
    (λ d. sym (get_or_read c.args.versions.now c.loop-i.i c.index-versions-i.result (search rules) c.index-versions-i.is d))
    (ap (λ (o : Option Numbers). ranked_as o c.index-versions-i.result.slug) (sym c.in_ok-numbers.ensures.value ∙ none)) c.loop-i.invariant

pub loop-i-preserved : goal.loop-i-preserved
loop-i-preserved c =
    let at : (d : Version) → get_or c.args.versions.now c.loop-i.i d ≡ c.index-versions-i.result =
    λ d. sym (get_or_read c.args.versions.now c.loop-i.i c.index-versions-i.result (search rules) c.index-versions-i.is d) in
    let ranked : rank_of c.index-versions-i.result ≡ Some (c.in-Some.numbers, c.index-versions-i.result.slug) =
    ap (λ (o : Option Numbers). ranked_as o c.index-versions-i.result.slug) (sym c.in_ok-numbers.ensures.value ∙ c.in-Some.is) in
    elim c.match-best.branch [
      | in-Some-best w ↦
          let test : w.gt-leads.result ≡ outranks (Some (c.in-Some.numbers, c.index-versions-i.result.slug)) (Some (w.in-Some-best.top, w.as_str-in-Some-best.result.now)) = search rules in
          let was : c.loop-i.best ≡ Some (w.in-Some-best.at, w.in-Some-best.top) = search rules in
          let inv : IsBest c.args.versions.now c.loop-i.i (Some (w.in-Some-best.at, w.in-Some-best.top)) =
          subst (λ (best : Option (ℕ × Numbers)). IsBest c.args.versions.now c.loop-i.i best) was c.loop-i.invariant in
          let compared = λ (moved : w.gt-leads.result ≡ true → c.if-leads.best ≡ Some (c.loop-i.i, c.in-Some.numbers)) (stayed : w.gt-leads.result ≡ false → c.if-leads.best ≡ Some (w.in-Some-best.at, w.in-Some-best.top)).
          best_compares c.args.versions.now c.loop-i.i (w.in-Some-best.at, w.in-Some-best.top) c.index-versions-i.result c.in-Some.numbers w.index-versions-at.result
          w.as_str-in-Some-best.result.now w.gt-leads.result c.if-leads.best at ranked w.as_str-in-Some-best.ensures.text test inv moved stayed in
          elim c.if-leads.branch [
            | then-leads u ↦ compared (λ _. u.best-is) (λ no. absurd (false≢true (sym no ∙ (sym w.leads-is ∙ u.if-leads.true))))
            | else-leads u ↦ compared (λ yes. absurd (false≢true (sym u.if-leads.false ∙ (w.leads-is ∙ yes)))) (λ _. u.best-is ∙ was)
          ]
      | in-None w ↦
          elim c.if-leads.branch [
            | then-leads u ↦ subst (λ (best : Option (ℕ × Numbers)). IsBest c.args.versions.now (c.loop-i.i + 1) best) (sym u.best-is)
                (best_starts c.args.versions.now c.loop-i.i c.index-versions-i.result c.in-Some.numbers at ranked
                (subst (λ (best : Option (ℕ × Numbers)). IsBest c.args.versions.now c.loop-i.i best) w.in-None.is c.loop-i.invariant))
            | else-leads u ↦ absurd (false≢true (sym u.if-leads.false ∙ w.leads-is))
          ]
    ]

pub returns-clause-value : goal.returns-clause-value
returns-clause-value c =
    let end : c.loop-i.i ≡ length c.args.versions.now = omega arith in
    let places : c.map.result ≡ option_map (λ (p : ℕ × Numbers). p.0) c.loop-i.best = search rules in
    places ∙ best_is_stable c.args.versions.now c.loop-i.best (subst (λ (n : ℕ). IsBest c.args.versions.now n c.loop-i.best) end c.loop-i.invariant)
