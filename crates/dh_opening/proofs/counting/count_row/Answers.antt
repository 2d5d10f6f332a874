use Rattle.std.proofs.Common.{◌∙◌, [], not, arith, ap, refl, subst, sym, IsTrue}
use Rattle.dh_opening.proofs.CountLemmas.{counted, still}
use Rattle.dh_opening.proofs.counting.count_row.Goals as goal

pub returns-clause-same : goal.returns-clause-same
returns-clause-same g c outside honest =
    let alone = subst IsTrue (sym (c.is_autocommit.ensures.value ∙ ap not outside)) refl in
    let it = still _ _ (counted _ _ [] c.query_row.result (c.query_row.ensures.row honest.0)) (c.is_autocommit.ensures.settled alone) honest.1 in
    ((omega (arith, c.query_row.ensures.survives.clean, honest.0), it.0), it.1)
