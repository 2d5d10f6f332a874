use Rattle.std.proofs.Common.{◌∙◌, sym}
use Rattle.sqlite.specs.Held.{state}
use Rattle.dh_constraints.specs.Lists.{lists_in}
use Rattle.dh_opening.proofs.Looks.{handed, out_of_memory, then_ok, then_not_ours}
use Rattle.dh_opening.specs.ThinPages.{made_whole}
use Rattle.dh_opening.proofs.Spelling.{not_kept}
use Rattle.dh_opening.proofs.ThinLemmas.{fit_keys_of, thin_keeps, whole_keeps}
use Rattle.dh_opening.proofs.opening.kept_records.Goals as goal

pub returns-in_err-records-clause-opens : goal.returns-in_err-records-clause-opens
returns-in_err-records-clause-opens g c = handed c.from_residual.result c.in_err-records.field-0.0 c.from_residual.ensures.1 (λ none l passes it. none l it.keeps.records.fit (fit_keys_of l it.keeps) it.spelled) c.in_err-records.ensures.opens

pub returns-in_err-keep_constraints-clause-opens : goal.returns-in_err-keep_constraints-clause-opens
returns-in_err-keep_constraints-clause-opens g c = out_of_memory c.from_residual-in_err-keep_constraints.result c.from_residual-in_err-keep_constraints.ensures.1 c.in_ok-records.records c.in_ok-records.ensures.opens

pub returns-then-branch-clause-opens : goal.returns-then-branch-clause-opens
returns-then-branch-clause-opens g c = then_ok c.in_ok-records.records c.in_ok-records.ensures.opens c.in_ok-records.records (λ honest it. (it.all, it.keys, record { spelled = it.spelled; keeps = whole_keeps it (c.in_ok-keep_constraints.ensures.0 c.if-branch.true) }))

pub returns-else-branch-clause-opens : goal.returns-else-branch-clause-opens
returns-else-branch-clause-opens g c =
    then_not_ours c.in_ok-records.records c.in_ok-records.ensures.opens
    (λ honest it l passes kept.
    not_kept (state g.S.Store c.args.conn.now).now (made_whole it.all it.keys (lists_in c.in_ok-records.records)) it.spelled c.in_ok-keep_constraints.field-0 (λ keeps. c.in_ok-keep_constraints.ensures.1 (thin_keeps it keeps)) c.if-branch.false l (passes ∙ sym c.in_ok-records.ensures.passes) kept)
