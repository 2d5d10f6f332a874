use Rattle.std.proofs.Common.{rules, inl, inr}
use Rattle.dh_transactions.proofs.Ending.{ends_aside, ends_told}
use Rattle.dh_transactions.proofs.transaction.commit_or_undo.Goals as goal

pub returns-in_err-commit-in-Ok-clause-err : goal.returns-in_err-commit-in-Ok-clause-err
returns-in_err-commit-in-Ok-clause-err g c honest =
    ends_aside g.S.Store c.args.tables.now c.commit.new.self c.args.worked c.from_residual.result _ c.from_residual.ensures.1 (c.in_err-commit-in-Ok.ensures.commits.committed.err honest)

pub returns-in_err-commit-in-Ok-clause-told : goal.returns-in_err-commit-in-Ok-clause-told
returns-in_err-commit-in-Ok-clause-told g c =
    ends_told g.S.Store c.args.tables.now c.commit.new.self c.args.worked c.from_residual.result _ c.from_residual.ensures.1 (inl c.in_err-commit-in-Ok.ensures.commits.committed.rejected)

pub returns-in_err-back-in-Err : goal.returns-in_err-back-in-Err
returns-in_err-back-in-Err g c = record {
  ok = search rules;
  err = λ honest.
      ends_aside g.S.Store c.args.tables.now c.back.new.self c.args.worked c.from_residual-in_err-back-in-Err.result _ c.from_residual-in_err-back-in-Err.ensures.1 (c.in_err-back-in-Err.ensures.undone.err honest);
  told =
      ends_told g.S.Store c.args.tables.now c.back.new.self c.args.worked c.from_residual-in_err-back-in-Err.result _ c.from_residual-in_err-back-in-Err.ensures.1 (inr c.in_err-back-in-Err.ensures.undone.rejected);
  outside = search rules;
  crash = search rules;
  refused = search rules;
  live = search rules;
  lasts = search rules;
}
