use Rattle.dh_opening.specs.Filling.{IsOpened}
use Rattle.dh_opening.proofs.BringLemmas.{any_err, opens_anew, transaction_done, transaction_lasts, transaction_leaves, transaction_refused}
use Rattle.dh_opening.proofs.filling.fill_at_once.Goals as goal

pub returns-in_err-commit-clause-lasts : goal.returns-in_err-commit-clause-lasts
returns-in_err-commit-clause-lasts g c = transaction_lasts IsOpened c.in_ok-begin.ensures c.in_ok-make_anew.ensures.carries.goes (opens_anew c.in_ok-begin.ensures c.requires.ours c.in_ok-make_anew.ensures.carries) c.commit.ensures.commits

pub returns-in_err-commit-clause-err : goal.returns-in_err-commit-clause-err
returns-in_err-commit-clause-err g c honest =
    any_err c.from_residual-in_err-commit.result
    (transaction_refused IsOpened c.in_ok-begin.ensures c.in_ok-make_anew.ensures.carries.goes (opens_anew c.in_ok-begin.ensures c.requires.ours c.in_ok-make_anew.ensures.carries) c.commit.ensures.commits honest (c.in_err-commit.ensures.commits.committed.err honest))

pub returns-in_err-commit-clause-crash : goal.returns-in_err-commit-clause-crash
returns-in_err-commit-clause-crash g c = transaction_leaves IsOpened c.in_ok-begin.ensures c.in_ok-make_anew.ensures.carries.goes (opens_anew c.in_ok-begin.ensures c.requires.ours c.in_ok-make_anew.ensures.carries) c.commit.ensures.commits c.commit.ensures.crash

pub returns-clause-done : goal.returns-clause-done
returns-clause-done g c honest clean = transaction_done IsOpened c.in_ok-begin.ensures c.in_ok-make_anew.ensures.carries.goes (opens_anew c.in_ok-begin.ensures c.requires.ours c.in_ok-make_anew.ensures.carries) c.commit.ensures.commits clean (c.in_ok-commit.ensures.commits.committed.done clean)

pub returns-clause-crash : goal.returns-clause-crash
returns-clause-crash g c = transaction_leaves IsOpened c.in_ok-begin.ensures c.in_ok-make_anew.ensures.carries.goes (opens_anew c.in_ok-begin.ensures c.requires.ours c.in_ok-make_anew.ensures.carries) c.commit.ensures.commits c.commit.ensures.crash
