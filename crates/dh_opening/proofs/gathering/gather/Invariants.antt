use Rattle.std.proofs.Common.{◌≡◌, List, Ok}
use Rattle.sqlite_value.specs.Order.{Row}
use Rattle.dh_opening.specs.Gathering.{HasTaken}
use Rattle.dh_opening.specs.Opening.{JudgesTables}
use Rattle.dh_opening.proofs.gathering.gather.Given as goal

abbrev pub invariant-rows : goal.invariant-rows
invariant-rows g l =
    (l.rows.conn.ghost_name ≡ l.initial.rows.conn.ghost_name)
    × (given : List Row)
    × HasTaken g.S.Store l.sql l.rows.conn.now given
    × JudgesTables g.S.Store l.fn.conn l.rows.conn.now {T = Unit {0}} (Ok tt) (λ _ _. Unit {0}) (λ _. ⊥)
    × g.G.Taker.took l.fn.taker l.taker given
