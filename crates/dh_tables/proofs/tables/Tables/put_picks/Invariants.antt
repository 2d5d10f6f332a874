use Rattle.dh_tables.proofs.PickLemmas.{AreAdded}
use Rattle.dh_tables.proofs.tables.Tables.put_picks.Given as goal

abbrev pub invariant-loop-i : goal.invariant-loop-i
invariant-loop-i g l = AreAdded g.S.Store l.host l.names l.fn.self l.self l.i
