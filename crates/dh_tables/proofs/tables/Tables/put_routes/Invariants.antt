use Rattle.dh_tables.proofs.RouteLemmas.{ArePut}
use Rattle.dh_tables.proofs.tables.Tables.put_routes.Given as goal

abbrev pub invariant-loop-i : goal.invariant-loop-i
invariant-loop-i g l = ArePut g.S.Store l.host l.routes l.fn.self l.self l.i
