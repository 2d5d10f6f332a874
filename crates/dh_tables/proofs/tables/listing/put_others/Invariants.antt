use Rattle.dh_tables.proofs.SettingLemmas.{AreSet}
use Rattle.dh_tables.proofs.tables.listing.put_others.Given as goal

abbrev pub invariant-loop-i : goal.invariant-loop-i
invariant-loop-i g l = AreSet g.S.Store g.R.Placed.listing l.host l.items l.rows l.fn.tables l.tables l.i
