use Rattle.std.proofs.Common.{◌≡◌, take}
use Rattle.dh_view.proofs.view.looking.copy_langs.Given as goal

abbrev pub invariant-loop-lang : goal.invariant-loop-lang
invariant-loop-lang l = l.copy.items ≡ take l.lang-index l.langs
