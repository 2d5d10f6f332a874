use Rattle.std.specs.Str.Lines.{lines}
use Rattle.dh_script.proofs.Filled.{with_words_seen}
use Rattle.dh_script.proofs.laws.lines_have_words.Goals as goal

pub returns : goal.returns
returns c = λ script. with_words_seen (lines script)
