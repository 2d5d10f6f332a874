use Rattle.dh_log.proofs.Shown.{shown_visible}
use Rattle.dh_log.proofs.laws.texts_are_visible.Goals as goal

pub returns : goal.returns
returns c = shown_visible
