use Rattle.std.proofs.Common.{◌∙◌, string_bytes}
use Rattle.std.proofs.lemmas.Result.{IfOk-weaker}
use Rattle.dh_control.proofs.Sending.{joined_seen}
use Rattle.dh_control.proofs.asking.joined.Goals as goal

pub returns : goal.returns
returns c = IfOk-weaker c.join.result _ _ (λ t is. is ∙ joined_seen string_bytes c.args.words.now) c.join.ensures.ok
