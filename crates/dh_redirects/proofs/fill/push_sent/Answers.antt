use Rattle.std.proofs.Common.{arith}
use Rattle.std.proofs.lemmas.List.Elements.{All-from_get_or}
use Rattle.percent_encoding.proofs.PercentLemmas.{IsByte}
use Rattle.dh_redirects.proofs.FillLemmas.{percent_encode-sent}
use Rattle.dh_redirects.proofs.fill.push_sent.Goals as goal

pub returns : goal.returns
returns c =
    rw (← percent_encode-sent c.args.text.now (All-from_get_or IsByte c.args.text.now 0 (λ i within. omega (arith, c.type_inv.text i))), ← c.utf8_percent_encode.ensures.text)
    c.append_to.ensures.ok
