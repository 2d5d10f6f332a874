use Rattle.dh_reply.proofs.SystemLemmas.{data_plain, text_told}
use Rattle.dh_reply.proofs.listing.versions_text.Goals as goal

pub returns : goal.returns
returns c = text_told c.to_string.result _ _ c.in_ok-versions_value.ensures (data_plain c.args.aliases.now c.args.default.now c.args.langs.now c.args.versions.now) c.to_string.ensures.text
