use Rattle.std.proofs.Common.{rules, IsTrue}
use Rattle.dh_redirects.specs.Locations.{asks_memory}
use Rattle.dh_redirects.proofs.LocationLemmas.{asks-html, asks-clean}
use Rattle.dh_redirects.proofs.redirect.Redirect.written.Goals as goal

pub returns-in_err-file-in-CleanToHtml-Some-clause-memory : goal.returns-in_err-file-in-CleanToHtml-Some-clause-memory
returns-in_err-file-in-CleanToHtml-Some-clause-memory c =
    let asks : IsTrue (asks_memory c.args.self.now c.args.asked.now) =
    asks-html c.args.self.now c.args.asked.now c.in-CleanToHtml-Some.parts c.as_str.result.now c.in-CleanToHtml-Some.is-0 c.in-CleanToHtml-Some.is-1 c.as_str.ensures c.in_err-file-in-CleanToHtml-Some.ensures.memory in
    search (rules, asks)

pub returns-in_err-file-in-HtmlToClean-Some-clause-memory : goal.returns-in_err-file-in-HtmlToClean-Some-clause-memory
returns-in_err-file-in-HtmlToClean-Some-clause-memory c =
    let asks : IsTrue (asks_memory c.args.self.now c.args.asked.now) =
    asks-clean c.args.self.now c.args.asked.now c.in-HtmlToClean-Some.parts c.as_str-in-HtmlToClean-Some.result.now c.in-HtmlToClean-Some.is-0 c.in-HtmlToClean-Some.is-1 c.as_str-in-HtmlToClean-Some.ensures c.in_err-file-in-HtmlToClean-Some.ensures.memory in
    search (rules, asks)
