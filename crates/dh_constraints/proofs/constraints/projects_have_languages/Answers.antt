use Rattle.std.proofs.Common.{rules, filter}
use Rattle.std.proofs.lemmas.Iterator.{YieldsList-from_slice, cases_from_all}
use Rattle.dh_records.specs.declared.records.ProjectRow.{ProjectRow}
use Rattle.dh_records.specs.Lists.{is_lang_of}
use Rattle.dh_records.specs.Constraints.{AreLanguages}
use Rattle.dh_constraints.proofs.ListLemmas.{answered}
use Rattle.dh_constraints.proofs.constraints.projects_have_languages.Goals as goal

pub returns : goal.returns
returns c =
    let Speaks : ProjectRow → Type 0 = λ r. AreLanguages r.main (filter (is_lang_of r.host) c.args.records.now.langs.items) in
    answered Speaks c.args.records.now.projects.items c.all.result
    (cases_from_all _ _ c.all.result Speaks (λ r. Speaks r → ⊥) c.all.ensures.ran (YieldsList-from_slice c.args.records.now.projects.items (cc)) (λ x q k. search rules) (λ x q k. search rules))
