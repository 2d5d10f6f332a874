use Rattle.std.proofs.Common.{filter, ap₂, ◌∙◌}
use Rattle.std.specs.List.{list_any}
use Rattle.std.specs.Str.{bytes_eq}
use Rattle.dh_records.specs.declared.records.LangRow.{LangRow}
use Rattle.dh_records.specs.Lists.{is_lang_of}
use Rattle.dh_constraints.proofs.ListLemmas.{list_any-map}
use Rattle.dh_constraints.proofs.lookups.has_language.Goals as goal

pub returns : goal.returns
returns c =
    c.is_among.ensures ∙ ap₂ (λ lang rows. list_any (λ (r : LangRow). bytes_eq r.lang lang) rows) c.as_str.ensures.text c.langs_of.ensures
    ∙ list_any-map (λ l. bytes_eq l c.args.lang.now) (λ (r : LangRow). r.lang) (filter (is_lang_of c.args.host.now) c.args.records.now.langs.items)
