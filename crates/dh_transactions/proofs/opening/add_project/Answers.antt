use Rattle.std.proofs.Common.{◌≡◌, false, refl, sym, subst}
use Rattle.dh_rows.specs.Keyed.{IsFreeKey}
use Rattle.dh_records.specs.Codings as coding
use Rattle.dh_records.specs.Lists.{Lists}
use Rattle.dh_records.specs.Constraints.{has_language}
use Rattle.dh_records.specs.declared.records.LangRow.{LangRow}
use Rattle.dh_records.specs.declared.records.ProjectRow.{ProjectRow}
use Rattle.dh_transactions.proofs.OpenLemmas.{row_is_free, main_is_free, none_speaks}
use Rattle.dh_transactions.proofs.opening.add_project.Goals as goal
use Rattle.dh_tables.proofs.Together.{makes_on}
use Rattle.dh_tables.specs.Going.{ChangesRecords, records}
use Rattle.dh_transactions.specs.Opening.{project_row, main_lang_row, with_lang, with_row}

pub add_row-requires : goal.add_row-requires
add_row-requires g c = record {
  free = λ honest.
      let lists : Lists = records g.S.Store c.args.tables.now in
      let P : ProjectRow → Type 0 = λ r. IsFreeKey coding.projects.key r lists.projects in
      subst P (sym c.in_ok-row.ensures.0)
      (row_is_free c.args.host.now lists (c.requires.none honest) (project_row c.args.host.now c.args.project) refl);
}

pub add_main-requires-clause-free : goal.add_main-requires-clause-free
add_main-requires-clause-free g c honest =
    let h0 = c.add_row.ensures.makes.goes.lasts.was honest in
    let lists : Lists = records g.S.Store c.args.tables.now in
    let P : LangRow → Lists → Type 0 = λ r l. IsFreeKey coding.langs.key r l.langs in
    subst (λ r. P r (records g.S.Store c.add_row.new.tables)) (sym c.in_ok-row.ensures.1)
    (subst (P (main_lang_row c.args.host.now c.args.project.lang)) (sym (c.in_ok-add_row.ensures.makes.sees.now_is honest))
    (main_is_free c.args.host.now lists (c.requires.none h0) (c.requires.sound h0) (main_lang_row c.args.host.now c.args.project.lang) refl))

pub add_main-requires-clause-new : goal.add_main-requires-clause-new
add_main-requires-clause-new g c honest =
    let h0 = c.add_row.ensures.makes.goes.lasts.was honest in
    let lists : Lists = records g.S.Store c.args.tables.now in
    let P : LangRow → Lists → Type 0 = λ r l. has_language l r.host r.lang ≡ false in
    subst (λ r. P r (records g.S.Store c.add_row.new.tables)) (sym c.in_ok-row.ensures.1)
    (subst (P (main_lang_row c.args.host.now c.args.project.lang)) (sym (c.in_ok-add_row.ensures.makes.sees.now_is honest))
    (none_speaks c.args.host.now lists (c.requires.none h0) (c.requires.sound h0) (main_lang_row c.args.host.now c.args.project.lang) refl))

pub returns : goal.returns
returns g c = record {
  makes =
      let it = c.in_ok-add_row.ensures.makes in
      let P : ProjectRow → LangRow → Type 0 = λ r m. ChangesRecords g.S.Store c.args.tables.now c.add_main.new.tables c.add_main.result (λ l. with_lang m (with_row r l)) in
      subst (λ r. P r (main_lang_row c.args.host.now c.args.project.lang)) c.in_ok-row.ensures.0
      (subst (P c.in_ok-row.row) c.in_ok-row.ensures.1
      (makes_on g.S.Store c.args.tables.now c.add_row.new.tables c.add_main.new.tables (with_row c.in_ok-row.row) (with_lang c.in_ok-row.main)
      c.add_main.result it.goes it.sees.live it.sees.now_is it.sees.mode c.add_main.ensures.makes));
}
