use Rattle.std.proofs.Common.{◌∙◌, Ok, Err, ap, codes, subst, sym}
use Rattle.std.specs.List.{AllByRecursion}
use Rattle.dh_constraints.specs.Keys.{IsFitKey}
use Rattle.dh_constraints.specs.declared.projects.Projects.{Projects}
use Rattle.sqlite.specs.Held.{state}
use Rattle.dh_records.specs.Codings as coding
use Rattle.dh_records.specs.Typed.{IsProject}
use Rattle.dh_opening.specs.Opening.{StandFor}
use Rattle.dh_opening.proofs.Looks.{handed, laid_on, opens_both, opens_on, some_laid, then_ok}
use Rattle.dh_opening.proofs.tables.all_records.Goals as goal

pub read_two-requires : goal.read_two-requires
read_two-requires g c = record { laid = λ honest. some_laid (λ P all. (all.1.1.0, (all.1.1.1.0, tt))) (c.requires.laid honest) }

pub read_table-requires : goal.read_table-requires
read_table-requires g c = record {
  laid = λ honest. some_laid (λ P all. (all.1.1.1.1.0, tt)) (laid_on (c.in_ok-projects.projects, c.in_ok-projects.langs) c.in_ok-projects.ensures.opens c.requires.laid honest);
}

pub read_pages-requires : goal.read_pages-requires
read_pages-requires g c = record {
  laid = λ honest.
      some_laid (λ P all. (all.1.1.1.1.1.0, tt))
      (laid_on c.in_ok-versions.versions c.in_ok-versions.ensures.opens (laid_on (c.in_ok-projects.projects, c.in_ok-projects.langs) c.in_ok-projects.ensures.opens c.requires.laid) honest);
}

pub judge_keys-requires : goal.judge_keys-requires
judge_keys-requires g c = record {
  laid = λ honest.
      some_laid (λ P all. (all.1.1.1.1.1.1.0, tt))
      (laid_on c.in_ok-pages.pages c.in_ok-pages.ensures.opens
      (laid_on c.in_ok-versions.versions c.in_ok-versions.ensures.opens (laid_on (c.in_ok-projects.projects, c.in_ok-projects.langs) c.in_ok-projects.ensures.opens c.requires.laid)) honest);
}

pub read_table-requires-2 : goal.read_table-requires-2
read_table-requires-2 g c = record {
  laid = λ honest.
      some_laid (λ P all. (all.1.1.1.1.1.1.1.0, tt))
      (laid_on c.in_ok-judged.judged c.in_ok-judged.ensures.opens
      (laid_on c.in_ok-pages.pages c.in_ok-pages.ensures.opens
      (laid_on c.in_ok-versions.versions c.in_ok-versions.ensures.opens (laid_on (c.in_ok-projects.projects, c.in_ok-projects.langs) c.in_ok-projects.ensures.opens c.requires.laid))) honest);
}

pub read_two-requires-2 : goal.read_two-requires-2
read_two-requires-2 g c = record {
  laid = λ honest.
      some_laid (λ P all. (all.0, (all.1.0, tt)))
      (laid_on c.in_ok-picks.picks c.in_ok-picks.ensures.opens
      (laid_on c.in_ok-judged.judged c.in_ok-judged.ensures.opens
      (laid_on c.in_ok-pages.pages c.in_ok-pages.ensures.opens
      (laid_on c.in_ok-versions.versions c.in_ok-versions.ensures.opens (laid_on (c.in_ok-projects.projects, c.in_ok-projects.langs) c.in_ok-projects.ensures.opens c.requires.laid)))) honest);
}

pub read_table-requires-3 : goal.read_table-requires-3
read_table-requires-3 g c = record {
  laid = λ honest.
      some_laid (λ P all. (all.1.1.1.1.1.1.1.1.0, tt))
      (laid_on (c.in_ok-rules.rules, c.in_ok-rules.redirects) c.in_ok-rules.ensures.opens
      (laid_on c.in_ok-picks.picks c.in_ok-picks.ensures.opens
      (laid_on c.in_ok-judged.judged c.in_ok-judged.ensures.opens
      (laid_on c.in_ok-pages.pages c.in_ok-pages.ensures.opens
      (laid_on c.in_ok-versions.versions c.in_ok-versions.ensures.opens (laid_on (c.in_ok-projects.projects, c.in_ok-projects.langs) c.in_ok-projects.ensures.opens c.requires.laid))))) honest);
}

pub returns-in_err-judged-clause-opens : goal.returns-in_err-judged-clause-opens
returns-in_err-judged-clause-opens g c =
    let two = opens_on (c.in_ok-projects.projects, c.in_ok-projects.langs) (Ok c.in_ok-versions.versions) c.in_ok-projects.ensures.opens c.in_ok-versions.ensures.opens in
    let three = opens_on c.in_ok-versions.versions (Ok c.in_ok-pages.pages) two c.in_ok-pages.ensures.opens in
    handed c.from_residual-in_err-judged.result c.in_err-judged.field-0.0 c.from_residual-in_err-judged.ensures.1
    (λ both l fit keys spelled.
    both.1 l.used (record { stand = spelled.used; fit = subst (λ projects. AllByRecursion (IsFitKey projects) l.used) (sym spelled.projects.records ∙ both.0.0.0.0.records) keys }))
    (opens_both c.in_ok-pages.pages (Err c.in_err-judged.field-0.0) three c.in_err-judged.ensures.opens)

pub returns-clause-opens : goal.returns-clause-opens
returns-clause-opens g c =
    let two = opens_on (c.in_ok-projects.projects, c.in_ok-projects.langs) (Ok c.in_ok-versions.versions) c.in_ok-projects.ensures.opens c.in_ok-versions.ensures.opens in
    let three = opens_on c.in_ok-versions.versions (Ok c.in_ok-pages.pages) two c.in_ok-pages.ensures.opens in
    let four = opens_on c.in_ok-pages.pages (Ok c.in_ok-judged.judged) three c.in_ok-judged.ensures.opens in
    let five = opens_on c.in_ok-judged.judged (Ok c.in_ok-picks.picks) four c.in_ok-picks.ensures.opens in
    let six = opens_on c.in_ok-picks.picks (Ok (c.in_ok-rules.rules, c.in_ok-rules.redirects)) five c.in_ok-rules.ensures.opens in
    let rows = ap (λ (p : Projects). p.rows.items) c.in_ok-judged.ensures.same in
    then_ok c.in_ok-held.held (opens_on (c.in_ok-rules.rules, c.in_ok-rules.redirects) (Ok c.in_ok-held.held) six c.in_ok-held.ensures.opens) _
    (λ honest it. record {
      all = it.0.0.0.0.1.0;
      keys = it.0.0.0.1.0;
      spelled = record {
        projects = subst (StandFor coding.projects IsProject (codes "project") (state g.S.Store c.args.conn.now).now) (sym rows) it.0.0.0.0.0.0.0;
        langs = it.0.0.0.0.0.0.1;
        versions = it.0.0.0.0.0.1;
        pages = it.0.0.0.0.1.1.stand;
        used = it.0.0.0.1.1.stand;
        picks = it.0.0.1;
        rules = it.0.1.0;
        redirects = it.0.1.1;
        held = it.1;
      };
      fit = it.0.0.0.0.1.1.fit;
      fit_keys = subst (λ projects. AllByRecursion (IsFitKey projects) it.0.0.0.1.0) (sym rows) it.0.0.0.1.1.fit;
      thin_are = it.0.0.0.0.1.2;
    })
