use Rattle.std.proofs.Common.{rules, List, refl, sym, subst, ◌∙◌}
use Rattle.std.specs.Vec.Iter.{into_iter_items}
use Rattle.std.proofs.lemmas.List.{nil_from_length}
use Rattle.dh_records.specs.declared.records.ProjectRow.{ProjectRow}
use Rattle.dh_tables.specs.Going.{records}
use Rattle.dh_tables.proofs.Together.{goes_within_on}
use Rattle.dh_renewal.proofs.FillingLemmas.{Midway, midway_first, midway_last, midway_next}
use Rattle.dh_renewal.proofs.SameBase.{same_sound}
use Rattle.dh_renewal.proofs.filling.renew_projects.Goals as goal

pub loop-project-init : goal.loop-project-init
loop-project-init g c = record {
  can = tt;
  finite = tt;
  goes = search rules;
  sees = search rules;
  midway = λ honest.
      let start = records g.S.Store c.args.tables.now in
      subst (λ (rows : List ProjectRow). Midway rows start start) (sym (c.into_iter-project-iterator.ensures.into_iter_gives.0 ∙ c.requires.all honest))
      (midway_first start (c.requires.none honest));
}

pub renew_host-requires-clause-sound : goal.renew_host-requires-clause-sound
renew_host-requires-clause-sound g c honest =
    let it = c.loop-project.invariant in
    same_sound (records g.S.Store c.loop-project.tables) (records g.S.Store c.args.tables.now) (it.midway honest).base (c.requires.sound (it.goes.lasts.was honest))

pub loop-project-preserved : goal.loop-project-preserved
loop-project-preserved g c =
    let it = c.loop-project.invariant in
    let goes = c.renew_host.ensures.makes.goes in
    let after = c.in_ok-renew_host.ensures.makes.sees in record {
      can = tt;
      finite = tt;
      goes = goes_within_on it.goes it.sees.live it.sees.mode goes;
      sees = record {
        live = λ honest clean. after.live (it.sees.live honest (goes.lasts.clean clean)) clean;
        now_is = λ _. refl;
        mode = λ honest. after.mode honest ∙ it.sees.mode (goes.lasts.was honest);
      };
      midway = λ honest.
          let start = records g.S.Store c.args.tables.now in
          let now = records g.S.Store c.loop-project.tables in
          midway_next c.in-Some.project (into_iter_items c.next.new.self) start now (records g.S.Store c.renew_host.new.tables)
          (subst (λ (rows : List ProjectRow). Midway rows start now) c.in-Some.ensures.steps.0 (it.midway (goes.lasts.was honest)))
          (c.in_ok-renew_host.ensures.right honest);
    }

pub returns : goal.returns
returns g c =
    let it = c.loop-project.invariant in record {
      goes = it.goes;
      sees = it.sees;
      made = λ honest.
          let start = records g.S.Store c.args.tables.now in
          let now = records g.S.Store c.loop-project.tables in
          midway_last start now
          (subst (λ (rows : List ProjectRow). Midway rows start now) (nil_from_length (into_iter_items c.loop-project.project-iterator) (sym c.loop-project.project-iterator.rest.ok.0 ∙ c.in-None.ensures.steps.0)) (it.midway honest));
      err = tt;
    }
