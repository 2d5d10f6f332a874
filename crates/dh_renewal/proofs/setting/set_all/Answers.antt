use Rattle.std.proofs.Common.{List, ◌∙◌, refl, sym, subst}
use Rattle.dh_records.specs.Lists.{Lists}
use Rattle.dh_records.specs.declared.records.AliasRow.{AliasRow}
use Rattle.dh_tables.specs.Going.{records}
use Rattle.dh_renewal.specs.Renewing.{set_all}
use Rattle.dh_renewal.specs.Standing.{AreSaid}
use Rattle.dh_renewal.proofs.SaidLemmas.{said_first}
use Rattle.dh_renewal.proofs.Together.{looked}
use Rattle.dh_renewal.proofs.setting.set_all.Goals as goal

pub set_beside-requires : goal.set_beside-requires
set_beside-requires g c =
    let looks = c.in_ok-stored.ensures.asks.looks in
    let was = c.aliases_at.ensures.asks.goes.lasts.was in record {
      within = λ honest. looks.mode honest ∙ c.requires.within (was honest);
      said = λ honest.
          let l : Lists = records g.S.Store c.args.tables.now in
          subst (AreSaid c.args.host.now c.as_slice.result.now c.args.all.items) (sym (looks.now_is honest))
          (subst (λ (rows : List AliasRow). AreSaid c.args.host.now rows c.args.all.items l) (sym (c.as_slice.ensures.value ∙ c.in_ok-stored.ensures.value honest))
          (said_first c.args.host.now c.args.all.items l (c.show_alias_order.ensures (was honest)) (c.requires.apart (was honest))));
    }

pub returns : goal.returns
returns g c = record {
  makes = looked g.S.Store c.args.tables.now c.aliases_at.new.tables c.set_beside.new.tables c.set_beside.result (set_all c.args.host.now c.args.all.items) (set_all c.args.host.now c.args.all.items)
      c.aliases_at.ensures.asks.goes c.in_ok-stored.ensures.asks.looks c.set_beside.ensures.makes (λ _. refl);
}
