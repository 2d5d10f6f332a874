use Rattle.std.proofs.Common.{◌∙◌, sym, ap, filter}
use Rattle.dh_records.specs.Lists.{Lists, is_route_in, is_route_of}
use Rattle.dh_tables.specs.Going.{records}
use Rattle.dh_renewal.proofs.StandsLemmas.{of_host_in}
use Rattle.dh_renewal.proofs.checking.routes_stand_at.Goals as goal

pub returns-clause-value : goal.returns-clause-value
returns-clause-value g c honest told seg =
    let host = c.args.host.now in
    let l : Lists = records g.S.Store c.args.tables.now in
    let before = c.host_routes.ensures.asks.goes.lasts.was honest in
    sym (of_host_in host seg l.routes)
    ∙ ap (λ (k : Lists). filter (is_route_in host seg) (filter (is_route_of host) k.routes)) (sym (c.in_ok-due.ensures.asks.looks.now_is before))
    ∙ ap (filter (is_route_in host seg)) (sym (c.as_slice.ensures.value ∙ c.in_ok-stored.ensures.value honest))
    ∙ c.agree.ensures told seg
    ∙ ap (filter (is_route_in host seg)) (c.as_slice-2.ensures.value ∙ c.in_ok-due.ensures.value before)
