use Rattle.std.proofs.Common.{◌∙◌, ap}
use Rattle.dh_records.specs.Lists.{placed, route_row}
use Rattle.dh_renewal.proofs.checking.routes_due.Goals as goal

pub returns-clause-value : goal.returns-clause-value
returns-clause-value g c honest =
    c.in_ok-placed_rows.ensures ∙ ap (placed (route_row c.args.host.now) 1) (c.as_slice.ensures.value ∙ c.in_ok-routes.ensures.value honest)
