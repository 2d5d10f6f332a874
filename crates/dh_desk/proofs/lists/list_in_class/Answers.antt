use Rattle.std.proofs.Common.{rules, ◌≡◌}
use Rattle.dh_rows.specs.Calls.{IsHonest}
use Rattle.dh_view.proofs.ViewLemmas.{undoubted}
use Rattle.dh_desk.proofs.Keeping.{rows_right}
use Rattle.dh_desk.proofs.Reading.{live_in}
use Rattle.dh_desk.proofs.lists.list_in_class.Goals as goal

pub new-view-requires : goal.new-view-requires
new-view-requires g c = record { right = rows_right g.S.Store c.args.tables.now c.requires.consistent c.args.host; is_classed = c.requires.is_classed }

pub returns-clause-value : goal.returns-clause-value
returns-clause-value g c honest =
    let same : _ ≡ c.seen_text-answer.new.lookup.tables.now = c.close-tables.ensures.now in
    let then : IsHonest g.S.Store c.seen_text-answer.new.lookup.tables.now = search (rules, honest, same) in
    rw (c.new-view.ensures.now, c.new-view.ensures.host, c.new-view.ensures.caller) at (c.seen_text-answer.ensures.value (undoubted g.S.Store c.seen_text-answer.new.lookup.tables.now then))

pub returns-clause-live : goal.returns-clause-live
returns-clause-live g c =
    live_in g.S.Store c.new-view.result.tables.now c.seen_text-answer.new.lookup.tables.now c.args.tables.now c.tables-1.given.0 c.seen_text-answer.result c.seen_text-answer.ensures.asks.keeps c.new-view.ensures.now
    (search (rules, c.close-tables.ensures.now))
