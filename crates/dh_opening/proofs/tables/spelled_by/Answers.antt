use Rattle.std.proofs.Common.{Ok, sym, subst}
use Rattle.sqlite.specs.Held.{state}
use Rattle.dh_rows.proofs.Whole.{IsCodingOf}
use Rattle.dh_opening.specs.Opening.{AnswersQuery, IsWhole}
use Rattle.dh_opening.proofs.Looks.{laid_on, opens_on, out_of_memory, then_ok}
use Rattle.dh_opening.proofs.Telling.{told_or_none, whole_ids, whole_rows}
use Rattle.dh_opening.proofs.tables.spelled_by.Goals as goal

pub select-requires : goal.select-requires
select-requires g c = record { whole = λ honest. subst (IsWhole (state g.S.Store c.args.conn.now)) (sym c.ids.ensures) (whole_ids g.R.Kept.reads (state g.S.Store c.args.conn.now) (c.requires.laid honest)) }

pub select-requires-2 : goal.select-requires-2
select-requires-2 g c = record {
  whole = λ honest.
      subst (IsWhole (state g.S.Store c.select.new.conn)) (sym c.rows.ensures.text)
      (whole_rows g.R.Kept.reads (state g.S.Store c.select.new.conn) (laid_on c.in_ok-ids.ids c.in_ok-ids.ensures.opens c.requires.laid honest));
}

pub returns-in_err-records_of-clause-opens : goal.returns-in_err-records_of-clause-opens
returns-in_err-records_of-clause-opens g c =
    out_of_memory c.from_residual-in_err-records_of.result c.from_residual-in_err-records_of.ensures.1 c.in_ok-rows.rows
    (opens_on c.in_ok-ids.ids (Ok c.in_ok-rows.rows) c.in_ok-ids.ensures.opens c.in_ok-rows.ensures.opens)

pub returns-clause-opens : goal.returns-clause-opens
returns-clause-opens g c =
    then_ok c.in_ok-rows.rows (opens_on c.in_ok-ids.ids (Ok c.in_ok-rows.rows) c.in_ok-ids.ensures.opens c.in_ok-rows.ensures.opens) c.in_ok-records_of.field-0
    (λ honest it.
    told_or_none g.R.Kept.reads (state g.S.Store c.args.conn.now) (c.requires.laid honest) g.R.Record.typed (subst (λ k. IsCodingOf g.R.Kept.table k g.R.Kept.order) c.rows.ensures.same g.R.Kept.suits)
    c.in_ok-ids.ids.items c.in_ok-rows.rows.items (subst (λ t. AnswersQuery (state g.S.Store c.args.conn.now).now t c.in_ok-ids.ids.items) c.ids.ensures it.0) (subst (λ t. AnswersQuery (state g.S.Store c.args.conn.now).now t c.in_ok-rows.rows.items) c.rows.ensures.text it.1)
    c.in_ok-records_of.field-0 (rw (c.as_slice.ensures.value) at c.in_ok-records_of.ensures.some) (rw (c.as_slice.ensures.value) at c.in_ok-records_of.ensures.none))
