use Rattle.std.proofs.Common.{◌∙◌, codes, map, Ok, Err, refl, sym, ap, subst, rules}
use Rattle.sqlite.specs.Held.{state}
use Rattle.dh_constraints.specs.Lists.{lists_in}
use Rattle.dh_records.specs.Codings as coding
use Rattle.dh_records.specs.Constraints.{InOrder}
use Rattle.dh_rows.specs.Places.{records_of}
use Rattle.dh_opening.specs.OldPasses.{old_passes, old_lists_of, without_end}
use Rattle.dh_opening.specs.OurTables.{other_tables}
use Rattle.dh_opening.specs.Migrating.{AreOldIn}
use Rattle.dh_opening.specs.ThinPages.{made_whole}
use Rattle.dh_opening.proofs.Looks.{handed, laid_on, opens_both, out_of_memory, refused_at_once, then_ok}
use Rattle.dh_opening.proofs.MigrateLemmas.{found_old, order_kept}
use Rattle.dh_opening.proofs.Spelling.{may_derive, not_alone}
use Rattle.dh_opening.proofs.migrating.old_records.Goals as goal

pub returns-then-not-are_old : goal.returns-then-not-are_old
returns-then-not-are_old g c = record {
  opens = refused_at_once (λ it. not_alone AreOldIn c.are_old.result c.schema.result.now (state g.S.Store c.args.conn.now).now.schema c.are_old.ensures.1 c.schema.ensures.value (search rules) it.tables);
}

pub read_table-requires : goal.read_table-requires
read_table-requires g c = record {
  laid = λ honest. record {
    sound = (c.schema.ensures.live honest.1).0;
    alone = ((subst AreOldIn c.schema.ensures.value (c.are_old.ensures.0 (search rules))).alone.0, tt);
    unlimited = c.requires.unlimited;
  };
}

pub returns-in_err-rows : goal.returns-in_err-rows
returns-in_err-rows g c = record {
  opens = handed c.from_residual.result c.in_err-rows.field-0.0 c.from_residual.ensures.1 (λ none it. none (records_of old_passes (codes "pass") (state g.S.Store c.args.conn.now).now) it.passes) c.in_err-rows.ensures.opens;
}

pub returns-in_err-passes : goal.returns-in_err-passes
returns-in_err-passes g c = record { opens = out_of_memory c.from_residual-in_err-passes.result c.from_residual-in_err-passes.ensures.1 c.in_ok-rows.rows c.in_ok-rows.ensures.opens }

pub kept_records-requires : goal.kept_records-requires
kept_records-requires g c = record {
  laid = laid_on {tables = other_tables} c.in_ok-rows.rows c.in_ok-rows.ensures.opens
      (λ honest. record {
        sound = (c.schema.ensures.live honest.1).0;
        alone = (subst AreOldIn c.schema.ensures.value (c.are_old.ensures.0 (search rules))).alone.1;
        unlimited = c.requires.unlimited;
      });
  order = subst (InOrder coding.passes.key) (sym c.in_ok-passes.ensures) (order_kept c.in_ok-rows.rows.items c.in_ok-rows.ensures.order);
}

pub check_derived-requires : goal.check_derived-requires
check_derived-requires g c = record {
  unlimited = c.in_ok-records.ensures.opens.goes.lasts.limit ∙ c.in_ok-rows.ensures.opens.goes.lasts.limit ∙ c.requires.unlimited;
  live = λ clean. (clean, (c.in_ok-records.ensures.opens.same clean).is_open);
}

pub returns-in_err-records : goal.returns-in_err-records
returns-in_err-records g c = record {
  opens = handed c.from_residual-in_err-records.result c.in_err-records.field-0.0 c.from_residual-in_err-records.ensures.1
      (λ both it. both.1 (old_lists_of (state g.S.Store c.args.conn.now).now) (ap (map without_end) both.0.records ∙ sym c.in_ok-passes.ensures) it.kept)
      (opens_both c.in_ok-rows.rows (Err c.in_err-records.field-0.0) c.in_ok-rows.ensures.opens c.in_err-records.ensures.opens);
}

pub returns-in_err-derived : goal.returns-in_err-derived
returns-in_err-derived g c = record {
  opens = handed c.from_residual-in_err-derived.result c.in_err-derived.field-0.0 c.from_residual-in_err-derived.ensures.1
      (λ both it. both.1 it.derived)
      (opens_both c.in_ok-records.records (Err c.in_err-derived.field-0.0) (opens_both c.in_ok-rows.rows (Ok c.in_ok-records.records) c.in_ok-rows.ensures.opens c.in_ok-records.ensures.opens) c.in_err-derived.ensures.opens);
}

pub returns : goal.returns
returns g c = record {
  opens = then_ok c.in_ok-derived.derived
      (opens_both c.in_ok-records.records (Ok c.in_ok-derived.derived) (opens_both c.in_ok-rows.rows (Ok c.in_ok-records.records) c.in_ok-rows.ensures.opens c.in_ok-records.ensures.opens) c.in_ok-derived.ensures.opens) (c.in_ok-records.records, c.in_ok-derived.derived)
      (λ honest it. (
        (c.schema.ensures.live honest.1).0,
        it.1,
        λ number.
            let old = found_old (state g.S.Store c.args.conn.now).now c.in_ok-rows.rows.items (made_whole it.0.1.0 it.0.1.1 (lists_in c.in_ok-records.records)) it.0.0 it.0.1.2 (c.in_ok-records.ensures.passes ∙ c.in_ok-passes.ensures) refl (subst AreOldIn c.schema.ensures.value (c.are_old.ensures.0 (search rules))) (may_derive (state g.S.Store c.args.conn.now).now c.in_ok-derived.derived it.1) number in
            (old.0, (it.0.1.0, it.0.1.1, old.1)),
      ));
}
