use Rattle.std.proofs.Common.{rules, sym, subst}
use Rattle.std.specs.Prelude.{IfSome}
use Rattle.dh_records.specs.Typed.{TellsAnswer}
use Rattle.dh_tables.proofs.Asking.{told_asks}
use Rattle.dh_tables.proofs.tables.Tables.used.Goals as goal

pub returns-in-Ok-Some : goal.returns-in-Ok-Some
returns-in-Ok-Some g c = record {
  asks = told_asks g.S.Store c.args.self.now c.retry_row.new.self c.kept_answer.result c.in-Ok-Some.ensures.asks.goes c.in-Ok-Some.ensures.asks.same c.kept_answer.ensures.refused
      (λ honest. subst TellsAnswer (sym c.as_str.ensures) (subst (λ o. IfSome o (λ row. TellsAnswer row.answer)) c.in-Ok-Some.field-0-is (c.in-Ok-Some.ensures.value honest).1));
  value = search rules;
}
