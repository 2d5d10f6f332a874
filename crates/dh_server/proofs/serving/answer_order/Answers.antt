use Rattle.std.proofs.Common.{subst}
use Rattle.dh_server.specs.Telling.{IsEntryOfMessage}
use Rattle.dh_server.proofs.serving.answer_order.Goals as goal

pub returns-clause-tells : goal.returns-clause-tells
returns-clause-tells g c = (
  c.answer-ordered.result,
  c.message_entry.result,
  c.answer-ordered.ensures.noted,
  subst (λ moment. IsEntryOfMessage moment c.answer-ordered.result c.message_entry.result) c.measure-measured.ensures c.message_entry.ensures,
  c.tell.ensures,
)
