use Rattle.std.proofs.Common.{◌≡◌}
use Rattle.dh_server.proofs.listening.Listening.next_came.Given as goal

abbrev pub invariant-loop : goal.invariant-loop
invariant-loop l = record {
  asked : l.self.asked ≡ l.fn.self.asked;
  messages : l.self.messages ≡ l.fn.self.messages;
}
