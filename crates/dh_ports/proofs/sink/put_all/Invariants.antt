use Rattle.std.proofs.Common.{◌≡◌, ◌-◌, ◌≤◌, false, length, take}
use Rattle.std.specs.Io.KnownBytes.{Appends}
use Rattle.dh_ports.proofs.sink.put_all.Given as goal

abbrev pub invariant-loop-at : goal.invariant-loop-at
invariant-loop-at g l = record {
  within : l.at ≤ length l.bytes;
  out : Appends (g.W.Sink.held l.fn.out) (g.W.Sink.held l.out) (take l.at l.bytes);
  fine : g.W.Sink.broken l.out ≡ false;
}

abbrev pub decreases-loop-at : goal.decreases-loop-at
decreases-loop-at g l = length l.bytes - l.at
