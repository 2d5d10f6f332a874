use Rattle.std.proofs.Common.{◌+◌, ◌≤◌, take}
use Rattle.dh_requests.specs.Scan.{ScansTo}
use Rattle.dh_requests.proofs.head_end.find_end.Given as goal

abbrev pub invariant-loop-i : goal.invariant-loop-i
invariant-loop-i l = record {
  scanned : ScansTo l.fn.scan (take l.i l.bytes) l.i l.scan;
  lines : l.scan.lines ≤ l.fn.scan.lines + l.i;
}
