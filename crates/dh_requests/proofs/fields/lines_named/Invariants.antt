use Rattle.std.proofs.Common.{◌≡◌, take, map}
use Rattle.httparse.specs.Spans.{header_bytes}
use Rattle.dh_requests.specs.Fields.{values_named, at_most_one, one_of}
use Rattle.dh_requests.proofs.fields.lines_named.Given as goal

abbrev pub invariant-loop-header : goal.invariant-loop-header
invariant-loop-header l = one_of l.found ≡ at_most_one (values_named l.name (map (header_bytes l.text) (take l.header-index l.headers)))
