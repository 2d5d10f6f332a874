use Rattle.std.proofs.Common.{◌-◌, arith}
use Rattle.dh_ports.proofs.Taking.{counts_on, counts_from}
use Rattle.dh_ports.specs.Reading.{reader_failed}
use Rattle.dh_requests.specs.HeadEnd.{most_spent}
use Rattle.dh_requests.proofs.Requests.{request_from}
use Rattle.dh_requests.proofs.Little.{needed_much}
use Rattle.dh_requests.proofs.Bodies.{head_needed, took_all, spent_all}
use Rattle.dh_requests.proofs.reading.read_request.Goals as goal

pub returns-clause-asked : goal.returns-clause-asked
returns-clause-asked g c =
    request_from c.read_on.result _ (g.R.Source.left c.read_head.new.source) c.read_head.new.intake.bytes.items c.in_ok-end.end c.in_ok-end.ensures.end c.in_ok-end.ensures.taken c.read_on.ensures.request

pub returns-clause-taken : goal.returns-clause-taken
returns-clause-taken g c =
    needed_much _ _ (reader_failed c.read_on.result) (c.read_on.ensures.takes.needed _ c.in_ok-end.ensures.taken (head_needed _ _ _ c.in_ok-end.ensures.takes.needed))

pub returns-clause-takes : goal.returns-clause-takes
returns-clause-takes g c =
    let t = c.read_on.ensures.takes in
    let spent = most_spent c.in_ok-end.end c.read_head.new.intake.reads in
    record {
      needed = t.needed _ c.in_ok-end.ensures.taken (head_needed _ _ _ c.in_ok-end.ensures.takes.needed);
      broken = t.broken;
      turns = λ full. took_all _ _ _ _ 100000 c.in_ok-end.ensures.taken (t.turns full);
      full = λ full. counts_from _ _ _ c.read_head.new.intake.reads (100000 - c.read_head.new.intake.reads) 100000 c.in_ok-end.ensures.counted (t.full full) (omega arith);
      reads = counts_on _ _ _ spent (100000 - spent) 100000 c.in_ok-end.ensures.spent c.read_on.ensures.spent (spent_all c.in_ok-end.end c.read_head.new.intake.reads c.read_head.new.intake.bounded);
    }
