use Rattle.dh_requests.proofs.Requests.{parse_request_head}
use Rattle.dh_requests.proofs.asking.parse_request_head.Goals as goal

pub returns-in-Some-clause-asked : goal.returns-in-Some-clause-asked
returns-in-Some-clause-asked c = parse_request_head c.args.text.now c.in-Some.head c.request_of_head.result c.in-Some.ensures c.request_of_head.ensures.asked
