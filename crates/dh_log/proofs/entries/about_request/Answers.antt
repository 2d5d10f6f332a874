use Rattle.dh_log.proofs.entries.about_request.Goals as goal

pub returns-in-Some : goal.returns-in-Some
returns-in-Some c = rw c.in-Some.is c.about_subject.ensures

pub returns-in-None : goal.returns-in-None
returns-in-None c = rw c.in-None.is c.about_head.ensures
