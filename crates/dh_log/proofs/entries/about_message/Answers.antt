use Rattle.std.proofs.Common.{refl}
use Rattle.dh_log.proofs.entries.about_message.Goals as goal

pub returns-in-Some : goal.returns-in-Some
returns-in-Some c = rw c.in-Some.is c.about_subject.ensures

pub returns-in-None : goal.returns-in-None
returns-in-None c = rw c.in-None.is (record { kind_is = refl; name_is = refl; host_is = refl; slug_is = refl })
