use Rattle.dh_desk.proofs.lists.list_seen.Goals as goal

pub returns-clause-value : goal.returns-clause-value
returns-clause-value g c honest = rw (c.in_ok-host.ensures.value, c.as_str.ensures, c.in_ok-caller.ensures.value, c.pass_text.ensures) at (c.list_for.ensures.value honest)
