-- What an answer to a retry key keeps beside the projects.
use Rattle.std.specs.Prelude.{IsTrue, List, find, is_some}
use Rattle.dh_world.specs.Answers.{tells}
use Rattle.dh_records.specs.Lists.{is_project}
use Rattle.dh_records.specs.declared.records.ProjectRow.{ProjectRow}
use Rattle.dh_records.specs.declared.records.RetryRow.{RetryRow}

-- its host has a project, and its text is read as an answer to its operation
abbrev pub IsFitKey : List ProjectRow → RetryRow → Type 0
IsFitKey projects u = IsTrue (is_some (find (is_project u.host) projects)) × IsTrue (tells u.op u.answer)
