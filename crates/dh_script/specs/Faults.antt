-- The names of the faults of a script.
use Rattle.std.specs.Prelude.{codes}
use Rattle.dh_ports.specs.declared.stop.Stop.TheVariants as stop
use Rattle.dh_world.specs.World.{Text}
use Rattle.dh_script.specs.declared.fault.RunFault.TheVariants as run
use Rattle.dh_script.specs.declared.fault.ScriptFault.{ScriptFault}
use Rattle.dh_script.specs.declared.fault.ScriptFault.TheVariants.{Unread, TooLong, NotText, Run}

abbrev pub script_fault_name : ScriptFault → Text
script_fault_name (Unread stop.Read) = codes "Read"
script_fault_name (Unread stop.TooManyTurns) = codes "TooManyTurns"
script_fault_name (Unread stop.Memory) = codes "Memory"
script_fault_name TooLong = codes "TooLong"
script_fault_name NotText = codes "NotText"
script_fault_name (Run run.Memory) = codes "Memory"
script_fault_name (Run run.Write) = codes "Write"
