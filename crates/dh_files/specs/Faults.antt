-- The faults of a file: their names, and what faults of `sqlite` and of the tables are here.
use Rattle.std.specs.Prelude.{ℕ, List, codes}
use Rattle.sqlite.specs.declared.error.Error.{Error}
use Rattle.sqlite.specs.declared.error.Error.TheVariants.{SqliteFailure}
use Rattle.sqlite.specs.declared.error.ErrorCode.TheVariants as code
use Rattle.dh_ports.specs.declared.fault.Fault.TheVariants as below
use Rattle.dh_opening.specs.declared.fault.TablesFault.{TablesFault}
use Rattle.dh_opening.specs.declared.fault.TablesFault.TheVariants as tables
use Rattle.dh_files.specs.declared.fault.FileFault.{FileFault}
use Rattle.dh_files.specs.declared.fault.FileFault.TheVariants.{Missing, Empty, Folder, Forbidden, Unopened, NoDatabase}
use Rattle.dh_files.specs.declared.fault.FileFault.TheVariants.{Damaged, Changed, Linked, LinkedLog, Journal, Busy}
use Rattle.dh_files.specs.declared.fault.FileFault.TheVariants.{Taken, NotOurs, OldSchema, Full, Failed, Memory}

abbrev pub file_fault_name : FileFault → List ℕ
file_fault_name = elim [
  | Missing ↦ codes "Store"
  | Empty ↦ codes "Store"
  | Folder ↦ codes "Store"
  | Forbidden ↦ codes "Store"
  | Unopened ↦ codes "Store"
  | NoDatabase ↦ codes "Store"
  | Damaged ↦ codes "Store"
  | Changed ↦ codes "Store"
  | Linked ↦ codes "Store"
  | LinkedLog ↦ codes "Store"
  | Journal ↦ codes "Store"
  | Busy ↦ codes "Store"
  | Full ↦ codes "Store"
  | Failed ↦ codes "Store"
  | Taken ↦ codes "NotOurs"
  | NotOurs ↦ codes "NotOurs"
  | OldSchema ↦ codes "OldSchema"
  | Memory ↦ codes "Memory"
]

abbrev pub file_fault : TablesFault → FileFault
file_fault tables.NotOurs = NotOurs
file_fault tables.OldSchema = OldSchema
file_fault (tables.Failed below.Store) = Failed
file_fault (tables.Failed below.Memory) = Memory

abbrev pub fault_of_error : Error → FileFault
fault_of_error (SqliteFailure code.NotADatabase) = NoDatabase
fault_of_error (SqliteFailure code.DatabaseCorrupt) = Damaged
fault_of_error (SqliteFailure code.DatabaseBusy) = Busy
fault_of_error (SqliteFailure code.CannotOpen) = Unopened
fault_of_error (SqliteFailure code.DiskFull) = Full
fault_of_error (SqliteFailure code.OutOfMemory) = Memory
fault_of_error _ = Failed
