-- Which fault an error of the database is told as.
use Rattle.sqlite.specs.declared.error.Error.{Error}
use Rattle.sqlite.specs.declared.error.Error.TheVariants.{SqliteFailure}
use Rattle.sqlite.specs.declared.error.ErrorCode.TheVariants.{OutOfMemory}
use Rattle.dh_ports.specs.declared.fault.Fault.{Fault}
use Rattle.dh_ports.specs.declared.fault.Fault.TheVariants.{Store, Memory}

-- `Memory` where memory is out, and `Store` for any other error
abbrev pub statement_fault : Error → Fault
statement_fault (SqliteFailure OutOfMemory) = Memory
statement_fault _ = Store
