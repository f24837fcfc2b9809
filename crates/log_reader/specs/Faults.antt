-- The faults of reading lines, as faults of reading a log.
use Rattle.std.specs.Prelude.{◌≡◌}
use Rattle.json_lines.specs.declared.fault.Fault.{Fault}
use Rattle.json_lines.specs.declared.fault.Fault.TheVariants as faults
use Rattle.log_reader.specs.declared.log_fault.LogFault.{LogFault}
use Rattle.log_reader.specs.declared.log_fault.LogFault.TheVariants.{Memory, Read}

abbrev pub IsLogFault : Fault → LogFault → Type 0
IsLogFault faults.Memory e = e ≡ Memory
IsLogFault faults.Read e = e ≡ Read
IsLogFault faults.Write e = e ≡ Read
