-- Which fault of answering lines a run failed for.
use Rattle.std.proofs.Common.{◌≡◌, ◌∙◌, ap, refl, sym}
use Rattle.std.specs.Prelude.{◌≢◌}
use Rattle.json_lines.specs.declared.fault.Fault.{Fault}
use Rattle.json_lines.specs.declared.fault.Fault.TheVariants as faults
use Rattle.app_engine.specs.declared.failure.RunError.{RunError}
use Rattle.app_engine.specs.declared.failure.RunError.TheVariants.{Memory, ReadFault, WriteFault}
use Rattle.app_engine.specs.Failure.{stream_failure}

-- a run that did not fail for its writer failed for no fault of it
pub not_written : (fault : Fault) (error : RunError) → error ≡ stream_failure fault → error ≢ WriteFault → fault ≢ faults.Write
not_written fault error is other same = other (is ∙ ap stream_failure same)

-- how a run failed says which fault it was
pub read_failed : (fault : Fault) (error : RunError) → error ≡ stream_failure fault → error ≡ ReadFault → fault ≡ faults.Read
read_failed faults.Memory error is same = let no : Memory ≡ ReadFault = sym is ∙ same in absurd cc
read_failed faults.Read error is same = refl
read_failed faults.Write error is same = let no : WriteFault ≡ ReadFault = sym is ∙ same in absurd cc

pub write_failed : (fault : Fault) (error : RunError) → error ≡ stream_failure fault → error ≡ WriteFault → fault ≡ faults.Write
write_failed faults.Memory error is same = let no : Memory ≡ WriteFault = sym is ∙ same in absurd cc
write_failed faults.Read error is same = let no : ReadFault ≡ WriteFault = sym is ∙ same in absurd cc
write_failed faults.Write error is same = refl
