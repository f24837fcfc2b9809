-- What is kept of a script: of each certificate in a step what evidence keeps, and all else.
use Rattle.std.specs.Prelude.{◌≡◌, ℕ, List, map, option_map}
use Rattle.pattern_json.specs.Shortened.{shortened}
use Rattle.json_histories.specs.AnyForm.{IsJson}
use Rattle.live_simulation.specs.declared.step.StepOf.{StepOf}
use Rattle.live_simulation.specs.declared.step.StepOf.TheVariants.{Begin, End, Start, Look, Show, File, Take, Work, Put, Refute, Ask}
use Rattle.live_script.specs.declared.any_script.AnyScript.{AnyScript}
use Rattle.live_script.specs.declared.any_script.AnyScript.TheVariants as scripts
use Rattle.live_script.specs.declared.written_step.WrittenStep.{WrittenStep}
use Rattle.live_script.specs.declared.written_step.WrittenStep.TheVariants.{Once, StartUntold, Looks}
use Rattle.live_script.specs.AnyScriptForm.{form_of, IsAnyScript}
use Rattle.live_script.specs.ScriptForm.{ScriptValue}

module _ {C R : Type 0} where
  abbrev pub kept_step : StepOf C R → StepOf C R
  kept_step (Begin s c) = Begin s c
  kept_step (End s r) = End s r
  kept_step (Start told) = Start told
  kept_step (Look z) = Look z
  kept_step (Show z) = Show z
  kept_step (File z criterion certificate) = File z criterion (option_map shortened certificate)
  kept_step Take = Take
  kept_step (Work c o) = Work c o
  kept_step (Put c v) = Put c v
  kept_step (Refute c pattern) = Refute c pattern
  kept_step (Ask c) = Ask c

  abbrev pub kept_written : WrittenStep C R → WrittenStep C R
  kept_written (Once step) = Once (kept_step step)
  kept_written StartUntold = StartUntold
  kept_written (Looks z n) = Looks z n

abbrev pub kept_of : {S C R : Type 0} → ScriptValue S C R → ScriptValue S C R
kept_of script = record { sessions = script.sessions; start = script.start; steps = map kept_written script.steps }

abbrev pub any_kept : AnyScript → AnyScript
any_kept (scripts.Register s) = scripts.Register (kept_of s)
any_kept (scripts.Counter s) = scripts.Counter (kept_of s)
any_kept (scripts.Set s) = scripts.Set (kept_of s)
any_kept (scripts.Queue s) = scripts.Queue (kept_of s)
any_kept (scripts.Memory s) = scripts.Memory (kept_of s)
any_kept (scripts.Counters s) = scripts.Counters (kept_of s)
any_kept (scripts.Sets s) = scripts.Sets (kept_of s)
any_kept (scripts.Queues s) = scripts.Queues (kept_of s)

-- this is kept of the script whose form the text is
abbrev pub IsKeptFrom : List ℕ → AnyScript → Type 0
IsKeptFrom text kept = (script : AnyScript) × IsJson text (form_of script) × IsAnyScript script × (kept ≡ any_kept script)
