-- The refusals of scripts, and their numbers.
use Rattle.std.specs.Prelude.{ℕ}
use Rattle.live_script.specs.declared.script_error.ScriptError.{ScriptError}
use Rattle.live_script.specs.declared.script_error.ScriptError.TheVariants.{NotJson, BadShape, UnknownObject, BadLimits, BadStep, TooManySteps, BadInitial, Memory}

abbrev pub number_of : ScriptError → ℕ
number_of NotJson = 1
number_of BadShape = 2
number_of UnknownObject = 3
number_of Memory = 8
number_of BadLimits = 10
number_of TooManySteps = 27
number_of (BadStep i) = 28
number_of BadInitial = 29
