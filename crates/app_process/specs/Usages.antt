-- What comes of words that ask for nothing: help, the version, or a fault of the words.
use Rattle.std.specs.Prelude.{◌≡◌, ◌⊎◌, ◌++◌, ℕ, List, [], Bool, true, None, codes, nat_eq, string_bytes}
use Rattle.std.specs.List.{starts_with}
use Rattle.std.specs.Io.KnownBytes.{Appends}
use Rattle.app_command_line.specs.declared.command.Usage.{Usage}
use Rattle.app_command_line.specs.declared.command.Usage.TheVariants.{Fault, Help, Memory}
use Rattle.json_lines.specs.Lines.{ended}
use Rattle.show_refusals.specs.Lines.{BeginsWith}
use Rattle.app_engine.specs.declared.failure.RunError.TheVariants as failures
use Rattle.app_process.specs.Failing.{Tells}
use Rattle.app_process.specs.Saying.{Known}

-- the text is that of the version
abbrev pub is_version : List ℕ → Bool
is_version text = starts_with nat_eq text (codes "causal_judge ")

-- after the version comes a line that says whether the gate passed, where memory suffices for it
abbrev pub IsGate : List ℕ → List ℕ → Type 0
IsGate text more = (more ≡ []) ⊎ ((is_version text ≡ true) × (line : List ℕ) × BeginsWith (codes "gate ") line × (more ≡ ended line))

-- help or the version was written whole, or it could not be written, for which the writer may be blamed
abbrev pub ShowsHelp : Type 0 → List ℕ → Known → Known → Known → Known → ℕ → Type 0
ShowsHelp writing text before after said_before said_after status =
    ((more : List ℕ) × IsGate text more × Appends before after (text ++ more) × (said_after ≡ said_before) × (status ≡ 0))
    ⊎ (writing × Tells None failures.WriteFault said_before said_after status)

-- help goes to the output, with status 0, and a fault of the words is said, with status 2: nothing is written then
abbrev pub EndsUsage : Type 0 → Usage → Known → Known → Known → Known → ℕ → Type 0
EndsUsage writing (Help text) before after said_before said_after status = ShowsHelp writing (string_bytes text) before after said_before said_after status
EndsUsage writing (Fault text) before after said_before said_after status =
    (after ≡ before) × Appends said_before said_after (string_bytes text) × (status ≡ 2)
EndsUsage writing Memory before after said_before said_after status =
    (after ≡ before) × Tells None failures.Memory said_before said_after status
