-- The JSON form of faults.
use Rattle.std.specs.Prelude.{ℕ, List, [], ◌∷◌, Option, Some, None}
use Rattle.serde_json.specs.Data.{Data, null, string}
use Rattle.json_histories.specs.Json.{list}
use Rattle.json_histories.specs.Reads.{number_form, list_form, worded}
use Rattle.pattern_check.specs.declared.kind.Kind.{Kind}
use Rattle.pattern_check.specs.declared.kind.Kind.TheVariants as kinds
use Rattle.pattern_check.specs.KindNames.{kind_name}
use Rattle.pattern_json.specs.PatternForm.{op_form}
use Rattle.show_words.specs.declared.guarantees.Guarantee.{Guarantee}
use Rattle.show_words.specs.declared.guarantees.Guarantee.TheVariants as guarantees
use Rattle.show_words.specs.Guarantees.{guarantee_name}
use Rattle.show_faults.specs.declared.broken.Breaks.{Breaks}
use Rattle.show_faults.specs.declared.broken.Broken.{Broken}
use Rattle.show_faults.specs.declared.broken.GuaranteeCounts.{GuaranteeCounts}
use Rattle.show_faults.specs.declared.counts.FaultCounts.{FaultCounts}
use Rattle.show_faults.specs.declared.counts.SessionFaults.{SessionFaults}
use Rattle.show_faults.specs.declared.fault.Fault.{Fault}
use Rattle.show_faults.specs.declared.fault.Fault.TheVariants.{ThinAirRead, WriteCOInitRead, WriteCORead}

-- how many reads show a kind: its name and the number
abbrev pub count_form : Kind → ℕ → Data
count_form kind count = worded (kind_name kind) (number_form count ∷ [])

abbrev pub counts_form : FaultCounts → Data
counts_form counts = list (
    count_form kinds.ThinAirRead counts.thin_air
    ∷ count_form kinds.WriteCOInitRead counts.start
    ∷ count_form kinds.WriteCORead counts.read
    ∷ []
    )

-- a session and its counts
abbrev pub session_form : SessionFaults → Data
session_form row = list (number_form row.session ∷ counts_form row.counts ∷ [])

-- a fault: the name of its kind, the read, its source where it has one, and the write that it missed
abbrev pub fault_form : Fault → Data
fault_form (ThinAirRead r) = worded (kind_name kinds.ThinAirRead) (op_form r ∷ [])
fault_form (WriteCOInitRead r a) = worded (kind_name kinds.WriteCOInitRead) (op_form r ∷ op_form a ∷ [])
fault_form (WriteCORead r w a) = worded (kind_name kinds.WriteCORead) (op_form r ∷ op_form w ∷ op_form a ∷ [])

-- how many reads break a guarantee: its name and the number
abbrev pub guarantee_form : Guarantee → ℕ → Data
guarantee_form guarantee count = worded (guarantee_name guarantee) (number_form count ∷ [])

abbrev pub guarantees_form : GuaranteeCounts → Data
guarantees_form counts = list (
    guarantee_form guarantees.ReadYourWrites counts.read_your_writes
    ∷ guarantee_form guarantees.MonotonicReads counts.monotonic_reads
    ∷ guarantee_form guarantees.MonotonicWrites counts.monotonic_writes
    ∷ guarantee_form guarantees.WritesFollowReads counts.writes_follow_reads
    ∷ guarantee_form guarantees.CausalOrder counts.causal_order
    ∷ []
    )

-- what a fault breaks: the name of a guarantee, if it breaks one
abbrev pub name_form : Option Guarantee → Data
name_form None = null
name_form (Some guarantee) = string (guarantee_name guarantee)

abbrev pub breaks_form : Breaks → Data
breaks_form breaks = name_form breaks.guarantee

-- how many reads break each guarantee, and what each listed fault breaks
abbrev pub broken_form : Broken → Data
broken_form broken = list (guarantees_form broken.counts ∷ list_form breaks_form broken.listed.items ∷ [])

-- the counts by kind, those of each session that has a fault, the listed faults, and what they break
abbrev pub faults_form : FaultCounts → List SessionFaults → List Fault → Broken → Data
faults_form counts by_session listed broken = list (
    counts_form counts ∷ list_form session_form by_session ∷ list_form fault_form listed ∷ broken_form broken ∷ []
    )
