-- Faults of reading a log, as errors of it.
use Rattle.std.proofs.Common.{ℕ, List, [], ◌++◌, Option, Some, None, IfSome, sym, subst}
use Rattle.std.specs.Io.KnownBytes.{Consumes}
use Rattle.std.proofs.KnownBytes.{Consumes-nil}
use Rattle.log_reader.specs.Logs.{IsRefusedLog}
use Rattle.log_reader.specs.declared.refusal.Refusal.{Refusal}
use Rattle.log_reader.specs.Readings.{FaultsAt, FaultsFor, HasRead, Reading}
use Rattle.log_reader.specs.declared.log_fault.LogFault.{LogFault}
use Rattle.log_reader.specs.declared.log_fault.LogFault.TheVariants.{Refused, Memory, Read}
use Rattle.app_logs.specs.Failure.{error_of}
use Rattle.app_logs.specs.LogAnswers.{IsLogError}

-- what follows of a fault at what a source has still, of all that was there before these bytes were read
pub later-refusal : (P : List ℕ → Type 0) (most : ℕ) (first source : Option (List ℕ)) (text : List ℕ) (reading : Reading) (refusal : Refusal)
    → Consumes first source text → HasRead text reading → FaultsAt most source reading (Refused refusal)
    → ((bytes : List ℕ) → FaultsFor most reading.log bytes (Refused refusal) → P bytes) → IfSome first P
later-refusal P most None source text reading refusal consumed read faults follows = tt
later-refusal P most (Some xs) None text reading refusal consumed read faults follows = absurd consumed
later-refusal P most (Some xs) (Some ys) text reading refusal consumed read faults follows = subst P (sym consumed) (follows (text ++ ys) (faults text read))

pub later-fault : (most : ℕ) (first source : Option (List ℕ)) (text : List ℕ) (reading : Reading) (fault : LogFault) → Consumes first source text
    → HasRead text reading → FaultsAt most source reading fault → IsLogError first (error_of fault)
later-fault most first source text reading (Refused refusal) consumed read faults =
    later-refusal (λ bytes. IsRefusedLog bytes refusal) most first source text reading refusal consumed read faults (λ bytes fault. fault.0)
later-fault most first source text reading Memory consumed read faults = tt
later-fault most first source text reading Read consumed read faults = tt

-- of a reader that has read nothing
pub first-fault : (most : ℕ) (source : Option (List ℕ)) (reading : Reading) (fault : LogFault) → HasRead [] reading → FaultsAt most source reading fault
    → IsLogError source (error_of fault)
first-fault most source reading fault read faults = later-fault most source source [] reading fault (Consumes-nil source) read faults
