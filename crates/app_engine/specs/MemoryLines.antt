-- What `judge` writes of a memory. These definitions, and those that they name, are all that its promise rests on.
use Rattle.std.specs.Prelude.{◌≡◌, ◌⊎◌, ℕ, List, Option, IfSome, ◌++◌, codes}
use Rattle.std.specs.Io.KnownBytes.{Appends}
use Rattle.order_memory.specs.Memory.{IsDifferentiated, MemoryHistory, memory_answer}
use Rattle.json_histories.specs.declared.any_history.AnyHistory.TheVariants.{Memory}
use Rattle.json_histories.specs.AnyForm.{form_of, IsJson}
use Rattle.cert_check.specs.declared.criterion.Criterion.{Criterion}
use Rattle.cert_check.specs.declared.criterion.Criterion.TheVariants.{Cc, Cm, Ccv}
use Rattle.cert_check.specs.Criteria.{Meets}
use Rattle.cert_check.specs.CriterionNames.{name_of}
use Rattle.pattern_check.specs.declared.kind.Kind.{Kind}
use Rattle.pattern_check.specs.Kinds.{IsTrueNo}
use Rattle.pattern_check.specs.KindNames.{kind_name}
use Rattle.app_orders.specs.declared.length.Length.{Length}
use Rattle.app_explanations.specs.Lengths.{IsHistoryOf}

module _ (h : MemoryHistory) (criterion : Criterion) where
  -- a yes: the history meets the criterion
  abbrev pub IsTrueYes : List ℕ → Type 0
  IsTrueYes line = (line ≡ name_of criterion ++ codes " yes\n") × Meets memory_answer h criterion

  -- a no names a kind: one that is against the criterion and present, and the history does not meet the criterion
  abbrev pub NamesTrueKind : List ℕ → Type 0
  NamesTrueKind line = (kind : Kind) × (line ≡ name_of criterion ++ (codes " no " ++ (kind_name kind ++ codes "\n"))) × IsTrueNo h criterion kind

  -- an unknown, with or without an operation: the values of the history are not distinct
  abbrev pub IsTrueUnknown : List ℕ → Type 0
  IsTrueUnknown line = (rest : List ℕ) × (line ≡ name_of criterion ++ (codes " unknown" ++ rest)) × ¬ IsDifferentiated h

  abbrev pub IsTrueLine : List ℕ → Type 0
  IsTrueLine line = IsTrueYes line ⊎ (NamesTrueKind line ⊎ IsTrueUnknown line)

-- three lines, one for each criterion, each of which is true of the history
pub record AreTrueLines (h : MemoryHistory) (text : List ℕ) : Type 0 where
  pub cc : List ℕ
  pub cm : List ℕ
  pub ccv : List ℕ
  pub lines : text ≡ cc ++ (cm ++ ccv)
  pub cc_true : IsTrueLine h Cc cc
  pub cm_true : IsTrueLine h Cm cm
  pub ccv_true : IsTrueLine h Ccv ccv

-- an input was read, and a text was written after what the writer held, where both tell their bytes. Where the input is the form of the history of
-- a memory, the text is three lines that are true of that history
pub record JudgesMemory (long : Length) (reader writer_before writer_after : Option (List ℕ)) : Type 0 where
  pub input : List ℕ
  pub text : List ℕ
  pub whole : IfSome reader (λ bytes. input ≡ bytes)
  pub lines : (h : MemoryHistory) → IsHistoryOf long (Memory h) → IsJson input (form_of (Memory h)) → AreTrueLines h text
  pub written : Appends writer_before writer_after text
