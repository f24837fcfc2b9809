-- Cores: parts of a memory history that do not meet a criterion by themselves.
use Rattle.std.specs.Prelude.{◌≡◌, ℕ, Bool, List}
use Rattle.model_history.specs.declared.op_id.OpId.{OpId}
use Rattle.json_histories.specs.declared.any_history.AnyHistory.TheVariants.{Memory}
use Rattle.json_histories.specs.AnyForm.{form_of, IsJson}
use Rattle.order_memory.specs.Memory.{MemoryCall, MemoryHistory, memory_answer}
use Rattle.cert_check.specs.declared.criterion.Criterion.{Criterion}
use Rattle.cert_check.specs.Criteria.{Meets}
use Rattle.cert_subhistories.specs.Parts.{part_by}

-- the core is a part of the history, and does not meet the criterion
abbrev pub IsCoreOf : MemoryHistory → Criterion → MemoryHistory → Type 0
IsCoreOf h criterion core = ((kept : OpId → MemoryCall → Bool) × (core ≡ part_by kept h)) × ¬ Meets memory_answer core criterion

-- the text is JSON of such a core
abbrev pub IsCoreText : MemoryHistory → Criterion → List ℕ → Type 0
IsCoreText h criterion text = (core : MemoryHistory) × IsCoreOf h criterion core × IsJson text (form_of (Memory core))
