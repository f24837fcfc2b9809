-- Which criteria are shown to be met.
use Rattle.std.specs.Prelude.{Bool, IsTrue}
use Rattle.order_memory.specs.Memory.{MemoryHistory, memory_answer}
use Rattle.cert_check.specs.declared.criterion.Criterion.{Criterion}
use Rattle.cert_check.specs.declared.criterion.Criterion.TheVariants.{Cc, Ccv, Cm}
use Rattle.cert_check.specs.Criteria.{Meets}
use Rattle.judge_witnesses.specs.declared.witnessed.Witnessed.{Witnessed}

-- whether there is a witness for a criterion
abbrev pub witnessed_for : Witnessed → Criterion → Bool
witnessed_for found Cc = found.cc
witnessed_for found Cm = found.cm
witnessed_for found Ccv = found.ccv

-- with a witness, the history meets the criterion
abbrev pub AreWitnessed : MemoryHistory → Witnessed → Type 0
AreWitnessed h found = (criterion : Criterion) → IsTrue (witnessed_for found criterion) → Meets memory_answer h criterion
