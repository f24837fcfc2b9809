-- The bad patterns of Bouajjani, Enea, Guerraoui and Hamza ("On Verifying Causal Consistency", POPL 2017, the table of bad
-- patterns), where the value 0 of the paper is the initial value of a variable.
use Rattle.std.specs.Prelude.{◌≢◌, ◌⊎◌, ℕ, Bool, IsTrue, true, false}
use Rattle.model_history.specs.declared.op_id.OpId.{OpId}
use Rattle.cert_check.specs.Criteria.{Meets}
use Rattle.cert_check.specs.declared.criterion.Criterion.{Criterion}
use Rattle.cert_check.specs.declared.criterion.Criterion.TheVariants.{Cc, Cm, Ccv}
use Rattle.pattern_check.specs.declared.kind.Kind.{Kind}
use Rattle.pattern_check.specs.declared.kind.Kind.TheVariants.{CyclicCO, ThinAirRead, WriteCOInitRead, WriteCORead, WriteHBInitRead, CyclicHB, CyclicCF}
use Rattle.order_memory.specs.Memory.{MemoryHistory, memory_answer, initial, Writes, Reads, IsDifferentiated}
use Rattle.order_causal.specs.Orders.{Leads}
use Rattle.order_memory.specs.Relations.{CO, CF}
use Rattle.order_memory.specs.OverwrittenReads.{HasOverwrittenRead, HasOverwrittenStart}
use Rattle.order_memory.specs.HappenedBeforePatterns.{HasHBCycle, HasStartOverwrittenInHB}

-- which kinds exclude which criterion
abbrev pub is_against : Kind → Criterion → Bool
is_against CyclicCO criterion = true
is_against ThinAirRead criterion = true
is_against WriteCOInitRead criterion = true
is_against WriteCORead criterion = true
is_against WriteHBInitRead Cc = false
is_against WriteHBInitRead Cm = true
is_against WriteHBInitRead Ccv = false
is_against CyclicHB Cc = false
is_against CyclicHB Cm = true
is_against CyclicHB Ccv = false
is_against CyclicCF Cc = false
is_against CyclicCF Cm = false
is_against CyclicCF Ccv = true

module _ (h : MemoryHistory) where
  -- a known read of a value that is not the initial one and that nobody wrote
  abbrev pub IsThinAirRead : OpId → Type 0
  IsThinAirRead r = (x v : ℕ) × Reads h r x v × (v ≢ initial h x) × ((w : OpId) → ¬ Writes h w x v)

  -- what each kind is
  abbrev pub Shows : Kind → Type 0
  Shows CyclicCO = (a : OpId) × CO h a a
  Shows ThinAirRead = (r : OpId) × IsThinAirRead r
  Shows WriteCOInitRead = HasOverwrittenStart h
  Shows WriteCORead = HasOverwrittenRead h
  Shows WriteHBInitRead = HasStartOverwrittenInHB h
  Shows CyclicHB = HasHBCycle h
  Shows CyclicCF = (a : OpId) × Leads (λ b c. CO h b c ⊎ CF h b c) a a

  -- a kind is present in a history of distinct values that shows it
  abbrev pub IsPresent : Kind → Type 0
  IsPresent kind = IsDifferentiated h × Shows kind

  -- no kind that is against a criterion is present
  abbrev pub IsFreeOf : Criterion → Type 0
  IsFreeOf criterion = (kind : Kind) → IsTrue (is_against kind criterion) → ¬ IsPresent kind

-- a "no" with a kind is true: the kind is against the criterion and present, and the history does not meet the criterion
pub record IsTrueNo (h : MemoryHistory) (criterion : Criterion) (kind : Kind) : Type 0 where
  pub against : IsTrue (is_against kind criterion)
  pub present : IsPresent h kind
  pub not_met : ¬ Meets memory_answer h criterion
