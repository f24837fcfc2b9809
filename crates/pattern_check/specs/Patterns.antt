-- What shows a bad pattern in a history, and what follows.
use Rattle.std.specs.Prelude.{ℕ, List, IsTrue}
use Rattle.model_history.specs.declared.op_id.OpId.{OpId}
use Rattle.cert_check.specs.declared.criterion.Criterion.{Criterion}
use Rattle.pattern_check.specs.declared.kind.Kind.{Kind}
use Rattle.pattern_check.specs.declared.kind.Kind.TheVariants as kinds
use Rattle.pattern_check.specs.declared.pattern.Pattern.{Pattern}
use Rattle.pattern_check.specs.declared.pattern.Pattern.TheVariants.{CyclicCO, ThinAirRead, WriteCOInitRead, WriteCORead, WriteHBInitRead, CyclicHB, CyclicCF}
use Rattle.pattern_check.specs.declared.derivation.Line.{Line}
use Rattle.order_memory.specs.Memory.{MemoryHistory, initial, Writes, Reads, IsDifferentiated}
use Rattle.order_causal.specs.Orders.{program_past}
use Rattle.order_memory.specs.Relations.{ReadsFrom, AreRivalWrites}
use Rattle.pattern_check.specs.Kinds.{is_against, IsThinAirRead}
use Rattle.pattern_check.specs.Paths.{GoesFrom, HasEdge, IsCycle}
use Rattle.pattern_check.specs.Derivations.{IsDerivation}

-- the kind of a pattern
abbrev pub kind_of : Pattern → Kind
kind_of (CyclicCO path) = kinds.CyclicCO
kind_of (ThinAirRead r) = kinds.ThinAirRead
kind_of (WriteCOInitRead path) = kinds.WriteCOInitRead
kind_of (WriteCORead first second) = kinds.WriteCORead
kind_of (WriteHBInitRead o lines) = kinds.WriteHBInitRead
kind_of (CyclicHB o lines) = kinds.CyclicHB
kind_of (CyclicCF links) = kinds.CyclicCF

module _ (h : MemoryHistory) where
  -- a path with an edge goes from an operation to itself
  abbrev pub IsCyclicPath : List OpId → Type 0
  IsCyclicPath path = HasEdge path × ((a : OpId) × GoesFrom h path a a)

  -- a path goes from a write to a read of the initial value of its variable
  abbrev pub IsPathToInitialRead : List OpId → Type 0
  IsPathToInitialRead path =
      (w r : OpId) × (x v : ℕ) × Writes h w x v × Reads h r x (initial h x) × GoesFrom h path w r

  -- one path goes from a write that r reads from to another write of its variable, and one goes from there to r
  abbrev pub ArePathsToOverwrittenRead : List OpId → List OpId → Type 0
  ArePathsToOverwrittenRead first second =
      (a b r : OpId) × ReadsFrom h a r × AreRivalWrites h a b × GoesFrom h first a b × GoesFrom h second b r

  -- a derivation for o gives a write and a read of the initial value of its variable, which is o or before o in program order
  abbrev pub IsDerivationOfInitialRead : OpId → List Line → Type 0
  IsDerivationOfInitialRead o lines =
      (w r : OpId) × (x v : ℕ) × Writes h w x v × Reads h r x (initial h x) × IsTrue (program_past o r) × IsDerivation h o lines w r

  -- a derivation for o gives one operation twice
  abbrev pub IsDerivationOfCycle : OpId → List Line → Type 0
  IsDerivationOfCycle o lines = (a : OpId) × IsDerivation h o lines a a

  -- the operations of a pattern are as its kind says
  abbrev pub IsShownBy : Pattern → Type 0
  IsShownBy (CyclicCO path) = IsCyclicPath path
  IsShownBy (ThinAirRead r) = IsThinAirRead h r
  IsShownBy (WriteCOInitRead path) = IsPathToInitialRead path
  IsShownBy (WriteCORead first second) = ArePathsToOverwrittenRead first second
  IsShownBy (WriteHBInitRead o lines) = IsDerivationOfInitialRead o lines
  IsShownBy (CyclicHB o lines) = IsDerivationOfCycle o lines
  IsShownBy (CyclicCF links) = IsCycle h links

-- a pattern against a criterion in a history of distinct values
pub record IsBadPattern (h : MemoryHistory) (criterion : Criterion) (pattern : Pattern) : Type 0 where
  pub differentiated : IsDifferentiated h
  pub against : IsTrue (is_against (kind_of pattern) criterion)
  pub shown : IsShownBy h pattern
