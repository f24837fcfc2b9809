-- Derivations: lists of lines, each of which gives a pair of operations in the happened-before relation of an operation.
use Rattle.std.specs.Prelude.{◌≡◌, ℕ, ◌-◌, ◌<◌, ◌≤◌, List, length, take, Some, slice_get, IsTrue}
use Rattle.pattern_check.specs.declared.derived_pairs.TheConstants.{MAX_LINES}
use Rattle.model_history.specs.declared.op_id.OpId.{OpId}
use Rattle.pattern_check.specs.declared.derivation.Line.{Line}
use Rattle.pattern_check.specs.declared.derivation.Line.TheVariants.{Co, Tr, Rf}
use Rattle.order_memory.specs.Memory.{MemoryHistory}
use Rattle.order_causal.specs.Orders.{program_past}
use Rattle.order_memory.specs.Relations.{ReadsFrom, AreRivalWrites}
use Rattle.pattern_check.specs.Paths.{GoesFrom, HasEdge}

-- two operations, the one that happened before first
abbrev pub Pair : Type 0
Pair = OpId × OpId

-- what a line gives, where the lines before it give these pairs: a path with an edge from a to b, and a path from b to o
pub record GivesCausalPair (h : MemoryHistory) (o : OpId) (first second : List OpId) (a b : OpId) : Type 0 where
  pub edge : HasEdge first
  pub above : GoesFrom h first a b
  pub below : GoesFrom h second b o

-- the lines i and j give (a, c) and (c, b)
abbrev pub GivesJoinedPair : List Pair → ℕ → ℕ → OpId → OpId → Type 0
GivesJoinedPair pairs i j a b = (c : OpId) × (slice_get pairs i ≡ Some (a, c)) × (slice_get pairs j ≡ Some (c, b))

-- the line i gives (a, r), where r is a read of b, another write of the variable that a writes, and r is o or before o in
-- program order
pub record GivesRivalPair (h : MemoryHistory) (o : OpId) (pairs : List Pair) (i : ℕ) (r a b : OpId) : Type 0 where
  pub before_read : slice_get pairs i ≡ Some (a, r)
  pub of_session : IsTrue (program_past o r)
  pub reads : ReadsFrom h b r
  pub rivals : AreRivalWrites h a b

-- a line gives (a, b)
abbrev pub Gives : MemoryHistory → OpId → List Pair → Line → OpId → OpId → Type 0
Gives h o pairs (Co first second) a b = GivesCausalPair h o first second a b
Gives h o pairs (Tr i j) a b = GivesJoinedPair pairs i j a b
Gives h o pairs (Rf i r) a b = GivesRivalPair h o pairs i r a b

-- the first n lines give these pairs, each line its pair after those before it
pub record GivePairs (h : MemoryHistory) (o : OpId) (lines : List Line) (n : ℕ) (pairs : List Pair) : Type 0 where
  pub count : length pairs ≡ n
  pub each : (k : ℕ) (line : Line) (pair : Pair) → slice_get lines k ≡ Some line → slice_get pairs k ≡ Some pair
      → Gives h o (take k pairs) line pair.0 pair.1

-- at least one line and at most 100,000, each of which gives a pair, the last of them (a, b)
pub record IsDerivation (h : MemoryHistory) (o : OpId) (lines : List Line) (a b : OpId) : Type 0 where
  pub some : 0 < length lines
  pub bounded : length lines ≤ MAX_LINES
  pub pairs : List Pair
  pub given : GivePairs h o lines (length lines) pairs
  pub last : slice_get pairs (length pairs - 1) ≡ Some (a, b)
