-- The sources of operations, and their vectors.
use Rattle.std.specs.Prelude.{◌≡◌, Option, Some, None}
use Rattle.std.proofs.Common.{arith, subst, refl}
use Rattle.model_history.specs.declared.op_id.OpId.{OpId}
use Rattle.model_history.specs.History.{HistoryValue, IsOp}
use Rattle.order_memory.specs.Memory.{MemoryHistory}
use Rattle.order_memory.proofs.MemoryLaws.{write-of_history}
use Rattle.order_memory.specs.SourceOrder.{IsSource, IsSourceOf}
use Rattle.order_causal.specs.Vectors.{IsListed, Counts, AreVectorsOf}
use Rattle.order_causal.specs.Topological.{AreSquare}

module _ {S C R : Type 0} (h : HistoryValue S C R) (v : Counts) (vectors : AreVectorsOf h v) where
  -- an operation of the history has a vector
  pub listed-op : (o : OpId) → IsOp h o → IsListed v o
  listed-op o is_op = let same = vectors.one_each.operations o.session in omega arith

  -- each vector has one count for each session
  pub square-vectors : AreSquare v
  square-vectors o listed =
      let same = vectors.one_each.operations o.session in
      let is_op : IsOp h o = omega arith in
      let size = vectors.counts o is_op in
      let sessions = vectors.one_each.sessions in
      omega arith

module _ (h : MemoryHistory) where
  -- the source that an operation has, or that it has none
  pub source-some : (o w : OpId) (e : Option OpId) → IsSourceOf h o e → e ≡ Some w → IsSource h w o
  source-some o w e is same = subst (λ (s : Option OpId). IsSourceOf h o s) same is

  pub source-none : (o : OpId) (e : Option OpId) → IsSourceOf h o e → ((w : OpId) → e ≡ Some w → ⊥) → (w : OpId) → ¬ IsSource h w o
  source-none o None initial other w is = is.0.4 (initial is.0.0 is.0.1 is.0.3)
  source-none o (Some a) initial other w is = other a refl

-- a source has a vector
pub listed-source : (h : MemoryHistory) (v : Counts) → AreVectorsOf h v → (o : OpId) (source : Option OpId) → IsSourceOf h o source → (w : OpId) → source ≡ Some w → IsListed v w
listed-source h v vectors o source is_source w same =
    let reads = subst (λ (s : Option OpId). IsSourceOf h o s) same is_source in
    listed-op h v vectors w (write-of_history h w reads.0.0 reads.0.1 reads.0.2)
