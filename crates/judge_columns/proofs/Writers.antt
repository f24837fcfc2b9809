-- The sessions of writes, gathered one operation after the other.
use Rattle.std.specs.Prelude.{◌≡◌, ◌≢◌, ℕ, ◌+◌, ◌<◌, List, Some, slice_get}
use Rattle.std.proofs.Common.{arith, ap, ◌∙◌, ⊎_elim}
use Rattle.std.proofs.lemmas.Bool.{cases_eq}
use Rattle.model_history.specs.declared.op_id.OpId.{OpId}
use Rattle.model_history.specs.History.{IsOp, number}
use Rattle.order_memory.specs.Memory.{MemoryHistory, Writes}
use Rattle.order_memory.proofs.MemoryLaws.{write-of_history}

module _ (h : MemoryHistory) where
  -- the list has the sessions of all writes with a number below n
  abbrev pub HasWritersBelow : ℕ → List ℕ → Type 0
  HasWritersBelow n sessions = (w : OpId) (x v : ℕ) → Writes h w x v → number h w < n → (k : ℕ) × (slice_get sessions k ≡ Some w.session)

  -- the session of the next write is added
  pub writers-more : (old new : List ℕ) (n s : ℕ) → ((o : OpId) → IsOp h o → number h o ≡ n → s ≡ o.session)
      → (k : ℕ) × (slice_get new k ≡ Some s) → ((k t : ℕ) → slice_get old k ≡ Some t → slice_get new k ≡ Some t)
      → HasWritersBelow n old → HasWritersBelow (n + 1) new
  writers-more old new n s of_number added kept before w x v wrote below = ⊎_elim
      (λ (last : number h w ≡ n). (added.0, added.1 ∙ ap (λ (t : ℕ). Some t) (of_number w (write-of_history h w x v wrote) last)))
      (λ (apart : number h w ≢ n). let one = before w x v wrote (omega arith) in (one.0, kept one.0 w.session one.1))
      (cases_eq (number h w) n)

  -- the next operation is no write
  pub writers-same : (sessions : List ℕ) (n : ℕ) → ((o : OpId) (x v : ℕ) → Writes h o x v → number h o ≢ n)
      → HasWritersBelow n sessions → HasWritersBelow (n + 1) sessions
  writers-same sessions n apart before w x v wrote below = let other = apart w x v wrote in before w x v wrote (omega arith)
