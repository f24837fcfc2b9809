-- The certificate of causal convergence of a memory history by the conflicts of its writes (this project's profile).
use Rattle.std.specs.Prelude.{◌≡◌, ◌⊎◌, ℕ, ◌<◌, List, Some, slice_get, take}
use Rattle.model_history.specs.declared.op_id.OpId.{OpId}
use Rattle.model_history.specs.History.{IsOp}
use Rattle.order_memory.specs.Memory.{MemoryHistory}
use Rattle.order_memory.specs.Relations.{AreRivalWrites}
use Rattle.order_memory.specs.SourceOrder.{CountsSourceOrder, IsSource, SourceOrder}
use Rattle.order_causal.specs.Schedules.{placed, next_of}
use Rattle.order_causal.specs.Vectors.{Counts}
use Rattle.cert_check.specs.declared.certificate.Certificate.{Certificate}
use Rattle.cert_check.specs.declared.certificate.Certificate.TheVariants.{Cc, Cm, Ccv}

module _ (h : MemoryHistory) where
  -- the conflict relation by sources: a write that is before a read comes before the source of the read, where this is
  -- another write of its variable
  abbrev pub SourceConflict : OpId → OpId → Type 0
  SourceConflict a b = AreRivalWrites h a b × ((r : OpId) × SourceOrder h a r × IsSource h b r)

  -- a has to stand before b
  abbrev pub ComesFirst : OpId → OpId → Type 0
  ComesFirst a b = SourceOrder h a b ⊎ SourceConflict a b

  -- behind a list of session numbers the next operation of the session s is there, and all that has to stand before it
  -- is placed
  pub record CanStand (list : List ℕ) (s : ℕ) : Type 0 where
    pub there : IsOp h (next_of list s)
    pub ready : (a : OpId) → ComesFirst a (next_of list s) → a.index < placed list a.session

  -- at each place the list names the least session whose next operation can stand there
  pub record GoesByRule (list : List ℕ) : Type 0 where
    pub can : (k s : ℕ) → slice_get list k ≡ Some s → CanStand (take k list) s
    pub least : (k s t : ℕ) → slice_get list k ≡ Some s → t < s → ¬ CanStand (take k list) t

  -- the vectors are those of the order of program order and sources, and the list goes by the topological rule
  pub record AreByConflicts (v : Counts) (list : List ℕ) : Type 0 where
    pub order : CountsSourceOrder h v
    pub by_rule : GoesByRule list

-- such a certificate
abbrev pub IsByConflicts : MemoryHistory → Certificate → Type 0
IsByConflicts h (Cc vectors schedules) = ⊥
IsByConflicts h (Cm vectors schedules) = ⊥
IsByConflicts h (Ccv vectors arbitration) = AreByConflicts h vectors arbitration
