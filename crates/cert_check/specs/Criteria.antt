-- The three criteria of Bouajjani, Enea, Guerraoui and Hamza ("On Verifying Causal Consistency", POPL 2017, section 3),
-- for a history h and what its object answers from a start after earlier calls.
use Rattle.std.specs.Prelude.{◌≡◌, ℕ, IsTrue, List, Some, filter, length, take, nat_lt}
use Rattle.model_history.specs.declared.op_id.OpId.{OpId}
use Rattle.model_history.specs.History.{HistoryValue, IsOp, Precedes, session, entry, calls}
use Rattle.cert_check.specs.declared.criterion.Criterion.{Criterion}
use Rattle.cert_check.specs.declared.criterion.Criterion.TheVariants.{Cc, Cm, Ccv}
use Rattle.order_causal.specs.Orders.{Ops, Order, only, program_past, past, StandsAt, IsLinearization}

module _ {S C R : Type 0} where
  -- all operations of a history
  abbrev pub every : HistoryValue S C R → Ops
  every h a = nat_lt a.index (length (session h a.session))

  -- a causal order: a strict partial order on the operations of h that contains program order
  pub record IsCausalOrder (h : HistoryValue S C R) (co : Order) : Type 0 where
    pub of_history : (a b : OpId) → IsTrue (co a b) → IsOp h a × IsOp h b
    pub transitive : (a b c : OpId) → IsTrue (co a b) → IsTrue (co b c) → IsTrue (co a c)
    pub irreflexive : (a : OpId) → ¬ IsTrue (co a a)
    pub program_order : (a b : OpId) → IsOp h b → Precedes a b → IsTrue (co a b)

module _ {S C R : Type 0} (answer : S → List C → C → R) (h : HistoryValue S C R) where
  -- in the list ops the known return of each operation of the set is the answer after the calls before it; the returns
  -- of all other operations are hidden
  abbrev pub Explains : List OpId → Ops → Type 0
  Explains ops set =
      (k : ℕ) (o : OpId) (c : C) (r : R) → StandsAt ops k o → IsTrue (set o) → entry h o ≡ Some (c, Some r)
      → r ≡ answer h.0 (calls h (take k ops)) c

  -- under some causal order the past of each operation has a linearization that explains what is kept of it
  abbrev pub ExplainsEachPast : (OpId → Ops) → Type 0
  ExplainsEachPast kept =
      (co : Order) × IsCausalOrder h co
      × ((o : OpId) → IsOp h o → (ops : List OpId) × IsLinearization (past co o) co ops × Explains ops (kept o))

  -- causal consistency: of the past of an operation its own return is kept
  abbrev pub IsCausallyConsistent : Type 0
  IsCausallyConsistent = ExplainsEachPast only

  -- causal memory (Ahamad, Neiger, Burns, Kohli, Hutto, "Causal memory", 1995): of the past of an operation the returns
  -- of its session are kept
  abbrev pub IsCausalMemory : Type 0
  IsCausalMemory = ExplainsEachPast program_past

  -- causal convergence: one list of all operations, arb, explains each of them where it is cut to its past
  abbrev pub IsCausallyConvergent : Type 0
  IsCausallyConvergent =
      (co : Order) × (arb : List OpId) × IsCausalOrder h co × IsLinearization (every h) co arb
      × ((o : OpId) → IsOp h o → Explains (filter (past co o) arb) (only o))

  -- the history meets a criterion
  abbrev pub Meets : Criterion → Type 0
  Meets Cc = IsCausallyConsistent
  Meets Cm = IsCausalMemory
  Meets Ccv = IsCausallyConvergent
