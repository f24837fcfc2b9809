-- There is a certificate by conflicts, where nothing has to stand before itself.
use Rattle.std.specs.Prelude.{◌≡◌, ◌≢◌, ◌⊎◌, ℕ, ◌+◌, ◌<◌, ◌≤◌, List, [], ◌∷◌, ◌++◌, length, Option, Some, None, IfOk, IfNone, IsSome}
use Rattle.std.specs.List.{range_with_len}
use Rattle.std.proofs.Common.{zero, suc, arith, get_or, map, sym, subst, inl, inr, ⊎_elim, refl, Result, Ok, Err}
use Rattle.std.proofs.lemmas.Bool.{cases_eq, cases_lt}
use Rattle.std.proofs.lemmas.List.FromFn.{get_or-map-range_with_len}
use Rattle.model_history.specs.declared.op_id.OpId.{OpId}
use Rattle.model_history.specs.History.{IsOp, session}
use Rattle.order_memory.specs.Memory.{MemoryHistory, memory_answer}
use Rattle.order_memory.specs.OverwrittenReads.{HasOverwrittenStart}
use Rattle.order_memory.specs.Relations.{AreRivalWrites, CO, CF}
use Rattle.order_causal.specs.Orders.{Leads}
use Rattle.order_memory.specs.SourceOrder.{CountsSourceOrder, IsCyclic, IsSource, LacksSource, SourceOrder}
use Rattle.order_causal.specs.Schedules.{placed, next_of}
use Rattle.order_causal.specs.Vectors.{Counts}
use Rattle.order_memory.proofs.FirstWrites.{CO-from_sources}
use Rattle.order_causal.proofs.Fronts.{each-push}
use Rattle.order_memory.proofs.MemoryLaws.{read-of_history}
use Rattle.order_memory.proofs.OrderDecisions.{rivals-decided, source-decided, before-decided}
use Rattle.order_causal.proofs.OrdersLaws.{session-of_history}
use Rattle.order_memory.proofs.ReadAnswers.{Fits}
use Rattle.order_causal.proofs.PathsLaws.{leads-edge, leads-leads, leads-wider}
use Rattle.order_causal.proofs.Searches.{IsDecided, both-decided, either-decided, least, some_operation}
use Rattle.order_memory.proofs.VectorsExist.{vectors-exist}
use Rattle.order_causal.proofs.WaitingCycles.{waiting-cycle}
use Rattle.order_causal.proofs.Walked.{placed-other, room, room-push}
use Rattle.order_causal.proofs.TopologicalLaws.{placed-same}
use Rattle.cert_check.specs.declared.certificate.Certificate.TheVariants.{Ccv}
use Rattle.cert_check.specs.Criteria.{IsCausallyConvergent}
use Rattle.cert_check.proofs.Sound.{explained-meets}
use Rattle.cert_make_ccv.specs.ByConflicts.{SourceConflict, ComesFirst, CanStand, GoesByRule}
use Rattle.cert_make_ccv.proofs.FirstOperations.{IsOpen, first-of_history, waits-for}
use Rattle.cert_make_ccv.proofs.Explained.{conflicts-explain}

module _ (h : MemoryHistory) (v : Counts) (order : CountsSourceOrder h v) where
  -- a read from b that comes behind a
  abbrev IsBetween : OpId → OpId → OpId → Type 0
  IsBetween a b r = SourceOrder h a r × IsSource h b r

  between-decided : (a b r : OpId) → IsDecided (IsBetween a b r)
  between-decided a b r = ⊎_elim
      (λ (source : IsSource h b r). ⊎_elim
      (λ (before : SourceOrder h a r). inl (before, source))
      (λ (none : ¬ SourceOrder h a r). inr (λ between. none between.0))
      (before-decided h v order a r (read-of_history h r source.0.0 source.0.1 source.0.3)))
      (λ (none : ¬ IsSource h b r). inr (λ between. none between.1))
      (source-decided h v order b r)

  conflict-decided : (a b : OpId) → IsDecided (SourceConflict h a b)
  conflict-decided a b = both-decided (AreRivalWrites h a b) ((r : OpId) × SourceOrder h a r × IsSource h b r) (rivals-decided h a b)
      (⊎_elim
      (λ (found : (r : OpId) × IsOp h r × IsBetween a b r). inl (found.0, found.2.0, found.2.1))
      (λ (none : (r : OpId) → IsOp h r → ¬ IsBetween a b r). inr (λ found.
      let source = found.2 in
      none found.0 (read-of_history h found.0 source.0.0 source.0.1 source.0.3) (found.1, source)))
      (some_operation h (IsBetween a b) (between-decided a b)))

  first-decided : (a b : OpId) → IsOp h b → IsDecided (ComesFirst h a b)
  first-decided a b is_op =
      either-decided (SourceOrder h a b) (SourceConflict h a b) (before-decided h v order a b is_op) (conflict-decided a b)

  module _ (list : List ℕ) where
    -- an operation that isn't placed and has to stand before the next one of the session s
    abbrev IsMissing : ℕ → OpId → Type 0
    IsMissing s a = (placed list a.session ≤ a.index) × ComesFirst h a (next_of list s)

    missing-decided : (s : ℕ) → IsOp h (next_of list s) → (a : OpId) → IsDecided (IsMissing s a)
    missing-decided s is_op a = both-decided (placed list a.session ≤ a.index) (ComesFirst h a (next_of list s))
        (⊎_elim
        (λ (there : a.index < placed list a.session). inr (λ above. omega arith))
        (λ (above : placed list a.session ≤ a.index). inl above)
        (cases_lt a.index (placed list a.session)))
        (first-decided a (next_of list s) is_op)

    -- the next operation of a session can stand, or one is missing
    stand-cases : (s : ℕ) → IsOp h (next_of list s) → CanStand h list s ⊎ ((a : OpId) × IsMissing s a)
    stand-cases s is_op = ⊎_elim
        (λ (found : (a : OpId) × IsOp h a × IsMissing s a). inr (found.0, found.2))
        (λ (none : (a : OpId) → IsOp h a → ¬ IsMissing s a). inl (record {
          there = is_op;
          ready = λ a first. ⊎_elim
              (λ (below : a.index < placed list a.session). below)
              (λ (above : placed list a.session ≤ a.index). absurd (none a (first-of_history h a (next_of list s) first) (above, first)))
              (cases_lt a.index (placed list a.session));
        }))
        (some_operation h (IsMissing s) (missing-decided s is_op))

    stand-decided : (s : ℕ) → IsDecided (CanStand h list s)
    stand-decided s = ⊎_elim
        (λ (is_op : placed list s < length (session h s)). ⊎_elim
        (λ (can : CanStand h list s). inl can)
        (λ (missing : (a : OpId) × IsMissing s a). inr (λ can.
        let ready = can.ready missing.0 missing.1.1 in
        let above = missing.1.0 in
        omega arith))
        (stand-cases s is_op))
        (λ (past : length (session h s) ≤ placed list s). inr (λ can. let there = can.there in omega arith))
        (cases_lt (placed list s) (length (session h s)))

    -- where none can stand and one isn't placed, one has to stand before itself
    stuck-cycle : ((s : ℕ) → ¬ CanStand h list s) → (s : ℕ) → placed list s < length (session h s) → (a : OpId) × Leads (ComesFirst h) a a
    stuck-cycle none = waiting-cycle (IsOpen h list) (next_of list) (Leads (ComesFirst h)) (length h.1)
        (λ t open_t. session-of_history h (next_of list t) open_t)
        (λ s open_s. ⊎_elim
        (λ (can : CanStand h list s). absurd (none s can))
        (λ (missing : (a : OpId) × IsMissing s a).
        waits-for h list s missing.0.session missing.0.index missing.1.0 missing.1.1)
        (stand-cases s open_s))
        (leads-leads (ComesFirst h))

  -- how many operations each session has
  lengths : List ℕ
  lengths = map (λ s. length (session h s)) (range_with_len 0 (length h.1))

  length-at : (s : ℕ) → s < length h.1 → get_or lengths s 0 ≡ length (session h s)
  unfolding lengths
  length-at s below = get_or-map-range_with_len (λ t. length (session h t)) 0 (length h.1) s s 0 below (omega arith)

  -- the rule, where it is gone by so far and the next one can stand
  rule-push : (list : List ℕ) (s : ℕ) → GoesByRule h list → CanStand h list s → ((t : ℕ) → t < s → ¬ CanStand h list t)
      → GoesByRule h (list ++ s ∷ [])
  rule-push list s rule can least_one = record {
    can = each-push (CanStand h) list s rule.can can;
    least = λ k r t here below. each-push (λ xs q. (u : ℕ) → u < q → ¬ CanStand h xs u) list s
        (λ j q at u less. rule.least j q u at less) least_one k r here t below;
  }

  within-push : (list : List ℕ) (s : ℕ) → ((t : ℕ) → placed list t ≤ length (session h t)) → placed list s < length (session h s)
      → (t : ℕ) → placed (list ++ s ∷ []) t ≤ length (session h t)
  within-push list s within below t = ⊎_elim
      (λ (same : t ≡ s).
      let more = placed-same list s in
      subst (λ (r : ℕ). placed (list ++ s ∷ []) r ≤ length (session h r)) (sym same) (omega arith))
      (λ (apart : t ≢ s). let other = placed-other list s t apart in let old = within t in omega arith)
      (cases_eq t s)

  module _ (acyclic : (a : OpId) → ¬ Leads (ComesFirst h) a a) where
    -- a list by the rule of all operations
    abbrev IsWhole : List ℕ → Type 0
    IsWhole list = GoesByRule h list × ((s : ℕ) → placed list s ≡ length (session h s))

    whole-from : (n : ℕ) (list : List ℕ) → GoesByRule h list → ((s : ℕ) → placed list s ≤ length (session h s))
        → room (length h.1) lengths list < n → (whole : List ℕ) × IsWhole whole
    whole-from zero list rule within few = absurd (omega arith)
    whole-from (suc n) list rule within few = ⊎_elim
        (λ (next : (s : ℕ) × (s < length h.1) × CanStand h list s × ((t : ℕ) → t < s → ¬ CanStand h list t)).
        let there = next.2.there in
        let limit = length-at next.0 next.1 in
        let less = room-push (length h.1) lengths list next.0 next.1 (omega arith) in
        whole-from n (list ++ next.0 ∷ []) (rule-push list next.0 rule next.2 next.3) (within-push list next.0 within there) (omega arith))
        (λ (none : (s : ℕ) → s < length h.1 → ¬ CanStand h list s). (
          list,
          (
            rule,
            λ s. ⊎_elim
                (λ (open_s : placed list s < length (session h s)).
                let cycle = stuck-cycle list (λ t can. none t (session-of_history h (next_of list t) can.there) can) s open_s in
                absurd (acyclic cycle.0 cycle.1))
                (λ (all : length (session h s) ≤ placed list s). let most = within s in omega arith)
                (cases_lt (placed list s) (length (session h s))),
          ),
        ))
        (least (CanStand h list) (stand-decided list) (length h.1))

    rule-none : GoesByRule h []
    rule-none = record {
      can = λ k s here. absurd cc;
      least = λ k s t here. absurd cc;
    }

    whole-list : (whole : List ℕ) × IsWhole whole
    whole-list = whole-from (room (length h.1) lengths [] + 1) [] rule-none (λ s. omega arith) (omega arith)

    -- the certificate shows causal convergence, where no read of an initial value comes too late
    certificate-meets : Fits h → ¬ HasOverwrittenStart h → IsCausallyConvergent memory_answer h
    certificate-meets fits start =
        let whole = whole-list in
        explained-meets memory_answer h (Ccv v whole.0) (order.vectors, whole.1.1)
        (conflicts-explain h fits start (Ccv v whole.0) (order.vectors, whole.1.1)
        (record { order = order; by_rule = whole.1.0 }))

-- what has to stand before what is in the causal order or a conflict
pub first-conflict : (h : MemoryHistory) (a b : OpId) → ComesFirst h a b → CO h a b ⊎ CF h a b
first-conflict h a b = ⊎_elim
    (λ (before : SourceOrder h a b). inl (CO-from_sources h a b before))
    (λ (conflict : SourceConflict h a b).
    let r = conflict.1 in
    inr (conflict.0, (r.0, CO-from_sources h a r.0 r.1, r.2.0)))

-- a history with no bad pattern against causal convergence meets it
pub convergence-met : (h : MemoryHistory) → Fits h → ¬ LacksSource h → ¬ HasOverwrittenStart h
    → ((a : OpId) → ¬ Leads (λ b c. CO h b c ⊎ CF h b c) a a) → IsCausallyConvergent memory_answer h
convergence-met h fits present start acyclic =
    let none : (a : OpId) → ¬ Leads (ComesFirst h) a a =
    λ a cycle. acyclic a (leads-wider (ComesFirst h) (λ b c. CO h b c ⊎ CF h b c) (first-conflict h) a a cycle) in
    let no_cycle : ¬ IsCyclic h =
    λ cyclic. acyclic cyclic.0 (leads-edge (λ b c. CO h b c ⊎ CF h b c) cyclic.0 cyclic.0 (inl cyclic.1)) in
    let vectors = vectors-exist h no_cycle present in
    certificate-meets h vectors.0 vectors.1 none fits start

-- there is something where what has to be so of nothing is not
pub some-unless : {A E : Type 0} (r : Result (Option A) E) (P : Type 0) → ¬ P → IfOk r (λ o. IfNone o P) → IfOk r (λ o. IsSome o)
some-unless (Ok None) P unless p = absurd (unless p)
some-unless (Ok (Some x)) P unless p = refl
some-unless (Err e) P unless p = p
