-- A history of the first operations of each session, where some returns may be unknown, meets what the whole meets.
use Rattle.std.proofs.Common.{◌≡◌, ℕ, suc, ◌<◌, ◌≤◌, List, [], ◌∷◌, length, map, take, refl, ap, ap₂, sym, ◌∙◌, ⊎_elim, arith}
use Rattle.std.specs.Prelude.{Option, Some, None, slice_get, filter, option_map}
use Rattle.std.specs.List.{range_with_len, cons_option}
use Rattle.std.proofs.lemmas.Bool.{cases_lt}
use Rattle.std.proofs.lemmas.List.{get_or_past}
use Rattle.std.proofs.lemmas.List.FromFn.{length-map-range_with_len, get_or-map-range_with_len}
use Rattle.std.proofs.lemmas.Option.{slice_get_within}
use Rattle.model_objects.specs.declared.register.RegisterRet.{RegisterRet}
use Rattle.model_history.specs.declared.op_id.OpId.{OpId}
use Rattle.model_history.specs.History.{IsOp, session, entry, calls}
use Rattle.order_causal.specs.Orders.{Ops, Order, only, program_past, past, StandsAt, IsLinearization}
use Rattle.order_causal.proofs.Fronts.{take-from, take-stands}
use Rattle.order_memory.specs.Memory.{MemoryCall, MemoryHistory, memory_answer, Reads, Writes}
use Rattle.cert_check.specs.declared.criterion.Criterion.{Criterion}
use Rattle.cert_check.specs.declared.criterion.Criterion.TheVariants.{Cc, Cm, Ccv}
use Rattle.cert_check.specs.Criteria.{every, IsCausalOrder, Explains, ExplainsEachPast, Meets}
use Rattle.cert_check.proofs.Counting.{past-of_history}
use Rattle.cert_check.proofs.Pasts.{every-op, op-every}
use Rattle.cert_check.proofs.FilteredLaws.{filter_from}
use Rattle.cert_subhistories.proofs.Cuts.{meets-cut}
use Rattle.cert_subhistories.proofs.Embeddings.{IsEmbedded}
use Rattle.log_events.specs.Histories.{Operation}
use Rattle.log_events.proofs.ListPlaces.{slice_get-found}
use Rattle.log_events.proofs.UnreadOperations.{writes-keep_answers}

-- d has the call of e, and its return where that is known
abbrev pub Extends : Operation → Operation → Type 0
Extends e d = (d.0 ≡ e.0) × ((r : RegisterRet) → e.1 ≡ Some r → d.1 ≡ Some r)

pub open-extends : (c : MemoryCall) (known : Option RegisterRet) (e : Operation) → (c, None) ≡ e → Extends e (c, known)
open-extends c known e same = (ap (λ (d : Operation). d.0) same, λ r is. let wrong : None ≡ Some r = ap (λ (d : Operation). d.1) same ∙ is in absurd cc)

-- each operation of the front extends to the one at its place in the whole
pub record IsFront (whole front : MemoryHistory) : Type 0 where
  pub start : front.0 ≡ whole.0
  pub extended : (o : OpId) (e : Operation) → entry front o ≡ Some e → (d : Operation) × (entry whole o ≡ Some d) × Extends e d

module _ (whole front : MemoryHistory) (is_front : IsFront whole front) where
  -- the front with all the returns of the whole
  abbrev full_front : MemoryHistory
  full_front = (whole.0, map (λ s. take (length (session front s)) (session whole s)) (range_with_len 0 (length front.1)))

  full_front-session : (s : ℕ) → session full_front s ≡ take (length (session front s)) (session whole s)
  full_front-session s = ⊎_elim
      (λ (inside : s < length front.1).
      get_or-map-range_with_len (λ s. take (length (session front s)) (session whole s)) 0 (length front.1) s s [] inside (omega arith))
      (λ (outside : length front.1 ≤ s).
      let size = length-map-range_with_len (λ s. take (length (session front s)) (session whole s)) 0 (length front.1) in
      let empty : session front s ≡ [] = get_or_past front.1 s [] outside in
      get_or_past full_front.1 s [] (omega arith) ∙ sym (ap (λ (es : List Operation). take (length es) (session whole s)) empty))
      (cases_lt s (length front.1))

  pub whole-op : (o : OpId) → IsOp front o → IsOp whole o
  whole-op o is_op =
      let e = slice_get-found (session front o.session) o.index is_op in
      let d = is_front.extended o e.0 e.1 in
      slice_get_within (session whole o.session) o.index d.0 d.1

  full_front-entry : (o : OpId) → IsOp front o → entry full_front o ≡ entry whole o
  full_front-entry o is_op =
      let d = slice_get-found (session whole o.session) o.index (whole-op o is_op) in
      ap (λ (es : List Operation). slice_get es o.index) (full_front-session o.session)
      ∙ take-stands (length (session front o.session)) (session whole o.session) o.index d.0 is_op d.1 ∙ sym d.1

  full_front-op : (o : OpId) → IsOp front o → IsOp full_front o
  full_front-op o is_op =
      let d = slice_get-found (session whole o.session) o.index (whole-op o is_op) in
      slice_get_within (session full_front o.session) o.index d.0 (full_front-entry o is_op ∙ d.1)

  front-op : (o : OpId) → IsOp full_front o → IsOp front o
  front-op o is_op =
      let d = slice_get-found (session full_front o.session) o.index is_op in
      (take-from (length (session front o.session)) (session whole o.session) o.index d.0
      (ap (λ (es : List Operation). slice_get es o.index) (sym (full_front-session o.session)) ∙ d.1)).0

  embedded : IsEmbedded whole full_front (every full_front) (λ o. o) (λ o. o)
  embedded = record {
    start = refl;
    is_kept = λ a is_op. op-every full_front a is_op;
    same_entry = λ a is_op. sym (full_front-entry a (front-op a is_op));
    is_op = λ a is_op. whole-op a (front-op a is_op);
    back = λ a is_op. refl;
    in_part = λ b is_op kept. every-op full_front b kept;
    forth = λ b is_op kept. refl;
    in_order = λ a b is_op before. before;
  }

  -- what is met with all returns is met with those of the front
  same-calls : (ops : List OpId) → ((k : ℕ) (a : OpId) → StandsAt ops k a → IsOp front a) → calls full_front ops ≡ calls front ops
  same-calls [] are = refl
  same-calls (b ∷ ops) are =
      let is_op = are 0 b refl in
      let e = slice_get-found (session front b.session) b.index is_op in
      let d = is_front.extended b e.0 e.1 in
      let one : option_map (λ (x : Operation). x.0) (entry full_front b) ≡ option_map (λ (x : Operation). x.0) (entry front b) =
      ap (option_map (λ (x : Operation). x.0)) (full_front-entry b is_op ∙ d.1) ∙ ap (λ (c : MemoryCall). Some c) d.2.0 ∙ sym (ap (option_map (λ (x : Operation). x.0)) e.1) in
      ap₂ (λ (o : Option MemoryCall) (cs : List MemoryCall). cons_option o cs) one (same-calls ops (λ k. are (suc k)))

  shown-explains : (ops : List OpId) (shown : Ops) → ((k : ℕ) (a : OpId) → StandsAt ops k a → IsOp front a)
      → Explains memory_answer full_front ops shown → Explains memory_answer front ops shown
  shown-explains ops shown are explains k o c r at among is =
      let d = is_front.extended o (c, Some r) is in
      let known : entry full_front o ≡ Some (c, Some r) =
      full_front-entry o (are k o at) ∙ d.1 ∙ (λ i. Some (d.2.0 i, d.2.1 r refl i)) in
      explains k o c r at among known
      ∙ ap (λ (start : List (ℕ × ℕ)). memory_answer start (calls full_front (take k ops)) c) (sym is_front.start)
      ∙ ap (λ (cs : List MemoryCall). memory_answer front.0 cs c) (same-calls (take k ops) (λ j a there. are j a (take-from k ops j a there).1))

  shown-causal : (co : Order) → IsCausalOrder full_front co → IsCausalOrder front co
  shown-causal co causal = record {
    of_history = λ a b before. let r = causal.of_history a b before in (front-op a r.0, front-op b r.1);
    transitive = causal.transitive;
    irreflexive = causal.irreflexive;
    program_order = λ a b is_op before. causal.program_order a b (full_front-op b is_op) before;
  }

  shown-each : (kept : OpId → Ops) → ExplainsEachPast memory_answer full_front kept → ExplainsEachPast memory_answer front kept
  shown-each kept (co, causal, each) = (
    co,
    shown-causal co causal,
    λ o is_op.
        let r = each o (full_front-op o is_op) in
        (r.0, r.1, shown-explains r.0 (kept o) (λ k a at. past-of_history front co (shown-causal co causal) o a is_op (r.1.no_other k a at)) r.2),
  )

  every-front : (arb : List OpId) (co : Order) → IsLinearization (every full_front) co arb → IsLinearization (every front) co arb
  every-front arb co linear = record {
    each = λ a inside. linear.each a (op-every full_front a (full_front-op a (every-op front a inside)));
    no_other = λ k a at. op-every front a (front-op a (every-op full_front a (linear.no_other k a at)));
    once = linear.once;
    ordered = linear.ordered;
  }

  shown-meets : (criterion : Criterion) → Meets memory_answer full_front criterion → Meets memory_answer front criterion
  shown-meets Cc = shown-each only
  shown-meets Cm = shown-each program_past
  shown-meets Ccv = λ met. (
    met.0,
    met.1,
    shown-causal met.0 met.2,
    every-front met.1 met.0 met.3,
    λ o is_op.
        shown-explains (filter (past met.0 o) met.1) (only o)
        (λ k a at. let r = filter_from (past met.0 o) met.1 k a at in front-op a (every-op full_front a (met.3.no_other r.0 a r.1)))
        (met.4 o (full_front-op o is_op)),
  )

  -- the front meets what the whole meets where it has, with each read of it whose return the whole knows, what that may have read
  pub front-meets : ((w r : OpId) (x v : ℕ) → Writes whole w x v → Reads whole r x v → IsOp front r → IsOp front w)
      → (criterion : Criterion) → Meets memory_answer whole criterion → Meets memory_answer front criterion
  front-meets keeps criterion met =
      shown-meets criterion (meets-cut memory_answer whole full_front (every full_front) (λ o. o) (λ o. o) embedded
      (writes-keep_answers whole (every full_front)
      (λ w r x v writes reads kept. op-every full_front w (full_front-op w (keeps w r x v writes reads (front-op r (every-op full_front r kept))))))
      criterion met)
