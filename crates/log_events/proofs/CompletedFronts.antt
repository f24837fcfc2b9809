-- A front of a history meets what the whole meets where it has, with each of its known reads, what that may have read.
use Rattle.std.proofs.Common.{◌≡◌, ℕ, ◌+◌, ◌-◌, ◌<◌, ◌≤◌, List, [], ◌++◌, length, map, drop, refl, ap, sym, ◌∙◌, ⊎_elim, arith}
use Rattle.std.specs.Prelude.{Some, slice_get, option_map}
use Rattle.std.specs.List.{range_with_len}
use Rattle.std.proofs.lemmas.Bool.{cases_lt}
use Rattle.std.proofs.lemmas.List.{get_or_past, nil_from_length}
use Rattle.std.proofs.lemmas.List.FromFn.{length-map-range_with_len, get_or-map-range_with_len}
use Rattle.std.proofs.lemmas.Option.{slice_get_within}
use Rattle.model_history.specs.declared.op_id.OpId.{OpId}
use Rattle.model_history.specs.History.{IsOp, session, entry}
use Rattle.order_causal.specs.Orders.{op}
use Rattle.order_memory.specs.Memory.{MemoryCall, MemoryHistory, memory_answer, Reads, Writes}
use Rattle.order_memory.proofs.MemoryLaws.{entry-call, write-of_history}
use Rattle.order_memory.proofs.RaiseLists.{at-left, at-right}
use Rattle.cert_check.specs.declared.criterion.Criterion.{Criterion}
use Rattle.cert_check.specs.Criteria.{Meets}
use Rattle.log_events.specs.Histories.{Operation}
use Rattle.log_events.proofs.FrontHistories.{Extends, IsFront, front-meets, whole-op}
use Rattle.log_events.proofs.ListPlaces.{append-cases, slice_get-drop, slice_get-found}

module _ (whole front : MemoryHistory) (is_front : IsFront whole front) where
  -- the front, and after it what the whole has there
  abbrev completed_session : ℕ → List Operation
  completed_session s = session front s ++ drop (length (session front s)) (session whole s)

  abbrev completed : MemoryHistory
  completed = (whole.0, map completed_session (range_with_len 0 (length whole.1)))

  front-within : (s : ℕ) → length whole.1 ≤ s → session front s ≡ []
  front-within s outside = nil_from_length (session front s) (⊎_elim
      (λ (some : 0 < length (session front s)).
      let inside : 0 < length (session whole s) = whole-op whole front is_front (op s 0) some in
      let empty : length (session whole s) ≡ 0 = ap (λ (es : List Operation). length es) (get_or_past whole.1 s [] outside) in
      omega arith)
      (λ (none : length (session front s) ≤ 0). omega arith)
      (cases_lt 0 (length (session front s))))

  completed-session : (s : ℕ) → session completed s ≡ completed_session s
  completed-session s = ⊎_elim
      (λ (inside : s < length whole.1). get_or-map-range_with_len completed_session 0 (length whole.1) s s [] inside (omega arith))
      (λ (outside : length whole.1 ≤ s).
      let size = length-map-range_with_len completed_session 0 (length whole.1) in
      get_or_past completed.1 s [] (omega arith)
      ∙ sym (ap (λ (es : List Operation). es ++ drop (length es) (session whole s)) (front-within s outside) ∙ get_or_past whole.1 s [] outside))
      (cases_lt s (length whole.1))

  completed-front : (o : OpId) (e : Operation) → entry front o ≡ Some e → entry completed o ≡ Some e
  completed-front o e at = ap (λ (es : List Operation). slice_get es o.index) (completed-session o.session)
      ∙ at-left (session front o.session) (drop (length (session front o.session)) (session whole o.session)) o.index e at

  -- an operation of the completed front is there in the whole
  completed-extended : (o : OpId) (e : Operation) → entry completed o ≡ Some e → (d : Operation) × (entry whole o ≡ Some d) × Extends e d
  completed-extended o e at =
      let n = length (session front o.session) in
      ⊎_elim
      (λ (first : entry front o ≡ Some e). is_front.extended o e first)
      (λ (second : (j : ℕ) × (o.index ≡ n + j) × (slice_get (drop n (session whole o.session)) j ≡ Some e)).
      (e, ap (slice_get (session whole o.session)) second.1 ∙ sym (slice_get-drop n (session whole o.session) second.0) ∙ second.2, (refl, λ r is. is)))
      (append-cases (session front o.session) (drop n (session whole o.session)) o.index e
      (ap (λ (es : List Operation). slice_get es o.index) (sym (completed-session o.session)) ∙ at))

  completed-op : (o : OpId) → IsOp whole o → IsOp completed o
  completed-op o is_op =
      let n = length (session front o.session) in
      ⊎_elim
      (λ (inside : o.index < n).
      let e = slice_get-found (session front o.session) o.index inside in
      slice_get_within (session completed o.session) o.index e.0 (completed-front o e.0 e.1))
      (λ (outside : n ≤ o.index).
      let e = slice_get-found (session whole o.session) o.index is_op in
      let place : o.index ≡ n + (o.index - n) = omega arith in
      slice_get_within (session completed o.session) o.index e.0
      (ap (λ (es : List Operation). slice_get es o.index) (completed-session o.session)
      ∙ at-right (session front o.session) (drop n (session whole o.session)) o.index (o.index - n) e.0 place
      (slice_get-drop n (session whole o.session) (o.index - n) ∙ ap (slice_get (session whole o.session)) (sym place) ∙ e.1)))
      (cases_lt o.index n)

  completed-writes : (w : OpId) (x v : ℕ) → Writes completed w x v → Writes whole w x v
  completed-writes w x v writes =
      let e = entry-call (entry completed w) _ writes in
      let d = completed-extended w _ e.1 in
      ap (option_map (λ (c : Operation). c.0)) d.1 ∙ ap (λ (c : MemoryCall). Some c) d.2.0

  completed-reads : (r : OpId) (x v : ℕ) → IsOp front r → Reads completed r x v → Reads front r x v
  completed-reads r x v is_op reads =
      let e = slice_get-found (session front r.session) r.index is_op in
      e.1 ∙ sym (completed-front r e.0 e.1) ∙ reads

  pub front-meets_own : ((w r : OpId) (x v : ℕ) → Writes whole w x v → Reads front r x v → IsOp front w)
      → (criterion : Criterion) → Meets memory_answer whole criterion → Meets memory_answer front criterion
  front-meets_own keeps criterion met =
      front-meets completed front (record { start = is_front.start; extended = λ o e at. (e, completed-front o e at, (refl, λ r is. is)) })
      (λ w r x v writes reads is_op. keeps w r x v (completed-writes w x v writes) (completed-reads r x v is_op reads)) criterion
      (front-meets whole completed (record { start = refl; extended = completed-extended })
      (λ w r x v writes _ _. completed-op w (write-of_history whole w x v writes)) criterion met)
