-- One operation more in a session of a part, and one session more in a part.
use Rattle.std.proofs.Common.{◌≡◌, ℕ, ◌+◌, ◌-◌, ◌<◌, ◌≤◌, List, [], ◌∷◌, ◌++◌, length, Some, None, Option, sym, ap, subst, ◌∙◌, arith, ⊎_elim, ◌⊎◌, inl, inr, get_or, length-append}
use Rattle.std.specs.Prelude.{slice_get}
use Rattle.std.proofs.lemmas.Bool.{cases_lt}
use Rattle.std.proofs.lemmas.Option.{slice_get_within, slice_get-get_or}
use Rattle.model_objects.specs.declared.register.RegisterRet.{RegisterRet}
use Rattle.model_objects.specs.Register.{matches}
use Rattle.model_history.specs.declared.limits.TheConstants.{MAX_OPERATIONS, MAX_SESSIONS}
use Rattle.order_memory.specs.Memory.{MemoryCall}
use Rattle.order_causal.proofs.Fronts.{push-at, push-last}
use Rattle.judge_memory.specs.LongHistories.{IsLongSession}
use Rattle.json_histories.proofs.HistoryReading.{one_more_session}
use Rattle.judge_cores.specs.Parts.{AreFewSessions, CanFollow, IsMemorySession}

abbrev Entry : Type 0
Entry = MemoryCall × Option RegisterRet

size : (es : List Entry) (e : Entry) → length (es ++ e ∷ []) ≡ length es + 1
size es e = length-append es (e ∷ [])

module _ (es : List Entry) (e : Entry) (i : ℕ) (x : Entry) (at : slice_get (es ++ e ∷ []) i ≡ Some x) where
  -- what stands in a list with one element more stands in the list, or is that one
  before_or_last : (slice_get es i ≡ Some x) ⊎ ((i ≡ length es) × (e ≡ x))
  before_or_last = ⊎_elim
      (λ (below : i < length es). inl (push-at es e i x below at))
      (λ (above : length es ≤ i).
      let within = slice_get_within (es ++ e ∷ []) i x at in
      let long = size es e in
      let last : i ≡ length es = omega arith in
      inr (last, push-last es e x (subst (λ (k : ℕ). slice_get (es ++ e ∷ []) k ≡ Some x) last at)))
      (cases_lt i (length es))

-- nothing of a session is unknown where a known return can follow
all_known : (es : List Entry) (e : Entry) (i : ℕ) (c d : MemoryCall) (r : RegisterRet) → IsMemorySession es → CanFollow es e
    → slice_get es i ≡ Some (c, None) → e ≡ (d, Some r) → ⊥
all_known es e i c d r is follows unknown known =
    let by_last : (f : MemoryCall) (s : Option RegisterRet) → slice_get es (length es - 1) ≡ Some (f, s) → i + 1 < length es → ⊥ = λ f. elim [
      | None ↦ λ last inner. follows (length es - 1) f d r (omega arith) last known
      | Some s ↦ λ last inner. is.known_first i (length es - 1) c f s (omega arith) unknown last
    ] in
    let within = slice_get_within es i (c, None) unknown in
    ⊎_elim
    (λ (inner : i + 1 < length es).
    by_last (get_or es (length es - 1) e).0 (get_or es (length es - 1) e).1 (slice_get-get_or es (length es - 1) e (omega arith)) inner)
    (λ (at_end : length es ≤ i + 1). follows i c d r (omega arith) unknown known)
    (cases_lt (i + 1) (length es))

-- a session with one operation more
pub operation_more : (session es : List Entry) (e : Entry) (k : ℕ) → IsLongSession (λ c. matches c.call) session → slice_get session k ≡ Some e
    → IsMemorySession es → length es < MAX_OPERATIONS → CanFollow es e → IsMemorySession (es ++ e ∷ [])
operation_more session es e k whole of_session is few follows = record {
  short = let before = is.short in let long = size es e in omega arith;
  fitting = λ i c r at. ⊎_elim
      (λ (before : slice_get es i ≡ Some (c, Some r)). is.fitting i c r before)
      (λ (last : (i ≡ length es) × (e ≡ (c, Some r))). whole.fitting k c r (of_session ∙ ap Some last.1))
      (before_or_last es e i (c, Some r) at);
  known_first = λ i j c d r below unknown known. ⊎_elim
      (λ (before : slice_get es j ≡ Some (d, Some r)).
      let inside = slice_get_within es j (d, Some r) before in
      is.known_first i j c d r below (push-at es e i (c, None) (omega arith) unknown) before)
      (λ (last : (j ≡ length es) × (e ≡ (d, Some r))).
      all_known es e i c d r is follows (push-at es e i (c, None) (omega arith) unknown) last.1)
      (before_or_last es e j (d, Some r) known);
}

-- a part with one session more
pub session_more : (sessions more : List (List Entry)) (es : List Entry) → AreFewSessions sessions → length sessions < MAX_SESSIONS → IsMemorySession es
    → more ≡ sessions ++ es ∷ [] → AreFewSessions more
session_more sessions more es are few is same = subst AreFewSessions (sym same) (record {
  few = let before = are.few in let long : length (sessions ++ es ∷ []) ≡ length sessions + 1 = length-append sessions (es ∷ []) in omega arith;
  each = one_more_session (λ c. matches c.call) sessions es are.each is;
})
