-- The part of a history is a history.
use Rattle.std.proofs.Common.{◌≡◌, ℕ, ◌<◌, ◌≤◌, Bool, List, [], length, map, get_or, ap, sym, subst, ◌∙◌, ⊎_elim, arith, zero-add}
use Rattle.std.specs.Prelude.{Option, Some, None, filter}
use Rattle.std.specs.List.{enumerate_from}
use Rattle.std.proofs.lemmas.Bool.{cases_lt}
use Rattle.std.proofs.lemmas.List.{get_or-map, get_or_past, length-map}
use Rattle.std.proofs.lemmas.List.FromFn.{length-enumerate_from, get_or-enumerate_from}
use Rattle.model_history.specs.declared.op_id.OpId.{OpId}
use Rattle.model_history.specs.History.{HistoryValue, IsHistory, IsSession, session}
use Rattle.cert_subhistories.specs.Parts.{kept_of_session, part_by}
use Rattle.cert_subhistories.proofs.KeptLists.{filter-shorter}
use Rattle.cert_subhistories.proofs.KeptParts.{is_kept, place_of, kept_from, kept-in_order}

module _ {C R : Type 0} (kept : OpId → C → Bool) where
  kept-is_session : (fits : C → R → Bool) (s : ℕ) (es : List (C × Option R)) → IsSession fits es → IsSession fits (kept_of_session kept s es)
  kept-is_session fits s es whole = record {
    short =
        let few = filter-shorter (is_kept kept s) (enumerate_from 0 es) in
        let size = length-map (filter (is_kept kept s) (enumerate_from 0 es)) (λ (e : ℕ × (C × Option R)). e.1) in
        let all = length-enumerate_from 0 es in
        let short = whole.short in
        omega arith;
    fitting = λ i c r at. whole.fitting (place_of kept s es i) c r (kept_from kept s es i (c, Some r) at).0;
    known_first = λ i j c d r below unknown known.
        whole.known_first (place_of kept s es i) (place_of kept s es j) c d r (kept-in_order kept s es i j (c, None) (d, Some r) below unknown known)
        (kept_from kept s es i (c, None) unknown).0 (kept_from kept s es j (d, Some r) known).0;
  }

module _ {S C R : Type 0} (kept : OpId → C → Bool) (h : HistoryValue S C R) where
  -- a session of the part is what is kept of the session
  pub session-of_part : (s : ℕ) → session (part_by kept h) s ≡ kept_of_session kept s (session h s)
  session-of_part s = ⊎_elim
      (λ (inside : s < length h.1).
      let long : s < length (enumerate_from 0 h.1) = rw (length-enumerate_from 0 h.1) inside in
      get_or-map (λ (e : ℕ × List (C × Option R)). kept_of_session kept e.0 e.1) (enumerate_from 0 h.1) s (s, []) [] long
      ∙ ap (λ (e : ℕ × List (C × Option R)). kept_of_session kept e.0 e.1)
      (get_or-enumerate_from 0 h.1 s (s, []) inside ∙ ap (λ (k : ℕ). (k, get_or h.1 s [])) (zero-add s)))
      (λ (outside : length h.1 ≤ s).
      let none : get_or (map (λ (e : ℕ × List (C × Option R)). kept_of_session kept e.0 e.1) (enumerate_from 0 h.1)) s [] ≡ [] =
      get_or_past (map (λ (e : ℕ × List (C × Option R)). kept_of_session kept e.0 e.1) (enumerate_from 0 h.1)) s []
      (rw (length-map (enumerate_from 0 h.1) (λ (e : ℕ × List (C × Option R)). kept_of_session kept e.0 e.1), length-enumerate_from 0 h.1) outside) in
      none ∙ ap (kept_of_session kept s) (sym (get_or_past h.1 s [] outside)))
      (cases_lt s (length h.1))

  pub part-is_history : (is_start : S → Type 0) (fits : C → R → Bool) → IsHistory is_start fits h → IsHistory is_start fits (part_by kept h)
  part-is_history is_start fits whole = record {
    start = whole.start;
    few = rw (length-map (enumerate_from 0 h.1) (λ (e : ℕ × List (C × Option R)). kept_of_session kept e.0 e.1), length-enumerate_from 0 h.1) whole.few;
    each = λ s. subst (λ (es : List (C × Option R)). IsSession fits es) (sym (session-of_part s))
        (kept-is_session kept fits s (session h s) (whole.each s));
  }

  -- so is what is made of its start and of its sessions
  pub made-is_history : (is_start : S → Type 0) (fits : C → R → Bool) (start : S) (lists : List (List (C × Option R)))
      → start ≡ h.0 → lists ≡ (part_by kept h).1 → IsHistory is_start fits h → IsHistory is_start fits (start, lists)
  made-is_history is_start fits start lists same_start same_lists whole =
      let same : part_by kept h ≡ (start, lists) = λ i. (sym same_start i, sym same_lists i) in
      subst (λ (k : HistoryValue S C R). IsHistory is_start fits k) same (part-is_history is_start fits whole)
