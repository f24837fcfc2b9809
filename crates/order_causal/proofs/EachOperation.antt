-- One entry for each operation of a history.
use Rattle.std.specs.Prelude.{◌≡◌, ℕ, ◌<◌, ◌≤◌, List, [], length, Option}
use Rattle.std.specs.List.{range_with_len}
use Rattle.std.proofs.Common.{arith, get_or, map, ap, sym, ◌∙◌, ⊎_elim}
use Rattle.std.proofs.lemmas.Bool.{cases_lt}
use Rattle.std.proofs.lemmas.List.{get_or_past}
use Rattle.std.proofs.lemmas.List.FromFn.{length-map-range_with_len, get_or-map-range_with_len}
use Rattle.model_history.specs.declared.op_id.OpId.{OpId}
use Rattle.model_history.specs.History.{HistoryValue, IsOp, session}
use Rattle.order_causal.specs.Orders.{op}
use Rattle.order_causal.specs.Vectors.{HasOneEach, list_of}
use Rattle.order_causal.proofs.OrdersLaws.{session-of_history}

module _ {S C R : Type 0} (h : HistoryValue S C R) where
  -- the entries of the session s
  abbrev of_session : {A : Type 0} → (OpId → A) → ℕ → List A
  of_session entry_of s = map (λ i. entry_of (op s i)) (range_with_len 0 (length (session h s)))

  -- an entry for each operation of the history
  abbrev pub by_operation : {A : Type 0} → (OpId → A) → List (List A)
  by_operation entry_of = map (of_session entry_of) (range_with_len 0 (length h.1))

  module _ {A : Type 0} (entry_of : OpId → A) where
    pub by_operation-sessions : length (by_operation entry_of) ≡ length h.1
    by_operation-sessions = length-map-range_with_len (of_session entry_of) 0 (length h.1)

    pub by_operation-session : (s : ℕ) → s < length h.1 → get_or (by_operation entry_of) s [] ≡ of_session entry_of s
    by_operation-session s below = get_or-map-range_with_len (of_session entry_of) 0 (length h.1) s s [] below (omega arith)

    pub by_operation-length : (s : ℕ) → length (get_or (by_operation entry_of) s []) ≡ length (session h s)
    by_operation-length s = ⊎_elim
        (λ (below : s < length h.1).
        ap (λ (xs : List A). length xs) (by_operation-session s below)
        ∙ length-map-range_with_len (λ i. entry_of (op s i)) 0 (length (session h s)))
        (λ (past : length h.1 ≤ s).
        let sessions = by_operation-sessions in
        ap (λ (xs : List A). length xs) (get_or_past (by_operation entry_of) s [] (omega arith))
        ∙ sym (ap (λ (es : List (C × Option R)). length es) (get_or_past h.1 s [] past)))
        (cases_lt s (length h.1))

    pub by_operation-entry : (o : OpId) (d : A) → IsOp h o → get_or (get_or (by_operation entry_of) o.session []) o.index d ≡ entry_of o
    by_operation-entry o d is_op =
        ap (λ (xs : List A). get_or xs o.index d) (by_operation-session o.session (session-of_history h o is_op))
        ∙ get_or-map-range_with_len (λ i. entry_of (op o.session i)) 0 (length (session h o.session)) o.index o.index d is_op (omega arith)

  module _ {A : Type 0} (list : OpId → List A) where
    pub by_operation-one_each : HasOneEach h (by_operation list)
    by_operation-one_each = record {
      sessions = by_operation-sessions list;
      operations = by_operation-length list;
    }

    pub list_of-by_operation : (o : OpId) → IsOp h o → list_of (by_operation list) o ≡ list o
    list_of-by_operation o is_op = by_operation-entry list o [] is_op
