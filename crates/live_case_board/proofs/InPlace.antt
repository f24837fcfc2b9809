-- What is changed in its place on a board.
use Rattle.std.proofs.Common.{◌≡◌, ℕ, ◌+◌, ◌<◌, arith, inl, inr, List, length, get_or, Some, slice_get, set, sym, ap, subst, ◌∙◌}
use Rattle.std.proofs.lemmas.Bool.{cases_lt}
use Rattle.std.proofs.lemmas.Option.{get_or_from_slice_get, slice_get-get_or}
use Rattle.model_history.specs.declared.op_id.OpId.{OpId}
use Rattle.live_case_board.specs.Boards.{CaseState}
use Rattle.live_case_board.specs.Events.{IsChanged, IsDue, IsDueOf, IsIdle, IsIdleAt, IsRow}
use Rattle.live_case_board.specs.Steps.InSessions.{HasRowAt}

module _ {M : Type 0} (cases board : List (CaseState M)) (n : ℕ) (was : CaseState M) (viewed : cases ≡ board) (read : was ≡ get_or cases n was) where
  -- the case that is lent has the row
  pub row_in_place : (o : OpId) → n < length board → HasRowAt board n o → IsRow was o
  row_in_place o filed inside =
      let at : slice_get cases n ≡ Some was =
      slice_get-get_or cases n was (subst (λ (cs : List (CaseState M)). n < length cs) (sym viewed) filed) ∙ ap Some (sym read) in
      inside was (subst (λ (cs : List (CaseState M)). slice_get cs n ≡ Some was) viewed at)

  -- it is the case of its number
  pub case_in_place : (s : CaseState M) → slice_get board n ≡ Some s → was ≡ s
  case_in_place s at =
      read ∙ get_or_from_slice_get cases n s was (subst (λ (cs : List (CaseState M)). slice_get cs n ≡ Some s) (sym viewed) at)

  -- the piece that is due in it is the board's, where the cases before have none
  pub due_in_place : (o : OpId) → n < length board → IsDue was o → ((i : ℕ) → i < n → IsIdleAt board i)
      → IsDueOf board (record { number = n; op = o })
  due_in_place o filed due before = record {
    filed = filed;
    due = λ s at. subst (λ (c : CaseState M). IsDue c o) (case_in_place s at) due;
    first = before;
  }

  -- where it has none, nor have they, none has one up to it
  pub idle_in_place : IsIdle was → ((i : ℕ) → i < n → IsIdleAt board i) → (i : ℕ) → i < n + 1 → IsIdleAt board i
  idle_in_place idle before i below s at =
      elim (cases_lt i n) [
        | inl less ↦ before i less s at
        | inr more ↦
            let last : i ≡ n = omega arith in
            subst (λ (c : CaseState M). IsIdle c) (case_in_place s (subst (λ (k : ℕ). slice_get board k ≡ Some s) last at)) idle
      ]

  -- it became what f says
  pub changed_in_place : (f : CaseState M → CaseState M) (is : CaseState M) → is ≡ f was → IsChanged n f board (set cases n is)
  changed_in_place f is changed s at =
      let here : slice_get cases n ≡ Some s = subst (λ (cs : List (CaseState M)). slice_get cs n ≡ Some s) (sym viewed) at in
      let same : was ≡ s = read ∙ get_or_from_slice_get cases n s was here in
      ap (λ (cs : List (CaseState M)). set cs n is) viewed ∙ ap (λ (c : CaseState M). set board n c) (changed ∙ ap f same)
