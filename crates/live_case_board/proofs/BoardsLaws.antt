-- What a verdict and a taking leave of a case.
use Rattle.std.proofs.Common.{◌≡◌, ◌≢◌, ℕ, ◌+◌, ◌<◌, ◌≤◌, List, length, Some, slice_get, inl, inr, arith, set, sym, ap, subst, ◌∙◌, ⊎_elim}
use Rattle.std.proofs.lemmas.Bool.{cases_eq, cases_lt}
use Rattle.std.proofs.lemmas.List.{get_or-set_same, get_or-set_other, length-set}
use Rattle.std.proofs.lemmas.Option.{slice_get-get_or, slice_get_past}
use Rattle.model_history.specs.declared.op_id.OpId.{OpId}
use Rattle.order_causal.proofs.OrdersLaws.{same_op}
use Rattle.cert_check.specs.declared.checking.Outcome.{Outcome}
use Rattle.live_case_board.specs.Boards.{CaseState, SessionRows, no_rows, session_of, row_of, with_session, with_verdict, handed_out, filled, after_row}
use Rattle.live_case_board.specs.Events.{IsRow, IsFree}
use Rattle.live_case_board.proofs.Due.{is_inside}

set_here : {A : Type 0} (xs : List A) (i : ℕ) (x : A) → i < length xs → slice_get (set xs i x) i ≡ Some x
set_here xs i x inside =
    slice_get-get_or (set xs i x) i x (subst (λ (n : ℕ). i < n) (sym (length-set xs i x)) inside) ∙ ap Some (get_or-set_same xs i x x inside)

set_apart : {A : Type 0} (xs : List A) (i j : ℕ) (x : A) → j ≢ i → slice_get (set xs i x) j ≡ slice_get xs j
set_apart xs i j x apart =
    elim (cases_lt j (length xs)) [
      | inl below ↦
          slice_get-get_or (set xs i x) j x (subst (λ (n : ℕ). j < n) (sym (length-set xs i x)) below)
          ∙ ap Some (get_or-set_other xs i j x x apart)
          ∙ sym (slice_get-get_or xs j x below)
      | inr above ↦
          let past : length xs ≤ j = omega arith in
          slice_get_past (set xs i x) j (subst (λ (n : ℕ). n ≤ j) (sym (length-set xs i x)) past) ∙ sym (slice_get_past xs j past)
    ]

module _ {M : Type 0} (s : CaseState M) (o : OpId) (inside : IsRow s o) where
  here : (t : SessionRows) → session_of (with_session s o.session t) o.session ≡ t
  here t = get_or-set_same s.sessions o.session t no_rows (is_inside s o inside)

  elsewhere : (t : SessionRows) (n : ℕ) → n ≢ o.session → session_of (with_session s o.session t) n ≡ session_of s n
  elsewhere t n apart = get_or-set_other s.sessions o.session n t no_rows apart

  pub verdict_row : (outcome : Outcome) → row_of (with_verdict s o outcome) o ≡ Some (Some outcome)
  verdict_row outcome =
      ap (λ (t : SessionRows). slice_get t.rows o.index) (here (filled (session_of s o.session) o.index outcome))
      ∙ set_here (session_of s o.session).rows o.index (Some outcome) inside

  pub verdict_others : (a : OpId) (outcome : Outcome) → a ≢ o → row_of (with_verdict s o outcome) a ≡ row_of s a
  verdict_others a outcome apart = ⊎_elim
      (λ (same : a.session ≡ o.session).
      let indices : a.index ≢ o.index = λ equal. apart (same_op a o same equal) in
      ap (λ (n : ℕ). slice_get (session_of (with_verdict s o outcome) n).rows a.index) same
      ∙ ap (λ (t : SessionRows). slice_get t.rows a.index) (here (filled (session_of s o.session) o.index outcome))
      ∙ set_apart (session_of s o.session).rows o.index a.index (Some outcome) indices
      ∙ ap (λ (n : ℕ). slice_get (session_of s n).rows a.index) (sym same))
      (λ (other : a.session ≢ o.session).
      ap (λ (t : SessionRows). slice_get t.rows a.index) (elsewhere (filled (session_of s o.session) o.index outcome) a.session other))
      (cases_eq a.session o.session)

  pub taking_rows : (a : OpId) → row_of (handed_out s o) a ≡ row_of s a
  taking_rows a = ⊎_elim
      (λ (same : a.session ≡ o.session).
      ap (λ (n : ℕ). slice_get (session_of (handed_out s o) n).rows a.index) same
      ∙ ap (λ (t : SessionRows). slice_get t.rows a.index) (here (after_row (session_of s o.session) o.index))
      ∙ ap (λ (n : ℕ). slice_get (session_of s n).rows a.index) (sym same))
      (λ (other : a.session ≢ o.session).
      ap (λ (t : SessionRows). slice_get t.rows a.index) (elsewhere (after_row (session_of s o.session) o.index) a.session other))
      (cases_eq a.session o.session)

  pub taken_once : ¬ IsFree (handed_out s o) o
  taken_once free =
      let next : o.index + 1 ≤ o.index = subst (λ (t : SessionRows). t.next ≤ o.index) (here (after_row (session_of s o.session) o.index)) free.0 in
      absurd (omega arith)
