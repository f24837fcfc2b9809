-- Where no row is open, what is not explained has a verdict that says so.
use Rattle.std.proofs.Common.{◌≡◌, ℕ, ◌≤◌, List, get_or, Option, Some, None, is_none, slice_get, arith, sym, subst, refl, ◌∙◌}
use Rattle.std.specs.List.{count_by}
use Rattle.std.specs.Prelude.{if◌then◌else◌}
use Rattle.std.proofs.lemmas.List.Sums.{get_or-le-sum_by}
use Rattle.std.proofs.lemmas.Option.{get_or_from_slice_get, slice_get_within, slice_get-get_or}
use Rattle.model_history.specs.declared.op_id.OpId.{OpId}
use Rattle.cert_check.specs.declared.checking.Outcome.TheVariants.{Explained, Unexplained}
use Rattle.live_case_board.specs.Boards.{CaseState, Row, no_rows, session_of, row_of, open_of, open_rows}
use Rattle.live_case_board.specs.Events.{IsRow, IsFirstUnexplained}
use Rattle.live_case_board.specs.Steps.InSessions.{IsFirstLeft}
use Rattle.live_case_board.proofs.Due.{is_inside, waiting_row}

-- a row without a verdict counts
one_open : (rows : List Row) (i : ℕ) → slice_get rows i ≡ Some None → 1 ≤ count_by is_none rows
one_open rows i at =
    let is : get_or rows i None ≡ None = get_or_from_slice_get rows i None None at in
    let counts : (if is_none (get_or rows i None) then 1 else 0) ≤ count_by is_none rows = get_or-le-sum_by (λ r. if is_none r then 1 else 0) rows i None (slice_get_within rows i None at) in
    subst (λ (r : Row). (if is_none r then 1 else 0) ≤ count_by is_none rows) is counts

not_open : (row : Option Row) (filled : (Some None ≡ row) → ⊥) → (row ≡ None → ⊥) → (row ≡ Some (Some Explained) → ⊥) → row ≡ Some (Some Unexplained)
not_open None filled there unexplained = absurd (there refl)
not_open (Some None) filled there unexplained = absurd (filled refl)
not_open (Some (Some Explained)) filled there unexplained = absurd (unexplained refl)
not_open (Some (Some Unexplained)) filled there unexplained = refl

module _ {M : Type 0} (s : CaseState M) where
  none_open : open_rows s ≡ 0 → (o : OpId) → row_of s o ≡ Some None → ⊥
  none_open all o at =
      let one : 1 ≤ open_of (session_of s o.session) = one_open (session_of s o.session).rows o.index at in
      let within : open_of (session_of s o.session) ≤ open_rows s = get_or-le-sum_by open_of s.sessions o.session no_rows (is_inside s o (waiting_row s o at)) in
      omega arith

  there : (o : OpId) → IsRow s o → row_of s o ≡ None → ⊥
  there o inside none =
      let is : row_of s o ≡ Some (get_or (session_of s o.session).rows o.index None) = slice_get-get_or (session_of s o.session).rows o.index None inside in
      let no : ◌≡◌ {A = Option Row} None (Some (get_or (session_of s o.session).rows o.index None)) = sym none ∙ is in
      absurd cc

  pub first_verdict : open_rows s ≡ 0 → (o : OpId) → IsFirstLeft s o → IsFirstUnexplained s o
  first_verdict all o first =
      record {
        unexplained = not_open (row_of s o) (λ none. none_open all o (sym none)) (there o first.inside) first.unexplained;
        earlier = first.earlier;
      }
