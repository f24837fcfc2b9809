-- The rows of a case after a verdict came or a piece was taken, and of a case that was just filed.
use Rattle.std.proofs.Common.{◌≡◌, ◌≢◌, ◌⊎◌, ℕ, ◌+◌, ◌<◌, List, [], length, get_or, inl, inr, arith, sym, ap, subst, refl, ◌∙◌}
use Rattle.std.specs.Prelude.{Bool, true, false, Option, Some, None, is_some, slice_get, replicate}
use Rattle.std.proofs.lemmas.Bool.{cases_eq, cases_lt}
use Rattle.std.proofs.lemmas.List.{get_or-set_same, get_or-set_other, length-set, get_or_past, length-replicate, get_or-replicate}
use Rattle.std.proofs.lemmas.Option.{slice_get_within, slice_get-get_or, get_or_from_slice_get}
use Rattle.model_history.specs.declared.op_id.OpId.{OpId}
use Rattle.model_history.specs.History.{HistoryValue, session}
use Rattle.order_causal.proofs.OrdersLaws.{same_op}
use Rattle.cert_check.specs.declared.certificate.Certificate.{Certificate}
use Rattle.cert_check.specs.declared.checking.Outcome.{Outcome}
use Rattle.live_case_board.specs.Boards.{CaseState, SessionRows, Row, no_rows, fresh_rows, session_of, row_of, with_session, with_verdict, handed_out, filled, after_row, AreRowsOf}
use Rattle.live_case_board.specs.Events.{IsRow}
use Rattle.live_case_board.proofs.Due.{is_inside}
use Rattle.live_simulation.specs.Steps.KeptCases.{rows_for}

pub op_cases : (a o : OpId) → (a ≡ o) ⊎ (a ≢ o)
op_cases a o = elim (cases_eq a.session o.session) [
  | inl sessions ↦
      elim (cases_eq a.index o.index) [
        | inl indices ↦ inl (same_op a o sessions indices)
        | inr apart ↦ inr (λ (e : a ≡ o). apart (ap (λ (x : OpId). x.index) e))
      ]
  | inr apart ↦ inr (λ (e : a ≡ o). apart (ap (λ (x : OpId). x.session) e))
]

module _ {M : Type 0} (s : CaseState M) (o : OpId) (inside : IsRow s o) where
  session_here : (t : SessionRows) → session_of (with_session s o.session t) o.session ≡ t
  session_here t = get_or-set_same s.sessions o.session t no_rows (is_inside s o inside)

  session_elsewhere : (t : SessionRows) (n : ℕ) → n ≢ o.session → session_of (with_session s o.session t) n ≡ session_of s n
  session_elsewhere t n apart = get_or-set_other s.sessions o.session n t no_rows apart

  -- what is read of a session stays where the rows that came in its place have the same
  kept : {X : Type 0} (read : SessionRows → X) (t : SessionRows) → read t ≡ read (session_of s o.session) → (n : ℕ)
      → read (session_of (with_session s o.session t) n) ≡ read (session_of s n)
  kept read t same n = elim (cases_eq n o.session) [
    | inl here ↦
        ap (λ (m : ℕ). read (session_of (with_session s o.session t) m)) here
        ∙ (ap read (session_here t) ∙ (same ∙ ap (λ (m : ℕ). read (session_of s m)) (sym here)))
    | inr apart ↦ ap read (session_elsewhere t n apart)
  ]

  pub verdict_sizes : (outcome : Outcome) (n : ℕ) → length (session_of (with_verdict s o outcome) n).rows ≡ length (session_of s n).rows
  verdict_sizes outcome n =
      kept (λ (t : SessionRows). length t.rows) (filled (session_of s o.session) o.index outcome) (length-set (session_of s o.session).rows o.index (Some outcome)) n

  pub verdict_next : (outcome : Outcome) (n : ℕ) → (session_of (with_verdict s o outcome) n).next ≡ (session_of s n).next
  verdict_next outcome n = kept (λ (t : SessionRows). t.next) (filled (session_of s o.session) o.index outcome) refl n

  pub taken_sizes : (n : ℕ) → length (session_of (handed_out s o) n).rows ≡ length (session_of s n).rows
  taken_sizes n = kept (λ (t : SessionRows). length t.rows) (after_row (session_of s o.session) o.index) refl n

  pub taken_next : (session_of (handed_out s o) o.session).next ≡ o.index + 1
  taken_next = ap (λ (t : SessionRows). t.next) (session_here (after_row (session_of s o.session) o.index))

  pub taken_next_elsewhere : (n : ℕ) → n ≢ o.session → (session_of (handed_out s o) n).next ≡ (session_of s n).next
  taken_next_elsewhere n apart = ap (λ (t : SessionRows). t.next) (session_elsewhere (after_row (session_of s o.session) o.index) n apart)

-- a row that is there
pub row_there : {M : Type 0} (s : CaseState M) (o : OpId) → IsRow s o → (r : Row) × (row_of s o ≡ Some r)
row_there s o inside = (get_or (session_of s o.session).rows o.index None, slice_get-get_or (session_of s o.session).rows o.index None inside)

-- rows of a case that was just filed
pub record AreFresh {S C R : Type 0} (h : HistoryValue S C R) (certificate : Option Certificate) (rows : Bool × List SessionRows) : Type 0 where
  pub has : rows.0 ≡ is_some certificate
  pub sizes : (t : ℕ) → length (get_or rows.1 t no_rows).rows ≡ rows_for h certificate t
  pub empty : (o : OpId) (outcome : Outcome) → slice_get (get_or rows.1 o.session no_rows).rows o.index ≡ Some (Some outcome) → ⊥
  pub next : (t : ℕ) → (get_or rows.1 t no_rows).next ≡ 0

empty_row : (n i : ℕ) (outcome : Outcome) → slice_get (replicate n None) i ≡ Some (Some outcome) → ⊥
empty_row n i outcome at =
    let within : i < length (replicate n None) = slice_get_within (replicate n None) i (Some outcome) at in
    let below : i < n = subst (λ (m : ℕ). i < m) (length-replicate n None) within in
    let none : get_or (replicate n None) i None ≡ None = get_or-replicate n i None None below in
    let some : get_or (replicate n None) i None ≡ Some outcome = get_or_from_slice_get (replicate n None) i (Some outcome) None at in
    let no : ◌≡◌ {A = Row} None (Some outcome) = sym none ∙ some in
    absurd cc

no_row : (i : ℕ) (outcome : Outcome) → slice_get no_rows.rows i ≡ Some (Some outcome) → ⊥
no_row i outcome at = absurd cc

module _ {S C R : Type 0} (h : HistoryValue S C R) (rows : Bool × List SessionRows) where
  -- without a certificate
  pub fresh_none : ◌≡◌ {A = Bool × List SessionRows} rows (false, []) → AreFresh h None rows
  fresh_none are =
      let none : (t : ℕ) → get_or rows.1 t no_rows ≡ no_rows = λ t. ap (λ (r : Bool × List SessionRows). get_or r.1 t no_rows) are ∙ get_or_past [] t no_rows (omega arith) in
      record {
        has = ap (λ (r : Bool × List SessionRows). r.0) are;
        sizes = λ t. ap (λ (x : SessionRows). length x.rows) (none t);
        empty = λ o outcome at. no_row o.index outcome (subst (λ (x : SessionRows). slice_get x.rows o.index ≡ Some (Some outcome)) (none o.session) at);
        next = λ t. ap (λ (x : SessionRows). x.next) (none t);
      }

  -- with a certificate
  module _ (certificate : Certificate) (has : rows.0 ≡ true) (are : AreRowsOf h rows.1) where
    session_cases : (t : ℕ) → (get_or rows.1 t no_rows ≡ fresh_rows (length (session h t))) ⊎ ((get_or rows.1 t no_rows ≡ no_rows) × (length (session h t) ≡ 0))
    session_cases t = elim (cases_lt t (length h.1)) [
      | inl below ↦ inl (get_or_from_slice_get rows.1 t (fresh_rows (length (session h t))) no_rows (are.each t below))
      | inr above ↦
          let many : length rows.1 ≡ length h.1 = are.many in
          inr (get_or_past rows.1 t no_rows (omega arith), ap length (get_or_past h.1 t [] above))
    ]

    pub fresh_some : AreFresh h (Some certificate) rows
    fresh_some = record {
      has = has;
      sizes = λ t. elim (session_cases t) [
        | inl rows_are ↦ ap (λ (x : SessionRows). length x.rows) rows_are ∙ length-replicate (length (session h t)) None
        | inr none ↦ ap (λ (x : SessionRows). length x.rows) none.0 ∙ sym none.1
      ];
      empty = λ o outcome at.
          elim (session_cases o.session) [
            | inl rows_are ↦
                empty_row (length (session h o.session)) o.index outcome (subst (λ (x : SessionRows). slice_get x.rows o.index ≡ Some (Some outcome)) rows_are at)
            | inr none ↦ no_row o.index outcome (subst (λ (x : SessionRows). slice_get x.rows o.index ≡ Some (Some outcome)) none.0 at)
          ];
      next = λ t. elim (session_cases t) [
        | inl rows_are ↦ ap (λ (x : SessionRows). x.next) rows_are
        | inr none ↦ ap (λ (x : SessionRows). x.next) none.0
      ];
    }
