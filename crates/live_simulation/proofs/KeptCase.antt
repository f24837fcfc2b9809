-- What is known of one case, after a step.
use Rattle.std.proofs.Common.{◌≡◌, ◌⊎◌, ℕ, ◌+◌, ◌<◌, ◌≤◌, List, [], ◌∷◌, ◌++◌, inl, inr, arith, sym, ap, subst, refl, ◌∙◌}
use Rattle.std.specs.Prelude.{Bool, Option, Some, None, slice_get}
use Rattle.std.proofs.lemmas.Bool.{cases_eq, cases_lt}
use Rattle.std.proofs.lemmas.Option.{same_Some}
use Rattle.model_history.specs.declared.op_id.OpId.{OpId}
use Rattle.order_causal.proofs.OrdersLaws.{same_op}
use Rattle.cert_check.specs.declared.checking.Outcome.{Outcome}
use Rattle.cert_check.specs.Certificates.{CaseRecord}
use Rattle.pattern_check.specs.declared.pattern.Pattern.{Pattern}
use Rattle.live_case_board.specs.declared.piece.Piece.{Piece}
use Rattle.live_case_board.specs.Boards.{CaseState, SessionRows, Row, session_of, row_of, with_verdict, handed_out, refuted, fresh_case, first_pattern}
use Rattle.live_case_board.specs.Events.{IsRow, IsDue}
use Rattle.live_case_board.proofs.BoardsLaws.{verdict_row, verdict_others, taking_rows}
use Rattle.live_case_board.proofs.Due.{waiting_row}
use Rattle.live_simulation.specs.declared.place.Place.{Place}
use Rattle.live_case_board.specs.CaseFiles.{IsOutcome}
use Rattle.live_simulation.specs.Steps.KeptCases.{Log, with_put, with_taken, with_pattern, WasTakenIn, HasVerdictIn, IsKnown, IsCase}
use Rattle.live_simulation.proofs.Logs.{IsSameOf, put_here, put_from, put_to, taken_to, taken_here, taken_from, pattern_here}
use Rattle.live_simulation.proofs.CaseRows.{AreFresh, op_cases, verdict_sizes, verdict_next, taken_sizes, taken_next, taken_next_elsewhere, row_there}

module _ {S C R : Type 0} (answer : S → List C → C → R) where
  -- where nothing more is said of it
  pub case_same : (l m : Log) (c : ℕ) (f : CaseRecord S C R) (s : CaseState Place) → IsSameOf l m c → IsCase answer l c f s → IsCase answer m c f s
  case_same l m c f s e was = record {
    mark = was.mark;
    certificate = was.certificate;
    sizes = was.sizes;
    empty = λ o at has. was.empty o at (e.from_verdict o has);
    filled = λ o outcome at. let h = was.filled o outcome at in (e.to_verdict o h.0, h.1);
    pattern = was.pattern ∙ ap (λ (ps : List Pattern). slice_get ps 0) e.patterns;
    behind = λ o t. was.behind o (e.from_taken o t);
    passed = λ o row before. elim (was.passed o row before) [ inl t ↦ inl (e.to_taken o t) | inr h ↦ inr (e.to_verdict o h) ];
  }

  module _ (l : Log) (n : ℕ) (known : IsKnown l n) (c : ℕ) (f : CaseRecord S C R) (s : CaseState Place) (was : IsCase answer l c f s) where
    -- after a verdict was put to it
    module _ (v : ℕ) (o : OpId) (outcome : Outcome) (is : slice_get l.verdicts v ≡ Some record { number = c; op = o }) (free : row_of s o ≡ Some None)
        (outcome_is : IsOutcome answer f o outcome) where
      put_row : IsRow s o
      put_row = waiting_row s o free

      put_empty : (a : OpId) → row_of (with_verdict s o outcome) a ≡ Some None → ¬ HasVerdictIn (with_put l c v) c a
      put_empty a at has = elim (op_cases a o) [
        | inl same ↦
            let at_o : row_of (with_verdict s o outcome) o ≡ Some None = subst (λ (b : OpId). row_of (with_verdict s o outcome) b ≡ Some None) same at in
            let bad : ◌≡◌ {A = Row} (Some outcome) None = same_Some {A = Row} (Some outcome) None (sym (verdict_row s o put_row outcome) ∙ at_o) in
            absurd cc
        | inr apart ↦
            elim (put_from l n known c v c a has) [
              | inl before ↦ was.empty a (sym (verdict_others s o put_row a outcome apart) ∙ at) before
              | inr last ↦
                  let same : ◌≡◌ {A = Piece} record { number = c; op = o } record { number = c; op = a } = same_Some record { number = c; op = o } record { number = c; op = a } (sym is ∙ last.1) in
                  absurd (apart (sym (ap (λ (p : Piece). p.op) same)))
            ]
      ]

      put_filled : (a : OpId) (said : Outcome) → row_of (with_verdict s o outcome) a ≡ Some (Some said) → HasVerdictIn (with_put l c v) c a × IsOutcome answer f a said
      put_filled a said at = elim (op_cases a o) [
        | inl same ↦
            let at_o : row_of (with_verdict s o outcome) o ≡ Some (Some said) = subst (λ (b : OpId). row_of (with_verdict s o outcome) b ≡ Some (Some said)) same at in
            let one : ◌≡◌ {A = Row} (Some outcome) (Some said) = same_Some {A = Row} (Some outcome) (Some said) (sym (verdict_row s o put_row outcome) ∙ at_o) in
            let said_is : outcome ≡ said = same_Some outcome said one in (
              subst (λ (b : OpId). HasVerdictIn (with_put l c v) c b) (sym same) (put_here l n known c v o is),
              subst (λ (b : OpId). IsOutcome answer f b said) (sym same) (subst (λ (w : Outcome). IsOutcome answer f o w) said_is outcome_is),
            )
        | inr apart ↦
            let h = was.filled a said (sym (verdict_others s o put_row a outcome apart) ∙ at) in
            (put_to l n known c v c a h.0, h.1)
      ]

      pub case_put : IsCase answer (with_put l c v) c f (with_verdict s o outcome)
      case_put = record {
        mark = was.mark;
        certificate = was.certificate;
        sizes = λ t. verdict_sizes s o put_row outcome t ∙ was.sizes t;
        empty = put_empty;
        filled = put_filled;
        pattern = was.pattern;
        behind = λ a t. subst (λ (x : ℕ). a.index < x) (sym (verdict_next s o put_row outcome a.session)) (was.behind a t);
        passed = λ a row before.
            let row' : IsRow s a = subst (λ (x : ℕ). a.index < x) (verdict_sizes s o put_row outcome a.session) row in
            elim (was.passed a row' (subst (λ (x : ℕ). a.index < x) (verdict_next s o put_row outcome a.session) before)) [
              | inl t ↦ inl t
              | inr h ↦ inr (put_to l n known c v c a h)
            ];
      }

    -- after its next piece was taken
    module _ (o : OpId) (due : IsDue s o) where
      due_row : IsRow s o
      due_row = waiting_row s o due.free.1

      -- of what comes before the piece in its session nothing is free
      before_due : (a : OpId) → IsRow s a → a.session ≡ o.session → a.index < o.index → (session_of s a.session).next ≤ a.index → HasVerdictIn l c a
      before_due a row sessions below next =
          let r = row_there s a row in
          by r.0 r.1
        where
          by : (r : Row) → row_of s a ≡ Some r → HasVerdictIn l c a
          by None at = absurd (due.first a (inr (sessions, below)) (next, at))
          by (Some outcome) at = (was.filled a outcome at).0

      taken_passed : (a : OpId) → IsRow s a → a.session ≡ o.session → a.index < o.index + 1 → WasTakenIn (with_taken l record { number = c; op = o }) c a ⊎ HasVerdictIn l c a
      taken_passed a row sessions below = elim (cases_eq a.index o.index) [
        | inl same ↦
            let is : ◌≡◌ {A = Piece} record { number = c; op = o } record { number = c; op = a } = λ i. record { number = c; op = sym (same_op a o sessions same) i } in
            inl (taken_here l n known record { number = c; op = o } c a is)
        | inr apart ↦
            elim (cases_lt a.index (session_of s a.session).next) [
              | inl old ↦ elim (was.passed a row old) [ inl t ↦ inl (taken_to l n known record { number = c; op = o } c a t) | inr h ↦ inr h ]
              | inr fresh ↦ inr (before_due a row sessions (omega arith) fresh)
            ]
      ]

      taken_behind : (a : OpId) → WasTakenIn (with_taken l record { number = c; op = o }) c a → a.index < (session_of (handed_out s o) a.session).next
      taken_behind a t = elim (cases_eq a.session o.session) [
        | inl sessions ↦
            let next : (session_of (handed_out s o) a.session).next ≡ o.index + 1 = ap (λ (x : ℕ). (session_of (handed_out s o) x).next) sessions ∙ taken_next s o due_row in
            elim (taken_from l n known record { number = c; op = o } c a t) [
              | inl before ↦
                  let old : a.index < (session_of s a.session).next = was.behind a before in
                  let old' : a.index < (session_of s o.session).next = subst (λ (x : ℕ). a.index < (session_of s x).next) sessions old in
                  let free : (session_of s o.session).next ≤ o.index = due.free.0 in
                  omega arith
              | inr last ↦
                  let same : o.index ≡ a.index = ap (λ (p : Piece). p.op.index) last in
                  omega arith
            ]
        | inr apart ↦
            elim (taken_from l n known record { number = c; op = o } c a t) [
              | inl before ↦ subst (λ (x : ℕ). a.index < x) (sym (taken_next_elsewhere s o due_row a.session apart)) (was.behind a before)
              | inr last ↦ absurd (apart (sym (ap (λ (p : Piece). p.op.session) last)))
            ]
      ]

      pub case_taken : IsCase answer (with_taken l record { number = c; op = o }) c f (handed_out s o)
      case_taken = record {
        mark = was.mark;
        certificate = was.certificate;
        sizes = λ t. taken_sizes s o due_row t ∙ was.sizes t;
        empty = λ a at has. was.empty a (sym (taking_rows s o due_row a) ∙ at) has;
        filled = λ a outcome at. was.filled a outcome (sym (taking_rows s o due_row a) ∙ at);
        pattern = was.pattern;
        behind = taken_behind;
        passed = λ a row before.
            let row' : IsRow s a = subst (λ (x : ℕ). a.index < x) (taken_sizes s o due_row a.session) row in
            elim (cases_eq a.session o.session) [
              | inl sessions ↦
                  let next : (session_of (handed_out s o) a.session).next ≡ o.index + 1 = ap (λ (x : ℕ). (session_of (handed_out s o) x).next) sessions ∙ taken_next s o due_row in
                  taken_passed a row' sessions (subst (λ (x : ℕ). a.index < x) next before)
              | inr apart ↦
                  elim (was.passed a row' (subst (λ (x : ℕ). a.index < x) (taken_next_elsewhere s o due_row a.session apart) before)) [
                    | inl t ↦ inl (taken_to l n known record { number = c; op = o } c a t)
                    | inr h ↦ inr h
                  ]
            ];
      }

    -- after a pattern was accepted against it
    first_of_more : (ps : List Pattern) (p : Pattern) → Some (first_pattern (slice_get ps 0) p) ≡ slice_get (ps ++ p ∷ []) 0
    first_of_more [] p = refl
    first_of_more (q ∷ ps) p = refl

    pub case_refuted : (p : Pattern) → IsCase answer (with_pattern l c p) c f (refuted s p)
    case_refuted p = record {
      mark = was.mark;
      certificate = was.certificate;
      sizes = was.sizes;
      empty = was.empty;
      filled = was.filled;
      pattern =
          ap (λ (o : Option Pattern). Some (first_pattern o p)) was.pattern
          ∙ (first_of_more (l.patterns c) p ∙ ap (λ (ps : List Pattern). slice_get ps 0) (sym (pattern_here l n known c p)));
      behind = was.behind;
      passed = was.passed;
    }

  -- a case that was just filed
  pub case_new : (l : Log) (c : ℕ) → IsKnown l c → (f : CaseRecord S C R) (rows : Bool × List SessionRows) → AreFresh f.0 f.2 rows → IsCase answer l c f (fresh_case record { number = c } rows)
  case_new l c known f rows fresh =
      let no_verdict : (o : OpId) → HasVerdictIn l c o → ⊥ = λ o h. let below : c < c = (known.puts h.0 c h.1 h.2).0 in omega arith in
      let not_taken : (o : OpId) → WasTakenIn l c o → ⊥ = λ o t. let below : c < c = known.taken t.0 record { number = c; op = o } t.1 in omega arith in
      record {
        mark = refl;
        certificate = fresh.has;
        sizes = fresh.sizes;
        empty = λ o at has. no_verdict o has;
        filled = λ o outcome at. absurd (fresh.empty o outcome at);
        pattern = sym (ap (λ (ps : List Pattern). slice_get ps 0) (known.patterns c (omega arith)));
        behind = λ o t. absurd (not_taken o t);
        passed = λ o row before.
            let next : (session_of (fresh_case {M = Place} record { number = c } rows) o.session).next ≡ 0 = fresh.next o.session in
            absurd (omega arith);
      }
