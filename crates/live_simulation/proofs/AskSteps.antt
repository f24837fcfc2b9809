-- How a case stands is asked.
use Rattle.std.proofs.Common.{◌≡◌, ℕ, ◌==◌, ◌+◌, List, [], refl, sym, ◌∙◌, ap, subst, arith, eq-eqb}
use Rattle.std.specs.Prelude.{Bool, true, false, Option, Some, None, is_some, if◌then◌else◌, option_map, slice_get}
use Rattle.std.proofs.lemmas.Option.{same_Some, slice_get-get_or, get_or_from_slice_get, slice_get_within}
use Rattle.model_history.specs.declared.op_id.OpId.{OpId}
use Rattle.model_history.specs.History.{HistoryValue, IsOp}
use Rattle.cert_check.specs.declared.criterion.Criterion.{Criterion}
use Rattle.cert_check.specs.declared.certificate.Certificate.{Certificate}
use Rattle.cert_check.specs.declared.checking.Outcome.TheVariants.{Explained, Unexplained}
use Rattle.cert_check.specs.Certificates.{CaseRecord, IsExplainedPiece}
use Rattle.pattern_check.specs.declared.pattern.Pattern.{Pattern}
use Rattle.pattern_check.specs.Patterns.{kind_of}
use Rattle.live_case_board.specs.declared.answer.Answer.{Answer as Standing}
use Rattle.live_case_board.specs.declared.answer.Answer.TheVariants.{Yes, No, Unknown, Open}
use Rattle.live_case_board.specs.declared.board_error.BoardError.{BoardError}
use Rattle.live_case_board.specs.declared.board_error.BoardError.TheVariants as boards
use Rattle.live_case_board.specs.Boards.{CaseState, SessionRows, Row, no_rows, row_of, session_of, open_rows}
use Rattle.live_case_board.specs.Events.{IsRow, IsStanding, ask_refusal}
use Rattle.live_case_board.proofs.Due.{is_inside, waiting_row}
use Rattle.live_simulation.specs.declared.place.Place.{Place}
use Rattle.live_simulation.specs.declared.step.StepOf.{StepOf}
use Rattle.live_simulation.specs.declared.step.StepOf.TheVariants.{Ask}
use Rattle.live_simulation.specs.declared.reply.ReplyOf.{ReplyOf}
use Rattle.live_simulation.specs.declared.reply.ReplyOf.TheVariants.{Answer, Refused}
use Rattle.live_simulation.specs.declared.refusal.Refusal.TheVariants.{NoSuch}
use Rattle.live_simulation.specs.Cases.{patterns, case_file, HasVerdict}
use Rattle.live_simulation.specs.BoardReplies.{AreOpen, IsAnswer, IsAskReply}
use Rattle.live_simulation.specs.Steps.KeptCases.{log_of, CasesState, IsCase, ShowsCases, TakesOn, place_of}
use Rattle.live_simulation.proofs.CaseRows.{row_there}
use Rattle.live_simulation.proofs.CasePieces.{piece_row, row_piece}
use Rattle.live_simulation.proofs.BoardChanges.{file_of_case, case_of_file, shows_more, shows_refused}
use Rattle.live_simulation.proofs.OpenOperations.{IsOpenIn, open_in, open_lists, open_total}
use Rattle.live_simulation.proofs.TakeSteps.{none_first}

some_of : {X : Type 0} (x : Option X) → is_some x ≡ true → (y : X) × (x ≡ Some y)
some_of None e = absurd cc
some_of (Some y) e = (y, refl)

none_of : {X : Type 0} (x : Option X) → is_some x ≡ false → x ≡ None
none_of None e = refl
none_of (Some y) e = absurd cc

module _ {S C R : Type 0} (answer : S → List C → C → R) (es : List (StepOf C R × ReplyOf (HistoryValue S C R))) (c : ℕ) (f : CaseRecord S C R) (s : CaseState Place) (is : IsCase answer (log_of es) c f s) where
  -- an open row is that of an operation of the file without a verdict
  row_open : (o : OpId) → is_some f.2 ≡ true → IsOp f.0 o → ¬ HasVerdict es c o → IsOpenIn 0 s.sessions o
  row_open o has is_op no_verdict =
      let row : IsRow s o = piece_row answer (log_of es) c f s is o (has, is_op) in
      let r = row_there s o row in
      (o.session, session_of s o.session, omega arith, slice_get-get_or s.sessions o.session no_rows (is_inside s o row), empty r.0 r.1)
    where
      empty : (r : Row) → row_of s o ≡ Some r → row_of s o ≡ Some None
      empty None e = e
      empty (Some outcome) e = absurd (no_verdict (is.filled o outcome e).0)

  open_row : (o : OpId) → IsOpenIn 0 s.sessions o → row_of s o ≡ Some None
  open_row o p =
      let here : p.0 ≡ o.session = (let e : o.session ≡ 0 + p.0 = p.2 in omega arith) in
      let at : slice_get s.sessions o.session ≡ Some p.1 = subst (λ (n : ℕ). slice_get s.sessions n ≡ Some p.1) here p.3 in
      let same : session_of s o.session ≡ p.1 = get_or_from_slice_get s.sessions o.session p.1 no_rows at in
      ap (λ (t : SessionRows). slice_get t.rows o.index) same ∙ p.4

  pub are_open : (n : ℕ) → is_some f.2 ≡ true → open_rows s ≡ n → AreOpen es c f n
  are_open n has e =
      let listed = open_lists 0 s.sessions in
      record {
        ops = open_in 0 s.sessions;
        many = open_total 0 s.sessions ∙ e;
        each = λ o is_op no_verdict. listed.each o (row_open o has is_op no_verdict);
        no_other = λ i o at.
            let row = open_row o (listed.no_other i o at) in
            ((row_piece answer (log_of es) c f s is o (waiting_row s o row)).1, is.empty o row);
        once = listed.once;
      }

  explained_at : (x : Certificate) → f.2 ≡ Some x → (o : OpId) → row_of s o ≡ Some (Some Explained) → IsExplainedPiece answer f.0 x o
  explained_at x e o at =
      let out = (is.filled o Explained at).1.0 refl in
      let same : out.0 ≡ x = same_Some out.0 x (sym out.1 ∙ e) in
      subst (λ (d : Certificate). IsExplainedPiece answer f.0 d o) same out.2

  has_certificate : s.has_certificate ≡ true → (x : Certificate) × (f.2 ≡ Some x)
  has_certificate e = some_of f.2 (sym is.certificate ∙ e)

  unrefuted : s.pattern ≡ None → patterns es c ≡ []
  unrefuted e = none_first (patterns es c) (sym is.pattern ∙ e)

  pub stands : (a : Standing) → IsStanding s a → IsAnswer answer es c f a
  stands (No kind) h = ap (option_map kind_of) (sym is.pattern) ∙ h
  stands (Unknown None) h = (unrefuted h.0, none_of f.2 (sym is.certificate ∙ h.1))
  stands (Open n) h =
      let x = has_certificate h.0.1 in
      (x.0, (unrefuted h.0.0, x.1), are_open n (ap is_some x.1) h.1, h.2)
  stands Yes h =
      let x = has_certificate h.0.1 in (
        x.0,
        (unrefuted h.0.0, x.1),
        are_open 0 (ap is_some x.1) h.1,
        λ o is_op. explained_at x.0 x.1 o (h.2 o (piece_row answer (log_of es) c f s is o (ap is_some x.1, is_op))),
      )
  stands (Unknown (Some o)) h =
      let x = has_certificate h.0.1 in
      let row : IsRow s o = slice_get_within (session_of s o.session).rows o.index (Some Unexplained) h.2.unexplained in (
        x.0,
        (unrefuted h.0.0, x.1),
        are_open 0 (ap is_some x.1) h.1,
        record {
          is_op = (row_piece answer (log_of es) c f s is o row).1;
          unexplained = λ e.
              let no : ◌≡◌ Unexplained Explained = (is.filled o Unexplained h.2.unexplained).1.1 (x.0, x.1, e) in
              absurd cc;
          earlier = λ a is_op before. explained_at x.0 x.1 a (h.2.earlier a (piece_row answer (log_of es) c f s is a (ap is_some x.1, is_op)) before);
        },
      )

-- a case is asked with its own mark
asked : (x : Option (CaseState Place)) (c : ℕ) → ask_refusal place_of x record { number = c } ≡ None → (s : CaseState Place) × (x ≡ Some s)
asked None c e = absurd cc
asked (Some s) c e = (s, refl)

not_asked : (x : Option (CaseState Place)) (c : ℕ) (e : BoardError) → ((s : CaseState Place) → x ≡ Some s → s.mark.number ≡ c) → ask_refusal place_of x record { number = c } ≡ Some e → x ≡ None
not_asked None c e own refused = refl
not_asked (Some s) c e own refused = absurd (by (s.mark.number == c) (eq-eqb s.mark.number c (own s refl)) refused)
  where
    by : (b : Bool) → b ≡ true → (if b then None else Some boards.Stranger) ≡ Some e → ⊥
    by true is at = cc
    by false is at = cc

module _ {S C R : Type 0} (answer : S → List C → C → R) (passes : HistoryValue S C R → Criterion → Pattern → Type 0) (w : CasesState S C R) (c : ℕ) where
  -- the board answers
  pub ask_done : (a : Standing) → ask_refusal place_of (slice_get w.board c) record { number = c } ≡ None → ((s : CaseState Place) → slice_get w.board c ≡ Some s → IsStanding s a)
      → TakesOn answer passes (Ask c) w (Answer a) w
  ask_done a taken standing start k es shows =
      let s = asked (slice_get w.board c) c taken in
      let f = file_of_case answer (log_of es) w shows.cases c s.0 s.1 in
      let is = shows.cases.cases c f.0 s.0 f.1 s.1 in
      let file : case_file start k es c ≡ Some f.0 = sym (shows.files.each c) ∙ f.1 in (
        subst (λ (x : Option (CaseRecord S C R)). IsAskReply answer es c x (Answer a)) (sym file) (a, refl, stands answer es c f.0 s.0 is a (standing s.0 s.1)),
        shows_more answer start k es (Ask c) (Answer a) refl refl w w refl shows shows.cases,
      )

  -- there is no such case
  pub ask_none : (e : BoardError) → ask_refusal place_of (slice_get w.board c) record { number = c } ≡ Some e → TakesOn answer passes (Ask c) w (Refused NoSuch) w
  ask_none e refused start k es shows =
      let none : slice_get w.board c ≡ None = not_asked (slice_get w.board c) c e (λ s at.
      let f = file_of_case answer (log_of es) w shows.cases c s at in
      (shows.cases.cases c f.0 s f.1 at).mark) refused in (
        subst (λ (x : Option (CaseRecord S C R)). IsAskReply answer es c x (Refused NoSuch)) (shows.files.each c) (no_file start k es shows none (slice_get w.files c) refl),
        shows_refused answer start k es (Ask c) NoSuch w shows,
      )
    where
      no_file : (start : S) (k : ℕ) (es : List (StepOf C R × ReplyOf (HistoryValue S C R))) → ShowsCases answer start k es w → slice_get w.board c ≡ None → (x : Option (CaseRecord S C R)) → slice_get w.files c ≡ x
          → IsAskReply answer es c x (Refused NoSuch)
      no_file start k es shows none None at = refl
      no_file start k es shows none (Some f) at =
          let s = case_of_file answer (log_of es) w shows.cases c f at in
          let bad : None ≡ Some s.0 = sym none ∙ s.1 in
          absurd cc
