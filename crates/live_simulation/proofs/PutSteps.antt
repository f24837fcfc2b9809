-- A verdict is put to a case.
use Rattle.std.proofs.Common.{◌≡◌, ◌⊎◌, ℕ, ◌==◌, ◌≤◌, inl, inr, List, [], ◌∷◌, ◌++◌, length, refl, sym, ◌∙◌, ap, subst, arith, eqb-true, eq-eqb}
use Rattle.std.specs.Prelude.{Bool, true, false, Option, Some, None, if◌then◌else◌, option_map, slice_get}
use Rattle.std.proofs.lemmas.Option.{same_Some, slice_get-map, slice_get_within}
use Rattle.live_seals.proofs.TableLemmas.{none_past}
use Rattle.model_history.specs.History.{HistoryValue}
use Rattle.model_history.specs.declared.op_id.OpId.{OpId}
use Rattle.cert_check.specs.declared.criterion.Criterion.{Criterion}
use Rattle.cert_check.specs.Certificates.{CaseRecord}
use Rattle.pattern_check.specs.declared.pattern.Pattern.{Pattern}
use Rattle.live_case_board.specs.declared.piece.Piece.{Piece}
use Rattle.live_case_board.specs.declared.board_error.BoardError.{BoardError}
use Rattle.live_case_board.specs.declared.board_error.BoardError.TheVariants as boards
use Rattle.live_case_board.specs.Boards.{CaseState, Row, row_of, with_verdict}
use Rattle.live_case_board.specs.Events.{put_refusal, row_refusal}
use Rattle.live_simulation.specs.declared.place.Place.{Place}
use Rattle.live_simulation.specs.declared.given_verdict.GivenVerdict.{GivenVerdict}
use Rattle.live_simulation.specs.declared.step.StepOf.{StepOf}
use Rattle.live_simulation.specs.declared.step.StepOf.TheVariants.{Put}
use Rattle.live_simulation.specs.declared.reply.ReplyOf.{ReplyOf}
use Rattle.live_simulation.specs.declared.reply.ReplyOf.TheVariants.{Accepted, Refused}
use Rattle.live_simulation.specs.declared.refusal.Refusal.{Refusal}
use Rattle.live_simulation.specs.declared.refusal.Refusal.TheVariants.{Doubled, NoSuch}
use Rattle.live_simulation.specs.Refusals.{refusal_of}
use Rattle.live_simulation.specs.Cases.{Filing, filings, verdicts, HasVerdict}
use Rattle.live_case_board.specs.CaseFiles.{HasPiece, IsOutcome}
use Rattle.live_simulation.specs.BoardReplies.{IsPutTo, IsPutReply}
use Rattle.live_simulation.specs.Steps.KeptCases.{log_of, CasesState, IsCase, AreCases, ShowsCases, TakesOn, place_of, accepted_unless, with_case, with_put}
use Rattle.live_simulation.proofs.Logs.{put_same, put_known}
use Rattle.live_simulation.proofs.CaseRows.{row_there}
use Rattle.live_simulation.proofs.CasePieces.{piece_row}
use Rattle.live_simulation.proofs.KeptCase.{case_put}
use Rattle.live_simulation.proofs.FiledFiles.{no_filing, a_filing}
use Rattle.live_simulation.proofs.BoardChanges.{file_of_case, changed, shows_more, shows_refused}

module _ {S C R : Type 0} (answer : S → List C → C → R) (passes : HistoryValue S C R → Criterion → Pattern → Type 0) (w : CasesState S C R) (c v : ℕ) where
  none_given : (es : List (StepOf C R × ReplyOf (HistoryValue S C R))) → (o : Option Filing) (p : Option Piece) → p ≡ None → IsPutReply es c o p (Refused NoSuch)
  none_given es None p e = refl
  none_given es (Some f) None e = refl
  none_given es (Some f) (Some p) e = absurd (cc)

  -- there is no such verdict
  pub put_none : None ≡ slice_get w.verdicts v → TakesOn answer passes (Put c v) w (Refused NoSuch) w
  put_none none start k es shows =
      let given : slice_get (verdicts es) v ≡ None =
      ap (λ (ps : List Piece). slice_get ps v) (sym shows.cases.given) ∙ (slice_get-map (λ (g : GivenVerdict). g.piece) w.verdicts v ∙ ap (option_map (λ (g : GivenVerdict). g.piece)) (sym none)) in
      (none_given es (slice_get (filings es) c) (slice_get (verdicts es) v) given, shows_refused answer start k es (Put c v) NoSuch w shows)

-- why a verdict on a row is not refused
taken_on : (b : Bool) (r : Option Row) → (if b then row_refusal r else Some boards.Stranger) ≡ None → (b ≡ true) × (r ≡ Some None)
taken_on true None e = absurd (cc)
taken_on true (Some None) e = (refl, refl)
taken_on true (Some (Some outcome)) e = absurd (cc)
taken_on false r e = absurd (cc)

put_on : (x : Option (CaseState Place)) (mark : Place) (o : OpId) → put_refusal place_of x mark o ≡ None
    → (s : CaseState Place) × (x ≡ Some s) × (s.mark.number ≡ mark.number) × (row_of s o ≡ Some None)
put_on None mark o e = absurd (cc)
put_on (Some s) mark o e =
    let t = taken_on (s.mark.number == mark.number) (row_of s o) e in
    (s, refl, eqb-true s.mark.number mark.number t.0, t.1)

module _ {S C R : Type 0} (answer : S → List C → C → R) (passes : HistoryValue S C R → Criterion → Pattern → Type 0) (w : CasesState S C R) (c v : ℕ) (g : GivenVerdict)
    (at_v : Some g ≡ slice_get w.verdicts v) where
  module _ (start : S) (k : ℕ) (es : List (StepOf C R × ReplyOf (HistoryValue S C R))) (shows : ShowsCases answer start k es w) where
    given_at : slice_get (verdicts es) v ≡ Some g.piece
    given_at =
        ap (λ (ps : List Piece). slice_get ps v) (sym shows.cases.given) ∙ (slice_get-map (λ (x : GivenVerdict). x.piece) w.verdicts v ∙ ap (option_map (λ (x : GivenVerdict). x.piece)) (sym at_v))

    -- a verdict that is of this case is on a piece of its file, and true
    on_file : (f : CaseRecord S C R) → slice_get w.files c ≡ Some f → g.piece.number ≡ c → HasPiece f g.piece.op × IsOutcome answer f g.piece.op g.outcome
    on_file f at_f same =
        let t = shows.cases.true_verdicts v g (sym at_v) in
        let at_c : slice_get w.files c ≡ Some t.file = ap (λ (n : ℕ). slice_get w.files n) (sym same) ∙ t.filed in
        let is : t.file ≡ f = same_Some t.file f (sym at_c ∙ at_f) in
        (subst (λ (x : CaseRecord S C R). HasPiece x g.piece.op) is t.piece, subst (λ (x : CaseRecord S C R). IsOutcome answer x g.piece.op g.outcome) is t.outcome)

    module _ (f : CaseRecord S C R) (at_f : slice_get w.files c ≡ Some f) (s : CaseState Place) (is : IsCase answer (log_of es) c f s) where
      put_says : (b : Bool) → (s.mark.number == g.piece.number) ≡ b → (r : Option Row) → row_of s g.piece.op ≡ r
          → IsPutTo es c g.piece (accepted_unless (if b then row_refusal r else Some boards.Stranger))
      put_says false e r at =
          inl (
            (λ (same : g.piece.number ≡ c).
                let t : (s.mark.number == g.piece.number) ≡ true = eq-eqb s.mark.number g.piece.number (is.mark ∙ sym same) in
                let bad : true ≡ false = sym t ∙ e in
                absurd (cc)),
            refl,
          )
      put_says true e r at =
          let same : g.piece.number ≡ c = sym (eqb-true s.mark.number g.piece.number e) ∙ is.mark in
          inr (same, row_says same r at)
        where
          row_says : g.piece.number ≡ c → (r : Option Row) → row_of s g.piece.op ≡ r
              → (HasVerdict es c g.piece.op × (accepted_unless {H = HistoryValue S C R} (row_refusal r) ≡ Refused Doubled)) ⊎ ((¬ HasVerdict es c g.piece.op) × (accepted_unless {H = HistoryValue S C R} (row_refusal r) ≡ Accepted))
          row_says same None at =
              let there = row_there s g.piece.op (piece_row answer (log_of es) c f s is g.piece.op (on_file f at_f same).0) in
              let bad : ◌≡◌ {A = Option Row} None (Some there.0) = sym at ∙ there.1 in
              absurd (cc)
          row_says same (Some None) at = inr (is.empty g.piece.op at, refl)
          row_says same (Some (Some outcome)) at = inl ((is.filled g.piece.op outcome at).0, refl)

    put_reply : (x : Option (CaseState Place)) → slice_get w.board c ≡ x
        → IsPutReply es c (slice_get (filings es) c) (Some g.piece) (accepted_unless (put_refusal place_of x record { number = g.piece.number } g.piece.op))
    put_reply None at =
        let past : length w.board ≤ c = none_past w.board c at in
        let many : length w.board ≡ length w.files = shows.cases.as_many in
        subst (λ (o : Option Filing). IsPutReply es c o (Some g.piece) (Refused NoSuch)) (sym (no_filing start k es w.files shows.files c (omega arith))) refl
    put_reply (Some s) at =
        let file = file_of_case answer (log_of es) w shows.cases c s at in
        let filing = a_filing start k es w.files shows.files c (slice_get_within w.files c file.0 file.1) in
        subst (λ (o : Option Filing). IsPutReply es c o (Some g.piece) (accepted_unless (put_refusal place_of (Some s) record { number = g.piece.number } g.piece.op))) (sym filing.1)
        (put_says file.0 file.1 s (shows.cases.cases c file.0 s file.1 at) (s.mark.number == g.piece.number) refl (row_of s g.piece.op) refl)

    put_answer : IsPutReply es c (slice_get (filings es) c) (slice_get (verdicts es) v) (accepted_unless (put_refusal place_of (slice_get w.board c) record { number = g.piece.number } g.piece.op))
    put_answer =
        subst (λ (p : Option Piece). IsPutReply es c (slice_get (filings es) c) p (accepted_unless (put_refusal place_of (slice_get w.board c) record { number = g.piece.number } g.piece.op))) (sym given_at)
        (put_reply (slice_get w.board c) refl)

  -- the verdict is refused
  pub put_refused : (e : BoardError) (x : Refusal) (u : CasesState S C R) → put_refusal place_of (slice_get w.board c) record { number = g.piece.number } g.piece.op ≡ Some e → x ≡ refusal_of e → u ≡ w
      → TakesOn answer passes (Put c v) w (Refused x) u
  put_refused e x u refused is same start k es shows = (
    subst (λ (y : Refusal). IsPutReply es c (slice_get (filings es) c) (slice_get (verdicts es) v) (Refused y)) (sym is)
        (subst (λ (o : Option BoardError). IsPutReply es c (slice_get (filings es) c) (slice_get (verdicts es) v) (accepted_unless o)) refused (put_answer start k es shows)),
    subst (λ (y : CasesState S C R). ShowsCases answer start k (es ++ (Put c v, Refused x) ∷ []) y) (sym same) (shows_refused answer start k es (Put c v) x w shows),
  )

  -- the verdict is accepted
  pub put_done : (u : CasesState S C R) → put_refusal place_of (slice_get w.board c) record { number = g.piece.number } g.piece.op ≡ None
      → ((s : CaseState Place) → slice_get w.board c ≡ Some s → u ≡ with_case w c (with_verdict s g.piece.op g.outcome)) → TakesOn answer passes (Put c v) w Accepted u
  put_done u taken became start k es shows =
      let on = put_on (slice_get w.board c) record { number = g.piece.number } g.piece.op taken in
      let s : CaseState Place = on.0 in
      let file = file_of_case answer (log_of es) w shows.cases c s on.1 in
      let same : g.piece.number ≡ c = sym on.2 ∙ (shows.cases.cases c file.0 s file.1 on.1).mark in
      let piece : ◌≡◌ {A = Piece} g.piece record { number = c; op = g.piece.op } = λ i. record { number = same i; op = g.piece.op } in
      let at : slice_get (verdicts es) v ≡ Some record { number = c; op = g.piece.op } = given_at start k es shows ∙ ap {B = Option Piece} (λ (p : Piece). Some p) piece in
      let are : AreCases answer (with_put (log_of es) c v) (with_case w c (with_verdict s g.piece.op g.outcome)) =
      changed answer (log_of es) w shows.cases (with_put (log_of es) c v) c s (with_verdict s g.piece.op g.outcome) on.1 (put_same (log_of es) (length w.files) shows.cases.known c v)
      (λ f at_f is. case_put answer (log_of es) (length w.files) shows.cases.known c f s is v g.piece.op g.outcome at on.3 (on_file start k es shows f at_f same).1)
      (put_known (log_of es) (length w.files) shows.cases.known c v (slice_get_within w.files c file.0 file.1) (slice_get_within (verdicts es) v g.piece (given_at start k es shows))) refl in (
        subst (λ (o : Option BoardError). IsPutReply es c (slice_get (filings es) c) (slice_get (verdicts es) v) (accepted_unless o)) taken (put_answer start k es shows),
        subst (λ (y : CasesState S C R). ShowsCases answer start k (es ++ (Put c v, Accepted) ∷ []) y) (sym (became s on.1))
            (shows_more answer start k es (Put c v) Accepted refl refl w (with_case w c (with_verdict s g.piece.op g.outcome)) refl shows are),
      )
