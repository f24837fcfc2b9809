-- A piece is checked.
use Rattle.std.proofs.Common.{◌≡◌, ℕ, inl, inr, List, [], ◌∷◌, ◌++◌, length, refl, sym, ◌∙◌, ap, subst}
use Rattle.std.specs.Prelude.{Option, Some, None, slice_get}
use Rattle.std.proofs.lemmas.List.{length-map, map-append}
use Rattle.std.proofs.lemmas.Option.{same_Some}
use Rattle.live_recorder.proofs.Telling.{get_push_cases}
use Rattle.model_history.specs.declared.op_id.OpId.{OpId}
use Rattle.model_history.specs.History.{HistoryValue}
use Rattle.cert_check.specs.declared.criterion.Criterion.{Criterion}
use Rattle.cert_check.specs.declared.checking.Outcome.{Outcome}
use Rattle.cert_check.specs.Certificates.{CaseRecord}
use Rattle.pattern_check.specs.declared.pattern.Pattern.{Pattern}
use Rattle.live_case_board.specs.declared.piece.Piece.{Piece}
use Rattle.live_simulation.specs.declared.given_verdict.GivenVerdict.{GivenVerdict}
use Rattle.live_simulation.specs.declared.step.StepOf.{StepOf}
use Rattle.live_simulation.specs.declared.step.StepOf.TheVariants.{Work}
use Rattle.live_simulation.specs.declared.reply.ReplyOf.{ReplyOf}
use Rattle.live_simulation.specs.declared.reply.ReplyOf.TheVariants.{Verdict, Refused}
use Rattle.live_simulation.specs.declared.refusal.Refusal.TheVariants.{NoSuch}
use Rattle.live_simulation.specs.Cases.{verdicts, case_file}
use Rattle.live_case_board.specs.CaseFiles.{HasPiece, IsOutcome}
use Rattle.live_simulation.specs.BoardReplies.{IsWorkReply}
use Rattle.live_simulation.specs.Steps.KeptCases.{Log, log_of, CasesState, HasPieceAt, IsVerdict, AreCases, ShowsCases, TakesOn, with_given, with_verdict_given}
use Rattle.live_simulation.proofs.Logs.{given_same, given_known}
use Rattle.live_simulation.proofs.KeptCase.{case_same}
use Rattle.live_simulation.proofs.BoardChanges.{shows_more, shows_refused}

module _ {S C R : Type 0} (answer : S → List C → C → R) (l : Log) (w : CasesState S C R) (were : AreCases answer l w) (g : GivenVerdict) (good : IsVerdict answer w.files g) where
  true_more : (v : ℕ) (x : GivenVerdict) → slice_get (w.verdicts ++ g ∷ []) v ≡ Some x → IsVerdict answer w.files x
  true_more v x at = elim (get_push_cases w.verdicts g v x at) [
    | inl before ↦ were.true_verdicts v x before
    | inr last ↦ subst (λ (y : GivenVerdict). IsVerdict answer w.files y) last.1 good
  ]

  -- one more verdict is given
  pub cases_given : AreCases answer (with_given l g.piece) (with_verdict_given w g)
  cases_given = record {
    as_many = were.as_many;
    cases = λ c f s at_f at_s. case_same answer l (with_given l g.piece) c f s (given_same l (length w.files) were.known g.piece c) (were.cases c f s at_f at_s);
    given = map-append (λ (x : GivenVerdict). x.piece) w.verdicts (g ∷ []) ∙ ap (λ (ps : List Piece). ps ++ g.piece ∷ []) were.given;
    true_verdicts = true_more;
    known = given_known l (length w.files) were.known g.piece;
  }

module _ {S C R : Type 0} (answer : S → List C → C → R) (passes : HistoryValue S C R → Criterion → Pattern → Type 0) (w : CasesState S C R) (c : ℕ) (o : OpId) where
  no_piece : (es : List (StepOf C R × ReplyOf (HistoryValue S C R))) (x : Option (CaseRecord S C R)) → ((f : CaseRecord S C R) → x ≡ Some f → HasPiece f o → ⊥) → IsWorkReply answer es o x (Refused NoSuch)
  no_piece es None none = refl
  no_piece es (Some f) none = inl (none f refl, refl)

  -- there is no such piece
  pub work_none : ¬ HasPieceAt w.files c o → TakesOn answer passes (Work c o) w (Refused NoSuch) w
  work_none none start k es shows = (
    no_piece es (case_file start k es c) (λ f at piece. none (f, shows.files.each c ∙ at, piece)),
    shows_refused answer start k es (Work c o) NoSuch w shows,
  )

  -- the piece was checked
  pub work_done : (f : CaseRecord S C R) (outcome : Outcome) (n : ℕ) (u : CasesState S C R) → slice_get w.files c ≡ Some f → HasPiece f o → IsOutcome answer f o outcome → n ≡ length w.verdicts
      → u ≡ with_verdict_given w record { piece = record { number = c; op = o }; outcome = outcome } → TakesOn answer passes (Work c o) w (Verdict n outcome) u
  work_done f outcome n u at piece is many became start k es shows =
      let count : n ≡ length (verdicts es) = many ∙ (sym (length-map w.verdicts (λ (g : GivenVerdict). g.piece)) ∙ ap length shows.cases.given) in
      let file : case_file start k es c ≡ Some f = sym (shows.files.each c) ∙ at in
      let good : IsVerdict answer w.files record { piece = record { number = c; op = o }; outcome = outcome } = record { file = f; filed = at; piece = piece; outcome = is } in (
        subst (λ (x : Option (CaseRecord S C R)). IsWorkReply answer es o x (Verdict n outcome)) (sym file)
            (inr (piece, (outcome, ap {B = ReplyOf (HistoryValue S C R)} (λ (m : ℕ). Verdict m outcome) count, is))),
        subst (λ (y : CasesState S C R). ShowsCases answer start k (es ++ (Work c o, Verdict n outcome) ∷ []) y) (sym became)
            (shows_more answer start k es (Work c o) (Verdict n outcome) refl refl w (with_verdict_given w record { piece = record { number = c; op = o }; outcome = outcome }) refl shows
            (cases_given answer (log_of es) w shows.cases record { piece = record { number = c; op = o }; outcome = outcome } good)),
      )

-- which case has a piece
module _ {S C R : Type 0} (files : List (CaseRecord S C R)) (c : ℕ) (o : OpId) where
  pub no_file : None ≡ slice_get files c → ¬ HasPieceAt files c o
  no_file none p = let bad : None ≡ Some p.0 = none ∙ p.1 in absurd (cc)

  pub no_piece_of : (f : CaseRecord S C R) → Some f ≡ slice_get files c → (HasPiece f o → ⊥) → ¬ HasPieceAt files c o
  no_piece_of f at none p = none (subst (λ (x : CaseRecord S C R). HasPiece x o) (same_Some p.0 f (sym p.1 ∙ sym at)) p.2)
