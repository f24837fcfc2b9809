-- A worker takes the next piece.
use Rattle.std.proofs.Common.{◌≡◌, ℕ, ◌<◌, ◌≤◌, inl, inr, List, [], ◌∷◌, ◌++◌, length, refl, sym, ◌∙◌, ap, subst, arith}
use Rattle.std.specs.Prelude.{Option, Some, None, slice_get, IsNone, IfSome}
use Rattle.std.proofs.lemmas.Bool.{cases_lt}
use Rattle.std.proofs.lemmas.Option.{same_Some, slice_get_within}
use Rattle.model_history.specs.declared.op_id.OpId.{OpId}
use Rattle.model_history.specs.History.{HistoryValue}
use Rattle.cert_check.specs.declared.criterion.Criterion.{Criterion}
use Rattle.pattern_check.specs.declared.pattern.Pattern.{Pattern}
use Rattle.live_case_board.specs.declared.piece.Piece.{Piece}
use Rattle.live_case_board.specs.Boards.{CaseState, Row, row_of, session_of, handed_out}
use Rattle.live_case_board.specs.Events.{IsRow, IsChanged, IsDueOf, IsIdleAt}
use Rattle.live_case_board.specs.Events as events
use Rattle.live_case_board.proofs.Due.{waiting_row}
use Rattle.live_simulation.specs.declared.place.Place.{Place}
use Rattle.live_simulation.specs.declared.step.StepOf.{StepOf}
use Rattle.live_simulation.specs.declared.step.StepOf.TheVariants.{Take}
use Rattle.live_simulation.specs.declared.reply.ReplyOf.{ReplyOf}
use Rattle.live_simulation.specs.declared.reply.ReplyOf.TheVariants.{Taken}
use Rattle.live_simulation.specs.Cases.{patterns}
use Rattle.live_simulation.specs.BoardReplies.{IsFree, IsFirstFree}
use Rattle.live_simulation.specs.Steps.KeptCases.{log_of, CasesState, IsCase, AreCases, ShowsCases, TakesOn, with_case, with_taken}
use Rattle.live_simulation.proofs.Logs.{taken_same, taken_known, there}
use Rattle.live_simulation.proofs.CaseRows.{row_there}
use Rattle.live_simulation.proofs.CasePieces.{piece_row, row_piece}
use Rattle.live_simulation.proofs.KeptCase.{case_taken}
use Rattle.live_simulation.proofs.BoardChanges.{file_of_case, case_of_file, changed, shows_more}

pub none_first : (ps : List Pattern) → slice_get ps 0 ≡ None → ps ≡ []
none_first [] e = refl
none_first (p ∷ ps) e = absurd (cc)

module _ {S C R : Type 0} (answer : S → List C → C → R) (start : S) (k : ℕ) (es : List (StepOf C R × ReplyOf (HistoryValue S C R))) (w : CasesState S C R) (shows : ShowsCases answer start k es w) where
  -- an operation of a case that is free in the board
  module _ (c : ℕ) (s : CaseState Place) (at : slice_get w.board c ≡ Some s) where
    -- is free as the steps say
    free_so : (o : OpId) → s.pattern ≡ None → events.IsFree s o → IsFree start k es c o
    free_so o none free =
        let f = file_of_case answer (log_of es) w shows.cases c s at in
        let is = shows.cases.cases c f.0 s f.1 at in
        record {
          file = f.0;
          filed = sym (shows.files.each c) ∙ f.1;
          piece = row_piece answer (log_of es) c f.0 s is o (waiting_row s o free.1);
          unrefuted = none_first (patterns es c) (sym is.pattern ∙ none);
          not_taken = λ t.
              let below : o.index < (session_of s o.session).next = is.behind o t in
              let above : (session_of s o.session).next ≤ o.index = free.0 in
              omega arith;
          no_verdict = is.empty o free.1;
        }

  -- and the other way round
  board_free : (c : ℕ) (o : OpId) → IsFree start k es c o → (s : CaseState Place) × (slice_get w.board c ≡ Some s) × (s.pattern ≡ None) × events.IsFree s o
  board_free c o free =
      let at_f : slice_get w.files c ≡ Some free.file = shows.files.each c ∙ free.filed in
      let s = case_of_file answer (log_of es) w shows.cases c free.file at_f in
      let is = shows.cases.cases c free.file s.0 at_f s.1 in
      let row : IsRow s.0 o = piece_row answer (log_of es) c free.file s.0 is o free.piece in
      let r = row_there s.0 o row in
      (s.0, s.1, is.pattern ∙ ap (λ (ps : List Pattern). slice_get ps 0) free.unrefuted, (next s.0 is row, empty s.0 is r.0 r.1))
    where
      next : (s : CaseState Place) → IsCase answer (log_of es) c free.file s → IsRow s o → (session_of s o.session).next ≤ o.index
      next s is row = elim (cases_lt o.index (session_of s o.session).next) [
        | inl below ↦ elim (is.passed o row below) [ inl t ↦ absurd (free.not_taken t) | inr h ↦ absurd (free.no_verdict h) ]
        | inr above ↦ above
      ]

      empty : (s : CaseState Place) → IsCase answer (log_of es) c free.file s → (r : Row) → row_of s o ≡ Some r → row_of s o ≡ Some None
      empty s is None e = e
      empty s is (Some outcome) e = absurd (free.no_verdict (is.filled o outcome e).0)

  idle_says : (c : ℕ) → IsIdleAt w.board c → (o : OpId) → ¬ IsFree start k es c o
  idle_says c idle o free = let b = board_free c o free in idle b.0 b.1 o b.2 b.3

  due_says : (p : Piece) → IsDueOf w.board p → IsFirstFree start k es p
  due_says p due =
      let t = there w.board p.number due.filed in
      let d = due.due t.0 t.1 in
      record {
        free = free_so p.number t.0 t.1 p.op d.unrefuted d.free;
        first_case = λ c o earlier. idle_says c (due.first c earlier) o;
        first_op = λ o earlier free.
            let b = board_free p.number o free in
            let same : b.0 ≡ t.0 = same_Some b.0 t.0 (sym b.1 ∙ t.1) in
            d.first o earlier (subst (λ (x : CaseState Place). events.IsFree x o) same b.3);
      }

  due_leaves : (p : Piece) (u : CasesState S C R) → IsDueOf w.board p → ((s : CaseState Place) → slice_get w.board p.number ≡ Some s → u ≡ with_case w p.number (handed_out s p.op))
      → AreCases answer (with_taken (log_of es) p) u × (w.files ≡ u.files)
  due_leaves p u due became =
      let t = there w.board p.number due.filed in
      let s : CaseState Place = t.0 in
      let f = file_of_case answer (log_of es) w shows.cases p.number s t.1 in
      let e = became s t.1 in (
        subst (λ (x : CasesState S C R). AreCases answer (with_taken (log_of es) p) x) (sym e)
            (changed answer (log_of es) w shows.cases (with_taken (log_of es) p) p.number s (handed_out s p.op) t.1 (taken_same (log_of es) (length w.files) shows.cases.known p)
            (λ g at_g is. case_taken answer (log_of es) (length w.files) shows.cases.known p.number g s is p.op (due.due s t.1))
            (taken_known (log_of es) (length w.files) shows.cases.known p (slice_get_within w.files p.number f.0 f.1)) refl),
        sym (ap (λ (x : CasesState S C R). x.files) e),
      )

module _ {S C R : Type 0} (answer : S → List C → C → R) (passes : HistoryValue S C R → Criterion → Pattern → Type 0) (w u : CasesState S C R) where
  -- what the board hands out is taken
  pub take_done : (result : Option Piece) → (IsNone result → u ≡ w) → (IsNone result → (number : ℕ) → IsIdleAt w.board number) → IfSome result (λ p. IsDueOf w.board p)
      → IfSome result (λ p. (s : CaseState Place) → slice_get w.board p.number ≡ Some s → u ≡ with_case w p.number (handed_out s p.op)) → TakesOn answer passes Take w (Taken result) u
  take_done None same idle due became start k es shows = (
    (None, refl, λ c o. idle_says answer start k es w shows c (idle refl c) o),
    subst (λ (x : CasesState S C R). ShowsCases answer start k (es ++ (Take, Taken None) ∷ []) x) (sym (same refl))
        (shows_more answer start k es Take (Taken None) refl refl w w refl shows shows.cases),
  )
  take_done (Some p) same idle due became start k es shows =
      let l = due_leaves answer start k es w shows p u due became in
      ((Some p, refl, due_says answer start k es w shows p due), shows_more answer start k es Take (Taken (Some p)) refl refl w u l.1 shows l.0)
