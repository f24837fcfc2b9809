-- What a desk answers of a case whose board is true of its file.
use Rattle.std.proofs.Common.{◌≡◌, ℕ, ◌≤◌, List, sym, ap, subst, refl, ◌∙◌}
use Rattle.std.specs.Prelude.{true, false, Option, Some, None, is_some, slice_get, option_map, option_copied, Result, Ok, Err, IfOk, IfSome}
use denote.Ref.{Bor}
use Rattle.std.proofs.lemmas.Option.{same_Some, slice_get_within}
use Rattle.model_history.specs.declared.op_id.OpId.{OpId}
use Rattle.model_history.specs.History.{HistoryValue}
use Rattle.cert_check.specs.declared.criterion.Criterion.{Criterion}
use Rattle.cert_check.specs.declared.certificate.Certificate.{Certificate}
use Rattle.cert_check.specs.declared.checking.Outcome.TheVariants.{Explained, Unexplained}
use Rattle.cert_check.specs.Certificates.{CaseRecord, IsCaseFile, IsExplainedPiece, IsExplainedThroughout, HasShapeOf, criterion_of}
use Rattle.cert_check.specs.Criteria.{Meets}
use Rattle.pattern_check.specs.declared.kind.Kind.{Kind}
use Rattle.pattern_check.specs.declared.pattern.Pattern.{Pattern}
use Rattle.pattern_check.specs.Patterns.{kind_of}
use Rattle.live_case_board.specs.declared.answer.Answer.{Answer}
use Rattle.live_case_board.specs.declared.answer.Answer.TheVariants.{Yes, No, Unknown, Open}
use Rattle.live_case_board.specs.declared.board_error.BoardError.{BoardError}
use Rattle.live_case_board.specs.Boards.{CaseState, row_of, session_of}
use Rattle.live_case_board.specs.Events.{IsRow, IsStanding, ask_refusal}
use Rattle.live_case_desk.specs.Files.{FileAt, CaseOf, AreTrueCases, IsTrueCase, PassesFor, file_at, place_of}
use Rattle.live_case_desk.specs.Answers.{IsTrueAnswer, IsRefutedBy, operations_of}
use Rattle.live_case_desk.proofs.Sizes.{row-has_piece, piece-has_row, open-within}
use Rattle.live_case_desk.proofs.TrueCases.{accepted}

some_of : {X : Type 0} (x : Option X) → is_some x ≡ true → (y : X) × (x ≡ Some y)
some_of None e = absurd cc
some_of (Some y) e = (y, refl)

none_of : {X : Type 0} (x : Option X) → is_some x ≡ false → x ≡ None
none_of None e = refl
none_of (Some y) e = absurd cc

module _ {S C R : Type 0} (answer : S → List C → C → R) (passes : HistoryValue S C R → Criterion → Pattern → Type 0) where
  refuted-by : (file : CaseRecord S C R) (pattern : Option Pattern) (kind : Kind) → ((p : Pattern) → pattern ≡ Some p → PassesFor passes file p)
      → option_map kind_of pattern ≡ Some kind → IsRefutedBy passes file kind
  refuted-by file None kind known is = absurd cc
  refuted-by file (Some p) kind known is = (p, same_Some (kind_of p) kind is, known p refl)

  module _ (s : CaseState (FileAt S C R)) (t : IsTrueCase answer passes s) where
    certificate-there : s.has_certificate ≡ true → (c : Certificate) × (s.mark.file.2 ≡ Some c)
    certificate-there has = some_of s.mark.file.2 (sym t.certificate ∙ has)

    explained-at : (c : Certificate) → s.mark.file.2 ≡ Some c → (o : OpId) → row_of s o ≡ Some (Some Explained) → IsExplainedPiece answer s.mark.file.0 c o
    explained-at c is o at =
        let e = (t.outcomes o Explained at).0 refl in
        let same : e.0 ≡ c = same_Some e.0 c (sym e.1 ∙ is) in
        subst (λ (d : Certificate). IsExplainedPiece answer s.mark.file.0 d o) same e.2

    true_answer : (a : Answer) → IsStanding s a → IsTrueAnswer answer passes s.mark.file a
    true_answer Yes standing =
        let c = certificate-there standing.0.1 in
        (c.0, c.1, λ o is_op. explained-at c.0 c.1 o (standing.2 o (piece-has_row s t.rows o (ap is_some c.1, is_op))))
    true_answer (No kind) standing = refuted-by s.mark.file s.pattern kind t.pattern standing
    true_answer (Unknown None) standing = none_of s.mark.file.2 (sym t.certificate ∙ standing.1)
    true_answer (Unknown (Some o)) standing =
        let c = certificate-there standing.0.1 in
        let row : IsRow s o = slice_get_within (session_of s o.session).rows o.index (Some Unexplained) standing.2.unexplained in (
          c.0,
          c.1,
          record {
            is_op = (row-has_piece s t.rows o row).1;
            unexplained = λ e.
                let no : ◌≡◌ Unexplained Explained = (t.outcomes o Unexplained standing.2.unexplained).1 (c.0, c.1, e) in
                absurd cc;
            earlier = λ a is_op before. explained-at c.0 c.1 a (standing.2.earlier a (piece-has_row s t.rows a (ap is_some c.1, is_op)) before);
          },
        )
    true_answer (Open n) standing =
        (sym t.certificate ∙ standing.0.1, standing.2, subst (λ (k : ℕ). k ≤ operations_of s.mark.file.0) standing.1 (open-within s t.rows))

  -- how a case stands is true of the file of a ticket of its number and place
  asked_truth : (cases : List (CaseState (FileAt S C R))) (c : CaseOf S C R) (a : Answer) → AreTrueCases answer passes cases
      → ((s : CaseState (FileAt S C R)) → slice_get cases c.number ≡ Some s → s.mark.place ≡ c.place → s.mark.file ≡ c.file)
      → ask_refusal place_of (slice_get cases c.number) (file_at c) ≡ None
      → ((s : CaseState (FileAt S C R)) → slice_get cases c.number ≡ Some s → IsStanding s a) → IsTrueAnswer answer passes c.file a
  asked_truth cases c a all agree taken standing =
      let there = accepted (slice_get cases c.number) (file_at c) taken in
      let s : CaseState (FileAt S C R) = there.0 in
      let at : slice_get cases c.number ≡ Some s = there.1 in
      subst (λ (f : CaseRecord S C R). IsTrueAnswer answer passes f a) (agree s at there.2) (true_answer s (all c.number s at) a (standing s at))

  -- a pattern that stands with a case passes for the file of such a ticket
  kept_pattern : (cases : List (CaseState (FileAt S C R))) (c : CaseOf S C R) (p : Pattern) → AreTrueCases answer passes cases
      → ((s : CaseState (FileAt S C R)) → slice_get cases c.number ≡ Some s → s.mark.place ≡ c.place → s.mark.file ≡ c.file)
      → ask_refusal place_of (slice_get cases c.number) (file_at c) ≡ None
      → ((s : CaseState (FileAt S C R)) → slice_get cases c.number ≡ Some s → Some p ≡ s.pattern) → PassesFor passes c.file p
  kept_pattern cases c p all agree taken stands =
      let there = accepted (slice_get cases c.number) (file_at c) taken in
      let s : CaseState (FileAt S C R) = there.0 in
      let at : slice_get cases c.number ≡ Some s = there.1 in
      subst (λ (f : CaseRecord S C R). PassesFor passes f p) (agree s at there.2) ((all c.number s at).pattern p (sym (stands s at)))

  pub asked_truths : (cases : List (CaseState (FileAt S C R))) (c : CaseOf S C R) (result : Result Answer BoardError) → AreTrueCases answer passes cases
      → ((s : CaseState (FileAt S C R)) → slice_get cases c.number ≡ Some s → s.mark.place ≡ c.place → s.mark.file ≡ c.file)
      → IfOk result (λ _. ask_refusal place_of (slice_get cases c.number) (file_at c) ≡ None)
      → IfOk result (λ a. (s : CaseState (FileAt S C R)) → slice_get cases c.number ≡ Some s → IsStanding s a)
      → IfOk result (IsTrueAnswer answer passes c.file)
  asked_truths cases c (Ok a) all agree taken standing = asked_truth cases c a all agree taken standing
  asked_truths cases c (Err e) all agree taken standing = tt

  pub kept_patterns : (cases : List (CaseState (FileAt S C R))) (c : CaseOf S C R) (result : Result (Option (Bor Pattern)) BoardError)
      → AreTrueCases answer passes cases
      → ((s : CaseState (FileAt S C R)) → slice_get cases c.number ≡ Some s → s.mark.place ≡ c.place → s.mark.file ≡ c.file)
      → IfOk result (λ _. ask_refusal place_of (slice_get cases c.number) (file_at c) ≡ None)
      → IfOk result (λ p. (s : CaseState (FileAt S C R)) → slice_get cases c.number ≡ Some s → option_copied p ≡ s.pattern)
      → IfOk result (λ p. IfSome p (λ r. PassesFor passes c.file r.now))
  kept_patterns cases c (Ok None) all agree taken stands = tt
  kept_patterns cases c (Ok (Some r)) all agree taken stands = kept_pattern cases c r.now all agree taken stands
  kept_patterns cases c (Err e) all agree taken stands = tt

  -- the same, where number and mark were read off the ticket
  pub asked_by : (cases : List (CaseState (FileAt S C R))) (c : CaseOf S C R) (number : ℕ) (mark : FileAt S C R) (result : Result Answer BoardError)
      → number ≡ c.number → mark ≡ file_at c → AreTrueCases answer passes cases
      → ((s : CaseState (FileAt S C R)) → slice_get cases c.number ≡ Some s → s.mark.place ≡ c.place → s.mark.file ≡ c.file)
      → IfOk result (λ _. ask_refusal place_of (slice_get cases number) mark ≡ None)
      → IfOk result (λ a. (s : CaseState (FileAt S C R)) → slice_get cases number ≡ Some s → IsStanding s a)
      → IfOk result (IsTrueAnswer answer passes c.file)
  asked_by cases c number mark result e_number e_mark all agree taken standing =
      let Taken : ℕ → FileAt S C R → Type 0 = λ n m. IfOk result (λ _. ask_refusal place_of (slice_get cases n) m ≡ None) in
      let Stands : ℕ → Type 0 = λ n. IfOk result (λ a. (s : CaseState (FileAt S C R)) → slice_get cases n ≡ Some s → IsStanding s a) in
      let taken' : Taken c.number (file_at c) = subst (λ n. Taken n (file_at c)) e_number (subst (λ m. Taken number m) e_mark taken) in
      asked_truths cases c result all agree taken' (subst Stands e_number standing)

  pub patterns_by : (cases : List (CaseState (FileAt S C R))) (c : CaseOf S C R) (number : ℕ) (mark : FileAt S C R) (result : Result (Option (Bor Pattern)) BoardError)
      → number ≡ c.number → mark ≡ file_at c → AreTrueCases answer passes cases
      → ((s : CaseState (FileAt S C R)) → slice_get cases c.number ≡ Some s → s.mark.place ≡ c.place → s.mark.file ≡ c.file)
      → IfOk result (λ _. ask_refusal place_of (slice_get cases number) mark ≡ None)
      → IfOk result (λ p. (s : CaseState (FileAt S C R)) → slice_get cases number ≡ Some s → option_copied p ≡ s.pattern)
      → IfOk result (λ p. IfSome p (λ r. PassesFor passes c.file r.now))
  patterns_by cases c number mark result e_number e_mark all agree taken stands =
      let Taken : ℕ → FileAt S C R → Type 0 = λ n m. IfOk result (λ _. ask_refusal place_of (slice_get cases n) m ≡ None) in
      let Stands : ℕ → Type 0 = λ n. IfOk result (λ p. (s : CaseState (FileAt S C R)) → slice_get cases n ≡ Some s → option_copied p ≡ s.pattern) in
      let taken' : Taken c.number (file_at c) = subst (λ n. Taken n (file_at c)) e_number (subst (λ m. Taken number m) e_mark taken) in
      kept_patterns cases c result all agree taken' (subst Stands e_number stands)

-- a yes that is true shows that the history meets the criterion, and a no that it does not
module _ {S C R : Type 0} (answer : S → List C → C → R) (passes : HistoryValue S C R → Criterion → Pattern → Type 0) (file : CaseRecord S C R) where
  pub yes_met : IsCaseFile file → ((h : HistoryValue S C R) (c : Certificate) → HasShapeOf h c → IsExplainedThroughout answer h c → Meets answer h (criterion_of c))
      → (a : Answer) → IsTrueAnswer answer passes file a → a ≡ Yes → Meets answer file.0 file.1
  yes_met kept law a truth is_yes =
      let said : IsTrueAnswer answer passes file Yes = subst (λ (b : Answer). IsTrueAnswer answer passes file b) is_yes truth in
      let shaped = kept said.0 said.1 in
      subst (λ (criterion : Criterion). Meets answer file.0 criterion) shaped.0 (law file.0 said.0 shaped.1 said.2)

  pub no_unmet : ((h : HistoryValue S C R) (criterion : Criterion) (p : Pattern) → passes h criterion p → ¬ Meets answer h criterion)
      → (a : Answer) → IsTrueAnswer answer passes file a → (kind : Kind) → a ≡ No kind → ¬ Meets answer file.0 file.1
  no_unmet law a truth kind is_no =
      let said : IsTrueAnswer answer passes file (No kind) = subst (λ (b : Answer). IsTrueAnswer answer passes file b) is_no truth in
      law file.0 file.1 said.0 said.2
