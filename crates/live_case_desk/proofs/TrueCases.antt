-- What the events of a board leave true of the files of its cases.
use Rattle.std.proofs.Common.{◌≡◌, ◌≢◌, ◌⊎◌, ℕ, zero, suc, ◌+◌, ◌<◌, ◌≤◌, ◌==◌, List, [], ◌∷◌, ◌++◌, length, set, get_or, arith, sym, ap, subst, refl, ◌∙◌, ⊎_elim, inl, inr, eqb-true}
use Rattle.std.specs.Prelude.{map, Bool, true, false, Option, Some, None, is_some, slice_get, replicate, if◌then◌else◌, Result, Ok, Err, IfOk, OnOk, OnErr, IfSome, IsNone}
use Rattle.std.proofs.lemmas.Bool.{cases_eq, cases_lt}
use Rattle.std.proofs.lemmas.List.{length-set, get_or-set_same, get_or-set_other, length-map, length-replicate, get_or-replicate, ext_get_or, get_or_append_left, get_or_past, length-append, get_or_at}
use Rattle.std.proofs.lemmas.Option.{same_Some, slice_get_within, slice_get-get_or, get_or_from_slice_get}
use Rattle.model_history.specs.declared.op_id.OpId.{OpId}
use Rattle.model_history.specs.History.{HistoryValue, session}
use Rattle.order_causal.proofs.OrdersLaws.{same_op}
use Rattle.cert_check.specs.declared.criterion.Criterion.{Criterion}
use Rattle.cert_check.specs.declared.checking.Outcome.{Outcome}
use Rattle.cert_check.specs.Certificates.{CaseRecord}
use Rattle.pattern_check.specs.declared.pattern.Pattern.{Pattern}
use Rattle.live_case_board.specs.declared.board_error.BoardError.{BoardError}
use Rattle.live_case_board.specs.declared.board_error.BoardError.TheVariants.{Stranger}
use Rattle.live_case_board.specs.Boards.{CaseState, SessionRows, Row, no_rows, fresh_rows, fresh_case, session_of, row_of, with_verdict, handed_out, refuted, filled, after_row, first_pattern}
use Rattle.live_case_board.specs.Events.{IsChanged, IsRow, IsDueOf, put_refusal, ask_refusal, refute_refusal, row_refusal}
use Rattle.live_case_board.proofs.BoardsLaws.{verdict_row, verdict_others, taking_rows}
use Rattle.live_case_board.proofs.Due.{waiting_row, due_is_row}
use Rattle.live_case_board.specs.declared.piece.Piece.{Piece}
use Rattle.live_case_board.specs.CaseFiles.{AreRowsFor, IsOutcome, HasPiece}
use Rattle.live_case_desk.specs.Files.{FileAt, CaseOf, VerdictOf, AreTrueCases, IsTrueCase, PassesFor, file_at, file_sizes, place_of, sizes}
use Rattle.live_case_desk.proofs.Sizes.{sizes-set, counted_at, row-has_piece}

-- what stands in a list of which one element was changed
set_get : {X : Type 0} (xs : List X) (n k : ℕ) (x y : X) → slice_get (set xs n x) k ≡ Some y → ((k ≡ n) × (y ≡ x)) ⊎ (slice_get xs k ≡ Some y)
set_get xs n k x y at =
    let within : k < length (set xs n x) = slice_get_within (set xs n x) k y at in
    let inside : k < length xs = subst (λ (m : ℕ). k < m) (length-set xs n x) within in
    let is : get_or (set xs n x) k x ≡ y = get_or_from_slice_get (set xs n x) k y x at in
    elim (cases_eq k n) [
      | inl same ↦
          let here : get_or (set xs n x) n x ≡ x = get_or-set_same xs n x x (subst (λ (m : ℕ). m < length xs) same inside) in
          inl (same, sym is ∙ (ap (λ (m : ℕ). get_or (set xs n x) m x) same ∙ here))
      | inr apart ↦
          let there : get_or (set xs n x) k x ≡ get_or xs k x = get_or-set_other xs n k x x apart in
          inr (slice_get-get_or xs k x inside ∙ ap Some (sym there ∙ is))
    ]

push_get : {X : Type 0} (xs : List X) (k : ℕ) (x y : X) → slice_get (xs ++ x ∷ []) k ≡ Some y → (y ≡ x) ⊎ (slice_get xs k ≡ Some y)
push_get xs k x y at =
    let within : k < length (xs ++ x ∷ []) = slice_get_within (xs ++ x ∷ []) k y at in
    let many : length (xs ++ x ∷ []) ≡ length xs + 1 = length-append xs (x ∷ []) in
    let is : get_or (xs ++ x ∷ []) k x ≡ y = get_or_from_slice_get (xs ++ x ∷ []) k y x at in
    elim (cases_lt k (length xs)) [
      | inl below ↦ inr (slice_get-get_or xs k x below ∙ ap Some (sym (get_or_append_left xs (x ∷ []) x k below) ∙ is))
      | inr above ↦
          let last : length xs ≡ k = omega arith in
          inl (sym is ∙ get_or_at xs x [] x k last)
    ]

found : {X : Type 0} (xs : List X) (n : ℕ) → n < length xs → (x : X) × (slice_get xs n ≡ Some x)
found [] n below = absurd (omega arith)
found (x ∷ xs) zero below = (x, refl)
found (x ∷ xs) (suc n) below = found xs n (omega arith)

same_place : (same : Bool) (r : Option BoardError) → (if same then r else Some Stranger) ≡ None → (same ≡ true) × (r ≡ None)
same_place true r e = (refl, e)
same_place false r e = absurd cc

waiting : (row : Option Row) → row_refusal row ≡ None → row ≡ Some None
waiting None e = absurd cc
waiting (Some None) e = refl
waiting (Some (Some outcome)) e = absurd cc

module _ {S C R : Type 0} where
  -- a case of the number and the place of another has its file
  abbrev pub Agrees : List (CaseState (FileAt S C R)) → CaseOf S C R → Type 0
  Agrees cases c = (s : CaseState (FileAt S C R)) → slice_get cases c.number ≡ Some s → s.mark.place ≡ c.place → s.mark.file ≡ c.file

  -- the case of an event that was not refused, and that its mark is of the place named
  pub accepted : (x : Option (CaseState (FileAt S C R))) (mark : FileAt S C R) → ask_refusal place_of x mark ≡ None
      → (s : CaseState (FileAt S C R)) × (x ≡ Some s) × (s.mark.place ≡ mark.place)
  accepted None mark e = absurd cc
  accepted (Some s) mark e = (s, refl, eqb-true s.mark.place mark.place (same_place (s.mark.place == mark.place) None e).0)

  -- the file of a ticket of a filed case has the piece that the case's has
  pub piece_of_ticket : (cases : List (CaseState (FileAt S C R))) (number : ℕ) (o : OpId) (file : CaseRecord S C R) → number < length cases
      → ((s : CaseState (FileAt S C R)) → slice_get cases number ≡ Some s → HasPiece s.mark.file o)
      → ((s : CaseState (FileAt S C R)) → slice_get cases number ≡ Some s → file ≡ s.mark.file) → HasPiece file o
  piece_of_ticket cases number o file filed piece same =
      let there = found cases number filed in
      subst (λ (f : CaseRecord S C R). HasPiece f o) (sym (same there.0 there.1)) (piece there.0 there.1)

  -- a pattern that passes is refused where a question is
  pub refusals_agree : (x : Option (CaseState (FileAt S C R))) (mark : FileAt S C R) → refute_refusal place_of x mark true ≡ ask_refusal place_of x mark
  refusals_agree None mark = refl
  refusals_agree (Some s) mark = refl

  put_accepted : (x : Option (CaseState (FileAt S C R))) (mark : FileAt S C R) (o : OpId) → put_refusal place_of x mark o ≡ None
      → (s : CaseState (FileAt S C R)) × (x ≡ Some s) × (s.mark.place ≡ mark.place) × IsRow s o
  put_accepted None mark o e = absurd cc
  put_accepted (Some s) mark o e =
      let both = same_place (s.mark.place == mark.place) (row_refusal (row_of s o)) e in
      (s, refl, eqb-true s.mark.place mark.place both.0, waiting_row s o (waiting (row_of s o) both.1))

  module _ (answer : S → List C → C → R) (passes : HistoryValue S C R → Criterion → Pattern → Type 0) where
    -- where one case stays true, all do
    changed : (old new : List (CaseState (FileAt S C R))) (number : ℕ) (s t : CaseState (FileAt S C R)) → slice_get old number ≡ Some s
        → new ≡ set old number t → AreTrueCases answer passes old → IsTrueCase answer passes t → AreTrueCases answer passes new
    changed old new number s t at became all true_t k u there =
        elim (set_get old number k t u (subst (λ (b : List (CaseState (FileAt S C R))). slice_get b k ≡ Some u) became there)) [
          | inl here ↦ subst (λ (v : CaseState (FileAt S C R)). IsTrueCase answer passes v) (sym here.1) true_t
          | inr apart ↦ all k u apart
        ]

    handed_out-true : (s : CaseState (FileAt S C R)) (o : OpId) → IsRow s o → IsTrueCase answer passes s → IsTrueCase answer passes (handed_out s o)
    handed_out-true s o row t =
        record {
          certificate = t.certificate;
          rows = sizes-set s.sessions o.session (after_row (session_of s o.session) o.index) refl ∙ t.rows;
          outcomes = λ a outcome at. t.outcomes a outcome (sym (taking_rows s o row a) ∙ at);
          pattern = t.pattern;
        }

    with_verdict-true : (s : CaseState (FileAt S C R)) (o : OpId) (outcome : Outcome) → IsRow s o → IsOutcome answer s.mark.file o outcome
        → IsTrueCase answer passes s → IsTrueCase answer passes (with_verdict s o outcome)
    with_verdict-true s o outcome row is t =
        let others : (a : OpId) (said : Outcome) → a ≢ o → row_of (with_verdict s o outcome) a ≡ Some (Some said) → IsOutcome answer s.mark.file a said
        = λ a said apart at. t.outcomes a said (sym (verdict_others s o row a outcome apart) ∙ at) in
        record {
          certificate = t.certificate;
          rows = sizes-set s.sessions o.session (filled (session_of s o.session) o.index outcome) (length-set (session_of s o.session).rows o.index (Some outcome)) ∙ t.rows;
          outcomes = λ a said at.
              ⊎_elim
              (λ (sessions : a.session ≡ o.session).
              ⊎_elim
              (λ (indices : a.index ≡ o.index).
              let same : a ≡ o = same_op a o sessions indices in
              let at_o : row_of (with_verdict s o outcome) o ≡ Some (Some said) = subst (λ (b : OpId). row_of (with_verdict s o outcome) b ≡ Some (Some said)) same at in
              let one : Some (Some outcome) ≡ Some (Some said) = sym (verdict_row s o row outcome) ∙ at_o in
              let said_is : outcome ≡ said = same_Some outcome said (same_Some (Some outcome) (Some said) one) in
              subst (λ (b : OpId). IsOutcome answer s.mark.file b said) (sym same) (subst (λ (w : Outcome). IsOutcome answer s.mark.file o w) said_is is))
              (λ (apart : a.index ≢ o.index). others a said (λ (e : a ≡ o). apart (ap (λ (b : OpId). b.index) e)) at)
              (cases_eq a.index o.index))
              (λ (apart : a.session ≢ o.session). others a said (λ (e : a ≡ o). apart (ap (λ (b : OpId). b.session) e)) at)
              (cases_eq a.session o.session);
          pattern = t.pattern;
        }

    first-passes : (file : CaseRecord S C R) (earlier : Option Pattern) (p q : Pattern) → ((e : Pattern) → earlier ≡ Some e → PassesFor passes file e)
        → PassesFor passes file p → Some (first_pattern earlier p) ≡ Some q → PassesFor passes file q
    first-passes file None p q known good is = subst (λ (e : Pattern). PassesFor passes file e) (same_Some p q is) good
    first-passes file (Some e) p q known good is = subst (λ (e : Pattern). PassesFor passes file e) (same_Some e q is) (known e refl)

    refuted-true : (s : CaseState (FileAt S C R)) (p : Pattern) → PassesFor passes s.mark.file p → IsTrueCase answer passes s → IsTrueCase answer passes (refuted s p)
    refuted-true s p good t =
        record {
          certificate = t.certificate;
          rows = t.rows;
          outcomes = t.outcomes;
          pattern = λ q is. first-passes s.mark.file s.pattern p q t.pattern good is;
        }

    -- handing a piece out leaves all cases true
    taking_keeps : (old new : List (CaseState (FileAt S C R))) (p : Piece) → AreTrueCases answer passes old
        → IsDueOf old p → IsChanged p.number (λ s. handed_out s p.op) old new → AreTrueCases answer passes new
    taking_keeps old new p all due change =
        let there = found old p.number due.filed in
        let s : CaseState (FileAt S C R) = there.0 in
        let at : slice_get old p.number ≡ Some s = there.1 in
        changed old new p.number s (handed_out s p.op) at (change s at) all (handed_out-true s p.op (due_is_row old p due s at) (all p.number s at))

    -- a verdict that is true of its file leaves all cases true
    putting_keeps : (old new : List (CaseState (FileAt S C R))) (v : VerdictOf S C R) → AreTrueCases answer passes old
        → ((s : CaseState (FileAt S C R)) → slice_get old v.case_of.number ≡ Some s → s.mark.place ≡ v.case_of.place → s.mark.file ≡ v.case_of.file)
        → IsOutcome answer v.case_of.file v.op v.outcome
        → put_refusal place_of (slice_get old v.case_of.number) (file_at v.case_of) v.op ≡ None
        → IsChanged v.case_of.number (λ s. with_verdict s v.op v.outcome) old new → AreTrueCases answer passes new
    putting_keeps old new v all agree is taken change =
        let there = put_accepted (slice_get old v.case_of.number) (file_at v.case_of) v.op taken in
        let s : CaseState (FileAt S C R) = there.0 in
        let at : slice_get old v.case_of.number ≡ Some s = there.1 in
        let file : s.mark.file ≡ v.case_of.file = agree s at there.2 in
        let is' : IsOutcome answer s.mark.file v.op v.outcome = subst (λ (f : CaseRecord S C R). IsOutcome answer f v.op v.outcome) (sym file) is in
        changed old new v.case_of.number s (with_verdict s v.op v.outcome) at (change s at) all (with_verdict-true s v.op v.outcome there.3 is' (all v.case_of.number s at))

    -- a pattern that passes for its file leaves all cases true
    refuting_keeps : (old new : List (CaseState (FileAt S C R))) (c : CaseOf S C R) (p : Pattern) → AreTrueCases answer passes old
        → ((s : CaseState (FileAt S C R)) → slice_get old c.number ≡ Some s → s.mark.place ≡ c.place → s.mark.file ≡ c.file)
        → PassesFor passes c.file p → ask_refusal place_of (slice_get old c.number) (file_at c) ≡ None
        → IsChanged c.number (λ s. refuted s p) old new → AreTrueCases answer passes new
    refuting_keeps old new c p all agree good taken change =
        let there = accepted (slice_get old c.number) (file_at c) taken in
        let s : CaseState (FileAt S C R) = there.0 in
        let at : slice_get old c.number ≡ Some s = there.1 in
        let file : s.mark.file ≡ c.file = agree s at there.2 in
        let good' : PassesFor passes s.mark.file p = subst (λ (f : CaseRecord S C R). PassesFor passes f p) (sym file) good in
        changed old new c.number s (refuted s p) at (change s at) all (refuted-true s p good' (all c.number s at))

    -- a new case is true of its file, for none of its rows has a verdict
    fresh-row : (n i : ℕ) (outcome : Outcome) → slice_get (replicate n None) i ≡ Some (Some outcome) → ⊥
    fresh-row n i outcome at =
        let within : i < length (replicate n None) = slice_get_within (replicate n None) i (Some outcome) at in
        let below : i < n = subst (λ (m : ℕ). i < m) (length-replicate n None) within in
        let none : get_or (replicate n None) i None ≡ None = get_or-replicate n i None None below in
        let some : get_or (replicate n None) i None ≡ Some outcome = get_or_from_slice_get (replicate n None) i (Some outcome) None at in
        let no : ◌≡◌ {A = Row} None (Some outcome) = sym none ∙ some in
        absurd cc

    no_row : (o : OpId) (outcome : Outcome) → slice_get no_rows.rows o.index ≡ Some (Some outcome) → ⊥
    no_row o outcome at = absurd cc

    fresh : (file : CaseRecord S C R) (rows : Bool × List SessionRows) → AreRowsFor file rows
        → (rows.0 ≡ is_some file.2) × (sizes rows.1 ≡ file_sizes file)
        × ((o : OpId) (outcome : Outcome) → slice_get (get_or rows.1 o.session no_rows).rows o.index ≡ Some (Some outcome) → ⊥)
    fresh (h, criterion, None) rows are = (
      ap (λ (r : Bool × List SessionRows). r.0) are,
      ap (λ (r : Bool × List SessionRows). sizes r.1) are,
      λ o outcome at.
          let none : get_or rows.1 o.session no_rows ≡ no_rows = ap (λ (r : Bool × List SessionRows). get_or r.1 o.session no_rows) are ∙ get_or_past [] o.session no_rows (omega arith) in
          no_row o outcome (subst (λ (t : SessionRows). slice_get t.rows o.index ≡ Some (Some outcome)) none at),
    )
    fresh (h, criterion, Some c) rows are =
        let at_session : (n : ℕ) → n < length h.1 → get_or rows.1 n no_rows ≡ fresh_rows (length (session h n))
        = λ n below. get_or_from_slice_get rows.1 n (fresh_rows (length (session h n))) no_rows (are.1.each n below) in
        let many : length (sizes rows.1) ≡ length (map length h.1) = length-map rows.1 _ ∙ (are.1.many ∙ sym (length-map h.1 length)) in (
          are.0,
          ext_get_or 0 (sizes rows.1) (map length h.1) many (λ n below.
              let inside : n < length h.1 = subst (λ (k : ℕ). n < k) (length-map rows.1 _ ∙ are.1.many) below in
              sym (counted_at (λ (t : SessionRows). length t.rows) no_rows refl rows.1 n)
              ∙ (ap (λ (t : SessionRows). length t.rows) (at_session n inside)
              ∙ (length-replicate (length (session h n)) None ∙ counted_at length [] refl h.1 n))),
          λ o outcome at.
              elim (cases_lt o.session (length h.1)) [
                | inl below ↦
                    fresh-row (length (session h o.session)) o.index outcome (subst (λ (t : SessionRows). slice_get t.rows o.index ≡ Some (Some outcome)) (at_session o.session below) at)
                | inr above ↦
                    let none : get_or rows.1 o.session no_rows ≡ no_rows = get_or_past rows.1 o.session no_rows (subst (λ (k : ℕ). k ≤ o.session) (sym are.1.many) above) in
                    no_row o outcome (subst (λ (t : SessionRows). slice_get t.rows o.index ≡ Some (Some outcome)) none at)
              ],
        )

    fresh-true : (mark : FileAt S C R) (rows : Bool × List SessionRows) → AreRowsFor mark.file rows → IsTrueCase answer passes (fresh_case mark rows)
    fresh-true mark rows are =
        let facts = fresh mark.file rows are in
        record {
          certificate = facts.0;
          rows = facts.1;
          outcomes = λ o outcome at. absurd (facts.2 o outcome at);
          pattern = λ p is. absurd cc;
        }

    -- filing a case leaves all cases true
    filing_keeps : (old new : List (CaseState (FileAt S C R))) (mark : FileAt S C R) (rows : Bool × List SessionRows) → AreTrueCases answer passes old
        → AreRowsFor mark.file rows → new ≡ old ++ fresh_case mark rows ∷ [] → AreTrueCases answer passes new
    filing_keeps old new mark rows all are became k s at =
        elim (push_get old k (fresh_case mark rows) s (subst (λ (b : List (CaseState (FileAt S C R))). slice_get b k ≡ Some s) became at)) [
          | inl here ↦ subst (λ (u : CaseState (FileAt S C R)). IsTrueCase answer passes u) (sym here) (fresh-true mark rows are)
          | inr earlier ↦ all k s earlier
        ]

    -- the same of the outcome of an event: a refused one leaves the board as it was
    unchanged : (old new : List (CaseState (FileAt S C R))) → AreTrueCases answer passes old → new ≡ old → AreTrueCases answer passes new
    unchanged old new all same = subst (λ (b : List (CaseState (FileAt S C R))). AreTrueCases answer passes b) (sym same) all

    pub filing_leaves : (old new : List (CaseState (FileAt S C R))) (mark : FileAt S C R) (rows : Bool × List SessionRows) (result : Result ℕ BoardError)
        → AreTrueCases answer passes old → AreRowsFor mark.file rows → OnOk result (new ≡ old ++ fresh_case mark rows ∷ []) → OnErr result (new ≡ old)
        → AreTrueCases answer passes new
    filing_leaves old new mark rows (Ok n) all are became same = filing_keeps old new mark rows all are became
    filing_leaves old new mark rows (Err e) all are became same = unchanged old new all same

    pub taking_leaves : (old new : List (CaseState (FileAt S C R))) (result : Option Piece) → AreTrueCases answer passes old
        → (IsNone result → new ≡ old) → IfSome result (λ p. IsDueOf old p) → IfSome result (λ p. IsChanged p.number (λ s. handed_out s p.op) old new)
        → AreTrueCases answer passes new
    taking_leaves old new None all none due taken = unchanged old new all (none refl)
    taking_leaves old new (Some p) all none due taken = taking_keeps old new p all due taken

    pub putting_leaves : (old new : List (CaseState (FileAt S C R))) (v : VerdictOf S C R) (result : Result Unit BoardError) → AreTrueCases answer passes old
        → ((s : CaseState (FileAt S C R)) → slice_get old v.case_of.number ≡ Some s → s.mark.place ≡ v.case_of.place → s.mark.file ≡ v.case_of.file)
        → IsOutcome answer v.case_of.file v.op v.outcome
        → IfOk result (λ _. put_refusal place_of (slice_get old v.case_of.number) (file_at v.case_of) v.op ≡ None)
        → OnOk result (IsChanged v.case_of.number (λ s. with_verdict s v.op v.outcome) old new) → OnErr result (new ≡ old)
        → AreTrueCases answer passes new
    putting_leaves old new v (Ok u) all agree is taken change same = putting_keeps old new v all agree is taken change
    putting_leaves old new v (Err e) all agree is taken change same = unchanged old new all same

    pub refuting_leaves : (old new : List (CaseState (FileAt S C R))) (c : CaseOf S C R) (p : Pattern) (result : Result Unit BoardError)
        → AreTrueCases answer passes old
        → ((s : CaseState (FileAt S C R)) → slice_get old c.number ≡ Some s → s.mark.place ≡ c.place → s.mark.file ≡ c.file)
        → PassesFor passes c.file p → IfOk result (λ _. refute_refusal place_of (slice_get old c.number) (file_at c) true ≡ None)
        → OnOk result (IsChanged c.number (λ s. refuted s p) old new) → OnErr result (new ≡ old)
        → AreTrueCases answer passes new
    refuting_leaves old new c p (Ok u) all agree good taken change same =
        refuting_keeps old new c p all agree good (sym (refusals_agree (slice_get old c.number) (file_at c)) ∙ taken) change
    refuting_leaves old new c p (Err e) all agree good taken change same = unchanged old new all same

    -- what is handed out is a piece of a case that is filed
    after_taking : (old new : List (CaseState (FileAt S C R))) (p : Piece) → AreTrueCases answer passes old → IsDueOf old p
        → IsChanged p.number (λ s. handed_out s p.op) old new
        → (p.number < length new) × ((u : CaseState (FileAt S C R)) → slice_get new p.number ≡ Some u → HasPiece u.mark.file p.op)
    after_taking old new p all due change =
        let there = found old p.number due.filed in
        let s : CaseState (FileAt S C R) = there.0 in
        let at : slice_get old p.number ≡ Some s = there.1 in
        let became : new ≡ set old p.number (handed_out s p.op) = change s at in
        let many : length new ≡ length old = ap length became ∙ length-set old p.number (handed_out s p.op) in
        let piece : HasPiece s.mark.file p.op = row-has_piece s ((all p.number s at).rows) p.op (due_is_row old p due s at) in (
          subst (λ (k : ℕ). p.number < k) (sym many) due.filed,
          λ u at_u.
              elim (set_get old p.number p.number (handed_out s p.op) u (subst (λ (b : List (CaseState (FileAt S C R))). slice_get b p.number ≡ Some u) became at_u)) [
                | inl here ↦ subst (λ (v : CaseState (FileAt S C R)). HasPiece v.mark.file p.op) (sym here.1) piece
                | inr earlier ↦ subst (λ (v : CaseState (FileAt S C R)). HasPiece v.mark.file p.op) (same_Some s u (sym at ∙ earlier)) piece
              ],
        )

    pub taken_filed : (old new : List (CaseState (FileAt S C R))) (result : Option Piece) → AreTrueCases answer passes old → IfSome result (λ p. IsDueOf old p)
        → IfSome result (λ p. IsChanged p.number (λ s. handed_out s p.op) old new) → IfSome result (λ p. p.number < length new)
    taken_filed old new None all due change = tt
    taken_filed old new (Some p) all due change = (after_taking old new p all due change).0

    pub taken_pieces : (old new : List (CaseState (FileAt S C R))) (result : Option Piece) → AreTrueCases answer passes old → IfSome result (λ p. IsDueOf old p)
        → IfSome result (λ p. IsChanged p.number (λ s. handed_out s p.op) old new)
        → IfSome result (λ p. (u : CaseState (FileAt S C R)) → slice_get new p.number ≡ Some u → HasPiece u.mark.file p.op)
    taken_pieces old new None all due change = tt
    taken_pieces old new (Some p) all due change = (after_taking old new p all due change).1

    -- the same, where number, mark, operation and outcome were read off the verdict
    pub putting_by : (old new : List (CaseState (FileAt S C R))) (v : VerdictOf S C R) (number : ℕ) (mark : FileAt S C R) (o : OpId) (outcome : Outcome)
        (result : Result Unit BoardError) → number ≡ v.case_of.number → mark ≡ file_at v.case_of → o ≡ v.op → outcome ≡ v.outcome
        → AreTrueCases answer passes old
        → ((s : CaseState (FileAt S C R)) → slice_get old v.case_of.number ≡ Some s → s.mark.place ≡ v.case_of.place → s.mark.file ≡ v.case_of.file)
        → IsOutcome answer v.case_of.file v.op outcome
        → IfOk result (λ _. put_refusal place_of (slice_get old number) mark o ≡ None)
        → OnOk result (IsChanged number (λ s. with_verdict s o outcome) old new) → OnErr result (new ≡ old)
        → AreTrueCases answer passes new
    putting_by old new v number mark o outcome result e_number e_mark e_op e_outcome all agree is taken change same =
        let Taken : ℕ → FileAt S C R → OpId → Type 0 = λ n m a. IfOk result (λ _. put_refusal place_of (slice_get old n) m a ≡ None) in
        let Filled : ℕ → OpId → Outcome → Type 0 = λ n a w. OnOk result (IsChanged n (λ s. with_verdict s a w) old new) in
        let taken' : Taken v.case_of.number (file_at v.case_of) v.op =
        subst (λ n. Taken n (file_at v.case_of) v.op) e_number (subst (λ m. Taken number m v.op) e_mark (subst (λ a. Taken number mark a) e_op taken)) in
        let change' : Filled v.case_of.number v.op v.outcome =
        subst (λ n. Filled n v.op v.outcome) e_number (subst (λ a. Filled number a v.outcome) e_op (subst (λ w. Filled number o w) e_outcome change)) in
        putting_leaves old new v result all agree (subst (λ (w : Outcome). IsOutcome answer v.case_of.file v.op w) e_outcome is) taken' change' same

    pub refuting_by : (old new : List (CaseState (FileAt S C R))) (c : CaseOf S C R) (p : Pattern) (number : ℕ) (mark : FileAt S C R)
        (result : Result Unit BoardError) → number ≡ c.number → mark ≡ file_at c → AreTrueCases answer passes old
        → ((s : CaseState (FileAt S C R)) → slice_get old c.number ≡ Some s → s.mark.place ≡ c.place → s.mark.file ≡ c.file)
        → PassesFor passes c.file p → IfOk result (λ _. refute_refusal place_of (slice_get old number) mark true ≡ None)
        → OnOk result (IsChanged number (λ s. refuted s p) old new) → OnErr result (new ≡ old)
        → AreTrueCases answer passes new
    refuting_by old new c p number mark result e_number e_mark all agree good taken change same =
        let Taken : ℕ → FileAt S C R → Type 0 = λ n m. IfOk result (λ _. refute_refusal place_of (slice_get old n) m true ≡ None) in
        let Kept : ℕ → Type 0 = λ n. OnOk result (IsChanged n (λ s. refuted s p) old new) in
        let taken' : Taken c.number (file_at c) = subst (λ n. Taken n (file_at c)) e_number (subst (λ m. Taken number m) e_mark taken) in
        refuting_leaves old new c p result all agree good taken' (subst Kept e_number change) same
