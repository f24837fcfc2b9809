-- A case is filed.
use Rattle.std.proofs.Common.{◌≡◌, ℕ, zero, suc, ◌+◌, ◌<◌, ◌≤◌, inl, inr, List, [], ◌∷◌, ◌++◌, length, length-append, refl, sym, ◌∙◌, ap, subst, arith}
use Rattle.std.specs.Prelude.{◌↔◌, Bool, true, false, Option, Some, None, if◌then◌else◌, slice_get, nat_lt, Result, Ok, Err, IfErr, OnOk}
use Rattle.std.proofs.lemmas.Bool.{cases_lt, lt-ltb, ltb-true}
use Rattle.std.proofs.lemmas.Option.{slice_get_within}
use Rattle.live_recorder.proofs.Telling.{get_push_cases, get_push_before}
use Rattle.model_history.specs.History.{HistoryValue}
use Rattle.cert_check.specs.declared.criterion.Criterion.{Criterion}
use Rattle.cert_check.specs.declared.certificate.Certificate.{Certificate}
use Rattle.cert_check.specs.Certificates.{CaseRecord, IsCaseFile}
use Rattle.pattern_check.specs.declared.pattern.Pattern.{Pattern}
use Rattle.live_case_board.specs.declared.board_error.BoardError.{BoardError}
use Rattle.live_case_board.specs.Boards.{CaseState, SessionRows, fresh_case}
use Rattle.live_simulation.specs.declared.place.Place.{Place}
use Rattle.live_simulation.specs.declared.given_verdict.GivenVerdict.{GivenVerdict}
use Rattle.live_simulation.specs.declared.step.StepOf.{StepOf}
use Rattle.live_simulation.specs.declared.step.StepOf.TheVariants.{File}
use Rattle.live_simulation.specs.declared.reply.ReplyOf.{ReplyOf}
use Rattle.live_simulation.specs.declared.reply.ReplyOf.TheVariants.{Case, Refused}
use Rattle.live_simulation.specs.declared.refusal.Refusal.TheVariants.{ShapeMismatch, Full}
use Rattle.live_simulation.specs.Cases.{filings, case_file}
use Rattle.live_simulation.specs.BoardReplies.{IsFileReply, next_case}
use Rattle.live_case_board.specs.CaseFiles.{AreRowsFor}
use Rattle.live_simulation.specs.Steps.KeptCases.{Log, log_of, CasesState, IsCase, IsVerdict, AreCases, ShowsCases, Files, IsAdded, with_board, with_file, with_one_file}
use Rattle.live_simulation.proofs.Logs.{log_more, filed_known}
use Rattle.live_simulation.proofs.CaseRows.{AreFresh, fresh_none, fresh_some}
use Rattle.live_simulation.proofs.KeptCase.{case_new}
use Rattle.live_simulation.proofs.FiledFiles.{files_filed}
use Rattle.live_simulation.proofs.BoardChanges.{shows_refused}

fresh_for : {S C R : Type 0} (f : CaseRecord S C R) (rows : Bool × List SessionRows) → AreRowsFor f rows → AreFresh f.0 f.2 rows
fresh_for (h, criterion, None) rows are = fresh_none h rows are
fresh_for (h, criterion, Some x) rows are = fresh_some h rows x are.0 are.1

-- a board that is not full takes a case
module _ {S C R : Type 0} (w : CasesState S C R) (f : CaseRecord S C R) (rows : Bool × List SessionRows) (n : ℕ) (is : n ≡ length w.files) (are : AreRowsFor f rows) (room : length w.board < 64) where
  added_to : (v u : CasesState S C R) (result : Result ℕ BoardError) → v ≡ with_one_file w f → OnOk result (u ≡ with_board v (v.board ++ fresh_case record { number = n } rows ∷ []))
      → IfErr result (λ e. 64 ≤ length v.board) → IsAdded f w u
  added_to v u (Ok m) came became full =
      let one : with_board v (v.board ++ fresh_case record { number = n } rows ∷ []) ≡ with_file w f (fresh_case record { number = n } rows) =
      ap (λ (x : CasesState S C R). with_board x (x.board ++ fresh_case record { number = n } rows ∷ [])) came in
      (rows, are, became ∙ (one ∙ ap (λ (x : ℕ). with_file w f (fresh_case {M = Place} record { number = x } rows)) is))
  added_to v u (Err e) came became full =
      let many : length v.board ≡ length w.board = ap (λ (x : CasesState S C R). length x.board) came in
      let l : 64 ≤ length v.board = full in
      absurd (omega arith)

  pub adds : (v u : CasesState S C R) (result : Result ℕ BoardError) → v ≡ with_one_file w f → OnOk result (u ≡ with_board v (v.board ++ fresh_case record { number = n } rows ∷ []))
      → IfErr result (λ e. 64 ≤ length v.board) → IsAdded f w u
  adds v u result came became full = added_to v u result came became full

module _ {S C R : Type 0} (answer : S → List C → C → R) (l : Log) (w : CasesState S C R) (were : AreCases answer l w) (f : CaseRecord S C R) (s : CaseState Place) (this : IsCase answer l (length w.files) f s) where
  filed_case : (c : ℕ) (g : CaseRecord S C R) (t : CaseState Place) → slice_get (w.files ++ f ∷ []) c ≡ Some g → slice_get (w.board ++ s ∷ []) c ≡ Some t → IsCase answer l c g t
  filed_case c g t at_g at_t =
      let many : length w.board ≡ length w.files = were.as_many in
      elim (get_push_cases w.files f c g at_g) [
        | inl before ↦
            let below : c < length w.files = slice_get_within w.files c g before in
            elim (get_push_cases w.board s c t at_t) [
              | inl before' ↦ were.cases c g t before before'
              | inr last' ↦ absurd (let e : c ≡ length w.board = last'.0 in omega arith)
            ]
        | inr last ↦
            elim (get_push_cases w.board s c t at_t) [
              | inl before' ↦ absurd (let below : c < length w.board = slice_get_within w.board c t before' in let e : c ≡ length w.files = last.0 in omega arith)
              | inr last' ↦
                  subst (λ (n : ℕ). IsCase answer l n g t) (sym last.0)
                  (subst (λ (x : CaseRecord S C R). IsCase answer l (length w.files) x t) last.1 (subst (λ (x : CaseState Place). IsCase answer l (length w.files) f x) last'.1 this))
            ]
      ]

  filed_verdict : (v : ℕ) (g : GivenVerdict) → slice_get w.verdicts v ≡ Some g → IsVerdict answer (w.files ++ f ∷ []) g
  filed_verdict v g at =
      let t = were.true_verdicts v g at in
      record { file = t.file; filed = get_push_before w.files f g.piece.number t.file t.filed; piece = t.piece; outcome = t.outcome }

  cases_filed : AreCases answer l (with_file w f s)
  cases_filed = record {
    as_many = length-append w.board (s ∷ []) ∙ (ap (λ (n : ℕ). n + 1) were.as_many ∙ sym (length-append w.files (f ∷ [])));
    cases = filed_case;
    given = were.given;
    true_verdicts = filed_verdict;
    known =
        filed_known l (length w.files) were.known (length (w.files ++ f ∷ [])) (let more : length (w.files ++ f ∷ []) ≡ length w.files + 1 = length-append w.files (f ∷ []) in omega arith);
  }

module _ {S C R : Type 0} (answer : S → List C → C → R) (passes : HistoryValue S C R → Criterion → Pattern → Type 0) (w : CasesState S C R) (h : HistoryValue S C R) (q : Criterion) (x : Option Certificate) where
  -- the certificate does not fit
  pub file_mismatch : ¬ IsCaseFile (h, q, x) → Files answer passes h q x w (Refused ShapeMismatch) w
  file_mismatch unfit start k es z shows sealed = (
    subst (λ (o : Option (HistoryValue S C R)). IsFileReply es q x o (Refused ShapeMismatch)) (sym sealed) (inr (unfit, refl)),
    shows_refused answer start k es (File z q x) ShapeMismatch w shows,
  )

  next_full : (es : List (StepOf C R × ReplyOf (HistoryValue S C R))) (b : Bool) → b ≡ false → ◌≡◌ {A = ReplyOf (HistoryValue S C R)} (if b then Case (length (filings es)) else Refused Full) (Refused Full)
  next_full es true e = absurd cc
  next_full es false e = refl

  not_below : (n : ℕ) → 64 ≤ n → nat_lt n 64 ≡ false
  not_below n l = by (nat_lt n 64) refl
    where
      by : (b : Bool) → nat_lt n 64 ≡ b → b ≡ false
      by true e = let below : n < 64 = ltb-true n 64 e in absurd (omega arith)
      by false e = refl

  -- 64 cases are filed
  pub file_full : IsCaseFile (h, q, x) → 64 ≤ length w.board → Files answer passes h q x w (Refused Full) w
  file_full fits many start k es z shows sealed =
      let a : length w.board ≡ length w.files = shows.cases.as_many in
      let b : length w.files ≡ length (filings es) = shows.files.many in (
        subst (λ (o : Option (HistoryValue S C R)). IsFileReply es q x o (Refused Full)) (sym sealed)
            (inl (fits, sym (next_full es (nat_lt (length (filings es)) 64) (not_below (length (filings es)) (omega arith))))),
        shows_refused answer start k es (File z q x) Full w shows,
      )

  -- the next case is filed
  pub file_done : (n : ℕ) (u : CasesState S C R) → IsCaseFile (h, q, x) → length w.board < 64 → n ≡ length w.files → IsAdded (h, q, x) w u → Files answer passes h q x w (Case n) u
  file_done n u fits room is added start k es z shows sealed =
      let a : length w.board ≡ length w.files = shows.cases.as_many in
      let b : length w.files ≡ length (filings es) = shows.files.many in
      let below : nat_lt (length (filings es)) 64 ≡ true = lt-ltb (length (filings es)) 64 (omega arith) in
      let f : CaseRecord S C R = (h, q, x) in
      let reply : ◌≡◌ {A = ReplyOf (HistoryValue S C R)} (Case n) (next_case es) =
      ap {B = ReplyOf (HistoryValue S C R)} (λ (m : ℕ). Case m) (is ∙ b) ∙ sym (ap {B = ReplyOf (HistoryValue S C R)} (λ (t : Bool). if t then Case (length (filings es)) else Refused Full) below) in
      let this = case_new answer (log_of es) (length w.files) shows.cases.known f added.0 (fresh_for f added.0 added.1) in
      let are = cases_filed answer (log_of es) w shows.cases f (fresh_case record { number = length w.files } added.0) this in (
        subst (λ (o : Option (HistoryValue S C R)). IsFileReply es q x o (Case n)) (sym sealed) (inl (fits, reply)),
        subst (λ (y : CasesState S C R). ShowsCases answer start k (es ++ (File z q x, Case n) ∷ []) y) (sym added.2) record {
          files = files_filed start k es record { sealer = z; criterion = q; certificate = x } n w.files shows.files h sealed;
          cases = subst (λ (m : Log). AreCases answer m (with_file w f (fresh_case record { number = length w.files } added.0))) (sym (log_more es (File z q x) (Case n))) are;
        },
      )

-- before the first step
module _ {S C R : Type 0} (answer : S → List C → C → R) (start : S) (k : ℕ) where
  no_entry : {A : Type 0} (i : ℕ) (x : A) → slice_get [] i ≡ Some x → ⊥
  no_entry zero x e = cc
  no_entry (suc i) x e = cc

  none_filed : (c : ℕ) → slice_get [] c ≡ case_file {S = S} {C = C} {R = R} start k [] c
  none_filed zero = refl
  none_filed (suc c) = refl

  none_at_all : ShowsCases answer start k [] record { files = []; board = []; verdicts = [] }
  none_at_all = record {
    files = record { many = refl; each = none_filed };
    cases = record {
      as_many = refl;
      cases = λ c f s at_f at_s. absurd (no_entry c f at_f);
      given = refl;
      true_verdicts = λ v g at. absurd (no_entry v g at);
      known = record { puts = λ i c v at. absurd (no_entry {A = ℕ × ℕ} i (c, v) at); patterns = λ c l. refl; taken = λ i p at. absurd (no_entry i p at) };
    };
  }

  pub no_cases : (w : CasesState S C R) → w.files ≡ [] → w.board ≡ [] → w.verdicts ≡ [] → ShowsCases answer start k [] w
  no_cases w files board verdicts = subst (λ (x : CasesState S C R). ShowsCases answer start k [] x) (λ i. record { files = sym files i; board = sym board i; verdicts = sym verdicts i }) none_at_all

-- the same of a file that was made of these parts
module _ {S C R : Type 0} (file f : CaseRecord S C R) (same : file ≡ f) where
  pub fits_of : IsCaseFile file → IsCaseFile f
  fits_of fits = subst (λ (x : CaseRecord S C R). IsCaseFile x) same fits

  pub added_of : (w u : CasesState S C R) → IsAdded file w u → IsAdded f w u
  added_of w u added = subst (λ (x : CaseRecord S C R). IsAdded x w u) same added

-- there is room where the board is not full
pub room_of : (n : ℕ) (b : Bool) → b ≡ false → (b ≡ true) ↔ (64 ≤ n) → n < 64
room_of n b is says = elim (cases_lt n 64) [
  | inl below ↦ below
  | inr above ↦ let bad : true ≡ false = sym (says.1 above) ∙ is in absurd (cc)
]
