-- What is written of sealed histories, one after the other.
use Rattle.std.proofs.Common.{◌≡◌, ◌≤◌, ◌+◌, ◌∙◌, ℕ, zero, suc, List, [], ◌∷◌, ◌++◌, length, take, refl, sym, ap, subst, Some}
use Rattle.std.specs.Prelude.{codes, slice_get}
use Rattle.std.specs.List.{flat_map}
use Rattle.std.proofs.lemmas.List.{flat_map_more, take_all}
use Rattle.std.proofs.lemmas.Option.{same_Some}
use Rattle.model_history.specs.History.{HistoryValue}
use Rattle.live_seals.specs.Seals.{SealState}
use Rattle.live_driver.specs.Drives.{RepeatsCalls}
use Rattle.json_histories.specs.declared.any_history.AnyHistory.{AnyHistory}
use Rattle.json_histories.specs.AnyForm.{form_of, IsAnyHistory}
use Rattle.serde_json.specs.Written.{compact_text}
use Rattle.cert_check.proofs.Named.{take_next}
use Rattle.app_orders.specs.declared.drive.Drive.{Drive}
use Rattle.app_findings.specs.declared.finding.Findings.{Findings}
use Rattle.app_findings.specs.declared.kept.Kept.TheVariants.{Answers}
use Rattle.app_findings.specs.Findings.{EachIsFound}
use Rattle.app_findings.proofs.Each.{found-known, found-names, found-true}
use Rattle.app_explanations.specs.Report.{text_for}
use Rattle.app_engine.specs.Driving.{CanDrive, IsDriven, IsSealedFrom, IsTrueReport, Repeats, SealedReport, sessions_in, text_of}
use Rattle.app_engine.specs.Steps.SealedTexts.{AreTrueReports, AreTrueTexts, IsReportedText, IsTrueText}

-- the text of a sealed history
pub true_text : (input history named : AnyHistory) (text : List ℕ) → named ≡ history → IsSealedFrom input history → IsReportedText named text
    → IsTrueText input history text
true_text input history named text same sealed (report, is_history, found, is) = (record { history = named; report = report }, same, report_is_true, is)
  where
    report_is_true : IsTrueReport input (record { history = named; report = report })
    report_is_true = record {
      is_history = is_history;
      sealed = subst (λ (h : AnyHistory). IsSealedFrom input h) (sym same) sealed;
      answers = record {
        true_of = found-true Answers named report found;
        unknown = found-known Answers named report found;
        unexplained = found-names Answers named report found;
      };
    }

-- the form of a history and the lines of a report on it are what is found of it
pub reported_text : (history : AnyHistory) (report : Findings) (form lines text : List ℕ) → IsAnyHistory history → EachIsFound Answers history report
    → form ≡ compact_text (form_of history) → lines ≡ text_for report → text ≡ form ++ (codes "\n" ++ lines) → IsReportedText history text
reported_text history report form lines text is_history found of_form of_lines is =
    (report, is_history, found, is ∙ (λ i. of_form i ++ (codes "\n" ++ of_lines i)))

module _ {S C R : Type 0} (any : HistoryValue S C R → AnyHistory) (input : HistoryValue S C R) where
  -- one more report of one more history
  reports_more : (seals : List (SealState S C R)) (reports : List SealedReport) (x : SealState S C R) (s : SealedReport) → AreTrueReports any input seals reports
      → s.history ≡ any x.history → IsTrueReport (any input) s → AreTrueReports any input (seals ++ x ∷ []) (reports ++ s ∷ [])
  reports_more [] [] x s before same report = (same, report, tt)
  reports_more [] (t ∷ reports) x s before same report = absurd before
  reports_more (y ∷ seals) [] x s before same report = absurd before
  reports_more (y ∷ seals) (t ∷ reports) x s before same report = (before.0, before.1, reports_more seals reports x s before.2 same report)

  pub texts_more : (seals : List (SealState S C R)) (x : SealState S C R) (text more : List ℕ) → AreTrueTexts any input seals text
      → IsTrueText (any input) (any x.history) more → AreTrueTexts any input (seals ++ x ∷ []) (text ++ more)
  texts_more seals x text more before new =
      (before.0 ++ new.0 ∷ [], reports_more seals before.0 x new.0 before.1 new.1 new.2, both before.0 new.0 text more before.2 new.3)
    where
      both : (reports : List SealedReport) (s : SealedReport) (t u : List ℕ) → t ≡ flat_map text_of reports → u ≡ text_of s
          → t ++ u ≡ flat_map text_of (reports ++ s ∷ [])
      both reports s t u first second = (λ i. first i ++ second i) ∙ flat_map_more text_of [] reports s

  pub texts_next : (seals : List (SealState S C R)) (i : ℕ) (x : SealState S C R) (text more all : List ℕ) → slice_get seals i ≡ Some x
      → AreTrueTexts any input (take i seals) text → IsTrueText (any input) (any x.history) more → all ≡ text ++ more
      → AreTrueTexts any input (take (i + 1) seals) all
  texts_next seals i x text more all at before new is =
      let longer : take (i + 1) seals ≡ take i seals ++ x ∷ [] = take_next seals i x at in
      subst (λ (xs : List (SealState S C R)). AreTrueTexts any input xs all) (sym longer)
      (subst (λ (t : List ℕ). AreTrueTexts any input (take i seals ++ x ∷ []) t) (sym is) (texts_more (take i seals) x text more before new))

  -- the first as many as there are, or more, are all
  pub texts_all : (seals : List (SealState S C R)) (i : ℕ) (text : List ℕ) → length seals ≤ i → AreTrueTexts any input (take i seals) text
      → AreTrueTexts any input seals text
  texts_all seals i text past texts = subst (λ (xs : List (SealState S C R)). AreTrueTexts any input xs text) (take_all i seals past) texts

  -- as many reports as histories; each is a true one, and of the history at its place
  many_reports : (seals : List (SealState S C R)) (reports : List SealedReport) → AreTrueReports any input seals reports → length reports ≡ length seals
  many_reports [] [] true = refl
  many_reports [] (t ∷ reports) true = absurd true
  many_reports (y ∷ seals) [] true = absurd true
  many_reports (y ∷ seals) (t ∷ reports) true = ap suc (many_reports seals reports true.2)

  report_at : (seals : List (SealState S C R)) (reports : List SealedReport) → AreTrueReports any input seals reports → (j : ℕ) (s : SealedReport)
      → slice_get reports j ≡ Some s → (x : SealState S C R) × (slice_get seals j ≡ Some x) × (s.history ≡ any x.history) × IsTrueReport (any input) s
  report_at [] [] true j s at = absurd (cc)
  report_at [] (t ∷ reports) true j s at = absurd true
  report_at (y ∷ seals) [] true j s at = absurd true
  report_at (y ∷ seals) (t ∷ reports) true zero s at =
      subst (λ (r : SealedReport). (x : SealState S C R) × (slice_get (y ∷ seals) 0 ≡ Some x) × (r.history ≡ any x.history) × IsTrueReport (any input) r)
      (same_Some t s at) (y, refl, true.0, true.1)
  report_at (y ∷ seals) (t ∷ reports) true (suc j) s at = report_at seals reports true.2 j s at

  -- true texts of one history more than were asked for, whose last repeats the input's calls, are what a drive writes
  pub texts_are_driven : (drive : Drive) (seals : List (SealState S C R)) (text : List ℕ) → CanDrive drive.stop (sessions_in (any input))
      → ((a b : HistoryValue S C R) → RepeatsCalls drive.stop a b → Repeats drive.stop (any a) (any b))
      → length seals ≡ drive.seals + 1 → ((x : SealState S C R) → slice_get seals drive.seals ≡ Some x → RepeatsCalls drive.stop input x.history)
      → AreTrueTexts any input seals text → IsDriven drive (any input) text
  texts_are_driven drive seals text can repeats many last texts = record {
    can = can;
    reports = texts.0;
    many = many_reports seals texts.0 texts.1 ∙ many;
    each = λ j s at. (report_at seals texts.0 texts.1 j s at).3;
    last = λ s at.
        let found = report_at seals texts.0 texts.1 drive.seals s at in
        subst (λ (h : AnyHistory). Repeats drive.stop (any input) h) (sym found.2) (repeats input found.0.history (last found.0 found.1));
    whole = texts.2;
  }
