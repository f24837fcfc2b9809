-- The files of the cases stay, and one more is filed.
use Rattle.std.proofs.Common.{◌≡◌, ◌⊎◌, ℕ, ◌<◌, ◌≤◌, ◌+◌, inl, inr, List, [], ◌∷◌, ◌++◌, length, length-append, refl, sym, ◌∙◌, ap, subst, arith}
use Rattle.std.specs.Prelude.{Option, Some, None, slice_get}
use Rattle.std.proofs.lemmas.Bool.{cases_eq, cases_lt}
use Rattle.std.proofs.lemmas.List.{append-nil}
use Rattle.std.proofs.lemmas.Option.{slice_get_past}
use Rattle.model_history.specs.History.{HistoryValue}
use Rattle.cert_check.specs.Certificates.{CaseRecord}
use Rattle.live_recorder.proofs.Telling.{get_pushed}
use Rattle.live_seals.specs.Runs.{Event}
use Rattle.live_simulation.specs.declared.step.StepOf.{StepOf}
use Rattle.live_simulation.specs.declared.step.StepOf.TheVariants.{File}
use Rattle.live_simulation.specs.declared.reply.ReplyOf.{ReplyOf}
use Rattle.live_simulation.specs.declared.reply.ReplyOf.TheVariants.{Case}
use Rattle.live_seals.proofs.TableLemmas.{none_past}
use Rattle.live_simulation.specs.Happened.{event, events}
use Rattle.live_simulation.specs.LaneReplies.{seal}
use Rattle.live_simulation.specs.Cases.{Filing, filed, filings, case_file, file_of, filed_with}
use Rattle.live_simulation.specs.Steps.Recordings.{IsRecorded, after}
use Rattle.live_simulation.specs.Steps.KeptCases.{AreFiles}
use Rattle.live_simulation.proofs.RunsRecorded.{events_more}
use Rattle.live_simulation.proofs.SealsKept.{seal_kept}
use Rattle.live_simulation.proofs.CasesKept.{case_parts}
use Rattle.live_simulation.proofs.Logs.{filings_more, get_left, there}

module _ {S C R : Type 0} (start : S) (k : ℕ) (es : List (StepOf C R × ReplyOf (HistoryValue S C R))) (files : List (CaseRecord S C R)) (were : AreFiles start k es files) where
  -- no case is filed past the files, and each file has a filing
  pub no_filing : (c : ℕ) → length files ≤ c → slice_get (filings es) c ≡ None
  no_filing c past = let many : length files ≡ length (filings es) = were.many in slice_get_past (filings es) c (omega arith)

  pub a_filing : (c : ℕ) → c < length files → (f : Filing) × (slice_get (filings es) c ≡ Some f)
  a_filing c below = let many : length files ≡ length (filings es) = were.many in there (filings es) c (omega arith)

  -- the steps with one more that files nothing
  module _ (step : StepOf C R) (reply : ReplyOf (HistoryValue S C R)) (none : filed step reply ≡ None) where
    same_filings : filings (es ++ (step, reply) ∷ []) ≡ filings es
    same_filings = filings_more es step reply ∙ ap (after (filings es)) none

    -- where what was sealed stays
    module _ (stays : (z : ℕ) (h : HistoryValue S C R) → seal start k (events es) z ≡ Some h → seal start k (events (es ++ (step, reply) ∷ [])) z ≡ Some h) where
      file_stays : (c : ℕ) (o : Option (CaseRecord S C R)) → slice_get files c ≡ o → o ≡ case_file start k (es ++ (step, reply) ∷ []) c
      file_stays c None at =
          let past : length files ≤ c = none_past files c at in
          let none_now : slice_get (filings (es ++ (step, reply) ∷ [])) c ≡ None = ap (λ (fs : List Filing). slice_get fs c) same_filings ∙ no_filing c past in
          sym (ap (file_of start k (es ++ (step, reply) ∷ [])) none_now)
      file_stays c (Some file) at =
          let parts = case_parts start k es c file (sym (were.each c) ∙ at) in
          let f : Filing = parts.0 in
          let now : slice_get (filings (es ++ (step, reply) ∷ [])) c ≡ Some f = ap (λ (fs : List Filing). slice_get fs c) same_filings ∙ parts.1 in
          let sealed : seal start k (events (es ++ (step, reply) ∷ [])) f.sealer ≡ Some parts.2.0 = stays f.sealer parts.2.0 parts.2.1 in
          sym (ap (file_of start k (es ++ (step, reply) ∷ [])) now
          ∙ (ap (filed_with f) sealed ∙ ap {B = Option (CaseRecord S C R)} (λ (x : CaseRecord S C R). Some x) parts.2.2))

      files_where : AreFiles start k (es ++ (step, reply) ∷ []) files
      files_where = record {
        many = were.many ∙ ap length (sym same_filings);
        each = λ c. file_stays c (slice_get files c) refl;
      }

    -- where nothing happened
    pub files_quiet : event step reply ≡ None → AreFiles start k (es ++ (step, reply) ∷ []) files
    files_quiet quiet =
        let same : events es ≡ events (es ++ (step, reply) ∷ []) = sym (events_more es step reply ∙ ap (after (events es)) quiet) in
        files_where (λ z h e. subst (λ (evs : List (Event C R)). seal start k evs z ≡ Some h) same e)

    -- where a session or a sealer went on
    rest_of : (o : Option (Event C R)) → (rest : List (Event C R)) × (events es ++ rest ≡ after (events es) o)
    rest_of None = ([], append-nil (events es))
    rest_of (Some e) = (e ∷ [], refl)

    pub files_stay : IsRecorded k (events es) → IsRecorded k (events (es ++ (step, reply) ∷ [])) → AreFiles start k (es ++ (step, reply) ∷ []) files
    files_stay before was =
        let rest = rest_of (event step reply) in
        files_where (λ z h e. seal_kept start k (events es) rest.0 (events (es ++ (step, reply) ∷ [])) (rest.1 ∙ sym (events_more es step reply)) before was z h e)

-- one more case is filed
module _ {S C R : Type 0} (start : S) (k : ℕ) (es : List (StepOf C R × ReplyOf (HistoryValue S C R))) (f : Filing) (n : ℕ) (files : List (CaseRecord S C R)) (were : AreFiles start k es files)
    (h : HistoryValue S C R) (sealed : seal start k (events es) f.sealer ≡ Some h) where
  abbrev filed_now : List (StepOf C R × ReplyOf (HistoryValue S C R))
  filed_now = es ++ (File f.sealer f.criterion f.certificate, Case n) ∷ []

  now_filings : filings filed_now ≡ filings es ++ f ∷ []
  now_filings = filings_more es (File f.sealer f.criterion f.certificate) (Case n)

  same_of : (o : Option Filing) → file_of start k filed_now o ≡ file_of start k es o
  same_of None = refl
  same_of (Some g) = ap (λ (evs : List (Event C R)). filed_with g (seal start k evs g.sealer)) (events_more es (File f.sealer f.criterion f.certificate) (Case n))

  filed_at : (c : ℕ) → (c < length files) ⊎ (length files ≤ c) → slice_get (files ++ (h, f.criterion, f.certificate) ∷ []) c ≡ file_of start k es (slice_get (filings es ++ f ∷ []) c)
  filed_at c (inl below) =
      let many : length files ≡ length (filings es) = were.many in
      let below' : c < length (filings es) = omega arith in
      get_left files ((h, f.criterion, f.certificate) ∷ []) c below
      ∙ (were.each c ∙ ap (file_of start k es) (sym (get_left (filings es) (f ∷ []) c below')))
  filed_at c (inr past) = elim (cases_eq c (length files)) [
    | inl last ↦
        let here : slice_get (files ++ (h, f.criterion, f.certificate) ∷ []) c ≡ Some (h, f.criterion, f.certificate) =
        ap (λ (i : ℕ). slice_get (files ++ (h, f.criterion, f.certificate) ∷ []) i) last ∙ get_pushed {A = CaseRecord S C R} files (h, f.criterion, f.certificate) in
        let there : slice_get (filings es ++ f ∷ []) c ≡ Some f = ap (λ (i : ℕ). slice_get (filings es ++ f ∷ []) i) (last ∙ were.many) ∙ get_pushed (filings es) f in
        here ∙ sym (ap (file_of start k es) there ∙ ap (filed_with f) sealed)
    | inr apart ↦
        let many : length files ≡ length (filings es) = were.many in
        let long : length (files ++ (h, f.criterion, f.certificate) ∷ []) ≡ length files + 1 = length-append files ((h, f.criterion, f.certificate) ∷ []) in
        let long' : length (filings es ++ f ∷ []) ≡ length (filings es) + 1 = length-append (filings es) (f ∷ []) in
        slice_get_past (files ++ (h, f.criterion, f.certificate) ∷ []) c (omega arith) ∙ sym (ap (file_of start k es) (slice_get_past (filings es ++ f ∷ []) c (omega arith)))
  ]

  pub files_filed : AreFiles start k filed_now (files ++ (h, f.criterion, f.certificate) ∷ [])
  files_filed = record {
    many = length-append files ((h, f.criterion, f.certificate) ∷ []) ∙ (ap (λ (m : ℕ). m + 1) were.many ∙ (sym (length-append (filings es) (f ∷ [])) ∙ ap length (sym now_filings)));
    each = λ c. filed_at c (cases_lt c (length files)) ∙ (sym (same_of (slice_get (filings es ++ f ∷ []) c)) ∙ ap (λ (fs : List Filing). file_of start k filed_now (slice_get fs c)) (sym now_filings));
  }
