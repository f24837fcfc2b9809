-- What is known of all cases, after a step that changes one of them or none.
use Rattle.std.proofs.Common.{◌≡◌, ◌≢◌, ℕ, ◌==◌, ◌<◌, ◌≤◌, inl, inr, List, [], ◌∷◌, ◌++◌, length, set, refl, sym, ◌∙◌, ap, subst, arith}
use Rattle.std.specs.Prelude.{Bool, true, false, Some, None, if◌then◌else◌, slice_get}
use Rattle.std.proofs.lemmas.Bool.{cases_eq, cases_lt}
use Rattle.std.proofs.lemmas.List.{get_or-set_same, get_or-set_other, length-set}
use Rattle.std.proofs.lemmas.Option.{same_Some, slice_get-get_or, slice_get_past, slice_get_within}
use Rattle.model_history.specs.History.{HistoryValue}
use Rattle.cert_check.specs.Certificates.{CaseRecord}
use Rattle.pattern_check.specs.declared.pattern.Pattern.{Pattern}
use Rattle.live_case_board.specs.Boards.{CaseState}
use Rattle.live_simulation.specs.declared.place.Place.{Place}
use Rattle.live_simulation.specs.declared.step.StepOf.{StepOf}
use Rattle.live_simulation.specs.declared.step.StepOf.TheVariants.{Refute}
use Rattle.live_simulation.specs.declared.reply.ReplyOf.{ReplyOf}
use Rattle.live_simulation.specs.declared.reply.ReplyOf.TheVariants.{Refused}
use Rattle.live_simulation.specs.declared.refusal.Refusal.{Refusal}
use Rattle.live_simulation.specs.Happened.{event}
use Rattle.live_simulation.specs.Cases.{filed, if_accepted}
use Rattle.live_simulation.specs.Steps.Recordings.{after}
use Rattle.live_simulation.specs.Steps.KeptCases.{Log, log_of, CasesState, IsCase, IsKnown, AreCases, AreFiles, ShowsCases, with_case}
use Rattle.live_simulation.proofs.Logs.{IsSameOf, log_after, log_more, there}
use Rattle.live_simulation.proofs.FiledFiles.{files_quiet}
use Rattle.live_simulation.proofs.KeptCase.{case_same}

-- a list of which one item was changed
pub set_here : {A : Type 0} (xs : List A) (i : ℕ) (x : A) → i < length xs → slice_get (set xs i x) i ≡ Some x
set_here xs i x inside =
    slice_get-get_or (set xs i x) i x (subst (λ (n : ℕ). i < n) (sym (length-set xs i x)) inside) ∙ ap Some (get_or-set_same xs i x x inside)

pub set_apart : {A : Type 0} (xs : List A) (i j : ℕ) (x : A) → j ≢ i → slice_get (set xs i x) j ≡ slice_get xs j
set_apart xs i j x apart = elim (cases_lt j (length xs)) [
  | inl below ↦
      slice_get-get_or (set xs i x) j x (subst (λ (n : ℕ). j < n) (sym (length-set xs i x)) below) ∙ ap Some (get_or-set_other xs i j x x apart) ∙ sym (slice_get-get_or xs j x below)
  | inr above ↦
      let past : length xs ≤ j = omega arith in
      slice_get_past (set xs i x) j (subst (λ (n : ℕ). n ≤ j) (sym (length-set xs i x)) past) ∙ sym (slice_get_past xs j past)
]

-- a refused step says nothing
same_patterns : (H : Type 0) (p : Pattern) (x : Refusal) (b : Bool) (ps : List Pattern) → after ps (if b then if_accepted {H = H} p (Refused x) else None) ≡ ps
same_patterns H p x true ps = refl
same_patterns H p x false ps = refl

module _ {C R : Type 0} (H : Type 0) where
  pub refused_log : (step : StepOf C R) (x : Refusal) (l : Log) → log_after {H = H} step (Refused x) l ≡ l
  refused_log (Refute d p) x l = λ i. record { puts = l.puts; verdicts = l.verdicts; patterns = λ c. same_patterns H p x (d == c) (l.patterns c) i; taken = l.taken }
  refused_log _ x l = refl

  pub refused_event : (step : StepOf C R) (x : Refusal) → event {H = H} step (Refused x) ≡ None
  refused_event (Refute d p) x = refl
  refused_event _ x = refl

  pub refused_files : (step : StepOf C R) (x : Refusal) → filed {H = H} step (Refused x) ≡ None
  refused_files (Refute d p) x = refl
  refused_files _ x = refl

module _ {S C R : Type 0} (answer : S → List C → C → R) (start : S) (k : ℕ) (es : List (StepOf C R × ReplyOf (HistoryValue S C R))) where
  module _ (step : StepOf C R) (reply : ReplyOf (HistoryValue S C R)) (nothing : event step reply ≡ None) (none : filed step reply ≡ None) where
    -- a step that files nothing, behind which the state is this
    pub shows_more : (w v : CasesState S C R) → w.files ≡ v.files → ShowsCases answer start k es w → AreCases answer (log_after step reply (log_of es)) v
        → ShowsCases answer start k (es ++ (step, reply) ∷ []) v
    shows_more w v same shows are = record {
      files = subst (λ (fs : List (CaseRecord S C R)). AreFiles start k (es ++ (step, reply) ∷ []) fs) same (files_quiet start k es w.files shows.files step reply none nothing);
      cases = subst (λ (l : Log). AreCases answer l v) (sym (log_more es step reply)) are;
    }

  -- a refused step leaves the state
  pub shows_refused : (step : StepOf C R) (x : Refusal) (w : CasesState S C R) → ShowsCases answer start k es w → ShowsCases answer start k (es ++ (step, Refused x) ∷ []) w
  shows_refused step x w shows =
      shows_more step (Refused x) (refused_event (HistoryValue S C R) step x) (refused_files (HistoryValue S C R) step x) w w refl shows
      (subst (λ (l : Log). AreCases answer l w) (sym (refused_log (HistoryValue S C R) step x (log_of es))) shows.cases)

module _ {S C R : Type 0} (answer : S → List C → C → R) (l : Log) (w : CasesState S C R) (were : AreCases answer l w) where
  -- each case of the board has a file
  pub file_of_case : (c : ℕ) (s : CaseState Place) → slice_get w.board c ≡ Some s → (f : CaseRecord S C R) × (slice_get w.files c ≡ Some f)
  file_of_case c s at =
      let below : c < length w.board = slice_get_within w.board c s at in
      let many : length w.board ≡ length w.files = were.as_many in there w.files c (omega arith)

  pub case_of_file : (c : ℕ) (f : CaseRecord S C R) → slice_get w.files c ≡ Some f → (s : CaseState Place) × (slice_get w.board c ≡ Some s)
  case_of_file c f at =
      let below : c < length w.files = slice_get_within w.files c f at in
      let many : length w.board ≡ length w.files = were.as_many in there w.board c (omega arith)

  -- one case changed
  module _ (m : Log) (c : ℕ) (s t : CaseState Place) (at : slice_get w.board c ≡ Some s) (others : (d : ℕ) → (c ≡ d → ⊥) → IsSameOf l m d)
      (this : (f : CaseRecord S C R) → slice_get w.files c ≡ Some f → IsCase answer l c f s → IsCase answer m c f t) (known : IsKnown m (length w.files)) (verdicts : l.verdicts ≡ m.verdicts) where
    changed_case : (d : ℕ) (f : CaseRecord S C R) (u : CaseState Place) → slice_get w.files d ≡ Some f → slice_get (set w.board c t) d ≡ Some u → IsCase answer m d f u
    changed_case d f u at_f at_u = elim (cases_eq c d) [
      | inl same ↦
          let here : slice_get (set w.board c t) c ≡ Some u = ap (λ (n : ℕ). slice_get (set w.board c t) n) same ∙ at_u in
          let is : t ≡ u = same_Some t u (sym (set_here w.board c t (slice_get_within w.board c s at)) ∙ here) in
          let at_c : slice_get w.files c ≡ Some f = ap (λ (n : ℕ). slice_get w.files n) same ∙ at_f in
          subst (λ (n : ℕ). IsCase answer m n f u) same (subst (λ (x : CaseState Place). IsCase answer m c f x) is (this f at_c (were.cases c f s at_c at)))
      | inr apart ↦
          case_same answer l m d f u (others d apart) (were.cases d f u at_f (sym (set_apart w.board c d t (λ (e : d ≡ c). apart (sym e))) ∙ at_u))
    ]

    pub changed : AreCases answer m (with_case w c t)
    changed = record {
      as_many = length-set w.board c t ∙ were.as_many;
      cases = changed_case;
      given = were.given ∙ verdicts;
      true_verdicts = were.true_verdicts;
      known = known;
    }
