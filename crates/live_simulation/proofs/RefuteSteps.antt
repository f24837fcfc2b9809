-- A pattern is put against a case.
use Rattle.std.proofs.Common.{◌≡◌, ℕ, ◌==◌, inl, inr, List, [], ◌∷◌, ◌++◌, length, refl, sym, ◌∙◌, ap, subst, eq-eqb}
use Rattle.std.specs.Prelude.{◌↔◌, Bool, true, false, Option, Some, None, if◌then◌else◌, slice_get, Result, Ok, Err, IfErr, OnOk}
use Rattle.std.proofs.lemmas.Option.{same_Some, slice_get_within}
use Rattle.model_history.specs.History.{HistoryValue}
use Rattle.cert_check.specs.declared.criterion.Criterion.{Criterion}
use Rattle.cert_check.specs.Certificates.{CaseRecord}
use Rattle.pattern_check.specs.declared.pattern.Pattern.{Pattern}
use Rattle.live_case_board.specs.declared.board_error.BoardError.{BoardError}
use Rattle.live_case_board.specs.declared.board_error.BoardError.TheVariants as boards
use Rattle.live_case_board.specs.Boards.{CaseState, refuted}
use Rattle.live_case_board.specs.Events.{refute_refusal}
use Rattle.live_simulation.specs.declared.place.Place.{Place}
use Rattle.live_simulation.specs.declared.step.StepOf.{StepOf}
use Rattle.live_simulation.specs.declared.step.StepOf.TheVariants.{Refute}
use Rattle.live_simulation.specs.declared.reply.ReplyOf.{ReplyOf}
use Rattle.live_simulation.specs.declared.reply.ReplyOf.TheVariants.{Accepted, Refused}
use Rattle.live_simulation.specs.declared.refusal.Refusal.{Refusal}
use Rattle.live_simulation.specs.declared.refusal.Refusal.TheVariants.{NotThatPattern, NoSuch}
use Rattle.live_simulation.specs.Cases.{case_file}
use Rattle.live_simulation.specs.BoardReplies.{IsRefuteReply}
use Rattle.live_simulation.specs.Steps.KeptCases.{log_of, CasesState, AreCases, ShowsCases, TakesOn, IsRefusal, place_of, with_case, with_pattern}
use Rattle.live_simulation.proofs.Logs.{pattern_same, pattern_known}
use Rattle.live_simulation.proofs.KeptCase.{case_refuted}
use Rattle.live_simulation.proofs.BoardChanges.{case_of_file, changed, shows_more, shows_refused}

-- a pattern that passes is taken against a case with its own mark
passing_taken : (c : ℕ) (s : CaseState Place) → s.mark.number ≡ c → (e : BoardError) → refute_refusal place_of (Some s) record { number = c } true ≡ Some e → ⊥
passing_taken c s same e refused = by (s.mark.number == c) (eq-eqb s.mark.number c same) refused
  where
    by : (b : Bool) → b ≡ true → (if b then None else Some boards.Stranger) ≡ Some e → ⊥
    by true is at = cc
    by false is at = cc

pub keeps : {S C R : Type 0} (w u : CasesState S C R) (c : ℕ) (p : Pattern) (result : Result Unit BoardError)
    → OnOk result ((s : CaseState Place) → slice_get w.board c ≡ Some s → u ≡ with_case w c (refuted s p))
    → IfErr result (λ e. refute_refusal place_of (slice_get w.board c) record { number = c } true ≡ Some e)
    → (s : CaseState Place) → slice_get w.board c ≡ Some s → s.mark.number ≡ c → u ≡ with_case w c (refuted s p)
keeps w u c p (Ok x) became refused s at same = became s at
keeps w u c p (Err e) became refused s at same =
    absurd (passing_taken c s same e (subst (λ (x : Option (CaseState Place)). refute_refusal place_of x record { number = c } true ≡ Some e) at refused))

-- why a pattern is refused, where a case is there
module _ {S C R : Type 0} (passes : HistoryValue S C R → Criterion → Pattern → Type 0) (p : Pattern) (o : Option (CaseRecord S C R)) (f : CaseRecord S C R) (at : Some f ≡ o) (b : Bool)
    (says : (b ≡ true) ↔ passes f.0 f.1 p) where
  pub passing : b ≡ true → IsRefusal passes p o None
  passing is = subst (λ (x : Option (CaseRecord S C R)). IsRefusal passes p x None) at (inl (says.0 is, refl))

  pub not_passing : b ≡ false → IsRefusal passes p o (Some NotThatPattern)
  not_passing is = subst (λ (x : Option (CaseRecord S C R)). IsRefusal passes p x (Some NotThatPattern)) at (inr ((λ pass. let bad : true ≡ false = sym (says.1 pass) ∙ is in absurd (cc)), refl))

module _ {S C R : Type 0} (answer : S → List C → C → R) (passes : HistoryValue S C R → Criterion → Pattern → Type 0) (w : CasesState S C R) (c : ℕ) (p : Pattern) where
  refusal_says : (es : List (StepOf C R × ReplyOf (HistoryValue S C R))) (x : Option (CaseRecord S C R)) (r : Refusal) → IsRefusal passes p x (Some r) → IsRefuteReply es passes p x (Refused r)
  refusal_says es None r e = ap {B = ReplyOf (HistoryValue S C R)} (λ (y : Refusal). Refused y) (same_Some r NoSuch e)
  refusal_says es (Some f) r (inl h) = absurd (let bad : Some r ≡ None = h.1 in cc)
  refusal_says es (Some f) r (inr h) = inr (h.0, ap {B = ReplyOf (HistoryValue S C R)} (λ (y : Refusal). Refused y) (same_Some r NotThatPattern h.1))

  -- the pattern is refused
  pub refute_refused : (r : Refusal) → IsRefusal passes p (slice_get w.files c) (Some r) → TakesOn answer passes (Refute c p) w (Refused r) w
  refute_refused r is start k es shows = (
    refusal_says es (case_file start k es c) r (subst (λ (x : Option (CaseRecord S C R)). IsRefusal passes p x (Some r)) (shows.files.each c) is),
    shows_refused answer start k es (Refute c p) r w shows,
  )

  none_refused : (x : Option (CaseRecord S C R)) → IsRefusal passes p x None → (f : CaseRecord S C R) × (x ≡ Some f) × passes f.0 f.1 p
  none_refused None e = absurd (cc)
  none_refused (Some f) (inl h) = (f, refl, h.0)
  none_refused (Some f) (inr h) = absurd (let bad : None ≡ Some NotThatPattern = h.1 in cc)

  -- the pattern is accepted
  pub refute_done : (u : CasesState S C R) → IsRefusal passes p (slice_get w.files c) None
      → ((s : CaseState Place) → slice_get w.board c ≡ Some s → s.mark.number ≡ c → u ≡ with_case w c (refuted s p)) → TakesOn answer passes (Refute c p) w Accepted u
  refute_done u is became start k es shows =
      let good = none_refused (slice_get w.files c) is in
      let f : CaseRecord S C R = good.0 in
      let there = case_of_file answer (log_of es) w shows.cases c f good.1 in
      let s : CaseState Place = there.0 in
      let was = shows.cases.cases c f s good.1 there.1 in
      let file : case_file start k es c ≡ Some f = sym (shows.files.each c) ∙ good.1 in
      let are : AreCases answer (with_pattern (log_of es) c p) (with_case w c (refuted s p)) =
      changed answer (log_of es) w shows.cases (with_pattern (log_of es) c p) c s (refuted s p) there.1 (pattern_same (log_of es) (length w.files) shows.cases.known c p)
      (λ g at_g is_g. case_refuted answer (log_of es) (length w.files) shows.cases.known c g s is_g p)
      (pattern_known (log_of es) (length w.files) shows.cases.known c p (slice_get_within w.files c f good.1)) refl in (
        subst (λ (x : Option (CaseRecord S C R)). IsRefuteReply es passes p x Accepted) (sym file) (inl (good.2, refl)),
        subst (λ (y : CasesState S C R). ShowsCases answer start k (es ++ (Refute c p, Accepted) ∷ []) y) (sym (became s there.1 was.mark))
            (shows_more answer start k es (Refute c p) Accepted refl refl w (with_case w c (refuted s p)) refl shows are),
      )

  -- the same, of a copy of the pattern
  pub refute_kept : (u : CasesState S C R) (q : Pattern) → q ≡ p → IsRefusal passes p (slice_get w.files c) None
      → ((s : CaseState Place) → slice_get w.board c ≡ Some s → s.mark.number ≡ c → u ≡ with_case w c (refuted s q)) → TakesOn answer passes (Refute c p) w Accepted u
  refute_kept u q same is became = refute_done u is (λ s at mark. became s at mark ∙ ap (λ (x : Pattern). with_case w c (refuted s x)) same)
