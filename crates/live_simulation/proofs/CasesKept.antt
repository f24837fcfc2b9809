-- Every case was filed from a finished sealer, with a certificate that fits its history or none, and every pattern that was
-- accepted against it passes for it.
use Rattle.std.proofs.Common.{◌≡◌, ℕ, inl, inr, ◌==◌, List, take, drop, refl, sym, subst, eqb-true}
use Rattle.std.specs.Prelude.{Bool, true, false, Option, Some, None, if◌then◌else◌, slice_get}
use Rattle.model_history.specs.History.{HistoryValue}
use Rattle.cert_check.specs.declared.criterion.Criterion.{Criterion}
use Rattle.cert_check.specs.declared.certificate.Certificate.{Certificate}
use Rattle.cert_check.specs.Certificates.{CaseRecord, IsCaseFile}
use Rattle.pattern_check.specs.declared.pattern.Pattern.{Pattern}
use Rattle.live_seals.proofs.Filtered.{picked_at, picked_front}
use Rattle.live_simulation.specs.declared.step.StepOf.{StepOf}
use Rattle.live_simulation.specs.declared.step.StepOf.TheVariants.{File, Refute}
use Rattle.live_simulation.specs.declared.reply.ReplyOf.{ReplyOf}
use Rattle.live_simulation.specs.declared.reply.ReplyOf.TheVariants.{Case, Accepted, Refused}
use Rattle.live_simulation.specs.declared.refusal.Refusal.TheVariants.{ShapeMismatch, NotThatPattern}
use Rattle.live_simulation.specs.Happened.{event, events}
use Rattle.live_simulation.specs.LaneReplies.{seal}
use Rattle.live_simulation.specs.Cases.{Filing, filed, refuted, if_filed, if_accepted, filings, patterns, case_file, file_of, filed_with}
use Rattle.live_simulation.specs.BoardReplies.{IsFileReply, IsRefuteReply}
use Rattle.live_simulation.specs.Runs.{IsRun}
use Rattle.live_simulation.specs.Headline.{SealsAreCuts}
use Rattle.live_simulation.proofs.RunsRecorded.{run_front, run_recorded}
use Rattle.live_simulation.proofs.SealsKept.{seal_is_cut, seal_kept, get_front}

module _ {H : Type 0} where
  is_filed : (filing f : Filing) (reply : ReplyOf H) → if_filed filing reply ≡ Some f → (c : ℕ) × (reply ≡ Case c) × (filing ≡ f)
  is_filed filing f (Case c) e = (c, refl, let same : filing ≡ f = cc in same)
  is_filed filing f _ e = absurd (cc)

  is_accepted : (p q : Pattern) (reply : ReplyOf H) → if_accepted p reply ≡ Some q → (reply ≡ Accepted) × (p ≡ q)
  is_accepted p q Accepted e = (refl, let same : p ≡ q = cc in same)
  is_accepted p q _ e = absurd (cc)

  against : (b : Bool) (p q : Pattern) (reply : ReplyOf H) → (if b then if_accepted p reply else None) ≡ Some q → (b ≡ true) × (reply ≡ Accepted) × (p ≡ q)
  against true p q reply e = let a = is_accepted p q reply e in (refl, a.0, a.1)
  against false p q reply e = absurd (cc)

module _ {S C R : Type 0} where
  filed_parts : (f : Filing) (o : Option (HistoryValue S C R)) (file : CaseRecord S C R) → filed_with f o ≡ Some file → (h : HistoryValue S C R) × (o ≡ Some h) × (◌≡◌ {A = CaseRecord S C R} (h, f.criterion, f.certificate) file)
  filed_parts f None file e = absurd (cc)
  filed_parts f (Some h) file e = (h, refl, some_same (h, f.criterion, f.certificate) file e)
    where
      some_same : (a b : CaseRecord S C R) → Some a ≡ Some b → a ≡ b
      some_same a b e = cc

  file_made : (before : List (StepOf C R × ReplyOf (HistoryValue S C R))) (q : Criterion) (certificate : Option Certificate) (c : ℕ) (o : Option (HistoryValue S C R)) → IsFileReply before q certificate o (Case c)
      → (h : HistoryValue S C R) × (o ≡ Some h) × IsCaseFile (h, q, certificate)
  file_made before q certificate c None e = absurd (cc)
  file_made before q certificate c (Some h) (inl g) = (h, refl, g.0)
  file_made before q certificate c (Some h) (inr g) = let bad : ◌≡◌ {A = ReplyOf (HistoryValue S C R)} (Case c) (Refused ShapeMismatch) = g.1 in absurd (cc)

  pattern_taken : (before : List (StepOf C R × ReplyOf (HistoryValue S C R))) (passes : HistoryValue S C R → Criterion → Pattern → Type 0) (p : Pattern) (o : Option (CaseRecord S C R)) → IsRefuteReply before passes p o Accepted
      → (file : CaseRecord S C R) × (o ≡ Some file) × passes file.0 file.1 p
  pattern_taken before passes p None e = absurd (cc)
  pattern_taken before passes p (Some file) (inl g) = (file, refl, g.0)
  pattern_taken before passes p (Some file) (inr g) = let bad : ◌≡◌ {A = ReplyOf (HistoryValue S C R)} Accepted (Refused NotThatPattern) = g.1 in absurd (cc)

module _ {S C R : Type 0} (start : S) (k : ℕ) (es : List (StepOf C R × ReplyOf (HistoryValue S C R))) where
  file_parts : (o : Option Filing) (file : CaseRecord S C R) → file_of start k es o ≡ Some file
      → (f : Filing) × (o ≡ Some f) × ((h : HistoryValue S C R) × (seal start k (events es) f.sealer ≡ Some h) × (◌≡◌ {A = CaseRecord S C R} (h, f.criterion, f.certificate) file))
  file_parts None file e = absurd (cc)
  file_parts (Some f) file e = (f, refl, filed_parts f (seal start k (events es) f.sealer) file e)

  -- the file of a case is of what it was filed from
  pub case_parts : (c : ℕ) (file : CaseRecord S C R) → case_file start k es c ≡ Some file
      → (f : Filing) × (slice_get (filings es) c ≡ Some f) × ((h : HistoryValue S C R) × (seal start k (events es) f.sealer ≡ Some h) × (◌≡◌ {A = CaseRecord S C R} (h, f.criterion, f.certificate) file))
  case_parts c file e = file_parts (slice_get (filings es) c) file e

module _ {S C R : Type 0} (fits : C → R → Bool) (answer : S → List C → C → R) (passes : HistoryValue S C R → Criterion → Pattern → Type 0) (start : S) (k : ℕ) (es : List (StepOf C R × ReplyOf (HistoryValue S C R))) (run : IsRun fits answer passes start k es) where
  pub seals_cut : SealsAreCuts start k es
  seals_cut z h e = seal_is_cut start k (events es) z h (run_recorded fits answer passes start k es run) e

  -- what a front of the run has sealed and filed stays
  pub seal_later : (j z : ℕ) (h : HistoryValue S C R) → seal start k (events (take j es)) z ≡ Some h → seal start k (events es) z ≡ Some h
  seal_later j z h e =
      seal_kept start k (events (take j es)) (events (drop j es)) (events es) (picked_front (λ (x : StepOf C R × ReplyOf (HistoryValue S C R)). event x.0 x.1) es j)
      (run_recorded fits answer passes start k (take j es) (run_front fits answer passes start k es j run)) (run_recorded fits answer passes start k es run) z h e

  pub filing_later : (j c : ℕ) (f : Filing) → slice_get (filings (take j es)) c ≡ Some f → slice_get (filings es) c ≡ Some f
  filing_later j c f e =
      subst (λ (fs : List Filing). slice_get fs c ≡ Some f) (picked_front (λ (x : StepOf C R × ReplyOf (HistoryValue S C R)). filed x.0 x.1) es j) (get_front (filings (take j es)) (filings (drop j es)) c f e)

  -- what was filed
  pub record IsGood (f : Filing) : Type 0 where
    pub history : HistoryValue S C R
    pub sealed : seal start k (events es) f.sealer ≡ Some history
    pub fitting : IsCaseFile (history, f.criterion, f.certificate)

  filing_good : (j : ℕ) (step : StepOf C R) (reply : ReplyOf (HistoryValue S C R)) (f : Filing) → slice_get es j ≡ Some (step, reply) → filed step reply ≡ Some f → IsGood f
  filing_good j (File z q certificate) reply f at e =
      let i = is_filed record { sealer = z; criterion = q; certificate = certificate } f reply e in
      let here : IsFileReply (take j es) q certificate (seal start k (events (take j es)) z) (Case i.0) =
      subst (λ (r : ReplyOf (HistoryValue S C R)). IsFileReply (take j es) q certificate (seal start k (events (take j es)) z) r) i.1 (run j (File z q certificate) reply at).1 in
      let g = file_made (take j es) q certificate i.0 (seal start k (events (take j es)) z) here in
      subst (λ (x : Filing). IsGood x) i.2 record { history = g.0; sealed = seal_later j z g.0 g.1; fitting = g.2 }
  filing_good j _ reply f at e = absurd (cc)

  pub case_good : (c : ℕ) (f : Filing) → slice_get (filings es) c ≡ Some f → IsGood f
  case_good c f at =
      let p = picked_at (λ (x : StepOf C R × ReplyOf (HistoryValue S C R)). filed x.0 x.1) es c f at in
      filing_good p.0 p.1.0 p.1.1 f p.2 p.3

  -- what was put against a case
  pub record IsRefutation (c : ℕ) (p : Pattern) : Type 0 where
    pub filing : Filing
    pub history : HistoryValue S C R
    pub filed_so : slice_get (filings es) c ≡ Some filing
    pub sealed : seal start k (events es) filing.sealer ≡ Some history
    pub passing : passes history filing.criterion p

  refutation_at : (j c : ℕ) (step : StepOf C R) (reply : ReplyOf (HistoryValue S C R)) (p : Pattern) → slice_get es j ≡ Some (step, reply) → refuted c step reply ≡ Some p → IsRefutation c p
  refutation_at j c (Refute d q) reply p at e =
      let a = against (d == c) q p reply e in let same : d ≡ c = eqb-true d c a.0 in
      let here : IsRefuteReply (take j es) passes q (case_file start k (take j es) d) Accepted =
      subst (λ (r : ReplyOf (HistoryValue S C R)). IsRefuteReply (take j es) passes q (case_file start k (take j es) d) r) a.1 (run j (Refute d q) reply at).1 in
      let t = pattern_taken (take j es) passes q (case_file start k (take j es) d) here in
      let f = case_parts start k (take j es) d t.0 t.1 in
      let pass : passes f.2.0 f.0.criterion q = subst (λ (x : CaseRecord S C R). passes x.0 x.1 q) (sym f.2.2) t.2 in
      record {
        filing = f.0;
        history = f.2.0;
        filed_so = subst (λ (n : ℕ). slice_get (filings es) n ≡ Some f.0) same (filing_later j d f.0 f.1);
        sealed = seal_later j f.0.sealer f.2.0 f.2.1;
        passing = subst (λ (x : Pattern). passes f.2.0 f.0.criterion x) a.2 pass;
      }
  refutation_at j c _ reply p at e = absurd (cc)

  pub refutation : (c n : ℕ) (p : Pattern) → slice_get (patterns es c) n ≡ Some p → IsRefutation c p
  refutation c n p at =
      let x = picked_at (λ (y : StepOf C R × ReplyOf (HistoryValue S C R)). refuted c y.0 y.1) es n p at in
      refutation_at x.0 c x.1.0 x.1.1 p x.2 x.3
