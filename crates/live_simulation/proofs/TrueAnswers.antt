-- In a run, a yes and a no are true of the history that the case was filed from.
use Rattle.std.proofs.Common.{◌≡◌, ℕ, List, take, refl, sym, ◌∙◌, ap, subst}
use Rattle.std.specs.Prelude.{Bool, Option, Some, None, option_map, slice_get}
use Rattle.model_history.specs.History.{HistoryValue}
use Rattle.cert_check.specs.declared.criterion.Criterion.{Criterion}
use Rattle.cert_check.specs.declared.certificate.Certificate.{Certificate}
use Rattle.cert_check.specs.Criteria.{Meets}
use Rattle.cert_check.specs.Certificates.{CaseRecord, HasShapeOf, criterion_of, IsExplainedThroughout}
use Rattle.pattern_check.specs.declared.kind.Kind.{Kind}
use Rattle.pattern_check.specs.declared.pattern.Pattern.{Pattern}
use Rattle.pattern_check.specs.Patterns.{kind_of}
use Rattle.live_case_board.specs.declared.answer.Answer.{Answer as Standing}
use Rattle.live_case_board.specs.declared.answer.Answer.TheVariants.{Yes, No}
use Rattle.live_simulation.specs.declared.step.StepOf.{StepOf}
use Rattle.live_simulation.specs.declared.step.StepOf.TheVariants.{Ask}
use Rattle.live_simulation.specs.declared.reply.ReplyOf.{ReplyOf}
use Rattle.live_simulation.specs.declared.reply.ReplyOf.TheVariants.{Answer}
use Rattle.live_simulation.specs.Happened.{events}
use Rattle.live_simulation.specs.LaneReplies.{seal}
use Rattle.live_simulation.specs.Cases.{Filing, filings, patterns, case_file}
use Rattle.live_simulation.specs.BoardReplies.{IsAskReply, IsAnswer}
use Rattle.live_simulation.specs.Runs.{IsRun}
use Rattle.live_simulation.specs.Headline.{IsFiledFrom, EachYesIsTrue, EachNoIsTrue}
use Rattle.live_simulation.proofs.RunsRecorded.{run_front}
use Rattle.live_simulation.proofs.CasesKept.{case_parts, case_good, refutation, seal_later, filing_later}

same_answer : {H : Type 0} (a b : Standing) → ◌≡◌ {A = ReplyOf H} (Answer a) (Answer b) → a ≡ b
same_answer a b e = cc

same_seal : {A : Type 0} (x : Option A) (a b : A) → x ≡ Some a → x ≡ Some b → a ≡ b
same_seal x a b e f = let h : Some a ≡ Some b = sym e ∙ f in cc

mapped : (o : Option Pattern) (kind : Kind) → option_map kind_of o ≡ Some kind → (p : Pattern) × (o ≡ Some p) × (kind_of p ≡ kind)
mapped None kind e = absurd (cc)
mapped (Some p) kind e = (p, refl, let same : kind_of p ≡ kind = cc in same)

module _ {S C R : Type 0} (answer : S → List C → C → R) (before : List (StepOf C R × ReplyOf (HistoryValue S C R))) (c : ℕ) (standing : Standing) where
  asked : (o : Option (CaseRecord S C R)) → IsAskReply answer before c o (Answer standing) → (file : CaseRecord S C R) × (o ≡ Some file) × IsAnswer answer before c file standing
  asked None e = absurd (cc)
  asked (Some file) h = (file, refl, subst (λ (x : Standing). IsAnswer answer before c file x) (sym (same_answer {H = HistoryValue S C R} standing h.0 h.1)) h.2)

module _ {S C R : Type 0} (fits : C → R → Bool) (answer : S → List C → C → R) (passes : HistoryValue S C R → Criterion → Pattern → Type 0) (start : S) (k : ℕ) (es : List (StepOf C R × ReplyOf (HistoryValue S C R))) (run : IsRun fits answer passes start k es) where
  from_front : (i c : ℕ) (f : Filing) (h : HistoryValue S C R) → slice_get (filings (take i es)) c ≡ Some f → seal start k (events (take i es)) f.sealer ≡ Some h → IsFiledFrom start k es c h f.criterion
  from_front i c f h filed sealed = record {
    sealer = f.sealer;
    certificate = f.certificate;
    filed = filing_later fits answer passes start k es run i c f filed;
    sealed = seal_later fits answer passes start k es run i f.sealer h sealed;
  }

  pub yes_is_true : ((h : HistoryValue S C R) (certificate : Certificate) → HasShapeOf h certificate → IsExplainedThroughout answer h certificate → Meets answer h (criterion_of certificate))
      → EachYesIsTrue start k es answer
  yes_is_true shows i c at =
      let front = run_front fits answer passes start k es i run in
      let a = asked answer (take i es) c Yes (case_file start k (take i es) c) (run i (Ask c) (Answer Yes) at).1 in
      let f = case_parts start k (take i es) c a.0 a.1 in
      let good = case_good fits answer passes start k (take i es) front c f.0 f.1 in
      let same : good.history ≡ f.2.0 = same_seal (seal start k (events (take i es)) f.0.sealer) good.history f.2.0 good.sealed f.2.1 in
      let has : f.0.certificate ≡ Some a.2.0 = ap (λ (x : CaseRecord S C R). x.2) f.2.2 ∙ a.2.1.1 in
      let fit = good.fitting a.2.0 has in
      let explained : IsExplainedThroughout answer f.2.0 a.2.0 = subst (λ (x : CaseRecord S C R). IsExplainedThroughout answer x.0 a.2.0) (sym f.2.2) a.2.3 in
      let shape : HasShapeOf f.2.0 a.2.0 = subst (λ (x : HistoryValue S C R). HasShapeOf x a.2.0) same fit.1 in
      (f.2.0, f.0.criterion, from_front i c f.0 f.2.0 f.1 f.2.1, subst (λ (q : Criterion). Meets answer f.2.0 q) fit.0 (shows f.2.0 a.2.0 shape explained))

  pub no_is_true : (excluded : HistoryValue S C R → Criterion → Kind → Type 0) → ((h : HistoryValue S C R) (q : Criterion) (p : Pattern) → passes h q p → excluded h q (kind_of p))
      → ((h : HistoryValue S C R) (q : Criterion) (p : Pattern) → passes h q p → ¬ Meets answer h q) → EachNoIsTrue start k es answer excluded
  no_is_true excluded exclude not_met i c kind at =
      let front = run_front fits answer passes start k es i run in
      let a = asked answer (take i es) c (No kind) (case_file start k (take i es) c) (run i (Ask c) (Answer (No kind)) at).1 in
      let m = mapped (slice_get (patterns (take i es) c) 0) kind a.2 in
      let r = refutation fits answer passes start k (take i es) front c 0 m.0 m.1 in
      let out : excluded r.history r.filing.criterion kind = subst (λ (x : Kind). excluded r.history r.filing.criterion x) m.2 (exclude r.history r.filing.criterion m.0 r.passing) in
      (r.history, r.filing.criterion, from_front i c r.filing r.history r.filed_so r.sealed, out, not_met r.history r.filing.criterion m.0 r.passing)
