-- A world runs step by step.
use Rattle.std.proofs.Common.{◌≡◌, ℕ, suc, ◌+◌, ◌<◌, ◌≤◌, List, [], ◌∷◌, ◌++◌, length, length-append, take, take_all, get_or, refl, sym, ◌∙◌, ap, subst, arith}
use Rattle.std.specs.Prelude.{Bool, Some, slice_get}
use Rattle.std.specs.List.{zip}
use Rattle.std.proofs.lemmas.Option.{slice_get-get_or}
use Rattle.model_history.specs.History.{HistoryValue}
use Rattle.cert_check.specs.declared.criterion.Criterion.{Criterion}
use Rattle.pattern_check.specs.declared.pattern.Pattern.{Pattern}
use Rattle.live_simulation.specs.declared.step.StepOf.{StepOf}
use Rattle.live_simulation.specs.declared.reply.ReplyOf.{ReplyOf}
use Rattle.live_simulation.specs.Runs.{Replied, IsRun}
use Rattle.live_simulation.specs.Steps.Recordings.{State}
use Rattle.live_simulation.specs.Steps.KeptCases.{CasesState}
use Rattle.live_simulation.specs.Steps.Worlds.{ShowsWorld, StepsTo}
use Rattle.live_simulation.proofs.RunsRecorded.{take_next}
use Rattle.live_simulation.proofs.RunSteps.{run_none, run_more}

zip_more : {A B : Type 0} (xs : List A) (ys : List B) (x : A) (y : B) → length ys ≡ length xs → zip (xs ++ x ∷ []) (ys ++ y ∷ []) ≡ zip xs ys ++ (x, y) ∷ []
zip_more [] [] x y e = refl
zip_more [] (b ∷ ys) x y e = absurd (omega arith)
zip_more (a ∷ xs) [] x y e = absurd (omega arith)
zip_more (a ∷ xs) (b ∷ ys) x y e = let rest = zip_more xs ys x y (omega arith) in λ i. ((a, b) ∷ rest i)

module _ {S C R : Type 0} (fits : C → R → Bool) (answer : S → List C → C → R) (passes : HistoryValue S C R → Criterion → Pattern → Type 0) (start : S) (k : ℕ) where
  -- what holds behind the first steps
  pub record HasRun (steps : List (StepOf C R)) (replies : List (ReplyOf (HistoryValue S C R))) (recording : State S C R) (cases : CasesState S C R) : Type 0 where
    pub many : length replies ≡ length steps
    pub run : IsRun fits answer passes start k (zip steps replies)
    pub shows : ShowsWorld answer start k (zip steps replies) recording cases

  pub has_run_none : (recording : State S C R) (cases : CasesState S C R) → ShowsWorld answer start k [] recording cases → HasRun [] [] recording cases
  has_run_none recording cases shows = record { many = refl; run = run_none fits answer passes start k; shows = shows }

  pub has_run_more : (steps : List (StepOf C R)) (i : ℕ) (step : StepOf C R) (replies now : List (ReplyOf (HistoryValue S C R))) (reply : ReplyOf (HistoryValue S C R)) (w u : State S C R) (v x : CasesState S C R)
      → i < length steps → step ≡ get_or steps i step → now ≡ replies ++ reply ∷ [] → HasRun (take i steps) replies w v → StepsTo fits answer passes step w v reply u x → HasRun (take (i + 1) steps) now u x
  has_run_more steps i step replies now reply w u v x inside is became was to =
      let at : slice_get steps i ≡ Some step = slice_get-get_or steps i step inside ∙ ap Some (sym is) in
      let one : i + 1 ≡ suc i = omega arith in
      let next : take (i + 1) steps ≡ take i steps ++ step ∷ [] = ap (λ (n : ℕ). take n steps) one ∙ take_next steps i step at in
      let zipped : zip (take (i + 1) steps) now ≡ zip (take i steps) replies ++ (step, reply) ∷ [] =
      (λ j. zip (next j) (became j)) ∙ zip_more (take i steps) replies step reply was.many in
      let t = to start k (zip (take i steps) replies) was.shows in
      record {
        many =
            ap length became
            ∙ (length-append replies (reply ∷ []) ∙ (ap (λ (n : ℕ). n + 1) was.many ∙ (sym (length-append (take i steps) (step ∷ [])) ∙ ap length (sym next))));
        run = subst (λ (es : List (Replied S C R)). IsRun fits answer passes start k es) (sym zipped) (run_more fits answer passes start k (zip (take i steps) replies) step reply was.run t.0);
        shows = subst (λ (es : List (Replied S C R)). ShowsWorld answer start k es u x) (sym zipped) t.1;
      }

  pub has_run_all : (steps : List (StepOf C R)) (n : ℕ) (replies : List (ReplyOf (HistoryValue S C R))) (w : State S C R) (v : CasesState S C R) → length steps ≤ n → HasRun (take n steps) replies w v → HasRun steps replies w v
  has_run_all steps n replies w v all was = subst (λ (ss : List (StepOf C R)). HasRun ss replies w v) (take_all n steps all) was
