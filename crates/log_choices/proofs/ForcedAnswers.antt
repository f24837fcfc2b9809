-- Where no candidate is left for a null read, a call comes before itself, or the history of what is forced does not meet a criterion, the log does
-- not meet it.
use Rattle.std.proofs.Common.{◌≡◌, ℕ, Bool, List, refl, ap, ◌∙◌, inl, inr, ⊎_elim}
use Rattle.std.specs.Prelude.{◌≢◌, ◌⊎◌, Option, Some, None}
use Rattle.std.proofs.lemmas.Bool.{cases_eq}
use Rattle.std.proofs.lemmas.Option.{same_Some}
use Rattle.order_memory.specs.Memory.{MemoryHistory, memory_answer}
use Rattle.cert_check.specs.declared.criterion.Criterion.{Criterion}
use Rattle.cert_check.specs.declared.criterion.Criterion.TheVariants.{Cc, Cm, Ccv}
use Rattle.cert_check.specs.Criteria.{Meets}
use Rattle.log_events.specs.declared.event.ClientCall.{ClientCall}
use Rattle.log_events.specs.declared.event.Ending.{Ending}
use Rattle.log_events.specs.declared.event.Ending.TheVariants.{Failed, Lost}
use Rattle.log_events.specs.declared.event.Event.{Event}
use Rattle.log_events.specs.Events.{IsEnded, IsAllowed}
use Rattle.log_events.specs.Histories.{history_of}
use Rattle.log_events.specs.Values.{HasDistinctValues}
use Rattle.log_choices.specs.Choices.{Choice, IsPartOf}
use Rattle.log_choices.specs.ChosenCriteria.{MeetsBy, IsLogNo}
use Rattle.log_choices.specs.ChosenHistories.{history_by}
use Rattle.log_choices.specs.Forced.{Comes, IsOut, LacksCandidates, IsForcedChoice}
use Rattle.log_choices.proofs.ForcedHistories.{part-meets, to-resolved}
use Rattle.log_choices.proofs.ForcedOrders.{candidates-left, comes-acyclic, out-unseen}
use Rattle.log_choices.proofs.ResolvedHistories.{resolved}

-- two of what a null read may have seen are one, or not
same-choice : (c d : Option ℕ) → (c ≡ d) ⊎ (c ≢ d)
same-choice None None = inl refl
same-choice None (Some q) = inr (λ same. absurd cc)
same-choice (Some p) None = inr (λ same. absurd cc)
same-choice (Some p) (Some q) = ⊎_elim
    (λ (same : p ≡ q). inl (ap (λ (n : ℕ). Some n) same))
    (λ (apart : p ≢ q). inr (λ same. apart (same_Some _ _ same)))
    (cases_eq p q)

-- each criterion contains causal consistency, where causal memory and causal convergence do
pub all-consistent : ((h : MemoryHistory) → Meets memory_answer h Cm → Meets memory_answer h Cc)
    → ((h : MemoryHistory) → Meets memory_answer h Ccv → Meets memory_answer h Cc)
    → (h : MemoryHistory) (criterion : Criterion) → Meets memory_answer h criterion → Meets memory_answer h Cc
all-consistent of_cm of_ccv h Cc met = met
all-consistent of_cm of_ccv h Cm met = of_cm h met
all-consistent of_cm of_ccv h Ccv met = of_ccv h met

module _ (weaker : (h : MemoryHistory) (criterion : Criterion) → Meets memory_answer h criterion → Meets memory_answer h Cc)
    (in_time : Bool) (es : List Event) (allowed : IsAllowed es) (distinct : HasDistinctValues es) where
  consistent : (f : Choice) (criterion : Criterion) → MeetsBy in_time es f criterion → Meets memory_answer (history_of (resolved es f)) Cc
  consistent f criterion by = to-resolved es f allowed Cc (weaker (history_by es f) criterion by.met)

  pub out-excluded : (f : Choice) (criterion : Criterion) → MeetsBy in_time es f criterion → (r : ℕ) (c : Option ℕ) → IsOut in_time es r c → f r ≢ Some c
  out-excluded f criterion by r c = out-unseen es f allowed in_time by.choice distinct by.whole (consistent f criterion by)

  pub no-candidates : (r : ℕ) → LacksCandidates in_time es r → (criterion : Criterion) → IsLogNo in_time es criterion
  no-candidates r lacks criterion f by = candidates-left es f allowed in_time by.choice distinct by.whole (consistent f criterion by) r lacks

  pub no-round : (client i j : ℕ) (call : ClientCall) (ending : Ending) → IsEnded es client call i j ending → ending ≢ Failed → ending ≢ Lost
      → Comes in_time es i i → (criterion : Criterion) → IsLogNo in_time es criterion
  no-round client i j call ending end not_failed not_lost comes criterion f by =
      comes-acyclic es f allowed in_time by.choice distinct by.whole (consistent f criterion by) client i j call ending end not_failed not_lost comes

  -- what is forced is a part of each whole choice
  forced-part : (g f : Choice) (criterion : Criterion) → IsForcedChoice in_time es g → MeetsBy in_time es f criterion → IsPartOf es g f
  forced-part g f criterion forced by client x i j c null is = by_choice (f i) refl
    where
      by_choice : (o : Option (Option ℕ)) → f i ≡ o → f i ≡ Some c
      by_choice None none = absurd (by.whole client x i j null none)
      by_choice (Some d) some = ⊎_elim
          (λ (same : d ≡ c). some ∙ ap (λ (e : Option ℕ). Some e) same)
          (λ (apart : d ≢ c).
          absurd (out-excluded f criterion by i d (forced client x i j c null is d (by.choice client x i j d null some) apart) some))
          (same-choice d c)

  pub no-forced : (g : Choice) (criterion : Criterion) → IsForcedChoice in_time es g → ¬ Meets memory_answer (history_by es g) criterion
      → IsLogNo in_time es criterion
  no-forced g criterion forced unmet f by = unmet (part-meets es g f allowed (forced-part g f criterion forced by) criterion by.met)
