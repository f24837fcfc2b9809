-- What a pass has found is forced.
use Rattle.std.proofs.Common.{◌≡◌, ◌<◌, ◌≤◌, ℕ, sym, subst, ◌∙◌, refl, inl, inr, ⊎_elim, arith, eqb-true}
use Rattle.std.specs.Prelude.{◌==◌, ◌⊎◌, Bool, All, Contains, List, Option, Some, None, option_map}
use Rattle.std.proofs.lemmas.Bool.{cases_lt}
use Rattle.std.proofs.lemmas.List.Elements.{All-contains}
use Rattle.std.proofs.lemmas.Map.Views.{Contains-from_lookup}
use Rattle.std.proofs.lemmas.Option.{same_Some}
use Rattle.model_objects.specs.Table.{value_at}
use Rattle.log_events.specs.declared.event.Ending.TheVariants.{GotNothing}
use Rattle.log_events.specs.declared.event.Event.{Event}
use Rattle.log_events.specs.declared.event.Event.TheVariants.{Ends}
use Rattle.log_events.specs.Events.{IsAt}
use Rattle.log_choices.specs.Choices.{IsCandidate, IsChoiceWherePossible, IsNullRead}
use Rattle.log_choices.specs.Forced.{IsForcedChoice}
use Rattle.log_choices.specs.ForcedSteps.{IsLeftWith}
use Rattle.log_choices.specs.ChoiceTables.{choice_in, seen_of}
use Rattle.log_choices.specs.declared.seen.Seen.{Seen}

module _ (in_time : Bool) (es : List Event) where
  -- a candidate is one by the key, and by the end of the read
  candidate-moved : (x y j k : ℕ) → x ≡ y → j ≡ k → (d : Option ℕ) → IsCandidate in_time es x j d → IsCandidate in_time es y k d
  candidate-moved x y j k same ends d candidate =
      subst (λ (n : ℕ). IsCandidate in_time es n k d) same (subst (λ (m : ℕ). IsCandidate in_time es x m d) ends candidate)

  -- one place begins a read of one key
  one-key : (client other x y r j k : ℕ) → IsNullRead es client x r j → IsNullRead es other y r k → x ≡ y
  one-key client other x y r j k null second =
      let same = same_Some _ _ (sym null.ended.was_open.begun ∙ second.ended.was_open.begun) in cc

  -- and one end of it
  one-end : (client other x y r j k : ℕ) → IsNullRead es client x r j → IsNullRead es other y r k → j ≡ k
  one-end client other x y r j k null second = ⊎_elim
      {C = j ≡ k}
      (λ (below : j < k). absurd (second.ended.was_open.unended j GotNothing null.ended.was_open.earlier below
      (subst (λ (n : ℕ). IsAt es j (Ends n GotNothing)) client_same null.ended.ends)))
      (λ (above : k ≤ j). ⊎_elim
      {C = j ≡ k}
      (λ (under : k < j). absurd (null.ended.was_open.unended k GotNothing second.ended.was_open.earlier under
      (subst (λ (n : ℕ). IsAt es k (Ends n GotNothing)) (sym client_same) second.ended.ends)))
      (λ (over : j ≤ k). omega arith)
      (cases_lt k j))
      (cases_lt j k)
    where
      client_same : client ≡ other
      client_same = let same = same_Some _ _ (sym null.ended.was_open.begun ∙ second.ended.was_open.begun) in cc

  -- an entry of the table that gives a choice
  pub entry-of : (table : List (ℕ × Seen)) (r : ℕ) (c : Option ℕ) → All (λ entry. IsLeftWith in_time es entry.0 (seen_of entry.1)) table → choice_in table r ≡ Some c
      → IsLeftWith in_time es r c
  entry-of table r c all is = by_value (value_at table r) refl is
    where
      by_value : (o : Option Seen) → value_at table r ≡ o → option_map seen_of o ≡ Some c → IsLeftWith in_time es r c
      by_value None found same = absurd cc
      by_value (Some s) found same =
          let listed : Contains table (r, s) =
          Contains-from_lookup {eq = λ (a b : ℕ). b == a} (λ x y h. sym (eqb-true y x h)) r s table found in
          subst (IsLeftWith in_time es r) (same_Some _ _ same) (All-contains (λ (entry : ℕ × Seen). IsLeftWith in_time es entry.0 (seen_of entry.1)) table (r, s) all listed)

  pub table-forced : (table : List (ℕ × Seen)) → All (λ entry. IsLeftWith in_time es entry.0 (seen_of entry.1)) table
      → IsForcedChoice in_time es (choice_in table) × IsChoiceWherePossible in_time es (choice_in table)
  table-forced table all = (forced, possible)
    where
      forced : IsForcedChoice in_time es (choice_in table)
      forced client x r j c null is d candidate other =
          let left = entry-of table r c all is in
          left.others d (candidate-moved x left.key j left.ends (one-key client left.client x left.key r j left.ends null left.null)
          (one-end client left.client x left.key r j left.ends null left.null) d candidate) other

      possible : IsChoiceWherePossible in_time es (choice_in table)
      possible client x r j c null is =
          let left = entry-of table r c all is in
          let key = one-key left.client client left.key x r left.ends j left.null null in
          let ends = one-end left.client client left.key x r left.ends j left.null null in ⊎_elim
          {C = IsCandidate in_time es x j c ⊎ ((d : Option ℕ) → ¬ IsCandidate in_time es x j d)}
          (λ (candidate : IsCandidate in_time es left.key left.ends c). inl (candidate-moved left.key x left.ends j key ends c candidate))
          (λ (none : (d : Option ℕ) → ¬ IsCandidate in_time es left.key left.ends d).
          inr (λ d candidate. none d (candidate-moved x left.key j left.ends (sym key) (sym ends) d candidate)))
          left.candidate
