-- What comes before a call, as counts of it say.
use Rattle.std.proofs.Common.{◌≡◌, ℕ, suc, ◌+◌, ◌-◌, ◌<◌, sym, subst, ◌∙◌, ⊎_elim, arith}
use Rattle.std.specs.Prelude.{◌≢◌, ◌⊎◌, Bool, false, List, slice_index}
use Rattle.std.proofs.lemmas.Bool.{cases_eq}
use Rattle.log_events.specs.declared.event.ClientCall.{ClientCall}
use Rattle.log_events.specs.declared.event.Ending.TheVariants.{Failed, Lost}
use Rattle.log_events.specs.declared.event.Event.{Event}
use Rattle.log_events.specs.declared.event.Event.TheVariants.{Begins}
use Rattle.log_events.specs.Events.{IsAt, IsEnded}
use Rattle.log_choices.specs.Forced.{Comes, FollowsInSession, in_session, through}
use Rattle.log_choices.specs.ForcedSteps.{IsKeptWrite, IsPast, IsPastFrom, writing}
use Rattle.log_choices.specs.declared.forced_kept.Kept.{Kept}

-- counts that change only to one more than the place of a call of a client, and to what other counts are
abbrev pub IsRaised : List ℕ → List ℕ → ℕ → ℕ → Type 0
IsRaised old new client place = (c : ℕ) → slice_index new c ≢ slice_index old c → (c ≡ client) × (slice_index new c ≡ place + 1)

abbrev pub IsJoined : List ℕ → List ℕ → List ℕ → Type 0
IsJoined old new other = (c : ℕ) → slice_index new c ≢ slice_index old c → slice_index new c ≡ slice_index other c

module _ (in_time : Bool) (es : List Event) where
  -- one call of a client that neither fails nor is lost comes before a later one
  pub session-comes : (client a b : ℕ) (call next : ClientCall) → IsAt es a (Begins client call) → IsAt es b (Begins client next) → a < b
      → ((k : ℕ) → ¬ IsEnded es client call a k Failed) → ((k : ℕ) → ¬ IsEnded es client call a k Lost) → Comes in_time es a b
  session-comes client a b call next first second below not_failed not_lost =
      let follows : FollowsInSession es a b = record {
        client = client;
        call = call;
        next = next;
        first = first;
        second = second;
        earlier = below;
        not_failed = not_failed;
        not_lost = not_lost;
      } in
      in_session follows

  pub past-changed : (old new : List ℕ) (q : ℕ) → IsPast in_time es old q
      → ((c p : ℕ) → slice_index new c ≢ slice_index old c → slice_index new c ≡ suc p
      → ((call : ClientCall) × IsAt es p (Begins c call)) × Comes in_time es p q) → IsPast in_time es new q
  past-changed old new q was changed c p is = ⊎_elim
      {C = ((call : ClientCall) × IsAt es p (Begins c call)) × Comes in_time es p q}
      (λ (same : slice_index new c ≡ slice_index old c). was c p (sym same ∙ is))
      (λ (other : slice_index new c ≢ slice_index old c). changed c p other is)
      (cases_eq (slice_index new c) (slice_index old c))

  pub past-raised : (old new : List ℕ) (q client place : ℕ) (call : ClientCall) → IsRaised old new client place → IsAt es place (Begins client call)
      → Comes in_time es place q → IsPast in_time es old q → IsPast in_time es new q
  past-raised old new q client place call raised at comes was = past-changed old new q was (λ c p other is.
      let r = raised c other in
      let same : place ≡ p = let to = r.1 in omega arith in
      let begun : IsAt es p (Begins c call) = subst (λ (n : ℕ). IsAt es n (Begins c call)) same (subst (λ (n : ℕ). IsAt es place (Begins n call)) (sym r.0) at) in
      ((call, begun), subst (λ (n : ℕ). Comes in_time es n q) same comes))

  pub past-joined : (old new other : List ℕ) (q p : ℕ) → IsJoined old new other → IsPast in_time es other p → Comes in_time es p q → IsPast in_time es old q → IsPast in_time es new q
  past-joined old new other q p joined before comes was = past-changed old new q was (λ c m differs is.
      let r = before c m (sym (joined c differs) ∙ is) in (r.0, through r.1 comes))

  -- what comes before a call comes before those that it comes before
  pub past-through : (counts : List ℕ) (p q : ℕ) → IsPast in_time es counts p → Comes in_time es p q → IsPast in_time es counts q
  past-through counts p q was comes c m is = let r = was c m is in (r.0, through r.1 comes)

  pub past-followed : (w : Kept) (q : ℕ) (old mid new : List ℕ) → IsJoined old mid w.past.items → IsRaised mid new w.client w.place
      → IsKeptWrite in_time es w → Comes in_time es w.place q → IsPast in_time es old q → IsPast in_time es new q
  past-followed w q old mid new joined raised kept comes was =
      past-raised mid new q w.client w.place (writing w.key w.value) raised kept.begun comes
      (past-joined old mid w.past.items q w.place joined kept.past comes was)

  -- a write comes before a call where a count of its client is above its place, and it was not lost, or is the call that is counted
  pub precedes-comes : (w : Kept) (counts : List ℕ) (q : ℕ) → IsKeptWrite in_time es w → IsPast in_time es counts q → w.place < slice_index counts w.client
      → (w.is_lost ≡ false) ⊎ (slice_index counts w.client ≡ w.place + 1) → Comes in_time es w.place q
  precedes-comes w counts q kept was below stays =
      let p : ℕ = slice_index counts w.client - 1 in
      let is : slice_index counts w.client ≡ suc p = omega arith in
      let ((call, at), comes) = was w.client p is in ⊎_elim
      {C = Comes in_time es w.place q}
      (λ (same : p ≡ w.place). subst (λ (n : ℕ). Comes in_time es n q) same comes)
      (λ (other : p ≢ w.place). ⊎_elim
      {C = Comes in_time es w.place q}
      (λ (not_lost : w.is_lost ≡ false).
      let first : Comes in_time es w.place p =
      session-comes w.client w.place p (writing w.key w.value) call kept.begun at (omega arith) kept.not_failed (kept.not_lost not_lost) in
      through first comes)
      (λ (same : slice_index counts w.client ≡ w.place + 1). absurd (other (omega arith)))
      stays)
      (cases_eq p w.place)

  -- a call of a client that neither fails nor is lost, with what comes before it, comes before the client's later calls
  pub past-advanced : (client place : ℕ) (call : ClientCall) (old new : List ℕ) → IsRaised old new client place → IsAt es place (Begins client call)
      → ((k : ℕ) → ¬ IsEnded es client call place k Failed) → ((k : ℕ) → ¬ IsEnded es client call place k Lost)
      → IsPast in_time es old place → IsPastFrom in_time es client (place + 1) new
  past-advanced client place call old new raised at not_failed not_lost was q next above begun =
      let comes : Comes in_time es place q = session-comes client place q call next at begun (omega arith) not_failed not_lost in
      past-raised old new q client place call raised at comes (past-through old place q was comes)
