-- A resolved log has distinct values where the log has; and where the log is in the order of time, its reads return what was begun before.
use Rattle.std.proofs.Common.{◌≡◌, ℕ, ◌+◌, ◌*◌, true, false, Bool, List, refl, sym, subst, ◌∙◌, inl, inr, arith}
use Rattle.std.specs.Prelude.{◌≢◌, ◌⊎◌, if◌then◌else◌, Option, Some, None}
use Rattle.log_events.specs.declared.event.ClientCall.{ClientCall}
use Rattle.log_events.specs.declared.event.ClientCall.TheVariants.{WriteTo, ReadOf, DeleteOf}
use Rattle.log_events.specs.declared.event.Ending.{Ending}
use Rattle.log_events.specs.declared.event.Ending.TheVariants.{Answered, Got, GotNothing, Failed, Lost}
use Rattle.log_events.specs.declared.event.Event.{Event}
use Rattle.log_events.specs.declared.event.Event.TheVariants.{Starts, Begins}
use Rattle.log_events.specs.Events.{IsAt, IsEnded, IsAllowed}
use Rattle.log_events.specs.Histories.{is_deleted}
use Rattle.log_events.specs.Values.{BeginsKeptWrite, HasDistinctValues}
use Rattle.log_choices.specs.Choices.{Choice, IsNullRead}
use Rattle.log_choices.proofs.ResolvedLogs.{resolved_call, resolved_miss, resolved_ending}
use Rattle.log_choices.proofs.ResolvedHistories.{resolved, returned-value}
use Rattle.log_choices.proofs.ResolvedEvents.{at-starts, at-begins, ended-resolved, resolved-ended}

module _ (es : List Event) (f : Choice) (allowed : IsAllowed es) where
  -- a write of the resolved log that stays is a write of the log that stays, or a delete
  abbrev IsOfKept : ℕ → ℕ → ℕ → ℕ → Type 0
  IsOfKept client i x u = ((v : ℕ) × BeginsKeptWrite es client i x v × (u ≡ 2 * v)) ⊎ ((u ≡ 2 * i + 1) × IsAt es i (Begins client (DeleteOf x)))

  kept-from : (client i x u : ℕ) → BeginsKeptWrite (resolved es f) client i x u → IsOfKept client i x u
  kept-from client i x u kept = let (call, at, same) = at-begins es f i client (WriteTo x u) kept.begun in by_call call at same
    where
      by_call : (call : ClientCall) → IsAt es i (Begins client call) → WriteTo x u ≡ resolved_call i call → IsOfKept client i x u
      by_call (WriteTo y v) at same =
          let keys : y ≡ x = cc in
          let value : u ≡ 2 * v = cc in
          let here : BeginsKeptWrite (resolved es f) client i x (2 * v) = subst (BeginsKeptWrite (resolved es f) client i x) value kept in
          inl (
            v,
            record {
              begun = subst (λ (n : ℕ). IsAt es i (Begins client (WriteTo n v))) keys at;
              not_failed = λ j end. here.not_failed j (ended-resolved es f allowed client (WriteTo x v) i j Failed end);
              returned = λ j end. sym (returned-value es f allowed x v) ∙ here.returned j (ended-resolved es f allowed client (WriteTo x v) i j Lost end);
            },
            value,
          )
      by_call (ReadOf y) at same = absurd cc
      by_call (DeleteOf y) at same =
          let keys : y ≡ x = cc in
          let value : u ≡ 2 * i + 1 = cc in
          inr (value, subst (λ (n : ℕ). IsAt es i (Begins client (DeleteOf n))) keys at)

  pub resolved-distinct : HasDistinctValues es → HasDistinctValues (resolved es f)
  resolved-distinct distinct = record { once = once; not_started = not_started }
    where
      same_place : (client other i j x u : ℕ) → IsOfKept client i x u → IsOfKept other j x u → i ≡ j
      same_place client other i j x u (inl (v, kept, value)) (inl (w, kept2, value2)) =
          let same : w ≡ v = omega arith in
          distinct.once client other i j x v kept (subst (BeginsKeptWrite es other j x) same kept2)
      same_place client other i j x u (inl (v, kept, value)) (inr (value2, at2)) = absurd (omega arith)
      same_place client other i j x u (inr (value, at)) (inl (w, kept2, value2)) = absurd (omega arith)
      same_place client other i j x u (inr (value, at)) (inr (value2, at2)) = omega arith

      once : (client other i j x u : ℕ) → BeginsKeptWrite (resolved es f) client i x u → BeginsKeptWrite (resolved es f) other j x u → i ≡ j
      once client other i j x u first second = same_place client other i j x u (kept-from client i x u first) (kept-from other j x u second)

      apart : (client i x u k v : ℕ) → IsOfKept client i x u → IsAt es k (Starts x v) → u ≢ 2 * v
      apart client i x u k v (inl (w, kept, value)) at same =
          let one : v ≡ w = omega arith in
          distinct.not_started client i x w k kept (subst (λ (n : ℕ). IsAt es k (Starts x n)) one at)
      apart client i x u k v (inr (value, _)) at same = omega arith

      not_started : (client i x u k : ℕ) → BeginsKeptWrite (resolved es f) client i x u → ¬ IsAt (resolved es f) k (Starts x u)
      not_started client i x u k kept at =
          let (v, there, same) = at-starts es f k x u at in apart client i x u k v (kept-from client i x u kept) there same

  -- what a read of the resolved log returned: a value that the read got, or what a null read saw
  abbrev IsOfGot : ℕ → ℕ → ℕ → ℕ → ℕ → Type 0
  IsOfGot client x i j u =
      ((v : ℕ) × IsEnded es client (ReadOf x) i j (Got v) × (u ≡ 2 * v))
      ⊎ ((p : ℕ) × IsNullRead es client x i j × (f i ≡ Some (Some p)) × (u ≡ 2 * p + 1))

  pub got-from : (client x i j u : ℕ) → IsEnded (resolved es f) client (ReadOf x) i j (Got u) → IsOfGot client x i j u
  got-from client x i j u end =
      let (call, ending, was, same, is) = resolved-ended es f allowed client (ReadOf x) i j (Got u) end in by_call call ending was same is
    where
      missed : (y : ℕ) → y ≡ x → IsEnded es client (ReadOf y) i j GotNothing → (b : Bool) → is_deleted es y ≡ b
          → Got u ≡ resolved_miss (if b then f i else Some None) → IsOfGot client x i j u
      missed y keys was false undeleted is = absurd cc
      missed y keys was true named is = saw_of (f i) refl is
        where
          saw_of : (o : Option (Option ℕ)) → f i ≡ o → Got u ≡ resolved_miss o → IsOfGot client x i j u
          saw_of None some is = absurd cc
          saw_of (Some None) some is = absurd cc
          saw_of (Some (Some p)) some is =
              let null : IsNullRead es client y i j = record { ended = was; named = named } in
              inr (p, subst (λ (n : ℕ). IsNullRead es client n i j) keys null, some, cc)

      by_call : (call : ClientCall) (ending : Ending) → IsEnded es client call i j ending → ReadOf x ≡ resolved_call i call
          → Got u ≡ resolved_ending es f (i, call) ending → IsOfGot client x i j u
      by_call (WriteTo y v) ending was same is = absurd cc
      by_call (DeleteOf y) ending was same is = absurd cc
      by_call (ReadOf y) Answered was same is = absurd cc
      by_call (ReadOf y) (Got v) was same is =
          let keys : y ≡ x = cc in
          inl (v, subst (λ (n : ℕ). IsEnded es client (ReadOf n) i j (Got v)) keys was, cc)
      by_call (ReadOf y) GotNothing was same is = let keys : y ≡ x = cc in missed y keys was (is_deleted es y) refl is
      by_call (ReadOf y) Failed was same is = absurd cc
      by_call (ReadOf y) Lost was same is = absurd cc

  -- a read of the resolved log that got nothing got nothing in the log too, where no delete names the key, or saw the start
  abbrev IsOfMissed : ℕ → ℕ → ℕ → ℕ → Type 0
  IsOfMissed client x i j =
      (IsEnded es client (ReadOf x) i j GotNothing × (is_deleted es x ≡ false)) ⊎ (IsNullRead es client x i j × (f i ≡ Some None))

  pub missed-from : (client x i j : ℕ) → IsEnded (resolved es f) client (ReadOf x) i j GotNothing → IsOfMissed client x i j
  missed-from client x i j end =
      let (call, ending, was, same, is) = resolved-ended es f allowed client (ReadOf x) i j GotNothing end in by_call call ending was same is
    where
      missed : (y : ℕ) → y ≡ x → IsEnded es client (ReadOf y) i j GotNothing → (b : Bool) → is_deleted es y ≡ b
          → GotNothing ≡ resolved_miss (if b then f i else Some None) → IsOfMissed client x i j
      missed y keys was false undeleted is =
          inl (subst (λ (n : ℕ). IsEnded es client (ReadOf n) i j GotNothing × (is_deleted es n ≡ false)) keys (was, undeleted))
      missed y keys was true named is = saw_of (f i) refl is
        where
          saw_of : (o : Option (Option ℕ)) → f i ≡ o → GotNothing ≡ resolved_miss o → IsOfMissed client x i j
          saw_of None some is = absurd cc
          saw_of (Some (Some p)) some is = absurd cc
          saw_of (Some None) some is =
              let null : IsNullRead es client y i j = record { ended = was; named = named } in
              inr (subst (λ (n : ℕ). IsNullRead es client n i j) keys null, some)

      by_call : (call : ClientCall) (ending : Ending) → IsEnded es client call i j ending → ReadOf x ≡ resolved_call i call
          → GotNothing ≡ resolved_ending es f (i, call) ending → IsOfMissed client x i j
      by_call (WriteTo y v) ending was same is = absurd cc
      by_call (DeleteOf y) ending was same is = absurd cc
      by_call (ReadOf y) Answered was same is = absurd cc
      by_call (ReadOf y) (Got v) was same is = absurd cc
      by_call (ReadOf y) GotNothing was same is = let keys : y ≡ x = cc in missed y keys was (is_deleted es y) refl is
      by_call (ReadOf y) Failed was same is = absurd cc
      by_call (ReadOf y) Lost was same is = absurd cc
