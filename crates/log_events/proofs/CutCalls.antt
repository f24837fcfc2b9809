-- The calls of a client in a cut and in the whole log.
use Rattle.std.proofs.Common.{◌≡◌, ℕ, zero, suc, ◌+◌, ◌-◌, ◌<◌, ◌≤◌, Bool, true, false, List, [], ◌∷◌, ◌++◌, length, refl, ap, sym, subst, ◌∙◌, arith, eqb-true}
use Rattle.std.specs.Prelude.{◌≢◌, ◌==◌, if◌then◌else◌, Option, Some, None, slice_get, filter}
use Rattle.std.proofs.lemmas.Option.{same_Some}
use Rattle.std.proofs.lemmas.Bool.{eqb-false, eq-eqb, ne_eqb}
use Rattle.log_events.specs.declared.event.ClientCall.{ClientCall}
use Rattle.log_events.specs.declared.event.Ending.{Ending}
use Rattle.log_events.specs.declared.event.Event.{Event}
use Rattle.log_events.specs.declared.event.Event.TheVariants.{Starts, Begins, Ends}
use Rattle.log_events.specs.Events.{IsAt, Call, ending_in, calls_from}

module _ (c : ℕ) where
  abbrev pub is_own : Call → Bool
  is_own a = a.client == c

  -- between two calls that the client begins one has_ended
  abbrev pub TakesTurns : List Event → Type 0
  TakesTurns es = (i k : ℕ) (call other : ClientCall) → i < k → IsAt es i (Begins c call) → IsAt es k (Begins c other)
      → (j : ℕ) × (ending : Ending) × (i < j) × (j < k) × IsAt es j (Ends c ending)

  turns-rest : (e : Event) (es : List Event) → TakesTurns (e ∷ es) → TakesTurns es
  turns-rest e es turns i k call other below first second =
      let r = turns (suc i) (suc k) call other (omega arith) first second in
      let above = r.2 in
      let is_before = r.3 in
      let same : r.0 ≡ suc (r.0 - 1) = omega arith in
      (r.0 - 1, r.1, omega arith, omega arith, subst (λ (n : ℕ). IsAt (e ∷ es) n (Ends c r.1)) same r.4)

  -- an ending is found in a longer list too
  pub ending-more : (es more : List Event) (ending : Ending) → ending_in c es ≡ Some ending → ending_in c (es ++ more) ≡ Some ending
  ending-more [] more ending is = absurd cc
  ending-more (Starts x v ∷ es) more ending is = ending-more es more ending is
  ending-more (Begins d call ∷ es) more ending is = ending-more es more ending is
  ending-more (Ends d other ∷ es) more ending is =
      elim (d == c) as (λ b. (if b then Some other else ending_in c es) ≡ Some ending → (if b then Some other else ending_in c (es ++ more)) ≡ Some ending) [
        | true ↦ λ here. here
        | false ↦ λ later. ending-more es more ending later
      ] is

  -- a client that begins nothing has no calls
  no_calls : (b : ℕ) (es : List Event) → ((i : ℕ) (call : ClientCall) → ¬ IsAt es i (Begins c call)) → filter is_own (calls_from b es) ≡ []
  no_calls b [] none = refl
  no_calls b (Starts x v ∷ es) none = no_calls (b + 1) es (λ i. none (suc i))
  no_calls b (Begins d call ∷ es) none =
      let apart : d ≢ c = λ same. none 0 call (ap (λ (n : ℕ). Some (Begins n call)) same) in
      rw (ne_eqb d c apart) (no_calls (b + 1) es (λ i. none (suc i)))
  no_calls b (Ends d ending ∷ es) none = no_calls (b + 1) es (λ i. none (suc i))

  pub unended : (es : List Event) → ending_in c es ≡ None → (j : ℕ) (ending : Ending) → ¬ IsAt es j (Ends c ending)
  unended [] none j ending at = absurd cc
  unended (Starts x v ∷ es) none zero ending at = absurd cc
  unended (Starts x v ∷ es) none (suc j) ending at = unended es none j ending at
  unended (Begins d call ∷ es) none zero ending at = absurd cc
  unended (Begins d call ∷ es) none (suc j) ending at = unended es none j ending at
  unended (Ends d other ∷ es) none j ending at =
      elim (d == c) as (λ b. (d == c) ≡ b → (if b then Some other else ending_in c es) ≡ None → ⊥) [
        | true ↦ λ _ some. absurd cc
        | false ↦ λ apart later. elim j as (λ n. IsAt (Ends d other ∷ es) n (Ends c ending) → ⊥) [
          | zero ↦ λ here. let event = same_Some _ _ here in let same : d ≡ c = cc in eqb-false d c apart same
          | suc m ↦ λ there. unended es later m ending there
        ] at
      ] refl none

  -- the calls of the client in the first events: those that has_ended, which the whole list has too, and then at most one
  pub record IsCutCalls (b : ℕ) (es more : List Event) (ended last rest : List Call) : Type 0 where
    pub in_cut : filter is_own (calls_from b es) ≡ ended ++ last
    pub in_log : filter is_own (calls_from b (es ++ more)) ≡ ended ++ rest
    pub has_ended : (k : ℕ) (a : Call) → slice_get ended k ≡ Some a → (ending : Ending) × (a.ending ≡ Some ending)
    pub short : length last ≤ 1
    pub is_open : (k : ℕ) (a : Call) → slice_get last k ≡ Some a → a.ending ≡ None
    pub next : (k : ℕ) (a : Call) → slice_get last k ≡ Some a
        → (o : Option Ending) × (slice_get rest k ≡ Some (record { client = a.client; place = a.place; call = a.call; ending = o }))

  pub cut-calls : (b : ℕ) (es more : List Event) → TakesTurns es → (ended last rest : List Call) × IsCutCalls b es more ended last rest
  cut-calls b [] more turns = (
    [],
    [],
    filter is_own (calls_from b more),
    record {
      in_cut = refl;
      in_log = refl;
      has_ended = λ k a at. absurd cc;
      short = omega arith;
      is_open = λ k a at. absurd cc;
      next = λ k a at. absurd cc;
    },
  )
  cut-calls b (Starts x v ∷ es) more turns =
      let r = cut-calls (b + 1) es more (turns-rest (Starts x v) es turns) in
      (r.0, r.1, r.2, record { in_cut = r.3.in_cut; in_log = r.3.in_log; has_ended = r.3.has_ended; short = r.3.short; is_open = r.3.is_open; next = r.3.next })
  cut-calls b (Ends d ending ∷ es) more turns =
      let r = cut-calls (b + 1) es more (turns-rest (Ends d ending) es turns) in
      (r.0, r.1, r.2, record { in_cut = r.3.in_cut; in_log = r.3.in_log; has_ended = r.3.has_ended; short = r.3.short; is_open = r.3.is_open; next = r.3.next })
  cut-calls b (Begins d call ∷ es) more turns =
      let r = cut-calls (b + 1) es more (turns-rest (Begins d call) es turns) in
      elim (d == c) as (λ t. (d == c) ≡ t → (ended last rest : List Call) × IsCutCalls b (Begins d call ∷ es) more ended last rest) [
        | true ↦ λ same. own r (eqb-true d c same)
        | false ↦ λ apart.
            (r.0, r.1, r.2, record { in_cut = rw apart r.3.in_cut; in_log = rw apart r.3.in_log; has_ended = r.3.has_ended; short = r.3.short; is_open = r.3.is_open; next = r.3.next })
      ] refl
    where
      own : ((ended last rest : List Call) × IsCutCalls (b + 1) es more ended last rest) → d ≡ c
          → (ended last rest : List Call) × IsCutCalls b (Begins d call ∷ es) more ended last rest
      own r same =
          elim (ending_in d es) as (λ (o : Option Ending). ending_in d es ≡ o → (ended last rest : List Call) × IsCutCalls b (Begins d call ∷ es) more ended last rest) [
            | None ↦ λ none.
                let silent : (i : ℕ) (other : ClientCall) → ¬ IsAt es i (Begins c other) = λ i other at.
                let r = turns 0 (suc i) call other (omega arith) (ap (λ (n : ℕ). Some (Begins n call)) same) at in
                let above = r.2 in
                let there : r.0 ≡ suc (r.0 - 1) = omega arith in
                unended es (subst (λ (n : ℕ). ending_in n es ≡ None) same none) (r.0 - 1) r.1
                (subst (λ (n : ℕ). IsAt (Begins d call ∷ es) n (Ends c r.1)) there r.4) in
                let a : Call = record { client = d; place = b; call = call; ending = ending_in d es } in (
                  [],
                  a ∷ [],
                  filter is_own (calls_from b (Begins d call ∷ (es ++ more))),
                  record {
                    in_cut = rw (eq-eqb d c same, no_calls (b + 1) es silent) refl;
                    in_log = refl;
                    has_ended = λ k a at. absurd cc;
                    short = omega arith;
                    is_open = λ k e at. elim k as (λ n. slice_get (a ∷ []) n ≡ Some e → e.ending ≡ None) [
                      | zero ↦ λ here. sym (ap (λ (d : Call). d.ending) (same_Some _ _ here)) ∙ none
                      | suc n ↦ λ there. absurd cc
                    ] at;
                    next = λ k e at. elim k as (λ n. slice_get (a ∷ []) n ≡ Some e → (o : Option Ending)
                        × (slice_get (filter is_own (calls_from b (Begins d call ∷ (es ++ more)))) n ≡ Some (record { client = e.client; place = e.place; call = e.call; ending = o }))) [
                          | zero ↦ λ here. (
                            ending_in d (es ++ more),
                            rw (eq-eqb d c same)
                                (ap (λ (x : Call). Some (record { client = x.client; place = x.place; call = x.call; ending = ending_in d (es ++ more) })) (same_Some _ _ here)),
                          )
                          | suc n ↦ λ there. absurd cc
                        ] at;
                  },
                )
            | Some ending ↦ λ some.
                let a : Call = record { client = d; place = b; call = call; ending = ending_in d es } in
                let own_end = subst (λ (n : ℕ). ending_in n es ≡ Some ending) same some in
                let longer : ending_in d (es ++ more) ≡ ending_in d es =
                subst (λ (n : ℕ). ending_in n (es ++ more) ≡ ending_in n es) (sym same) (ending-more es more ending own_end ∙ sym own_end) in (
                  a ∷ r.0,
                  r.1,
                  r.2,
                  record {
                    in_cut = rw (eq-eqb d c same) (ap (λ (rest : List Call). a ∷ rest) r.3.in_cut);
                    in_log = rw (eq-eqb d c same) (λ i. record { client = d; place = b; call = call; ending = longer i } ∷ r.3.in_log i);
                    has_ended = λ k e at. elim k as (λ n. slice_get (a ∷ r.0) n ≡ Some e → (ending : Ending) × (e.ending ≡ Some ending)) [
                      | zero ↦ λ here. (ending, sym (ap (λ (d : Call). d.ending) (same_Some _ _ here)) ∙ some)
                      | suc n ↦ λ there. r.3.has_ended n e there
                    ] at;
                    short = r.3.short;
                    is_open = r.3.is_open;
                    next = r.3.next;
                  },
                )
          ] refl
