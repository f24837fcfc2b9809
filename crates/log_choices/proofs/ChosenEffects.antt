-- The operation by which a call took effect, in the history by a choice and in that of the resolved log; and what is forced of these operations.
use Rattle.std.proofs.Common.{◌≡◌, ℕ, zero, suc, ◌+◌, ◌<◌, ◌≤◌, true, false, Bool, List, [], ◌∷◌, length, map, take, refl, ap, sym, subst, ◌∙◌, inl, inr, arith}
use Rattle.std.specs.Prelude.{◌==◌, if◌then◌else◌, Option, Some, None, filter, filter_map, nat_lt, option_map, slice_get}
use Rattle.std.proofs.lemmas.Bool.{le-ltb, lt-ltb}
use Rattle.std.proofs.lemmas.List.{length-map}
use Rattle.std.proofs.lemmas.List.FromFn.{length-map-range_with_len}
use Rattle.std.proofs.lemmas.Option.{same_Some}
use Rattle.model_history.specs.declared.op_id.OpId.{OpId}
use Rattle.order_causal.specs.Orders.{op}
use Rattle.order_memory.specs.Memory.{MemoryHistory, memory_answer}
use Rattle.order_memory.specs.Relations.{CO}
use Rattle.cert_check.specs.declared.criterion.Criterion.{Criterion}
use Rattle.cert_check.specs.declared.criterion.Criterion.TheVariants.{Cc}
use Rattle.cert_check.specs.Criteria.{Meets}
use Rattle.cert_subhistories.proofs.KeptLists.{mapped_from, passing_before}
use Rattle.log_events.specs.declared.event.ClientCall.{ClientCall}
use Rattle.log_events.specs.declared.event.ClientCall.TheVariants.{WriteTo, ReadOf, DeleteOf}
use Rattle.log_events.specs.declared.event.Ending.{Ending}
use Rattle.log_events.specs.declared.event.Ending.TheVariants.{Answered, Got, GotNothing, Failed, Lost}
use Rattle.log_events.specs.declared.event.Event.{Event}
use Rattle.log_events.specs.Events.{IsAllowed, Call, run_calls}
use Rattle.log_events.specs.Histories.{Operation, clients, operation, fork, client_session}
use Rattle.log_events.specs.Values.{HasDistinctValues}
use Rattle.log_events.proofs.CallPlaces.{calls-rise}
use Rattle.log_events.proofs.OperationPlaces.{client_index, fork_session}
use Rattle.log_choices.specs.Choices.{Choice}
use Rattle.log_choices.specs.ChosenCriteria.{MeetsBy}
use Rattle.log_choices.specs.ChosenHistories.{saw, operation_by, fork_by, history_by}
use Rattle.log_choices.specs.Effects.{calls_before, operations_before, forks_before, TookEffectBy}
use Rattle.log_choices.specs.Forced.{Comes}
use Rattle.log_choices.proofs.CallEffects.{IsEffect}
use Rattle.log_choices.proofs.ForcedHistories.{to-resolved}
use Rattle.log_choices.proofs.ForcedOrders.{comes-before}
use Rattle.log_choices.proofs.RenamedHistories.{renamed_operation, CO-renamed}
use Rattle.log_choices.proofs.ResolvedHistories.{spread, spread-once, resolved, nothing_begun, resolved-run, run-from, run-to, filter-map, filter_map-map, operation-resolved, fork-resolved, clients-resolved, history-resolved}
use Rattle.log_choices.proofs.ResolvedLogs.{resolved_miss, resolved_ending, resolved_call_of}

-- calls whose places rise: those that begin before one of them stand before it
abbrev Rises : List Call → Type 0
Rises xs = (m n : ℕ) (a b : Call) → m < n → slice_get xs m ≡ Some a → slice_get xs n ≡ Some b → a.place < b.place

none-before : (p : ℕ) (xs : List Call) → ((k : ℕ) (a : Call) → slice_get xs k ≡ Some a → p ≤ a.place) → filter (λ (a : Call). nat_lt a.place p) xs ≡ []
none-before p [] late = refl
none-before p (x ∷ xs) late =
    ap (λ (b : Bool). if b then (x ∷ filter (λ (a : Call). nat_lt a.place p) xs) else filter (λ (a : Call). nat_lt a.place p) xs)
    (le-ltb x.place p (late 0 x refl)) ∙ none-before p xs (λ k. late (suc k))

rising-front : (xs : List Call) → Rises xs → (k : ℕ) (a : Call) → slice_get xs k ≡ Some a → filter (λ (c : Call). nat_lt c.place a.place) xs ≡ take k xs
rising-front [] rises k a at = absurd cc
rising-front (x ∷ xs) rises zero a at =
    let same : x.place ≡ a.place = ap (λ (c : Call). c.place) (same_Some _ _ at) in
    none-before a.place (x ∷ xs) (late same)
  where
    late : x.place ≡ a.place → (k : ℕ) (b : Call) → slice_get (x ∷ xs) k ≡ Some b → a.place ≤ b.place
    late same zero b there = let one : x.place ≡ b.place = ap (λ (c : Call). c.place) (same_Some _ _ there) in omega arith
    late same (suc k) b there = let less = rises 0 (suc k) x b (omega arith) refl there in omega arith
rising-front (x ∷ xs) rises (suc k) a at =
    let less = rises 0 (suc k) x a (omega arith) refl at in
    ap (λ (b : Bool). if b then (x ∷ filter (λ (c : Call). nat_lt c.place a.place) xs) else filter (λ (c : Call). nat_lt c.place a.place) xs) (lt-ltb x.place a.place less)
    ∙ ap (λ (l : List Call). x ∷ l) (rising-front xs (λ m n c d below. rises (suc m) (suc n) c d (omega arith)) k a at)

-- the front of a filtered list, and of a mapped one
filter-front : {X : Type 0} (p : X → Bool) (xs : List X) (k : ℕ) → take (passing_before p xs k) (filter p xs) ≡ filter p (take k xs)
filter-front p xs zero = refl
filter-front p [] (suc k) = refl
filter-front {X} p (x ∷ xs) (suc k) =
    elim (p x) as (λ b. take (length (if b then (x ∷ filter p (take k xs)) else filter p (take k xs))) (if b then (x ∷ filter p xs) else filter p xs)
    ≡ (if b then (x ∷ filter p (take k xs)) else filter p (take k xs))) [
      | true ↦ ap (λ (l : List X). x ∷ l) (filter-front p xs k)
      | false ↦ filter-front p xs k
    ]

take-map : {X Y : Type 0} (g : X → Y) (xs : List X) (k : ℕ) → take k (map g xs) ≡ map g (take k xs)
take-map g xs zero = refl
take-map g [] (suc k) = refl
take-map {X} {Y} g (x ∷ xs) (suc k) = ap (λ (l : List Y). g x ∷ l) (take-map g xs k)

module _ (es : List Event) (f : Choice) (allowed : IsAllowed es) where
  abbrev log : List Event
  log = resolved es f

  front-is : (k : ℕ) (a : Call) → slice_get (run_calls es) k ≡ Some a → calls_before es f a.place ≡ take k (run_calls es)
  front-is k a at = rising-front (run_calls es) (λ m n c d below first second. calls-rise 0 es m n c d below first second) k a at

  log-front : (k : ℕ) (a : Call) → slice_get (run_calls es) k ≡ Some a → take k (run_calls log) ≡ map (resolved_call_of es f) (calls_before es f a.place)
  log-front k a at =
      ap (take k) (resolved-run es f allowed) ∙ take-map (resolved_call_of es f) (run_calls es) k ∙ ap (map (resolved_call_of es f)) (sym (front-is k a at))

  -- the places of operations and of forks are the same in both
  index-is : (c k : ℕ) (a : Call) → slice_get (run_calls es) k ≡ Some a → client_index log c k ≡ operations_before es f c a.place
  index-is c k a at =
      ap (λ (l : List Call). length (filter_map (λ (b : Call). operation log b.place b.call b.ending) l)) (filter-front (λ (b : Call). b.client == c) (run_calls log) k)
      ∙ ap (λ (l : List Call). length (filter_map (λ (b : Call). operation log b.place b.call b.ending) (filter (λ (b : Call). b.client == c) l))) (log-front k a at)
      ∙ ap (λ (l : List Call). length (filter_map (λ (b : Call). operation log b.place b.call b.ending) l))
      (filter-map (resolved_call_of es f) (λ (b : Call). b.client == c) (λ (b : Call). b.client == c) (λ b. refl) (calls_before es f a.place))
      ∙ ap (λ (l : List Operation). length l)
      (filter_map-map (resolved_call_of es f) (λ (b : Call). operation log b.place b.call b.ending) (λ (b : Call). operation_by es f b.place b.call b.ending)
      (renamed_operation spread) (operation-resolved es f allowed) (filter (λ (b : Call). b.client == c) (calls_before es f a.place)))
      ∙ length-map (filter_map (λ (b : Call). operation_by es f b.place b.call b.ending) (filter (λ (b : Call). b.client == c) (calls_before es f a.place)))
      (renamed_operation spread)

  forks-is : (k : ℕ) (a : Call) → slice_get (run_calls es) k ≡ Some a
      → length (filter_map (λ (b : Call). fork log b.place b.call b.ending) (take k (run_calls log))) ≡ forks_before es f a.place
  forks-is k a at =
      ap (λ (l : List Call). length (filter_map (λ (b : Call). fork log b.place b.call b.ending) l)) (log-front k a at)
      ∙ ap (λ (l : List (List Operation)). length l)
      (filter_map-map (resolved_call_of es f) (λ (b : Call). fork log b.place b.call b.ending) (λ (b : Call). fork_by es f b.place b.call b.ending)
      (map (renamed_operation spread)) (fork-resolved es f allowed) (calls_before es f a.place))
      ∙ length-map (filter_map (λ (b : Call). fork_by es f b.place b.call b.ending) (calls_before es f a.place)) (map (renamed_operation spread))

  session-is : (k : ℕ) (a : Call) → slice_get (run_calls es) k ≡ Some a → fork_session log k ≡ clients es + forks_before es f a.place
  session-is k a at =
      let many = length-map-range_with_len (client_session log) 0 (clients log) in
      let same = clients-resolved es f allowed (nothing_begun es f) 0 es in
      let forks = forks-is k a at in
      omega arith

  -- a call that was lost stays lost; another is lost in the resolved log where it has no operation
  lost-stays : (a : Call) → a.ending ≡ Some Lost → (resolved_call_of es f a).ending ≡ Some Lost
  lost-stays a lost = ap (option_map (resolved_ending es f (a.place, a.call))) lost ∙ by_call a.call
    where
      by_call : (call : ClientCall) → ◌≡◌ {A = Option Ending} (Some (resolved_ending es f (a.place, call) Lost)) (Some Lost)
      by_call (WriteTo x v) = refl
      by_call (ReadOf x) = refl
      by_call (DeleteOf x) = refl

  lost-from : (place : ℕ) (call : ClientCall) (ending : Option Ending) (e : Operation) → operation_by es f place call ending ≡ Some e
      → option_map (resolved_ending es f (place, call)) ending ≡ Some Lost → ending ≡ Some Lost
  lost-from place call None e is lost = absurd cc
  lost-from place (WriteTo x v) (Some Answered) e is lost = absurd cc
  lost-from place (WriteTo x v) (Some (Got u)) e is lost = absurd cc
  lost-from place (WriteTo x v) (Some GotNothing) e is lost = absurd cc
  lost-from place (WriteTo x v) (Some Failed) e is lost = absurd cc
  lost-from place (WriteTo x v) (Some Lost) e is lost = refl
  lost-from place (DeleteOf x) (Some Answered) e is lost = absurd cc
  lost-from place (DeleteOf x) (Some (Got u)) e is lost = absurd cc
  lost-from place (DeleteOf x) (Some GotNothing) e is lost = absurd cc
  lost-from place (DeleteOf x) (Some Failed) e is lost = absurd cc
  lost-from place (DeleteOf x) (Some Lost) e is lost = refl
  lost-from place (ReadOf x) (Some Answered) e is lost = absurd cc
  lost-from place (ReadOf x) (Some (Got u)) e is lost = absurd cc
  lost-from place (ReadOf x) (Some GotNothing) e is lost = missed (saw es f place x) refl
    where
      missed : (o : Option (Option ℕ)) → saw es f place x ≡ o → ◌≡◌ {A = Option Ending} (Some GotNothing) (Some Lost)
      missed None none = let wrong : None ≡ Some e = sym (ap (option_map _) none) ∙ is in absurd cc
      missed (Some None) some = let wrong : ◌≡◌ {A = Option Ending} (Some GotNothing) (Some Lost) = sym (ap (λ o. Some (resolved_miss o)) some) ∙ lost in absurd cc
      missed (Some (Some p)) some = let wrong = sym (ap (λ o. Some (resolved_miss o)) some) ∙ lost in absurd cc
  lost-from place (ReadOf x) (Some Failed) e is lost = absurd cc
  lost-from place (ReadOf x) (Some Lost) e is lost = refl

  -- the same operation in both
  pub effect-to : (p : ℕ) (o : OpId) → TookEffectBy es f p o → IsEffect log p o
  effect-to p o (a, k, at, place, inl (e, is, stays, same)) = inl (
    record {
      a = resolved_call_of es f a;
      k = k;
      at = run-to es f allowed k a at;
      place = place;
      e = renamed_operation spread e;
      gives = operation-resolved es f allowed a ∙ ap (option_map (renamed_operation spread)) is;
      same = same ∙ ap (op a.client) (sym (index-is a.client k a at));
    },
    λ lost. stays (lost-from a.place a.call a.ending e is lost),
  )
  effect-to p o (a, k, at, place, inr (l, is, same)) = inr (record {
    a = resolved_call_of es f a;
    k = k;
    at = run-to es f allowed k a at;
    place = place;
    l = map (renamed_operation spread) l;
    gives = fork-resolved es f allowed a ∙ ap (option_map (map (renamed_operation spread))) is;
    inside = omega arith;
    same = same ∙ ap (λ (s : ℕ). op s 1) (sym (session-is k a at));
  })

  pub effect-from : (p : ℕ) (o : OpId) → IsEffect log p o → TookEffectBy es f p o
  effect-from p o (inl (main, stays)) =
      let (a, at, one) = run-from es f allowed main.k main.a main.at in
      let gives : option_map (renamed_operation spread) (operation_by es f a.place a.call a.ending) ≡ Some main.e =
      sym (operation-resolved es f allowed a) ∙ ap (λ (c : Call). operation log c.place c.call c.ending) one ∙ main.gives in
      let (e, is, _) = mapped_from (renamed_operation spread) (operation_by es f a.place a.call a.ending) main.e gives in (
        a,
        main.k,
        at,
        ap (λ (c : Call). c.place) one ∙ main.place,
        inl (
          e,
          is,
          (λ lost. stays (sym (ap (λ (c : Call). c.ending) one) ∙ lost-stays a lost)),
          main.same ∙ sym (ap (λ (c : Call). op c.client (client_index log c.client main.k)) one) ∙ ap (op a.client) (index-is a.client main.k a at),
        ),
      )
  effect-from p o (inr forked) =
      let (a, at, one) = run-from es f allowed forked.k forked.a forked.at in
      let gives : option_map (map (renamed_operation spread)) (fork_by es f a.place a.call a.ending) ≡ Some forked.l =
      sym (fork-resolved es f allowed a) ∙ ap (λ (c : Call). fork log c.place c.call c.ending) one ∙ forked.gives in
      let (l, is, _) = mapped_from (map (renamed_operation spread)) (fork_by es f a.place a.call a.ending) forked.l gives in
      (a, forked.k, at, ap (λ (c : Call). c.place) one ∙ forked.place, inr (l, is, forked.same ∙ ap (λ (s : ℕ). op s 1) (session-is forked.k a at)))

-- what is forced is in the causal order of the history
pub forced-CO : ((h : MemoryHistory) (criterion : Criterion) → Meets memory_answer h criterion → Meets memory_answer h Cc)
    → (in_time : Bool) (es : List Event) → IsAllowed es → HasDistinctValues es → (f : Choice) (criterion : Criterion) → MeetsBy in_time es f criterion
    → (a b : ℕ) → Comes in_time es a b → (q : OpId) → TookEffectBy es f b q → (o : OpId) × TookEffectBy es f a o × CO (history_by es f) o q
forced-CO weaker in_time es allowed distinct f criterion by a b comes q effect =
    let met = to-resolved es f allowed Cc (weaker (history_by es f) criterion by.met) in
    let (o, there, less) = comes-before es f allowed in_time by.choice distinct by.whole met comes q (effect-to es f allowed b q effect) in (
      o,
      effect-from es f allowed a o there,
      CO-renamed spread (history_by es f) refl spread-once o q (subst (λ (h : MemoryHistory). CO h o q) (history-resolved es f allowed) less),
    )
