-- What is kept of the updates that a replica has delivered, when one more is.
use Rattle.std.proofs.Common.{◌≡◌, ◌≢◌, ℕ, ◌+◌, ◌<◌, ◌≤◌, ◌==◌, ◌&&◌, ◌||◌, List, [], ◌∷◌, ◌++◌, take, drop, length, refl, sym, ap, subst, ◌∙◌, arith, ⊎_elim}
use Rattle.std.specs.Prelude.{Bool, true, false, if◌then◌else◌, max, map, insert, nat_le, nat_lt, Some, slice_get, slice_index}
use Rattle.std.proofs.lemmas.Grind.{common_steps}
use Rattle.std.proofs.lemmas.Bool.{lt-ltb}
use Rattle.std.proofs.lemmas.List.{take-append-drop, length-map, map-append}
use Rattle.std.proofs.lemmas.List.Edits.{insert_end}
use Rattle.std.proofs.lemmas.List.Folds.{list_any-append, Any-from_list_any}
use Rattle.std.proofs.lemmas.Option.{slice_get_read}
use Rattle.std.specs.List.{list_any}
use Rattle.model_history.specs.declared.limits.TheConstants.{MAX_SESSIONS}
use Rattle.live_replica.specs.declared.delivery.Delivery.{Delivery}
use Rattle.live_replica.specs.declared.update.UpdateOf.{UpdateOf}
use Rattle.live_replica.specs.Causality.{AreFirst, IsCausal, StandsBefore}
use Rattle.live_replica.specs.Orders.{IsLatest, IsNew, Key, Place}
use Rattle.live_replica.specs.Updates.{is_named, key, many}
use Rattle.live_replica.specs.Steps.Logs.{IsKept}
use Rattle.live_replica.proofs.Placing.{any-at, each-insert, map-insert, map-stood, push-stood, stands-append}
use Rattle.live_replica.proofs.Tallies.{many-insert}

named-step : (s n session number m : ℕ) (named : Bool) → named ≡ nat_lt n m → (session ≡ s → number ≡ m)
    → (((s == session) && (n == number)) || named) ≡ nat_lt n (m + (if session == s then 1 else 0))
named-step s n session number m named e next = grind (arith, common_steps)

-- delivery is not both
pub not_eager : (d : Delivery) → d ≡ Delivery.Eager → d ≡ Delivery.Causal → ⊥
not_eager d eager causal = absurd (cc)

-- no number is below 0
never-below : (n : ℕ) → false ≡ nat_lt n 0
never-below n = grind (arith, common_steps)

not-below : (n : ℕ) → nat_lt n n ≡ false
not-below n = grind (arith, common_steps)

module _ {C : Type 0} where
  -- what a session has among updates, with one more update
  pub named-insert : (us : List (UpdateOf C)) (at : ℕ) (u : UpdateOf C) (s n : ℕ)
      → is_named (insert us at u) s n ≡ (((s == u.session) && (n == u.number)) || is_named us s n)
  named-insert us at u s n =
      let p : UpdateOf C → Bool = λ (v : UpdateOf C). (s == v.session) && (n == v.number) in
      let whole : list_any p (take at us ++ drop at us) ≡ list_any p us = ap (list_any p) (take-append-drop at us) in
      let parts = list_any-append p (take at us) (drop at us) in
      let more = list_any-append p (take at us) (u ∷ drop at us) in
      let swap = swapped (list_any p (take at us)) (p u) (list_any p (drop at us)) in
      more ∙ (swap ∙ ap (λ (b : Bool). p u || b) (sym parts ∙ whole))
    where
      swapped : (a b c : Bool) → (a || (b || c)) ≡ (b || (a || c))
      swapped true true c = refl
      swapped true false c = refl
      swapped false true c = refl
      swapped false false c = refl

  -- the next update of its session
  pub first-insert : (us : List (UpdateOf C)) (at : ℕ) (u : UpdateOf C) → AreFirst us → u.number ≡ many us u.session → AreFirst (insert us at u)
  first-insert us at u first next s n =
      named-insert us at u s n
      ∙ (named-step s n u.session u.number (many us s) (is_named us s n) (first s n) (λ (same : u.session ≡ s). next ∙ ap (many us) same)
      ∙ ap (nat_lt n) (sym (many-insert us at s u)))

  -- an update that is among them
  pub named-stands : (us : List (UpdateOf C)) (i s n : ℕ) → length us ≤ i → is_named us s n ≡ true → StandsBefore us i s n
  named-stands us i s n past named =
      let found = Any-from_list_any (λ (v : UpdateOf C). (s == v.session) && (n == v.number)) us named in
      let test : ((s == found.1.session) && (n == found.1.number)) ≡ true = found.4 in
      let below = found.2 in
      (found.0, found.1, omega arith, slice_get_read us (length us) found.0 found.1 refl found.2 (sym found.3), grind (arith, common_steps), grind (arith, common_steps))

  stands-push : (us : List (UpdateOf C)) (u : UpdateOf C) (i s n : ℕ) → StandsBefore us i s n → StandsBefore (us ++ u ∷ []) i s n
  stands-push us u i s n b = (b.0, b.1, b.2, stands-append us (u ∷ []) b.0 b.1 b.3, b.4, b.5)

  -- one more update behind them, which counts no more of other sessions than there are
  pub causal-push : (session : ℕ) (us : List (UpdateOf C)) (u : UpdateOf C) → IsCausal session us → AreFirst us → u.number ≡ many us u.session
      → ((s : ℕ) → s < MAX_SESSIONS → s ≢ u.session → s ≢ session → slice_index u.seen s ≤ many us s)
      → IsCausal session (us ++ u ∷ [])
  causal-push session us u causal first next seen = record {
    earlier = λ i n v at less. ⊎_elim
        (λ (before : (i < length us) × (slice_get us i ≡ Some v)). stands-push us u i v.session n (causal.earlier i n v before.1 less))
        (λ (here : (i ≡ length us) × (u ≡ v)). stands-push us u i v.session n (last i v.session n (omega (arith, here.0)) (below_of v n here.1 less)))
        (push-stood us u i v at);
    counted = λ i s n v at inside other foreign less. ⊎_elim
        (λ (before : (i < length us) × (slice_get us i ≡ Some v)). stands-push us u i s n (causal.counted i s n v before.1 inside other foreign less))
        (λ (here : (i ≡ length us) × (u ≡ v)). stands-push us u i s n (last i s n (omega (arith, here.0)) (counted_of v s n here.1 inside other foreign less)))
        (push-stood us u i v at);
  }
    where
      last : (i s n : ℕ) → length us ≤ i → n < many us s → StandsBefore us i s n
      last i s n past less = named-stands us i s n past (first s n ∙ lt-ltb n (many us s) less)

      below_of : (v : UpdateOf C) (n : ℕ) → u ≡ v → n < v.number → n < many us v.session
      below_of v n same less = subst (λ (w : UpdateOf C). n < w.number → n < many us w.session) same (λ (l : n < u.number). omega (arith, next, l)) less

      counted_of : (v : UpdateOf C) (s n : ℕ) → u ≡ v → s < MAX_SESSIONS → s ≢ v.session → s ≢ session → n < slice_index v.seen s → n < many us s
      counted_of v s n same inside = subst (λ (w : UpdateOf C). s ≢ w.session → s ≢ session → n < slice_index w.seen s → n < many us s) same
          (λ (other : s ≢ u.session) (foreign : s ≢ session) (less : n < slice_index u.seen s). let covered = seen s inside other foreign in omega arith)

  -- an update whose session and number are not among them
  pub new-key : (us : List (UpdateOf C)) (u : UpdateOf C) → is_named us u.session u.number ≡ false → IsNew (map key us) (key u)
  new-key us u absent i a at session number =
      let stood = map-stood key us i a at in
      let same_session : u.session ≡ stood.0.session = sym session ∙ sym (ap (λ (k : Key). k.1) stood.2) in
      let same_number : u.number ≡ stood.0.number = sym number ∙ sym (ap (λ (k : Key). k.2) stood.2) in
      let named = any-at (λ (v : UpdateOf C). (u.session == v.session) && (u.number == v.number)) us i stood.0 stood.1 (grind (arith, common_steps)) in
      absurd cc

  -- the next update of its session is not among them
  pub absent-next : (us : List (UpdateOf C)) (u : UpdateOf C) → AreFirst us → u.number ≡ many us u.session → is_named us u.session u.number ≡ false
  absent-next us u first next = first u.session u.number ∙ (ap (λ (n : ℕ). nat_lt n (many us u.session)) next ∙ not-below (many us u.session))

  -- nor is one that changes something
  pub absent-unknown : (session sessions : ℕ) (us held : List (UpdateOf C)) (u : UpdateOf C)
      → ((u.session == session) || (nat_le sessions u.session || (is_named us u.session u.number || is_named held u.session u.number))) ≡ false
      → is_named us u.session u.number ≡ false
  absent-unknown session sessions us held u unknown =
      third (u.session == session) (nat_le sessions u.session) (is_named us u.session u.number) (is_named held u.session u.number) unknown
    where
      third : (a b c d : Bool) → (a || (b || (c || d))) ≡ false → c ≡ false
      third true b c d e = absurd cc
      third false true c d e = absurd cc
      third false false true d e = absurd cc
      third false false false d e = refl

  -- an update behind the clock
  pub latest-key : (us : List (UpdateOf C)) (u : UpdateOf C) (clock : ℕ) → ((i : ℕ) (v : UpdateOf C) → slice_get us i ≡ Some v → v.stamp ≤ clock)
      → u.stamp ≡ clock + 1 → IsLatest (map key us) (key u)
  latest-key us u clock stamped e i a at =
      let stood = map-stood key us i a at in
      let up_to = stamped i stood.0 stood.1 in
      let same : stood.0.stamp ≡ a.0 = ap (λ (k : Key). k.0) stood.2 in
      omega arith

  module _ (place : Place) (in_order : List Key → Type 0) (session : ℕ) (delivery : Delivery) where
    pub kept-none : in_order [] → IsKept {C = C} place in_order session delivery 0 []
    kept-none none = record {
      stamped = λ i u at. absurd cc;
      ordered = none;
      first = λ causal s n. never-below n;
      causal = λ behind causal. record { earlier = λ i n u at. absurd cc; counted = λ i s n u at. absurd cc };
    }

    -- a query: the clock rises
    pub kept-clock : (clock clock' : ℕ) (us : List (UpdateOf C)) → clock ≤ clock' → IsKept place in_order session delivery clock us → IsKept place in_order session delivery clock' us
    kept-clock clock clock' us rises kept = record {
      stamped = λ i u at. let before = kept.stamped i u at in omega arith;
      ordered = kept.ordered;
      first = kept.first;
      causal = kept.causal;
    }

    -- an update of another session
    pub kept-taken : (clock : ℕ) (us : List (UpdateOf C)) (u : UpdateOf C)
        → ((ks : List Key) (k : Key) → place ks k ≤ length ks)
        → ((ks : List Key) (k : Key) → in_order ks → IsNew ks k → in_order (insert ks (place ks k) k))
        → IsKept place in_order session delivery clock us
        → is_named us u.session u.number ≡ false
        → (delivery ≡ Delivery.Causal → u.number ≡ many us u.session)
        → (delivery ≡ Delivery.Causal → (s : ℕ) → s < MAX_SESSIONS → s ≢ u.session → s ≢ session → slice_index u.seen s ≤ many us s)
        → IsKept place in_order session delivery (max clock u.stamp) (insert us (place (map key us) (key u)) u)
    kept-taken clock us u within taken kept absent next seen = record {
      stamped = each-insert (λ (v : UpdateOf C). v.stamp ≤ max clock u.stamp) us at u inside (λ i v is. let before = kept.stamped i v is in omega arith) (omega arith);
      ordered = subst in_order (sym (map-insert key us at u)) (taken (map key us) (key u) kept.ordered (new-key us u absent));
      first = λ causal. first-insert us at u (kept.first causal) (next causal);
      causal = λ behind causal.
          let e : at ≡ length us = behind (map key us) (key u) ∙ length-map us key in
          subst (λ (n : ℕ). IsCausal session (insert us n u)) (sym e)
          (subst (IsCausal session) (sym (insert_end us u)) (causal-push session us u (kept.causal behind causal) (kept.first causal) (next causal) (seen causal)));
    }
      where
        at : ℕ
        at = place (map key us) (key u)

        inside : at ≤ length us
        inside = let up_to = within (map key us) (key u) in let same = length-map us key in omega arith

    -- an own update
    pub kept-own : (clock : ℕ) (us : List (UpdateOf C)) (u : UpdateOf C)
        → ((ks : List Key) (k : Key) → in_order ks → IsLatest ks k → in_order (ks ++ k ∷ []))
        → IsKept place in_order session delivery clock us
        → u.session ≡ session → u.stamp ≡ clock + 1 → u.number ≡ many us session
        → ((s : ℕ) → s < MAX_SESSIONS → s ≢ session → slice_index u.seen s ≡ many us s)
        → IsKept place in_order session delivery (clock + 1) (us ++ u ∷ [])
    kept-own clock us u latest kept own stamp next seen = record {
      stamped = λ i v is. ⊎_elim
          (λ (before : (i < length us) × (slice_get us i ≡ Some v)). let up_to = kept.stamped i v before.1 in omega arith)
          (λ (here : (i ≡ length us) × (u ≡ v)). subst (λ (w : UpdateOf C). w.stamp ≤ clock + 1) here.1 (omega (arith, stamp)))
          (push-stood us u i v is);
      ordered = subst in_order (sym (map-append key us (u ∷ []))) (latest (map key us) (key u) kept.ordered (latest-key us u clock kept.stamped stamp));
      first = λ causal. subst AreFirst (insert_end us u) (first-insert us (length us) u (kept.first causal) same);
      causal = λ behind causal. causal-push session us u (kept.causal behind causal) (kept.first causal) same (λ s below other foreign. let e = seen s below foreign in omega arith);
    }
      where
        same : u.number ≡ many us u.session
        same = next ∙ ap (many us) (sym own)
