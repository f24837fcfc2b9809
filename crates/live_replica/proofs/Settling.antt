-- How held updates are delivered, one after the other.
use Rattle.std.proofs.Common.{◌≡◌, ℕ, ◌+◌, ◌<◌, ◌≤◌, List, [], ◌∷◌, length, refl, sym, ap, subst, ◌∙◌, arith, get_or, below_more}
use Rattle.std.specs.Prelude.{Some, slice_get}
use Rattle.std.proofs.lemmas.List.Edits.{length-remove}
use Rattle.std.proofs.lemmas.Option.{slice_get_read, slice_get_within}
use Rattle.live_replica.specs.declared.update.UpdateOf.{UpdateOf}
use Rattle.live_replica.specs.Orders.{Place}
use Rattle.live_replica.specs.Replicas.{ReplicaState, IsReady, IsFirstReady, IsSettled, TakesIn, Settles, release}
use Rattle.live_replica.specs.Steps.Logs.{NoneReady}

module _ {S C : Type 0} where
  -- where nothing is ready, nothing is delivered
  pub settles_here : (place : Place) (r : ReplicaState S C) → IsSettled r → Settles place r r
  settles_here place r settled = ([], (settled, refl))

  -- the first that is ready is delivered first
  pub settles-more : (place : Place) (r r' r'' : ReplicaState S C) (i : ℕ) (u : UpdateOf C) → IsFirstReady r i u → r' ≡ release place r i u → Settles place r' r'' → Settles place r r''
  settles-more place r r' r'' i u first e s = (u ∷ s.0, (i, first, subst (λ (x : ReplicaState S C). TakesIn place x s.0 r'') e s.1))

  -- one fewer is held then
  pub fewer-held : (place : Place) (r r' : ReplicaState S C) (i : ℕ) (u : UpdateOf C) → IsFirstReady r i u → r' ≡ release place r i u → length r'.held < length r.held
  fewer-held place r r' i u first e =
      let inside = slice_get_within r.held i u first.held in
      let less = length-remove r.held i inside in
      subst (λ (x : ReplicaState S C). length x.held < length r.held) (sym e) (omega arith)

  module _ (r : ReplicaState S C) (us : List (UpdateOf C)) (is : us ≡ r.held) where
    -- the place and the update that were found
    pub found_ready : (i : ℕ) (u : UpdateOf C) → i < length us → u ≡ get_or us i u → IsReady r u → NoneReady r us i → IsFirstReady r i u
    found_ready i u below read ready none = record {
      held = ap (λ (l : List (UpdateOf C)). slice_get l i) (sym is) ∙ slice_get_read us (length us) i u refl below read;
      ready = ready;
      first = λ j v before at. none j v before (ap (λ (l : List (UpdateOf C)). slice_get l j) is ∙ at);
    }

    -- nothing was found
    pub none_ready : (n : ℕ) → length us ≤ n → NoneReady r us n → IsSettled r
    none_ready n all none j v at =
        let here : slice_get us j ≡ Some v = ap (λ (l : List (UpdateOf C)). slice_get l j) is ∙ at in
        let inside = slice_get_within us j v here in
        none j v (omega arith) here

  -- one more that is not ready
  pub none_more : (r : ReplicaState S C) (us : List (UpdateOf C)) (i : ℕ) (u : UpdateOf C) → i < length us → u ≡ get_or us i u → ¬ IsReady r u → NoneReady r us i → NoneReady r us (i + 1)
  none_more r us i u below read not none j v before at =
      let P : ℕ → Type 0 = λ k. (w : UpdateOf C) → slice_get us k ≡ Some w → ¬ IsReady r w in
      let here = slice_get_read us (length us) i u refl below read in
      below_more P i (λ k less w there. none k w less there) (λ w there ready. not (subst (λ (x : UpdateOf C). IsReady r x) (same_update w there here) ready)) j before v at
    where
      same_update : (w : UpdateOf C) → slice_get us i ≡ Some w → slice_get us i ≡ Some u → w ≡ u
      same_update w p q = cc
