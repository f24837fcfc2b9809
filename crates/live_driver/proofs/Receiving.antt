-- A replica has had as many operations after it took updates in as before.
use Rattle.std.proofs.Common.{◌≡◌, Bool, true, false, List, [], ◌∷◌, refl, ap}
use Rattle.live_replica.specs.declared.delivery.Delivery.{Delivery}
use Rattle.live_replica.specs.declared.delivery.Delivery.TheVariants.{Causal, Eager}
use Rattle.live_replica.specs.declared.update.UpdateOf.{UpdateOf}
use Rattle.live_replica.specs.Orders.{Place}
use Rattle.live_replica.specs.Replicas.{ReplicaState, TakesIn, Settles, hold, ignores, release, take_in}

module _ {S C : Type 0} (place : Place) where
  taken_keeps : (us : List (UpdateOf C)) (r r' : ReplicaState S C) → TakesIn place r us r' → r'.operations ≡ r.operations
  taken_keeps [] r r' t = ap (λ (x : ReplicaState S C). x.operations) t.1
  taken_keeps (u ∷ us) r r' t = taken_keeps us (release place r t.0 u) r' t.2

  kept_by : (b : Bool) (d : Delivery) (r r' : ReplicaState S C) (u : UpdateOf C) → (b ≡ true → r' ≡ r) → (b ≡ false → d ≡ Eager → r' ≡ take_in place r u) → (b ≡ false → d ≡ Causal → Settles place (hold r u) r') → r'.operations ≡ r.operations
  kept_by true d r r' u same eager causal = ap (λ (x : ReplicaState S C). x.operations) (same refl)
  kept_by false Eager r r' u same eager causal = ap (λ (x : ReplicaState S C). x.operations) (eager refl refl)
  kept_by false Causal r r' u same eager causal = let s = causal refl refl in taken_keeps s.0 (hold r u) r' s.1

  pub receiving_keeps : (r r' : ReplicaState S C) (u : UpdateOf C) → (ignores r u ≡ true → r' ≡ r) → (ignores r u ≡ false → r.delivery ≡ Eager → r' ≡ take_in place r u) → (ignores r u ≡ false → r.delivery ≡ Causal → Settles place (hold r u) r') → r'.operations ≡ r.operations
  receiving_keeps r r' u same eager causal = kept_by (ignores r u) r.delivery r r' u same eager causal
