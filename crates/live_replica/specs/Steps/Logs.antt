-- What the parts of a replica say to one another.
use Rattle.std.specs.Prelude.{◌≡◌, ℕ, ◌<◌, ◌≤◌, All, AllPairs, Bool, List, length, map, take, Option, Some, slice_get, slice_index}
use Rattle.model_history.specs.declared.limits.TheConstants.{MAX_OPERATIONS, MAX_SESSIONS}
use Rattle.live_replica.specs.declared.checkpoint.Checkpoint.{Checkpoint}
use Rattle.live_replica.specs.declared.update.UpdateOf.{UpdateOf}
use Rattle.live_replica.specs.declared.delivery.Delivery.{Delivery}
use Rattle.live_replica.specs.Causality.{AreFirst, IsCausal}
use Rattle.live_replica.specs.Orders.{IsBehind, Key, Place}
use Rattle.live_replica.specs.Updates.{calls, key, many, reach}
use Rattle.live_replica.specs.Replaying.{SameUpdates}
use Rattle.live_replica.specs.Replicas.{ReplicaState, IsReady}

-- updates in order, and for how many more there is room
pub record TakenState (C : Type 0) : Type 0 where
  pub updates : List (UpdateOf C)
  pub room : ℕ

-- the counts are how many updates each session wrote, and the ends how far they reach
pub record IsTally {C : Type 0} (updates : List (UpdateOf C)) (counts ends : List ℕ) : Type 0 where
  pub counted : (s : ℕ) → s < MAX_SESSIONS → slice_index counts s ≡ many updates s
  pub ended : (s : ℕ) → s < MAX_SESSIONS → slice_index ends s ≡ reach updates s

-- a state represents these calls, with queries put between them
abbrev pub Serves : {S C Z : Type 0} → (C → Bool) → (Z → S → List C → Type 0) → Z → S → List C → Type 0
Serves {S} {C} {Z} query stands z start cs = (ds : List C) × SameUpdates query cs ds × stands z start ds

-- a state has applied so many of the updates, the first ones
pub record HasTaken {S C Z : Type 0} (query : C → Bool) (stands : Z → S → List C → Type 0) (object : Z) (start : S) (updates : List (UpdateOf C)) (n : ℕ) : Type 0 where
  pub within : n ≤ length updates
  pub serves : Serves query stands object start (calls (take n updates))

-- the object has applied so many of the updates, the first ones, or it has to go on from an earlier state; each checkpoint
-- has delivered as many as it says, none fewer than those before it and none more than the object
pub record IsFollowing {S C Z : Type 0} (query : C → Bool) (stands : Z → S → List C → Type 0) (object : Z) (start : S) (updates : List (UpdateOf C)) (applied : Option ℕ) (checkpoints : List (Checkpoint Z)) : Type 0 where
  pub taken : (n : ℕ) → applied ≡ Some n → HasTaken query stands object start updates n
  pub each : All (λ c. HasTaken query stands c.object start updates c.applied) checkpoints
  pub rising : AllPairs (λ c d. c.applied ≤ d.applied) checkpoints
  pub earlier : (n : ℕ) → applied ≡ Some n → All (λ c. c.applied ≤ n) checkpoints

-- the start of an object, the updates that its answers follow, and for how many more there is room
pub record LogState (S C : Type 0) : Type 0 where
  pub start : S
  pub updates : List (UpdateOf C)
  pub room : ℕ

-- what a replica keeps: it is one of at most 16 sessions, it has had at most 256 operations, and there is room to take in all that it holds
pub record IsReplica (session sessions operations room held : ℕ) : Type 0 where
  pub own : session < sessions
  pub few : sessions ≤ MAX_SESSIONS
  pub short : operations ≤ MAX_OPERATIONS
  pub spare : held ≤ room

-- what is kept of the updates that the replica of a session has delivered: the clock has come to their stamps, they are in the
-- order of the store, and with causal delivery each came behind all that it depends on
pub record IsKept {C : Type 0} (place : Place) (in_order : List Key → Type 0) (session : ℕ) (delivery : Delivery) (clock : ℕ) (taken : List (UpdateOf C)) : Type 0 where
  pub stamped : (i : ℕ) (u : UpdateOf C) → slice_get taken i ≡ Some u → u.stamp ≤ clock
  pub ordered : in_order (map key taken)
  pub first : delivery ≡ Delivery.Causal → AreFirst taken
  pub causal : IsBehind place → delivery ≡ Delivery.Causal → IsCausal session taken

-- none of the first so many updates is ready
abbrev pub NoneReady : {S C : Type 0} → ReplicaState S C → List (UpdateOf C) → ℕ → Type 0
NoneReady {S} {C} r us n = (j : ℕ) (v : UpdateOf C) → j < n → slice_get us j ≡ Some v → ¬ IsReady r v
