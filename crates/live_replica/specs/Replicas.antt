-- The replica of a session: what it has delivered and what it holds back, and what its operations and updates do.
-- (Ahamad, Neiger, Burns, Kohli and Hutto, "Causal memory", 1995; the clock: Lamport, "Time, clocks and the ordering of events in a distributed system", 1978.)
use Rattle.std.specs.Prelude.{◌≡◌, ◌≢◌, ℕ, ◌+◌, ◌^◌, ◌<◌, ◌≤◌, ◌==◌, ◌||◌, nat_le, if◌then◌else◌, max, Bool, List, [], ◌∷◌, ◌++◌, map, insert, remove, Option, Some, None, slice_get, slice_index}
use Rattle.model_history.specs.declared.limits.TheConstants.{MAX_OPERATIONS, MAX_SESSIONS}
use Rattle.model_history.specs.declared.advice.Advice.{Advice}
use Rattle.live_replica.specs.declared.delivery.Delivery.{Delivery}
use Rattle.live_replica.specs.declared.replica_error.ReplicaError.{ReplicaError}
use Rattle.live_replica.specs.declared.replica_error.ReplicaError.TheVariants.{Memory, LaneFull, ClockFull}
use Rattle.live_replica.specs.declared.update.UpdateOf.{UpdateOf}
use Rattle.live_replica.specs.Orders.{Place}
use Rattle.live_replica.specs.Updates.{is_named, key, many, reach, writers}

-- a replica: its session, how many sessions there are, when it takes updates in, the start of its object, how many operations
-- its session has had, its clock, the updates that it has delivered and its own ones, in the order that answers follow, and the
-- updates that it holds back, in the order in which they were received
pub record ReplicaState (S C : Type 0) : Type 0 where
  pub session : ℕ
  pub sessions : ℕ
  pub delivery : Delivery
  pub start : S
  pub operations : ℕ
  pub clock : ℕ
  pub taken : List (UpdateOf C)
  pub held : List (UpdateOf C)

module _ {S C : Type 0} where
  -- a replica that has done nothing
  abbrev pub fresh_replica : ℕ → ℕ → Delivery → S → ReplicaState S C
  fresh_replica s k delivery start = record { session = s; sessions = k; delivery = delivery; start = start; operations = 0; clock = 0; taken = []; held = [] }

  -- an update of the replica's own session, of a session that there is not, or one that was delivered or is held already
  abbrev pub ignores : ReplicaState S C → UpdateOf C → Bool
  ignores r u = (u.session == r.session) || (nat_le r.sessions u.session || (is_named r.taken u.session u.number || is_named r.held u.session u.number))

  -- it is the next of its session, which is one of the sessions, and all that its writer had delivered of sessions other than its own and the replica's was delivered
  pub record IsReady (r : ReplicaState S C) (u : UpdateOf C) : Type 0 where
    pub among : u.session < r.sessions
    pub next : u.number ≡ many r.taken u.session
    pub seen : (s : ℕ) → s < MAX_SESSIONS → s ≢ u.session → s ≢ r.session → slice_index u.seen s ≤ many r.taken s

  -- the first held update that is ready
  pub record IsFirstReady (r : ReplicaState S C) (i : ℕ) (u : UpdateOf C) : Type 0 where
    pub held : slice_get r.held i ≡ Some u
    pub ready : IsReady r u
    pub first : (j : ℕ) (v : UpdateOf C) → j < i → slice_get r.held j ≡ Some v → ¬ IsReady r v

  -- no held update is ready
  abbrev pub IsSettled : ReplicaState S C → Type 0
  IsSettled r = (j : ℕ) (v : UpdateOf C) → slice_get r.held j ≡ Some v → ¬ IsReady r v

  -- the replica holds the update back, behind the others
  abbrev pub hold : ReplicaState S C → UpdateOf C → ReplicaState S C
  hold r u = record r { held = r.held ++ u ∷ [] }

  -- the replica takes the update in, at its place; the clock does not fall behind its stamp
  abbrev pub take_in : Place → ReplicaState S C → UpdateOf C → ReplicaState S C
  take_in place r u = record r { taken = insert r.taken (place (map key r.taken) (key u)) u; clock = max r.clock u.stamp }

  -- the replica takes in a held update
  abbrev pub release : Place → ReplicaState S C → ℕ → UpdateOf C → ReplicaState S C
  release place r i u = take_in place (record r { held = remove r.held i }) u

  -- the replica takes in these held updates, one after the other, each the first that is ready, until none is
  abbrev pub TakesIn : Place → ReplicaState S C → List (UpdateOf C) → ReplicaState S C → Type 0
  TakesIn place r [] r' = IsSettled r × (r' ≡ r)
  TakesIn place r (u ∷ us) r' = (i : ℕ) × IsFirstReady r i u × TakesIn place (release place r i u) us r'

  -- it does so with some updates
  abbrev pub Settles : Place → ReplicaState S C → ReplicaState S C → Type 0
  Settles place r r' = (us : List (UpdateOf C)) × TakesIn place r us r'

  -- the update of the replica's next operation
  pub record IsOwnUpdate (r : ReplicaState S C) (call : C) (u : UpdateOf C) : Type 0 where
    pub session : u.session ≡ r.session
    pub index : u.index ≡ r.operations
    pub number : u.number ≡ many r.taken r.session
    pub stamp : u.stamp ≡ r.clock + 1
    pub called : u.call ≡ call
    pub own : slice_index u.seen r.session ≡ 0
    pub seen : (s : ℕ) → s < MAX_SESSIONS → s ≢ r.session → slice_index u.seen s ≡ many r.taken s

  -- what is told of the replica's next operation: for each session how far what was delivered reaches, its own operation
  -- included, the clock, and, where the store tells it, the sessions of the updates in their order with the own operation last
  pub record IsAdvice (told : Bool) (r : ReplicaState S C) (a : Advice) : Type 0 where
    pub own : slice_index a.counts r.session ≡ r.operations + 1
    pub counts : (s : ℕ) → s < MAX_SESSIONS → s ≢ r.session → slice_index a.counts s ≡ reach r.taken s
    pub stamp : a.stamp ≡ r.clock + 1
    pub order : a.order ≡ (if told then writers r.taken ++ r.session ∷ [] else [])

  -- the replica after its next operation, which has this update or none
  abbrev pub after_operation : ReplicaState S C → Option (UpdateOf C) → ReplicaState S C
  after_operation r None = record r { operations = r.operations + 1; clock = r.clock + 1 }
  after_operation r (Some u) = record r { operations = r.operations + 1; clock = r.clock + 1; taken = r.taken ++ u ∷ [] }

  -- there are 256 operations at most, and the clock rises at each of them
  abbrev pub CanAct : ReplicaState S C → Type 0
  CanAct r = (r.operations < MAX_OPERATIONS) × (r.clock + 1 < 2 ^ 64)

  -- why an operation is refused; of two causes the first in the order LaneFull, ClockFull, Memory
  abbrev pub RefusesOperation : ReplicaState S C → ReplicaError → Type 0
  RefusesOperation r LaneFull = MAX_OPERATIONS ≤ r.operations
  RefusesOperation r ClockFull = (r.operations < MAX_OPERATIONS) × (2 ^ 64 ≤ r.clock + 1)
  RefusesOperation r Memory = CanAct r
