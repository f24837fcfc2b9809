-- Updates in an order that respects causality. (Ahamad, Neiger, Burns, Kohli and Hutto, "Causal memory", 1995.)
use Rattle.std.specs.Prelude.{◌≡◌, ◌≢◌, ◌<◌, ℕ, List, Some, nat_lt, slice_get, slice_index}
use Rattle.model_history.specs.declared.limits.TheConstants.{MAX_SESSIONS}
use Rattle.live_replica.specs.declared.update.UpdateOf.{UpdateOf}
use Rattle.live_replica.specs.Updates.{is_named, many}

module _ {C : Type 0} where
  -- the update of this number of a session stands before a place
  abbrev pub StandsBefore : List (UpdateOf C) → ℕ → ℕ → ℕ → Type 0
  StandsBefore us i s n = (j : ℕ) × (v : UpdateOf C) × (j < i) × (slice_get us j ≡ Some v) × (v.session ≡ s) × (v.number ≡ n)

  -- at the replica of a session, each update stands behind the earlier ones of its own session, and behind all that it counts
  -- of sessions other than its own and the replica's
  pub record IsCausal (session : ℕ) (us : List (UpdateOf C)) : Type 0 where
    pub earlier : (i n : ℕ) (u : UpdateOf C) → slice_get us i ≡ Some u → n < u.number → StandsBefore us i u.session n
    pub counted : (i s n : ℕ) (u : UpdateOf C) → slice_get us i ≡ Some u → s < MAX_SESSIONS → s ≢ u.session → s ≢ session
        → n < slice_index u.seen s → StandsBefore us i s n

  -- of each session they are the first updates
  abbrev pub AreFirst : List (UpdateOf C) → Type 0
  AreFirst us = (s n : ℕ) → is_named us s n ≡ nat_lt n (many us s)
