-- What is forced where the history of a log by a whole choice is causally consistent: which calls come before which, and what null
-- reads can't have seen.
use Rattle.std.specs.Prelude.{◌≡◌, ◌≢◌, ◌⊎◌, ℕ, ◌<◌, Bool, List, Option, Some, None}
use Rattle.log_events.specs.declared.event.ClientCall.{ClientCall}
use Rattle.log_events.specs.declared.event.ClientCall.TheVariants.{WriteTo, ReadOf, DeleteOf}
use Rattle.log_events.specs.declared.event.Ending.TheVariants.{Got, Failed, Lost}
use Rattle.log_events.specs.declared.event.Event.{Event}
use Rattle.log_events.specs.declared.event.Event.TheVariants.{Begins}
use Rattle.log_events.specs.Events.{IsAt, IsEnded}
use Rattle.log_events.specs.Values.{BeginsKeptWrite}
use Rattle.log_choices.specs.Choices.{Choice, IsCandidate, IsNullRead}

module _ (es : List Event) where
  -- a client begins a call at the place a, which neither fails nor is lost, and after it a call at the place b
  pub record FollowsInSession (a b : ℕ) : Type 0 where
    pub client : ℕ
    pub call : ClientCall
    pub next : ClientCall
    pub first : IsAt es a (Begins client call)
    pub second : IsAt es b (Begins client next)
    pub earlier : a < b
    pub not_failed : (k : ℕ) → ¬ IsEnded es client call a k Failed
    pub not_lost : (k : ℕ) → ¬ IsEnded es client call a k Lost

  -- the read that begins at the place r got the value of the write that begins at the place p
  pub record ReturnsWrite (p r : ℕ) : Type 0 where
    pub client : ℕ
    pub reader : ℕ
    pub x : ℕ
    pub v : ℕ
    pub j : ℕ
    pub write : BeginsKeptWrite es client p x v
    pub read : IsEnded es reader (ReadOf x) r j (Got v)

  -- a write or a delete of x begins at the place p
  abbrev pub BeginsWriteOf : ℕ → ℕ → Type 0
  BeginsWriteOf x p = (client : ℕ) × (((v : ℕ) × IsAt es p (Begins client (WriteTo x v))) ⊎ IsAt es p (Begins client (DeleteOf x)))

module _ (in_time : Bool) (es : List Event) where
  mutual
    -- the call that begins at one place comes before the one that begins at the other: in one session, through a third call, as the
    -- write that a read got, or as the only candidate that a null read is left with
    pub data Comes : ℕ → ℕ → Type 0 where
      in_session : {a b : ℕ} → FollowsInSession es a b → Comes a b
      through : {a b c : ℕ} → Comes a b → Comes b c → Comes a c
      returned : {p r : ℕ} → ReturnsWrite es p r → Comes p r
      only_left : {p r : ℕ} (client x j : ℕ) → IsNullRead es client x r j
          → ((c : Option ℕ) → IsCandidate in_time es x j c → c ≢ Some p → IsOut r c) → Comes p r

    -- the null read that begins at the place r can't have seen this: a delete that comes after it, or that another write or delete of
    -- the key replaced before it; or the start, where a write or a delete of the key comes before it
    pub data IsOut : ℕ → Option ℕ → Type 0 where
      after_read : {r p : ℕ} (client x j : ℕ) → IsNullRead es client x r j → Comes r p → IsOut r (Some p)
      replaced : {r p : ℕ} (client x j b : ℕ) → IsNullRead es client x r j → BeginsWriteOf es x b → b ≢ p → Comes p b → Comes b r
          → IsOut r (Some p)
      start_replaced : {r : ℕ} (client x j b : ℕ) → IsNullRead es client x r j → BeginsWriteOf es x b → Comes b r → IsOut r None

  -- a null read is left with no candidate
  abbrev pub LacksCandidates : ℕ → Type 0
  LacksCandidates r = (client x j : ℕ) × IsNullRead es client x r j × ((c : Option ℕ) → IsCandidate in_time es x j c → IsOut r c)

  -- a choice of what null reads saw that are left with one candidate; others are left out
  abbrev pub IsForcedChoice : Choice → Type 0
  IsForcedChoice g = (client x r j : ℕ) (c : Option ℕ) → IsNullRead es client x r j → g r ≡ Some c
      → (d : Option ℕ) → IsCandidate in_time es x j d → d ≢ c → IsOut r d
