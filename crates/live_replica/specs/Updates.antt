-- What a replica knows from the updates that it has delivered. (Ahamad, Neiger, Burns, Kohli and Hutto, "Causal memory", 1995; the clock: Lamport, 1978.)
use Rattle.std.specs.Prelude.{ℕ, ◌+◌, ◌==◌, ◌&&◌, Bool, if◌then◌else◌, max, List, [], ◌∷◌, map, count_by}
use Rattle.std.specs.List.{list_any}
use Rattle.live_replica.specs.declared.update.UpdateOf.{UpdateOf}
use Rattle.live_replica.specs.Orders.{Key}

module _ {C : Type 0} where
  -- what orders an update: its stamp, its session, and its number among that session's updates
  abbrev pub key : UpdateOf C → Key
  key u = (u.stamp, u.session, u.number)

  -- one of them has this session and this number
  abbrev pub is_named : List (UpdateOf C) → ℕ → ℕ → Bool
  is_named us s n = list_any (λ (u : UpdateOf C). (s == u.session) && (n == u.number)) us

  -- the calls of updates
  abbrev pub calls : List (UpdateOf C) → List C
  calls us = map (λ (u : UpdateOf C). u.call) us

  -- the sessions that wrote them
  abbrev pub writers : List (UpdateOf C) → List ℕ
  writers us = map (λ (u : UpdateOf C). u.session) us

  -- how many of them a session wrote
  abbrev pub many : List (UpdateOf C) → ℕ → ℕ
  many us s = count_by (λ (u : UpdateOf C). u.session == s) us

  -- one where a session wrote an update, and else none
  abbrev pub one_of : UpdateOf C → ℕ → ℕ
  one_of u s = if u.session == s then 1 else 0

  -- one more than the place of an update's operation, in the session that wrote it
  abbrev pub end_of : UpdateOf C → ℕ → ℕ
  end_of u s = if u.session == s then u.index + 1 else 0

  -- one more than the greatest place of an operation of a session whose update is among them; 0 where there is none
  abbrev pub reach : List (UpdateOf C) → ℕ → ℕ
  reach [] s = 0
  reach (u ∷ us) s = max (end_of u s) (reach us s)
