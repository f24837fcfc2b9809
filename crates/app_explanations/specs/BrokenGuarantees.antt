-- Which guarantee a stale read breaks: by the path that its pattern shows, from the write that the read missed to the read.
use Rattle.std.specs.Prelude.{◌≡◌, ◌⊎◌, ◌↔◌, ℕ, zero, suc, ◌+◌, ◌-◌, Bool, true, false, IsTrue, List, [], ◌∷◌, length, Option, Some, None, slice_get}
use Rattle.model_history.specs.declared.op_id.OpId.{OpId}
use Rattle.model_history.specs.History.{Precedes}
use Rattle.order_causal.specs.Orders.{StandsAt}
use Rattle.pattern_check.specs.declared.pattern.Pattern.{Pattern}
use Rattle.pattern_check.specs.declared.pattern.Pattern.TheVariants.{WriteCOInitRead, WriteCORead}
use Rattle.show_words.specs.declared.guarantees.Guarantee.{Guarantee}
use Rattle.show_words.specs.declared.guarantees.Guarantee.TheVariants.{ReadYourWrites, MonotonicReads, MonotonicWrites, WritesFollowReads, CausalOrder}
use Rattle.app_explanations.specs.declared.clients.Clients.{Clients}
use Rattle.app_explanations.specs.declared.clients.Clients.TheVariants.{Sessions, Named}

-- whether the step from a to b stays with one client, or b reads what another wrote. It stays with one within a session. Where sessions are
-- those of named clients, one begins with the end of a lost write, and the step to its first operation may stay with one too
abbrev pub StaysAs : Clients → OpId → OpId → Bool → Type 0
StaysAs Sessions a b stays = IsTrue stays ↔ Precedes a b
StaysAs Named a b stays = (Precedes a b → IsTrue stays) × (IsTrue stays → Precedes a b ⊎ (b.index ≡ 0))

-- which steps of a path stay with one client
pub record AreSteps (clients : Clients) (path : List OpId) (steps : List Bool) : Type 0 where
  pub many : length steps ≡ length path - 1
  pub each : (k : ℕ) (a b : OpId) (stays : Bool) → StandsAt path k a → StandsAt path (k + 1) b → slice_get steps k ≡ Some stays
      → StaysAs clients a b stays

-- how many links steps make: those that stay with one client, one after the other, are one link
abbrev pub links_after : Bool → List Bool → ℕ
links_after before [] = 0
links_after true (true ∷ steps) = links_after true steps
links_after true (false ∷ steps) = 1 + links_after false steps
links_after false (step ∷ steps) = 1 + links_after step steps

-- the guarantee by which what so many links lead to was due
abbrev pub guarantee_of : ℕ → Guarantee
guarantee_of zero = ReadYourWrites
guarantee_of (suc zero) = ReadYourWrites
guarantee_of (suc (suc zero)) = MonotonicReads
guarantee_of (suc (suc (suc zero))) = MonotonicWrites
guarantee_of (suc (suc (suc (suc zero)))) = WritesFollowReads
guarantee_of (suc (suc (suc (suc (suc n))))) = CausalOrder

-- a read breaks a guarantee that missed the write from which this path leads to it
abbrev pub IsBroken : Clients → List OpId → Guarantee → Type 0
IsBroken clients path guarantee = (steps : List Bool) × AreSteps clients path steps × (guarantee ≡ guarantee_of (links_after false steps))

-- the path of a pattern from the write that a read missed to the read, if the pattern shows a stale read
abbrev pub path_of_missed : Pattern → Option (List OpId)
path_of_missed (WriteCOInitRead path) = Some path
path_of_missed (WriteCORead first second) = Some second
path_of_missed _ = None

abbrev pub IsBrokenAlong : Clients → Option (List OpId) → Option Guarantee → Type 0
IsBrokenAlong clients None broken = broken ≡ None
IsBrokenAlong clients (Some path) None = ⊥
IsBrokenAlong clients (Some path) (Some guarantee) = IsBroken clients path guarantee

-- the guarantee that the stale read of a pattern breaks, or none where the pattern shows no stale read
abbrev pub IsBrokenBy : Clients → Pattern → Option Guarantee → Type 0
IsBrokenBy clients pattern broken = IsBrokenAlong clients (path_of_missed pattern) broken
