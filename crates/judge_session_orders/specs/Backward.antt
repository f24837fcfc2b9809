-- An order of the past of an operation that is made from its end: what is still left to place, and why a session cannot go on.
use Rattle.std.specs.Prelude.{◌≡◌, ◌≢◌, ◌⊎◌, ℕ, ◌-◌, ◌<◌, ◌+◌, IsTrue}
use Rattle.model_history.specs.declared.op_id.OpId.{OpId}
use Rattle.order_causal.specs.Orders.{op, program_past}
use Rattle.order_memory.specs.Memory.{MemoryHistory}
use Rattle.order_memory.specs.Relations.{ReadsFrom, AreRivalWrites, IsPast, HB}

-- left gives how many operations of each session are not placed yet: they are its first ones
module _ (left : ℕ → ℕ) where
  abbrev pub IsLeft : OpId → Type 0
  IsLeft a = a.index < left a.session

  -- something of the session t is left
  abbrev pub IsOpen : ℕ → Type 0
  IsOpen t = 0 < left t

  -- the operation of the session t that would be placed next, where the session is open
  abbrev pub last_left : ℕ → OpId
  last_left t = op t (left t - 1)

module _ (h : MemoryHistory) (left : ℕ → ℕ) where
  -- a read of w is left
  abbrev pub HasReadLeft : OpId → Type 0
  HasReadLeft w = (q : OpId) × IsLeft left q × ReadsFrom h w q

module _ (h : MemoryHistory) (o : OpId) where
  -- no operation happened before itself
  abbrev pub IsAcyclic : Type 0
  IsAcyclic = (a : OpId) → ¬ HB h o a a

module _ (h : MemoryHistory) (o : OpId) (left : ℕ → ℕ) where
  -- r is placed, and is o or before it in program order
  abbrev pub IsOwnPlaced : OpId → Type 0
  IsOwnPlaced r = IsTrue (program_past o r) × ¬ IsLeft left r

  -- w is left, and such an operation read from it: no other write of its variable may come between
  abbrev pub IsLocked : OpId → Type 0
  IsLocked w = IsLeft left w × ((r : OpId) × IsOwnPlaced r × ReadsFrom h w r)

  -- a writes a variable of which another write is locked
  abbrev pub IsLockedOut : OpId → Type 0
  IsLockedOut a = (w : OpId) × IsLocked w × AreRivalWrites h a w

  -- r read from a write that is locked out
  abbrev pub ReadsLockedOut : OpId → Type 0
  ReadsLockedOut r = (u : OpId) × ReadsFrom h u r × IsLockedOut u

  -- the session t cannot go on: a read of its last operation is left, or that operation is locked out, or it is of the session of o
  -- and read from a write that is locked out
  abbrev pub IsBlocked : ℕ → Type 0
  IsBlocked t =
      HasReadLeft h left (last_left left t) ⊎ (IsLockedOut (last_left left t) ⊎ ((t ≡ o.session) × ReadsLockedOut (last_left left t)))

  -- none but the session of o can go on
  abbrev pub AreOthersBlocked : Type 0
  AreOthersBlocked = (t : ℕ) → t ≢ o.session → IsOpen left t → IsBlocked t

  -- only the past of o is left; and unless something happened before itself, all that is left happened before each placed read of
  -- the session of o that has a source
  pub record IsBackward : Type 0 where
    pub within : (a : OpId) → IsLeft left a → IsPast h o a
    pub before : IsAcyclic h o → (a w r : OpId) → IsLeft left a → IsOwnPlaced r → ReadsFrom h w r → HB h o a r

-- the last operation of the session t that is left is placed
pub record IsPlacing (t : ℕ) (left after : ℕ → ℕ) : Type 0 where
  pub placed : left t ≡ after t + 1
  pub others : (u : ℕ) → u ≢ t → after u ≡ left u
