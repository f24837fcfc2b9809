-- Which raise gives a pair of a happened-before relation, and what a raise rests on.
--
-- Private functions alone name these in their contracts: what a pattern is and what it shows does not rest on them.
use Rattle.std.specs.Prelude.{◌≡◌, ◌⊎◌, ℕ, ◌+◌, ◌-◌, ◌<◌, ◌≤◌, Bool, true, IsTrue, List, length, Option, None, Some, slice_get}
use Rattle.std.specs.BTreeMap.{BTreeMap, get}
use Rattle.std.specs.declared.cmp.Ordering.{Ordering}
use Rattle.std.specs.Ordering.{nat_cmp, on, then_cmp}
use Rattle.model_history.specs.declared.op_id.OpId.{OpId}
use Rattle.order_memory.specs.declared.growing_order.Cause.{Cause}
use Rattle.order_memory.specs.declared.growing_order.Cause.TheVariants.{Through, Read}
use Rattle.order_memory.specs.declared.growing_order.Raise.{Raise}
use Rattle.order_memory.specs.Memory.{MemoryHistory}
use Rattle.order_causal.specs.Orders.{op, program_past}
use Rattle.order_memory.specs.Relations.{AreRivalWrites, ReadsFrom}
use Rattle.order_memory.specs.SourceOrder.{SourceOrder}
use Rattle.order_memory.specs.Steps.Indexed.{IsSourcePast}
use Rattle.pattern_check.specs.Derivations.{Pair}

-- the last operation that a raise counts
abbrev pub last_of : Raise → OpId
last_of e = op e.session (e.count - 1)

-- a raise puts the first operation of a pair, or a later one of its session, before the second
abbrev pub Raises : Raise → Pair → Type 0
Raises e p = (e.op ≡ p.1) × (e.session ≡ p.0.session) × (p.0.index < e.count)

-- the raise with a number does
abbrev pub IsRaisedBy : List Raise → Pair → ℕ → Type 0
IsRaisedBy raises p n = (e : Raise) × (slice_get raises n ≡ Some e) × Raises e p

-- it is the first that does
pub record IsFirstRaise (raises : List Raise) (p : Pair) (n : ℕ) : Type 0 where
  pub raised : IsRaisedBy raises p n
  pub first : (i : ℕ) → IsRaisedBy raises p i → n ≤ i

-- the raise with a number is of the operation b
abbrev pub IsRaiseOf : List Raise → OpId → ℕ → Type 0
IsRaiseOf raises b n = (e : Raise) × (slice_get raises n ≡ Some e) × (e.op ≡ b)

-- one more than a number, or 0
abbrev pub end_of : Option ℕ → ℕ
end_of None = 0
end_of (Some n) = n + 1

-- the last of the first n raises that is of the operation b, or none
pub record IsLastOf (raises : List Raise) (n : ℕ) (b : OpId) (place : Option ℕ) : Type 0 where
  pub inside : end_of place ≤ n
  pub is_of : (i : ℕ) → place ≡ Some i → IsRaiseOf raises b i
  pub none_behind : (i : ℕ) → end_of place ≤ i → i < n → ¬ IsRaiseOf raises b i

-- the order of operations, by session and index
abbrev pub by_place : OpId → OpId → Ordering
by_place = then_cmp (on (λ (a : OpId). a.session) nat_cmp) (on (λ (a : OpId). a.index) nat_cmp)

-- of the first n raises: the last of each operation, and for each raise the one of the same operation before it
pub record AreLinked (raises : List Raise) (n : ℕ) (latest : BTreeMap OpId ℕ) (earlier : List (Option ℕ)) : Type 0 where
  pub count : length earlier ≡ n
  pub last : (b : OpId) → IsLastOf raises n b (get by_place latest b)
  pub each : (i : ℕ) (e : Raise) (place : Option ℕ) → slice_get raises i ≡ Some e → slice_get earlier i ≡ Some place → IsLastOf raises i e.op place

-- the first of the raises from the place n on that gives a pair, or none
pub record IsFirstFrom (raises : List Raise) (p : Pair) (n : ℕ) (found : Option ℕ) : Type 0 where
  pub raised : (i : ℕ) → found ≡ Some i → IsRaisedBy raises p i
  pub first : (i k : ℕ) → found ≡ Some k → n ≤ i → IsRaisedBy raises p i → k ≤ i
  pub none : found ≡ None → (i : ℕ) → n ≤ i → ¬ IsRaisedBy raises p i

-- each pair that a raise with a cause rests on, of which a is the last operation that it counts and b its operation
abbrev pub RestsOn : (Pair → Type 0) → OpId → OpId → Cause → Type 0
RestsOn P a b (Through m) = P (a, m) × P (m, b)
RestsOn P a b (Read r) = P (a, r)

-- each pair that a raise rests on
abbrev pub ArePremises : (Pair → Type 0) → Raise → Type 0
ArePremises P e = RestsOn P (last_of e) e.op e.cause

-- marks are added, each of them below n
pub record MarksBelow (n : ℕ) (before after : List Bool) : Type 0 where
  pub size : length after ≡ length before
  pub kept : (i : ℕ) → slice_get before i ≡ Some true → slice_get after i ≡ Some true
  pub marked : (i : ℕ) → slice_get after i ≡ Some true → (slice_get before i ≡ Some true) ⊎ (i < n)

module _ (h : MemoryHistory) where
  -- the causal order has a pair, or one of the first n raises gives it
  abbrev pub IsBefore : List Raise → ℕ → Pair → Type 0
  IsBefore raises n p = SourceOrder h p.0 p.1 ⊎ ((i : ℕ) × (i < n) × IsRaisedBy raises p i)

  -- the causal order has a pair, or the first raise that gives it is marked
  abbrev pub IsMarked : List Raise → List Bool → Pair → Type 0
  IsMarked raises needed p = SourceOrder h p.0 p.1 ⊎ ((i : ℕ) × IsFirstRaise raises p i × (slice_get needed i ≡ Some true))

  -- what the marked raises from the place n on rest on is marked
  abbrev pub AreClosedFrom : List Raise → List Bool → ℕ → Type 0
  AreClosedFrom raises needed n = (i : ℕ) (e : Raise) → n ≤ i → slice_get needed i ≡ Some true → slice_get raises i ≡ Some e
      → ArePremises (IsMarked raises needed) e

  module _ (o : OpId) where
    -- a pair that a raise may rest on that comes behind n others
    pub record IsPremise (raises : List Raise) (n : ℕ) (p : Pair) : Type 0 where
      pub before : IsBefore raises n p
      pub past : IsSourcePast h o p.1

    -- a read that a cause names is o or before o in program order, and reads from b, another write of the variable that a writes
    abbrev pub IsRule : OpId → OpId → Cause → Type 0
    IsRule a b (Through m) = Unit {0}
    IsRule a b (Read r) = IsTrue (program_past o r) × ReadsFrom h b r × AreRivalWrites h a b

    -- a raise that comes behind n others counts operations of the past of o, and rests on what is before it
    pub record IsGrounded (raises : List Raise) (n : ℕ) (e : Raise) : Type 0 where
      pub some : 0 < e.count
      pub past : IsSourcePast h o (last_of e)
      pub rule : IsRule (last_of e) e.op e.cause
      pub premises : ArePremises (IsPremise raises n) e

    -- each raise does
    pub record AreGrounded (raises : List Raise) : Type 0 where
      pub each : (n : ℕ) (e : Raise) → slice_get raises n ≡ Some e → IsGrounded raises n e
