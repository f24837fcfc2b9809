-- A plan names no return cell behind a call cell.
use Rattle.std.proofs.Common.{◌≡◌, ℕ, zero, suc, ◌<◌, ◌-◌, List, [], ◌∷◌, inl, inr, refl, sym, ◌∙◌, ap, subst, arith}
use Rattle.std.specs.Prelude.{Bool, true, false, not, ◌&&◌, Option, Some, None, if◌then◌else◌, nat_lt, slice_get}
use Rattle.model_history.specs.declared.op_id.OpId.{OpId}
use Rattle.live_cut_plan.specs.declared.cell.Cell.{Cell}
use Rattle.live_cut_plan.specs.declared.cell.Cell.TheVariants.{Return, Call}
use Rattle.live_cut_plan.specs.Plans.{Look, Plan, return_cell, was_read, was_full, first_failing, last_failing, named_at, or_else, first_named, told_of, next_return, next_call, next_cell, looked_at, fresh_plan, after_looks, Follows}
use Rattle.live_cut_plan.specs.Walks.{Stands, StandsForLooks, Walks}
use Rattle.live_cut_plan.specs.Steps.PlanStates.{PlanState}
use Rattle.live_cut_plan.proofs.Seen.{seen_other}
use Rattle.live_seals.specs.LookOrder.{ReturnsComeFirst, GrewByReturnsFirst}
use Rattle.live_seals.proofs.FoundPlaces.{or_some, is_return, named_alike, next_is_return, next_is_call}

-- the next return cell of a lane, from what was seen of its return cells
abbrev return_by : ℕ → ℕ → ℕ → (ℕ → Option Bool) → Option Cell
return_by cap told s seen = or_else (named_at (return_cell s) (last_failing (λ i. was_read (seen i)) told))
    (if nat_lt (first_failing (λ i. was_full (seen i)) told (cap - told)) cap && not (was_read (seen (first_failing (λ i. was_full (seen i)) told (cap - told)))) then Some (return_cell s (first_failing (λ i. was_full (seen i)) told (cap - told))) else None)

-- no return cell is next, in any lane
abbrev NoReturn : Plan → Type 0
NoReturn p = first_named (next_return p) 0 p.lanes ≡ None

module _ (p : Plan) where
  -- where a call cell is next, no return cell is
  none_at_call : (o : OpId) → next_cell p ≡ Some (Call o) → NoReturn p
  none_at_call o e = elim (or_some (first_named (next_return p) 0 p.lanes) (first_named (next_call p) 0 p.lanes) (Call o) e) [
    | inl h ↦ let t : is_return (Call o) ≡ true = named_alike true (next_return p) (next_is_return p) p.lanes 0 (Call o) h in absurd (cc)
    | inr h ↦ h.0
  ]

  not_next : NoReturn p → (o : OpId) → next_cell p ≡ Some (Return o) → ⊥
  not_next none o e = elim (or_some (first_named (next_return p) 0 p.lanes) (first_named (next_call p) 0 p.lanes) (Return o) e) [
    | inl h ↦ let n : first_named (next_return p) 0 p.lanes ≡ None = none in absurd (cc)
    | inr h ↦ let t : is_return (Return o) ≡ false = named_alike false (next_call p) (next_is_call p) p.lanes 0 (Return o) h.1 in absurd (cc)
  ]

  -- a look at a call cell changes nothing of the return cells
  module _ (o : OpId) (full : Bool) where
    return_same : (s : ℕ) → next_return (looked_at p (Some (Call o)) full) s ≡ next_return p s
    return_same s = ap (return_by p.cap (told_of p s) s) (λ i n. seen_other p.looks (Call o) (return_cell s n) full refl i)

    none_stays : NoReturn p → NoReturn (looked_at p (Some (Call o)) full)
    none_stays none = ap (λ (f : ℕ → Option Cell). first_named f 0 p.lanes) (λ i s. return_same s i) ∙ none

cells_same : (l m : Look) → Some l ≡ Some m → l.0 ≡ m.0
cells_same l m e = let same : l ≡ m = cc in ap (λ (x : Look). x.0) same

-- behind a call cell there is no return cell
none_later : (ls : List Look) (p : Plan) → NoReturn p → Follows p ls → (j : ℕ) (o : OpId) (full : Bool) → slice_get ls j ≡ Some (Return o, full) → ⊥
none_later [] p none follows zero o full e = cc
none_later [] p none follows (suc j) o full e = cc
none_later ((Return b, x) ∷ ls) p none follows j o full e = not_next p none b follows.0
none_later ((Call b, x) ∷ ls) p none follows zero o full e = let same : Call b ≡ Return o = cells_same (Call b, x) (Return o, full) e in cc
none_later ((Call b, x) ∷ ls) p none follows (suc j) o full e = none_later ls (looked_at p (Some (Call b)) x) (none_stays p b x none) follows.1 j o full e

pub returns_first : (ls : List Look) (p : Plan) → Follows p ls → ReturnsComeFirst ls
returns_first [] p follows i zero a b x y d e = absurd (cc)
returns_first [] p follows i (suc j) a b x y d e = absurd (cc)
returns_first (l ∷ ls) p follows zero zero a b x y d e = let same : Return a ≡ Call b = sym (cells_same l (Return a, x) d) ∙ cells_same l (Call b, y) e in absurd (cc)
returns_first (l ∷ ls) p follows zero (suc j) a b x y d e = omega arith
returns_first (l ∷ ls) p follows (suc i) zero a b x y d e = absurd (by l follows e)
  where
    by : (l : Look) → Follows p (l ∷ ls) → Some l ≡ Some (Call b, y) → ⊥
    by (Return o, z) f g = let same : Return o ≡ Call b = cells_same (Return o, z) (Call b, y) g in cc
    by (Call o, z) f g = none_later ls (looked_at p (Some (Call o)) z) (none_stays p o z (none_at_call p o f.0)) f.1 i a x d
returns_first (l ∷ ls) p follows (suc i) (suc j) a b x y d e = let less : i < j = returns_first ls (looked_at p (Some l.0) l.1) follows.1 i j a b x y d e in omega arith

-- and so is a walk
pub walked_first : (p : Plan) (old new : PlanState) (looks looks' : List Look) → Stands old p → Walks old looks new looks' → GrewByReturnsFirst looks looks'
walked_first p old new looks looks' stands walk = (walk.0, walk.1, returns_first walk.0 p (walk.2 p stands).0)

pub fresh_first : (p : Plan) (old new : PlanState) (looks : List Look) → Stands old p → Walks old [] new looks → ReturnsComeFirst looks
fresh_first p old new looks stands walk = let first = walked_first p old new [] looks stands walk in subst (λ (ls : List Look). ReturnsComeFirst ls) (sym first.1) first.2

-- of every plan that is handed to a walk
pub walk_looks_first : (old new : PlanState) (looks looks' : List Look) → StandsForLooks old → Walks old looks new looks' → GrewByReturnsFirst looks looks'
walk_looks_first old new looks looks' stood walk = walked_first (after_looks (fresh_plan stood.lanes stood.cap stood.told) stood.looks) old new looks looks' stood.stands walk
