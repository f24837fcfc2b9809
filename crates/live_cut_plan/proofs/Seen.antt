-- What a list of looks saw, with one more look.
use Rattle.std.proofs.Common.{◌≡◌, ◌≢◌, ℕ, ◌==◌, List, [], ◌∷◌, ◌++◌, refl, ap, eq-eqb}
use Rattle.std.specs.Prelude.{Bool, true, false, ◌&&◌, Option, Some, None, if◌then◌else◌}
use Rattle.std.proofs.lemmas.Bool.{ne_eqb}
use Rattle.model_history.specs.declared.op_id.OpId.{OpId}
use Rattle.live_cut_plan.specs.declared.cell.Cell.{Cell}
use Rattle.live_cut_plan.specs.Plans.{Look, seen_at, same_op, same_cell}

abbrev pick : Bool → Option Bool → Option Bool → Option Bool
pick t x y = if t then x else y

pick_other : (t : Bool) (x y : Option Bool) → t ≡ false → pick t x y ≡ y
pick_other true x y e = absurd (cc)
pick_other false x y e = refl

pick_same : (t : Bool) (x y : Option Bool) → t ≡ true → pick t x y ≡ x
pick_same true x y e = refl
pick_same false x y e = absurd (cc)

-- a look at another cell changes nothing that was seen
pub seen_other : (ls : List Look) (c d : Cell) (b : Bool) → same_cell c d ≡ false → seen_at (ls ++ (c, b) ∷ []) d ≡ seen_at ls d
seen_other [] c d b e = pick_other (same_cell c d) (Some b) None e
seen_other (l ∷ ls) c d b e = ap (λ (z : Option Bool). pick (same_cell l.0 d) (Some l.1) z) (seen_other ls c d b e)

new_step : (t x b : Bool) (y z : Option Bool) → pick t (Some x) y ≡ None → (y ≡ None → z ≡ Some b) → pick t (Some x) z ≡ Some b
new_step true x b y z e f = absurd (cc)
new_step false x b y z e f = f e

-- the first look at a cell tells what was seen there
pub seen_new : (ls : List Look) (c : Cell) (b : Bool) → same_cell c c ≡ true → seen_at ls c ≡ None → seen_at (ls ++ (c, b) ∷ []) c ≡ Some b
seen_new [] c b s e = pick_same (same_cell c c) (Some b) None s
seen_new (l ∷ ls) c b s e = new_step (same_cell l.0 c) l.1 b (seen_at ls c) (seen_at (ls ++ (c, b) ∷ []) c) e (seen_new ls c b s)

and_false : (a b : Bool) → b ≡ false → (a && b) ≡ false
and_false true b e = e
and_false false b e = refl

and_true : (a b : Bool) → a ≡ true → b ≡ true → (a && b) ≡ true
and_true true b e f = f
and_true false b e f = absurd (cc)

other_lane : (a b : Bool) → a ≡ false → (a && b) ≡ false
other_lane true b e = absurd (cc)
other_lane false b e = refl

pub same_op_itself : (o : OpId) → same_op o o ≡ true
same_op_itself o = and_true (o.session == o.session) (o.index == o.index) (eq-eqb o.session o.session refl) (eq-eqb o.index o.index refl)

pub other_index : (s i j : ℕ) → i ≢ j → same_op (record { session = s; index = i }) (record { session = s; index = j }) ≡ false
other_index s i j ne = and_false (s == s) (i == j) (ne_eqb i j ne)

pub other_session : (s t i j : ℕ) → s ≢ t → same_op (record { session = s; index = i }) (record { session = t; index = j }) ≡ false
other_session s t i j ne = other_lane (s == t) (i == j) (ne_eqb s t ne)
