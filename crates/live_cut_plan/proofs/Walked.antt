-- A walk with one more look.
use Rattle.std.proofs.Common.{◌≡◌, List, [], ◌∷◌, ◌++◌, refl, sym, ◌∙◌, ap, subst, append_assoc}
use Rattle.std.specs.Prelude.{Bool, Option, Some}
use Rattle.live_cut_plan.specs.declared.cell.Cell.{Cell}
use Rattle.live_cut_plan.specs.Plans.{Look, Plan, next_cell, looked_at, after_looks, Follows}
use Rattle.live_cut_plan.specs.Walks.{Stands, Walks}
use Rattle.live_cut_plan.specs.Steps.PlanStates.{PlanState}

pub after_more : (p : Plan) (ls : List Look) (c : Cell) (b : Bool) → after_looks p (ls ++ (c, b) ∷ []) ≡ looked_at (after_looks p ls) (Some c) b
after_more p [] c b = refl
after_more p (l ∷ ls) c b = after_more (looked_at p (Some l.0) l.1) ls c b

pub follows_more : (p : Plan) (ls : List Look) (c : Cell) (b : Bool) → Follows p ls → next_cell (after_looks p ls) ≡ Some c → Follows p (ls ++ (c, b) ∷ [])
follows_more p [] c b f e = (e, tt)
follows_more p (l ∷ ls) c b f e = (f.0, follows_more (looked_at p (Some l.0) l.1) ls c b f.1 e)

module _ (st mid new : PlanState) (looks before after : List Look) (c : Cell) (b : Bool) where
  pub walks_more : Walks st looks mid before → after ≡ before ++ (c, b) ∷ [] → ((p : Plan) → Stands mid p → Some c ≡ next_cell p) → ((p : Plan) → Stands mid p → Stands new (looked_at p (next_cell p) b)) → Walks st looks new after
  walks_more w e next gives = (
    w.0 ++ (c, b) ∷ [],
    e ∙ (ap (λ (l : List Look). l ++ (c, b) ∷ []) w.1 ∙ append_assoc looks w.0 ((c, b) ∷ [])),
    λ p s. let r = w.2 p s in let n = next (after_looks p w.0) r.1 in
        (follows_more p w.0 c b r.0 (sym n), subst (λ (q : Plan). Stands new q) (sym (after_more p w.0 c b)) (subst (λ (x : Option Cell). Stands new (looked_at (after_looks p w.0) x b)) (sym n) (gives (after_looks p w.0) r.1))),
  )
