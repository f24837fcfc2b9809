-- What follows for paths in a relation.
use Rattle.std.specs.Prelude.{◌≡◌, ◌⊎◌, ℕ, ◌+◌, ◌<◌, List, [], ◌∷◌, length}
use Rattle.std.proofs.Common.{zero, suc, refl, sym, ◌∙◌, subst, subst₂, arith, get_or, inl, inr, ⊎_elim}
use Rattle.std.proofs.lemmas.Option.{same_Some, slice_get_within, slice_get-get_or}
use Rattle.model_history.specs.declared.op_id.OpId.{OpId}
use Rattle.order_causal.specs.Orders.{StandsAt, IsPath, Leads}

module _ (related : OpId → OpId → Type 0) where
  path-edge : (a b : OpId) → related a b → IsPath related (a ∷ b ∷ [])
  path-edge a b edge zero x y first second = subst₂ related (same_Some _ _ first) (same_Some _ _ second) edge
  path-edge a b edge (suc k) x y first second =
      let below : suc k + 1 < 2 = slice_get_within (a ∷ b ∷ []) (suc k + 1) y second in absurd (omega arith)

  -- an edge leads from its start to its end
  pub leads-edge : (a b : OpId) → related a b → Leads related a b
  leads-edge a b edge = (a ∷ b ∷ [], 0, path-edge a b edge, refl, refl)

  pub path-first : (a b : OpId) (path : List OpId) → related a b → IsPath related path → StandsAt path 0 b → IsPath related (a ∷ path)
  path-first a b path edge is_path starts zero x y first second =
      subst₂ related (same_Some _ _ first) (same_Some _ _ (sym starts ∙ second)) edge
  path-first a b path edge is_path starts (suc k) x y first second =
      let next : suc k + 1 ≡ suc (k + 1) = omega arith in
      is_path k x y first (subst (λ (i : ℕ). StandsAt (a ∷ path) i y) next second)

  -- an edge and a path behind it
  pub leads-first : (a b c : OpId) → related a b → Leads related b c → Leads related a c
  leads-first a b c edge leads =
      let next : leads.1 + 1 + 1 ≡ suc (leads.1 + 1) = omega arith in (
        a ∷ leads.0,
        leads.1 + 1,
        path-first a b leads.0 edge leads.2 leads.3,
        refl,
        subst (λ (i : ℕ). StandsAt (a ∷ leads.0) i c) (sym next) leads.4,
      )

  module _ (holds : OpId → OpId → Type 0) (edges : (a b : OpId) → related a b → holds a b)
      (transitive : (a b c : OpId) → holds a b → holds b c → holds a c) where
    within-path : (path : List OpId) → IsPath related path → (a : OpId) → StandsAt path 0 a
        → (n : ℕ) (b : OpId) → StandsAt path (n + 1) b → holds a b
    within-path path is_path a starts zero b ends = edges a b (is_path 0 a b starts ends)
    within-path path is_path a starts (suc n) b ends =
        let below : suc n + 1 < length path = slice_get_within path (suc n + 1) b ends in
        let next : suc n + 1 ≡ (n + 1) + 1 = omega arith in
        let before = slice_get-get_or path (n + 1) a (omega arith) in
        transitive a (get_or path (n + 1) a) b
        (within-path path is_path a starts n (get_or path (n + 1) a) before)
        (edges _ b (is_path (n + 1) _ b before (subst (λ (i : ℕ). StandsAt path i b) next ends)))

    -- a transitive relation that holds along each edge holds along each path
    pub leads-within : (a b : OpId) → Leads related a b → holds a b
    leads-within a b leads = within-path leads.0 leads.2 a leads.3 leads.1 b leads.4

  -- a path and a path behind it
  pub leads-leads : (a b c : OpId) → Leads related a b → Leads related b c → Leads related a c
  leads-leads a b c first second =
      leads-within (λ x y. (z : OpId) → Leads related y z → Leads related x z)
      (λ x y edge z leads. leads-first x y z edge leads)
      (λ x y z before after w leads. before w (after w leads))
      a b first c second

  -- a path and an edge behind it
  pub leads-last : (a b c : OpId) → Leads related a b → related b c → Leads related a c
  leads-last a b c leads edge = leads-leads a b c leads (leads-edge b c edge)

  -- p is a or comes behind it on a path
  abbrev pub IsFrom : OpId → OpId → Type 0
  IsFrom a p = (a ≡ p) ⊎ Leads related a p

  pub from-edge : (a p c : OpId) → IsFrom a p → related p c → Leads related a c
  from-edge a p c from edge =
      ⊎_elim
      (λ (same : a ≡ p). leads-edge a c (subst (λ (q : OpId). related q c) (sym same) edge))
      (λ (leads : Leads related a p). leads-last a p c leads edge)
      from

  -- the last edge of a path
  pub last-edge : (a c : OpId) → Leads related a c → (p : OpId) × IsFrom a p × related p c
  last-edge = leads-within (λ x z. (p : OpId) × IsFrom x p × related p z)
      (λ x y edge. (x, inl refl, edge))
      (λ x y z before after. (
        after.0,
        ⊎_elim
            (λ (same : y ≡ after.0). inr (subst (λ (q : OpId). Leads related x q) same (from-edge x before.0 y before.1 before.2)))
            (λ (leads : Leads related y after.0). inr (leads-leads x y after.0 (from-edge x before.0 y before.1 before.2) leads))
            after.1,
        after.2,
      ))

  -- a set that has the start of each edge whose end it has, has the start of each path whose end it has
  pub leads-back : (set : OpId → Type 0) → ((a b : OpId) → related a b → set b → set a) → (a b : OpId) → Leads related a b → set b → set a
  leads-back set edges = leads-within (λ a b. set b → set a) edges (λ a b c before after in_c. before (after in_c))

-- what leads by the edges of one relation leads by those of a wider one
pub leads-wider : (narrow wide : OpId → OpId → Type 0) → ((a b : OpId) → narrow a b → wide a b) → (a b : OpId) → Leads narrow a b → Leads wide a b
leads-wider narrow wide edges a b leads =
    (leads.0, leads.1, (λ k x y first second. edges x y (leads.2 k x y first second)), leads.3, leads.4)
