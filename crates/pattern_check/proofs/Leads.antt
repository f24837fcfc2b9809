-- Paths: what a transitive relation that has each step has from end to end, and which paths lead.
use Rattle.std.proofs.Common.{◌≡◌, ℕ, zero, suc, ◌+◌, ◌-◌, ◌<◌, ◌≤◌, List, [], ◌∷◌, length, get_or, ⊎_elim, inl, inr, refl, arith, ap, sym, ◌∙◌, subst}
use Rattle.std.specs.Prelude.{◌≢◌, slice_get}
use Rattle.std.proofs.lemmas.Option.{same_Some, slice_get_within, slice_get-get_or}
use Rattle.std.proofs.lemmas.Bool.{cases_lt}
use Rattle.model_history.specs.declared.op_id.OpId.{OpId}
use Rattle.order_causal.specs.Orders.{StandsAt, IsPath, Leads}
use Rattle.order_memory.specs.Memory.{MemoryHistory}
use Rattle.order_memory.specs.Relations.{IsEdge, CO, IsPast}
use Rattle.order_causal.proofs.PathsLaws.{leads-leads}
use Rattle.pattern_check.specs.Paths.{GoesFrom, HasEdge}

module _ (related wider : OpId → OpId → Type 0) (transitive : (a b c : OpId) → wider a b → wider b c → wider a c)
    (contains : (a b : OpId) → related a b → wider a b) where
  path_in : (path : List OpId) (n : ℕ) (a b : OpId) → IsPath related path → StandsAt path 0 a → StandsAt path (n + 1) b → wider a b
  path_in path zero a b joined first last = contains a b (joined 0 a b first last)
  path_in path (suc n) a b joined first last =
      let below = slice_get_within path (suc n + 1) b last in
      let within : n + 1 < length path = omega arith in
      let at = slice_get-get_or path (n + 1) b within in
      let next : suc n + 1 ≡ n + 1 + 1 = omega arith in
      transitive a (get_or path (n + 1) b) b (path_in path n a (get_or path (n + 1) b) joined first at)
      (contains (get_or path (n + 1) b) b (joined (n + 1) (get_or path (n + 1) b) b at (ap (slice_get path) (sym next) ∙ last)))

  -- a transitive relation that has each step of a path has its ends
  pub leads_in : (a b : OpId) → Leads related a b → wider a b
  leads_in a b (path, n, joined, first, last) = path_in path n a b joined first last

-- one step leads
pub leads-step : (related : OpId → OpId → Type 0) (a b : OpId) → related a b → Leads related a b
leads-step related a b step = (
  a ∷ b ∷ [],
  0,
  (λ k c d at_c at_d. elim k as (λ (k : ℕ). StandsAt (a ∷ b ∷ []) k c → StandsAt (a ∷ b ∷ []) (k + 1) d → related c d) [
    | zero ↦ λ first. λ last. let same_c : a ≡ c = same_Some a c first in let same_d : b ≡ d = same_Some b d last in rw (← same_c, ← same_d) step
    | suc j ↦ λ _. λ past. let below = slice_get_within (a ∷ b ∷ []) (suc j + 1) d past in absurd (omega arith)
  ] at_c at_d),
  refl,
  refl,
)

module _ (h : MemoryHistory) where
  -- a path with an edge leads from its first operation to its last
  pub goes-leads : (path : List OpId) (a b : OpId) → HasEdge path → GoesFrom h path a b → CO h a b
  goes-leads path a b edge goes =
      let next : length path - 1 ≡ length path - 2 + 1 = omega arith in
      (path, length path - 2, goes.joined, goes.first, ap (slice_get path) (sym next) ∙ goes.last)

  -- a path between two operations has an edge
  pub goes-apart : (path : List OpId) (a b : OpId) → a ≢ b → GoesFrom h path a b → CO h a b
  goes-apart path a b apart goes =
      ⊎_elim
      (λ (edge : 1 < length path). goes-leads path a b edge goes)
      (λ (short : length path ≤ 1).
      let one : length path - 1 ≡ 0 = omega arith in
      absurd (apart (same_Some a b (sym goes.first ∙ ap (slice_get path) (sym one) ∙ goes.last))))
      (cases_lt 1 (length path))

  -- a path from an operation to o stays in the past of o
  pub goes-past : (path : List OpId) (o a : OpId) → GoesFrom h path a o → IsPast h o a
  goes-past path o a goes =
      ⊎_elim
      (λ (edge : 1 < length path). inr (goes-leads path a o edge goes))
      (λ (short : length path ≤ 1).
      let one : length path - 1 ≡ 0 = omega arith in
      inl (same_Some a o (sym goes.first ∙ ap (slice_get path) (sym one) ∙ goes.last)))
      (cases_lt 1 (length path))

  -- what is in CO before the past of o is in the past of o
  pub past-before : (o a b : OpId) → CO h a b → IsPast h o b → IsPast h o a
  past-before o a b before past =
      ⊎_elim
      (λ (same : b ≡ o). inr (subst (λ (c : OpId). CO h a c) same before))
      (λ (above : CO h b o). inr (leads-leads (IsEdge h) a b o before above))
      past
