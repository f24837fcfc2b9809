-- The steps of a path, one more after those so far.
use Rattle.std.proofs.Common.{◌≡◌, ℕ, ◌+◌, ◌-◌, ◌<◌, Bool, List, [], ◌∷◌, ◌++◌, length, get_or, ⊎_elim, eq-or-lt_of_le, arith, ap, subst, subst₂, ◌∙◌}
use Rattle.std.proofs.lemmas.List.{length-append}
use Rattle.std.proofs.lemmas.Option.{get_or_from_slice_get, slice_get_within}
use Rattle.std.specs.Prelude.{Some, slice_get}
use Rattle.model_history.specs.declared.op_id.OpId.{OpId}
use Rattle.order_causal.specs.Orders.{StandsAt}
use Rattle.order_causal.proofs.Fronts.{push-at, push-last}
use Rattle.app_explanations.specs.declared.clients.Clients.{Clients}
use Rattle.app_explanations.specs.BrokenGuarantees.{StaysAs}

module _ (clients : Clients) (path : List OpId) where
  -- each of these steps is as the operations say that it joins
  abbrev pub AreSo : List Bool → Type 0
  AreSo steps = (k : ℕ) (a b : OpId) (stays : Bool) → StandsAt path k a → StandsAt path (k + 1) b → slice_get steps k ≡ Some stays
      → StaysAs clients a b stays

  pub one_step_more : (steps pushed : List Bool) (i : ℕ) (last : Bool) (d e : OpId) → pushed ≡ steps ++ last ∷ [] → length steps + 1 ≡ i
      → AreSo steps → StaysAs clients (get_or path (i - 1) d) (get_or path i e) last → AreSo pushed
  one_step_more steps pushed i last d e same many so_far here k a b stays at_a at_b at =
      let there : slice_get (steps ++ last ∷ []) k ≡ Some stays = subst (λ (x : List Bool). slice_get x k ≡ Some stays) same at in
      let within = slice_get_within (steps ++ last ∷ []) k stays there in
      let more = length-append steps (last ∷ []) in
      ⊎_elim
      (λ (is_last : k ≡ length steps).
      let before : i - 1 ≡ k = omega arith in
      let after : i ≡ k + 1 = omega arith in
      let from : get_or path (i - 1) d ≡ a = ap (λ (n : ℕ). get_or path n d) before ∙ get_or_from_slice_get path k a d at_a in
      let to : get_or path i e ≡ b = ap (λ (n : ℕ). get_or path n e) after ∙ get_or_from_slice_get path (k + 1) b e at_b in
      let step : last ≡ stays = push-last steps last stays (subst (λ (n : ℕ). slice_get (steps ++ last ∷ []) n ≡ Some stays) is_last there) in
      subst (λ (s : Bool). StaysAs clients a b s) step (subst₂ (λ (x y : OpId). StaysAs clients x y last) from to here))
      (λ (is_earlier : k < length steps). so_far k a b stays at_a at_b (push-at steps last k stays is_earlier there))
      (eq-or-lt_of_le (omega arith))
