-- Steps of a state in which vectors grow, and what they keep.
use Rattle.std.specs.Prelude.{◌⊎◌, ℕ, IsTrue}
use Rattle.std.proofs.Common.{zero, suc, refl, sym, subst, ⊎_elim, inl, inr, ◌∙◌}
use Rattle.model_history.specs.declared.op_id.OpId.{OpId}
use Rattle.order_memory.specs.declared.growing_order.Cause.{Cause}
use Rattle.order_memory.specs.declared.growing_order.Cause.TheVariants.{Through, Read}
use Rattle.order_memory.specs.declared.growing_order.GrowingOrder.{GrowingOrder}
use Rattle.order_memory.specs.Memory.{MemoryHistory}
use Rattle.order_causal.specs.Orders.{Ops}
use Rattle.order_causal.specs.Vectors.{Counts}
use Rattle.order_memory.specs.Steps.GrowthSteps.{IsCaused, IsGrowing, IsRaise, IsInclusion, IsRelease, IsStep, HasSteps, Grows, GrowsWithin}

module _ (h : MemoryHistory) where
  module _ (free : Type 0) (reads : Ops) where
    steps-then : (n : ℕ) (a b : GrowingOrder) → HasSteps h free reads n a b → (m : ℕ) (c : GrowingOrder) → HasSteps h free reads m b c → (k : ℕ) × HasSteps h free reads k a c
    steps-then n a b first zero c second = (n, subst (λ (x : GrowingOrder). HasSteps h free reads n a x) (sym second) first)
    steps-then n a b first (suc m) c second =
        let rest = steps-then n a b first m second.0 second.1 in (suc rest.0, (second.0, rest.1, second.2))

    -- no step, steps after steps, and one step
    pub grows-same : (order : GrowingOrder) → IsGrowing h order → Grows h free reads order order
    grows-same order growing = record { growing = growing; steps = zero; made = refl }

    pub grows-then : (a b c : GrowingOrder) → Grows h free reads a b → Grows h free reads b c → Grows h free reads a c
    grows-then a b c first second =
        let all = steps-then first.steps a b first.made second.steps c second.made in
        record { growing = second.growing; steps = all.0; made = all.1 }

    pub grows-step : (a b : GrowingOrder) → IsGrowing h b → IsStep h free reads a b → Grows h free reads a b
    grows-step a b growing step = record { growing = growing; steps = suc zero; made = (a, refl, step) }

    module _ (P : GrowingOrder → Type 0) (raise : (a b : GrowingOrder) → P a → IsRaise h reads a b → P b)
        (include : (a b : GrowingOrder) → P a → IsInclusion h a b → P b)
        (release : (a b : GrowingOrder) → P a → free → IsRelease h a b → P b) where
      steps-keep : (n : ℕ) (a b : GrowingOrder) → HasSteps h free reads n a b → P a → P b
      steps-keep zero a b made holds = subst P (sym made) holds
      steps-keep (suc n) a b made holds =
          let before = steps-keep n a made.0 made.1 holds in
          ⊎_elim
          (λ (raised : IsRaise h reads made.0 b). raise made.0 b before raised)
          (λ (other : IsInclusion h made.0 b ⊎ (free × IsRelease h made.0 b)). ⊎_elim
          (λ (included : IsInclusion h made.0 b). include made.0 b before included)
          (λ (released : free × IsRelease h made.0 b). release made.0 b before released.0 released.1)
          other)
          made.2

      -- what each step keeps is kept
      pub grows-keep : (a b : GrowingOrder) → Grows h free reads a b → P a → P b
      grows-keep a b grows = steps-keep grows.steps a b grows.made

  -- while no operation is taken in, and no raise is taken out
  module _ (reads : Ops) where
    pub within-same : (order : GrowingOrder) → IsGrowing h order → GrowsWithin h reads order order
    within-same order growing = record { grows = grows-same ⊥ reads order growing; past = refl }

    pub within-then : (a b c : GrowingOrder) → GrowsWithin h reads a b → GrowsWithin h reads b c → GrowsWithin h reads a c
    within-then a b c first second = record { grows = grows-then ⊥ reads a b c first.grows second.grows; past = second.past ∙ first.past }

  module _ (taken free : Type 0) (freer : taken → free) (few more : Ops) (wider : (r : OpId) → IsTrue (few r) → IsTrue (more r)) where
    caused-wider : (v : Counts) (b : OpId) (u c : ℕ) (cause : Cause) → IsCaused h few v b u c cause → IsCaused h more v b u c cause
    caused-wider v b u c (Through m) through = through
    caused-wider v b u c (Read r) ruled = (ruled.0, ruled.1, wider r ruled.2, ruled.3, ruled.4, ruled.5)

    raise-wider : (a b : GrowingOrder) → IsRaise h few a b → IsRaise h more a b
    raise-wider a b raise = record {
      raised = raise.raised;
      number = raise.number;
      is_op = raise.is_op;
      some = raise.some;
      first = raise.first;
      inside = raise.inside;
      range = raise.range;
      stopped = raise.stopped;
      named = raise.named;
      cause = caused-wider a.counts raise.raised.op raise.raised.session raise.number raise.named raise.cause;
      raises = raise.raises;
      pending = raise.pending;
      past = raise.past;
      added = raise.added;
      more = raise.more;
      cyclic = raise.cyclic;
      most = raise.most;
    }

    steps-wider : (n : ℕ) (a b : GrowingOrder) → HasSteps h taken few n a b → HasSteps h free more n a b
    steps-wider zero a b made = made
    steps-wider (suc n) a b made = (
      made.0,
      steps-wider n a made.0 made.1,
      ⊎_elim
          (λ (raise : IsRaise h few made.0 b). inl (raise-wider made.0 b raise))
          (λ (other : IsInclusion h made.0 b ⊎ (taken × IsRelease h made.0 b)). ⊎_elim
          (λ (included : IsInclusion h made.0 b). inr (inl included))
          (λ (released : taken × IsRelease h made.0 b). inr (inr (freer released.0, released.1)))
          other)
          made.2,
    )

    -- steps by fewer reads are steps by more
    pub grows-wider : (a b : GrowingOrder) → Grows h taken few a b → Grows h free more a b
    grows-wider a b grows = record { growing = grows.growing; steps = grows.steps; made = steps-wider grows.steps a b grows.made }

  module _ (few more : Ops) (wider : (r : OpId) → IsTrue (few r) → IsTrue (more r)) where
    pub within-wider : (a b : GrowingOrder) → GrowsWithin h few a b → GrowsWithin h more a b
    within-wider a b within = record { grows = grows-wider ⊥ ⊥ (λ is. is) few more wider a b within.grows; past = within.past }
