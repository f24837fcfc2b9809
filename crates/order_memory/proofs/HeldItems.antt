-- Vectors of a history with another count at one place.
use Rattle.std.specs.Prelude.{◌≡◌, ℕ, ◌<◌, ◌≤◌, length}
use Rattle.std.proofs.Common.{arith, sym, subst, ◌∙◌, ⊎_elim}
use Rattle.std.proofs.lemmas.List.{length-set}
use Rattle.model_history.specs.declared.op_id.OpId.{OpId}
use Rattle.model_history.specs.History.{IsOp, session}
use Rattle.order_memory.specs.Steps.GrowingOrders.{AreHeldVectors}
use Rattle.order_memory.specs.Memory.{MemoryHistory}
use Rattle.order_causal.specs.Vectors.{IsListed, Counts, count, list_of, with_item}
use Rattle.order_causal.proofs.Items.{item-operations, item-size, item-cases, item-here}

module _ (h : MemoryHistory) (v : Counts) (vectors : AreHeldVectors h v) (o : OpId) (is_op : IsOp h o) (t x : ℕ) (exists : t < length h.1) where
  pub listed-held : IsListed v o
  listed-held = let same = vectors.vectors.one_each.operations o.session in omega arith

  inside : t < length (list_of v o)
  inside = let size = vectors.vectors.counts o is_op in omega arith

  -- they are vectors of the history still
  pub held-item : x ≤ length (session h t) → AreHeldVectors h (with_item v o t x)
  held-item held = record {
    vectors = record {
      one_each = record {
        sessions = length-set v o.session _ ∙ vectors.vectors.one_each.sessions;
        operations = λ s. item-operations v o t x listed-held s ∙ vectors.vectors.one_each.operations s;
      };
      counts = λ p of_history. item-size v o t x listed-held p ∙ vectors.vectors.counts p of_history;
    };
    held = λ p s of_history. ⊎_elim
        (λ (same : count (with_item v o t x) p s ≡ count v p s). let before = vectors.held p s of_history in omega arith)
        (λ (places : (p ≡ o) × (s ≡ t)).
        let new : count (with_item v o t x) o t ≤ length (session h t) = let value = item-here v o t x listed-held inside in omega arith in
        subst (λ (q : OpId). count (with_item v o t x) q s ≤ length (session h s)) (sym places.0)
        (subst (λ (n : ℕ). count (with_item v o t x) o n ≤ length (session h n)) (sym places.1) new))
        (item-cases v o t x listed-held p s);
  }

  -- none falls, where the new one is larger
  pub rises-item : count v o t ≤ x → (p : OpId) (s : ℕ) → count v p s ≤ count (with_item v o t x) p s
  rises-item larger p s = ⊎_elim
      (λ (same : count (with_item v o t x) p s ≡ count v p s). omega arith)
      (λ (places : (p ≡ o) × (s ≡ t)).
      let new : count v o t ≤ count (with_item v o t x) o t = let value = item-here v o t x listed-held inside in omega arith in
      subst (λ (q : OpId). count v q s ≤ count (with_item v o t x) q s) (sym places.0)
      (subst (λ (n : ℕ). count v o n ≤ count (with_item v o t x) o n) (sym places.1) new))
      (item-cases v o t x listed-held p s)
