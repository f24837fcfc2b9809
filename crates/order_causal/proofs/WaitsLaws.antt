-- What operations wait for, made one after the other.
use Rattle.std.specs.Prelude.{◌≡◌, ◌⊎◌, ℕ, ◌+◌, ◌<◌, ◌≤◌, List, [], length}
use Rattle.std.proofs.Common.{arith, get_or, sym, ap, subst, ◌∙◌, inl, inr, ⊎_elim, refl}
use Rattle.std.proofs.lemmas.Bool.{cases_lt}
use Rattle.std.proofs.lemmas.List.{get_or_past, length-set}
use Rattle.model_history.specs.declared.op_id.OpId.{OpId}
use Rattle.model_history.specs.History.{HistoryValue, session}
use Rattle.order_causal.specs.Orders.{op}
use Rattle.order_causal.specs.Vectors.{IsListed, Counts, count, list_of, with_item, IsCounted}
use Rattle.order_causal.specs.Steps.Gathered.{AreGatheredBefore}
use Rattle.order_causal.specs.Steps.Waiting.{AddsWait, AreZeros}
use Rattle.order_causal.specs.Waits.{AreAlike, AreWaits, AreWaitsFor}
use Rattle.order_causal.proofs.GatheredLaws.{gathered-shape}
use Rattle.order_causal.proofs.Items.{item-operations, item-size, item-cases, item-here}
use Rattle.order_causal.proofs.VectorsLaws.{counted-listed}
use Rattle.order_causal.proofs.OrdersLaws.{same_op}
use Rattle.order_causal.proofs.PushedLaws.{listed-length}

module _ {A B C : Type 0} where
  pub alike-trans : (xs : List (List A)) (ys : List (List B)) (zs : List (List C)) → AreAlike xs ys → AreAlike ys zs → AreAlike xs zs
  alike-trans xs ys zs first second = record {
    sessions = first.sessions ∙ second.sessions;
    operations = λ s. first.operations s ∙ second.operations s;
  }

module _ {A B : Type 0} where
  pub alike-sym : (xs : List (List A)) (ys : List (List B)) → AreAlike xs ys → AreAlike ys xs
  alike-sym xs ys alike = record { sessions = sym alike.sessions; operations = λ s. sym (alike.operations s) }

module _ {S C R : Type 0} (h : HistoryValue S C R) (n : ℕ) (waits : Counts) (ended : n ≡ length h.1)
    (gathered : AreGatheredBefore h (λ _. AreZeros (length h.1)) n waits) where
  pub zeros-alike : AreAlike waits h.1
  zeros-alike =
      let shape = gathered-shape h (λ _. AreZeros (length h.1)) n waits ended gathered in
      record { sessions = shape.sessions; operations = shape.operations }

  -- no operation waits for another
  pub zeros-count : (o : OpId) (s : ℕ) → count waits o s ≡ 0
  zeros-count o s = ⊎_elim
      (λ (more : 0 < count waits o s).
      let listed = counted-listed waits o (op s 0) more in
      (gathered.each o listed).zero s)
      (λ (none : count waits o s ≤ 0). omega arith)
      (cases_lt 0 (count waits o s))

  pub zeros-waits : length h.1 ≤ 16 → ((s : ℕ) → s < n → length (session h s) ≤ 256) → AreWaits waits
  zeros-waits few short = record {
    few = let same = zeros-alike.sessions in omega arith;
    short = λ s.
        let same = zeros-alike.operations s in
        ⊎_elim
        (λ (inside : s < n). let most = short s inside in omega arith)
        (λ (past : n ≤ s). let none = ap (λ (es : _). length es) (get_or_past h.1 s [] (omega arith)) in omega arith)
        (cases_lt s n);
    square = λ o listed. let size = (gathered.each o listed).size in let same = zeros-alike.sessions in omega arith;
    held = λ o s. let none = zeros-count o s in omega arith;
  }

module _ (waits : Counts) (are : AreWaits waits) (o a : OpId) (listed : IsListed waits o) (there : IsListed waits a) where
  place-inside : a.session < length (list_of waits o)
  place-inside =
      let size = are.square o listed in
      let exists = listed-length waits a.session a.index there in
      omega arith

  pub added-waits : AreWaits (with_item waits o a.session (a.index + 1))
  added-waits =
      let same : (s : ℕ) → length (get_or (with_item waits o a.session (a.index + 1)) s []) ≡ length (get_or waits s []) =
      item-operations waits o a.session (a.index + 1) listed in
      let size : length (with_item waits o a.session (a.index + 1)) ≡ length waits = length-set waits o.session _ in
      record {
        few = let few = are.few in omega arith;
        short = λ s. let short = are.short s in let as_before = same s in omega arith;
        square = λ p listed_p.
            let before : IsListed waits p = let as_before = same p.session in omega arith in
            let square = are.square p before in
            let sizes = item-size waits o a.session (a.index + 1) listed p in
            omega arith;
        held = λ p s. ⊎_elim
            (λ (old : count (with_item waits o a.session (a.index + 1)) p s ≡ count waits p s).
            let held = are.held p s in let as_before = same s in omega arith)
            (λ (new : (p ≡ o) × (s ≡ a.session)).
            let value = item-here waits o a.session (a.index + 1) listed place-inside in
            let as_before = same a.session in
            let here : count (with_item waits o a.session (a.index + 1)) o a.session ≤ length (get_or (with_item waits o a.session (a.index + 1)) a.session []) = omega arith in
            subst (λ (q : OpId). count (with_item waits o a.session (a.index + 1)) q s ≤ length (get_or (with_item waits o a.session (a.index + 1)) s [])) (sym new.0)
            (subst (λ (t : ℕ). count (with_item waits o a.session (a.index + 1)) o t ≤ length (get_or (with_item waits o a.session (a.index + 1)) t [])) (sym new.1) here))
            (item-cases waits o a.session (a.index + 1) listed p s);
      }

  -- o waits for a, where it didn't
  pub added : count waits o a.session ≤ a.index → AddsWait o a waits (with_item waits o a.session (a.index + 1))
  added above = record {
    alike = record {
      sessions = length-set waits o.session _;
      operations = item-operations waits o a.session (a.index + 1) listed;
    };
    raised = let value = item-here waits o a.session (a.index + 1) listed place-inside in omega arith;
    others = item-cases waits o a.session (a.index + 1) listed;
  }

  -- or it did already
  pub added-before : a.index < count waits o a.session → AddsWait o a waits waits
  added-before below = record {
    alike = record { sessions = refl; operations = λ s. refl };
    raised = omega arith;
    others = λ p s. inl refl;
  }

module _ (first : OpId → OpId → Type 0) where
  -- the same is to come before
  pub waits_for-same : (same : OpId → OpId → Type 0) (waits : Counts) → ((a o : OpId) → first a o → same a o) → ((a o : OpId) → same a o → first a o)
      → AreWaitsFor first waits → AreWaitsFor same waits
  waits_for-same same waits there back are = record {
    each = λ a o is. are.each a o (back a o is);
    last = λ a o is. there a o (are.last a o is);
  }

  -- nothing is to come before
  pub waits_for-none : (waits : Counts) → ((o : OpId) (s : ℕ) → count waits o s ≡ 0) → ((a o : OpId) → ¬ first a o) → AreWaitsFor first waits
  waits_for-none waits zero none = record {
    each = λ a o is. absurd (none a o is);
    last = λ a o is. let nothing = zero o a.session in absurd (omega arith);
  }

  -- one operation more is to come before another
  pub waits_for-more : (o a : OpId) (before after : Counts) → AreWaitsFor first before → AddsWait o a before after
      → AreWaitsFor (λ b p. first b p ⊎ ((b ≡ a) × (p ≡ o))) after
  waits_for-more o a before after are adds = record {
    each = λ b p is. ⊎_elim
        (λ (old : first b p). ⊎_elim
        (λ (same : count after p b.session ≡ count before p b.session). let counted = are.each b p old in omega arith)
        (λ (new : (p ≡ o) × (b.session ≡ a.session)).
        let counted : b.index < count before o a.session =
        subst (λ (t : ℕ). b.index < count before o t) new.1 (subst (λ (q : OpId). IsCounted before q b) new.0 (are.each b p old)) in
        let here : b.index < count after o a.session = let raised = adds.raised in omega arith in
        subst (λ (q : OpId). IsCounted after q b) (sym new.0) (subst (λ (t : ℕ). b.index < count after o t) (sym new.1) here))
        (adds.others p b.session))
        (λ (new : (b ≡ a) × (p ≡ o)).
        let here : a.index < count after o a.session = let raised = adds.raised in omega arith in
        subst (λ (q : OpId). IsCounted after q b) (sym new.1) (subst (λ (c : OpId). IsCounted after o c) (sym new.0) here))
        is;
    last = λ b p is. ⊎_elim
        (λ (same : count after p b.session ≡ count before p b.session). inl (are.last b p (sym same ∙ is)))
        (λ (new : (p ≡ o) × (b.session ≡ a.session)).
        let here : count after o a.session ≡ b.index + 1 =
        subst (λ (t : ℕ). count after o t ≡ b.index + 1) new.1 (subst (λ (q : OpId). count after q b.session ≡ b.index + 1) new.0 is) in
        let raised = adds.raised in
        ⊎_elim
        (λ (more : a.index + 1 < count before o a.session).
        let old : count before o a.session ≡ b.index + 1 = omega arith in
        inl (are.last b p (subst (λ (q : OpId). count before q b.session ≡ b.index + 1) (sym new.0)
        (subst (λ (t : ℕ). count before o t ≡ b.index + 1) (sym new.1) old))))
        (λ (most : count before o a.session ≤ a.index + 1). inr (same_op b a new.1 (omega arith), new.0))
        (cases_lt (a.index + 1) (count before o a.session)))
        (adds.others p b.session);
  }
