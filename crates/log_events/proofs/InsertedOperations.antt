-- Where the operations of a history are in one that has an operation more, at the place s.i.
use Rattle.std.proofs.Common.{◌≡◌, ℕ, ◌+◌, ◌-◌, ◌<◌, ◌≤◌, true, false, not, List, refl, ap, sym, subst, ◌∙◌, inl, inr, ⊎_elim, arith}
use Rattle.std.specs.Prelude.{◌≢◌, ◌⊎◌, ◌==◌, ◌&&◌, if◌then◌else◌, Some, slice_get, nat_le, nat_lt}
use Rattle.std.proofs.lemmas.Bool.{both_ways, cases_lt, cases_eq, eq-eqb, ne_eqb, and_from, and_left, and_right, le-leb, lt-leb, le-ltb, lt-ltb, not_from_false, not_from_true, false_from_ne_true}
use Rattle.std.proofs.lemmas.Option.{slice_get_within}
use Rattle.model_history.specs.declared.op_id.OpId.{OpId}
use Rattle.model_history.specs.History.{IsOp, Precedes, session, entry}
use Rattle.order_causal.specs.Orders.{Ops, only, op}
use Rattle.order_causal.proofs.Items.{cases-op}
use Rattle.order_causal.proofs.OrdersLaws.{same_op}
use Rattle.order_memory.specs.Memory.{MemoryHistory}
use Rattle.cert_check.proofs.ConvergentLaws.{only-same}
use Rattle.cert_check.proofs.Pasts.{only-itself}
use Rattle.cert_subhistories.proofs.Embeddings.{IsEmbedded}
use Rattle.log_events.specs.Histories.{Operation}
use Rattle.log_events.specs.Insertions.{IsInserted}
use Rattle.log_events.proofs.ListPlaces.{slice_get-found, slice_get-insert_at, slice_get-insert_above, slice_get-insert_below}

module _ (s i : ℕ) where
  -- the place in the longer history of an operation of the shorter one; the place in the shorter one of an operation of the longer one,
  -- if it is not s.i; and whether it is not
  abbrev pub new_place : OpId → OpId
  new_place a = if (a.session == s) && nat_le i a.index then op a.session (a.index + 1) else a

  abbrev pub old_place : OpId → OpId
  old_place b = if (b.session == s) && nat_lt i b.index then op b.session (b.index - 1) else b

  abbrev pub is_other : Ops
  is_other b = not (only (op s i) b)

  pub new_place-cases : (a : OpId) → ((a.session ≡ s) × (i ≤ a.index) × (new_place a ≡ op a.session (a.index + 1)))
      ⊎ ((a.session ≡ s → a.index < i) × (new_place a ≡ a))
  new_place-cases a = ⊎_elim
      (λ (same : a.session ≡ s). ⊎_elim
      (λ (below : a.index < i). inr (λ _. below, rw (and_right (a.session == s) (nat_le i a.index) (lt-leb i a.index below)) refl))
      (λ (above : i ≤ a.index). inl (same, above, rw (and_from (a.session == s) (nat_le i a.index) (eq-eqb a.session s same) (le-leb i a.index above)) refl))
      (cases_lt a.index i))
      (λ (apart : a.session ≢ s). inr (λ same. absurd (apart same), rw (and_left (a.session == s) (nat_le i a.index) (ne_eqb a.session s apart)) refl))
      (cases_eq a.session s)

  pub old_place-cases : (b : OpId) → ((b.session ≡ s) × (i < b.index) × (old_place b ≡ op b.session (b.index - 1)))
      ⊎ ((b.session ≡ s → b.index ≤ i) × (old_place b ≡ b))
  old_place-cases b = ⊎_elim
      (λ (same : b.session ≡ s). ⊎_elim
      (λ (below : i < b.index). inl (same, below, rw (and_from (b.session == s) (nat_lt i b.index) (eq-eqb b.session s same) (lt-ltb i b.index below)) refl))
      (λ (above : b.index ≤ i). inr (λ _. above, rw (and_right (b.session == s) (nat_lt i b.index) (le-ltb i b.index above)) refl))
      (cases_lt i b.index))
      (λ (apart : b.session ≢ s). inr (λ same. absurd (apart same), rw (and_left (b.session == s) (nat_lt i b.index) (ne_eqb b.session s apart)) refl))
      (cases_eq b.session s)

  pub is_other-from : (b : OpId) → b ≢ op s i → is_other b ≡ true
  is_other-from b apart = not_from_false (only (op s i) b) (false_from_ne_true (only (op s i) b) (λ same. apart (only-same (op s i) b same)))

  pub is_other-inserted : is_other (op s i) ≡ false
  is_other-inserted = not_from_true (only (op s i) (op s i)) (only-itself (op s i))

  pub is_other-apart : (b : OpId) → is_other b ≡ true → b ≢ op s i
  is_other-apart b other same =
      both_ways (is_other (op s i)) is_other-inserted (subst (λ (c : OpId). is_other c ≡ true) same other)

  pub new_place-apart : (a : OpId) → new_place a ≢ op s i
  new_place-apart a same = ⊎_elim
      (λ (up : (a.session ≡ s) × (i ≤ a.index) × (new_place a ≡ op a.session (a.index + 1))).
      let index : a.index + 1 ≡ i = ap (λ (b : OpId). b.index) (sym up.2 ∙ same) in let above = up.1 in omega arith)
      (λ (still : (a.session ≡ s → a.index < i) × (new_place a ≡ a)).
      let one : a ≡ op s i = sym still.1 ∙ same in
      let below = still.0 (ap (λ (b : OpId). b.session) one) in
      let index : a.index ≡ i = ap (λ (b : OpId). b.index) one in omega arith)
      (new_place-cases a)

  -- from one to the other and back again
  pub old_place-new_place : (a : OpId) → old_place (new_place a) ≡ a
  old_place-new_place a = ⊎_elim
      (λ (up : (a.session ≡ s) × (i ≤ a.index) × (new_place a ≡ op a.session (a.index + 1))).
      let above = up.1 in
      let there : old_place (op a.session (a.index + 1)) ≡ a = ⊎_elim
      (λ (down : (a.session ≡ s) × (i < a.index + 1) × (old_place (op a.session (a.index + 1)) ≡ op a.session (a.index + 1 - 1))).
      down.2 ∙ same_op (op a.session (a.index + 1 - 1)) a refl (omega arith))
      (λ (still : (a.session ≡ s → a.index + 1 ≤ i) × (old_place (op a.session (a.index + 1)) ≡ op a.session (a.index + 1))).
      let wrong = still.0 up.0 in absurd (omega arith))
      (old_place-cases (op a.session (a.index + 1))) in
      ap old_place up.2 ∙ there)
      (λ (still : (a.session ≡ s → a.index < i) × (new_place a ≡ a)).
      ap old_place still.1 ∙ ⊎_elim
      (λ (down : (a.session ≡ s) × (i < a.index) × (old_place a ≡ op a.session (a.index - 1))).
      let wrong = still.0 down.0 in let over = down.1 in absurd (omega arith))
      (λ (here : (a.session ≡ s → a.index ≤ i) × (old_place a ≡ a)). here.1)
      (old_place-cases a))
      (new_place-cases a)

  pub new_place-old_place : (b : OpId) → b ≢ op s i → new_place (old_place b) ≡ b
  new_place-old_place b apart = ⊎_elim
      (λ (down : (b.session ≡ s) × (i < b.index) × (old_place b ≡ op b.session (b.index - 1))).
      let below = down.1 in
      let there : new_place (op b.session (b.index - 1)) ≡ b = ⊎_elim
      (λ (up : (b.session ≡ s) × (i ≤ b.index - 1) × (new_place (op b.session (b.index - 1)) ≡ op b.session (b.index - 1 + 1))).
      up.2 ∙ same_op (op b.session (b.index - 1 + 1)) b refl (omega arith))
      (λ (still : (b.session ≡ s → b.index - 1 < i) × (new_place (op b.session (b.index - 1)) ≡ op b.session (b.index - 1))).
      let wrong = still.0 down.0 in absurd (omega arith))
      (new_place-cases (op b.session (b.index - 1))) in
      ap new_place down.2 ∙ there)
      (λ (still : (b.session ≡ s → b.index ≤ i) × (old_place b ≡ b)).
      ap new_place still.1 ∙ ⊎_elim
      (λ (up : (b.session ≡ s) × (i ≤ b.index) × (new_place b ≡ op b.session (b.index + 1))).
      let most = still.0 up.0 in let least = up.1 in
      absurd (apart (same_op b (op s i) up.0 (omega arith))))
      (λ (here : (b.session ≡ s → b.index < i) × (new_place b ≡ b)). here.1)
      (new_place-cases b))
      (old_place-cases b)

  pub is_other-new_place : (a : OpId) → is_other (new_place a) ≡ true
  is_other-new_place a = is_other-from (new_place a) (new_place-apart a)

  -- each operation of the longer one is s.i or is in the shorter one
  pub each-place : (P : OpId → Type 0) → P (op s i) → ((a : OpId) → P (new_place a)) → (c : OpId) → P c
  each-place P new others c = ⊎_elim
      (λ (same : c ≡ op s i). subst P (sym same) new)
      (λ (apart : c ≢ op s i). subst P (new_place-old_place c apart) (others (old_place c)))
      (cases-op c (op s i))

  -- program order is the same in both
  pub new_place-order : (a b : OpId) → Precedes a b → Precedes (new_place a) (new_place b)
  new_place-order a b (session, below) = ⊎_elim
      (λ (up : (a.session ≡ s) × (i ≤ a.index) × (new_place a ≡ op a.session (a.index + 1))). ⊎_elim
      (λ (up2 : (b.session ≡ s) × (i ≤ b.index) × (new_place b ≡ op b.session (b.index + 1))).
      rw (up.2, up2.2) (session, omega arith))
      (λ (still2 : (b.session ≡ s → b.index < i) × (new_place b ≡ b)).
      let wrong = still2.0 (sym session ∙ up.0) in let above = up.1 in absurd (omega arith))
      (new_place-cases b))
      (λ (still : (a.session ≡ s → a.index < i) × (new_place a ≡ a)). ⊎_elim
      (λ (up2 : (b.session ≡ s) × (i ≤ b.index) × (new_place b ≡ op b.session (b.index + 1))).
      rw (still.1, up2.2) (session, omega arith))
      (λ (still2 : (b.session ≡ s → b.index < i) × (new_place b ≡ b)). rw (still.1, still2.1) (session, below))
      (new_place-cases b))
      (new_place-cases a)

  pub new_place-order_back : (a b : OpId) → Precedes (new_place a) (new_place b) → Precedes a b
  new_place-order_back a b before = ⊎_elim
      (λ (up : (a.session ≡ s) × (i ≤ a.index) × (new_place a ≡ op a.session (a.index + 1))). ⊎_elim
      (λ (up2 : (b.session ≡ s) × (i ≤ b.index) × (new_place b ≡ op b.session (b.index + 1))).
      let here : Precedes (op a.session (a.index + 1)) (op b.session (b.index + 1)) =
      subst (λ (d : OpId). Precedes (op a.session (a.index + 1)) d) up2.2 (subst (λ (d : OpId). Precedes d (new_place b)) up.2 before) in
      let less = here.1 in (here.0, omega arith))
      (λ (still2 : (b.session ≡ s → b.index < i) × (new_place b ≡ b)).
      let here : Precedes (op a.session (a.index + 1)) b =
      subst (λ (d : OpId). Precedes (op a.session (a.index + 1)) d) still2.1 (subst (λ (d : OpId). Precedes d (new_place b)) up.2 before) in
      let low = still2.0 (sym here.0 ∙ up.0) in let less = here.1 in let high = up.1 in absurd (omega arith))
      (new_place-cases b))
      (λ (still : (a.session ≡ s → a.index < i) × (new_place a ≡ a)). ⊎_elim
      (λ (up2 : (b.session ≡ s) × (i ≤ b.index) × (new_place b ≡ op b.session (b.index + 1))).
      let here : Precedes a (op b.session (b.index + 1)) =
      subst (λ (d : OpId). Precedes a d) up2.2 (subst (λ (d : OpId). Precedes d (new_place b)) still.1 before) in
      let low = still.0 (here.0 ∙ up2.0) in let high = up2.1 in (here.0, omega arith))
      (λ (still2 : (b.session ≡ s → b.index < i) × (new_place b ≡ b)).
      subst (λ (d : OpId). Precedes a d) still2.1 (subst (λ (d : OpId). Precedes d (new_place b)) still.1 before))
      (new_place-cases b))
      (new_place-cases a)

-- an operation of a history has a call there
entry-found : (h : MemoryHistory) (a : OpId) → IsOp h a → (d : Operation) × (entry h a ≡ Some d)
entry-found h a is_op = slice_get-found (session h a.session) a.index is_op

entry-op : (h : MemoryHistory) (a : OpId) (d : Operation) → entry h a ≡ Some d → IsOp h a
entry-op h a d at = slice_get_within (session h a.session) a.index d at

module _ (h whole : MemoryHistory) (s i : ℕ) (e : Operation) (more : IsInserted h whole s i e) where
  pub entry-inserted : entry whole (op s i) ≡ Some e
  entry-inserted = ap (λ (es : List Operation). slice_get es i) more.here ∙ slice_get-insert_at (session h s) i e more.inside

  entry-above : (t k : ℕ) → t ≡ s → i ≤ k → slice_get (session whole t) (k + 1) ≡ slice_get (session h t) k
  entry-above t k same above =
      subst (λ (u : ℕ). slice_get (session whole u) (k + 1) ≡ slice_get (session h u) k) (sym same)
      (ap (λ (es : List Operation). slice_get es (k + 1)) more.here ∙ slice_get-insert_above (session h s) i k e more.inside above)

  entry-below : (t k : ℕ) → t ≡ s → k < i → slice_get (session whole t) k ≡ slice_get (session h t) k
  entry-below t k same below =
      subst (λ (u : ℕ). slice_get (session whole u) k ≡ slice_get (session h u) k) (sym same)
      (ap (λ (es : List Operation). slice_get es k) more.here ∙ slice_get-insert_below (session h s) i k e more.inside below)

  pub entry-new_place : (a : OpId) → entry whole (new_place s i a) ≡ entry h a
  entry-new_place a = ⊎_elim
      (λ (up : (a.session ≡ s) × (i ≤ a.index) × (new_place s i a ≡ op a.session (a.index + 1))).
      ap (entry whole) up.2 ∙ entry-above a.session a.index up.0 up.1)
      (λ (still : (a.session ≡ s → a.index < i) × (new_place s i a ≡ a)).
      ap (entry whole) still.1 ∙ ⊎_elim
      (λ (same : a.session ≡ s). entry-below a.session a.index same (still.0 same))
      (λ (apart : a.session ≢ s). ap (λ (es : List Operation). slice_get es a.index) (more.others a.session apart))
      (cases_eq a.session s))
      (new_place-cases s i a)

  pub entry-old_place : (b : OpId) → b ≢ op s i → entry h (old_place s i b) ≡ entry whole b
  entry-old_place b apart = sym (entry-new_place (old_place s i b)) ∙ ap (entry whole) (new_place-old_place s i b apart)

  pub new_place-op : (a : OpId) → IsOp h a → IsOp whole (new_place s i a)
  new_place-op a is_op = let d = entry-found h a is_op in entry-op whole (new_place s i a) d.0 (entry-new_place a ∙ d.1)

  pub old_place-op : (b : OpId) → IsOp whole b → b ≢ op s i → IsOp h (old_place s i b)
  old_place-op b is_op apart = let d = entry-found whole b is_op in entry-op h (old_place s i b) d.0 (entry-old_place b apart ∙ d.1)

  pub inserted-op : IsOp whole (op s i)
  inserted-op = entry-op whole (op s i) e entry-inserted

  pub inserted-embedded : IsEmbedded whole h (is_other s i) (new_place s i) (old_place s i)
  inserted-embedded = record {
    start = sym more.start;
    is_kept = λ a is_op. is_other-new_place s i a;
    same_entry = λ a is_op. entry-new_place a;
    is_op = new_place-op;
    back = λ a is_op. old_place-new_place s i a;
    in_part = λ b is_op other. old_place-op b is_op (is_other-apart s i b other);
    forth = λ b is_op other. new_place-old_place s i b (is_other-apart s i b other);
    in_order = λ a b is_op. new_place-order s i a b;
  }
