-- The receipt of a pending call that returned.
use Rattle.std.proofs.Common.{◌≡◌, ℕ, ◌+◌, List, [], ◌∷◌, ◌++◌, length, take, sym, ◌∙◌, ap}
use Rattle.std.specs.Prelude.{map, Option, Some, slice_get}
use Rattle.model_history.specs.declared.advice.Advice.{Advice}
use Rattle.live_recorder.specs.Lanes.{Entry, Tells, operation, operations}
use Rattle.live_recorder.specs.Sessions.{Begun, ReceiptState, IsReceipt}
use Rattle.live_recorder.proofs.Telling.{receipt_pushed, cells_pushed, operations_pushed}

module _ {C R : Type 0} (cells : List ℕ) (self : Begun C R) (told : Tells operation cells self.notes (operations self.notes)) (call : C) (notes : List (ℕ × Option (Entry C R)))
    (view : ◌≡◌ {A = Begun C R} (record { call = call; notes = notes }) self) (x at : ℕ) (many : at ≡ length notes) (cell : slice_get cells at ≡ Some x) (r : R) (a : Advice)
    (notes' : List (ℕ × Option (Entry C R))) (y : ℕ) (k : Option (Entry C R)) (e : notes' ≡ notes ++ (y, k) ∷ []) (named : y ≡ x) (is : k ≡ Some (call, Some (r, a))) where
  same_notes : notes ≡ self.notes
  same_notes = ap (λ (b : Begun C R). b.notes) view

  same_call : call ≡ self.call
  same_call = ap (λ (b : Begun C R). b.call) view

  place : slice_get cells (length self.notes) ≡ Some x
  place = ap (λ (j : ℕ). slice_get cells j) (sym (many ∙ ap length same_notes)) ∙ cell

  pushed : notes' ≡ self.notes ++ (x, k) ∷ []
  pushed = e ∙ (ap (λ (l : List (ℕ × Option (Entry C R))). l ++ (y, k) ∷ []) same_notes ∙ ap (λ (j : ℕ). self.notes ++ (j, k) ∷ []) named)

  pub completed_receipt : IsReceipt notes' call r
  completed_receipt = receipt_pushed cells self.notes told x place call r a notes' k pushed is

  pub completed_state : (lane : ℕ) → ◌≡◌ {A = ReceiptState C R} (record { lane = lane; cells = map (λ (n : ℕ × Option (Entry C R)). n.0) notes'; operations = operations notes' })
      (record { lane = lane; cells = take (length self.notes + 1) cells; operations = operations self.notes ++ (self.call, r, a) ∷ [] })
  completed_state lane =
      let f = cells_pushed cells self.notes told x place call r a notes' k pushed is in
      let h = operations_pushed cells self.notes told x place call r a notes' k pushed is in
      λ i. record { lane = lane; cells = f i; operations = (h ∙ ap (λ (c : C). operations self.notes ++ (c, r, a) ∷ []) same_call) i }
