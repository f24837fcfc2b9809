-- When a memory answers what a known read returned, behind the operations of a list.
use Rattle.std.proofs.Common.{◌≡◌, ℕ, ◌<◌, ◌≤◌, List, take, true, refl, ◌∙◌}
use Rattle.std.specs.Prelude.{Some}
use Rattle.model_objects.specs.declared.register.RegisterCall.{RegisterCall}
use Rattle.model_objects.specs.declared.register.RegisterCall.TheVariants.{Write, Read}
use Rattle.model_objects.specs.declared.register.RegisterRet.{RegisterRet}
use Rattle.model_objects.specs.declared.register.RegisterRet.TheVariants.{Done, Value}
use Rattle.model_objects.specs.Register.{matches}
use Rattle.model_history.specs.declared.op_id.OpId.{OpId}
use Rattle.model_history.specs.History.{IsHistory, calls, entry}
use Rattle.order_causal.proofs.Fronts.{take-from, take-stands}
use Rattle.order_memory.proofs.LastWrites.{last_write-answers, unwritten-answers}
use Rattle.order_memory.specs.Memory.{MemoryCall, MemoryHistory, memory_answer, initial, Writes, Reads}
use Rattle.order_causal.specs.Orders.{StandsAt}

-- a return that fits its call is the answer, where it is if the call is a read
right_answer : (start : List (ℕ × ℕ)) (before : List MemoryCall) (x : ℕ) (call : RegisterCall) (r : RegisterRet) → matches call r ≡ true
    → ((u : ℕ) → call ≡ Read → r ≡ Value u → Value u ≡ memory_answer start before (record { key = x; call = Read }))
    → r ≡ memory_answer start before (record { key = x; call = call })
right_answer start before x (Write v) Done fits right = refl
right_answer start before x (Write v) (Value u) fits right = absurd cc
right_answer start before x Read Done fits right = absurd cc
right_answer start before x Read (Value u) fits right = right u refl refl

module _ (h : MemoryHistory) where
  -- each known return fits its call
  abbrev pub Fits : Type 0
  Fits = (o : OpId) (c : MemoryCall) (r : RegisterRet) → entry h o ≡ Some (c, Some r) → matches c.call r ≡ true

  pub history-fits : (is_start : List (ℕ × ℕ) → Type 0) → IsHistory is_start (λ (c : MemoryCall). matches c.call) h → Fits
  history-fits is_start history o c r known = (history.each o.session).fitting o.index c r known

  module _ (ops : List OpId) (k : ℕ) where
    -- behind the first k operations of a list a read of x answers u
    abbrev pub AnswersBehind : ℕ → ℕ → Type 0
    AnswersBehind x u = Value u ≡ memory_answer h.0 (calls h (take k ops)) (record { key = x; call = Read })

    -- a known return is the answer there, where it is if the operation is a read
    pub right_return : Fits → (o : OpId) (c : MemoryCall) (r : RegisterRet) → entry h o ≡ Some (c, Some r)
        → ((x u : ℕ) → Reads h o x u → AnswersBehind x u) → r ≡ memory_answer h.0 (calls h (take k ops)) c
    right_return fits o c r known right =
        right_answer h.0 (calls h (take k ops)) c.key c.call r (fits o c r known)
        (λ u is_read is_value. right c.key u (known ∙ (λ i. Some (record { key = c.key; call = is_read i }, Some (is_value i)))))

    -- where the last write of a variable is known, a read of it answers what that wrote
    pub answers-source : (p : ℕ) (w : OpId) (x u : ℕ) → Writes h w x u → StandsAt ops p w → p < k
        → ((i : ℕ) (b : OpId) (t : ℕ) → i < k → StandsAt ops i b → Writes h b x t → i ≤ p) → AnswersBehind x u
    answers-source p w x u wrote stands below last = last_write-answers h x (take k ops) w u (record {
      place = p;
      stands = take-stands k ops p w below stands;
      writes = wrote;
      last = λ i b t at writes. let there = take-from k ops i b at in last i b t there.0 there.1 writes;
    })

    -- where there is none, it answers the initial value
    pub answers-start : (x : ℕ) → ((i : ℕ) (b : OpId) (t : ℕ) → i < k → StandsAt ops i b → ¬ Writes h b x t) → AnswersBehind x (initial h x)
    answers-start x none = unwritten-answers h x (take k ops)
        (λ i b t at. let there = take-from k ops i b at in none i b t there.0 there.1)
