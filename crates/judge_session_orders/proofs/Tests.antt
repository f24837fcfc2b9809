-- It can be decided what is written to a variable and what is read from a write, so both can be counted.
use Rattle.std.specs.Prelude.{◌≡◌, ◌≢◌, ◌⊎◌, ℕ, List, Option, Some, None, option_map}
use Rattle.std.proofs.Common.{sym, ap, ◌∙◌, inl, inr, ⊎_elim, refl}
use Rattle.std.proofs.lemmas.Bool.{cases_eq}
use Rattle.std.proofs.lemmas.Option.{same_Some}
use Rattle.model_objects.specs.declared.register.RegisterCall.{RegisterCall}
use Rattle.model_objects.specs.declared.register.RegisterCall.TheVariants.{Write, Read}
use Rattle.model_objects.specs.declared.register.RegisterRet.{RegisterRet}
use Rattle.model_objects.specs.declared.register.RegisterRet.TheVariants.{Done, Value}
use Rattle.model_history.specs.declared.op_id.OpId.{OpId}
use Rattle.model_history.specs.History.{entry}
use Rattle.order_memory.specs.Memory.{MemoryCall, MemoryHistory, initial, Writes, Reads}
use Rattle.order_memory.specs.Relations.{ReadsFrom}
use Rattle.order_memory.proofs.MemoryLaws.{same_written, same_read}
use Rattle.order_causal.proofs.Searches.{IsDecided}
use Rattle.judge_session_orders.specs.Tables.{IsTest, WritesNumber, variable}

-- an entry of a history: a call, and its return where that is known
abbrev Entry : Type 0
Entry = MemoryCall × Option RegisterRet

abbrev IsWriteCall : Option MemoryCall → Type 0
IsWriteCall c = (x v : ℕ) × (c ≡ Some (record { key = x; call = Write v }))

abbrev IsReadEntry : Option Entry → ℕ → ℕ → Type 0
IsReadEntry e x v = e ≡ Some (record { key = x; call = Read }, Some (Value v))

write_called : (c : MemoryCall) (call : RegisterCall) → c.call ≡ call
    → IsDecided (IsWriteCall (Some c))
write_called c (Write v) is = inl (c.key, v, λ i. Some (record { key = c.key; call = is i }))
write_called c Read is = inr (λ found.
    let calls = ap (λ (d : MemoryCall). d.call) (same_Some _ _ found.2) in
    let both : Read ≡ Write found.1 = sym is ∙ calls in
    absurd cc)

write_at : (c : Option MemoryCall) → IsDecided (IsWriteCall c)
write_at None = inr (λ found. let is = found.2 in absurd cc)
write_at (Some c) = write_called c c.call refl

read_called : (c : MemoryCall) (call : RegisterCall) (v : ℕ) → c.call ≡ call
    → IsDecided ((x u : ℕ) × IsReadEntry (Some (c, Some (Value v))) x u)
read_called c Read v is = inl (c.key, v, λ i. Some (record { key = c.key; call = is i }, Some (Value v)))
read_called c (Write u) v is = inr (λ found.
    let calls : c.call ≡ Read = ap (λ (e : Entry). e.0.call) (same_Some _ _ found.2) in
    let both : Write u ≡ Read = sym is ∙ calls in
    absurd cc)

read_at : (e : Option Entry) → IsDecided ((x v : ℕ) × IsReadEntry e x v)
read_at None = inr (λ found. let is = found.2 in absurd cc)
read_at (Some (c, None)) = inr (λ found.
    let returns : ◌≡◌ {A = Option RegisterRet} None (Some (Value found.1)) = ap (λ (e : Entry). e.1) (same_Some _ _ found.2) in
    absurd cc)
read_at (Some (c, Some Done)) = inr (λ found.
    let returns : ◌≡◌ {A = Option RegisterRet} (Some Done) (Some (Value found.1)) = ap (λ (e : Entry). e.1) (same_Some _ _ found.2) in
    absurd cc)
read_at (Some (c, Some (Value v))) = read_called c c.call v refl

-- 1 for what is so, 0 for what is not
one_if : {A : Type 0} → A ⊎ ¬ A → ℕ
one_if (inl holds) = 1
one_if (inr fails) = 0

one_if-one : {A : Type 0} (decided : A ⊎ ¬ A) → A → one_if decided ≡ 1
unfolding one_if
one_if-one (inl holds) is = refl
one_if-one (inr fails) is = absurd (fails is)

one_if-only : {A : Type 0} (decided : A ⊎ ¬ A) → one_if decided ≢ 0 → A
unfolding one_if
one_if-only (inl holds) some = holds
one_if-only (inr fails) some = absurd (some refl)

-- what is decided of each operation has a test
pub test-of : (has : OpId → Type 0) → ((a : OpId) → IsDecided (has a)) → (item : OpId → ℕ) × IsTest has item
test-of has decide = (λ a. one_if (decide a), record { one = λ a. one_if-one (decide a); only = λ a. one_if-only (decide a) })

module _ (h : MemoryHistory) where
  write-decided : (a : OpId) → IsDecided ((x v : ℕ) × Writes h a x v)
  write-decided a = write_at (option_map (λ (e : Entry). e.0) (entry h a))

  read-decided : (a : OpId) → IsDecided ((x v : ℕ) × Reads h a x v)
  read-decided a = read_at (entry h a)

  pub writes_number-decided : (variables : List ℕ) (x : ℕ) (a : OpId) → IsDecided (WritesNumber h variables x a)
  writes_number-decided variables x a = ⊎_elim
      (λ (wrote : (y v : ℕ) × Writes h a y v). ⊎_elim
      (λ (same : variable h variables a ≡ x). inl (wrote, same))
      (λ (apart : variable h variables a ≢ x). inr (λ writes. apart writes.1))
      (cases_eq (variable h variables a) x))
      (λ (none : ¬ ((y v : ℕ) × Writes h a y v)). inr (λ writes. none writes.0))
      (write-decided a)

  -- of a write of v to x and a read of u from y, whether the one read from the other
  read_from-cases : (w r : OpId) (x v y u : ℕ) → Writes h w x v → Reads h r y u → IsDecided (ReadsFrom h w r)
  read_from-cases w r x v y u wrote reads = ⊎_elim
      (λ (variables : y ≡ x). ⊎_elim
      (λ (values : u ≡ v). ⊎_elim
      (λ (first : v ≡ initial h x). inr (λ from.
      let same = same_written h w x v from.0 from.1 wrote from.2 in from.4 (sym same.1 ∙ first ∙ ap (initial h) same.0)))
      (λ (other : v ≢ initial h x). inl (x, v, wrote, rw (← variables, ← values) reads, other))
      (cases_eq v (initial h x)))
      (λ (apart : u ≢ v). inr (λ from.
      let written = same_written h w x v from.0 from.1 wrote from.2 in
      let read = same_read h r y u from.0 from.1 reads from.3 in
      apart (read.1 ∙ sym written.1)))
      (cases_eq u v))
      (λ (apart : y ≢ x). inr (λ from.
      let written = same_written h w x v from.0 from.1 wrote from.2 in
      let read = same_read h r y u from.0 from.1 reads from.3 in
      apart (read.0 ∙ sym written.0)))
      (cases_eq y x)

  pub reads_from-decided : (w r : OpId) → IsDecided (ReadsFrom h w r)
  reads_from-decided w r = ⊎_elim
      (λ (wrote : (x v : ℕ) × Writes h w x v). ⊎_elim
      (λ (reads : (y u : ℕ) × Reads h r y u). read_from-cases w r wrote.0 wrote.1 reads.0 reads.1 wrote.2 reads.2)
      (λ (none : ¬ ((y u : ℕ) × Reads h r y u)). inr (λ from. none (from.0, from.1, from.3)))
      (read-decided r))
      (λ (none : ¬ ((x v : ℕ) × Writes h w x v)). inr (λ from. none (from.0, from.1, from.2)))
      (write-decided w)
