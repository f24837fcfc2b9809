-- The table of the last writes of a session, as its operations are visited.
use Rattle.std.specs.Prelude.{◌≡◌, ◌≢◌, ◌⊎◌, ◌↔◌, ℕ, ◌+◌, ◌<◌, ◌≤◌, Option, None, Some, length, option_map}
use Rattle.std.proofs.Common.{zero, suc, arith, refl, ap, sym, ◌∙◌, subst, inl, inr, ⊎_elim, eq-or-lt_of_le}
use Rattle.std.proofs.lemmas.Bool.{cases_eq}
use Rattle.std.proofs.lemmas.Option.{same_Some}
use Rattle.model_objects.specs.declared.register.RegisterCall.{RegisterCall}
use Rattle.model_objects.specs.declared.register.RegisterCall.TheVariants.{Write, Read}
use Rattle.model_objects.specs.declared.register.RegisterRet.{RegisterRet}
use Rattle.model_history.specs.declared.op_id.OpId.{OpId}
use Rattle.model_history.specs.History.{IsOp, entry, many_before, number, session}
use Rattle.order_causal.specs.Orders.{op}
use Rattle.order_causal.proofs.OrdersLaws.{same_op}
use Rattle.order_causal.proofs.Searches.{IsDecided, both-decided, below-decided}
use Rattle.order_memory.specs.Memory.{MemoryCall, MemoryHistory}
use Rattle.order_memory.proofs.MemoryLaws.{same_written, write-of_history}
use Rattle.judge_columns.specs.LastWrites.{WritesTo, AreWrites, IsLastIn, IsLastTable}
use Rattle.judge_memory.proofs.Numbers.{number-once, number-session}

module _ (h : MemoryHistory) (writes : ℕ → OpId → Type 0) (are : AreWrites h writes) where
  -- an empty table is right at the first number of a session
  pub table-empty : (t : ℕ) (table : ℕ → ℕ) → ((x : ℕ) → table x ≡ 0) → IsLastTable h writes t (many_before h t) table
  table-empty t table empty = record {
    written = λ x n is. let none = empty x in absurd (omega arith);
    latest = λ x b of_t wrote below. let start = ap (many_before h) of_t in absurd (omega arith);
  }

  module _ (t at : ℕ) (table : ℕ → ℕ) (now : IsLastTable h writes t at table) (o : OpId) (is_op : IsOp h o) (here : number h o ≡ at) where
    -- a write below the next number is o, or below this one
    write-cases : (x : ℕ) (b : OpId) → writes x b → number h b < at + 1 → (b ≡ o) ⊎ (number h b < at)
    write-cases x b wrote below = ⊎_elim
        (λ (same : number h b ≡ at). inl (number-once h b o (are.is_op x b wrote) is_op (same ∙ sym here)))
        (λ (apart : number h b ≢ at). inr (omega arith))
        (cases_eq (number h b) at)

    -- a write is put into the place of its variable
    module _ (made : ℕ → ℕ) (x : ℕ) (wrote_o : writes x o) (put : made x ≡ at + 1) (others : (y : ℕ) → y ≢ x → made y ≡ table y) where
      latest-put : (y : ℕ) (b : OpId) → b.session ≡ t → writes y b → number h b < at + 1 → (number h b < made y) × (made y ≤ at + 1)
      latest-put y b of_t wrote below = ⊎_elim
          (λ (same : y ≡ x). let value = ap made same in (omega arith, omega arith))
          (λ (apart : y ≢ x). ⊎_elim
          (λ (itself : b ≡ o). absurd (apart (are.one y x o (subst (writes y) itself wrote) wrote_o)))
          (λ (less : number h b < at).
          let found = now.latest y b of_t wrote less in
          let above = found.0 in
          let up_to = found.1 in
          let kept = others y apart in
          (omega arith, omega arith))
          (write-cases y b wrote below))
          (cases_eq y x)

      pub table-write : IsLastTable h writes t (at + 1) made
      table-write = record {
        written = λ y n is. ⊎_elim
            (λ (same : y ≡ x).
            let value = ap made same in
            let number_of : at ≡ n = omega arith in
            (o, subst (λ (z : ℕ). writes z o) (sym same) wrote_o, here ∙ number_of))
            (λ (apart : y ≢ x). now.written y n (sym (others y apart) ∙ is))
            (cases_eq y x);
        latest = latest-put;
      }

    -- any other operation leaves the table as it is
    pub table-other : ((x : ℕ) → ¬ writes x o) → IsLastTable h writes t (at + 1) table
    table-other none = record {
      written = now.written;
      latest = λ y b of_t wrote below. ⊎_elim
          (λ (itself : b ≡ o). absurd (none y (subst (writes y) itself wrote)))
          (λ (less : number h b < at).
          let found = now.latest y b of_t wrote less in
          let up_to = found.1 in
          (found.0, omega arith))
          (write-cases y b wrote below);
    }

  module _ (t at : ℕ) (table : ℕ → ℕ) (now : IsLastTable h writes t at table) (inside : at ≤ many_before h (t + 1)) where
    -- what the table has of the session is the last write below
    pub look-some : (x n : ℕ) → table x ≡ n + 1 → many_before h t ≤ n → n < at → (a : OpId) × IsLastIn h writes t x at a × (number h a ≡ n)
    look-some x n is from below =
        let found = now.written x n is in
        let same = found.2 in (
          found.0,
          record {
            of_session = number-session h found.0 t (are.is_op x found.0 found.1) (omega arith) (omega arith);
            wrote = found.1;
            below = omega arith;
            last = λ b of_t wrote less. let up_to = (now.latest x b of_t wrote less).0 in omega arith;
          },
          same,
        )

    -- where it has nothing of the session, there is no write
    pub look-none : (x : ℕ) → ¬ ((many_before h t < table x) × (table x ≤ at)) → (a : OpId) → ¬ IsLastIn h writes t x at a
    look-none x none a is =
        let found = now.latest x a is.of_session is.wrote is.below in
        let start = ap (many_before h) is.of_session in
        let above = found.0 in
        none (omega arith, found.1)

  -- there is at most one last write
  pub last-once : (t x at : ℕ) (a b : OpId) → IsLastIn h writes t x at a → IsLastIn h writes t x at b → a ≡ b
  last-once t x at a b first second =
      let up = second.last a first.of_session first.wrote first.below in
      let down = first.last b second.of_session second.wrote second.below in
      number-once h a b (are.is_op x a first.wrote) (are.is_op x b second.wrote) (omega arith)

  -- where there is a write, there is a last one
  module _ (t x at : ℕ) (decide : (a : OpId) → IsDecided (writes x a)) where
    abbrev Found : ℕ → Type 0
    Found i = writes x (op t i) × (number h (op t i) < at)

    greatest : (n : ℕ) → ((i : ℕ) × Found i × ((j : ℕ) → j < n → Found j → j ≤ i)) ⊎ ((j : ℕ) → j < n → ¬ Found j)
    greatest zero = inr (λ j below. absurd (omega arith))
    greatest (suc n) = ⊎_elim
        (λ (this : Found n). inl (n, this, λ j below _. omega arith))
        (λ (not_this : ¬ Found n). ⊎_elim
        (λ (found : (i : ℕ) × Found i × ((j : ℕ) → j < n → Found j → j ≤ i)). inl (
          found.0,
          found.1,
          λ j below is. ⊎_elim
              (λ (end : j ≡ n). absurd (not_this (subst Found end is)))
              (λ (before : j < n). found.2 j before is)
              (let up_to : j ≤ n = omega arith in eq-or-lt_of_le up_to),
        ))
        (λ (none : (j : ℕ) → j < n → ¬ Found j). inr (λ j below is. ⊎_elim
        (λ (end : j ≡ n). not_this (subst Found end is))
        (λ (before : j < n). none j before is)
        (let up_to : j ≤ n = omega arith in eq-or-lt_of_le up_to)))
        (greatest n))
        (both-decided (writes x (op t n)) (number h (op t n) < at) (decide (op t n)) (below-decided (number h (op t n)) at))

    found-from : (b : OpId) → b.session ≡ t → writes x b → number h b < at → Found b.index
    found-from b of_t wrote below =
        let same : b ≡ op t b.index = same_op b (op t b.index) of_t refl in
        subst (λ (q : OpId). writes x q × (number h q < at)) same (wrote, below)

    pub last-exists : (b : OpId) → b.session ≡ t → writes x b → number h b < at → (a : OpId) × IsLastIn h writes t x at a
    last-exists b of_t wrote below = ⊎_elim
        (λ (found : (i : ℕ) × Found i × ((j : ℕ) → j < length (session h t) → Found j → j ≤ i)). (
          op t found.0,
          record {
            of_session = refl;
            wrote = found.1.0;
            below = found.1.1;
            last = λ c of_c wrote_c below_c.
                let size = ap (λ (s : ℕ). length (session h s)) of_c in
                let start = ap (many_before h) of_c in
                let is_op : IsOp h c = are.is_op x c wrote_c in
                let up_to = found.2 c.index (omega arith) (found-from c of_c wrote_c below_c) in
                omega arith;
          },
        ))
        (λ (none : (j : ℕ) → j < length (session h t) → ¬ Found j).
        let size = ap (λ (s : ℕ). length (session h s)) of_t in
        let is_op : IsOp h b = are.is_op x b wrote in
        absurd (none b.index (omega arith) (found-from b of_t wrote below)))
        (greatest (length (session h t)))

-- with other names for the variables the last write is the same
pub last-renamed : (h : MemoryHistory) (here there : ℕ → OpId → Type 0) (x y : ℕ) → ((a : OpId) → here x a ↔ there y a)
    → (t at : ℕ) (a : OpId) → IsLastIn h here t x at a → IsLastIn h there t y at a
last-renamed h here there x y same t at a is = record {
  of_session = is.of_session;
  wrote = (same a).0 is.wrote;
  below = is.below;
  last = λ b of_t wrote below. is.last b of_t ((same b).1 wrote) below;
}

-- the operations that write a variable are such writes, and it is decided which they are
pub are-writes : (h : MemoryHistory) → AreWrites h (WritesTo h)
are-writes h = record {
  is_op = λ x a wrote. write-of_history h a x wrote.0 wrote.1;
  one = λ x y a first second. (same_written h a x first.0 y second.0 first.1 second.1).0;
}

call-cases : (call : RegisterCall) → IsDecided ((v : ℕ) × (call ≡ Write v))
call-cases (Write v) = inl (v, refl)
call-cases Read = inr (λ is. (let same = is.1 in absurd cc))

write-decided : (c : Option MemoryCall) (x : ℕ) → IsDecided ((v : ℕ) × (c ≡ Some (record { key = x; call = Write v })))
write-decided None x = inr (λ is. (let same = is.1 in absurd cc))
write-decided (Some c) x = ⊎_elim
    (λ (same : c.key ≡ x). ⊎_elim
    (λ (is : (v : ℕ) × (c.call ≡ Write v)). inl (is.0, λ i. Some (record { key = same i; call = is.1 i })))
    (λ (other : ¬ ((v : ℕ) × (c.call ≡ Write v))). inr (λ is. other (is.0, ap (λ (d : MemoryCall). d.call) (same_Some _ _ is.1))))
    (call-cases c.call))
    (λ (other : c.key ≢ x). inr (λ is. other (ap (λ (d : MemoryCall). d.key) (same_Some _ _ is.1))))
    (cases_eq c.key x)

pub writes-decided : (h : MemoryHistory) (x : ℕ) (a : OpId) → IsDecided (WritesTo h x a)
writes-decided h x a = write-decided (option_map (λ (e : MemoryCall × Option RegisterRet). e.0) (entry h a)) x
