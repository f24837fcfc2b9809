-- Writes of variables, counted one after the other.
use Rattle.std.specs.Prelude.{◌≡◌, ◌≢◌, ◌⊎◌, ℕ, ◌+◌, ◌<◌, ◌≤◌, List, slice_index_or}
use Rattle.std.proofs.Common.{arith, refl, sym, ap, subst, inl, inr, ⊎_elim, ◌∙◌}
use Rattle.std.proofs.lemmas.Bool.{cases_eq}
use Rattle.model_history.specs.declared.op_id.OpId.{OpId}
use Rattle.model_history.specs.History.{IsOp, number}
use Rattle.order_memory.specs.Memory.{MemoryHistory, initial, Writes}
use Rattle.order_memory.proofs.MemoryLaws.{same_read, same_written, write-of_history, write-or_read}
use Rattle.judge_memory.specs.Steps.{many}
use Rattle.judge_memory.proofs.Numbers.{number-all, number-once}
use Rattle.judge_memory.specs.declared.part.Part.{Part}
use Rattle.judge_memory.specs.declared.part.Part.TheVariants as parts
use Rattle.judge_memory.specs.Parts.{AreVariables, IsPart}
use Rattle.judge_session_orders.specs.LoneSources.{CountsWrites, IsLone}
use Rattle.judge_session_orders.specs.Tables.{WritesNumber}

module _ (h : MemoryHistory) (variables : List ℕ) (n : ℕ) (counts made : List ℕ) (now : CountsWrites h variables n counts) where
  earlier : (a : OpId) → number h a < n + 1 → number h a ≢ n → number h a < n
  earlier a below apart = omega arith

  -- the operation with the number n writes the variable y
  module _ (o : OpId) (is_op : IsOp h o) (at_n : number h o ≡ n) (y : ℕ) (of : slice_index_or variables (number h o) 0 ≡ y)
      (more : slice_index_or made y 0 ≡ slice_index_or counts y 0 + 1)
      (others : (x : ℕ) → x ≢ y → slice_index_or made x 0 ≡ slice_index_or counts x 0) where
    grows : (x : ℕ) → (slice_index_or counts x 0 ≤ slice_index_or made x 0) × (slice_index_or made x 0 ≤ slice_index_or counts x 0 + 1)
    grows x = ⊎_elim
        (λ (same : x ≡ y).
        let old = ap (λ (z : ℕ). slice_index_or counts z 0) same in
        let new = ap (λ (z : ℕ). slice_index_or made z 0) same in
        (omega arith, omega arith))
        (λ (apart : x ≢ y). let kept = others x apart in (omega arith, omega arith))
        (cases_eq x y)

    -- it counts for the variable that it writes
    itself : (x : ℕ) (a : OpId) → IsOp h a → number h a ≡ n → WritesNumber h variables x a
        → slice_index_or made x 0 ≡ slice_index_or counts x 0 + 1
    itself x a is_a at_a wrote =
        let same = number-once h a o is_a is_op (at_a ∙ sym at_n) in
        let variable : x ≡ y = sym wrote.1 ∙ ap (λ (q : OpId). slice_index_or variables (number h q) 0) same ∙ of in
        subst (λ (z : ℕ). slice_index_or made z 0 ≡ slice_index_or counts z 0 + 1) (sym variable) more

    none-now : (x : ℕ) (a : OpId) → IsOp h a → number h a < n + 1 → WritesNumber h variables x a → slice_index_or made x 0 ≢ 0
    none-now x a is_a below wrote same = ⊎_elim
        (λ (here : number h a ≡ n). let one = itself x a is_a here wrote in omega arith)
        (λ (apart : number h a ≢ n).
        let up = (grows x).0 in
        let some = now.none x a is_a (earlier a below apart) wrote in
        some (omega arith))
        (cases_eq (number h a) n)

    one-now : (x : ℕ) (a b : OpId) → IsOp h a → IsOp h b → number h a < n + 1 → number h b < n + 1 → WritesNumber h variables x a
        → WritesNumber h variables x b → slice_index_or made x 0 ≤ 1 → a ≡ b
    one-now x a b is_a is_b below_a below_b wrote_a wrote_b most = ⊎_elim
        (λ (here : number h a ≡ n). ⊎_elim
        (λ (there : number h b ≡ n). number-once h a b is_a is_b (here ∙ sym there))
        (λ (apart : number h b ≢ n).
        let one = itself x a is_a here wrote_a in
        absurd (now.none x b is_b (earlier b below_b apart) wrote_b (omega arith)))
        (cases_eq (number h b) n))
        (λ (apart_a : number h a ≢ n). ⊎_elim
        (λ (there : number h b ≡ n).
        let one = itself x b is_b there wrote_b in
        absurd (now.none x a is_a (earlier a below_a apart_a) wrote_a (omega arith)))
        (λ (apart : number h b ≢ n).
        let up = (grows x).0 in
        now.one x a b is_a is_b (earlier a below_a apart_a) (earlier b below_b apart) wrote_a wrote_b (omega arith))
        (cases_eq (number h b) n))
        (cases_eq (number h a) n)

    pub counts-more : CountsWrites h variables (n + 1) made
    counts-more = record {
      most = λ x. let up = (grows x).1 in let old = now.most x in omega arith;
      none = none-now;
      one = one-now;
    }

-- the operation with the number n writes nothing
pub counts-same : (h : MemoryHistory) (variables : List ℕ) (n : ℕ) (counts : List ℕ) → CountsWrites h variables n counts
    → ((a : OpId) → IsOp h a → number h a ≡ n → (x v : ℕ) → ¬ Writes h a x v) → CountsWrites h variables (n + 1) counts
counts-same h variables n counts now unwritten =
    let earlier : (a : OpId) (x : ℕ) → IsOp h a → number h a < n + 1 → WritesNumber h variables x a → number h a < n =
    λ a x is_a below wrote. ⊎_elim
    (λ (here : number h a ≡ n). absurd (unwritten a is_a here wrote.0.0 wrote.0.1 wrote.0.2))
    (λ (apart : number h a ≢ n). omega arith)
    (cases_eq (number h a) n) in
    record {
      most = λ x. let old = now.most x in omega arith;
      none = λ x a is_a below wrote. now.none x a is_a (earlier a x is_a below wrote) wrote;
      one = λ x a b is_a is_b below_a below_b wrote_a wrote_b.
          now.one x a b is_a is_b (earlier a x is_a below_a wrote_a) (earlier b x is_b below_b wrote_b) wrote_a wrote_b;
    }

module _ (h : MemoryHistory) where
  -- what does not write
  pub unwritten : (o : OpId) (p : Part) → IsPart h o p → p ≢ parts.Write → (x v : ℕ) → ¬ Writes h o x v
  unwritten o parts.Write is apart x v wrote = apart refl
  unwritten o (parts.SourcedRead n) (w, from, at) apart x v wrote = write-or_read h o o x v from.0 from.1 wrote from.3 refl
  unwritten o parts.InitialRead (y, reads) apart x v wrote = write-or_read h o o x v y (initial h y) wrote reads refl
  unwritten o parts.ThinAirRead (y, u, reads, other, none) apart x v wrote = write-or_read h o o x v y u wrote reads refl
  unwritten o parts.UnknownRead (none, unread) apart x v wrote = none x v wrote

  -- a read of a written value that no other write of the variable has
  pub sourced-lone : (variables : List ℕ) → AreVariables h variables → (counts : List ℕ) → CountsWrites h variables (many h) counts
      → (o : OpId) (n : ℕ) → IsPart h o (parts.SourcedRead n) → slice_index_or counts (slice_index_or variables (number h o) 0) 0 ≤ 1
      → IsLone h o
  sourced-lone variables by_key counts counted o n (s, found, at) few =
      let numbered : (a : OpId) (v : ℕ) → Writes h a found.0 v → WritesNumber h variables (slice_index_or variables (number h o) 0) a =
      λ a v wrote. ((found.0, v, wrote), (by_key a o found.0 found.0 (v, inl wrote) (found.1, inr found.3)).1 refl) in
      record {
        unsourced = λ x reads.
            let same = same_read h o found.0 found.1 x (initial h x) found.3 reads in
            found.4 (same.1 ∙ ap (initial h) (sym same.0));
        lone = λ w a from rivals.
            let (x, u, v, first, second) = rivals.1 in
            let read = same_read h o from.0 from.1 found.0 found.1 from.3 found.3 in
            let key = (same_written h w x v from.0 from.1 second from.2).0 ∙ read.0 in
            let wrote_a = subst (λ (z : ℕ). Writes h a z u) key first in
            let wrote_w = subst (λ (z : ℕ). Writes h w z v) key second in
            let is_a = write-of_history h a found.0 u wrote_a in
            let is_w = write-of_history h w found.0 v wrote_w in
            rivals.0 (counted.one (slice_index_or variables (number h o) 0) a w is_a is_w (number-all h a is_a) (number-all h w is_w)
            (numbered a u wrote_a) (numbered w v wrote_w) few);
      }

  -- a write, and a read that is not known or of no write
  pub silent-lone : (o : OpId) (p : Part) → IsPart h o p → (p ≡ parts.Write) ⊎ ((p ≡ parts.ThinAirRead) ⊎ (p ≡ parts.UnknownRead)) → IsLone h o
  silent-lone o parts.Write (y, u, writes) either = record {
    unsourced = λ x reads. write-or_read h o o y u x (initial h x) writes reads refl;
    lone = λ w a found rivals. write-or_read h o o y u found.0 found.1 writes found.3 refl;
  }
  silent-lone o (parts.SourcedRead n) part either = absurd (⊎_elim
      (λ (bad : parts.SourcedRead n ≡ parts.Write). cc)
      (λ (rest : (parts.SourcedRead n ≡ parts.ThinAirRead) ⊎ (parts.SourcedRead n ≡ parts.UnknownRead)). ⊎_elim
      (λ (bad : parts.SourcedRead n ≡ parts.ThinAirRead). cc)
      (λ (bad : parts.SourcedRead n ≡ parts.UnknownRead). cc)
      rest)
      either)
  silent-lone o parts.InitialRead part either = absurd (⊎_elim
      (λ (bad : parts.InitialRead ≡ parts.Write). cc)
      (λ (rest : (parts.InitialRead ≡ parts.ThinAirRead) ⊎ (parts.InitialRead ≡ parts.UnknownRead)). ⊎_elim
      (λ (bad : parts.InitialRead ≡ parts.ThinAirRead). cc)
      (λ (bad : parts.InitialRead ≡ parts.UnknownRead). cc)
      rest)
      either)
  silent-lone o parts.ThinAirRead (y, u, reads, other, none) either = record {
    unsourced = λ x again. let same = same_read h o x (initial h x) y u again reads in other (sym same.1 ∙ ap (initial h) same.0);
    lone = λ w a found rivals.
        let same = same_read h o found.0 found.1 y u found.3 reads in
        none w (subst (λ (z : ℕ). Writes h w z u) same.0 (subst (λ (z : ℕ). Writes h w found.0 z) same.1 found.2));
  }
  silent-lone o parts.UnknownRead (none, unread) either = record {
    unsourced = λ x reads. unread x (initial h x) reads;
    lone = λ w a found rivals. unread found.0 found.1 found.3;
  }
