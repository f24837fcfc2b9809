-- What a history meets it meets with a fork more, with a read more whose return is unknown, and with such a write at the end of a session.
use Rattle.std.proofs.Common.{◌≡◌, ℕ, zero, suc, ◌<◌, ◌≤◌, List, length, refl, ap, sym, subst, ◌∙◌, inl, inr, ⊎_elim, arith}
use Rattle.std.specs.Prelude.{◌≢◌, Option, Some, None, option_map}
use Rattle.std.proofs.lemmas.Bool.{cases_lt}
use Rattle.std.proofs.lemmas.Option.{same_Some}
use Rattle.model_objects.specs.declared.register.RegisterCall.TheVariants.{Write, Read}
use Rattle.model_objects.specs.declared.register.RegisterRet.TheVariants.{Done, Value}
use Rattle.model_history.specs.declared.op_id.OpId.{OpId}
use Rattle.model_history.specs.History.{IsOp, Precedes, session, entry}
use Rattle.order_causal.specs.Orders.{op, StandsAt}
use Rattle.order_causal.proofs.OrdersLaws.{same_op}
use Rattle.order_memory.specs.Memory.{MemoryCall, MemoryHistory, memory_answer, Writes}
use Rattle.order_memory.proofs.LastWrites.{last_write-answers}
use Rattle.order_memory.proofs.MemoryLaws.{entry-call}
use Rattle.cert_check.specs.declared.criterion.Criterion.{Criterion}
use Rattle.cert_check.specs.Criteria.{Meets}
use Rattle.log_events.specs.Histories.{Operation, write, read}
use Rattle.log_events.specs.Insertions.{IsInserted, IsFresh, IsForked}
use Rattle.log_events.proofs.InsertedOperations.{new_place, each-place, entry-inserted, entry-new_place, inserted-op}
use Rattle.log_events.proofs.InsertedOrders.{IsSourceOfInserted}
use Rattle.log_events.proofs.InsertedCriteria.{inserted-meets}

-- the operation before the place s.i, where there is one
abbrev predecessor : ℕ → ℕ → Option OpId
predecessor s zero = None
predecessor s (suc i) = Some (op s i)

predecessor-source : (h : MemoryHistory) (s i : ℕ) → i ≤ length (session h s) → IsSourceOfInserted h s i (predecessor s i)
predecessor-source h s zero inside = record {
  is_op = λ q is. absurd cc;
  covers = λ a is_op same below. absurd (omega arith);
  ahead = λ q is. absurd cc;
}
predecessor-source h s (suc i) inside = record {
  is_op = λ q is. let there : i < length (session h s) = omega arith in subst (λ (b : OpId). IsOp h b) (same_Some _ _ is) there;
  covers = λ a is_op same below. (
    op s i,
    refl,
    ⊎_elim
        (λ (less : a.index < i). inr (same, less))
        (λ (most : i ≤ a.index). inl (same_op a (op s i) same (omega arith)))
        (cases_lt a.index i),
  );
  ahead = λ q is is_op. subst (λ (b : OpId). Precedes b (op s (suc i))) (same_Some _ _ is) (refl, omega arith);
}

-- a write whose return is unknown, at the end of a session
pub last-inserted : (h whole : MemoryHistory) (s i x v : ℕ) → i ≡ length (session h s) → IsInserted h whole s i (write x v None)
    → (criterion : Criterion) → Meets memory_answer h criterion → Meets memory_answer whole criterion
last-inserted h whole s i x v end more =
    inserted-meets h whole s i (write x v None) more (predecessor s i) (predecessor-source h s i more.inside) (record {
      quiet = λ is_op. absurd (omega arith);
      anywhere = λ is_op r is. absurd cc;
      own = λ r is. absurd cc;
    })

-- a read whose return is unknown, anywhere
pub open_read-inserted : (h whole : MemoryHistory) (s i x : ℕ) → IsInserted h whole s i (read x None)
    → (criterion : Criterion) → Meets memory_answer h criterion → Meets memory_answer whole criterion
open_read-inserted h whole s i x more =
    inserted-meets h whole s i (read x None) more (predecessor s i) (predecessor-source h s i more.inside) (record {
      quiet = λ _ a d at. inr refl;
      anywhere = λ _ r is. absurd cc;
      own = λ r is. absurd cc;
    })

-- the write of a fresh mark
mark-inserted : (h whole : MemoryHistory) (s i m : ℕ) → IsFresh h m → IsInserted h whole s i (write m 1 (Some Done))
    → (criterion : Criterion) → Meets memory_answer h criterion → Meets memory_answer whole criterion
mark-inserted h whole s i m fresh more =
    inserted-meets h whole s i (write m 1 (Some Done)) more (predecessor s i) (predecessor-source h s i more.inside) (record {
      quiet = λ _ a d at. inl (λ same. fresh.unused a d at (sym same));
      anywhere = λ _ r is cs. sym (same_Some _ _ is);
      own = λ r is ops _ _. sym (same_Some _ _ is);
    })

-- the read of the mark, in a session of its own
module _ (h marked joined : MemoryHistory) (s i t m : ℕ) (fresh : IsFresh h m) (first : IsInserted h marked s i (write m 1 (Some Done)))
    (alone : length (session marked t) ≡ 0) (second : IsInserted marked joined t 0 (read m (Some (Value 1)))) where
  -- the mark is written once
  mark-writer : (a : OpId) (u : ℕ) → Writes joined a m u → a ≡ new_place t 0 (op s i)
  mark-writer = each-place t 0 (λ (a : OpId). (u : ℕ) → Writes joined a m u → a ≡ new_place t 0 (op s i))
      (λ u wrote.
      let here : Writes joined (op t 0) m u = wrote in
      let call : option_map (λ (d : Operation). d.0) (Some (read m (Some (Value 1)))) ≡ Some (record { key = m; call = Write u }) =
      ap (option_map (λ (d : Operation). d.0)) (sym (entry-inserted marked joined t 0 (read m (Some (Value 1))) second)) ∙ here in
      let wrong : Read ≡ Write u = ap (λ (c : MemoryCall). c.call) (same_Some _ _ call) in absurd cc)
      (each-place s i (λ (b : OpId). (u : ℕ) → Writes joined (new_place t 0 b) m u → new_place t 0 b ≡ new_place t 0 (op s i))
      (λ u wrote. refl)
      (λ b u wrote.
      let there = entry-call (entry joined (new_place t 0 (new_place s i b))) _ wrote in
      let in_h : entry h b ≡ Some (record { key = m; call = Write u }, there.0) =
      sym (entry-new_place h marked s i (write m 1 (Some Done)) first b) ∙ sym (entry-new_place marked joined t 0 (read m (Some (Value 1))) second (new_place s i b)) ∙ there.1 in
      absurd (fresh.unused b _ in_h refl)))

  mark-written : Writes joined (new_place t 0 (op s i)) m 1
  mark-written = ap (option_map (λ (d : Operation). d.0))
      (entry-new_place marked joined t 0 (read m (Some (Value 1))) second (op s i) ∙ entry-inserted h marked s i (write m 1 (Some Done)) first)

  mark_read-inserted : (criterion : Criterion) → Meets memory_answer marked criterion → Meets memory_answer joined criterion
  mark_read-inserted =
      inserted-meets marked joined t 0 (read m (Some (Value 1))) second (Some (op s i)) (record {
        is_op = λ q is. subst (λ (b : OpId). IsOp marked b) (same_Some _ _ is) (inserted-op h marked s i (write m 1 (Some Done)) first);
        covers = λ a is_op same below. absurd (omega arith);
        ahead = λ q is is_op. absurd (omega arith);
      }) (record {
        quiet = λ is_op. absurd (omega arith);
        anywhere = λ is_op. absurd (omega arith);
        own = λ r is ops stands once.
            let place = stands (op s i) refl in
            sym (same_Some _ _ is)
            ∙ last_write-answers joined m ops (new_place t 0 (op s i)) 1 (record {
              place = place.0;
              stands = place.1;
              writes = mark-written;
              last = λ k a u at wrote.
                  let same = mark-writer a u wrote in
                  let one : k ≡ place.0 = once k place.0 a at (subst (λ (b : OpId). StandsAt ops place.0 b) (sym same) place.1) in omega arith;
            });
      })

-- the whole fork
pub fork-inserted : (h whole : MemoryHistory) (s i t m x v : ℕ) → IsForked h whole s i t m x v → IsFresh h m
    → (criterion : Criterion) → Meets memory_answer h criterion → Meets memory_answer whole criterion
fork-inserted h whole s i t m x v forked fresh criterion met =
    let other : t ≢ s = λ same. forked.apart (sym same) in
    let alone : length (session forked.marked t) ≡ 0 = ap (λ (es : List Operation). length es) (forked.mark_written.others t other) ∙ forked.alone in
    let one : length (session forked.joined t) ≡ suc (length (session forked.marked t)) = ap (λ (es : List Operation). length es) forked.mark_read.here in
    last-inserted forked.joined whole t 1 x v (omega arith) forked.value_written criterion
    (mark_read-inserted h forked.marked forked.joined s i t m fresh forked.mark_written alone forked.mark_read criterion
    (mark-inserted h forked.marked s i m fresh forked.mark_written criterion met))
