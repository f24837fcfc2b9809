-- There is a certificate by sources, where there are vectors of the order by sources.
use Rattle.std.specs.Prelude.{ℕ, ◌<◌, List, [], ◌∷◌, ◌++◌, length, min, Option, Some, None}
use Rattle.std.specs.List.{range_with_len}
use Rattle.std.proofs.Common.{arith, get_or, map, sym, subst, ⊎_elim}
use Rattle.std.proofs.lemmas.List.FromFn.{length-map-range_with_len, get_or-map-range_with_len}
use Rattle.model_history.specs.declared.op_id.OpId.{OpId}
use Rattle.order_memory.specs.Memory.{MemoryHistory, memory_answer}
use Rattle.order_causal.specs.Orders.{op}
use Rattle.order_memory.specs.OverwrittenReads.{HasOverwrittenRead, HasOverwrittenStart}
use Rattle.order_memory.specs.SourceOrder.{CountsSourceOrder, IsCyclic, IsSourceOf, LacksSource}
use Rattle.order_causal.specs.Vectors.{Counts, list_of, count, IsCounted}
use Rattle.order_causal.proofs.EachOperation.{by_operation, by_operation-one_each, list_of-by_operation}
use Rattle.order_memory.proofs.ReadAnswers.{Fits}
use Rattle.order_causal.proofs.Searches.{least, below-decided}
use Rattle.order_memory.proofs.VectorsExist.{source-known, vectors-exist}
use Rattle.order_causal.proofs.WalksExist.{full-walk}
use Rattle.cert_check.specs.declared.certificate.Certificate.TheVariants.{Cc}
use Rattle.cert_check.specs.Criteria.{IsCausallyConsistent}
use Rattle.cert_check.proofs.Sound.{explained-meets}
use Rattle.cert_make_cc.specs.BySources.{IsApart, AreApart, IsScheduleFor, AreBySources}
use Rattle.cert_make_cc.proofs.Explained.{sources-explain}

-- how many operations of a session come before the first whose vector counts w
apart-below : (v : Counts) (w : OpId) (s limit : ℕ) → (n : ℕ) × IsApart v w s limit n
apart-below v w s limit =
    let end = min (length (get_or v s [])) limit in
    ⊎_elim
    (λ (found : (i : ℕ) × (i < end) × IsCounted v (op s i) w × ((j : ℕ) → j < i → ¬ IsCounted v (op s j) w)). (
      found.0,
      record {
        within = let below = found.1 in omega arith;
        uncounted = found.3;
        first = λ below. found.2;
      },
    ))
    (λ (none : (j : ℕ) → j < end → ¬ IsCounted v (op s j) w). (
      end,
      record {
        within = omega arith;
        uncounted = none;
        first = λ below. absurd (omega arith);
      },
    ))
    (least (λ i. IsCounted v (op s i) w) (λ i. below-decided w.index (count v (op s i) w.session)) end)

module _ (v : Counts) (o w : OpId) where
  limit_at : ℕ → ℕ
  limit_at s = (apart-below v w s (count v o s)).0

  limits : List ℕ
  limits = map limit_at (range_with_len 0 (length v))

  are_apart : AreApart v o w limits
  unfolding limits limit_at
  are_apart = record {
    size = length-map-range_with_len limit_at 0 (length v);
    each = λ s below. subst (λ (n : ℕ). IsApart v w s (count v o s) n)
        (sym (get_or-map-range_with_len limit_at 0 (length v) s s 0 below (omega arith))) (apart-below v w s (count v o s)).1;
  }

module _ (h : MemoryHistory) (v : Counts) (order : CountsSourceOrder h v) where
  schedule_by : (o : OpId) (e : Option OpId) → IsSourceOf h o e → (schedule : List ℕ) × IsScheduleFor h v o schedule
  schedule_by o None none =
      let walk = full-walk v (list_of v o) [] in (
        walk.0,
        record { source = None; is_source = none; walk = walk.1 },
      )
  schedule_by o (Some w) source =
      let before = full-walk v (limits v o w) [] in
      let whole = full-walk v (list_of v o) (before.0 ++ w.session ∷ []) in (
        whole.0,
        record {
          source = Some w;
          is_source = source;
          walk = record {
            limits = limits v o w;
            apart = are_apart v o w;
            before = before.0;
            first = before.1;
            rest = whole.1;
          };
        },
      )

  -- a schedule by its source for each operation
  scheduled : (o : OpId) → (schedule : List ℕ) × IsScheduleFor h v o schedule
  scheduled o = let source = source-known h order.sources o in schedule_by o source.0 source.1

  schedules : List (List (List ℕ))
  schedules = by_operation h (λ o. (scheduled o).0)

  are_by_sources : AreBySources h v schedules
  unfolding schedules
  are_by_sources = record {
    order = order;
    each = λ o is_op. subst (λ (schedule : List ℕ). IsScheduleFor h v o schedule)
        (sym (list_of-by_operation h (λ a. (scheduled a).0) o is_op)) (scheduled o).1;
  }

  -- the certificate shows causal consistency, where no read comes too late for what it returned
  certificate-meets : Fits h → ¬ HasOverwrittenStart h → ¬ HasOverwrittenRead h → IsCausallyConsistent memory_answer h
  unfolding schedules
  certificate-meets fits start read = explained-meets memory_answer h (Cc v schedules)
      (order.vectors, by_operation-one_each h (λ o. (scheduled o).0))
      (sources-explain h fits start read (Cc v schedules) are_by_sources)

-- a history with no bad pattern against causal consistency meets it
pub consistency-met : (h : MemoryHistory) → Fits h → ¬ IsCyclic h → ¬ LacksSource h
    → ¬ HasOverwrittenStart h → ¬ HasOverwrittenRead h → IsCausallyConsistent memory_answer h
consistency-met h fits acyclic present =
    let vectors = vectors-exist h acyclic present in certificate-meets h vectors.0 vectors.1 fits
