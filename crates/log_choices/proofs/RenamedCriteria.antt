-- A memory history with other values meets the same criteria.
use Rattle.std.proofs.Common.{◌≡◌, ℕ, true, false, List, [], ◌∷◌, map, take, refl, ap, sym, subst, ◌∙◌}
use Rattle.std.specs.Prelude.{◌==◌, if◌then◌else◌, Option, Some, None, option_map, filter, nat_lt}
use Rattle.std.specs.List.{cons_option}
use Rattle.std.proofs.lemmas.Option.{same_Some}
use Rattle.model_objects.specs.Keyed.{calls_at}
use Rattle.model_objects.specs.Register.{last_written, answer}
use Rattle.model_objects.specs.declared.register.RegisterCall.{RegisterCall}
use Rattle.model_objects.specs.declared.register.RegisterCall.TheVariants.{Write, Read}
use Rattle.model_objects.specs.declared.register.RegisterRet.{RegisterRet}
use Rattle.model_objects.specs.declared.register.RegisterRet.TheVariants.{Done, Value}
use Rattle.model_history.specs.declared.op_id.OpId.{OpId}
use Rattle.model_history.specs.History.{entry, calls}
use Rattle.order_causal.specs.Orders.{Ops, Order, IsLinearization}
use Rattle.order_memory.specs.Memory.{MemoryCall, MemoryHistory, memory_answer, initial}
use Rattle.cert_check.specs.declared.criterion.Criterion.{Criterion}
use Rattle.cert_check.specs.declared.criterion.Criterion.TheVariants.{Cc, Cm, Ccv}
use Rattle.cert_check.specs.Criteria.{every, IsCausalOrder, Explains, ExplainsEachPast, Meets}
use Rattle.log_events.specs.Histories.{Operation}
use Rattle.log_choices.proofs.RenamedHistories.{renamed_call, renamed_return, renamed_keyed, renamed_operation, renamed, renamed-length, renamed-entry, renamed-op, op-renamed, renamed-initial, renamed-at, at-renamed}

module _ (rename : ℕ → ℕ) where
  written-renamed : (s : ℕ) (cs : List RegisterCall) → last_written (rename s) (map (renamed_call rename) cs) ≡ rename (last_written s cs)
  written-renamed s [] = refl
  written-renamed s (Write v ∷ cs) = written-renamed v cs
  written-renamed s (Read ∷ cs) = written-renamed s cs

  answer-renamed : (s : ℕ) (cs : List RegisterCall) (c : RegisterCall)
      → answer (rename s) (map (renamed_call rename) cs) (renamed_call rename c) ≡ renamed_return rename (answer s cs c)
  answer-renamed s cs (Write v) = refl
  answer-renamed s cs Read = ap Value (written-renamed s cs)

  calls_at-renamed : (x : ℕ) (cs : List MemoryCall) → calls_at x (map (renamed_keyed rename) cs) ≡ map (renamed_call rename) (calls_at x cs)
  calls_at-renamed x [] = refl
  calls_at-renamed x (c ∷ cs) =
      elim (c.key == x) as (λ b.
      map (λ (d : MemoryCall). d.call) (if b then (renamed_keyed rename c ∷ filter (λ (d : MemoryCall). d.key == x) (map (renamed_keyed rename) cs)) else filter (λ (d : MemoryCall). d.key == x) (map (renamed_keyed rename) cs))
      ≡ map (renamed_call rename) (map (λ (d : MemoryCall). d.call) (if b then (c ∷ filter (λ (d : MemoryCall). d.key == x) cs) else filter (λ (d : MemoryCall). d.key == x) cs))) [
        | true ↦ ap (λ (l : List RegisterCall). renamed_call rename c.call ∷ l) (calls_at-renamed x cs)
        | false ↦ calls_at-renamed x cs
      ]

  return-once : ((u v : ℕ) → rename u ≡ rename v → u ≡ v) → (r s : RegisterRet) → renamed_return rename r ≡ renamed_return rename s → r ≡ s
  return-once once Done Done same = refl
  return-once once Done (Value v) same = absurd cc
  return-once once (Value u) Done same = absurd cc
  return-once once (Value u) (Value v) same = let values : rename u ≡ rename v = cc in ap Value (once u v values)

  module _ (h : MemoryHistory) (zero_same : rename 0 ≡ 0) (once : (u v : ℕ) → rename u ≡ rename v → u ≡ v) where
    abbrev other : MemoryHistory
    other = renamed rename h

    calls-renamed : (ops : List OpId) → calls other ops ≡ map (renamed_keyed rename) (calls h ops)
    calls-renamed [] = refl
    calls-renamed (o ∷ ops) =
        (λ i. cons_option (option_map (λ (e : Operation). e.0) (renamed-entry rename h o i)) (calls-renamed ops i)) ∙ front (entry h o)
      where
        front : (e : Option Operation)
            → cons_option (option_map (λ (e : Operation). e.0) (option_map (renamed_operation rename) e)) (map (renamed_keyed rename) (calls h ops))
            ≡ map (renamed_keyed rename) (cons_option (option_map (λ (e : Operation). e.0) e) (calls h ops))
        front None = refl
        front (Some e) = refl

    answers-renamed : (ops : List OpId) (c : MemoryCall)
        → memory_answer other.0 (calls other ops) (renamed_keyed rename c) ≡ renamed_return rename (memory_answer h.0 (calls h ops) c)
    answers-renamed ops c =
        (λ i. answer (renamed-initial rename h zero_same c.key i) (calls_at c.key (calls-renamed ops i)) (renamed_call rename c.call))
        ∙ ap (λ (l : List RegisterCall). answer (rename (initial h c.key)) l (renamed_call rename c.call)) (calls_at-renamed c.key (calls h ops))
        ∙ answer-renamed (initial h c.key) (calls_at c.key (calls h ops)) c.call

    explains-renamed : (ops : List OpId) (set : Ops) → Explains memory_answer h ops set → Explains memory_answer other ops set
    explains-renamed ops set explains k o c r at inside is =
        let (e, there, same) = at-renamed rename h o (c, Some r) is in
        known e.0 e.1 there same
      where
        known : (d : MemoryCall) (known : Option RegisterRet) → entry h o ≡ Some (d, known)
            → ◌≡◌ {A = Operation} (c, Some r) (renamed_operation rename (d, known)) → r ≡ memory_answer other.0 (calls other (take k ops)) c
        known d None there same = let wrong : ◌≡◌ {A = Option RegisterRet} (Some r) None = ap (λ (e : Operation). e.1) same in absurd cc
        known d (Some s) there same =
            let returns : r ≡ renamed_return rename s = same_Some _ _ (ap (λ (e : Operation). e.1) same) in
            let called : c ≡ renamed_keyed rename d = ap (λ (e : Operation). e.0) same in
            returns ∙ ap (renamed_return rename) (explains k o d s at inside there) ∙ sym (answers-renamed (take k ops) d)
            ∙ ap (memory_answer other.0 (calls other (take k ops))) (sym called)

    renamed-explains : (ops : List OpId) (set : Ops) → Explains memory_answer other ops set → Explains memory_answer h ops set
    renamed-explains ops set explains k o c r at inside is =
        return-once once r (memory_answer h.0 (calls h (take k ops)) c)
        (explains k o (renamed_keyed rename c) (renamed_return rename r) at inside (renamed-at rename h o _ is) ∙ answers-renamed (take k ops) c)

    every-renamed : every other ≡ every h
    every-renamed = λ i a. nat_lt a.index (renamed-length rename h a.session i)

    causal-renamed : (co : Order) → IsCausalOrder h co → IsCausalOrder other co
    causal-renamed co causal = record {
      of_history = λ a b before. let r = causal.of_history a b before in (renamed-op rename h a r.0, renamed-op rename h b r.1);
      transitive = causal.transitive;
      irreflexive = causal.irreflexive;
      program_order = λ a b is_op before. causal.program_order a b (op-renamed rename h b is_op) before;
    }

    renamed-causal : (co : Order) → IsCausalOrder other co → IsCausalOrder h co
    renamed-causal co causal = record {
      of_history = λ a b before. let r = causal.of_history a b before in (op-renamed rename h a r.0, op-renamed rename h b r.1);
      transitive = causal.transitive;
      irreflexive = causal.irreflexive;
      program_order = λ a b is_op before. causal.program_order a b (renamed-op rename h b is_op) before;
    }

    past-renamed : (kept : OpId → Ops) → ExplainsEachPast memory_answer h kept → ExplainsEachPast memory_answer other kept
    past-renamed kept (co, causal, each) = (
      co,
      causal-renamed co causal,
      λ o is_op. let (ops, linear, explains) = each o (op-renamed rename h o is_op) in (ops, linear, explains-renamed ops (kept o) explains),
    )

    renamed-past : (kept : OpId → Ops) → ExplainsEachPast memory_answer other kept → ExplainsEachPast memory_answer h kept
    renamed-past kept (co, causal, each) = (
      co,
      renamed-causal co causal,
      λ o is_op. let (ops, linear, explains) = each o (renamed-op rename h o is_op) in (ops, linear, renamed-explains ops (kept o) explains),
    )

    pub meets-renamed : (criterion : Criterion) → Meets memory_answer h criterion → Meets memory_answer other criterion
    meets-renamed Cc met = past-renamed _ met
    meets-renamed Cm met = past-renamed _ met
    meets-renamed Ccv (co, arb, causal, linear, each) = (
      co,
      arb,
      causal-renamed co causal,
      subst (λ (set : Ops). IsLinearization set co arb) (sym every-renamed) linear,
      λ o is_op. explains-renamed _ _ (each o (op-renamed rename h o is_op)),
    )

    pub renamed-meets : (criterion : Criterion) → Meets memory_answer other criterion → Meets memory_answer h criterion
    renamed-meets Cc met = renamed-past _ met
    renamed-meets Cm met = renamed-past _ met
    renamed-meets Ccv (co, arb, causal, linear, each) = (
      co,
      arb,
      renamed-causal co causal,
      subst (λ (set : Ops). IsLinearization set co arb) every-renamed linear,
      λ o is_op. renamed-explains _ _ (each o (renamed-op rename h o is_op)),
    )
