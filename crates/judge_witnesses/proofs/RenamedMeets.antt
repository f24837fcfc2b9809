-- A memory history meets what it meets with other values in their place.
use Rattle.std.proofs.Common.{◌≡◌, ℕ, List, [], ◌∷◌, length, map, take, refl, ap, sym, subst, ◌∙◌, arith}
use Rattle.std.specs.Prelude.{Option, Some, None, nat_lt, option_map, slice_get, slice_index_or}
use Rattle.std.specs.List.{cons_option}
use Rattle.std.proofs.Math.ListN.{get_or-map}
use Rattle.std.proofs.lemmas.List.{length-map}
use Rattle.std.proofs.lemmas.Option.{same_Some, slice_get-map}
use Rattle.model_objects.specs.Keyed.{calls_at}
use Rattle.model_objects.specs.Register.{answer}
use Rattle.model_objects.specs.declared.register.RegisterCall.{RegisterCall}
use Rattle.model_objects.specs.declared.register.RegisterRet.{RegisterRet}
use Rattle.model_history.specs.declared.op_id.OpId.{OpId}
use Rattle.model_history.specs.History.{IsOp, calls, entry, session}
use Rattle.order_causal.specs.Orders.{IsLinearization, Ops, Order}
use Rattle.order_memory.specs.Memory.{MemoryCall, MemoryHistory, initial, memory_answer}
use Rattle.cert_check.specs.declared.criterion.Criterion.{Criterion}
use Rattle.cert_check.specs.declared.criterion.Criterion.TheVariants.{Cc, Ccv, Cm}
use Rattle.cert_check.specs.Criteria.{Explains, ExplainsEachPast, IsCausalOrder, Meets, every}
use Rattle.judge_witnesses.specs.Renamed.{IsRenamed, Operation, Renaming, renamed, renamed_at_key, renamed_call, renamed_return}
use Rattle.judge_witnesses.proofs.RenamedAnswers.{answer-renamed, calls_at-renamed}

module _ (renaming : Renaming) (h other : MemoryHistory) (is : IsRenamed renaming h other) where
  session-renamed : (s : ℕ) → session other s ≡ map (renamed renaming) (session h s)
  session-renamed s =
      ap (λ (l : List (List Operation)). slice_index_or l s []) (sym is.operations) ∙ get_or-map (map (renamed renaming)) h.1 s []

  length-renamed : (s : ℕ) → length (session other s) ≡ length (session h s)
  length-renamed s = ap (λ (l : List Operation). length l) (session-renamed s) ∙ length-map (session h s) (renamed renaming)

  op-renamed : (o : OpId) → IsOp h o → IsOp other o
  op-renamed o is_op = let same = length-renamed o.session in omega arith

  renamed-op : (o : OpId) → IsOp other o → IsOp h o
  renamed-op o is_op = let same = length-renamed o.session in omega arith

  entry-renamed : (o : OpId) → entry other o ≡ option_map (renamed renaming) (entry h o)
  entry-renamed o =
      ap (λ (l : List Operation). slice_get l o.index) (session-renamed o.session)
      ∙ slice_get-map (renamed renaming) (session h o.session) o.index

  -- what stands in the one stands in the other
  at-renamed : (o : OpId) (d : Operation) → entry other o ≡ Some d → (e : Operation) × (entry h o ≡ Some e) × (d ≡ renamed renaming e)
  at-renamed o d at = found (entry h o) refl
    where
      found : (e : Option Operation) → entry h o ≡ e → (e : Operation) × (entry h o ≡ Some e) × (d ≡ renamed renaming e)
      found None none = let wrong : None ≡ Some d = sym (entry-renamed o ∙ ap (option_map (renamed renaming)) none) ∙ at in absurd cc
      found (Some e) some = (e, some, sym (same_Some _ _ (sym (entry-renamed o ∙ ap (option_map (renamed renaming)) some) ∙ at)))

  calls-renamed : (ops : List OpId) → calls other ops ≡ map (renamed_at_key renaming) (calls h ops)
  calls-renamed [] = refl
  calls-renamed (o ∷ ops) =
      (λ i. cons_option (option_map (λ (e : Operation). e.0) (entry-renamed o i)) (calls-renamed ops i)) ∙ front (entry h o)
    where
      front : (e : Option Operation)
          → cons_option (option_map (λ (e : Operation). e.0) (option_map (renamed renaming) e)) (map (renamed_at_key renaming) (calls h ops))
          ≡ map (renamed_at_key renaming) (cons_option (option_map (λ (e : Operation). e.0) e) (calls h ops))
      front None = refl
      front (Some e) = refl

  answers-renamed : (ops : List OpId) (c : MemoryCall)
      → memory_answer other.0 (calls other ops) (renamed_at_key renaming c)
      ≡ renamed_return (renaming c.key) (memory_answer h.0 (calls h ops) c)
  answers-renamed ops c =
      (λ i. answer (is.start c.key i) (calls_at c.key (calls-renamed ops i)) (renamed_call (renaming c.key) c.call))
      ∙ ap (λ (l : List RegisterCall). answer (renaming c.key (initial h c.key)) l (renamed_call (renaming c.key) c.call))
      (calls_at-renamed renaming c.key (calls h ops))
      ∙ answer-renamed (renaming c.key) (initial h c.key) (calls_at c.key (calls h ops)) c.call

  explains-renamed : (ops : List OpId) (set : Ops) → Explains memory_answer h ops set → Explains memory_answer other ops set
  explains-renamed ops set explains k o c r at inside there =
      let (e, is, same) = at-renamed o (c, Some r) there in
      known e.0 e.1 is same
    where
      known : (d : MemoryCall) (ret : Option RegisterRet) → entry h o ≡ Some (d, ret)
          → ◌≡◌ {A = Operation} (c, Some r) (renamed renaming (d, ret)) → r ≡ memory_answer other.0 (calls other (take k ops)) c
      known d None is same = let wrong : ◌≡◌ {A = Option RegisterRet} (Some r) None = ap (λ (e : Operation). e.1) same in absurd cc
      known d (Some s) is same =
          let returns : r ≡ renamed_return (renaming d.key) s = same_Some _ _ (ap (λ (e : Operation). e.1) same) in
          let called : c ≡ renamed_at_key renaming d = ap (λ (e : Operation). e.0) same in
          returns ∙ ap (renamed_return (renaming d.key)) (explains k o d s at inside is) ∙ sym (answers-renamed (take k ops) d)
          ∙ ap (memory_answer other.0 (calls other (take k ops))) (sym called)

  every-renamed : every h ≡ every other
  every-renamed = λ i a. nat_lt a.index (sym (length-renamed a.session) i)

  causal-renamed : (co : Order) → IsCausalOrder h co → IsCausalOrder other co
  causal-renamed co causal = record {
    of_history = λ a b before. let r = causal.of_history a b before in (op-renamed a r.0, op-renamed b r.1);
    transitive = causal.transitive;
    irreflexive = causal.irreflexive;
    program_order = λ a b is_op before. causal.program_order a b (renamed-op b is_op) before;
  }

  each_past-renamed : (kept : OpId → Ops) → ExplainsEachPast memory_answer h kept → ExplainsEachPast memory_answer other kept
  each_past-renamed kept (co, causal, each) = (
    co,
    causal-renamed co causal,
    λ o is_op. let (ops, linear, explains) = each o (renamed-op o is_op) in (ops, linear, explains-renamed ops (kept o) explains),
  )

  pub meets-renamed : (criterion : Criterion) → Meets memory_answer h criterion → Meets memory_answer other criterion
  meets-renamed Cc met = each_past-renamed _ met
  meets-renamed Cm met = each_past-renamed _ met
  meets-renamed Ccv (co, arb, causal, linear, each) = (
    co,
    arb,
    causal-renamed co causal,
    subst (λ (set : Ops). IsLinearization set co arb) every-renamed linear,
    λ o is_op. explains-renamed _ _ (each o (renamed-op o is_op)),
  )
