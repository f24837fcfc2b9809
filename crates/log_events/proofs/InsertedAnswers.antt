-- Where an operation more leaves the answers to the others as they were.
use Rattle.std.proofs.Common.{◌≡◌, ℕ, suc, ◌<◌, true, false, cond, List, [], ◌∷◌, map, take, refl, ap, ap₂, sym, ◌∙◌, ⊎_elim}
use Rattle.std.specs.Prelude.{◌⊎◌, ◌≢◌, ◌==◌, IsTrue, Option, Some, None, filter, option_map}
use Rattle.std.specs.List.{cons_option}
use Rattle.std.proofs.lemmas.Bool.{both_ways, ne_eqb}
use Rattle.std.proofs.lemmas.List.{take-map}
use Rattle.std.proofs.lemmas.Option.{same_Some}
use Rattle.model_objects.specs.declared.register.RegisterCall.{RegisterCall}
use Rattle.model_objects.specs.declared.register.RegisterCall.TheVariants.{Write, Read}
use Rattle.model_objects.specs.declared.register.RegisterRet.{RegisterRet}
use Rattle.model_objects.specs.declared.register.RegisterRet.TheVariants.{Value}
use Rattle.model_objects.specs.Register.{last_written, answer as register_answer}
use Rattle.model_objects.specs.Keyed.{calls_at}
use Rattle.model_objects.specs.Table.{start_at}
use Rattle.model_objects.specs.Laws.Keyed.{calls_at-apart}
use Rattle.model_history.specs.declared.op_id.OpId.{OpId}
use Rattle.model_history.specs.History.{entry, calls}
use Rattle.order_causal.specs.Orders.{Ops, op, StandsAt}
use Rattle.order_causal.proofs.Items.{cases-op}
use Rattle.order_causal.proofs.Fronts.{take-from}
use Rattle.order_memory.specs.Memory.{MemoryCall, MemoryHistory, memory_answer}
use Rattle.cert_check.specs.Criteria.{Explains}
use Rattle.cert_check.proofs.CutSteps.{filter_front}
use Rattle.cert_subhistories.proofs.Embeddings.{cut}
use Rattle.cert_subhistories.proofs.KeptLists.{passing_before}
use Rattle.log_events.specs.Histories.{Operation}
use Rattle.log_events.specs.Insertions.{IsInserted}
use Rattle.log_events.proofs.InsertedOperations.{new_place, old_place, is_other, is_other-from, is_other-apart, is_other-new_place, each-place, entry-inserted, entry-new_place, entry-old_place}
use Rattle.log_events.proofs.InsertedPlaces.{cut-stands}

-- what is written last after a call depends only on what is written last after the rest
written-before : (x start : ℕ) (o : Option MemoryCall) (before after : List MemoryCall)
    → ((from : ℕ) → last_written from (calls_at x before) ≡ last_written from (calls_at x after))
    → last_written start (calls_at x (cons_option o before)) ≡ last_written start (calls_at x (cons_option o after))
written-before x start None before after same = same start
written-before x start (Some c) before after same =
    elim (c.key == x) as (λ t. last_written start (map (λ (d : MemoryCall). d.call) (cond t (c ∷ filter (λ (d : MemoryCall). d.key == x) before) (filter (λ (d : MemoryCall). d.key == x) before)))
    ≡ last_written start (map (λ (d : MemoryCall). d.call) (cond t (c ∷ filter (λ (d : MemoryCall). d.key == x) after) (filter (λ (d : MemoryCall). d.key == x) after)))) [
      | true ↦ elim c.call as (λ (call : RegisterCall). last_written start (call ∷ calls_at x before) ≡ last_written start (call ∷ calls_at x after)) [
        | Write v ↦ same v
        | Read ↦ same start
      ]
      | false ↦ same start
    ]

-- a read changes no answer
read-skipped : (x start : ℕ) (c : MemoryCall) (cs : List MemoryCall) → c.call ≡ Read → last_written start (calls_at x (c ∷ cs)) ≡ last_written start (calls_at x cs)
read-skipped x start c cs is_read =
    elim (c.key == x) as (λ t. last_written start (map (λ (d : MemoryCall). d.call) (cond t (c ∷ filter (λ (d : MemoryCall). d.key == x) cs) (filter (λ (d : MemoryCall). d.key == x) cs)))
    ≡ last_written start (calls_at x cs)) [
      | true ↦ ap (λ (call : RegisterCall). last_written start (call ∷ calls_at x cs)) is_read
      | false ↦ refl
    ]

-- an operation changes no answer of a read of x: it has another key, or is a read
abbrev pub IsSilent : Operation → ℕ → Type 0
IsSilent e x = (e.0.key ≢ x) ⊎ (e.0.call ≡ Read)

module _ (h whole : MemoryHistory) (s i : ℕ) (e : Operation) (more : IsInserted h whole s i e) where
  abbrev pub cut_list : List OpId → List OpId
  cut_list ops = cut (is_other s i) (old_place s i) ops

  calls-old : (ops : List OpId) → calls h (cut_list ops) ≡ calls whole (filter (is_other s i) ops)
  calls-old [] = refl
  calls-old (b ∷ ops) =
      let rest = calls-old ops in
      elim (is_other s i b) as (λ t. is_other s i b ≡ t → calls h (map (old_place s i) (cond t (b ∷ filter (is_other s i) ops) (filter (is_other s i) ops)))
      ≡ calls whole (cond t (b ∷ filter (is_other s i) ops) (filter (is_other s i) ops))) [
        | true ↦ λ other.
            ap₂ (λ (o : Option Operation) (cs : List MemoryCall). cons_option (option_map (λ (x : Operation). x.0) o) cs)
            (entry-old_place h whole s i e more b (is_other-apart s i b other)) rest
        | false ↦ λ _. rest
      ] refl

  -- the new one, if it is in the list, leaves what is read as it was
  written-silent : (x start : ℕ) (ops : List OpId) → ((k : ℕ) → StandsAt ops k (op s i) → IsSilent e x)
      → last_written start (calls_at x (calls whole (filter (is_other s i) ops))) ≡ last_written start (calls_at x (calls whole ops))
  written-silent x start [] quiet = refl
  written-silent x start (b ∷ ops) quiet =
      let rest = λ (from : ℕ). written-silent x from ops (λ k. quiet (suc k)) in
      elim (is_other s i b) as (λ t. is_other s i b ≡ t → last_written start (calls_at x (calls whole (cond t (b ∷ filter (is_other s i) ops) (filter (is_other s i) ops))))
      ≡ last_written start (calls_at x (calls whole (b ∷ ops)))) [
        | true ↦ λ _. written-before x start (option_map (λ (d : Operation). d.0) (entry whole b)) (calls whole (filter (is_other s i) ops)) (calls whole ops) rest
        | false ↦ λ new. ⊎_elim
            (λ (same : b ≡ op s i).
            let at : entry whole b ≡ Some e = ap (entry whole) same ∙ entry-inserted h whole s i e more in
            let front : calls whole (b ∷ ops) ≡ e.0 ∷ calls whole ops =
            ap (λ (o : Option Operation). cons_option (option_map (λ (d : Operation). d.0) o) (calls whole ops)) at in
            let skipped : last_written start (calls_at x (e.0 ∷ calls whole ops)) ≡ last_written start (calls_at x (calls whole ops)) = ⊎_elim
            (λ (apart : e.0.key ≢ x). ap (last_written start) (calls_at-apart x e.0 (calls whole ops) (ne_eqb e.0.key x apart)))
            (λ (is_read : e.0.call ≡ Read). read-skipped x start e.0 (calls whole ops) is_read)
            (quiet 0 (ap (λ (c : OpId). Some c) same)) in
            rest start ∙ sym skipped ∙ ap (λ (cs : List MemoryCall). last_written start (calls_at x cs)) (sym front))
            (λ (apart : b ≢ op s i). absurd (both_ways (is_other s i b) new (is_other-from s i b apart)))
            (cases-op b (op s i))
      ] refl

  answers-alike : (c : MemoryCall) (ops : List OpId) → ((k : ℕ) → StandsAt ops k (op s i) → IsSilent e c.key)
      → memory_answer h.0 (calls h (cut_list ops)) c ≡ memory_answer whole.0 (calls whole ops) c
  answers-alike c ops quiet =
      elim c.call as (λ (call : RegisterCall). register_answer (start_at 0 h.0 c.key) (calls_at c.key (calls h (cut_list ops))) call
      ≡ register_answer (start_at 0 whole.0 c.key) (calls_at c.key (calls whole ops)) call) [
        | Write u ↦ refl
        | Read ↦ ap Value
            (ap (λ (start : List (ℕ × ℕ)). last_written (start_at 0 start c.key) (calls_at c.key (calls h (cut_list ops)))) (sym more.start)
            ∙ ap (λ (cs : List MemoryCall). last_written (start_at 0 whole.0 c.key) (calls_at c.key cs)) (calls-old ops)
            ∙ written-silent c.key (start_at 0 whole.0 c.key) ops quiet)
      ]

  module _ (ops : List OpId) (shown whole_shown : Ops)
      (shown_to : (a : OpId) → IsTrue (whole_shown (new_place s i a)) → IsTrue (shown a))
      (quiet : (j k : ℕ) (a : OpId) (d : Operation) → StandsAt ops j (op s i) → StandsAt ops k (new_place s i a) → j < k → IsTrue (whole_shown (new_place s i a))
      → entry h a ≡ Some d → IsSilent e d.0.key)
      (new_right : (k : ℕ) (r : RegisterRet) → StandsAt ops k (op s i) → IsTrue (whole_shown (op s i)) → e.1 ≡ Some r
      → r ≡ memory_answer whole.0 (calls whole (take k ops)) e.0) where
    -- what the other operations explain they explain with the new one
    pub inserted-explains : Explains memory_answer h (cut_list ops) shown → Explains memory_answer whole ops whole_shown
    inserted-explains explains k o c r at among is = each-place s i
        (λ (b : OpId). StandsAt ops k b → IsTrue (whole_shown b) → entry whole b ≡ Some (c, Some r) → r ≡ memory_answer whole.0 (calls whole (take k ops)) c)
        (λ here kept known.
        let same : e ≡ (c, Some r) = same_Some _ _ (sym (entry-inserted h whole s i e more) ∙ known) in
        new_right k r here kept (ap (λ (d : Operation). d.1) same)
        ∙ ap (λ (d : Operation). memory_answer whole.0 (calls whole (take k ops)) d.0) same)
        (λ a here kept known.
        let before : entry h a ≡ Some (c, Some r) = sym (entry-new_place h whole s i e more a) ∙ known in
        let front : take (passing_before (is_other s i) ops k) (cut_list ops) ≡ cut_list (take k ops) =
        take-map (old_place s i) (passing_before (is_other s i) ops k) (filter (is_other s i) ops)
        ∙ ap (map (old_place s i)) (filter_front (is_other s i) ops k (new_place s i a) here (is_other-new_place s i a)) in
        explains (passing_before (is_other s i) ops k) a c r (cut-stands s i ops k a here) (shown_to a kept) before
        ∙ ap (λ (l : List OpId). memory_answer h.0 (calls h l) c) front
        ∙ answers-alike c (take k ops) (λ j there. let r = take-from k ops j (op s i) there in quiet j k a _ r.1 here r.0 kept before))
        o at among is
