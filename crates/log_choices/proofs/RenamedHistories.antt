-- A memory history with other values for its values: its operations, its causal order, and its shape.
use Rattle.std.proofs.Common.{◌≡◌, ℕ, ◌<◌, ◌^◌, List, [], length, map, refl, ap, sym, subst, ◌∙◌, inl, inr, ⊎_elim, arith}
use Rattle.std.specs.List.Sorted.{IsStrictlyIncreasing}
use Rattle.std.specs.Prelude.{◌==◌, ◌≢◌, Option, Some, None, option_map, slice_get, unwrap_or}
use Rattle.std.proofs.Math.ListN.{get_or-map}
use Rattle.std.proofs.lemmas.List.{length-map}
use Rattle.std.proofs.lemmas.Map.Made.{keys_of-map_values, lookup-map_values}
use Rattle.std.proofs.lemmas.Option.{same_Some, slice_get-map}
use Rattle.model_objects.specs.Register.{matches}
use Rattle.model_objects.specs.Table.{value_at}
use Rattle.model_objects.specs.declared.register.RegisterCall.{RegisterCall}
use Rattle.model_objects.specs.declared.register.RegisterCall.TheVariants.{Write, Read}
use Rattle.model_objects.specs.declared.register.RegisterRet.{RegisterRet}
use Rattle.model_objects.specs.declared.register.RegisterRet.TheVariants.{Done, Value}
use Rattle.model_history.specs.declared.op_id.OpId.{OpId}
use Rattle.model_history.specs.History.{IsOp, Precedes, session, entry}
use Rattle.order_causal.proofs.PathsLaws.{leads-wider}
use Rattle.order_memory.specs.Memory.{MemoryCall, MemoryHistory, IsDifferentiated, Reads, Writes, initial}
use Rattle.order_memory.specs.Relations.{CO, IsEdge, ReadsFrom}
use Rattle.order_memory.specs.SourceOrder.{LacksSource}
use Rattle.log_events.specs.Histories.{Operation}
use Rattle.log_events.specs.Shapes.{HasSmallKeys, IsShaped}

module _ (rename : ℕ → ℕ) where
  abbrev pub renamed_call : RegisterCall → RegisterCall
  renamed_call (Write v) = Write (rename v)
  renamed_call Read = Read

  abbrev pub renamed_return : RegisterRet → RegisterRet
  renamed_return Done = Done
  renamed_return (Value v) = Value (rename v)

  abbrev pub renamed_keyed : MemoryCall → MemoryCall
  renamed_keyed c = record { key = c.key; call = renamed_call c.call }

  abbrev pub renamed_operation : Operation → Operation
  renamed_operation e = (renamed_keyed e.0, option_map renamed_return e.1)

  abbrev pub renamed_start : List (ℕ × ℕ) → List (ℕ × ℕ)
  renamed_start start = map (λ (e : ℕ × ℕ). (e.0, rename e.1)) start

  abbrev pub renamed : MemoryHistory → MemoryHistory
  renamed h = (renamed_start h.0, map (map renamed_operation) h.1)

  module _ (h : MemoryHistory) where
    pub renamed-session : (s : ℕ) → session (renamed h) s ≡ map renamed_operation (session h s)
    renamed-session s = get_or-map (map renamed_operation) h.1 s []

    pub renamed-length : (s : ℕ) → length (session (renamed h) s) ≡ length (session h s)
    renamed-length s = ap (λ (l : List Operation). length l) (renamed-session s) ∙ length-map (session h s) renamed_operation

    pub renamed-entry : (o : OpId) → entry (renamed h) o ≡ option_map renamed_operation (entry h o)
    renamed-entry o =
        ap (λ (l : List Operation). slice_get l o.index) (renamed-session o.session) ∙ slice_get-map renamed_operation (session h o.session) o.index

    pub renamed-op : (o : OpId) → IsOp h o → IsOp (renamed h) o
    renamed-op o is_op = let same = renamed-length o.session in omega arith

    pub op-renamed : (o : OpId) → IsOp (renamed h) o → IsOp h o
    op-renamed o is_op = let same = renamed-length o.session in omega arith

    pub renamed-initial : rename 0 ≡ 0 → (x : ℕ) → initial (renamed h) x ≡ rename (initial h x)
    renamed-initial zero_same x =
        ap (λ (o : Option ℕ). unwrap_or o 0) (lookup-map_values rename (λ (k : ℕ). k == x) h.0) ∙ found (value_at h.0 x)
      where
        found : (o : Option ℕ) → unwrap_or (option_map rename o) 0 ≡ rename (unwrap_or o 0)
        found None = sym zero_same
        found (Some v) = refl

    -- what stands in one of the two stands in the other
    pub renamed-at : (o : OpId) (e : Operation) → entry h o ≡ Some e → entry (renamed h) o ≡ Some (renamed_operation e)
    renamed-at o e at = renamed-entry o ∙ ap (option_map renamed_operation) at

    pub at-renamed : (o : OpId) (d : Operation) → entry (renamed h) o ≡ Some d → (e : Operation) × (entry h o ≡ Some e) × (d ≡ renamed_operation e)
    at-renamed o d at = found (entry h o) refl
      where
        found : (e : Option Operation) → entry h o ≡ e → (e : Operation) × (entry h o ≡ Some e) × (d ≡ renamed_operation e)
        found None none = let wrong : None ≡ Some d = sym (renamed-entry o ∙ ap (option_map renamed_operation) none) ∙ at in absurd cc
        found (Some e) some = (e, some, sym (same_Some _ _ (sym (renamed-at o e some) ∙ at)))

    pub renamed-writes : (a : OpId) (x v : ℕ) → Writes h a x v → Writes (renamed h) a x (rename v)
    renamed-writes a x v writes =
        ap (option_map (λ (e : Operation). e.0)) (renamed-entry a) ∙ mapped (entry h a) ∙ ap (option_map renamed_keyed) writes
      where
        mapped : (o : Option Operation) → option_map (λ (e : Operation). e.0) (option_map renamed_operation o)
            ≡ option_map renamed_keyed (option_map (λ (e : Operation). e.0) o)
        mapped None = refl
        mapped (Some e) = refl

    pub renamed-reads : (a : OpId) (x v : ℕ) → Reads h a x v → Reads (renamed h) a x (rename v)
    renamed-reads a x v reads = renamed-at a _ reads

    call-from : (c : MemoryCall) (x u : ℕ) → renamed_keyed c ≡ record { key = x; call = Write u }
        → (v : ℕ) × (c ≡ record { key = x; call = Write v }) × (u ≡ rename v)
    call-from c x u same = by_call c.call refl
      where
        by_call : (k : RegisterCall) → c.call ≡ k → (v : ℕ) × (c ≡ record { key = x; call = Write v }) × (u ≡ rename v)
        by_call (Write v) is =
            let calls : Write (rename v) ≡ Write u = sym (ap renamed_call is) ∙ ap (λ (d : MemoryCall). d.call) same in
            (v, (λ i. record { key = ap (λ (d : MemoryCall). d.key) same i; call = is i }), cc)
        by_call Read is = let calls : Read ≡ Write u = sym (ap renamed_call is) ∙ ap (λ (d : MemoryCall). d.call) same in absurd cc

    pub writes-renamed : (a : OpId) (x u : ℕ) → Writes (renamed h) a x u → (v : ℕ) × Writes h a x v × (u ≡ rename v)
    writes-renamed a x u writes = found (entry h a) refl
      where
        found : (o : Option Operation) → entry h a ≡ o → (v : ℕ) × Writes h a x v × (u ≡ rename v)
        found None none =
            let wrong : ◌≡◌ {A = Option MemoryCall} None (Some (record { key = x; call = Write u })) =
            sym (ap (option_map (λ (e : Operation). e.0)) (renamed-entry a ∙ ap (option_map renamed_operation) none)) ∙ writes in absurd cc
        found (Some e) some =
            let same = same_Some _ _ (sym (ap (option_map (λ (d : Operation). d.0)) (renamed-at a e some)) ∙ writes) in
            let (v, is, value) = call-from e.0 x u same in
            (v, ap (option_map (λ (d : Operation). d.0)) some ∙ ap (λ (c : MemoryCall). Some c) is, value)

    pub reads-renamed : (a : OpId) (x u : ℕ) → Reads (renamed h) a x u → (v : ℕ) × Reads h a x v × (u ≡ rename v)
    reads-renamed a x u reads =
        let (e, at, same) = at-renamed a _ reads in
        read_of e at same e.0.call e.1 refl refl
      where
        read_of : (e : Operation) → entry h a ≡ Some e → (record { key = x; call = Read }, Some (Value u)) ≡ renamed_operation e
            → (k : RegisterCall) (r : Option RegisterRet) → e.0.call ≡ k → e.1 ≡ r → (v : ℕ) × Reads h a x v × (u ≡ rename v)
        read_of e at same (Write v) r call ret =
            let wrong : Read ≡ Write (rename v) = ap (λ (d : Operation). d.0.call) same ∙ ap renamed_call call in absurd cc
        read_of e at same Read None call ret =
            let wrong : Some (Value u) ≡ None = ap (λ (d : Operation). d.1) same ∙ ap (option_map renamed_return) ret in absurd cc
        read_of e at same Read (Some Done) call ret =
            let wrong : Some (Value u) ≡ Some Done = ap (λ (d : Operation). d.1) same ∙ ap (option_map renamed_return) ret in absurd cc
        read_of e at same Read (Some (Value v)) call ret =
            let value : ◌≡◌ {A = Option RegisterRet} (Some (Value u)) (Some (Value (rename v))) = ap (λ (d : Operation). d.1) same ∙ ap (option_map renamed_return) ret in
            (v, at ∙ (λ i. Some (record { key = ap (λ (d : Operation). d.0.key) (sym same) i; call = call i }, ret i)), cc)

    -- its shape is that of the other
    pub shaped-renamed : rename 0 ≡ 0 → IsShaped (renamed h) → IsShaped h
    shaped-renamed zero_same shaped = record {
      rising = subst IsStrictly (keys_of-map_values rename h.0) shaped.rising;
      not_plain = λ k d below plain.
          shaped.not_plain k (d.0, rename d.1) (let same : length (renamed_start h.0) ≡ length h.0 = length-map h.0 (λ (e : ℕ × ℕ). (e.0, rename e.1)) in omega arith)
          (ap (λ (e : ℕ × ℕ). e.1) (get_or-map (λ (e : ℕ × ℕ). (e.0, rename e.1)) h.0 k d) ∙ ap rename plain ∙ zero_same);
      fitting = λ o c r at. sym (fits c.call r) ∙ shaped.fitting o (renamed_keyed c) (renamed_return r) (renamed-at o _ at);
      known_first = λ a b c d r before at there.
          shaped.known_first a b (renamed_keyed c) (renamed_keyed d) (renamed_return r) before (renamed-at a _ at) (renamed-at b _ there);
    }
      where
        IsStrictly : List ℕ → Type 0
        IsStrictly keys = IsStrictlyIncreasing keys

        fits : (c : RegisterCall) (r : RegisterRet) → matches (renamed_call c) (renamed_return r) ≡ matches c r
        fits (Write v) Done = refl
        fits (Write v) (Value u) = refl
        fits Read Done = refl
        fits Read (Value u) = refl

    pub keys-renamed : HasSmallKeys (renamed h) → HasSmallKeys h
    keys-renamed small = record {
      start = λ k d below.
          subst (λ (e : ℕ × ℕ). e.0 < 2 ^ 32) (get_or-map (λ (e : ℕ × ℕ). (e.0, rename e.1)) h.0 k d)
          (small.start k (d.0, rename d.1) (let same : length (renamed_start h.0) ≡ length h.0 = length-map h.0 (λ (e : ℕ × ℕ). (e.0, rename e.1)) in omega arith));
      calls = λ s i c known at.
          small.calls s i (renamed_keyed c) (option_map renamed_return known)
          (renamed-at (record { session = s; index = i }) _ at);
    }

    pub distinct-renamed : rename 0 ≡ 0 → IsDifferentiated (renamed h) → IsDifferentiated h
    distinct-renamed zero_same distinct = record {
      once = λ a b x v first second. distinct.once a b x (rename v) (renamed-writes a x v first) (renamed-writes b x v second);
      not_initial = λ a x v writes same.
          distinct.not_initial a x (rename v) (renamed-writes a x v writes) (ap rename same ∙ sym (renamed-initial zero_same x));
    }

    module _ (zero_same : rename 0 ≡ 0) (once : (u v : ℕ) → rename u ≡ rename v → u ≡ v) where
      other-renamed : (x v : ℕ) → v ≢ initial h x → rename v ≢ initial (renamed h) x
      other-renamed x v other same = other (once v (initial h x) (same ∙ renamed-initial zero_same x))

      renamed-other : (x v : ℕ) → rename v ≢ initial (renamed h) x → v ≢ initial h x
      renamed-other x v other same = other (ap rename same ∙ sym (renamed-initial zero_same x))

      pub lacks-renamed : LacksSource h → LacksSource (renamed h)
      lacks-renamed (r, x, v, reads, other, none) = (
        r,
        x,
        rename v,
        renamed-reads r x v reads,
        other-renamed x v other,
        λ w writes.
            let (u, wrote, same) = writes-renamed w x (rename v) writes in
            none w (subst (λ (t : ℕ). Writes h w x t) (sym (once v u same)) wrote),
      )

      pub renamed-reads_from : (w r : OpId) → ReadsFrom h w r → ReadsFrom (renamed h) w r
      renamed-reads_from w r (x, v, writes, reads, other) =
          (x, rename v, renamed-writes w x v writes, renamed-reads r x v reads, other-renamed x v other)

      pub reads_from-renamed : (w r : OpId) → ReadsFrom (renamed h) w r → ReadsFrom h w r
      reads_from-renamed w r (x, u, writes, reads, other) =
          let (v, wrote, same) = writes-renamed w x u writes in
          let (t, read, same2) = reads-renamed r x u reads in
          let one : t ≡ v = once t v (sym same2 ∙ same) in (
            x,
            v,
            wrote,
            subst (λ (n : ℕ). Reads h r x n) one read,
            renamed-other x v (λ is. other (same ∙ is)),
          )

      -- the causal order is the same
      pub renamed-CO : (a b : OpId) → CO h a b → CO (renamed h) a b
      renamed-CO = leads-wider (IsEdge h) (IsEdge (renamed h)) (λ a b edge. ⊎_elim
          (λ (before : Precedes a b × IsOp h b). inl (before.0, renamed-op b before.1))
          (λ (reads : ReadsFrom h a b). inr (renamed-reads_from a b reads))
          edge)

      pub CO-renamed : (a b : OpId) → CO (renamed h) a b → CO h a b
      CO-renamed = leads-wider (IsEdge (renamed h)) (IsEdge h) (λ a b edge. ⊎_elim
          (λ (before : Precedes a b × IsOp (renamed h) b). inl (before.0, op-renamed b before.1))
          (λ (reads : ReadsFrom (renamed h) a b). inr (reads_from-renamed a b reads))
          edge)
