-- What follows for the writes and reads of a memory history.
use Rattle.std.specs.Prelude.{◌≡◌, ◌≢◌, ℕ, Option, Some, None, option_map}
use Rattle.std.proofs.Common.{ap, sym, ◌∙◌}
use Rattle.std.proofs.lemmas.Option.{slice_get_within, same_Some}
use Rattle.model_objects.specs.declared.register.RegisterCall.TheVariants.{Write, Read}
use Rattle.model_objects.specs.declared.register.RegisterRet.{RegisterRet}
use Rattle.model_objects.specs.declared.register.RegisterRet.TheVariants.{Value}
use Rattle.model_history.specs.declared.op_id.OpId.{OpId}
use Rattle.model_history.specs.History.{IsOp, session, entry}
use Rattle.order_memory.specs.Memory.{MemoryCall, MemoryHistory, Writes, Reads}

-- a call is that of an entry
pub entry-call : {C R : Type 0} (e : Option (C × R)) (c : C) → option_map (λ (p : C × R). p.0) e ≡ Some c → (r : R) × (e ≡ Some (c, r))
entry-call None c h = absurd cc
entry-call (Some p) c h = let same : p.0 ≡ c = cc in (p.1, λ i. Some (same i, p.1))

module _ (h : MemoryHistory) where
  -- a write has one variable and one value
  pub same_written : (a : OpId) (x v y u : ℕ) → Writes h a x v → Writes h a y u → (x ≡ y) × (v ≡ u)
  same_written a x v y u first second =
      let same = same_Some _ _ (sym first ∙ second) in
      let calls : Write v ≡ Write u = ap (λ (c : MemoryCall). c.call) same in
      (ap (λ (c : MemoryCall). c.key) same, cc)

  -- a known read has one variable and one value
  pub same_read : (a : OpId) (x v y u : ℕ) → Reads h a x v → Reads h a y u → (x ≡ y) × (v ≡ u)
  same_read a x v y u first second =
      let same = same_Some _ _ (sym first ∙ second) in
      let returns : ◌≡◌ {A = Option RegisterRet} (Some (Value v)) (Some (Value u)) = ap (λ (e : MemoryCall × Option RegisterRet). e.1) same in
      (ap (λ (e : MemoryCall × Option RegisterRet). e.0.key) same, cc)

  pub write-of_history : (a : OpId) (x v : ℕ) → Writes h a x v → IsOp h a
  write-of_history a x v writes =
      let e = entry-call (entry h a) _ writes in slice_get_within (session h a.session) a.index _ e.1

  pub read-of_history : (a : OpId) (x v : ℕ) → Reads h a x v → IsOp h a
  read-of_history a x v reads = slice_get_within (session h a.session) a.index _ reads

  -- a write is no read
  pub write-or_read : (a b : OpId) (x v y u : ℕ) → Writes h a x v → Reads h b y u → a ≢ b
  write-or_read a b x v y u writes reads same =
      let here : Writes h b x v = rw (← same) writes in
      let both = sym here ∙ ap (option_map (λ (e : MemoryCall × Option RegisterRet). e.0)) reads in
      let call : Write v ≡ Read = ap (λ (c : MemoryCall). c.call) (same_Some _ _ both) in absurd cc
