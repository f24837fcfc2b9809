-- What is found of one operation, by its part, its source and the write that it missed.
use Rattle.std.specs.Prelude.{◌≡◌, ◌≢◌, ℕ, ◌-◌, ◌<◌, List, Some, None, slice_index_or}
use Rattle.std.proofs.Common.{arith, refl, ap, sym, ◌∙◌, subst, ⊎_elim}
use Rattle.model_history.specs.declared.op_id.OpId.{OpId}
use Rattle.model_history.specs.History.{IsOp, many_before, number}
use Rattle.order_causal.proofs.OrdersLaws.{same_op}
use Rattle.order_memory.specs.Memory.{MemoryHistory, initial, Writes, IsDifferentiated}
use Rattle.order_memory.specs.Relations.{ReadsFrom}
use Rattle.order_memory.specs.SourceOrder.{IsCyclic}
use Rattle.order_memory.proofs.MemoryLaws.{same_read, write-or_read}
use Rattle.pattern_check.specs.Kinds.{IsThinAirRead}
use Rattle.judge_memory.specs.Steps.{many}
use Rattle.judge_memory.proofs.Numbers.{number-all, number-found}
use Rattle.judge_memory.specs.Parts.{IsPart}
use Rattle.judge_memory.specs.declared.part.Part.{Part}
use Rattle.judge_memory.specs.declared.part.Part.TheVariants as parts
use Rattle.judge_columns.proofs.Visits.{one-source}
use Rattle.show_faults.specs.declared.fault.Fault.TheVariants.{ThinAirRead, WriteCOInitRead, WriteCORead}
use Rattle.show_faults.specs.Faults.{IsLatest, MissesAfter, MissesAtStart}
use Rattle.show_faults.specs.Found.{IsFoundFor, IsMissedBy}
use Rattle.show_faults.specs.Noted.{AreLatestMissed}

module _ (h : MemoryHistory) (o : OpId) where
  -- an operation of another part is no read of thin air
  part-thin : (p : Part) → IsPart h o p → p ≢ parts.ThinAirRead → ¬ IsThinAirRead h o
  part-thin parts.Write (x, v, wrote) apart (y, u, reads, other, none) = write-or_read h o o x v y u wrote reads refl
  part-thin (parts.SourcedRead n) (w, from, at) apart (y, u, reads, other, none) =
      let same = same_read h o from.0 from.1 y u from.3 reads in
      let wrote : Writes h w y u = rw (same.0, same.1) at (from.2) in
      none w wrote
  part-thin parts.InitialRead (x, reads_x) apart (y, u, reads, other, none) =
      let same = same_read h o y u x (initial h x) reads reads_x in
      other (same.1 ∙ ap (initial h) (sym same.0))
  part-thin parts.ThinAirRead is apart thin = apart refl
  part-thin parts.UnknownRead (unwritten, unread) apart (y, u, reads, other, none) = unread y u reads

  pub found-thin : (read : OpId) → read ≡ o → IsPart h o parts.ThinAirRead → IsFoundFor h o (Some (ThinAirRead read))
  found-thin read same thin = (subst (IsThinAirRead h) (sym same) thin, same)

  pub found-none : (p : Part) → IsPart h o p → p ≢ parts.ThinAirRead → IsMissedBy h o None → IsFoundFor h o None
  found-none p is apart none = (part-thin p is apart, none)

  pub found-start : (read a : OpId) → read ≡ o → ((p : OpId) → ¬ ReadsFrom h p o) → IsMissedBy h o (Some a)
      → IsFoundFor h o (Some (WriteCOInitRead read a))
  found-start read a same no_source (missed, latest, straight) =
      let at_start : MissesAtStart h o a = ⊎_elim
      (λ (first : MissesAtStart h o a). first)
      (λ (second : (w : OpId) × MissesAfter h w o a). absurd (no_source second.0 second.1.0))
      missed in
      (subst (λ (q : OpId). MissesAtStart h q a × IsLatest h q a × ¬ IsCyclic h) (sym same) (at_start, latest, straight), same)

  pub found-read : IsDifferentiated h → (read source a w : OpId) → read ≡ o → source ≡ w → ReadsFrom h w o → IsMissedBy h o (Some a)
      → IsFoundFor h o (Some (WriteCORead read source a))
  found-read distinct read source a w same same_source from (missed, latest, straight) =
      let after : MissesAfter h w o a = ⊎_elim
      (λ (first : MissesAtStart h o a).
      let one = same_read h o from.0 from.1 first.0 (initial h first.0) from.3 first.2 in
      absurd (from.4 (one.1 ∙ ap (initial h) (sym one.0))))
      (λ (second : (u : OpId) × MissesAfter h u o a).
      subst (λ (u : OpId). MissesAfter h u o a) (one-source h distinct second.0 w o second.1.0 from) second.1)
      missed in (
        subst (λ (q : OpId). MissesAfter h source q a × IsLatest h q a × ¬ IsCyclic h) (sym same)
            (subst (λ (u : OpId). MissesAfter h u o a) (sym same_source) after, latest, straight),
        same,
      )

  -- an operation is known by its session and its number
  pub op-named : (r : OpId) (n : ℕ) → number h o ≡ n → r.session ≡ o.session → r.index ≡ n - many_before h o.session → r ≡ o
  op-named r n here session index = same_op r o session (omega arith)

module _ (h : MemoryHistory) (missed : List ℕ) (are : AreLatestMissed h missed) where
  abbrev M : ℕ → ℕ
  M n = slice_index_or missed n 0

  -- what is noted is the number after that of an operation
  pub missed-within : (n : ℕ) → n < many h → M n ≢ 0 → M n - 1 < many h
  missed-within n below some =
      let o = number-found h n below in
      let same = ap M o.2 in
      let found = are.some o.0 o.1 (M n - 1) (omega arith) in
      let inside = number-all h found.0 found.1 in
      let at = found.2 in
      omega arith

  module _ (o : OpId) (is_op : IsOp h o) (n : ℕ) (here : number h o ≡ n) where
    pub missed-none : M n ≡ 0 → IsMissedBy h o None
    missed-none empty straight = are.none straight o is_op (ap M here ∙ empty)

    pub missed-some : M n ≢ 0 → (b : OpId) → ((a : OpId) → IsOp h a → number h a ≡ M n - 1 → b ≡ a) → IsMissedBy h o (Some b)
    missed-some some b named =
        let same = ap M here in
        let found = are.some o is_op (M n - 1) (omega arith) in
        subst (λ (q : OpId). IsMissedBy h o (Some q)) (sym (named found.0 found.1 found.2)) (found.3, found.4, found.5)
