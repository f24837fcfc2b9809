-- What the list of writes says of distinct values.
use Rattle.std.proofs.Common.{get_or, List, refl}
use Rattle.std.specs.Prelude.{◌≢◌, All}
use Rattle.std.proofs.lemmas.List.Elements.{All-contains, Contains-get_or}
use Rattle.order_memory.specs.declared.writes.Write.{Write}
use Rattle.order_memory.specs.Memory.{MemoryHistory, initial, Writes, IsDifferentiated}
use Rattle.order_memory.specs.Steps.Written.{ListsWrites, AreOnce}

module _ (h : MemoryHistory) (writes : List Write) (lists : ListsWrites h writes) where
  pub once-from_differentiated : IsDifferentiated h → AreOnce writes
  once-from_differentiated distinct a b in_a in_b same_key same_value =
      let wrote : Writes h a.op b.key b.value = rw (← same_key, ← same_value) (lists.no_other a in_a) in
      distinct.once a.op b.op b.key b.value wrote (lists.no_other b in_b)

  pub All-from_differentiated : IsDifferentiated h → All (λ w. w.value ≢ initial h w.key) writes
  All-from_differentiated distinct k d below =
      distinct.not_initial _ _ _ (lists.no_other (get_or writes k d) (Contains-get_or writes k d below))

  pub differentiated-from : AreOnce writes → All (λ w. w.value ≢ initial h w.key) writes → IsDifferentiated h
  differentiated-from once all = record {
    once = λ a b x v first second.
        once (record { op = a; key = x; value = v }) (record { op = b; key = x; value = v }) (lists.each a x v first) (lists.each b x v second) refl refl;
    not_initial = λ a x v wrote.
        All-contains (λ (w : Write). w.value ≢ initial h w.key) writes (record { op = a; key = x; value = v }) all (lists.each a x v wrote);
  }
