-- Lists of all faults of the operations that are seen, with one operation more.
use Rattle.std.specs.Prelude.{◌≡◌, ◌≢◌, ◌⊎◌, ℕ, ◌+◌, ◌<◌, ◌≤◌, List, [], ◌∷◌, ◌++◌, length, Some, None, slice_get}
use Rattle.std.proofs.Common.{arith, ap, sym, ◌∙◌, subst, inl, inr, ⊎_elim}
use Rattle.std.proofs.lemmas.Bool.{cases_eq}
use Rattle.std.proofs.lemmas.Option.{slice_get_within}
use Rattle.model_history.specs.declared.op_id.OpId.{OpId}
use Rattle.model_history.specs.History.{IsOp, number}
use Rattle.order_memory.specs.Memory.{MemoryHistory, initial, Writes, IsDifferentiated}
use Rattle.order_memory.specs.Relations.{ReadsFrom}
use Rattle.order_memory.proofs.MemoryLaws.{same_read}
use Rattle.pattern_check.specs.Kinds.{IsThinAirRead}
use Rattle.judge_memory.specs.Steps.{many}
use Rattle.judge_memory.proofs.Numbers.{number-all, number-once}
use Rattle.judge_columns.specs.Sights.{IsSeen}
use Rattle.judge_columns.proofs.Visits.{one-source}
use Rattle.show_faults.specs.declared.fault.Fault.{Fault}
use Rattle.show_faults.specs.declared.fault.Fault.TheVariants.{ThinAirRead, WriteCOInitRead, WriteCORead}
use Rattle.show_faults.specs.Faults.{AreFaults, AreFaultsOf, IsFault, IsListed, Misses, MissesAfter, MissesAtStart, read_of}
use Rattle.show_faults.specs.Found.{IsFoundFor}
use Rattle.show_faults.proofs.Pushes.{push-cases, push-end, push-still}

module _ (h : MemoryHistory) where
  -- a read shows faults of one kind
  thin-start : (r a : OpId) → IsThinAirRead h r → ¬ MissesAtStart h r a
  thin-start r a (x, v, reads, other, none) (y, u, at_start, wrote, leads) =
      let same = same_read h r x v y (initial h y) reads at_start in
      other (same.1 ∙ ap (initial h) (sym same.0))

  thin-after : (w r a : OpId) → IsThinAirRead h r → ¬ MissesAfter h w r a
  thin-after w r a (x, v, reads, other, none) (from, rivals, first, second) =
      let same = same_read h r from.0 from.1 x v from.3 reads in
      let wrote : Writes h w x v = rw (same.0, same.1) at (from.2) in
      none w wrote

  start-after : (r a w b : OpId) → MissesAtStart h r a → ¬ MissesAfter h w r b
  start-after r a w b (x, v, reads, wrote, leads) (from, rivals, first, second) =
      let same = same_read h r from.0 from.1 x (initial h x) from.3 reads in
      from.4 (same.1 ∙ ap (initial h) (sym same.0))

  thin-is : (f : Fault) (o : OpId) → IsFault h f → read_of f ≡ o → IsThinAirRead h o → f ≡ ThinAirRead o
  thin-is (ThinAirRead r) o fault same thin = ap (λ (q : OpId). ThinAirRead q) same
  thin-is (WriteCOInitRead r a) o fault same thin = absurd (thin-start r a (subst (IsThinAirRead h) (sym same) thin) fault.0)
  thin-is (WriteCORead r w a) o fault same thin = absurd (thin-after w r a (subst (IsThinAirRead h) (sym same) thin) fault.0)

  start-is : (f : Fault) (o b : OpId) → IsFault h f → read_of f ≡ o → MissesAtStart h o b → (a : OpId) × (f ≡ WriteCOInitRead o a)
  start-is (ThinAirRead r) o b fault same missed =
      absurd (thin-start r b fault (subst (λ (q : OpId). MissesAtStart h q b) (sym same) missed))
  start-is (WriteCOInitRead r a) o b fault same missed = (a, ap (λ (q : OpId). WriteCOInitRead q a) same)
  start-is (WriteCORead r w a) o b fault same missed =
      absurd (start-after r b w a (subst (λ (q : OpId). MissesAtStart h q b) (sym same) missed) fault.0)

  read-is : IsDifferentiated h → (f : Fault) (o w b : OpId) → IsFault h f → read_of f ≡ o → MissesAfter h w o b
      → (a : OpId) × (f ≡ WriteCORead o w a)
  read-is distinct (ThinAirRead r) o w b fault same missed =
      absurd (thin-after w r b fault (subst (λ (q : OpId). MissesAfter h w q b) (sym same) missed))
  read-is distinct (WriteCOInitRead r a) o w b fault same missed =
      absurd (start-after r a w b fault.0 (subst (λ (q : OpId). MissesAfter h w q b) (sym same) missed))
  read-is distinct (WriteCORead r u a) o w b fault same missed =
      let source = one-source h distinct u w o (subst (λ (q : OpId). ReadsFrom h u q) same fault.0.0) missed.0 in
      (a, λ i. WriteCORead (same i) (source i) a)

  module _ (n : ℕ) (all : List Fault) (now : AreFaultsOf h (IsSeen h n) all) (o : OpId) (is_op : IsOp h o) (here : number h o ≡ n) where
    seen-cases : (r : OpId) → IsSeen h (n + 1) r → IsSeen h n r ⊎ (r ≡ o)
    seen-cases r (is_r, below) = ⊎_elim
        (λ (same : number h r ≡ n). inr (number-once h r o is_r is_op (same ∙ sym here)))
        (λ (apart : number h r ≢ n). inl (is_r, omega arith))
        (cases_eq (number h r) n)

    -- an operation that shows no fault
    pub faults-same : IsFoundFor h o None → AreFaultsOf h (IsSeen h (n + 1)) all
    faults-same (no_thin, no_missed) = record {
      each = now.each;
      thin_air = λ r seen thin. ⊎_elim
          (λ (old : IsSeen h n r). now.thin_air r old thin)
          (λ (itself : r ≡ o). absurd (no_thin (subst (IsThinAirRead h) itself thin)))
          (seen-cases r seen);
      start = λ straight r b seen missed. ⊎_elim
          (λ (old : IsSeen h n r). now.start straight r b old missed)
          (λ (itself : r ≡ o). absurd (no_missed straight b (subst (λ (q : OpId). Misses h q b) itself (inl missed))))
          (seen-cases r seen);
      read = λ straight w r b seen missed. ⊎_elim
          (λ (old : IsSeen h n r). now.read straight w r b old missed)
          (λ (itself : r ≡ o). absurd (no_missed straight b (subst (λ (q : OpId). Misses h q b) itself (inr (w, missed)))))
          (seen-cases r seen);
      in_order = now.in_order;
    }

    -- an operation that shows one
    module _ (distinct : IsDifferentiated h) (f : Fault) (found : IsFoundFor h o (Some f))
        (seen_all : (g : Fault) → IsListed all g → IsSeen h n (read_of g)) where
      abbrev whole : List Fault
      whole = all ++ f ∷ []

      still : (g : Fault) → IsListed all g → IsListed whole g
      still g (k, at) = (k, push-still all f k g at)

      is-listed : (g : Fault) → f ≡ g → IsListed whole g
      is-listed g same = (length all, push-end all f ∙ ap (λ (e : Fault). Some e) same)

      listed-cases : (g : Fault) → IsListed whole g → IsListed all g ⊎ (f ≡ g)
      listed-cases g (k, at) = ⊎_elim
          (λ (old : slice_get all k ≡ Some g). inl (k, old))
          (λ (new : (k ≡ length all) × (f ≡ g)). inr new.1)
          (push-cases all f k g at)

      in-order : (j k : ℕ) (e g : Fault) → j < k → slice_get whole j ≡ Some e → slice_get whole k ≡ Some g
          → number h (read_of e) < number h (read_of g)
      in-order j k e g below at_j at_k = ⊎_elim
          (λ (old_j : slice_get all j ≡ Some e). ⊎_elim
          (λ (old_k : slice_get all k ≡ Some g). now.in_order j k e g below old_j old_k)
          (λ (new_k : (k ≡ length all) × (f ≡ g)).
          let before = (seen_all e (j, old_j)).1 in
          let place = ap (λ (q : Fault). number h (read_of q)) new_k.1 in
          let at_o = ap (number h) found.1 in
          omega arith)
          (push-cases all f k g at_k))
          (λ (new_j : (j ≡ length all) × (f ≡ e)).
          let last = new_j.0 in ⊎_elim
          (λ (old_k : slice_get all k ≡ Some g). let inside = slice_get_within all k g old_k in absurd (omega arith))
          (λ (new_k : (k ≡ length all) × (f ≡ g)). let end = new_k.0 in absurd (omega arith))
          (push-cases all f k g at_k))
          (push-cases all f j e at_j)

      pub faults-more : AreFaultsOf h (IsSeen h (n + 1)) whole
      faults-more = record {
        each = λ g listed. ⊎_elim
            (λ (old : IsListed all g). now.each g old)
            (λ (same : f ≡ g). subst (IsFault h) same found.0)
            (listed-cases g listed);
        thin_air = λ r seen thin. ⊎_elim
            (λ (old : IsSeen h n r). still (ThinAirRead r) (now.thin_air r old thin))
            (λ (itself : r ≡ o). is-listed (ThinAirRead r) (thin-is f r found.0 (found.1 ∙ sym itself) thin))
            (seen-cases r seen);
        start = λ straight r b seen missed. ⊎_elim
            (λ (old : IsSeen h n r). let listed = now.start straight r b old missed in
            (listed.0, still (WriteCOInitRead r listed.0) listed.1))
            (λ (itself : r ≡ o). let is = start-is f r b found.0 (found.1 ∙ sym itself) missed in
            (is.0, is-listed (WriteCOInitRead r is.0) is.1))
            (seen-cases r seen);
        read = λ straight w r b seen missed. ⊎_elim
            (λ (old : IsSeen h n r). let listed = now.read straight w r b old missed in
            (listed.0, still (WriteCORead r w listed.0) listed.1))
            (λ (itself : r ≡ o). let is = read-is distinct f r w b found.0 (found.1 ∙ sym itself) missed in
            (is.0, is-listed (WriteCORead r w is.0) is.1))
            (seen-cases r seen);
        in_order = in-order;
      }

      pub seen-more : (g : Fault) → IsListed whole g → IsSeen h (n + 1) (read_of g)
      seen-more g listed = ⊎_elim
          (λ (old : IsListed all g). let was = seen_all g old in let below = was.1 in (was.0, omega arith))
          (λ (same : f ≡ g).
          subst (λ (e : Fault). IsSeen h (n + 1) (read_of e)) same
          (subst (λ (q : OpId). IsSeen h (n + 1) q) (sym found.1) (is_op, omega arith)))
          (listed-cases g listed)

  -- once every operation is seen
  pub faults-whole : (n : ℕ) (all : List Fault) → many h ≤ n → AreFaultsOf h (IsSeen h n) all → AreFaults h all
  faults-whole n all whole now =
      let seen : (r : OpId) → IsOp h r → IsSeen h n r = λ r is_op. (let below = number-all h r is_op in (is_op, omega arith)) in
      record {
        each = now.each;
        thin_air = λ r is_op. now.thin_air r (seen r is_op);
        start = λ straight r b is_op. now.start straight r b (seen r is_op);
        read = λ straight w r b is_op. now.read straight w r b (seen r is_op);
        in_order = now.in_order;
      }

  -- before any is
  pub faults-first : AreFaultsOf h (IsSeen h 0) []
  faults-first = record {
    each = λ f (k, at). absurd cc;
    thin_air = λ r seen. (let below = seen.1 in absurd (omega arith));
    start = λ straight r b seen. (let below = seen.1 in absurd (omega arith));
    read = λ straight w r b seen. (let below = seen.1 in absurd (omega arith));
    in_order = λ j k f g below at_j. absurd cc;
  }
