-- How a part lies in the whole, and what becomes of an order and of a list of operations where they are cut to the part.
use Rattle.std.proofs.Common.{◌≡◌, ℕ, ◌<◌, ◌≤◌, List, length, map, take, ap, sym, subst, ◌∙◌, ⊎_elim, arith, lt_of_not-le}
use Rattle.std.specs.Prelude.{◌&&◌, IsTrue, Some, option_map, filter, slice_get}
use Rattle.std.proofs.lemmas.Bool.{and_from, and_parts, or_cases, or_left, or_right}
use Rattle.std.proofs.lemmas.List.{take-map}
use Rattle.std.proofs.lemmas.Option.{slice_get-map, same_Some}
use Rattle.model_history.specs.declared.op_id.OpId.{OpId}
use Rattle.model_history.specs.History.{HistoryValue, IsOp, Precedes, session, entry}
use Rattle.order_causal.specs.Orders.{Ops, Order, only, past, StandsAt, IsLinearization}
use Rattle.cert_check.specs.Criteria.{every, IsCausalOrder}
use Rattle.cert_check.proofs.ConvergentLaws.{only-same}
use Rattle.cert_check.proofs.CutSteps.{filter_stands}
use Rattle.cert_check.proofs.Pasts.{only-itself, every-op, op-every}
use Rattle.cert_subhistories.proofs.KeptLists.{mapped_from, filter_place, passing_before, passing_before-le}

-- each operation of the part is one of the whole that is kept, with its call and its return, and the order of a session stays
pub record IsEmbedded {S C R : Type 0} (h part : HistoryValue S C R) (kept : Ops) (whole_of part_of : OpId → OpId) : Type 0 where
  pub start : part.0 ≡ h.0
  pub is_kept : (a : OpId) → IsOp part a → IsTrue (kept (whole_of a))
  pub same_entry : (a : OpId) → IsOp part a → entry h (whole_of a) ≡ entry part a
  pub is_op : (a : OpId) → IsOp part a → IsOp h (whole_of a)
  pub back : (a : OpId) → IsOp part a → part_of (whole_of a) ≡ a
  pub in_part : (b : OpId) → IsOp h b → IsTrue (kept b) → IsOp part (part_of b)
  pub forth : (b : OpId) → IsOp h b → IsTrue (kept b) → whole_of (part_of b) ≡ b
  pub in_order : (a b : OpId) → IsOp part b → Precedes a b → Precedes (whole_of a) (whole_of b)

module _ {S C R : Type 0} where
  -- an order of the whole, of the operations of the part
  abbrev pub part_order : HistoryValue S C R → (OpId → OpId) → Order → Order
  part_order part whole_of co a b = (every part a && every part b) && co (whole_of a) (whole_of b)

  -- all operations of a list are of the history
  abbrev pub AreOps : HistoryValue S C R → List OpId → Type 0
  AreOps h ops = (k : ℕ) (a : OpId) → StandsAt ops k a → IsOp h a

-- of a list of operations of the whole those of the part
abbrev pub cut : Ops → (OpId → OpId) → List OpId → List OpId
cut kept part_of ops = map part_of (filter kept ops)

module _ {S C R : Type 0} (h part : HistoryValue S C R) (kept : Ops) (whole_of part_of : OpId → OpId)
    (embedded : IsEmbedded h part kept whole_of part_of) where
  part_order-true : (co : Order) (a b : OpId) → IsOp part a → IsOp part b → IsTrue (co (whole_of a) (whole_of b)) → IsTrue (part_order part whole_of co a b)
  part_order-true co a b first second before =
      and_from (every part a && every part b) (co (whole_of a) (whole_of b))
      (and_from (every part a) (every part b) (op-every part a first) (op-every part b second)) before

  pub part_order-from : (co : Order) (a b : OpId) → IsTrue (part_order part whole_of co a b)
      → IsOp part a × IsOp part b × IsTrue (co (whole_of a) (whole_of b))
  part_order-from co a b holds =
      let parts = and_parts (every part a && every part b) (co (whole_of a) (whole_of b)) holds in
      let both = and_parts (every part a) (every part b) parts.0 in
      (every-op part a both.0, every-op part b both.1, parts.1)

  pub part_order-causal : (co : Order) → IsCausalOrder h co → IsCausalOrder part (part_order part whole_of co)
  part_order-causal co causal = record {
    of_history = λ a b holds. let r = part_order-from co a b holds in (r.0, r.1);
    transitive = λ a b c first second.
        let r = part_order-from co a b first in
        let s = part_order-from co b c second in
        part_order-true co a c r.0 s.1 (causal.transitive (whole_of a) (whole_of b) (whole_of c) r.2 s.2);
    irreflexive = λ a holds. causal.irreflexive (whole_of a) (part_order-from co a a holds).2;
    program_order = λ a b is_op precedes.
        let inside : IsOp part a = let below = precedes.1 in
        subst (λ (s : ℕ). a.index < length (session part s)) (sym precedes.0) (omega arith) in
        part_order-true co a b inside is_op
        (causal.program_order (whole_of a) (whole_of b) (embedded.is_op b is_op) (embedded.in_order a b is_op precedes));
  }

  -- the past of an operation of the part is what is of the part in the past of that operation in the whole
  pub past-of_part : (co : Order) (o a : OpId) → IsOp part o → IsTrue (past (part_order part whole_of co) o a)
      → IsOp part a × IsTrue (past co (whole_of o) (whole_of a))
  past-of_part co o a is_op inside = ⊎_elim
      (λ (alone : IsTrue (only o a)). let same = only-same o a alone in (
        subst (λ (b : OpId). IsOp part b) (sym same) is_op,
        or_left (only (whole_of o) (whole_of a)) (co (whole_of a) (whole_of o))
            (subst (λ (b : OpId). IsTrue (only (whole_of o) (whole_of b))) (sym same) (only-itself (whole_of o))),
      ))
      (λ (before : IsTrue (part_order part whole_of co a o)). let r = part_order-from co a o before in
      (r.0, or_right (only (whole_of o) (whole_of a)) (co (whole_of a) (whole_of o)) r.2))
      (or_cases (only o a) (part_order part whole_of co a o) inside)

  pub past-in_part : (co : Order) (o a : OpId) → IsOp part o → IsOp part a → IsTrue (past co (whole_of o) (whole_of a))
      → IsTrue (past (part_order part whole_of co) o a)
  past-in_part co o a is_op inside in_past = ⊎_elim
      (λ (alone : IsTrue (only (whole_of o) (whole_of a))).
      let same : a ≡ o = sym (embedded.back a inside) ∙ ap part_of (only-same (whole_of o) (whole_of a) alone) ∙ embedded.back o is_op in
      or_left (only o a) (part_order part whole_of co a o) (subst (λ (b : OpId). IsTrue (only o b)) (sym same) (only-itself o)))
      (λ (before : IsTrue (co (whole_of a) (whole_of o))). or_right (only o a) (part_order part whole_of co a o) (part_order-true co a o inside is_op before))
      (or_cases (only (whole_of o) (whole_of a)) (co (whole_of a) (whole_of o)) in_past)

  module _ (ops : List OpId) (are_ops : AreOps h ops) where
    -- what stands in the cut list is of the part, and stands in the list where what is of the part before it stands before it
    pub cut_place : (k : ℕ) (a : OpId) → StandsAt (cut kept part_of ops) k a
        → (m : ℕ) × StandsAt ops m (whole_of a) × IsOp part a × (cut kept part_of (take m ops) ≡ take k (cut kept part_of ops)) × (passing_before kept ops m ≡ k)
    cut_place k a at =
        let named = mapped_from part_of (slice_get (filter kept ops) k) a (sym (slice_get-map part_of (filter kept ops) k) ∙ at) in
        let place = filter_place kept ops k named.0 named.1 in
        let is_op = are_ops place.0 named.0 place.1 in
        let whole : whole_of a ≡ named.0 = ap whole_of (sym named.2) ∙ embedded.forth named.0 is_op place.2 in
        let inside : IsOp part a = subst (λ (b : OpId). IsOp part b) named.2 (embedded.in_part named.0 is_op place.2) in
        (place.0, place.1 ∙ ap Some (sym whole), inside, ap (map part_of) place.3 ∙ sym (take-map part_of k (filter kept ops)), place.4)

    -- what is of the part stands in the cut list
    pub cut_stands : (m : ℕ) (a : OpId) → IsOp part a → StandsAt ops m (whole_of a) → (k : ℕ) × StandsAt (cut kept part_of ops) k a
    cut_stands m a is_op at =
        let k = passing_before kept ops m in
        let stands : slice_get (filter kept ops) k ≡ Some (whole_of a) = filter_stands kept ops m (whole_of a) at (embedded.is_kept a is_op) in
        (k, slice_get-map part_of (filter kept ops) k ∙ ap (option_map part_of) stands ∙ ap Some (embedded.back a is_op))

  -- a linearization of a set of the whole, cut to the part, is one of the set's operations of the part
  pub cut-is_linearization : (co : Order) (set part_set : Ops) (ops : List OpId) → AreOps h ops → IsLinearization set co ops
      → ((a : OpId) → IsTrue (part_set a) → IsOp part a × IsTrue (set (whole_of a)))
      → ((a : OpId) → IsOp part a → IsTrue (set (whole_of a)) → IsTrue (part_set a))
      → IsLinearization part_set (part_order part whole_of co) (cut kept part_of ops)
  cut-is_linearization co set part_set ops are_ops whole from_part to_part = record {
    each = λ a among. let r = from_part a among in let place = whole.each (whole_of a) r.1 in cut_stands ops are_ops place.0 a r.0 place.1;
    no_other = λ k a at. let r = cut_place ops are_ops k a at in to_part a r.2 (whole.no_other r.0 (whole_of a) r.1);
    once = λ j k a first second.
        let r = cut_place ops are_ops j a first in
        let s = cut_place ops are_ops k a second in
        sym r.4 ∙ ap (passing_before kept ops) (whole.once r.0 s.0 (whole_of a) r.1 s.1) ∙ s.4;
    ordered = λ j k a b first second before.
        let r = cut_place ops are_ops j a first in
        let s = cut_place ops are_ops k b second in
        let below : r.0 < s.0 = whole.ordered r.0 s.0 (whole_of a) (whole_of b) r.1 s.1 (part_order-from co a b before).2 in
        let up_to = passing_before-le kept ops r.0 s.0 (omega arith) in
        let many_r = r.4 in
        let many_s = s.4 in
        lt_of_not-le (λ (above : k ≤ j).
        let same : j ≡ k = omega arith in
        let one : a ≡ b = same_Some a b (sym first ∙ ap (slice_get (cut kept part_of ops)) same ∙ second) in
        let again : r.0 ≡ s.0 = whole.once r.0 s.0 (whole_of a) r.1 (subst (λ (c : OpId). StandsAt ops s.0 (whole_of c)) (sym one) s.1) in
        omega arith);
  }
