-- The part of a history that is kept lies in the whole: where its operations stand there.
use Rattle.std.proofs.Common.{◌≡◌, ℕ, ◌<◌, ◌≤◌, Bool, true, false, List, length, get_or, refl, ap, sym, subst, ◌∙◌, ⊎_elim, arith}
use Rattle.std.specs.Prelude.{IsTrue, Option, Some, None, option_map, unwrap_or, slice_get}
use Rattle.std.proofs.lemmas.Option.{slice_get_cases, slice_get_within}
use Rattle.model_history.specs.declared.op_id.OpId.{OpId}
use Rattle.model_history.specs.History.{HistoryValue, IsOp, session, entry}
use Rattle.order_causal.specs.Orders.{op}
use Rattle.cert_check.specs.declared.criterion.Criterion.{Criterion}
use Rattle.cert_check.specs.Criteria.{Meets}
use Rattle.cert_subhistories.specs.Parts.{kept_of_session, part_by, kept_of}
use Rattle.cert_subhistories.proofs.KeptParts.{kept_before, place_of, kept_at, kept_from, kept-in_order}
use Rattle.cert_subhistories.proofs.KeptHistories.{session-of_part}
use Rattle.cert_subhistories.proofs.Embeddings.{IsEmbedded}
use Rattle.cert_subhistories.proofs.Cuts.{KeepsAnswers, meets-cut}

-- what stands inside a list
stands_inside : {X : Type 0} (xs : List X) (k : ℕ) → k < length xs → (x : X) × (slice_get xs k ≡ Some x)
stands_inside {X} xs k inside = ⊎_elim
    (λ (here : (x : X) × (k < length xs) × (slice_get xs k ≡ Some x) × (get_or xs k x ≡ x)). (here.0, here.2))
    (λ (past : (length xs ≤ k) × (slice_get xs k ≡ None)). let outside = past.0 in absurd (omega arith))
    (slice_get_cases xs k).1

module _ {S C R : Type 0} (kept : OpId → C → Bool) (h : HistoryValue S C R) where
  -- the operation of the whole that an operation of the part is, and the other way round
  abbrev pub whole_of : OpId → OpId
  whole_of a = op a.session (place_of kept a.session (session h a.session) a.index)

  abbrev pub part_of : OpId → OpId
  part_of b = op b.session (kept_before kept b.session (session h b.session) b.index)

  -- what is kept is an operation with a call that is kept
  pub kept_of-parts : (o : OpId) → IsTrue (kept_of kept h o) → (e : C × Option R) × (entry h o ≡ Some e) × (kept o e.0 ≡ true)
  kept_of-parts o holds =
      elim (entry h o) as (λ (found : Option (C × Option R)). entry h o ≡ found
      → unwrap_or (option_map (λ (e : C × Option R). kept o e.0) found) false ≡ true
      → (e : C × Option R) × (entry h o ≡ Some e) × (kept o e.0 ≡ true)) [
        | None ↦ λ is fails. let wrong : false ≡ true = fails in absurd cc
        | Some e ↦ λ is passes. (e, is, passes)
      ] refl holds

  pub kept_of-from : (o : OpId) (e : C × Option R) → entry h o ≡ Some e → kept o e.0 ≡ true → IsTrue (kept_of kept h o)
  kept_of-from o e is passes = ap (λ (found : Option (C × Option R)). unwrap_or (option_map (λ (e : C × Option R). kept o e.0) found) false) is ∙ passes

  -- an operation of the part, and where it stands
  stands_in_part : (a : OpId) → IsOp (part_by kept h) a
      → (e : C × Option R) × (slice_get (kept_of_session kept a.session (session h a.session)) a.index ≡ Some e)
  stands_in_part a is_op =
      stands_inside (kept_of_session kept a.session (session h a.session)) a.index
      (subst (λ (es : List (C × Option R)). a.index < length es) (session-of_part kept h a.session) is_op)

  entry_in_part : (a : OpId) → entry (part_by kept h) a ≡ slice_get (kept_of_session kept a.session (session h a.session)) a.index
  entry_in_part a = ap (λ (es : List (C × Option R)). slice_get es a.index) (session-of_part kept h a.session)

  part-inside : (a : OpId) (e : C × Option R) → slice_get (kept_of_session kept a.session (session h a.session)) a.index ≡ Some e → IsOp (part_by kept h) a
  part-inside a e at = subst (λ (es : List (C × Option R)). a.index < length es) (sym (session-of_part kept h a.session))
      (slice_get_within (kept_of_session kept a.session (session h a.session)) a.index e at)

  stands_in_whole : (b : OpId) → IsOp h b → IsTrue (kept_of kept h b)
      → (e : C × Option R) × (slice_get (kept_of_session kept b.session (session h b.session)) (kept_before kept b.session (session h b.session) b.index) ≡ Some e)
      × (place_of kept b.session (session h b.session) (kept_before kept b.session (session h b.session) b.index) ≡ b.index)
  stands_in_whole b is_op holds =
      let found = kept_of-parts b holds in
      let r = kept_at kept b.session (session h b.session) b.index found.0 found.1 found.2 in
      (found.0, r.0, r.1)

  pub part-is_embedded : IsEmbedded h (part_by kept h) (kept_of kept h) whole_of part_of
  part-is_embedded = record {
    start = refl;
    is_kept = λ a is_op. let e = stands_in_part a is_op in let r = kept_from kept a.session (session h a.session) a.index e.0 e.1 in
        kept_of-from (whole_of a) e.0 r.0 r.1;
    same_entry = λ a is_op. let e = stands_in_part a is_op in
        (kept_from kept a.session (session h a.session) a.index e.0 e.1).0 ∙ sym e.1 ∙ sym (entry_in_part a);
    is_op = λ a is_op. let e = stands_in_part a is_op in
        slice_get_within (session h a.session) (place_of kept a.session (session h a.session) a.index) e.0
        (kept_from kept a.session (session h a.session) a.index e.0 e.1).0;
    back = λ a is_op. let e = stands_in_part a is_op in
        ap (op a.session) (kept_from kept a.session (session h a.session) a.index e.0 e.1).2;
    in_part = λ b is_op holds. let r = stands_in_whole b is_op holds in part-inside (part_of b) r.0 r.1;
    forth = λ b is_op holds. ap (op b.session) (stands_in_whole b is_op holds).2;
    in_order = λ a b is_op precedes.
        let e = stands_in_part b is_op in
        let es = kept_of_session kept a.session (session h a.session) in
        let same : b.session ≡ a.session = sym precedes.0 in
        let at_b : slice_get es b.index ≡ Some e.0 = subst (λ (s : ℕ). slice_get (kept_of_session kept s (session h s)) b.index ≡ Some e.0) same e.1 in
        let within = slice_get_within es b.index e.0 at_b in
        let below = precedes.1 in
        let first = stands_inside es a.index (omega arith) in
        let order : place_of kept a.session (session h a.session) a.index < place_of kept a.session (session h a.session) b.index =
        kept-in_order kept a.session (session h a.session) a.index b.index first.0 e.0 precedes.1 first.1 at_b in
        (precedes.0, subst (λ (s : ℕ). place_of kept a.session (session h a.session) a.index < place_of kept s (session h s) b.index) precedes.0 order);
  }

module _ {S C R : Type 0} (answer : S → List C → C → R) (kept : OpId → C → Bool) (h : HistoryValue S C R) where
  -- a part meets what the whole meets where its known returns don't rest on calls that are left out
  pub meets-part : KeepsAnswers answer h (kept_of kept h) → (criterion : Criterion) → Meets answer h criterion → Meets answer (part_by kept h) criterion
  meets-part = meets-cut answer h (part_by kept h) (kept_of kept h) (whole_of kept h) (part_of kept h) (part-is_embedded kept h)
