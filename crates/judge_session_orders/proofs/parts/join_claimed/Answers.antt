use Rattle.std.specs.Prelude.{◌≡◌, ◌++◌, ◌∷◌, ◌+◌, ℕ, [], List, length, slice_index_or, vec_len, IfOk}
use Rattle.std.proofs.Common.{arith, ap, sym, ◌∙◌, subst}
use Rattle.std.proofs.Math.Seq.{get_or-append_seam}
use Rattle.std.proofs.lemmas.List.{get_or_append_left}
use Rattle.judge_session_orders.specs.OrderedSessions.{AreOrderedSessions}
use Rattle.judge_session_orders.specs.SessionOrders.{AreOrdered}
use Rattle.judge_session_orders.specs.declared.ordering.Unexplained.{Unexplained}
use Rattle.judge_session_orders.proofs.OrderedSessions.{earlier-either, ordered-joined, ordered-none}
use Rattle.judge_session_orders.proofs.parts.join_claimed.Goals as goal

pub loop-part-init : goal.loop-part-init
loop-part-init c = record {
  each = c.requires.each;
  whole = ordered-none c.args._index.now.history c.args._sessions.now c.none-whole.result c.none-whole.ensures.places c.none-whole.ensures.unexplained;
}

pub loop-part-preserved : goal.loop-part-preserved
loop-part-preserved c =
    let h = c.args._index.now.history in
    let list : List ℕ = c.args._sessions.now in
    let old = c.loop-part in
    let one = c.in-Some.part in
    let left = c.pop.new.self.items in
    let p : ℕ = vec_len c.pop.new.self in
    let size : p ≡ length left = c.pop.new.self.ok.0 in
    let grown = c.in-Some.ensures.items in
    let more : vec_len old.parts ≡ p + 1 = sym c.in-Some.ensures.cases in
    let value = ap (λ xs. slice_index_or xs p one) grown ∙ ap (λ (j : ℕ). slice_index_or (left ++ one ∷ []) j one) size
    ∙ get_or-append_seam left one [] one in
    let this : IfOk one (AreOrderedSessions h list) =
    subst (λ r. IfOk r (AreOrderedSessions h list)) value (old.invariant.each p one (omega arith)) in
    let is : AreOrderedSessions h list c.in_ok-places.field-0 = subst (λ r. IfOk r (AreOrderedSessions h list)) c.in_ok-places.was this in
    record {
      each = λ i d below. subst (λ r. IfOk r (AreOrderedSessions h list))
          (ap (λ xs. slice_index_or xs i d) grown ∙ get_or_append_left left (one ∷ []) d i (omega arith))
          (old.invariant.each i d (omega arith));
      whole = record {
        each = ordered-joined h list old.whole.places.items c.in_ok-places.field-0.places.items c.append.new.self.items
            c.in_ok-append.ensures.items old.invariant.whole.each is.each;
        unexplained = earlier-either (λ (u : Unexplained). AreOrdered h u.order) c.in_ok-places.field-0.unexplained old.whole.unexplained
            c.earlier-whole.result c.earlier-whole.ensures is.unexplained old.invariant.whole.unexplained;
      };
    }

pub loop-part-smaller : goal.loop-part-smaller
loop-part-smaller c = let less = c.in-Some.ensures.cases in omega arith

pub returns : goal.returns
returns c = c.loop-part.invariant.whole
