use Rattle.std.specs.Prelude.{◌≡◌, ◌++◌, ◌∷◌, ◌+◌, ℕ, [], length, slice_index_or, vec_len, IfOk}
use Rattle.std.proofs.Common.{arith, ap, sym, ◌∙◌, subst}
use Rattle.std.proofs.Math.Seq.{get_or-append_seam}
use Rattle.std.proofs.lemmas.List.{get_or_append_left}
use Rattle.judge_columns.specs.Forks.{IsForkAt}
use Rattle.judge_columns.specs.Groups.{IsClaimed}
use Rattle.judge_columns.proofs.GroupsSwept.{joined-groups, joined-places}
use Rattle.judge_columns.proofs.parts.join_claimed.Goals as goal

pub loop-part-init : goal.loop-part-init
loop-part-init c = record {
  each = c.requires.each;
  whole = c.nothing_claimed-whole.ensures c.args._index.now.history c.args._share.now;
}

pub loop-part-preserved : goal.loop-part-preserved
loop-part-preserved c =
    let h = c.args._index.now.history in
    let share = c.args._share.now in
    let old = c.loop-part in
    let one = c.in-Some.part in
    let left = c.pop.new.self.items in
    let p : ℕ = vec_len c.pop.new.self in
    let size : p ≡ length left = c.pop.new.self.ok.0 in
    let grown = c.in-Some.ensures.items in
    let more : vec_len old.parts ≡ p + 1 = sym c.in-Some.ensures.cases in
    let value = ap (λ xs. slice_index_or xs p one) grown ∙ ap (λ (j : ℕ). slice_index_or (left ++ one ∷ []) j one) size
    ∙ get_or-append_seam left one [] one in
    let this : IfOk one (IsClaimed h share) = subst (λ r. IfOk r (IsClaimed h share)) value (old.invariant.each p one (omega arith)) in
    let is : IsClaimed h share c.in_ok-sessions.field-0 = subst (λ r. IfOk r (IsClaimed h share)) c.in_ok-sessions.was this in
    let sessions = c.in_ok-sessions.field-0.sessions in
    let forks = c.in_ok-sessions.field-0.forks in
    let whole = old.whole in
    record {
      each = λ i d below. subst (λ r. IfOk r (IsClaimed h share))
          (ap (λ xs. slice_index_or xs i d) grown ∙ get_or_append_left left (one ∷ []) d i (omega arith))
          (old.invariant.each i d (omega arith));
      whole = (
        joined-places h share.sessions.items whole.sessions.numbers.items sessions.numbers.items c.join.new.self.numbers.items
            c.in_ok-join.ensures.numbers whole.sessions.swept sessions.swept c.join.new.self.swept old.invariant.whole.0 is.0
            c.in_ok-join.ensures.start c.in_ok-join.ensures.read c.in_ok-join.ensures.edges,
        joined-groups h 128 (IsForkAt h share.forks.items) whole.forks.numbers.items forks.numbers.items
            c.join-in-Some.new.self.numbers.items c.in_ok-join-2.ensures.numbers whole.forks.swept forks.swept
            c.join-in-Some.new.self.swept old.invariant.whole.1 is.1 c.in_ok-join-2.ensures.start c.in_ok-join-2.ensures.read
            c.in_ok-join-2.ensures.edges,
      );
    }
