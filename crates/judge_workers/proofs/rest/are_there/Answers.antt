use Rattle.std.specs.Prelude.{false, length}
use Rattle.std.proofs.Common.{◌<◌, ◌∙◌, ap, arith, get_or, sym}
use Rattle.std.proofs.lemmas.List.{length-set}
use Rattle.std.proofs.lemmas.Option.{slice_get_within}
use Rattle.judge_workers.specs.Numbers.{HasNumber}
use Rattle.judge_workers.proofs.NumberLists.{each-marked, marked-more, marked-past}
use Rattle.judge_workers.proofs.rest.are_there.Goals as goal
use Rattle.judge_workers.proofs.rest.are_there.Goals.{then-claimed-i, else-claimed-i}

pub loop-i-preserved : goal.loop-i-preserved
loop-i-preserved c =
    let claimed = c.args.claimed.now in
    let are = c.loop-i.are.items in
    let i = c.loop-i.i in
    let before = c.loop-i.invariant in
    elim c.if-claimed-i.branch [
      | then-claimed-i w ↦
          let items = ap (λ v. v.items) w.are-is in
          let inside : get_or claimed i 0 < length are = omega (arith, before.size, w.if-claimed-i.true) in
          record {
            size = ap length items ∙ length-set _ _ _ ∙ before.size;
            each = λ n is. each-marked claimed are i c.args.count c.loop-i-test.true before.each before.marked n (sym (ap (λ xs. get_or xs n false) items) ∙ is);
            marked = λ j n to at low.
                ap (λ xs. get_or xs n false) items
                ∙ marked-more claimed are i c.args.count c.loop-i-test.true before.each before.marked inside j n to at low;
          }
      | else-claimed-i w ↦
          let items = ap (λ v. v.items) w.are-is in
          record {
            size = ap length items ∙ before.size;
            each = λ n is. before.each n (sym (ap (λ xs. get_or xs n false) items) ∙ is);
            marked = λ j n to at low.
                ap (λ xs. get_or xs n false) items
                ∙ marked-past claimed are i c.args.count c.loop-i-test.true before.each before.marked w.if-claimed-i.false j n to at low;
          }
    ]

pub returns-clause-each : goal.returns-clause-each
returns-clause-each c = λ n below. (
  c.loop-i.invariant.each n,
  λ (has : HasNumber c.args.claimed.now n).
      let within = slice_get_within c.args.claimed.now has.0 n has.1 in
      c.loop-i.invariant.marked has.0 n (omega (arith, within, c.loop-i-test.false)) has.1 below,
)
