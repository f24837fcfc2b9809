use Rattle.std.proofs.Common.{◌≡◌, ℕ, ◌+◌, List, [], ◌∷◌, ◌++◌, sym, subst, ◌∙◌, arith, set, take}
use Rattle.std.specs.Prelude.{slice_index}
use Rattle.std.proofs.lemmas.List.{get_or_default, length-take-le, take_more}
use Rattle.log_events.specs.Steps.Tallies.{AreCounted}
use Rattle.log_events.proofs.Searching.{keys-found, keys-missed}
use Rattle.log_events.proofs.Tallying.{counted-more, counted-other, count_in-le}
use Rattle.log_events.proofs.tallies.counts_of.Goals as goal
use Rattle.log_events.proofs.tallies.counts_of.Goals.{in-Ok, in_default}

pub overflow_add-index_mut : goal.overflow_add-index_mut
overflow_add-index_mut c =
    let keys = c.args.keys.now in
    let counts = c.loop-key.counts.items in
    let i = c.loop-key.key-index in
    let inside = c.in-Ok.ensures.bound in
    let as_many = c.loop-key.invariant.as_many in
    let same = get_or_default counts c.in-Ok.place 0 c.index_mut.result.now (omega arith) in
    let read = c.index_mut.ensures.value in
    let counted = c.loop-key.invariant.each c.in-Ok.place inside in
    let few = count_in-le (take i c.args.listed.now) (slice_index keys c.in-Ok.place) in
    let test = c.loop-key-test.true in
    let long = length-take-le i c.args.listed.now (omega arith) in
    let all = c.requires.few in
    omega arith

pub loop-key-preserved : goal.loop-key-preserved
loop-key-preserved c =
    let keys = c.args.keys.now in
    let listed = c.args.listed.now in
    let counts = c.loop-key.counts.items in
    let i = c.loop-key.key-index in
    let x = slice_index listed i in
    let before = take i listed in
    let more = take_more listed i 0 c.loop-key-test.true in
    elim c.match-binary_search.branch [
      | in-Ok w ↦
          let found = keys-found keys x w.in-Ok.place c.requires.rising w.in-Ok.ensures.position in
          let as_many = c.loop-key.invariant.as_many in
          let inside = found.0 in
          let value : slice_index counts w.in-Ok.place ≡ w.index_mut.result.now =
          get_or_default counts w.in-Ok.place 0 w.index_mut.result.now (omega arith) ∙ sym w.index_mut.ensures.value in
          rw w.counts-is
          (subst (λ (l : List ℕ). AreCounted l keys (set counts w.in-Ok.place (w.index_mut.result.now + 1))) (sym more)
          (subst (λ (n : ℕ). AreCounted (before ++ x ∷ []) keys (set counts w.in-Ok.place (n + 1))) value
          (counted-more before keys counts x w.in-Ok.place c.loop-key.invariant c.requires.rising found.0 found.1)))
      | in_default w ↦
          let missed = keys-missed keys x w.in_default.field-0 c.requires.rising (rw w.in_default.is at c.binary_search.ensures.position) in
          rw w.counts-is
          (subst (λ (l : List ℕ). AreCounted l keys counts) (sym more) (counted-other before keys counts x c.loop-key.invariant missed))
    ]
