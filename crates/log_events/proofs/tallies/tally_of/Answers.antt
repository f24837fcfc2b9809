use Rattle.std.proofs.Common.{◌≡◌, ℕ, ◌<◌, List, [], ◌∷◌, ◌++◌, sym, subst, ◌∙◌, arith, length, get_or, take}
use Rattle.std.specs.Prelude.{slice_index}
use Rattle.std.proofs.lemmas.List.{get_or_default, take_more}
use Rattle.log_events.specs.Steps.Tallies.{IsTally, count_in}
use Rattle.log_events.proofs.Tallying.{above-first, tally-more, tally-other}
use Rattle.log_events.proofs.tallies.tally_of.Goals as goal
use Rattle.log_events.proofs.tallies.tally_of.Goals.{then-index-ne0+in_ok-push, else-index-ne0}

pub loop-place-preserved : goal.loop-place-preserved
loop-place-preserved c =
    let keys = c.args.keys.now in
    let xs = c.args.listed.now in
    let counts = c.in_ok-counts.counts.items in
    let i = c.loop-place.place in
    let x = get_or keys i 0 in
    let found = c.loop-place.found.items in
    let counted = c.in_ok-counts.ensures in
    let within = c.loop-place-test.true in
    let as_many = counted.as_many in
    let many : i < length counts = omega arith in
    let each = counted.each i within in
    let first = above-first keys i c.requires.rising within in
    let one = take_more keys i 0 within in
    let read : slice_index counts i ≡ c.index.result.now = get_or_default counts i 0 c.index.result.now many ∙ sym c.index.ensures in
    elim c.if-index-ne0.branch [
      | then-index-ne0+in_ok-push w ↦
          let again : slice_index counts i ≡ w.index-then-index-ne0.result.now =
          get_or_default counts i 0 w.index-then-index-ne0.result.now many ∙ sym w.index-then-index-ne0.ensures in
          let some = w.if-index-ne0.true in
          let is : count_in xs x ≡ w.index-then-index-ne0.result.now = sym each ∙ again in
          rw (w.found-is, w.in_ok-push.ensures.items)
          (subst (λ (l : List ℕ). IsTally xs l (found ++ (x, w.index-then-index-ne0.result.now) ∷ [])) (sym one)
          (subst (λ (n : ℕ). IsTally xs (take i keys ++ x ∷ []) (found ++ (x, n) ∷ [])) is
          (tally-more xs (take i keys) x found c.loop-place.invariant first (omega arith))))
      | else-index-ne0 w ↦
          let none = w.if-index-ne0.false in
          rw w.found-is
          (subst (λ (l : List ℕ). IsTally xs l found) (sym one) (tally-other xs (take i keys) x found c.loop-place.invariant first (sym each ∙ read ∙ none)))
    ]
