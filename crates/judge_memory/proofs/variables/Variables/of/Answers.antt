use Rattle.std.proofs.Common.{subst₂, List, ℕ}
use Rattle.judge_memory.specs.Lists.{ArePlaces}
use Rattle.judge_memory.proofs.KeyPlaces.{places-below, places-variables}
use Rattle.judge_memory.proofs.variables.Variables.of.Goals as goal

pub places-requires-clause-each : goal.places-requires-clause-each
places-requires-clause-each c = rw (c.deref-2.ensures.value, c.deref-3.ensures.value, ← c.deref.ensures.value) c.in_ok-distinct.ensures.each

pub returns-clause-variables : goal.returns-clause-variables
returns-clause-variables c =
    let places = subst₂ (λ (xs ys : List ℕ). ArePlaces xs ys c.in_ok-by_number.by_number.items)
    c.deref-2.ensures.value c.deref-3.ensures.value c.in_ok-by_number.ensures in
    places-variables c.args.h.now _ _ _ c.in_ok-keys.ensures.keys places c.in_ok-distinct.ensures.rising

pub returns-clause-below : goal.returns-clause-below
returns-clause-below c = rw (c.len.ensures, ← c.deref-2.ensures.len) (places-below _ _ _ c.in_ok-by_number.ensures)
