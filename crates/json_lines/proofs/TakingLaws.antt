-- What is taken of a reader, step after step.
use Rattle.std.proofs.Common.{[], ◌++◌, List, Option, ℕ, sym, ap, ◌∙◌, append_assoc, append-nil}
use Rattle.std.proofs.KnownBytes.{Consumes-kept, Consumes-nil, Consumes-trans}
use Rattle.std.specs.Io.KnownBytes.{Consumes, Keeps}
use Rattle.json_lines.specs.ReadCalls.{IsFurther}
use Rattle.json_lines.specs.Steps.{Takes, TakesSome}

pub takes-none : (reader : Option (List ℕ)) (held : List ℕ) → Takes reader reader held held
takes-none reader held = record { taken = []; consumed = Consumes-nil reader; held = sym (append-nil held) }

pub takes-more : (a b c : Option (List ℕ)) (h i j : List ℕ) → Takes a b h i → Takes b c i j → Takes a c h j
takes-more a b c h i j first second = record {
  taken = first.taken ++ second.taken;
  consumed = Consumes-trans a b c first.taken second.taken first.consumed second.consumed;
  held = second.held ∙ ap (λ l. l ++ second.taken) first.held ∙ append_assoc h first.taken second.taken;
}

-- what is held when reading fails
pub takes-some : (a b : Option (List ℕ)) (h i : List ℕ) → Takes a b h i → TakesSome a b h i
takes-some a b h i first = (b, [], first, Consumes-nil b)

pub takes-kept : (a b c : Option (List ℕ)) (h i : List ℕ) → Takes a b h i → Keeps b c → TakesSome a c h i
takes-kept a b c h i first kept = (b, [], first, Consumes-kept b b c [] (Consumes-nil b) kept)

pub takes-lost : (a b c : Option (List ℕ)) (h i lost : List ℕ) → Takes a b h i → Consumes b c lost → TakesSome a c h i
takes-lost a b c h i lost first more = (b, lost, first, more)

-- what a reader has then
pub further_none : (a : Option (List ℕ)) → IsFurther a a
further_none a = ([], Consumes-nil a)

pub further_more : (a b c : Option (List ℕ)) → IsFurther a b → IsFurther b c → IsFurther a c
further_more a b c first second = (first.0 ++ second.0, Consumes-trans a b c first.0 second.0 first.1 second.1)

pub further_some : (a c : Option (List ℕ)) (h i : List ℕ) → TakesSome a c h i → IsFurther a c
further_some a c h i (b, lost, takes, more) = (takes.taken ++ lost, Consumes-trans a b c takes.taken lost takes.consumed more)
