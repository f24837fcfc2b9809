-- What is found of a null read, by the deletes of its key.
use Rattle.std.proofs.Common.{◌≡◌, ℕ, subst}
use Rattle.std.specs.Prelude.{◌↔◌, IsTrue, Bool, false, Contains, List, Option, None}
use Rattle.std.proofs.lemmas.List.Elements.{All-contains}
use Rattle.log_events.specs.declared.event.Event.{Event}
use Rattle.log_events.specs.declared.event.Event.TheVariants.{Starts}
use Rattle.log_events.specs.Events.{IsAt}
use Rattle.log_choices.specs.Choices.{BeginsKeptDelete}
use Rattle.log_choices.specs.Forced.{IsOut}
use Rattle.log_choices.specs.ForcedSteps.{AreDeletes, GetsNothing, IsFirst, IsLeft, IsLook, look_by}
use Rattle.log_choices.specs.declared.forced_kept.Delete.{Delete}
use Rattle.log_choices.specs.declared.forced_looks.Left.{Left}
use Rattle.log_choices.specs.declared.forced_looks.NullRead.{NullRead}
use Rattle.log_choices.proofs.ForcedLooks.{look-from}

pub look-is : (in_time : Bool) (es : List Event) (read : NullRead) (gets : GetsNothing es read) (deletes part : List Delete) → AreDeletes es deletes
    → ((d : Delete) → Contains part d ↔ (Contains deletes d × (d.key ≡ read.key))) → (some : Delete) → Contains part some → (first : Option Delete)
    → IsFirst in_time read.end part first
    → (left : Left) (b : Bool) → IsLeft in_time es read.place read.end part left → (IsTrue b → (k v : ℕ) → ¬ IsAt es k (Starts read.key v))
    → (b ≡ false → (p : ℕ) → BeginsKeptDelete es read.key p → ((k v : ℕ) → ¬ IsAt es k (Starts read.key v))
    → IsOut in_time es read.place None) → IsLook in_time es read.place (look_by left b first)
look-is in_time es read gets deletes part are exact some there first within left b outs start out =
    look-from in_time es read gets part some.place (listed some there) listed lists left b outs start
    (λ none. out none some.place (listed some there)) first within
  where
    listed : (d : Delete) → Contains part d → BeginsKeptDelete es read.key d.place
    listed d there =
        let both = (exact d).0 there in
        subst (λ (x : ℕ). BeginsKeptDelete es x d.place) both.1
        (All-contains (λ (e : Delete). BeginsKeptDelete es e.key e.place) deletes d are.listed both.0)

    lists : (p : ℕ) → BeginsKeptDelete es read.key p → (d : Delete) × Contains part d × (d.place ≡ p)
    lists p begins = let (d, there, key, place) = are.lists read.key p begins in (d, (exact d).1 (there, key), place)
