-- What calls came to: the keys and values of lost writes, of reads that got a value, of deletes, and of reads that got nothing.
use Rattle.std.specs.Prelude.{ℕ, List, filter_map, Option, Some, None}
use Rattle.log_events.specs.declared.event.ClientCall.{ClientCall}
use Rattle.log_events.specs.declared.event.ClientCall.TheVariants.{WriteTo, ReadOf, DeleteOf}
use Rattle.log_events.specs.declared.event.Ending.{Ending}
use Rattle.log_events.specs.declared.event.Ending.TheVariants.{Got, GotNothing, Failed, Lost}
use Rattle.log_events.specs.Events.{Call}

-- of a lost write its key and value
abbrev pub lost_pair : ClientCall → Option Ending → Option (ℕ × ℕ)
lost_pair (WriteTo x v) (Some Lost) = Some (x, v)
lost_pair call ending = None

-- of a read that got a value its key and the value
abbrev pub got_pair : ClientCall → Option Ending → Option (ℕ × ℕ)
got_pair (ReadOf x) (Some (Got v)) = Some (x, v)
got_pair call ending = None

-- the key of a delete that did not fail
abbrev pub deleted_key : ClientCall → Option Ending → Option ℕ
deleted_key (DeleteOf x) (Some Failed) = None
deleted_key (DeleteOf x) ending = Some x
deleted_key call ending = None

-- the key of a read that got nothing
abbrev pub missed_key : ClientCall → Option Ending → Option ℕ
missed_key (ReadOf x) (Some GotNothing) = Some x
missed_key call ending = None

abbrev pub lost_pairs : List Call → List (ℕ × ℕ)
lost_pairs calls = filter_map (λ (a : Call). lost_pair a.call a.ending) calls

abbrev pub got_pairs : List Call → List (ℕ × ℕ)
got_pairs calls = filter_map (λ (a : Call). got_pair a.call a.ending) calls

abbrev pub deleted_keys : List Call → List ℕ
deleted_keys calls = filter_map (λ (a : Call). deleted_key a.call a.ending) calls

abbrev pub missed_keys : List Call → List ℕ
missed_keys calls = filter_map (λ (a : Call). missed_key a.call a.ending) calls
