-- Histories of some logs, computed.
use Rattle.std.proofs.Common.{◌≡◌, [], ◌∷◌, refl}
use Rattle.std.specs.Prelude.{Some, None}
use Rattle.model_objects.specs.declared.register.RegisterRet.TheVariants.{Done, Value}
use Rattle.log_events.specs.declared.event.ClientCall.TheVariants.{WriteTo, ReadOf, DeleteOf}
use Rattle.log_events.specs.declared.event.Ending.TheVariants.{Answered, Got, GotNothing, Failed, Lost}
use Rattle.log_events.specs.declared.event.Event.TheVariants.{Starts, Begins, Ends}
use Rattle.log_events.specs.Histories.{write, read, history_of}

-- a lost write that is read forks off; one that nobody read, a failed one and a lost read are left out; the last read is open
forked : history_of
    (Starts 0 3 ∷ Begins 0 (WriteTo 0 5) ∷ Ends 0 Lost ∷ Begins 1 (ReadOf 0) ∷ Begins 0 (WriteTo 0 6) ∷ Ends 1 (Got 5) ∷ Ends 0 Lost
    ∷ Begins 0 (WriteTo 0 7) ∷ Ends 0 Failed ∷ Begins 0 (ReadOf 0) ∷ Ends 0 Lost ∷ Begins 0 (ReadOf 0) ∷ [])
    ≡ ((0, 7) ∷ [], (write 3 1 (Some Done) ∷ read 0 None ∷ []) ∷ (read 0 (Some (Value 11)) ∷ []) ∷ (read 3 (Some (Value 1)) ∷ write 0 11 None ∷ []) ∷ [])
forked = refl

-- a delete writes a value of its own; a read of nothing is left out where some delete names its key
deleted : history_of
    (Begins 0 (DeleteOf 1) ∷ Ends 0 Answered ∷ Begins 1 (ReadOf 1) ∷ Ends 1 GotNothing ∷ Begins 1 (ReadOf 0) ∷ Ends 1 GotNothing ∷ [])
    ≡ ([], (write 2 2 (Some Done) ∷ []) ∷ (read 0 (Some (Value 0)) ∷ []) ∷ [])
deleted = refl
