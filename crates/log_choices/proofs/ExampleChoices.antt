-- Histories of some logs by choices, computed; and a lost write behind a delete, which is a no.
use Rattle.std.proofs.Common.{◌≡◌, ℕ, zero, suc, Bool, List, [], ◌∷◌, refl, inl, arith}
use Rattle.std.specs.Prelude.{◌≢◌, Option, Some, None}
use Rattle.model_objects.specs.declared.register.RegisterRet.TheVariants.{Done, Value}
use Rattle.log_events.specs.declared.event.ClientCall.TheVariants.{WriteTo, ReadOf, DeleteOf}
use Rattle.log_events.specs.declared.event.Ending.{Ending}
use Rattle.log_events.specs.declared.event.Ending.TheVariants.{Answered, GotNothing, Failed, Lost}
use Rattle.log_events.specs.declared.event.Event.{Event}
use Rattle.log_events.specs.declared.event.Event.TheVariants.{Begins, Ends}
use Rattle.log_events.specs.Events.{IsAt}
use Rattle.log_events.specs.Histories.{write, read}
use Rattle.log_choices.specs.Choices.{IsCandidate, IsNullRead, leaves_out}
use Rattle.log_choices.specs.ChosenHistories.{history_by}
use Rattle.log_choices.specs.Forced.{BeginsWriteOf, Comes, IsOut, LacksCandidates, in_session, replaced, start_replaced}

-- a lost delete, and a read that found nothing
lost_delete : List Event
lost_delete = Begins 0 (DeleteOf 1) ∷ Ends 0 Lost ∷ Begins 1 (ReadOf 1) ∷ Ends 1 GotNothing ∷ []

-- it forks off where the read saw it
seen : history_by lost_delete (λ place. Some (Some 0))
    ≡ ([], (write 1 1 (Some Done) ∷ []) ∷ (read 2 (Some (Value 2)) ∷ []) ∷ (read 1 (Some (Value 1)) ∷ write 2 2 None ∷ []) ∷ [])
unfolding lost_delete
seen = refl

-- it is left out where the read saw the start, or is left out
unseen : history_by lost_delete (λ place. Some None) ≡ ([], [] ∷ (read 2 (Some (Value 0)) ∷ []) ∷ [])
unfolding lost_delete
unseen = refl

left_out : history_by lost_delete leaves_out ≡ ([], [] ∷ [] ∷ [])
unfolding lost_delete
left_out = refl

-- a client deletes a key, writes it, and finds nothing there
pub lost_write : List Event
lost_write = Begins 0 (DeleteOf 0) ∷ Ends 0 Answered ∷ Begins 0 (WriteTo 0 0) ∷ Ends 0 Answered ∷ Begins 0 (ReadOf 0) ∷ Ends 0 GotNothing ∷ []

module _ (in_time : Bool) where
  -- no call of it fails or is lost
  answered : (k : ℕ) (ending : Ending) → IsAt lost_write k (Ends 0 ending) → (ending ≢ Failed) × (ending ≢ Lost)
  unfolding lost_write
  answered zero ending at = absurd cc
  answered (suc zero) ending at = let same : Answered ≡ ending = cc in ((λ failed. absurd cc), (λ lost. absurd cc))
  answered (suc (suc zero)) ending at = absurd cc
  answered (suc (suc (suc zero))) ending at = let same : Answered ≡ ending = cc in ((λ failed. absurd cc), (λ lost. absurd cc))
  answered (suc (suc (suc (suc zero)))) ending at = absurd cc
  answered (suc (suc (suc (suc (suc zero))))) ending at = let same : GotNothing ≡ ending = cc in ((λ failed. absurd cc), (λ lost. absurd cc))
  answered (suc (suc (suc (suc (suc (suc k)))))) ending at = absurd cc

  null : IsNullRead lost_write 0 0 4 5
  unfolding lost_write
  null = record {
    ended = record {
      was_open = record { begun = refl; earlier = omega arith; unended = λ k ending above below at. omega arith };
      ends = refl;
    };
    named = refl;
  }

  delete-before-write : Comes in_time lost_write 0 2
  unfolding lost_write
  delete-before-write = in_session (record {
    client = 0;
    call = DeleteOf 0;
    next = WriteTo 0 0;
    first = refl;
    second = refl;
    earlier = omega arith;
    not_failed = λ k end. (answered k Failed end.ends).0 refl;
    not_lost = λ k end. (answered k Lost end.ends).1 refl;
  })

  write-before-read : Comes in_time lost_write 2 4
  unfolding lost_write
  write-before-read = in_session (record {
    client = 0;
    call = WriteTo 0 0;
    next = ReadOf 0;
    first = refl;
    second = refl;
    earlier = omega arith;
    not_failed = λ k end. (answered k Failed end.ends).0 refl;
    not_lost = λ k end. (answered k Lost end.ends).1 refl;
  })

  writes : BeginsWriteOf lost_write 0 2
  unfolding lost_write
  writes = (0, inl (0, refl))

  only-delete : (p client : ℕ) → IsAt lost_write p (Begins client (DeleteOf 0)) → p ≡ 0
  unfolding lost_write
  only-delete zero client at = refl
  only-delete (suc zero) client at = absurd cc
  only-delete (suc (suc zero)) client at = absurd cc
  only-delete (suc (suc (suc zero))) client at = absurd cc
  only-delete (suc (suc (suc (suc zero)))) client at = absurd cc
  only-delete (suc (suc (suc (suc (suc zero))))) client at = absurd cc
  only-delete (suc (suc (suc (suc (suc (suc p)))))) client at = absurd cc

  out : (c : Option ℕ) → IsCandidate in_time lost_write 0 5 c → IsOut in_time lost_write 4 c
  out None candidate = start_replaced 0 0 5 2 null writes write-before-read
  out (Some zero) candidate = replaced 0 0 5 2 null writes (λ same. omega arith) delete-before-write write-before-read
  out (Some (suc p)) ((client, at, _), _) = let none = only-delete (suc p) client at in absurd (omega arith)

  -- the read is left with no candidate
  pub lost_write-lacks : LacksCandidates in_time lost_write 4
  lost_write-lacks = (0, 0, 5, null, out)
