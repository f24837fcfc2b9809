-- The numbers of pending calls.
use Rattle.std.proofs.Common.{◌≡◌, ℕ, ◌+◌, ◌-◌, ◌<◌, ◌≤◌, List, length, subst, ⊎_elim, arith}
use Rattle.std.specs.Prelude.{◌≢◌, slice_index}
use Rattle.std.proofs.lemmas.Bool.{cases_lt}
use Rattle.std.proofs.lemmas.List.{get_or_past}
use Rattle.std.proofs.lemmas.Option.{slice_get_within}
use Rattle.log_events.specs.declared.event.Ending.{Ending}
use Rattle.log_events.specs.declared.event.Event.{Event}
use Rattle.log_events.specs.declared.event.Event.TheVariants.{Ends}
use Rattle.log_events.specs.Events.{Call, run_calls}
use Rattle.log_events.specs.Pending.{MayFollow}
use Rattle.log_events.specs.Kept.{ArePending}
use Rattle.log_events.proofs.Following.{end-call}

-- n is one more than the number of the pending call of the client
pub record IsNumber (calls : List Call) (pending : List ℕ) (c n : ℕ) : Type 0 where
  pub positive : 1 ≤ n
  pub within : n - 1 < length calls
  pub client_within : c < length pending
  pub is : slice_index pending c ≡ (n - 1) + 1

pub number-listed : (calls : List Call) (pending : List ℕ) (c n : ℕ) → ArePending calls pending → n ≡ slice_index pending c → n ≢ 0
    → IsNumber calls pending c n
number-listed calls pending c n are read some =
    let is : slice_index pending c ≡ (n - 1) + 1 = omega arith in
    let b = are.open_still c (n - 1) is in record {
      positive = omega arith;
      within = slice_get_within calls (n - 1) b.0 b.1;
      client_within = ⊎_elim
          (λ (below : c < length pending). below)
          (λ (past : length pending ≤ c). let none = get_or_past pending c 0 past in absurd (omega arith))
          (cases_lt c (length pending));
      is = is;
    }

-- where an end may come next, there is such a call
pub end-listed : (es : List Event) (calls : List Call) (pending : List ℕ) (c n : ℕ) (ending : Ending) → calls ≡ run_calls es
    → ArePending calls pending → n ≡ slice_index pending c → MayFollow es (Ends c ending) → IsNumber calls pending c n
end-listed es calls pending c n ending same are read may =
    let r = end-call es pending (subst (λ (l : List Call). ArePending l pending) same are) c ending may in
    let known = r.2 in
    number-listed calls pending c n are read (λ none. absurd (omega arith))
