-- Where the entries of a session stand among those of all sessions.
use Rattle.std.specs.Prelude.{◌≡◌, ℕ, ◌+◌, ◌-◌, ◌<◌, ◌≤◌, List, Option, None, slice_index_or, length, drop}
use Rattle.std.proofs.Common.{suc, arith, ap, ◌∙◌}
use Rattle.std.proofs.lemmas.List.{length-drop, length-take-le}
use Rattle.model_history.specs.declared.advice.Advice.{Advice}
use Rattle.model_history.specs.declared.op_id.OpId.{OpId}
use Rattle.model_history.specs.History.{HistoryValue, many_before, session}
use Rattle.order_causal.specs.Orders.{op}
use Rattle.model_history.proofs.Counting.{many_next, many_within}
use Rattle.cert_make.specs.Advice.{Heard, IsAdvised, advice_in, hear, heard_before}

-- what is known of the next operation of a session
pub hear_next : (reported : List (Option Advice)) (s i : ℕ) (o : OpId) (entry : Option Advice) (before : Heard)
    → o ≡ op s i → entry ≡ slice_index_or reported i None → before ≡ heard_before reported s i → hear o entry before ≡ heard_before reported s (i + 1)
hear_next reported s i o entry before same entry_is before_is =
    let more : suc i ≡ i + 1 = omega arith in
    (λ j. hear (same j) (entry_is j) (before_is j)) ∙ ap (λ (n : ℕ). heard_before reported s n) more

module _ {S C R : Type 0} (h : HistoryValue S C R) where
  -- what the counts of operations say, by the names that this crate's functions give them
  pub one_more : (n : ℕ) → n < length h.1 → many_before h (n + 1) ≡ many_before h n + length (session h n)
  one_more = many_next h

  pub within_all : (n : ℕ) → n < length h.1 → many_before h n + length (session h n) ≤ many_before h (length h.1)
  within_all = many_within h

  -- the entries of a session are as many as its operations
  pub advice_size : (advice : List (Option Advice)) (n : ℕ) → IsAdvised h advice → n < length h.1
      → length (advice_in h advice n) ≡ length (session h n)
  advice_size advice n advised below =
      let within = many_within h n below in
      let all = advised.one_each in
      let behind = length-drop (many_before h n) advice in
      let size : length (advice_in h advice n) ≡ (many_before h n + length (session h n)) - many_before h n =
      length-take-le ((many_before h n + length (session h n)) - many_before h n) (drop (many_before h n) advice) (omega arith) in
      omega arith
