-- How often a list of stamped operations names each session.
use Rattle.std.specs.Prelude.{◌≡◌, ◌==◌, ℕ, ◌+◌, ◌∷◌, ◌++◌, List, [], Option, length, replicate, cond}
use Rattle.std.proofs.Common.{zero, suc, append_assoc, arith, refl, ap, ◌∙◌}
use Rattle.std.proofs.lemmas.List.{map-append, replicate-append-replicate}
use Rattle.std.proofs.lemmas.List.Sorted.{IsPermutation-map, sum_by-IsPermutation}
use Rattle.model_history.specs.declared.advice.Advice.{Advice}
use Rattle.model_history.specs.History.{HistoryValue, session}
use Rattle.order_causal.specs.Schedules.{placed}
use Rattle.cert_make.specs.Advice.{advice_in, heard_before}
use Rattle.cert_make.specs.ByProgramOrder.{in_turn}
use Rattle.cert_make.specs.ByStamp.{AreByStamp, Stamped, sessions_of, stamped_before, stamped_in}
use Rattle.cert_make.proofs.InTurn.{in_turn-all}

more : (n : ℕ) → n + 1 ≡ suc n
more n = omega arith

-- the operations of a session
sessions-in : (reported : List (Option Advice)) (s n : ℕ) → sessions_of (stamped_in reported s n) ≡ replicate n s
sessions-in reported s zero = refl
sessions-in reported s (suc n) =
    map-append (λ (o : Stamped). o.1) (stamped_in reported s n) _
    ∙ ap (λ (xs : List ℕ). xs ++ s ∷ []) (sessions-in reported s n)
    ∙ replicate-append-replicate n 1 s
    ∙ ap (λ (m : ℕ). replicate m s) (more n)

-- one operation more of a session
pub stamped-next : (reported : List (Option Advice)) (s i stamp : ℕ) (before now : List Stamped) → now ≡ before ++ stamped_in reported s i
    → stamp ≡ (heard_before reported s (i + 1)).1 → now ++ (stamp, s, i) ∷ [] ≡ before ++ stamped_in reported s (i + 1)
stamped-next reported s i stamp before now so_far is =
    let next : suc i ≡ i + 1 = omega arith in
    (λ j. so_far j ++ (is j, s, i) ∷ [])
    ∙ append_assoc before (stamped_in reported s i) (((heard_before reported s (i + 1)).1, s, i) ∷ [])
    ∙ ap (λ (n : ℕ). before ++ stamped_in reported s n) next

module _ {S C R : Type 0} (h : HistoryValue S C R) (advice : List (Option Advice)) where
  -- those of the first sessions
  sessions-before : (n : ℕ) → sessions_of (stamped_before h advice n) ≡ in_turn h n
  sessions-before zero = refl
  sessions-before (suc n) =
      map-append (λ (o : Stamped). o.1) (stamped_before h advice n) (stamped_in (advice_in h advice n) n (length (session h n)))
      ∙ ap (λ (xs : List ℕ). xs ++ sessions_of (stamped_in (advice_in h advice n) n (length (session h n)))) (sessions-before n)
      ∙ ap (λ (xs : List ℕ). in_turn h n ++ xs) (sessions-in (advice_in h advice n) n (length (session h n)))

  -- in any order they name each session as often as it has operations
  pub stamped_times : (ops : List Stamped) → AreByStamp h advice ops → (s : ℕ) → placed (sessions_of ops) s ≡ length (session h s)
  stamped_times ops by_stamp s =
      sum_by-IsPermutation (λ (t : ℕ). cond (t == s) 1 0) _ _ (IsPermutation-map (λ (o : Stamped). o.1) _ _ by_stamp.all)
      ∙ ap (λ (xs : List ℕ). placed xs s) (sessions-before (length h.1))
      ∙ in_turn-all h s
