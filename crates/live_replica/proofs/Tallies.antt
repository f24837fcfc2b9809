-- What is counted of updates when one more is put among them.
use Rattle.std.proofs.Common.{◌≡◌, ℕ, ◌+◌, ◌<◌, ◌≤◌, List, [], ◌∷◌, ◌++◌, take, drop, length, sym, ap, ◌∙◌, arith, get_or}
use Rattle.std.specs.Prelude.{max, insert}
use Rattle.std.proofs.lemmas.List.Sums.{sum_by-insert, count_by-le-length}
use Rattle.std.proofs.lemmas.List.{take-append-drop}
use Rattle.model_history.specs.declared.limits.TheConstants.{MAX_SESSIONS}
use Rattle.live_replica.specs.declared.update.UpdateOf.{UpdateOf}
use Rattle.live_replica.specs.Updates.{end_of, many, one_of, reach}
use Rattle.live_replica.specs.Steps.Logs.{IsTally}

module _ {C : Type 0} where
  pub reach-append : (us vs : List (UpdateOf C)) (s : ℕ) → reach (us ++ vs) s ≡ max (reach us s) (reach vs s)
  reach-append [] vs s = omega arith
  reach-append (u ∷ us) vs s = let e = reach-append us vs s in omega arith

  pub reach-split : (us : List (UpdateOf C)) (at s : ℕ) → max (reach (take at us) s) (reach (drop at us) s) ≡ reach us s
  reach-split us at s = sym (reach-append (take at us) (drop at us) s) ∙ ap (λ (l : List (UpdateOf C)). reach l s) (take-append-drop at us)

  pub reach-insert : (us : List (UpdateOf C)) (at s : ℕ) (u : UpdateOf C) → reach (insert us at u) s ≡ max (end_of u s) (reach us s)
  reach-insert us at s u = let e = reach-append (take at us) (u ∷ drop at us) s in let f = reach-split us at s in omega arith

  pub many-insert : (us : List (UpdateOf C)) (at s : ℕ) (u : UpdateOf C) → many (insert us at u) s ≡ many us s + one_of u s
  many-insert us at s u = sum_by-insert _ us at u

  -- no session wrote more updates than there are
  pub many-le : (us : List (UpdateOf C)) (s : ℕ) → many us s ≤ length us
  many-le us s = count_by-le-length _ us

  pub tally-insert : (us : List (UpdateOf C)) (at : ℕ) (u : UpdateOf C) (counts ends counts' ends' : List ℕ) → IsTally us counts ends
      → ((s : ℕ) → s < MAX_SESSIONS → get_or counts' s 0 ≡ get_or counts s 0 + one_of u s)
      → ((s : ℕ) → s < MAX_SESSIONS → get_or ends' s 0 ≡ max (end_of u s) (get_or ends s 0))
      → IsTally (insert us at u) counts' ends'
  tally-insert us at u counts ends counts' ends' t counted ended = record {
    counted = λ s below. counted s below ∙ (ap (λ (n : ℕ). n + one_of u s) (t.counted s below) ∙ sym (many-insert us at s u));
    ended = λ s below. ended s below ∙ (ap (λ (n : ℕ). max (end_of u s) n) (t.ended s below) ∙ sym (reach-insert us at s u));
  }
