-- How often a list that has the sessions one after another names each.
use Rattle.std.specs.Prelude.{◌≡◌, ◌≢◌, ◌==◌, ℕ, ◌*◌, ◌<◌, ◌≤◌, [], length, replicate, cond}
use Rattle.std.proofs.Common.{zero, suc, arith, refl, sym, ap, ◌∙◌, subst, ⊎_elim, eq-eqb}
use Rattle.std.proofs.lemmas.Bool.{cases_eq, cases_lt, ne_eqb}
use Rattle.std.proofs.lemmas.List.{get_or_past}
use Rattle.std.proofs.lemmas.List.Sums.{sum_by-append}
use Rattle.std.proofs.lemmas.List.Folds.{sum_by-replicate}
use Rattle.model_history.specs.History.{HistoryValue, session}
use Rattle.order_causal.specs.Schedules.{placed}
use Rattle.cert_make.specs.ByProgramOrder.{in_turn}

pub placed-replicate : (n s : ℕ) → placed (replicate n s) s ≡ n
placed-replicate n s =
    let each = sum_by-replicate (λ t. cond (t == s) 1 0) n s in
    let one : n * cond (s == s) 1 0 ≡ n * 1 = ap (λ b. n * cond b 1 0) (eq-eqb s s refl) in
    each ∙ one ∙ omega arith

placed-replicate_other : (n s t : ℕ) → s ≢ t → placed (replicate n s) t ≡ 0
placed-replicate_other n s t apart =
    let each = sum_by-replicate (λ r. cond (r == t) 1 0) n s in
    let none : n * cond (s == t) 1 0 ≡ n * 0 = ap (λ b. n * cond b 1 0) (ne_eqb s t apart) in
    each ∙ none ∙ omega arith

module _ {S C R : Type 0} (h : HistoryValue S C R) where
  -- a session that hasn't had its turn isn't named
  pub in_turn-later : (n s : ℕ) → n ≤ s → placed (in_turn h n) s ≡ 0
  in_turn-later zero s later = refl
  in_turn-later (suc n) s later =
      let both = sum_by-append (λ t. cond (t == s) 1 0) (in_turn h n) (replicate (length (session h n)) n) in
      let before = in_turn-later n s (omega arith) in
      let here = placed-replicate_other (length (session h n)) n s (omega arith) in
      omega arith

  -- one that has had it is named as often as it has operations
  pub in_turn-earlier : (n s : ℕ) → s < n → placed (in_turn h n) s ≡ length (session h s)
  in_turn-earlier zero s earlier = absurd (omega arith)
  in_turn-earlier (suc n) s earlier =
      let both = sum_by-append (λ t. cond (t == s) 1 0) (in_turn h n) (replicate (length (session h n)) n) in
      ⊎_elim
      (λ (last : s ≡ n).
      let before = in_turn-later n s (omega arith) in
      let here : placed (replicate (length (session h n)) n) s ≡ length (session h s) =
      subst (λ (t : ℕ). placed (replicate (length (session h n)) n) t ≡ length (session h t)) (sym last) (placed-replicate (length (session h n)) n) in
      omega arith)
      (λ (apart : s ≢ n).
      let before = in_turn-earlier n s (omega arith) in
      let here = placed-replicate_other (length (session h n)) n s (omega arith) in
      omega arith)
      (cases_eq s n)

  -- all sessions in turn name each operation
  pub in_turn-all : (s : ℕ) → placed (in_turn h (length h.1)) s ≡ length (session h s)
  in_turn-all s = ⊎_elim
      (λ (below : s < length h.1). in_turn-earlier (length h.1) s below)
      (λ (past : length h.1 ≤ s). in_turn-later (length h.1) s past ∙ sym (ap length (get_or_past h.1 s [] past)))
      (cases_lt s (length h.1))
