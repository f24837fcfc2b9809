-- What a search for a first operation says where it finds none.
use Rattle.std.proofs.Common.{◌≡◌, false, ℕ, ◌+◌, ◌<◌, ◌≤◌, arith, refl, sym, subst, ⊎_elim}
use Rattle.std.specs.Prelude.{Option, Some, None, IsSome, IsNone, MatchOption, is_some}
use Rattle.std.proofs.lemmas.Bool.{cases_lt, true≢false}
use Rattle.model_history.specs.declared.op_id.OpId.{OpId}
use Rattle.model_history.specs.History.{HistoryValue, IsOp}
use Rattle.order_causal.specs.Orders.{op}
use Rattle.cert_check.specs.Steps.Firsts.{IsFirstOfSession}

-- what is held, where it is known for all that may be held that none was found
pub none_found : {X Y : Type 0} (held : Option X) (first : Option Y) (P : X → Type 0) (Q : X → Y → Type 0) → IsSome held
    → ((x : X) → held ≡ Some x → MatchOption first (P x) (Q x)) → IsNone first → (x : X) × (held ≡ Some x) × P x
none_found None first P Q is found none = absurd (true≢false (sym is))
none_found (Some x) None P Q is found none = (x, refl, found x refl)
none_found (Some x) (Some y) P Q is found none = absurd (true≢false none)

-- one session more in which none was found
pub explained_more : {S C R : Type 0} (h : HistoryValue S C R) (explained : OpId → Type 0) (s : ℕ) (first : Option OpId) → is_some first ≡ false
    → IsFirstOfSession h explained s first → ((a i : ℕ) → a < s → IsOp h (op a i) → explained (op a i))
    → (a i : ℕ) → a < s + 1 → IsOp h (op a i) → explained (op a i)
explained_more h explained s None none found before a i below is_op = ⊎_elim
    (λ (earlier : a < s). before a i earlier is_op)
    (λ (here : s ≤ a).
    let same : s ≡ a = omega arith in
    subst (λ (z : ℕ). IsOp h (op z i) → explained (op z i)) same (found i) is_op)
    (cases_lt a s)
explained_more h explained s (Some x) none found before a i below is_op = absurd (true≢false none)
