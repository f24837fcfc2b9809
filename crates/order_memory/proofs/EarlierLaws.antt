-- What follows for the order of operations, and for the comparisons that it is made of.
use Rattle.std.proofs.Common.{◌≡◌, ◌⊎◌, ℕ, ◌+◌, ◌<◌, ◌≤◌, inl, inr, ⊎_elim, true, arith, ap, sym, refl, ◌∙◌, eqb-true, eq-or-lt_of_le, Ordering, Less, Equal, Greater}
use Rattle.std.specs.Ordering.{nat_cmp, ordering_then, is_lt, is_eq, ordering_index}
use Rattle.std.specs.Cmp.{IsTotalOrder, nat_cmp_total, unsigned_tied, on_total, then_total}
use Rattle.std.proofs.lemmas.Cmp.{tied_itself}
use Rattle.std.proofs.lemmas.Bool.Decides.{nat_tests}
use Rattle.model_history.specs.declared.op_id.OpId.{OpId}
use Rattle.order_causal.specs.Orders.{op, IsEarlier}
use Rattle.order_causal.proofs.OrdersLaws.{same_op}
use Rattle.order_memory.specs.Steps.Written.{by_op}

-- the operation before s.(i + 1) is one before s.i or s.i itself
pub earlier_cases : (a : OpId) (s i : ℕ) → IsEarlier a (op s (i + 1)) → IsEarlier a (op s i) ⊎ (a ≡ op s i)
earlier_cases a s i earlier =
    ⊎_elim
    (λ (below : a.session < s). inl (inl below))
    (λ (same : (a.session ≡ s) × (a.index < i + 1)). ⊎_elim
    (λ (here : a.index ≡ i). inr (same_op a (op s i) same.0 here))
    (λ (below : a.index < i). inl (inr (same.0, below)))
    (let up_to : a.index ≤ i = let below = same.1 in omega arith in eq-or-lt_of_le up_to))
    earlier

-- what is earlier than an operation is earlier than the one behind it
pub earlier_later : (a : OpId) (s i : ℕ) → IsEarlier a (op s i) → IsEarlier a (op s (i + 1))
earlier_later a s i earlier = ⊎_elim
    (λ (below : a.session < s). inl below)
    (λ (same : (a.session ≡ s) × (a.index < i)). let below = same.1 in inr (same.0, omega arith))
    earlier

pub by_op_total : IsTotalOrder by_op
by_op_total = then_total (on_total (λ o. o.session) nat_cmp_total) (on_total (λ o. o.index) nat_cmp_total)

pub less-cmp : (a b : ℕ) → a < b → nat_cmp a b ≡ Less
less-cmp a b below = grind (arith, nat_tests)

pub equal-cmp : (a b : ℕ) → a ≡ b → nat_cmp a b ≡ Equal
equal-cmp a b same = rw same (tied_itself nat_cmp_total b)

pub cmp-less : (a b : ℕ) → nat_cmp a b ≡ Less → a < b
cmp-less a b is = grind (arith, nat_tests)

pub cmp-equal : (a b : ℕ) → nat_cmp a b ≡ Equal → a ≡ b
cmp-equal a b is = eqb-true a b (sym (unsigned_tied a b) ∙ ap is_eq is)

pub then-left : (p q : Ordering) → p ≡ Less → is_lt (ordering_then p q) ≡ true
then-left p q is = rw is refl

pub then-right : (p q : Ordering) → p ≡ Equal → is_lt q ≡ true → is_lt (ordering_then p q) ≡ true
then-right p q is less = rw is less

pub then-cases : (p q : Ordering) → is_lt (ordering_then p q) ≡ true → (p ≡ Less) ⊎ ((p ≡ Equal) × (is_lt q ≡ true))
then-cases Less q less = inl refl
then-cases Equal q less = inr (refl, less)
then-cases Greater q less = absurd cc

pub is_less : (p : Ordering) → is_lt p ≡ true → p ≡ Less
is_less Less less = refl
is_less Equal less = absurd cc
is_less Greater less = absurd cc

-- an earlier operation is less
pub earlier-less : (a b : OpId) → IsEarlier a b → is_lt (by_op a b) ≡ true
earlier-less a b earlier = ⊎_elim
    (λ (below : a.session < b.session). then-left _ _ (less-cmp a.session b.session below))
    (λ (below : (a.session ≡ b.session) × (a.index < b.index)).
    then-right _ _ (equal-cmp a.session b.session below.0) (ap is_lt (less-cmp a.index b.index below.1)))
    earlier

pub less-earlier : (a b : OpId) → is_lt (by_op a b) ≡ true → IsEarlier a b
less-earlier a b less = ⊎_elim
    (λ (is : nat_cmp a.session b.session ≡ Less). inl (cmp-less a.session b.session is))
    (λ (is : (nat_cmp a.session b.session ≡ Equal) × (is_lt (nat_cmp a.index b.index) ≡ true)).
    inr (cmp-equal a.session b.session is.0, cmp-less a.index b.index (is_less _ is.1)))
    (then-cases (nat_cmp a.session b.session) (nat_cmp a.index b.index) less)

-- what is compared as no greater than what is less is less
pub less-index : (o p : Ordering) → ordering_index o ≤ ordering_index p → is_lt p ≡ true → is_lt o ≡ true
less-index o Equal up_to less = absurd cc
less-index o Greater up_to less = absurd cc
less-index Less Less up_to less = refl
less-index Equal Less up_to less = absurd (omega arith)
less-index Greater Less up_to less = absurd (omega arith)
