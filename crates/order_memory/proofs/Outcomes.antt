-- What follows for a result that may be an error, or nothing.
use Rattle.std.proofs.Common.{Result, Ok, Err}
use Rattle.std.specs.Prelude.{Option, Some, None, IfOk, IfSome, IfNone, MatchOption, OnOk}

module _ {A E : Type 0} where
  pub some-weaker : (r : Result (Option A) E) (P Q R : A → Type 0) → ((x : A) → P x → Q x → R x)
      → IfOk r (λ o. IfSome o P) → IfOk r (λ o. IfSome o Q) → IfOk r (λ o. IfSome o R)
  some-weaker (Ok None) P Q R both p q = p
  some-weaker (Ok (Some x)) P Q R both p q = both x p q
  some-weaker (Err e) P Q R both p q = p

  pub none-weaker : (r : Result (Option A) E) (P Q : Type 0) → (P → Q) → IfOk r (λ o. IfNone o P) → IfOk r (λ o. IfNone o Q)
  none-weaker (Ok None) P Q weaker p = weaker p
  none-weaker (Ok (Some x)) P Q weaker p = p
  none-weaker (Err e) P Q weaker p = p

  -- what is so of something, and what is so of nothing
  pub one-outcome : (r : Result (Option A) E) (P Q R : A → Type 0) (M N : Type 0) → ((x : A) → P x → Q x → R x) → (M → N)
      → IfOk r (λ o. IfSome o P) → IfOk r (λ o. IfSome o Q) → IfOk r (λ o. IfNone o M) → IfOk r (λ o. MatchOption o N R)
  one-outcome (Ok None) P Q R M N both weaker p q none = weaker none
  one-outcome (Ok (Some x)) P Q R M N both weaker p q none = both x p q
  one-outcome (Err e) P Q R M N both weaker p q none = p

module _ {A E : Type 0} where
  pub on_ok-one : (r : Result A E) (P Q : Type 0) → (P → Q) → OnOk r P → OnOk r Q
  on_ok-one (Ok x) P Q weaker p = weaker p
  on_ok-one (Err e) P Q weaker p = p

  pub on_ok-both : (r : Result A E) (P Q R : Type 0) → (P → Q → R) → OnOk r P → OnOk r Q → OnOk r R
  on_ok-both (Ok x) P Q R both p q = both p q
  on_ok-both (Err e) P Q R both p q = p
