-- The first refusal among those of places.
use Rattle.std.proofs.Common.{◌≡◌, ℕ, zero, suc, ◌+◌, ◌-◌, ◌<◌, Option, Some, None, refl, ap, ◌∙◌, arith, inl, inr, add-one}
use Rattle.std.proofs.lemmas.Bool.{cases_lt}
use Rattle.std.specs.Option.{option_or}
use Rattle.json_histories.specs.declared.read_error.ReadError.{ReadError}
use Rattle.json_histories.specs.Reading.{first_among}

none_before : (a b : Option ReadError) → option_or a b ≡ None → (a ≡ None) × (b ≡ None)
none_before None b e = (refl, e)
none_before (Some x) b e = absurd cc

pub first_among_none : (n i : ℕ) (f : ℕ → Option ReadError) → first_among n f ≡ None → i < n → f i ≡ None
first_among_none zero i f e lt = absurd (omega arith)
first_among_none (suc n) i f e lt =
    let parts = none_before (first_among n f) (f n) e in
    elim (cases_lt i n) [
      | inl below ↦ first_among_none n i f parts.0 below
      | inr above ↦ let same : i ≡ n = omega arith in rw same parts.1
    ]

pub first_among-suc : (n : ℕ) (f : ℕ → Option ReadError) → first_among n f ≡ None → first_among (n + 1) f ≡ f n
first_among-suc n f e = rw (add-one, e) refl

pub first_among_more : (n : ℕ) (f : ℕ → Option ReadError) → first_among n f ≡ None → f n ≡ None → first_among (n + 1) f ≡ None
first_among_more n f e here = first_among-suc n f e ∙ here

-- a refusal with none before it is the first of all
first_among-kept : (n i : ℕ) (f : ℕ → Option ReadError) (e : ReadError) → first_among i f ≡ Some e → first_among (i + n) f ≡ Some e
first_among-kept zero i f e h = let same : i + 0 ≡ i = omega arith in rw same h
first_among-kept (suc n) i f e h =
    let same : i + suc n ≡ suc (i + n) = omega arith in
    rw (same, first_among-kept n i f e h) refl

pub first_among_some : (n i : ℕ) (f : ℕ → Option ReadError) (e : ReadError) → first_among i f ≡ None → f i ≡ Some e → i < n → first_among n f ≡ Some e
first_among_some n i f e before here lt =
    let same : n ≡ (i + 1) + (n - (i + 1)) = omega arith in
    ap (λ m. first_among m f) same ∙ first_among-kept (n - (i + 1)) (i + 1) f e (first_among-suc i f before ∙ here)

pub all_none : (n : ℕ) (f : ℕ → Option ReadError) → ((i : ℕ) → i < n → f i ≡ None) → first_among n f ≡ None
all_none zero f none = refl
all_none (suc n) f none = rw (all_none n f (λ i lt. none i (omega arith))) (none n (omega arith))
