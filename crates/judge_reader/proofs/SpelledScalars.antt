-- What is read of an operation depends on what its elements say alone.
use Rattle.std.proofs.Common.{◌≡◌, ℕ, Bool, true, false, List, [], ◌∷◌, Option, Some, None, option_map, refl, sym, ap, subst, ◌∙◌}
use Rattle.std.specs.Prelude.{codes, nat_eq, option_and_then, option_to_list}
use Rattle.std.specs.Cmp.Lexicographic.{pointwise, same_text}
use Rattle.serde_json.specs.Data.{Data, null, boolean, number, string, array, object, unsigned, negative, float}
use Rattle.serde_json.specs.Find.{as_str}
use Rattle.model_objects.specs.declared.register.RegisterCall.{RegisterCall}
use Rattle.model_objects.specs.declared.register.RegisterCall.TheVariants as calls
use Rattle.model_objects.specs.declared.register.RegisterRet.{RegisterRet}
use Rattle.json_histories.specs.Json.{whole_number}
use Rattle.json_histories.specs.RegisterForm as register
use Rattle.json_histories.specs.Spelling.{key_at, keyed_parts_at, return_at, spelled_at}
use Rattle.judge_reader.specs.Steps.Scalars.{entry_of, key_in, keyed_by, operation_in, scalar_of, spelled_by, text_scalar, under}
use Rattle.judge_reader.specs.Steps.Reading.{Entry}
use Rattle.judge_reader.specs.declared.scalar.Scalar.{Scalar}
use Rattle.judge_reader.specs.declared.scalar.Scalar.TheVariants as scalars

abbrev spelled : List ℕ → List Data → Option (RegisterCall × Option RegisterRet)
spelled = spelled_at register.call_at register.ret_at

-- what holds of each word, and of any other text, holds of every text
module _ (P : List ℕ → Scalar → Type 0) (write : P (codes "w") scalars.Write) (read : P (codes "r") scalars.Read) (unknown : P (codes "?") scalars.Unknown)
    (other : (s : List ℕ) → pointwise nat_eq s (codes "w") ≡ false → pointwise nat_eq s (codes "r") ≡ false → pointwise nat_eq s (codes "?") ≡ false → P s scalars.Other) where
  tested : (s : List ℕ) (w r u : Bool) → pointwise nat_eq s (codes "w") ≡ w → pointwise nat_eq s (codes "r") ≡ r → pointwise nat_eq s (codes "?") ≡ u → P s (text_scalar s)
  tested s true r u is_w is_r is_u = subst (λ (t : List ℕ). P t (text_scalar t)) (sym (same_text s (codes "w") (sym is_w))) write
  tested s false true u is_w is_r is_u = subst (λ (t : List ℕ). P t (text_scalar t)) (sym (same_text s (codes "r") (sym is_r))) read
  tested s false false true is_w is_r is_u = subst (λ (t : List ℕ). P t (text_scalar t)) (sym (same_text s (codes "?") (sym is_u))) unknown
  tested s false false false is_w is_r is_u = rw (is_w, is_r, is_u) (other s is_w is_r is_u)

  text_cases : (s : List ℕ) → P s (text_scalar s)
  text_cases s = tested s (pointwise nat_eq s (codes "w")) (pointwise nat_eq s (codes "r")) (pointwise nat_eq s (codes "?")) refl refl refl

-- ---- the call and the return

second_of_write : (v : ℕ) (g : Data) → return_at register.ret_at (calls.Write v) (g ∷ []) ≡ spelled_by scalars.Write (scalars.Number v) (Some (scalar_of g))
second_of_write v null = refl
second_of_write v (boolean b) = refl
second_of_write v (number (unsigned n)) = refl
second_of_write v (number (negative z)) = refl
second_of_write v (number (float x)) = refl
second_of_write v (string s) =
    text_cases (λ s said. return_at register.ret_at (calls.Write v) (string s ∷ []) ≡ spelled_by scalars.Write (scalars.Number v) (Some said)) refl refl refl (λ s w r u. rw u refl) s
second_of_write v (array ds) = refl
second_of_write v (object ms) = refl

write_same : (f : Data) (g : Option Data) → spelled (codes "w") (f ∷ option_to_list g) ≡ spelled_by scalars.Write (scalar_of f) (option_map scalar_of g)
write_same null g = refl
write_same (boolean b) g = refl
write_same (number (unsigned v)) None = refl
write_same (number (unsigned v)) (Some g) = second_of_write v g
write_same (number (negative z)) g = refl
write_same (number (float x)) g = refl
write_same (string s) g = text_cases (λ s said. None ≡ spelled_by scalars.Write said (option_map scalar_of g)) refl refl refl (λ s w r u. refl) s
write_same (array ds) g = refl
write_same (object ms) g = refl

read_same : (f : Data) (g : Option Data) → spelled (codes "r") (f ∷ option_to_list g) ≡ spelled_by scalars.Read (scalar_of f) (option_map scalar_of g)
read_same null None = refl
read_same null (Some g) = refl
read_same (boolean b) None = refl
read_same (boolean b) (Some g) = refl
read_same (number (unsigned v)) None = refl
read_same (number (unsigned v)) (Some g) = refl
read_same (number (negative z)) None = refl
read_same (number (negative z)) (Some g) = refl
read_same (number (float x)) None = refl
read_same (number (float x)) (Some g) = refl
read_same (string s) None = text_cases (λ s said. spelled (codes "r") (string s ∷ []) ≡ spelled_by scalars.Read said None) refl refl refl (λ s w r u. rw u refl) s
read_same (string s) (Some g) = text_cases (λ s said. None ≡ spelled_by scalars.Read said (Some (scalar_of g))) refl refl refl (λ s w r u. refl) s
read_same (array ds) None = refl
read_same (array ds) (Some g) = refl
read_same (object ms) None = refl
read_same (object ms) (Some g) = refl

spelled_same : (s : List ℕ) (f : Data) (g : Option Data) → spelled s (f ∷ option_to_list g) ≡ spelled_by (text_scalar s) (scalar_of f) (option_map scalar_of g)
spelled_same s f g =
    text_cases (λ s said. spelled s (f ∷ option_to_list g) ≡ spelled_by said (scalar_of f) (option_map scalar_of g)) (write_same f g) (read_same f g) refl (λ s w r u. rw (w, r) refl) s

-- ---- the key, and all together

key_same : (k : Data) → key_at k ≡ key_in (scalar_of k)
key_same null = refl
key_same (boolean b) = refl
key_same (number (unsigned n)) = refl
key_same (number (negative z)) = refl
key_same (number (float x)) = refl
key_same (string s) = text_cases (λ s said. None ≡ key_in said) refl refl refl (λ s w r u. refl) s
key_same (array ds) = refl
key_same (object ms) = refl

module _ (f : Data) (g : Option Data) where
  under_key : (s : List ℕ) (key : Option ℕ)
      → option_and_then (keyed_parts_at register.call_at register.ret_at) (option_map (λ (k : ℕ). (s, k, f ∷ option_to_list g)) key) ≡ keyed_by key (spelled_by (text_scalar s) (scalar_of f) (option_map scalar_of g))
  under_key s None = refl
  under_key s (Some k) = ap (option_map (under k)) (spelled_same s f g)

  no_word : (key : Option ℕ) → None ≡ keyed_by key None
  no_word None = refl
  no_word (Some k) = refl

  -- an operation of three or four elements
  pub entry_same : (w k : Data) → operation_in (Some (w ∷ k ∷ f ∷ option_to_list g)) ≡ entry_of (scalar_of w) (scalar_of k) (scalar_of f) (option_map scalar_of g)
  entry_same null k = no_word (key_in (scalar_of k))
  entry_same (boolean b) k = no_word (key_in (scalar_of k))
  entry_same (number (unsigned n)) k = no_word (key_in (scalar_of k))
  entry_same (number (negative z)) k = no_word (key_in (scalar_of k))
  entry_same (number (float x)) k = no_word (key_in (scalar_of k))
  entry_same (string s) k = rw (key_same k) (under_key s (key_in (scalar_of k)))
  entry_same (array ds) k = no_word (key_in (scalar_of k))
  entry_same (object ms) k = no_word (key_in (scalar_of k))

module _ (w k f : Data) (word key first : Scalar) (is_word : scalar_of w ≡ word) (is_key : scalar_of k ≡ key) (is_first : scalar_of f ≡ first) (e : Option Entry) where
  said : (g : Option Data) → entry_of (scalar_of w) (scalar_of k) (scalar_of f) (option_map scalar_of g) ≡ entry_of word key first (option_map scalar_of g)
  said g =
      ap (λ s. entry_of s (scalar_of k) (scalar_of f) (option_map scalar_of g)) is_word ∙ ap (λ s. entry_of word s (scalar_of f) (option_map scalar_of g)) is_key
      ∙ ap (λ s. entry_of word key s (option_map scalar_of g)) is_first

  pub three_read : e ≡ entry_of word key first None → operation_in (Some (w ∷ k ∷ f ∷ [])) ≡ e
  three_read is = entry_same f None w k ∙ said None ∙ sym is

  pub four_read : (g : Data) (second : Scalar) → scalar_of g ≡ second → e ≡ entry_of word key first (Some second) → operation_in (Some (w ∷ k ∷ f ∷ g ∷ [])) ≡ e
  four_read g second is_second is = entry_same f (Some g) w k ∙ said (Some g) ∙ ap (λ s. entry_of word key first (Some s)) is_second ∙ sym is

-- ---- fewer or more elements

module _ (rest : List Data) (none : (s : List ℕ) → spelled s rest ≡ None) where
  none_under : (word : Option (List ℕ)) (key : Option ℕ)
      → option_and_then (keyed_parts_at register.call_at register.ret_at) (option_and_then (λ (s : List ℕ). option_map (λ (k : ℕ). (s, k, rest)) key) word) ≡ None
  none_under None key = refl
  none_under (Some s) None = refl
  none_under (Some s) (Some k) = ap (option_map (under k)) (none s)

  none_spelled : (w k : Data) → operation_in (Some (w ∷ k ∷ rest)) ≡ None
  none_spelled w k = none_under (as_str w) (key_at k)

pub too_few : (w k : Data) → operation_in (Some (w ∷ k ∷ [])) ≡ None
too_few = none_spelled [] (text_cases (λ s said. spelled s [] ≡ None) refl refl refl (λ s w r u. rw (w, r) refl))

module _ (a b : Data) (more : List Data) where
  after_write : (v : Option ℕ)
      → option_and_then (λ (p : RegisterCall × List Data). return_at register.ret_at p.0 p.1)
      (option_map (λ (p : ℕ × List Data). (calls.Write p.0, p.1)) (option_map (λ (n : ℕ). (n, a ∷ b ∷ more)) v)) ≡ None
  after_write None = refl
  after_write (Some v) = refl

  pub too_many : (w k f : Data) → operation_in (Some (w ∷ k ∷ f ∷ a ∷ b ∷ more)) ≡ None
  too_many w k f =
      none_spelled (f ∷ a ∷ b ∷ more) (text_cases (λ s said. spelled s (f ∷ a ∷ b ∷ more) ≡ None) (after_write (whole_number f)) refl refl (λ s w r u. rw (w, r) refl)) w k
