-- Taking the elements of a list, one after the other.
use Rattle.std.proofs.Common.{◌≡◌, ℕ, ◌<◌, List, [], ◌∷◌, ◌++◌, length, Bool, true, false, Some, None, sym, subst}
use Rattle.std.proofs.lemmas.List.{append_assoc}
use Rattle.json.specs.Json.{after_end_array}
use Rattle.json.specs.Token.{Token}
use Rattle.serde_json.specs.Data.{Data}
use Rattle.json_bounded.specs.Steps.Behind.{behind_items}
use Rattle.json_tokens.specs.Gathers.{AreTaken, IsTaken}
use Rattle.json_tokens.specs.Tokens.{IsRest, IsValue}
use Rattle.json_tokens.proofs.Elements.{HasRead, read_none, read_one_more, read_all, rest_passed}

module _ {S : Type 0} (is_of : S → List Data → Type 0) (refuses : List Data → Type 0) (depth : ℕ) where
  -- the value that comes next is one element more, or is not wanted
  abbrev pub IsNext : S → S → Bool → List Token → List Token → Type 0
  IsNext s t taken = IsValue (λ d. (ds : List Data) → is_of s ds → IsTaken is_of refuses t taken ds d) depth

  -- these elements were read of a list, and taken
  pub record IsGathering (old now : List Token) (s : S) : Type 0 where
    pub elements : List Data
    pub so_far : HasRead depth old now elements
    pub taken : is_of s elements

  pub gathering_begun : (ts : List Token) (s : S) → is_of s [] → IsGathering ts ts s
  gathering_begun ts s empty = record { elements = []; so_far = read_none depth ts; taken = empty }

  module _ (old now : List Token) (s : S) (inv : IsGathering old now s) where
    pub gathering_more : (t : S) (taken : Bool) (r : List Token) → taken ≡ true → after_end_array now ≡ None → IsNext s t taken now r → length r < length now → IsGathering old r t
    gathering_more t taken r is going next less =
        let one : IsNext s t true now r = subst (λ (b : Bool). IsNext s t b now r) is next in
        record {
          elements = inv.elements ++ one.0 ∷ [];
          so_far = read_one_more depth old now inv.elements inv.so_far r one.0 going one.1 less;
          taken = one.2 inv.elements inv.taken;
        }

    pub gathering_refused : (t : S) (taken : Bool) (r q : List Token) → taken ≡ false → after_end_array now ≡ None → IsNext s t taken now r → length r < length now → behind_items depth r ≡ Some q
        → IsRest (AreTaken is_of refuses t false) depth old q
    gathering_refused t taken r q is going next less passed =
        let one : IsNext s t false now r = subst (λ (b : Bool). IsNext s t b now r) is next in
        rest_passed depth old r (inv.elements ++ one.0 ∷ []) (read_one_more depth old now inv.elements inv.so_far r one.0 going one.1 less)
        (AreTaken is_of refuses t false) q passed (λ more. subst refuses (sym (append_assoc inv.elements (one.0 ∷ []) more)) (one.2 inv.elements inv.taken more))

    pub gathering_over : (r : List Token) → after_end_array now ≡ Some r → IsRest (AreTaken is_of refuses s true) depth old r
    gathering_over r end = read_all depth old now inv.elements inv.so_far (AreTaken is_of refuses s true) r end inv.taken
