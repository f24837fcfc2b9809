-- What is written value after value: the tokens of lists, and of values that are written one after the other.
use Rattle.std.proofs.Common.{◌≡◌, ◌<◌, ◌≤◌, ◌+◌, ◌^◌, ℕ, suc, max, List, [], ◌∷◌, ◌++◌, length, map, take, get_or, Option, Some, refl, sym, ap, ap₂, ◌∙◌, subst, arith, append_assoc, append-nil}
use Rattle.std.specs.Prelude.{All, decimal, option_map, option_and_then}
use Rattle.std.specs.List.{flat_map}
use Rattle.std.proofs.lemmas.List.{take_more, take_all, map_push}
use Rattle.std.proofs.lemmas.List.Concat.{flat_map-append}
use Rattle.std.proofs.lemmas.List.Elements.{All-append, All-cons, All-head, All-nil, All-tail}
use Rattle.json.specs.Token.{Token, begin_array, end_array}
use Rattle.json.specs.Token as token
use Rattle.json.specs.Lex.{tokens}
use Rattle.json.specs.Print.{print}
use Rattle.json.specs.Json as json
use Rattle.json.specs.Tree as tree
use Rattle.json.specs.Written.{Written}
use Rattle.json.proofs.Printed.Trees.{value-json_tokens}
use Rattle.serde_json.specs.Data.{Data, null, boolean, number, string, array, object, Items, no_items, item, Members, no_members, member, depth, items_depth, members_depth}
use Rattle.serde_json.specs.Read.{of_json, of_items, read, max_depth}
use Rattle.serde_json.specs.View.{items_of}
use Rattle.serde_json.specs.Written.{outline, items_outline, members_outline, compact_text}
use Rattle.serde_json.proofs.Numbers.{number_of-decimal}
use Rattle.serde_json.proofs.Texts.{print-outline}
use Rattle.json_histories.specs.Json.{list}
use Rattle.json_histories.specs.Reads.{number_form}
use Rattle.judge_writer.specs.Steps.{AreWritten, IsWritten, IsReadBack, value_tokens}

-- one token was written
abbrev pub IsPut : Token → Written → Written → Type 0
IsPut t old new = (new.before ≡ old.before) × (new.tokens ≡ old.tokens ++ t ∷ [])

-- nothing was written
pub none_written : (a : Written) → AreWritten [] a a
none_written a = record { before = refl; tokens = sym (append-nil a.tokens); read = All-nil IsReadBack }

-- what was written after what was written
pub more_written : (ds es : List Data) (a b c : Written) → AreWritten ds a b → AreWritten es b c → AreWritten (ds ++ es) a c
more_written ds es a b c first then = record {
  before = then.before ∙ first.before;
  tokens =
      then.tokens ∙ ap (λ ts. ts ++ flat_map value_tokens es) first.tokens
      ∙ append_assoc a.tokens (flat_map value_tokens ds) (flat_map value_tokens es)
      ∙ ap (λ ts. a.tokens ++ ts) (sym (flat_map-append value_tokens ds es));
  read = All-append IsReadBack ds es first.read then.read;
}

one_read : (d : Data) → IsReadBack d → All IsReadBack (d ∷ [])
one_read d here = All-cons IsReadBack d [] here (All-nil IsReadBack)

-- a number of 64 bits, and a text
pub number_written : (n : ℕ) (a b : Written) → n < 2 ^ 64 → IsPut (token.number (decimal n)) a b → IsWritten (number_form n) a b
number_written n a b small after = record { before = after.0; tokens = after.1; read = one_read (number_form n) (ap (option_map number) (number_of-decimal n small)) }

pub text_written : (s : List ℕ) (a b : Written) → IsPut (token.string s) a b → IsWritten (string s) a b
text_written s a b after = record { before = after.0; tokens = after.1; read = one_read (string s) refl }

-- the tokens of a list are those of its elements, and a bracket
list_tokens : (ds : List Data) → tree.items_tokens (items_outline (items_of ds)) ≡ flat_map value_tokens ds ++ end_array ∷ []
list_tokens [] = refl
list_tokens (d ∷ ds) = ap (λ ts. value_tokens d ++ ts) (list_tokens ds) ∙ sym (append_assoc (value_tokens d) (flat_map value_tokens ds) (end_array ∷ []))

list_read : (ds : List Data) → All IsReadBack ds → of_items (items_outline (items_of ds)) ≡ Some (items_of ds)
list_read [] each = refl
list_read (d ∷ ds) each =
    ap (option_and_then (λ x. option_map (item x) (of_items (items_outline (items_of ds))))) (All-head IsReadBack d ds each)
    ∙ ap (option_map (item d)) (list_read ds (All-tail IsReadBack d ds each))

-- a list was written: a bracket, its elements and a bracket
pub list_written : (ds : List Data) (a b c e : Written) → IsPut begin_array a b → AreWritten ds b c → IsPut end_array c e → IsWritten (list ds) a e
list_written ds a b c e opened within closed = record {
  before = closed.0 ∙ within.before ∙ opened.0;
  tokens =
      closed.1 ∙ ap (λ ts. ts ++ end_array ∷ []) (within.tokens ∙ ap (λ ts. ts ++ flat_map value_tokens ds) opened.1)
      ∙ append_assoc (a.tokens ++ begin_array ∷ []) (flat_map value_tokens ds) (end_array ∷ [])
      ∙ append_assoc a.tokens (begin_array ∷ []) (flat_map value_tokens ds ++ end_array ∷ [])
      ∙ ap (λ ts. a.tokens ++ begin_array ∷ ts) (sym (list_tokens ds))
      ∙ ap (λ ts. a.tokens ++ ts) (sym (append-nil (value_tokens (list ds))));
  read = one_read (list ds) (ap (option_map array) (list_read ds within.read));
}

-- the forms of elements so far, and of one more
pub next_written : {A : Type 0} (form : A → Data) (xs : List A) (i : ℕ) (x d : A) (a b c : Written) → x ≡ get_or xs i d → i < length xs
    → AreWritten (map form (take i xs)) a b → IsWritten (form x) b c → AreWritten (map form (take (i + 1) xs)) a c
next_written form xs i x d a b c here below so_far now =
    let front : map form (take (i + 1) xs) ≡ map form (take i xs) ++ form x ∷ [] =
    ap (map form) (take_more xs i d below) ∙ map_push form (take i xs) (get_or xs i d) ∙ ap (λ y. map form (take i xs) ++ form y ∷ []) (sym here) in
    subst (λ ds. AreWritten ds a c) (sym front) (more_written (map form (take i xs)) (form x ∷ []) a b c so_far now)

pub all_written : {A : Type 0} (form : A → Data) (xs : List A) (i : ℕ) (a b : Written) → length xs ≤ i → AreWritten (map form (take i xs)) a b
    → AreWritten (map form xs) a b
all_written form xs i a b all so_far = subst (λ ys. AreWritten (map form ys) a b) (take_all i xs all) so_far

-- ---- the text

-- a value nests as deep as its text
mutual
  depth-outline : (d : Data) → tree.depth (outline d) ≡ depth d
  depth-outline null = refl
  depth-outline (boolean b) = refl
  depth-outline (number n) = refl
  depth-outline (string s) = refl
  depth-outline (array ds) = ap suc (items_depth-outline ds)
  depth-outline (object ms) = ap suc (members_depth-outline ms)

  items_depth-outline : (ds : Items) → tree.items_depth (items_outline ds) ≡ items_depth ds
  items_depth-outline no_items = refl
  items_depth-outline (item d ds) = ap₂ max (depth-outline d) (items_depth-outline ds)

  members_depth-outline : (ms : Members) → tree.members_depth (members_outline ms) ≡ members_depth ms
  members_depth-outline no_members = refl
  members_depth-outline (member k d ms) = ap₂ max (depth-outline d) (members_depth-outline ms)

only_tokens : (d : Data) (a b : Written) → a.tokens ≡ [] → IsWritten d a b → b.tokens ≡ value_tokens d
only_tokens d a b none written = written.tokens ∙ ap (λ ts. ts ++ (value_tokens d ++ [])) none ∙ append-nil (value_tokens d)

-- the text of a value that was written alone is its compact text, and is read as that value
pub compact_written : (d : Data) (a b : Written) → a.tokens ≡ [] → IsWritten d a b → print b.tokens ≡ compact_text d
compact_written d a b none written = ap print (only_tokens d a b none written) ∙ print-outline d

pub written_read : (d : Data) (a b : Written) (text : List ℕ) → a.tokens ≡ [] → IsWritten d a b → tokens text ≡ b.tokens → depth d ≤ max_depth → read text ≡ Some d
written_read d a b text none written same shallow =
    let all : tokens text ≡ value_tokens d ++ [] = same ∙ only_tokens d a b none written ∙ sym (append-nil (value_tokens d)) in
    let whole = λ (o : Option (json.Json × List Token)). option_and_then of_json (option_and_then (λ p. json.if_last p.0 p.1) o) in
    ap whole (ap (json.value max_depth) all ∙ value-json_tokens (outline d) max_depth [] (omega (arith, depth-outline d)))
    ∙ All-head IsReadBack d [] written.read
