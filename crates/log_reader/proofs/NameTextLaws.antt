-- The text that is written for a name is JSON of a value that has it.
use Rattle.std.proofs.Common.{◌≡◌, ◌≢◌, ℕ, zero, suc, map, Global, ◌<◌, ◌≤◌, ◌^◌, ℤ, pos, negsuc, Bool, true, false, cond, List, [], ◌∷◌, ◌++◌, Option, Some, refl, sym, ap, ap₂, ◌∙◌, subst, arith, append-nil, decimal, option_and_then, option_map, if◌then◌else◌}
use lib.Signed.{mag}
use Rattle.std.specs.Prelude.{IfOk, OnOk, Result, Ok, Err, is_ok, String, string_bytes, slice_get, slice_index_or}
use Rattle.std.specs.Char.{digit_value}
use Rattle.std.specs.Str.Parse.{AllDigits}
use Rattle.std.proofs.lemmas.Fmt.{decimal_is_IsNumeral}
use Rattle.std.proofs.lemmas.List.Elements.{All-cons, All-head, All-nil, All-push, All-tail}
use Rattle.std.specs.List.{All, list_any}
use Rattle.std.proofs.lemmas.Str.{IsUtf8-string_bytes, encode_ascii}
use Rattle.std.specs.Str.{IsUtf8}
use Rattle.std.specs.Fmt.{signed_decimal}
use Rattle.json.specs.Token as token
use Rattle.json.specs.Token.{Token}
use Rattle.json.specs.Lex.{lex, tokens, between, in_string, punctuate, fresh, string_token, Lexeme}
use Rattle.json.specs.Lex as lexing
use Rattle.json.specs.Text.{content, plain}
use Rattle.json.specs.Print.{print, print_from, token_text, ArePrintable, IsNumber}
use Rattle.json.specs.Json as json
use Rattle.json.proofs.Printed.Tokens.{tokens-print}
use Rattle.json.proofs.Printed.Decimals.{IsNumber-decimal, IsNumber-signed_decimal}
use Rattle.serde_json.specs.Data.{Data, Num, null, boolean, number, string, array, object, unsigned, negative, float, depth}
use Rattle.serde_json.specs.Find.{is_float}
use Rattle.serde_json.specs.Read.{max_depth, number_of, of_json, read}
use Rattle.serde_json.specs.Written.{WritesValue, number_text, unless_float}
use Rattle.serde_json.proofs.Numbers.{number_of-decimal, number_of-negative}
use Rattle.serde_json.proofs.Texts.{unless_float-number_of}
use Rattle.json.proofs.Printed.Trees.{value-json_tokens}
use Rattle.log_reader.proofs.ShownLaws.{shown_none}
use Rattle.log_reader.specs.Names.{Name, same_name, value_name, with_name}
use Rattle.log_reader.specs.NameTexts.{IsNameText}
use Rattle.log_reader.specs.Shown.{IsPlain, IsShown, StaysShown}
use Rattle.log_reader.specs.Spelling.{AddsSpelled, FitsName, IsName, Spells}

-- ---- the tokens of a value

abbrev whole : Option (json.Json × List Token) → Option Data
whole o = option_and_then of_json (option_and_then (λ p. json.if_last p.0 p.1) o)

read_back : (d : Data) (ts : List Token) (text : List ℕ) → WritesValue d [] ts → tokens text ≡ ts → depth d ≤ max_depth → read text ≡ Some d
read_back d ts text w same shallow =
    ap whole (ap (json.value max_depth) (same ∙ w.1 ∙ sym (append-nil _)) ∙ value-json_tokens w.0 max_depth [] (omega (arith, w.3))) ∙ w.2

-- ---- a text in quotes

content_read : (w s : List ℕ) → Spells w s → content plain (w ++ 34 ∷ []) ≡ Some s
unfolding content
content_read w s spells = spells.read (34 ∷ []) ∙ ap Some (append-nil s)

quoted_lexed : (w s : List ℕ) → Spells w s → lex between (34 ∷ (w ++ 34 ∷ [])) ≡ lexing.token (token.string s) ∷ []
unfolding lex
quoted_lexed w s spells = ap₂ (λ o l. lexing.token (string_token o) ∷ l) (content_read w s spells) (spells.passed (34 ∷ []))

quoted_tokens : (w s : List ℕ) → Spells w s → tokens (34 ∷ (w ++ 34 ∷ [])) ≡ token.string s ∷ []
unfolding punctuate
quoted_tokens w s spells = ap (punctuate fresh) (quoted_lexed w s spells)

pub quoted_read : (w s : List ℕ) → Spells w s → read (34 ∷ (w ++ 34 ∷ [])) ≡ Some (string s)
quoted_read w s spells =
    let written : WritesValue (string s) [] (token.string s ∷ []) = (json.string s, refl, refl, omega arith, refl) in
    read_back (string s) (token.string s ∷ []) _ written (quoted_tokens w s spells) (omega arith)

pub quoted_shown_text : (w s text : List ℕ) → Spells w s → IsUtf8 text → text ≡ 34 ∷ (w ++ 34 ∷ []) → IsShown text → IsNameText (34 ∷ s) text
quoted_shown_text w s text spells utf8 is shown = record { value = string s; json = (utf8, ap read is ∙ quoted_read w s spells); names = refl; shown = shown }

-- ---- numbers and truth values

token_read : (d : Data) (t : Token) (text : List ℕ) → WritesValue d [] (t ∷ []) → ArePrintable (t ∷ []) → print (t ∷ []) ≡ text → depth d ≡ 0 → read text ≡ Some d
token_read d t text writes printable prints shallow =
    read_back d (t ∷ []) text writes (ap tokens (sym prints) ∙ tokens-print (t ∷ []) printable) (omega (arith, shallow))

number_prints : (s : List ℕ) → print (token.number s ∷ []) ≡ s
unfolding print_from
number_prints s = append-nil s

number_read : (n : Num) (s : List ℕ) → IsNumber s → number_of s ≡ Some n → number_text n ≡ s → is_float n ≡ false → read s ≡ Some (number n)
unfolding ArePrintable
number_read n s numeral is text whole =
    let same : unless_float s ≡ s = unless_float-number_of s n is ∙ ap (λ b. cond b [] s) whole in
    let writes : WritesValue (number n) [] (token.number s ∷ []) = (json.number s, refl, ap (option_map number) is, omega arith, ap json.number (same ∙ sym text)) in
    token_read (number n) (token.number s) s writes (numeral, tt) (number_prints s) refl

whole_read : (n : ℕ) → n < 2 ^ 64 → read (decimal n) ≡ Some (number (unsigned n))
whole_read n fits = number_read (unsigned n) (decimal n) (IsNumber-decimal n fits) (number_of-decimal n fits) refl refl

minus_read : (m : ℕ) → m < 2 ^ 63 → read (signed_decimal (negsuc m)) ≡ Some (number (negative (negsuc m)))
minus_read m fits = number_read (negative (negsuc m)) (signed_decimal (negsuc m)) (IsNumber-signed_decimal (negsuc m) fits) (number_of-negative m fits) refl refl

truth_read : (b : Bool) → read (token_text (token.boolean b)) ≡ Some (boolean b)
unfolding ArePrintable print_from
truth_read true = token_read (boolean true) (token.boolean true) _ (json.boolean true, refl, refl, omega arith, refl) (tt, tt) refl refl
truth_read false = token_read (boolean false) (token.boolean false) _ (json.boolean false, refl, refl, omega arith, refl) (tt, tt) refl refl

-- ---- their texts disturb no terminal

pub low_plain : (c : ℕ) → 32 ≤ c → c < 127 → IsPlain c
low_plain c low high = record {
  no_control = low;
  no_later_control = λ h. omega arith;
  no_mark = λ h. omega arith;
  no_line_or_embedding = λ h. omega arith;
  no_isolate = λ h. omega arith;
}

next_shown : (c : ℕ) (bytes : List ℕ) → 32 ≤ c → c < 127 → IsShown bytes → IsShown (c ∷ bytes)
next_shown c bytes low high shown =
    (c ∷ shown.0, ap₂ (λ (a b : List ℕ). a ++ b) (sym (encode_ascii c (omega arith))) shown.1, All-cons IsPlain c shown.0 (low_plain c low high) shown.2)

none_shown : IsShown []
none_shown = ([], refl, All-nil IsPlain)

digit_range : (d : ℕ) → digit_value d < 10 → (48 ≤ d) × (d ≤ 57)
digit_range d h = grind arith

digits_shown : (ds : List ℕ) → AllDigits 10 ds → IsShown ds
digits_shown [] each = none_shown
digits_shown (d ∷ ds) each = let range = digit_range d each.0 in next_shown d ds (omega (arith, range.0)) (omega (arith, range.1)) (digits_shown ds each.1)

decimal_shown : (n : ℕ) → n < 2 ^ 64 → IsShown (decimal n)
decimal_shown n fits = digits_shown (decimal n) (decimal_is_IsNumeral n fits).0.1

truth_shown : (b : Bool) → IsShown (token_text (token.boolean b))
truth_shown true = next_shown 116 _ (omega arith) (omega arith) (next_shown 114 _ (omega arith) (omega arith) (next_shown 117 _ (omega arith) (omega arith) (next_shown 101 [] (omega arith) (omega arith) none_shown)))
truth_shown false = next_shown 102 _ (omega arith) (omega arith) (next_shown 97 _ (omega arith) (omega arith) (next_shown 108 _ (omega arith) (omega arith) (next_shown 115 _ (omega arith) (omega arith) (next_shown 101 [] (omega arith) (omega arith) none_shown))))

-- ---- a name that is no text is its own text

text_of : (name : Name) (d : Data) → value_name d ≡ Some name → read name ≡ Some d → IsShown name → (text : List ℕ) → IsUtf8 text → text ≡ name → IsNameText name text
text_of name d names is shown text utf8 same =
    record { value = d; json = (utf8, ap read same ∙ is); names = names; shown = subst IsShown (sym same) shown }

some_is : (a b : Name) → Some a ≡ Some b → a ≡ b
some_is a b is = cc

by_value : (d : Data) (name : Name) → value_name d ≡ Some name → FitsName d → ((s : List ℕ) → name ≢ 34 ∷ s) → (read name ≡ Some d) × IsShown name
by_value (boolean true) name names fits no_text = let is = some_is _ name names in (subst (λ l. read l ≡ Some (boolean true)) is (truth_read true), subst IsShown is (truth_shown true))
by_value (boolean false) name names fits no_text = let is = some_is _ name names in (subst (λ l. read l ≡ Some (boolean false)) is (truth_read false), subst IsShown is (truth_shown false))
by_value (number (unsigned n)) name names fits no_text =
    let is = some_is _ name names in (subst (λ l. read l ≡ Some (number (unsigned n))) is (whole_read n fits), subst IsShown is (decimal_shown n fits))
by_value (number (negative (pos n))) name names fits no_text = absurd fits
by_value (number (negative (negsuc m))) name names fits no_text =
    let is = some_is _ name names in (
      subst (λ l. read l ≡ Some (number (negative (negsuc m)))) is (minus_read m fits),
      subst IsShown is (next_shown 45 (decimal (suc m)) (omega arith) (omega arith) (decimal_shown (suc m) (omega arith))),
    )
by_value (number (float x)) name names fits no_text = absurd cc
by_value (string s) name names fits no_text = absurd (no_text s (sym (some_is _ name names)))
by_value null name names fits no_text = absurd cc
by_value (array ds) name names fits no_text = absurd cc
by_value (object ms) name names fits no_text = absurd cc

pub own_text : (name : Name) (text : List ℕ) → IsName name → ((s : List ℕ) → name ≢ 34 ∷ s) → IsUtf8 text → text ≡ name → IsNameText name text
own_text name text is no_text utf8 same =
    let both = by_value is.value name is.names is.fits no_text in
    text_of name is.value is.names both.0 both.1 text utf8 same

-- ---- a text is that of one name

same_value : (d e : Data) → Some d ≡ Some e → d ≡ e
same_value d e is = cc

pub one_name : (text : List ℕ) (name other : Name) → IsNameText name text → IsNameText other text → name ≡ other
one_name text name other first second =
    let same = same_value first.value second.value (sym first.json.1 ∙ second.json.1) in
    some_is name other (sym first.names ∙ ap value_name same ∙ second.names)

-- ---- the names that are made

pub text_named : (s code : List ℕ) → code ≡ 34 ∷ s → IsName code
text_named s code is = record { value = string s; names = ap Some (sym is); fits = tt }

pub whole_named : (n : ℕ) (code : List ℕ) → n < 2 ^ 64 → code ≡ decimal n → IsName code
whole_named n code fits is = record { value = number (unsigned n); names = ap Some (sym is); fits = fits }

pub signed_named : (z : ℤ) (code : List ℕ) → mag z < 2 ^ 63 → code ≡ signed_decimal z → IsName code
signed_named (pos n) code fits is = whole_named n code (omega arith) is
signed_named (negsuc m) code fits is = record { value = number (negative (negsuc m)); names = ap Some (sym is); fits = fits }

pub truth_named : (b : Bool) (code : List ℕ) → code ≡ token_text (token.boolean b) → IsName code
truth_named true code is = record { value = boolean true; names = ap Some (sym is); fits = tt }
truth_named false code is = record { value = boolean false; names = ap Some (sym is); fits = tt }

pub each_named : (table after : List Name) (name : Name) → after ≡ with_name table name → IsName name → All IsName table → All IsName after
each_named table after name is named all = subst (All IsName) (sym is) (by (list_any (same_name name) table))
  where
    by : (b : Bool) → All IsName (if b then table else table ++ name ∷ [])
    by true = all
    by false = All-push IsName table name all named

pub pushed_name : {T E : Type 0} (r : Result T E) (old new code : List ℕ) → new ≡ (if is_ok r then old ++ code else old) → IsName (old ++ code) → OnOk r (IsName new)
pushed_name (Ok x) old new code is named = subst IsName (sym is) named
pushed_name (Err e) old new code is named = tt

-- quotes, and what spells a text between them
pub quoted_made : (s a b c e : List ℕ) → a ≡ [] → b ≡ a ++ 34 ∷ [] → AddsSpelled s b c → e ≡ c ++ 34 ∷ [] → StaysShown a b → StaysShown b c → StaysShown c e → IsUtf8 e
    → IsNameText (34 ∷ s) e
quoted_made s a b c e none first within last to_b to_c to_e utf8 =
    let whole : e ≡ 34 ∷ (within.0 ++ 34 ∷ []) =
    last ∙ ap (λ (l : List ℕ). l ++ 34 ∷ []) (within.1 ∙ ap (λ (l : List ℕ). l ++ within.0) (first ∙ ap (λ (l : List ℕ). l ++ 34 ∷ []) none)) in
    quoted_shown_text within.0 s e within.2 utf8 whole (to_e (to_c (to_b (shown_none a none))))

-- ---- the name at a place of a table

pub name_there : (keys : List (String Global)) (i : ℕ) (k : String Global) → slice_get keys i ≡ Some k → All IsName (map string_bytes keys) → IsName (string_bytes k)
name_there [] i k is all = absurd cc
name_there (x ∷ xs) zero k is all = let same : x ≡ k = cc in subst (λ (s : String Global). IsName (string_bytes s)) same (All-head IsName (string_bytes x) (map string_bytes xs) all)
name_there (x ∷ xs) (suc i) k is all = name_there xs i k is (All-tail IsName (string_bytes x) (map string_bytes xs) all)

pub bytes_there : (keys : List (String Global)) (i : ℕ) (k : String Global) → slice_get keys i ≡ Some k → slice_index_or (map string_bytes keys) i [] ≡ string_bytes k
bytes_there [] i k is = absurd cc
bytes_there (x ∷ xs) zero k is = let same : x ≡ k = cc in ap string_bytes same
bytes_there (x ∷ xs) (suc i) k is = bytes_there xs i k is

pub own_texts : {E : Type 0} (r : Result (String Global) E) (name : Name) → IsName name → ((s : List ℕ) → name ≢ 34 ∷ s) → IfOk r (λ s. string_bytes s ≡ name)
    → IfOk r (λ s. IsNameText name (string_bytes s))
own_texts (Ok s) name named no_text is = own_text name (string_bytes s) named no_text (IsUtf8-string_bytes s) is
own_texts (Err e) name named no_text is = tt
