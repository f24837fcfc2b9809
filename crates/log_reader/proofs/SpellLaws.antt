-- What is written between the quotes of a JSON text is read back.
use Rattle.std.proofs.Common.{◌≡◌, ◌≢◌, ◌⊎◌, ℕ, suc, ◌+◌, ◌*◌, ◌/◌, ◌%◌, ◌<◌, ◌≤◌, Bool, true, false, cond, List, [], ◌∷◌, ◌++◌, length, get_or, Option, Some, None, inl, inr, refl, sym, ap, ◌∙◌, subst, arith, append_assoc, append-nil}
use Rattle.std.specs.Prelude.{encode_utf8, nat_lt, OnOk, Result, Ok, Err}
use Rattle.std.specs.Char.{digit_char, is_digit}
use Rattle.std.proofs.lemmas.Bool.{ne_eqb, le-ltb, lt-ltb, lt-leb, cases_lt}
use Rattle.std.proofs.lemmas.Str.{encode_ascii, inside_one, digit_value-digit_char}
use Rattle.json.specs.Text.{content, plain, prepend, code_unit, short_escape}
use Rattle.json.specs.Word.{is_operator, is_space}
use Rattle.json.specs.Lex.{Lexeme, Mode, lex, lex_byte, in_string, operator, space, other}
use Rattle.log_reader.specs.Spelling.{Adds, AddsSpelled, Spells}

-- ---- one after the other

twice : (xs ys : List ℕ) (o : Option (List ℕ)) → prepend xs (prepend ys o) ≡ prepend (xs ++ ys) o
twice xs ys None = refl
twice xs ys (Some s) = ap Some (sym (append_assoc xs ys s))

no_more : (o : Option (List ℕ)) → o ≡ prepend [] o
no_more None = refl
no_more (Some s) = refl

pub spells-nil : Spells [] []
spells-nil = record { read = λ rest. no_more (content plain rest); passed = λ rest. refl }

pub spells-append : (w v s t : List ℕ) → Spells w s → Spells v t → Spells (w ++ v) (s ++ t)
spells-append w v s t first then = record {
  read = λ rest. ap (content plain) (append_assoc w v rest) ∙ first.read (v ++ rest) ∙ ap (prepend s) (then.read rest) ∙ twice s t (content plain rest);
  passed = λ rest. ap (lex in_string) (append_assoc w v rest) ∙ first.passed (v ++ rest) ∙ then.passed rest;
}

-- ---- bytes that represent themselves

abbrev IsPlainByte : ℕ → Type 0
IsPlainByte x = (32 ≤ x) × (x ≢ 34) × (x ≢ 92)

stays_inside : (o s : Bool) (x : ℕ) (r : List ℕ) (k : Mode → List Lexeme) → lex_byte in_string (cond o operator (cond s space other)) x r k ≡ k in_string
stays_inside true s x r k = refl
stays_inside false true x r k = refl
stays_inside false false x r k = refl

passes_byte : (x : ℕ) (r : List ℕ) → x ≢ 34 → x ≢ 92 → lex in_string (x ∷ r) ≡ lex in_string r
unfolding lex
passes_byte x r q b = rw (ne_eqb x 34 q, ne_eqb x 92 b) (stays_inside (is_operator x) (is_space x) x r (λ m. lex m r))

byte_spells : (x : ℕ) → IsPlainByte x → Spells (x ∷ []) (x ∷ [])
unfolding content
byte_spells x is = record {
  read = λ rest. rw (ne_eqb x 34 is.1, ne_eqb x 92 is.2, le-ltb x 32 is.0) refl;
  passed = λ rest. passes_byte x rest is.1 is.2;
}

bytes_spell : (xs : List ℕ) → ((k : ℕ) → k < length xs → IsPlainByte (get_or xs k 0)) → Spells xs xs
bytes_spell [] each = spells-nil
bytes_spell (x ∷ xs) each =
    spells-append (x ∷ []) xs (x ∷ []) xs (byte_spells x (each 0 (omega arith))) (bytes_spell xs (λ k low. each (suc k) (omega arith)))

-- a character that is neither a control character nor a quote or a backslash
pub char_spells : (c : ℕ) → 32 ≤ c → c ≢ 34 → c ≢ 92 → Spells (encode_utf8 c) (encode_utf8 c)
char_spells c low quote backslash =
    bytes_spell (encode_utf8 c) (λ k within. by k within (cases_lt (get_or (encode_utf8 c) k 0) 128))
  where
    by : (k : ℕ) → k < length (encode_utf8 c) → (get_or (encode_utf8 c) k 0 < 128) ⊎ (128 ≤ get_or (encode_utf8 c) k 0) → IsPlainByte (get_or (encode_utf8 c) k 0)
    by k within (inl small) =
        let is : c ≡ get_or (encode_utf8 c) k 0 = inside_one c [] (encode_utf8 c) k (sym (append-nil (encode_utf8 c))) within small in
        subst IsPlainByte is (low, quote, backslash)
    by k within (inr large) = (omega arith, λ e. omega arith, λ e. omega arith)

-- ---- escapes

pub quote_spells : Spells (92 ∷ 34 ∷ []) (34 ∷ [])
unfolding content lex short_escape
quote_spells = record { read = λ rest. refl; passed = λ rest. refl }

pub backslash_spells : Spells (92 ∷ 92 ∷ []) (92 ∷ [])
unfolding content lex short_escape
backslash_spells = record { read = λ rest. refl; passed = λ rest. refl }

digit_by : (d : ℕ) (low : Bool) → nat_lt d 10 ≡ low → d < 16 → ((cond low (48 + d) (87 + d)) ≢ 34) × ((cond low (48 + d) (87 + d)) ≢ 92)
digit_by d true is less = (λ e. omega arith, λ e. grind arith)
digit_by d false is less = (λ e. omega arith, λ e. grind arith)

digit_plain : (d : ℕ) → d < 16 → (digit_char d ≢ 34) × (digit_char d ≢ 92)
digit_plain d less = digit_by d (nat_lt d 10) refl less

digit_is : (d : ℕ) → d < 16 → is_digit (digit_char d) 16 ≡ true
digit_is d less = ap (λ v. nat_lt v 16) (digit_value-digit_char d (omega arith)) ∙ lt-ltb d 16 less

unit_is : (a b c d : ℕ) → a < 16 → b < 16 → c < 16 → d < 16
    → code_unit (digit_char a) (digit_char b) (digit_char c) (digit_char d) ≡ Some (a * 4096 + b * 256 + c * 16 + d)
unfolding code_unit
unit_is a b c d la lb lc ld =
    rw (digit_is a la, digit_is b lb, digit_is c lc, digit_is d ld)
    (rw (digit_value-digit_char a (omega arith), digit_value-digit_char b (omega arith), digit_value-digit_char c (omega arith), digit_value-digit_char d (omega arith)) refl)

abbrev pub unit_escape : ℕ → ℕ → ℕ → ℕ → List ℕ
unit_escape a b c d = 92 ∷ 117 ∷ digit_char a ∷ digit_char b ∷ digit_char c ∷ digit_char d ∷ []

escape_read : (a b c d u : ℕ) → code_unit a b c d ≡ Some u → u < 55296 → (rest : List ℕ)
    → content plain (92 ∷ 117 ∷ a ∷ b ∷ c ∷ d ∷ rest) ≡ prepend (encode_utf8 u) (content plain rest)
unfolding content
escape_read a b c d u is low rest = rw is (rw (lt-leb 55296 u low, lt-leb 56320 u (omega arith)) refl)

pub escape_spells : (a b c d u : ℕ) → a < 16 → b < 16 → c < 16 → d < 16 → u ≡ a * 4096 + b * 256 + c * 16 + d → u < 55296
    → Spells (unit_escape a b c d) (encode_utf8 u)
unfolding lex
escape_spells a b c d u la lb lc ld is low = record {
  read = λ rest. escape_read _ _ _ _ u (unit_is a b c d la lb lc ld ∙ ap Some (sym is)) low rest;
  passed = λ rest.
      passes_byte (digit_char a) _ (digit_plain a la).0 (digit_plain a la).1 ∙ passes_byte (digit_char b) _ (digit_plain b lb).0 (digit_plain b lb).1
      ∙ passes_byte (digit_char c) _ (digit_plain c lc).0 (digit_plain c lc).1 ∙ passes_byte (digit_char d) rest (digit_plain d ld).0 (digit_plain d ld).1;
}

-- ---- what was added to a text

pub adds_none : (old : List ℕ) → AddsSpelled [] old old
adds_none old = ([], sym (append-nil old), spells-nil)

pub adds_more : (s t old mid new : List ℕ) → AddsSpelled s old mid → AddsSpelled t mid new → AddsSpelled (s ++ t) old new
adds_more s t old mid new first then =
    (first.0 ++ then.0, then.1 ∙ ap (λ l. l ++ then.0) first.1 ∙ append_assoc old first.0 then.0, spells-append first.0 then.0 s t first.2 then.2)

pub letter_added : {T E : Type 0} (r : Result T E) (c : ℕ) (old new : List ℕ) → c < 127 → OnOk r (Adds (encode_utf8 c) old new) → OnOk r (Adds (c ∷ []) old new)
letter_added (Ok x) c old new small is = is ∙ ap (λ (l : List ℕ). old ++ l) (encode_ascii c (omega arith))
letter_added (Err e) c old new small is = tt

-- two bytes were put after a text, the last of them where that did not fail
pub pair_added : {T E : Type 0} (r : Result T E) (a b : ℕ) (s old mid new : List ℕ) → mid ≡ old ++ a ∷ [] → OnOk r (new ≡ mid ++ b ∷ []) → Spells (a ∷ b ∷ []) s
    → OnOk r (AddsSpelled s old new)
pair_added (Ok x) a b s old mid new first then spells =
    (a ∷ b ∷ [], then ∙ ap (λ (l : List ℕ). l ++ b ∷ []) first ∙ append_assoc old (a ∷ []) (b ∷ []), spells)
pair_added (Err e) a b s old mid new first then spells = tt

pub escape_added : {T E : Type 0} (r : Result T E) (a b c d : ℕ) (s o m n p q t new : List ℕ) → m ≡ o ++ 92 ∷ [] → n ≡ m ++ 117 ∷ [] → p ≡ n ++ digit_char a ∷ []
    → q ≡ p ++ digit_char b ∷ [] → t ≡ q ++ digit_char c ∷ [] → OnOk r (new ≡ t ++ digit_char d ∷ []) → Spells (unit_escape a b c d) s → OnOk r (AddsSpelled s o new)
escape_added (Ok x) a b c d s o m n p q t new first second third fourth fifth last spells = (
  unit_escape a b c d,
  last ∙ ap (push d) (fifth ∙ ap (push c) (fourth ∙ ap (push b) (third ∙ ap (push a) (second ∙ ap (λ (l : List ℕ). l ++ 117 ∷ []) first)))) ∙ regroup,
  spells,
)
  where
    push : ℕ → List ℕ → List ℕ
    push e l = l ++ digit_char e ∷ []

    regroup : (((((o ++ 92 ∷ []) ++ 117 ∷ []) ++ digit_char a ∷ []) ++ digit_char b ∷ []) ++ digit_char c ∷ []) ++ digit_char d ∷ [] ≡ o ++ unit_escape a b c d
    regroup = simp append_assoc
escape_added (Err e) a b c d s o m n p q t new first second third fourth fifth last spells = tt

pub units_are : (code : ℕ) → code < 55296 → code ≡ code / 4096 % 16 * 4096 + code / 256 % 16 * 256 + code / 16 % 16 * 16 + code % 16
units_are code low = omega arith

-- a plain character, and nothing where writing it failed
pub char_added : {T E : Type 0} (r : Result T E) (c : ℕ) (old new : List ℕ) → 32 ≤ c → c ≢ 34 → c ≢ 92 → OnOk r (Adds (encode_utf8 c) old new)
    → OnOk r (AddsSpelled (encode_utf8 c) old new)
char_added (Ok x) c old new low quote backslash is = (encode_utf8 c, is, char_spells c low quote backslash)
char_added (Err e) c old new low quote backslash is = tt

pub escaped_spells : (c : ℕ) → (c ≡ 34) ⊎ (c ≡ 92) → Spells (92 ∷ c ∷ []) (encode_utf8 c)
escaped_spells c (inl is) = subst (λ (x : ℕ). Spells (92 ∷ x ∷ []) (encode_utf8 x)) (sym is) (subst (Spells (92 ∷ 34 ∷ [])) (sym (encode_ascii 34 (omega arith))) quote_spells)
escaped_spells c (inr is) = subst (λ (x : ℕ). Spells (92 ∷ x ∷ []) (encode_utf8 x)) (sym is) (subst (Spells (92 ∷ 92 ∷ [])) (sym (encode_ascii 92 (omega arith))) backslash_spells)
