-- Lines of the common forms, token by token.
use Rattle.std.proofs.Common.{◌≡◌, ◌<◌, ◌≤◌, ◌-◌, ℕ, Bool, true, false, List, [], ◌∷◌, length, Option, Some, refl, sym, ap, subst, ◌∙◌, arith}
use Rattle.std.specs.Prelude.{codes, option_and_then, option_map}
use Rattle.json.specs.Json as json
use Rattle.json.specs.Json.{after_end_array, items, parse_map, value}
use Rattle.json.specs.Token.{Token}
use Rattle.json.proofs.Grammar.{left, skip_value-shorter}
use Rattle.serde_json.specs.Data.{Data, null, boolean, number, string, array, item, unsigned}
use Rattle.serde_json.specs.Read.{converted, number_of, of_items, of_json}
use Rattle.serde_json.specs.View.{items_of}
use Rattle.json_bounded.proofs.Tokens.{at_begin_array, at_boolean, at_null, at_number, at_string}
use Rattle.json_bounded.proofs.Turns.{converted_some, item_read, items_over}
use Rattle.json_histories.specs.Json.{elements}
use Rattle.json_histories.specs.Laws.Json.{listed-items_of}
use Rattle.log_reader.specs.Forms.{Said, SaidCall, SaidEnding, start, begin, end, write, read as read_of, delete, answer, failed, lost, answer_at, call_in, said_in}
use Rattle.log_reader.specs.Names.{Name, name_of, value_name}
use Rattle.log_reader.specs.QuickSteps.{AreCallRest, AreNext, AreRest, AreSaid, IsNext, IsNextCall, IsNextWith}
use Rattle.log_reader.specs.Steps.{name_in}
use Rattle.log_reader.specs.declared.name_value.NameValue.TheVariants.{Truth}

-- ---- a token that is a value

module _ (P : Data → Type 0) (old new : List Token) where
  pub next_text : (s : List ℕ) → old ≡ Token.string s ∷ new → P (string s) → IsNextWith P old new
  next_text s is holds =
      (string s, (λ depth. subst (λ (ts : List Token). IsNext depth (string s) ts new) (sym is) (at_string depth new s, refl)), holds)

  pub next_truth : (b : Bool) → old ≡ Token.boolean b ∷ new → P (boolean b) → IsNextWith P old new
  next_truth b is holds =
      (boolean b, (λ depth. subst (λ (ts : List Token). IsNext depth (boolean b) ts new) (sym is) (at_boolean depth new b, refl)), holds)

  pub next_null : old ≡ Token.null ∷ new → P null → IsNextWith P old new
  next_null is holds = (null, (λ depth. subst (λ (ts : List Token). IsNext depth null ts new) (sym is) (at_null depth new, refl)), holds)

  number_read : (depth : ℕ) (s : List ℕ) (n : ℕ) → number_of s ≡ Some (unsigned n) → converted of_json (value depth (Token.number s ∷ new)) ≡ Some (number (unsigned n), new)
  number_read depth s n is = at_number depth new s ∙ ap (option_map (λ m. (number m, new))) is

  pub next_number : (s : List ℕ) (n : ℕ) → old ≡ Token.number s ∷ new → number_of s ≡ Some (unsigned n) → P (number (unsigned n)) → IsNextWith P old new
  next_number s n is writes holds =
      (number (unsigned n), (λ depth. subst (λ (ts : List Token). IsNext depth (number (unsigned n)) ts new) (sym is) (number_read depth s n writes, refl)), holds)

pub truth_next : (old new : List Token) (b : Bool) → old ≡ Token.boolean b ∷ new → IsNextWith (λ d. value_name d ≡ Some (name_in (Truth b))) old new
truth_next old new true is = next_truth (λ d. value_name d ≡ Some (codes "true")) old new true is refl
truth_next old new false is = next_truth (λ d. value_name d ≡ Some (codes "false")) old new false is refl

pub truth_next_answer : (old new : List Token) (b : Bool) → old ≡ Token.boolean b ∷ new → IsNextWith (λ d. answer_at d ≡ Some (answer (name_in (Truth b)))) old new
truth_next_answer old new true is = next_truth (λ d. answer_at d ≡ Some (answer (codes "true"))) old new true is refl
truth_next_answer old new false is = next_truth (λ d. answer_at d ≡ Some (answer (codes "false"))) old new false is refl

-- ---- values one after the other

next_shorter : (depth : ℕ) (d : Data) (old new : List Token) → IsNext depth d old new → length new < length old
next_shorter depth d old new next =
    let found = converted_some of_json (value depth old) d new next.0 in
    skip_value-shorter depth old new (ap left found.1)

list_read : (depth : ℕ) (ds : List Data) (old mid new : List Token) (n : ℕ) → AreNext depth ds old mid → after_end_array mid ≡ Some new → length old ≤ n
    → converted of_items (items (value depth) n old) ≡ Some (items_of ds, new)
list_read depth [] old mid new n same bracket enough =
    items_over (value depth) n old new enough (subst (λ (ts : List Token). after_end_array ts ≡ Some new) same bracket)
list_read depth (d ∷ ds) old mid new n (between, next, more) bracket enough =
    let less : length between < length old = next_shorter depth d old between next in
    item_read (value depth) n old between d (omega (arith, less, enough)) next.1 next.0
    ∙ ap (parse_map (item d)) (list_read depth ds between mid new (n - 1) more bracket (omega (arith, less, enough)))

-- a list comes next
list_next : (depth : ℕ) → 0 < depth → (ds : List Data) (old first mid new : List Token) → old ≡ Token.begin_array ∷ first → AreNext (depth - 1) ds first mid
    → after_end_array mid ≡ Some new → IsNext depth (array (items_of ds)) old new
list_next depth some ds old first mid new is more bracket =
    subst (λ (ts : List Token). IsNext depth (array (items_of ds)) ts new) (sym is)
    (at_begin_array depth first some ∙ ap (parse_map array) (list_read (depth - 1) ds first mid new (length first) more bracket (omega arith)), refl)

-- ---- calls

module _ (word : List ℕ) (key : Name) (old new : List Token) where
  pub rest_write : (value : Name) → word ≡ codes "w" → IsNextWith (λ d. value_name d ≡ Some value) old new
      → AreCallRest word key old new (write key value)
  rest_write value is (d, next, named) =
      (d ∷ [], (new, next 125, refl), λ k known. rw (is, known, named) refl)

  pub rest_read : word ≡ codes "r" → new ≡ old → AreCallRest word key old new (read_of key)
  rest_read is same = ([], same, λ k known. rw (is, known) refl)

  pub rest_delete : word ≡ codes "d" → new ≡ old → AreCallRest word key old new (delete key)
  rest_delete is same = ([], same, λ k known. rw (is, known) refl)

list_elements : (ds : List Data) → elements (array (items_of ds)) ≡ Some ds
list_elements ds = ap (λ (es : List Data). Some es) (listed-items_of ds)

pub call_next : (old a b c d new : List Token) (word : List ℕ) (key : Name) (call : SaidCall) → old ≡ Token.begin_array ∷ a → IsNextWith (λ e. e ≡ string word) a b
    → IsNextWith (λ e. name_of e ≡ Some key) b c → AreCallRest word key c d call → after_end_array d ≡ Some new → IsNextCall old new call
call_next old a b c d new word key call is (w, word_next, word_is) (k, key_next, known) (ds, more, says) bracket =
    let all : AreNext 125 (w ∷ k ∷ ds) a d = (b, word_next 125, (c, key_next 125, more)) in
    let said : call_in (w ∷ k ∷ ds) ≡ Some call = ap (λ (e : Data). call_in (e ∷ k ∷ ds)) word_is ∙ says k known in
    (array (items_of (w ∷ k ∷ ds)), list_next 126 (omega arith) (w ∷ k ∷ ds) old a d new is all bracket, ap (option_and_then call_in) (list_elements (w ∷ k ∷ ds)) ∙ said)

-- ---- events

module _ (word : List ℕ) (name : Name) (old new : List Token) where
  pub rest_begin : (call : SaidCall) → word ≡ codes "begin" → IsNextCall old new call → AreRest word name old new (begin name call)
  rest_begin call is (d, next, called) =
      (d ∷ [], (new, next, refl), λ c known. rw (is, known, called) refl)

  pub rest_end : (ending : SaidEnding) → word ≡ codes "end" → IsNextWith (λ d. answer_at d ≡ Some ending) old new
      → AreRest word name old new (end name ending)
  rest_end ending is (d, next, answered) =
      (d ∷ [], (new, next 126, refl), λ c known. rw (is, known, answered) refl)

  pub rest_start : (value : Name) → word ≡ codes "start" → IsNextWith (λ d. value_name d ≡ Some value) old new
      → AreRest word name old new (start name value)
  rest_start value is (d, next, named) =
      (d ∷ [], (new, next 126, refl), λ c known. rw (is, known, named) refl)

  pub rest_fail : word ≡ codes "fail" → new ≡ old → AreRest word name old new (end name failed)
  rest_fail is same = ([], same, λ c known. rw (is, known) refl)

  pub rest_lost : word ≡ codes "lost" → new ≡ old → AreRest word name old new (end name lost)
  rest_lost is same = ([], same, λ c known. rw (is, known) refl)

pub all_said : (old a b c d new : List Token) (word : List ℕ) (name : Name) (said : Said) → old ≡ Token.begin_array ∷ a → IsNextWith (λ e. e ≡ string word) a b
    → IsNextWith (λ e. name_of e ≡ Some name) b c → AreRest word name c d said → after_end_array d ≡ Some new → new ≡ [] → AreSaid old said
all_said old a b c d new word name said is (w, word_next, word_is) (k, name_next, known) (ds, more, says) bracket over =
    let all : AreNext 126 (w ∷ k ∷ ds) a d = (b, word_next 126, (c, name_next 126, more)) in
    let spoken : said_in (w ∷ k ∷ ds) ≡ Some said = ap (λ (e : Data). said_in (e ∷ k ∷ ds)) word_is ∙ says k known in
    let next = list_next 127 (omega arith) (w ∷ k ∷ ds) old a d new is all bracket in (
      array (items_of (w ∷ k ∷ ds)),
      next.0 ∙ ap (λ (ts : List Token). Some (array (items_of (w ∷ k ∷ ds)), ts)) over,
      ap (option_and_then said_in) (list_elements (w ∷ k ∷ ds)) ∙ spoken,
    )

-- ---- texts and lines

whole_read : (o : Option (json.Json × List Token)) (d : Data) → converted of_json o ≡ Some (d, []) → option_and_then of_json (option_and_then (λ p. json.if_last p.0 p.1) o) ≡ Some d
whole_read o d is =
    let found = converted_some of_json o d [] is in
    ap (λ (x : Option (json.Json × List Token)). option_and_then of_json (option_and_then (λ p. json.if_last p.0 p.1) x)) found.1 ∙ found.2
