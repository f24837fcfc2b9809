-- Lists of texts, as they are written.
use Rattle.std.proofs.Common.{◌≡◌, ◌<◌, ◌≤◌, if◌then◌else◌, ℕ, suc, ◌+◌, List, [], ◌∷◌, ◌++◌, length, take, get_or, codes, refl, sym, ap, ◌∙◌, subst, append_assoc, append-nil, arith}
use Rattle.std.specs.List.{flat_map}
use Rattle.std.proofs.lemmas.Grind.{flat_map-append}
use Rattle.std.proofs.lemmas.List.{length-take-le, take_all, take_more}
use Rattle.std.specs.Prelude.{OnOk, Result, Ok, Err, is_ok}
use Rattle.app_logs.specs.Steps.ListsSoFar.{AddsList, BeginsList, comma_at}
use Rattle.app_logs.specs.TextLists.{EachText, IsListText, joined}

abbrev with-comma : List ℕ → List ℕ
with-comma text = codes "," ++ text

joined-push : (texts : List (List ℕ)) (last : List ℕ) → joined (texts ++ last ∷ []) ≡ joined texts ++ (comma_at (length texts) ++ last)
joined-push [] last = append-nil last
joined-push (first ∷ others) last =
    ap (λ (l : List ℕ). first ++ l)
    (flat_map-append with-comma others (last ∷ []) ∙ ap (λ (l : List ℕ). flat_map with-comma others ++ l) (append-nil (with-comma last)))
    ∙ sym (append_assoc first (flat_map with-comma others) (with-comma last))

module _ {X : Type 0} (IsText : X → List ℕ → Type 0) where
  each-length : (xs : List X) (texts : List (List ℕ)) → EachText IsText xs texts → length texts ≡ length xs
  each-length [] texts each = ap length each
  each-length (x ∷ xs) texts (text, others, here, rest, is) = ap length is ∙ ap suc (each-length xs others rest)

  each-push : (xs : List X) (x : X) (texts : List (List ℕ)) (last : List ℕ) → EachText IsText xs texts → IsText x last
      → EachText IsText (xs ++ x ∷ []) (texts ++ last ∷ [])
  each-push [] x texts last each is = (last, [], is, refl, ap (λ (l : List (List ℕ)). l ++ last ∷ []) each)
  each-push (y ∷ xs) x texts last (text, others, here, rest, same) is =
      (text, others ++ last ∷ [], here, each-push xs x others last rest is, ap (λ (l : List (List ℕ)). l ++ last ∷ []) same)

  pub begins_none : (old : List ℕ) → BeginsList IsText [] old old
  begins_none old = record { texts = []; each = refl; is_text = sym (append-nil old) }

  begins_push : (xs : List X) (x : X) (old text new last : List ℕ) → BeginsList IsText xs old text → IsText x last
      → new ≡ text ++ (comma_at (length xs) ++ last) → BeginsList IsText (xs ++ x ∷ []) old new
  begins_push xs x old text new last begins is same = record {
    texts = begins.texts ++ last ∷ [];
    each = each-push xs x begins.texts last begins.each is;
    is_text =
        let comma = ap (λ n. comma_at n ++ last) (sym (each-length xs begins.texts begins.each)) in
        same ∙ ap (λ (l : List ℕ). text ++ l) comma ∙ ap (λ (l : List ℕ). l ++ (comma_at (length begins.texts) ++ last)) begins.is_text
        ∙ append_assoc old (joined begins.texts) (comma_at (length begins.texts) ++ last)
        ∙ ap (λ (l : List ℕ). old ++ l) (sym (joined-push begins.texts last));
  }

  -- the element at the next place
  pub begins_next : (xs : List X) (i : ℕ) (d : X) (old text new last : List ℕ) → i < length xs → BeginsList IsText (take i xs) old text
      → IsText (get_or xs i d) last → new ≡ text ++ (comma_at i ++ last) → BeginsList IsText (take (i + 1) xs) old new
  begins_next xs i d old text new last low begins is same =
      let count : length (take i xs) ≡ i = length-take-le i xs (omega arith) in
      let more = take_more xs i d low in
      subst (λ (l : List X). BeginsList IsText l old new) (sym more)
      (begins_push (take i xs) (get_or xs i d) old text new last begins is (same ∙ ap (λ n. text ++ (comma_at n ++ last)) (sym count)))

  -- the list is whole
  pub begins_end : (xs : List X) (old opened text new : List ℕ) → opened ≡ old ++ codes "[" → BeginsList IsText xs opened text → new ≡ text ++ codes "]"
      → AddsList IsText xs old new
  begins_end xs old opened text new opens begins is =
      let list = codes "[" ++ (joined begins.texts ++ codes "]") in (
        list,
        record { texts = begins.texts; each = begins.each; is_list = refl },
        is ∙ ap (λ (l : List ℕ). l ++ codes "]") (begins.is_text ∙ ap (λ (l : List ℕ). l ++ joined begins.texts) opens)
            ∙ append_assoc (old ++ codes "[") (joined begins.texts) (codes "]") ∙ append_assoc old (codes "[") (joined begins.texts ++ codes "]"),
      )

  pub list_ended : {T E : Type 0} (r : Result T E) (xs : List X) (i : ℕ) (old opened text new : List ℕ) → length xs ≤ i → opened ≡ old ++ codes "["
      → BeginsList IsText (take i xs) opened text → new ≡ (if is_ok r then text ++ codes "]" else text) → OnOk r (AddsList IsText xs old new)
  list_ended (Ok x) xs i old opened text new enough opens begins is =
      begins_end xs old opened text new opens (subst (λ (l : List X). BeginsList IsText l opened text) (take_all i xs enough) begins) is
  list_ended (Err e) xs i old opened text new enough opens begins is = tt

  -- the list as the whole of a text, and a line feed
  pub lines_ended : (xs : List X) (i : ℕ) (opened text new : List ℕ) → length xs ≤ i → opened ≡ codes "[" → BeginsList IsText (take i xs) opened text
      → new ≡ text ++ codes "]\n" → (lists : List ℕ) × IsListText IsText xs lists × (new ≡ lists ++ codes "\n")
  lines_ended xs i opened text new enough opens begins is =
      let all = subst (λ (l : List X). BeginsList IsText l opened text) (take_all i xs enough) begins in
      let whole = begins_end xs [] opened text (text ++ codes "]") opens all refl in
      (whole.0, whole.1, is ∙ sym (append_assoc text (codes "]") (codes "\n")) ∙ ap (λ (l : List ℕ). l ++ codes "\n") whole.2)
