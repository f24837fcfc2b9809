-- What an object is asked to take in for one answer: the calls on which that may depend, and no others.
use Rattle.std.proofs.Common.{◌≡◌, Bool, true, false, ℕ, ◌+◌, List, [], ◌∷◌, ◌++◌, take, drop, reverse, refl, sym, ap, ◌∙◌, subst, ⊎_elim, append_assoc}
use Rattle.std.specs.List.{cons_option}
use Rattle.std.specs.Prelude.{◌↔◌, IsTrue, Option, None, Some, filter, option_map, slice_get}
use Rattle.std.proofs.lemmas.Bool.{cases_Bool, cond-true, cond-false}
use Rattle.std.proofs.lemmas.List.{take-append-drop, drop_more, reverse-append}
use Rattle.std.proofs.lemmas.List.Elements.{filter-append, filter_map-append}
use Rattle.std.proofs.lemmas.Option.{same_Some, slice_get_within, get_or_from_slice_get}
use Rattle.model_history.specs.declared.op_id.OpId.{OpId}
use Rattle.model_history.specs.History.{HistoryValue, calls, entry}
use Rattle.order_causal.specs.Vectors.{Counts}
use Rattle.cert_check.specs.Certificates.{counted}
use Rattle.cert_check.specs.Steps.Replays.{considered, IsAnsweredBy, IsCallOf}

module _ {S C R : Type 0} (answer : S → List C → C → R) (depends : C → C → Bool)
    (silent : (s : S) (before after : List C) (o c : C) → depends c o ≡ false → answer s (before ++ o ∷ after) c ≡ answer s (before ++ after) c) where
  -- calls on which an answer does not depend can be left out behind others
  dropped_behind : (s : S) (c : C) (before cs : List C) → answer s (before ++ filter (depends c) cs) c ≡ answer s (before ++ cs) c
  dropped_behind s c before [] = refl
  dropped_behind s c before (o ∷ cs) = ⊎_elim
      (λ (yes_here : depends c o ≡ true).
      ap (λ (xs : List C). answer s (before ++ xs) c) (cond-true (depends c o) (o ∷ filter (depends c) cs) (filter (depends c) cs) yes_here)
      ∙ ap (λ (xs : List C). answer s xs c) (sym (append_assoc before (o ∷ []) (filter (depends c) cs)))
      ∙ dropped_behind s c (before ++ o ∷ []) cs
      ∙ ap (λ (xs : List C). answer s xs c) (append_assoc before (o ∷ []) cs))
      (λ (no_here : depends c o ≡ false).
      ap (λ (xs : List C). answer s (before ++ xs) c) (cond-false (depends c o) (o ∷ filter (depends c) cs) (filter (depends c) cs) no_here)
      ∙ dropped_behind s c before cs
      ∙ sym (silent s before cs o c no_here))
      (cases_Bool (depends c o))

  pub dropped : (s : S) (c : C) (cs : List C) → answer s (filter (depends c) cs) c ≡ answer s cs c
  dropped s c cs = dropped_behind s c [] cs

-- a known return is the answer after some calls where it is after others that are answered alike
module _ {S C R : Type 0} (answer : S → List C → C → R) (h : HistoryValue S C R) (o : OpId) (c : C) (is : IsCallOf h o c) where
  same_call : (d : C) (r : R) → entry h o ≡ Some (d, Some r) → c ≡ d
  same_call d r known = same_Some c d (sym is ∙ ap (λ found. option_map (λ (e : C × Option R). e.0) found) known)

  pub answered_alike : (xs ys : List C) → answer h.0 xs c ≡ answer h.0 ys c → IsAnsweredBy answer h ys o → IsAnsweredBy answer h xs o
  answered_alike xs ys same answered d r known =
      answered d r known ∙ sym (subst (λ (x : C). answer h.0 xs x ≡ answer h.0 ys x) (same_call d r known) same)

-- an operation has the call and the known return that were found
entry_is : {C R : Type 0} (found : Option (C × Option R)) (call : C) (known : R) → option_map (λ (e : C × Option R). e.0) found ≡ Some call
    → option_map (λ (e : C × Option R). e.1) found ≡ Some (Some known) → found ≡ Some (call, Some known)
entry_is None call known calls returns = absurd cc
entry_is (Some e) call known calls returns = λ i. Some (same_Some _ _ calls i, same_Some _ _ returns i)

-- a known return equals what was answered after some calls exactly where it is the answer after them
pub known_answered : {S C R : Type 0} (answer : S → List C → C → R) (h : HistoryValue S C R) (o : OpId) (call : C) (known given : R) → IsCallOf h o call
    → option_map (λ (e : C × Option R). e.1) (entry h o) ≡ Some (Some known) → (cs : List C) → given ≡ answer h.0 cs call
    → (told : Bool) → (told ≡ true) ↔ (known ≡ given) → IsTrue told ↔ IsAnsweredBy answer h cs o
known_answered {S} {C} {R} answer h o call known given calls returns cs answered told equal =
    let found = entry_is (entry h o) call known calls returns in (
      (λ t c r is.
          let same : Some (call, Some known) ≡ Some (c, Some r) = sym found ∙ is in
          let pair = same_Some _ _ same in
          same_Some _ _ (sym (ap (λ (e : C × Option R). e.1) pair)) ∙ equal.0 t ∙ answered ∙ ap (λ (e : C × Option R). answer h.0 cs e.0) pair),
      λ by. equal.1 (by call known found ∙ sym answered),
    )

-- what passes no test is left out of a list
pub none_kept : {X : Type 0} (p : X → Bool) → ((x : X) → p x ≡ false) → (xs : List X) → filter p xs ≡ []
none_kept p none [] = refl
none_kept p none (x ∷ xs) = cond-false (p x) (x ∷ filter p xs) (filter p xs) (none x) ∙ none_kept p none xs

-- a list to which one element was pushed, last first
pub reverse_push : {X : Type 0} (xs : List X) (x : X) → reverse (xs ++ x ∷ []) ≡ x ∷ reverse xs
reverse_push xs x = reverse-append xs (x ∷ [])

-- a list from the place of one of its elements on
pub drop_at : {X : Type 0} (xs : List X) (k : ℕ) (x : X) → slice_get xs k ≡ Some x → drop k xs ≡ x ∷ drop (k + 1) xs
drop_at xs k x there = drop_more xs k x (slice_get_within xs k x there) ∙ ap (λ y. y ∷ drop (k + 1) xs) (get_or_from_slice_get xs k x x there)

module _ {S C R : Type 0} (depends : C → C → Bool) (h : HistoryValue S C R) (v : Counts) (o : OpId) (c : C) where
  -- what is considered of two lists, one behind the other
  pub considered-append : (xs ys : List OpId) → considered depends h v o c (xs ++ ys) ≡ considered depends h v o c xs ++ considered depends h v o c ys
  considered-append xs ys =
      let call : OpId → Option C = λ a. option_map (λ (e : C × Option R). e.0) (entry h a) in
      ap (λ (ops : List OpId). filter (depends c) (calls h ops)) (filter-append (counted v o) xs ys)
      ∙ ap (filter (depends c)) (filter_map-append call (filter (counted v o) xs) (filter (counted v o) ys))
      ∙ filter-append (depends c) (calls h (filter (counted v o) xs)) (calls h (filter (counted v o) ys))

  -- one that is not counted is not considered
  pub considered_apart : (next : OpId) → counted v o next ≡ false → (ops : List OpId) → considered depends h v o c (next ∷ ops) ≡ considered depends h v o c ops
  considered_apart next apart ops = ap (λ xs. filter (depends c) (calls h xs)) (cond-false (counted v o next) (next ∷ filter (counted v o) ops) (filter (counted v o) ops) apart)

  module _ (next : OpId) (d : C) (is : IsCallOf h next d) where
    -- an operation before others: its call is considered, or of no weight
    pub considered_first : IsTrue (counted v o next) → IsTrue (depends c d) → (ops : List OpId)
        → considered depends h v o c (next ∷ ops) ≡ d ∷ considered depends h v o c ops
    considered_first counts weighs ops =
        ap (λ xs. filter (depends c) (calls h xs)) (cond-true (counted v o next) (next ∷ filter (counted v o) ops) (filter (counted v o) ops) counts)
        ∙ ap (λ (found : Option C). filter (depends c) (cons_option found (calls h (filter (counted v o) ops)))) is
        ∙ cond-true (depends c d) (d ∷ considered depends h v o c ops) (considered depends h v o c ops) weighs

    pub considered_light : depends c d ≡ false → (ops : List OpId) → considered depends h v o c (next ∷ ops) ≡ considered depends h v o c ops
    considered_light light ops = ⊎_elim
        (λ (counts : counted v o next ≡ true).
        ap (λ xs. filter (depends c) (calls h xs)) (cond-true (counted v o next) (next ∷ filter (counted v o) ops) (filter (counted v o) ops) counts)
        ∙ ap (λ (found : Option C). filter (depends c) (cons_option found (calls h (filter (counted v o) ops)))) is
        ∙ cond-false (depends c d) (d ∷ considered depends h v o c ops) (considered depends h v o c ops) light)
        (λ (apart : counted v o next ≡ false). considered_apart next apart ops)
        (cases_Bool (counted v o next))

  -- what is considered from the place before one on, where the rest was found last first
  pub more_behind : (ops : List OpId) (k : ℕ) (next : OpId) (d : C) (found : List C) → slice_get ops k ≡ Some next
      → ((xs : List OpId) → considered depends h v o c (next ∷ xs) ≡ d ∷ considered depends h v o c xs)
      → reverse found ≡ considered depends h v o c (drop (k + 1) ops) → considered depends h v o c (drop k ops) ≡ d ∷ reverse found
  more_behind ops k next d found there adds behind =
      ap (considered depends h v o c) (drop_at ops k next there) ∙ adds (drop (k + 1) ops) ∙ ap (λ (xs : List C). d ∷ xs) (sym behind)

  pub pushed_behind : (ops : List OpId) (k : ℕ) (d : C) (found pushed : List C) → pushed ≡ found ++ d ∷ []
      → considered depends h v o c (drop k ops) ≡ d ∷ reverse found → reverse pushed ≡ considered depends h v o c (drop k ops)
  pushed_behind ops k d found pushed push behind = ap reverse push ∙ reverse_push found d ∙ sym behind

  pub same_behind : (ops : List OpId) (k : ℕ) (next : OpId) (found : List C) → slice_get ops k ≡ Some next
      → ((xs : List OpId) → considered depends h v o c (next ∷ xs) ≡ considered depends h v o c xs)
      → reverse found ≡ considered depends h v o c (drop (k + 1) ops) → reverse found ≡ considered depends h v o c (drop k ops)
  same_behind ops k next found there adds_none behind =
      behind ∙ sym (ap (considered depends h v o c) (drop_at ops k next there) ∙ adds_none (drop (k + 1) ops))

  -- from a call that settles the answer on, the answer is that after all that is considered
  module _ (answer : S → List C → C → R) (settles : C → C → Bool)
      (final : (s : S) (before after : List C) (o c : C) → settles c o ≡ true → answer s (before ++ o ∷ after) c ≡ answer s (o ∷ after) c) where
    pub settled_behind : (s : S) (ops : List OpId) (k : ℕ) (d : C) (after : List C) → settles c d ≡ true
        → considered depends h v o c (drop k ops) ≡ d ∷ after → answer s (d ∷ after) c ≡ answer s (considered depends h v o c ops) c
    settled_behind s ops k d after settles_it behind =
        sym (ap (λ (xs : List OpId). answer s (considered depends h v o c xs) c) (sym (take-append-drop k ops))
        ∙ ap (λ (xs : List C). answer s xs c) (considered-append (take k ops) (drop k ops) ∙ ap (λ (xs : List C). considered depends h v o c (take k ops) ++ xs) behind)
        ∙ final s (considered depends h v o c (take k ops)) after d c settles_it)

    -- and where it was found last first, pushed to what was found behind it, and the whole then turned round
    pub settled_found : (s : S) (ops : List OpId) (k : ℕ) (d : C) (found pushed turned : List C) (told : Bool) → told ≡ settles c d → told ≡ true → pushed ≡ found ++ d ∷ [] → turned ≡ reverse pushed
        → considered depends h v o c (drop k ops) ≡ d ∷ reverse found → answer s turned c ≡ answer s (considered depends h v o c ops) c
    settled_found s ops k d found pushed turned told tells settled push turn behind =
        ap (λ (xs : List C). answer s xs c) (turn ∙ ap reverse push ∙ reverse_push found d) ∙ settled_behind s ops k d (reverse found) (sym tells ∙ settled) behind
