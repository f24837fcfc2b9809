-- Reading the operations of one session, one after the other.
use Rattle.std.proofs.Common.{◌≡◌, ℕ, zero, suc, ◌+◌, ◌<◌, ◌≤◌, Bool, true, false, ◌||◌, List, [], ◌∷◌, ◌++◌, length, map, take, get_or, Option, Some, None, refl, sym, ap, ◌∙◌, arith}
use Rattle.std.specs.Prelude.{slice_get, cond, is_some}
use Rattle.std.specs.List.{list_any}
use Rattle.std.proofs.lemmas.Bool.{le-ltb, lt-ltb}
use Rattle.std.proofs.lemmas.List.{take_more, length-map, map_push, take_all}
use Rattle.std.proofs.lemmas.List.Folds.{list_any-append}
use Rattle.std.proofs.lemmas.Option.{slice_get_within, get_or_from_slice_get}
use Rattle.serde_json.specs.Data.{Data}
use Rattle.model_history.specs.declared.op_id.OpId.{OpId}
use Rattle.json_histories.specs.declared.read_error.ReadError.{ReadError}
use Rattle.json_histories.specs.declared.read_error.ReadError.TheVariants.{ReturnAfterUnknown, TooManyOps}
use Rattle.json_histories.specs.Form.{IsReadFrom}
use Rattle.json_histories.specs.Reading.{first_among, is_unknown_return, entry_refusal, operation_refusal, operations_refusal}
use Rattle.json_histories.proofs.FirstRefusal.{first_among_none, first_among_more, first_among_some}

pub or_true : (a : Bool) → (a || true) ≡ true
or_true true = refl
or_true false = refl

pub or_false : (a : Bool) → (a || false) ≡ a
or_false true = refl
or_false false = refl

-- the return of an entry that was read is known, or it isn't
module _ {C R : Type 0} where
  pub known_return : (e : C × Option R) → is_some e.1 ≡ true → is_unknown_return (Some e) ≡ false
  known_return (c, Some r) some = refl
  known_return (c, None) some = absurd cc

  pub known_return-refusal : (e : C × Option R) (seen : Bool) (op : OpId) → is_some e.1 ≡ true
      → entry_refusal (Some e) seen op ≡ cond seen (Some (ReturnAfterUnknown op)) None
  known_return-refusal (c, Some r) seen op some = refl
  known_return-refusal (c, None) seen op some = absurd cc

  pub unknown_return : (e : C × Option R) → is_some e.1 ≡ false → is_unknown_return (Some e) ≡ true
  unknown_return (c, Some r) some = absurd cc
  unknown_return (c, None) some = refl

  pub unknown_return-refusal : (e : C × Option R) (seen : Bool) (op : OpId) → is_some e.1 ≡ false → entry_refusal (Some e) seen op ≡ None
  unknown_return-refusal (c, Some r) seen op some = absurd cc
  unknown_return-refusal (c, None) seen op some = refl

-- a test of one element
one_more : (a b : Bool) → (a || (b || false)) ≡ (a || b)
one_more a true = refl
one_more true false = refl
one_more false false = refl

module _ {C R : Type 0} (operation_at : Data → Option (C × Option R)) where
  -- what refuses a list that isn't too long refuses one of its operations
  pub few_operations : (s n : ℕ) (es : Option (List Data)) (ds : List Data) → es ≡ Some ds → length ds ≡ n → n ≤ 256
      → operations_refusal operation_at s es ≡ first_among n (operation_refusal operation_at s ds)
  few_operations s n es ds is count few = rw (is, le-ltb 256 (length ds) (rw count few), count) refl

  pub many_operations : (s n : ℕ) (es : Option (List Data)) (ds : List Data) → es ≡ Some ds → length ds ≡ n → 256 < n
      → operations_refusal operation_at s es ≡ Some TooManyOps
  many_operations s n es ds is count many = rw (is, lt-ltb 256 (length ds) (rw count many)) refl

  abbrev pub unknown_among : List Data → Bool
  unknown_among ds = list_any (λ d. is_unknown_return (operation_at d)) ds

  pub record IsReadUpTo (s : ℕ) (ds : List Data) (es : List (C × Option R)) (seen : Bool) (i : ℕ) : Type 0 where
    pub entries : map operation_at (take i ds) ≡ map (λ e. Some e) es
    pub seen_is : seen ≡ unknown_among (take i ds)
    pub none : first_among i (operation_refusal operation_at s ds) ≡ None

  pub reads_nothing : (s : ℕ) (ds : List Data) → IsReadUpTo s ds [] false 0
  reads_nothing s ds = record { entries = refl; seen_is = refl; none = refl }

  -- the refusal at a place, from what was read before it
  pub refusal_here : (s : ℕ) (ds : List Data) (es : List (C × Option R)) (seen : Bool) (i : ℕ) (d : Data) → IsReadUpTo s ds es seen i
      → slice_get ds i ≡ Some d → operation_refusal operation_at s ds i ≡ entry_refusal (operation_at d) seen (record { session = s; index = i })
  refusal_here s ds es seen i d so_far here = rw (here, so_far.seen_is) refl

  pub reads_on : (s : ℕ) (ds : List Data) (es : List (C × Option R)) (seen after : Bool) (i : ℕ) (d : Data) (e : C × Option R) → IsReadUpTo s ds es seen i
      → slice_get ds i ≡ Some d → operation_at d ≡ Some e → entry_refusal (Some e) seen (record { session = s; index = i }) ≡ None
      → after ≡ (seen || is_unknown_return (Some e)) → IsReadUpTo s ds (es ++ e ∷ []) after (i + 1)
  reads_on s ds es seen after i d e so_far here read fine after_is =
      let lt : i < length ds = slice_get_within ds i d here in
      let item : get_or ds i d ≡ d = get_or_from_slice_get ds i d d here in
      let front : take (i + 1) ds ≡ take i ds ++ d ∷ [] = take_more ds i d lt ∙ ap (λ x. take i ds ++ x ∷ []) item in
      record {
        entries = ap (map operation_at) front ∙ map_push operation_at (take i ds) d ∙ rw (read, so_far.entries) (sym (map_push (λ x. Some x) es e));
        seen_is = after_is ∙ rw (so_far.seen_is) (sym (ap unknown_among front ∙ list_any-append (λ x. is_unknown_return (operation_at x)) (take i ds) (d ∷ []) ∙ rw read (one_more (unknown_among (take i ds)) (is_unknown_return (Some e)))));
        none = first_among_more i (operation_refusal operation_at s ds) so_far.none (refusal_here s ds es seen i d so_far here ∙ rw read fine);
      }

  pub refused_here : (s n : ℕ) (ds : List Data) (es : List (C × Option R)) (seen : Bool) (i : ℕ) (d : Data) (e : ReadError) → length ds ≡ n → IsReadUpTo s ds es seen i
      → slice_get ds i ≡ Some d → entry_refusal (operation_at d) seen (record { session = s; index = i }) ≡ Some e
      → first_among n (operation_refusal operation_at s ds) ≡ Some e
  refused_here s n ds es seen i d e count so_far here bad =
      rw (← count) (first_among_some (length ds) i (operation_refusal operation_at s ds) e so_far.none (refusal_here s ds es seen i d so_far here ∙ bad) (slice_get_within ds i d here))

module _ {C R : Type 0} (operation_at : Data → Option (C × Option R)) where
  -- the form at the place of an entry
  pub form_at : (ds : List Data) (es : List (C × Option R)) (i : ℕ) (e : C × Option R) → map operation_at ds ≡ map (λ x. Some x) es → slice_get es i ≡ Some e
      → (d : Data) × (slice_get ds i ≡ Some d) × (operation_at d ≡ Some e)
  form_at [] [] i e same here = absurd cc
  form_at [] (x ∷ es) i e same here = absurd cc
  form_at (d ∷ ds) [] i e same here = absurd cc
  form_at (d ∷ ds) (x ∷ es) zero e same here = (d, refl, (let p : operation_at d ≡ Some x = cc in p ∙ here))
  form_at (d ∷ ds) (x ∷ es) (suc i) e same here = form_at ds es i e (cc) here

  -- an earlier entry with an unknown return is among those before
  unknown_before : (ds : List Data) (es : List (C × Option R)) (i j : ℕ) (c : C) → map operation_at ds ≡ map (λ x. Some x) es → slice_get es i ≡ Some (c, None) → i < j
      → unknown_among operation_at (take j ds) ≡ true
  unknown_before [] [] i j c same here lt = absurd cc
  unknown_before [] (x ∷ es) i j c same here lt = absurd cc
  unknown_before (d ∷ ds) [] i j c same here lt = absurd cc
  unknown_before (d ∷ ds) (x ∷ es) i zero c same here lt = absurd (omega arith)
  unknown_before (d ∷ ds) (x ∷ es) zero (suc j) c same here lt =
      let p : operation_at d ≡ Some x = cc in
      let q : operation_at d ≡ Some (c, None) = p ∙ here in
      rw q refl
  unknown_before (d ∷ ds) (x ∷ es) (suc i) (suc j) c same here lt =
      let more : unknown_among operation_at (take j ds) ≡ true = unknown_before ds es i j c (cc) here (omega arith) in
      rw more (or_true (is_unknown_return (operation_at d)))

  module _ (fits : C → R → Bool) (fitting : (d : Data) (c : C) (r : R) → operation_at d ≡ Some (c, Some r) → fits c r ≡ true) where
    pub is_read : (s n : ℕ) (ds : List Data) (es : List (C × Option R)) (seen : Bool) → length ds ≡ n → n ≤ 256 → IsReadUpTo operation_at s ds es seen n
        → IsReadFrom operation_at fits ds es
    is_read s n ds es seen count short_enough so_far_n =
        let so_far : IsReadUpTo operation_at s ds es seen (length ds) = rw count so_far_n in
        let same : map operation_at ds ≡ map (λ x. Some x) es = ap (map operation_at) (sym (take_all (length ds) ds (omega arith))) ∙ so_far.entries in
        let long = simp length-map at (ap length same) in
        record {
          read = same;
          is_session = record {
            short = omega arith;
            fitting = λ i c r here. let p = form_at ds es i (c, Some r) same here in fitting p.0 c r p.2;
            known_first = λ i j c d r lt first second.
                let p = form_at ds es j (d, Some r) same second in
                let fine : operation_refusal operation_at s ds j ≡ None = first_among_none (length ds) j (operation_refusal operation_at s ds) so_far.none (slice_get_within ds j p.0 p.1) in
                let bad : operation_refusal operation_at s ds j ≡ Some (ReturnAfterUnknown (record { session = s; index = j })) =
                rw (p.1, p.2, unknown_before ds es i j c same first lt) refl in
                absurd cc;
          };
        }
