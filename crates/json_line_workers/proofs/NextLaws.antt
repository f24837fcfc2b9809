-- What is handed out of an input.
use Rattle.std.proofs.Common.{◌≡◌, ◌≢◌, ◌+◌, ◌-◌, ◌<◌, ◌≤◌, ℕ, Bool, true, false, List, [], ◌∷◌, ◌++◌, Option, None, Some, IfSome, IfOk, Result, Ok, Err, length, take, drop, refl, sym, ap, subst, ◌∙◌, arith, append_assoc, append-nil, take_all, le_refl, eqb-true}
use Rattle.std.specs.Io.KnownBytes.{Consumes, IsAtEnd}
use Rattle.std.proofs.KnownBytes.{Consumes-trans}
use Rattle.std.proofs.Math.Seq.{drop-append_seam}
use Rattle.std.proofs.lemmas.List.{drop-append-le, drop-drop, drop_all, length-append, length-drop, length-take, length-take-le, take_rest}
use Rattle.std.proofs.lemmas.List.Elements.{All-append}
use Rattle.memchr.specs.Find.{IsFirstByte, is_byte}
use Rattle.json_lines.specs.Lines.{lines_of}
use Rattle.json_lines.specs.Steps.{IsFree, Takes}
use Rattle.json_lines.proofs.FeedLaws.{free-all, free-before, split_at}
use Rattle.json_lines.proofs.LineLaws.{lines_of-nil}
use Rattle.json_line_workers.specs.declared.place.Place.{Place}
use Rattle.json_line_workers.specs.declared.held.Held.{Held}
use Rattle.json_line_workers.specs.declared.reading.Next.{Next}
use Rattle.json_line_workers.specs.Places.{IsEnd, IsLong, IsPiece, Spans, after_feed, next_lines, rest_from}
use Rattle.json_line_workers.specs.Pieces.{HandsOut, IsAfter, IsCut, IsNext, IsReading, NothingIf, Passed, Passes, HandsOutLong}
use Rattle.json_line_workers.proofs.PlaceLaws.{begins, free-end, free-feed}

pub if-ok : {T E : Type 0} (r : Result T E) (P Q : T → Type 0) → ((x : T) → P x → Q x) → IfOk r P → IfOk r Q
if-ok (Ok x) P Q goes is = goes x is
if-ok (Err e) P Q goes is = tt

-- ---- passing over

pub passed-more : (a b c : Option (List ℕ)) (bytes : List ℕ) (count more : ℕ) → Passed a b count → Consumes b c bytes → IsFirstByte (is_byte 10) bytes None → more ≡ count + length bytes
    → Passed a c more
passed-more a b c bytes count more (rest, free, consumed, counted) next none is = (
  rest ++ bytes,
  All-append (λ b. b ≢ 10) rest bytes free (free-all bytes none),
  Consumes-trans a b c rest bytes consumed next,
  is ∙ ap (λ n. n + length bytes) counted ∙ sym (length-append rest bytes),
)

pub passes-found : (a b c : Option (List ℕ)) (bytes held : List ℕ) (k count more : ℕ) → Passed a b count → Consumes b c bytes → IsFirstByte (is_byte 10) bytes (Some k)
    → held ≡ take (length bytes - (k + 1)) (drop (k + 1) bytes) → more ≡ count + (k + 1) → Passes a c more held false
passes-found a b c bytes held k count more (rest, free, consumed, counted) next found is sum =
    let low : k < length bytes = found.0.high in
    let behind : drop (k + 1) bytes ≡ held = sym (is ∙ take_rest bytes (k + 1)) in
    let split : bytes ≡ take k bytes ++ 10 ∷ held = split_at bytes k low (eqb-true _ 10 found.1) ∙ ap (λ l. take k bytes ++ 10 ∷ l) behind in
    let front : length (take k bytes) ≡ k = length-take-le k bytes (omega arith) in (
      rest ++ take k bytes,
      All-append (λ b. b ≢ 10) rest (take k bytes) free (free-before bytes k found.0.before (omega arith)),
      subst (λ (l : List ℕ). Consumes a c l) (ap (λ l. rest ++ l) split ∙ sym (append_assoc rest (take k bytes) (10 ∷ held)))
          (Consumes-trans a b c rest bytes consumed next),
      omega (arith, length-append rest (take k bytes)),
    )

-- ---- reading on

pub reading-more : (input : Option (List ℕ)) (old new : Held) (a b : Option (List ℕ)) → IsReading input old a → Takes a b old.bytes.items new.bytes.items → new.at ≡ old.at
    → IsCut new.whole new.bytes.items → old.at.inside ≡ false → IsReading input new b
reading-more input old new a b reading takes same cut outside = record {
  cut = cut;
  rest = rest input b reading.rest takes.consumed;
  inside = subst (λ (inside : Bool). NothingIf inside new.bytes.items) (sym (ap (λ (p : Place). p.inside) same ∙ outside)) tt;
}
  where
    rest : (i b : Option (List ℕ)) → IfSome i (λ all. (behind : List ℕ) × (a ≡ Some behind) × (drop old.at.at all ≡ old.bytes.items ++ behind)) → Consumes a b takes.taken
        → IfSome i (λ all. (behind : List ℕ) × (b ≡ Some behind) × (drop new.at.at all ≡ new.bytes.items ++ behind))
    rest None b was consumed = tt
    rest (Some all) None (behind, is, at) consumed = absurd (subst (λ (o : Option (List ℕ)). Consumes o None takes.taken) is consumed)
    rest (Some all) (Some ys) (behind, is, at) consumed =
        let more : behind ≡ takes.taken ++ ys = subst (λ (o : Option (List ℕ)). Consumes o (Some ys) takes.taken) is consumed in (
          ys,
          refl,
          ap (λ (p : Place). drop p.at all) same ∙ at ∙ ap (λ l. old.bytes.items ++ l) more ∙ sym (append_assoc old.bytes.items takes.taken ys)
              ∙ ap (λ l. l ++ ys) (sym takes.held),
        )

later : (all : List ℕ) (a b count : ℕ) → b ≡ a + count → drop b all ≡ drop count (drop a all)
later all a b count is = ap (λ n. drop n all) is ∙ sym (drop-drop count a all)

-- ---- whole lines

module _ (input : Option (List ℕ)) (most : ℕ) (old new : Held) (reader : Option (List ℕ)) (next : Next) (reading : IsReading input old reader) (outside : old.at.inside ≡ false) where
  module _ (count : ℕ) (last : Bool) (hands : HandsOut count last old new next) (within : count ≤ length old.bytes.items) where
    left-behind : (all behind : List ℕ) → drop old.at.at all ≡ old.bytes.items ++ behind → drop new.at.at all ≡ new.bytes.items ++ behind
    left-behind all behind at =
        later all old.at.at new.at.at count hands.at ∙ ap (λ l. drop count l) at ∙ drop-append-le count old.bytes.items behind within
        ∙ ap (λ l. l ++ behind) (sym hands.left)

    from-old : (all : List ℕ) → rest_from old.at all ≡ drop old.at.at all
    from-old all = ap (λ b. next_lines b (drop old.at.at all)) outside

    from-new : (all : List ℕ) → rest_from new.at all ≡ drop new.at.at all
    from-new all = ap (λ b. next_lines b (drop new.at.at all)) hands.inside

    next-left : IsReading input new reader
    next-left = record {
      cut = hands.cut;
      rest = rest input reading.rest;
      inside = subst (λ (inside : Bool). NothingIf inside new.bytes.items) (sym hands.inside) tt;
    }
      where
        rest : (i : Option (List ℕ)) → IfSome i (λ all. (behind : List ℕ) × (reader ≡ Some behind) × (drop old.at.at all ≡ old.bytes.items ++ behind))
            → IfSome i (λ all. (behind : List ℕ) × (reader ≡ Some behind) × (drop new.at.at all ≡ new.bytes.items ++ behind))
        rest None was = tt
        rest (Some all) (behind, is, at) = (behind, is, left-behind all behind at)

    whole-spans : (i : Option (List ℕ)) → IfSome i (λ all. (behind : List ℕ) × (reader ≡ Some behind) × (drop old.at.at all ≡ old.bytes.items ++ behind)) → count ≡ old.whole
        → Spans i old.at new.at (lines_of next.bytes.items)
    whole-spans None was is = tt
    whole-spans (Some all) (behind, r, at) is =
        let cut : lines_of (old.bytes.items ++ behind) ≡ lines_of (take count old.bytes.items) ++ lines_of (drop count old.bytes.items ++ behind) =
        subst (λ (n : ℕ). lines_of (old.bytes.items ++ behind) ≡ lines_of (take n old.bytes.items) ++ lines_of (drop n old.bytes.items ++ behind)) (sym is) (reading.cut.apart behind) in
        let there : drop count old.bytes.items ++ behind ≡ rest_from new.at all = ap (λ l. l ++ behind) (sym hands.left) ∙ sym (left-behind all behind at) ∙ sym (from-new all) in
        ap lines_of (from-old all ∙ at) ∙ cut ∙ ap (λ l. lines_of l ++ lines_of (drop count old.bytes.items ++ behind)) (sym hands.bytes)
        ∙ ap (λ l. lines_of next.bytes.items ++ lines_of l) there

    pub next-lines : last ≡ false → count ≡ old.whole → IsNext input most old.at new reader next
    next-lines more is = record {
      piece = subst (λ (long : Bool). IsPiece input most old.at new.at long next.bytes.items) (sym hands.long) (whole-spans input reading.rest is);
      after = subst (λ (last : Bool). IsAfter input new reader last) (sym (hands.last_is ∙ more)) next-left;
    }

    none-left : count ≡ length old.bytes.items → new.bytes.items ≡ []
    none-left is = hands.left ∙ ap (λ n. drop n old.bytes.items) is ∙ drop_all (length old.bytes.items) old.bytes.items (le_refl (length old.bytes.items))

    no-more : (all behind : List ℕ) → drop old.at.at all ≡ old.bytes.items ++ behind → count ≡ length old.bytes.items → behind ≡ [] → rest_from new.at all ≡ []
    no-more all behind at is none = from-new all ∙ left-behind all behind at ∙ ap (λ l. l ++ behind) (none-left is) ∙ none

    empty : (behind : List ℕ) → reader ≡ Some behind → IsAtEnd reader → behind ≡ []
    empty behind is end = subst (λ (r : Option (List ℕ)). IsAtEnd r) is end

    end-spans : (i : Option (List ℕ)) → IfSome i (λ all. (behind : List ℕ) × (reader ≡ Some behind) × (drop old.at.at all ≡ old.bytes.items ++ behind))
        → count ≡ length old.bytes.items → IsAtEnd reader → Spans i old.at new.at (lines_of next.bytes.items)
    end-spans None was is end = tt
    end-spans (Some all) (behind, r, at) is end =
        let none : behind ≡ [] = empty behind r end in
        let bytes : old.bytes.items ≡ next.bytes.items =
        sym (hands.bytes ∙ ap (λ n. take n old.bytes.items) is ∙ take_all (length old.bytes.items) old.bytes.items (le_refl (length old.bytes.items))) in
        ap lines_of (from-old all ∙ at ∙ ap (λ l. old.bytes.items ++ l) none ∙ append-nil old.bytes.items ∙ bytes)
        ∙ sym (append-nil (lines_of next.bytes.items))
        ∙ ap (λ ls. lines_of next.bytes.items ++ ls) (sym (ap lines_of (no-more all behind at is none) ∙ lines_of-nil))

    end-there : (i : Option (List ℕ)) → IfSome i (λ all. (behind : List ℕ) × (reader ≡ Some behind) × (drop old.at.at all ≡ old.bytes.items ++ behind))
        → count ≡ length old.bytes.items → IsAtEnd reader → IsEnd i new.at
    end-there None was is end = tt
    end-there (Some all) (behind, r, at) is end = ap lines_of (no-more all behind at is (empty behind r end)) ∙ lines_of-nil

    pub next-end : last ≡ true → count ≡ length old.bytes.items → IsAtEnd reader → IsNext input most old.at new reader next
    next-end ends is end = record {
      piece = subst (λ (long : Bool). IsPiece input most old.at new.at long next.bytes.items) (sym hands.long) (end-spans input reading.rest is end);
      after = subst (λ (last : Bool). IsAfter input new reader last) (sym (hands.last_is ∙ ends)) (end-there input reading.rest is end, end);
    }

  -- ---- a line that is too long

  module _ (hands : HandsOutLong old new next) (whole : old.whole ≡ 0) (long : most < length old.bytes.items) where
    free-held : IsFree old.bytes.items
    free-held = subst (λ (n : ℕ). IsFree (drop n old.bytes.items)) whole reading.cut.free

    long-at : (all behind : List ℕ) → drop old.at.at all ≡ old.bytes.items ++ behind → drop new.at.at all ≡ behind
    long-at all behind at = later all old.at.at new.at.at (length old.bytes.items) hands.at ∙ ap (λ l. drop (length old.bytes.items) l) at ∙ drop-append_seam old.bytes.items behind

    is-long : (i : Option (List ℕ)) → IfSome i (λ all. (behind : List ℕ) × (reader ≡ Some behind) × (drop old.at.at all ≡ old.bytes.items ++ behind)) → IsLong i most old.at new.at
    is-long None was = record { line = old.bytes.items; long = long; free = free-held; spans = tt }
    is-long (Some all) (behind, r, at) =
        let line = begins behind old.bytes.items free-held (omega arith) in
        record {
          line = old.bytes.items ++ line.rest;
          long = omega (arith, length-append old.bytes.items line.rest);
          free = line.free;
          spans = ap lines_of (ap (λ b. next_lines b (drop old.at.at all)) outside ∙ at) ∙ line.whole
              ∙ ap (λ l. (old.bytes.items ++ line.rest) ∷ lines_of l)
              (sym (ap (λ b. next_lines b (drop new.at.at all)) hands.inside ∙ ap after_feed (long-at all behind at)));
        }

    pub next-long : IsNext input most old.at new reader next
    next-long = record {
      piece = subst (λ (l : Bool). IsPiece input most old.at new.at l next.bytes.items) (sym hands.long) (is-long input reading.rest);
      after = subst (λ (last : Bool). IsAfter input new reader last) (sym hands.last_is) (record {
        cut = hands.cut;
        rest = rest input reading.rest;
        inside = subst (λ (b : Bool). NothingIf b new.bytes.items) (sym hands.inside) hands.left;
      });
    }
      where
        rest : (i : Option (List ℕ)) → IfSome i (λ all. (behind : List ℕ) × (reader ≡ Some behind) × (drop old.at.at all ≡ old.bytes.items ++ behind))
            → IfSome i (λ all. (behind : List ℕ) × (reader ≡ Some behind) × (drop new.at.at all ≡ new.bytes.items ++ behind))
        rest None was = tt
        rest (Some all) (behind, is, at) = (behind, is, long-at all behind at ∙ ap (λ l. l ++ behind) (sym hands.left))

-- ---- the rest of a line that is too long

module _ (input : Option (List ℕ)) (most : ℕ) (old new : Held) (a b : Option (List ℕ)) (next : Next) (count : ℕ) (reading : IsReading input old a) (inside : old.at.inside ≡ true)
    (at_is : new.at.at ≡ old.at.at + count) (outside : new.at.inside ≡ false) (long : next.long ≡ false) (none : next.bytes.items ≡ []) where
  nothing-held : old.bytes.items ≡ []
  nothing-held = subst (λ (i : Bool). NothingIf i old.bytes.items) inside reading.inside

  record Rest (all : List ℕ) (taken : List ℕ) (c : Option (List ℕ)) : Type 0 where
    behind : List ℕ
    reader : c ≡ Some behind
    at : drop old.at.at all ≡ taken ++ behind

  taken-rest : (all taken : List ℕ) (c : Option (List ℕ)) → (behind : List ℕ) × (a ≡ Some behind) × (drop old.at.at all ≡ old.bytes.items ++ behind) → Consumes a c taken → Rest all taken c
  taken-rest all taken None (behind, is, at) consumed = absurd (subst (λ (o : Option (List ℕ)). Consumes o None taken) is consumed)
  taken-rest all taken (Some ys) (behind, is, at) consumed =
      let more : behind ≡ taken ++ ys = subst (λ (o : Option (List ℕ)). Consumes o (Some ys) taken) is consumed in
      record { behind = ys; reader = refl; at = at ∙ ap (λ l. l ++ behind) nothing-held ∙ more }

  from-inside : (all : List ℕ) → rest_from old.at all ≡ after_feed (drop old.at.at all)
  from-inside all = ap (λ i. next_lines i (drop old.at.at all)) inside

  from-outside : (all : List ℕ) → rest_from new.at all ≡ drop new.at.at all
  from-outside all = ap (λ i. next_lines i (drop new.at.at all)) outside

  no-lines : (all : List ℕ) → rest_from old.at all ≡ rest_from new.at all → lines_of (rest_from old.at all) ≡ lines_of next.bytes.items ++ lines_of (rest_from new.at all)
  no-lines all same = ap lines_of same ∙ ap (λ ls. ls ++ lines_of (rest_from new.at all)) (sym (ap lines_of none ∙ lines_of-nil))

  module _ (rest held : List ℕ) (free : IsFree rest) (counted : count ≡ length rest + 1) (held_is : new.bytes.items ≡ held) where
    fed-at : (all behind : List ℕ) → drop old.at.at all ≡ (rest ++ 10 ∷ held) ++ behind → drop new.at.at all ≡ held ++ behind
    fed-at all behind at =
        let long : length (rest ++ 10 ∷ []) ≡ count = omega (arith, length-append rest (10 ∷ []), counted) in
        later all old.at.at new.at.at count at_is ∙ ap (λ l. drop count l) (at ∙ append_assoc rest (10 ∷ held) behind ∙ sym (append_assoc rest (10 ∷ []) (held ++ behind)))
        ∙ ap (λ n. drop n ((rest ++ 10 ∷ []) ++ (held ++ behind))) (sym long) ∙ drop-append_seam (rest ++ 10 ∷ []) (held ++ behind)

    fed-same : (all behind : List ℕ) → drop old.at.at all ≡ (rest ++ 10 ∷ held) ++ behind → rest_from old.at all ≡ rest_from new.at all
    fed-same all behind at =
        from-inside all ∙ ap after_feed (at ∙ append_assoc rest (10 ∷ held) behind) ∙ free-feed rest (held ++ behind) free ∙ sym (fed-at all behind at)
        ∙ sym (from-outside all)

  abbrev known : (i : Option (List ℕ)) → Option (List ℕ) → Type 0
  known i r = IfSome i (λ all. (behind : List ℕ) × (r ≡ Some behind) × (drop old.at.at all ≡ old.bytes.items ++ behind))

  fed-spans : (i : Option (List ℕ)) (rest : List ℕ) → IsFree rest → Consumes a b (rest ++ 10 ∷ new.bytes.items) → count ≡ length rest + 1 → known i a
      → Spans i old.at new.at (lines_of next.bytes.items)
  fed-spans None rest free consumed counted was = tt
  fed-spans (Some all) rest free consumed counted was =
      let r = taken-rest all (rest ++ 10 ∷ new.bytes.items) b was consumed in
      no-lines all (fed-same rest new.bytes.items free counted refl all r.behind r.at)

  fed-rest : (i : Option (List ℕ)) (rest : List ℕ) → IsFree rest → Consumes a b (rest ++ 10 ∷ new.bytes.items) → count ≡ length rest + 1 → known i a
      → IfSome i (λ all. (behind : List ℕ) × (b ≡ Some behind) × (drop new.at.at all ≡ new.bytes.items ++ behind))
  fed-rest None rest free consumed counted was = tt
  fed-rest (Some all) rest free consumed counted was =
      let r = taken-rest all (rest ++ 10 ∷ new.bytes.items) b was consumed in
      (r.behind, r.reader, fed-at rest new.bytes.items free counted refl all r.behind r.at)

  record Over (i : Option (List ℕ)) : Type 0 where
    spans : Spans i old.at new.at (lines_of next.bytes.items)
    end : IsEnd i new.at

  over : (i : Option (List ℕ)) (rest : List ℕ) → IsFree rest → Consumes a b rest → count ≡ length rest → IsAtEnd b → known i a → Over i
  over None rest free consumed counted end was = record { spans = tt; end = tt }
  over (Some all) rest free consumed counted end was =
      let r = taken-rest all rest b was consumed in
      let empty : r.behind ≡ [] = subst (λ (o : Option (List ℕ)). IsAtEnd o) r.reader end in
      let at : drop old.at.at all ≡ rest = r.at ∙ ap (λ l. rest ++ l) empty ∙ append-nil rest in
      let nothing : rest_from new.at all ≡ [] =
      from-outside all ∙ later all old.at.at new.at.at count at_is ∙ ap (λ l. drop count l) at ∙ ap (λ n. drop n rest) counted ∙ drop_all (length rest) rest (le_refl (length rest)) in
      let before : rest_from old.at all ≡ [] = from-inside all ∙ ap after_feed at ∙ free-end rest free in
      record { spans = no-lines all (before ∙ sym nothing); end = ap lines_of nothing ∙ lines_of-nil }

  after : (last : Bool) → Passes a b count new.bytes.items last → IsCut new.whole new.bytes.items → Spans input old.at new.at (lines_of next.bytes.items) × IsAfter input new b last
  after false (rest, free, consumed, counted) cut = (
    fed-spans input rest free consumed counted reading.rest,
    record {
      cut = cut;
      rest = fed-rest input rest free consumed counted reading.rest;
      inside = subst (λ (i : Bool). NothingIf i new.bytes.items) (sym outside) tt;
    },
  )
  after true ((rest, free, consumed, counted), end, none_held) cut =
      let o = over input rest free consumed counted end reading.rest in (o.spans, (o.end, end))

  pub next-passed : Passes a b count new.bytes.items next.last → IsCut new.whole new.bytes.items → IsNext input most old.at new b next
  next-passed passes cut =
      let both = after next.last passes cut in
      record { piece = subst (λ (l : Bool). IsPiece input most old.at new.at l next.bytes.items) (sym long) both.0; after = both.1 }

-- what is held of a read call after a line feed has no more bytes than the call may give
pub few_held : (k m n room : ℕ) (old new xs : List ℕ) → old ≡ []
    → length new ≤ length old + length (take k (drop m (take n xs))) → length xs ≡ room → length new ≤ room
few_held k m n room old new xs none few size =
    let first = length-take n xs in
    let rest = length-drop m (take n xs) in
    let last = length-take k (drop m (take n xs)) in
    let empty = ap length none in
    omega arith
