-- Whole lines among what is held.
use Rattle.std.proofs.Common.{◌≡◌, ◌≢◌, ◌<◌, ◌+◌, ℕ, List, [], ◌∷◌, ◌++◌, Some, None, length, take, drop, refl, sym, ap, subst, ◌∙◌, arith, append_assoc, eqb-true, slice_index}
use Rattle.std.proofs.lemmas.List.{length-append, length-drop, drop-append-le, drop-drop, drop_at, get_or-append-add, get_or-drop, take-append-le, take_more}
use Rattle.std.proofs.lemmas.List.Elements.{All-append, All-from_get_or, All-nil}
use Rattle.memchr.specs.Find.{IsLastByte, is_byte}
use Rattle.json_lines.specs.Lines.{lines_of}
use Rattle.json_lines.specs.Steps.{IsFree}
use Rattle.json_lines.proofs.FeedLaws.{NoFeed, free-all, other_at, split_at}
use Rattle.json_lines.proofs.LineLaws.{lines_of-cut, lines_of-nil}
use Rattle.json_line_workers.specs.Pieces.{IsCut}

pub free-behind : (xs : List ℕ) (n : ℕ) → NoFeed xs n (length xs) → IsFree (drop n xs)
free-behind xs n none =
    All-from_get_or (λ b. b ≢ 10) (drop n xs) 0 (λ i l.
    let at : n + i < length xs = omega (arith, length-drop n xs) in
    subst (λ (b : ℕ). b ≢ 10) (sym (get_or-drop n xs i 0)) (other_at xs n (length xs) (n + i) none (omega arith) at))

pub cut_at : (xs more : List ℕ) (k : ℕ) → k < length xs → slice_index xs k ≡ 10
    → lines_of (xs ++ more) ≡ lines_of (take (k + 1) xs) ++ lines_of (drop (k + 1) xs ++ more)
cut_at xs more k l is =
    let front : take k xs ++ 10 ∷ [] ≡ take (k + 1) xs = sym (take_more xs k 0 l ∙ ap (λ b. take k xs ++ b ∷ []) is) in
    ap (λ ys. lines_of (ys ++ more)) (split_at xs k l is) ∙ ap lines_of (append_assoc (take k xs) (10 ∷ drop (k + 1) xs) more)
    ∙ lines_of-cut (take k xs) (drop (k + 1) xs ++ more) ∙ ap (λ ys. lines_of ys ++ lines_of (drop (k + 1) xs ++ more)) front

pub cut-free : (xs : List ℕ) → IsFree xs → IsCut 0 xs
cut-free xs free = record {
  within = omega arith;
  apart = λ more. ap (λ ls. ls ++ lines_of (xs ++ more)) (sym lines_of-nil);
  free = free;
}

pub cut-nothing : IsCut 0 []
cut-nothing = cut-free [] (All-nil (λ b. b ≢ 10))

pub cut-kept : (whole : ℕ) (xs more : List ℕ) → IsCut whole xs → IsFree more → IsCut whole (xs ++ more)
cut-kept whole xs more cut free =
    let front : take whole (xs ++ more) ≡ take whole xs = take-append-le whole xs more cut.within in
    let behind : drop whole (xs ++ more) ≡ drop whole xs ++ more = drop-append-le whole xs more cut.within in
    record {
      within = let w = cut.within in omega (arith, length-append xs more);
      apart = λ rest.
          ap lines_of (append_assoc xs more rest) ∙ cut.apart (more ++ rest) ∙ ap (λ ys. lines_of (take whole xs) ++ lines_of ys) (sym (append_assoc (drop whole xs) more rest))
          ∙ ap (λ ys. lines_of ys ++ lines_of (drop whole xs ++ more ++ rest)) (sym front)
          ∙ ap (λ ys. lines_of (take whole (xs ++ more)) ++ lines_of (ys ++ rest)) (sym behind);
      free = subst IsFree (sym behind) (All-append (λ b. b ≢ 10) (drop whole xs) more cut.free free);
    }

pub cut-moved : (xs more : List ℕ) (k : ℕ) → k < length more → slice_index more k ≡ 10 → NoFeed more (k + 1) (length more) → IsCut (length xs + k + 1) (xs ++ more)
cut-moved xs more k l is none =
    let at : slice_index (xs ++ more) (length xs + k) ≡ 10 = get_or-append-add xs more k 0 ∙ is in
    let small : length xs + k < length (xs ++ more) = omega (arith, length-append xs more) in
    let behind : drop (length xs + (k + 1)) (xs ++ more) ≡ drop (k + 1) more =
    sym (drop-drop (k + 1) (length xs) (xs ++ more)) ∙ ap (drop (k + 1)) (drop_at xs more (length xs) refl) in
    let same : length xs + (k + 1) ≡ length xs + k + 1 = omega arith in
    record {
      within = omega arith;
      apart = λ rest. cut_at (xs ++ more) rest (length xs + k) small at;
      free = subst IsFree (sym behind ∙ ap (λ n. drop n (xs ++ more)) same) (free-behind more (k + 1) none);
    }

pub cut-found : (xs more : List ℕ) (k : ℕ) → IsLastByte (is_byte 10) more (Some k) → IsCut (length xs + k + 1) (xs ++ more)
cut-found xs more k found = cut-moved xs more k found.0.high (eqb-true (slice_index more k) 10 found.1) found.0.after

pub cut-unfound : (whole : ℕ) (xs more : List ℕ) → IsCut whole xs → IsLastByte (is_byte 10) more None → IsCut whole (xs ++ more)
cut-unfound whole xs more cut none = cut-kept whole xs more cut (free-all more none)
