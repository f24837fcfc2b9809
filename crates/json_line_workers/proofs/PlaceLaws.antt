-- Lines from places of an input on.
use Rattle.std.proofs.Common.{◌≡◌, ◌≢◌, ◌<◌, ℕ, Bool, true, false, List, [], ◌∷◌, ◌++◌, Option, None, Some, IfSome, length, refl, sym, ap, subst, ◌∙◌, arith, append_assoc, append-nil, ne_eqb, eq-eqb, eqb-true}
use Rattle.std.specs.Prelude.{◌==◌}
use Rattle.std.proofs.lemmas.List.{length-append}
use Rattle.std.proofs.lemmas.List.Elements.{All-append, All-cons, All-head, All-nil, All-tail}
use Rattle.json_lines.specs.Lines.{begun_with, lines_of}
use Rattle.json_lines.specs.Steps.{IsFree}
use Rattle.json_lines.proofs.LineLaws.{first_line, last_line, lines_of-feed, lines_of-nil, lines_of-other}
use Rattle.json_line_workers.specs.declared.place.Place.{Place}
use Rattle.json_line_workers.specs.Places.{AreLines, Spans, after_feed, rest_from, start}

-- ---- the rest of a line

pub free-feed : (x more : List ℕ) → IsFree x → after_feed (x ++ 10 ∷ more) ≡ more
unfolding after_feed
free-feed [] more free = refl
free-feed (b ∷ x) more free =
    let other : b ≢ 10 = All-head (λ c. c ≢ 10) b x free in
    rw (ne_eqb b 10 other) (free-feed x more (All-tail (λ c. c ≢ 10) b x free))

pub free-end : (x : List ℕ) → IsFree x → after_feed x ≡ []
unfolding after_feed
free-end [] free = refl
free-end (b ∷ x) free =
    let other : b ≢ 10 = All-head (λ c. c ≢ 10) b x free in
    rw (ne_eqb b 10 other) (free-end x (All-tail (λ c. c ≢ 10) b x free))

after-feed : (b : ℕ) (more : List ℕ) → b ≡ 10 → after_feed (b ∷ more) ≡ more
unfolding after_feed
after-feed b more is = rw (eq-eqb b 10 is) refl

after-other : (b : ℕ) (more : List ℕ) → b ≢ 10 → after_feed (b ∷ more) ≡ after_feed more
unfolding after_feed
after-other b more other = rw (ne_eqb b 10 other) refl

-- a line that begins with a free text, and the lines after it
pub record Begins (x bytes : List ℕ) : Type 0 where
  pub rest : List ℕ
  pub free : IsFree (x ++ rest)
  pub whole : lines_of (x ++ bytes) ≡ (x ++ rest) ∷ lines_of (after_feed bytes)

begins-nothing : (x : List ℕ) → IsFree x → 0 < length x → Begins x []
unfolding after_feed
begins-nothing [] free some = absurd (omega arith)
begins-nothing (b ∷ x) free some = record {
  rest = [];
  free = subst IsFree (sym (append-nil (b ∷ x))) free;
  whole = ap lines_of (append-nil (b ∷ x)) ∙ last_line b x free ∙ ap (λ l. l ∷ []) (sym (append-nil (b ∷ x))) ∙ ap (λ ls. (b ∷ x ++ []) ∷ ls) (sym lines_of-nil);
}

begins-feed : (x : List ℕ) (b : ℕ) (more : List ℕ) → IsFree x → b ≡ 10 → Begins x (b ∷ more)
begins-feed x b more free is = record {
  rest = [];
  free = subst IsFree (sym (append-nil x)) free;
  whole = ap (λ c. lines_of (x ++ c ∷ more)) is ∙ first_line x more free ∙ ap (λ l. l ∷ lines_of more) (sym (append-nil x))
      ∙ ap (λ m. (x ++ []) ∷ lines_of m) (sym (after-feed b more is));
}

begins-other : (x : List ℕ) (b : ℕ) (more : List ℕ) → b ≢ 10 → Begins (x ++ b ∷ []) more → Begins x (b ∷ more)
begins-other x b more other next = record {
  rest = b ∷ next.rest;
  free = subst IsFree (append_assoc x (b ∷ []) next.rest) next.free;
  whole = ap lines_of (sym (append_assoc x (b ∷ []) more)) ∙ next.whole ∙ ap (λ l. l ∷ lines_of (after_feed more)) (append_assoc x (b ∷ []) next.rest)
      ∙ ap (λ m. (x ++ b ∷ next.rest) ∷ lines_of m) (sym (after-other b more other));
}

begins-by : (feed : Bool) (x : List ℕ) (b : ℕ) (more : List ℕ) → (b == 10) ≡ feed → IsFree x → (b ≢ 10 → Begins (x ++ b ∷ []) more) → Begins x (b ∷ more)
begins-by true x b more is free next = begins-feed x b more free (eqb-true b 10 is)
begins-by false x b more is free next =
    let other : b ≢ 10 = λ (e : b ≡ 10). let no : false ≡ true = sym is ∙ eq-eqb b 10 e in absurd cc in begins-other x b more other (next other)

pub begins : (bytes x : List ℕ) → IsFree x → 0 < length x → Begins x bytes
begins [] x free some = begins-nothing x free some
begins (b ∷ more) x free some =
    begins-by (b == 10) x b more refl free (λ (other : b ≢ 10).
    begins more (x ++ b ∷ []) (All-append (λ d. d ≢ 10) x (b ∷ []) free (All-cons (λ d. d ≢ 10) b [] other (All-nil (λ d. d ≢ 10)))) (omega (arith, length-append x (b ∷ []))))

-- ---- lines have no line feed

begun-free : (b : ℕ) (lines : List (List ℕ)) → b ≢ 10 → AreLines lines → AreLines (begun_with b lines)
begun-free b [] other free = All-cons IsFree (b ∷ []) [] (All-cons (λ c. c ≢ 10) b [] other (All-nil (λ c. c ≢ 10))) (All-nil IsFree)
begun-free b (line ∷ lines) other free =
    All-cons IsFree (b ∷ line) lines (All-cons (λ c. c ≢ 10) b line other (All-head IsFree line lines free)) (All-tail IsFree line lines free)

free-by : (feed : Bool) (b : ℕ) (more : List ℕ) → (b == 10) ≡ feed → AreLines (lines_of more) → AreLines (lines_of (b ∷ more))
free-by true b more is free =
    subst AreLines (sym (ap (λ c. lines_of (c ∷ more)) (eqb-true b 10 is) ∙ lines_of-feed more)) (All-cons IsFree [] (lines_of more) (All-nil (λ c. c ≢ 10)) free)
free-by false b more is free =
    let other : b ≢ 10 = λ (e : b ≡ 10). let no : false ≡ true = sym is ∙ eq-eqb b 10 e in absurd cc in
    subst AreLines (sym (lines_of-other b more other)) (begun-free b (lines_of more) other free)

pub lines-free : (bytes : List ℕ) → AreLines (lines_of bytes)
lines-free [] = subst AreLines (sym lines_of-nil) (All-nil IsFree)
lines-free (b ∷ more) = free-by (b == 10) b more refl (lines-free more)

-- a text of these lines
pub text_of : List (List ℕ) → List ℕ
text_of [] = []
text_of (line ∷ lines) = line ++ 10 ∷ text_of lines

pub lines-text : (lines : List (List ℕ)) → AreLines lines → lines_of (text_of lines) ≡ lines
unfolding text_of
lines-text [] free = lines_of-nil
lines-text (line ∷ lines) free =
    first_line line (text_of lines) (All-head IsFree line lines free) ∙ ap (λ ls. line ∷ ls) (lines-text lines (All-tail IsFree line lines free))

-- ---- lines between places

pub spans-none : (input : Option (List ℕ)) (place : Place) → Spans input place place []
spans-none None place = tt
spans-none (Some all) place = refl

pub spans-more : (input : Option (List ℕ)) (a b c : Place) (first second : List (List ℕ)) → Spans input a b first → Spans input b c second → Spans input a c (first ++ second)
spans-more None a b c first second one other = tt
spans-more (Some all) a b c first second one other =
    one ∙ ap (λ ls. first ++ ls) other ∙ sym (append_assoc first second (lines_of (rest_from c all)))

pub spans-front : (input : Option (List ℕ)) (a : Place) (lines front rest : List (List ℕ)) → lines ≡ front ++ rest → Spans input start a lines
    → IfSome input (λ bytes. (others : List (List ℕ)) × (lines_of bytes ≡ front ++ others))
spans-front None a lines front rest is spans = tt
spans-front (Some all) a lines front rest is spans =
    (rest ++ lines_of (rest_from a all), spans ∙ ap (λ ls. ls ++ lines_of (rest_from a all)) is ∙ append_assoc front rest (lines_of (rest_from a all)))
