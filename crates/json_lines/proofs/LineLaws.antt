-- The lines of texts behind one another.
use Rattle.std.proofs.Common.{◌≡◌, ◌≢◌, ℕ, List, [], ◌∷◌, ◌++◌, refl, sym, ap, ◌∙◌, append-nil, ne_eqb, length, arith}
use Rattle.std.specs.Prelude.{◌==◌, Bool, true, false}
use Rattle.std.proofs.lemmas.List.Elements.{All-head, All-tail}
use Rattle.json_lines.specs.Lines.{begun_with, lines_of}
use Rattle.json_lines.specs.Steps.{IsFree}

pub lines_of-nil : lines_of [] ≡ []
unfolding lines_of
lines_of-nil = refl

pub lines_of-feed : (more : List ℕ) → lines_of (10 ∷ more) ≡ [] ∷ lines_of more
unfolding lines_of
lines_of-feed more = refl

pub lines_of-other : (b : ℕ) (more : List ℕ) → b ≢ 10 → lines_of (b ∷ more) ≡ begun_with b (lines_of more)
unfolding lines_of
lines_of-other b more other =
    rw (ne_eqb b 10 other)

-- a free text that a line feed ends is one line
pub first_line : (x more : List ℕ) → IsFree x → lines_of (x ++ 10 ∷ more) ≡ x ∷ lines_of more
first_line [] more free = lines_of-feed more
first_line (b ∷ x) more free =
    let other : b ≢ 10 = All-head (λ c. c ≢ 10) b x free in
    lines_of-other b (x ++ 10 ∷ more) other ∙ ap (begun_with b) (first_line x more (All-tail (λ c. c ≢ 10) b x free))

-- and so is one that nothing ends, where it has bytes
pub last_line : (b : ℕ) (x : List ℕ) → IsFree (b ∷ x) → lines_of (b ∷ x) ≡ (b ∷ x) ∷ []
last_line b [] free =
    let other : b ≢ 10 = All-head (λ c. c ≢ 10) b [] free in
    lines_of-other b [] other ∙ ap (begun_with b) lines_of-nil
last_line b (c ∷ x) free =
    let other : b ≢ 10 = All-head (λ c. c ≢ 10) b (c ∷ x) free in
    lines_of-other b (c ∷ x) other ∙ ap (begun_with b) (last_line c x (All-tail (λ c. c ≢ 10) b (c ∷ x) free))

-- a text that ends in a line feed has a first line, whatever stands behind it
pub record Ends (x : List ℕ) : Type 0 where
  pub line : List ℕ
  pub lines : List (List ℕ)
  pub whole : (more : List ℕ) → lines_of (x ++ 10 ∷ more) ≡ line ∷ (lines ++ lines_of more)

ends_more : (b : ℕ) (x : List ℕ) (feed : Bool) → (b == 10) ≡ feed → Ends x → Ends (b ∷ x)
unfolding lines_of
ends_more b x true is ends = record {
  line = [];
  lines = ends.line ∷ ends.lines;
  whole = λ more. rw is (ap (λ ls. [] ∷ ls) (ends.whole more));
}
ends_more b x false is ends = record {
  line = b ∷ ends.line;
  lines = ends.lines;
  whole = λ more. rw is (ap (begun_with b) (ends.whole more));
}

ends_all : (x : List ℕ) → Ends x
ends_all [] = record { line = []; lines = []; whole = lines_of-feed }
ends_all (b ∷ x) = ends_more b x (b == 10) refl (ends_all x)

-- what stands before a line feed, and what stands behind it
pub lines_of-cut : (x more : List ℕ) → lines_of (x ++ 10 ∷ more) ≡ lines_of (x ++ 10 ∷ []) ++ lines_of more
lines_of-cut x more =
    let ends = ends_all x in
    let front : lines_of (x ++ 10 ∷ []) ≡ ends.line ∷ ends.lines = ends.whole [] ∙ ap (λ ls. ends.line ∷ (ends.lines ++ ls)) lines_of-nil ∙ ap (λ ls. ends.line ∷ ls) (append-nil ends.lines) in
    ends.whole more ∙ ap (λ ls. ls ++ lines_of more) (sym front)

-- a line that begins with a free text
pub record Begins (x more : List ℕ) : Type 0 where
  pub rest : List ℕ
  pub others : List (List ℕ)
  pub whole : lines_of (x ++ more) ≡ (x ++ rest) ∷ others

begins_one : (b : ℕ) (more : List ℕ) (lines : List (List ℕ)) → lines_of (b ∷ more) ≡ begun_with b lines → Begins (b ∷ []) more
begins_one b more [] is = record { rest = []; others = []; whole = is }
begins_one b more (l ∷ ls) is = record { rest = l; others = ls; whole = is }

pub begins : (b : ℕ) (x more : List ℕ) → IsFree (b ∷ x) → Begins (b ∷ x) more
begins b [] more free = begins_one b more (lines_of more) (lines_of-other b more (All-head (λ c. c ≢ 10) b [] free))
begins b (c ∷ x) more free =
    let other : b ≢ 10 = All-head (λ c. c ≢ 10) b (c ∷ x) free in
    let rest = begins c x more (All-tail (λ c. c ≢ 10) b (c ∷ x) free) in
    record {
      rest = rest.rest;
      others = rest.others;
      whole = lines_of-other b ((c ∷ x) ++ more) other ∙ ap (begun_with b) rest.whole;
    }

pub no_line : (x : List ℕ) → length x ≡ 0 → lines_of x ≡ []
no_line [] none = lines_of-nil
no_line (b ∷ x) none = absurd (omega arith)
