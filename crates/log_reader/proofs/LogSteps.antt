-- Lines of a log, one after the other.
use Rattle.std.proofs.Common.{◌≡◌, ℕ, ◌+◌, List, [], ◌∷◌, ◌++◌, length, refl, sym, ap, subst, ◌∙◌, arith, append_assoc}
use Rattle.std.proofs.lemmas.List.Elements.{All-nil, All-push}
use Rattle.log_reader.specs.Logs.{BeginsBy, Follow, IsFree, Log, Takes, ended_lines, no_log}

-- ---- texts of lines

pub ended-push : (lines : List (List ℕ)) (line rest : List ℕ) → ended_lines (lines ++ line ∷ []) ++ rest ≡ ended_lines lines ++ (line ++ 10 ∷ rest)
ended-push [] line rest = append_assoc line (10 ∷ []) rest
ended-push (first ∷ lines) line rest =
    append_assoc first (10 ∷ ended_lines (lines ++ line ∷ [])) rest ∙ ap (λ l. first ++ 10 ∷ l) (ended-push lines line rest)
    ∙ sym (append_assoc first (10 ∷ ended_lines lines) (line ++ 10 ∷ rest))

-- ---- what lines do

pub follow-none : (n : ℕ) (log : Log) → Follow n log [] log
unfolding Follow
follow-none n log = refl

pub follow-push : (n : ℕ) (a b c : Log) (lines : List (List ℕ)) (line : List ℕ) → Follow n a lines b → Takes (n + length lines) b line c → Follow n a (lines ++ line ∷ []) c
unfolding Follow
follow-push n a b c [] line same takes =
    let at : n + 0 ≡ n = omega arith in
    (c, subst (λ (m : ℕ). Takes m a line c) at (subst (λ (l : Log). Takes (n + 0) l line c) same takes), refl)
follow-push n a b c (first ∷ lines) line (between, takes_first, follow) takes =
    let at : n + length (first ∷ lines) ≡ (n + 1) + length lines = omega arith in
    (between, takes_first, follow-push (n + 1) between b c lines line follow (subst (λ (m : ℕ). Takes m b line c) at takes))

-- ---- the lines of a text that line feeds end

pub begins-nothing : BeginsBy [] [] no_log []
begins-nothing = record { whole = refl; free = All-nil IsFree; follow = follow-none 1 no_log }

-- more of the text is known
pub begins-more : (text : List ℕ) (lines : List (List ℕ)) (log : Log) (rest more : List ℕ) → BeginsBy text lines log rest → BeginsBy (text ++ more) lines log (rest ++ more)
begins-more text lines log rest more begins = record {
  whole = ap (λ l. l ++ more) begins.whole ∙ append_assoc (ended_lines lines) rest more;
  free = begins.free;
  follow = begins.follow;
}

-- one line more
pub begins-push : (text : List ℕ) (lines : List (List ℕ)) (before after : Log) (line rest : List ℕ) → BeginsBy text lines before (line ++ 10 ∷ rest) → IsFree line
    → Takes (1 + length lines) before line after → BeginsBy text (lines ++ line ∷ []) after rest
begins-push text lines before after line rest begins free takes = record {
  whole = begins.whole ∙ sym (ended-push lines line rest);
  free = All-push IsFree lines line begins.free free;
  follow = follow-push 1 no_log before after lines line begins.follow takes;
}
