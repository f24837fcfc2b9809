-- What comes of answers to lines behind one another.
use Rattle.std.proofs.Common.{◌≡◌, ℕ, List, [], ◌∷◌, ◌++◌, refl, sym, ap, subst, ◌∙◌, append_assoc, append-nil}
use Rattle.json_lines.specs.declared.outcome.Outcome.{Outcome}
use Rattle.json_lines.specs.declared.outcome.Outcome.TheVariants.{Met, Unknown, Excluded, Refused}
use Rattle.json_lines.specs.Lines.{AreAnswered, Front, Says, ended}
use Rattle.json_lines.specs.Outcomes.{worse}

pub worse-met : (a : Outcome) → worse a Met ≡ a
worse-met Met = refl
worse-met Unknown = refl
worse-met Excluded = refl
worse-met Refused = refl

pub worse-assoc : (a b c : Outcome) → worse (worse a b) c ≡ worse a (worse b c)
worse-assoc Met b c = refl
worse-assoc Unknown Met c = refl
worse-assoc Unknown Unknown Met = refl
worse-assoc Unknown Unknown Unknown = refl
worse-assoc Unknown Unknown Excluded = refl
worse-assoc Unknown Unknown Refused = refl
worse-assoc Unknown Excluded Met = refl
worse-assoc Unknown Excluded Unknown = refl
worse-assoc Unknown Excluded Excluded = refl
worse-assoc Unknown Excluded Refused = refl
worse-assoc Unknown Refused Met = refl
worse-assoc Unknown Refused Unknown = refl
worse-assoc Unknown Refused Excluded = refl
worse-assoc Unknown Refused Refused = refl
worse-assoc Excluded Met c = refl
worse-assoc Excluded Unknown Met = refl
worse-assoc Excluded Unknown Unknown = refl
worse-assoc Excluded Unknown Excluded = refl
worse-assoc Excluded Unknown Refused = refl
worse-assoc Excluded Excluded Met = refl
worse-assoc Excluded Excluded Unknown = refl
worse-assoc Excluded Excluded Excluded = refl
worse-assoc Excluded Excluded Refused = refl
worse-assoc Excluded Refused Met = refl
worse-assoc Excluded Refused Unknown = refl
worse-assoc Excluded Refused Excluded = refl
worse-assoc Excluded Refused Refused = refl
worse-assoc Refused Met c = refl
worse-assoc Refused Unknown Met = refl
worse-assoc Refused Unknown Unknown = refl
worse-assoc Refused Unknown Excluded = refl
worse-assoc Refused Unknown Refused = refl
worse-assoc Refused Excluded Met = refl
worse-assoc Refused Excluded Unknown = refl
worse-assoc Refused Excluded Excluded = refl
worse-assoc Refused Excluded Refused = refl
worse-assoc Refused Refused Met = refl
worse-assoc Refused Refused Unknown = refl
worse-assoc Refused Refused Excluded = refl
worse-assoc Refused Refused Refused = refl

module _ (says : Says) where
  pub answered-none : AreAnswered says [] [] Met
  unfolding AreAnswered
  answered-none = (refl, refl)

  pub answered-one : (line text : List ℕ) (outcome : Outcome) → says line text outcome → AreAnswered says (line ∷ []) (ended text) outcome
  unfolding AreAnswered
  answered-one line text outcome said = (text, [], outcome, Met, said, (refl, refl), sym (append-nil (ended text)), sym (worse-met outcome))

  pub answered-both : (lines more : List (List ℕ)) (text rest : List ℕ) (one other : Outcome) → AreAnswered says lines text one → AreAnswered says more rest other
      → AreAnswered says (lines ++ more) (text ++ rest) (worse one other)
  unfolding AreAnswered
  answered-both [] more text rest one other first second =
      subst (λ (t : List ℕ). AreAnswered says more (t ++ rest) (worse one other)) (sym first.0)
      (subst (λ (o : Outcome). AreAnswered says more rest (worse o other)) (sym first.1) second)
  answered-both (line ∷ lines) more text rest one other first second =
      let (front, others, o, p, said, later, text_is, outcome_is) = first in (
        front,
        others ++ rest,
        o,
        worse p other,
        said,
        answered-both lines more others rest p other later second,
        ap (λ t. t ++ rest) text_is ∙ append_assoc (ended front) others rest,
        ap (λ q. worse q other) outcome_is ∙ worse-assoc o p other,
      )

  -- ---- some first lines

  pub front-start : (all : List (List ℕ)) → Front says all all [] Met
  front-start all = record { lines = []; split = refl; answered = answered-none }

  pub front-one : (all : List (List ℕ)) (line : List ℕ) (rest : List (List ℕ)) (text said : List ℕ) (outcome one : Outcome) → Front says all (line ∷ rest) text outcome
      → says line said one → Front says all rest (text ++ ended said) (worse outcome one)
  front-one all line rest text said outcome one front is = record {
    lines = front.lines ++ line ∷ [];
    split = front.split ∙ sym (append_assoc front.lines (line ∷ []) rest);
    answered = answered-both front.lines (line ∷ []) text (ended said) outcome one front.answered (answered-one line said one is);
  }

  pub front-done : (all : List (List ℕ)) (text : List ℕ) (outcome : Outcome) → Front says all [] text outcome → AreAnswered says all text outcome
  front-done all text outcome front =
      subst (λ (lines : List (List ℕ)). AreAnswered says lines text outcome) (sym (front.split ∙ append-nil front.lines)) front.answered
