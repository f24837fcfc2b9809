use Rattle.std.proofs.Common.{◌≡◌, ◌++◌, ◌∙◌, Bool, true, false, ℕ, List, ap, sym}
use Rattle.std.specs.Prelude.{IsTrue, not}
use Rattle.std.proofs.lemmas.Bool.Decides.{Decides-eqb}
use Rattle.std.proofs.lemmas.Slice.Eq.{starts_is}
use Rattle.app_explanations.specs.CoresInWords.{core_words}
use Rattle.app_explanations.proofs.finding_text.has_no_core.Goals as goal

not_both : (r : Bool) → IsTrue (not r) → r ≡ true → ⊥
not_both true other same = absurd cc
not_both false other same = absurd cc

pub returns : goal.returns
unfolding core_words
returns c = λ other text same.
    let begins = starts_is Decides-eqb c.as_bytes.result.now c.as_bytes-2.result.now c.starts_with.result c.starts_with.ensures.value in
    not_both c.starts_with.result other
    (begins.1 text (c.as_bytes.ensures.value ∙ same ∙ ap (λ (p : List ℕ). p ++ text) (sym c.as_bytes-2.ensures.value)))
