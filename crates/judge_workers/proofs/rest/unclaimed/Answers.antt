use Rattle.std.specs.Prelude.{◌≡◌, ◌⊎◌, ◌++◌, ◌∷◌, ◌<◌, ℕ, List, [], false, true, slice_index_or, IsTrue}
use Rattle.std.proofs.Common.{arith, inl, inr, sym, subst, ◌∙◌}
use Rattle.std.proofs.lemmas.List.{get_or_read_under}
use Rattle.judge_workers.specs.Numbers.{HasNumber}
use Rattle.judge_workers.proofs.NumberLists.{apart-more, below-more, has-first, has-pushed, unclaimed-more}
use Rattle.judge_workers.proofs.rest.unclaimed.Goals as goal
use Rattle.judge_workers.proofs.rest.unclaimed.Goals.{then-not-index+in_ok-push, else-not-index}

pub loop-number-preserved : goal.loop-number-preserved
loop-number-preserved c =
    let claimed : List ℕ = c.args.claimed.now in
    let n : ℕ = c.loop-number.number in
    let rest : List ℕ = c.loop-number.rest.items in
    let was = c.loop-number.invariant in
    let inside : n < c.args.count = grind arith in
    elim c.if-not-index.branch [
      | then-not-index+in_ok-push w ↦
          let more : List ℕ = w.push.new.self.items in
          let grown : more ≡ rest ++ n ∷ [] = w.in_ok-push.ensures.items in
          let read = get_or_read_under c.in_ok-are_there.are_there.items n c.args.count c.index.result.now false c.index.ensures inside
          (sym c.in_ok-are_there.ensures.size) in
          let lacks : ¬ HasNumber claimed n = λ has.
          let set = read ∙ (c.in_ok-are_there.ensures.each n inside).1 has in
          let clash : false ≡ true = sym w.if-not-index.true ∙ set in absurd cc in
          rw (w.rest-is) (record {
            below = subst (λ (xs : List ℕ). (g : ℕ) → HasNumber xs g → g < c.args.count) (sym grown)
                (below-more rest n c.args.count inside was.below);
            apart = subst (λ (xs : List ℕ). (g : ℕ) → HasNumber xs g → ¬ HasNumber claimed g) (sym grown)
                (apart-more claimed rest n lacks was.apart);
            all = unclaimed-more claimed rest more n
                (λ g has. subst (λ (xs : List ℕ). HasNumber xs g) (sym grown) (has-first rest (n ∷ []) g has))
                (inr (subst (λ (xs : List ℕ). HasNumber xs n) (sym grown) (has-pushed rest n))) was.all;
          })
      | else-not-index w ↦
          let there : IsTrue (slice_index_or c.in_ok-are_there.are_there.items n false) =
          sym (get_or_read_under c.in_ok-are_there.are_there.items n c.args.count c.index.result.now false c.index.ensures inside
          (sym c.in_ok-are_there.ensures.size)) ∙ w.if-not-index.false in
          rw (w.rest-is) (record {
            below = was.below;
            apart = was.apart;
            all = unclaimed-more claimed rest rest n (λ g has. has) (inl ((c.in_ok-are_there.ensures.each n inside).0 there)) was.all;
          })
    ]

pub returns-clause-all : goal.returns-clause-all
returns-clause-all c =
    let end : c.loop-number.number ≡ c.args.count = grind arith in
    subst (λ (n : ℕ). (g : ℕ) → g < n → HasNumber c.args.claimed.now g ⊎ HasNumber c.loop-number.rest.items g) end c.loop-number.invariant.all
