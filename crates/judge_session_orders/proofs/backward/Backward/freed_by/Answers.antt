use Rattle.std.specs.Prelude.{◌≢◌, ℕ}
use Rattle.std.proofs.Common.{rules, ap, sym, subst, refl, ◌∙◌}
use Rattle.model_history.specs.declared.op_id.OpId.{OpId}
use Rattle.model_history.specs.History.{number}
use Rattle.order_memory.specs.Memory.{MemoryHistory, initial}
use Rattle.order_memory.specs.Relations.{ReadsFrom}
use Rattle.order_memory.proofs.MemoryLaws.{same_read, write-of_history, write-or_read}
use Rattle.judge_memory.specs.Parts.{IsPart}
use Rattle.judge_memory.specs.declared.part.Part.{Part}
use Rattle.judge_memory.specs.declared.part.Part.TheVariants as parts
use Rattle.order_memory.specs.Memory.{Writes}
use Rattle.judge_session_orders.proofs.Counts.{source-once}
use Rattle.judge_session_orders.proofs.backward.Backward.freed_by.Goals as goal

-- only a read of a written value has a source
unsourced : (h : MemoryHistory) (p w : OpId) (part : Part) → ((n : ℕ) → part ≢ parts.SourcedRead n) → IsPart h p part → ¬ ReadsFrom h w p
unsourced h p w parts.Write other (y, u, writes) found = write-or_read h p p y u found.0 found.1 writes found.3 refl
unsourced h p w (parts.SourcedRead n) other is found = other n refl
unsourced h p w parts.InitialRead other (x, reads) found =
    let same = same_read h p found.0 found.1 x (initial h x) found.3 reads in found.4 (same.1 ∙ ap (initial h) (sym same.0))
unsourced h p w parts.ThinAirRead other (y, u, reads, apart, unwritten) found =
    let same = same_read h p found.0 found.1 y u found.3 reads in
    unwritten w (subst (λ (z : ℕ). Writes h w z u) same.0 (subst (λ (z : ℕ). Writes h w found.0 z) same.1 found.2))
unsourced h p w parts.UnknownRead other (unwrites, unreads) found = unreads found.0 found.1 found.3

pub returns-in-SourcedRead-clause-freed : goal.returns-in-SourcedRead-clause-freed
returns-in-SourcedRead-clause-freed c p part w found is_open last =
    let h = c.args.index.now.history in
    let source = subst (IsPart h p) c.in-SourcedRead.is part in
    let one = source-once h c.requires.on_its_way.known.distinct w source.0 p found source.1 in
    c.freed.ensures.freed w (write-of_history h w found.0 found.1 found.2) (ap (number h) one ∙ source.2) is_open last

pub returns : goal.returns
returns c = record {
  below = search rules;
  freed = λ p part w found is_open last.
      absurd (unsourced c.args.index.now.history p w c.args.part (λ n same. c.in_default.not-SourcedRead n same) part found);
}
