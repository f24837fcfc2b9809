-- The start at one key is the table with its entry there, or the empty one.
use Rattle.std.proofs.Common.{sym, subst}
use Rattle.std.specs.Prelude.{◌==◌}
use Rattle.std.proofs.lemmas.Map.Entries.{All-lookup}
use Rattle.std.proofs.lemmas.Result.{IfOk-weaker}
use Rattle.model_objects.specs.Table.{IsTable}
use Rattle.model_objects.proofs.TableLemmas.{entry_is_table}
use Rattle.model_objects.proofs.keyed.KeyedSeqObject.start_for.Goals as goal

pub copy_start-requires : goal.copy_start-requires
copy_start-requires g c =
    let every = All-lookup g.O.SeqObject.is_start (λ k. k == c.args.call.now.key) c.args.start.now c.requires.each_start in
    rw (sym c.in-Some.ensures) at every

pub returns-in_ok-copy_start-in-Some-clause-start : goal.returns-in_ok-copy_start-in-Some-clause-start
returns-in_ok-copy_start-in-Some-clause-start g c =
    let plain = g.O.SeqObject.plain_start in
    let is_start = g.O.SeqObject.is_start in
    let one = entry_is_table plain is_start c.args.start.now c.args.call.now.key c.in-Some.value.now c.requires (sym c.in-Some.ensures) in
    let one_there = rw (sym c.in_ok-copy_start-in-Some.ensures) at one in
    IfOk-weaker c.of_entry.result _ _ (λ table entry. subst (λ t. IsTable plain is_start t) (sym entry) one_there) c.of_entry.ensures
