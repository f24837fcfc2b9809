use Rattle.std.proofs.Common.{◌≡◌, Some, sym, ◌∙◌}
use Rattle.judge_reader.specs.Steps.Scalars.{key_in}
use Rattle.judge_reader.specs.declared.scalar.Scalar.TheVariants as scalars
use Rattle.judge_reader.proofs.operation.push_spelled.Goals as goal

pub returns-in-Write-Number-None-clause-taken : goal.returns-in-Write-Number-None-clause-taken
returns-in-Write-Number-None-clause-taken c =
    let key : key_in c.args.key ≡ Some c.in-Some.key = sym c.key_of.ensures ∙ c.in-Some.is in
    rw (key, c.in-Write-Number-None.is-0, c.in-Write-Number-None.is-1, c.in-Write-Number-None.is-2) c.push_known.ensures.taken

pub returns-in-Write-Number-Some-Unknown-clause-taken : goal.returns-in-Write-Number-Some-Unknown-clause-taken
returns-in-Write-Number-Some-Unknown-clause-taken c =
    let key : key_in c.args.key ≡ Some c.in-Some.key = sym c.key_of.ensures ∙ c.in-Some.is in
    let second : c.args.second ≡ Some scalars.Unknown = cc in
    rw (key, c.in-Write-Number-Some-Unknown.is-0, c.in-Write-Number-Some-Unknown.is-1, second) c.push_unknown.ensures.taken

pub returns-in-Read-Number-None-clause-taken : goal.returns-in-Read-Number-None-clause-taken
returns-in-Read-Number-None-clause-taken c =
    let key : key_in c.args.key ≡ Some c.in-Some.key = sym c.key_of.ensures ∙ c.in-Some.is in
    rw (key, c.in-Read-Number-None.is-0, c.in-Read-Number-None.is-1, c.in-Read-Number-None.is-2) c.push_known-in-Read-Number-None.ensures.taken

pub returns-in-Read-Unknown-None-clause-taken : goal.returns-in-Read-Unknown-None-clause-taken
returns-in-Read-Unknown-None-clause-taken c =
    let key : key_in c.args.key ≡ Some c.in-Some.key = sym c.key_of.ensures ∙ c.in-Some.is in
    rw (key, c.in-Read-Unknown-None.is-0, c.in-Read-Unknown-None.is-1, c.in-Read-Unknown-None.is-2) c.push_unknown-in-Read-Unknown-None.ensures.taken
