use Rattle.std.proofs.Common.{arith}
use Rattle.model_history.proofs.Counting.{many_within}
use Rattle.cert_make.proofs.advice.advice_in.Goals as goal

pub slice_bounds-result-end : goal.slice_bounds-result-end
slice_bounds-result-end g c =
    let within = many_within c.args.h.now c.args.session c.requires.exists in
    let all = c.requires.advised.one_each in
    let many = c.many_before-start.ensures.many in
    let here = c.len.ensures.count in
    omega arith
