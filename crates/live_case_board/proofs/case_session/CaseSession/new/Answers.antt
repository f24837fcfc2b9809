use Rattle.std.proofs.Common.{◌≡◌, ◌≤◌, ◌∷◌, ◌++◌, [], None, arith, ap, replicate, length, sym, subst, ◌∙◌}
use Rattle.std.proofs.lemmas.List.{length-replicate, replicate-append-replicate}
use Rattle.model_history.specs.declared.limits.TheConstants.{MAX_OPERATIONS}
use Rattle.live_case_board.proofs.case_session.CaseSession.new.Goals as goal

pub loop-row-preserved : goal.loop-row-preserved
loop-row-preserved c =
    c.in_ok-push.ensures.items
    ∙ (ap (λ rows. rows ++ None ∷ []) c.loop-row.invariant ∙ replicate-append-replicate c.loop-row._row 1 None)

pub invariant_of-result : goal.invariant_of-result
invariant_of-result c =
    let within = c.loop-row.auto._row-end in
    let few = c.requires in
    let many : length c.loop-row.rows.items ≡ c.loop-row._row = ap length c.loop-row.invariant ∙ length-replicate c.loop-row._row None in
    subst (λ n. n ≤ MAX_OPERATIONS) (sym many) (omega arith)

pub returns : goal.returns
returns c =
    let within = c.loop-row.auto._row-end in
    let past = c.loop-row-test.false in
    let all : c.loop-row._row ≡ c.args.operations = omega arith in
    ap (λ rows. record { rows = rows; next = 0 }) (c.loop-row.invariant ∙ ap (λ n. replicate n None) all)
