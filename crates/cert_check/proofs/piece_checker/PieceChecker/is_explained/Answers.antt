use Rattle.std.proofs.Math.Path.{ap₂}
use Rattle.std.proofs.Common.{Bool, ◌≡◌, ℕ, List, sym, ap, subst, ◌∙◌, subst₂}
use Rattle.std.specs.Prelude.{IsTrue, ◌↔◌}
use Rattle.std.proofs.lemmas.Result.{IfOk-weaker}
use Rattle.model_history.specs.History.{HistoryValue, IsOp}
use Rattle.order_causal.specs.Orders.{only, program_past}
use Rattle.cert_check.specs.Certificates.{IsArbitratedPiece, IsScheduledPiece, HasShapeOf, vectors_of}
use Rattle.cert_check.specs.declared.certificate.Certificate.TheVariants.{Cc, Cm, Ccv}
use Rattle.cert_check.proofs.PieceCheckers.{decided_as, held_is}
use Rattle.cert_check.proofs.piece_checker.PieceChecker.is_explained.Goals as goal

pub returns-in-Cc-clause-exact : goal.returns-in-Cc-clause-exact
returns-in-Cc-clause-exact g c =
    let answer = g.O.SeqObject.answer in
    let o = c.args.op in
    let h = c.history-h.result.now in
    let history : h ≡ c.args.self.now.0 = c.history-h.ensures ∙ ap (λ file. file.0) c.self.view_is in
    IfOk-weaker c.is_own_piece.result _ _
    (λ (yes : Bool) exactly certificate is.
    let held : Cc c.in-Cc.v c.in-Cc.schedules ≡ certificate = sym c.in-Cc.is ∙ held_is c.self.inside.file.now c.args.self.now c.self.view_is c.self.inside.certificate.now certificate c.self.invariant.certificate is in
    decided_as answer o yes h c.args.self.now.0 history (Cc c.in-Cc.v c.in-Cc.schedules) certificate held
    (subst (λ (xs : List ℕ). IsTrue yes ↔ IsScheduledPiece answer h c.in-Cc.v xs o (only o)) c.get.ensures exactly))
    c.is_own_piece.ensures.exact

pub returns-in-Cm-clause-exact : goal.returns-in-Cm-clause-exact
returns-in-Cm-clause-exact g c =
    let answer = g.O.SeqObject.answer in
    let o = c.args.op in
    let h = c.history-h.result.now in
    let history : h ≡ c.args.self.now.0 = c.history-h.ensures ∙ ap (λ file. file.0) c.self.view_is in
    let past : c.self.inside.past ≡ h = c.self.invariant.past ∙ sym c.history-h.ensures in
    IfOk-weaker c.is_past_piece.result _ _
    (λ (yes : Bool) exactly certificate is.
    let held : Cm c.in-Cm.v c.in-Cm.schedules ≡ certificate = sym c.in-Cm.is ∙ held_is c.self.inside.file.now c.args.self.now c.self.view_is c.self.inside.certificate.now certificate c.self.invariant.certificate is in
    let on_file = subst (λ (x : HistoryValue g.row.O-Start.Denot g.row.O-Call.Denot g.row.O-Ret.Denot). IsTrue yes ↔ IsScheduledPiece answer x c.in-Cm.v c.get-in-Cm.result.now o (program_past o)) past exactly in
    decided_as answer o yes h c.args.self.now.0 history (Cm c.in-Cm.v c.in-Cm.schedules) certificate held
    (subst (λ (xs : List ℕ). IsTrue yes ↔ IsScheduledPiece answer h c.in-Cm.v xs o (program_past o)) c.get-in-Cm.ensures on_file))
    c.is_past_piece.ensures.exact

pub returns-in-Ccv-clause-exact : goal.returns-in-Ccv-clause-exact
returns-in-Ccv-clause-exact g c =
    let answer = g.O.SeqObject.answer in
    let o = c.args.op in
    let h = c.history-h.result.now in
    let history : h ≡ c.args.self.now.0 = c.history-h.ensures ∙ ap (λ file. file.0) c.self.view_is in
    IfOk-weaker c.is_arbitrated_piece.result _ _
    (λ (yes : Bool) exactly certificate is.
    let held : Ccv c.in-Ccv.v c.in-Ccv.arbitration ≡ certificate = sym c.in-Ccv.is ∙ held_is c.self.inside.file.now c.args.self.now c.self.view_is c.self.inside.certificate.now certificate c.self.invariant.certificate is in
    decided_as answer o yes h c.args.self.now.0 history (Ccv c.in-Ccv.v c.in-Ccv.arbitration) certificate held
    (subst (λ (xs : List ℕ). IsTrue yes ↔ IsArbitratedPiece answer h c.in-Ccv.v xs o) c.sessions.ensures exactly))
    c.is_arbitrated_piece.ensures.exact

pub is_own_piece-requires-clause-walk : goal.is_own_piece-requires-clause-walk
is_own_piece-requires-clause-walk g c = λ _ _. c.self.invariant.walk ∙ ap₂ (λ h held. (h, vectors_of held)) (sym c.history-h.ensures) c.in-Cc.is

pub is_own_piece-requires-clause-shape : goal.is_own_piece-requires-clause-shape
is_own_piece-requires-clause-shape g c = λ _ _. (subst₂ (λ h held. HasShapeOf h held) (sym c.history-h.ensures) c.in-Cc.is c.self.invariant.shape).0

pub is_own_piece-requires-clause-is_op : goal.is_own_piece-requires-clause-is_op
is_own_piece-requires-clause-is_op g c = λ _ _. subst (λ h. IsOp h c.args.op) (sym (c.history-h.ensures ∙ ap (λ file. file.0) c.self.view_is)) c.requires.is_op

pub is_past_piece-requires-clause-walk : goal.is_past_piece-requires-clause-walk
is_past_piece-requires-clause-walk g c = λ _ _. c.self.invariant.walk ∙ ap₂ (λ h held. (h, vectors_of held)) (sym c.self.invariant.past) c.in-Cm.is

pub is_past_piece-requires-clause-shape : goal.is_past_piece-requires-clause-shape
is_past_piece-requires-clause-shape g c = λ _ _. (subst₂ (λ h held. HasShapeOf h held) (sym c.self.invariant.past) c.in-Cm.is c.self.invariant.shape).0

pub is_past_piece-requires-clause-is_op : goal.is_past_piece-requires-clause-is_op
is_past_piece-requires-clause-is_op g c = λ _ _. subst (λ h. IsOp h c.args.op) (sym (c.self.invariant.past ∙ ap (λ file. file.0) c.self.view_is)) c.requires.is_op

pub is_arbitrated_piece-requires-clause-shape : goal.is_arbitrated_piece-requires-clause-shape
is_arbitrated_piece-requires-clause-shape g c = λ _ _. (subst₂ (λ h held. HasShapeOf h held) (sym c.history-h.ensures) c.in-Ccv.is c.self.invariant.shape).0

pub is_arbitrated_piece-requires-clause-is_op : goal.is_arbitrated_piece-requires-clause-is_op
is_arbitrated_piece-requires-clause-is_op g c = λ _ _. subst (λ h. IsOp h c.args.op) (sym (c.history-h.ensures ∙ ap (λ file. file.0) c.self.view_is)) c.requires.is_op
