use Rattle.std.proofs.Common.{◌≡◌, ◌≤◌, length, ap, sym, ◌∙◌, subst, arith}
use Rattle.std.specs.Prelude.{map}
use Rattle.live_seals.specs.Seals.{AdvisesAll, HoldsAll, HoldsFound, IsSealOf, plan_after}
use Rattle.live_seals.specs.Steps.Tables.{advised, names}
use Rattle.live_seals.specs.Steps.Sealing.{AreLanesSealed, AreSealedSessions}
use Rattle.live_seals.proofs.Histories.{shared_are, history_is, sessions_are, holds_all, advises_all, holds_found, seal_is}
use Rattle.live_seals.proofs.lane_looker.LaneLooker.sealed.Goals as goal

pub compare_receipts-requires : goal.compare_receipts-requires
compare_receipts-requires g c =
    let ess = map (λ v. v.items) c.in_ok-sessions.sessions.items in
    let a = subst (λ v. AreLanesSealed g.O.SeqObject.matches v.lanes.cells v.receipts ess c.in_ok-sessions.lanes.items) (sym c.self.view_is) c.in_ok-sessions.ensures.sealed in
    shared_are g.O.SeqObject.matches c.self.inside.lanes.now c.self.inside.receipts.now ess c.in_ok-sessions.lanes.items a c.self.invariant.of

pub of-history-requires-after_bounds : goal.of-history-requires-after_bounds
of-history-requires-after_bounds g c =
    let ess = map (λ v. v.items) c.in_ok-sessions.sessions.items in
    let a = subst (λ v. AreLanesSealed g.O.SeqObject.matches v.lanes.cells v.receipts ess c.in_ok-sessions.lanes.items) (sym c.self.view_is) c.in_ok-sessions.ensures.sealed in
    let many : c.len-few.result ≡ length c.self.inside.lanes.now.cells = c.len-few.ensures.lanes in let few : c.len-few.result ≤ 16 = c.len-few.ensures.few in
    λ κs b. history_is g.O.SeqObject.matches c.self.inside.lanes.now c.self.inside.receipts.now ess c.in_ok-sessions.lanes.items a g.O.SeqObject.is_start c.in_ok-start.start (subst (λ s. g.O.SeqObject.is_start s) (sym c.in_ok-start.ensures) c.start.ensures.startable) (omega arith)

pub of-requires-clause-sessions : goal.of-requires-clause-sessions
of-requires-clause-sessions g c =
    let ess = map (λ v. v.items) c.in_ok-sessions.sessions.items in
    let a = subst (λ v. AreLanesSealed g.O.SeqObject.matches v.lanes.cells v.receipts ess c.in_ok-sessions.lanes.items) (sym c.self.view_is) c.in_ok-sessions.ensures.sealed in
    λ κs b. subst (λ h. AreSealedSessions g.O.SeqObject.matches h c.in_ok-sessions.lanes.items) (sym c.of-history.ensures) (sessions_are g.O.SeqObject.matches c.self.inside.lanes.now c.self.inside.receipts.now ess c.in_ok-sessions.lanes.items a c.in_ok-start.start)

pub returns-clause-holds : goal.returns-clause-holds
returns-clause-holds g c =
    let ess = map (λ v. v.items) c.in_ok-sessions.sessions.items in
    let a = subst (λ v. AreLanesSealed g.O.SeqObject.matches v.lanes.cells v.receipts ess c.in_ok-sessions.lanes.items) (sym c.self.view_is) c.in_ok-sessions.ensures.sealed in
    let all = holds_all g.O.SeqObject.matches c.self.inside.lanes.now c.self.inside.receipts.now ess c.in_ok-sessions.lanes.items a c.self.invariant.of c.in_ok-start.start c.compare_receipts.ensures in
    subst (λ rs. HoldsAll c.of.result.history rs) (ap (λ v. v.receipts) c.self.view_is) (subst (λ h. HoldsAll h c.self.inside.receipts.now) (sym (ap (λ s. s.history) c.of.ensures ∙ c.of-history.ensures)) all)

pub returns-clause-seal : goal.returns-clause-seal
returns-clause-seal g c =
    let ess = map (λ v. v.items) c.in_ok-sessions.sessions.items in
    let a = subst (λ v. AreLanesSealed g.O.SeqObject.matches v.lanes.cells v.receipts ess c.in_ok-sessions.lanes.items) (sym c.self.view_is) c.in_ok-sessions.ensures.sealed in
    let is = seal_is g.O.SeqObject.matches c.self.inside.lanes.now c.self.inside.receipts.now ess c.in_ok-sessions.lanes.items a c.in_ok-start.start (c.in_ok-start.ensures ∙ c.start.ensures.start) in
    subst (λ l. IsSealOf l c.of.result) (ap (λ v. v.lanes) c.self.view_is) (subst (λ s. IsSealOf c.self.inside.lanes.now s) (sym (c.of.ensures ∙ ap (λ h. record { history = h; cells = map names c.in_ok-sessions.lanes.items; advice = map advised c.in_ok-sessions.lanes.items }) c.of-history.ensures)) is)

pub returns-clause-found : goal.returns-clause-found
returns-clause-found g c = λ f.
    let ess = map (λ v. v.items) c.in_ok-sessions.sessions.items in
    subst (λ h. HoldsFound (plan_after c.args.self) h) (sym (ap (λ s. s.history) c.of.ensures ∙ c.of-history.ensures))
    (holds_found g.O.SeqObject.matches c.args.self.lanes c.args.self.receipts ess c.in_ok-sessions.lanes.items c.in_ok-sessions.ensures.sealed c.in_ok-start.start c.args.self.looks c.args.self.told c.args.self.cap c.in_ok-sessions.ensures.found f)

pub returns-clause-advises : goal.returns-clause-advises
returns-clause-advises g c =
    let ess = map (λ v. v.items) c.in_ok-sessions.sessions.items in
    let a = subst (λ v. AreLanesSealed g.O.SeqObject.matches v.lanes.cells v.receipts ess c.in_ok-sessions.lanes.items) (sym c.self.view_is) c.in_ok-sessions.ensures.sealed in
    let all = advises_all g.O.SeqObject.matches c.self.inside.lanes.now c.self.inside.receipts.now ess c.in_ok-sessions.lanes.items a c.self.invariant.of c.in_ok-start.start c.compare_receipts.ensures in
    subst (λ rs. AdvisesAll c.of.result rs) (ap (λ v. v.receipts) c.self.view_is)
    (subst (λ s. AdvisesAll s c.self.inside.receipts.now) (sym (c.of.ensures ∙ ap (λ h. record { history = h; cells = map names c.in_ok-sessions.lanes.items; advice = map advised c.in_ok-sessions.lanes.items }) c.of-history.ensures)) all)
