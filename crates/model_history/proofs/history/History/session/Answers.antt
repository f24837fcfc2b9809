use Rattle.std.proofs.Common.{◌≡◌, subst, List, Option, sym, ◌∙◌}
use Rattle.model_history.specs.History.{session, IsSession}
use Rattle.model_history.proofs.Entries.{row_session}
use Rattle.model_history.proofs.history.History.session.Goals as goal

pub returns-clause-operations : goal.returns-clause-operations
returns-clause-operations g c =
    c.deref.ensures.value
    ∙ row_session (λ v. v.items) c.self.inside.start c.self.inside.sessions.items c.args.self.now c.args.s c.self.view_is c.requires c.index.result.now
    c.index.ensures

pub returns-clause-is_session : goal.returns-clause-is_session
returns-clause-is_session g c =
    let e : c.deref.result.now ≡ session c.args.self.now c.args.s = returns-clause-operations g c in
    let P : List (g.row.O-Call.Denot × Option g.row.O-Ret.Denot) → Type 0 = λ es. IsSession g.O.SeqObject.matches es in
    subst P (sym e) (rw (← c.self.view_is) (c.self.invariant.each c.args.s))
