use Rattle.std.proofs.Common.{◌≡◌, ◌⊎◌, ◌∙◌, ℕ, sym, subst, List, inl, inr, ⊎_elim}
use Rattle.log_choices.specs.ForcedSteps.{IsAnswered, IsPast, IsPastFrom}
use Rattle.log_choices.proofs.ForcedPasses.{past-here}
use Rattle.log_choices.proofs.forced_pass.advance.Goals as goal
use Rattle.log_choices.proofs.forced_pass.advance.Goals.{in-ReadOf+in_ok-look_back-in-ReadOf, in_default+in_ok-keep-in_default}

pub look_back-requires-clause-past : goal.look_back-requires-clause-past
look_back-requires-clause-past c = past-here c.args.timed.now.in_time c.args.timed.now.log.now c.args.call.now c.args.past.now c.requires.call c.requires.past

pub keep-requires : goal.keep-requires
keep-requires c = record {
  plan = c.requires.plan;
  past = past-here c.args.timed.now.in_time c.args.timed.now.log.now c.args.call.now c.args.past.now c.requires.call c.requires.past;
}

pub go_past-requires-clause-here : goal.go_past-requires-clause-here
go_past-requires-clause-here c =
    let es = c.args.timed.now.log.now in let in_time = c.args.timed.now.in_time in
    let a = c.args.call.now in
    elim c.match-call.branch [
      | in-ReadOf+in_ok-look_back-in-ReadOf w ↦
          subst (λ (l : List ℕ). IsPast in_time es l a.place) (sym w.past-is) w.in_ok-look_back-in-ReadOf.ensures.past
      | in_default+in_ok-keep-in_default w ↦
          subst (λ (l : List ℕ). IsPast in_time es l a.place) (sym w.past-is) (past-here in_time es a c.args.past.now c.requires.call c.requires.past)
    ]

pub go_past-requires-clause-later : goal.go_past-requires-clause-later
go_past-requires-clause-later c =
    let a = c.args.call.now in
    let P : List ℕ → Type 0 = IsPastFrom c.args.timed.now.in_time c.args.timed.now.log.now a.client a.place in
    let was = c.args.past.now in
    elim c.match-call.branch [
      | in-ReadOf+in_ok-look_back-in-ReadOf w ↦ ⊎_elim
          {C = P c.match-call.past ⊎ IsAnswered a.ending}
          (λ (same : w.look_back.new.past ≡ was). inl (subst P (sym (w.past-is ∙ same)) c.requires.past))
          (λ (answered : IsAnswered a.ending). inr answered)
          w.in_ok-look_back-in-ReadOf.ensures.unread
      | in_default+in_ok-keep-in_default w ↦ inl (subst P (sym w.past-is) c.requires.past)
    ]
