use Rattle.std.proofs.Common.{◌≡◌, ◌++◌, ◌∷◌, [], List, ℕ, ap, rules, ◌∙◌}
use Rattle.log_reader.specs.Logs.{Log}
use Rattle.log_reader.proofs.BookLaws.{extends-push}
use Rattle.log_reader.proofs.FollowLaws.{allowed_follows}
use Rattle.log_reader.proofs.book.Book.add.Goals as goal

pushed_lines : (log : Log) (old new : List ℕ) (n : ℕ) → old ≡ log.lines → new ≡ old ++ n ∷ [] → new ≡ log.lines ++ n ∷ []
pushed_lines log old new n same is = is ∙ ap (λ l. l ++ n ∷ []) same

pub returns-in_ok-push-in-Ok-push-clause-follows : goal.returns-in_ok-push-in-Ok-push-clause-follows
returns-in_ok-push-in-Ok-push-clause-follows c =
    allowed_follows c.args.self.now c.self.inside.log c.push.new.self c.args.event (ap (λ (l : Log). l.events) c.self.view_is) c.in-Ok-push.ensures.ok c.events_are_log.ensures

pub returns-in_ok-push-in-Ok-push-clause-extends : goal.returns-in_ok-push-in-Ok-push-clause-extends
returns-in_ok-push-in-Ok-push-clause-extends c =
    let lines = pushed_lines c.args.self.now c.self.inside.lines.items c.push-in-Ok-push.new.self.items c.in-Ok.number (ap (λ (l : Log). l.lines) c.self.view_is) (search rules) in
    extends-push c.args.self.now _ c.in-Ok.number c.args.event (ap (λ (l : Log). l.clients) c.self.view_is) (ap (λ (l : Log). l.keys) c.self.view_is)
    (ap (λ (l : Log). l.values) c.self.view_is) (c.in-Ok-push.ensures.ok ∙ ap (λ (l : Log). l.events ++ c.args.event ∷ []) c.self.view_is) lines
    (ap (λ (l : Log). l.in_time) c.self.view_is)
