-- Null reads that are not left out read what they saw.
use Rattle.std.proofs.Common.{◌≡◌, ℕ, ◌+◌, ◌*◌, Bool, List, refl, sym, subst, ◌∙◌, arith}
use Rattle.std.specs.Prelude.{Some, None}
use Rattle.model_history.specs.declared.op_id.OpId.{OpId}
use Rattle.order_memory.specs.Memory.{MemoryHistory, Reads, Writes, initial}
use Rattle.order_memory.specs.Relations.{ReadsFrom}
use Rattle.log_events.specs.declared.event.ClientCall.TheVariants.{DeleteOf}
use Rattle.log_events.specs.declared.event.Event.{Event}
use Rattle.log_events.specs.Events.{IsAllowed}
use Rattle.log_events.specs.Histories.{deleted, key, value, history_of}
use Rattle.log_events.specs.Values.{HasDistinctValues}
use Rattle.log_choices.specs.Choices.{Choice, IsChoice, IsNullRead}
use Rattle.log_choices.specs.ChosenHistories.{history_by}
use Rattle.log_choices.proofs.CallEffects.{read-effect, effect-writes}
use Rattle.log_choices.proofs.ForcedOrders.{chosen-miss, saw-delete, saw-start}
use Rattle.log_choices.proofs.RenamedHistories.{renamed, reads-renamed, writes-renamed, reads_from-renamed, renamed-initial}
use Rattle.log_choices.proofs.ResolvedEvents.{begins-at}
use Rattle.log_choices.proofs.ResolvedHistories.{spread, spread-once, resolved, history-resolved}

module _ (in_time : Bool) (es : List Event) (f : Choice) (allowed : IsAllowed es) where
  abbrev h : MemoryHistory
  h = history_by es f

  pub saw_delete-reads : HasDistinctValues es → IsChoice in_time es f → (client x i j p : ℕ) → IsNullRead es client x i j → f i ≡ Some (Some p)
      → (w r : OpId) × ReadsFrom (history_by es f) w r × Writes (history_by es f) w (key x) (deleted p) × Reads (history_by es f) r (key x) (deleted p)
  saw_delete-reads distinct choice client x i j p null some =
      let ((deleter, at, _), _) = choice client x i j (Some p) null some in
      let (r, reading, reads) = read-effect (resolved es f) client x i j (2 * p + 1) (chosen-miss es f allowed client x i j (Some p) null some) in
      let (w, writing, edge) = saw-delete es f allowed in_time choice distinct client x i j p null some r reading in
      let writes = effect-writes (resolved es f) deleter p x (2 * p + 1) w (begins-at es f p deleter (DeleteOf x) at) writing in
      let (v, wrote, same) = writes-renamed spread h w (key x) (value (2 * p + 1)) (moved (λ g. Writes g w (key x) (value (2 * p + 1))) writes) in
      let (u, read, same2) = reads-renamed spread h r (key x) (value (2 * p + 1)) (moved (λ g. Reads g r (key x) (value (2 * p + 1))) reads) in
      let one : v ≡ deleted p = spread-once v (deleted p) (sym same ∙ spread-deleted) in
      let two : u ≡ deleted p = spread-once u (deleted p) (sym same2 ∙ spread-deleted) in (
        w,
        r,
        reads_from-renamed spread h refl spread-once w r (moved (λ g. ReadsFrom g w r) edge),
        subst (Writes h w (key x)) one wrote,
        subst (Reads h r (key x)) two read,
      )
    where
      moved : (holds : MemoryHistory → Type 0) → holds (history_of (resolved es f)) → holds (renamed spread h)
      moved holds = subst holds (history-resolved es f allowed)

      spread-deleted : value (2 * p + 1) ≡ spread (deleted p)
      spread-deleted = omega arith

  pub saw_start-reads : IsChoice in_time es f → (client x i j : ℕ) → IsNullRead es client x i j → f i ≡ Some None
      → (r : OpId) × Reads (history_by es f) r (key x) (initial (history_by es f) (key x))
  saw_start-reads choice client x i j null some =
      let (r, _, reads) = saw-start es f allowed in_time choice client x i j null some in
      let there = subst (λ (g : MemoryHistory). Reads g r (key x) (initial g (key x))) (history-resolved es f allowed) reads in
      let (v, read, same) = reads-renamed spread h r (key x) (initial (renamed spread h) (key x)) there in
      let one : v ≡ initial h (key x) = spread-once v (initial h (key x)) (sym same ∙ renamed-initial spread h refl (key x)) in
      (r, subst (Reads h r (key x)) one read)
