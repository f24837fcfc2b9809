-- The certificate of causal consistency of a memory history by the sources of its reads (this project's profile).
use Rattle.std.specs.Prelude.{◌≡◌, ℕ, ◌<◌, ◌≤◌, List, [], ◌∷◌, ◌++◌, length, min, Option, MatchOption, slice_index_or}
use Rattle.model_history.specs.declared.op_id.OpId.{OpId}
use Rattle.model_history.specs.History.{IsOp}
use Rattle.order_causal.specs.Orders.{op}
use Rattle.order_memory.specs.Memory.{MemoryHistory}
use Rattle.order_memory.specs.SourceOrder.{CountsSourceOrder, IsSourceOf}
use Rattle.order_causal.specs.Topological.{IsFullWalk}
use Rattle.order_causal.specs.Vectors.{Counts, list_of, count, IsCounted}
use Rattle.cert_check.specs.declared.certificate.Certificate.{Certificate}
use Rattle.cert_check.specs.declared.certificate.Certificate.TheVariants.{Cc, Cm, Ccv}

-- n is how many operations of the session s, of those below the limit, come before the first whose vector counts w
pub record IsApart (v : Counts) (w : OpId) (s limit n : ℕ) : Type 0 where
  pub within : n ≤ min (length (slice_index_or v s [])) limit
  pub uncounted : (i : ℕ) → i < n → ¬ IsCounted v (op s i) w
  pub first : n < min (length (slice_index_or v s [])) limit → IsCounted v (op s n) w

-- for each session, how many operations of the past of o come before the first whose vector counts w
pub record AreApart (v : Counts) (o w : OpId) (limits : List ℕ) : Type 0 where
  pub size : length limits ≡ length v
  pub each : (s : ℕ) → s < length v → IsApart v w s (count v o s) (slice_index_or limits s 0)

-- a schedule of the past of o: by the topological rule what isn't w and isn't after w, then w, then by the rule the rest
pub record IsBySource (v : Counts) (o w : OpId) (schedule : List ℕ) : Type 0 where
  pub limits : List ℕ
  pub apart : AreApart v o w limits
  pub before : List ℕ
  pub first : IsFullWalk v limits [] before
  pub rest : IsFullWalk v (list_of v o) (before ++ w.session ∷ []) schedule

module _ (h : MemoryHistory) where
  -- the schedule of o, by its source where it has one
  pub record IsScheduleFor (v : Counts) (o : OpId) (schedule : List ℕ) : Type 0 where
    pub source : Option OpId
    pub is_source : IsSourceOf h o source
    pub walk : MatchOption source (IsFullWalk v (list_of v o) [] schedule) (λ w. IsBySource v o w schedule)

  -- the vectors are those of the order of program order and sources, and the schedules are by sources
  pub record AreBySources (v : Counts) (schedules : List (List (List ℕ))) : Type 0 where
    pub order : CountsSourceOrder h v
    pub each : (o : OpId) → IsOp h o → IsScheduleFor v o (list_of schedules o)

-- such a certificate
abbrev pub IsBySources : MemoryHistory → Certificate → Type 0
IsBySources h (Cc vectors schedules) = AreBySources h vectors schedules
IsBySources h (Cm vectors schedules) = ⊥
IsBySources h (Ccv vectors arbitration) = ⊥
