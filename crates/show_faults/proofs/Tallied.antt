-- The tally of the operations that are seen, with one operation more.
use Rattle.std.specs.Prelude.{◌≡◌, ◌↔◌, ℕ, ◌+◌, ◌<◌, ◌≤◌, List, [], ◌∷◌, ◌++◌, Bool, false, IsTrue, Some, None, slice_get}
use Rattle.std.specs.Prelude.{Result, Ok, Err, IfOk}
use Rattle.std.proofs.Common.{arith, ap, subst, ⊎_elim}
use Rattle.std.proofs.lemmas.Bool.{cases_lt}
use Rattle.std.proofs.lemmas.List.{length_push}
use Rattle.model_history.specs.declared.op_id.OpId.{OpId}
use Rattle.model_history.specs.History.{IsOp, number}
use Rattle.order_memory.specs.Memory.{MemoryHistory, IsDifferentiated}
use Rattle.order_memory.specs.SourceOrder.{IsCyclic}
use Rattle.judge_memory.specs.Steps.{many}
use Rattle.judge_memory.proofs.Numbers.{number-before}
use Rattle.show_faults.specs.declared.counts.FaultCounts.{FaultCounts}
use Rattle.show_faults.specs.declared.counts.SessionFaults.{SessionFaults}
use Rattle.show_faults.specs.declared.fault.Fault.{Fault}
use Rattle.show_faults.specs.Faults.{IsListed, read_of}
use Rattle.show_faults.specs.Found.{IsFoundFor, IsTallyBelow}
use Rattle.show_faults.specs.Tallies.{IsBelow, IsTally, IsTallyOf}
use Rattle.show_faults.proofs.FaultLists.{faults-first, faults-more, faults-same, faults-whole, seen-more}
use Rattle.show_faults.proofs.Tallying.{counts-below, rows-below}

module _ (h : MemoryHistory) (most : ℕ) where
  -- before any operation is seen
  pub tally-first : (listed : List Fault) (counts : FaultCounts) (rows : List SessionFaults) → IsTally [] most listed counts rows
      → IsTallyBelow h 0 most listed counts rows
  tally-first listed counts rows tally = record {
    all = [];
    faults = faults-first h;
    tally = tally;
    seen = λ f (k, at). absurd cc;
    few = omega arith;
  }

  module _ (n : ℕ) (listed : List Fault) (counts : FaultCounts) (rows : List SessionFaults)
      (now : IsTallyBelow h n most listed counts rows) where
    -- counts are small
    pub tally-below : (m : ℕ) → n < m → IsBelow counts m
    tally-below m below = let few = now.few in counts-below now.all counts m now.tally.by_kind (omega arith)

    pub tally-rows_below : (m : ℕ) → n < m → (j : ℕ) (row : SessionFaults) → slice_get rows j ≡ Some row → IsBelow row.counts m
    tally-rows_below m below = let few = now.few in rows-below now.all rows m now.tally.by_session (omega arith)

    -- once every operation is seen
    pub tally-whole : many h ≤ n → IsTallyOf h most listed counts rows
    tally-whole whole = (now.all, faults-whole h n now.all whole now.faults, now.tally)

    module _ (o : OpId) (is_op : IsOp h o) (here : number h o ≡ n) where
      -- an operation that shows no fault
      pub tally-same : IsFoundFor h o None → IsTallyBelow h (n + 1) most listed counts rows
      tally-same found = record {
        all = now.all;
        faults = faults-same h n now.all now.faults o is_op here found;
        tally = now.tally;
        seen = λ f listed_f. (let was = now.seen f listed_f in let below = was.1 in (was.0, omega arith));
        few = (let few = now.few in omega arith);
      }

      module _ (distinct : IsDifferentiated h) (f : Fault) (found : IsFoundFor h o (Some f)) where
        -- one that shows a fault: no fault so far is of a later session
        pub tally-late : (g : Fault) → IsListed now.all g → (read_of g).session ≤ (read_of f).session
        tally-late g listed_g =
            let was = now.seen g listed_g in
            let before = was.1 in
            let same = ap (λ (q : OpId). q.session) found.1 in
            ⊎_elim
            (λ (later : o.session < (read_of g).session). let order = number-before h o (read_of g) is_op later in absurd (omega arith))
            (λ (up_to : (read_of g).session ≤ o.session). omega arith)
            (cases_lt o.session (read_of g).session)

        pub tally-more : (listed_now : List Fault) (counts_now : FaultCounts) (rows_now : List SessionFaults)
            → ((all : List Fault) → ((g : Fault) → IsListed all g → (read_of g).session ≤ (read_of f).session)
            → IsTally all most listed counts rows → IsTally (all ++ f ∷ []) most listed_now counts_now rows_now)
            → IsTallyBelow h (n + 1) most listed_now counts_now rows_now
        tally-more listed_now counts_now rows_now added = record {
          all = now.all ++ f ∷ [];
          faults = faults-more h n now.all now.faults o is_op here distinct f found now.seen;
          tally = added now.all tally-late now.tally;
          seen = seen-more h n now.all now.faults o is_op here distinct f found now.seen;
          few = (let few = now.few in let long = length_push now.all f in omega arith);
        }

-- a history without a cycle, where the flag says so
pub straight-known : (h : MemoryHistory) → ¬ IsCyclic h → {V E : Type 0} (r : Result V E) (flag : V → Bool)
    → IfOk r (λ v. flag v ≡ false) → IfOk r (λ v. IsTrue (flag v) ↔ IsCyclic h)
straight-known h straight (Ok v) flag same = (
  (λ set. let bad : IsTrue false = subst IsTrue same set in absurd cc),
  λ cyclic. absurd (straight cyclic),
)
straight-known h straight (Err e) flag nothing = nothing
