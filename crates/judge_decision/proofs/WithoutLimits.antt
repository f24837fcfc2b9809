-- A memory history is one without limits.
use Rattle.std.proofs.Common.{◌≡◌, ◌<◌, ◌≤◌, ◌^◌, ◌+◌, ℕ, List, [], ◌∷◌, ◌++◌, Option, length, take, ⊎_elim, ap, arith, sym, subst, ◌∙◌}
use Rattle.std.specs.Prelude.{slice_index_or}
use Rattle.std.proofs.lemmas.Bool.{cases_lt}
use Rattle.std.proofs.lemmas.List.{get_or_past, take_more}
use Rattle.std.proofs.lemmas.Option.{slice_get_within}
use Rattle.model_objects.specs.declared.register.RegisterRet.{RegisterRet}
use Rattle.model_objects.specs.Table.{IsTable}
use Rattle.json_histories.specs.Form.{AreCalls, EachCall}
use Rattle.order_memory.specs.Memory.{MemoryCall, MemoryHistory}
use Rattle.order_memory.specs.MemoryHistories.{IsMemoryHistory}
use Rattle.judge_memory.specs.LongHistories.{IsLongHistory, IsLongTable}

abbrev pub Session : Type 0
Session = List (MemoryCall × Option RegisterRet)

-- the keys of the calls are below 2^32
abbrev pub HasSmallKeys : Session → Type 0
HasSmallKeys es = AreCalls (λ (c : MemoryCall). c.key < 2 ^ 32) es

pub long_table : (t : List (ℕ × ℕ)) → IsTable 0 (λ _. Unit {0}) t → IsLongTable t
long_table t is = record { rising = is.rising; small = is.small; not_plain = is.not_plain }

no_call : HasSmallKeys []
no_call i c r there = let low : i < 0 = slice_get_within [] i (c, r) there in absurd (omega arith)

pub small_keys : (ss : List Session) → ((s : ℕ) → s < length ss → HasSmallKeys (slice_index_or ss s [])) → EachCall (λ (c : MemoryCall). c.key < 2 ^ 32) ss
small_keys ss each s = ⊎_elim
    (λ (within : s < length ss). each s within)
    (λ (past : length ss ≤ s). subst HasSmallKeys (sym (get_or_past ss s [] past)) no_call)
    (cases_lt s (length ss))

pub long_history : (h : MemoryHistory) → IsMemoryHistory h → ((s : ℕ) → s < length h.1 → HasSmallKeys (slice_index_or h.1 s [])) → IsLongHistory h
long_history h is keys = record {
  start = long_table h.0 is.start;
  each = λ s. record { fitting = (is.each s).fitting; known_first = (is.each s).known_first };
  calls = small_keys h.1 keys;
}

-- one session more
pub keys_next : (ss : List Session) (n : ℕ) (more : Session) → more ≡ slice_index_or ss n [] → HasSmallKeys more
    → ((s : ℕ) → s < n → HasSmallKeys (slice_index_or ss s [])) → (s : ℕ) → s < n + 1 → HasSmallKeys (slice_index_or ss s [])
keys_next ss n more same small before s below = ⊎_elim
    (λ (earlier : s < n). before s earlier)
    (λ (up_to : n ≤ s).
    let there : n ≡ s = omega arith in
    subst (λ (k : ℕ). HasSmallKeys (slice_index_or ss k [])) there (subst HasSmallKeys same small))
    (cases_lt s n)

pub sessions_next : (ss before after : List Session) (n : ℕ) (more : Session) → n < length ss → before ≡ take n ss → more ≡ slice_index_or ss n []
    → after ≡ before ++ more ∷ [] → after ≡ take (n + 1) ss
sessions_next ss before after n more there so_far same added =
    added ∙ ap (λ (l : List Session). l ++ more ∷ []) so_far ∙ ap (λ (m : Session). take n ss ++ m ∷ []) same ∙ sym (take_more ss n [] there)
