-- The shape of a history does not depend on its values.
use Rattle.std.proofs.Common.{◌≡◌, ℕ, ◌+◌, ◌<◌, ◌^◌, Bool, List, [], ◌∷◌, ◌++◌, length, map, take, refl, ap, sym, subst, ◌∙◌, arith}
use Rattle.std.specs.Prelude.{◌≢◌, Option, Some, None, option_map, slice_get, slice_index_or}
use Rattle.std.proofs.Math.ListN.{get_or-map}
use Rattle.std.proofs.lemmas.List.{map-append, take_more}
use Rattle.std.proofs.lemmas.List.Elements.{All-nil}
use Rattle.std.proofs.lemmas.Option.{slice_get-map}
use Rattle.model_objects.specs.Register.{matches}
use Rattle.model_objects.specs.declared.register.RegisterCall.{RegisterCall}
use Rattle.model_objects.specs.declared.register.RegisterCall.TheVariants.{Read, Write}
use Rattle.model_objects.specs.declared.register.RegisterRet.{RegisterRet}
use Rattle.model_objects.specs.declared.register.RegisterRet.TheVariants.{Done, Value}
use Rattle.model_history.specs.History.{session}
use Rattle.order_memory.specs.Memory.{MemoryCall, MemoryHistory}
use Rattle.judge_memory.specs.LongHistories.{IsLongHistory}
use Rattle.judge_witnesses.specs.Relabelled.{back}
use Rattle.judge_witnesses.specs.Renamed.{IsRenamed, Operation, Renaming, renamed, renamed_at_key, renamed_call, renamed_return}

fits-renamed : (become : ℕ → ℕ) (c : RegisterCall) (r : RegisterRet) → matches (renamed_call become c) (renamed_return become r) ≡ matches c r
fits-renamed become (Write v) Done = refl
fits-renamed become (Write v) (Value u) = refl
fits-renamed become Read Done = refl
fits-renamed become Read (Value u) = refl

module _ (renaming : Renaming) where
  -- one more operation, and one more session
  pub operations_next : (es row : List Operation) (i : ℕ) (e d : Operation) → i < length es → map (renamed renaming) row ≡ take i es
      → renamed renaming d ≡ slice_index_or es i e → map (renamed renaming) (row ++ d ∷ []) ≡ take (i + 1) es
  operations_next es row i e d there so_far same =
      map-append (renamed renaming) row (d ∷ []) ∙ ap (λ (l : List Operation). l ++ renamed renaming d ∷ []) so_far
      ∙ ap (λ (b : Operation). take i es ++ b ∷ []) same ∙ sym (take_more es i e there)

  pub sessions_next : (ss rows : List (List Operation)) (s : ℕ) (row : List Operation) → s < length ss → map (map (renamed renaming)) rows ≡ take s ss
      → map (renamed renaming) row ≡ slice_index_or ss s [] → map (map (renamed renaming)) (rows ++ row ∷ []) ≡ take (s + 1) ss
  sessions_next ss rows s row there so_far same =
      map-append (map (renamed renaming)) rows (row ∷ []) ∙ ap (λ (l : List (List Operation)). l ++ map (renamed renaming) row ∷ []) so_far
      ∙ ap (λ (b : List Operation). take s ss ++ b ∷ []) same ∙ sym (take_more ss s [] there)

  module _ (h : MemoryHistory) (sessions : List (List Operation)) (is : map (map (renamed renaming)) sessions ≡ h.1) where
    at-renamed : (s i : ℕ) (e : Operation) → slice_get (slice_index_or sessions s []) i ≡ Some e → slice_get (session h s) i ≡ Some (renamed renaming e)
    at-renamed s i e at =
        ap (λ (l : List (List Operation)). slice_get (slice_index_or l s []) i) (sym is)
        ∙ ap (λ (l : List Operation). slice_get l i) (get_or-map (map (renamed renaming)) sessions s [])
        ∙ slice_get-map (renamed renaming) (slice_index_or sessions s []) i ∙ ap (option_map (renamed renaming)) at

    pub long-renamed : IsLongHistory h → IsLongHistory ([], sessions)
    long-renamed long = record {
      start = record { rising = λ k inside. absurd (omega arith); small = All-nil (λ (e : ℕ × ℕ). e.0 < 2 ^ 32); not_plain = All-nil (λ (e : ℕ × ℕ). e.1 ≢ 0) };
      each = λ s. record {
        fitting = λ i c r at.
            sym (fits-renamed (renaming c.key) c.call r)
            ∙ (long.each s).fitting i (renamed_at_key renaming c) (renamed_return (renaming c.key) r) (at-renamed s i (c, Some r) at);
        known_first = λ i j c d r before at there.
            (long.each s).known_first i j (renamed_at_key renaming c) (renamed_at_key renaming d) (renamed_return (renaming d.key) r) before
            (at-renamed s i (c, None) at) (at-renamed s j (d, Some r) there);
      };
      calls = λ s i c r at. long.calls s i (renamed_at_key renaming c) (option_map (renamed_return (renaming c.key)) r) (at-renamed s i (c, r) at);
    }

-- the history of relabelled sessions, with no initial values
pub back-renamed : (h : MemoryHistory) (written : List ℕ) (sessions : List (List Operation))
    → map (map (renamed (back h written))) sessions ≡ h.1 → IsRenamed (back h written) ([], sessions) h
back-renamed h written sessions is = record { operations = is; start = λ x. refl }
