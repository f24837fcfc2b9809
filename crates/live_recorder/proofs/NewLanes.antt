-- One more lane with its session.
use Rattle.std.proofs.Common.{◌≡◌, ℕ, ◌+◌, List, [], ◌∷◌, ◌++◌, length, refl, sym, ◌∙◌, ap, subst, inl, inr, zero, suc}
use Rattle.std.specs.Prelude.{Some, slice_get}
use Rattle.live_recorder.specs.Lanes.{Cells}
use Rattle.live_recorder.specs.Sessions.{SessionState, fresh_session}
use Rattle.std.specs.Arc.{arc_value}
use Rattle.std.specs.declared.sync.Arc.{Arc}
use Rattle.std.proofs.lemmas.List.{map-append}
use Rattle.live_recorder.specs.Recorders.{AreLanes, cells_of}
use Rattle.live_recorder.proofs.Telling.{length_map, length_push, get_pushed, get_push_cases, get_push_before}

module _ {C R : Type 0} (cap : ℕ) where
  pub lanes_none : AreLanes {C = C} {R = R} cap [] []
  lanes_none = record { many = refl; places = λ s c e. absurd (none_at s e); fresh = λ s c e. absurd (none_at s e) }
    where
      none_at : {c : Cells} (s : ℕ) → slice_get {X = Cells} [] s ≡ Some c → ⊥
      none_at zero e = cc
      none_at (suc s) e = cc

  pub lanes_more : (cells : List Cells) (sessions : List (SessionState C R)) (c : Cells) → AreLanes cap cells sessions → length c.calls ≡ cap → AreLanes cap (cells ++ c ∷ []) (sessions ++ fresh_session (length cells) c ∷ [])
  lanes_more cells sessions c a places = record {
    many = length_push sessions (fresh_session (length cells) c) ∙ (ap (λ (n : ℕ). n + 1) a.many ∙ sym (length_push cells c));
    places = λ s d e. elim (get_push_cases cells c s d e) [ inl h ↦ a.places s d h | inr h ↦ subst (λ (x : Cells). length x.calls ≡ cap) h.1 places ];
    fresh = λ s d e. elim (get_push_cases cells c s d e) [ inl h ↦ get_push_before sessions (fresh_session (length cells) c) s (fresh_session s d) (a.fresh s d h) | inr h ↦ last s d h.0 h.1 ];
  }
    where
      last : (s : ℕ) (d : Cells) → s ≡ length cells → c ≡ d → slice_get (sessions ++ fresh_session (length cells) c ∷ []) s ≡ Some (fresh_session s d)
      last s d at is =
          ap (λ (j : ℕ). slice_get (sessions ++ fresh_session (length cells) c ∷ []) j) (at ∙ sym a.many) ∙ (get_pushed sessions (fresh_session (length cells) c) ∙ ap Some (λ i. fresh_session (sym at i) (is i)))

  pub lanes_pushed : {Z : Type 0} (lanes lanes' : List (Arc Cells Z)) (lane : Arc Cells Z) (sessions sessions' : List (SessionState C R)) (session : SessionState C R) (s : ℕ) (c : Cells) → length lanes ≡ s → AreLanes cap (cells_of lanes) sessions
      → lanes' ≡ lanes ++ lane ∷ [] → sessions' ≡ sessions ++ session ∷ [] → session ≡ fresh_session s c → c ≡ arc_value lane → length (arc_value lane).calls ≡ cap → AreLanes cap (cells_of lanes') sessions'
  lanes_pushed lanes lanes' lane sessions sessions' session s c many a e f g same places =
      let at : s ≡ length (cells_of lanes) = sym many ∙ sym (length_map arc_value lanes) in
      let fresh : session ≡ fresh_session (length (cells_of lanes)) (arc_value lane) = g ∙ (λ i. fresh_session (at i) (same i)) in
      subst (λ (ls : List Cells). AreLanes cap ls sessions') (sym (ap cells_of e ∙ map-append arc_value lanes (lane ∷ [])))
      (subst (λ (ss : List (SessionState C R)). AreLanes cap (cells_of lanes ++ arc_value lane ∷ []) ss) (sym (f ∙ ap (λ (x : SessionState C R). sessions ++ x ∷ []) fresh))
      (lanes_more (cells_of lanes) sessions (arc_value lane) a places))
