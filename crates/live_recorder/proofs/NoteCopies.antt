-- A note behind a `&` can be had again, since what it owns can be had twice.
use Rattle.std.proofs.Common.{List, [], ◌∷◌, ◌++◌, refl, ap, ◌∙◌}
use seplogic.Ra.Ura.{Ura}
use mir.Val.{Val, vstruct, of_list}
use base.Logic.{sep}
use types.Logic.{Logic, sem}
use types.Kit.{‵, ◌⊛◌, ◌$◌, !, qed, move, split, fsplit, fjoin, use1, done}
use denote.RattleType.{RattleType}
use denote.Laws.{Is, Tells, Copy}
use denote.Shadow.{pure_l, pure_i}
use denote.Struct.Struct.{Struct}
use denote.Struct.Owning.{shape, to}
use denote.Copied.{Copied, whole-copied}
use Rattle.once_cell.specs.Once.{noted}
use Rattle.once_cell.specs.contracts.race.note.Note as note
use Rattle.once_cell.proofs.Notes.{Note, token, noted_twice}

module _ {M : Type 1} {𝓤 : Ura M} (𝓛 : Logic 𝓤) (R : RattleType) where
  -- a note is one machine value
  pub note_tells : Tells (Note 𝓛 R) (Is (Note 𝓛 R)) (λ n. token ∷ [])
  note_tells n vs p = p.0.1.0 ∙ ap (λ (us : List Val). vstruct (of_list (us ++ [])) ∷ []) p.0.1.1.0.1.0

  pub note_copy : Copy 𝓛 (Note 𝓛 R)
  note_copy = record {
    twice = λ n vs. let D = (Struct (shape (note.the_type R))).own_val (to (note.the_type R) n) vs in let N = noted R n.cell n.known in
        qed 𝓛 (‵ ((Note 𝓛 R).own_val n vs) ∷ []) {P = sep 𝓤 (sem 𝓛 ((Note 𝓛 R).own_val n vs)) (sem 𝓛 ((Note 𝓛 R).own_val n vs))} (fsplit ! $ move ! (1 ∷ []) $ use1 𝓛 (‵ N ⊛ ‵ N) (noted_twice 𝓛 R n.cell n.known) $ split ! $ move ! (2 ∷ []) $
        pure_l ! D (λ f. pure_i ! D (λ vss. (tt, ((λ uss. (tt, tt)), tt))) f $ move ! (0 ∷ 1 ∷ []) $ fjoin ! $ move ! (1 ∷ []) $ pure_i ! D (λ vss. (tt, ((λ uss. (tt, tt)), tt))) f $ fjoin ! $ done !));
  }

  pub note_copied : Copied 𝓛 (Note 𝓛 R)
  note_copied = whole-copied 𝓛 (Note 𝓛 R) (λ n b o. refl) (λ n. token) note_tells note_copy
