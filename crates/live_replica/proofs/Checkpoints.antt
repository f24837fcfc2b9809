-- An object that follows updates, and the checkpoints that it keeps.
use Rattle.std.proofs.Common.{◌≡◌, ℕ, ◌+◌, ◌≤◌, List, [], ◌∷◌, ◌++◌, length, sym, subst, arith, get_or, length-append}
use Rattle.std.specs.Prelude.{All, AllPairs, Bool, true, nat_le, filter, insert, Option, Some, None, slice_get}
use Rattle.std.proofs.lemmas.Bool.{leb-true}
use Rattle.std.proofs.lemmas.List.{get_or_append_left}
use Rattle.std.proofs.lemmas.List.Elements.{All-filter, All-nil, All-pop, All-push, All-weaker, filter_passes}
use Rattle.std.proofs.lemmas.List.Kept.{AllPairs-filter}
use Rattle.std.proofs.lemmas.List.Quantifiers.{all_pairs_push}
use Rattle.std.proofs.Math.Seq.{get_or-append_seam}
use Rattle.live_replica.specs.declared.checkpoint.Checkpoint.{Checkpoint}
use Rattle.live_replica.specs.declared.update.UpdateOf.{UpdateOf}
use Rattle.live_replica.specs.Steps.Logs.{HasTaken, IsFollowing}
use Rattle.live_replica.proofs.Following.{taken-behind, taken-insert, taken-more, taken-none, taken-push, taken-query}

module _ {X : Type 0} (R : X → X → Type 0) (xs : List X) (y : X) where
  -- what holds between the elements of a list holds between those before the last one
  pairs_front : AllPairs R (xs ++ y ∷ []) → AllPairs R xs
  pairs_front pairs i j d less below =
      let size = length-append xs (y ∷ []) in
      let first : get_or (xs ++ y ∷ []) i d ≡ get_or xs i d = get_or_append_left xs (y ∷ []) d i (omega arith) in
      let second : get_or (xs ++ y ∷ []) j d ≡ get_or xs j d = get_or_append_left xs (y ∷ []) d j below in
      subst (λ (b : X). R (get_or xs i d) b) second (subst (λ (a : X). R a (get_or (xs ++ y ∷ []) j d)) first (pairs i j d less (omega arith)))

  -- and between each of these and the last one
  pairs_last : AllPairs R (xs ++ y ∷ []) → All (λ x. R x y) xs
  pairs_last pairs i d below =
      let size = length-append xs (y ∷ []) in
      let first : get_or (xs ++ y ∷ []) i d ≡ get_or xs i d = get_or_append_left xs (y ∷ []) d i below in
      let last : get_or (xs ++ y ∷ []) (length xs) d ≡ y = get_or-append_seam xs y [] d in
      subst (λ (b : X). R (get_or xs i d) b) last (subst (λ (a : X). R a (get_or (xs ++ y ∷ []) (length xs) d)) first (pairs i (length xs) d below (omega arith)))

at_some : (P : ℕ → Type 0) (m : ℕ) → P m → (n : ℕ) → Some m ≡ Some n → P n
at_some P m p n e = let same : m ≡ n = cc in subst P same p

module _ {Z : Type 0} where
  abbrev pub UpTo : ℕ → List (Checkpoint Z) → Type 0
  UpTo n cs = All (λ (c : Checkpoint Z). c.applied ≤ n) cs

  up_to-more : (m n : ℕ) (cs : List (Checkpoint Z)) → m ≤ n → UpTo m cs → UpTo n cs
  up_to-more m n cs le = All-weaker (λ (c : Checkpoint Z). c.applied ≤ m) (λ (c : Checkpoint Z). c.applied ≤ n) (λ c below. omega arith) cs

module _ {S C Z : Type 0} (query : C → Bool) (stands : Z → S → List C → Type 0) (start : S) where
  -- an object that has taken nothing in, and has no checkpoint
  pub following-new : (z : Z) → stands z start [] → IsFollowing query stands z start [] (Some 0) []
  following-new z st = record {
    taken = at_some (λ n. HasTaken query stands z start [] n) 0 (taken-none query stands z start [] st);
    each = All-nil (λ c. HasTaken query stands c.object start [] c.applied);
    rising = λ i j d less below. absurd (omega arith);
    earlier = λ n e. All-nil (λ c. c.applied ≤ n);
  }

  module _ (z : Z) (us : List (UpdateOf C)) (applied : Option ℕ) (cs : List (Checkpoint Z)) (f : IsFollowing query stands z start us applied cs) where
    -- there is no checkpoint: the object begins anew
    pub following-fresh : (z' : Z) (ds : List (Checkpoint Z)) → length ds ≡ 0 → stands z' start [] → IsFollowing query stands z' start us (Some 0) ds
    following-fresh z' ds none st = record {
      taken = at_some (λ n. HasTaken query stands z' start us n) 0 (taken-none query stands z' start us st);
      each = λ i d below. absurd (omega arith);
      rising = λ i j d less below. absurd (omega arith);
      earlier = λ n e i d below. absurd (omega arith);
    }

    -- the object goes on from the latest checkpoint
    pub following-pop : (ds : List (Checkpoint Z)) (d : Checkpoint Z) → cs ≡ ds ++ d ∷ [] → IsFollowing query stands d.object start us (Some d.applied) ds
    following-pop ds d is =
        let each = All-pop (λ c. HasTaken query stands c.object start us c.applied) cs ds (Some d) is f.each in
        let rising = subst (AllPairs (λ c e. c.applied ≤ e.applied)) is f.rising in record {
          taken = at_some (λ n. HasTaken query stands d.object start us n) d.applied each.1;
          each = each.0;
          rising = pairs_front (λ c e. c.applied ≤ e.applied) ds d rising;
          earlier = at_some (λ n. UpTo n ds) d.applied (pairs_last (λ c e. c.applied ≤ e.applied) ds d rising);
        }

    -- a checkpoint of the object
    pub following-keep : (n : ℕ) → applied ≡ Some n → (copy : Z) → copy ≡ z → IsFollowing query stands z start us applied (cs ++ record { object = copy; applied = n } ∷ [])
    following-keep n is copy same = record {
      taken = f.taken;
      each = All-push (λ c. HasTaken query stands c.object start us c.applied) cs (record { object = copy; applied = n }) f.each
          (subst (λ (y : Z). HasTaken query stands y start us n) (sym same) (f.taken n is));
      rising = all_pairs_push (λ c e. c.applied ≤ e.applied) cs (record { object = copy; applied = n }) f.rising (λ k d below. f.earlier n is k d below);
      earlier = λ m e. let up_to : n ≡ m = cc in All-push (λ c. c.applied ≤ m) cs (record { object = copy; applied = n }) (f.earlier m e) (omega arith);
    }

    -- an update comes in behind all that the object has applied
    pub following-behind : (n at : ℕ) (u : UpdateOf C) → applied ≡ Some n → n ≤ at → at ≤ length us → IsFollowing query stands z start (insert us at u) applied cs
    following-behind n at u is before within = record {
      taken = λ m e. let same : n ≡ m = cc in taken-insert query stands z start us m at u (omega arith) within (f.taken m e);
      each = λ i d below. let earlier = f.earlier n is i d below in taken-insert query stands (get_or cs i d).object start us (get_or cs i d).applied at u (omega arith) within (f.each i d below);
      rising = f.rising;
      earlier = f.earlier;
    }

    -- an update comes in before others: the checkpoints behind its place are dropped
    pub following-displaced : (at : ℕ) (u : UpdateOf C) (ds : List (Checkpoint Z)) → at ≤ length us → ds ≡ filter (λ c. nat_le c.applied at) cs
        → IsFollowing query stands z start (insert us at u) None ds
    following-displaced at u ds within is = record {
      taken = λ n e. absurd cc;
      each = subst (All (λ c. HasTaken query stands c.object start (insert us at u) c.applied)) (sym is)
          (λ i d below. let before = leb-true (get_or (filter (λ c. nat_le c.applied at) cs) i d).applied at (filter_passes (λ c. nat_le c.applied at) cs i d below) in
          taken-insert query stands (get_or (filter (λ c. nat_le c.applied at) cs) i d).object start us (get_or (filter (λ c. nat_le c.applied at) cs) i d).applied at u before within
          (All-filter (λ c. nat_le c.applied at) (λ c. HasTaken query stands c.object start us c.applied) cs f.each i d below));
      rising = subst (AllPairs (λ c e. c.applied ≤ e.applied)) (sym is) (AllPairs-filter (λ c e. c.applied ≤ e.applied) (λ c. nat_le c.applied at) cs f.rising);
      earlier = λ n e. absurd cc;
    }

    module _ (z' : Z) (c : C) (takes : (ds : List C) → stands z start ds → stands z' start (ds ++ c ∷ [])) where
      -- the next of the updates is delivered
      pub following-more : (i : ℕ) (u : UpdateOf C) → slice_get us i ≡ Some u → u.call ≡ c → applied ≡ Some i → IsFollowing query stands z' start us (Some (i + 1)) cs
      following-more i u at is e = record {
        taken = at_some (λ n. HasTaken query stands z' start us n) (i + 1) (taken-more query stands z z' start us c takes i u at is (f.taken i e));
        each = f.each;
        rising = f.rising;
        earlier = at_some (λ n. UpTo n cs) (i + 1) (up_to-more i (i + 1) cs (omega arith) (f.earlier i e));
      }

      -- an update behind them all is delivered
      pub following-push : applied ≡ Some (length us) → (u : UpdateOf C) → u.call ≡ c → IsFollowing query stands z' start (us ++ u ∷ []) (Some (length us + 1)) cs
      following-push e u is = record {
        taken = at_some (λ n. HasTaken query stands z' start (us ++ u ∷ []) n) (length us + 1) (taken-push query stands z z' start us c takes (f.taken (length us) e) u is);
        each = All-weaker (λ c. HasTaken query stands c.object start us c.applied) (λ c. HasTaken query stands c.object start (us ++ u ∷ []) c.applied)
            (λ c. taken-behind query stands c.object start us c.applied u) cs f.each;
        rising = f.rising;
        earlier = at_some (λ n. UpTo n cs) (length us + 1) (up_to-more (length us) (length us + 1) cs (omega arith) (f.earlier (length us) e));
      }

      -- a query is applied
      pub following-query : query c ≡ true → IsFollowing query stands z' start us applied cs
      following-query q = record {
        taken = λ n e. taken-query query stands z z' start us c takes q n (f.taken n e);
        each = f.each;
        rising = f.rising;
        earlier = f.earlier;
      }
