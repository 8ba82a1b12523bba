-- A relation holds of a loop or block and of what it gives way to, where it holds wherever a jump alone leads out of its end.
use Rattle.std.proofs.Common.{◌≡◌, ℕ, Bool, true, false, ◌&&◌, List, [], ◌∷◌, ◌++◌, Option, Some, None, refl, sym, subst}
use Rattle.std.specs.Prelude.{◌==◌, if◌then◌else◌, is_some}
use Rattle.std.proofs.lemmas.Bool.{eqb-true}
use Rattle.mv_ir.specs.declared.stm.Stm.{Stm}
use Rattle.mv_ir.specs.declared.stm.Stm.TheOpen as stm
use Rattle.mv_ir.specs.declared.stm.Stm.TheViews.{roll-Stm}
use Rattle.mv_fold.specs.Opened.{without_leave, most_levels, end_target, leave, from_outside, opened, blocked, looped}
use Rattle.mv_fold.proofs.Levels.{end_split}

pub record Opens (P : List Stm → List Stm → Type 0) : Type 0 where
  pub same : (xs : List Stm) → P xs xs
  pub block : (front : List Stm) (end : Option ℕ) → most_levels front ≡ 0 → P (roll-Stm (stm.Block (front ++ leave end)) ∷ []) (front ++ leave (from_outside end))
  pub loop : (front : List Stm) (n : ℕ) → most_levels front ≡ 0 → P (roll-Stm (stm.Loop (front ++ leave (Some n))) ∷ []) (front ++ leave (from_outside (Some n)))

module _ (P : List Stm → List Stm → Type 0) (h : Opens P) where
  pub blocked_is : (b : List Stm) → P (roll-Stm (stm.Block b) ∷ []) (blocked b)
  blocked_is b = by (most_levels (without_leave b) == 0) refl
    where
      by : (c : Bool) → (most_levels (without_leave b) == 0) ≡ c → P (roll-Stm (stm.Block b) ∷ []) (if c then opened b else roll-Stm (stm.Block b) ∷ [])
      by false e = h.same (roll-Stm (stm.Block b) ∷ [])
      by true e =
          subst (λ l. P (roll-Stm (stm.Block l) ∷ []) (opened b)) (end_split b) (h.block (without_leave b) (end_target b) (eqb-true (most_levels (without_leave b)) 0 e))

  pub looped_is : (b : List Stm) → P (roll-Stm (stm.Loop b) ∷ []) (looped b)
  looped_is b = by (end_target b) refl (most_levels (without_leave b) == 0) refl
    where
      by : (end : Option ℕ) → end_target b ≡ end → (c : Bool) → (most_levels (without_leave b) == 0) ≡ c → P (roll-Stm (stm.Loop b) ∷ []) (if is_some end && c then opened b else roll-Stm (stm.Loop b) ∷ [])
      by None e c f = h.same (roll-Stm (stm.Loop b) ∷ [])
      by (Some n) e false f = h.same (roll-Stm (stm.Loop b) ∷ [])
      by (Some n) e true f =
          subst (λ l. P (roll-Stm (stm.Loop l) ∷ []) (opened b)) (end_split b)
          (subst (λ o. P (roll-Stm (stm.Loop (without_leave b ++ leave o)) ∷ []) (without_leave b ++ leave (from_outside o))) (sym e)
          (h.loop (without_leave b) n (eqb-true (most_levels (without_leave b)) 0 f)))
