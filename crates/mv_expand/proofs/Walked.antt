-- How the walk over code goes on, and what it gives.
use Rattle.std.proofs.Common.{◌≡◌, ℕ, ◌+◌, ◌<◌, Bool, true, false, List, [], ◌∷◌, ◌++◌, length, take, get_or, None, append_assoc, append-nil, refl, sym, ◌∙◌, ap, subst}
use Rattle.std.proofs.lemmas.List.{take_more}
use Rattle.mv_ir.specs.declared.tree.Tree.{Tree}
use Rattle.mv_ir.specs.declared.stm.Callee.TheVariants as callee
use Rattle.mv_ir.specs.declared.stm.Stm.{Stm}
use Rattle.mv_ir.specs.declared.stm.Stm as at
use Rattle.mv_ir.specs.declared.stm.Stm.TheVariants.{rolls-If, rolls-Loop, rolls-Block, rolls-Call}
use Rattle.mv_ir.specs.Rolled.{call, choose, repeat, enclosed}
use Rattle.mv_ir.specs.Shorts.{Shorts}
use Rattle.mv_expand.specs.Expanding.{Expands, test_unless, none, same, branch, loop, enclose, place}
use Rattle.mv_expand.specs.Walking.{IsPlacedCall, Becomes, IsNext}

module _ (shorts : Shorts) (base : ℕ) where
  -- ---- what becomes of a statement that stays

  pub leaf_becomes : (tested : Bool) (x y : Stm) → y ≡ x → Becomes shorts base tested (x ∷ []) (y ∷ []) tested
  leaf_becomes tested x y e rest rest' h = subst (λ s. Expands shorts base tested (x ∷ rest) (s ∷ rest')) (sym e) (same tested x rest rest' h)

  pub if_becomes : (tested : Bool) (t t' : Tree) (a a' b b' : List Stm) → t' ≡ t → Expands shorts base tested a a' → Expands shorts base tested b b' →
      Becomes shorts base tested (at.If t a b ∷ []) (at.If t' a' b' ∷ []) tested
  if_becomes tested t t' a a' b b' e ha hb rest rest' h =
      subst (λ u. Expands shorts base tested (at.If t a b ∷ rest) (at.If u a' b' ∷ rest')) (sym e)
      (subst (λ x. Expands shorts base tested (x ∷ rest) (at.If t a' b' ∷ rest')) (rolls-If t a b)
      (subst (λ y. Expands shorts base tested (choose t a b ∷ rest) (y ∷ rest')) (rolls-If t a' b') (branch tested t a b a' b' rest rest' ha hb h)))

  pub loop_becomes : (tested : Bool) (b b' : List Stm) → Expands shorts base false b b' → Becomes shorts base tested (at.Loop b ∷ []) (at.Loop b' ∷ []) tested
  loop_becomes tested b b' hb rest rest' h =
      subst (λ x. Expands shorts base tested (x ∷ rest) (at.Loop b' ∷ rest')) (rolls-Loop b)
      (subst (λ y. Expands shorts base tested (repeat b ∷ rest) (y ∷ rest')) (rolls-Loop b') (loop tested b b' rest rest' hb h))

  pub block_becomes : (tested : Bool) (b b' : List Stm) → Expands shorts base tested b b' → Becomes shorts base tested (at.Block b ∷ []) (at.Block b' ∷ []) tested
  block_becomes tested b b' hb rest rest' h =
      subst (λ x. Expands shorts base tested (x ∷ rest) (at.Block b' ∷ rest')) (rolls-Block b)
      (subst (λ y. Expands shorts base tested (enclosed b ∷ rest) (y ∷ rest')) (rolls-Block b') (enclose tested b b' rest rest' hb h))

  -- ---- the next statement

  pub next_placed : (tested : Bool) (s : Stm) (before tests placed made : List Stm) → IsPlacedCall shorts base s placed → tests ≡ before ++ test_unless tested →
      made ≡ tests ++ placed → IsNext shorts base tested s before made true
  next_placed tested s before tests placed made k et e = record {
    part = test_unless tested ++ placed;
    is = e ∙ ap (λ l. l ++ placed) et ∙ append_assoc before (test_unless tested) placed;
    becomes = λ rest rest' h.
        subst (λ x. Expands shorts base tested (x ∷ rest) ((test_unless tested ++ placed) ++ rest')) (sym k.is)
        (subst (Expands shorts base tested (call k.target (callee.Direct k.function) k.args ∷ rest)) (sym (append_assoc (test_unless tested) placed rest'))
        (place tested k.target k.function k.args k.body placed rest rest' k.short k.placed h));
  }

  pub with_test : (tested : Bool) (none_given : List Tree) (made tests : List Stm) → none_given ≡ [] → tested ≡ false →
      tests ≡ made ++ at.Call None callee.Expanded none_given ∷ [] → tests ≡ made ++ test_unless tested
  with_test tested none_given made tests en et e =
      e ∙ ap (λ l. made ++ at.Call None callee.Expanded l ∷ []) en ∙ ap (λ s. made ++ s ∷ []) (sym (rolls-Call None callee.Expanded [])) ∙ ap (λ b. made ++ test_unless b) (sym et)

  pub without_test : (tested : Bool) (made tests : List Stm) → tested ≡ true → tests ≡ made → tests ≡ made ++ test_unless tested
  without_test tested made tests et e = e ∙ sym (append-nil made) ∙ ap (λ b. made ++ test_unless b) (sym et)

  -- ---- the walk

  pub walk_begins : (tested : Bool) (code made : List Stm) → code ≡ [] → made ≡ [] → Becomes shorts base tested code made tested
  walk_begins tested code made e e' rest rest' h =
      subst (λ l. Expands shorts base tested (l ++ rest) (made ++ rest')) (sym e) (subst (λ l. Expands shorts base tested rest (l ++ rest')) (sym e') h)

  pub walk_next : (first tested after : Bool) (code before made : List Stm) (i : ℕ) (d s : Stm) → i < length code → s ≡ get_or code i d →
      Becomes shorts base first (take i code) before tested → IsNext shorts base tested s before made after →
      Becomes shorts base first (take (i + 1) code) made after
  walk_next first tested after code before made i d s lt is h k rest rest' g =
      let longer : take (i + 1) code ++ rest ≡ take i code ++ s ∷ rest =
      ap (λ l. l ++ rest) (take_more code i d lt ∙ ap (λ x. take i code ++ x ∷ []) (sym is)) ∙ append_assoc (take i code) (s ∷ []) rest
      in
      subst (λ l. Expands shorts base first l (made ++ rest')) (sym longer)
      (subst (Expands shorts base first (take i code ++ s ∷ rest)) (sym (ap (λ l. l ++ rest') k.is ∙ append_assoc before k.part rest'))
      (h (s ∷ rest) (k.part ++ rest') (k.becomes rest rest' g)))

  pub walk_ends : (first tested : Bool) (code begun made : List Stm) → begun ≡ code → Becomes shorts base first begun made tested → Expands shorts base first code made
  walk_ends first tested code begun made e h =
      subst (λ l. Expands shorts base first l made) (append-nil begun ∙ e) (subst (Expands shorts base first (begun ++ [])) (append-nil made) (h [] [] (none tested)))

  -- ---- code in which nothing is placed

  pub all_same : (tested : Bool) (code : List Stm) → Expands shorts base tested code code
  all_same tested [] = none tested
  all_same tested (s ∷ code) = same tested s code code (all_same tested code)

pub nothing_placed : (base : ℕ) (tested : Bool) (code made : List Stm) → Expands [] base tested code made → made ≡ code
nothing_placed base tested code made (none u) = refl
nothing_placed base tested code made (same u s rest rest' h) = ap (λ l. s ∷ l) (nothing_placed base u rest rest' h)
nothing_placed base tested code made (branch u t a b a' b' rest rest' ha hb h) =
    λ i. choose t (nothing_placed base u a a' ha i) (nothing_placed base u b b' hb i) ∷ nothing_placed base u rest rest' h i
nothing_placed base tested code made (loop u b b' rest rest' hb h) = λ i. repeat (nothing_placed base false b b' hb i) ∷ nothing_placed base u rest rest' h i
nothing_placed base tested code made (enclose u b b' rest rest' hb h) = λ i. enclosed (nothing_placed base u b b' hb i) ∷ nothing_placed base u rest rest' h i
nothing_placed base tested code made (place u r f args b placed rest rest' there p h) = cc

pub ruleset becoming = (leaf_becomes, if_becomes, loop_becomes, block_becomes)
