-- The arms of a `switch`, one after the other.
use Rattle.std.proofs.Common.{◌≡◌, ℕ, suc, ◌+◌, ◌<◌, ◌≤◌, true, false, List, [], ◌∷◌, ◌++◌, map, drop, length, get_or, max, refl, sym, ap, ◌∙◌, arith, append-nil}
use Rattle.std.proofs.Math.Seq.{drop-cons}
use Rattle.std.proofs.lemmas.List.{drop_all}
use Rattle.mv_ast.specs.declared.program.Function.{Function}
use Rattle.mv_ast.specs.declared.program.Arm.{Arm}
use Rattle.mv_ir.specs.declared.stm.Stm.{Stm}
use Rattle.mv_lower_spec.specs.Lowered.{number, temp, binary, set, choose, is_empty}
use Rattle.mv_lower_spec.specs.Statements.{Jumps, Code, LoweredArm, in_arm, arm_code, arms_code, arms_top}
use Rattle.mv_lower.specs.Statements.{stmts_at, arm_at}
use Rattle.mv_lower.specs.Switches.{arms_of}
use Rattle.mv_lower.proofs.Sequences.{same_code}
use Rattle.mv_lower.proofs.StatementForms.{arm_is}
use Rattle.mv_num.proofs.Booleans.{from_falsity}

-- the next item and the rest
pub next_item : {A : Type 0} (xs : List A) (i : ℕ) (x : A) → i < length xs → x ≡ get_or xs i x → drop i xs ≡ x ∷ drop (i + 1) xs
next_item xs i x h e = let s : suc i ≡ i + 1 = omega arith in drop-cons xs i x h ∙ (ap (λ y. y ∷ drop (suc i) xs) (sym e) ∙ ap (λ k. x ∷ drop k xs) s)

pub arm_none : (n i : ℕ) (code : List Stm) → is_empty code ≡ true → arm_code n i code ≡ code
arm_none n i [] e = refl
arm_none n i (x ∷ xs) e = from_falsity e

pub arm_some : (n i : ℕ) (code : List Stm) → is_empty code ≡ false → arm_code n i code ≡ choose (binary 10 (number i) (temp n)) [] (code ++ set n (number 0) ∷ []) ∷ []
arm_some n i [] e = from_falsity (sym e)
arm_some n i (x ∷ xs) e = refl

pub ruleset arm_forms = (arm_none, arm_some)

module _ (ps : List ℕ) (g : Function) (j : Jumps) where
  abbrev codes : ℕ → List Arm → List Stm
  codes i arms = arms_code (length g.locals) i (map (arm_at ps g) arms) j

  abbrev tops : List Arm → ℕ
  tops arms = arms_top (length g.locals) (map (arm_at ps g) arms) j

  pub code_step : (i : ℕ) (a : Arm) (rest : List Arm) → codes i (a ∷ rest) ≡ arm_code (length g.locals) i (stmts_at ps g a.body (in_arm j)).code ++ codes (suc i) rest
  code_step i a rest = ap (λ (x : LoweredArm). arm_code (length g.locals) i (x.body (in_arm j)).code ++ codes (suc i) rest) (arm_is ps g a)

  pub top_step : (a : Arm) (rest : List Arm) → tops (a ∷ rest) ≡ max (stmts_at ps g a.body (in_arm j)).top (tops rest)
  top_step a rest = ap (λ (x : LoweredArm). max (x.body (in_arm j)).top (tops rest)) (arm_is ps g a)

  pub arms_least : (arms : List Arm) → length g.locals ≤ tops arms
  arms_least [] = omega arith
  arms_least (a ∷ arms) = let h = arms_least arms in omega (arith, h)

  -- behind the last arm
  pub arms_end : (code : List Stm) (arms : List Arm) (i top : ℕ) → length arms ≤ i → length g.locals ≤ top → code ++ codes i (drop i arms) ≡ codes 0 arms → max top (tops (drop i arms)) ≡ tops arms →
      (let c : Code = record { code = code; top = top } in c) ≡ arms_of ps g arms j
  unfolding arms_of
  arms_end code arms i top h low e f =
      let none : drop i arms ≡ [] = drop_all i arms h in
      let last : tops (drop i arms) ≡ length g.locals = ap (λ (l : List Arm). tops l) none in
      same_code (sym (ap (λ (l : List Arm). code ++ codes i l) none ∙ append-nil code) ∙ e) (omega (arith, last, f, low))
