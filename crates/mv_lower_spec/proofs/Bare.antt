-- Arms without a label: at most two, the first and the `default`, where all are labelled as they should be.
use Rattle.std.proofs.Common.{◌≡◌, ℕ, ◌+◌, ◌≤◌, Bool, true, false, not, List, [], ◌∷◌, map, refl, sym, ◌∙◌, ap, arith, if◌then◌else◌}
use Rattle.std.specs.Prelude.{◌&&◌, ◌||◌}
use Rattle.mv_ast.specs.declared.program.Stmt.{Stmt}
use Rattle.mv_ast.specs.declared.program.Arm.{Arm, out-Arm, map-Arm, fold_out-Arm}
use Rattle.mv_ast.specs.Names.{any_of}
use Rattle.mv_source_forms.specs.Lists.{all_of}
use Rattle.mv_source_forms.specs.Labels.{at_most_one, has_label, ArmLabels, later_arms, arms_labelled, labels_layer, arm_labels_layer, stmt_labelled, arm_labels}
use Rattle.mv_num.proofs.Booleans.{and_cases, from_falsity}
use Rattle.std.proofs.lemmas.Bool.{not-true}

-- 1 for an arm without labels
abbrev pub bare_of : List ℕ → ℕ
bare_of [] = 1
bare_of (l ∷ ls) = 0

abbrev pub bare : Arm → ℕ
bare a = bare_of (out-Arm a).labels

abbrev pub bare_arms : List Arm → ℕ
bare_arms [] = 0
bare_arms (a ∷ arms) = bare a + bare_arms arms

abbrev defaults : List Arm → List Bool
defaults arms = map (λ (a : ArmLabels). a.is_default) (map arm_labels arms)

abbrev labelled : List Arm → Bool
labelled arms = all_of (map (λ (a : ArmLabels). a.is_labelled) (map arm_labels arms))

pub labels_of : (a : Arm) → arm_labels a ≡ arm_labels_layer (map-Arm Stmt Arm Bool ArmLabels stmt_labelled arm_labels (out-Arm a))
labels_of a = fold_out-Arm Bool ArmLabels labels_layer arm_labels_layer a

at_most_bare : (a : Arm) → bare a ≤ 1
at_most_bare a = by (out-Arm a).labels
  where
    by : (ls : List ℕ) → bare_of ls ≤ 1
    by [] = omega arith
    by (l ∷ ls) = omega arith

not_bare : (a : Arm) → (arm_labels a).is_labelled ≡ true → (arm_labels a).is_default ≡ false → bare a ≤ 0
not_bare a e d =
    by (out-Arm a).labels (out-Arm a).other (sym (ap (λ (z : ArmLabels). z.is_labelled) (labels_of a)) ∙ e) (sym (ap (λ (z : ArmLabels). z.is_default) (labels_of a)) ∙ d)
  where
    by : (ls : List ℕ) (other : Bool) → (has_label ls || other) ≡ true → other ≡ false → bare_of ls ≤ 0
    by [] true e d = from_falsity (sym d)
    by [] false e d = from_falsity e
    by (l ∷ ls) other e d = omega arith

none_bare : (arms : List Arm) → labelled arms ≡ true → any_of (defaults arms) ≡ false → bare_arms arms ≤ 0
none_bare [] h e = omega arith
none_bare (a ∷ arms) h e =
    let s = and_cases (arm_labels a).is_labelled (labelled arms) h in
    by (arm_labels a).is_default e (not_bare a s.0) (none_bare arms s.1)
  where
    by : (d : Bool) → (d || any_of (defaults arms)) ≡ false → (d ≡ false → bare a ≤ 0) → (any_of (defaults arms) ≡ false → bare_arms arms ≤ 0) → bare a + bare_arms arms ≤ 0
    by true e here rest = from_falsity (sym e)
    by false e here rest = let x = here refl in let y = rest e in omega (arith, x, y)

one_bare : (arms : List Arm) → labelled arms ≡ true → at_most_one (defaults arms) ≡ true → bare_arms arms ≤ 1
one_bare [] h e = omega arith
one_bare (a ∷ arms) h e =
    let s = and_cases (arm_labels a).is_labelled (labelled arms) h in
    by (arm_labels a).is_default e (not_bare a s.0) (none_bare arms s.1) (one_bare arms s.1)
  where
    by : (d : Bool) → (if d then not (any_of (defaults arms)) else at_most_one (defaults arms)) ≡ true → (d ≡ false → bare a ≤ 0) → (any_of (defaults arms) ≡ false → bare_arms arms ≤ 0) →
        (at_most_one (defaults arms) ≡ true → bare_arms arms ≤ 1) → bare a + bare_arms arms ≤ 1
    by true e here none one = let x = at_most_bare a in let y = none (not-true (any_of (defaults arms)) e) in omega (arith, x, y)
    by false e here none one = let x = here refl in let y = one e in omega (arith, x, y)

-- the first, and the `default`
two_bare : (arms : List Arm) → all_of (map (λ (a : ArmLabels). a.is_labelled) (later_arms (map arm_labels arms))) ≡ true → at_most_one (defaults arms) ≡ true → bare_arms arms ≤ 2
two_bare [] h e = omega arith
two_bare (a ∷ arms) h e = by (arm_labels a).is_default e
  where
    by : (d : Bool) → (if d then not (any_of (defaults arms)) else at_most_one (defaults arms)) ≡ true → bare a + bare_arms arms ≤ 2
    by true e = let x = at_most_bare a in let y = none_bare arms h (not-true (any_of (defaults arms)) e) in omega (arith, x, y)
    by false e = let x = at_most_bare a in let y = one_bare arms h e in omega (arith, x, y)

-- the arms of a `switch`: few have no label, and what is in each is labelled
pub record LabelledArms (arms : List Arm) : Type 0 where
  pub few : bare_arms arms ≤ 2
  pub inside : all_of (map (λ (a : ArmLabels). a.holds) (map arm_labels arms)) ≡ true

pub labelled_switch : (arms : List Arm) → arms_labelled (map arm_labels arms) ≡ true → LabelledArms arms
labelled_switch arms e =
    let rest = all_of (map (λ (a : ArmLabels). a.is_labelled) (later_arms (map arm_labels arms))) in
    let inside = all_of (map (λ (a : ArmLabels). a.holds) (map arm_labels arms)) in
    let s = and_cases (at_most_one (defaults arms)) (rest && inside) e in
    let t = and_cases rest inside s.1 in
    record { few = two_bare arms t.0 s.0; inside = t.1 }
