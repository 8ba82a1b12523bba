-- The arm of a `switch` to which a value leads.
use Rattle.std.proofs.Common.{◌≡◌, ℕ, suc, Bool, true, false, if◌then◌else◌, List, [], ◌∷◌, ◌++◌, map, drop, refl, ◌∙◌, ap}
use Rattle.mv_ast.specs.declared.program.Program.{Program}
use Rattle.mv_ast.specs.declared.program.Arm.{Arm}
use Rattle.mv_ast.specs.Worlds.{World, Outcome, bind, counted}
use Rattle.mv_meaning.specs.declared.state.Frame.{Frame}
use Rattle.mv_meaning.specs.declared.state.Flow.{Flow}
use Rattle.mv_meaning.specs.Meaning.{Evaluation, Context, ArmDenotation, Tried, tried_labels, labels_of, bodies_of, bodies_from, in_order, after_switch, switch_flow, arm_of}
use Rattle.mv_meaning.specs.Arms.{index_of, has_label, has_default, all_labels, first_arm}
use Rattle.mv_meaning.specs.Loops.{arms_from}
use Rattle.mv_meaning.proofs.Equations.{arm_of_lem}

module _ (p : Program) (context : Context) where
  labels_same : (arms : List Arm) → labels_of (map (arm_of p context) arms) ≡ all_labels arms
  labels_same [] = refl
  labels_same (a ∷ arms) =
      ap (λ (d : ArmDenotation). d.labels ++ labels_of (map (arm_of p context) arms)) (arm_of_lem p context a) ∙ ap (λ ls. a.labels ++ ls) (labels_same arms)

  module _ (is_picked : ArmDenotation → Bool) (is_same : Arm → Bool) (same : (a : Arm) → is_picked (arm_of p context a) ≡ is_same a) where
    picked : (arms : List Arm) → bodies_from is_picked (map (arm_of p context) arms) ≡ bodies_of (map (arm_of p context) (drop (index_of is_same arms) arms))
    picked [] = refl
    picked (a ∷ arms) =
        let all : List (Evaluation Flow) = bodies_of (map (arm_of p context) (a ∷ arms)) in
        let P : Bool → Type 0 = λ b.
        (if b then all else bodies_from is_picked (map (arm_of p context) arms)) ≡
        bodies_of (map (arm_of p context) (drop (if b then 0 else suc (index_of is_same arms)) (a ∷ arms))) in
        ap (λ b. if b then all else bodies_from is_picked (map (arm_of p context) arms)) (same a) ∙
        (elim (is_same a) as P [ true ↦ refl | false ↦ picked arms ])

  pub leads_to : (v : ℕ) (arms : List Arm) (f : Frame) (w : World) →
      switch_flow v (map (arm_of p context) arms) f w ≡
      counted (tried_labels v (all_labels arms)).labels (arms_from p context (drop (first_arm v arms) arms)) f w
  leads_to v arms f w =
      let ds : List ArmDenotation = map (arm_of p context) arms in
      let by_label : List (Evaluation Flow) = bodies_from (λ a. (tried_labels v a.labels).found) ds in
      let by_default : List (Evaluation Flow) = bodies_from (λ a. a.other) ds in
      let flow_for : Tried → Outcome Frame Flow = λ t.
      counted t.labels (bind (in_order (if t.found then by_label else by_default)) after_switch) f w in
      let t : Tried = tried_labels v (all_labels arms) in
      let P : Bool → Type 0 = λ b.
      counted t.labels (bind (in_order (if b then by_label else by_default)) after_switch) f w ≡
      counted t.labels (arms_from p context (drop (if b then index_of (has_label v) arms else index_of has_default arms) arms)) f w in
      let label_case : P true =
      ap (λ bs. counted t.labels (bind (in_order bs) after_switch) f w)
      (picked (λ a. (tried_labels v a.labels).found) (has_label v) (λ a. ap (λ (d : ArmDenotation). (tried_labels v d.labels).found) (arm_of_lem p context a)) arms) in
      let default_case : P false =
      ap (λ bs. counted t.labels (bind (in_order bs) after_switch) f w)
      (picked (λ a. a.other) has_default (λ a. ap (λ (d : ArmDenotation). d.other) (arm_of_lem p context a)) arms) in
      ap (λ ls. flow_for (tried_labels v ls)) (labels_same arms) ∙
      (elim t.found as P [ true ↦ label_case | false ↦ default_case ])
