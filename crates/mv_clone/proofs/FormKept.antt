-- The replacement of reads leaves a body well formed.
use Rattle.std.proofs.Common.{◌≡◌, ◌≤◌, ◌^◌, ℕ, ◌+◌, cond, Bool, true, false, ◌&&◌, List, [], ◌∷◌, map, refl, subst, sym, ap, ◌∙◌}
use Rattle.std.specs.Prelude.{nat_lt, nat_eq}
use Rattle.std.specs.List.{filter}
use Rattle.mv_ir.specs.declared.stm.Array.{Array}
use Rattle.mv_ir.specs.declared.stm.Callee.{Callee}
use Rattle.mv_ir.specs.declared.stm.Callee.TheVariants as callee
use Rattle.mv_ir.specs.declared.stm.Stm.TheOpen.{Stm-F}
use Rattle.mv_ir.specs.declared.stm.Stm.TheOpen as stm
use Rattle.mv_ir.specs.declared.body.Body.{Body}
use Rattle.mv_ir.specs.Measures.{joined, statements, tree_nodes, scalars_read}
use Rattle.mv_ir.specs.WellFormed.{all_true, all_around, layer_targets, stm_targets, callee_named, layer_named, stm_named, named, has_room, is_there, known_arguments, layer_arguments, stm_arguments, IsWellFormed}
use Rattle.mv_ir.proofs.Rolls.{targets_roll, named_roll, arguments_roll}
use Rattle.mv_clone.specs.Bind.{bound_tree, bound_callee, bound_layer, bound_code, is_free}
use Rattle.mv_clone.proofs.Kept.{blind_all}
use Rattle.mv_clone.proofs.FlowsKept.{temps_kept}
use Rattle.mv_num.proofs.Lists.{length_map}

-- what holds of all holds of those that are left of them
all_of_some : (p q : ℕ → Bool) (xs : List ℕ) → all_true (map p xs) ≡ true → all_true (map p (filter q xs)) ≡ true
all_of_some p q [] h = h
all_of_some p q (x ∷ xs) h = by (q x) (all_of_some p q xs)
  where
    both : (a r s : Bool) → (r ≡ true → s ≡ true) → a && r ≡ true → a && s ≡ true
    both true r s f e = f e
    both false r s f e = e

    second : (a r s : Bool) → (r ≡ true → s ≡ true) → a && r ≡ true → s ≡ true
    second true r s f e = f e
    second false r s f e = cc

    by : (c : Bool) → (all_true (map p xs) ≡ true → all_true (map p (filter q xs)) ≡ true) → all_true (map p (cond c (x ∷ filter q xs) (filter q xs))) ≡ true
    by true f = both (p x) (all_true (map p xs)) (all_true (map p (filter q xs))) f h
    by false f = second (p x) (all_true (map p xs)) (all_true (map p (filter q xs))) f h

module _ (ps : List (ℕ × ℕ)) where
  targets_blind : (x : Stm-F (List Bool → Bool)) → layer_targets (bound_layer ps x) ≡ layer_targets x
  targets_blind (stm.Set t v) = refl
  targets_blind (stm.SetGlobal k v) = refl
  targets_blind (stm.Divide t o a b) = refl
  targets_blind (stm.Check a i) = refl
  targets_blind (stm.Read t a i) = refl
  targets_blind (stm.Write a i v) = refl
  targets_blind (stm.Zero l) = refl
  targets_blind (stm.If t a b) = refl
  targets_blind (stm.Loop b) = refl
  targets_blind (stm.Block b) = refl
  targets_blind (stm.Break n) = refl
  targets_blind (stm.Back n) = refl
  targets_blind (stm.Call r f args) = refl
  targets_blind (stm.Known r k args) = refl
  targets_blind (stm.Return v) = refl

  callee_named_bound : (f : Callee) → callee_named (bound_callee ps f) ≡ callee_named f
  callee_named_bound (callee.Direct f) = refl
  callee_named_bound (callee.Through t) = refl
  callee_named_bound (callee.Switched g) = refl
  callee_named_bound callee.Expanded = refl

  named_blind : (x : Stm-F (List Array)) → layer_named (bound_layer ps x) ≡ layer_named x
  named_blind (stm.Set t v) = refl
  named_blind (stm.SetGlobal k v) = refl
  named_blind (stm.Divide t o a b) = refl
  named_blind (stm.Check a i) = refl
  named_blind (stm.Read t a i) = refl
  named_blind (stm.Write a i v) = refl
  named_blind (stm.Zero l) = refl
  named_blind (stm.If t a b) = refl
  named_blind (stm.Loop b) = refl
  named_blind (stm.Block b) = refl
  named_blind (stm.Break n) = refl
  named_blind (stm.Back n) = refl
  named_blind (stm.Call r f args) = callee_named_bound f
  named_blind (stm.Known r k args) = refl
  named_blind (stm.Return v) = refl

  arguments_blind : (x : Stm-F Bool) → layer_arguments (bound_layer ps x) ≡ layer_arguments x
  arguments_blind (stm.Set t v) = refl
  arguments_blind (stm.SetGlobal k v) = refl
  arguments_blind (stm.Divide t o a b) = refl
  arguments_blind (stm.Check a i) = refl
  arguments_blind (stm.Read t a i) = refl
  arguments_blind (stm.Write a i v) = refl
  arguments_blind (stm.Zero l) = refl
  arguments_blind (stm.If t a b) = refl
  arguments_blind (stm.Loop b) = refl
  arguments_blind (stm.Block b) = refl
  arguments_blind (stm.Break n) = refl
  arguments_blind (stm.Back n) = refl
  arguments_blind (stm.Call r f args) = ap (λ n. nat_lt n 9) (length_map (bound_tree ps) args)
  arguments_blind (stm.Known r k args) = ap (λ n. nat_eq n (known_arguments k)) (length_map (bound_tree ps) args)
  arguments_blind (stm.Return v) = refl

  -- from what else the replacement keeps
  pub form_kept : (b r : Body) → r.params ≡ b.params → r.temps ≡ b.temps → r.arrays ≡ b.arrays → r.code ≡ bound_code ps b.code → r.rooms ≡ b.rooms →
      scalars_read r.code ≡ filter (is_free ps) (scalars_read b.code) → statements r.code ≡ statements b.code → tree_nodes r.code ≡ tree_nodes b.code →
      IsWellFormed b → IsWellFormed r
  form_kept b r ep et ea ec er scalars size trees h =
      let same_named : named r.code ≡ named b.code = ap named ec ∙ ap joined (blind_all ps stm_named layer_named named_roll named_blind b.code) in
      record {
        temps = temps_kept ps b r ep et ec h.temps;
        params = subst (λ n. n ≤ 8) (sym ep) h.params;
        targets = ap (λ c. all_around (map stm_targets c) (false ∷ [])) ec ∙ ap (λ ts. all_around ts (false ∷ [])) (blind_all ps stm_targets layer_targets targets_roll targets_blind b.code) ∙ h.targets;
        named =
            ap (λ rooms. all_true (map (is_there rooms r.arrays) (named r.code))) er ∙
            ap (λ sizes. all_true (map (is_there b.rooms sizes) (named r.code))) ea ∙
            ap (λ names. all_true (map (is_there b.rooms b.arrays) names)) same_named ∙ h.named;
        read =
            ap (λ rooms. all_true (map (has_room rooms) (scalars_read r.code))) er ∙
            ap (λ gs. all_true (map (has_room b.rooms) gs)) scalars ∙ all_of_some (has_room b.rooms) (is_free ps) (scalars_read b.code) h.read;
        arguments = ap (λ c. all_true (map stm_arguments c)) ec ∙ ap all_true (blind_all ps stm_arguments layer_arguments arguments_roll arguments_blind b.code) ∙ h.arguments;
        size = subst (λ n. n + tree_nodes r.code ≤ 2 ^ 30) (sym size) (subst (λ n. statements b.code + n ≤ 2 ^ 30) (sym trees) h.size);
      }
