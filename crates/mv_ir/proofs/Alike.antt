-- Statements whose trees have the same values and whose parts keep the meaning keep it, in frames that may read
-- their switches differently.
use Rattle.std.proofs.Common.{◌≡◌, ℕ, ◌+◌, ◌*◌, ◌≤◌, cond, eqb, ltb, List, [], ◌∷◌, map, length, refl, ◌∙◌, subst, ap, arith, Option, Some}
use Rattle.std.specs.Prelude.{slice_index, slice_set, slice_index_or}
use Rattle.mv_ir.specs.declared.tree.Tree.{Tree}
use Rattle.mv_ir.specs.declared.stm.Array.{Array}
use Rattle.mv_ir.specs.declared.stm.Callee.{Callee}
use Rattle.mv_ir.specs.declared.stm.Callee.TheVariants as callee
use Rattle.mv_ast.specs.declared.program.Known.{Known}
use Rattle.mv_ir.specs.declared.stm.Stm.TheOpen.{Stm-F}
use Rattle.mv_ir.specs.declared.stm.Stm.TheOpen as stm
use Rattle.mv_ir.specs.World.{Setting, Frame}
use Rattle.mv_ir.specs.Trees.{Value, value, nodes, nodes_of_all, divide}
use Rattle.mv_ir.specs.Outcome.{State, Returned, Outcome, Next, Ends, Meaning, in_order}
use Rattle.mv_ir.specs.Meaning.{elements, outside, with_temp, with_world, with_global, with_elements, traps, At, goal_of, goal, callee_nodes, call_cost, call_to, known_end, statement}
use Rattle.mv_ir.specs.Keeps.{KeepsRun, KeepsMeaning}
use Rattle.mv_ir.proofs.Keeping.{run_refl, run_equal, spend_keeps, loop_keeps, block_keeps, either_keeps}

-- the same value, with no more nodes
pub record SameTree (numbers : List ℕ) (bound bound' : List (ℕ × ℕ)) (t t' : Tree) : Type 0 where
  pub value : value numbers bound t ≡ value numbers bound' t'
  pub smaller : nodes t' ≤ nodes t

abbrev pub frame_of : ℕ → ℕ → List (ℕ × ℕ) → Frame
frame_of depth live bound = record { depth = depth; live = live; bound = bound }

module _ (setting : Setting) (depth live : ℕ) (bound bound' : List (ℕ × ℕ)) where
  abbrev Same : Tree → Tree → Type 0
  Same = SameTree setting.numbers bound bound'

  abbrev pub SameTrees : List Tree → List Tree → Type 0
  SameTrees [] [] = Unit {0}
  SameTrees [] (t' ∷ ts') = ⊥
  SameTrees (t ∷ ts) [] = ⊥
  SameTrees (t ∷ ts) (t' ∷ ts') = Same t t' × SameTrees ts ts'

  abbrev pub SameCallee : Callee → Callee → Type 0
  SameCallee (callee.Direct f) (callee.Direct f') = f ≡ f'
  SameCallee (callee.Through t) (callee.Through t') = Same t t'
  SameCallee (callee.Switched g) (callee.Switched g') = g ≡ g'
  SameCallee callee.Expanded callee.Expanded = Unit {0}
  SameCallee _ _ = ⊥

  abbrev F : Frame
  F = frame_of depth live bound

  abbrev F' : Frame
  F' = frame_of depth live bound'

  abbrev act : Stm-F Meaning → Meaning
  act = statement setting F

  abbrev act' : Stm-F Meaning → Meaning
  act' = statement setting F'

  -- of one tree's value alone
  one_alike : (f : Value → State → Outcome) (n : ℕ) (t t' : Tree) (s : State) → Same t t' →
      KeepsRun (record { cost = n + 3 * nodes t; outcome = f (value setting.numbers bound t) s }) (record { cost = n + 3 * nodes t'; outcome = f (value setting.numbers bound' t') s })
  one_alike f n t t' s h = record { same = ap (λ v. f v s) h.value; cheaper = omega (arith, h.smaller) }

  two_alike : (f : Value → Value → State → Outcome) (t t' u u' : Tree) (s : State) → Same t t' → Same u u' →
      KeepsRun (record { cost = 8 + 3 * (nodes t + nodes u); outcome = f (value setting.numbers bound t) (value setting.numbers bound u) s }) (record { cost = 8 + 3 * (nodes t' + nodes u'); outcome = f (value setting.numbers bound' t') (value setting.numbers bound' u') s })
  two_alike f t t' u u' s h k = record {
    same = ap (λ v. f v (value setting.numbers bound u) s) h.value ∙ ap (λ w. f (value setting.numbers bound' t') w s) k.value;
    cheaper = omega (arith, h.smaller, k.smaller);
  }

  pub set_alike : (t : ℕ) (v v' : Tree) → Same v v' → KeepsMeaning (act (stm.Set t v)) (act' (stm.Set t v'))
  set_alike t v v' h b s = one_alike (λ x s. Next (with_temp s t (x s.temps s.world.globals))) 8 v v' s h

  pub set_global_alike : (g : ℕ) (v v' : Tree) → Same v v' → KeepsMeaning (act (stm.SetGlobal g v)) (act' (stm.SetGlobal g v'))
  set_global_alike g v v' h b s =
      one_alike (λ x s. Next (with_world s (with_global s.world g (slice_set (slice_index_or s.world.globals g []) 0 (x s.temps s.world.globals))))) 8 v v' s h

  pub divide_alike : (t o : ℕ) (x x' y y' : Tree) → Same x x' → Same y y' → KeepsMeaning (act (stm.Divide t o x y)) (act' (stm.Divide t o x' y'))
  divide_alike t o x x' y y' h k b s =
      two_alike (λ v w s. cond (eqb (w s.temps s.world.globals) 0) (traps 1 s) (Next (with_temp s t (divide o (v s.temps s.world.globals) (w s.temps s.world.globals))))) x x' y y' s h k

  pub check_alike : (a : Array) (i i' : Tree) → Same i i' → KeepsMeaning (act (stm.Check a i)) (act' (stm.Check a i'))
  check_alike a i i' h b s = one_alike (λ v s. cond (ltb (v s.temps s.world.globals) (length (elements a s))) (Next s) (Ends (outside a (v s.temps s.world.globals) s.world))) 8 i i' s h

  pub read_alike : (t : ℕ) (a : Array) (i i' : Tree) → Same i i' → KeepsMeaning (act (stm.Read t a i)) (act' (stm.Read t a i'))
  read_alike t a i i' h b s =
      one_alike (λ v s. cond (ltb (v s.temps s.world.globals) (length (elements a s))) (Next (with_temp s t (slice_index (elements a s) (v s.temps s.world.globals)))) (Ends (outside a (v s.temps s.world.globals) s.world))) 8 i i' s h

  pub write_alike : (a : Array) (i i' v v' : Tree) → Same i i' → Same v v' → KeepsMeaning (act (stm.Write a i v)) (act' (stm.Write a i' v'))
  write_alike a i i' v v' h k b s =
      two_alike (λ x y s. cond (ltb (x s.temps s.world.globals) (length (elements a s))) (Next (with_elements a s (slice_set (elements a s) (x s.temps s.world.globals) (y s.temps s.world.globals)))) (Ends (outside a (x s.temps s.world.globals) s.world))) i i' v v' s h k

  pub zero_alike : (l : ℕ) → KeepsMeaning (act (stm.Zero l)) (act' (stm.Zero l))
  zero_alike l b s = run_refl _

  pub break_alike : (n : ℕ) → KeepsMeaning (act (stm.Break n)) (act' (stm.Break n))
  break_alike n b s = run_refl _

  pub back_alike : (n : ℕ) → KeepsMeaning (act (stm.Back n)) (act' (stm.Back n))
  back_alike n b s = run_refl _

  pub return_alike : (v v' : Tree) → Same v v' → KeepsMeaning (act (stm.Return v)) (act' (stm.Return v'))
  return_alike v v' h b s = one_alike (λ x s. Ends (Returned (Some (x s.temps s.world.globals)) s.world)) 8 v v' s h

  -- ---- of several trees

  abbrev values : List Tree → State → List ℕ
  values ts s = map (λ t. value setting.numbers bound t s.temps s.world.globals) ts

  abbrev values' : List Tree → State → List ℕ
  values' ts s = map (λ t. value setting.numbers bound' t s.temps s.world.globals) ts

  same_values : (ts ts' : List Tree) (s : State) → SameTrees ts ts' → values ts s ≡ values' ts' s
  same_values [] [] s h = refl
  same_values [] (t' ∷ ts') s h = absurd h
  same_values (t ∷ ts) [] s h = absurd h
  same_values (t ∷ ts) (t' ∷ ts') s h =
      ap (λ v. v s.temps s.world.globals ∷ values ts s) h.0.value ∙ ap (λ l. value setting.numbers bound' t' s.temps s.world.globals ∷ l) (same_values ts ts' s h.1)

  smaller_trees : (ts ts' : List Tree) → SameTrees ts ts' → nodes_of_all ts' ≤ nodes_of_all ts
  smaller_trees [] [] h = omega arith
  smaller_trees [] (t' ∷ ts') h = absurd h
  smaller_trees (t ∷ ts) [] h = absurd h
  smaller_trees (t ∷ ts) (t' ∷ ts') h = omega (arith, h.0.smaller, smaller_trees ts ts' h.1)

  pub known_alike : (r : Option ℕ) (k : Known) (args args' : List Tree) → SameTrees args args' → KeepsMeaning (act (stm.Known r k args)) (act' (stm.Known r k args'))
  known_alike r k args args' h b s =
      let less = smaller_trees args args' h in
      spend_keeps (30 + 3 * nodes_of_all args) (30 + 3 * nodes_of_all args') _ _ (omega (arith, less))
      (run_equal _ _ (ap (λ l. known_end setting F r s (setting.known k l live s.world)) (same_values args args' s h)))

  same_goal : (f f' : Callee) (s : State) → SameCallee f f' → goal setting F f s ≡ goal setting F' f' s
  same_goal (callee.Direct f) (callee.Direct f') s h = ap At h
  same_goal (callee.Through t) (callee.Through t') s h = ap (λ v. goal_of setting.numbers (v s.temps s.world.globals)) h.value
  same_goal (callee.Switched g) (callee.Switched g') s h = ap (λ k. goal_of setting.numbers (setting.switched k s.world)) h
  same_goal callee.Expanded callee.Expanded s h = refl
  same_goal _ _ s h = absurd h

  smaller_callee : (f f' : Callee) → SameCallee f f' → callee_nodes setting F' f' ≤ callee_nodes setting F f
  smaller_callee (callee.Direct f) (callee.Direct f') h = omega arith
  smaller_callee (callee.Through t) (callee.Through t') h = h.smaller
  smaller_callee (callee.Switched g) (callee.Switched g') h = omega arith
  smaller_callee callee.Expanded callee.Expanded h = omega arith
  smaller_callee _ _ h = absurd h

  same_cost : (f f' : Callee) → SameCallee f f' → call_cost f' ≡ call_cost f
  same_cost (callee.Direct f) (callee.Direct f') h = refl
  same_cost (callee.Through t) (callee.Through t') h = refl
  same_cost (callee.Switched g) (callee.Switched g') h = refl
  same_cost callee.Expanded callee.Expanded h = refl
  same_cost _ _ h = absurd h

  pub call_alike : (r : Option ℕ) (f f' : Callee) (args args' : List Tree) → SameCallee f f' → SameTrees args args' → KeepsMeaning (act (stm.Call r f args)) (act' (stm.Call r f' args'))
  call_alike r f f' args args' hf h b s =
      let less = smaller_trees args args' h in
      let less_callee = smaller_callee f f' hf in
      let cost = same_cost f f' hf in
      spend_keeps (call_cost f + 3 * (callee_nodes setting F f + nodes_of_all args)) (call_cost f' + 3 * (callee_nodes setting F' f' + nodes_of_all args')) _ _ (omega (arith, less, less_callee, cost))
      (run_equal _ _ (ap (λ g. call_to g depth live r (values args s) b s) (same_goal f f' s hf) ∙ ap (λ l. call_to (goal setting F' f' s) depth live r l b s) (same_values args args' s h)))

  -- ---- of parts

  pub if_alike : (t t' : Tree) (x x' y y' : List Meaning) → Same t t' → KeepsMeaning (in_order x) (in_order x') → KeepsMeaning (in_order y) (in_order y') → KeepsMeaning (act (stm.If t x y)) (act' (stm.If t' x' y'))
  if_alike t t' x x' y y' ht hx hy b s =
      spend_keeps (8 + 3 * nodes t) (8 + 3 * nodes t') _ _ (omega (arith, ht.smaller))
      (subst (λ v. KeepsRun (cond (eqb (value setting.numbers bound t s.temps s.world.globals) 0) (in_order y b s) (in_order x b s)) (cond (eqb (v s.temps s.world.globals) 0) (in_order y' b s) (in_order x' b s))) ht.value
      (either_keeps (eqb (value setting.numbers bound t s.temps s.world.globals) 0) _ _ _ _ (hy b s) (hx b s)))

  pub loop_alike : (x x' : List Meaning) → KeepsMeaning (in_order x) (in_order x') → KeepsMeaning (act (stm.Loop x)) (act' (stm.Loop x'))
  loop_alike x x' h = loop_keeps (in_order x) (in_order x') h

  pub block_alike : (x x' : List Meaning) → KeepsMeaning (in_order x) (in_order x') → KeepsMeaning (act (stm.Block x)) (act' (stm.Block x'))
  block_alike x x' h = block_keeps (in_order x) (in_order x') h
