-- No tree is deeper than 4.
use Rattle.std.proofs.Common.{◌≡◌, ℕ, ◌+◌, ◌≤◌, Bool, true, false, cond, List, [], ◌∷◌, ◌++◌, map, max, Option, Some, refl, sym, ◌∙◌, subst, ap, arith}
use Rattle.std.specs.Prelude.{◌&&◌}
use Rattle.std.proofs.lemmas.Bool.{leb-true}
use Rattle.mv_ir.specs.declared.tree.Tree.{Tree}
use Rattle.mv_ir.specs.declared.tree.Tree.TheOpen as tree
use Rattle.mv_ir.specs.declared.stm.Stm.{Stm}
use Rattle.mv_ir.specs.declared.stm.Stm.TheOpen as stm
use Rattle.mv_ir.specs.declared.stm.Array.{Array}
use Rattle.mv_ir.specs.declared.stm.Callee.{Callee}
use Rattle.mv_ir.specs.declared.stm.Callee.TheVariants as callee
use Rattle.mv_ir.specs.Trees.{depth}
use Rattle.mv_ir.specs.Measures.{joined, stm_trees, trees, callee_trees}
use Rattle.mv_ir.proofs.Induction.{Each, each_append}
use Rattle.mv_ir.proofs.Keeping.{map_append}
use Rattle.mv_ir.proofs.Rolls.{depth_roll, trees_roll}
use Rattle.mv_lower_spec.specs.Lowered.{Lowered, Lowering, Arguments, number, temp, unary, set, set_global, divide, choose, check, read, write, call, known, truth, truth_in, is_empty, is_low, kept_if, first, second, lower_one, lower_two, lower_division, lower_both, lower_either, lower_choice, lower_set_local, lower_set_global, lower_all, result_tree, lower_call, but_last, last_of, lower_through, lower_switched, lower_known, index_in, lower_element, lower_read_element, lower_set_element, unless_void}
use Rattle.mv_ast.specs.declared.program.Known.{Known}
use Rattle.mv_num.proofs.Booleans.{and_right}
use Rattle.mv_ir.proofs.Lists.{joined_append}

abbrev pub Shallow : Tree → Type 0
Shallow t = depth t ≤ 4

-- of all trees in some code
abbrev pub ShallowCode : List Stm → Type 0
ShallowCode code = Each Shallow (trees code)

pub record ShallowLowered (l : Lowered) : Type 0 where
  pub code : ShallowCode l.code
  pub tree : Shallow l.tree

abbrev pub AlwaysShallow : Lowering → Type 0
AlwaysShallow l = (n : ℕ) → ShallowLowered (l n)

depth_temp : (t : ℕ) → depth (temp t) ≡ 1
depth_temp t = depth_roll (tree.Temp t)

depth_number : (n : ℕ) → depth (number n) ≡ 1
depth_number n = depth_roll (tree.Number n)

pub both_parts : (xs ys : List Stm) → ShallowCode xs → ShallowCode ys → ShallowCode (xs ++ ys)
both_parts xs ys h k =
    subst (Each Shallow) (sym (ap joined (map_append stm_trees xs ys) ∙ joined_append (map stm_trees xs) (map stm_trees ys)))
    (each_append Shallow (trees xs) (trees ys) h k)

-- one statement, by its trees
one_tree : (s : Stm) (t : Tree) → stm_trees s ≡ t ∷ [] → Shallow t → ShallowCode (s ∷ [])
one_tree s t e h = subst (λ l. Each Shallow (l ++ [])) (sym e) (h, tt)

pub shallow_set : (t : ℕ) (v : Tree) → Shallow v → ShallowCode (set t v ∷ [])
shallow_set t v h = one_tree (set t v) v (trees_roll (stm.Set t v)) h

pub shallow_set_global : (g : ℕ) (v : Tree) → Shallow v → ShallowCode (set_global g v ∷ [])
shallow_set_global g v h = one_tree (set_global g v) v (trees_roll (stm.SetGlobal g v)) h

pub shallow_divide : (t o : ℕ) (a b : Tree) → Shallow a → Shallow b → ShallowCode (divide t o a b ∷ [])
shallow_divide t o a b h k = subst (λ l. Each Shallow (l ++ [])) (sym (trees_roll (stm.Divide t o a b))) (h, (k, tt))

pub shallow_choose : (t : Tree) (xs ys : List Stm) → Shallow t → ShallowCode xs → ShallowCode ys → ShallowCode (choose t xs ys ∷ [])
shallow_choose t xs ys h hx hy =
    subst (λ l. Each Shallow (l ++ [])) (sym (trees_roll (stm.If t xs ys)))
    (h, each_append Shallow (trees xs ++ trees ys) [] (each_append Shallow (trees xs) (trees ys) hx hy) tt)

-- ---- values that are put away

pub shallow_kept : (keep : Bool) (n : ℕ) (l : Lowered) → ShallowLowered l → ShallowLowered (kept_if keep n l)
shallow_kept true n l h = h
shallow_kept false n l h = record { code = both_parts l.code (set n l.tree ∷ []) h.code (shallow_set n l.tree h.tree); tree = omega (arith, depth_temp n) }

pub low_kept : (keep : Bool) (n : ℕ) (l : Lowered) → (keep ≡ true → depth l.tree ≤ 2) → depth (kept_if keep n l).tree ≤ 2
low_kept true n l h = h refl
low_kept false n l h = omega (arith, depth_temp n)

low_second : (b : Lowering) (n : ℕ) → depth (second b n).tree ≤ 2
low_second b n = low_kept (is_low (b (n + 1)).tree) (n + 1) (b (n + 1)) (λ e. leb-true (depth (b (n + 1)).tree) 2 e)

low_first : (a b : Lowering) (n : ℕ) → depth (first a b n).tree ≤ 2
low_first a b n = low_kept (is_empty (second b n).code && is_low (a n).tree) n (a n) (λ e. leb-true (depth (a n).tree) 2 (and_right (is_empty (second b n).code) (is_low (a n).tree) e))

-- ---- forms

pub shallow_one : (t : Tree → Tree) (a : Lowering) → ((x : Tree) → depth (t x) ≤ max (depth x) 1 + 2) → AlwaysShallow a → AlwaysShallow (lower_one t a)
shallow_one t a h ha n =
    let keep = is_low (a n).tree in
    let x = kept_if keep n (a n) in
    let low = low_kept keep n (a n) (λ e. leb-true (depth (a n).tree) 2 e) in
    record { code = (shallow_kept keep n (a n) (ha n)).code; tree = omega (arith, low, h x.tree) }

pub shallow_two : (t : Tree → Tree → Tree) (a b : Lowering) → ((x y : Tree) → depth (t x y) ≤ max (depth x) (depth y) + 2) → AlwaysShallow a → AlwaysShallow b → AlwaysShallow (lower_two t a b)
shallow_two t a b h ha hb n =
    let x = first a b n in
    let y = second b n in
    record {
      code = both_parts x.code y.code (shallow_kept (is_empty y.code && is_low (a n).tree) n (a n) (ha n)).code (shallow_kept (is_low (b (n + 1)).tree) (n + 1) (b (n + 1)) (hb (n + 1))).code;
      tree = omega (arith, low_first a b n, low_second b n, h x.tree y.tree);
    }

either_tree : (z : Bool) (x y : Tree) → Shallow x → Shallow y → Shallow (cond z x y)
either_tree true x y h k = h
either_tree false x y h k = k

pub shallow_division : (turned : Bool) (o : ℕ) (a b : Lowering) → AlwaysShallow a → AlwaysShallow b → AlwaysShallow (lower_division turned o a b)
shallow_division turned o a b ha hb n =
    let x = first a b n in
    let y = second b n in
    let hx = shallow_kept (is_empty y.code && is_low (a n).tree) n (a n) (ha n) in
    let hy = shallow_kept (is_low (b (n + 1)).tree) (n + 1) (b (n + 1)) (hb (n + 1)) in
    let last = divide n o (cond turned y.tree x.tree) (cond turned x.tree y.tree) ∷ [] in
    record {
      code = both_parts x.code (y.code ++ last) hx.code (both_parts y.code last hy.code
          (shallow_divide n o (cond turned y.tree x.tree) (cond turned x.tree y.tree) (either_tree turned y.tree x.tree hy.tree hx.tree) (either_tree turned x.tree y.tree hx.tree hy.tree)));
      tree = omega (arith, depth_temp n);
    }

depth_truth : (t : Tree) → depth t ≤ 2 → Shallow (truth t)
depth_truth t h = omega (arith, h, depth_roll (tree.Unary 2 (unary 2 t)), depth_roll (tree.Unary 2 t))

shallow_truth : (n : ℕ) (b : Lowering) → AlwaysShallow b → ShallowCode (truth_in n (kept_if (is_low (b n).tree) n (b n)))
shallow_truth n b hb =
    let keep = is_low (b n).tree in
    let y = kept_if keep n (b n) in
    both_parts y.code (set n (truth y.tree) ∷ []) (shallow_kept keep n (b n) (hb n)).code
    (shallow_set n (truth y.tree) (depth_truth y.tree (low_kept keep n (b n) (λ e. leb-true (depth (b n).tree) 2 e))))

shallow_constant : (n k : ℕ) → ShallowCode (set n (number k) ∷ [])
shallow_constant n k = shallow_set n (number k) (omega (arith, depth_number k))

pub shallow_both : (a b : Lowering) → AlwaysShallow a → AlwaysShallow b → AlwaysShallow (lower_both a b)
shallow_both a b ha hb n =
    let y = kept_if (is_low (b n).tree) n (b n) in
    record {
      code = both_parts (a n).code (choose (a n).tree (truth_in n y) (set n (number 0) ∷ []) ∷ []) (ha n).code
          (shallow_choose (a n).tree (truth_in n y) (set n (number 0) ∷ []) (ha n).tree (shallow_truth n b hb) (shallow_constant n 0));
      tree = omega (arith, depth_temp n);
    }

pub shallow_either : (a b : Lowering) → AlwaysShallow a → AlwaysShallow b → AlwaysShallow (lower_either a b)
shallow_either a b ha hb n =
    let y = kept_if (is_low (b n).tree) n (b n) in
    record {
      code = both_parts (a n).code (choose (a n).tree (set n (number 1) ∷ []) (truth_in n y) ∷ []) (ha n).code
          (shallow_choose (a n).tree (set n (number 1) ∷ []) (truth_in n y) (ha n).tree (shallow_constant n 1) (shallow_truth n b hb));
      tree = omega (arith, depth_temp n);
    }

pub shallow_choice : (z a b : Lowering) → AlwaysShallow z → AlwaysShallow a → AlwaysShallow b → AlwaysShallow (lower_choice z a b)
shallow_choice z a b hz ha hb n =
    let y = kept_if false n (a n) in
    let u = kept_if false n (b n) in
    record {
      code = both_parts (z n).code (choose (z n).tree y.code u.code ∷ []) (hz n).code
          (shallow_choose (z n).tree y.code u.code (hz n).tree (shallow_kept false n (a n) (ha n)).code (shallow_kept false n (b n) (hb n)).code);
      tree = omega (arith, depth_temp n);
    }

pub shallow_set_local : (l : ℕ) (a : Lowering) → AlwaysShallow a → AlwaysShallow (lower_set_local l a)
shallow_set_local l a ha n = record {
  code = both_parts (a n).code (set l (a n).tree ∷ []) (ha n).code (shallow_set l (a n).tree (ha n).tree);
  tree = omega (arith, depth_temp l);
}

pub shallow_store : (g : ℕ) (a : Lowering) → AlwaysShallow a → AlwaysShallow (lower_set_global g a)
shallow_store g a ha n =
    let x = kept_if false n (a n) in
    let h = shallow_kept false n (a n) (ha n) in
    record { code = both_parts x.code (set_global g x.tree ∷ []) h.code (shallow_set_global g x.tree h.tree); tree = h.tree }

-- ---- calls

pub record ShallowArguments (all : Arguments) : Type 0 where
  pub code : ShallowCode all.code
  pub trees : Each Shallow all.trees

pub shallow_all : (ls : List Lowering) → Each AlwaysShallow ls → (n : ℕ) → ShallowArguments (lower_all ls n)
shallow_all [] h n = record { code = tt; trees = tt }
shallow_all (l ∷ ls) h n =
    let rest = shallow_all ls h.1 (n + 1) in
    let x = shallow_kept (is_empty (lower_all ls (n + 1)).code) n (l n) (h.0 n) in
    record {
      code = both_parts (kept_if (is_empty (lower_all ls (n + 1)).code) n (l n)).code (lower_all ls (n + 1)).code x.code rest.code;
      trees = (x.tree, rest.trees);
    }

shallow_result : (void : Bool) (n : ℕ) → Shallow (result_tree void n)
shallow_result true n = omega (arith, depth_number 0)
shallow_result false n = omega (arith, depth_temp n)

shallow_call_to : (result : Option ℕ) (f : Callee) (args : List Tree) → Each Shallow (callee_trees f) → Each Shallow args → ShallowCode (call result f args ∷ [])
shallow_call_to result f args h k =
    subst (λ l. Each Shallow (l ++ [])) (sym (trees_roll (stm.Call result f args))) (each_append Shallow (callee_trees f ++ args) [] (each_append Shallow (callee_trees f) args h k) tt)

pub shallow_call : (void : Bool) (f : ℕ) (ls : List Lowering) → Each AlwaysShallow ls → AlwaysShallow (lower_call void f ls)
shallow_call void f ls h n =
    let all = lower_all ls n in
    let ok = shallow_all ls h n in
    record {
      code = both_parts all.code (call (unless_void void n) (callee.Direct f) all.trees ∷ []) ok.code (shallow_call_to (unless_void void n) (callee.Direct f) all.trees tt ok.trees);
      tree = shallow_result void n;
    }

pub shallow_switched : (void : Bool) (ls : List Lowering) (g : ℕ) → Each AlwaysShallow ls → AlwaysShallow (lower_switched void ls g)
shallow_switched void ls g h n =
    let all = lower_all ls n in
    let ok = shallow_all ls h n in
    record {
      code = both_parts all.code (call (unless_void void n) (callee.Switched g) all.trees ∷ []) ok.code (shallow_call_to (unless_void void n) (callee.Switched g) all.trees tt ok.trees);
      tree = shallow_result void n;
    }

shallow_last : (ts : List Tree) → Each Shallow ts → Shallow (last_of ts)
shallow_last [] h = omega (arith, depth_number 0)
shallow_last (t ∷ []) h = h.0
shallow_last (t ∷ u ∷ ts) h = shallow_last (u ∷ ts) h.1

shallow_others : (ts : List Tree) → Each Shallow ts → Each Shallow (but_last ts)
shallow_others [] h = tt
shallow_others (t ∷ []) h = tt
shallow_others (t ∷ u ∷ ts) h = (h.0, shallow_others (u ∷ ts) h.1)

pub shallow_through : (void : Bool) (ls : List Lowering) (l : Lowering) → Each AlwaysShallow ls → AlwaysShallow l → AlwaysShallow (lower_through void ls l)
shallow_through void ls l h k n =
    let all = lower_all (ls ++ l ∷ []) n in
    let ok = shallow_all (ls ++ l ∷ []) (each_append AlwaysShallow ls (l ∷ []) h (k, tt)) n in
    record {
      code = both_parts all.code (call (unless_void void n) (callee.Through (last_of all.trees)) (but_last all.trees) ∷ []) ok.code
          (shallow_call_to (unless_void void n) (callee.Through (last_of all.trees)) (but_last all.trees) (shallow_last all.trees ok.trees, tt) (shallow_others all.trees ok.trees));
      tree = shallow_result void n;
    }

pub shallow_known : (k : Known) (ls : List Lowering) → Each AlwaysShallow ls → AlwaysShallow (lower_known k ls)
shallow_known k ls h n =
    let all = lower_all ls n in
    let ok = shallow_all ls h n in
    record {
      code = both_parts all.code (known n k all.trees ∷ []) ok.code
          (subst (λ l. Each Shallow (l ++ [])) (sym (trees_roll (stm.Known (Some n) k all.trees))) (each_append Shallow all.trees [] ok.trees tt));
      tree = omega (arith, depth_temp n);
    }

-- ---- elements of arrays

shallow_check : (a : Array) (i : Tree) → Shallow i → ShallowCode (check a i ∷ [])
shallow_check a i h = one_tree (check a i) i (trees_roll (stm.Check a i)) h

pub shallow_read : (t : ℕ) (a : Array) (i : Tree) → Shallow i → ShallowCode (read t a i ∷ [])
shallow_read t a i h = one_tree (read t a i) i (trees_roll (stm.Read t a i)) h

pub shallow_write : (a : Array) (i v : Tree) → Shallow i → Shallow v → ShallowCode (write a i v ∷ [])
shallow_write a i v h k = subst (λ l. Each Shallow (l ++ [])) (sym (trees_roll (stm.Write a i v))) (h, (k, tt))

shallow_temp : (t : ℕ) → Shallow (temp t)
shallow_temp t = omega (arith, depth_temp t)

pub shallow_index : (n : ℕ) (i : Lowering) → AlwaysShallow i → ShallowLowered (index_in n i)
shallow_index n i h = record { code = both_parts (i n).code (set (n + 1) (i n).tree ∷ []) (h n).code (shallow_set (n + 1) (i n).tree (h n).tree); tree = shallow_temp (n + 1) }

pub shallow_element : (a : Array) (at : ℕ) → AlwaysShallow (lower_element a at)
shallow_element a at n = record { code = shallow_read n a (temp at) (shallow_temp at); tree = shallow_temp n }

pub shallow_read_element : (a : Array) (i : Lowering) → AlwaysShallow i → AlwaysShallow (lower_read_element a i)
shallow_read_element a i h n = record { code = both_parts (i n).code (read n a (i n).tree ∷ []) (h n).code (shallow_read n a (i n).tree (h n).tree); tree = shallow_temp n }

pub shallow_set_element : (a : Array) (i v : Lowering) (n : ℕ) → AlwaysShallow i → AlwaysShallow v → ShallowLowered (lower_set_element a i v n)
shallow_set_element a i v n hi hv =
    let at = index_in n i in
    let x = v (n + 2) in
    let last = set n x.tree ∷ write a at.tree (temp n) ∷ [] in
    let h = shallow_index n i hi in
    record {
      code = both_parts at.code (check a at.tree ∷ (x.code ++ last)) h.code
          (both_parts (check a at.tree ∷ []) (x.code ++ last) (shallow_check a at.tree h.tree)
          (both_parts x.code last (hv (n + 2)).code (both_parts (set n x.tree ∷ []) (write a at.tree (temp n) ∷ []) (shallow_set n x.tree (hv (n + 2)).tree) (shallow_write a at.tree (temp n) h.tree (shallow_temp n)))));
      tree = shallow_temp n;
    }
