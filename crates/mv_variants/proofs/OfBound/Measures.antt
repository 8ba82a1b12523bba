-- A measure that counts the forms of statements, and of calls whom they call, isn't more after binding, folding and renaming.
use Rattle.std.proofs.Common.{arith, ◌≡◌, ℕ, zero, suc, ◌+◌, ◌≤◌, Bool, true, false, cond, List, [], ◌∷◌, ◌++◌, map, Option, None, Some, ◌∙◌, ap, refl, sym}
use Rattle.mv_ast.specs.declared.program.Known.{Known}
use Rattle.mv_ir.specs.declared.tree.Tree.{Tree}
use Rattle.mv_ir.specs.declared.stm.Array.{Array}
use Rattle.mv_ir.specs.declared.stm.Callee.{Callee}
use Rattle.mv_ir.specs.declared.stm.Callee.TheVariants as callee
use Rattle.mv_ir.specs.declared.stm.Stm.{Stm}
use Rattle.mv_ir.specs.declared.stm.Stm.TheOpen.{Stm-F}
use Rattle.mv_ir.specs.declared.stm.Stm.TheOpen as stm
use Rattle.mv_ir.specs.declared.stm.Stm.TheViews.{roll-Stm}
use Rattle.mv_ir.specs.declared.stm.Stm.TheFolds.{map-Stm}
use Rattle.mv_ir.specs.Measures.{joined, total}
use Rattle.mv_ir.specs.Rolled.{number, temp}
use Rattle.mv_ir.proofs.Induction.{Each, StmChildren, stm_ind, stms_ind}
use Rattle.mv_ir.proofs.Keeping.{map_append}
use Rattle.mv_ir.proofs.Joining.{total_append}
use Rattle.mv_clone.specs.Bind.{bound_callee, bound_layer, bound_stm, bound_code}
use Rattle.mv_clone.proofs.Bound.{bound_stm_roll}
use Rattle.mv_carry.specs.declared.facts.Fact.{Fact}
use Rattle.mv_carry.specs.declared.facts.Reach.TheVariants.{Knowing}
use Rattle.mv_carry.specs.Carrying.{carried_tree, carried_callee, outermost, carried_code}
use Rattle.mv_carry.proofs.Structure.{IsClosed, carried_is}
use Rattle.mv_fold.specs.Simple.{constant, simple_tree, jumps, ended, simple_callee, alone, division, choice, simple_layer, simple_stm, simple_code}
use Rattle.mv_fold.specs.Opened.{leave, from_outside}
use Rattle.mv_fold.proofs.Opening.{Opens, blocked_is, looped_is}
use Rattle.mv_fold.specs.Shortened.{shortened}
use Rattle.mv_fold.specs.Needed.{needed_layer, needed_stm, needed_code}
use Rattle.mv_fold.specs.Folded.{simple_body}
use Rattle.mv_fold.proofs.SimpleKept.{simple_stm_roll}
use Rattle.mv_fold.proofs.NeededEquations.{needed_stm_roll}
use Rattle.mv_fold.proofs.Shortening.{shortened_is}
use Rattle.mv_regalloc.specs.Rename.{renamed_callee, renamed_layer, renamed_stm, renamed_code}
use Rattle.mv_regalloc.proofs.RenamedTrees.{renamed_stm_roll}

-- a statement whose parts are bound, and one whose parts are renamed
abbrev pub bound_parts : List (ℕ × ℕ) → Stm-F Stm → Stm-F Stm
bound_parts ps x = bound_layer ps (map-Stm Stm Stm (bound_stm ps) x)

abbrev pub renamed_parts : (ℕ → ℕ) → Stm-F Stm → Stm-F Stm
renamed_parts c x = renamed_layer c (map-Stm Stm Stm (renamed_stm c) x)

-- calls of one function, or both through pointers, or through one pointer switch, or both expanded
abbrev pub SameGoal : Callee → Callee → Type 0
SameGoal (callee.Direct f) (callee.Direct g) = f ≡ g
SameGoal (callee.Through t) (callee.Through u) = Unit {0}
SameGoal (callee.Switched g) (callee.Switched h) = g ≡ h
SameGoal callee.Expanded callee.Expanded = Unit {0}
SameGoal _ _ = ⊥

-- What a statement counts, by what its parts count: it is the same whatever its trees, temporaries and globals, and no more with parts that count no more,
-- with the parts of a loop or a block alone, and with a value in place of a division or an element. A choice counts what its sides do and the same besides, and a jump out of
-- a block or to the start of a loop no more than a set.
pub record Measure (layer : Stm-F ℕ → ℕ) (m : Stm → ℕ) : Type 0 where
  pub roll : (x : Stm-F Stm) → m (roll-Stm x) ≡ layer (map-Stm Stm ℕ m x)
  pub set : (t u : ℕ) (v w : Tree) → layer (stm.Set t v) ≡ layer (stm.Set u w)
  pub store : (g h : ℕ) (v w : Tree) → layer (stm.SetGlobal g v) ≡ layer (stm.SetGlobal h w)
  pub divide : (t u o p : ℕ) (a b c d : Tree) → layer (stm.Divide t o a b) ≡ layer (stm.Divide u p c d)
  pub divided : (t u o : ℕ) (v a b : Tree) → layer (stm.Set t v) ≤ layer (stm.Divide u o a b)
  pub check : (r s : Array) (i j : Tree) → layer (stm.Check r i) ≡ layer (stm.Check s j)
  pub fetched : (t u : ℕ) (v : Tree) (r : Array) (i : Tree) → layer (stm.Set t v) ≤ layer (stm.Read u r i)
  pub read : (t u : ℕ) (r s : Array) (i j : Tree) → layer (stm.Read t r i) ≡ layer (stm.Read u s j)
  pub write : (r s : Array) (i j v w : Tree) → layer (stm.Write r i v) ≡ layer (stm.Write s j w)
  pub branch : (t u : Tree) (a b : List ℕ) → layer (stm.If t a b) ≡ layer (stm.If u [] []) + (total a + total b)
  pub loop : (a b : List ℕ) → total a ≤ total b → layer (stm.Loop a) ≤ layer (stm.Loop b)
  pub block : (a b : List ℕ) → total a ≤ total b → layer (stm.Block a) ≤ layer (stm.Block b)
  pub looped : (a : List ℕ) → total a ≤ layer (stm.Loop a)
  pub blocked : (a : List ℕ) → total a ≤ layer (stm.Block a)
  pub break : (n k : ℕ) → layer (stm.Break n) ≡ layer (stm.Break k)
  pub jump : (n t : ℕ) (v : Tree) → layer (stm.Break n) ≤ layer (stm.Set t v)
  pub back : (n t : ℕ) (v : Tree) → layer (stm.Back n) ≤ layer (stm.Set t v)
  pub call : (r s : Option ℕ) (f g : Callee) (xs ys : List Tree) → SameGoal f g → layer (stm.Call r f xs) ≡ layer (stm.Call s g ys)
  pub known : (r s : Option ℕ) (k : Known) (xs ys : List Tree) → layer (stm.Known r k xs) ≡ layer (stm.Known s k ys)
  pub return : (v w : Tree) → layer (stm.Return v) ≡ layer (stm.Return w)

bound_goal : (ps : List (ℕ × ℕ)) (f : Callee) → SameGoal (bound_callee ps f) f
bound_goal ps (callee.Direct f) = refl
bound_goal ps (callee.Through t) = tt
bound_goal ps (callee.Switched g) = refl
bound_goal ps callee.Expanded = tt

renamed_goal : (c : ℕ → ℕ) (f : Callee) → SameGoal (renamed_callee c f) f
renamed_goal c (callee.Direct f) = refl
renamed_goal c (callee.Through t) = tt
renamed_goal c (callee.Switched g) = refl
renamed_goal c callee.Expanded = tt

simple_goal : (f : Callee) → SameGoal (simple_callee f) f
simple_goal (callee.Direct f) = refl
simple_goal (callee.Through t) = tt
simple_goal (callee.Switched g) = refl
simple_goal callee.Expanded = tt

module _ {layer : Stm-F ℕ → ℕ} {m : Stm → ℕ} (of : Measure layer m) where
  abbrev all : List Stm → ℕ
  all code = total (map m code)

  pub all_append : (xs ys : List Stm) → all (xs ++ ys) ≡ all xs + all ys
  all_append xs ys = ap total (map_append m xs ys) ∙ total_append (map m xs) (map m ys)

  abbrev own : Stm-F Stm → ℕ
  own x = layer (map-Stm Stm ℕ m x)

  branch_less : (t u : Tree) (a b c d : List ℕ) → total a ≤ total c → total b ≤ total d → layer (stm.If t a b) ≤ layer (stm.If u c d)
  branch_less t u a b c d h k = omega (arith, h, k, of.branch t u a b, of.branch u u c d)

  pub branch_same : (t u : Tree) (a b c d : List ℕ) → total a ≡ total c → total b ≡ total d → layer (stm.If t a b) ≡ layer (stm.If u c d)
  branch_same t u a b c d h k = omega (arith, h, k, of.branch t u a b, of.branch u u c d)

  pub loop_same : (a b : List ℕ) → total a ≡ total b → layer (stm.Loop a) ≡ layer (stm.Loop b)
  loop_same a b h = omega (arith, of.loop a b (omega (arith, h)), of.loop b a (omega (arith, h)))

  pub block_same : (a b : List ℕ) → total a ≡ total b → layer (stm.Block a) ≡ layer (stm.Block b)
  block_same a b h = omega (arith, of.block a b (omega (arith, h)), of.block b a (omega (arith, h)))

  -- the second counts no more, and as much where something holds
  pub record Counts (P : Type 0) (xs ys : List Stm) : Type 0 where
    pub less : all ys ≤ all xs
    pub same : P → all xs ≤ all ys

  pub equal : {P : Type 0} (xs ys : List Stm) → all ys ≡ all xs → Counts P xs ys
  equal xs ys e = record { less = omega (arith, e); same = λ f. omega (arith, e) }

  pub single : {P : Type 0} (x y : Stm-F Stm) → own y ≡ own x → Counts P (alone x) (alone y)
  single x y e = equal (alone x) (alone y) (let same = of.roll x in let result = of.roll y in omega (arith, same, result, e))

  -- ---- one statement for another

  module _ (f : Stm → Stm) where
    abbrev One : Stm → Type 0
    One s = m (f s) ≡ m s

    ones : (code : List Stm) → Each One code → all (map f code) ≡ all code
    ones [] h = refl
    ones (s ∷ code) h = let rest = ones code h.1 in omega (arith, h.0, rest)

    to_one : (x y : Stm-F Stm) → f (roll-Stm x) ≡ roll-Stm y → own y ≡ own x → One (roll-Stm x)
    to_one x y e h = ap m e ∙ of.roll y ∙ h ∙ sym (of.roll x)

  module _ (ps : List (ℕ × ℕ)) where
    layer_bound : (x : Stm-F Stm) → StmChildren (One (bound_stm ps)) x → own (bound_parts ps x) ≡ own x
    layer_bound (stm.Set t v) h = of.set _ _ _ _
    layer_bound (stm.SetGlobal g v) h = of.store _ _ _ _
    layer_bound (stm.Divide t o a b) h = of.divide _ _ _ _ _ _ _ _
    layer_bound (stm.Check r i) h = of.check _ _ _ _
    layer_bound (stm.Read t r i) h = of.read _ _ _ _ _ _
    layer_bound (stm.Write r i v) h = of.write _ _ _ _ _ _
    layer_bound (stm.Zero l) h = refl
    layer_bound (stm.If t a b) h = branch_same _ _ _ _ _ _ (ones (bound_stm ps) a h.0) (ones (bound_stm ps) b h.1)
    layer_bound (stm.Loop b) h = loop_same _ _ (ones (bound_stm ps) b h)
    layer_bound (stm.Block b) h = block_same _ _ (ones (bound_stm ps) b h)
    layer_bound (stm.Break n) h = refl
    layer_bound (stm.Back n) h = refl
    layer_bound (stm.Call r f args) h = of.call _ _ _ _ _ _ (bound_goal ps f)
    layer_bound (stm.Known r k args) h = of.known _ _ _ _ _
    layer_bound (stm.Return v) h = of.return _ _

    pub bound_no_more : (code : List Stm) → all (bound_code ps code) ≤ all code
    bound_no_more code = omega (arith, ones (bound_stm ps) code (stms_ind (One (bound_stm ps)) (stm_ind (One (bound_stm ps)) (λ x h. to_one (bound_stm ps) x (bound_parts ps x) (bound_stm_roll ps x) (layer_bound x h))) code))

  module _ (c : ℕ → ℕ) where
    layer_renamed : (x : Stm-F Stm) → StmChildren (One (renamed_stm c)) x → own (renamed_parts c x) ≡ own x
    layer_renamed (stm.Set t v) h = of.set _ _ _ _
    layer_renamed (stm.SetGlobal g v) h = of.store _ _ _ _
    layer_renamed (stm.Divide t o a b) h = of.divide _ _ _ _ _ _ _ _
    layer_renamed (stm.Check r i) h = of.check _ _ _ _
    layer_renamed (stm.Read t r i) h = of.read _ _ _ _ _ _
    layer_renamed (stm.Write r i v) h = of.write _ _ _ _ _ _
    layer_renamed (stm.Zero l) h = refl
    layer_renamed (stm.If t a b) h = branch_same _ _ _ _ _ _ (ones (renamed_stm c) a h.0) (ones (renamed_stm c) b h.1)
    layer_renamed (stm.Loop b) h = loop_same _ _ (ones (renamed_stm c) b h)
    layer_renamed (stm.Block b) h = block_same _ _ (ones (renamed_stm c) b h)
    layer_renamed (stm.Break n) h = refl
    layer_renamed (stm.Back n) h = refl
    layer_renamed (stm.Call r f args) h = of.call _ _ _ _ _ _ (renamed_goal c f)
    layer_renamed (stm.Known r k args) h = of.known _ _ _ _ _
    layer_renamed (stm.Return v) h = of.return _ _

    pub renamed_same : (code : List Stm) → all (renamed_code c code) ≡ all code
    renamed_same code = ones (renamed_stm c) code (stms_ind (One (renamed_stm c)) (stm_ind (One (renamed_stm c)) (λ x h. to_one (renamed_stm c) x (renamed_parts c x) (renamed_stm_roll c x) (layer_renamed x h))) code)

    pub renamed_no_more : (code : List Stm) → all (renamed_code c code) ≤ all code
    renamed_no_more code = omega (arith, renamed_same code)

  -- ---- with numbers carried

  abbrev CountsNoMore : List Stm → List Stm → Type 0
  CountsNoMore xs ys = all ys ≤ all xs

  pair : (x y : Stm-F Stm) → own y ≤ own x → CountsNoMore (alone x) (alone y)
  pair x y le = omega (arith, of.roll x, of.roll y, le)

  twin : (x y : Stm-F Stm) → own y ≡ own x → CountsNoMore (alone x) (alone y)
  twin x y e = omega (arith, of.roll x, of.roll y, e)

  carried_goal : (fs : List Fact) (f : Callee) → SameGoal (carried_callee fs f) f
  carried_goal fs (callee.Direct f) = refl
  carried_goal fs (callee.Through t) = tt
  carried_goal fs (callee.Switched g) = refl
  carried_goal fs callee.Expanded = tt

  carried_closed : IsClosed CountsNoMore
  carried_closed = record {
    none = omega arith;
    both = λ xs xs' ys ys' h k. omega (arith, all_append xs ys, all_append xs' ys', h, k);
    set = λ fs t v. twin (stm.Set t v) (stm.Set t (carried_tree fs v)) (of.set _ _ _ _);
    store = λ fs g v. twin (stm.SetGlobal g v) (stm.SetGlobal g (carried_tree fs v)) (of.store _ _ _ _);
    divide = λ fs t o a b. twin (stm.Divide t o a b) (stm.Divide t o (carried_tree fs a) (carried_tree fs b)) (of.divide _ _ _ _ _ _ _ _);
    check = λ fs r i. twin (stm.Check r i) (stm.Check r (carried_tree fs i)) (of.check _ _ _ _);
    read = λ fs t r i. twin (stm.Read t r i) (stm.Read t r (carried_tree fs i)) (of.read _ _ _ _ _ _);
    write = λ fs r i v. twin (stm.Write r i v) (stm.Write r (carried_tree fs i) (carried_tree fs v)) (of.write _ _ _ _ _ _);
    zeroed = λ l. omega arith;
    branch = λ fs t a a' b b' h k. pair (stm.If t a b) (stm.If (carried_tree fs t) a' b') (branch_less _ _ _ _ _ _ h k);
    loop = λ b b' h. pair (stm.Loop b) (stm.Loop b') (of.loop _ _ h);
    block = λ b b' h. pair (stm.Block b) (stm.Block b') (of.block _ _ h);
    break = λ n. omega arith;
    back = λ n. omega arith;
    call = λ fs t f args. twin (stm.Call t f args) (stm.Call t (carried_callee fs f) (map (carried_tree fs) args)) (of.call _ _ _ _ _ _ (carried_goal fs f));
    known = λ fs t k args. twin (stm.Known t k args) (stm.Known t k (map (carried_tree fs) args)) (of.known _ _ _ _ _);
    return = λ fs v. twin (stm.Return v) (stm.Return (carried_tree fs v)) (of.return _ _);
  }

  pub carried_no_more : (temps : ℕ) (code : List Stm) → all (carried_code temps outermost (Knowing []) code).code ≤ all code
  carried_no_more temps code = carried_is temps CountsNoMore carried_closed outermost (Knowing []) code

  -- ---- statements for one

  abbrev Many : (Stm → List Stm) → Stm → Type 0
  Many f s = all (f s) ≤ m s

  many : (f : Stm → List Stm) (code : List Stm) → Each (Many f) code → all (joined (map f code)) ≤ all code
  many f [] h = omega arith
  many f (s ∷ code) h = let rest = many f code h.1 in omega (arith, all_append (f s) (joined (map f code)), h.0, rest)

  to_many : (f : Stm → List Stm) (x : Stm-F Stm) (ys : List Stm) → f (roll-Stm x) ≡ ys → all ys ≤ own x → Many f (roll-Stm x)
  to_many f x ys e h = omega (arith, ap all e, of.roll x, h)

  -- a statement alone
  less : (x : Stm-F Stm) (n : ℕ) → own x ≤ n → all (alone x) ≤ n
  less x n le = omega (arith, of.roll x, le)

  lone : (x : Stm-F Stm) (n : ℕ) → own x ≡ n → all (alone x) ≤ n
  lone x n e = omega (arith, of.roll x, e)

  ended_no_more : (code : List Stm) → all (ended code) ≤ all code
  ended_no_more [] = omega arith
  ended_no_more (s ∷ code) = by (jumps s) (ended_no_more code)
    where
      by : (b : Bool) → all (ended code) ≤ all code → all (s ∷ cond b [] (ended code)) ≤ all (s ∷ code)
      by true h = omega arith
      by false h = omega (arith, h)

  code_simple : (code : List Stm) → Each (Many simple_stm) code → all (simple_code code) ≤ all code
  code_simple code h = omega (arith, ended_no_more (joined (map simple_stm code)), many simple_stm code h)

  division_no_more : (o p : Option ℕ) (t k : ℕ) (a b c d : Tree) → all (division o p t k a b) ≤ layer (stm.Divide t k c d)
  division_no_more (Some n) (Some (suc e)) t k a b c d = less (stm.Set t (number _)) _ (of.divided _ _ _ _ _ _)
  division_no_more (Some n) (Some zero) t k a b c d = lone (stm.Divide t k a b) _ (of.divide _ _ _ _ _ _ _ _)
  division_no_more (Some n) None t k a b c d = lone (stm.Divide t k a b) _ (of.divide _ _ _ _ _ _ _ _)
  division_no_more None (Some e) t k a b c d = lone (stm.Divide t k a b) _ (of.divide _ _ _ _ _ _ _ _)
  division_no_more None None t k a b c d = lone (stm.Divide t k a b) _ (of.divide _ _ _ _ _ _ _ _)

  choice_no_more : (o : Option ℕ) (t u : Tree) (a b : List Stm) (c d : List ℕ) → all a ≤ total c → all b ≤ total d → all (choice o t a b) ≤ layer (stm.If u c d)
  choice_no_more None t u a b c d h k = less (stm.If t a b) _ (branch_less _ _ _ _ _ _ h k)
  choice_no_more (Some zero) t u a b c d h k = omega (arith, of.branch u u c d, k)
  choice_no_more (Some (suc n)) t u a b c d h k = omega (arith, of.branch u u c d, h)

  leave_no_more : (end : Option ℕ) → all (leave (from_outside end)) ≤ all (leave end)
  leave_no_more None = omega arith
  leave_no_more (Some zero) = omega arith
  leave_no_more (Some (suc n)) = omega (arith, of.roll (stm.Break (suc n)), of.roll (stm.Break n), of.break (suc n) n)

  -- the statements of a loop or block, with a jump that goes one level less far
  end_no_more : (front : List Stm) (end : Option ℕ) → all (front ++ leave (from_outside end)) ≤ all (front ++ leave end)
  end_no_more front end = omega (arith, all_append front (leave end), all_append front (leave (from_outside end)), leave_no_more end)

  contents : (x : Stm-F Stm) (front : List Stm) (end : Option ℕ) → all (front ++ leave end) ≤ own x → CountsNoMore (alone x) (front ++ leave (from_outside end))
  contents x front end h = omega (arith, h, of.roll x, end_no_more front end)

  open_no_more : Opens CountsNoMore
  open_no_more = record {
    same = λ xs. omega arith;
    block = λ front end e. contents (stm.Block (front ++ leave end)) front end (of.blocked (map m (front ++ leave end)));
    loop = λ front n e. contents (stm.Loop (front ++ leave (Some n))) front (Some n) (of.looped (map m (front ++ leave (Some n))));
  }

  layer_simple : (x : Stm-F Stm) → StmChildren (Many simple_stm) x → all (simple_layer (map-Stm Stm (List Stm) simple_stm x)) ≤ own x
  layer_simple (stm.Set t v) h = lone (stm.Set t (simple_tree v)) _ (of.set _ _ _ _)
  layer_simple (stm.SetGlobal g v) h = lone (stm.SetGlobal g (simple_tree v)) _ (of.store _ _ _ _)
  layer_simple (stm.Divide t o a b) h = division_no_more (constant (simple_tree a)) (constant (simple_tree b)) t o (simple_tree a) (simple_tree b) a b
  layer_simple (stm.Check r i) h = lone (stm.Check r (simple_tree i)) _ (of.check _ _ _ _)
  layer_simple (stm.Read t r i) h = lone (stm.Read t r (simple_tree i)) _ (of.read _ _ _ _ _ _)
  layer_simple (stm.Write r i v) h = lone (stm.Write r (simple_tree i) (simple_tree v)) _ (of.write _ _ _ _ _ _)
  layer_simple (stm.Zero l) h = lone (stm.Zero l) _ refl
  layer_simple (stm.If t a b) h = choice_no_more (constant (simple_tree t)) (simple_tree t) t (simple_code a) (simple_code b) (map m a) (map m b) (code_simple a h.0) (code_simple b h.1)
  layer_simple (stm.Loop b) h =
      omega (arith, looped_is CountsNoMore open_no_more (simple_code b), less (stm.Loop (simple_code b)) (own (stm.Loop b)) (of.loop _ _ (code_simple b h)))
  layer_simple (stm.Block b) h =
      omega (arith, blocked_is CountsNoMore open_no_more (simple_code b), less (stm.Block (simple_code b)) (own (stm.Block b)) (of.block _ _ (code_simple b h)))
  layer_simple (stm.Break n) h = lone (stm.Break n) _ refl
  layer_simple (stm.Back n) h = lone (stm.Back n) _ refl
  layer_simple (stm.Call r f args) h = lone (stm.Call r (simple_callee f) (map simple_tree args)) _ (of.call _ _ _ _ _ _ (simple_goal f))
  layer_simple (stm.Known r k args) h = lone (stm.Known r k (map simple_tree args)) _ (of.known _ _ _ _ _)
  layer_simple (stm.Return v) h = lone (stm.Return (simple_tree v)) _ (of.return _ _)

  simple_no_more : (code : List Stm) → all (simple_code code) ≤ all code
  simple_no_more code = code_simple code (stms_ind (Many simple_stm) (stm_ind (Many simple_stm) (λ x h. to_many simple_stm x _ (simple_stm_roll x) (layer_simple x h))) code)

  -- a statement in place of two, of which the second counts as much
  second : (x y z : Stm-F Stm) → own z ≡ own y → CountsNoMore (roll-Stm x ∷ roll-Stm y ∷ []) (roll-Stm z ∷ [])
  second x y z h = omega (arith, of.roll z, of.roll y, h)

  short_no_more : (temps : ℕ) (code : List Stm) → all (shortened temps code) ≤ all code
  short_no_more temps = shortened_is temps CountsNoMore (record {
    same = λ xs. omega arith;
    both = λ xs ys zs h k. omega (arith, h, k);
    behind = λ s xs ys h. omega (arith, h);
    leave = λ n. omega arith;
    unread = λ t v. omega arith;
    stored = λ t g v lt. second (stm.Set t v) (stm.SetGlobal g (temp t)) (stm.SetGlobal g v) (of.store _ _ _ _);
    returned = λ t v lt. second (stm.Set t v) (stm.Return (temp t)) (stm.Return v) (of.return _ _);
  })

  module _ (needed : ℕ → Bool) where
    set_no_more : (b : Bool) (t : ℕ) (v : Tree) → all (cond b (alone (stm.Set t v)) []) ≤ layer (stm.Set t v)
    set_no_more true t v = lone (stm.Set t v) _ refl
    set_no_more false t v = omega arith

    layer_needed : (x : Stm-F Stm) → StmChildren (Many (needed_stm needed)) x → all (needed_layer needed (map-Stm Stm (List Stm) (needed_stm needed) x)) ≤ own x
    layer_needed (stm.Set t v) h = set_no_more (needed t) t v
    layer_needed (stm.SetGlobal g v) h = lone (stm.SetGlobal g v) _ refl
    layer_needed (stm.Divide t o a b) h = lone (stm.Divide t o a b) _ refl
    layer_needed (stm.Check r i) h = lone (stm.Check r i) _ refl
    layer_needed (stm.Read t r i) h = lone (stm.Read t r i) _ refl
    layer_needed (stm.Write r i v) h = lone (stm.Write r i v) _ refl
    layer_needed (stm.Zero l) h = lone (stm.Zero l) _ refl
    layer_needed (stm.If t a b) h = less (stm.If t (needed_code needed a) (needed_code needed b)) _ (branch_less _ _ _ _ _ _ (many (needed_stm needed) a h.0) (many (needed_stm needed) b h.1))
    layer_needed (stm.Loop b) h = less (stm.Loop (needed_code needed b)) _ (of.loop _ _ (many (needed_stm needed) b h))
    layer_needed (stm.Block b) h = less (stm.Block (needed_code needed b)) _ (of.block _ _ (many (needed_stm needed) b h))
    layer_needed (stm.Break n) h = lone (stm.Break n) _ refl
    layer_needed (stm.Back n) h = lone (stm.Back n) _ refl
    layer_needed (stm.Call r f args) h = lone (stm.Call r f args) _ refl
    layer_needed (stm.Known r k args) h = lone (stm.Known r k args) _ refl
    layer_needed (stm.Return v) h = lone (stm.Return v) _ refl

    needed_no_more : (code : List Stm) → all (needed_code needed code) ≤ all code
    needed_no_more code = many (needed_stm needed) code (stms_ind (Many (needed_stm needed)) (stm_ind (Many (needed_stm needed)) (λ x h. to_many (needed_stm needed) x _ (needed_stm_roll needed x) (layer_needed x h))) code)

    pub folded_no_more : (temps : ℕ) (code : List Stm) → all (needed_code needed (simple_body temps code)) ≤ all code
    folded_no_more temps code = omega (arith, needed_no_more (simple_body temps code), short_no_more temps (simple_code code), simple_no_more code)
