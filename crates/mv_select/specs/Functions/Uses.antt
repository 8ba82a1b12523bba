-- Which numbers code needs in registers, and how many words each place saves where they stand there. A word of the body is worth 1, and within each loop
-- eight times as much as around it.
use Rattle.std.specs.Prelude.{ℕ, ◌*◌, ◌-◌, ◌^◌, Bool, ◌&&◌, ◌||◌, cond, eqb, leb, ltb, List, [], ◌∷◌, ◌++◌, map, Option, Some, None, is_some, slice_index_or}
use Rattle.mv_ir.specs.declared.tree.Tree.{Tree}
use Rattle.mv_ir.specs.declared.tree.Tree.TheOpen.{Tree-F}
use Rattle.mv_ir.specs.declared.tree.Tree.TheOpen as tree
use Rattle.mv_ir.specs.declared.tree.Tree.TheFolds.{fold-Tree, map-Tree}
use Rattle.mv_ir.specs.declared.stm.Array.{Array}
use Rattle.mv_ir.specs.declared.stm.Stm.{Stm}
use Rattle.mv_ir.specs.declared.stm.Stm.TheOpen.{Stm-F}
use Rattle.mv_ir.specs.declared.stm.Stm.TheOpen as stm
use Rattle.mv_ir.specs.declared.stm.Stm.TheFolds.{fold-Stm}
use Rattle.mv_ir.specs.declared.body.Body.{Body}
use Rattle.mv_ir.specs.Measures.{joined, callee_trees}
use Rattle.mv_ir.specs.Operators.{logical_not, less_signed, not_equal}
use Rattle.mv_select_code.specs.Trees.TreeCode.{upper_bits, right_of, literal_layer, literal}
use Rattle.mv_select_code.specs.Control.FlowCode.{size_of, is_tested as tested_array}
use Rattle.mv_select_code.specs.Control.Layouts.{size_in}
use Rattle.mv_select.specs.declared.uses.Use.{Use}

-- how many words bring a number into a register
abbrev pub number_words : ℕ → ℕ
number_words n = cond (eqb (upper_bits n) 0) 1 2

-- one place that saves so much, if it saves anything; x0 holds 0 already
abbrev pub saving : (n weight : ℕ) → List Use
saving n weight = cond (eqb n 0 || eqb weight 0) [] (record { number = n; weight = weight } ∷ [])

-- ---- trees, where a word is worth w

-- where a number is an operand, all of its words
abbrev pub needed : (w n : ℕ) → List Use
needed w n = saving n (w * number_words n)

-- where it is put into another register, all but one, which copies it
abbrev pub moved : (w n : ℕ) → List Use
moved w n = saving n (w * (number_words n - 1))

-- what is known of a tree: the number that it is written as, its uses where it is an operand, and those of a branch by it
pub record Needs : Type 0 where
  pub written : Option ℕ
  pub operand : List Use
  pub tested : List Use

-- of the right operand, unless it stands in the instruction
abbrev pub of_right : ℕ → Needs → List Use
of_right o b = cond (is_some (right_of o b.written)) [] b.operand

abbrev pub operand_layer : ℕ → Tree-F Needs → List Use
operand_layer w (tree.Number n) = needed w n
operand_layer w (tree.Unary o a) = a.operand
operand_layer w (tree.Binary o a b) = a.operand ++ of_right o b
operand_layer w (tree.Narrow k a) = a.operand
operand_layer w _ = []

abbrev pub is_comparison : ℕ → Bool
is_comparison o = leb less_signed o && leb o not_equal

-- the branch of a comparison takes no number, and logical not turns a branch
abbrev pub tested_layer : ℕ → Tree-F Needs → List Use
tested_layer w (tree.Unary o a) = cond (eqb o logical_not) a.tested a.operand
tested_layer w (tree.Binary o a b) = a.operand ++ cond (is_comparison o) b.operand (of_right o b)
tested_layer w (tree.Narrow k a) = a.operand
tested_layer w _ = []

abbrev pub needs_layer : ℕ → Tree-F Needs → Needs
needs_layer w x = record { written = literal_layer (map-Tree Needs (Option ℕ) (λ a. a.written) x); operand = operand_layer w x; tested = tested_layer w x }

unfoldable pub needs : ℕ → Tree → Needs
needs w = fold-Tree Needs (needs_layer w)

unfoldable pub operand_uses : ℕ → Tree → List Use
operand_uses w t = (needs w t).operand

unfoldable pub test_uses : ℕ → Tree → List Use
test_uses w t = (needs w t).tested

abbrev pub moved_or : ℕ → Option ℕ → List Use → List Use
moved_or w None us = us
moved_or w (Some n) us = moved w n

-- of a tree that is put into a register
abbrev pub value_uses : ℕ → Tree → List Use
value_uses w t = moved_or w (literal t) (operand_uses w t)

-- ---- statements

-- what a word is worth within a loop, up to a bound
abbrev pub deeper : ℕ → ℕ
deeper w = cond (ltb w (2 ^ 20)) (8 * w) w

abbrev pub array_size : Body → Array → ℕ
array_size body = size_of (size_in body.rooms) (λ a. slice_index_or body.arrays a 0)

abbrev pub is_tested : Body → Array → Bool
is_tested body = tested_array (size_in body.rooms) (λ a. slice_index_or body.arrays a 0)

-- an index that is tested is compared with the array's size, unless it is a number
abbrev pub index_uses : Body → ℕ → Array → Tree → List Use
index_uses body w a i = cond (is_some (literal i)) [] (operand_uses w i ++ cond (is_tested body a) (needed w (array_size body a)) [])

abbrev pub all_at : ℕ → List (ℕ → List Use) → List Use
all_at w us = joined (map (λ u. u w) us)

abbrev pub values_uses : ℕ → List Tree → List Use
values_uses w ts = joined (map (value_uses w) ts)

abbrev pub layer_uses : Body → Stm-F (ℕ → List Use) → ℕ → List Use
layer_uses body (stm.Set t v) w = value_uses w v
layer_uses body (stm.SetGlobal g v) w = operand_uses w v
layer_uses body (stm.Divide t o a b) w = operand_uses w a ++ operand_uses w b
layer_uses body (stm.Check a i) w = index_uses body w a i
layer_uses body (stm.Read t a i) w = index_uses body w a i
layer_uses body (stm.Write a i v) w = index_uses body w a i ++ operand_uses w v
layer_uses body (stm.If t a b) w = test_uses w t ++ (all_at w a ++ all_at w b)
layer_uses body (stm.Loop b) w = all_at (deeper w) b
layer_uses body (stm.Block b) w = all_at w b
layer_uses body (stm.Call r f args) w = values_uses w (callee_trees f) ++ values_uses w args
layer_uses body (stm.Known r k args) w = values_uses w args
layer_uses body (stm.Return v) w = value_uses w v
layer_uses body _ w = []

unfoldable pub stm_uses : Body → Stm → ℕ → List Use
stm_uses body = fold-Stm (ℕ → List Use) (layer_uses body)

abbrev pub code_uses : Body → ℕ → List Stm → List Use
code_uses body w code = joined (map (λ s. stm_uses body s w) code)

-- of a whole body
abbrev pub uses : Body → List Use
uses body = code_uses body 1 body.code
