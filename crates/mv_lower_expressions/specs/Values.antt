-- What an expression is lowered to, as a function of what its parts are lowered to where they begin.
use Rattle.std.specs.Prelude.{ℕ, ◌+◌, ◌≡◌, Bool, false, cond, List, [], ◌∷◌, ◌++◌, max, nat_le, nat_lt, nat_eq, Option, Some, None, if◌then◌else◌}
use Rattle.mv_ir.specs.declared.tree.Tree.{Tree}
use Rattle.mv_ir.specs.declared.stm.Stm.{Stm}
use Rattle.mv_ir.specs.Trees.{depth}
use Rattle.mv_ast.specs.declared.program.CType.{CType}
use Rattle.mv_lower_spec.specs.Lowered.{Lowering, Lowered, binary, divide, temp, set, number, choose, is_low, kept_if, first, second, lower_one, lower_both, lower_either, lower_choice, lower_set_local, lower_set_global}
use Rattle.mv_lower_spec.specs.Lower.{unary_tree, converted_tree, bit_tree, quotient_number, remainder_number, lower_binary}
use Rattle.mv_lower_expressions.specs.declared.value.Value.{Value}
use Rattle.mv_lower_expressions.specs.declared.operands.Operands.{Operands}
use Rattle.mv_ast.specs.Marks as marks
use Rattle.mv_ir.specs.Operators as operators

-- ---- results

-- a lowered expression
abbrev pub seen : Value → Lowered
seen v = record { code = v.code; tree = v.tree; top = v.top }

-- the lowering that gives this wherever it begins
abbrev pub given : Lowered → Lowering
given l n = l

-- ---- values that last

unfoldable pub is_leaf : Tree → Bool
is_leaf t = nat_le (depth t) 1

-- in a temporary
unfoldable pub put_away : ℕ → Lowered → Lowered
put_away n l = kept_if false n l

-- a tree where it is low, else in a temporary
unfoldable pub made_low : ℕ → Lowered → Lowered
made_low n l = kept_if (is_low l.tree) n l

unfoldable pub first_of : Lowered → Lowered → ℕ → Lowered
first_of a b n = first (given a) (given b) n

unfoldable pub second_of : Lowered → ℕ → Lowered
second_of b n = second (given b) n

-- Two operands, with the code of both: the second is the left one where the flag says so.
pub record AreOperands (turned : Bool) (o : Operands) (x y : Lowered) : Type 0 where
  pub code : o.code ≡ x.code ++ y.code
  pub left : o.left ≡ cond turned y.tree x.tree
  pub right : o.right ≡ cond turned x.tree y.tree
  pub top : o.top ≡ max x.top y.top

-- ---- operators

unfoldable pub unary_of : ℕ → Lowered → ℕ → Lowered
unary_of op a n = lower_one (unary_tree op) (given a) n

unfoldable pub converted_of : CType → Lowered → ℕ → Lowered
converted_of t a n = lower_one (converted_tree t) (given a) n

unfoldable pub binary_of : Bool → ℕ → CType → Lowered → Lowered → ℕ → Lowered
binary_of turned op t a b n = lower_binary turned op t (given a) (given b) n

-- the number of the division that an operator is, where it is one
unfoldable pub division_number : ℕ → CType → Option ℕ
division_number op t =
    if nat_lt op marks.ampersand then
    (if nat_eq op marks.plus then None else if nat_eq op marks.minus then None else if nat_eq op marks.star then None
    else if nat_eq op marks.slash then Some (quotient_number t) else Some (remainder_number t))
    else None

-- a quotient or remainder, in a temporary
abbrev pub divided : ℕ → Operands → ℕ → Lowered
divided division o n = record { code = o.code ++ divide n division o.left o.right ∷ []; tree = temp n; top = max (n + 1) o.top }

-- the tree of an operator that is no division
unfoldable pub operator_tree : ℕ → CType → Tree → Tree → Tree
operator_tree op t a b =
    if nat_lt op marks.ampersand then
    (if nat_eq op marks.plus then binary operators.add a b else if nat_eq op marks.minus then binary operators.sub a b else binary operators.mul a b)
    else bit_tree op t a b

abbrev pub combined : ℕ → CType → Operands → Lowered
combined op t o = record { code = o.code; tree = operator_tree op t o.left o.right; top = o.top }

-- ---- control

abbrev pub number_in : ℕ → ℕ → List Stm
number_in v n = set n (number v) ∷ []

-- one of two lists of statements, which leave a value in a temporary and write none from `above` on
abbrev pub chosen : Lowered → List Stm → List Stm → ℕ → ℕ → Lowered
chosen z a b above n = record { code = z.code ++ choose z.tree a b ∷ []; tree = temp n; top = max (n + 1) (max z.top above) }

unfoldable pub both_of : Lowered → Lowered → ℕ → Lowered
both_of a b n = lower_both (given a) (given b) n

unfoldable pub either_of : Lowered → Lowered → ℕ → Lowered
either_of a b n = lower_either (given a) (given b) n

unfoldable pub choice_of : Lowered → Lowered → Lowered → ℕ → Lowered
choice_of z a b n = lower_choice (given z) (given a) (given b) n

-- ---- stores

unfoldable pub set_local_of : ℕ → Lowered → ℕ → Lowered
set_local_of l a n = lower_set_local l (given a) n

unfoldable pub set_global_of : ℕ → Lowered → ℕ → Lowered
set_global_of g a n = lower_set_global g (given a) n
