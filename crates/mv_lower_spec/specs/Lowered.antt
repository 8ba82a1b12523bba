-- What an expression is lowered to: statements, and a tree for its value at their end.
use Rattle.std.specs.Prelude.{ℕ, ◌+◌, cond, Bool, true, false, ◌&&◌, List, [], ◌∷◌, ◌++◌, max, nat_le, Option, Some, None}
use Rattle.mv_ir.specs.declared.tree.Tree.{Tree}
use Rattle.mv_ir.specs.declared.stm.Stm.{Stm}
use Rattle.mv_ir.specs.declared.stm.Array.{Array}
use Rattle.mv_ir.specs.declared.stm.Callee.{Callee}
use Rattle.mv_ir.specs.declared.stm.Callee.TheVariants as callee
use Rattle.mv_ir.specs.Trees.{depth}
use Rattle.mv_ast.specs.declared.program.Known.{Known}
use Rattle.mv_ir.specs.Operators as operators
pub use Rattle.mv_ir.specs.Rolled.{number, temp, global, function, unary, binary, set, set_global, divide, choose, call, check, read, write, known}

pub record Lowered : Type 0 where
  pub code : List Stm
  -- the value, where the code ends
  pub tree : Tree
  -- above all temporaries that the code writes, or the first free one
  pub top : ℕ

-- from the first free temporary on
abbrev pub Lowering : Type 0
Lowering = ℕ → Lowered

-- ---- values that have to last

abbrev pub is_empty : List Stm → Bool
is_empty [] = true
is_empty (s ∷ ss) = false

-- A value that may stay a tree stays one. Else it is put into the first free temporary, where it lasts.
abbrev pub kept_if : Bool → ℕ → Lowered → Lowered
kept_if true n l = l
kept_if false n l = record { code = l.code ++ set n l.tree ∷ []; tree = temp n; top = max (n + 1) l.top }

-- whether nodes can be put on a tree
abbrev pub is_low : Tree → Bool
is_low t = nat_le (depth t) 2

-- the second of two operands
abbrev pub second : Lowering → Lowering
second b n = kept_if (is_low (b (n + 1)).tree) (n + 1) (b (n + 1))

-- The first of two. It stays a tree only where no code comes between it and its use.
abbrev pub first : Lowering → Lowering → Lowering
first a b n = kept_if (is_empty (second b n).code && is_low (a n).tree) n (a n)

-- ---- expressions

abbrev pub lower_number : ℕ → Lowering
lower_number v n = record { code = []; tree = number v; top = n }

abbrev pub lower_local : ℕ → Lowering
lower_local l n = record { code = []; tree = temp l; top = n }

abbrev pub lower_global : ℕ → Lowering
lower_global g n = record { code = []; tree = global g; top = n }

-- an operator on one operand
abbrev pub lower_one : (Tree → Tree) → Lowering → Lowering
lower_one f a n =
    let x = kept_if (is_low (a n).tree) n (a n) in
    record { code = x.code; tree = f x.tree; top = x.top }

-- an operator on two operands
abbrev pub lower_two : (Tree → Tree → Tree) → Lowering → Lowering → Lowering
lower_two f a b n =
    let x = first a b n in
    let y = second b n in
    record { code = x.code ++ y.code; tree = f x.tree y.tree; top = max x.top y.top }

abbrev pub lower_function : ℕ → Lowering
lower_function f n = record { code = []; tree = function f; top = n }

-- a quotient or a remainder of two operands, of which the second one is divided where the flag says so
abbrev pub lower_division : Bool → ℕ → Lowering → Lowering → Lowering
lower_division turned o a b n =
    let x = first a b n in
    let y = second b n in
    record {
      code = x.code ++ (y.code ++ divide n o (cond turned y.tree x.tree) (cond turned x.tree y.tree) ∷ []);
      tree = temp n;
      top = max (n + 1) (max x.top y.top);
    }

-- 1, unless it is 0
abbrev pub truth : Tree → Tree
truth t = unary operators.logical_not (unary operators.logical_not t)

-- the truth of a value, in a temporary
abbrev pub truth_in : ℕ → Lowered → List Stm
truth_in n l = l.code ++ set n (truth l.tree) ∷ []

-- `&&`
abbrev pub lower_both : Lowering → Lowering → Lowering
lower_both a b n =
    let x = a n in
    let y = kept_if (is_low (b n).tree) n (b n) in
    record {
      code = x.code ++ choose x.tree (truth_in n y) (set n (number 0) ∷ []) ∷ [];
      tree = temp n;
      top = max (n + 1) (max x.top y.top);
    }

-- `||`
abbrev pub lower_either : Lowering → Lowering → Lowering
lower_either a b n =
    let x = a n in
    let y = kept_if (is_low (b n).tree) n (b n) in
    record {
      code = x.code ++ choose x.tree (set n (number 1) ∷ []) (truth_in n y) ∷ [];
      tree = temp n;
      top = max (n + 1) (max x.top y.top);
    }

-- `?:`
abbrev pub lower_choice : Lowering → Lowering → Lowering → Lowering
lower_choice z a b n =
    let x = z n in
    let y = kept_if false n (a n) in
    let u = kept_if false n (b n) in
    record { code = x.code ++ choose x.tree y.code u.code ∷ []; tree = temp n; top = max (n + 1) (max x.top (max y.top u.top)) }

-- an assignment to a local
abbrev pub lower_set_local : ℕ → Lowering → Lowering
lower_set_local l a n = record { code = (a n).code ++ set l (a n).tree ∷ []; tree = temp l; top = (a n).top }

-- an assignment to a global
abbrev pub lower_set_global : ℕ → Lowering → Lowering
lower_set_global g a n =
    let x = kept_if false n (a n) in
    record { code = x.code ++ set_global g x.tree ∷ []; tree = x.tree; top = x.top }

-- ---- calls

pub record Arguments : Type 0 where
  pub code : List Stm
  pub trees : List Tree
  pub top : ℕ

-- Arguments, left to right. One stays a tree only where no code comes behind it.
abbrev pub lower_all : List Lowering → ℕ → Arguments
lower_all [] n = record { code = []; trees = []; top = n }
lower_all (e ∷ es) n =
    let rest = lower_all es (n + 1) in
    let x = kept_if (is_empty rest.code) n (e n) in
    record { code = x.code ++ rest.code; trees = x.tree ∷ rest.trees; top = max x.top rest.top }

-- what a call leaves, or where, and the tree that reads it: a void function has none
abbrev pub unless_void : Bool → ℕ → Option ℕ
unless_void void n = cond void None (Some n)

abbrev pub result_tree : Bool → ℕ → Tree
result_tree void n = cond void (number 0) (temp n)

abbrev pub lower_call_to : Bool → Callee → Arguments → List Tree → Lowering
lower_call_to void f all args n = record {
  code = all.code ++ call (unless_void void n) f args ∷ [];
  tree = result_tree void n;
  top = max (n + 1) all.top;
}

-- a direct call
abbrev pub lower_call : Bool → ℕ → List Lowering → Lowering
lower_call void f args n = lower_call_to void (callee.Direct f) (lower_all args n) (lower_all args n).trees n

abbrev pub but_last : List Tree → List Tree
but_last [] = []
but_last (t ∷ []) = []
but_last (t ∷ u ∷ ts) = t ∷ but_last (u ∷ ts)

abbrev pub last_of : List Tree → Tree
last_of [] = number 0
last_of (t ∷ []) = t
last_of (t ∷ u ∷ ts) = last_of (u ∷ ts)

-- a call through a pointer, which is evaluated behind the arguments
abbrev pub lower_through : Bool → List Lowering → Lowering → Lowering
lower_through void args f n =
    let all = lower_all (args ++ f ∷ []) n in
    lower_call_to void (callee.Through (last_of all.trees)) all (but_last all.trees) n

-- a call through a pointer switch, which is read behind the arguments
abbrev pub lower_switched : Bool → List Lowering → ℕ → Lowering
lower_switched void args g n = lower_call_to void (callee.Switched g) (lower_all args n) (lower_all args n).trees n

-- a known function
abbrev pub lower_known : Known → List Lowering → Lowering
lower_known k args n =
    let all = lower_all args n in
    record { code = all.code ++ known n k all.trees ∷ []; tree = temp n; top = max (n + 1) all.top }

-- ---- elements of arrays

-- an index that lasts, in the second free temporary
abbrev pub index_in : ℕ → Lowering → Lowered
index_in n i = record { code = (i n).code ++ set (n + 1) (i n).tree ∷ []; tree = temp (n + 1); top = max (n + 2) (i n).top }

-- an element whose index stands in a temporary
abbrev pub lower_element : Array → ℕ → Lowering
lower_element a at n = record { code = read n a (temp at) ∷ []; tree = temp n; top = n + 1 }

abbrev pub lower_read_element : Array → Lowering → Lowering
lower_read_element a i n = record { code = (i n).code ++ read n a (i n).tree ∷ []; tree = temp n; top = max (n + 1) (i n).top }

-- a store in an element: the index is tested before the value is evaluated
abbrev pub lower_set_element : Array → Lowering → Lowering → Lowering
lower_set_element a i v n =
    let at = index_in n i in
    let x = v (n + 2) in
    record {
      code = at.code ++ (check a at.tree ∷ x.code ++ (set n x.tree ∷ write a at.tree (temp n) ∷ []));
      tree = temp n;
      top = max at.top x.top;
    }
