-- Places, and what is done with them, as functions of what their index and a value are lowered to.
use Rattle.std.specs.Prelude.{ℕ, ◌+◌, Bool, [], ◌∷◌, ◌++◌, max}
use Rattle.mv_ir.specs.declared.tree.Tree.{Tree}
use Rattle.mv_ir.specs.declared.stm.Array.{Array}
use Rattle.mv_ast.specs.declared.program.CType.{CType}
use Rattle.mv_lower_spec.specs.Lowered.{Lowered, temp, set, check, write, lower_set_element}
use Rattle.mv_lower_spec.specs.Lower.{Place, InLocal, InGlobal, Element, lower_read, lower_set, lower_change, lower_after}
use Rattle.mv_lower_expressions.specs.declared.place.Place as declared
use Rattle.mv_lower_expressions.specs.declared.place.Place.TheVariants as variant
use Rattle.mv_lower_expressions.specs.Values.{seen, given}

-- an lvalue whose index, if it has one, is lowered
abbrev pub seen_place : declared.Place → Place
seen_place (variant.Local l) = InLocal l
seen_place (variant.Global g) = InGlobal g
seen_place (variant.Element a i) = Element a (given (seen i))

-- the lvalue whose index is lowered from this temporary on
abbrev pub placed : ℕ → Place → Place
placed n (InLocal l) = InLocal l
placed n (InGlobal g) = InGlobal g
placed n (Element a i) = Element a (given (i n))

-- where the value begins that is stored there
abbrev pub start_of : Place → ℕ → ℕ
start_of (InLocal l) n = n
start_of (InGlobal g) n = n
start_of (Element a i) n = n + 2

abbrev pub alone : Tree → ℕ → Lowered
alone t n = record { code = []; tree = t; top = n }

abbrev pub tested_index : Array → Lowered → ℕ → Lowered
tested_index a i n = record {
  code = (i.code ++ set (n + 1) i.tree ∷ []) ++ check a (temp (n + 1)) ∷ [];
  tree = temp (n + 1);
  top = max (n + 2) i.top;
}

abbrev pub stored : Array → Lowered → ℕ → Lowered
stored a v n = record { code = (v.code ++ set n v.tree ∷ []) ++ write a (temp (n + 1)) (temp n) ∷ []; tree = temp n; top = v.top }

abbrev pub behind : Lowered → Lowered → Lowered
behind x y = record { code = x.code ++ y.code; tree = y.tree; top = max x.top y.top }

unfoldable pub read_of : Place → ℕ → Lowered
read_of p n = lower_read p n

unfoldable pub set_element_of : Array → Lowered → Lowered → ℕ → Lowered
set_element_of a i v n = lower_set_element a (given i) (given v) n

unfoldable pub set_of : Place → Lowered → ℕ → Lowered
set_of p v n = lower_set p (given v) n

unfoldable pub change_of : ℕ → CType → CType → Place → Lowered → ℕ → Lowered
change_of op kind t p v n = lower_change op kind t p (given v) n

unfoldable pub after_of : Bool → CType → Place → ℕ → Lowered
after_of up t p n = lower_after up t p n
