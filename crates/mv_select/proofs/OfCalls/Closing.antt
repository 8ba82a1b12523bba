-- Lines behind which a slot may stand: the last of them has words, and puts no address behind it into a register. The code of a tree is such lines.
use Rattle.std.proofs.Common.{ℕ, suc, List, [], ◌∷◌, ◌++◌, Option, Some, None, All, sym, subst}
use Rattle.std.proofs.lemmas.List.{append-nil}
use Rattle.mv_isa.specs.declared.labelled.Line.{Line}
use Rattle.mv_isa.specs.declared.labelled.Line.TheVariants.{Slot, Point}
use Rattle.mv_isa.specs.Registers.{t3 as scratch_register}
use Rattle.mv_ir.specs.declared.tree.Tree.{Tree}
use Rattle.mv_select_code.specs.Trees.TreeCode.{Seats, tree_into}
use Rattle.mv_select_code.specs.Control.Labels.{tree_functions}
use Rattle.mv_select_code.proofs.OfTrees.TreesAreMade as trees
use Rattle.mv_select_code.proofs.OfControl.TreeNames.{AnyNumber, all_any, functions_inside}
use Rattle.mv_select.specs.Bodies.Lines.{StaysBefore}
use Rattle.mv_select.specs.Calls.CallCode.{argument_lines}

-- what the next line knows of a line
abbrev kept : Line → Option Line
kept (Slot f) = None
kept (Point a) = None
kept line = Some line

abbrev pub last_line : Option Line → List Line → Option Line
last_line before [] = before
last_line before (line ∷ lines) = last_line (kept line) lines

abbrev pub Closes : List Line → Type 0
Closes lines = StaysBefore (last_line None lines)

any_before : (before : Option Line) (lines : List Line) → Closes lines → StaysBefore (last_line before lines)
any_before before [] h = absurd h
any_before before (line ∷ lines) h = h

closes_on : (before : Option Line) (a b : List Line) → Closes b → StaysBefore (last_line before (a ++ b))
closes_on before [] b h = any_before before b h
closes_on before (line ∷ a) b h = closes_on (kept line) a b h

tree_closes : (s : Seats) (t : Tree) (d r : ℕ) → Closes (tree_into s t d r)
tree_closes s t d r =
    trees.into_made (λ lines. Unit {0}) Closes tt (λ lines h. tt) (λ i h. h) (λ a b p h. closes_on None a b h) (λ t. All AnyNumber (tree_functions t)) (functions_inside AnyNumber)
    (λ f q h. tt) s t (all_any (tree_functions t)) d r

pub arguments_close : (s : Seats) (n : ℕ) (t : Tree) (ts : List Tree) → Closes (argument_lines s n (t ∷ ts))
arguments_close s n t [] = subst Closes (sym (append-nil (tree_into s t n scratch_register))) (tree_closes s t n scratch_register)
arguments_close s n t (u ∷ ts) = closes_on None (tree_into s t n scratch_register) (argument_lines s (suc n) (u ∷ ts)) (arguments_close s (suc n) u ts)
