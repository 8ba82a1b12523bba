-- What the code of arguments is, one argument at a time.
use Rattle.std.proofs.Common.{◌≡◌, ℕ, suc, ◌+◌, List, ◌∷◌, ◌++◌, drop, sym, ap, ◌∙◌, arith, append_assoc}
use Rattle.mv_isa.specs.declared.labelled.Line.{Line}
use Rattle.mv_isa.specs.Registers.{t3 as scratch_register}
use Rattle.mv_ir.specs.declared.tree.Tree.{Tree}
use Rattle.mv_select_code.specs.Trees.TreeCode.{Seats, tree_into}
use Rattle.mv_select.specs.Calls.CallCode.{argument_lines}

-- the code of the next argument, put behind some code
pub argument_next : (s : Seats) (i : ℕ) (ts : List Tree) (t : Tree) (code after whole : List Line) → drop i ts ≡ t ∷ drop (i + 1) ts
    → after ≡ code ++ tree_into s t (10 + i) scratch_register
    → code ++ argument_lines s (10 + i) (drop i ts) ≡ whole → after ++ argument_lines s (10 + (i + 1)) (drop (i + 1) ts) ≡ whole
argument_next s i ts t code after whole next e whole_is =
    let tree = tree_into s t (10 + i) scratch_register in
    let rest = argument_lines s (10 + (i + 1)) (drop (i + 1) ts) in
    let r : suc (10 + i) ≡ 10 + (i + 1) = omega arith in
    let ends : argument_lines s (10 + i) (drop i ts) ≡ tree ++ rest = ap (argument_lines s (10 + i)) next ∙ ap (λ n. tree ++ argument_lines s n (drop (i + 1) ts)) r in
    ap (λ z. z ++ rest) e ∙ append_assoc code tree rest ∙ ap (λ z. code ++ z) (sym ends) ∙ whole_is
