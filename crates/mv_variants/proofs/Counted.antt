-- How many words code has at most, at each variant of a statement.
use Rattle.std.proofs.Common.{arith, ◌≡◌, ℕ, ◌+◌, ◌*◌, ◌<◌, List, [], ◌∷◌, length, map, take, get_or, Option, sym, ◌∙◌, ap}
use Rattle.std.proofs.lemmas.List.{take_more}
use Rattle.mv_ast.specs.declared.program.Known.{Known}
use Rattle.mv_ir.specs.declared.tree.Tree.{Tree}
use Rattle.mv_ir.specs.declared.stm.Array.{Array}
use Rattle.mv_ir.specs.declared.stm.Callee.{Callee}
use Rattle.mv_ir.specs.declared.stm.Stm.{Stm}
use Rattle.mv_ir.specs.declared.stm.Stm as at
use Rattle.mv_ir.specs.declared.stm.Stm.TheOpen.{Stm-F}
use Rattle.mv_ir.specs.declared.stm.Stm.TheOpen as stm
use Rattle.mv_ir.specs.declared.stm.Stm.TheVariants.{rolls-Set, rolls-SetGlobal, rolls-Divide, rolls-Check, rolls-Read, rolls-Write, rolls-Zero, rolls-If, rolls-Loop, rolls-Block, rolls-Break, rolls-Back, rolls-Call, rolls-Known, rolls-Return}
use Rattle.mv_ir.specs.declared.stm.Stm.TheViews.{roll-Stm}
use Rattle.mv_ir.specs.declared.stm.Stm.TheFolds.{map-Stm}
use Rattle.mv_ir.specs.Trees.{nodes, nodes_of_all}
use Rattle.mv_ir.specs.Measures.{callee_trees, layer_trees, stm_trees, trees, total}
use Rattle.mv_ir.proofs.Joining.{nodes_append, total_append, trees_append}
use Rattle.mv_ir.proofs.Keeping.{map_append}
use Rattle.mv_ir.proofs.Rolls.{trees_roll}
use Rattle.mv_select_code.specs.Control.Encoded.{call_words, words_layer, stm_words, most_words}
use Rattle.mv_select_code.proofs.OfControl.FlowEncoded.{words_roll}

-- of one statement
abbrev pub of_stm : Stm → ℕ
of_stm s = most_words (s ∷ [])

of_roll : (x : Stm-F Stm) → of_stm (roll-Stm x) ≡ 2 * nodes_of_all (layer_trees (map-Stm Stm (List Tree) stm_trees x)) + words_layer (map-Stm Stm ℕ stm_words x)
of_roll x = omega (arith, nodes_append (stm_trees (roll-Stm x)) [], ap nodes_of_all (trees_roll x), words_roll x)

pub of_set : (t : ℕ) (v : Tree) → of_stm (at.Set t v) ≡ 2 * nodes v + 1
of_set t v = ap of_stm (sym (rolls-Set t v)) ∙ of_roll (stm.Set t v) ∙ omega (arith)

pub of_setglobal : (g : ℕ) (v : Tree) → of_stm (at.SetGlobal g v) ≡ 2 * nodes v + 2
of_setglobal g v = ap of_stm (sym (rolls-SetGlobal g v)) ∙ of_roll (stm.SetGlobal g v) ∙ omega (arith)

pub of_divide : (t o : ℕ) (a b : Tree) → of_stm (at.Divide t o a b) ≡ 2 * (nodes a + nodes b) + 4
of_divide t o a b = ap of_stm (sym (rolls-Divide t o a b)) ∙ of_roll (stm.Divide t o a b) ∙ omega (arith)

pub of_check : (a : Array) (i : Tree) → of_stm (at.Check a i) ≡ 2 * nodes i + 4
of_check a i = ap of_stm (sym (rolls-Check a i)) ∙ of_roll (stm.Check a i) ∙ omega (arith)

pub of_read : (t : ℕ) (a : Array) (i : Tree) → of_stm (at.Read t a i) ≡ 2 * nodes i + 9
of_read t a i = ap of_stm (sym (rolls-Read t a i)) ∙ of_roll (stm.Read t a i) ∙ omega (arith)

pub of_write : (a : Array) (i v : Tree) → of_stm (at.Write a i v) ≡ 2 * (nodes i + nodes v) + 8
of_write a i v = ap of_stm (sym (rolls-Write a i v)) ∙ of_roll (stm.Write a i v) ∙ omega (arith)

pub of_zero : (l : ℕ) → of_stm (at.Zero l) ≡ 7
of_zero l = ap of_stm (sym (rolls-Zero l)) ∙ of_roll (stm.Zero l) ∙ omega (arith)

pub of_if : (t : Tree) (a b : List Stm) → of_stm (at.If t a b) ≡ 2 * nodes t + most_words a + most_words b + 3
of_if t a b = ap of_stm (sym (rolls-If t a b)) ∙ of_roll (stm.If t a b) ∙ omega (arith, nodes_append (trees a) (trees b))

pub of_loop : (b : List Stm) → of_stm (at.Loop b) ≡ most_words b + 1
of_loop b = ap of_stm (sym (rolls-Loop b)) ∙ of_roll (stm.Loop b) ∙ omega (arith)

pub of_block : (b : List Stm) → of_stm (at.Block b) ≡ most_words b
of_block b = ap of_stm (sym (rolls-Block b)) ∙ of_roll (stm.Block b) ∙ omega (arith)

pub of_break : (n : ℕ) → of_stm (at.Break n) ≡ 1
of_break n = ap of_stm (sym (rolls-Break n)) ∙ of_roll (stm.Break n) ∙ omega (arith)

pub of_back : (n : ℕ) → of_stm (at.Back n) ≡ 1
of_back n = ap of_stm (sym (rolls-Back n)) ∙ of_roll (stm.Back n) ∙ omega (arith)

pub of_call : (r : Option ℕ) (f : Callee) (args : List Tree) → of_stm (at.Call r f args) ≡ (2 * nodes_of_all (callee_trees f) + call_words f) + 2 * nodes_of_all args
of_call r f args = ap of_stm (sym (rolls-Call r f args)) ∙ of_roll (stm.Call r f args) ∙ omega (arith, nodes_append (callee_trees f) args)

pub of_known : (r : Option ℕ) (k : Known) (args : List Tree) → of_stm (at.Known r k args) ≡ 2 * nodes_of_all args + 7
of_known r k args = ap of_stm (sym (rolls-Known r k args)) ∙ of_roll (stm.Known r k args) ∙ omega (arith)

pub of_return : (v : Tree) → of_stm (at.Return v) ≡ 2 * nodes v + 1
of_return v = ap of_stm (sym (rolls-Return v)) ∙ of_roll (stm.Return v) ∙ omega (arith)

pub ruleset word_counts = (of_set, of_setglobal, of_divide, of_check, of_read, of_write, of_zero, of_if, of_loop, of_block, of_break, of_back, of_call, of_known, of_return)

-- ---- lists

pub words_more : (code : List Stm) (i : ℕ) (d : Stm) → i < length code → most_words (take (i + 1) code) ≡ most_words (take i code) + of_stm (get_or code i d)
words_more code i d lt =
    let s = get_or code i d in
    ap most_words (take_more code i d lt) ∙
    omega (
      arith,
      ap nodes_of_all (trees_append (take i code) (s ∷ [])),
      nodes_append (trees (take i code)) (trees (s ∷ [])),
      ap total (map_append stm_words (take i code) (s ∷ [])),
      total_append (map stm_words (take i code)) (map stm_words (s ∷ [])),
    )
