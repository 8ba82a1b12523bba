-- The code of statements within one another has encodings, and few words.
use Rattle.std.specs.Prelude.{ℕ, ◌≡◌, ◌+◌, ◌*◌, true, List, ◌++◌, All, map, Option}
use Rattle.mv_ast.specs.declared.program.Known.{Known}
use Rattle.mv_ir.specs.declared.tree.Tree.{Tree}
use Rattle.mv_ir.specs.declared.stm.Callee.{Callee}
use Rattle.mv_ir.specs.declared.stm.Callee.TheVariants as callee
use Rattle.mv_ir.specs.declared.stm.Stm.{Stm}
use Rattle.mv_ir.specs.declared.stm.Stm.TheOpen.{Stm-F}
use Rattle.mv_ir.specs.declared.stm.Stm.TheOpen as stm
use Rattle.mv_ir.specs.declared.stm.Stm.TheFolds.{fold-Stm}
use Rattle.mv_ir.specs.Trees.{nodes_of_all}
use Rattle.mv_ir.specs.Measures.{total, callee_trees, tree_nodes}
use Rattle.mv_select_code.specs.Trees.View.{IsPin}
use Rattle.mv_select_code.specs.Statements.Encoded.{IsCode}
use Rattle.mv_select_code.specs.declared.control.enclosing.Enclosing.{Enclosing}
use Rattle.mv_select_code.specs.declared.control.enclosing.Way.{Way}
use Rattle.mv_select_code.specs.declared.control.layout.Layout.{Layout}
use Rattle.mv_select_code.specs.Control.FlowCode.{CallLines, jumps, code_of}
use Rattle.mv_select_code.specs.Control.Layouts.{IsInFrame, plan_in, small_call, small_known, are_small}

-- ---- how many words each form of statement takes at most besides those of its trees, each branch taken for two

abbrev pub call_words : Callee → ℕ
call_words callee.Expanded = 2
call_words _ = 16

abbrev pub words_layer : Stm-F ℕ → ℕ
words_layer (stm.Set t v) = 1
words_layer (stm.SetGlobal g v) = 2
words_layer (stm.Divide t o a b) = 4
words_layer (stm.Check a i) = 4
words_layer (stm.Read t a i) = 9
words_layer (stm.Write a i v) = 8
words_layer (stm.Zero a) = 7
words_layer (stm.If t a b) = 3 + (total a + total b)
words_layer (stm.Loop b) = 1 + total b
words_layer (stm.Block b) = total b
words_layer (stm.Break n) = 1
words_layer (stm.Back n) = 1
words_layer (stm.Call r f args) = call_words f
words_layer (stm.Known r k args) = 7
words_layer (stm.Return v) = 1

unfoldable pub stm_words : Stm → ℕ
stm_words = fold-Stm ℕ words_layer

-- of statements in order
abbrev pub own_words : List Stm → ℕ
own_words code = total (map stm_words code)

-- and with those of their trees, two for each node
abbrev pub most_words : List Stm → ℕ
most_words code = 2 * tree_nodes code + own_words code

-- ---- the code of calls and of statements

-- the code of a call has encodings, and at most two words for each node of its trees and 16 more, 2 of one that is expanded, or 7 of a known function
pub record CallsAreEncoded (calls : CallLines) : Type 0 where
  pub call : (r : Option ℕ) (f : Callee) (args : List Tree) → small_call r f args ≡ true →
      IsCode (2 * nodes_of_all (callee_trees f ++ args) + call_words f) (calls.call r f args)
  pub known : (r : Option ℕ) (k : Known) (args : List Tree) → small_known r k args ≡ true →
      IsCode (2 * nodes_of_all args + 7) (calls.known r k args)

-- If that is so, the code of statements has encodings and no more words, but for a jump at its end.
abbrev pub FlowIsEncoded : Type 0
FlowIsEncoded =
    (layout : Layout) → All IsInFrame layout.arrays → All IsPin layout.pins → (calls : CallLines) → CallsAreEncoded calls →
    (code : List Stm) → are_small code ≡ true → (around : List Enclosing) (label : ℕ) (way : Way) →
    IsCode (most_words code + jumps way) ((code_of (plan_in layout calls) code).lines around label way)
