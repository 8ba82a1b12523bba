-- Code that names only temporaries below a number: those that are live or written at a position of the code.
use Rattle.std.proofs.Common.{◌≡◌, ℕ, suc, ◌<◌, Bool, true, false, not, ◌&&◌, ◌||◌, List, [], ◌∷◌, ◌++◌, map, Option, ap, ◌∙◌}
use Rattle.std.proofs.lemmas.Bool.{or_left, or_right}
use Rattle.mv_ast.specs.Names.{any_of}
use Rattle.mv_ir.specs.declared.tree.Tree.{Tree}
use Rattle.mv_ir.specs.declared.stm.Stm.{Stm}
use Rattle.mv_ir.specs.declared.stm.Stm.TheOpen.{Stm-F}
use Rattle.mv_ir.specs.declared.stm.Stm.TheOpen as stm
use Rattle.mv_ir.specs.declared.stm.Stm.TheViews.{roll-Stm}
use Rattle.mv_ir.specs.declared.body.Body.{Body}
use Rattle.mv_ir.specs.Live.{reads_temp, any_reads, is, Around, with_after, around_block, around_loop, live_in_order, marks_in_order, live_at_loop, plain, flow, nowhere, HasTemps}
use Rattle.mv_ir.proofs.Induction.{Each}
use Rattle.mv_ir.proofs.Joining.{reads_left, reads_right, any_left, any_right}
use Rattle.mv_ir.proofs.Rolls.{flow_roll, flow_of_layer}
use Rattle.mv_fold.proofs.Marks.{any_marked}

-- of a tree's reads, and of the marks of each temporary
abbrev pub ReadsBelow : ℕ → Tree → Type 0
ReadsBelow n x = (t : ℕ) → reads_temp t x ≡ true → t < n

abbrev pub AllReadBelow : ℕ → List Tree → Type 0
AllReadBelow n xs = (t : ℕ) → any_reads t xs ≡ true → t < n

abbrev pub WritesBelow : ℕ → Option ℕ → Type 0
WritesBelow n w = (t : ℕ) → is w t ≡ true → t < n

abbrev pub MarksBelow : ℕ → (ℕ → List Bool) → Type 0
MarksBelow n marks = (t : ℕ) → any_of (marks t) ≡ true → t < n

pub record IsBelow (n : ℕ) (s : Stm) : Type 0 where
  pub around : ℕ → Around
  pub marks : MarksBelow n (λ t. (flow t s).marks (around t))

pub record AreBelow (n : ℕ) (code : List Stm) : Type 0 where
  pub around : ℕ → Around
  pub marks : MarksBelow n (λ t. marks_in_order (map (flow t) code) (around t))

-- ---- trees

pub first_read : (n : ℕ) (x : Tree) (xs : List Tree) → AllReadBelow n (x ∷ xs) → ReadsBelow n x
first_read n x xs h t e = h t (or_left (reads_temp t x) (any_reads t xs) e)

pub rest_read : (n : ℕ) (x : Tree) (xs : List Tree) → AllReadBelow n (x ∷ xs) → AllReadBelow n xs
rest_read n x xs h t e = h t (or_right (reads_temp t x) (any_reads t xs) e)

pub left_read : (n : ℕ) (xs ys : List Tree) → AllReadBelow n (xs ++ ys) → AllReadBelow n xs
left_read n xs ys h t e = h t (reads_left t xs ys e)

pub right_read : (n : ℕ) (xs ys : List Tree) → AllReadBelow n (xs ++ ys) → AllReadBelow n ys
right_read n xs ys h t e = h t (reads_right t xs ys e)

pub each_read : (n : ℕ) (xs : List Tree) → AllReadBelow n xs → Each (ReadsBelow n) xs
each_read n [] h = tt
each_read n (x ∷ xs) h = (first_read n x xs h, each_read n xs (rest_read n x xs h))

-- ---- parts

module _ (n : ℕ) where
  pub first_below : (s : Stm) (rest : List Stm) → AreBelow n (s ∷ rest) → IsBelow n s
  first_below s rest h = record {
    around = λ t. with_after (h.around t) (live_in_order (map (flow t) rest) (h.around t));
    marks = λ t e. h.marks t (any_left ((flow t s).marks (with_after (h.around t) (live_in_order (map (flow t) rest) (h.around t)))) (marks_in_order (map (flow t) rest) (h.around t)) e);
  }

  pub rest_below : (s : Stm) (rest : List Stm) → AreBelow n (s ∷ rest) → AreBelow n rest
  rest_below s rest h =
      record { around = h.around; marks = λ t e. h.marks t (any_right ((flow t s).marks (with_after (h.around t) (live_in_order (map (flow t) rest) (h.around t)))) (marks_in_order (map (flow t) rest) (h.around t)) e) }

  layer_below : (x : Stm-F Stm) (h : IsBelow n (roll-Stm x)) → MarksBelow n (λ t. (flow_of_layer x t).marks (h.around t))
  layer_below x h t e = h.marks t (ap (λ f. any_of (f.marks (h.around t))) (flow_roll t x) ∙ e)

  pub then_below : (v : Tree) (a b : List Stm) → IsBelow n (roll-Stm (stm.If v a b)) → AreBelow n a
  then_below v a b h = record {
    around = h.around;
    marks = λ t e. layer_below (stm.If v a b) h t (or_right _ _ (any_left (marks_in_order (map (flow t) a) (h.around t)) (marks_in_order (map (flow t) b) (h.around t)) e));
  }

  pub else_below : (v : Tree) (a b : List Stm) → IsBelow n (roll-Stm (stm.If v a b)) → AreBelow n b
  else_below v a b h = record {
    around = h.around;
    marks = λ t e. layer_below (stm.If v a b) h t (or_right _ _ (any_right (marks_in_order (map (flow t) a) (h.around t)) (marks_in_order (map (flow t) b) (h.around t)) e));
  }

  pub test_below : (v : Tree) (a b : List Stm) → IsBelow n (roll-Stm (stm.If v a b)) → ReadsBelow n v
  test_below v a b h t e = layer_below (stm.If v a b) h t (or_left _ _ (or_left (reads_temp t v) _ e))

  pub loop_below : (b : List Stm) → IsBelow n (roll-Stm (stm.Loop b)) → AreBelow n b
  loop_below b h = record {
    around = λ t. around_loop (h.around t) (live_at_loop (map (flow t) b) (h.around t));
    marks = λ t e. layer_below (stm.Loop b) h t (or_right _ _ e);
  }

  pub block_below : (b : List Stm) → IsBelow n (roll-Stm (stm.Block b)) → AreBelow n b
  block_below b h = record { around = λ t. around_block (h.around t); marks = λ t e. layer_below (stm.Block b) h t (or_right _ _ e) }

  -- a statement that reads some trees and may write a temporary
  module _ (x : Stm-F Stm) (h : IsBelow n (roll-Stm x)) (reads : List Tree) (writes : Option ℕ) (on : Around → Bool) (is_plain : (t : ℕ) → flow_of_layer x t ≡ plain t reads writes on) where
    plain_marks : (t : ℕ) → ((any_reads t reads || (not (is writes t) && on (h.around t))) || is writes t) ≡ true → t < n
    plain_marks t e = layer_below x h t (ap (λ f. any_of (f.marks (h.around t))) (is_plain t) ∙ or_left _ false e)

    pub reads_below : AllReadBelow n reads
    reads_below t e = plain_marks t (or_left _ (is writes t) (or_left _ _ e))

    pub writes_below : WritesBelow n writes
    writes_below t e = plain_marks t (or_right _ (is writes t) e)

-- ---- bodies

pub body_below : (b : Body) → HasTemps b → AreBelow b.temps b.code
body_below b h = record { around = λ t. nowhere; marks = λ t e. let m = any_marked (marks_in_order (map (flow t) b.code) nowhere) e in h (suc m.0) t m.1 }
