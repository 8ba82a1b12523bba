-- Arguments stand in their registers, and the frame is still shown.
use Rattle.std.proofs.Common.{◌≡◌, inl, inr, ℕ, zero, suc, ◌+◌, ◌*◌, ◌<◌, ◌≤◌, Bool, true, List, [], ◌∷◌, length, map, slice_index, sum_by, refl, ap, ◌∙◌, arith}
use Rattle.std.proofs.lemmas.List.Sums.{sum_by-append}
use Rattle.mv_isa.specs.Code.{greatest_words}
use Rattle.mv_isa.specs.Execution.{Access, reg}
use Rattle.mv_isa.specs.Registers.{t3 as scratch_register}
use Rattle.mv_ir.specs.declared.tree.Tree.{Tree}
use Rattle.mv_ir.specs.World as ir
use Rattle.mv_ir.specs.Outcome.{State}
use Rattle.mv_ir.specs.Trees.{depth, nodes_of_all}
use Rattle.mv_ir.specs.Meaning.{of_tree}
use Rattle.mv_ir.specs.WellFormed.{all_true}
use Rattle.mv_select_code.specs.Trees.TreeCode.{Seats, tree_into}
use Rattle.mv_select_code.specs.Trees.Straight.{Straight}
use Rattle.mv_select_code.specs.Trees.View.{AreScratch, Leaves}
use Rattle.mv_select_code.proofs.OfTrees.Gives.{straight_append}
use Rattle.mv_select_code.proofs.OfTrees.Registers.{scratch_part}
use Rattle.mv_select_code.proofs.OfTrees.TreesAreShort.{into_short}
use Rattle.mv_select_code.proofs.OfTrees.TreesRun.{trees_leave}
use Rattle.mv_select_code.specs.Statements.Leads.{limited}
use Rattle.mv_select_code.specs.Statements.Frames.{Site, view_of, IsFine, IsFit, Shows}
use Rattle.mv_select_code.proofs.OfStatements.TreesFirst.{temps_held, named_held}
use Rattle.mv_select.specs.Calls.CallCode.{argument_lines}
use Rattle.mv_select.specs.Calls.Convention.{Layout, IsSaved}
use Rattle.mv_select.specs.Calls.Laws.{IsCaller}
use Rattle.mv_select.proofs.OfCalls.CallerShown.{saved_below, saved_apart, shown_saved}
use Rattle.mv_num.proofs.Booleans.{and_right, and_left}

pub at_scratch : AreScratch scratch_register (scratch_register + 4)
at_scratch = inr (omega arith, omega arith)

pub arguments_short : (s : Seats) (r : ℕ) (ts : List Tree) → sum_by greatest_words (argument_lines s r ts) ≤ 2 * nodes_of_all ts
arguments_short s r [] = omega arith
arguments_short s r (t ∷ ts) =
    omega (arith, sum_by-append greatest_words (tree_into s t r scratch_register) (argument_lines s (suc r) ts), into_short s t r scratch_register, arguments_short s (suc r) ts)

abbrev pub values : ir.Setting → ir.Frame → List Tree → State → List ℕ
values setting frame ts l = map (λ t. of_tree setting frame t l) ts

module _ {M : Type 0} (access : Access M) (y : Layout) (s : Site) (setting : ir.Setting) (frame : ir.Frame) (fit : IsFit s access setting frame) (caller : IsCaller y s setting frame)
    (is_fine : Tree → Bool) (fine_trees : (t : Tree) → is_fine t ≡ true → IsFine s setting frame t) where
  pub record HasArguments (r : ℕ) (ts : List Tree) (l : State) (regs : List ℕ) (m : M) : Type 0 where
    pub after : List ℕ
    pub runs : Straight (limited access s) m s.entry (argument_lines s.seats r ts) regs after
    pub below : (q : ℕ) → q < r → reg after q ≡ reg regs q
    pub hold : (j : ℕ) → j < length ts → reg after (r + j) ≡ slice_index (values setting frame ts l) j
    pub shown : Shows s access l after m

  -- an argument's value stands in its register, and the frame is still shown
  record IsPassed (t : Tree) (r : ℕ) (l : State) (regs : List ℕ) (m : M) : Type 0 where
    after : List ℕ
    runs : Straight (limited access s) m s.entry (tree_into s.seats t r scratch_register) regs after
    below : (q : ℕ) → q < r → reg after q ≡ reg regs q
    holds : reg after r ≡ of_tree setting frame t l
    shown : Shows s access l after m

  passed : (t : Tree) (r : ℕ) (l : State) (regs : List ℕ) (m : M) → 10 ≤ r → r < 18 → IsFine s setting frame t → Shows s access l regs m → IsPassed t r l regs m
  passed t r l regs m low high fine f = record {
    after = g.after;
    runs = g.runs;
    below = λ q lt. g.others q (inl (omega (arith, lt, high))) (λ e. omega (arith, e, lt));
    holds = g.holds;
    shown = shown_saved access y s setting frame caller l regs g.after m g.are saved f;
  }
    where
      part : AreScratch scratch_register (scratch_register + depth t)
      part = let shallow = fine.shallow in scratch_part scratch_register (scratch_register + 4) scratch_register (scratch_register + depth t) (omega arith) (omega arith) at_scratch

      g : Leaves (limited access s) m s.entry scratch_register (scratch_register + depth t) r (of_tree setting frame t l) (tree_into s.seats t r scratch_register) regs
      g = trees_leave _ (limited access s) m (view_of s setting frame l) (named_held access s setting frame fit l regs m f) t r scratch_register regs (fine.named l f.count) f.are
          (temps_held access s setting frame fit l regs m f) part (omega (arith, low)) (omega (arith, high)) (λ e. omega (arith, e, low)) (λ e. omega (arith, e, low))

      saved : (q : ℕ) → IsSaved q → reg g.after q ≡ reg regs q
      saved q h = g.others q (inl (saved_below q h)) (saved_apart q r low high h)

  -- an argument and then the others
  one_more : (t : Tree) (ts : List Tree) (r : ℕ) (l : State) (regs : List ℕ) (m : M) (x : IsPassed t r l regs m) → HasArguments (suc r) ts l x.after m → HasArguments r (t ∷ ts) l regs m
  one_more t ts r l regs m x z = record {
    after = z.after;
    runs = straight_append (limited access s) m s.entry (tree_into s.seats t r scratch_register) (argument_lines s.seats (suc r) ts) regs x.after z.after x.runs z.runs;
    below = λ q lt. z.below q (omega (arith, lt)) ∙ x.below q lt;
    hold = hold;
    shown = z.shown;
  }
    where
      hold : (j : ℕ) → j < length (t ∷ ts) → reg z.after (r + j) ≡ slice_index (values setting frame (t ∷ ts) l) j
      hold zero lt = let same : r + 0 ≡ r = omega arith in ap (reg z.after) same ∙ z.below r (omega arith) ∙ x.holds
      hold (suc j) lt = let same : r + suc j ≡ suc r + j = omega arith in ap (reg z.after) same ∙ z.hold j (omega (arith, lt))

  pub arguments_first : (ts : List Tree) (r : ℕ) (l : State) (regs : List ℕ) (m : M) → 10 ≤ r → r + length ts ≤ 18 → all_true (map is_fine ts) ≡ true → Shows s access l regs m
      → HasArguments r ts l regs m
  arguments_first [] r l regs m low high fine f =
      record { after = regs; runs = refl; below = λ q lt. refl; hold = λ j lt. absurd (omega (arith, lt)); shown = f }
  arguments_first (t ∷ ts) r l regs m low high fine f =
      let x = passed t r l regs m low (omega (arith, high)) (fine_trees t (and_left (is_fine t) (all_true (map is_fine ts)) fine)) f in
      one_more t ts r l regs m x (arguments_first ts (suc r) l x.after m (omega (arith, low)) (omega (arith, high)) (and_right (is_fine t) (all_true (map is_fine ts)) fine) x.shown)
