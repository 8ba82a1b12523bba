-- The code of a branch goes to its label exactly where its tree says so.
use Rattle.std.proofs.Common.{◌≡◌, ◌⊎◌, inl, inr, ⊎_elim, ℕ, ◌+◌, ◌*◌, ◌<◌, ◌≤◌, Bool, true, false, not, ◌&&◌, cond, eqb, List, [], ◌∷◌, ◌++◌, length, Option, Some, None, refl, sym, ap, ◌∙◌, subst, arith}
use Rattle.std.proofs.lemmas.Bool.{eqb-true}
use Rattle.mv_num.specs.Words.{as_word, lt_s, lt_u}
use Rattle.mv_isa.specs.declared.labelled.Line.{Line}
use Rattle.mv_isa.specs.declared.labelled.Line.TheVariants.{Jump, Branch}
use Rattle.mv_isa.specs.Execution.{Access, reg}
use Rattle.mv_isa.specs.LineSteps.{branch_holds}
use Rattle.mv_ir.specs.declared.tree.Tree.{Tree}
use Rattle.mv_ir.specs.declared.tree.Tree.TheOpen.{Tree-F}
use Rattle.mv_ir.specs.declared.tree.Tree.TheOpen as tree
use Rattle.mv_ir.specs.declared.tree.Tree.TheViews.{roll-Tree}
use Rattle.mv_ir.specs.declared.tree.Tree.TheFolds.{map-Tree}
use Rattle.mv_ir.specs.World as ir
use Rattle.mv_ir.specs.Outcome.{State}
use Rattle.mv_ir.specs.Trees.{nodes, depth, unary, binary, Value, tree_value, value}
use Rattle.mv_ir.specs.Meaning.{of_tree}
use Rattle.mv_ir.proofs.Induction.{TreeChildren, tree_ind}
use Rattle.mv_ir.proofs.Rolls.{value_roll, nodes_roll, depth_roll}
use Rattle.mv_select_code.specs.Trees.TreeCode.{is_taken, word_branch, number_branch, comparison, operand_lines, operand_register, branch_lines}
use Rattle.mv_select_code.specs.Trees.View.{is_in_view}
use Rattle.mv_select_code.proofs.OfTrees.Branches.{comparison_cases}
use Rattle.mv_select_code.proofs.OfTrees.Operands.{operand_below, operand_outside}
use Rattle.mv_select_code.proofs.OfTrees.Registers.{reg_zero}
use Rattle.mv_select_code.proofs.OfTrees.Rolls.{in_view_roll, word_lines, compared_or, branch_tree, branch_roll}
use Rattle.mv_select_code.specs.Statements.StatementCode.{first}
use Rattle.mv_select_code.specs.Statements.Leads.{Exit, exit_by, Leads}
use Rattle.mv_select_code.specs.Statements.Frames.{Site, view_of, IsFine, IsFit, Shows}
use Rattle.mv_select_code.specs.Statements.Laws.{LeadsTo}
use Rattle.mv_select_code.proofs.OfStatements.ScalarStatements.{at_first, after_operand}
use Rattle.mv_select_code.proofs.OfStatements.TreesFirst.{operand_within, operand_first}
use Rattle.mv_select_code.proofs.OfStatements.Walks.{leads_more}
use Rattle.mv_num.proofs.Booleans.{and_left, and_right}

-- ---- conditions

-- a branch by a word
word_holds : (sense : Bool) (a z n : ℕ) → a ≡ n → z ≡ 0 → branch_holds (cond sense 1 0) a z ≡ is_taken sense n
word_holds true a z n e f = ap (λ x. not (eqb x z)) e ∙ ap (λ y. not (eqb n y)) f ∙ same (eqb n 0)
  where
    same : (b : Bool) → not b ≡ cond b false true
    same true = refl
    same false = refl
word_holds false a z n e f = ap (λ x. eqb x z) e ∙ ap (λ y. eqb n y) f ∙ same (eqb n 0)
  where
    same : (b : Bool) → b ≡ cond b true false
    same true = refl
    same false = refl

not_word : (n : ℕ) → unary 2 n ≡ as_word (eqb n 0)
unfolding unary
not_word n = refl

-- a test that is written as a word
truth : (sense b : Bool) → cond sense b (not b) ≡ is_taken sense (as_word b)
truth true true = refl
truth true false = refl
truth false true = refl
truth false false = refl

-- the opposite of a word
turned : (sense : Bool) (n : ℕ) → is_taken (not sense) n ≡ is_taken sense (as_word (eqb n 0))
turned sense n = by (eqb n 0) sense
  where
    by : (b sense : Bool) → cond b (not (not sense)) (not sense) ≡ is_taken sense (as_word b)
    by true true = refl
    by true false = refl
    by false true = refl
    by false false = refl

-- the branch of a comparison holds where the comparison says so
abbrev Compares : Bool → (a b o : ℕ) → Option ℕ → Type 0
Compares sense a b o None = Unit {0}
Compares sense a b o (Some f) = branch_holds f a b ≡ is_taken sense (binary o a b)

twice : (b : Bool) → b ≡ not (not b)
twice true = refl
twice false = refl

compares : (sense : Bool) (a b o : ℕ) → Compares sense a b o (comparison sense o)
unfolding binary
compares sense a b = comparison_cases (Compares sense a b) (λ o. tt) sense (less sense) (less_unsigned sense) (equal sense) (unequal sense)
  where
    less : (sense : Bool) → branch_holds (cond sense 4 5) a b ≡ is_taken sense (binary 9 a b)
    less true = truth true (lt_s a b)
    less false = truth false (lt_s a b)

    less_unsigned : (sense : Bool) → branch_holds (cond sense 6 7) a b ≡ is_taken sense (binary 10 a b)
    less_unsigned true = truth true (lt_u a b)
    less_unsigned false = truth false (lt_u a b)

    equal : (sense : Bool) → branch_holds (cond sense 0 1) a b ≡ is_taken sense (binary 11 a b)
    equal true = truth true (eqb a b)
    equal false = truth false (eqb a b)

    unequal : (sense : Bool) → branch_holds (cond sense 1 0) a b ≡ is_taken sense (binary 12 a b)
    unequal true = truth true (not (eqb a b))
    unequal false = twice (eqb a b) ∙ truth false (not (eqb a b))

module _ {M : Type 0} (access : Access M) (s : Site) (setting : ir.Setting) (frame : ir.Frame) (fit : IsFit s access setting frame) where
  abbrev V : Tree → State → ℕ
  V = of_tree setting frame

  abbrev To : List Line → ℕ → List ℕ → M → Exit → State → Type 0
  To = LeadsTo access s setting frame

  abbrev Fine : Tree → Type 0
  Fine = IsFine s setting frame

  -- a branch leads where its condition says
  branch_leads : (f q r label : ℕ) (d : Bool) (regs : List ℕ) (m : M) → branch_holds f (reg regs q) (reg regs r) ≡ d → Leads access s (Branch f q r label ∷ []) 2 regs m (exit_by d label) regs m
  branch_leads f q r label true regs m holds = inl (holds, omega arith, refl, (refl, refl))
  branch_leads f q r label false regs m holds = inr (holds, 1, omega arith, (refl, (refl, refl)))

  -- by the word of the tree
  word_done : (v : Tree) → Fine v → (sense : Bool) (label : ℕ) (l : State) (regs : List ℕ) (m : M) → Shows s access l regs m
      → To (word_lines s.seats v sense first label) (2 * nodes v + 2) regs m (exit_by (is_taken sense (V v l)) label) l
  word_done v fine sense label l regs m f =
      let q = operand_register s.seats v first in
      let x = operand_first access s setting frame fit first v l regs m at_first fine f in
      let d = is_taken sense (V v l) in
      let holds = word_holds sense (reg x.after q) (reg x.after 0) (V v l) x.holds (reg_zero x.after) in (
        x.after,
        m,
        after_operand access s setting frame fit first v (word_branch sense q label) 2 (2 * nodes v + 2) l regs m (exit_by d label) x.after m (omega arith) x
            (branch_leads (cond sense 1 0) q 0 label d x.after m holds),
        x.shown,
      )

  -- by a comparison
  compared_done : (f o : ℕ) (a b : Tree) → Fine a → Fine b → depth b ≤ 3 → (sense : Bool) (label : ℕ) (l : State) (regs : List ℕ) (m : M) → Shows s access l regs m
      → Compares sense (V a l) (V b l) o (Some f)
      → To (compared_or s.seats (Some f) a b first label []) (2 * nodes a + (2 * nodes b + 2)) regs m (exit_by (is_taken sense (binary o (V a l) (V b l))) label) l
  compared_done f o a b fa fb low sense label l regs m h c =
      let beside = first + 1 in
      let p = operand_register s.seats a first in
      let q = operand_register s.seats b beside in
      let end = Branch f p q label ∷ [] in
      let x = operand_first access s setting frame fit first a l regs m at_first fa h in
      let y = operand_within access s setting frame fit beside b l x.after m (inr (omega arith, omega arith)) fb x.shown in
      let d = is_taken sense (binary o (V a l) (V b l)) in
      let outside : (p < beside) ⊎ (beside + 4 ≤ p) =
      ⊎_elim (λ (k : p < beside). inl k) (λ (k : 32 ≤ p). absurd (omega (arith, operand_below s.seats fit.seats a first (omega arith))))
      (operand_outside s.seats fit.seats a first 32 (inr (omega arith, omega arith))) in
      let left : reg y.after p ≡ V a l = y.changes.others p outside ∙ x.holds in
      let holds : branch_holds f (reg y.after p) (reg y.after q) ≡ d = ap (λ z. branch_holds f z (reg y.after q)) left ∙ ap (branch_holds f (V a l)) y.holds ∙ c in (
        y.after,
        m,
        after_operand access s setting frame fit first a (operand_lines s.seats b beside ++ end) (2 * nodes b + 2) (2 * nodes a + (2 * nodes b + 2)) l regs m (exit_by d label) y.after m (omega arith) x
            (after_operand access s setting frame fit beside b end 2 (2 * nodes b + 2) l x.after m (exit_by d label) y.after m (omega arith) y (branch_leads f p q label d y.after m holds)),
        y.shown,
      )

  -- ---- trees

  abbrev TreeBranches : Tree → Type 0
  TreeBranches v = Fine v → (sense : Bool) (label : ℕ) (l : State) (regs : List ℕ) (m : M) → Shows s access l regs m
      → To (branch_lines s.seats v sense first label) (2 * nodes v + 2) regs m (exit_by (is_taken sense (V v l)) label) l

  value_is : (x : Tree-F Tree) (l : State) → V (roll-Tree x) l ≡ tree_value setting.numbers frame.bound (map-Tree Tree Value (value setting.numbers frame.bound) x) l.temps l.world.globals
  value_is x l = ap (λ (w : Value). w l.temps l.world.globals) (value_roll setting.numbers frame.bound x)

  -- lines that lead where a number says lead where an equal one does, within more instructions
  at_value : (ls : List Line) (n k : ℕ) (regs : List ℕ) (m : M) (d e : Bool) (label : ℕ) (l : State) → d ≡ e → n ≤ k → To ls n regs m (exit_by d label) l → To ls k regs m (exit_by e label) l
  at_value ls n k regs m d e label l same le h =
      subst (λ b. To ls k regs m (exit_by b label) l) same (h.0, h.1, leads_more access s ls n k regs m (exit_by d label) h.0 h.1 le h.2, h.3)

  fine_unary : (o : ℕ) (a : Tree) → Fine (roll-Tree (tree.Unary o a)) → Fine a
  fine_unary o a fine =
      let low = fine.shallow in
      record { named = λ l e. sym (in_view_roll (view_of s setting frame l) (tree.Unary o a)) ∙ fine.named l e; shallow = omega (arith, low, depth_roll (tree.Unary o a)) }

  fine_binary : (o : ℕ) (a b : Tree) → Fine (roll-Tree (tree.Binary o a b)) → Fine a × Fine b
  fine_binary o a b fine =
      let low = fine.shallow in
      let deep = depth_roll (tree.Binary o a b) in (
        record { named = λ l e. and_left (In l a) (In l b) (both l e); shallow = omega (arith, low, deep) },
        record { named = λ l e. and_right (In l a) (In l b) (both l e); shallow = omega (arith, low, deep) },
      )
    where
      In : State → Tree → Bool
      In l t = is_in_view (view_of s setting frame l) t

      both : (l : State) → length l.temps ≡ s.temps → (In l a && In l b) ≡ true
      both l e = sym (in_view_roll (view_of s setting frame l) (tree.Binary o a b)) ∙ fine.named l e

  layer : (x : Tree-F Tree) → TreeChildren TreeBranches x → Fine (roll-Tree x) → (sense : Bool) (label : ℕ) (l : State) (regs : List ℕ) (m : M) → Shows s access l regs m
      → (word : List Line) → To word (2 * nodes (roll-Tree x) + 2) regs m (exit_by (is_taken sense (V (roll-Tree x) l)) label) l
      → To (branch_tree s.seats x sense first label word) (2 * nodes (roll-Tree x) + 2) regs m (exit_by (is_taken sense (V (roll-Tree x) l)) label) l
  layer (tree.Number n) h fine sense label l regs m f word w =
      let d = is_taken sense n in
      at_value (number_branch sense n label) 1 (2 * nodes (roll-Tree (tree.Number n)) + 2) regs m d (is_taken sense (V (roll-Tree (tree.Number n)) l)) label l (ap (is_taken sense) (sym (value_is (tree.Number n) l))) (omega arith) (by d)
    where
      by : (d : Bool) → To (cond d (Jump 0 label ∷ []) []) 1 regs m (exit_by d label) l
      by true = (regs, m, (refl, omega arith, refl, (refl, refl)), f)
      by false = (regs, m, (refl, (refl, refl)), f)
  layer (tree.Unary o a) h fine sense label l regs m f word w = by (eqb o 2) refl
    where
      t : Tree
      t = roll-Tree (tree.Unary o a)

      by : (d : Bool) → eqb o 2 ≡ d → To (cond d (branch_lines s.seats a (not sense) first label) word) (2 * nodes t + 2) regs m (exit_by (is_taken sense (V t l)) label) l
      by true is =
          at_value (branch_lines s.seats a (not sense) first label) (2 * nodes a + 2) (2 * nodes t + 2) regs m (is_taken (not sense) (V a l)) (is_taken sense (V t l)) label l
          (turned sense (V a l) ∙ ap (is_taken sense) (sym (value_is (tree.Unary o a) l ∙ ap (λ k. unary k (V a l)) (eqb-true o 2 is) ∙ not_word (V a l)))) (omega (arith, nodes_roll (tree.Unary o a)))
          (h (fine_unary o a fine) (not sense) label l regs m f)
      by false is = w
  layer (tree.Binary o a b) h fine sense label l regs m f word w = by (comparison sense o) (compares sense (V a l) (V b l) o)
    where
      t : Tree
      t = roll-Tree (tree.Binary o a b)

      by : (c : Option ℕ) → Compares sense (V a l) (V b l) o c → To (compared_or s.seats c a b first label word) (2 * nodes t + 2) regs m (exit_by (is_taken sense (V t l)) label) l
      by None c = w
      by (Some funct3) c =
          let parts = fine_binary o a b fine in
          let low = fine.shallow in
          at_value (compared_or s.seats (Some funct3) a b first label []) (2 * nodes a + (2 * nodes b + 2)) (2 * nodes t + 2) regs m (is_taken sense (binary o (V a l) (V b l))) (is_taken sense (V t l)) label l
          (ap (is_taken sense) (sym (value_is (tree.Binary o a b) l))) (omega (arith, nodes_roll (tree.Binary o a b)))
          (compared_done funct3 o a b parts.0 parts.1 (omega (arith, low, depth_roll (tree.Binary o a b))) sense label l regs m f c)
  layer _ h fine sense label l regs m f word w = w

  pub branch_done : (sense : Bool) (label : ℕ) (v : Tree) → Fine v → (l : State) (regs : List ℕ) (m : M) → Shows s access l regs m
      → To (branch_lines s.seats v sense first label) (2 * nodes v + 2) regs m (exit_by (is_taken sense (V v l)) label) l
  branch_done sense label v fine =
      tree_ind TreeBranches
      (λ x h fine sense label l regs m f. subst (λ ls. To ls (2 * nodes (roll-Tree x) + 2) regs m (exit_by (is_taken sense (V (roll-Tree x) l)) label) l) (sym (branch_roll s.seats x sense first label))
      (layer x h fine sense label l regs m f (word_lines s.seats (roll-Tree x) sense first label) (word_done (roll-Tree x) fine sense label l regs m f))) v fine sense label
