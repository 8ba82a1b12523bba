-- The definitions over trees, one level at a time.
use Rattle.std.proofs.Common.{◌≡◌, ℕ, ◌+◌, Bool, not, cond, eqb, List, [], ◌∷◌, ◌++◌, Option, Some, None, unwrap_or, refl, sym, ap, ◌∙◌}
use Rattle.mv_isa.specs.declared.labelled.Line.{Line}
use Rattle.mv_isa.specs.declared.labelled.Line.TheVariants.{Branch, Entry}
use Rattle.mv_ir.specs.declared.tree.Tree.{Tree}
use Rattle.mv_ir.specs.declared.tree.Tree.TheOpen.{Tree-F}
use Rattle.mv_ir.specs.declared.tree.Tree.TheOpen as tree
use Rattle.mv_ir.specs.declared.tree.Tree.TheViews.{roll-Tree}
use Rattle.mv_ir.specs.declared.tree.Tree.TheFolds.{fold-roll-Tree, map-Tree}
use Rattle.mv_ir.proofs.Induction.{TreeChildren, tree_ind}
use Rattle.mv_select_code.specs.Trees.TreeCode.{Seats, one, number_by, load_lines, read_temp, unary_lines, keeps_words, narrow_lines, own_layer, own_register, literal_layer, literal, right_of, operator_lines, unless, Code, ready, stands, into_layer, tree_layer, tree_code, tree_into, tree_lines, operand_lines, operand_register, immediate_of, temps_layer, temps_of, word_branch, number_branch, comparison, compare_or, branch_layer, branch_lines}
use Rattle.mv_select_code.specs.Trees.View.{View, names_layer, is_in_view}

pub code_roll : (seats : Seats) (x : Tree-F Tree) → tree_code seats (roll-Tree x) ≡ tree_layer seats (map-Tree Tree Code (tree_code seats) x)
unfolding tree_code
code_roll seats x = fold-roll-Tree Code (tree_layer seats) x

pub own_roll : (seats : Seats) (x : Tree-F Tree) → own_register seats (roll-Tree x) ≡ own_layer seats (map-Tree Tree (Option ℕ) (own_register seats) x)
unfolding own_register
own_roll seats x = fold-roll-Tree (Option ℕ) (own_layer seats) x

pub literal_roll : (x : Tree-F Tree) → literal (roll-Tree x) ≡ literal_layer (map-Tree Tree (Option ℕ) literal x)
unfolding literal
literal_roll x = fold-roll-Tree (Option ℕ) literal_layer x

pub temps_roll : (x : Tree-F Tree) → temps_of (roll-Tree x) ≡ temps_layer (map-Tree Tree ℕ temps_of x)
unfolding temps_of
temps_roll x = fold-roll-Tree ℕ temps_layer x

pub in_view_roll : (v : View) (x : Tree-F Tree) → is_in_view v (roll-Tree x) ≡ names_layer v (map-Tree Tree Bool (is_in_view v) x)
unfolding is_in_view
in_view_roll v x = fold-roll-Tree Bool (names_layer v) x

pub immediate_is : (o : ℕ) (t : Tree) → right_of o (literal t) ≡ immediate_of o t
unfolding immediate_of
immediate_is o t = refl

-- ---- the code of a tree, of that of its parts

module _ (seats : Seats) where
  abbrev OwnIs : Tree → Type 0
  OwnIs t = (tree_code seats t).own ≡ own_register seats t

  own_is : (t : Tree) → OwnIs t
  own_is = tree_ind OwnIs (λ x h. ap (λ (c : Code). c.own) (code_roll seats x) ∙ same x h ∙ sym (own_roll seats x))
    where
      same : (x : Tree-F Tree) → TreeChildren OwnIs x → (tree_layer seats (map-Tree Tree Code (tree_code seats) x)).own ≡ own_layer seats (map-Tree Tree (Option ℕ) (own_register seats) x)
      same (tree.Number n) h = refl
      same (tree.Temp n) h = refl
      same (tree.Global n) h = refl
      same (tree.Function n) h = refl
      same (tree.Unary o a) h = refl
      same (tree.Binary o a b) h = refl
      same (tree.Narrow k a) h = ap (λ w. cond (keeps_words k) w None) h

  abbrev WrittenIs : Tree → Type 0
  WrittenIs t = (tree_code seats t).written ≡ literal t

  written_is : (t : Tree) → WrittenIs t
  written_is = tree_ind WrittenIs (λ x h. ap (λ (c : Code). c.written) (code_roll seats x) ∙ same x ∙ sym (literal_roll x))
    where
      same : (x : Tree-F Tree) → (tree_layer seats (map-Tree Tree Code (tree_code seats) x)).written ≡ literal_layer (map-Tree Tree (Option ℕ) literal x)
      same (tree.Number n) = refl
      same (tree.Temp n) = refl
      same (tree.Global n) = refl
      same (tree.Function n) = refl
      same (tree.Unary o a) = refl
      same (tree.Binary o a b) = refl
      same (tree.Narrow k a) = refl

  abbrev pub into_tree : Tree-F Tree → (d r : ℕ) → List Line
  into_tree (tree.Number n) d r = number_by (seats.pinned n) n d
  into_tree (tree.Temp t) d r = one (read_temp seats t d)
  into_tree (tree.Global g) d r = load_lines (seats.place g) d
  into_tree (tree.Function f) d r = Entry d f ∷ []
  into_tree (tree.Unary o a) d r = operand_lines seats a r ++ unary_lines o d (operand_register seats a r)
  into_tree (tree.Binary o a b) d r = operand_lines seats a r ++ operator_lines (immediate_of o b) o d (operand_register seats a r) (operand_lines seats b (r + 1)) (operand_register seats b (r + 1))
  into_tree (tree.Narrow k a) d r = cond (keeps_words k) (tree_into seats a d r) (operand_lines seats a r ++ narrow_lines k d (operand_register seats a r))

  layer_is : (x : Tree-F Tree) (d r : ℕ) → into_layer seats (map-Tree Tree Code (tree_code seats) x) d r ≡ into_tree x d r
  unfolding tree_into tree_lines operand_lines operand_register immediate_of
  layer_is (tree.Number n) d r = refl
  layer_is (tree.Temp t) d r = refl
  layer_is (tree.Global g) d r = refl
  layer_is (tree.Function f) d r = refl
  layer_is (tree.Unary o a) d r = ap (λ w. unless w ((tree_code seats a).into r r) ++ unary_lines o d (unwrap_or w r)) (own_is a)
  layer_is (tree.Binary o a b) d r =
      let s = r + 1 in
      let cb = tree_code seats b in
      ap (λ w. unless w ((tree_code seats a).into r r) ++ operator_lines (right_of o cb.written) o d (unwrap_or w r) (ready cb s) (stands cb s)) (own_is a)
      ∙ ap (λ w. operand_lines seats a r ++ operator_lines (right_of o cb.written) o d (operand_register seats a r) (unless w (cb.into s s)) (unwrap_or w s)) (own_is b)
      ∙ ap (λ w. operand_lines seats a r ++ operator_lines (right_of o w) o d (operand_register seats a r) (operand_lines seats b s) (operand_register seats b s)) (written_is b)
  layer_is (tree.Narrow k a) d r = ap (λ w. cond (keeps_words k) ((tree_code seats a).into d r) (unless w ((tree_code seats a).into r r) ++ narrow_lines k d (unwrap_or w r))) (own_is a)

  pub into_roll : (x : Tree-F Tree) (d r : ℕ) → tree_into seats (roll-Tree x) d r ≡ into_tree x d r
  unfolding tree_into
  into_roll x d r = ap (λ (c : Code). c.into d r) (code_roll seats x) ∙ layer_is x d r

  pub lines_are : (t : Tree) (r : ℕ) → tree_lines seats t r ≡ tree_into seats t r r
  unfolding tree_lines
  lines_are t r = refl

  -- ---- branches

  -- the lines that test the word of a tree
  abbrev pub word_lines : Tree → (sense : Bool) (r label : ℕ) → List Line
  word_lines t sense r label = operand_lines seats t r ++ word_branch sense (operand_register seats t r) label

  -- by a comparison, if there is one
  abbrev pub compared_or : Option ℕ → (a b : Tree) (r label : ℕ) → List Line → List Line
  compared_or None a b r label word = word
  compared_or (Some funct3) a b r label word =
      operand_lines seats a r ++ (operand_lines seats b (r + 1) ++ (Branch funct3 (operand_register seats a r) (operand_register seats b (r + 1)) label ∷ []))

  abbrev pub branch_tree : Tree-F Tree → (sense : Bool) (r label : ℕ) → List Line → List Line
  branch_tree (tree.Number n) sense r label word = number_branch sense n label
  branch_tree (tree.Unary o a) sense r label word = cond (eqb o 2) (branch_lines seats a (not sense) r label) word
  branch_tree (tree.Binary o a b) sense r label word = compared_or (comparison sense o) a b r label word
  branch_tree _ sense r label word = word

  compare_is : (f : Option ℕ) (a b : Tree) (r label : ℕ) (word : List Line) → compare_or f (tree_code seats a) (tree_code seats b) r label word ≡ compared_or f a b r label word
  unfolding tree_into tree_lines operand_lines operand_register
  compare_is None a b r label word = refl
  compare_is (Some f) a b r label word =
      let s = r + 1 in
      let cb = tree_code seats b in
      ap (λ w. unless w ((tree_code seats a).into r r) ++ (ready cb s ++ (Branch f (unwrap_or w r) (stands cb s) label ∷ []))) (own_is a)
      ∙ ap (λ w. operand_lines seats a r ++ (unless w (cb.into s s) ++ (Branch f (operand_register seats a r) (unwrap_or w s) label ∷ []))) (own_is b)

  branch_is : (x : Tree-F Tree) (sense : Bool) (r label : ℕ) (word : List Line) → branch_layer (map-Tree Tree Code (tree_code seats) x) sense r label word ≡ branch_tree x sense r label word
  unfolding branch_lines
  branch_is (tree.Number n) sense r label word = refl
  branch_is (tree.Temp t) sense r label word = refl
  branch_is (tree.Global g) sense r label word = refl
  branch_is (tree.Function f) sense r label word = refl
  branch_is (tree.Unary o a) sense r label word = refl
  branch_is (tree.Binary o a b) sense r label word = compare_is (comparison sense o) a b r label word
  branch_is (tree.Narrow k a) sense r label word = refl

  -- by the word, as its code says
  abbrev by_word : Code → (sense : Bool) (r label : ℕ) → List Line
  by_word c sense r label = unless c.own (c.into r r) ++ word_branch sense (unwrap_or c.own r) label

  word_is : (t : Tree) (sense : Bool) (r label : ℕ) → by_word (tree_code seats t) sense r label ≡ word_lines t sense r label
  unfolding tree_into tree_lines operand_lines operand_register
  word_is t sense r label = ap (λ w. unless w ((tree_code seats t).into r r) ++ word_branch sense (unwrap_or w r) label) (own_is t)

  pub branch_roll : (x : Tree-F Tree) (sense : Bool) (r label : ℕ) → branch_lines seats (roll-Tree x) sense r label ≡ branch_tree x sense r label (word_lines (roll-Tree x) sense r label)
  unfolding branch_lines
  branch_roll x sense r label =
      let parts = map-Tree Tree Code (tree_code seats) x in
      ap (λ (c : Code). c.branch sense r label) (code_roll seats x)
      ∙ ap (branch_layer parts sense r label) (ap (λ (c : Code). by_word c sense r label) (sym (code_roll seats x)) ∙ word_is (roll-Tree x) sense r label)
      ∙ branch_is x sense r label (word_lines (roll-Tree x) sense r label)
