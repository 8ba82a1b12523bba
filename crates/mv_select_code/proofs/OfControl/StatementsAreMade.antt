-- What holds of single lines and of lines that are put together holds of the code of statements without control.
use Rattle.std.proofs.Common.{ℕ, ◌+◌, ◌*◌, ◌&&◌, Bool, true, false, not, cond, eqb, List, [], ◌∷◌, ◌++◌, Option, Some, None, unwrap_or, pos, All, sym, subst}
use Rattle.std.proofs.lemmas.List.Elements.{All-append, All-cons, All-nil}
use Rattle.mv_isa.specs.declared.instr.Instr.{Instr}
use Rattle.mv_isa.specs.declared.instr.Instr.TheVariants.{Lui, Lw, Sw, Addi, Slli, Add}
use Rattle.mv_isa.specs.declared.labelled.Line.{Line}
use Rattle.mv_isa.specs.declared.labelled.Line.TheVariants.{Word, Label, Entry, Jump, Branch}
use Rattle.mv_ir.specs.declared.tree.Tree.{Tree}
use Rattle.mv_ir.specs.declared.tree.Tree.TheOpen.{Tree-F}
use Rattle.mv_ir.specs.declared.tree.Tree.TheOpen as tree
use Rattle.mv_ir.specs.declared.tree.Tree.TheViews.{roll-Tree}
use Rattle.mv_ir.proofs.Induction.{TreeChildren, tree_ind}
use Rattle.mv_select_code.specs.Trees.TreeCode.{Seats, one, two, upper_bits, lower_bits, near, number_lines, load_lines, temp_offset, literal, unless, own_register, tree_into, tree_lines, operand_lines, operand_register, is_taken, word_branch, comparison, branch_lines}
use Rattle.mv_select_code.proofs.OfTrees.Rolls.{word_lines, compared_or, branch_tree, branch_roll}
use Rattle.mv_select_code.proofs.OfTrees.TreesAreMade as trees
use Rattle.mv_select_code.specs.declared.trees.leaves.Based.{Based}
use Rattle.mv_select_code.specs.declared.statements.elements.Home.{Home}
use Rattle.mv_select_code.specs.declared.statements.elements.Home.TheVariants as home
use Rattle.mv_select_code.specs.Statements.StatementCode.{first, second, third, trap_label, target, keep_in, keep_lines, is_seat, division, power_of, power_division, element_offset, base_by, element_lines, fixed, element_at, fetch_lines, store_by, store_lines, put_lines, test_lines, tested_lines, divisor_lines, divide_by, check_by, read_by, write_by, bounds_lines, clear_lines, set_lines, set_global_lines, divide_lines, check_lines, read_lines, write_lines, result_lines}
use Rattle.mv_select_code.specs.declared.control.enclosing.Way.{Way}
use Rattle.mv_select_code.specs.Control.FlowCode.{go_to, go_on}
use Rattle.mv_select_code.specs.Control.Labels.{tree_functions, Names}
use Rattle.mv_select_code.proofs.OfControl.TreeNames.{functions_inside, function_named}

-- P holds of lines that are put together where it holds of each part; of a label's line where the label is of the kind L, of one that jumps where its
-- goal is of the kind J, and of one that takes the address of a function where the function is of the kind Q
pub record LineByLine (P : List Line → Type 0) (L J Q : ℕ → Type 0) : Type 0 where
  pub none : P []
  pub after : (a b : List Line) → P a → P b → P (a ++ b)
  pub word : (i : Instr) → P (one i)
  pub label : (l : ℕ) → L l → P (Label l ∷ [])
  pub jump : (l : ℕ) → J l → P (Jump 0 l ∷ [])
  pub branch : (funct3 a b l : ℕ) → J l → P (Branch funct3 a b l ∷ [])
  pub entry : (r f : ℕ) → Q f → P (Entry r f ∷ [])

module _ {P : List Line → Type 0} {L J Q : ℕ → Type 0} (made : LineByLine P L J Q) where
  pub words_made : (i j : Instr) → P (two i j)
  words_made i j = made.after (one i) (one j) (made.word i) (made.word j)

  pub number_made : (n r : ℕ) → P (number_lines n r)
  number_made = trees.number_made P P made.none (λ a h. h) (λ i plain. made.word i) made.after

  load_made : (a r : ℕ) → P (load_lines a r)
  load_made = trees.load_made P P made.none (λ a h. h) (λ i plain. made.word i) made.after

  store_made : (a q : ℕ) → P (store_lines a q)
  unfolding store_lines
  store_made a q = by (near a)
    where
      by : (n : Option Based) → P (store_by n a q)
      by (Some n) = made.word (Sw n.base q n.offset)
      by None = words_made (Lui second (pos (upper_bits a))) (Sw second q (lower_bits a))

  base_made : (n : Option Based) (at : ℕ) → P (base_by n at)
  base_made (Some n) at = made.word (Add first first n.base)
  base_made None at = words_made (Lui third (pos (upper_bits at))) (Add first first third)

  element_made : (h : Home) (q : ℕ) → P (element_lines h q)
  element_made (home.Data at) q = made.after (one (Slli first q (pos 2))) (base_by (near at) at) (made.word (Slli first q (pos 2))) (base_made (near at) at)
  element_made (home.Frame at) q = words_made (Slli first q (pos 2)) (Add first first 2)

  fetch_made : (h : Home) (d : ℕ) → P (fetch_lines h d)
  fetch_made (home.Data at) d = load_made at d
  fetch_made (home.Frame at) d = made.word (Lw d 2 (pos at))

  put_made : (h : Home) (q : ℕ) → P (put_lines h q)
  put_made (home.Data at) q = store_made at q
  put_made (home.Frame at) q = made.word (Sw 2 q (pos at))

  test_made : (s : Seats) (size q : ℕ) → J (trap_label 2) → P (test_lines s size q)
  test_made s size q h = by (s.pinned size)
    where
      by : (own : Option ℕ) → P (unless own (number_lines size third) ++ (Branch 7 q (unwrap_or own third) (trap_label 2) ∷ []))
      by (Some r) = made.branch 7 q r (trap_label 2) h
      by None = made.after (number_lines size third) (Branch 7 q third (trap_label 2) ∷ []) (number_made size third) (made.branch 7 q third (trap_label 2) h)

  pub bounds_made : (at n : ℕ) → P (bounds_lines at n)
  bounds_made at n = words_made (Addi first 2 (pos at)) (Addi second 2 (pos (at + 4 * n)))

  pub clear_made : P clear_lines
  clear_made = words_made (Sw first 0 (pos 0)) (Addi first first (pos 4))

  -- ---- trees, and statements that have some

  abbrev Fs : Tree → Type 0
  Fs t = All Q (tree_functions t)

  entry_made : (f r : ℕ) → Fs (roll-Tree (tree.Function f)) → P (Entry r f ∷ [])
  entry_made f r h = made.entry r f (function_named Q f h)

  either_made : (d : Bool) (ls ks : List Line) → P ls → P ks → P (cond d ls ks)
  either_made true ls ks h k = h
  either_made false ls ks h k = k

  divisor_made : (n : Option ℕ) (q : ℕ) → J (trap_label 1) → P (divisor_lines n q)
  divisor_made None q h = made.branch 0 q 0 (trap_label 1) h
  divisor_made (Some n) q h = either_made (eqb n 0) (Branch 0 q 0 (trap_label 1) ∷ []) [] (made.branch 0 q 0 (trap_label 1) h) made.none

  module _ (s : Seats) where
    pub tree_made : (t : Tree) → Fs t → (r : ℕ) → P (tree_lines s t r)
    tree_made = trees.lines_made P P made.none (λ a h. h) (λ i plain. made.word i) made.after Fs (functions_inside Q) entry_made s

    pub operand_made : (t : Tree) → Fs t → (r : ℕ) → P (operand_lines s t r)
    operand_made = trees.operand_made P P made.none (λ a h. h) (λ i plain. made.word i) made.after Fs (functions_inside Q) entry_made s

    pub into_made : (t : Tree) → Fs t → (d r : ℕ) → P (tree_into s t d r)
    into_made = trees.into_made P P made.none (λ a h. h) (λ i plain. made.word i) made.after Fs (functions_inside Q) entry_made s

    keep_made : (t : ℕ) → P (keep_lines s t)
    unfolding keep_lines
    keep_made t = by (s.register t)
      where
        by : (own : Option ℕ) → P (keep_in own t)
        by (Some q) = made.none
        by None = made.word (Sw 2 first (pos (temp_offset t)))

    last_made : (i : Instr) (t : ℕ) → P (Word i ∷ keep_lines s t)
    last_made i t = made.after (one i) (keep_lines s t) (made.word i) (keep_made t)

    pub set_made : (t : ℕ) (v : Tree) → Fs v → P (set_lines s t v)
    set_made t v h =
        let ls = tree_into s v (target s t) first ++ keep_lines s t in
        either_made (is_seat (s.register t) (own_register s v)) [] ls made.none (made.after (tree_into s v (target s t) first) (keep_lines s t) (into_made v h (target s t) first) (keep_made t))

    pub set_global_made : (g : ℕ) (v : Tree) → Fs v → P (set_global_lines s g v)
    set_global_made g v h =
        let q = operand_register s v first in
        made.after (operand_lines s v first) (store_lines (s.place g) q) (operand_made v h first) (store_made (s.place g) q)

    pub divide_made : (t o : ℕ) (a b : Tree) → J (trap_label 1) → Fs a → Fs b → P (divide_lines s t o a b)
    divide_made t o a b p h k = by (power_of o (literal b))
      where
        left : ℕ
        left = operand_register s a first

        by : (n : Option ℕ) → P (divide_by s n t o a b)
        by None =
            let right = operand_register s b second in
            let test = divisor_lines (literal b) right in
            let divide = division o (target s t) left right in
            made.after (operand_lines s a first) (operand_lines s b second ++ (test ++ (Word divide ∷ keep_lines s t))) (operand_made a h first)
            (made.after (operand_lines s b second) (test ++ (Word divide ∷ keep_lines s t)) (operand_made b k second)
            (made.after test (Word divide ∷ keep_lines s t) (divisor_made (literal b) right p) (last_made divide t)))
        by (Some n) =
            let divide = power_division o n (target s t) left in
            made.after (operand_lines s a first) (Word divide ∷ keep_lines s t) (operand_made a h first) (last_made divide t)

    tested_made : (tested : Bool) (size q : ℕ) → J (trap_label 2) → P (tested_lines s tested size q)
    tested_made tested size q p = either_made tested (test_lines s size q) [] (test_made s size q p) made.none

    pub check_made : (size : ℕ) (tested : Bool) (i : Tree) → J (trap_label 2) → Fs i → P (check_lines s size tested i)
    check_made size tested i p h = by (fixed size (literal i))
      where
        q : ℕ
        q = operand_register s i first

        by : (n : Option ℕ) → P (check_by s n size tested i)
        by None =
            let ls = operand_lines s i first ++ test_lines s size q in
            either_made tested ls [] (made.after (operand_lines s i first) (test_lines s size q) (operand_made i h first) (test_made s size q p)) made.none
        by (Some n) = made.none

    pub read_made : (t size : ℕ) (e : Home) (tested : Bool) (i : Tree) → J (trap_label 2) → Fs i → P (read_lines s t e size tested i)
    read_made t size e tested i p h = by (fixed size (literal i))
      where
        q : ℕ
        q = operand_register s i first

        load : List Line
        load = Word (Lw (target s t) first (element_offset e)) ∷ keep_lines s t

        by : (n : Option ℕ) → P (read_by s n t e size tested i)
        by None =
            made.after (operand_lines s i first) (tested_lines s tested size q ++ (element_lines e q ++ load)) (operand_made i h first)
            (made.after (tested_lines s tested size q) (element_lines e q ++ load) (tested_made tested size q p)
            (made.after (element_lines e q) load (element_made e q) (last_made (Lw (target s t) first (element_offset e)) t)))
        by (Some n) = made.after (fetch_lines (element_at e n) (target s t)) (keep_lines s t) (fetch_made (element_at e n) (target s t)) (keep_made t)

    pub write_made : (size : ℕ) (e : Home) (tested : Bool) (i v : Tree) → J (trap_label 2) → Fs i → Fs v → P (write_lines s e size tested i v)
    write_made size e tested i v p h k = by (fixed size (literal i))
      where
        q : ℕ
        q = operand_register s i first

        store : Instr
        store = Sw first (operand_register s v second) (element_offset e)

        by : (n : Option ℕ) → P (write_by s n e size tested i v)
        by None =
            made.after (operand_lines s i first) (operand_lines s v second ++ (tested_lines s tested size q ++ (element_lines e q ++ one store))) (operand_made i h first)
            (made.after (operand_lines s v second) (tested_lines s tested size q ++ (element_lines e q ++ one store)) (operand_made v k second)
            (made.after (tested_lines s tested size q) (element_lines e q ++ one store) (tested_made tested size q p)
            (made.after (element_lines e q) (one store) (element_made e q) (made.word store))))
        by (Some n) =
            let r = operand_register s v first in
            made.after (operand_lines s v first) (put_lines (element_at e n) r) (operand_made v k first) (put_made (element_at e n) r)

    pub result_made : (v : Tree) → Fs v → P (result_lines s v)
    result_made v h = either_made (is_seat (Some 10) (own_register s v)) [] (tree_into s v 10 first) made.none (into_made v h 10 first)

    -- ---- branches by a tree

    word_made : (t : Tree) → Fs t → (sense : Bool) (r label : ℕ) → J label → P (word_lines s t sense r label)
    word_made t h sense r label j =
        let q = operand_register s t r in
        made.after (operand_lines s t r) (word_branch sense q label) (operand_made t h r) (made.branch (cond sense 1 0) q 0 label j)

    compared_made : (f : Option ℕ) (a b : Tree) → Fs a → Fs b → (r label : ℕ) → J label → (word : List Line) → P word → P (compared_or s f a b r label word)
    compared_made None a b h k r label j word w = w
    compared_made (Some f) a b h k r label j word w =
        let end = Branch f (operand_register s a r) (operand_register s b (r + 1)) label ∷ [] in
        made.after (operand_lines s a r) (operand_lines s b (r + 1) ++ end) (operand_made a h r)
        (made.after (operand_lines s b (r + 1)) end (operand_made b k (r + 1)) (made.branch f (operand_register s a r) (operand_register s b (r + 1)) label j))

    abbrev BranchIsMade : Tree → Type 0
    BranchIsMade t = Fs t → (sense : Bool) (r label : ℕ) → J label → P (branch_lines s t sense r label)

    branch_layer : (x : Tree-F Tree) → TreeChildren BranchIsMade x → Fs (roll-Tree x) → (sense : Bool) (r label : ℕ) → J label → (word : List Line) → P word → P (branch_tree s x sense r label word)
    branch_layer (tree.Number n) h fs sense r label j word w = either_made (is_taken sense n) (Jump 0 label ∷ []) [] (made.jump label j) made.none
    branch_layer (tree.Unary o a) h fs sense r label j word w =
        either_made (eqb o 2) (branch_lines s a (not sense) r label) word (h (functions_inside Q (tree.Unary o a) fs) (not sense) r label j) w
    branch_layer (tree.Binary o a b) h fs sense r label j word w =
        let inside = functions_inside Q (tree.Binary o a b) fs in
        compared_made (comparison sense o) a b inside.0 inside.1 r label j word w
    branch_layer _ h fs sense r label j word w = w

    pub branch_made : (t : Tree) → Fs t → (sense : Bool) (r label : ℕ) → J label → P (branch_lines s t sense r label)
    branch_made =
        tree_ind BranchIsMade
        (λ x h fs sense r label j. subst P (sym (branch_roll s x sense r label)) (branch_layer x h fs sense r label j (word_lines s (roll-Tree x) sense r label) (word_made (roll-Tree x) fs sense r label j)))

    -- ---- where control goes behind code

    pub go_to_made : (way : Way) (l : ℕ) → J l → P (go_to way l)
    go_to_made way l j = either_made (way.falls && eqb way.after l) [] (Jump 0 l ∷ []) made.none (made.jump l j)

    pub go_on_made : (way : Way) → J way.after → P (go_on way)
    go_on_made way j = either_made way.falls [] (Jump 0 way.after ∷ []) made.none (made.jump way.after j)

-- ---- the labels that lines name; no label stands there

pub names_made : (P : ℕ → Type 0) → LineByLine (All (Names P)) (λ l. ⊥) P P
names_made P = record {
  none = All-nil (Names P);
  after = All-append (Names P);
  word = λ i. All-cons (Names P) (Word i) [] tt (All-nil (Names P));
  label = λ l h. absurd h;
  jump = λ l h. All-cons (Names P) (Jump 0 l) [] h (All-nil (Names P));
  branch = λ funct3 a b l h. All-cons (Names P) (Branch funct3 a b l) [] h (All-nil (Names P));
  entry = λ r f h. All-cons (Names P) (Entry r f) [] h (All-nil (Names P));
}
