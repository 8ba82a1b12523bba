-- The fields of the code of statements fit, and it has few words.
use Rattle.std.proofs.Common.{inl, inr, ◌≡◌, ℕ, zero, suc, ◌+◌, ◌*◌, ◌<◌, ◌≤◌, Bool, true, false, not, cond, eqb, List, [], ◌∷◌, ◌++◌, Option, Some, None, unwrap_or, pos, refl, sym, subst, arith}
use Rattle.std.proofs.lemmas.List.Elements.{All-append, All-cons, All-nil}
use Rattle.std.proofs.lemmas.List.Sums.{sum_by-append}
use Rattle.mv_num.specs.Words.{add}
use Rattle.mv_isa.specs.declared.instr.Instr.{Instr}
use Rattle.mv_isa.specs.declared.instr.Instr.TheVariants.{Lui, Lw, Sw, Addi, Slli, Add}
use Rattle.mv_isa.specs.declared.labelled.Line.{Line}
use Rattle.mv_isa.specs.declared.labelled.Line.TheVariants.{Word, Jump, Branch}
use Rattle.mv_isa.specs.Encoding.{Fits, IsSigned}
use Rattle.mv_isa.specs.Code.{LineFits, IsCondition, greatest_words}
use Rattle.mv_isa.specs.Registers.{a0}
use Rattle.mv_isa.proofs.Again.{count_fits}
use Rattle.mv_ir.specs.declared.tree.Tree.{Tree}
use Rattle.mv_ir.specs.declared.tree.Tree.TheOpen.{Tree-F}
use Rattle.mv_ir.specs.declared.tree.Tree.TheOpen as tree
use Rattle.mv_ir.specs.declared.tree.Tree.TheViews.{roll-Tree}
use Rattle.mv_ir.specs.Trees.{nodes, depth}
use Rattle.mv_ir.proofs.Induction.{TreeChildren, tree_ind}
use Rattle.mv_ir.proofs.Rolls.{nodes_roll, depth_roll}
use Rattle.mv_select_code.specs.Trees.TreeCode.{Seats, upper_bits, lower_bits, near, one, two, number_lines, temp_offset, literal, unless, own_register, tree_into, tree_lines, operand_lines, operand_register, is_taken, word_branch, comparison, branch_lines}
use Rattle.mv_select_code.specs.Trees.View.{AreSeats}
use Rattle.mv_select_code.specs.declared.trees.leaves.Based.{Based}
use Rattle.mv_select_code.proofs.OfTrees.Branches.{comparison_cases}
use Rattle.mv_select_code.proofs.OfTrees.Near.{near_fits, near_below}
use Rattle.mv_select_code.proofs.OfTrees.Operands.{operand_below}
use Rattle.mv_select_code.proofs.OfTrees.Registers.{pin_free, seat_free}
use Rattle.mv_select_code.proofs.OfTrees.Rolls.{temps_roll, word_lines, compared_or, branch_tree, branch_roll}
use Rattle.mv_select_code.proofs.OfTrees.TreesAreShort.{number_size, load_size, trees_are_short, into_short, operand_short}
use Rattle.mv_select_code.proofs.OfTrees.TreesFit.{one_fits, small_fits, lower_fits, upper_fits, number_fits, load_fits, offset_fits, trees_fit, into_fits, operand_fits}
use Rattle.mv_select_code.specs.declared.statements.elements.Home.{Home}
use Rattle.mv_select_code.specs.declared.statements.elements.Home.TheVariants as home
use Rattle.mv_select_code.specs.Statements.StatementCode.{first, second, third, trap_label, write_to, write_temp, target, keep_in, keep_lines, is_seat, division, power_of, power_division, offset_by, element_offset, base_by, element_lines, home_within, fixed, element_at, fetch_lines, store_by, store_lines, put_lines, test_lines, tested_lines, bounds_lines, clear_lines, divisor_lines, divide_by, check_by, read_by, write_by}
use Rattle.mv_select_code.specs.Statements.Encoded.{IsCode, IsSmall, AreEncoded, StatementsAreEncoded}
use Rattle.mv_select_code.proofs.OfStatements.ElementPlaces.{fixed_is}
use Rattle.mv_select_code.proofs.OfStatements.Powers.{power_fits}
use Rattle.mv_select_code.proofs.OfStatements.TempsKept.{target_free}

-- ---- parts put together

pub both : (n k : ℕ) (a b : List Line) → IsCode n a → IsCode k b → IsCode (n + k) (a ++ b)
both n k a b h l = (All-append LineFits a b h.0 l.0, omega (arith, h.1, l.1, sum_by-append greatest_words a b))

pub wider : (n k : ℕ) (ls : List Line) → n ≤ k → IsCode n ls → IsCode k ls
wider n k ls le h = (h.0, omega (arith, le, h.1))

pub single : (i : Instr) → Fits i → IsCode 1 (one i)
single i h = (one_fits i h, omega arith)

pub pair : (i j : Instr) → Fits i → Fits j → IsCode 2 (two i j)
pair i j h l = both 1 1 (one i) (one j) (single i h) (single j l)

pub branch : (funct3 rs1 rs2 l : ℕ) → IsCondition funct3 → rs1 < 32 → rs2 < 32 → IsCode 2 (Branch funct3 rs1 rs2 l ∷ [])
branch funct3 rs1 rs2 l c p q = (All-cons LineFits (Branch funct3 rs1 rs2 l) [] (c, p, q) (All-nil LineFits), omega arith)

pub jump : (l : ℕ) → IsCode 1 (Jump 0 l ∷ [])
jump l = (All-cons LineFits (Jump 0 l) [] (omega arith) (All-nil LineFits), omega arith)

-- ---- branches

word_condition : (sense : Bool) → IsCondition (cond sense 1 0)
word_condition true = inl (omega arith)
word_condition false = inl (omega arith)

-- a branch, if there is one
abbrev BranchIs : Option ℕ → Type 0
BranchIs None = Unit {0}
BranchIs (Some f) = IsCondition f

branch_is : (sense : Bool) (o : ℕ) → BranchIs (comparison sense o)
branch_is sense = comparison_cases (λ o. BranchIs) (λ o. tt) sense (less sense) (less_unsigned sense) (equal sense) (unequal sense)
  where
    less : (sense : Bool) → IsCondition (cond sense 4 5)
    less true = inr (omega arith, omega arith)
    less false = inr (omega arith, omega arith)

    less_unsigned : (sense : Bool) → IsCondition (cond sense 6 7)
    less_unsigned true = inr (omega arith, omega arith)
    less_unsigned false = inr (omega arith, omega arith)

    equal : (sense : Bool) → IsCondition (cond sense 0 1)
    equal true = inl (omega arith)
    equal false = inl (omega arith)

    unequal : (sense : Bool) → IsCondition (cond sense 1 0)
    unequal true = inl (omega arith)
    unequal false = inl (omega arith)

-- ---- parts of statements

pub write_fits : (s : Seats) → AreSeats s → (t r : ℕ) → t < 507 → r < 32 → Fits (write_temp s t r)
unfolding write_temp
write_fits s seats t r lt h = by_place (s.register t) refl
  where
    by_place : (place : Option ℕ) → s.register t ≡ place → Fits (write_to place t r)
    by_place (Some q) is = ((seat_free s seats t q is).below, h, small_fits 0 (omega arith))
    by_place None is = (omega arith, h, offset_fits t lt)

keep_code : (s : Seats) (t : ℕ) → t < 507 → IsCode 1 (keep_lines s t)
unfolding keep_lines
keep_code s t lt = by_place (s.register t)
  where
    by_place : (place : Option ℕ) → IsCode 1 (keep_in place t)
    by_place (Some q) = (All-nil LineFits, omega arith)
    by_place None = single (Sw 2 first (pos (temp_offset t))) (omega arith, omega arith, offset_fits t lt)

division_fits : (o d a b : ℕ) → d < 32 → a < 32 → b < 32 → Fits (division o d a b)
unfolding division
division_fits zero d a b h p q = (h, p, q)
division_fits (suc zero) d a b h p q = (h, p, q)
division_fits (suc (suc zero)) d a b h p q = (h, p, q)
division_fits (suc (suc (suc zero))) d a b h p q = (h, p, q)
division_fits (suc (suc (suc (suc o)))) d a b h p q = (h, omega arith, small_fits 0 (omega arith))

element_fits : (h : Home) (size : ℕ) → home_within h size 2032 → IsSigned 2048 (element_offset h)
element_fits (home.Data at) size b = by_base (near at) refl
  where
    by_base : (base : Option Based) → near at ≡ base → IsSigned 2048 (offset_by base at)
    by_base (Some n) is = near_fits at n is
    by_base None is = lower_fits at
element_fits (home.Frame at) size b = small_fits at (omega (arith, b))

base_code : (at : ℕ) (base : Option Based) → near at ≡ base → IsCode 2 (base_by base at)
base_code at (Some n) is = wider 1 2 (base_by (Some n) at) (omega arith) (single (Add first first n.base) (omega arith, omega arith, near_below at n is))
base_code at None is = pair (Lui third (pos (upper_bits at))) (Add first first third) (omega arith, upper_fits at) (omega arith, omega arith, omega arith)

element_code : (h : Home) (q : ℕ) → q < 32 → IsCode 3 (element_lines h q)
element_code (home.Data at) q p =
    both 1 2 (one (Slli first q (pos 2))) (base_by (near at) at) (single (Slli first q (pos 2)) (omega arith, p, count_fits 2 (omega arith))) (base_code at (near at) refl)
element_code (home.Frame at) q p =
    wider 2 3 (element_lines (home.Frame at) q) (omega arith)
    (pair (Slli first q (pos 2)) (Add first first 2) (omega arith, p, count_fits 2 (omega arith)) (omega arith, omega arith, omega arith))

store_code : (at q : ℕ) → q < 32 → IsCode 2 (store_lines at q)
unfolding store_lines
store_code at q p = by_base (near at) refl
  where
    by_base : (base : Option Based) → near at ≡ base → IsCode 2 (store_by base at q)
    by_base (Some n) is = wider 1 2 (store_by (Some n) at q) (omega arith) (single (Sw n.base q n.offset) (near_below at n is, p, near_fits at n is))
    by_base None is = pair (Lui second (pos (upper_bits at))) (Sw second q (lower_bits at)) (omega arith, upper_fits at) (omega arith, p, lower_fits at)

-- an element at an index that is known
fixed_below : (size n : ℕ) (written : Option ℕ) → fixed size written ≡ Some n → n < size
fixed_below size n written is = let h = fixed_is size n written is in h.1

fetch_code : (h : Home) (size n d : ℕ) → home_within h size 2032 → n < size → d < 32 → IsCode 2 (fetch_lines (element_at h n) d)
fetch_code (home.Data at) size n d b lt p = (load_fits (add at (4 * n)) d p, load_size (add at (4 * n)) d)
fetch_code (home.Frame at) size n d b lt p =
    wider 1 2 (one (Lw d 2 (pos (at + 4 * n)))) (omega arith) (single (Lw d 2 (pos (at + 4 * n))) (p, omega arith, small_fits (at + 4 * n) (omega (arith, b, lt))))

put_code : (h : Home) (size n q : ℕ) → home_within h size 2032 → n < size → q < 32 → IsCode 2 (put_lines (element_at h n) q)
put_code (home.Data at) size n q b lt p = store_code (add at (4 * n)) q p
put_code (home.Frame at) size n q b lt p =
    wider 1 2 (one (Sw 2 q (pos (at + 4 * n)))) (omega arith) (single (Sw 2 q (pos (at + 4 * n))) (omega arith, p, small_fits (at + 4 * n) (omega (arith, b, lt))))

divisor_code : (written : Option ℕ) (q : ℕ) → q < 32 → IsCode 2 (divisor_lines written q)
divisor_code None q p = branch 0 q 0 (trap_label 1) (inl (omega arith)) p (omega arith)
divisor_code (Some n) q p = by_number (eqb n 0)
  where
    by_number : (is_null : Bool) → IsCode 2 (cond is_null (Branch 0 q 0 (trap_label 1) ∷ []) [])
    by_number true = branch 0 q 0 (trap_label 1) (inl (omega arith)) p (omega arith)
    by_number false = (All-nil LineFits, omega arith)

test_code : (s : Seats) → AreSeats s → (size q : ℕ) → q < 32 → IsCode 4 (test_lines s size q)
test_code s seats size q p = by_place (s.pinned size) refl
  where
    by_place : (own : Option ℕ) → s.pinned size ≡ own
        → IsCode 4 (unless own (number_lines size third) ++ (Branch 7 q (unwrap_or own third) (trap_label 2) ∷ []))
    by_place (Some r) is =
        wider 2 4 (Branch 7 q r (trap_label 2) ∷ []) (omega arith) (branch 7 q r (trap_label 2) (inr (omega arith, omega arith)) p (pin_free s seats size r is).below)
    by_place None is =
        both 2 2 (number_lines size third) (Branch 7 q third (trap_label 2) ∷ []) (number_fits size third (omega arith), number_size size third)
        (branch 7 q third (trap_label 2) (inr (omega arith, omega arith)) p (omega arith))

bounds_code : (at n : ℕ) → at + 4 * n ≤ 2032 → IsCode 2 (bounds_lines at n)
bounds_code at n h =
    pair (Addi first 2 (pos at)) (Addi second 2 (pos (at + 4 * n))) (omega arith, omega arith, small_fits at (omega (arith, h))) (omega arith, omega arith, small_fits (at + 4 * n) (omega (arith, h)))

clear_code : IsCode 2 clear_lines
clear_code = pair (Sw first 0 (pos 0)) (Addi first first (pos 4)) (omega arith, omega arith, small_fits 0 (omega arith)) (omega arith, omega arith, small_fits 4 (omega arith))

-- ---- statements

module _ (s : Seats) (seats : AreSeats s) where
  pub tree_code : (v : Tree) (r : ℕ) → r ≤ 28 → IsSmall v → IsCode (2 * nodes v) (tree_lines s v r)
  tree_code v r le h = (trees_fit s seats v r (omega (arith, h.0, le)) h.1, trees_are_short s v r)

  operand_code : (v : Tree) (r : ℕ) → r + depth v ≤ 32 → IsSmall v → IsCode (2 * nodes v) (operand_lines s v r)
  operand_code v r le h = (operand_fits s seats v r le h.1, operand_short s v r)

  -- one that is computed first, or behind another in its registers
  first_code : (v : Tree) → IsSmall v → IsCode (2 * nodes v) (operand_lines s v first)
  first_code v h = operand_code v first (omega (arith, h.0)) h

  second_code : (v : Tree) → IsSmall v → IsCode (2 * nodes v) (operand_lines s v second)
  second_code v h = operand_code v second (omega (arith, h.0)) h

  below : (v : Tree) (r : ℕ) → r < 32 → operand_register s v r < 32
  below = operand_below s seats

  target_below : (t : ℕ) → target s t < 32
  target_below t = (target_free s seats t).below

  into_code : (v : Tree) (d : ℕ) → d < 32 → IsSmall v → IsCode (2 * nodes v) (tree_into s v d first)
  into_code v d lt h = (into_fits s seats v d first lt (omega (arith, h.0)) h.1, into_short s v d first)

  last_code : (i : Instr) (t : ℕ) → Fits i → t < 507 → IsCode 2 (Word i ∷ keep_lines s t)
  last_code i t h lt = both 1 1 (one i) (keep_lines s t) (single i h) (keep_code s t lt)

  -- ---- branches by a tree

  abbrev BranchIsCode : Tree → Type 0
  BranchIsCode v = IsSmall v → (sense : Bool) (label : ℕ) → IsCode (2 * nodes v + 2) (branch_lines s v sense first label)

  word_code : (v : Tree) → IsSmall v → (sense : Bool) (label : ℕ) → IsCode (2 * nodes v + 2) (word_lines s v sense first label)
  word_code v small sense label =
      let q = operand_register s v first in
      both (2 * nodes v) 2 (operand_lines s v first) (word_branch sense q label) (first_code v small)
      (branch (cond sense 1 0) q 0 label (word_condition sense) (below v first (omega arith)) (omega arith))

  compared_code : (f : Option ℕ) → BranchIs f → (a b : Tree) → IsSmall a → IsSmall b → depth b ≤ 3 → (label n : ℕ) (ls : List Line) → 2 * nodes a + (2 * nodes b + 2) ≤ n → IsCode n ls
      → IsCode n (compared_or s f a b first label ls)
  compared_code None c a b h l low label n ls le word = word
  compared_code (Some f) c a b h l low label n ls le word =
      let beside = first + 1 in
      let p = operand_register s a first in
      let q = operand_register s b beside in
      let end = Branch f p q label ∷ [] in
      wider (2 * nodes a + (2 * nodes b + 2)) n (operand_lines s a first ++ (operand_lines s b beside ++ end)) le
      (both (2 * nodes a) (2 * nodes b + 2) (operand_lines s a first) (operand_lines s b beside ++ end) (first_code a h)
      (both (2 * nodes b) 2 (operand_lines s b beside) end (operand_code b beside (omega (arith, low)) l)
      (branch f p q label c (below a first (omega arith)) (below b beside (omega arith)))))

  turned_code : (b : Bool) (n k : ℕ) (ls ks : List Line) → n ≤ k → IsCode n ls → IsCode k ks → IsCode k (cond b ls ks)
  turned_code true n k ls ks le h l = wider n k ls le h
  turned_code false n k ls ks le h l = l

  branch_layer_code : (x : Tree-F Tree) → TreeChildren BranchIsCode x → IsSmall (roll-Tree x) → (sense : Bool) (label : ℕ) (word : List Line) → IsCode (2 * nodes (roll-Tree x) + 2) word
      → IsCode (2 * nodes (roll-Tree x) + 2) (branch_tree s x sense first label word)
  branch_layer_code (tree.Number n) h small sense label word w =
      turned_code (is_taken sense n) 1 _ (Jump 0 label ∷ []) [] (omega arith) (jump label) (All-nil LineFits, omega arith)
  branch_layer_code (tree.Unary o a) h small sense label word w =
      let deep = small.0 in
      let most = small.1 in
      let small_a : IsSmall a = (omega (arith, deep, depth_roll (tree.Unary o a)), omega (arith, most, temps_roll (tree.Unary o a))) in
      turned_code (eqb o 2) (2 * nodes a + 2) _ (branch_lines s a (not sense) first label) word (omega (arith, nodes_roll (tree.Unary o a))) (h small_a (not sense) label) w
  branch_layer_code (tree.Binary o a b) h small sense label word w =
      let deep = small.0 in
      let most = small.1 in
      let depths = depth_roll (tree.Binary o a b) in
      let temps = temps_roll (tree.Binary o a b) in
      let small_a : IsSmall a = (omega (arith, deep, depths), omega (arith, temps, most)) in
      let small_b : IsSmall b = (omega (arith, deep, depths), omega (arith, temps, most)) in
      compared_code (comparison sense o) (branch_is sense o) a b small_a small_b (omega (arith, deep, depths)) label _ word (omega (arith, nodes_roll (tree.Binary o a b))) w
  branch_layer_code _ h small sense label word w = w

  pub branch_code : (v : Tree) → BranchIsCode v
  branch_code =
      tree_ind BranchIsCode
      (λ x h small sense label. subst (IsCode (2 * nodes (roll-Tree x) + 2)) (sym (branch_roll s x sense first label))
      (branch_layer_code x h small sense label (word_lines s (roll-Tree x) sense first label) (word_code (roll-Tree x) small sense label)))

  -- ---- a set, by whether the value stands where it should already

  set_code : (t : ℕ) (v : Tree) → t < 507 → IsSmall v → (there : Bool) → IsCode (2 * nodes v + 1) (cond there [] (tree_into s v (target s t) first ++ keep_lines s t))
  set_code t v lt h true = (All-nil LineFits, omega arith)
  set_code t v lt h false = both (2 * nodes v) 1 (tree_into s v (target s t) first) (keep_lines s t) (into_code v (target s t) (target_below t) h) (keep_code s t lt)

  -- ---- a result, by the same

  result_code : (v : Tree) → IsSmall v → (there : Bool) → IsCode (2 * nodes v) (cond there [] (tree_into s v a0 first))
  result_code v h true = (All-nil LineFits, omega arith)
  result_code v h false = into_code v a0 (omega arith) h

  -- ---- a division, by whether the divisor is a power of two

  divide_code : (t o : ℕ) (a b : Tree) → t < 507 → IsSmall a → IsSmall b → (power : Option ℕ) → power_of o (literal b) ≡ power → IsCode (2 * nodes a + (2 * nodes b + 4)) (divide_by s power t o a b)
  divide_code t o a b lt h l None is =
      let p = operand_register s a first in
      let q = operand_register s b second in
      let test = divisor_lines (literal b) q in
      let last = division o (target s t) p q in
      let under = below b second (omega arith) in
      both (2 * nodes a) (2 * nodes b + 4) (operand_lines s a first) (operand_lines s b second ++ (test ++ (Word last ∷ keep_lines s t))) (first_code a h)
      (both (2 * nodes b) 4 (operand_lines s b second) (test ++ (Word last ∷ keep_lines s t)) (second_code b l)
      (both 2 2 test (Word last ∷ keep_lines s t) (divisor_code (literal b) q under) (last_code last t (division_fits o (target s t) p q (target_below t) (below a first (omega arith)) under) lt)))
  divide_code t o a b lt h l (Some k) is =
      let p = operand_register s a first in
      let last = power_division o k (target s t) p in
      let fits = power_fits o k (target s t) p (literal b) is (target_below t) (below a first (omega arith)) in
      wider (2 * nodes a + 2) (2 * nodes a + (2 * nodes b + 4)) (operand_lines s a first ++ (Word last ∷ keep_lines s t)) (omega arith)
      (both (2 * nodes a) 2 (operand_lines s a first) (Word last ∷ keep_lines s t) (first_code a h) (last_code last t fits lt))

  -- ---- statements on elements, by an index that isn't known and by one that is

  abbrev load : ℕ → Home → List Line
  load t h = Word (Lw (target s t) first (element_offset h)) ∷ keep_lines s t

  tested_code : (tested : Bool) (size q : ℕ) → q < 32 → IsCode 4 (tested_lines s tested size q)
  tested_code true size q lt = test_code s seats size q lt
  tested_code false size q lt = (All-nil LineFits, omega arith)

  check_code : (size : ℕ) (tested : Bool) (i : Tree) → IsSmall i → (index : Option ℕ) → IsCode (2 * nodes i + 4) (check_by s index size tested i)
  check_code size true i h None =
      let q = operand_register s i first in
      both (2 * nodes i) 4 (operand_lines s i first) (test_lines s size q) (first_code i h) (test_code s seats size q (below i first (omega arith)))
  check_code size false i h None = (All-nil LineFits, omega arith)
  check_code size tested i h (Some n) = (All-nil LineFits, omega arith)

  read_code : (t size : ℕ) (h : Home) (tested : Bool) (i : Tree) → t < 507 → home_within h size 2032 → IsSmall i → (index : Option ℕ) → fixed size (literal i) ≡ index
      → IsCode (2 * nodes i + 9) (read_by s index t h size tested i)
  read_code t size h tested i lt b l None is =
      let q = operand_register s i first in
      let under = below i first (omega arith) in
      both (2 * nodes i) 9 (operand_lines s i first) (tested_lines s tested size q ++ (element_lines h q ++ load t h)) (first_code i l)
      (both 4 5 (tested_lines s tested size q) (element_lines h q ++ load t h) (tested_code tested size q under)
      (both 3 2 (element_lines h q) (load t h) (element_code h q under) (last_code (Lw (target s t) first (element_offset h)) t (target_below t, omega arith, element_fits h size b) lt)))
  read_code t size h tested i lt b l (Some n) is =
      let d = target s t in
      let ls = fetch_lines (element_at h n) d in
      wider 3 (2 * nodes i + 9) (ls ++ keep_lines s t) (omega arith) (both 2 1 ls (keep_lines s t) (fetch_code h size n d b (fixed_below size n (literal i) is) (target_below t)) (keep_code s t lt))

  write_code : (size : ℕ) (h : Home) (tested : Bool) (i v : Tree) → home_within h size 2032 → IsSmall i → IsSmall v → (index : Option ℕ) → fixed size (literal i) ≡ index
      → IsCode (2 * nodes i + (2 * nodes v + 8)) (write_by s index h size tested i v)
  write_code size h tested i v b l k None is =
      let q = operand_register s i first in
      let under = below i first (omega arith) in
      let store = Sw first (operand_register s v second) (element_offset h) in
      both (2 * nodes i) (2 * nodes v + 8) (operand_lines s i first) (operand_lines s v second ++ (tested_lines s tested size q ++ (element_lines h q ++ one store))) (first_code i l)
      (both (2 * nodes v) 8 (operand_lines s v second) (tested_lines s tested size q ++ (element_lines h q ++ one store)) (second_code v k)
      (both 4 4 (tested_lines s tested size q) (element_lines h q ++ one store) (tested_code tested size q under)
      (both 3 1 (element_lines h q) (one store) (element_code h q under) (single store (omega arith, below v second (omega arith), element_fits h size b)))))
  write_code size h tested i v b l k (Some n) is =
      let q = operand_register s v first in
      let ks = put_lines (element_at h n) q in
      wider (2 * nodes v + 2) (2 * nodes i + (2 * nodes v + 8)) (operand_lines s v first ++ ks) (omega arith)
      (both (2 * nodes v) 2 (operand_lines s v first) ks (first_code v k) (put_code h size n q b (fixed_below size n (literal i) is) (below v first (omega arith))))

  pub are_encoded : AreEncoded s
  are_encoded = record {
    set = λ t v lt h. set_code t v lt h (is_seat (s.register t) (own_register s v));
    set_global = λ g v h. let q = operand_register s v first in
        let store = store_lines (s.place g) q in
        both (2 * nodes v) 2 (operand_lines s v first) store (first_code v h) (store_code (s.place g) q (below v first (omega arith)));
    divide = λ t o a b lt h l. divide_code t o a b lt h l (power_of o (literal b)) refl;
    check = λ size tested i h. check_code size tested i h (fixed size (literal i));
    read = λ t size h tested i lt b l. read_code t size h tested i lt b l (fixed size (literal i)) refl;
    write = λ size h tested i v b l k. write_code size h tested i v b l k (fixed size (literal i)) refl;
    bounds = bounds_code;
    clear = clear_code;
    branch = λ sense label v h. branch_code v h sense label;
    result = λ v h. result_code v h (is_seat (Some a0) (own_register s v));
  }

pub statements_are_encoded : StatementsAreEncoded
statements_are_encoded = are_encoded
