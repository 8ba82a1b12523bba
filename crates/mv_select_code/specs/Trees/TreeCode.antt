-- The code of trees: lines that leave a tree's value in a register. They go by way of a register r and those above it, as many as the tree is deep; the
-- left operand is computed first. An operand that stands in a register already stays there.
use Rattle.std.specs.Prelude.{ℕ, ◌+◌, ◌-◌, ◌*◌, ◌/◌, ◌%◌, max, Bool, true, false, not, ◌&&◌, cond, eqb, leb, ltb, List, [], ◌∷◌, ◌++◌, Option, Some, None, unwrap_or, ℤ, pos, ◌-ℤ◌, slice_index_or}
use Rattle.mv_num.specs.Words.{sub}
use Rattle.mv_num.specs.Regions.{data_start, gp_value, tp_value}
use Rattle.mv_num.specs.declared.kind.Kind.{Kind}
use Rattle.mv_num.specs.declared.kind.Kind.TheVariants as kind
use Rattle.mv_isa.specs.declared.instr.Instr.{Instr}
use Rattle.mv_isa.specs.declared.instr.Instr.TheVariants.{Lui, Lw, Addi, Slti, Sltiu, Xori, Ori, Andi, Slli, Srli, Srai, Add, Sub, Sll, Slt, Sltu, Xor, Srl, Sra, Or, And, Mul}
use Rattle.mv_isa.specs.declared.labelled.Line.{Line}
use Rattle.mv_isa.specs.declared.labelled.Line.TheVariants.{Word, Jump, Branch, Entry}
use Rattle.mv_isa.specs.Registers.{x0, sp, gp, tp, s1, a0, a7}
use Rattle.mv_ir.specs.declared.tree.Tree.{Tree}
use Rattle.mv_ir.specs.declared.tree.Tree.TheOpen.{Tree-F}
use Rattle.mv_ir.specs.declared.tree.Tree.TheOpen as tree
use Rattle.mv_ir.specs.declared.tree.Tree.TheFolds.{fold-Tree, map-Tree}
use Rattle.mv_ir.specs.declared.body.Room.{Room}
use Rattle.mv_select_code.specs.Trees.Rooms.{place_in}
use Rattle.mv_select_code.specs.declared.trees.places.Keeping.{Keeping}
use Rattle.mv_select_code.specs.declared.trees.places.Keeping.TheVariants.{Saved, Arguments, Mixed}
use Rattle.mv_select_code.specs.declared.trees.leaves.Based.{Based}
use Rattle.mv_select_code.specs.declared.trees.places.Pin.{Pin}

abbrev pub one : Instr → List Line
one i = Word i ∷ []

abbrev pub two : Instr → Instr → List Line
two i j = Word i ∷ Word j ∷ []

-- ---- numbers

-- The lower 12 bits of a number as `addi` and `lw` take them, with a sign; and the upper 20 for `lui`, one more where the sign is negative. The
-- highest numbers, from 2 ^ 32 - 2048 on, need no upper bits.
unfoldable pub lower_bits : ℕ → ℤ
lower_bits n = cond (ltb (n % 4096) 2048) (pos (n % 4096)) (pos (n % 4096) -ℤ pos 4096)

unfoldable pub upper_bits : ℕ → ℕ
upper_bits n = (n + 2048) / 4096 % 1048576

-- a number into a register, in one instruction where its lower bits alone give it
unfoldable pub number_lines : ℕ → ℕ → List Line
number_lines n r =
    cond (eqb (upper_bits n) 0) (one (Addi r x0 (lower_bits n))) (two (Lui r (pos (upper_bits n))) (Addi r r (lower_bits n)))

-- The first 4,096 bytes of data are reached by gp, and the next 4,096 by tp: the register, and what is added to it. Other addresses aren't near.
unfoldable pub near : ℕ → Option Based
near a =
    cond (leb data_start a && ltb a (data_start + 4096)) (Some (record { base = gp; offset = pos a -ℤ pos gp_value }))
    (cond (leb (data_start + 4096) a && ltb a (data_start + 8192)) (Some (record { base = tp; offset = pos a -ℤ pos tp_value })) None)

abbrev pub load_by : Option Based → ℕ → ℕ → List Line
load_by (Some n) a r = one (Lw r n.base n.offset)
load_by None a r = two (Lui r (pos (upper_bits a))) (Lw r r (lower_bits a))

-- the word at an address into a register
unfoldable pub load_lines : ℕ → ℕ → List Line
load_lines a r = load_by (near a) a r

-- ---- temporaries: some stand in registers, the others in the frame, above the ten words for saved registers

-- the register of one of the first nine, where they are saved: s1, then s2 to s9, which stand behind a7
unfoldable pub temp_register : ℕ → ℕ
temp_register t = cond (eqb t 0) s1 (a7 + t)

-- The register of a temporary, if it has one: the first nine have s1 to s9, which the function saves; or, in a function that calls nothing, the first eight
-- those in which arguments come, a0 to a7, and the next nine, if it has more, s1 to s9.
unfoldable pub register_of : Keeping → ℕ → Option ℕ
register_of Saved t = cond (ltb t 9) (Some (temp_register t)) None
register_of Arguments t = cond (ltb t 8) (Some (a0 + t)) None
register_of Mixed t = cond (ltb t 8) (Some (a0 + t)) (cond (ltb t 17) (Some (temp_register (t - 8))) None)

-- where values stand: the address of each global, and the register of each temporary and of each number that has one
pub record Seats : Type 0 where
  pub place : ℕ → ℕ
  pub register : ℕ → Option ℕ
  pub pinned : ℕ → Option ℕ

-- the register of a number, by pins
abbrev pub pinned_in : List Pin → ℕ → Option ℕ
pinned_in [] n = None
pinned_in (p ∷ ps) n = cond (eqb p.number n) (Some p.register) (pinned_in ps n)

abbrev pub seats_at : List Room → Keeping → List Pin → Seats
seats_at rooms keeping pins = record { place = place_in rooms; register = register_of keeping; pinned = pinned_in pins }

-- the place of another in the frame, in bytes above sp
unfoldable pub temp_offset : ℕ → ℕ
temp_offset t = 4 * (t + 1)

abbrev pub read_from : Option ℕ → ℕ → ℕ → Instr
read_from (Some q) t r = Addi r q (pos 0)
read_from None t r = Lw r sp (pos (temp_offset t))

unfoldable pub read_temp : Seats → ℕ → ℕ → Instr
read_temp s t r = read_from (s.register t) t r

-- a number into a register, out of its own if it has one
abbrev pub number_by : Option ℕ → (n r : ℕ) → List Line
number_by (Some q) n r = one (Addi r q (pos 0))
number_by None n r = number_lines n r

-- ---- operators, by their numbers; one that names no operator gives 0

abbrev pub minus_one : ℤ
minus_one = pos 0 -ℤ pos 1

abbrev pub clear : ℕ → List Line
clear r = one (Addi r x0 (pos 0))

-- negation, complement, logical not of s into d
unfoldable pub unary_lines : (o d s : ℕ) → List Line
unary_lines o d s = slice_index_or (one (Sub d x0 s) ∷ one (Xori d s minus_one) ∷ one (Sltiu d s (pos 1)) ∷ []) o (clear d)

-- an operator on a and b into d
unfoldable pub binary_lines : (o d a b : ℕ) → List Line
binary_lines o d a b =
    slice_index_or
    (one (Add d a b) ∷ one (Sub d a b) ∷ one (Mul d a b) ∷ one (And d a b) ∷ one (Or d a b) ∷ one (Xor d a b) ∷ one (Sll d a b)
    ∷ one (Sra d a b) ∷ one (Srl d a b) ∷ one (Slt d a b) ∷ one (Sltu d a b)
    ∷ two (Sub d a b) (Sltiu d d (pos 1)) ∷ two (Sub d a b) (Sltu d x0 d) ∷ [])
    o (clear d)

-- ---- operators on a register and a number, which stands in the instruction

abbrev pub short_immediate : ℕ → Option ℤ
short_immediate n = cond (eqb (upper_bits n) 0) (Some (lower_bits n)) None

abbrev pub count_immediate : ℕ → Option ℤ
count_immediate n = cond (ltb n 32) (Some (pos n)) None

-- What stands for a number at the right of an operator, if that is possible: the number itself, or its negative, which is added, where the operator
-- begins with a difference. A product has no such instruction.
unfoldable pub immediate : (o n : ℕ) → Option ℤ
immediate o n =
    let itself = short_immediate n in
    let negative = short_immediate (sub 0 n) in
    let count = count_immediate n in
    slice_index_or (itself ∷ negative ∷ None ∷ itself ∷ itself ∷ itself ∷ count ∷ count ∷ count ∷ itself ∷ itself ∷ negative ∷ negative ∷ []) o None

unfoldable pub immediate_lines : (o d s : ℕ) → ℤ → List Line
immediate_lines o d s i =
    slice_index_or
    (one (Addi d s i) ∷ one (Addi d s i) ∷ clear d ∷ one (Andi d s i) ∷ one (Ori d s i) ∷ one (Xori d s i) ∷ one (Slli d s i)
    ∷ one (Srai d s i) ∷ one (Srli d s i) ∷ one (Slti d s i) ∷ one (Sltiu d s i)
    ∷ two (Addi d s i) (Sltiu d d (pos 1)) ∷ two (Addi d s i) (Sltu d x0 d) ∷ [])
    o (clear d)

-- ---- conversions

-- a conversion that leaves each word as it is
abbrev pub keeps_words : Kind → Bool
keeps_words kind.Int = true
keeps_words kind.UInt = true
keeps_words _ = false

-- a conversion of s into d: to the short types by a shift to the left and one back, with the sign or with zeros
unfoldable pub narrow_lines : Kind → (d s : ℕ) → List Line
narrow_lines kind.Bool d s = one (Sltu d x0 s)
narrow_lines kind.SChar d s = two (Slli d s (pos 24)) (Srai d d (pos 24))
narrow_lines kind.UChar d s = two (Slli d s (pos 24)) (Srli d d (pos 24))
narrow_lines kind.Short d s = two (Slli d s (pos 16)) (Srai d d (pos 16))
narrow_lines kind.UShort d s = two (Slli d s (pos 16)) (Srli d d (pos 16))
narrow_lines kind.Int d s = one (Addi d s (pos 0))
narrow_lines kind.UInt d s = one (Addi d s (pos 0))

-- ---- branches: lines that go to a label exactly where a word isn't 0, or exactly where it is, and else on

-- whether a number makes such a branch go to its label
abbrev pub is_taken : (sense : Bool) → ℕ → Bool
is_taken sense n = cond (eqb n 0) (not sense) sense

-- by the word of a register
abbrev pub word_branch : Bool → (q label : ℕ) → List Line
word_branch sense q label = Branch (cond sense 1 0) q x0 label ∷ []

-- by a number, which is known
abbrev pub number_branch : Bool → (n label : ℕ) → List Line
number_branch sense n label = cond (is_taken sense n) (Jump x0 label ∷ []) []

-- by an operator on two registers: the branch that compares them, by its funct3, where the operator is a comparison
unfoldable pub comparison : Bool → ℕ → Option ℕ
comparison true o = slice_index_or (None ∷ None ∷ None ∷ None ∷ None ∷ None ∷ None ∷ None ∷ None ∷ Some 4 ∷ Some 6 ∷ Some 0 ∷ Some 1 ∷ []) o None
comparison false o = slice_index_or (None ∷ None ∷ None ∷ None ∷ None ∷ None ∷ None ∷ None ∷ None ∷ Some 5 ∷ Some 7 ∷ Some 1 ∷ Some 0 ∷ []) o None

-- ---- trees

abbrev pub own_layer : Seats → Tree-F (Option ℕ) → Option ℕ
own_layer s (tree.Number n) = cond (eqb n 0) (Some x0) (s.pinned n)
own_layer s (tree.Temp t) = s.register t
own_layer s (tree.Global g) = None
own_layer s (tree.Function f) = None
own_layer s (tree.Unary o a) = None
own_layer s (tree.Binary o a b) = None
own_layer s (tree.Narrow k a) = cond (keeps_words k) a None

-- the register in which a tree's value stands already: that of a temporary or of a number, or x0 for the number 0
unfoldable pub own_register : Seats → Tree → Option ℕ
own_register s = fold-Tree (Option ℕ) (own_layer s)

abbrev pub literal_layer : Tree-F (Option ℕ) → Option ℕ
literal_layer (tree.Number n) = Some n
literal_layer (tree.Temp t) = None
literal_layer (tree.Global g) = None
literal_layer (tree.Function f) = None
literal_layer (tree.Unary o a) = None
literal_layer (tree.Binary o a b) = None
literal_layer (tree.Narrow k a) = None

-- the number that a tree is written as
unfoldable pub literal : Tree → Option ℕ
literal = fold-Tree (Option ℕ) literal_layer

-- what stands for the right operand in the instruction of an operator
abbrev pub right_of : ℕ → Option ℕ → Option ℤ
right_of o None = None
right_of o (Some n) = immediate o n

-- lines that aren't needed where there is a register already
abbrev pub unless : Option ℕ → List Line → List Line
unless None lines = lines
unless (Some q) lines = []

-- an operator on s and what stands for its right operand, else on u, behind the lines that put that there
abbrev pub operator_lines : Option ℤ → (o d s : ℕ) → List Line → (u : ℕ) → List Line
operator_lines None o d s lines u = lines ++ binary_lines o d s u
operator_lines (Some i) o d s lines u = immediate_lines o d s i

-- What is known of a tree's code: its own register, the number that it is written as, the lines that leave its value in d by way of r and the registers
-- above it, and those that go to a label exactly where it isn't 0, or exactly where it is, by way of the same.
pub record Code : Type 0 where
  pub own : Option ℕ
  pub written : Option ℕ
  pub into : (d r : ℕ) → List Line
  pub branch : (sense : Bool) (r label : ℕ) → List Line

abbrev pub ready : Code → ℕ → List Line
ready a r = unless a.own (a.into r r)

abbrev pub stands : Code → ℕ → ℕ
stands a r = unwrap_or a.own r

abbrev pub into_layer : Seats → Tree-F Code → (d r : ℕ) → List Line
into_layer s (tree.Number n) d r = number_by (s.pinned n) n d
into_layer s (tree.Temp t) d r = one (read_temp s t d)
into_layer s (tree.Global g) d r = load_lines (s.place g) d
into_layer s (tree.Function f) d r = Entry d f ∷ []
into_layer s (tree.Unary o a) d r = ready a r ++ unary_lines o d (stands a r)
into_layer s (tree.Binary o a b) d r = ready a r ++ operator_lines (right_of o b.written) o d (stands a r) (ready b (r + 1)) (stands b (r + 1))
into_layer s (tree.Narrow k a) d r = cond (keeps_words k) (a.into d r) (ready a r ++ narrow_lines k d (stands a r))

-- an operator's branch compares its operands, if there is one, and else tests the word of the whole tree
abbrev pub compare_or : Option ℕ → Code → Code → (r label : ℕ) → List Line → List Line
compare_or None a b r label word = word
compare_or (Some funct3) a b r label word = ready a r ++ (ready b (r + 1) ++ (Branch funct3 (stands a r) (stands b (r + 1)) label ∷ []))

-- given the lines that test the word of the tree; logical not turns the sense
abbrev pub branch_layer : Tree-F Code → (sense : Bool) (r label : ℕ) → List Line → List Line
branch_layer (tree.Number n) sense r label word = number_branch sense n label
branch_layer (tree.Temp t) sense r label word = word
branch_layer (tree.Global g) sense r label word = word
branch_layer (tree.Function f) sense r label word = word
branch_layer (tree.Unary o a) sense r label word = cond (eqb o 2) (a.branch (not sense) r label) word
branch_layer (tree.Binary o a b) sense r label word = compare_or (comparison sense o) a b r label word
branch_layer (tree.Narrow k a) sense r label word = word

abbrev pub tree_layer : Seats → Tree-F Code → Code
tree_layer s x =
    let own = own_layer s (map-Tree Code (Option ℕ) (λ a. a.own) x) in record {
      own = own;
      written = literal_layer (map-Tree Code (Option ℕ) (λ a. a.written) x);
      into = into_layer s x;
      branch = λ sense r label. branch_layer x sense r label (unless own (into_layer s x r r) ++ word_branch sense (unwrap_or own r) label);
    }

-- given where values stand
unfoldable pub tree_code : Seats → Tree → Code
tree_code s = fold-Tree Code (tree_layer s)

-- the code of a tree for d, by way of r and the registers above it
unfoldable pub tree_into : Seats → Tree → (d r : ℕ) → List Line
tree_into s t = (tree_code s t).into

-- the code of a tree for r
unfoldable pub tree_lines : Seats → Tree → ℕ → List Line
tree_lines s t r = tree_into s t r r

-- the code of a tree that may stay in its own register, and else comes into r; and where it stands then
unfoldable pub operand_lines : Seats → Tree → ℕ → List Line
operand_lines s t r = unless (own_register s t) (tree_lines s t r)

unfoldable pub operand_register : Seats → Tree → ℕ → ℕ
operand_register s t r = unwrap_or (own_register s t) r

-- the code that goes to a label exactly where a tree isn't 0, or exactly where it is, and else on
unfoldable pub branch_lines : Seats → Tree → (sense : Bool) (r label : ℕ) → List Line
branch_lines s t = (tree_code s t).branch

-- what stands for a tree at the right of an operator, if that is possible
unfoldable pub immediate_of : ℕ → Tree → Option ℤ
immediate_of o t = right_of o (literal t)

-- ---- the temporaries of a tree

abbrev pub temps_layer : Tree-F ℕ → ℕ
temps_layer (tree.Number n) = 0
temps_layer (tree.Temp t) = t + 1
temps_layer (tree.Global g) = 0
temps_layer (tree.Function f) = 0
temps_layer (tree.Unary o a) = a
temps_layer (tree.Binary o a b) = max a b
temps_layer (tree.Narrow k a) = a

-- one more than the greatest number of a temporary that a tree reads, or 0
unfoldable pub temps_of : Tree → ℕ
temps_of = fold-Tree ℕ temps_layer
