-- What the linker joins: the stubs, and behind them the functions and their variants.
use Rattle.std.specs.Prelude.{ℕ, ◌+◌, ◌-◌, ◌*◌, ◌<◌, ◌≤◌, ◌≡◌, ◌⊎◌, pos, negsuc, Bool, true, nat_lt, if◌then◌else◌, List, [], ◌∷◌, ◌++◌, length, take, map, slice_index, All, sum_by}
use Rattle.std.specs.List.{flat_map}
use Rattle.mv_num.specs.Regions.{plan_upper, gp_value, tp_value}
use Rattle.mv_bindings.specs.Traps.{depth_limit, null_call, call_too_deep}
use Rattle.mv_isa.specs.declared.instr.Instr.{Instr}
use Rattle.mv_isa.specs.declared.instr.Instr.TheVariants.{Lui, Jal, Jalr, Beq, Bne, Lw, Sw, Addi, FenceI, Ecall}
use Rattle.mv_isa.specs.declared.labelled.Labelled.{Labelled}
use Rattle.mv_isa.specs.declared.labelled.Line.{Line}
use Rattle.mv_isa.specs.declared.labelled.Line.TheVariants.{Word, Label, Jump, Branch, Entry, Slot, Point}
pub use Rattle.mv_isa.specs.Labels.{entry_label, trap_label, check_label, commit_label}
use Rattle.mv_isa.specs.Requests as request
use Rattle.mv_isa.specs.Code.{StandsOnce, LineFits, upper_part, lower_part}
use Rattle.mv_isa.specs.Registers.{x0, ra, sp, gp, tp, t0, t1, t2, a0, a7, s11, t3}
use Rattle.mv_linker.specs.declared.parts.Parts.{Parts}
use Rattle.mv_linker.specs.declared.parts.PartFunction.{PartFunction}
use Rattle.mv_linker.specs.declared.parts.PartVariant.{PartVariant}
use Rattle.mv_linker.specs.declared.parts.Datum.{Datum}
use Rattle.mv_linker.specs.declared.parts.Datum.TheVariants.{Number, Function}
use Rattle.mv_linker.specs.declared.joined.Joined.{Joined}

-- ---- codes

-- the variants of attributed functions, one function's behind another's
abbrev pub function_variants : List PartFunction → List PartVariant
function_variants attributed = flat_map (λ (a : PartFunction). a.variants) attributed

abbrev pub variant_codes : List PartVariant → List Labelled
variant_codes variants = map (λ (v : PartVariant). v.code) variants

-- The codes that are linked, by their numbers: those of the functions, and those of the variants behind them. So a variant is one more function.
abbrev pub codes : Parts → List Labelled
codes parts = parts.functions ++ variant_codes (function_variants parts.attributed)

-- ---- labels. In the linked code the label of an entry is the number of its code. Behind those of all codes come the own labels of each in order, and
-- the labels of the stubs stay as they are.

-- what a label becomes that isn't an own one: the entry of a function becomes its number, and others stay
abbrev pub shared : ℕ → ℕ
shared l = if nat_lt l (entry_label 0) then l else (if nat_lt l (trap_label 0) then l - entry_label 0 else l)

-- what a label becomes of a function with so many own labels, which are counted from a first one on
abbrev pub own : (first count : ℕ) → ℕ → ℕ
own first count l = if nat_lt l count then first + l else shared l

-- a line with its labels renamed
abbrev pub relabelled : (first count : ℕ) → Line → Line
relabelled first count (Word instr) = Word instr
relabelled first count (Label l) = Label (own first count l)
relabelled first count (Jump rd l) = Jump rd (own first count l)
relabelled first count (Branch funct3 rs1 rs2 l) = Branch funct3 rs1 rs2 (own first count l)
relabelled first count (Entry rd f) = Entry rd f
relabelled first count (Slot f) = Slot f
relabelled first count (Point a) = Point a

-- ---- lines

-- the stack pointer at the end of the stack, what gp and tp have, and all calls left
abbrev pub start_instrs : List Instr
start_instrs =
    Lui sp (pos plan_upper)
    ∷ Lui gp (pos (upper_part gp_value))
    ∷ Addi gp gp (lower_part gp_value)
    ∷ Lui tp (pos (upper_part tp_value))
    ∷ Addi tp tp (lower_part tp_value)
    ∷ Addi s11 x0 (pos depth_limit)
    ∷ []

-- behind them a call of a function, and the exit with its result
abbrev pub start_lines : (main : ℕ) → List Line
start_lines main = map Word start_instrs ++ (Jump ra main ∷ Word (Addi a7 x0 (pos request.exit)) ∷ Word Ecall ∷ [])

-- the stub of a trap: the environment call of its code
abbrev pub trap_lines : (c : ℕ) → List Line
trap_lines c = Label (trap_label c) ∷ Word (Addi a0 x0 (pos c)) ∷ Word (Addi a7 x0 (pos request.trap)) ∷ Word Ecall ∷ []

-- The stub of commits. The environment call that a7 names already writes its plan to the area of plans: how many pairs, and behind that the address and the
-- word of each. They are stored one by one, then FENCE.I lets fetches see them, and the stub returns. t0 goes along the plan, t1 has how many pairs are
-- left, t2 and t3 are a pair's.
abbrev pub commit_instrs : List Instr
commit_instrs =
    Ecall
    ∷ Lui t0 (pos plan_upper)
    ∷ Lw t1 t0 (pos 0)
    ∷ Beq t1 x0 (pos 28)
    ∷ Lw t2 t0 (pos 4)
    ∷ Lw t3 t0 (pos 8)
    ∷ Sw t2 t3 (pos 0)
    ∷ Addi t0 t0 (pos 8)
    ∷ Addi t1 t1 (negsuc 0)
    ∷ Jal x0 (negsuc 23)
    ∷ FenceI
    ∷ Jalr x0 ra (pos 0)
    ∷ []

abbrev pub commit_lines : List Line
commit_lines = Label commit_label ∷ map Word commit_instrs

-- a trap, unless a register holds another word than 0
abbrev pub unless_lines : (register code : ℕ) → List Line
unless_lines register code = Word (Bne register x0 (pos 8)) ∷ Jump x0 (trap_label code) ∷ []

-- The stub of calls through pointer switches. t0 has the pointer, and t1 the way back. Null is a trap, and so is a call too many; else the call is counted.
-- A call that is bound comes in behind the first two words, and so isn't tested for null.
abbrev pub check_lines : List Line
check_lines =
    Label check_label ∷ (unless_lines t0 null_call ++ (unless_lines s11 call_too_deep ++ (Word (Addi s11 s11 (negsuc 0)) ∷ Word (Jalr x0 t1 (pos 0)) ∷ [])))

-- the stub where there are pointer switches
abbrev pub check_lines_where : (checks : Bool) → List Line
check_lines_where checks = if checks then check_lines else []

-- the start, the stubs of the traps 1 to 4, the stub of commits, and that of calls through pointer switches where there are any
abbrev pub stub_lines : (main : ℕ) (checks : Bool) → List Line
stub_lines main checks = start_lines main ++ (trap_lines 1 ++ (trap_lines 2 ++ (trap_lines 3 ++ (trap_lines 4 ++ (commit_lines ++ check_lines_where checks)))))

-- whether parts have pointer switches
abbrev pub has_pointers : Parts → Bool
has_pointers parts = nat_lt 0 (length parts.pointers)

-- the code of a function behind the label of its entry, with its own labels counted from a first one on
abbrev pub function_part : (f first : ℕ) → Labelled → List Line
function_part f first code = Label f ∷ map (relabelled first code.labels) code.items

-- the parts of functions in order, from a number and a first label on
abbrev pub function_parts : (f first : ℕ) → List Labelled → List Line
function_parts f first [] = []
function_parts f first (code ∷ rest) = function_part f first code ++ function_parts (f + 1) (first + code.labels) rest

-- the stubs, and all codes behind them
abbrev pub linked_lines : Parts → List Line
linked_lines parts = stub_lines parts.main (has_pointers parts) ++ function_parts 0 (length (codes parts)) (codes parts)

-- ---- places

-- how many own labels functions have
abbrev pub label_count : List Labelled → ℕ
label_count functions = sum_by (λ (code : Labelled). code.labels) functions

-- the first own label of a function in the linked code
abbrev pub first_label : List Labelled → (f : ℕ) → ℕ
first_label functions f = length functions + label_count (take f functions)

-- how many lines the parts of functions have
abbrev pub line_count : List Labelled → ℕ
line_count functions = sum_by (λ (code : Labelled). 1 + length code.items) functions

-- how many lines the stubs have
abbrev pub stub_count : (checks : Bool) → ℕ
stub_count checks = length (stub_lines 0 checks)

-- the index at which the stub of a trap begins, and that of commits, which stands where the stub of one trap more would
abbrev pub trap_index : (c : ℕ) → ℕ
trap_index c = 4 * c + 5

abbrev pub commit_index : ℕ
commit_index = trap_index 5

-- that of calls through pointer switches, behind the stub of commits
abbrev pub check_index : ℕ
check_index = commit_index + length commit_lines

-- the index at which a function's part begins, behind the stubs
abbrev pub part_index : (checks : Bool) → List Labelled → (f : ℕ) → ℕ
part_index checks functions f = stub_count checks + line_count (take f functions)

-- ---- parts

-- the label of the stub of a trap, or of the stub of commits
abbrev pub IsStubLabel : ℕ → Type 0
IsStubLabel l = ((trap_label 1 ≤ l) × (l ≤ trap_label 4)) ⊎ (l ≡ commit_label)

-- an own label of a function that stands in its code once
abbrev pub IsOwnLabel : Labelled → ℕ → Type 0
IsOwnLabel code l = (l < code.labels) × StandsOnce code.items l

-- the label of the entry of one of so many functions
abbrev pub IsEntryLabel : (functions : ℕ) → ℕ → Type 0
IsEntryLabel functions l = (entry_label 0 ≤ l) × (l < entry_label functions)

-- a label that a jump or a branch of a function may name
abbrev pub IsTarget : Labelled → ℕ → Type 0
IsTarget code l = IsOwnLabel code l ⊎ IsStubLabel l

-- A label of a function's code is an own one, and what its lines name is there, among so many functions, whose entries are jumped to; a call through a pointer
-- switch wants its stub.
abbrev pub NamesAreThere : (functions : ℕ) (checks : Bool) → Labelled → Line → Type 0
NamesAreThere functions checks code (Word instr) = Unit {0}
NamesAreThere functions checks code (Label l) = l < code.labels
NamesAreThere functions checks code (Jump rd l) = IsTarget code l ⊎ IsEntryLabel functions l
NamesAreThere functions checks code (Branch funct3 rs1 rs2 l) = IsTarget code l
NamesAreThere functions checks code (Entry rd f) = f < functions
NamesAreThere functions checks code (Slot f) = f < functions
NamesAreThere functions checks code (Point a) = checks ≡ true

-- the code of one of so many functions
pub record IsFunction (functions : ℕ) (checks : Bool) (code : Labelled) : Type 0 where
  pub fields : All LineFits code.items
  pub names : All (NamesAreThere functions checks code) code.items

-- a function that data names is one of so many
abbrev pub IsDatum : (functions : ℕ) → Datum → Type 0
IsDatum functions (Number n) = Unit {0}
IsDatum functions (Function f) = f < functions

-- there are as many numbers from the label of the first entry to those of the stubs
abbrev pub label_limit : ℕ
label_limit = trap_label 0 - entry_label 0

-- What can be linked: what is named is there, and all labels have numbers below those of entries. So each entry of a function has a label, which is none of the
-- function's own ones.
pub record AreParts (parts : Parts) : Type 0 where
  pub main : parts.main < length parts.functions
  pub functions : All (IsFunction (length parts.functions) (has_pointers parts)) (codes parts)
  pub globals : All (IsDatum (length parts.functions)) parts.globals
  pub labels : length (codes parts) + label_count (codes parts) < label_limit

-- the lines of parts, and the index at which each code begins
pub record IsJoined (parts : Parts) (joined : Joined) : Type 0 where
  pub lines : joined.code.items ≡ linked_lines parts
  pub one_each : length joined.entries ≡ length (codes parts)
  pub each : (f : ℕ) → f < length (codes parts) → slice_index joined.entries f ≡ part_index (has_pointers parts) (codes parts) f
