-- What the code of statements without control promises: it does what they mean, at no more than their cost. Of `Zero`, whose code is a loop, that is said
-- of the lines around one turn; of `If`, of the branch by its tree; and of `Return`, of the lines that leave its value.
use Rattle.std.specs.Prelude.{ℕ, suc, zero, ◌≡◌, ◌+◌, ◌*◌, ◌<◌, Bool, List, [], ◌∷◌, length}
use Rattle.mv_num.specs.Words.{add}
use Rattle.mv_isa.specs.declared.labelled.Line.{Line}
use Rattle.mv_isa.specs.Execution.{Access, reg}
use Rattle.mv_isa.specs.Registers.{sp, a0}
use Rattle.mv_ir.specs.declared.tree.Tree.{Tree}
use Rattle.mv_ir.specs.declared.stm.Array.{Array}
use Rattle.mv_ir.specs.declared.stm.Array.TheVariants as array
use Rattle.mv_ir.specs.declared.stm.Stm.TheOpen.{Stm-F}
use Rattle.mv_ir.specs.declared.stm.Stm.TheOpen as stm
use Rattle.mv_ir.specs.World as ir
use Rattle.mv_ir.specs.Outcome.{State, Outcome, Next, Ends, Trapped, Stuck, Bound, Meaning}
use Rattle.mv_ir.specs.Trees.{nodes}
use Rattle.mv_ir.specs.Meaning.{of_tree, elements, with_elements, statement}
use Rattle.mv_select_code.specs.Trees.TreeCode.{is_taken, branch_lines}
use Rattle.mv_select_code.specs.Statements.StatementCode.{first, second, trap_label, set_lines, set_global_lines, divide_lines, check_lines, read_lines, write_lines, bounds_lines, clear_lines, result_lines}
use Rattle.mv_select_code.specs.Statements.Leads.{Exit, Past, To, exit_by, Leads}
use Rattle.mv_select_code.specs.Statements.Frames.{Site, IsRead, IsWritten, home_of, size_of, is_tested, IsFine, IsFit, Shows}

-- a list whose first elements are 0
abbrev pub cleared : ℕ → List ℕ → List ℕ
cleared zero xs = xs
cleared (suc n) [] = []
cleared (suc n) (x ∷ xs) = 0 ∷ cleared n xs

module _ {M : Type 0} (access : Access M) (s : Site) (setting : ir.Setting) (frame : ir.Frame) where
  -- lines lead somewhere in at most n instructions, and show a state there
  abbrev pub LeadsTo : List Line → ℕ → List ℕ → M → Exit → State → Type 0
  LeadsTo lines n regs m exit l =
      (regs' : List ℕ) × (m' : M) × Leads access s lines n regs m exit regs' m' × Shows s access l regs' m'

  -- past their end, with a value in a0 as the result, which may be the register of a temporary: so of the state the world alone is told
  abbrev pub Gives : List Line → ℕ → List ℕ → M → ℕ → ir.World → Type 0
  Gives lines n regs m value w =
      (l : State) × (l.world ≡ w) × (regs' : List ℕ) × (m' : M) × Leads access s lines n regs m Past regs' m' × Shows s access l regs' m' × (reg regs' a0 ≡ value)

  -- Lines do what an outcome says: they go on past their end, or to the stub of a trap, with what the state has there. Code that has no meaning promises
  -- nothing.
  abbrev pub Follows : List Line → ℕ → List ℕ → M → Outcome → Type 0
  Follows lines n regs m (Next l) = LeadsTo lines n regs m Past l
  Follows lines n regs m (Ends (Trapped c w)) = (l : State) × (l.world ≡ w) × LeadsTo lines n regs m (To (trap_label c)) l
  Follows lines n regs m (Ends Stuck) = Unit {0}
  Follows lines n regs m _ = ⊥

  -- wherever a state is shown, lines do what a statement means there, in no more instructions than it costs
  abbrev pub Does : List Line → Stm-F Meaning → Type 0
  Does lines x =
      (bound : Bound) (l : State) (regs : List ℕ) (m : M) → Shows s access l regs m →
      Follows lines (statement setting frame x bound l).cost regs m (statement setting frame x bound l).outcome

  abbrev pub Fine : Tree → Type 0
  Fine = IsFine s setting frame

  -- the first words of an array of the frame are 0, and the addresses of the next word and of the array's end are in the first two registers
  pub record IsCleared (a n : ℕ) (l : State) (regs : List ℕ) (m : M) : Type 0 where
    pub size : length (elements (array.Local a) l) ≡ s.array_size a
    pub shown : Shows s access (with_elements (array.Local a) l (cleared n (elements (array.Local a) l))) regs m
    pub next : reg regs first ≡ add (s.register sp) (s.array_at a + 4 * n)
    pub stop : reg regs second ≡ add (s.register sp) (s.array_at a + 4 * s.array_size a)

  -- lines lead on to where this is so
  abbrev pub Clears : List Line → ℕ → List ℕ → M → (a n : ℕ) → State → Type 0
  Clears lines k regs m a n l = (regs' : List ℕ) × (m' : M) × Leads access s lines k regs m Past regs' m' × IsCleared a n l regs' m'

  pub record AreDone : Type 0 where
    pub set : (t : ℕ) (v : Tree) → t < s.temps → Fine v → Does (set_lines s.seats t v) (stm.Set t v)
    pub set_global : (g : ℕ) (v : Tree) → 0 < s.size g → IsWritten s (array.Global g) → Fine v → Does (set_global_lines s.seats g v) (stm.SetGlobal g v)
    pub divide : (t o : ℕ) (a b : Tree) → t < s.temps → Fine a → Fine b → Does (divide_lines s.seats t o a b) (stm.Divide t o a b)
    pub check : (a : Array) (i : Tree) → Fine i → Does (check_lines s.seats (size_of s a) (is_tested s a) i) (stm.Check a i)
    pub read : (t : ℕ) (a : Array) (i : Tree) → t < s.temps → IsRead s a → Fine i → Does (read_lines s.seats t (home_of s a) (size_of s a) (is_tested s a) i) (stm.Read t a i)
    pub write : (a : Array) (i v : Tree) → IsWritten s a → Fine i → Fine v → Does (write_lines s.seats (home_of s a) (size_of s a) (is_tested s a) i v) (stm.Write a i v)
    pub bounds : (a : ℕ) (l : State) (regs : List ℕ) (m : M) → Shows s access l regs m → Clears (bounds_lines (s.array_at a) (s.array_size a)) 2 regs m a 0 l
    pub clear : (a n : ℕ) (l : State) (regs : List ℕ) (m : M) → n < s.array_size a → IsCleared a n l regs m → Clears clear_lines 2 regs m a (n + 1) l
    pub branch : (sense : Bool) (label : ℕ) (v : Tree) → Fine v → (l : State) (regs : List ℕ) (m : M) → Shows s access l regs m →
        LeadsTo (branch_lines s.seats v sense first label) (2 * nodes v + 2) regs m (exit_by (is_taken sense (of_tree setting frame v l)) label) l
    pub result : (v : Tree) → Fine v → (l : State) (regs : List ℕ) (m : M) → Shows s access l regs m →
        Gives (result_lines s.seats v) (2 * nodes v) regs m (of_tree setting frame v l) l.world

-- Over every memory that is fit for the frame, the code of each statement without control does what the statement means, wherever it stands.
abbrev pub StatementsAreDone : Type 0 → Type 0
StatementsAreDone M =
    (access : Access M) (s : Site) (setting : ir.Setting) (frame : ir.Frame) → IsFit s access setting frame → AreDone access s setting frame
