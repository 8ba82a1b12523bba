-- The labels of the code of statements: which stand in it, and which it names.
use Rattle.std.specs.Prelude.{ℕ, ◌≡◌, ◌+◌, ◌*◌, ◌%◌, ◌<◌, ◌≤◌, List, [], ◌∷◌, ◌++◌, All, map, Option, count_by}
use Rattle.mv_ast.specs.declared.program.Known.{Known}
use Rattle.mv_bindings.specs.Traps as traps
use Rattle.mv_isa.specs.declared.labelled.Line.{Line}
use Rattle.mv_isa.specs.declared.labelled.Line.TheVariants.{Word, Label, Jump, Branch, Entry, Slot, Point}
use Rattle.mv_isa.specs.Code.{is_label, StandsOnce, TargetStands}
use Rattle.mv_isa.specs.Labels.{check_label, entry_label}
use Rattle.mv_ir.specs.declared.tree.Tree.{Tree}
use Rattle.mv_ir.specs.declared.tree.Tree.TheOpen.{Tree-F}
use Rattle.mv_ir.specs.declared.tree.Tree.TheOpen as tree
use Rattle.mv_ir.specs.declared.tree.Tree.TheFolds.{fold-Tree}
use Rattle.mv_ir.specs.declared.stm.Callee.{Callee}
use Rattle.mv_ir.specs.declared.stm.Callee.TheVariants as callee
use Rattle.mv_ir.specs.declared.stm.Stm.{Stm}
use Rattle.mv_ir.specs.declared.stm.Stm.TheOpen.{Stm-F}
use Rattle.mv_ir.specs.declared.stm.Stm.TheOpen as stm
use Rattle.mv_ir.specs.declared.stm.Stm.TheFolds.{fold-Stm}
use Rattle.mv_ir.specs.Measures.{joined, callee_read, statements}
use Rattle.mv_select_code.specs.Statements.StatementCode.{trap_label}
use Rattle.mv_select_code.specs.declared.control.enclosing.Enclosing.{Enclosing}
use Rattle.mv_select_code.specs.declared.control.enclosing.Way.{Way}
use Rattle.mv_select_code.specs.Control.FlowCode.{CallLines, Plan, code_of}

-- ---- the functions that code names, whose labels stand elsewhere

abbrev pub functions_layer : Tree-F (List ℕ) → List ℕ
functions_layer (tree.Number n) = []
functions_layer (tree.Temp t) = []
functions_layer (tree.Global g) = []
functions_layer (tree.Function f) = f ∷ []
functions_layer (tree.Unary o a) = a
functions_layer (tree.Binary o a b) = a ++ b
functions_layer (tree.Narrow k a) = a

-- those whose addresses a tree takes
unfoldable pub tree_functions : Tree → List ℕ
tree_functions = fold-Tree (List ℕ) functions_layer

abbrev pub callee_functions : Callee → List ℕ
callee_functions (callee.Direct f) = f ∷ []
callee_functions (callee.Through t) = tree_functions t
callee_functions (callee.Switched g) = []
callee_functions callee.Expanded = []

abbrev pub functions_of_all : List Tree → List ℕ
functions_of_all trees = joined (map tree_functions trees)

abbrev pub named_layer : Stm-F (List ℕ) → List ℕ
named_layer (stm.Set t v) = tree_functions v
named_layer (stm.SetGlobal g v) = tree_functions v
named_layer (stm.Divide t o a b) = tree_functions a ++ tree_functions b
named_layer (stm.Check a i) = tree_functions i
named_layer (stm.Read t a i) = tree_functions i
named_layer (stm.Write a i v) = tree_functions i ++ tree_functions v
named_layer (stm.Zero a) = []
named_layer (stm.If t a b) = tree_functions t ++ (joined a ++ joined b)
named_layer (stm.Loop b) = joined b
named_layer (stm.Block b) = joined b
named_layer (stm.Break n) = []
named_layer (stm.Back n) = []
named_layer (stm.Call r f args) = callee_functions f ++ functions_of_all args
named_layer (stm.Known r k args) = functions_of_all args
named_layer (stm.Return v) = tree_functions v

unfoldable pub stm_functions : Stm → List ℕ
stm_functions = fold-Stm (List ℕ) named_layer

-- those that code calls by name, and those whose addresses it takes
abbrev pub functions : List Stm → List ℕ
functions code = joined (map stm_functions code)

-- ---- the pointer switches that code calls through, by their globals

abbrev pub pointers_layer : Stm-F (List ℕ) → List ℕ
pointers_layer (stm.If t a b) = joined a ++ joined b
pointers_layer (stm.Loop b) = joined b
pointers_layer (stm.Block b) = joined b
pointers_layer (stm.Call r f args) = callee_read f
pointers_layer _ = []

unfoldable pub stm_pointers : Stm → List ℕ
stm_pointers = fold-Stm (List ℕ) pointers_layer

abbrev pub pointers : List Stm → List ℕ
pointers code = joined (map stm_pointers code)

-- ---- labels

-- the label of the entry of a function, whose number is below 2 ^ 31
abbrev pub call_label : ℕ → ℕ
call_label f = entry_label (f % 2147483648)

-- a line isn't a label, and one that it names is of a kind
abbrev pub Names : (ℕ → Type 0) → Line → Type 0
Names P (Word instr) = Unit {0}
Names P (Label l) = ⊥
Names P (Jump rd l) = P l
Names P (Branch funct3 rs1 rs2 l) = P l
Names P (Entry rd l) = P l
Names P (Slot l) = P l
Names P (Point a) = P check_label

-- no label stands in the code of calls, and it names what it calls and others of a kind, as the entry of a function that it calls by name, and the stub of
-- calls through pointer switches where it makes one
pub record CallsName (P : ℕ → Type 0) (calls : CallLines) : Type 0 where
  pub call : (r : Option ℕ) (f : Callee) (args : List Tree) → All P (callee_functions f ++ functions_of_all args) → All (λ g. P (call_label g)) (callee_functions f) →
      All (λ g. P check_label) (callee_read f) → All (Names P) (calls.call r f args)
  pub known : (r : Option ℕ) (k : Known) (args : List Tree) → All P (functions_of_all args) → All (Names P) (calls.known r k args)

-- each of so many labels from a first one on stands once in some lines, and no other label does
pub record OwnLabels (first count : ℕ) (lines : List Line) : Type 0 where
  pub own : (l : ℕ) → first ≤ l → l < first + count → StandsOnce lines l
  pub before : (l : ℕ) → l < first → count_by (is_label l) lines ≡ 0
  pub after : (l : ℕ) → first + count ≤ l → count_by (is_label l) lines ≡ 0

-- the labels that code takes are those that stand in it
abbrev pub LabelsAreOwn : Type 0
LabelsAreOwn =
    (plan : Plan) → CallsName (λ l. Unit {0}) plan.calls →
    (code : List Stm) (around : List Enclosing) (label : ℕ) (way : Way) →
    OwnLabels label (code_of plan code).labels ((code_of plan code).lines around label way)

-- code takes at most three labels for each statement
abbrev pub LabelsAreFew : Type 0
LabelsAreFew = (plan : Plan) (code : List Stm) → (code_of plan code).labels ≤ 3 * statements code

-- Wherever code may name a label, the label stands once in all lines: where control goes behind the code, what encloses the code, the labels of the code
-- itself, the end of the function, the stubs of the traps 1 and 2, the functions and their entries, and the stub of calls through pointer switches where there
-- is one.
pub record NamedStand (whole : List Line) (plan : Plan) (around : List Enclosing) (label count after : ℕ) (named points : List ℕ) : Type 0 where
  pub behind : StandsOnce whole after
  pub own : (l : ℕ) → label ≤ l → l < label + count → StandsOnce whole l
  pub starts : All (λ e. StandsOnce whole e.start) around
  pub ends : All (λ e. StandsOnce whole e.end) around
  pub end : StandsOnce whole plan.end
  pub division : StandsOnce whole (trap_label traps.division_by_zero)
  pub index : StandsOnce whole (trap_label traps.index_outside)
  pub functions : All (StandsOnce whole) named
  pub entries : All (λ f. StandsOnce whole (call_label f)) named
  pub check : All (λ g. StandsOnce whole check_label) points

-- then so is each label that the code names
abbrev pub TargetsStand : Type 0
TargetsStand =
    (whole : List Line) (plan : Plan) → CallsName (StandsOnce whole) plan.calls →
    (code : List Stm) (around : List Enclosing) (label : ℕ) (way : Way) →
    NamedStand whole plan around label (code_of plan code).labels way.after (functions code) (pointers code) →
    All (TargetStands whole) ((code_of plan code).lines around label way)
