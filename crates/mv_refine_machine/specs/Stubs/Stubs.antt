-- Stubs: the code before that of the functions, which starts a program, and the code to which traps jump.
use Rattle.std.specs.Prelude.{ℕ, ◌+◌, List, [], ◌∷◌, ◌++◌, map, pos}
use Rattle.mv_num.specs.Regions.{text_start, plan_area}
use Rattle.mv_bindings.specs.Traps.{null_call, call_too_deep}
use Rattle.mv_isa.specs.declared.instr.Instr.TheVariants.{Addi, Ecall}
use Rattle.mv_isa.specs.declared.labelled.Line.{Line}
use Rattle.mv_isa.specs.declared.labelled.Line.TheVariants.{Word, Label, Jump}
use Rattle.mv_isa.specs.Requests as requests
use Rattle.mv_isa.specs.Code.{IsPlace}
use Rattle.mv_isa.specs.Registers.{x0, ra, a0, a7}
use Rattle.mv_linker.specs.Linked.{start_instrs}
use Rattle.mv_select_code.specs.Statements.StatementCode.{trap_label}
use Rattle.mv_select_code.specs.Control.Placed.{Text}
use Rattle.mv_select.specs.Slots.Points.{CheckStands}

-- where the stack ends
abbrev pub stack_end : ℕ
stack_end = plan_area

-- where the start stub stands, and where main returns to
abbrev pub start_address : ℕ
start_address = text_start

abbrev pub return_address : ℕ
return_address = 0x101C

-- how many instructions come to main
abbrev pub start_steps : ℕ
start_steps = 7

-- an environment call of a number, with its argument in a0
abbrev pub request_lines : ℕ → List Line
request_lines number = Word (Addi a7 x0 (pos number)) ∷ Word Ecall ∷ []

-- The stack is empty, gp and tp point into data, and all calls are left; main is called, and what it returns is the exit status.
abbrev pub start_lines : (main_label : ℕ) → List Line
start_lines main_label = map Word start_instrs ++ (Jump ra main_label ∷ request_lines requests.exit)

-- the run ends with the code of a trap
abbrev pub trap_lines : ℕ → List Line
trap_lines code = Label (trap_label code) ∷ Word (Addi a0 x0 (pos code)) ∷ request_lines requests.trap

-- The stub of calls through pointer switches stands at an address, with the stubs of its traps in text.
pub record HasCheck (text : Text) (place : ℕ → ℕ) (check : ℕ) : Type 0 where
  pub stands : CheckStands text.word check (place (trap_label null_call)) (place (trap_label call_too_deep))
  pub here : IsPlace check
  pub last : IsPlace (check + 20)
  pub null : IsPlace (place (trap_label null_call))
  pub deep : IsPlace (place (trap_label call_too_deep))
