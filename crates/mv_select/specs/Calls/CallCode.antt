-- The code of calls, of functions and of known functions.
use Rattle.std.specs.Prelude.{ℕ, suc, Bool, cond, eqb, List, [], ◌∷◌, ◌++◌, pos, Option, Some, None}
use Rattle.std.specs.List.{list_any}
use Rattle.mv_ast.specs.declared.program.Known.{Known}
use Rattle.mv_ast.specs.declared.program.Known.TheVariants.{Getchar, Putchar, Poll, Plan}
use Rattle.mv_bindings.specs.Traps as traps
use Rattle.mv_isa.specs.declared.instr.Instr.TheVariants.{Addi, Jalr, Ecall}
use Rattle.mv_isa.specs.declared.labelled.Line.{Line}
use Rattle.mv_isa.specs.declared.labelled.Line.TheVariants.{Word, Jump, Branch, Slot, Point}
pub use Rattle.mv_isa.specs.Labels.{commit_label}
use Rattle.mv_select_code.specs.Control.Labels.{call_label}
use Rattle.mv_isa.specs.Code.{nop}
use Rattle.mv_isa.specs.Requests as requests
use Rattle.mv_isa.specs.Registers.{x0, ra, a0, a1, a7, s11, t3}
use Rattle.mv_ir.specs.declared.tree.Tree.{Tree}
use Rattle.mv_ir.specs.declared.stm.Callee.{Callee}
use Rattle.mv_ir.specs.declared.stm.Callee.TheVariants as callee
use Rattle.mv_select_code.specs.Trees.TreeCode.{Seats, one, number_lines, minus_one, tree_into, tree_lines}
use Rattle.mv_select_code.specs.Statements.StatementCode.{trap_label, write_temp}
use Rattle.mv_select_code.specs.Control.FlowCode.{CallLines}

-- ra has the return address, s11 how many calls are left, s10 how many attributed frames are live, a7 the number of an environment call; t3 has the
-- address that a call through a pointer goes to; an argument is computed by way of it and the registers behind it

-- the number of an environment call
abbrev pub request_of : Known → ℕ
request_of Getchar = requests.read
request_of Putchar = requests.write
request_of (Plan code index) = requests.plan
request_of Poll = requests.poll

-- the result of a call into its temporary, if it has one
abbrev pub result_lines : Seats → Option ℕ → List Line
result_lines s None = []
result_lines s (Some t) = one (write_temp s t a0)

-- ---- calls of functions

-- a trap where no call is left
abbrev pub depth_lines : List Line
depth_lines = Branch 0 s11 x0 (trap_label traps.call_too_deep) ∷ []

-- one call less is left; a trap where none is
abbrev pub guard_lines : List Line
guard_lines = depth_lines ++ one (Addi s11 s11 minus_one)

-- one call more is left again, and the result comes into its temporary
abbrev pub back_lines : Seats → Option ℕ → List Line
back_lines s result = Word (Addi s11 s11 (pos 1)) ∷ result_lines s result

-- one call less is left for as long as some lines take
abbrev pub guarded_lines : Seats → List Line → Option ℕ → List Line
guarded_lines s go result = guard_lines ++ (go ++ back_lines s result)

-- the functions that are attributed
abbrev pub is_marked : List ℕ → ℕ → Bool
is_marked marked f = list_any (λ m. eqb m f) marked

abbrev pub slot_lines : ℕ → List Line
slot_lines f = Slot f ∷ []

-- a call of a function that isn't attributed
abbrev pub entry_lines : ℕ → List Line
entry_lines f = Jump ra (call_label f) ∷ []

-- a call to the address in t3
abbrev pub jump_lines : List Line
jump_lines = one (Jalr ra t3 (pos 0))

-- with a trap where it is null
abbrev pub pointer_lines : Seats → Option ℕ → List Line
pointer_lines s result = Branch 0 t3 x0 (trap_label traps.null_call) ∷ guarded_lines s jump_lines result

-- what stands before a call through a pointer switch that has no arguments: so no other call returns to the first word of its slot
abbrev pub pad_lines : Callee → List Tree → List Line
pad_lines (callee.Switched g) [] = one nop
pad_lines _ _ = []

module _ (s : Seats) where
  -- arguments into registers from one on
  abbrev pub argument_lines : ℕ → List Tree → List Line
  argument_lines r [] = []
  argument_lines r (t ∷ ts) = tree_into s t r t3 ++ argument_lines (suc r) ts

  -- A call of a function: of an attributed one by a slot, and of another one by a jump to its entry; through a pointer, with a trap where it is null; through
  -- a pointer switch by a slot of four words, which counts the call itself. Of one whose statements stand behind it the test of the depth is left.
  abbrev pub transfer_lines : (ℕ → Bool) → Callee → Option ℕ → List Line
  transfer_lines is_attributed (callee.Direct f) result =
      cond (is_attributed f) (guarded_lines s (slot_lines f) result) (guarded_lines s (entry_lines f) result)
  transfer_lines is_attributed (callee.Through t) result =
      tree_lines s t t3 ++ pointer_lines s result
  transfer_lines is_attributed (callee.Switched g) result = Point (s.place g) ∷ back_lines s result
  transfer_lines is_attributed callee.Expanded result = depth_lines

  abbrev pub call_lines : (ℕ → Bool) → Option ℕ → Callee → List Tree → List Line
  call_lines is_attributed result f args = pad_lines f args ++ (argument_lines a0 args ++ transfer_lines is_attributed f result)

-- ---- calls of known functions

-- an order's code and what it addresses
abbrev pub order_lines : Known → List Line
order_lines (Plan code index) = Word (Addi a0 x0 (pos code)) ∷ number_lines index a1
order_lines _ = []

-- Input and output are environment calls; orders and polls go to the stub.
abbrev pub ask_lines : Known → List Line
ask_lines Getchar = one Ecall
ask_lines Putchar = one Ecall
ask_lines _ = Jump ra commit_label ∷ []

abbrev pub known_lines : Seats → Option ℕ → Known → List Tree → List Line
known_lines s result k args =
    argument_lines s a0 args
    ++ (order_lines k ++ (Word (Addi a7 x0 (pos (request_of k))) ∷ (ask_lines k ++ result_lines s result)))

abbrev pub calls_of : Seats → (ℕ → Bool) → CallLines
calls_of s is_attributed = record { call = call_lines s is_attributed; known = known_lines s }
