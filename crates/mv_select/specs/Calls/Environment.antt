-- What the known functions do on a run: environment calls, and the stub that carries out orders and polls.
use Rattle.std.specs.Prelude.{ℕ, ◌≡◌, ◌+◌, ◌<◌, ◌≤◌, true, List, length, slice_index, Some}
use Rattle.mv_ast.specs.declared.program.Known.{Known}
use Rattle.mv_ast.specs.declared.program.Known.TheVariants.{Getchar, Putchar, Plan}
use Rattle.mv_isa.specs.declared.instr.Instr.TheVariants.{Ecall}
use Rattle.mv_isa.specs.Encoding.{encode}
use Rattle.mv_isa.specs.Execution.{Access, reg}
use Rattle.mv_isa.specs.Registers.{ra, sp, a0, a1, a7, s10}
use Rattle.mv_ir.specs.World as ir
use Rattle.mv_ir.specs.World.{World}
use Rattle.mv_ir.specs.WellFormed.{known_arguments}
use Rattle.mv_select_code.specs.Control.Runs.{Machine}
use Rattle.mv_select.specs.Calls.CallCode.{request_of}
use Rattle.mv_select.specs.Calls.Convention.{Layout, IsTarget, Stands, Returns}

-- input and output are environment calls of their own, and orders and polls go to the stub
abbrev pub IsDirect : Known → Type 0
IsDirect Getchar = Unit {0}
IsDirect Putchar = Unit {0}
IsDirect _ = ⊥

-- an order's code and what it addresses
abbrev pub HoldsOrder : Known → List ℕ → Type 0
HoldsOrder (Plan code index) regs = (reg regs a0 ≡ code) × (reg regs a1 ≡ index)
HoldsOrder _ regs = Unit {0}

-- of what a known function costs, what is left at the stub
abbrev pub stub_cost : ℕ
stub_cost = 15

module _ {M : Type 0} (access : Access M) (y : Layout) (machine : Machine M) (budget far : ℕ) (setting : ir.Setting) where
  -- time i asks for what a known function does
  pub record Asks (k : Known) (args : List ℕ) (i : ℕ) : Type 0 where
    pub number : reg (machine.run i).regs a7 ≡ request_of k
    pub arguments : (j : ℕ) → j < length args → reg (machine.run i).regs (a0 + j) ≡ slice_index args j
    pub order : HoldsOrder k (machine.run i).regs
    pub high : y.bottom ≤ reg (machine.run i).regs sp

  -- The function is carried out, at no more than its cost and `extra`: a later time has its value in a0, and its world.
  abbrev pub Serves : (extra pc back : ℕ) → Known → List ℕ → ℕ → Type 0
  Serves extra pc back k args i =
      (spare bound : ℕ) (w : World) → Stands access y machine budget far pc w i → Asks k args i →
      i + (spare + extra + (setting.known k args (reg (machine.run i).regs s10) w).cost) ≤ budget → far ≤ i + bound →
      (j : ℕ) × Returns access y machine budget far spare bound i back (setting.known k args (reg (machine.run i).regs s10) w).world j
      × (reg (machine.run j).regs a0 ≡ (setting.known k args (reg (machine.run i).regs s10) w).value)

  -- of the known functions that may be asked for: an environment call stands where text has an ECALL
  abbrev pub ServesCalls : Type 0
  ServesCalls =
      (k : Known) (args : List ℕ) (pc i : ℕ) → y.may_ask k ≡ true → IsDirect k → length args ≡ known_arguments k → machine.text.word pc ≡ Some (encode Ecall) →
      Serves 1 pc (pc + 4) k args i

  -- the stub is called
  abbrev pub ServesOrders : Type 0
  ServesOrders =
      (k : Known) (args : List ℕ) (back i : ℕ) → y.may_ask k ≡ true → (IsDirect k → ⊥) → length args ≡ known_arguments k → IsTarget back →
      reg (machine.run i).regs ra ≡ back → Serves stub_cost y.commit back k args i

  pub record ServesKnown : Type 0 where
    pub calls : ServesCalls
    pub stub : ServesOrders
