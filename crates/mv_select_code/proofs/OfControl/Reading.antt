-- A step over an access that refuses some loads, where it goes on, is a step over the whole access.
use Rattle.std.proofs.Common.{◌≡◌, ℕ, Bool, true, false, cond, List, ℤ, Option, Some, None}
use Rattle.mv_num.specs.Words.{word_of, add}
use Rattle.mv_num.specs.declared.kind.Kind.{Kind}
use Rattle.mv_num.specs.declared.kind.Kind.TheVariants as kind
use Rattle.mv_isa.specs.declared.instr.Instr.{Instr}
use Rattle.mv_isa.specs.declared.instr.Instr.TheVariants.{Lb, Lh, Lw, Lbu, Lhu}
use Rattle.mv_isa.specs.Encoding.{decode}
use Rattle.mv_isa.specs.Execution.{Access, Outcome, Goes, reg, loaded, loads, stores, execute, decoded, step}
use Rattle.mv_select_code.specs.Statements.Leads.{reading}

module _ {M : Type 0} (access : Access M) (may_load : ℕ → Bool) (regs : List ℕ) (pc : ℕ) (m : M) (regs' : List ℕ) (pc' : ℕ) (m' : M) where
  abbrev Goes_on : Outcome M → Type 0
  Goes_on o = o ≡ Goes regs' pc' m'

  allowed : (rd : ℕ) (k : Kind) (b : Bool) (o : Option ℕ) → Goes_on (loaded regs pc m rd k (cond b o None)) → Goes_on (loaded regs pc m rd k o)
  allowed rd k true o h = h
  allowed rd k false o h = absurd (let wrong : loaded regs pc m rd k None ≡ Goes regs' pc' m' = h in cc)

  loads_on : (rd rs1 : ℕ) (imm : ℤ) (width : ℕ) (k : Kind) → Goes_on (loads (reading may_load access) regs pc m rd rs1 imm width k) → Goes_on (loads access regs pc m rd rs1 imm width k)
  unfolding loads
  loads_on rd rs1 imm width k h =
      let a = add (reg regs rs1) (word_of imm) in
      allowed rd k (may_load a) (access.load m a width) h

  executes : (i : Instr) → Goes_on (execute (reading may_load access) i regs pc m) → Goes_on (execute access i regs pc m)
  unfolding execute stores
  executes (Lb rd rs1 imm) h = loads_on rd rs1 imm 1 kind.SChar h
  executes (Lh rd rs1 imm) h = loads_on rd rs1 imm 2 kind.Short h
  executes (Lw rd rs1 imm) h = loads_on rd rs1 imm 4 kind.UInt h
  executes (Lbu rd rs1 imm) h = loads_on rd rs1 imm 1 kind.UChar h
  executes (Lhu rd rs1 imm) h = loads_on rd rs1 imm 2 kind.UShort h
  executes _ h = h

  decodes : (i : Option Instr) → Goes_on (decoded (reading may_load access) i regs pc m) → Goes_on (decoded access i regs pc m)
  decodes None h = h
  decodes (Some i) h = executes i h

  pub step_over : (word : Option ℕ) → Goes_on (step (reading may_load access) word regs pc m) → Goes_on (step access word regs pc m)
  step_over None h = h
  step_over (Some word) h = decodes (decode word) h
