-- A step that may load only what is open stands at a sound place.
use Rattle.std.proofs.Common.{◌≡◌, ℕ, Bool, true, false, cond, not, eqb, List, [], ◌∷◌, length, ℤ, Option, Some, None, option_and_then, refl, ap, ◌∙◌, subst}
use Rattle.std.proofs.lemmas.Bool.{and_from}
use Rattle.mv_num.specs.declared.kind.Kind.{Kind}
use Rattle.mv_num.specs.declared.kind.Kind.TheVariants as kind
use Rattle.mv_num.specs.Words.{add, word_of}
use Rattle.mv_isa.specs.declared.instr.Instr.{Instr}
use Rattle.mv_isa.specs.declared.instr.Instr.TheVariants.{Lb, Lh, Lw, Lbu, Lhu}
use Rattle.mv_isa.specs.Encoding.{decode}
use Rattle.mv_isa.specs.Execution.{Access, Outcome, Goes, Calls, reg, sets, loaded, loads, execute, decoded, step}
use Rattle.mv_fetch.specs.Held.{choices}
use Rattle.mv_select_code.specs.Statements.Leads.{reading}
use Rattle.mv_select_code.specs.Control.Runs.{Spot}
use Rattle.mv_select.specs.Functions.Loads.{loads_from}
use Rattle.mv_refine_machine.specs.Calm.{Rest}
use Rattle.mv_refine_machine.specs.MachineRuns.{has_one_choice, opens, are_open, is_sound}

same_some : (a b : ℕ) → Some a ≡ Some b → a ≡ b
same_some a b e = cc

pub opened : (closed : ℕ → Bool) (o : Option ℕ) → ((a : ℕ) → o ≡ Some a → closed a ≡ false) → opens closed o ≡ true
opened closed None h = refl
opened closed (Some a) h = ap not (h a refl)

-- ---- a step that goes on loads where it may

module _ {M : Type 0} (access : Access M) (may_load : ℕ → Bool) (regs : List ℕ) (pc : ℕ) (m : M) (regs' : List ℕ) (pc' : ℕ) (m' : M) where
  abbrev Goes_on : Outcome M → Type 0
  Goes_on o = o ≡ Goes regs' pc' m'

  allowed : (rd : ℕ) (k : Kind) (b : Bool) (o : Option ℕ) → Goes_on (loaded regs pc m rd k (cond b o None)) → b ≡ true
  allowed rd k true o h = refl
  allowed rd k false o h = absurd (let wrong : loaded regs pc m rd k None ≡ Goes regs' pc' m' = h in cc)

  loads_allowed : (rd rs1 : ℕ) (imm : ℤ) (width : ℕ) (k : Kind) (a : ℕ) → Goes_on (loads (reading may_load access) regs pc m rd rs1 imm width k) → Some (add (reg regs rs1) (word_of imm)) ≡ Some a →
      may_load a ≡ true
  unfolding loads
  loads_allowed rd rs1 imm width k a h e =
      let from = add (reg regs rs1) (word_of imm) in
      subst (λ z. may_load z ≡ true) (same_some from a e) (allowed rd k (may_load from) (access.load m from width) h)

  pub executes_allowed : (i : Instr) (a : ℕ) → Goes_on (execute (reading may_load access) i regs pc m) → loads_from i regs ≡ Some a → may_load a ≡ true
  unfolding execute
  executes_allowed (Lb rd rs1 imm) a h e = loads_allowed rd rs1 imm 1 kind.SChar a h e
  executes_allowed (Lh rd rs1 imm) a h e = loads_allowed rd rs1 imm 2 kind.Short a h e
  executes_allowed (Lw rd rs1 imm) a h e = loads_allowed rd rs1 imm 4 kind.UInt a h e
  executes_allowed (Lbu rd rs1 imm) a h e = loads_allowed rd rs1 imm 1 kind.UChar a h e
  executes_allowed (Lhu rd rs1 imm) a h e = loads_allowed rd rs1 imm 2 kind.UShort a h e
  executes_allowed _ a h e = absurd cc

  decodes_allowed : (i : Option Instr) (a : ℕ) → Goes_on (decoded (reading may_load access) i regs pc m) → option_and_then (λ j. loads_from j regs) i ≡ Some a → may_load a ≡ true
  decodes_allowed None a h e = absurd cc
  decodes_allowed (Some i) a h e = executes_allowed i a h e

-- ---- an environment call is no load

module _ {M : Type 0} (access : Access M) (regs : List ℕ) (pc : ℕ) (m : M) where
  no_load : (rd : ℕ) (k : Kind) (o : Option ℕ) → loaded regs pc m rd k o ≡ Calls → ⊥
  unfolding sets
  no_load rd k None h = cc
  no_load rd k (Some v) h = cc

  executes_none : (i : Instr) (a : ℕ) → execute access i regs pc m ≡ Calls → loads_from i regs ≡ Some a → ⊥
  unfolding execute loads
  executes_none (Lb rd rs1 imm) a h e = no_load rd kind.SChar (access.load m (add (reg regs rs1) (word_of imm)) 1) h
  executes_none (Lh rd rs1 imm) a h e = no_load rd kind.Short (access.load m (add (reg regs rs1) (word_of imm)) 2) h
  executes_none (Lw rd rs1 imm) a h e = no_load rd kind.UInt (access.load m (add (reg regs rs1) (word_of imm)) 4) h
  executes_none (Lbu rd rs1 imm) a h e = no_load rd kind.UChar (access.load m (add (reg regs rs1) (word_of imm)) 1) h
  executes_none (Lhu rd rs1 imm) a h e = no_load rd kind.UShort (access.load m (add (reg regs rs1) (word_of imm)) 2) h
  executes_none _ a h e = cc

  pub decodes_none : (i : Option Instr) (a : ℕ) → decoded access i regs pc m ≡ Calls → option_and_then (λ j. loads_from j regs) i ≡ Some a → ⊥
  decodes_none None a h e = cc
  decodes_none (Some i) a h e = executes_none i a h e

-- ---- sound places

-- where a fetch gives one word, which loads nothing that is closed
pub sound_at : (closed : (pc address : ℕ) → Bool) (spot : Spot Rest) (word : ℕ) → choices spot.memory.room.held spot.pc ≡ word ∷ [] →
    ((a : ℕ) → option_and_then (λ i. loads_from i spot.regs) (decode word) ≡ Some a → closed spot.pc a ≡ false) → is_sound closed spot ≡ true
sound_at closed spot word one free =
    and_from (has_one_choice spot) (are_open (closed spot.pc) spot.regs (choices spot.memory.room.held spot.pc)) (ap (λ (words : List ℕ). eqb (length words) 1) one)
    (ap (are_open (closed spot.pc) spot.regs) one
    ∙ and_from (opens (closed spot.pc) (option_and_then (λ i. loads_from i spot.regs) (decode word))) true (opened (closed spot.pc) (option_and_then (λ i. loads_from i spot.regs) (decode word)) free) refl)

-- a step of that word that may load only what is open
pub steps_sound : {M : Type 0} (access : Access M) (m : M) (may_load : ℕ → Bool) (closed : (pc address : ℕ) → Bool) (spot : Spot Rest) (word : ℕ) (regs : List ℕ) (pc : ℕ) (after : M) →
    choices spot.memory.room.held spot.pc ≡ word ∷ [] → step (reading may_load access) (Some word) spot.regs spot.pc m ≡ Goes regs pc after →
    ((a : ℕ) → may_load a ≡ true → closed spot.pc a ≡ false) → is_sound closed spot ≡ true
steps_sound access m may_load closed spot word regs pc after one steps free =
    sound_at closed spot word one (λ a e. free a (decodes_allowed access may_load spot.regs spot.pc m regs pc after (decode word) a steps e))
