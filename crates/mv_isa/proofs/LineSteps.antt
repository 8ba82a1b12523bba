-- The steps of each kind of item.
use Rattle.std.proofs.Common.{◌≡◌, ℕ, zero, suc, ◌+◌, ◌*◌, ◌-◌, ◌%◌, ◌^◌, ◌<◌, ◌≤◌, ⊎_elim, inl, inr, ℤ, pos, negsuc, Bool, true, false, not, cond, eqb, List, length, set, get_or, Option, refl, sym, ap, ◌∙◌, arith}
use Rattle.std.proofs.lemmas.Int.{ints}
use Rattle.std.proofs.lemmas.Bool.{cases_lt}
use Rattle.std.proofs.lemmas.List.{set-set, get_or-set_same}
use Rattle.std.proofs.Math.Bool.{not-not}
use lib.Signed.{mag}
use Rattle.mv_num.specs.Words.{word_of, add, shl, lt_s, lt_u}
use Rattle.mv_num.proofs.Signed.{word_of_is}
use Rattle.mv_isa.specs.declared.instr.Instr.{Instr}
use Rattle.mv_isa.specs.declared.instr.Instr.TheVariants.{Lui, Jal, Beq, Bne, Blt, Bge, Bltu, Bgeu, Addi}
use Rattle.mv_isa.specs.declared.labelled.Line.{Line}
use Rattle.mv_isa.specs.declared.labelled.Line.TheVariants.{Word, Label, Jump, Branch, Entry, Slot, Point}
use Rattle.mv_isa.specs.Execution.{Access, Goes, reg, put, upper, sets, jumps, branches, execute, decoded, step}
use Rattle.mv_isa.specs.Code.{LineFits, IsPlace, IsCondition, distance, nop, branch_instr, inverse, upper_part, lower_part}
use Rattle.mv_isa.specs.Standing.{InstrStands, ShortBranch, LongBranch, LineStands}
use Rattle.mv_isa.specs.LineSteps.{branch_holds, named, BranchRuns, LineRuns, LinesRun}
use Rattle.mv_isa.proofs.Addresses.{jump_leads}
use Rattle.mv_isa.proofs.RoundTrip.{decode-encode}

-- Words of distances.

small_distance : (at to : ℕ) → at < 2 ^ 31 → to < 2 ^ 31 → mag (distance at to) < 2 ^ 32
small_distance at to a t =
    ⊎_elim
    (λ (l : to < at). let e : distance at to ≡ negsuc (at - to - 1) = omega (arith, ints) in rw e (omega arith))
    (λ (l : at ≤ to). let e : distance at to ≡ pos (to - at) = omega (arith, ints) in rw e (omega arith))
    (cases_lt to at)

pub add_distance : (at to : ℕ) → at < 2 ^ 31 → to < 2 ^ 31 → add at (word_of (distance at to)) ≡ to
unfolding add
add_distance at to a t = ap (λ w. (at + w) % 2 ^ 32) (word_of_is (distance at to) (small_distance at to a t)) ∙ jump_leads at to a t

pub add_four : (at : ℕ) → at < 2 ^ 31 → add at 4 ≡ at + 4
unfolding add
add_four at a = omega arith

upper_gives : (n : ℕ) → n < 2 ^ 20 → upper (pos n) ≡ 4096 * n
unfolding upper shl
upper_gives n l = rw (word_of_is (pos n) (omega arith)) (omega (arith, ints))

-- Conditions.

-- the inverse of a condition holds exactly where the condition doesn't
pub inverse_holds : (funct3 a b : ℕ) → IsCondition funct3 → branch_holds (inverse funct3) a b ≡ not (branch_holds funct3 a b)
inverse_holds zero a b c = refl
inverse_holds (suc zero) a b c = sym (not-not (eqb a b))
inverse_holds (suc (suc zero)) a b c = absurd (omega arith)
inverse_holds (suc (suc (suc zero))) a b c = absurd (omega arith)
inverse_holds (suc (suc (suc (suc zero)))) a b c = refl
inverse_holds (suc (suc (suc (suc (suc zero))))) a b c = sym (not-not (lt_s a b))
inverse_holds (suc (suc (suc (suc (suc (suc zero)))))) a b c = refl
inverse_holds (suc (suc (suc (suc (suc (suc (suc zero))))))) a b c = sym (not-not (lt_u a b))
inverse_holds (suc (suc (suc (suc (suc (suc (suc (suc n)))))))) a b c = absurd (omega arith)

-- Registers.

-- a value that goes into a register by way of another
put_sum : (regs : List ℕ) (rd v w : ℕ) → rd < length regs → put (put regs rd v) rd (add (reg (put regs rd v) rd) w) ≡ put regs rd (add v w)
unfolding put reg
put_sum regs rd v w l = by_zero (eqb rd 0)
  where
    by_zero : (b : Bool) → cond b (cond b regs (set regs rd v)) (set (cond b regs (set regs rd v)) rd (add (cond b 0 (get_or (cond b regs (set regs rd v)) rd 0)) w))
        ≡ cond b regs (set regs rd (add v w))
    by_zero true = refl
    by_zero false = set-set regs rd v _ ∙ ap (λ x. set regs rd (add x w)) (get_or-set_same regs rd v 0 l)

-- Instructions.

module _ {M : Type 0} (access : Access M) (m : M) where
  pub jumps_to : (regs : List ℕ) (to : ℕ) → to % 4 ≡ 0 → jumps regs m to ≡ Goes regs to m
  unfolding jumps
  jumps_to regs to e = rw e refl

  pub jal_leads : (regs : List ℕ) (rd at to : ℕ) → at < 2 ^ 31 → to < 2 ^ 31 → to % 4 ≡ 0
      → execute access (Jal rd (distance at to)) regs at m ≡ Goes (put regs rd (at + 4)) to m
  unfolding execute
  jal_leads regs rd at to a t e = rw (add_distance at to a t, add_four at a) (jumps_to (put regs rd (at + 4)) to e)

  -- a branch goes by its condition
  branch_is : (regs : List ℕ) (funct3 rs1 rs2 : ℕ) (imm : ℤ) (at : ℕ)
      → execute access (branch_instr funct3 rs1 rs2 imm) regs at m ≡ branches regs at m imm (branch_holds funct3 (reg regs rs1) (reg regs rs2))
  unfolding execute
  branch_is regs funct3 rs1 rs2 imm at = by_tests (eqb funct3 0) (eqb funct3 1) (eqb funct3 4) (eqb funct3 5) (eqb funct3 6)
    where
      by_tests : (a b c d e : Bool)
          → execute access (cond a (Beq rs1 rs2 imm) (cond b (Bne rs1 rs2 imm) (cond c (Blt rs1 rs2 imm) (cond d (Bge rs1 rs2 imm) (cond e (Bltu rs1 rs2 imm) (Bgeu rs1 rs2 imm)))))) regs at m
          ≡ branches regs at m imm (cond a (eqb (reg regs rs1) (reg regs rs2))
          (cond b (not (eqb (reg regs rs1) (reg regs rs2)))
          (cond c (lt_s (reg regs rs1) (reg regs rs2))
          (cond d (not (lt_s (reg regs rs1) (reg regs rs2))) (cond e (lt_u (reg regs rs1) (reg regs rs2)) (not (lt_u (reg regs rs1) (reg regs rs2))))))))
      by_tests true b c d e = refl
      by_tests false true c d e = refl
      by_tests false false true d e = refl
      by_tests false false false true e = refl
      by_tests false false false false true = refl
      by_tests false false false false false = refl

  taken : (regs : List ℕ) (at to : ℕ) (test : Bool) → test ≡ true → at < 2 ^ 31 → to < 2 ^ 31 → to % 4 ≡ 0
      → branches regs at m (distance at to) test ≡ Goes regs to m
  unfolding branches
  taken regs at to test h a t e = rw (h, add_distance at to a t) (jumps_to regs to e)

  passed : (regs : List ℕ) (at : ℕ) (imm : ℤ) (test : Bool) → test ≡ false → at < 2 ^ 31 → branches regs at m imm test ≡ Goes regs (at + 4) m
  unfolding branches
  passed regs at imm test h a = rw (h, add_four at a) refl

  pub branch_taken : (regs : List ℕ) (funct3 rs1 rs2 at to : ℕ) → branch_holds funct3 (reg regs rs1) (reg regs rs2) ≡ true → at < 2 ^ 31 → to < 2 ^ 31 → to % 4 ≡ 0
      → execute access (branch_instr funct3 rs1 rs2 (distance at to)) regs at m ≡ Goes regs to m
  branch_taken regs funct3 rs1 rs2 at to h a t e = branch_is regs funct3 rs1 rs2 (distance at to) at ∙ taken regs at to _ h a t e

  pub branch_passed : (regs : List ℕ) (funct3 rs1 rs2 : ℕ) (imm : ℤ) (at : ℕ) → branch_holds funct3 (reg regs rs1) (reg regs rs2) ≡ false → at < 2 ^ 31
      → execute access (branch_instr funct3 rs1 rs2 imm) regs at m ≡ Goes regs (at + 4) m
  branch_passed regs funct3 rs1 rs2 imm at h a = branch_is regs funct3 rs1 rs2 imm at ∙ passed regs at imm _ h a

  upper_leads : (regs : List ℕ) (rd at to : ℕ) → at < 2 ^ 31 → to < 2 ^ 30
      → execute access (Lui rd (pos (upper_part to))) regs at m ≡ Goes (put regs rd (4096 * upper_part to)) (at + 4) m
  unfolding execute sets
  upper_leads regs rd at to a t = rw (upper_gives (upper_part to) (omega arith), add_four at a) refl

  lower_leads : (regs : List ℕ) (rd at to : ℕ) → rd < length regs → at < 2 ^ 31 → to < 2 ^ 30
      → execute access (Addi rd rd (lower_part to)) (put regs rd (4096 * upper_part to)) at m ≡ Goes (put regs rd to) (at + 4) m
  unfolding execute sets
  lower_leads regs rd at to r a t =
      rw (put_sum regs rd (4096 * upper_part to) (word_of (lower_part to)) r, add_distance (4096 * upper_part to) to (omega arith) (omega arith), add_four at a) refl

  no_link : (regs : List ℕ) (v to : ℕ) → Goes (put regs 0 v) to m ≡ Goes regs to m
  unfolding put
  no_link regs v to = refl

  nop_leads : (regs : List ℕ) (at : ℕ) → at < 2 ^ 31 → execute access nop regs at m ≡ Goes regs (at + 4) m
  unfolding execute sets put
  nop_leads regs at a = rw (add_four at a) refl

  -- Items.

  module _ (text : ℕ → Option ℕ) where
    -- the step where an instruction stands is its execution
    pub stands_steps : (regs : List ℕ) (at : ℕ) (i : Instr) → InstrStands text at i → step access (text at) regs at m ≡ execute access i regs at m
    stands_steps regs at i h = ap (λ w. step access w regs at m) h.word ∙ ap (λ d. decoded access d regs at m) (decode-encode i h.fields)

    short_runs : (regs : List ℕ) (funct3 rs1 rs2 at end to : ℕ) (holds : Bool) → branch_holds funct3 (reg regs rs1) (reg regs rs2) ≡ holds
        → ShortBranch text at end to funct3 rs1 rs2 → at < 2 ^ 31 → to < 2 ^ 31 → to % 4 ≡ 0 → BranchRuns access text m holds at end to regs
    short_runs regs funct3 rs1 rs2 at end to true h s a t e = inl (stands_steps regs at _ s.branch ∙ branch_taken regs funct3 rs1 rs2 at to h a t e)
    short_runs regs funct3 rs1 rs2 at end to false h s a t e =
        stands_steps regs at _ s.branch ∙ branch_passed regs funct3 rs1 rs2 (distance at to) at h a ∙ ap (λ pc. Goes regs pc m) (sym s.end_is)

    long_runs : (regs : List ℕ) (funct3 rs1 rs2 at end to : ℕ) (holds : Bool) → IsCondition funct3 → branch_holds funct3 (reg regs rs1) (reg regs rs2) ≡ holds
        → LongBranch text at end to funct3 rs1 rs2 → at + 8 < 2 ^ 31 → at % 4 ≡ 0 → to < 2 ^ 31 → to % 4 ≡ 0 → BranchRuns access text m holds at end to regs
    long_runs regs funct3 rs1 rs2 at end to true c h s a b t e =
        let other : branch_holds (inverse funct3) (reg regs rs1) (reg regs rs2) ≡ false = inverse_holds funct3 (reg regs rs1) (reg regs rs2) c ∙ ap not h in
        inr (
          stands_steps regs at _ s.branch ∙ branch_passed regs (inverse funct3) rs1 rs2 (pos 8) at other (omega arith),
          stands_steps regs (at + 4) _ s.jump ∙ jal_leads regs 0 (at + 4) to (omega arith) t e ∙ no_link regs (at + 4 + 4) to,
        )
    long_runs regs funct3 rs1 rs2 at end to false c h s a b t e =
        let other : branch_holds (inverse funct3) (reg regs rs1) (reg regs rs2) ≡ true = inverse_holds funct3 (reg regs rs1) (reg regs rs2) c ∙ ap not h in
        let eight : pos 8 ≡ distance at end = omega (arith, ints, s.end_is) in
        let stands : InstrStands text at (branch_instr (inverse funct3) rs1 rs2 (distance at end)) = rw eight at s.branch in
        stands_steps regs at _ stands ∙ branch_taken regs (inverse funct3) rs1 rs2 at end other (omega arith) (omega (arith, s.end_is)) (omega (arith, s.end_is))

    pub line_runs : (place entry : ℕ → ℕ) (at end : ℕ) (line : Line)
        → LineStands text place entry at end line → LineFits line → IsPlace at → IsPlace (named place entry at line)
        → (regs : List ℕ) → length regs ≡ 32
        → LineRuns access text m at end (named place entry at line) regs line
    line_runs place entry at end (Word instr) s f a t regs r = stands_steps regs at instr s.0
    line_runs place entry at end (Label l) s f a t regs r = sym s
    line_runs place entry at end (Jump rd l) s f a t regs r =
        stands_steps regs at _ s.jump ∙ jal_leads regs rd at (place l) (omega (arith, a.1)) (omega (arith, t.1)) t.2 ∙ ap (λ v. Goes (put regs rd v) (place l) m) (sym s.end_is)
    line_runs place entry at end (Branch funct3 rs1 rs2 l) s f a t regs r =
        ⊎_elim
        (λ (h : ShortBranch text at end (place l) funct3 rs1 rs2). short_runs regs funct3 rs1 rs2 at end (place l) _ refl h (omega (arith, a.1)) (omega (arith, t.1)) t.2)
        (λ (h : LongBranch text at end (place l) funct3 rs1 rs2). long_runs regs funct3 rs1 rs2 at end (place l) _ f.0 refl h (omega (arith, a.1)) a.2 (omega (arith, t.1)) t.2)
        s
    line_runs place entry at end (Entry rd l) s f a t regs r = (
      put regs rd (4096 * upper_part (entry l)),
      stands_steps regs at _ s.upper ∙ upper_leads regs rd at (entry l) (omega (arith, a.1)) (omega (arith, t.1)),
      stands_steps _ (at + 4) _ s.lower ∙ lower_leads regs rd (at + 4) (entry l) (omega (arith, f)) (omega (arith, a.1)) (omega (arith, t.1)) ∙ ap (λ pc. Goes (put regs rd (entry l)) pc m) (omega (arith, s.end_is)),
    )
    line_runs place entry at end (Slot l) s f a t regs r = (
      stands_steps regs at _ s.call ∙ jal_leads regs 1 at (entry l) (omega (arith, a.1)) (omega (arith, t.1)) t.2,
      λ regs'. stands_steps regs' (at + 4) _ s.rest ∙ nop_leads regs' (at + 4) (omega (arith, a.1)) ∙ ap (λ pc. Goes regs' pc m) (omega (arith, s.end_is)),
    )
    line_runs place entry at end (Point p) s f a t regs r = tt

pub lines_run : (M : Type 0) → LinesRun M
lines_run M access text m place entry at end line = line_runs access m text place entry at end line
