-- What slots of four words do, and the stub that tests them.
use Rattle.std.proofs.Common.{◌≡◌, ◌≢◌, inl, inr, ℕ, ◌+◌, ◌-◌, ◌*◌, ◌/◌, ◌%◌, ◌^◌, ◌<◌, ◌≤◌, Bool, true, false, not, cond, eqb, ltb, List, length, Some, None, pos, ◌-ℤ◌, refl, sym, ap, ◌∙◌, subst, arith}
use Rattle.std.proofs.lemmas.Int.{ints}
use Rattle.std.proofs.lemmas.Bool.{ltb-true, ltb-false, eq-eqb, ne_eqb}
use Rattle.mv_num.specs.Words.{word_of, add}
use Rattle.mv_num.proofs.Numbers.{word_of_pos}
use Rattle.mv_isa.specs.declared.instr.Cause.TheVariants as cause
use Rattle.mv_isa.specs.declared.instr.Instr.{Instr}
use Rattle.mv_isa.specs.declared.instr.Instr.TheVariants.{Addi, Bne, Jal, Jalr, Lui, Lw}
use Rattle.mv_isa.specs.Code.{IsPlace, distance, upper_part, lower_part, nop}
use Rattle.mv_isa.specs.Execution.{Access, Goes, Faults, reg, put, upper, execute, jumps, step}
use Rattle.mv_isa.specs.Standing.{InstrStands, PointStands}
use Rattle.mv_isa.proofs.LineSteps.{jal_leads, branch_taken, branch_passed, stands_steps}
use Rattle.mv_ir.specs.World.{World}
use Rattle.mv_ir.specs.Outcome.{End, Returned, Trapped, More, Stuck}
use Rattle.mv_select_code.specs.Trees.TreeCode.{upper_bits, lower_bits, minus_one}
use Rattle.mv_select_code.specs.Trees.View.{AreRegisters}
use Rattle.mv_select_code.proofs.OfTrees.Instructions.{lui_sets, lw_sets, addi_sets}
use Rattle.mv_select_code.proofs.OfTrees.Registers.{IsFree, free_above, free_low, reg_zero, put_same, put_other, put_registers}
use Rattle.mv_select_code.proofs.OfTrees.Words.{zero_add, minus_one_is, parts_add, upper_below}
use Rattle.mv_select_code.specs.Statements.Frames.{Reach}
use Rattle.mv_select_code.specs.Statements.Leads.{limited}
use Rattle.mv_select_code.proofs.OfStatements.TreesFirst.{add_small}
use Rattle.mv_select_code.specs.Control.Placed.{Text}
use Rattle.mv_select_code.specs.Control.Runs.{Machine, outside}
use Rattle.mv_select_code.proofs.OfControl.Walk.{put_zero}
use Rattle.mv_select.specs.Calls.Convention.{Layout, IsSaved, IsAbove, Stands, Enters, Returns, FollowsCall, Stops, Comes, ReturnsCounted, FollowsCounted}
use Rattle.mv_select.specs.Functions.Functions.{IsLaid, RunsWithin}
use Rattle.mv_select.proofs.OfCalls.Guarded.{one_less}
use Rattle.mv_select.proofs.OfFunctions.FrameWords.{words_site}
use Rattle.mv_select.specs.Slots.Narrowed as spec
use Rattle.mv_select.specs.Slots.Laws.{Runs, nothing}
use Rattle.mv_select.specs.Slots.Points.{CheckStands, CallsBound, loading, Arrives, Calls, ArrivalsFollow, PointsUnder}
use Rattle.mv_select.proofs.OfSlots.Slots.{Stepped, stepped}
use Rattle.mv_select.proofs.OfSlots.Narrow.{stands_too, stands_narrowed}

-- ---- instructions

upper_same : (n : ℕ) → upper_part n % 1048576 ≡ upper_bits n
unfolding upper_bits
upper_same n = refl

lower_same : (n : ℕ) → lower_part n ≡ lower_bits n
unfolding lower_bits
lower_same n = by_half (ltb (n % 4096) 2048) refl
  where
    by_half : (b : Bool) → ltb (n % 4096) 2048 ≡ b → distance (4096 * ((n + 2048) / 4096)) n ≡ cond b (pos (n % 4096)) (pos (n % 4096) -ℤ pos 4096)
    by_half true is = let low = ltb-true (n % 4096) 2048 is in omega (arith, ints, low)
    by_half false is = let high = ltb-false (n % 4096) 2048 is in omega (arith, ints, high)

module _ {M : Type 0} (access : Access M) (m : M) where
  -- a jump by a register, to an address of text
  jalr_goes : (rd rs1 pc to : ℕ) (regs : List ℕ) → reg regs rs1 ≡ to → to < 2 ^ 31 → to % 4 ≡ 0 → execute access (Jalr rd rs1 (pos 0)) regs pc m ≡ Goes (put regs rd (add pc 4)) to m
  unfolding execute jumps
  jalr_goes rd rs1 pc to regs e high even =
      let sum : add (reg regs rs1) (word_of (pos 0)) ≡ to = ap (λ z. add z (word_of (pos 0))) e ∙ ap (add to) (word_of_pos 0 (omega arith)) ∙ zero_add to (omega (arith, high)) in
      let same : to - to % 2 ≡ to = omega (arith, even) in
      ap (λ z. jumps (put regs rd (add pc 4)) m (z - z % 2)) sum ∙ ap (jumps (put regs rd (add pc 4)) m) same
      ∙ ap (λ b. cond b (Goes (put regs rd (add pc 4)) to m) (Faults cause.Jump)) (eq-eqb (to % 4) 0 even)

on_four : {M : Type 0} (m : M) (pc : ℕ) (regs : List ℕ) → pc < 2 ^ 31 → Goes regs (add pc 4) m ≡ Goes regs (pc + 4) m
on_four m pc regs lt = ap (λ z. Goes regs z m) (add_small pc 4 (omega (arith, lt)))

-- ---- walks

module _ {M : Type 0} (access : Access M) (y : Layout) (laid : IsLaid y) (machine : Machine M) (budget far : ℕ) where
  -- from time i to time j the run has come to a place, with registers, and with the same memory
  record Walked (pc : ℕ) (regs : List ℕ) (w : World) (i j : ℕ) : Type 0 where
    pub stands : Stands access y machine budget far pc w j
    pub registers : (machine.run j).regs ≡ regs
    pub memory : (machine.run j).memory ≡ (machine.run i).memory

  are_registers : (pc : ℕ) (regs : List ℕ) (w : World) (i j : ℕ) → Walked pc regs w i j → AreRegisters regs
  are_registers pc regs w i j a = subst AreRegisters a.registers a.stands.are

  at_place : (pc to : ℕ) (regs : List ℕ) (w : World) (i j : ℕ) → pc ≡ to → Walked pc regs w i j → Walked to regs w i j
  at_place pc to regs w i j e a = subst (λ p. Walked p regs w i j) e a

  module _ (test : World → Bool) (text : Text) (reach : Reach) (runs : RunsWithin access y (spec.narrowed machine test text) reach) (w : World) (holds : test (outside w) ≡ true) (i : ℕ) where
    abbrev own : Access M
    own = limited access (words_site y reach)

    -- one instruction
    walk_on : (instr : Instr) (pc to : ℕ) (regs regs' : List ℕ) (j : ℕ) → InstrStands text.word pc instr
        → execute (limited access (words_site y reach)) instr regs pc (machine.run i).memory ≡ Goes regs' to (machine.run i).memory → AreRegisters regs'
        → Walked pc regs w i j → Walked to regs' w i (j + 1)
    walk_on instr pc to regs regs' j stands does are a = record {
      stands = stands_too access y machine test text budget far to w (j + 1) next.stands;
      registers = next.registers;
      memory = next.memory ∙ a.memory;
    }
      where
        steps : step own (text.word pc) regs pc (machine.run i).memory ≡ Goes regs' to (machine.run i).memory
        steps = stands_steps own (machine.run i).memory text.word regs pc instr stands ∙ does

        leads : step own (text.word pc) (machine.run j).regs pc (machine.run j).memory ≡ Goes regs' to (machine.run j).memory
        leads =
            subst (λ rs. step own (text.word pc) rs pc (machine.run j).memory ≡ Goes regs' to (machine.run j).memory) (sym a.registers)
            (subst (λ (m : M). step own (text.word pc) regs pc m ≡ Goes regs' to m) (sym a.memory) steps)

        next : Stepped access y laid (spec.narrowed machine test text) reach runs budget far to regs' w j
        next = stepped access y laid (spec.narrowed machine test text) reach runs budget far pc to regs' w j are leads (stands_narrowed access y machine test text budget far pc w j holds a.stands)

    nop_on : (pc : ℕ) (regs : List ℕ) (j : ℕ) → pc < 2 ^ 31 → InstrStands text.word pc nop → Walked pc regs w i j → Walked (pc + 4) regs w i (j + 1)
    nop_on pc regs j lt stands a =
        walk_on nop pc (pc + 4) regs regs j stands
        (addi_sets own (machine.run i).memory 0 0 (pos 0) regs 0 0 0 (reg_zero regs) (word_of_pos 0 (omega arith)) (zero_add 0 (omega arith)) pc
        ∙ ap (λ rs. Goes rs (add pc 4) (machine.run i).memory) (put_zero regs 0) ∙ on_four (machine.run i).memory pc regs lt) (are_registers pc regs w i j a) a

    jal_on : (rd pc to link : ℕ) (regs : List ℕ) (j : ℕ) → pc + 4 ≡ link → IsFree rd → pc < 2 ^ 31 → to < 2 ^ 31 → to % 4 ≡ 0 → InstrStands text.word pc (Jal rd (distance pc to)) → Walked pc regs w i j
        → Walked to (put regs rd link) w i (j + 1)
    jal_on rd pc to link regs j is free lt high even stands a =
        walk_on (Jal rd (distance pc to)) pc to regs (put regs rd link) j stands
        (jal_leads own (machine.run i).memory regs rd pc to lt high even ∙ ap (λ z. Goes (put regs rd z) to (machine.run i).memory) is)
        (put_registers regs rd link (are_registers pc regs w i j a) free (omega (arith, lt, is))) a

    -- a trap where a register is 0, and else on behind
    unless_stops : (r pc to : ℕ) (regs : List ℕ) (j : ℕ) → pc + 4 < 2 ^ 31 → to < 2 ^ 31 → to % 4 ≡ 0 → reg regs r ≡ 0 → InstrStands text.word pc (Bne r 0 (pos 8))
        → InstrStands text.word (pc + 4) (Jal 0 (distance (pc + 4) to)) → Walked pc regs w i j → Walked to regs w i (j + 1 + 1)
    unless_stops r pc to regs j lt high even zero test jump a =
        let same : not (eqb (reg regs r) (reg regs 0)) ≡ false = ap not (eq-eqb (reg regs r) (reg regs 0) (zero ∙ sym (reg_zero regs))) in
        let are = are_registers pc regs w i j a in
        let b = walk_on (Bne r 0 (pos 8)) pc (pc + 4) regs regs j test (branch_passed own (machine.run i).memory regs 1 r 0 (pos 8) pc same (omega (arith, lt))) are a in
        walk_on (Jal 0 (distance (pc + 4) to)) (pc + 4) to regs regs (j + 1) jump
        (jal_leads own (machine.run i).memory regs 0 (pc + 4) to lt high even ∙ ap (λ rs. Goes rs to (machine.run i).memory) (put_zero regs (pc + 4 + 4))) are b

    unless_passes : (r pc : ℕ) (regs : List ℕ) (j : ℕ) → pc + 8 < 2 ^ 31 → pc % 4 ≡ 0 → reg regs r ≢ 0 → InstrStands text.word pc (Bne r 0 (pos 8))
        → Walked pc regs w i j → Walked (pc + 8) regs w i (j + 1)
    unless_passes r pc regs j lt even some test a =
        let other : not (eqb (reg regs r) (reg regs 0)) ≡ true = ap not (ne_eqb (reg regs r) (reg regs 0) (λ e. some (e ∙ reg_zero regs))) in
        let eight : pos 8 ≡ distance pc (pc + 8) = omega (arith, ints) in
        let stands : InstrStands text.word pc (Bne r 0 (distance pc (pc + 8))) = subst (λ imm. InstrStands text.word pc (Bne r 0 imm)) eight test in
        walk_on (Bne r 0 (distance pc (pc + 8))) pc (pc + 8) regs regs j stands
        (branch_taken own (machine.run i).memory regs 1 r 0 pc (pc + 8) other (omega (arith, lt)) lt (omega (arith, even))) (are_registers pc regs w i j a) a

  -- ---- the stub

  module _ (pass : World → Bool) (stub : Text) (runs : Runs access y (spec.narrowed machine pass stub)) (check : ℕ) (stands : CheckStands stub.word check (y.trap 3) (y.trap 4))
      (here : IsPlace check) (last : IsPlace (check + 20)) (w : World) (holds : pass (outside w) ≡ true) (i : ℕ) where
    null_stops : (regs : List ℕ) (j : ℕ) → IsPlace (y.trap 3) → reg regs 5 ≡ 0 → Walked check regs w i j → Walked (y.trap 3) regs w i (j + 1 + 1)
    null_stops regs j there zero a =
        unless_stops pass stub nothing runs w holds i 5 check (y.trap 3) regs j (omega (arith, here.1)) (omega (arith, there.1)) there.2 zero stands.null_test stands.null_trap a

    null_passes : (regs : List ℕ) (j : ℕ) → reg regs 5 ≢ 0 → Walked check regs w i j → Walked (check + 8) regs w i (j + 1)
    null_passes regs j some a = unless_passes pass stub nothing runs w holds i 5 check regs j (omega (arith, here.1)) here.2 some stands.null_test a

    depth_stops : (regs : List ℕ) (j : ℕ) → IsPlace (y.trap 4) → reg regs 27 ≡ 0 → Walked (check + 8) regs w i j → Walked (y.trap 4) regs w i (j + 1 + 1)
    depth_stops regs j there zero a =
        let at : check + 8 + 4 ≡ check + 12 = omega arith in
        let trap = subst (λ p. InstrStands stub.word p (Jal 0 (distance p (y.trap 4)))) (sym at) stands.depth_trap in
        unless_stops pass stub nothing runs w holds i 27 (check + 8) (y.trap 4) regs j (omega (arith, here.1)) (omega (arith, there.1)) there.2 zero stands.depth_test trap a

    -- a call that is left is counted
    counted : (n back : ℕ) (regs : List ℕ) (j : ℕ) → reg regs 27 ≡ n + 1 → reg regs 6 ≡ back → back < 2 ^ 31 → back % 4 ≡ 0 → Walked (check + 8) regs w i j
        → Walked back (put regs 27 n) w i (j + 1 + 1 + 1)
    counted n back regs j some way high even a =
        let are = are_registers (check + 8) regs w i j a in
        let small : n + 1 < 2 ^ 32 = subst (λ z. z < 2 ^ 32) some (are.words 27) in
        let b = unless_passes pass stub nothing runs w holds i 27 (check + 8) regs j (omega (arith, here.1)) (omega (arith, here.2)) (λ z. omega (arith, z, some)) stands.depth_test a in
        let on : check + 16 + 4 ≡ check + 20 = omega arith in
        let less = put_registers regs 27 n are (free_above 27 (omega arith) (omega arith)) (omega (arith, small)) in
        let c = walk_on pass stub nothing runs w holds i (Addi 27 27 minus_one) (check + 16) (check + 20) regs (put regs 27 n) (j + 1) stands.count
        (addi_sets (own pass stub nothing runs w holds i) (machine.run i).memory 27 27 minus_one regs (n + 1) (2 ^ 32 - 1) n some minus_one_is (one_less n small) (check + 16)
        ∙ on_four (machine.run i).memory (check + 16) (put regs 27 n) (omega (arith, here.1)) ∙ ap (λ z. Goes (put regs 27 n) z (machine.run i).memory) on) less
        (at_place (check + 8 + 8) (check + 16) regs w i (j + 1) (omega arith) b) in
        let to : reg (put regs 27 n) 6 ≡ back = put_other regs 27 6 n (omega arith) (λ e. omega (arith, e)) ∙ way in
        walk_on pass stub nothing runs w holds i (Jalr 0 6 (pos 0)) (check + 20) back (put regs 27 n) (put regs 27 n) (j + 1 + 1) stands.back
        (jalr_goes (own pass stub nothing runs w holds i) (machine.run i).memory 0 6 (check + 20) back (put regs 27 n) to high even
        ∙ ap (λ rs. Goes rs back (machine.run i).memory) (put_zero (put regs 27 n) (add (check + 20) 4))) less c

  -- at a trap
  stops : (c : ℕ) (regs : List ℕ) (w : World) (i j : ℕ) → j ≤ budget → Walked (y.trap c) regs w i j → Stops access y machine budget far c w j
  stops c regs w i j paid a = record { at = a.stands.at; calm = a.stands.calm; sound = a.stands.sound; paid = paid }

  -- at a target, with a return address
  arrives : (target back n : ℕ) (regs : List ℕ) (w : World) (i j : ℕ) → i < j → j ≤ i + 8 → reg (machine.run i).regs 27 ≡ n + 1 → n < 2 ^ 32 → AreRegisters regs
      → ((q : ℕ) → q ≢ 5 → q ≢ 6 → reg regs q ≡ reg (machine.run i).regs q)
      → Walked target (put (put regs 27 n) 1 back) w i j → Arrives access y machine budget far target back w i j
  arrives target back n regs w i j late soon left small are same a = record {
    late = late;
    soon = soon;
    stands = a.stands;
    link = ap (λ rs. reg rs 1) a.registers ∙ put_same (put regs 27 n) 1 back (omega arith) some;
    registers = λ q link pointer way counts.
        ap (λ rs. reg rs q) a.registers ∙ put_other (put regs 27 n) 1 q back (omega arith) link ∙ put_other regs 27 q n (omega arith) counts ∙ same q pointer way;
    counted = ap (λ z. z + 1) (ap (λ rs. reg rs 27) a.registers ∙ put_other (put regs 27 n) 1 27 back (omega arith) (λ e. omega (arith, e)) ∙ put_same regs 27 n (omega arith) (omega (arith, are.count))) ∙ sym left;
    memory = a.memory;
  }
    where
      some : 1 < length (put regs 27 n)
      some = let puts = put_registers regs 27 n are (free_above 27 (omega arith) (omega arith)) small in omega (arith, puts.count)

  -- ---- slots

  module _ (pass : World → Bool) (stub : Text) (stub_runs : Runs access y (spec.narrowed machine pass stub)) (test : World → Bool) (shown : Text)
      (runs : Runs access y (spec.narrowed machine test shown)) (check at : ℕ) (stands : CheckStands stub.word check (y.trap 3) (y.trap 4)) (here : IsPlace check) (last : IsPlace (check + 20))
      (null : IsPlace (y.trap 3)) (deep : IsPlace (y.trap 4)) (begin : IsPlace at) (w : World) (i : ℕ) (passes : pass (outside w) ≡ true) (holds : test (outside w) ≡ true)
      (comes : Stands access y machine budget far at w i) where
    start : Walked at (machine.run i).regs w i i
    start = record { stands = comes; registers = refl; memory = refl }

    -- one call less than are left
    abbrev less : ℕ
    less = reg (machine.run i).regs 27 - 1

    left_is : reg (machine.run i).regs 27 ≢ 0 → reg (machine.run i).regs 27 ≡ less + 1
    left_is some = grind (arith, some)

    small : less < 2 ^ 32
    small = let words = comes.are.words 27 in omega (arith, words)

    abbrev Same : List ℕ → Type 0
    Same regs = (q : ℕ) → q ≢ 5 → q ≢ 6 → reg regs q ≡ reg (machine.run i).regs q

    left_same : (regs : List ℕ) → Same regs → reg regs 27 ≡ reg (machine.run i).regs 27
    left_same regs same = same 27 (λ e. omega (arith, e)) (λ e. omega (arith, e))

    -- behind the test of the pointer, no call is left
    no_call : (regs : List ℕ) (j : ℕ) → Same regs → j + 2 ≤ budget → Walked (check + 8) regs w i j → reg (machine.run i).regs 27 ≡ 0 → (t : ℕ) × Stops access y machine budget far 4 w t
    no_call regs j same paid a zero =
        (j + 1 + 1, stops 4 regs w i (j + 1 + 1) (omega (arith, paid)) (depth_stops pass stub stub_runs check stands here last w passes i regs j deep (left_same regs same ∙ zero) a))

    -- or one is counted
    one_call : (back : ℕ) (regs : List ℕ) (j : ℕ) → Same regs → reg regs 6 ≡ back → back < 2 ^ 31 → back % 4 ≡ 0 → Walked (check + 8) regs w i j → reg (machine.run i).regs 27 ≢ 0
        → Walked back (put regs 27 less) w i (j + 1 + 1 + 1)
    one_call back regs j same way high even a some =
        counted pass stub stub_runs check stands here last w passes i less back regs j (left_same regs same ∙ left_is some) way high even a

    -- ---- bound to a target

    module _ (target : ℕ) (bound : CallsBound shown.word at check target) where
      abbrev bound_regs : List ℕ
      bound_regs = put (machine.run i).regs 6 (at + 4)

      bound_same : Same bound_regs
      bound_same q p t = put_other (machine.run i).regs 6 q (at + 4) (omega arith) t

      bound_tested : Walked (check + 8) bound_regs w i (i + 1)
      bound_tested =
          jal_on test shown nothing runs w holds i 6 at (check + 8) (at + 4) (machine.run i).regs i refl (free_above 6 (omega arith) (omega arith)) (omega (arith, begin.1)) (omega (arith, here.1)) (omega (arith, here.2)) bound.test start

      bound_way : reg bound_regs 6 ≡ at + 4
      bound_way = put_same (machine.run i).regs 6 (at + 4) (omega arith) (omega (arith, comes.are.count))

      bound_arrives : reg (machine.run i).regs 27 ≢ 0 → IsPlace target → (j : ℕ) × Arrives access y machine budget far target (at + 16) w i j
      bound_arrives some there =
          let regs = put bound_regs 27 less in
          let a = one_call (at + 4) bound_regs (i + 1) bound_same bound_way (omega (arith, begin.1)) (omega (arith, begin.2)) bound_tested some in
          let t = i + 1 + 1 + 1 + 1 in
          let b = at_place (at + 4 + 4) (at + 8) regs w i (t + 1) (omega arith) (nop_on test shown nothing runs w holds i (at + 4) regs t (omega (arith, begin.1)) bound.first_pad a) in
          let c = at_place (at + 8 + 4) (at + 12) regs w i (t + 1 + 1) (omega arith) (nop_on test shown nothing runs w holds i (at + 8) regs (t + 1) (omega (arith, begin.1)) bound.second_pad b) in
          let d = jal_on test shown nothing runs w holds i 1 (at + 12) target (at + 16) regs (t + 1 + 1) (omega arith) (free_low 1 (omega arith) (omega arith)) (omega (arith, begin.1)) (omega (arith, there.1)) there.2 bound.call c in
          (t + 1 + 1 + 1, arrives target (at + 16) less bound_regs w i (t + 1 + 1 + 1) (omega arith) (omega arith) (left_is some) small (are_registers (check + 8) bound_regs w i (i + 1) bound_tested) bound_same d)

      bound_calls : Calls access y machine budget far target (at + 16) w i
      bound_calls = (λ zero paid. no_call bound_regs (i + 1) bound_same (omega (arith, paid)) bound_tested zero, bound_arrives)

    -- ---- free

    module _ (load : Text) (pointer v : ℕ) (load_runs : RunsWithin access y (spec.narrowed machine test load) (loading pointer)) (point : PointStands shown.word at (at + 16) check pointer)
        (loads : InstrStands load.word (at + 4) (Lw 5 5 (lower_part pointer))) (high : pointer < 2 ^ 32) (is : access.load (machine.run i).memory pointer 4 ≡ Some v) (word : v < 2 ^ 32) where
      abbrev upper_of : ℕ
      upper_of = upper (pos (upper_bits pointer))

      abbrev upper_regs : List ℕ
      upper_regs = put (machine.run i).regs 5 (upper (pos (upper_bits pointer)))

      abbrev loaded_regs : List ℕ
      loaded_regs = put upper_regs 5 v

      abbrev free_regs : List ℕ
      free_regs = put loaded_regs 6 (at + 12)

      upper_are : AreRegisters upper_regs
      upper_are = put_registers (machine.run i).regs 5 upper_of comes.are (free_above 5 (omega arith) (omega arith)) (upper_below pointer)

      loaded_are : AreRegisters loaded_regs
      loaded_are = put_registers upper_regs 5 v upper_are (free_above 5 (omega arith) (omega arith)) word

      free_same : Same free_regs
      free_same q p t = put_other loaded_regs 6 q (at + 12) (omega arith) t ∙ put_other upper_regs 5 q v (omega arith) p ∙ put_other (machine.run i).regs 5 q upper_of (omega arith) p

      uppered : Walked (at + 4) upper_regs w i (i + 1)
      uppered =
          let m = (machine.run i).memory in
          walk_on test shown nothing runs w holds i (Lui 5 (pos (upper_part pointer % 1048576))) at (at + 4) (machine.run i).regs upper_regs i point.upper
          (lui_sets (own test shown nothing runs w holds i) m 5 (pos (upper_part pointer % 1048576)) (machine.run i).regs upper_of (ap (λ n. upper (pos n)) (upper_same pointer)) at
          ∙ on_four m at upper_regs (omega (arith, begin.1))) upper_are start

      loaded : Walked (at + 8) loaded_regs w i (i + 1 + 1)
      loaded =
          let m = (machine.run i).memory in
          let address : add (reg upper_regs 5) (word_of (lower_part pointer)) ≡ pointer =
          ap (λ z. add z (word_of (lower_part pointer))) (put_same (machine.run i).regs 5 upper_of (omega arith) (omega (arith, comes.are.count)))
          ∙ ap (λ imm. add upper_of (word_of imm)) (lower_same pointer) ∙ parts_add pointer high in
          let may : (own test load (loading pointer) load_runs w holds i).load m pointer 4 ≡ Some v = ap (λ c. cond c (access.load m pointer 4) None) (eq-eqb pointer pointer refl) ∙ is in
          let on : at + 4 + 4 ≡ at + 8 = omega arith in
          walk_on test load (loading pointer) load_runs w holds i (Lw 5 5 (lower_part pointer)) (at + 4) (at + 8) upper_regs loaded_regs (i + 1) loads
          (lw_sets (own test load (loading pointer) load_runs w holds i) m 5 5 (lower_part pointer) upper_regs pointer v address may (at + 4)
          ∙ on_four m (at + 4) loaded_regs (omega (arith, begin.1)) ∙ ap (λ z. Goes loaded_regs z m) on) loaded_are uppered

      free_tested : Walked check free_regs w i (i + 1 + 1 + 1)
      free_tested =
          jal_on test shown nothing runs w holds i 6 (at + 8) check (at + 12) loaded_regs (i + 1 + 1) (omega arith) (free_above 6 (omega arith) (omega arith)) (omega (arith, begin.1)) (omega (arith, here.1)) here.2 point.test loaded

      free_pointer : reg free_regs 5 ≡ v
      free_pointer = put_other loaded_regs 6 5 (at + 12) (omega arith) (λ e. omega (arith, e)) ∙ put_same upper_regs 5 v (omega arith) (omega (arith, upper_are.count))

      free_null : v ≡ 0 → i + 8 ≤ budget → (j : ℕ) × Stops access y machine budget far 3 w j
      free_null zero paid =
          let t = i + 1 + 1 + 1 in
          (t + 1 + 1, stops 3 free_regs w i (t + 1 + 1) (omega (arith, paid)) (null_stops pass stub stub_runs check stands here last w passes i free_regs t null (free_pointer ∙ zero) free_tested))

      free_passed : v ≢ 0 → Walked (check + 8) free_regs w i (i + 1 + 1 + 1 + 1)
      free_passed some = null_passes pass stub stub_runs check stands here last w passes i free_regs (i + 1 + 1 + 1) (λ e. some (sym free_pointer ∙ e)) free_tested

      free_way : reg free_regs 6 ≡ at + 12
      free_way = put_same loaded_regs 6 (at + 12) (omega arith) (omega (arith, loaded_are.count))

      free_arrives : v ≢ 0 → reg (machine.run i).regs 27 ≢ 0 → IsPlace v → (j : ℕ) × Arrives access y machine budget far v (at + 16) w i j
      free_arrives other some there =
          let m = (machine.run i).memory in
          let regs = put free_regs 27 less in
          let after = put regs 1 (at + 16) in
          let t = i + 1 + 1 + 1 + 1 in
          let are = are_registers check free_regs w i (i + 1 + 1 + 1) free_tested in
          let a = one_call (at + 12) free_regs t free_same free_way (omega (arith, begin.1)) (omega (arith, begin.2)) (free_passed other) some in
          let to : reg regs 5 ≡ v = put_other free_regs 27 5 less (omega arith) (λ e. omega (arith, e)) ∙ free_pointer in
          let back : add (at + 12) 4 ≡ at + 16 = add_small (at + 12) 4 (omega (arith, begin.1)) ∙ omega arith in
          let regs_are = put_registers free_regs 27 less are (free_above 27 (omega arith) (omega arith)) small in
          let b = walk_on test shown nothing runs w holds i (Jalr 1 5 (pos 0)) (at + 12) v regs after (t + 1 + 1 + 1) point.call
          (jalr_goes (own test shown nothing runs w holds i) m 1 5 (at + 12) v regs to (omega (arith, there.1)) there.2 ∙ ap (λ z. Goes (put regs 1 z) v m) back)
          (put_registers regs 1 (at + 16) regs_are (free_low 1 (omega arith) (omega arith)) (omega (arith, begin.1))) a in
          (t + 1 + 1 + 1 + 1, arrives v (at + 16) less free_regs w i (t + 1 + 1 + 1 + 1) (omega arith) (omega arith) (left_is some) small are free_same b)

      free_calls : v ≢ 0 → Calls access y machine budget far v (at + 16) w i
      free_calls other = (λ zero paid. no_call free_regs (i + 1 + 1 + 1 + 1) free_same (omega (arith, paid)) (free_passed other) zero, free_arrives other)

pub points_under : (M : Type 0) → PointsUnder M
points_under M access y laid machine budget far pass stub stub_runs test shown runs check at stands here last null deep begin w i passes holds comes = (
  λ load pointer v load_runs point loads high is word. (
    free_null access y laid machine budget far pass stub stub_runs test shown runs check at stands here last null deep begin w i passes holds comes load pointer v load_runs point loads high is word,
    free_calls access y laid machine budget far pass stub stub_runs test shown runs check at stands here last null deep begin w i passes holds comes load pointer v load_runs point loads high is word,
  ),
  λ target bound. bound_calls access y laid machine budget far pass stub stub_runs test shown runs check at stands here last null deep begin w i passes holds comes target bound,
)

-- ---- what follows

saved_far : (q r : ℕ) → IsSaved q → r < 9 → r ≢ 2 → q ≢ r
saved_far q r (inl h) lt ne e = ne (sym e ∙ h)
saved_far q r (inr (inl h)) lt ne e = omega (arith, lt, e, h)
saved_far q r (inr (inr h)) lt ne e = omega (arith, lt, e, h.0)

module _ {M : Type 0} (access : Access M) (y : Layout) (machine : Machine M) (budget far target back : ℕ) (w : World) (i j : ℕ) (a : Arrives access y machine budget far target back w i j) where
  -- a register that is set back, but s11
  saved_same : (q : ℕ) → IsSaved q → q ≢ 27 → reg (machine.run j).regs q ≡ reg (machine.run i).regs q
  saved_same q h ne = a.registers q (saved_far q 1 h (omega arith) (λ e. omega (arith, e))) (saved_far q 5 h (omega arith) (λ e. omega (arith, e))) (saved_far q 6 h (omega arith) (λ e. omega (arith, e))) ne

  sp_same : reg (machine.run j).regs 2 ≡ reg (machine.run i).regs 2
  sp_same = saved_same 2 (inl refl) (λ e. omega (arith, e))

  enters : (depth frames : ℕ) (args : List ℕ) → length args < 9 → Comes access y machine budget far depth frames args i → Enters access y machine budget far depth frames args j
  enters depth frames args few e =
      let counted = a.counted in
      let sp = sp_same in
      record {
        arguments = λ n lt. a.registers (10 + n) (λ z. omega (arith, z)) (λ z. omega (arith, z)) (λ z. omega (arith, z)) (λ z. omega (arith, z, lt, few)) ∙ e.arguments n lt;
        live = saved_same 26 (inr (inr (omega arith, omega arith))) (λ z. omega (arith, z)) ∙ e.live;
        counts = e.counts;
        left = omega (arith, counted, e.left);
        even = rw sp e.even;
        room = omega (arith, counted, sp, e.room);
        within = omega (arith, sp, e.within);
      }

  set_back : (spare k : ℕ) (u : World) (t : ℕ) → Returns access y machine budget far spare k j back u t → ReturnsCounted access y machine budget far spare k i back u t
  set_back spare k u t r = record {
    stands = r.stands;
    kept = record {
      registers = λ q h ne. r.kept.registers q h ∙ saved_same q h ne;
      counted = ap (λ z. z + 1) (r.kept.registers 27 (inr (inr (omega arith, omega arith)))) ∙ a.counted;
      stack = λ b h. r.kept.stack b (subst (λ sp. IsAbove y sp b) (sym sp_same) h) ∙ ap (λ (m : M). access.load m b 4) a.memory;
    };
    paid = r.paid;
    asked = r.asked;
  }

  follows : (spare k : ℕ) (x : End) → FollowsCall access y machine budget far spare k j back x → FollowsCounted access y machine budget far spare k i back x
  follows spare k (Returned None u) c = (c.0, set_back spare k u c.0 c.1)
  follows spare k (Returned (Some v) u) c = (c.0, set_back spare k u c.0 c.1, c.2)
  follows spare k (Trapped code u) c = c
  follows spare k (More u) c = c
  follows spare k Stuck c = tt

pub arrivals_follow : (M : Type 0) → ArrivalsFollow M
arrivals_follow M access y machine budget far target back w i j a =
    (enters access y machine budget far target back w i j a, follows access y machine budget far target back w i j a)
