-- The stub of calls through pointer switches stands where its lines are placed.
use Rattle.std.proofs.Common.{◌≡◌, ℕ, ◌+◌, List, [], ◌∷◌, ◌++◌, pos, negsuc, subst, arith}
use Rattle.mv_isa.specs.declared.instr.Instr.{Instr}
use Rattle.mv_isa.specs.declared.instr.Instr.TheVariants.{Jal, Jalr, Addi}
use Rattle.mv_isa.specs.declared.labelled.Line.{Line}
use Rattle.mv_isa.specs.declared.labelled.Line.TheVariants.{Word}
use Rattle.mv_isa.specs.Code.{IsPlace, distance}
use Rattle.mv_isa.specs.Labels.{trap_label}
use Rattle.mv_isa.specs.Registers.{t0, t1, s11}
use Rattle.mv_isa.specs.Standing.{InstrStands}
use Rattle.mv_bindings.specs.Traps.{null_call, call_too_deep}
use Rattle.mv_linker.specs.Linked.{unless_lines, check_lines}
use Rattle.mv_select_code.specs.Control.Placed.{Text, Placed}
use Rattle.mv_select_code.proofs.OfControl.Walk.{placed_split}
use Rattle.mv_refine_machine.specs.Stubs.Stubs.{HasCheck}
use Rattle.mv_refine_machine.specs.Stubs.Laws.{ChecksStand}

module _ (text : Text) (place entry : ℕ → ℕ) where
  moved : (i : Instr) (a b : ℕ) → a ≡ b → InstrStands text.word a i → InstrStands text.word b i
  moved i a b e h = subst (λ x. InstrStands text.word x i) e h

  moved_jump : (to a b : ℕ) → a ≡ b → InstrStands text.word a (Jal 0 (distance a to)) → InstrStands text.word b (Jal 0 (distance b to))
  moved_jump to a b e h = subst (λ x. InstrStands text.word x (Jal 0 (distance x to))) e h

  module _ (check end : ℕ) (p : Placed text place entry check_lines check end) where
    abbrev counting : List Line
    counting = Word (Addi s11 s11 (negsuc 0)) ∷ Word (Jalr 0 t1 (pos 0)) ∷ []

    first : (mid : ℕ) × Placed text place entry (unless_lines t0 null_call) p.0 mid × Placed text place entry (unless_lines s11 call_too_deep ++ counting) mid end
    first = placed_split text place entry (unless_lines t0 null_call) (unless_lines s11 call_too_deep ++ counting) p.0 end p.2

    second : (mid : ℕ) × Placed text place entry (unless_lines s11 call_too_deep) first.0 mid × Placed text place entry counting mid end
    second = placed_split text place entry (unless_lines s11 call_too_deep) counting first.0 end first.2

    null_lines : Placed text place entry (unless_lines t0 null_call) p.0 first.0
    null_lines = first.1

    deep_lines : Placed text place entry (unless_lines s11 call_too_deep) first.0 second.0
    deep_lines = second.1

    count_lines : Placed text place entry counting second.0 end
    count_lines = second.2

    -- where each of the six words is
    begins : p.0 ≡ check
    begins = p.1.stands

    null_trap : null_lines.0 ≡ check + 4
    null_trap = let e = null_lines.1.stands.1 in omega (arith, e, begins)

    deep_test : first.0 ≡ check + 8
    deep_test = let e = null_lines.2.1.stands.end_is in let f = null_lines.2.2 in omega (arith, e, f, null_trap)

    deep_trap : deep_lines.0 ≡ check + 12
    deep_trap = let e = deep_lines.1.stands.1 in omega (arith, e, deep_test)

    count : second.0 ≡ check + 16
    count = let e = deep_lines.2.1.stands.end_is in let f = deep_lines.2.2 in omega (arith, e, f, deep_trap)

    back : count_lines.0 ≡ check + 20
    back = let e = count_lines.1.stands.1 in omega (arith, e, count)

    has_check : HasCheck text place check
    has_check = record {
      stands = record {
        null_test = moved _ p.0 check begins null_lines.1.stands.0;
        null_trap = moved_jump (place (trap_label null_call)) null_lines.0 (check + 4) null_trap null_lines.2.1.stands.jump;
        depth_test = moved _ first.0 (check + 8) deep_test deep_lines.1.stands.0;
        depth_trap = moved_jump (place (trap_label call_too_deep)) deep_lines.0 (check + 12) deep_trap deep_lines.2.1.stands.jump;
        count = moved _ second.0 (check + 16) count count_lines.1.stands.0;
        back = moved _ count_lines.0 (check + 20) back count_lines.2.1.stands.0;
      };
      here = p.1.here;
      last = subst IsPlace back count_lines.2.1.here;
      null = null_lines.2.1.there;
      deep = deep_lines.2.1.there;
    }

pub checks_stand : ChecksStand
checks_stand text place entry check end p = has_check text place entry check end p
