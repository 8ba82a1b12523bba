-- What the two instructions of each shape do.
use Rattle.std.proofs.Common.{◌≡◌, ◌≢◌, inl, ⊎_elim, ℕ, ◌+◌, ◌*◌, ◌<◌, ◌≤◌, ◌^◌, Bool, true, cond, eqb, List, length, pos, Some, None, Contains, slice_index, refl, sym, ap, ◌∙◌, subst, arith}
use Rattle.std.proofs.lemmas.Bool.{cases_eq, eq-eqb, ne_eqb}
use Rattle.std.proofs.lemmas.Option.{none-some, same_Some}
use Rattle.mv_num.specs.Words.{word_of, add}
use Rattle.mv_isa.specs.declared.instr.Instr.{Instr}
use Rattle.mv_isa.specs.declared.instr.Instr.TheVariants.{Lui, Lw, Sw, Addi}
use Rattle.mv_isa.specs.Code.{IsPlace, nop}
use Rattle.mv_isa.specs.Execution.{Access, reg, put, upper}
use Rattle.mv_isa.specs.Standing.{InstrStands}
use Rattle.mv_isa.specs.Registers.{t0 as address_register, a0 as result_register}
use Rattle.mv_ir.specs.declared.body.Body.{Body}
use Rattle.mv_ir.specs.Trees.{found, scalar}
use Rattle.mv_ir.specs.World.{World}
use Rattle.mv_ir.specs.Outcome.{End, Returned}
use Rattle.mv_ir.specs.Measures.{scalars_read}
use Rattle.mv_select_code.specs.Trees.Straight.{Sets}
use Rattle.mv_select_code.specs.Trees.TreeCode.{upper_bits, lower_bits}
use Rattle.mv_select_code.specs.Trees.View.{AreRegisters}
use Rattle.mv_select_code.proofs.OfTrees.Instructions.{lui_sets, lw_sets, addi_sets}
use Rattle.mv_select_code.proofs.OfTrees.Registers.{free_above, reg_zero, put_same, put_other, put_registers}
use Rattle.mv_select_code.proofs.OfTrees.Words.{zero_add, parts_add, lower_add, upper_below}
use Rattle.mv_select_code.specs.Statements.Frames.{Reach}
use Rattle.mv_select_code.proofs.OfStatements.Walks.{sw_moves}
use Rattle.mv_select_code.specs.Control.Runs.{Machine}
use Rattle.mv_select.specs.Calls.Convention.{Layout, Stands, Enters}
use Rattle.mv_select.specs.Functions.Functions.{IsLaid, IsMemory, IsAmple, RunsWithin}
use Rattle.mv_select.specs.Inline.InlineOf.{number_pair, parameter_pair, load_pair, store_pair}
use Rattle.mv_select.specs.Functions.Loads.{loads_from}
use Rattle.mv_select.specs.Inline.Laws.{LoadsRead, IsDone}
use Rattle.mv_select.proofs.OfInline.Steps.{globals_site, own, nop_sets, begun, two_steps, Came, comes}
use Rattle.mv_select.proofs.OfInline.Stored.{set_in, Put, stored_global}
use Rattle.mv_num.proofs.Numbers.{word_of_pos}

no_load : (y : Layout) (bound : List (ℕ × ℕ)) (body : Body) (i : Instr) (regs : List ℕ) → loads_from i regs ≡ None → LoadsRead y bound body i regs
no_load y bound body i regs none a e = absurd (none-some a (sym none ∙ e))

module _ {M : Type 0} (access : Access M) (y : Layout) (laid : IsLaid y) (machine : Machine M) (memory : IsMemory access y machine)
    (reach : Reach) (ample : IsAmple y reach) (runs : RunsWithin access y machine reach) (budget far : ℕ) (bound : List (ℕ × ℕ)) (body : Body)
    (at : ℕ) (here : IsPlace at) (depth live : ℕ) (args : List ℕ) (k i spare : ℕ) (w : World)
    (stands : Stands access y machine budget far at w i) (enters : Enters access y machine budget far depth live args i)
    (paid : i + (spare + 2) ≤ budget) (asked : far ≤ i + k) where
  abbrev R : List ℕ
  R = (machine.run i).regs

  abbrev m : M
  m = (machine.run i).memory

  abbrev C : World → List ℕ → List ℕ → Type 0
  C w' mid after = Came access y machine reach runs budget far w' mid after spare k i (at + 8)

  -- what is to be shown of a pair of instructions and a body's end
  abbrev pub Shape : Instr × Instr → End → Type 0
  Shape p e =
      InstrStands machine.text.word at p.0 → InstrStands machine.text.word (at + 4) p.1 → IsDone access y machine budget far bound body p.0 p.1 spare k i (at + 8) e

  abbrev Others : List ℕ → Type 0
  Others after = (q : ℕ) → q ≢ result_register → q ≢ address_register → reg after q ≡ reg (machine.run i).regs q

  -- instructions that leave memory alone
  same_memory : (one two : Instr) (mid after : List ℕ) → InstrStands machine.text.word at one → InstrStands machine.text.word (at + 4) two
      → Sets (own access y machine reach runs budget far) m one R mid → Sets (own access y machine reach runs budget far) m two mid after → AreRegisters after → Others after → C w mid after
  same_memory one two mid after p q does then are others =
      comes access y machine reach runs budget far w w at spare k i mid after m refl are others stands.globals (λ b s. refl) paid asked
      (two_steps access y machine reach runs budget far one two at here p q w R mid after m m i does then (inl refl) (begun access y machine reach runs budget far w at i stands))

  no_value : (one two : Instr) (w' : World) (mid after : List ℕ) → C w' mid after → Others after → LoadsRead y bound body one R → LoadsRead y bound body two mid
      → IsDone access y machine budget far bound body one two spare k i (at + 8) (Returned None w')
  no_value one two w' mid after c others a b = record {
    comes = c.returns;
    others = λ q n n'. ap (λ r. reg r q) c.last ∙ others q n n';
    first_loads = a;
    second_loads = subst (λ r. LoadsRead y bound body two r) (sym c.middle) b;
  }

  with_value : (one two : Instr) (v : ℕ) (w' : World) (mid after : List ℕ) → C w' mid after → Others after → reg after result_register ≡ v → LoadsRead y bound body one R → LoadsRead y bound body two mid
      → IsDone access y machine budget far bound body one two spare k i (at + 8) (Returned (Some v) w')
  with_value one two v w' mid after c others e a b = record {
    comes = (c.returns, ap (λ r. reg r result_register) c.last ∙ e);
    others = λ q n n'. ap (λ r. reg r q) c.last ∙ others q n n';
    first_loads = a;
    second_loads = subst (λ r. LoadsRead y bound body two r) (sym c.middle) b;
  }

  result_same : (v : ℕ) (regs : List ℕ) → AreRegisters regs → reg (put regs result_register v) result_register ≡ v
  result_same v regs are = put_same regs result_register v (omega arith) (omega (arith, are.count))

  result_other : (v : ℕ) (regs : List ℕ) → Others regs → Others (put regs result_register v)
  result_other v regs h q n n' = put_other regs result_register q v (omega arith) n ∙ h q n n'

  result_are : (v : ℕ) (regs : List ℕ) → AreRegisters regs → v < 2 ^ 32 → AreRegisters (put regs result_register v)
  result_are v regs are small = put_registers regs result_register v are (free_above result_register (omega arith) (omega arith)) small

  -- a value in one instruction, and in two, of which the first leaves another in a0
  by_one : (one : Instr) (v : ℕ) → v < 2 ^ 32 → Sets (own access y machine reach runs budget far) m one R (put R result_register v) → loads_from one R ≡ None → Shape (one, nop) (Returned (Some v) w)
  by_one one v small does none p q =
      let after = put R result_register v in
      let are = result_are v R stands.are small in
      let others : Others (put (machine.run i).regs result_register v) = result_other v R (λ r n n'. refl) in
      with_value one nop v w after after (same_memory one nop after after p q does (nop_sets (own access y machine reach runs budget far) m after) are others) others (result_same v R stands.are)
      (no_load y bound body one R none) (no_load y bound body nop after refl)

  by_two : (one two : Instr) (u v : ℕ) → u < 2 ^ 32 → v < 2 ^ 32 → Sets (own access y machine reach runs budget far) m one R (put R result_register u)
      → Sets (own access y machine reach runs budget far) m two (put R result_register u) (put (put R result_register u) result_register v)
      → loads_from one R ≡ None → LoadsRead y bound body two (put R result_register u) → Shape (one, two) (Returned (Some v) w)
  by_two one two u v low small does then none loads p q =
      let mid = put R result_register u in
      let after = put mid result_register v in
      let are = result_are u R stands.are low in
      let others : Others (put (put (machine.run i).regs result_register u) result_register v) = result_other v (put (machine.run i).regs result_register u) (result_other u R (λ r n n'. refl)) in
      with_value one two v w mid after (same_memory one two mid after p q does then (result_are v mid are small) others) others (result_same v mid are)
      (no_load y bound body one R none) loads

  -- ---- the empty body

  pub empty_done : Shape (nop, nop) (Returned None w)
  empty_done p q =
      no_value nop nop w R R (same_memory nop nop R R p q (nop_sets (own access y machine reach runs budget far) m R) (nop_sets (own access y machine reach runs budget far) m R) stands.are (λ r n n'. refl)) (λ r n n'. refl)
      (no_load y bound body nop R refl) (no_load y bound body nop R refl)

  -- ---- a constant

  abbrev by_length : ℕ → Bool → Instr × Instr
  by_length n is_short = cond is_short (Addi result_register 0 (lower_bits n), nop) (Lui result_register (pos (upper_bits n)), Addi result_register result_register (lower_bits n))

  pub number_done : (n : ℕ) → n < 2 ^ 32 → Shape (number_pair n) (Returned (Some n) w)
  unfolding number_pair
  number_done n small = ⊎_elim short long (cases_eq (upper_bits n) 0)
    where
      short : upper_bits n ≡ 0 → Shape (by_length n (eqb (upper_bits n) 0)) (Returned (Some n) w)
      short e =
          subst (λ is_short. Shape (by_length n is_short) (Returned (Some n) w)) (sym (eq-eqb (upper_bits n) 0 e))
          (by_one (Addi result_register 0 (lower_bits n)) n small (addi_sets (own access y machine reach runs budget far) m result_register 0 (lower_bits n) R 0 (word_of (lower_bits n)) n (reg_zero R) refl (lower_add n small e)) refl)

      long : (upper_bits n ≡ 0 → ⊥) → Shape (by_length n (eqb (upper_bits n) 0)) (Returned (Some n) w)
      long ne =
          let up = upper (pos (upper_bits n)) in
          subst (λ is_short. Shape (by_length n is_short) (Returned (Some n) w)) (sym (ne_eqb (upper_bits n) 0 ne))
          (by_two (Lui result_register (pos (upper_bits n))) (Addi result_register result_register (lower_bits n)) up n (upper_below n) small
          (lui_sets (own access y machine reach runs budget far) m result_register (pos (upper_bits n)) R up refl)
          (addi_sets (own access y machine reach runs budget far) m result_register result_register (lower_bits n) (put R result_register up) up (word_of (lower_bits n)) n (result_same up R stands.are) refl (parts_add n small))
          refl (no_load y bound body (Addi result_register result_register (lower_bits n)) (put R result_register up) refl))

  -- ---- a parameter

  parameter_is : (t : ℕ) → t < length args → reg R (result_register + t) ≡ slice_index args t
  parameter_is t lt = enters.arguments t lt

  parameter_small : (t : ℕ) → t < length args → slice_index args t < 2 ^ 32
  parameter_small t lt = subst (λ v. v < 2 ^ 32) (parameter_is t lt) (stands.are.words (result_register + t))

  pub parameter_done : (t : ℕ) → t < length args → Shape (parameter_pair t) (Returned (Some (slice_index args t)) w)
  parameter_done t lt =
      let v = slice_index args t in
      by_one (Addi result_register (result_register + t) (pos 0)) v (parameter_small t lt)
      (addi_sets (own access y machine reach runs budget far) m result_register (result_register + t) (pos 0) R v 0 v (parameter_is t lt) (word_of_pos 0 (omega arith)) (zero_add v (parameter_small t lt))) refl

  -- ---- a global scalar

  parts : (a r : ℕ) (regs : List ℕ) → a < 2 ^ 32 → reg regs r ≡ upper (pos (upper_bits a)) → add (reg regs r) (word_of (lower_bits a)) ≡ a
  parts a r regs small e = ap (λ z. add z (word_of (lower_bits a))) e ∙ parts_add a small

  place_small : (g : ℕ) → 0 < y.size g → y.place g < 2 ^ 32
  place_small g lt = omega (arith, laid.addresses g 0 lt)

  pub load_done : (g : ℕ) → reach.is_read g ≡ true → 0 < y.size g → Contains (scalars_read body.code) g → found bound g ≡ None → Shape (load_pair (y.place g)) (Returned (Some (scalar w.globals g)) w)
  load_done g read lt reads free =
      let a = y.place g in
      let up = upper (pos (upper_bits a)) in
      let mid = put R result_register up in
      let to : add (reg mid result_register) (word_of (lower_bits a)) ≡ a = parts a result_register mid (place_small g lt) (result_same up R stands.are) in
      let same : a ≡ y.place g + 4 * 0 = omega arith in
      let may : reach.may_load a ≡ true = ap reach.may_load same ∙ ample.globals g 0 read lt in
      let loads : (own access y machine reach runs budget far).load m a 4 ≡ Some (scalar w.globals g) =
      ap (λ c. cond c (access.load m a 4) None) may ∙ ap (λ b. access.load m b 4) same ∙ stands.globals.loads g 0 lt in
      by_two (Lui result_register (pos (upper_bits a))) (Lw result_register result_register (lower_bits a)) up (scalar w.globals g) (upper_below a) (stands.globals.words g 0 lt)
      (lui_sets (own access y machine reach runs budget far) m result_register (pos (upper_bits a)) R up refl)
      (lw_sets (own access y machine reach runs budget far) m result_register result_register (lower_bits a) mid a (scalar w.globals g) to loads)
      refl (λ b e. (g, reads, free, sym (same_Some (add (reg mid result_register) (word_of (lower_bits a))) b e) ∙ to))

  -- ---- a store of a parameter

  pub store_done : (g t : ℕ) → 0 < y.size g → t < length args → Shape (store_pair (y.place g) t) (Returned None (set_in w g (slice_index args t)))
  store_done g t lt few p q =
      let a = y.place g in
      let v = slice_index args t in
      let up = upper (pos (upper_bits a)) in
      let mid = put R address_register up in
      let one = Lui address_register (pos (upper_bits a)) in
      let two = Sw address_register (result_register + t) (lower_bits a) in
      let room = enters.room in
      let stored : Put access y laid machine memory reach budget far w m g v (reg (machine.run i).regs 2) =
      stored_global access y laid machine memory reach budget far w m g v (reg R 2) lt (parameter_small t few) (omega (arith, room)) stands.globals in
      let to : add (reg mid address_register) (word_of (lower_bits a)) ≡ a =
      parts a address_register mid (place_small g lt) (put_same R address_register up (omega arith) (omega (arith, stands.are.count))) in
      let value : reg mid (result_register + t) ≡ v = put_other R address_register (result_register + t) up (omega arith) (λ e. omega (arith, e)) ∙ parameter_is t few in
      let others : Others (put (machine.run i).regs address_register (upper (pos (upper_bits (y.place g))))) = λ r n n'. put_other R address_register r up (omega arith) n' in
      let came = comes access y machine reach runs budget far w (set_in w g v) at spare k i mid mid stored.after refl
      (put_registers R address_register up stands.are (free_above address_register (omega arith) (omega arith)) (upper_below a)) others stored.globals stored.stack paid asked
      (two_steps access y machine reach runs budget far one two at here p q w R mid mid m stored.after i (lui_sets (own access y machine reach runs budget far) m address_register (pos (upper_bits a)) R up refl)
      (sw_moves (own access y machine reach runs budget far) (globals_site y reach) address_register (result_register + t)
      (lower_bits a) mid m stored.after a v to value stored.stored) stored.writes (begun access y machine reach runs budget far w at i stands)) in
      no_value one two (set_in w g v) mid mid came others (no_load y bound body one R refl) (no_load y bound body two mid refl)
