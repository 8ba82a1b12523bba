-- An environment call that is answered at once returns behind it, as the calling convention asks of a callee.
use Rattle.std.proofs.Common.{◌≡◌, ◌≢◌, inl, inr, ℕ, ◌+◌, ◌*◌, ◌^◌, ◌<◌, ◌≤◌, true, List, [], ◌∷◌, length, slice_index, slice_index_or, Some, sym, ap, ◌∙◌, subst, arith}
use Rattle.std.specs.List.{All}
use Rattle.std.proofs.lemmas.List.Elements.{All-head}
use Rattle.mv_num.specs.Words.{add}
use Rattle.mv_isa.specs.Execution.{Access, reg, put}
use Rattle.mv_ir.specs.World.{World, Answer}
use Rattle.mv_ir.specs.KnownFunctions.{next_byte}
use Rattle.mv_machine.specs.Runs.{bytes_to_come}
use Rattle.mv_select_code.specs.Trees.View.{AreRegisters}
use Rattle.mv_select_code.proofs.OfTrees.Registers.{free_above, put_same, put_other, put_registers}
use Rattle.mv_select_code.proofs.OfStatements.TreesFirst.{add_small}
use Rattle.mv_select_code.specs.Control.Runs.{Machine, outside}
use Rattle.mv_select_code.proofs.OfControl.Walk.{before_next}
use Rattle.mv_select.specs.Calls.Convention.{Layout, IsSaved, HoldsGlobals, Stands, SetsBack, Returns}
use Rattle.mv_refine_machine.specs.Laws.{IsByteOrEnd}

pub byte_fits : (bytes : List ℕ) (w : World) → All IsByteOrEnd (bytes_to_come bytes) → (next_byte bytes w).value < 2 ^ 32
byte_fits [] w h = omega arith
byte_fits (byte ∷ bytes) w h = let small : byte < 2 ^ 8 = All-head IsByteOrEnd (Some byte) (bytes_to_come bytes) h in omega (arith, small)

not_saved : (q : ℕ) → IsSaved q → q ≢ 10
not_saved q (inl h) e = omega (arith, h, e)
not_saved q (inr (inl h)) e = omega (arith, h, e)
not_saved q (inr (inr h)) e = omega (arith, h.0, e)

module _ {M : Type 0} (access : Access M) (y : Layout) (machine : Machine M) (budget far : ℕ) (answer : Answer) (w : World) (pc i : ℕ) where
  -- what the call leaves
  pub record IsServed : Type 0 where
    pub regs : (machine.run (i + 1)).regs ≡ put (machine.run i).regs 10 answer.value
    pub next : (machine.run (i + 1)).pc ≡ add (machine.run i).pc 4
    pub loads : (a : ℕ) → access.load (machine.run (i + 1)).memory a 4 ≡ access.load (machine.run i).memory a 4
    pub calm : machine.is_calm (outside answer.world) (machine.run (i + 1)).memory ≡ true
    pub sound : machine.is_sound (machine.run i) ≡ true
    pub globals : answer.world.globals ≡ w.globals
    pub small : answer.value < 2 ^ 32

  module _ (h : Stands access y machine budget far pc w i) (below : pc + 4 < 2 ^ 32) (done : IsServed) where
    globals_held : HoldsGlobals access y machine budget far answer.world (machine.run (i + 1)).memory
    globals_held = record {
      sizes = λ g. ap (λ (gs : List (List ℕ)). length (slice_index_or gs g [])) done.globals ∙ h.globals.sizes g;
      words = λ g n lt. subst (λ (gs : List (List ℕ)). slice_index (slice_index_or gs g []) n < 2 ^ 32) (sym done.globals) (h.globals.words g n lt);
      loads = λ g n lt. done.loads (y.place g + 4 * n) ∙ h.globals.loads g n lt ∙ ap (λ (gs : List (List ℕ)). Some (slice_index (slice_index_or gs g []) n)) (sym done.globals);
    }

    stands_next : Stands access y machine budget far (pc + 4) answer.world (i + 1)
    stands_next = record {
      at = done.next ∙ ap (λ a. add a 4) h.at ∙ add_small pc 4 below;
      calm = done.calm;
      sound = before_next (λ t. machine.is_sound (machine.run t) ≡ true) i h.sound done.sound;
      globals = globals_held;
      are = subst AreRegisters (sym done.regs) (put_registers (machine.run i).regs 10 answer.value h.are (free_above 10 (omega arith) (omega arith)) done.small);
    }

    set_back : SetsBack access y machine budget far i (i + 1)
    set_back = record {
      registers = λ q saved. ap (λ rs. reg rs q) done.regs ∙ put_other (machine.run i).regs 10 q answer.value (omega arith) (not_saved q saved);
      stack = λ b above. done.loads b;
    }

    value_there : reg (machine.run (i + 1)).regs 10 ≡ answer.value
    value_there = ap (λ rs. reg rs 10) done.regs ∙ put_same (machine.run i).regs 10 answer.value (omega arith) (let count = h.are.count in omega (arith, count))

    pub returned : (spare bound cost : ℕ) → i + (spare + 1 + cost) ≤ budget → far ≤ i + bound
        → (j : ℕ) × Returns access y machine budget far spare bound i (pc + 4) answer.world j × (reg (machine.run j).regs 10 ≡ answer.value)
    returned spare bound cost paid asked =
        (i + 1, record { stands = stands_next; kept = set_back; paid = omega (arith, paid); asked = omega (arith, asked) }, value_there)
