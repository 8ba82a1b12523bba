-- Lines of stubs that a run walks.
use Rattle.std.proofs.Common.{◌≡◌, ◌≢◌, inl, ⊎_elim, ℕ, ◌+◌, ◌^◌, ◌<◌, Bool, false, true, eqb, List, length, pos, negsuc, Option, None, refl, sym, ap, ◌∙◌, subst, arith}
use Rattle.mv_machine.specs.Acts.{PollActs}
use Rattle.mv_bindings.specs.Traps.{depth_limit}
use Rattle.std.proofs.lemmas.Bool.{cases_eq}
use Rattle.mv_num.specs.Words.{word_of, add, shl}
use Rattle.mv_num.specs.Regions.{gp_value, tp_value}
use Rattle.mv_isa.specs.Requests.{exit as exit_number}
use Rattle.mv_isa.specs.declared.instr.Instr.{Instr}
use Rattle.mv_isa.specs.declared.instr.Instr.TheVariants.{Lui, Addi, Ecall}
use Rattle.mv_isa.specs.declared.labelled.Line.{Line}
use Rattle.mv_isa.specs.declared.labelled.Line.TheVariants.{Word, Jump}
use Rattle.mv_isa.specs.Execution.{Access, Goes, Calls, reg, put, upper, step, execute}
use Rattle.mv_image.specs.Spelling.{Fields}
use Rattle.mv_ir.specs.declared.stm.Array.TheVariants as array
use Rattle.mv_ir.specs.World.{World}
use Rattle.mv_select_code.specs.Trees.Straight.{Sets}
use Rattle.mv_select_code.specs.Trees.View.{AreRegisters}
use Rattle.mv_select_code.proofs.OfTrees.Instructions.{addi_sets, lui_sets}
use Rattle.mv_select_code.proofs.OfTrees.Registers.{reg_zero, put_same, put_other}
use Rattle.mv_select_code.proofs.OfTrees.Words.{add_zero}
use Rattle.mv_isa.proofs.LineSteps.{line_runs}
use Rattle.mv_isa.specs.Registers.{gp, tp, ra as link_register, s11 as left_register, s10 as live_register, a7 as request_register, sp as stack_register}
use Rattle.mv_select_code.specs.Statements.Leads.{limited}
use Rattle.mv_select_code.specs.Statements.Frames.{Site, TempCell, Element, Kept}
use Rattle.mv_select_code.proofs.OfStatements.TreesFirst.{add_small}
use Rattle.mv_select_code.specs.Control.Placed.{Text, IsPlaced, Placed}
use Rattle.mv_select_code.specs.Control.Runs.{Spot, Machine, outside, IsRun}
use Rattle.mv_select_code.proofs.OfControl.Walk as walk
use Rattle.mv_select_code.proofs.OfControl.Walk.{line_does, steps_on}
use Rattle.mv_select.specs.Slots.Laws.{nothing}
use Rattle.mv_refine_machine.specs.Calm.{Rest, IsCalm, is_calm}
use Rattle.mv_refine_machine.specs.Calls.{AtCall}
use Rattle.mv_refine_machine.specs.Layout.{OwnOutsideText}
use Rattle.mv_refine_machine.specs.MachineRuns.{access, unpatched_word, machine_of, machine_text}
use Rattle.mv_refine_machine.specs.Laws.{CalmIsTested, RunsAreRuns}
use Rattle.mv_refine_machine.specs.Stubs.Stubs.{stack_end, start_address, return_address, start_steps, start_lines, request_lines}
use Rattle.mv_refine_machine.specs.Stubs.Ends.{ComesTo}
use Rattle.mv_num.proofs.Numbers.{word_of_pos, word_of_negsuc}

-- a frame without cells
abbrev pub no_frame : (ℕ → ℕ) → Site
no_frame entry = record {
  seats = record { place = λ g. 0; register = λ t. None; pinned = λ n. None };
  size = λ g. 0;
  reach = nothing;
  entry = entry;
  may_call = false;
  may_ask = λ k. false;
  temps = 0;
  array_at = λ a. 0;
  array_size = λ a. 0;
  is_left = eqb stack_register;
  register = λ q. 0;
  is_kept = λ b. false;
  kept = λ b. 0;
}

pub none_inside : (entry : ℕ → ℕ) → OwnOutsideText (no_frame entry)
none_inside entry (TempCell t) own h = absurd (omega (arith, h.1))
none_inside entry (Element (array.Global g) i) own h = absurd (omega (arith, h))
none_inside entry (Element (array.Local a) i) own h = absurd (omega (arith, h))
none_inside entry (Element (array.SureGlobal g n) i) own h = absurd h
none_inside entry (Element (array.SureLocal a n) i) own h = absurd h
none_inside entry (Kept b) own h = absurd own

-- ---- lines

stack_is : upper (pos 0x400) ≡ stack_end
unfolding upper shl
stack_is = ap (λ (n : ℕ). shl n 12) (word_of_pos 0x400 (omega arith))

global_page : upper (pos 0x101) ≡ 0x0010_1000
unfolding upper shl
global_page = ap (λ (n : ℕ). shl n 12) (word_of_pos 0x101 (omega arith))

thread_page : upper (pos 0x102) ≡ 0x0010_2000
unfolding upper shl
thread_page = ap (λ (n : ℕ). shl n 12) (word_of_pos 0x102 (omega arith))

low_is : word_of (negsuc 2047) ≡ 0xFFFF_F800
low_is = word_of_negsuc 2047 (omega arith)

global_is : add 0x0010_1000 0xFFFF_F800 ≡ gp_value
unfolding add
global_is = refl

thread_is : add 0x0010_2000 0xFFFF_F800 ≡ tp_value
unfolding add
thread_is = refl

-- ---- registers

-- what a register holds that another one is put beside
kept : (regs : List ℕ) (r q v x : ℕ) → 0 < r → q ≢ r → reg regs q ≡ x → reg (put regs r v) q ≡ x
kept regs r q v x real ne e = put_other regs r q v real ne ∙ e

word_put : (regs : List ℕ) (r v : ℕ) → length regs ≡ 32 → (0 < r) × (r < 32) × (v < 2 ^ 32) → ((q : ℕ) → reg regs q < 2 ^ 32) →
    (q : ℕ) → reg (put regs r v) q < 2 ^ 32
word_put regs r v count h words q = ⊎_elim same other (cases_eq q r)
  where
    same : q ≡ r → reg (put regs r v) q < 2 ^ 32
    same e = let there = put_same regs r v h.0 (omega (arith, count, h.1)) in rw (e, there) h.2

    other : (q ≡ r → ⊥) → reg (put regs r v) q < 2 ^ 32
    other ne = rw (put_other regs r q v h.0 ne) (words q)

-- ---- where main returns to

-- behind the call of main its exit stands
abbrev pub Behind : Text → (place entry : ℕ → ℕ) → ℕ → Type 0
Behind text place entry end = Placed text place entry (request_lines exit_number) return_address end

module _ (text : Text) (place entry : ℕ → ℕ) (main_label end : ℕ) (p : Placed text place entry (start_lines main_label) start_address end) where
  pub main_returns : p.2.2.2.2.2.2.0 ≡ return_address
  main_returns =
      let a = p.1.stands.1 in
      let b = p.2.1.stands.1 in
      let c = p.2.2.1.stands.1 in
      let d = p.2.2.2.1.stands.1 in
      let e = p.2.2.2.2.1.stands.1 in
      let f = p.2.2.2.2.2.1.stands.1 in
      let g = p.2.2.2.2.2.2.1.stands.end_is in omega (arith, a, b, c, d, e, f, g)

  pub exit_stands : Behind text place entry end
  exit_stands = subst (λ (a : ℕ). Placed text place entry (request_lines exit_number) a end) main_returns p.2.2.2.2.2.2.2

module _ {M : Type 0} (accesses : Access M) (entry : ℕ → ℕ) where
  -- a stub loads nothing
  abbrev own : Access M
  own = limited accesses (no_frame entry)

  -- a number into a register
  pub number_sets : (r n : ℕ) (regs : List ℕ) (m : M) → n < 2 ^ 32 → Sets own m (Addi r 0 (pos n)) regs (put regs r n)
  number_sets r n regs m lt = addi_sets own m r 0 (pos n) regs 0 n n (reg_zero regs) (word_of_pos n lt) (add_zero n lt)

module _ {M : Type 0} (accesses : Access M) (machine : Machine M) (place entry : ℕ → ℕ) (ok : IsRun accesses (no_frame entry) machine) where
  -- time t of the run stands at a place with these registers and this memory, in calm
  abbrev pub At : World → ℕ → List ℕ → M → ℕ → Type 0
  At = walk.Stands accesses (no_frame entry) machine ok place 0 0 0

  abbrev pub One : ℕ → ℕ → Line → Type 0
  One = IsPlaced machine.text place entry

  pub sets : (i : Instr) (w : World) (pc next t : ℕ) (regs regs' : List ℕ) (m : M) → Sets (own accesses entry) m i regs regs' → One pc next (Word i) → At w pc regs m t → At w next regs' m (t + 1)
  sets i w pc next t regs regs' m does p a =
      let here = p.here in
      let on : add pc 4 ≡ next = add_small pc 4 (omega (arith, here.1)) ∙ sym p.stands.1 in
      steps_on accesses (no_frame entry) machine ok place 0 0 0 w pc next regs regs' m m t
      (line_does accesses (no_frame entry) machine ok place 0 0 0 w pc next regs m t (Word i) p.stands p a ∙ does pc ∙ ap (λ z. Goes regs' z m) on) (inl refl) a

  jumps : (rd l : ℕ) (w : World) (pc next t : ℕ) (regs : List ℕ) (m : M) → One pc next (Jump rd l) → At w pc regs m t → At w (place l) (put regs rd next) m (t + 1)
  jumps rd l w pc next t regs m p a =
      steps_on accesses (no_frame entry) machine ok place 0 0 0 w pc (place l) regs (put regs rd next) m m t
      (line_does accesses (no_frame entry) machine ok place 0 0 0 w pc next regs m t (Jump rd l) p.stands p a) (inl refl) a

  pub count_at : (w : World) (pc t : ℕ) (regs : List ℕ) (m : M) → At w pc regs m t → length regs ≡ 32
  count_at w pc t regs m a = subst (λ (x : Spot M). length x.regs ≡ 32) a.is (ok.registers t)

  -- ---- the start stub, from the first time on

  module _ (w : World) (main_label end : ℕ) (p : Placed machine.text place entry (start_lines main_label) start_address end) (at0 : At w start_address (machine.run 0).regs (machine.run 0).memory 0) where
    open machine.run 0 use {memory as m, regs as regs0}

    abbrev regs1 : List ℕ
    regs1 = put regs0 stack_register stack_end

    at1 : At w p.0 regs1 m 1
    at1 = sets (Lui stack_register (pos 0x400)) w start_address p.0 0 regs0 regs1 m (lui_sets (own accesses entry) m stack_register (pos 0x400) regs0 stack_end stack_is) p.1 at0

    abbrev regs2 : List ℕ
    regs2 = put regs1 gp 0x0010_1000

    at2 : At w p.2.0 regs2 m 2
    at2 = sets (Lui gp (pos 0x101)) w p.0 p.2.0 1 regs1 regs2 m (lui_sets (own accesses entry) m gp (pos 0x101) regs1 0x0010_1000 global_page) p.2.1 at1

    abbrev regs3 : List ℕ
    regs3 = put regs2 gp gp_value

    at3 : At w p.2.2.0 regs3 m 3
    at3 =
        let page = put_same regs1 gp 0x0010_1000 (omega arith) (let count = count_at w p.0 1 regs1 m at1 in omega (arith, count)) in
        sets (Addi gp gp (negsuc 2047)) w p.2.0 p.2.2.0 2 regs2 regs3 m
        (addi_sets (own accesses entry) m gp gp (negsuc 2047) regs2 0x0010_1000 0xFFFF_F800 gp_value page low_is global_is) p.2.2.1 at2

    abbrev regs4 : List ℕ
    regs4 = put regs3 tp 0x0010_2000

    at4 : At w p.2.2.2.0 regs4 m 4
    at4 =
        sets (Lui tp (pos 0x102)) w p.2.2.0 p.2.2.2.0 3 regs3 regs4 m
        (lui_sets (own accesses entry) m tp (pos 0x102) regs3 0x0010_2000 thread_page) p.2.2.2.1 at3

    abbrev regs5 : List ℕ
    regs5 = put regs4 tp tp_value

    at5 : At w p.2.2.2.2.0 regs5 m 5
    at5 =
        let page = put_same regs3 tp 0x0010_2000 (omega arith) (let count = count_at w p.2.2.0 3 regs3 m at3 in omega (arith, count)) in
        sets (Addi tp tp (negsuc 2047)) w p.2.2.2.0 p.2.2.2.2.0 4 regs4 regs5 m
        (addi_sets (own accesses entry) m tp tp (negsuc 2047) regs4 0x0010_2000 0xFFFF_F800 tp_value page low_is thread_is) p.2.2.2.2.1 at4

    abbrev regs6 : List ℕ
    regs6 = put regs5 left_register depth_limit

    at6 : At w p.2.2.2.2.2.0 regs6 m 6
    at6 =
        sets (Addi left_register 0 (pos depth_limit)) w p.2.2.2.2.0 p.2.2.2.2.2.0 5 regs5 regs6 m
        (number_sets accesses entry left_register depth_limit regs5 m (omega arith)) p.2.2.2.2.2.1 at5

    abbrev behind : ℕ
    behind = p.2.2.2.2.2.2.0

    -- the registers that main finds
    abbrev pub main_regs : List ℕ
    main_regs = put regs6 link_register behind

    pub at_main : At w (place main_label) main_regs m start_steps
    at_main = jumps link_register main_label w p.2.2.2.2.2.0 behind 6 regs6 m p.2.2.2.2.2.2.1 at6

    module _ (zero0 : (q : ℕ) → reg regs0 q ≡ 0) where
      returns : behind ≡ return_address
      returns = main_returns machine.text place entry main_label end p

      words6 : (q : ℕ) → reg regs6 q < 2 ^ 32
      words6 =
          word_put regs5 left_register depth_limit (count_at w p.2.2.2.2.0 5 regs5 m at5) (omega arith, omega arith, omega arith)
          (word_put regs4 tp tp_value (count_at w p.2.2.2.0 4 regs4 m at4) (omega arith, omega arith, omega arith)
          (word_put regs3 tp 0x0010_2000 (count_at w p.2.2.0 3 regs3 m at3) (omega arith, omega arith, omega arith)
          (word_put regs2 gp gp_value (count_at w p.2.0 2 regs2 m at2) (omega arith, omega arith, omega arith)
          (word_put regs1 gp 0x0010_1000 (count_at w p.0 1 regs1 m at1) (omega arith, omega arith, omega arith)
          (word_put regs0 stack_register stack_end (ok.registers 0) (omega arith, omega arith, omega arith) (λ q. let e = zero0 q in omega (arith, e)))))))

      pub left_there : reg main_regs left_register ≡ depth_limit
      left_there =
          let count = count_at w p.2.2.2.2.0 5 regs5 m at5 in
          kept regs6 link_register left_register behind depth_limit (omega arith) (λ e. omega (arith, e))
          (put_same regs5 left_register depth_limit (omega arith) (omega (arith, count)))

      -- what stands in a register that neither the jump nor s11 has changed
      kept5 : (q x : ℕ) → q ≢ link_register → q ≢ left_register → reg regs5 q ≡ x → reg main_regs q ≡ x
      kept5 q x no_link no_left e =
          kept regs6 link_register q behind x (omega arith) no_link (kept regs5 left_register q depth_limit x (omega arith) no_left e)

      kept3 : (q x : ℕ) → q ≢ link_register → q ≢ left_register → q ≢ tp → reg regs3 q ≡ x → reg main_regs q ≡ x
      kept3 q x no_link no_left no_thread e =
          kept5 q x no_link no_left (kept regs4 tp q tp_value x (omega arith) no_thread (kept regs3 tp q 0x0010_2000 x (omega arith) no_thread e))

      kept1 : (q x : ℕ) → q ≢ link_register → q ≢ left_register → q ≢ tp → q ≢ gp → reg regs1 q ≡ x → reg main_regs q ≡ x
      kept1 q x no_link no_left no_thread no_global e =
          kept3 q x no_link no_left no_thread (kept regs2 gp q gp_value x (omega arith) no_global (kept regs1 gp q 0x0010_1000 x (omega arith) no_global e))

      pub are_main : AreRegisters main_regs
      are_main =
          let many = count_at w p.2.0 2 regs2 m at2 in
          let more = count_at w p.2.2.2.0 4 regs4 m at4 in record {
            count = count_at w (place main_label) start_steps main_regs m at_main;
            words = word_put regs6 link_register behind (count_at w p.2.2.2.2.2.0 6 regs6 m at6) (omega arith, omega arith, omega (arith, returns)) words6;
            global = kept3 gp gp_value (λ e. omega (arith, e)) (λ e. omega (arith, e)) (λ e. omega (arith, e))
                (put_same regs2 gp gp_value (omega arith) (omega (arith, many)));
            thread = kept5 tp tp_value (λ e. omega (arith, e)) (λ e. omega (arith, e)) (put_same regs4 tp tp_value (omega arith) (omega (arith, more)));
          }

      pub link_there : reg main_regs link_register ≡ return_address
      link_there =
          let count = count_at w p.2.2.2.2.2.0 6 regs6 m at6 in
          put_same regs6 link_register behind (omega arith) (omega (arith, count)) ∙ returns

      pub stack_there : reg main_regs stack_register ≡ stack_end
      stack_there =
          let count = ok.registers 0 in
          kept1 stack_register stack_end (λ e. omega (arith, e)) (λ e. omega (arith, e)) (λ e. omega (arith, e)) (λ e. omega (arith, e))
          (put_same regs0 stack_register stack_end (omega arith) (omega (arith, count)))

      pub live_there : reg main_regs live_register ≡ 0
      live_there =
          kept1 live_register 0 (λ e. omega (arith, e)) (λ e. omega (arith, e)) (λ e. omega (arith, e)) (λ e. omega (arith, e))
          (kept regs0 stack_register live_register stack_end 0 (omega arith) (λ e. omega (arith, e)) (zero0 live_register))

-- ---- calm

-- calm says nothing of the globals
calm_outside : (image : Fields) (w : World) (m : Rest) → IsCalm image w m → IsCalm image (outside w) m
calm_outside image w m h = record {
  goes_on = h.goes_on;
  text = h.text;
  no_older = h.no_older;
  stack = h.stack;
  input = h.input;
  output = h.output;
  bindings = h.bindings;
  log = h.log;
}

pub calm_inside : (image : Fields) (w : World) (m : Rest) → IsCalm image (outside w) m → IsCalm image w m
calm_inside image w m h = record {
  goes_on = h.goes_on;
  text = h.text;
  no_older = h.no_older;
  stack = h.stack;
  input = h.input;
  output = h.output;
  bindings = h.bindings;
  log = h.log;
}

call_is : (regs : List ℕ) (pc : ℕ) (m : Rest) → execute access Ecall regs pc m ≡ Calls
unfolding execute
call_is regs pc m = refl

module _ (tested : CalmIsTested) (are_runs : RunsAreRuns)
    (attributed : List ℕ) (closed : (pc address : ℕ) → Bool) (image : Fields) (input : List (Option ℕ)) (polls : PollActs) (picks : List ℕ) (place entry : ℕ → ℕ) where
  abbrev pub machine : Machine Rest
  machine = machine_of attributed closed image input polls picks

  abbrev pub run : ℕ → Spot Rest
  run = machine.run

  pub ok : IsRun access (no_frame entry) machine
  ok = are_runs attributed closed image input polls picks (no_frame entry) (none_inside entry) (λ pc a may. absurd cc)

  pub comes : (pc i : ℕ) (w : World) → ComesTo closed image input polls picks pc w i → At access machine place entry ok w pc (run i).regs (run i).memory i
  comes pc i w h = record {
    is = ap (λ (a : ℕ). record (run i) { pc = a }) h.at;
    calm = (tested image (outside w) (run i).memory).1 (calm_outside image w (run i).memory h.calm);
    sound = h.sound;
  }

  calm_there : (w : World) (pc t : ℕ) (regs : List ℕ) (m : Rest) → At access machine place entry ok w pc regs m t → IsCalm image w (run t).memory
  calm_there w pc t regs m a =
      calm_inside image w (run t).memory ((tested image (outside w) (run t).memory).0 (subst (λ (x : Spot Rest). is_calm image (outside w) x.memory ≡ true) (sym a.is) a.calm))

  pub count : (w : World) (pc t : ℕ) (regs : List ℕ) (m : Rest) → At access machine place entry ok w pc regs m t → length regs ≡ 32
  count = count_at access machine place entry ok

  -- ---- environment calls

  -- one instruction on, the run stands at an environment call, with the argument that it had
  pub record Requests (number : ℕ) (w : World) (regs : List ℕ) (t : ℕ) : Type 0 where
    pub call : AtCall image input polls picks number (t + 1) w
    pub argument : reg (run (t + 1)).regs 10 ≡ reg regs 10
    pub sound : (s : ℕ) → s < t + 1 → machine.is_sound (run s) ≡ true

  pub requests : (number : ℕ) (w : World) (pc end t : ℕ) (regs : List ℕ) (m : Rest) → number < 2 ^ 32 → Placed (machine_text attributed image) place entry (request_lines number) pc end → At access machine place entry ok w pc regs m t
      → Requests number w regs t
  requests number w pc end t regs m lt p a =
      let regs' = put regs request_register number in
      let b : At access machine place entry ok w p.0 regs' m (t + 1) =
      sets access machine place entry ok (Addi request_register 0 (pos number)) w pc p.0 t regs regs' m (number_sets access entry request_register number regs m lt) p.1 a in
      let calls : step access (unpatched_word image p.0) regs' p.0 m ≡ Calls =
      line_runs access m (unpatched_word image) place entry p.0 p.2.0 (Word Ecall) p.2.1.stands p.2.1.fits p.2.1.here p.2.1.there regs' (count w p.0 (t + 1) regs' m b) ∙ call_is regs' p.0 m in
      let many = count w pc t regs m a in
      let number_is : reg regs' request_register ≡ number = put_same regs request_register number (omega arith) (omega (arith, many)) in
      let argument_is : reg regs' 10 ≡ reg regs 10 = put_other regs request_register 10 number (omega arith) (λ e. omega (arith, e)) in record {
        call = record {
          calm = calm_there w p.0 (t + 1) regs' m b;
          calls = subst (λ (x : Spot Rest). step access (unpatched_word image x.pc) x.regs x.pc x.memory ≡ Calls) (sym b.is) calls;
          asks = subst (λ (x : Spot Rest). reg x.regs request_register ≡ number) (sym b.is) number_is;
        };
        argument = subst (λ (x : Spot Rest). reg x.regs 10 ≡ reg regs 10) (sym b.is) argument_is;
        sound = b.sound;
      }
