-- The stub serves orders and polls.
use Rattle.std.specs.List.{All}
use Rattle.std.proofs.lemmas.List.Elements.{All-head}
use Rattle.std.proofs.lemmas.Bool.{and_parts, and_from}
use Rattle.std.proofs.lemmas.Option.{slice_get_within}
use Rattle.std.proofs.Common.{◌≡◌, ◌≢◌, ◌⊎◌, inl, inr, ℕ, ◌+◌, ◌*◌, ◌<◌, ◌≤◌, ◌^◌, Bool, true, eqb, List, ◌∷◌, length, slice_get, Option, Some, None, refl, sym, ap, ap₂, ◌∙◌, subst, arith}
use Rattle.mv_ast.specs.declared.program.Known.{Known}
use Rattle.mv_ast.specs.declared.program.Known.TheVariants.{Getchar, Putchar, Poll, Plan}
use Rattle.mv_ast.specs.declared.program.Program.{Program}
use Rattle.mv_bindings.specs.declared.action.Action.TheVariants as action
use Rattle.mv_ast.specs.Actions.{fits, act_fits, is_switch_value}
use Rattle.mv_bindings.specs.Acts.{IsActOfWord, Act, Flip}
use Rattle.mv_ast.specs.declared.program.Switch.{Switch}
use Rattle.mv_ast.specs.Counts as counts
use Rattle.mv_ast.specs.Orders as source
use Rattle.mv_ast.specs.Orders.{Answered}
use Rattle.mv_isa.specs.declared.instr.Instr.TheVariants.{Ecall}
use Rattle.mv_isa.specs.Execution.{reg}
use Rattle.mv_isa.specs.Standing.{InstrStands}
use Rattle.mv_isa.specs.Registers.{a0, ra as link_register, s10 as live_register}
use Rattle.mv_image.specs.Spelling.{Fields}
use Rattle.mv_image.specs.Faults.{Rules}
use Rattle.mv_patch.specs.Orders.{is_known_order}
use Rattle.mv_patch.specs.Tables.{patchable}
use Rattle.mv_ir.specs.World as ir
use Rattle.mv_ir.specs.World.{World}
use Rattle.mv_ir.specs.WellFormed.{known_arguments}
use Rattle.mv_ir.specs.Programs.{setting_of}
use Rattle.mv_ir.specs.KnownFunctions.{known_answer, seen_from, patch_cost, poll_cost}
use Rattle.mv_linker.specs.Linked.{commit_lines}
use Rattle.mv_ir_worlds.specs.Fit.{IsFit, is_fit}
use Rattle.mv_machine.specs.Acts.{PollActs}
use Rattle.mv_machine.specs.Runs.{State, request_of, environment_call, planned, polled}
use Rattle.mv_machine.proofs.Calls.{request_plans, request_polls}
use Rattle.mv_select_code.specs.Control.Placed.{Placed}
use Rattle.mv_select_code.specs.Control.Runs.{Machine, outside}
use Rattle.mv_select.specs.Calls.Convention.{Layout, IsTarget, IsSaved, IsAbove, HoldsGlobals, Stands, SetsBack, Returns}
use Rattle.mv_select.specs.Calls.Environment.{IsDirect, Asks, ServesOrders, stub_cost}
use Rattle.mv_select.specs.Slots.Narrowed.{narrowed}
use Rattle.mv_refine_machine.specs.Layout.{IsOutsideText, IsSetOut}
use Rattle.mv_refine_machine.specs.MachineRuns.{machine_text, unpatched_word}
use Rattle.mv_refine_machine.specs.Commits.Watched.{Watched, access, watched, IsQuiet, is_quiet, watched_machine}
use Rattle.mv_refine_machine.specs.Commits.Served.{IsPlanned, IsPlanOpen, AtStub, IsBack}
use Rattle.mv_refine_machine.specs.Commits.Tabled.{IsTabled, TabledOrdersAreServed}
use Rattle.mv_refine_machine.specs.Commits.Known.{Known as Laws}
use Rattle.mv_refine_machine.proofs.OfCommits.Images.{run_image, run_actions}
use Rattle.mv_refine_machine.proofs.OfCommits.Planning.{Gives, plan_gives, poll_gives}
use Rattle.mv_refine_machine.proofs.OfCommits.Quiet.{quiet_told, quiet_tested}
use Rattle.mv_refine_machine.proofs.OfCommits.Served.{Calmly, calm_calls, loads_stack, stub_serves}
use Rattle.mv_refine_machine.proofs.OfCommits.Stands.{stub_stands}
use Rattle.mv_refine_machine.proofs.OfCommits.Tabled.{agrees, flip_agrees}
use Rattle.mv_refine_machine.proofs.OfCommits.WatchedRun.{watched_run}

-- calm says nothing of the globals
pub quiet_inside : (image : Fields) (w : World) (m : Watched) → IsQuiet image (outside w) m → IsQuiet image w m
quiet_inside image w m h = record {
  calm = record {
    goes_on = h.calm.goes_on;
    text = h.calm.text;
    no_older = h.calm.no_older;
    stack = h.calm.stack;
    input = h.calm.input;
    output = h.calm.output;
    bindings = h.calm.bindings;
    log = h.calm.log;
  };
  settled = h.settled;
  reserve = h.reserve;
  plan = h.plan;
  under = h.under;
  hart = h.hart;
  actions = h.actions;
}

pub quiet_outside : (image : Fields) (w : World) (m : Watched) → IsQuiet image w m → IsQuiet image (outside w) m
quiet_outside image w m h = record {
  calm = record {
    goes_on = h.calm.goes_on;
    text = h.calm.text;
    no_older = h.calm.no_older;
    stack = h.calm.stack;
    input = h.calm.input;
    output = h.calm.output;
    bindings = h.calm.bindings;
    log = h.calm.log;
  };
  settled = h.settled;
  reserve = h.reserve;
  plan = h.plan;
  under = h.under;
  hart = h.hart;
  actions = h.actions;
}

-- what is set back isn't changed by the stub
kept_register : (q n : ℕ) → IsSaved q → (n ≡ 5) ⊎ ((n ≡ 6) ⊎ ((n ≡ 7) ⊎ ((n ≡ 28) ⊎ (n ≡ 10)))) → q ≢ n
kept_register q n (inl h) o e = omega (arith, h, e, o)
kept_register q n (inr (inl h)) o e = omega (arith, h, e, o)
kept_register q n (inr (inr h)) o e = omega (arith, h.0, h.1, e, o)

-- a flip that fits is of a switch that is there
there : (p : Program) (switch value : ℕ) → fits p (action.Flip switch value) ≡ true → switch < length p.switches
there p switch value h = by_row (slice_get p.switches switch) refl h
  where
    by_row : (o : Option Switch) → slice_get p.switches switch ≡ o → is_switch_value p o value ≡ true → switch < length p.switches
    by_row None e k = absurd (cc)
    by_row (Some s) e k = slice_get_within p.switches switch s e

module _ (known : Laws) (attributed : List ℕ) (closed : (pc address : ℕ) → Bool) (image : Fields) (rules : Rules image) (input : List (Option ℕ)) (polls : PollActs) (words : All IsActOfWord polls.acts) (picks : List ℕ)
    (y : Layout) (laid : IsSetOut y) (place entry : ℕ → ℕ) (end : ℕ) (placed : Placed (machine_text attributed image) place entry commit_lines y.commit end) (free : IsPlanOpen closed y.commit)
    (budget far : ℕ) (numbers : List ℕ) (p : Program) (numbered : length numbers ≡ length p.functions) (few : patchable image ≤ counts.patchable_places p) (tabled : IsTabled p numbers y image)
    (knows : (code index : ℕ) → y.may_ask (Plan code index) ≡ true → is_known_order image code index ≡ true) where
  abbrev machine : Machine Watched
  machine = narrowed (watched_machine attributed closed image input polls picks) (is_fit p) (machine_text attributed image)

  abbrev setting : ir.Setting
  setting = setting_of numbers p

  open watched_run attributed closed image input polls picks use {start, run, state as Now, under}

  module _ (i : ℕ) (w : World) (here : Stands access y machine budget far y.commit w i) where
    calm : (is_fit p (outside w) ≡ true) × (is_quiet image (outside w) (run i).memory ≡ true)
    calm = and_parts (is_fit p (outside w)) (is_quiet image (outside w) (run i).memory) here.calm

    fit : IsFit p w
    fit = let f = (known.fits p (outside w)).0 calm.0 in record { bindings = f.bindings; actions = f.actions }

    quiet : IsQuiet image w (watched (Now i) (under i))
    quiet = quiet_inside image w (run i).memory (quiet_told known image (outside w) (run i).memory calm.1)

    of : (Now i).image ≡ image
    of = run_image image input polls picks i

    calmly : Calmly known closed image rules start picks w Ecall i
    calmly =
        let stub = stub_stands (machine_text attributed image) place entry y.commit end placed in
        let e : y.commit + 4 * 0 ≡ y.commit = omega arith in record {
          quiet = quiet;
          stands = subst (λ a. InstrStands (unpatched_word image) a Ecall) (e ∙ sym here.at) (stub.each 0 Ecall refl);
          sound = here.sound;
        }

    called : Now (i + 1) ≡ environment_call (request_of (reg (Now i).regs 17)) (Now i)
    called = calm_calls known closed image rules start picks w i calmly

    -- what a known function gives at this time
    abbrev answer : Known → List ℕ → ir.Answer
    answer k args = known_answer p numbers k args (reg (Now i).regs live_register) w

    -- the next state has its answer, and the plan that it is to be carried out by
    pub record IsPlannedFor (k : Known) (args : List ℕ) : Type 0 where
      pub planned : IsPlanned image (answer k args).world (answer k args).value (Now i) (Now (i + 1))
      pub word : (answer k args).value < 2 ^ 32
      pub globals : HoldsGlobals access y machine budget far (answer k args).world (run (i + 1)).memory
      pub cost : 6 + 7 * length planned.coming ≤ stub_cost + (answer k args).cost

    -- what the call gives, as an answer and its cost
    abbrev Given : Answered → ℕ → State → Type 0
    Given = Gives known y laid machine budget far numbers p image rules few (Now i) of (under i) w quiet

    -- a flip that comes next is one of hart 0
    flip_small : (switch value : ℕ) (rest : List Act) → w.actions ≡ Flip switch value ∷ rest → (eqb w.hart 0 ≡ true) × (switch < length p.switches) × (value < 2 ^ 32)
    flip_small switch value rest e =
        let Fits : Act → Type 0 = λ a. act_fits p w.hart a ≡ true in
        let both = and_parts (eqb w.hart 0) (fits p (action.Flip switch value)) (All-head Fits (Flip switch value) rest (subst (All Fits) e fit.actions)) in (
          both.0,
          there p switch value both.1,
          All-head IsActOfWord (Flip switch value) rest (subst (All IsActOfWord) (quiet.actions ∙ e) (run_actions image input polls picks i words)),
        )

    all_planned : (k : Known) (args : List ℕ) → y.may_ask k ≡ true → (IsDirect k → ⊥) → Asks access y machine budget far setting k args i → IsPlannedFor k args
    all_planned Getchar args may other asks = absurd (other tt)
    all_planned Putchar args may other asks = absurd (other tt)
    all_planned Poll args may other asks =
        let next : Now (i + 1) ≡ polled (Now i) = called ∙ ap (λ r. environment_call r (Now i)) (request_polls (reg (Now i).regs 17) asks.number) in
        let after = source.polled p numbers (seen_from 0 (reg (Now i).regs live_register) w) in
        let g = subst (Given after (poll_cost p w.hart after.answer)) (sym next)
        (poll_gives known y laid machine budget far numbers p image rules few (Now i) of (under i) w quiet here.globals
        (λ k v rest e. let f = flip_small k v rest e in (f.0, flip_agrees p numbers y laid image rules tabled w (run i).memory machine budget far here.globals k v f.1 f.2))) in
        record { planned = g.planned; word = g.word; globals = g.globals (under (i + 1)); cost = g.paid }
    all_planned (Plan code index) args may other asks =
        let asked = asks.order in
        let next : Now (i + 1) ≡ planned (Now i) code index =
        called ∙ ap (λ r. environment_call r (Now i)) (request_plans (reg (Now i).regs 17) asks.number) ∙ ap₂ (planned (Now i)) asked.0 asked.1 in
        let after = source.ordered p numbers code index (seen_from 0 (reg (Now i).regs live_register) w) in
        let g = subst (Given after (patch_cost p)) (sym next)
        (plan_gives known y laid machine budget far numbers p image rules few (Now i) of (under i) w quiet code index here.globals
        (agrees p numbers y image tabled w (run i).memory machine budget far here.globals code index rules (knows code index may))) in
        record { planned = g.planned; word = g.word; globals = g.globals (under (i + 1)); cost = g.paid }

  module _ (k : Known) (args : List ℕ) (back i : ℕ) (w : World) (may : y.may_ask k ≡ true) (other : IsDirect k → ⊥) (count : length args ≡ known_arguments k) (target : IsTarget back)
      (link : reg (run i).regs link_register ≡ back)
      (here : Stands access y machine budget far y.commit w i)
      (asks : Asks access y machine budget far setting k args i) where
    abbrev a : ir.Answer
    a = answer i w here k args

    plan : IsPlannedFor i w here k args
    plan = all_planned i w here k args may other asks

    abbrev at_stub : AtStub closed image start picks y.commit back w a.world a.value i
    at_stub = record {
      here = here.at;
      of = of i w here;
      quiet = quiet i w here;
      registers = here.are;
      link = link;
      target = target;
      planned = plan.planned;
      word = plan.word;
      sound = here.sound;
    }

    back_again : (j : ℕ) × IsBack closed image start picks back w a.world a.value plan.planned.coming i j
    back_again =
        stub_serves known attributed closed image rules place entry y.commit end placed free start picks back w a.world a.value i at_stub

    abbrev j : ℕ
    j = back_again.0

    loads : (b : ℕ) → IsOutsideText b → access.load (run j).memory b 4 ≡ access.load (run (i + 1)).memory b 4
    unfolding access
    loads b out = back_again.1.loads b out

    -- the call leaves the stack
    stack_stays : (b : ℕ) → IsAbove y (reg (run i).regs 2) b → access.load (run (i + 1)).memory b 4 ≡ access.load (run i).memory b 4
    unfolding access
    stack_stays b above =
        let high = asks.high in let begins = laid.stack_begins in let ends = laid.stack_ends in
        loads_stack (Now i).room (Now (i + 1)).room b (omega (arith, above.0, high, begins)) (omega (arith, above.1, ends)) plan.planned.stack_stays

    globals_there : HoldsGlobals access y machine budget far a.world (run j).memory
    globals_there = record {
      sizes = plan.globals.sizes;
      words = plan.globals.words;
      loads = λ g n lt.
          let begins = laid.data_begins g (omega (arith, lt)) in let ends = laid.data_ends g (omega (arith, lt)) in
          loads (y.place g + 4 * n) (omega (arith, begins), omega (arith, ends, lt)) ∙ plan.globals.loads g n lt;
    }

    kept : SetsBack access y machine budget far i j
    kept = record {
      registers = λ q saved.
          back_again.1.others q (kept_register q 5 saved (inl refl)) (kept_register q 6 saved (inr (inl refl))) (kept_register q 7 saved (inr (inr (inl refl))))
          (kept_register q 28 saved (inr (inr (inr (inl refl))))) (kept_register q 10 saved (inr (inr (inr (inr refl)))));
      stack = λ b above.
          let high = asks.high in let begins = laid.stack_begins in let ends = laid.stack_ends in
          loads b (omega (arith, above.0, high, begins), omega (arith, above.1, ends)) ∙ stack_stays b above;
    }

    fit_again : is_fit p (outside a.world) ≡ true
    fit_again =
        let f = known.keep_fit p numbers k args (reg (Now i).regs live_register) w numbered (fit i w here) in
        (known.fits p (outside a.world)).1 (record { bindings = f.bindings; actions = f.actions })

    stands : Stands access y machine budget far back a.world j
    stands = record {
      at = back_again.1.here;
      calm = and_from (is_fit p (outside a.world)) (is_quiet image (outside a.world) (run j).memory) fit_again
          (quiet_tested known image (outside a.world) (run j).memory (quiet_outside image a.world (run j).memory back_again.1.quiet));
      sound = back_again.1.sound;
      globals = globals_there;
      are = back_again.1.registers;
    }

    returns : (spare bound : ℕ) → i + (spare + stub_cost + a.cost) ≤ budget → far ≤ i + bound
        → (t : ℕ) × Returns access y machine budget far spare bound i back a.world t × (reg (run t).regs a0 ≡ a.value)
    returns spare bound paid asked =
        let n = back_again.1.count in
        let cost = plan.cost in
        (j, record { stands = stands; kept = kept; paid = omega (arith, n, cost, paid); asked = omega (arith, n, asked) }, back_again.1.value)

  serves : ServesOrders access y machine budget far setting
  serves k args back i may other count target link spare bound w here asks paid asked =
      returns k args back i w may other count target link here asks spare bound paid asked

pub tabled_orders_are_served : Laws → TabledOrdersAreServed
tabled_orders_are_served known attributed closed image rules input polls words picks y laid place entry end placed free budget far numbers p numbered few tabled knows =
    serves known attributed closed image rules input polls words picks y laid place entry end placed free budget far numbers p numbered few tabled knows
