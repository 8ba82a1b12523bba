-- The code of a call of a known function does what the call means.
use Rattle.std.proofs.Common.{◌≡◌, ◌≢◌, ◌⊎◌, inl, inr, ⊎_elim, ℕ, ◌+◌, ◌*◌, ◌%◌, ◌^◌, ◌<◌, ◌≤◌, Bool, true, ◌&&◌, eqb, ltb, List, ◌∷◌, ◌++◌, length, map, slice_index, pos, Option, sum_by, refl, sym, ap, ◌∙◌, subst, arith}
use Rattle.std.proofs.lemmas.List.{length-map}
use Rattle.std.proofs.lemmas.List.Sums.{sum_by-cons}
use Rattle.std.proofs.lemmas.Bool.{ltb-true, eqb-true, cases_lt}
use Rattle.mv_ast.specs.declared.program.Known.{Known}
use Rattle.mv_ast.specs.declared.program.Known.TheVariants.{Getchar, Putchar, Poll, Plan}
use Rattle.mv_isa.specs.declared.instr.Instr.TheVariants.{Addi, Ecall}
use Rattle.mv_isa.specs.declared.labelled.Line.TheVariants.{Word, Jump}
use Rattle.mv_isa.specs.Code.{greatest_words}
use Rattle.mv_isa.specs.Execution.{Access, reg, put}
use Rattle.mv_isa.specs.Registers.{ra as link_register, a0 as first_register, a1 as second_register, a7 as request_register, s10 as live_register}
use Rattle.mv_ir.specs.declared.tree.Tree.{Tree}
use Rattle.mv_ir.specs.declared.stm.Stm.TheOpen as stm
use Rattle.mv_ir.specs.World as ir
use Rattle.mv_ir.specs.World.{Answer}
use Rattle.mv_ir.specs.Outcome.{State, Bound}
use Rattle.mv_ir.specs.Trees.{nodes_of_all}
use Rattle.mv_ir.specs.WellFormed.{known_arguments, all_true}
use Rattle.mv_ir.specs.Meaning as meaning
use Rattle.mv_ir.specs.Meaning.{with_world, of_tree}
use Rattle.mv_select_code.specs.Trees.TreeCode.{number_lines}
use Rattle.mv_select_code.specs.Trees.Straight.{Straight}
use Rattle.mv_select_code.specs.Trees.View.{AreRegisters}
use Rattle.mv_select_code.proofs.OfTrees.Gives.{number_gives}
use Rattle.mv_select_code.proofs.OfTrees.Instructions.{addi_sets}
use Rattle.mv_select_code.proofs.OfTrees.Registers.{free_low, free_above, reg_zero, put_same, put_other, put_registers}
use Rattle.mv_select_code.proofs.OfTrees.TreesAreShort.{number_size}
use Rattle.mv_select_code.proofs.OfTrees.Words.{add_zero}
use Rattle.mv_select_code.specs.Statements.Leads.{limited}
use Rattle.mv_select_code.specs.Statements.Frames.{Site, IsFine, IsFit, Shows}
use Rattle.mv_select_code.specs.Control.FlowCode.{fine_known, fine_target, fine_layer}
use Rattle.mv_select_code.specs.Control.Runs.{Spot, Machine, outside, IsRun}
use Rattle.mv_select_code.specs.Control.Laws.{uses_of, LinesDo}
use Rattle.mv_select_code.proofs.OfControl.Walk.{placed_split, stands_at, line_does, steps_on, to_stands}
use Rattle.mv_select.specs.Calls.CallCode.{request_of, commit_label, result_lines, argument_lines, order_lines, ask_lines, known_lines}
use Rattle.mv_select.specs.Calls.Convention as convention
use Rattle.mv_select.specs.Calls.Convention.{Layout, IsSaved, IsAbove, HoldsGlobals, Returns}
use Rattle.mv_select.specs.Calls.Environment.{IsDirect, HoldsOrder, Asks, ServesKnown}
use Rattle.mv_select.specs.Calls.Laws.{IsCaller, IsLinked}
use Rattle.mv_select.proofs.OfCalls.Arguments.{arguments_short, values, arguments_first}
use Rattle.mv_select.proofs.OfCalls.CallerShown.{saved_apart, shown_saved, globals_held, shows_after}
use Rattle.mv_select.proofs.OfCalls.Transfers.{sets_on, result_stands}
use Rattle.mv_select.proofs.OfCalls.Guarded.{straight_walk}
use Rattle.mv_select.proofs.OfCalls.Small.{few_arguments}
use Rattle.mv_select.proofs.OfCalls.CallCourse.{call_course}
use Rattle.mv_num.proofs.Booleans.{and_right, and_left}
use Rattle.mv_num.proofs.Numbers.{word_of_pos}

module _ {M : Type 0} (access : Access M) (y : Layout) (s : Site) (setting : ir.Setting) (frame : ir.Frame) (fit : IsFit s access setting frame) (caller : IsCaller y s setting frame)
    (machine : Machine M) (ok : IsRun access s machine) (budget far : ℕ) (place : ℕ → ℕ) (end : ℕ) (linked : IsLinked y (length setting.numbers) place)
    (is_fine : Tree → Bool) (fine_trees : (t : Tree) → is_fine t ≡ true → IsFine s setting frame t) (serves : ServesKnown access y machine budget far setting) where
  open call_course access s machine ok place end budget far use {of.{Placed as P, Here as H}, Stands as W}

  abbrev Gives : Known → List ℕ → State → Answer
  Gives k args l = setting.known k args frame.live l.world

  -- ---- the answer

  -- registers and memory from which a known function is asked
  record Asked (k : Known) (args : List ℕ) (l : State) (regs : List ℕ) (m : M) : Type 0 where
    pub shown : Shows s access l regs m
    pub number : reg regs request_register ≡ request_of k
    pub held : (j : ℕ) → j < length args → reg regs (first_register + j) ≡ slice_index args j
    pub order : HoldsOrder k regs

  asks_at : (k : Known) (args : List ℕ) (pc : ℕ) (l : State) (regs regs' : List ℕ) (m : M) (i : ℕ) → Asked k args l regs m → ((q : ℕ) → 2 ≤ q → reg regs' q ≡ reg regs q)
      → HoldsOrder k regs' → AreRegisters regs' → W l.world pc regs' m i
      → convention.Stands access y machine budget far pc l.world i × Asks access y machine budget far setting k args i × (reg (machine.run i).regs live_register ≡ frame.live)
  asks_at k args pc l regs regs' m i x same order are a = (
    record {
      at = ap (λ (x : Spot M). x.pc) a.is;
      calm = subst (λ (x : M). machine.is_calm (outside l.world) x ≡ true) (sym memory_is) a.calm;
      sound = a.sound;
      globals = subst (λ (x : M). HoldsGlobals access y machine budget far l.world x) (sym memory_is) (globals_held access y s setting frame caller machine budget far l regs m x.shown);
      are = subst AreRegisters (sym regs_is) are;
    },
    record {
      number = held request_register (omega arith) ∙ x.number;
      arguments = λ j lt. held (first_register + j) (omega arith) ∙ x.held j lt;
      order = subst (HoldsOrder k) (sym regs_is) order;
      high = omega (arith, held 2 (omega arith), x.shown.left 2 fit.left.stack, caller.room);
    },
    held live_register (omega arith) ∙ x.shown.left live_register caller.counters.0 ∙ caller.live,
  )
    where
      regs_is : (machine.run i).regs ≡ regs'
      regs_is = ap (λ (x : Spot M). x.regs) a.is

      memory_is : (machine.run i).memory ≡ m
      memory_is = ap (λ (x : Spot M). x.memory) a.is

      held : (q : ℕ) → 2 ≤ q → reg (machine.run i).regs q ≡ reg regs q
      held q le = ap (λ r. reg r q) regs_is ∙ same q le

  above_one : (q : ℕ) → IsSaved q → 2 ≤ q
  above_one q (inl h) = omega (arith, h)
  above_one q (inr (inl h)) = omega (arith, h)
  above_one q (inr (inr h)) = omega (arith, h.0)

  abbrev Served : (spare k i back : ℕ) → Answer → Type 0
  Served spare k i back a = (j : ℕ) × Returns access y machine budget far spare k i back a.world j × (reg (machine.run j).regs first_register ≡ a.value)

  -- the answer comes into its temporary
  answered : (result : Option ℕ) (a : Answer) (spare k i back next : ℕ) (l : State) (regs regs' : List ℕ) (m : M) (pc : ℕ) → fine_target is_fine s.may_ask s.temps (uses_of s) result ≡ true
      → Shows s access l regs m → ((q : ℕ) → 2 ≤ q → reg regs' q ≡ reg regs q) → W l.world pc regs' m i → P (result_lines s.seats result) back next → Served (spare + 1) k i back a
      → (t : ℕ) × H 0 spare k next (meaning.put result a.value (with_world l a.world)) t
  answered result a spare k i back next l regs regs' m pc fine f same at p x =
      let r = x.1 in
      let paid = r.paid in let asked = r.asked in
      result_stands access y s setting frame fit caller machine ok budget far place end linked is_fine result a.value spare k back next (with_world l a.world) a.world (machine.run x.0).regs (machine.run x.0).memory x.0
      fine x.2 (shows_after access y s setting frame caller machine budget far l a.world regs (machine.run x.0).regs m (machine.run x.0).memory f r.stands.globals r.stands.are saved stack) refl p
      (stands_at access s machine ok place end budget far a.world (machine.run x.0).pc back (machine.run x.0).regs (machine.run x.0).memory x.0 r.stands.at (record { is = refl; calm = r.stands.calm; sound = r.stands.sound }))
      (omega (arith, paid)) asked
    where
      before : (q : ℕ) → IsSaved q → reg (machine.run i).regs q ≡ reg regs q
      before q h = ap (λ (z : Spot M). reg z.regs q) at.is ∙ same q (above_one q h)

      saved : (q : ℕ) → IsSaved q → reg (machine.run x.0).regs q ≡ reg regs q
      saved q h = x.1.kept.registers q h ∙ before q h

      stack : (b : ℕ) → IsAbove y (s.register 2) b → access.load (machine.run x.0).memory b 4 ≡ access.load m b 4
      stack b h =
          x.1.kept.stack b (subst (λ sp. IsAbove y sp b) (sym (before 2 (inl refl) ∙ f.left 2 fit.left.stack)) h) ∙ ap (λ (z : Spot M). access.load z.memory b 4) at.is

  -- ---- the question

  -- an environment call
  direct_asked : (k : Known) (args : List ℕ) (result : Option ℕ) (spare bound pc next : ℕ) (l : State) (regs : List ℕ) (m : M) (i : ℕ) → y.may_ask k ≡ true → IsDirect k → length args ≡ known_arguments k
      → fine_target is_fine s.may_ask s.temps (uses_of s) result ≡ true → Asked k args l regs m → P (Word Ecall ∷ result_lines s.seats result) pc next → W l.world pc regs m i
      → i + (spare + 2 + (Gives k args l).cost) ≤ budget → far ≤ i + bound
      → (t : ℕ) × H 0 spare bound next (meaning.put result (Gives k args l).value (with_world l (Gives k args l).world)) t
  direct_asked k args result spare bound pc next l regs m i may is count fine x p a paid asked =
      let z = asks_at k args pc l regs regs m i x (λ q le. refl) x.order x.shown.are a in
      let live : setting.known k args (reg (machine.run i).regs live_register) l.world ≡ Gives k args l = ap (λ n. setting.known k args n l.world) z.2 in
      let served = serves.calls k args pc i may is count p.1.stands.0.word (spare + 1) bound l.world z.0 z.1
      (subst (λ (g : Answer). i + (spare + 1 + 1 + g.cost) ≤ budget) (sym live) (omega (arith, paid))) asked in
      answered result (Gives k args l) spare bound i p.0 next l regs regs m pc fine x.shown (λ q le. refl) a p.2
      (subst (λ b. Served (spare + 1) bound i b (Gives k args l)) (sym p.1.stands.1) (subst (Served (spare + 1) bound i (pc + 4)) live served))

  -- a jump to the stub
  stub_asked : (k : Known) (args : List ℕ) (result : Option ℕ) (spare bound pc next : ℕ) (l : State) (regs : List ℕ) (m : M) (i : ℕ) → y.may_ask k ≡ true → (IsDirect k → ⊥) → length args ≡ known_arguments k
      → fine_target is_fine s.may_ask s.temps (uses_of s) result ≡ true → Asked k args l regs m → ((back : ℕ) → HoldsOrder k (put regs link_register back))
      → P (Jump link_register commit_label ∷ result_lines s.seats result) pc next → W l.world pc regs m i → i + (spare + 17 + (Gives k args l).cost) ≤ budget → far ≤ i + bound
      → (t : ℕ) × H 0 spare bound next (meaning.put result (Gives k args l).value (with_world l (Gives k args l).world)) t
  stub_asked k args result spare bound pc next l regs m i may is count fine x order p a paid asked =
      answered result (Gives k args l) spare bound (i + 1) p.0 next l regs to m y.commit fine x.shown same now p.2 (subst (Served (spare + 1) bound (i + 1) p.0) live served)
    where
      to : List ℕ
      to = put regs link_register p.0

      same : (q : ℕ) → 2 ≤ q → reg (put regs link_register p.0) q ≡ reg regs q
      same q le = put_other regs link_register q p.0 (omega arith) (λ e. omega (arith, e, le))

      now : W l.world y.commit (put regs link_register p.0) m (i + 1)
      now = stands_at access s machine ok place end budget far l.world (place commit_label) y.commit to m (i + 1) linked.commit
          (steps_on access s machine ok place end budget far l.world pc (place commit_label) regs to m m i
          (line_does access s machine ok place end budget far l.world pc p.0 regs m i (Jump link_register commit_label) p.1.stands p.1 a) (inl refl) a)

      small : p.0 < 2 ^ 32
      small = let here = p.1.here in omega (arith, here.1, p.1.stands.end_is)

      z : convention.Stands access y machine budget far y.commit l.world (i + 1) × Asks access y machine budget far setting k args (i + 1) × (reg (machine.run (i + 1)).regs live_register ≡ frame.live)
      z = asks_at k args y.commit l regs to m (i + 1) x same (order p.0) (put_registers regs link_register p.0 x.shown.are (free_low link_register (omega arith) (omega arith)) small) now

      even : p.0 % 4 ≡ 0
      even = let here = p.1.here in omega (arith, here.2, p.1.stands.end_is)

      ra : reg (machine.run (i + 1)).regs link_register ≡ p.0
      ra = ap (λ (q : Spot M). reg q.regs link_register) now.is ∙ put_same regs link_register p.0 (omega arith) (omega (arith, x.shown.are.count))

      live : setting.known k args (reg (machine.run (i + 1)).regs live_register) l.world ≡ setting.known k args frame.live l.world
      live = ap (λ n. setting.known k args n l.world) z.2

      enough : i + 1 + (spare + 1 + 15 + (setting.known k args (reg (machine.run (i + 1)).regs live_register) l.world).cost) ≤ budget
      enough = subst (λ (g : Answer). i + 1 + (spare + 1 + 15 + g.cost) ≤ budget) (sym live) (omega (arith, paid))

      served : Served (spare + 1) bound (i + 1) p.0 (setting.known k args (reg (machine.run (i + 1)).regs live_register) l.world)
      served = serves.stub k args p.0 (i + 1) may is count (small, even) ra (spare + 1) bound l.world z.0 z.1 enough (omega (arith, asked))

  -- ---- what is asked for

  -- the known function is asked
  asked_follows : (k : Known) (args : List ℕ) (result : Option ℕ) (spare bound pc next : ℕ) (l : State) (regs : List ℕ) (m : M) (i : ℕ) → y.may_ask k ≡ true → length args ≡ known_arguments k
      → fine_target is_fine s.may_ask s.temps (uses_of s) result ≡ true → Asked k args l regs m → P (ask_lines k ++ result_lines s.seats result) pc next → W l.world pc regs m i
      → i + (spare + 17 + (Gives k args l).cost) ≤ budget → far ≤ i + bound
      → (t : ℕ) × H 0 spare bound next (meaning.put result (Gives k args l).value (with_world l (Gives k args l).world)) t
  asked_follows Getchar args result spare bound pc next l regs m i may count fine x p a paid asked = direct_asked Getchar args result spare bound pc next l regs m i may tt count fine x p a (omega (arith, paid)) asked
  asked_follows Putchar args result spare bound pc next l regs m i may count fine x p a paid asked = direct_asked Putchar args result spare bound pc next l regs m i may tt count fine x p a (omega (arith, paid)) asked
  asked_follows Poll args result spare bound pc next l regs m i may count fine x p a paid asked =
      stub_asked Poll args result spare bound pc next l regs m i may (λ h. h) count fine x (λ back. tt) p a paid asked
  asked_follows (Plan code index) args result spare bound pc next l regs m i may count fine x p a paid asked =
      stub_asked (Plan code index) args result spare bound pc next l regs m i may (λ h. h) count fine x
      (λ back. (put_other regs link_register first_register back (omega arith) (λ e. omega (arith, e)) ∙ x.order.0, put_other regs link_register second_register back (omega arith) (λ e. omega (arith, e)) ∙ x.order.1)) p a paid asked

  -- ---- an order's numbers

  record HasOrder (k : Known) (l : State) (regs : List ℕ) (m : M) : Type 0 where
    pub after : List ℕ
    pub runs : Straight (limited access s) m s.entry (order_lines k) regs after
    pub shown : Shows s access l after m
    pub order : HoldsOrder k after
    pub kept : (j : ℕ) → j < known_arguments k → reg after (first_register + j) ≡ reg regs (first_register + j)

  -- another register is outside of one alone
  beside : (r q : ℕ) → q ≢ r → (q < r) ⊎ (r + 1 ≤ q)
  beside r q ne = ⊎_elim (λ (l : q < r). inl l) (λ (l : r ≤ q). inr (grind (arith, ne))) (cases_lt q r)

  order_short : (k : Known) → sum_by greatest_words (order_lines k) ≤ 3
  order_short Getchar = omega arith
  order_short Putchar = omega arith
  order_short Poll = omega arith
  order_short (Plan code index) = omega (arith, sum_by-cons greatest_words (Word (Addi first_register 0 (pos code))) (number_lines index second_register), number_size index second_register)

  order_held : (k : Known) (l : State) (regs : List ℕ) (m : M) → fine_known is_fine s.may_ask s.temps (uses_of s) k ≡ true → Shows s access l regs m → HasOrder k l regs m
  order_held Getchar l regs m fine f = record { after = regs; runs = refl; shown = f; order = tt; kept = λ j lt. refl }
  order_held Putchar l regs m fine f = record { after = regs; runs = refl; shown = f; order = tt; kept = λ j lt. refl }
  order_held Poll l regs m fine f = record { after = regs; runs = refl; shown = f; order = tt; kept = λ j lt. refl }
  order_held (Plan code index) l regs m fine f =
      let fit = and_right (s.may_ask (Plan code index)) (ltb code 256 && ltb index (2 ^ 32)) fine in
      let small = ltb-true code 256 (and_left (ltb code 256) (ltb index (2 ^ 32)) fit) in
      let word = ltb-true index (2 ^ 32) (and_right (ltb code 256) (ltb index (2 ^ 32)) fit) in
      let mid = put regs first_register code in
      let are = put_registers regs first_register code f.are (free_above first_register (omega arith) (omega arith)) (omega (arith, small)) in
      let g = number_gives (limited access s) m s.entry 11 12 second_register index mid are (record { from = omega arith; below = omega arith; free = free_above second_register (omega arith) (omega arith) }) word in
      record {
        after = g.after;
        runs = (mid, addi_sets (limited access s) m first_register 0 (pos code) regs 0 code code (reg_zero regs) (word_of_pos code (omega (arith, small))) (add_zero code (omega (arith, small))), g.runs);
        shown = shown_saved access y s setting frame caller l regs g.after m g.changes.are
            (λ q h. g.changes.others q (beside second_register q (saved_apart q second_register (omega arith) (omega arith) h))
            ∙ put_other regs first_register q code (omega arith) (saved_apart q first_register (omega arith) (omega arith) h)) f;
        order = (g.changes.others first_register (inl (omega arith)) ∙ put_same regs first_register code (omega arith) (omega (arith, f.are.count)), g.holds);
        kept = λ j lt. absurd (omega (arith, lt));
      }

  -- the code may ask for it
  may_be_asked : (k : Known) → fine_known is_fine s.may_ask s.temps (uses_of s) k ≡ true → y.may_ask k ≡ true
  may_be_asked Getchar fine = caller.may_ask Getchar fine
  may_be_asked Putchar fine = caller.may_ask Putchar fine
  may_be_asked Poll fine = caller.may_ask Poll fine
  may_be_asked (Plan code index) fine = caller.may_ask (Plan code index) (and_left (s.may_ask (Plan code index)) (ltb code 256 && ltb index (2 ^ 32)) fine)

  -- ---- the whole call

  request_small : (k : Known) → request_of k < 6
  request_small Getchar = omega arith
  request_small Putchar = omega arith
  request_small Poll = omega arith
  request_small (Plan code index) = omega arith

  order_kept : (k : Known) (regs : List ℕ) (v : ℕ) → HoldsOrder k regs → HoldsOrder k (put regs request_register v)
  order_kept Getchar regs v h = tt
  order_kept Putchar regs v h = tt
  order_kept Poll regs v h = tt
  order_kept (Plan code index) regs v h =
      (put_other regs request_register first_register v (omega arith) (λ e. omega (arith, e)) ∙ h.0, put_other regs request_register second_register v (omega arith) (λ e. omega (arith, e)) ∙ h.1)

  -- the number of the request stands in a7
  requested : (k : Known) (args : List ℕ) (l : State) (regs : List ℕ) (m : M) → length args ≡ known_arguments k → Shows s access l regs m
      → ((j : ℕ) → j < length args → reg regs (first_register + j) ≡ slice_index args j) → HoldsOrder k regs → Asked k args l (put regs request_register (request_of k)) m
  requested k args l regs m count f held order = record {
    shown = shown_saved access y s setting frame caller l regs (put regs request_register n) m
        (put_registers regs request_register n f.are (free_above request_register (omega arith) (omega arith)) (omega (arith, request_small k)))
        (λ q h. put_other regs request_register q n (omega arith) (saved_apart q request_register (omega arith) (omega arith) h)) f;
    number = put_same regs request_register n (omega arith) (omega (arith, f.are.count));
    held = λ j lt. put_other regs request_register (first_register + j) n (omega arith) (λ e. omega (arith, e, lt, count, few_arguments k)) ∙ held j lt;
    order = order_kept k regs n order;
  }
    where
      n : ℕ
      n = request_of k

  pub known_done : (top : Bound) (result : Option ℕ) (k : Known) (args : List Tree) → fine_layer is_fine s.may_ask s.temps (uses_of s) (stm.Known result k args) ≡ true
      → LinesDo access s setting frame machine place end budget far is_fine top (known_lines s.seats result k args) (stm.Known result k args)
  known_done top result k args fine spare around pc next bound within p l i h =
      let trees = all_true (map is_fine args) in
      let target = fine_target is_fine s.may_ask s.temps (uses_of s) result in
      let order = fine_known is_fine s.may_ask s.temps (uses_of s) k in
      let count = eqb-true (length args) (known_arguments k) (and_left (eqb (length args) (known_arguments k)) (order && (target && trees)) fine) in
      let parts = and_right (eqb (length args) (known_arguments k)) (order && (target && trees)) fine in
      let both = and_right order (target && trees) parts in
      let m = (machine.run i).memory in
      let regs = (machine.run i).regs in
      let vs = values setting frame args l in
      let same = length-map args (λ t. of_tree setting frame t l) ∙ count in
      let request = Addi request_register 0 (pos (request_of k)) in
      let z = arguments_first access y s setting frame fit caller is_fine fine_trees args first_register l regs m (omega arith) (omega (arith, count, few_arguments k)) (and_right target trees both) h.shows in
      let q = placed_split machine.text place s.entry (argument_lines s.seats first_register args) (order_lines k ++ (Word request ∷ (ask_lines k ++ result_lines s.seats result))) pc next p in
      let o = order_held k l z.after m (and_left order (target && trees) parts) z.shown in
      let u = placed_split machine.text place s.entry (order_lines k) (Word request ∷ (ask_lines k ++ result_lines s.seats result)) q.0 next q.2 in
      let cost = (Gives k vs l).cost in
      let r = straight_walk access y s setting frame fit caller machine ok budget far place end linked is_fine (argument_lines s.seats first_register args) (2 * nodes_of_all args) l.world pc q.0 regs z.after m i
      (arguments_short s.seats first_register args) q.1 z.runs
      (to_stands access s machine ok place end budget far 0 (spare + (30 + 3 * nodes_of_all args + cost)) (length bound) pc l i h) in
      let w = straight_walk access y s setting frame fit caller machine ok budget far place end linked is_fine (order_lines k) 3 l.world q.0 u.0 z.after o.after m r.time (order_short k) u.1 o.runs r.stands in
      let a = sets_on access y s setting frame fit caller machine ok budget far place end linked is_fine request l.world u.0 u.2.0 o.after (put o.after request_register (request_of k)) m w.time
      (addi_sets (limited access s) m request_register 0 (pos (request_of k)) o.after 0 (request_of k) (request_of k) (reg_zero o.after)
      (word_of_pos (request_of k) (omega (arith, request_small k))) (add_zero (request_of k) (omega (arith, request_small k))))
      u.2.1 w.stands in
      let late = r.late in let soon = r.soon in let later = w.late in let sooner = w.soon in let paid = h.paid in let asked = h.asked in
      asked_follows k vs result spare (length bound) u.2.0 next l (put o.after request_register (request_of k)) m (w.time + 1) (may_be_asked k (and_left order (target && trees) parts)) same (and_left target trees both)
      (requested k vs l o.after m same o.shown (λ j lt. o.kept j (omega (arith, lt, same)) ∙ z.hold j (omega (arith, lt, same, count))) o.order)
      u.2.2 a (omega (arith, paid, soon, sooner)) (omega (arith, asked, late, later))
