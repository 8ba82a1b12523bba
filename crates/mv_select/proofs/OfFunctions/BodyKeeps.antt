-- The body of a function does what it means, and comes back: what is common to all ways to keep temporaries.
use Rattle.std.proofs.Common.{◌≡◌, inl, ℕ, ◌+◌, ◌-◌, ◌^◌, ◌<◌, ◌≤◌, Bool, true, false, not, ◌&&◌, cond, ltb, List, [], ◌∷◌, length, slice_index, Some, None, refl, sym, ap, ◌∙◌, subst, arith}
use Rattle.std.proofs.lemmas.Bool.{ltb-true}
use Rattle.mv_num.proofs.Booleans.{and_left, and_right}
use Rattle.mv_ast.specs.declared.program.Known.{Known}
use Rattle.mv_isa.specs.Code.{IsPlace}
use Rattle.mv_isa.specs.Execution.{Access, reg}
use Rattle.mv_isa.specs.Registers.{a0}
use Rattle.mv_ir.specs.declared.tree.Tree.{Tree}
use Rattle.mv_ir.specs.declared.body.Body.{Body}
use Rattle.mv_ir.specs.Trees.{found}
use Rattle.mv_ir.specs.World as ir
use Rattle.mv_ir.specs.World.{World}
use Rattle.mv_ir.specs.Outcome.{State, Returned, Trapped, More, Stuck, Outcome, Next, Leaves, Restarts, Ends, Bound}
use Rattle.mv_ir.specs.Meaning.{Contents, code_meaning, body_end, body_from}
use Rattle.mv_select_code.specs.Trees.TreeCode.{register_of}
use Rattle.mv_select_code.specs.Trees.View.{AreRegisters}
use Rattle.mv_select_code.specs.declared.trees.places.Keeping.{Keeping}
use Rattle.mv_select_code.specs.declared.trees.places.Keeping.TheVariants.{Saved, Arguments, Mixed}
use Rattle.mv_select_code.specs.Statements.Frames.{Site, IsFine, IsFit, Shows, Reach}
use Rattle.mv_select_code.specs.Control.FlowCode.{fall_to, are_fine}
use Rattle.mv_select_code.specs.Control.Runs.{Spot, Machine, outside, IsRun}
use Rattle.mv_select_code.specs.Control.Laws.{CallsDo, uses_in}
use Rattle.mv_select_code.specs.Control.Flow.{IsWithin, Here, Follows}
use Rattle.mv_select_code.proofs.OfControl.Composition.{rest}
use Rattle.mv_select_code.proofs.OfControl.StatementsDo.{flow_done}
use Rattle.mv_select_code.proofs.OfControl.Walk.{stands_at, to_stands, to_here}
use Rattle.mv_select.specs.Calls.CallCode.{calls_of}
use Rattle.mv_select.specs.Calls.Convention as convention
use Rattle.mv_select.specs.Calls.Convention.{Layout, HoldsGlobals, Returns, FollowsCall, frame_limit}
use Rattle.mv_select.specs.Calls.Laws.{IsLinked}
use Rattle.mv_select.specs.Functions.FunctionCode.{bytes_of, body_lines, end_label, seats_of, calls_nothing}
use Rattle.mv_select.specs.Functions.Functions.{IsLaid, IsMemory, IsFunction, IsAmple, RunsWithin, calls_by, asks_by, site_of, keeping_of, frame_in}
use Rattle.mv_select.proofs.OfFunctions.Begun.{Begun, frame_at}
use Rattle.mv_select.proofs.OfFunctions.Contents.{contents_at, holds_still}
use Rattle.mv_select.proofs.OfFunctions.Entered.{Entered, Unwound}
use Rattle.mv_select.proofs.OfFunctions.EntryShown as shown
use Rattle.mv_select.proofs.OfFunctions.Frame.{shape_at, frame_of, lowered_small, IsFrame, own_words, frame_fits}
use Rattle.mv_select.proofs.OfFunctions.PinsChosen.{pins_are}
use Rattle.mv_select.proofs.OfFunctions.FrameWords.{words_site, ok, other_frame, frame_course}
use Rattle.mv_select.proofs.OfFunctions.SilentFine.{silent_fine}

-- a bound is within itself
within_self : (levels : Bound) → IsWithin levels levels
within_self [] = refl
within_self (calls ∷ below) = inl refl

-- ---- what is known of a body that keeps its temporaries in some way

-- As of a function. One that saves nothing calls nothing, has few temporaries, and isn't attributed.
pub record IsKept (y : Layout) (setting : ir.Setting) (attributed : Bool) (k : Keeping) (bound : List (ℕ × ℕ)) (reach : Reach) (is_fine : Tree → Bool) (body : Body) : Type 0 where
  pub params : body.params ≤ 8
  pub temps : body.params ≤ body.temps
  pub small : bytes_of (shape_at attributed k body) ≤ frame_limit
  pub read : (g : ℕ) → reach.is_read g ≡ true → 0 < y.size g
  pub free : (g : ℕ) → reach.is_read g ≡ true → found bound g ≡ None
  pub fine : are_fine is_fine (asks_by k y.may_ask) body.temps (uses_in y.size reach (calls_by k)) body.code ≡ true
  pub trees : (t : Tree) → is_fine t ≡ true → (depth live : ℕ) (register : ℕ → ℕ) (is_kept : ℕ → Bool) (kept : ℕ → ℕ) →
      IsFine (site_of y reach (shape_at attributed k body) register is_kept kept) setting (frame_in attributed bound depth live) t
  pub few : k ≡ Arguments → body.temps < 9
  pub plain : k ≡ Arguments → attributed ≡ false

-- whether there are few temporaries, and whether the function is plain and calls nothing
keeping_says : (b few : Bool) → cond b (cond few Arguments Mixed) Saved ≡ Arguments → (b ≡ true) × (few ≡ true)
keeping_says true true e = (refl, refl)
keeping_says true false e = cc
keeping_says false few e = cc

keeping_mixed : (b few : Bool) → cond b (cond few Arguments Mixed) Saved ≡ Mixed → b ≡ true
keeping_mixed true few e = refl
keeping_mixed false few e = cc

is_plain : (b : Bool) → not b ≡ true → b ≡ false
is_plain true e = cc
is_plain false e = refl

pub is_kept : (y : Layout) (setting : ir.Setting) (attributed : Bool) (bound : List (ℕ × ℕ)) (reach : Reach) (is_fine : Tree → Bool) (body : Body)
    → IsFunction y setting attributed bound reach is_fine body → IsKept y setting attributed (keeping_of attributed body) bound reach is_fine body
is_kept y setting attributed bound reach is_fine body fn = record {
  params = fn.params;
  temps = fn.temps;
  small = fn.small;
  read = fn.read;
  free = fn.free;
  fine = fine (keeping_of attributed body) refl;
  trees = fn.trees;
  few = λ e. ltb-true body.temps 9 (keeping_says (not attributed && calls_nothing body.code) (ltb body.temps 9) e).1;
  plain = λ e. is_plain attributed (and_left (not attributed) (calls_nothing body.code) (keeping_says (not attributed && calls_nothing body.code) (ltb body.temps 9) e).0);
}
  where
    silent : (other : Known → Bool) → (not attributed && calls_nothing body.code) ≡ true → are_fine is_fine other body.temps (uses_in y.size reach false) body.code ≡ true
    silent other leaf = silent_fine is_fine y.may_ask other body.temps (uses_in y.size reach true) false body.code (and_right (not attributed) (calls_nothing body.code) leaf) fn.fine

    fine : (k : Keeping) → keeping_of attributed body ≡ k → are_fine is_fine (asks_by k y.may_ask) body.temps (uses_in y.size reach (calls_by k)) body.code ≡ true
    fine Saved e = fn.fine
    fine Arguments e = silent (asks_by Arguments y.may_ask) (keeping_says (not attributed && calls_nothing body.code) (ltb body.temps 9) e).0
    fine Mixed e = silent (asks_by Mixed y.may_ask) (keeping_mixed (not attributed && calls_nothing body.code) (ltb body.temps 9) e)

-- ---- the frame of a call

module _ {M : Type 0} (y : Layout) (laid : IsLaid y) (machine : Machine M) (setting : ir.Setting) (attributed : Bool) (k : Keeping) (bound : List (ℕ × ℕ)) (reach : Reach)
    (is_fine : Tree → Bool) (body : Body) (fn : IsKept y setting attributed k bound reach is_fine body) (depth live : ℕ) (args : List ℕ) (i : ℕ)
    (begun : Begun y machine attributed depth live args i) where
  pub small : frame_of (shape_at attributed k body) ≤ reg (machine.run i).regs 2
  small = omega (arith, begun.room, fn.small, lowered_small k body.arrays (bytes_of (shape_at attributed k body)))

  pub is_frame : IsFrame y (shape_at attributed k body) (reg (machine.run i).regs 2 - frame_of (shape_at attributed k body)) (reg (machine.run i).regs 2)
  is_frame = record {
    below = omega (arith, small);
    even = begun.even;
    low = omega (arith, begun.room, fn.small, small, lowered_small k body.arrays (bytes_of (shape_at attributed k body)));
    high = begun.within;
    few = fn.few;
    pins = pins_are k body;
  }

  pub live_small : live + 1 < 2 ^ 32
  live_small = omega (arith, begun.counts, begun.left)

-- ---- the body, entered

module _ {M : Type 0} (access : Access M) (y : Layout) (laid : IsLaid y) (machine : Machine M) (memory : IsMemory access y machine)
    (reach : Reach) (ample : IsAmple y reach) (runs : RunsWithin access y machine reach) (setting : ir.Setting)
    (entries : (f : ℕ) → f < length setting.numbers → (slice_index setting.numbers f ≡ y.entry f) × IsPlace (y.entry f))
    (budget far : ℕ) (attributed : Bool) (k : Keeping) (bound : List (ℕ × ℕ)) (is_fine : Tree → Bool) (body : Body) (fn : IsKept y setting attributed k bound reach is_fine body)
    (place : ℕ → ℕ) (pc from : ℕ) (depth live : ℕ) (args : List ℕ) (i : ℕ) (count : length args ≡ body.params)
    (w : World) (stands : convention.Stands access y machine budget far pc w i) (begun : Begun y machine attributed depth live args i)
    (e : Entered access y laid machine memory reach ample runs budget far place (shape_at attributed k body) args live (reg (machine.run i).regs 2 - frame_of (shape_at attributed k body))
    (machine.run i).regs (machine.run i).memory w from i) where
  open frame_course access y laid machine memory reach ample runs budget far place use {of.{Placed as Ps}, Stands as Ws}

  abbrev sp : ℕ
  sp = reg (machine.run i).regs 2 - frame_of (shape_at attributed k body)

  abbrev pub frame : ir.Frame
  frame = frame_at attributed bound depth live

  abbrev caller : ℕ
  caller = reg (machine.run i).regs 2

  pub is : IsFrame y (shape_at attributed k body) (reg e.regs 2) (reg (machine.run i).regs 2)
  is = subst (λ z. IsFrame y (shape_at attributed k body) z (reg (machine.run i).regs 2)) (sym e.sp_is)
      (is_frame y laid machine setting attributed k bound reach is_fine body fn depth live args i begun)

  abbrev pub calm : machine.is_calm (outside w) e.mem ≡ true
  calm = e.stands.calm

  abbrev pub S : Site
  S = shown.Here access y laid machine memory budget far reach attributed k body (outside w) e.regs e.mem (reg (machine.run i).regs 2) is e.stands.calm

  abbrev kept : ℕ → ℕ
  kept = shown.word_at access e.mem

  globals_now : HoldsGlobals access y machine budget far w e.mem
  globals_now = record { sizes = stands.globals.sizes; words = stands.globals.words; loads = λ g n lt. e.globals g n lt ∙ stands.globals.loads g n lt }

  held : (j q : ℕ) → j < length args → register_of k j ≡ Some q → reg e.regs q ≡ slice_index args j
  held j q lt seat = e.held j q (omega (arith, lt, count)) seat

  few : length args ≤ 8
  few = omega (arith, count, fn.params)

  enough : length args ≤ body.temps
  enough = omega (arith, count, fn.temps)

  abbrev pub contents : Contents
  contents = contents_at access machine (shape_at attributed k body) (length args) i

  held_still : shown.Holds access y laid machine memory budget far reach attributed k body (outside w) e.regs e.mem caller is calm (length args)
      (contents_at access machine (shape_at attributed k body) (length args) i)
  held_still = holds_still access y laid machine memory reach ample runs budget far place attributed k body args live sp caller (machine.run i).regs (machine.run i).memory w from i e is calm count

  abbrev begin : State
  begin = shown.begin access y laid machine memory budget far reach attributed k body (outside w) e.regs e.mem caller is calm args contents w few enough e.are globals_now held held_still e.pinned

  begins : Shows S access begin e.regs e.mem
  begins = shown.begins_shown access y laid machine memory budget far reach attributed k body (outside w) e.regs e.mem caller is calm args contents w few enough e.are globals_now held held_still e.pinned

  pub fit : IsFit S access setting frame
  fit = frame_fits y laid reach (shape_at attributed k body) (reg e.regs) caller kept is access machine memory setting frame entries ample fn.read fn.free

  abbrev pub okS : IsRun access S machine
  okS = runs S (own_words y laid reach (shape_at attributed k body) (reg e.regs) caller kept is) (λ a h. h)

  pub fine_trees : (t : Tree) → is_fine t ≡ true → IsFine S setting frame t
  fine_trees t h = let fine = fn.trees t h depth live (reg e.regs) S.is_kept kept in record { named = fine.named; shallow = fine.shallow }

  module _ (linked : IsLinked y (length setting.numbers) place) (levels : Bound) (is_attributed : ℕ → Bool)
      (calls_do : CallsDo access S setting frame machine place end_label budget far is_fine levels (calls_of (seats_of y.place (shape_at attributed k body)) is_attributed))
      (to : ℕ) (placed : Ps (body_lines y.place y.size is_attributed (shape_at attributed k body) body.code) from to) (ended : place end_label ≡ to) (back : ℕ)
      (unwind : (l : State) (regs : List ℕ) (m : M) (j : ℕ) → Shows S access l regs m → Ws l.world to regs m j
      → Unwound access y laid machine memory reach ample runs budget far place (machine.run i).regs (machine.run i).memory back l.world regs m j) where
    abbrev H : (over spare k pc : ℕ) → State → ℕ → Type 0
    H = Here access S machine place end_label budget far

    abbrev cost : ℕ
    cost = (code_meaning setting frame body.code levels begin).cost

    follows : (spare : ℕ) → i + (spare + 44 + cost) ≤ budget → far ≤ i + length levels
        → Follows access S machine place end_label budget far (spare + 13) (length levels) [] (place end_label) (code_meaning setting frame body.code levels begin).outcome
    follows spare paid asked =
        let late = e.late in let soon = e.soon in
        flow_done access S setting frame fit machine okS is_fine fine_trees place end_label budget far levels (calls_of (seats_of y.place (shape_at attributed k body)) is_attributed) calls_do body.code fn.fine
        (spare + 13) (end_label + 1) [] (fall_to end_label) from to levels (within_self levels) placed (λ x. ended) begin e.time
        (to_here access S machine okS place end_label budget far 0 (spare + 13 + cost) (length levels) from begin w e.regs e.mem e.time refl begins (omega (arith, paid, soon)) (omega (arith, asked, late))
        (other_frame access y laid machine memory reach ample runs budget far place (words_site y reach) S (ok access y laid machine memory reach ample runs budget far place) okS 0 end_label place w from e.regs e.mem e.time e.stands))

    -- ---- return

    returns : (spare n : ℕ) (l : State) (j : ℕ) → H 0 (spare + 13) n (place end_label) l j
        → (t : ℕ) × Returns access y machine budget far spare n i back l.world t × (reg (machine.run t).regs a0 ≡ reg (machine.run j).regs a0)
    returns spare n l j h = (un.time, came, ap (λ (x : Spot M). reg x.regs a0) un.stands.is ∙ un.result)
      where
        a : Ws l.world to (machine.run j).regs (machine.run j).memory j
        a = stands_at access (words_site y reach) machine (ok access y laid machine memory reach ample runs budget far place) place 0 budget far l.world (place end_label) to (machine.run j).regs (machine.run j).memory j ended
            (other_frame access y laid machine memory reach ample runs budget far place S (words_site y reach) okS (ok access y laid machine memory reach ample runs budget far place) end_label 0 place l.world (place end_label)
            (machine.run j).regs (machine.run j).memory j (to_stands access S machine okS place end_label budget far 0 (spare + 13) n (place end_label) l j h))

        un : Unwound access y laid machine memory reach ample runs budget far place (machine.run i).regs (machine.run i).memory back l.world (machine.run j).regs (machine.run j).memory j
        un = unwind l (machine.run j).regs (machine.run j).memory j h.shows a

        memory_is : (machine.run un.time).memory ≡ (machine.run j).memory
        memory_is = ap (λ (x : Spot M). x.memory) un.stands.is

        regs_is : (machine.run un.time).regs ≡ un.after
        regs_is = ap (λ (x : Spot M). x.regs) un.stands.is

        came : Returns access y machine budget far spare n i back l.world un.time
        came = record {
          stands = record {
            at = ap (λ (x : Spot M). x.pc) un.stands.is;
            calm = subst (λ (x : M). machine.is_calm (outside l.world) x ≡ true) (sym memory_is) un.stands.calm;
            sound = un.stands.sound;
            globals = subst (λ (x : M). HoldsGlobals access y machine budget far l.world x) (sym memory_is)
                (shown.globals_shown access y laid machine memory budget far reach attributed k body (outside w) e.regs e.mem caller is calm l (machine.run j).regs (machine.run j).memory h.shows);
            are = subst AreRegisters (sym regs_is) un.are;
          };
          kept = record {
            registers = λ q s. ap (λ r. reg r q) regs_is ∙ un.registers q s;
            stack = λ b s. ap (λ (x : M). access.load x b 4) memory_is ∙ un.stack b s;
          };
          paid = let soon = un.soon in let paid = h.paid in omega (arith, paid, soon);
          asked = let late = un.late in let asked = h.asked in omega (arith, asked, late);
        }

    came_back : (spare n : ℕ) (l : State) (j : ℕ) → H 0 (spare + 13) n (place end_label) l j → FollowsCall access y machine budget far spare n i back (Returned None l.world)
    came_back spare n l j h = let r = returns spare n l j h in (r.0, r.1)

    finish : (spare n : ℕ) (r : Outcome) → Follows access S machine place end_label budget far (spare + 13) n [] (place end_label) r → FollowsCall access y machine budget far spare n i back (body_end r)
    finish spare n (Next l) f = came_back spare n l f.0 f.1
    finish spare n (Leaves x l) f = came_back spare n l f.0 f.1
    finish spare n (Restarts x l) f = came_back spare n l f.0 (rest access S machine place end_label budget far 1 (spare + 13) n 0 (spare + 13) n (place end_label) l f.0 (omega arith) (omega arith) f.1)
    finish spare n (Ends (Returned None v)) f = absurd f
    finish spare n (Ends (Returned (Some x) v)) f =
        let r = returns spare n f.1 f.0 f.3 in
        (r.0, subst (λ u. Returns access y machine budget far spare n i back u r.0) f.2 r.1, r.2 ∙ f.4)
    finish spare n (Ends (Trapped c v)) f = (f.0, record { at = f.1.at ∙ linked.traps c; calm = f.1.calm; sound = f.1.sound; paid = f.1.paid })
    finish spare n (Ends (More v)) f = (f.0, record { calm = f.1.calm; sound = f.1.sound; paid = f.1.paid; asked = f.1.asked })
    finish spare n (Ends Stuck) f = tt

    pub body_keeps : (spare : ℕ) → i + (spare + 44 + (body_from setting frame contents body args levels w).cost) ≤ budget → far ≤ i + length levels
        → FollowsCall access y machine budget far spare (length levels) i back (body_from setting frame contents body args levels w).end
    body_keeps spare paid asked = finish spare (length levels) (code_meaning setting frame body.code levels begin).outcome (follows spare paid asked)
