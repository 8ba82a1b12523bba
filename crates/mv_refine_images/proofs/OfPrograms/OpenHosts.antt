-- A machine that is calm in any worlds, narrowed to fit ones.
use Rattle.std.proofs.Common.{◌≡◌, ℕ, ◌+◌, Bool, true, List, length, Option}
use Rattle.std.proofs.lemmas.Bool.{and_parts}
use Rattle.mv_ast.specs.declared.program.Program.{Program}
use Rattle.mv_bindings.specs.declared.binding.Binding.{Binding}
use Rattle.mv_isa.specs.Execution.{Access}
use Rattle.mv_ir.specs.World.{World}
use Rattle.mv_ir.specs.Programs.{setting_of}
use Rattle.mv_ir_worlds.specs.Fit.{IsFit, is_fit}
use Rattle.mv_ir_worlds.specs.Laws.{FitIsTold, KnownsKeepFit, FirstIsFit}
use Rattle.mv_select_code.specs.Control.Runs.{Machine, outside}
use Rattle.mv_select.specs.Calls.Convention.{Layout, Returns}
use Rattle.mv_select.specs.Calls.Environment.{ServesCalls}
use Rattle.mv_select.specs.Functions.Functions.{part, alone}
use Rattle.mv_select.specs.Slots.Narrowed.{narrowed, has_bindings, words_alone}
use Rattle.mv_select.specs.Slots.Laws as narrow
use Rattle.mv_refine_images.specs.Programs.Hosts.{IsHost, IsOpenHost}
use Rattle.mv_refine_images.specs.Programs.Laws.{first_seen, HostsAreNarrowed, MainFollows, MainFollowsOpenly}

module _ {M : Type 0} (told : FitIsTold) (keep : KnownsKeepFit) (alike : narrow.NarrowedAreAlike M) (runs : narrow.NarrowedRuns M)
    (access : Access M) (y : Layout) (machine : Machine M) (words : List Binding → ℕ → Option ℕ) (closed : (pc address : ℕ) → Bool) (budget far : ℕ) (p : Program) (numbers : List ℕ) where
  abbrev fit : Machine M
  fit = narrowed machine (is_fit p) machine.text

  -- a call that is served leaves a fit world
  serves_calls : length numbers ≡ length p.functions → ServesCalls access y machine budget far (setting_of numbers p) → ServesCalls access y fit budget far (setting_of numbers p)
  serves_calls count_is serves k args pc i may direct count word spare bound w stands asks paid asked =
      let a = alike access y machine (is_fit p) machine.text budget far in
      let is : is_fit p w ≡ true = (and_parts (is_fit p (outside w)) (machine.is_calm (outside w) (machine.run i).memory) stands.calm).0 in
      let after : IsFit p _ = keep p numbers k args _ w count_is ((told p w).0 is) in
      let s = serves k args pc i may direct count word spare bound w ((a.0 pc w i is).1 stands) (record { number = asks.number; arguments = asks.arguments; order = asks.order; high = asks.high }) paid asked in
      (s.0, returns spare bound i (pc + 4) _ s.0 ((told p _).1 after) s.1, s.2)
    where
      returns : (spare k i back : ℕ) (w : World) (j : ℕ) → is_fit p w ≡ true → Returns access y machine budget far spare k i back w j → Returns access y fit budget far spare k i back w j
      returns spare k i back w j t h = record {
        stands = ((alike access y machine (is_fit p) machine.text budget far).0 back w j t).0 h.stands;
        kept = record { registers = h.kept.registers; stack = h.kept.stack };
        paid = h.paid;
        asked = h.asked;
      }

  host : IsOpenHost access y machine words closed budget far p numbers → IsHost access y fit words closed budget far p numbers
  host h = record {
    laid = h.laid;
    memory = (runs access y machine (is_fit p)).2 machine.text h.memory;
    sizes = h.sizes;
    runs = λ from to reach free s stands less. (runs access y (alone machine from to) (is_fit p)).0 s (h.runs from to reach free s stands less);
    runs_under = λ bs from to reach free s stands less.
        (runs access y machine (has_bindings bs)).1 (is_fit p) (part from to (words_alone (words bs))) machine.text s (h.runs_under bs from to reach free s stands less);
    entries = h.entries;
    serves = record { calls = serves_calls h.count h.calls; stub = h.stub };
    fit = λ w m calm. (told p w).0 (and_parts (is_fit p w) (machine.is_calm w m) calm).0;
    count = h.count;
    slots = h.slots;
    points = h.points;
  }

pub hosts_narrowed : (M : Type 0) → FitIsTold → KnownsKeepFit → narrow.NarrowedAreAlike M → narrow.NarrowedRuns M → HostsAreNarrowed M
hosts_narrowed M told keep alike runs access y machine words closed budget far p numbers loaded = record {
  formed = loaded.formed;
  host = host told keep alike runs access y machine words closed budget far p numbers loaded.host;
  functions = loaded.functions;
  check = loaded.check;
  pointed = loaded.pointed;
}

pub main_openly : (M : Type 0) → FitIsTold → FirstIsFit → narrow.NarrowedAreAlike M → HostsAreNarrowed M → MainFollows M → MainFollowsOpenly M
main_openly M told first alike hosts follows access y machine words closed budget far p numbers loaded numbering hart input actions fitting back i target ra begins stands bound =
    let a = alike access y machine (is_fit p) machine.text budget far in
    let t : is_fit p (first_seen p numbers hart input actions) ≡ true = (told p (first_seen p numbers hart input actions)).1 (first p numbers hart input actions fitting) in
    let m =
    follows access y (narrowed machine (is_fit p) machine.text) words closed budget far p numbers (hosts access y machine words closed budget far p numbers loaded) numbering hart input actions fitting back i target ra
    (record { live = begins.live; left = begins.left; even = begins.even; room = begins.room; within = begins.within })
    ((a.0 (y.entry p.main) (first_seen p numbers hart input actions) i t).0 stands) bound in
    (m.0, m.1, m.2, m.3, λ spare paid asked. a.2 spare bound i back m.0.end (m.4 spare paid asked))
