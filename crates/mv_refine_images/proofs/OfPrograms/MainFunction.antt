-- The main function does what the program means.
use Rattle.std.proofs.Common.{◌≡◌, ℕ, zero, suc, ◌+◌, ◌≤◌, Bool, List, [], length, Option, Some, None, refl, sym, subst, ◌∙◌, arith}
use Rattle.std.specs.Prelude.{All, IsTrue, slice_get}
use Rattle.mv_ast.specs.declared.program.Program.{Program}
use Rattle.mv_ast.specs.declared.program.Function.{Function}
use Rattle.mv_bindings.specs.declared.binding.Binding.{Binding}
use Rattle.mv_ast.specs.Actions.{act_fits}
use Rattle.mv_bindings.specs.Acts.{Act}
use Rattle.mv_meaning.specs.Meaning.{hart_mean}
use Rattle.mv_meaning_numbering.specs.Numberings.{IsNumbering}
use Rattle.mv_isa.specs.Execution.{Access, reg}
use Rattle.mv_isa.specs.Registers.{ra as link_register}
use Rattle.mv_ir.specs.World as ir
use Rattle.mv_ir.specs.World.{World}
use Rattle.mv_ir.specs.Outcome.{Calls, Call, Bound, Returned}
use Rattle.mv_ir.specs.Keeps.{KeepsCall}
use Rattle.mv_ir.specs.Meaning.{Contents, body_from}
use Rattle.mv_ir.specs.Programs.{execution_of, run_of_main}
use Rattle.mv_lower_spec.specs.Functions.{lower_function, lower_program}
use Rattle.mv_lower_spec.specs.Statements.{levels as levels_of}
use Rattle.mv_lower_spec.specs.Programs.Laws.{IsExecution}
use Rattle.mv_select_code.specs.Control.Runs.{Machine}
use Rattle.mv_select.specs.Calls.Convention.{Layout, IsTarget, Stands, FollowsCall}
use Rattle.mv_select.specs.Functions.Functions.{MainKeeps, Begins}
use Rattle.mv_lower_spec.specs.Calls.Laws.{AreAsSource, MainIsRight, MainEndsAlike}
use Rattle.mv_refine_images.specs.Programs.Hosts.{IsPlain, IsLoaded}
use Rattle.mv_refine_images.specs.Programs.Laws.{first_seen}
use Rattle.mv_refine_images.proofs.OfPrograms.Called.{called}
use Rattle.mv_refine_images.proofs.OfPrograms.Filled.{filled_call, filled_alike, filled_shorts}
use Rattle.mv_refine_images.proofs.OfPrograms.AllFunctions.{Known, filled_keep}

-- there are as many levels as the bound says
level_count : (calls : ℕ → Calls) (k : ℕ) → length (levels_of calls k) ≡ k
level_count calls zero = refl
level_count calls (suc k) = let below = level_count calls k in omega (arith, below)

module _ {M : Type 0} (access : Access M) (y : Layout) (machine : Machine M) (words : List Binding → ℕ → Option ℕ) (closed : (pc address : ℕ) → Bool) (budget far : ℕ) (p : Program) (numbers : List ℕ)
    (loaded : IsLoaded access y machine words closed budget far p numbers) (known : Known M) (keep_main : MainKeeps M) (right_main : MainIsRight) (alike : MainEndsAlike)
    (numbering : IsNumbering p numbers) (hart : ℕ) (input : List ℕ) (actions : List Act) (fit : All (λ a. IsTrue (act_fits p hart a)) actions)
    (back i : ℕ) (target : IsTarget back) (ra : reg (machine.run i).regs link_register ≡ back) (begins : Begins access y machine i)
    (stands : Stands access y machine budget far (y.entry p.main) (first_seen p numbers hart input actions) i) (k : ℕ) where
  abbrev main : Function
  main = loaded.formed.typed.entry.main

  abbrev here : slice_get p.functions p.main ≡ Some main
  here = loaded.formed.typed.entry.defined

  open loaded use {host}
  open called access y machine budget far p numbers k use {setting}

  abbrev s : IsPlain y machine.text words closed p numbers p.main main
  s = (loaded.functions p.main main here).plain (loaded.formed.entry main here)

  abbrev frame : ir.Frame
  frame = record { depth = 0; live = 0; bound = [] }

  abbrev first : World
  first = first_seen p numbers hart input actions

  -- calls that do what short bodies do
  abbrev calls : ℕ → Calls
  calls = filled_call p numbers s.shorts budget

  abbrev over : Bound
  over = levels_of calls k

  record Followed : Type 0 where
    contents : Contents
    follows : (spare : ℕ) → i + (spare + 44 + (body_from setting frame contents s.body [] over first).cost) ≤ budget → far ≤ i + length over →
        FollowsCall access y machine budget far spare (length over) i back (body_from setting frame contents s.body [] over first).end

  followed : Followed
  followed =
      let m =
      keep_main access y host.laid machine host.memory setting host.entries budget far host.serves over
      (filled_keep access y machine words closed budget far p numbers loaded known k s.shorts s.known) [] s.reach s.is_fine s.body s.ample s.fits (s.params ∙ loaded.formed.typed.entry.bare) s.place s.linked s.is_attributed
      (y.entry p.main) s.next (host.runs (y.entry p.main) s.next s.reach s.open_there) s.placed back i target ra in
      record { contents = m.0; follows = λ spare paid asked. m.1 spare first stands begins paid asked }

  pub main_follows : (c : Call)
      × IsExecution (hart_mean p hart input actions k) (execution_of first c.cost c.end)
      × (c.end ≡ (run_of_main numbers (lower_program p) hart input actions k).end)
      × ((w : World) → c.end ≡ Returned None w → ⊥)
      × ((spare : ℕ) → i + (spare + 44 + c.cost) ≤ budget → far ≤ i + k → FollowsCall access y machine budget far spare k i back c.end)
  main_follows = (c, right_main p numbers calls alike_source loaded.formed numbering hart input actions k fit followed.contents main here, ends.0, ends.1, follows)
    where
      alike_source : AreAsSource p numbers calls
      alike_source = filled_alike p numbers s.shorts budget

      ends : ((body_from setting frame followed.contents (lower_function p main) [] over first).end ≡ (run_of_main numbers (lower_program p) hart input actions k).end)
          × ((w : World) → (body_from setting frame followed.contents (lower_function p main) [] over first).end ≡ Returned None w → ⊥)
      ends = alike p numbers calls alike_source loaded.formed numbering hart input actions k fit followed.contents main here

      c : Call
      c = body_from setting frame followed.contents (lower_function p main) [] over first

      kept : KeepsCall c (body_from setting frame followed.contents s.body [] over first)
      kept = s.keeps setting frame followed.contents [] over first (filled_shorts p numbers s.shorts budget known.right loaded.formed s.known k)

      follows : (spare : ℕ) → i + (spare + 44 + c.cost) ≤ budget → far ≤ i + k → FollowsCall access y machine budget far spare k i back c.end
      follows spare paid asked =
          let cheaper = kept.cheaper in
          let count = level_count calls k in
          subst (FollowsCall access y machine budget far spare k i back) (sym kept.same)
          (subst (λ n. FollowsCall access y machine budget far spare n i back (body_from setting frame followed.contents s.body [] over first).end) count
          (followed.follows spare (omega (arith, paid, cheaper)) (omega (arith, asked, count))))
