-- The tables of an image are a program's, and so the stub serves the program's orders and polls.
use Rattle.std.specs.Prelude.{ℕ, ◌≡◌, ◌<◌, ◌≤◌, ◌^◌, Bool, true, List, length, map, take, is_some, slice_get, Option, Some, None}
use Rattle.std.specs.List.{All}
use Rattle.mv_ast.specs.declared.program.Program.{Program}
use Rattle.mv_ast.specs.declared.program.Function.{Function}
use Rattle.mv_ast.specs.declared.program.Switch.{Switch}
use Rattle.mv_ast.specs.declared.program.Known.TheVariants.{Plan}
use Rattle.mv_bindings.specs.Acts.{IsActOfWord}
use Rattle.mv_ast.specs.Counts as counts
use Rattle.mv_ast.specs.Switches.{attributed_functions, switch_domain}
use Rattle.mv_descriptors.specs.declared.rows.SwitchRow.{SwitchRow}
use Rattle.mv_descriptors.specs.declared.rows.FunctionRow.{FunctionRow}
use Rattle.mv_descriptors.specs.declared.rows.PointerRow.{PointerRow}
use Rattle.mv_descriptors.specs.declared.rows.TargetRow.{TargetRow}
use Rattle.mv_image.specs.Spelling.{Fields}
use Rattle.mv_image.specs.Faults.{Rules}
use Rattle.mv_image.specs.Patched.{fitting_variant}
use Rattle.mv_patch.specs.Orders.{is_known_order}
use Rattle.mv_patch.specs.Tables.{patchable}
use Rattle.mv_ir.specs.Combinations.{IsCombination}
use Rattle.mv_ir.specs.Programs.{setting_of}
use Rattle.mv_linker.specs.Linked.{commit_lines}
use Rattle.mv_machine.specs.Acts.{PollActs}
use Rattle.mv_ir_worlds.specs.Fit.{is_fit}
use Rattle.mv_select_code.specs.Control.Placed.{Placed}
use Rattle.mv_select.specs.Calls.Convention.{Layout}
use Rattle.mv_select.specs.Calls.Environment.{ServesOrders}
use Rattle.mv_select.specs.Slots.Narrowed.{narrowed}
use Rattle.mv_refine_machine.specs.Layout.{IsSetOut}
use Rattle.mv_refine_machine.specs.MachineRuns.{machine_text}
use Rattle.mv_refine_machine.specs.Commits.Watched.{access, watched_machine}
use Rattle.mv_refine_machine.specs.Commits.Served.{IsPlanOpen}

-- Rows of switches and of functions stand in the program's order; some variant of a function fits words, one for each of its switches, exactly where they are
-- a combination of the domains; and so do those of pointer switches. The targets are all functions where there is a pointer switch: each function that has a
-- number is the first target with this entry.
pub record IsTabled (p : Program) (numbers : List ℕ) (y : Layout) (image : Fields) : Type 0 where
  pub switches : length image.switches ≡ length p.switches
  pub switch : (n : ℕ) (s : Switch) (row : SwitchRow) → slice_get p.switches n ≡ Some s → slice_get image.switches n ≡ Some row → row.address ≡ y.place s.global
  pub sizes : (n : ℕ) (s : Switch) → slice_get p.switches n ≡ Some s → 0 < y.size s.global
  pub functions : length image.functions ≡ length (attributed_functions p)
  pub function : (n : ℕ) (g : Function) (row : FunctionRow) → slice_get (attributed_functions p) n ≡ Some g → slice_get image.functions n ≡ Some row → take row.count row.switches ≡ g.switches
  pub there : (n : ℕ) (g : Function) → slice_get (attributed_functions p) n ≡ Some g → All (λ (s : ℕ). s < length p.switches) g.switches
  pub combinations : (n : ℕ) (g : Function) (vs : List ℕ) → slice_get (attributed_functions p) n ≡ Some g → IsCombination (map (switch_domain p) g.switches) vs →
      is_some (fitting_variant image n vs) ≡ true
  pub others : (n : ℕ) (g : Function) (vs : List ℕ) → slice_get (attributed_functions p) n ≡ Some g → length vs ≡ length g.switches → All (λ v. v < 2 ^ 32) vs →
      (IsCombination (map (switch_domain p) g.switches) vs → ⊥) → fitting_variant image n vs ≡ None
  pub pointers : length image.pointers ≡ length p.pointers
  pub pointer : (q g : ℕ) (row : PointerRow) → slice_get p.pointers q ≡ Some g → slice_get image.pointers q ≡ Some row → row.address ≡ y.place g
  pub pointer_sizes : (q g : ℕ) → slice_get p.pointers q ≡ Some g → 0 < y.size g
  pub targets : 0 < length p.pointers → map (λ (target : TargetRow). target.entry) image.targets ≡ numbers

-- Where such an image's text has the stub, it serves all orders and polls of each hart from worlds that fit, if each order that may be asked for is one that
-- the machine knows.
abbrev pub TabledOrdersAreServed : Type 0
TabledOrdersAreServed =
    (attributed : List ℕ) (closed : (pc address : ℕ) → Bool) (image : Fields) → Rules image → (input : List (Option ℕ)) (polls : PollActs) → All IsActOfWord polls.acts → (picks : List ℕ) (y : Layout) → IsSetOut y →
    (place entry : ℕ → ℕ) (end : ℕ) → Placed (machine_text attributed image) place entry commit_lines y.commit end → IsPlanOpen closed y.commit →
    (budget far : ℕ) (numbers : List ℕ) (p : Program) → length numbers ≡ length p.functions → patchable image ≤ counts.patchable_places p → IsTabled p numbers y image →
    ((code index : ℕ) → y.may_ask (Plan code index) ≡ true → is_known_order image code index ≡ true) →
    ServesOrders access y (narrowed (watched_machine attributed closed image input polls picks) (is_fit p) (machine_text attributed image)) budget far (setting_of numbers p)
