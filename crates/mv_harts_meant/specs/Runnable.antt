-- Images on which several harts may run, and what the polls of a hart may take.
use Rattle.std.specs.Prelude.{ℕ, ◌≡◌, ◌<◌, ◌^◌, ◌&&◌, Bool, true, nat_lt, List, length, map, take, slice_get, Some, None, All}
use Rattle.mv_ast.specs.declared.program.Program.{Program}
use Rattle.mv_ast.specs.declared.program.Function.{Function}
use Rattle.mv_ast.specs.Actions.{act_fits}
use Rattle.mv_ast.specs.Actions as source
use Rattle.mv_ast.specs.Switches.{attributed_functions, switch_domain}
use Rattle.mv_bindings.specs.declared.action.Action.{Action}
use Rattle.mv_bindings.specs.Acts.{Act, Skip, Flip, Adopt}
use Rattle.mv_descriptors.specs.declared.rows.FunctionRow.{FunctionRow}
use Rattle.mv_image.specs.Faults.{Rules}
use Rattle.mv_image.specs.Patched.{fitting_variant}
use Rattle.mv_image.specs.Spelling.{Fields}
use Rattle.mv_ir.specs.Combinations.{IsCombination}
use Rattle.mv_machine.specs.Actions as machine
use Rattle.mv_refine_machine.specs.Runs.Behaves.{BehavesAlways}
use Rattle.mv_source_forms.specs.Typing.{IsTyped}

-- The tables of an image have the attributed functions of a program in order, with their switches, and no variant of one fits words that its domains have not;
-- the program's pointer switches; and, where there is one, its functions as their targets.
pub record HasFunctions (p : Program) (image : Fields) : Type 0 where
  pub count : length image.functions ≡ length (attributed_functions p)
  pub switches : (n : ℕ) (g : Function) (row : FunctionRow) → slice_get (attributed_functions p) n ≡ Some g → slice_get image.functions n ≡ Some row → take row.count row.switches ≡ g.switches
  pub others : (n : ℕ) (g : Function) (vs : List ℕ) → slice_get (attributed_functions p) n ≡ Some g → length vs ≡ length g.switches → All (λ v. v < 2 ^ 32) vs →
      (IsCombination (map (switch_domain p) g.switches) vs → ⊥) → fitting_variant image n vs ≡ None
  pub pointers : length image.pointers ≡ length p.pointers
  pub targets : 0 < length p.pointers → length image.targets ≡ length p.functions

-- An image that keeps the rules does what a well-typed program means in each hart alone, has tables of its functions, and is fit by the same actions.
pub record IsRunnable (p : Program) (image : Fields) : Type 0 where
  pub typed : IsTyped p
  pub behaves : BehavesAlways p image
  pub rules : Rules image
  pub tables : HasFunctions p image
  pub fits : (action : Action) → machine.fits_rows image.switches action ≡ source.fits p action

-- the value of an act, if it has one, is a word
abbrev pub is_act_of_word : Act → Bool
is_act_of_word Skip = true
is_act_of_word (Flip switch value) = nat_lt value (2 ^ 32)
is_act_of_word (Adopt bs) = true

-- an act that a poll of a hart may take: it fits the program there, and its value is a word
abbrev pub fits_in : Program → (hart : ℕ) → Act → Bool
fits_in p hart act = act_fits p hart act && is_act_of_word act
