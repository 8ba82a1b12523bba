-- The causes of answers that are nothing to run, and what fits what is run.
use Rattle.std.proofs.Common.{◌≡◌, ℕ, List, sym, subst, ◌∙◌}
use Rattle.std.specs.Prelude.{All, IsTrue}
use Rattle.std.proofs.lemmas.List.Elements.{All-weaker}
use Rattle.mv_ast.specs.Actions as source
use Rattle.mv_bindings.specs.declared.action.Action.{Action}
use Rattle.mv_front.specs.declared.refusal.Refusal.{Refusal}
use Rattle.mv_command.specs.declared.items.Item.{Item}
use Rattle.mv_machine.specs.Actions as machine
use Rattle.mv_actions.specs.Operator.{IsFirstWrong}
use Rattle.mv_refine.specs.Built.{Built}
use Rattle.mv_refine.specs.BuildError.{BuildError}
use Rattle.mv_refine.specs.BuildError.TheVariants as build_error
use Rattle.mv_refine.specs.Answers as build
use Rattle.mv_refine.specs.Verdicts.{IsBuiltFrom}
use Rattle.mv_top.specs.Running as spec
use Rattle.mv_top.specs.Running.{IsCause, IsNotRun, no_action}

-- that of an answer of `build`
pub build_cause : (text : List ℕ) (items : List Item) (e : BuildError) → build.IsCause text e → IsCause text items e
build_cause text items (build_error.Refused r) h = spec.unbuilt r h
build_cause text items (build_error.Memory e) h = tt

-- that of an item that is no action
pub item_cause : (text : List ℕ) (items : List Item) (built : Built) (item : ℕ) (r : Refusal) → r ≡ no_action item → IsBuiltFrom text built → IsFirstWrong built.program items item →
    IsNotRun text items r
item_cause text items built item r same is wrong = subst (IsNotRun text items) (sym same) (spec.wrong_item built item is wrong)

-- actions that fit the program fit its image
pub all_fit : (text : List ℕ) (built : Built) (actions : List Action) → IsBuiltFrom text built → All (λ a. IsTrue (source.fits built.program a)) actions →
    All (λ a. IsTrue (machine.fits_rows built.image.switches a)) actions
all_fit text built actions is fit =
    All-weaker (λ a. IsTrue (source.fits built.program a)) (λ a. IsTrue (machine.fits_rows built.image.switches a)) (λ a fits. is.image.fits a ∙ fits) actions fit
