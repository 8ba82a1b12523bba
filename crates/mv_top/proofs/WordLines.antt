-- Where a run has ended, as many words of text have changed as the meaning's bindings owe.
use Rattle.std.proofs.Common.{ℕ, Bool, List, ◌++◌, sym, ap, ◌∙◌, subst}
use Rattle.mv_ast.specs.declared.program.Program.{Program}
use Rattle.mv_bindings.specs.declared.action.Action.{Action}
use Rattle.mv_bindings.specs.declared.binding.Binding.{Binding}
use Rattle.mv_bindings.specs.declared.binding.Event.{Event}
use Rattle.mv_refine.specs.Built.{Built}
use Rattle.mv_refine.specs.Verdicts.{IsBuiltFrom}
use Rattle.mv_image.specs.Patched.{text_of}
use Rattle.mv_image.specs.Spelling.{Fields}
use Rattle.mv_list.specs.Changes.{patched_text}
use Rattle.mv_machine.specs.Acts.{polls_of}
use Rattle.mv_machine.specs.Runs.{Stop, bytes_to_come, runs}
use Rattle.mv_machine.specs.Snapshots.{Snapshot}
use Rattle.mv_machine.specs.declared.machine.Stopped.{Stopped}
use Rattle.mv_machine.specs.declared.machine.Stopped.TheVariants.{Ended, Trapped, Steps, InputFault, OutputFault, Fault, Memory}
use Rattle.mv_meaning.specs.declared.meant.End.{End}
use Rattle.mv_meaning.specs.Meaning.{mean}
use Rattle.mv_patch.specs.Orders.{values_of}
use Rattle.mv_io.specs.Outside.{AreToldBytes}
use Rattle.mv_refine.specs.Environment.{Environment}
use Rattle.mv_refine.specs.Execution.{IsExecution}
use Rattle.mv_refine.specs.Meant.{DoesAll, WroteAndTook}
use Rattle.mv_refine.specs.Run.{RanTo, Runs}
use Rattle.mv_refine.proofs.Executed.{kept_bindings}
use Rattle.mv_refine.specs.declared.execution.Execution.{Execution}
use Rattle.mv_count_words.specs.Laws.{ShowsBindings}
use Rattle.mv_count_words.specs.Lines.{line_count}
use Rattle.mv_count_words.specs.Owed.{CountsWords}
use Rattle.mv_top.specs.WordLines.{CountsLines, CountsOn}

module _ (p : Program) (image : Fields) (shows : ShowsBindings p image) (actions : List Action) (steps : ℕ) (before after : Environment) (Heard : List Event → Type 0) (machine : Snapshot) where
  module _ (picks taken later : List ℕ) where
    counted : (stop : Stop) (e : End) → RanTo image (polls_of actions) before after Heard machine picks taken later stop steps →
        DoesAll before after Heard machine taken (mean p (taken ++ later) actions steps) image e → CountsLines p image actions steps machine (taken ++ later)
    counted stop e ran all =
        let input = bytes_to_come (taken ++ later) in
        let same = kept_bindings machine (runs image input (polls_of actions) picks steps) ran.stands.done.machine_is in
        let meant = sym same ∙ all.bindings in
        let text = all.text ∙ ap (λ (bs : List Binding). text_of image (values_of bs)) (sym meant) in
        subst (λ (bs : List Binding). CountsWords p bs (line_count (patched_text image machine.room.held))) meant (shows input actions picks steps machine.room.held text)

    counts_on : (stopped : Stopped) → Runs image (polls_of actions) before after Heard machine picks taken later steps stopped →
        WroteAndTook p image actions steps before after Heard machine taken later stopped → CountsOn p image actions steps machine (taken ++ later) stopped
    counts_on (Ended status) ran does = counted _ _ ran does
    counts_on (Trapped code) ran does = counted _ _ ran does
    counts_on Steps ran does = tt
    counts_on InputFault ran does = tt
    counts_on OutputFault ran does = tt
    counts_on (Fault pc why) ran does = tt
    counts_on Memory ran does = tt

-- of a source that was built, and an execution of it
pub word_lines : (text : List ℕ) (built : Built) (actions : List Action) (places : Bool) (steps : ℕ) (before after : Environment) (Heard : List Event → Type 0) (picks taken later : List ℕ) (e : Execution) →
    IsBuiltFrom text built → IsExecution built actions places steps before after Heard picks taken later e → AreToldBytes before.input.left →
    CountsOn built.program built.image actions steps e.machine (taken ++ later) e.report.stopped
word_lines text built actions places steps before after Heard picks taken later e good is told =
    counts_on built.program built.image good.image.shows actions steps before after Heard e.machine picks taken later e.report.stopped is.runs
    (is.does good.image.behaves good.image.fits told)
