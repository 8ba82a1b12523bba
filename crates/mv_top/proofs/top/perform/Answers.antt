use Rattle.std.proofs.Common.{ℕ, ◌≡◌, List, map, refl, subst}
use Rattle.std.specs.String.{string_bytes}
use Rattle.mv_command.specs.Commands.{Executes, Runs}
use Rattle.mv_command.specs.declared.command.Command.TheVariants.{Build, Check, Convert, Disassemble, Eval, Exec, Gen, Print, Run}
use Rattle.mv_command.specs.declared.command.Command.TheVariants as command
use Rattle.mv_io.proofs.Common.{count_kept}
use Rattle.mv_command.proofs.Same.{exec_items, run_items}
use Rattle.mv_probe.proofs.Logs.{told_nothing}
use Rattle.mv_top.specs.Outcomes.{done}
use Rattle.mv_notes.specs.declared.status.Status.{Status}
use Rattle.mv_notes.specs.declared.status.Status.TheVariants.{Done}
use Rattle.mv_refine.specs.Environment.{Environment}
use Rattle.mv_top.specs.Outside.{Writes}
use Rattle.mv_top.proofs.Commands.{built, checked, converted, disassembled, evaluated, is_command, listed, listed_by, made, no_command, no_memory, printed}
use Rattle.mv_top.proofs.Performing.{performs_so}
use Rattle.mv_top.proofs.top.perform.Goals as goal

pub run_file-requires-clause-ascend : goal.run_file-requires-clause-ascend
run_file-requires-clause-ascend g c =
    run_items (is_command (map string_bytes c.args.words.now) c.in-Ok-Some-Run.field-0 c.in-Ok-Some-Run.field-0-0 (Run c.in-Ok-Some-Run.file c.in-Ok-Some-Run.options)
    c.in-Ok-Some-Run.ensures c.in-Ok-Some-Run.field-0-is c.in-Ok-Some-Run.field-0-0-is)

pub exec_file-requires-clause-ascend : goal.exec_file-requires-clause-ascend
exec_file-requires-clause-ascend g c =
    exec_items (is_command (map string_bytes c.args.words.now) c.in-Ok-Some-Exec.field-0 c.in-Ok-Some-Exec.field-0-0 (Exec c.in-Ok-Some-Exec.image c.in-Ok-Some-Exec.options)
    c.in-Ok-Some-Exec.ensures c.in-Ok-Some-Exec.field-0-is c.in-Ok-Some-Exec.field-0-0-is)

pub returns-in-Ok-Some-Run : goal.returns-in-Ok-Some-Run
returns-in-Ok-Some-Run g c =
    performs_so _ _ (λ lines status does. done (Runs c.in-Ok-Some-Run.file.now c.in-Ok-Some-Run.options) lines status
    (is_command (map string_bytes c.args.words.now) c.in-Ok-Some-Run.field-0 c.in-Ok-Some-Run.field-0-0 (Run c.in-Ok-Some-Run.file c.in-Ok-Some-Run.options)
    c.in-Ok-Some-Run.ensures c.in-Ok-Some-Run.field-0-is c.in-Ok-Some-Run.field-0-0-is) does) c.run_file.result c.run_file.ensures

pub returns-in-Ok-Some-Build : goal.returns-in-Ok-Some-Build
returns-in-Ok-Some-Build g c =
    built _ _ _ (map string_bytes c.args.words.now) _ _ c.save_file-status.result c.alone.ensures.lines c.alone.ensures.status (told_nothing _ _ c.args.probes.now.items c.requires)
    c.in-Ok-Some-Build.file.now c.in-Ok-Some-Build.image.now
    (is_command (map string_bytes c.args.words.now) c.in-Ok-Some-Build.field-0 c.in-Ok-Some-Build.field-0-0 (Build c.in-Ok-Some-Build.file c.in-Ok-Some-Build.image)
    c.in-Ok-Some-Build.ensures c.in-Ok-Some-Build.field-0-is c.in-Ok-Some-Build.field-0-0-is) (c.save_file-status.ensures.does _)
    (record { asks = c.save_file-status.ensures.asks; shelf = c.save_file-status.ensures.count; input = count_kept _ _ _ refl; output = count_kept _ _ _ refl })

pub returns-in-Ok-Some-Exec : goal.returns-in-Ok-Some-Exec
returns-in-Ok-Some-Exec g c =
    performs_so _ _ (λ lines status does. done (Executes c.in-Ok-Some-Exec.image.now c.in-Ok-Some-Exec.options) lines status
    (is_command (map string_bytes c.args.words.now) c.in-Ok-Some-Exec.field-0 c.in-Ok-Some-Exec.field-0-0 (Exec c.in-Ok-Some-Exec.image c.in-Ok-Some-Exec.options)
    c.in-Ok-Some-Exec.ensures c.in-Ok-Some-Exec.field-0-is c.in-Ok-Some-Exec.field-0-0-is) does) c.exec_file.result c.exec_file.ensures

pub returns-in-Ok-Some-List : goal.returns-in-Ok-Some-List
returns-in-Ok-Some-List g c =
    listed _ _ _ (map string_bytes c.args.words.now) _ _ c.list_file-status.result c.alone-in-Ok-Some-List.ensures.lines c.alone-in-Ok-Some-List.ensures.status
    (told_nothing _ _ c.args.probes.now.items c.requires) c.in-Ok-Some-List.image.now c.in-Ok-Some-List.words
    (is_command (map string_bytes c.args.words.now) c.in-Ok-Some-List.field-0 c.in-Ok-Some-List.field-0-0 (command.List c.in-Ok-Some-List.image c.in-Ok-Some-List.words)
    c.in-Ok-Some-List.ensures c.in-Ok-Some-List.field-0-is c.in-Ok-Some-List.field-0-0-is)
    (listed_by _ _ c.in-Ok-Some-List.image.now c.in-Ok-Some-List.words c.shown_by_list.result c.list_file-status.result c.shown_by_list.ensures
    (c.list_file-status.ensures.comes _ _)) c.list_file-status.ensures.files
    (record { asks = c.list_file-status.ensures.asks; shelf = c.list_file-status.ensures.count; input = count_kept _ _ _ refl; output = c.list_file-status.ensures.writing })

pub returns-in-Ok-Some-Eval : goal.returns-in-Ok-Some-Eval
returns-in-Ok-Some-Eval g c =
    evaluated _ _ _ (map string_bytes c.args.words.now) _ _ c.eval_file-status.result c.alone-in-Ok-Some-Eval.ensures.lines c.alone-in-Ok-Some-Eval.ensures.status
    (told_nothing _ _ c.args.probes.now.items c.requires) c.in-Ok-Some-Eval.file.now c.in-Ok-Some-Eval.bound
    (is_command (map string_bytes c.args.words.now) c.in-Ok-Some-Eval.field-0 c.in-Ok-Some-Eval.field-0-0 (Eval c.in-Ok-Some-Eval.file c.in-Ok-Some-Eval.bound)
    c.in-Ok-Some-Eval.ensures c.in-Ok-Some-Eval.field-0-is c.in-Ok-Some-Eval.field-0-0-is) (c.eval_file-status.ensures.comes _) c.eval_file-status.ensures.files
    (record { asks = c.eval_file-status.ensures.asks; shelf = c.eval_file-status.ensures.count; input = c.eval_file-status.ensures.reading; output = c.eval_file-status.ensures.writing })

pub returns-in-Ok-Some-Gen : goal.returns-in-Ok-Some-Gen
returns-in-Ok-Some-Gen g c =
    made _ _ _ (map string_bytes c.args.words.now) _ _ c.generate_program-status.result c.alone-in-Ok-Some-Gen.ensures.lines c.alone-in-Ok-Some-Gen.ensures.status
    c.in-Ok-Some-Gen.number c.in-Ok-Some-Gen.source
    (is_command (map string_bytes c.args.words.now) c.in-Ok-Some-Gen.field-0 c.in-Ok-Some-Gen.field-0-0 (Gen c.in-Ok-Some-Gen.number c.in-Ok-Some-Gen.source)
    c.in-Ok-Some-Gen.ensures c.in-Ok-Some-Gen.field-0-is c.in-Ok-Some-Gen.field-0-0-is) (c.generate_program-status.ensures.does _) refl refl
    (record { asks = refl; shelf = count_kept _ _ _ refl; input = count_kept _ _ _ refl; output = c.generate_program-status.ensures.count })

pub returns-in-Ok-Some-Convert : goal.returns-in-Ok-Some-Convert
returns-in-Ok-Some-Convert g c =
    converted _ _ _ (map string_bytes c.args.words.now) _ _ c.save_file-status-in-Ok-Some-Convert.result c.alone-in-Ok-Some-Convert.ensures.lines c.alone-in-Ok-Some-Convert.ensures.status
    (told_nothing _ _ c.args.probes.now.items c.requires) c.in-Ok-Some-Convert.conversion c.in-Ok-Some-Convert.from.now c.in-Ok-Some-Convert.to.now
    (is_command (map string_bytes c.args.words.now) c.in-Ok-Some-Convert.field-0 c.in-Ok-Some-Convert.field-0-0
    (Convert c.in-Ok-Some-Convert.conversion c.in-Ok-Some-Convert.from c.in-Ok-Some-Convert.to)
    c.in-Ok-Some-Convert.ensures c.in-Ok-Some-Convert.field-0-is c.in-Ok-Some-Convert.field-0-0-is) (c.save_file-status-in-Ok-Some-Convert.ensures.does _)
    (record { asks = c.save_file-status-in-Ok-Some-Convert.ensures.asks; shelf = c.save_file-status-in-Ok-Some-Convert.ensures.count; input = count_kept _ _ _ refl; output = count_kept _ _ _ refl })

pub returns-in-Ok-Some-Disassemble : goal.returns-in-Ok-Some-Disassemble
returns-in-Ok-Some-Disassemble g c =
    disassembled _ _ _ (map string_bytes c.args.words.now) _ _ c.list_file-status-in-Ok-Some-Disassemble.result c.alone-in-Ok-Some-Disassemble.ensures.lines
    c.alone-in-Ok-Some-Disassemble.ensures.status (told_nothing _ _ c.args.probes.now.items c.requires) c.in-Ok-Some-Disassemble.image.now
    (is_command (map string_bytes c.args.words.now) c.in-Ok-Some-Disassemble.field-0 c.in-Ok-Some-Disassemble.field-0-0 (Disassemble c.in-Ok-Some-Disassemble.image)
    c.in-Ok-Some-Disassemble.ensures c.in-Ok-Some-Disassemble.field-0-is c.in-Ok-Some-Disassemble.field-0-0-is)
    (c.list_file-status-in-Ok-Some-Disassemble.ensures.comes _ _) c.list_file-status-in-Ok-Some-Disassemble.ensures.files
    (record {
      asks = c.list_file-status-in-Ok-Some-Disassemble.ensures.asks;
      shelf = c.list_file-status-in-Ok-Some-Disassemble.ensures.count;
      input = count_kept _ _ _ refl;
      output = c.list_file-status-in-Ok-Some-Disassemble.ensures.writing;
    })

pub returns-in-Ok-Some-Check : goal.returns-in-Ok-Some-Check
returns-in-Ok-Some-Check g c =
    checked _ _ _ (map string_bytes c.args.words.now) _ _ c.check_file-status.result c.alone-in-Ok-Some-Check.ensures.lines c.alone-in-Ok-Some-Check.ensures.status
    (told_nothing _ _ c.args.probes.now.items c.requires) c.in-Ok-Some-Check.file.now c.in-Ok-Some-Check.image.now
    (is_command (map string_bytes c.args.words.now) c.in-Ok-Some-Check.field-0 c.in-Ok-Some-Check.field-0-0 (Check c.in-Ok-Some-Check.file c.in-Ok-Some-Check.image)
    c.in-Ok-Some-Check.ensures c.in-Ok-Some-Check.field-0-is c.in-Ok-Some-Check.field-0-0-is) (c.check_file-status.ensures.does _) c.check_file-status.ensures.files
    (record { asks = c.check_file-status.ensures.asks _; shelf = c.check_file-status.ensures.count; input = count_kept _ _ _ refl; output = count_kept _ _ _ refl })

written_alike : (before after : Environment) (text other : List ℕ) (status : Status) → Writes before after text Done status → text ≡ other → Writes before after other Done status
written_alike before after text other status writes e = subst (λ (words : List ℕ). Writes before after words Done status) e writes

pub returns-in-Ok-Some-Print : goal.returns-in-Ok-Some-Print
returns-in-Ok-Some-Print g c =
    printed _ _ _ (map string_bytes c.args.words.now) _ _ c.write_text-status.result c.alone-in-Ok-Some-Print.ensures.lines c.alone-in-Ok-Some-Print.ensures.status
    (told_nothing _ _ c.args.probes.now.items c.requires) c.in-Ok-Some-Print.text.items
    (is_command (map string_bytes c.args.words.now) c.in-Ok-Some-Print.field-0 c.in-Ok-Some-Print.field-0-0 (Print c.in-Ok-Some-Print.text)
    c.in-Ok-Some-Print.ensures c.in-Ok-Some-Print.field-0-is c.in-Ok-Some-Print.field-0-0-is)
    (written_alike _ _ _ _ _ (c.write_text-status.ensures.writes _ _) c.as_slice.ensures.value) refl refl refl
    (record { asks = refl; shelf = count_kept _ _ _ refl; input = count_kept _ _ _ refl; output = c.write_text-status.ensures.count })

pub returns-in-Ok-None : goal.returns-in-Ok-None
returns-in-Ok-None g c =
    no_command _ _ _ (map string_bytes c.args.words.now) _ _ _ c.alone-in-Ok-None.ensures.lines c.alone-in-Ok-None.ensures.status (told_nothing _ _ c.args.probes.now.items c.requires) refl
    (rw c.in-Ok-None.field-0-is at c.in-Ok-None.ensures) refl

pub returns-in-Err : goal.returns-in-Err
returns-in-Err g c =
    no_memory _ _ _ (map string_bytes c.args.words.now) _ _ _ c.alone-in-Err.ensures.lines c.alone-in-Err.ensures.status (told_nothing _ _ c.args.probes.now.items c.requires) refl refl
