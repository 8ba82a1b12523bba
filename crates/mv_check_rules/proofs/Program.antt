-- The end of a unit, and its program, agree.
use Rattle.std.proofs.Common.{◌≡◌, ℕ, suc, refl, sym, ◌∙◌, ap, is_some, unwrap_or, if◌then◌else◌, Option, Some, None, List, [], ◌∷◌, ◌++◌, map, slice_get}
use Rattle.std.specs.Prelude.{codes}
use Rattle.mv_syntax.specs.declared.place.Place.{Place}
use Rattle.mv_syntax.specs.declared.unit.Item.{Item}
use Rattle.mv_ast.specs.declared.program.Function.{Function}
use Rattle.mv_ast.specs.declared.program.Global as program_global
use Rattle.mv_ast.specs.declared.program.Program.{Program}
use Rattle.mv_ast.specs.declared.program.Signature.{Signature}
use Rattle.mv_ast.specs.declared.program.Switch.{Switch}
use Rattle.mv_check_scope.specs.declared.meaning.Meaning.{Meaning}
use Rattle.mv_check_scope.specs.declared.meaning.Meaning.TheVariants as meaning
use Rattle.mv_check_scope.specs.Spaces.{named}
use Rattle.mv_check_expressions.specs.Judged.{Good}
use Rattle.mv_types.specs.declared.contents.Contents.{Contents}
use Rattle.mv_types.specs.declared.contents.Object.{Object}
use Rattle.mv_types.specs.Contents as code_contents
use Rattle.mv_types.specs.Contents.{present}
use Rattle.mv_types.specs.Foreknown.{foreknown, pointers_of}
use Rattle.mv_types.specs.Units as code
use Rattle.mv_types.specs.Units.{program_of, program_or_broken, program_judgement}
use Rattle.mv_check_rules.specs.Nodes.{Global}
use Rattle.mv_check_rules.specs.Nodes as node
use Rattle.mv_check_rules.specs.Rules.{concluded}
use Rattle.mv_check_rules.specs.Units.{Declarations, switch_of, switches_from, global_of, those_there, with_switches, pointer_globals, program, is_main_type, main_number, unit_end}

-- ---- what is declared, as the code has it

abbrev pub object_of : Global → Object
object_of g = record { global = global_of g; given = is_some g.words; domain = g.domain }

abbrev pub contents_of : Declarations → Contents
contents_of c = record { scope = c.scope; objects = map object_of c.globals; functions = c.functions }

-- ---- the program

globals_same : (gs : List Global) → map (λ (o : Object). o.global) (map object_of gs) ≡ map global_of gs
globals_same [] = refl
globals_same (g ∷ gs) = ap (λ (rest : List program_global.Global). global_of g ∷ rest) (globals_same gs)

switch_same : (n : ℕ) (domain : Option (List ℕ)) → code_contents.switch_of n domain ≡ switch_of n domain
switch_same n None = refl
switch_same n (Some values) = refl

switches_same : (n : ℕ) (gs : List Global) → code_contents.switches_from n (map object_of gs) ≡ switches_from n gs
switches_same n [] = refl
switches_same n (g ∷ gs) =
    ap (λ (s : List Switch). s ++ code_contents.switches_from (suc n) (map object_of gs)) (switch_same n g.domain) ∙
    ap (λ (rest : List Switch). switch_of n g.domain ++ rest) (switches_same (suc n) gs)

functions_same : (fs : List (Option Function)) → present fs ≡ those_there fs
functions_same [] = refl
functions_same (None ∷ fs) = functions_same fs
functions_same (Some f ∷ fs) = ap (λ (rest : List Function). f ∷ rest) (functions_same fs)

abbrev program_from : Declarations → List ℕ → ℕ → List program_global.Global → List Switch → List Function → Program
program_from c pointers main globals switches functions =
    record { signatures = c.scope.signatures; globals = globals; functions = map (with_switches switches) functions; switches = switches; pointers = pointers; main = main }

pub program_same : (items : List Item) (c : Declarations) (main : ℕ) → program_of (contents_of c) (pointer_globals items) main ≡ program items c main
unfolding program_of
program_same items c main =
    ap (λ gs. program_from c (pointer_globals items) main gs (code_contents.switches_from 0 (map object_of c.globals)) (present c.functions)) (globals_same c.globals) ∙
    (ap (λ ss. program_from c (pointer_globals items) main (map global_of c.globals) ss (present c.functions)) (switches_same 0 c.globals) ∙
    ap (λ fs. program_from c (pointer_globals items) main (map global_of c.globals) (switches_from 0 c.globals) fs) (functions_same c.functions))

-- ---- `main`

main_type_same : (t : Option Signature) → is_main_type t ≡ code.is_main_type t
main_type_same None = refl
main_type_same (Some t) = refl

main_same : (signatures : List Signature) (m : Option Meaning) → main_number signatures m ≡ code.main_of signatures m
main_same signatures None = refl
main_same signatures (Some (meaning.Function f)) = ap (λ b. if b then f.number else None) (main_type_same (slice_get signatures f.signature))
main_same signatures (Some m) = refl

pub unit_end_agrees : (items : List Item) (place : Place) (c : Declarations) → program_judgement place (pointers_of (foreknown items)) (contents_of c) ≡ unit_end items place c
unfolding program_judgement foreknown
unit_end_agrees items place c =
    ap (λ main. program_or_broken place (pointer_globals items) (contents_of c) main)
    (sym (main_same c.scope.signatures (named (codes "main") c.scope.names.here))) ∙
    by (main_number c.scope.signatures (named (codes "main") c.scope.names.here))
  where
    by : (main : Option ℕ) → program_or_broken place (pointer_globals items) (contents_of c) main ≡ concluded place c.scope (node.End main) (program items c (unwrap_or main 0))
    by None = refl
    by (Some main) = ap Good (program_same items c main)
