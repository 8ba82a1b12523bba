-- What a unit's program is made of.
use Rattle.std.proofs.Common.{◌≡◌, ℕ, refl, ◌∙◌, ap, List, map, Option, Some, None}
use Rattle.std.specs.Prelude.{codes}
use Rattle.mv_ast.specs.declared.program.Function.{Function}
use Rattle.mv_ast.specs.declared.program.Program.{Program}
use Rattle.mv_syntax.specs.declared.place.Place.{Place}
use Rattle.mv_syntax.specs.declared.unit.Unit as unit
use Rattle.mv_check_scope.specs.Spaces.{named}
use Rattle.mv_check_expressions.specs.Judged.{Good}
use Rattle.mv_check_declarations.specs.Turns.{through}
use Rattle.mv_types.specs.declared.contents.Contents.{Contents}
use Rattle.mv_types.specs.declared.contents.Foreknown.{Foreknown}
use Rattle.mv_types.specs.Contents.{nothing_declared, present, switches_from}
use Rattle.mv_types.specs.Foreknown.{foreknown, pointers_of}
use Rattle.mv_types.specs.Units.{item_judgement, main_of, with_switches, program_of, program_or_broken, program_judgement, unit_judgement}
use Rattle.mv_accepts.specs.Numbers.Numbers.{AreJudged}
use Rattle.mv_accepts_programs.proofs.Lists.{present_is}
use Rattle.mv_accepts.proofs.OfExpressions.Kept.{went_on}

-- the contents behind the declarations, and the function that `main` is
abbrev pub ComesFrom : unit.Unit → Program → Type 0
ComesFrom u p =
    (c : Contents) × (main : ℕ) × AreJudged u.items c × (main_of c.scope.signatures (named (codes "main") c.scope.names.here) ≡ Some main) × (p ≡ program_of c (pointers_of (foreknown u.items)) main)
    × (program_judgement u.end (pointers_of (foreknown u.items)) c ≡ Good p)

main_there : (place : Place) (pointers : List ℕ) (c : Contents) (p : Program) (o : Option ℕ) → program_or_broken place pointers c o ≡ Good p →
    (main : ℕ) × (o ≡ Some main) × (p ≡ program_of c pointers main)
main_there place pointers c p None q = absurd (cc)
main_there place pointers c p (Some main) q = (main, refl, cc)

main_judged : (place : Place) (pointers : List ℕ) (c : Contents) (p : Program) → program_judgement place pointers c ≡ Good p →
    (main : ℕ) × (main_of c.scope.signatures (named (codes "main") c.scope.names.here) ≡ Some main) × (p ≡ program_of c pointers main)
unfolding program_judgement
main_judged place pointers c p q = main_there place pointers c p (main_of c.scope.signatures (named (codes "main") c.scope.names.here)) q

unit_judged : (u : unit.Unit) (p : Program) → unit_judgement u ≡ Good p → (c : Contents) × AreJudged u.items c × (program_judgement u.end (pointers_of (foreknown u.items)) c ≡ Good p)
unfolding unit_judgement
unit_judged u p q = went_on (through (item_judgement (foreknown u.items)) u.items (nothing_declared (foreknown u.items))) (program_judgement u.end (pointers_of (foreknown u.items))) p q

pub comes_from : (u : unit.Unit) (p : Program) → unit_judgement u ≡ Good p → ComesFrom u p
comes_from u p q =
    let x = unit_judged u p q in
    let m = main_judged u.end (pointers_of (foreknown u.items)) x.0 p x.2 in
    (x.0, m.0, x.1, m.1, m.2, x.2)

-- ---- the parts of a program

pub record IsMade (k : Foreknown) (c : Contents) (functions : List Function) (main : ℕ) (p : Program) : Type 0 where
  pub signatures : p.signatures ≡ c.scope.signatures
  pub globals : p.globals ≡ map (λ o. o.global) c.objects
  pub defined : p.functions ≡ map (with_switches p.switches) functions
  pub pointers : p.pointers ≡ pointers_of k
  pub entry : p.main ≡ main

pub is_made : (k : Foreknown) (c : Contents) (functions : List Function) (main : ℕ) → c.functions ≡ map (λ f. Some f) functions →
    IsMade k c functions main (program_of c (pointers_of k) main)
unfolding program_of
is_made k c functions main q = record {
  signatures = refl;
  globals = refl;
  defined = ap (λ fs. map (with_switches (switches_from 0 c.objects)) (present fs)) q ∙ ap (map (with_switches (switches_from 0 c.objects))) (present_is functions);
  pointers = refl;
  entry = refl;
}
