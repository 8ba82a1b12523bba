-- The `main` of a unit has the type that is asked of it.
use Rattle.std.proofs.Common.{◌≡◌, ℕ, Bool, true, false, refl, sym, ◌∙◌, ap, subst, Option, Some, None, if◌then◌else◌, List, [], ◌∷◌, length, take, slice_get}
use Rattle.std.specs.Prelude.{codes}
use Rattle.std.proofs.lemmas.List.{length-map, length-take-le}
use Rattle.std.proofs.lemmas.Bool.{and_parts}
use Rattle.mv_syntax.specs.declared.place.Place.{Place}
use Rattle.mv_ast.specs.declared.program.CType.{CType}
use Rattle.mv_ast.specs.declared.program.CType.TheVariants.{Void, Scalar, Pointer}
use Rattle.mv_ast.specs.declared.program.Function.{Function}
use Rattle.mv_ast.specs.declared.program.Local.{Local}
use Rattle.mv_ast.specs.declared.program.Program.{Program}
use Rattle.mv_ast.specs.declared.program.Signature.{Signature}
use Rattle.mv_check_scope.specs.declared.meaning.Meaning.{Meaning}
use Rattle.mv_check_scope.specs.declared.meaning.Meaning.TheVariants as meaning
use Rattle.mv_check_scope.specs.declared.meaning.Routine.{Routine}
use Rattle.mv_check_scope.specs.Conversions.{int, same_type, same_types}
use Rattle.mv_check_scope.specs.Known.{known_function}
use Rattle.mv_check_scope.specs.Scoped.{meaning_of, unless_declared}
use Rattle.mv_check_scope.specs.Spaces.{named, or_else, meaning_in}
use Rattle.mv_check_expressions.specs.Judged.{Good}
use Rattle.mv_source_forms.specs.Typing.{IsInteger, IsFunctionOf, HasTypedMain, parameter_types}
use Rattle.mv_accepts.specs.Expressions.Soundness.{Fits}
use Rattle.mv_accepts.specs.Bodies.Formed.{HasParameters}
use Rattle.mv_types.specs.declared.contents.Contents.{Contents}
use Rattle.mv_types.specs.Units.{is_main_type, main_of, program_of, program_or_broken, program_judgement}

-- ---- the type

int_result : (t : CType) → same_type t int ≡ true → IsInteger t
int_result (Scalar k) h = tt
int_result Void h = absurd (cc)
int_result (Pointer s) h = absurd (cc)

no_params : (ts : List CType) → same_types ts [] ≡ true → ts ≡ []
no_params [] h = refl
no_params (t ∷ ts) h = absurd (cc)

main_type : (o : Option Signature) → is_main_type o ≡ true → (t : Signature) × (o ≡ Some t) × IsInteger t.result × (t.params ≡ [])
main_type None h = absurd (cc)
main_type (Some t) h =
    let both = and_parts (same_type t.result int) (same_types t.params []) h in
    (t, refl, int_result t.result both.0, no_params t.params both.1)

-- ---- the name

abbrev IsMain : List Signature → Option Meaning → ℕ → Type 0
IsMain signatures m n = (r : Routine) × (m ≡ Some (meaning.Function r)) × (r.number ≡ Some n) × (is_main_type (slice_get signatures r.signature) ≡ true)

main_found : (signatures : List Signature) (m : Option Meaning) (n : ℕ) → main_of signatures m ≡ Some n → IsMain signatures m n
main_found signatures (Some (meaning.Function r)) n h = by (is_main_type (slice_get signatures r.signature)) refl h
  where
    by : (b : Bool) → is_main_type (slice_get signatures r.signature) ≡ b → (if b then r.number else None) ≡ Some n → IsMain signatures (Some (meaning.Function r)) n
    by true q g = (r, refl, g, q)
    by false q g = absurd (cc)
main_found signatures x n h = absurd (cc)

main_is : (place : Place) (pointers : List ℕ) (c : Contents) (p : Program) (o : Option ℕ) → program_or_broken place pointers c o ≡ Good p → o ≡ Some p.main
unfolding program_of
main_is place pointers c p None h = absurd (cc)
main_is place pointers c p (Some n) h = let q : program_of c pointers n ≡ p = cc in ap (λ (x : Program). Some x.main) q

-- ---- the function

module _ (p : Program) (has : HasParameters p) (n : ℕ) (s : ℕ) (g : IsFunctionOf p s n) (t : Signature) (there : slice_get p.signatures s ≡ Some t) where
  same : g.signature ≡ t
  same = let q : Some g.signature ≡ Some t = sym g.declared ∙ there in cc

  bare : t.params ≡ [] → g.function.params ≡ 0
  bare none =
      let f : Function = g.function in
      let q : parameter_types f ≡ [] = sym g.parameters ∙ (ap (λ (x : Signature). x.params) same ∙ none) in
      let few : length (take f.params f.locals) ≡ f.params = length-take-le f.params f.locals (has n f g.defined) in
      let l : length (parameter_types f) ≡ length (take f.params f.locals) = length-map (take f.params f.locals) (λ (x : Local). x.ctype) in
      sym few ∙ (sym l ∙ ap length q)

  integer : IsInteger t.result → IsInteger g.function.result
  integer h = subst IsInteger (sym (ap (λ (x : Signature). x.result) same) ∙ g.result) h

pub main_typed : (place : Place) (pointers : List ℕ) (c : Contents) (p : Program) (f : Function) → program_judgement place pointers c ≡ Good p → Fits p f c.scope → HasParameters p → HasTypedMain p
unfolding program_judgement
main_typed place pointers c p f q fits has =
    let name : List ℕ = codes "main" in
    let found = main_found c.scope.signatures (named name c.scope.names.here) p.main (main_is place pointers c p (main_of c.scope.signatures (named name c.scope.names.here)) q) in
    let r : Routine = found.0 in
    let means : meaning_of c.scope name ≡ Some (meaning.Function r) =
    ap (λ o. unless_declared (or_else o (meaning_in c.scope.names.around name)) (known_function name)) found.1 in
    let type = main_type (slice_get c.scope.signatures r.signature) found.3 in
    let there = fits.signatures r.signature type.0 type.1 in
    let g = (fits.names name (meaning.Function r) means).0 p.main found.2 in
    record {
      main = g.function;
      defined = g.defined;
      bare = bare p has p.main r.signature g type.0 there type.3;
      result = integer p has p.main r.signature g type.0 there type.2;
    }
