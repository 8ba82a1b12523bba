-- Each function of a unit's program is well typed and well formed.
use Rattle.std.proofs.Common.{◌≡◌, ℕ, ◌+◌, ◌<◌, ◌≤◌, refl, sym, ◌∙◌, ap, subst, Bool, true, false, if◌then◌else◌, List, [], length, map, Option, Some, None, slice_get, nat_lt}
use Rattle.std.specs.Prelude.{All, codes}
use Rattle.std.specs.List.{AllByRecursion}
use Rattle.std.proofs.lemmas.Option.{same_Some}
use Rattle.std.proofs.lemmas.List.Elements.{All-from_recursion}
use Rattle.mv_ast.specs.declared.program.Function.{Function}
use Rattle.mv_ast.specs.declared.program.Program.{Program}
use Rattle.mv_syntax.specs.declared.unit.Line.{Line}
use Rattle.mv_syntax.specs.declared.unit.Param.{Param}
use Rattle.mv_ast.specs.Switches.{attributed_functions}
use Rattle.mv_check_scope.specs.declared.meaning.Meaning.{Meaning}
use Rattle.mv_check_scope.specs.declared.meaning.Meaning.TheVariants as meaning
use Rattle.mv_check_scope.specs.declared.meaning.Routine.{Routine}
use Rattle.mv_check_scope.specs.declared.scope.Scope.{Scope}
use Rattle.mv_check_scope.specs.Spaces.{named}
use Rattle.mv_check_expressions.specs.Judged.{Good, and_then}
use Rattle.mv_check_outline.specs.Names.{place_of}
use Rattle.mv_check_declarations.specs.Parameters.{parameters_judgement}
use Rattle.mv_check_statements.specs.Statements.{body_judgement}
use Rattle.mv_source_forms.specs.Typing.{IsIntegerSwitch, IsTypedFunction}
use Rattle.mv_source_forms.specs.WellFormed.{IsWellFormedSwitch, IsWellFormedPointer, IsWellFormedFunction}
use Rattle.mv_accepts.specs.Expressions.Soundness.{Fits}
use Rattle.mv_accepts.proofs.OfExpressions.Kept.{went_on, same_good}
use Rattle.mv_accepts.specs.Statements.Bodies.{Keeps}
use Rattle.mv_accepts.proofs.OfStatements.Names.{entered_means}
use Rattle.mv_accepts.proofs.OfStatements.Lists.{mapped_back, mapped_there, all_more}
use Rattle.mv_accepts.specs.Bodies.Declared.{Covers}
use Rattle.mv_accepts.specs.Bodies.Formed.{AreShaped, HasParameters}
use Rattle.mv_accepts.specs.Bodies.Definitions.{IsDefinition, HasScalarParameters, DefinitionHasParameters, IsFormed, DefinitionIsFormed}
use Rattle.mv_check_uses.specs.Uses.{switches_named}
use Rattle.mv_accepts_programs.specs.OwnSwitches.{OwnSwitchesAreNamed}
use Rattle.mv_types.specs.declared.contents.Contents.{Contents}
use Rattle.mv_types.specs.declared.contents.Foreknown.{Foreknown}
use Rattle.mv_types.specs.Foreknown.{attributed_number, is_attributed, switch_number}
use Rattle.mv_types.specs.Functions.{body_entered, left_with}
use Rattle.mv_types.specs.Units.{is_main_type, main_of, with_switches}
use Rattle.mv_accepts.specs.Names.Declared.{IsSound}
use Rattle.mv_accepts.specs.Names.Defined.{WasDefined, WereDefined}
use Rattle.mv_accepts.proofs.OfNames.Named.{same_place}
use Rattle.mv_accepts_programs.proofs.Lists.{all_by, named_below}
use Rattle.mv_accepts_programs.proofs.Units.{IsMade}
use Rattle.mv_accepts_programs.proofs.Fitting.{defined_at, function_at, file_fits, file_covers, file_shaped}

-- ---- scopes that a block of parameters enters

entered_fits : (p : Program) (f : Function) (s : Scope) (attributed : Bool) → Fits p f s → Fits p f (body_entered attributed s)
entered_fits p f s attributed fits = record {
  names = λ name m h. fits.names name m (sym (entered_means s name) ∙ h);
  signatures = fits.signatures;
  results = fits.results;
}

entered_covers : (locals : ℕ → Bool) (s : Scope) (attributed : Bool) → Covers locals s → Covers locals (body_entered attributed s)
entered_covers locals s attributed h name m q = h name m (sym (entered_means s name) ∙ q)

entered_shaped : (p : Program) (own : ℕ) (f : Function) (s : Scope) (attributed : Bool) → AreShaped p own f s → AreShaped p own f (body_entered attributed s)
entered_shaped p own f s attributed h name m q = h name m (sym (entered_means s name) ∙ q)

module _ (k : Foreknown) (c : Contents) (functions : List Function) (main : ℕ) (p : Program) (made : IsMade k c functions main p) (all : c.functions ≡ map (λ f. Some f) functions)
    (sound : IsSound k c) (were : WereDefined k c) where
  was : (own : ℕ) (f : Function) → slice_get functions own ≡ Some f → WasDefined k c f
  was own f h = were own f (ap (λ fs. slice_get fs own) all ∙ mapped_there (λ (g : Function). Some g) functions own f h)

  -- ---- definitions

  abbrev Defines : Function → Contents → Type 0
  Defines g before =
      (params : List Param) × (body : Line) × (attributed : Bool) × (after : Scope) × IsDefinition g params body (body_entered attributed before.scope) after
      × Keeps after.signatures p.signatures

  defines : (f : Function) (w : WasDefined k c f) → Defines (with_switches p.switches f) w.before
  defines f w =
      let a = is_attributed k w.name in
      let x = went_on (parameters_judgement (body_entered a w.before.scope) w.params)
      (λ m. and_then (body_judgement w.result w.body m) (λ b. Good (left_with w.name a w.result (length w.params) b.1 b.0))) (w.behind, f) w.judged in
      let y = went_on (body_judgement w.result w.body x.0) (λ b. Good (left_with w.name a w.result (length w.params) b.1 b.0)) (w.behind, f) x.2 in
      let e : left_with w.name a w.result (length w.params) y.0.1 y.0.0 ≡ (w.behind, f) = same_good _ _ y.2 in (
        w.params,
        w.body,
        a,
        y.0.0,
        subst (λ (z : Scope × Function). IsDefinition (with_switches p.switches z.1) w.params w.body (body_entered a w.before.scope) y.0.0) e
            (record { middle = x.0; judged_parameters = x.1; judged_body = y.1; none_before = refl; count = refl; locals = refl }),
        λ i s h. ap (λ ss. slice_get ss i) made.signatures ∙ w.extends_behind.signatures i s (subst (λ (z : Scope × Function). slice_get z.0.signatures i ≡ Some s) e h),
      )

  -- a function of the program is one that was defined, with its switches
  abbrev Found : ℕ → Function → Type 0
  Found own g = (f : Function) × (slice_get functions own ≡ Some f) × (with_switches p.switches f ≡ g)

  found : (own : ℕ) (g : Function) → slice_get p.functions own ≡ Some g → Found own g
  found own g h = mapped_back (with_switches p.switches) functions own g (sym (ap (λ fs. slice_get fs own) made.defined) ∙ h)

  module _ (parameters_law : DefinitionHasParameters) where
    has_one : (own : ℕ) (f : Function) → slice_get functions own ≡ Some f → HasScalarParameters (with_switches p.switches f)
    has_one own f h =
        let w = was own f h in
        let d = defines f w in
        parameters_law (with_switches p.switches f) d.0 d.1 (body_entered d.2 w.before.scope) d.3 d.4

    pub has_parameters : HasParameters p
    has_parameters own g h =
        let x = found own g h in
        subst (λ (z : Function). z.params ≤ length z.locals) x.2 (has_one own x.0 x.1).there

    -- ---- switches

    numbers : (f : Function) → AllByRecursion (λ s. s < length p.switches) (with_switches p.switches f).switches
    numbers f = by f.attributed
      where
        by : (b : Bool) → AllByRecursion (λ s. s < length p.switches) (if b then switches_named p.switches f.body else [])
        by true = named_below p.switches f
        by false = tt

    -- ---- well-formed functions

    module _ (switches : (name : List ℕ) (n : ℕ) → switch_number k name ≡ Some n → nat_lt n (length p.switches + length p.pointers) ≡ true)
        (attributed : (name : List ℕ) (g n : ℕ) → place_of name k.outline.functions ≡ Some g → attributed_number k name ≡ Some n → nat_lt n (length (attributed_functions p)) ≡ true)
        (formed : All (IsWellFormedSwitch p) p.switches) (pointed : All (IsWellFormedPointer p) p.pointers) (integers : (s : ℕ) → s < length p.switches → IsIntegerSwitch p s)
        (law : DefinitionIsFormed) (own_law : OwnSwitchesAreNamed) where
      is_formed : (own : ℕ) (f : Function) → slice_get functions own ≡ Some f → IsFormed p own (with_switches p.switches f)
      is_formed own f h =
          let w = was own f h in
          let d = defines f w in
          let g = with_switches p.switches f in
          let there = function_at k c functions main p made all sound own f h in
          law p own g d.0 d.1 (body_entered d.2 w.before.scope) d.3 d.4 d.5 has_parameters
          (entered_covers (λ l. false) w.before.scope d.2 (file_covers k c functions main p made all sound w.before w.sound w.extends))
          (entered_fits p g w.before.scope d.2 (file_fits k c functions main p made all sound w.before w.sound w.extends g))
          (entered_shaped p own g w.before.scope d.2
          (file_shaped k c functions main p made all sound w.before w.sound w.extends switches attributed formed pointed own g there (numbers f)))

      pub function_formed : (own : ℕ) (g : Function) → slice_get p.functions own ≡ Some g → IsWellFormedFunction p own g
      function_formed own g h =
          let x = found own g h in
          let s = has_one own x.0 x.1 in
          let f = is_formed own x.0 x.1 in
          subst (IsWellFormedFunction p own) x.2 (record {
            parameters_there = s.there;
            scalars = s.scalars;
            named = f.named;
            declared = f.declared;
            jumps = f.jumps;
            labels = f.labels;
            known = f.known;
            switches = λ a. own_law p (with_switches p.switches x.0) (ap (λ b. if b then switches_named p.switches x.0.body else []) a);
          })

      pub functions_typed : All (IsTypedFunction p) p.functions
      functions_typed = all_by (IsTypedFunction p) p.functions (λ own g h.
          let x = found own g h in
          subst (IsTypedFunction p) x.2 (record {
            switches = All-from_recursion (IsIntegerSwitch p) (with_switches p.switches x.0).switches
                (all_more (λ s. s < length p.switches) (IsIntegerSwitch p) integers (with_switches p.switches x.0).switches (numbers x.0));
            body = (is_formed own x.0 x.1).typed;
          }))

    -- ---- `main`

    abbrev IsMain : Option Meaning → Type 0
    IsMain o = (r : Routine) × (o ≡ Some (meaning.Function r)) × (r.number ≡ Some main)

    main_means : (o : Option Meaning) → main_of c.scope.signatures o ≡ Some main → IsMain o
    main_means (Some (meaning.Function r)) q = by (is_main_type (slice_get c.scope.signatures r.signature)) q
      where
        by : (b : Bool) → (if b then r.number else None) ≡ Some main → IsMain (Some (meaning.Function r))
        by true h = (r, refl, h)
        by false h = absurd (cc)
    main_means x q = absurd (cc)

    -- the function that `main` is
    pub record MainIs (f : Function) : Type 0 where
      pub there : slice_get functions main ≡ Some f
      pub name : f.name ≡ codes "main"

    module _ (q : main_of c.scope.signatures (named (codes "main") c.scope.names.here) ≡ Some main) where
      pub main_is : (f : Function) × MainIs f
      main_is =
          let m = main_means (named (codes "main") c.scope.names.here) q in
          let place : place_of (codes "main") k.outline.functions ≡ Some main = sym (sound.names (codes "main") (meaning.Function m.0) m.1).1 ∙ m.2 in
          let x = defined_at k c functions main p made all sound (codes "main") main place in
          let name : x.0.name ≡ codes "main" = same_place x.0.name (codes "main") k.outline.functions main x.2.number place in
          (x.0, record { there = x.1; name = name })

      pub main_plain : (g : Function) → slice_get p.functions p.main ≡ Some g → (f : Function) × MainIs f × (g.attributed ≡ f.attributed)
      main_plain g h =
          let x = main_is in
          let there = function_at k c functions main p made all sound main x.0 x.1.there in
          (x.0, x.1, ap (λ (y : Function). y.attributed) (same_Some g (with_switches p.switches x.0) (sym h ∙ (ap (λ n. slice_get p.functions n) made.entry ∙ there))))
