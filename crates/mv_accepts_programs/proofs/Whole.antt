-- The program of a unit that keeps the rules.
use Rattle.std.proofs.Common.{◌≡◌, ℕ, ◌+◌, ◌≤◌, ◌<◌, sym, ◌∙◌, ap, subst, arith, true, false, nat_lt, IfSome, List, length, [], ◌++◌, Some, None, slice_get, length-append}
use Rattle.std.specs.Prelude.{◌≢◌, All, AllPairs}
use Rattle.mv_ast.specs.declared.program.Function.{Function}
use Rattle.mv_ast.specs.declared.program.Global.{Global}
use Rattle.mv_ast.specs.declared.program.Program.{Program}
use Rattle.mv_syntax.specs.declared.unit.Unit as unit
use Rattle.mv_ast.specs.Switches.{attributed_functions}
use Rattle.std.specs.List.{AllByRecursion}
use Rattle.std.proofs.lemmas.List.Elements.{All-weaker, recursion_from_All}
use Rattle.std.proofs.lemmas.Bool.{lt-ltb}
use Rattle.std.proofs.lemmas.List.{length-map}
use Rattle.mv_ast.specs.declared.program.Switch.{Switch}
use Rattle.mv_check_outline.specs.Names.{place_of, number_in}
use Rattle.mv_check_outline.proofs.Places.{place_within}
use Rattle.mv_check_expressions.specs.Judged.{Good}
use Rattle.mv_check_declarations.specs.Turns.{through}
use Rattle.mv_accepts.specs.Expressions.Soundness.{Fits}
use Rattle.mv_accepts.specs.Statements.Bodies.{BodyGrows, ParametersFit}
use Rattle.mv_accepts.proofs.OfStatements.Judging.{of_good}
use Rattle.mv_check_limits.specs.Limits.{first_exceeded}
use Rattle.mv_source_forms.specs.Typing.{IsFirstValue, IsPointerSwitch, HasTypedMain}
use Rattle.mv_source_forms.specs.WellFormed.{IsWellFormedPointer, IsWellFormed, program_nodes}
use Rattle.mv_accepts.specs.Bodies.Definitions.{DefinitionHasParameters, DefinitionIsFormed}
use Rattle.mv_accepts_programs.specs.OwnSwitches.{OwnSwitchesAreNamed}
use Rattle.mv_types.specs.declared.contents.Contents.{Contents}
use Rattle.mv_types.specs.declared.contents.Foreknown.{Foreknown}
use Rattle.mv_types.specs.declared.contents.Object.{Object}
use Rattle.mv_types.specs.Foreknown.{foreknown, is_attributed, switch_number, pointers_of}
use Rattle.mv_types.specs.Contents.{nothing_declared, present}
use Rattle.mv_types.specs.Units.{item_judgement, unit_judgement}
use Rattle.mv_accepts.specs.Names.Declared.{Extends, IsSound}
use Rattle.mv_accepts.specs.Names.Defined.{WereDefined}
use Rattle.mv_accepts.specs.Names.Laws.{FileScopeIsSound}
use Rattle.mv_accepts.specs.Globals.Globals.{HasFormedGlobals, GlobalsAreFormed}
use Rattle.mv_accepts.specs.Globals.FirstValues.{HaveFirstValues, FirstValuesAreKept, GlobalsHaveFirstValues}
use Rattle.mv_accepts.specs.Numbers.Numbers.{AreDefined, FunctionsAreDefined, ItemsAreForeknown, AreAttributed, AttributedAreCounted, AreSwitches, SwitchesAreCounted, IsPointerAt, ArePointers, PointersAreCounted, IsForeknown}
use Rattle.mv_accepts.specs.Limits.Limits.{WithinLimits}
use Rattle.mv_accepts.specs.Limits.Main.{MainIsTyped, MainIsUnmarked}
use Rattle.mv_accepts.proofs.OfNames.Extending.{extends_same}
use Rattle.mv_accepts.proofs.OfNames.Units.{sound_start}
use Rattle.mv_accepts_programs.proofs.Lists.{all_at, all_by}
use Rattle.mv_accepts.proofs.OfStatements.Lists.{mapped_there}
use Rattle.mv_accepts_programs.proofs.Units.{ComesFrom, comes_from, IsMade, is_made}
use Rattle.mv_accepts_programs.proofs.Fitting.{file_fits}
use Rattle.mv_accepts_programs.proofs.Given.{nobody, Goes, items_go}
use Rattle.mv_accepts_programs.proofs.Functions.{has_parameters, function_formed, functions_typed, main_plain}

-- what holds of bodies, of definitions, of declarations and of limits
pub record Laws : Type 0 where
  pub fit : ParametersFit
  pub grow : BodyGrows
  pub parameters : DefinitionHasParameters
  pub formed : DefinitionIsFormed
  pub own : OwnSwitchesAreNamed
  pub known : ItemsAreForeknown
  pub scope : FileScopeIsSound
  pub defined : FunctionsAreDefined
  pub attributed : AttributedAreCounted
  pub switches : SwitchesAreCounted
  pub pointers : PointersAreCounted
  pub globals : GlobalsAreFormed
  pub kept : FirstValuesAreKept
  pub given : GlobalsHaveFirstValues
  pub main : MainIsTyped
  pub unmarked : MainIsUnmarked
  pub limits : WithinLimits

module _ (laws : Laws) where
  module _ (u : unit.Unit) (p : Program) (q : unit_judgement u ≡ Good p) where
    abbrev k : Foreknown
    k = foreknown u.items

    from : ComesFrom u p
    from = comes_from u p q

    abbrev c : Contents
    c = from.0

    abbrev main : ℕ
    main = from.1

    all_defined : AreDefined k c
    all_defined = laws.defined u.items c from.2

    made : IsMade k c (present c.functions) main p
    made = subst (IsMade k c (present c.functions) main) (sym from.4) (is_made k c (present c.functions) main all_defined.all)

    known : AllByRecursion (IsForeknown k) u.items
    known = recursion_from_All (IsForeknown k) u.items (laws.known u.items)

    sound : IsSound k c × WereDefined k c
    sound = laws.scope u.items c from.2

    formed : HasFormedGlobals p
    formed = laws.globals u p q

    counted : AreSwitches k c p.switches
    counted = subst (λ (x : Program). AreSwitches k c x.switches) (sym from.4) (laws.switches u.items c (pointers_of k) main from.2)

    -- ---- pointer switches

    pointed : ArePointers k c
    pointed = laws.pointers u.items c from.2

    global_at : (g : ℕ) (x : IsPointerAt c g) → slice_get p.globals g ≡ Some x.object.global
    global_at g x = ap (λ gs. slice_get gs g) made.globals ∙ mapped_there (λ (o : Object). o.global) c.objects g x.object x.there

    pointers_formed : All (IsWellFormedPointer p) p.pointers
    pointers_formed =
        subst (All (IsWellFormedPointer p)) (sym made.pointers)
        (All-weaker (IsPointerAt c) (IsWellFormedPointer p) (λ g x. record { global = x.object.global; there = global_at g x; scalar = x.scalar }) (pointers_of k) pointed.each)

    pointers_typed : All (IsPointerSwitch p) p.pointers
    pointers_typed =
        subst (All (IsPointerSwitch p)) (sym made.pointers)
        (All-weaker (IsPointerAt c) (IsPointerSwitch p) (λ g x. record {
          signature = x.signature;
          global = mapped_there (λ (y : Global). y.ctype) p.globals g x.object.global (global_at g x) ∙ ap (λ t. Some t) x.ctype;
        }) (pointers_of k) pointed.each)

    -- a name that is marked has its number among the switches and the pointer switches
    switches_below : (name : List ℕ) (n : ℕ) → switch_number k name ≡ Some n → nat_lt n (length p.switches + length p.pointers) ≡ true
    switches_below name n q =
        let within : n < length (k.outline.switches ++ k.outline.pointers) =
        subst (λ o. IfSome o (λ i. i < length (k.outline.switches ++ k.outline.pointers))) q (place_within name (k.outline.switches ++ k.outline.pointers)) in
        let both = length-append k.outline.switches k.outline.pointers in
        let switches : length p.switches ≡ length k.outline.switches =
        sym (length-map p.switches (λ (s : Switch). Some s.global)) ∙ (ap length counted.globals ∙ length-map k.outline.switches (λ name. place_of name k.outline.objects)) in
        let pointers : length p.pointers ≡ length k.outline.pointers = ap length made.pointers ∙ length-map k.outline.pointers (number_in k.outline.objects) in
        lt-ltb n (length p.switches + length p.pointers) (omega (arith, within, both, switches, pointers))

    attributed_are : AreAttributed k (attributed_functions p)
    attributed_are = subst (λ (x : Program). AreAttributed k (attributed_functions x)) (sym from.4) (laws.attributed u.items c (pointers_of k) main from.2)

    entry_typed : HasTypedMain p
    entry_typed = laws.main u.end (pointers_of k) c p nobody from.5 (file_fits k c (present c.functions) main p made all_defined.all sound.0 c sound.0 (extends_same c) nobody)
        (has_parameters k c (present c.functions) main p made all_defined.all sound.0 sound.1 laws.parameters)

    fits : (b : Contents) → IsSound k b → Extends b c → Fits p nobody b.scope
    fits b s e = file_fits k c (present c.functions) main p made all_defined.all sound.0 b s e nobody

    first_values : HaveFirstValues p c
    first_values =
        (of_good (Goes laws.fit laws.grow k c p fits laws.kept (nothing_declared k)) (through (item_judgement k) u.items (nothing_declared k))
        (items_go laws.fit laws.grow k c p fits laws.kept u.items known (nothing_declared k)) c from.2 (sound_start k)).1 (extends_same c)
        (all_by (λ (o : Object). All (IsFirstValue p o.global.ctype) o.global.first) [] (λ i o h. absurd (cc)))

    globals_typed : All (λ g. All (IsFirstValue p g.ctype) g.first) p.globals
    globals_typed = subst (λ (x : Program). All (λ (g : Global). All (IsFirstValue p g.ctype) g.first) x.globals) (sym from.4) (laws.given p c (pointers_of k) main first_values)

    entry_plain : (g : Function) → slice_get p.functions p.main ≡ Some g → g.attributed ≡ false
    entry_plain g h =
        let x = main_plain k c (present c.functions) main p made all_defined.all sound.0 sound.1 laws.parameters from.3 g h in
        let m = x.1 in
        x.2 ∙
        (all_at (λ (f : Function). f.attributed ≡ is_attributed k f.name) (present c.functions) all_defined.attributed main x.0 m.there ∙
        (ap (is_attributed k) m.name ∙ laws.unmarked u.items c from.2))

    pub unit_formed : first_exceeded p ≡ None → program_nodes p ≤ 16777216 → IsWellFormed p
    unit_formed none small = record {
      typed = record {
        functions =
            functions_typed k c (present c.functions) main p made all_defined.all sound.0 sound.1 laws.parameters switches_below attributed_are.below formed.switches pointers_formed
            formed.integers laws.formed laws.own;
        pointers = pointers_typed;
        globals = globals_typed;
        entry = entry_typed;
      };
      functions =
          function_formed k c (present c.functions) main p made all_defined.all sound.0 sound.1 laws.parameters switches_below attributed_are.below formed.switches pointers_formed
          formed.integers laws.formed laws.own;
      globals = formed.globals;
      switches = formed.switches;
      pointers = pointers_formed;
      different_pointers = subst (AllPairs (λ g h. g ≢ h)) (sym made.pointers) pointed.different;
      entry = entry_plain;
      limits = laws.limits p none small;
    }
