-- The words of objects stay first values of their types behind declarators.
use Rattle.std.proofs.Common.{◌≡◌, ℕ, sym, subst, Bool, true, false, is_some, if◌then◌else◌, List, length, All, Option, Some, None}
use Rattle.std.specs.List.{AllByRecursion}
use Rattle.std.proofs.lemmas.List.Elements.{All-from_recursion, recursion_from_All, All-map}
use Rattle.mv_ast.specs.declared.program.CType.{CType}
use Rattle.mv_ast.specs.declared.program.Function.{Function}
use Rattle.mv_ast.specs.declared.program.Global.{Global}
use Rattle.mv_ast.specs.declared.program.Local.{Local}
use Rattle.mv_ast.specs.declared.program.Program.{Program}
use Rattle.mv_syntax.specs.declared.unit.Declarator.{Declarator}
use Rattle.mv_syntax.specs.declared.unit.Line.{Line}
use Rattle.mv_check_scope.specs.declared.meaning.Meaning.{Meaning}
use Rattle.mv_check_scope.specs.declared.scope.Scope.{Scope}
use Rattle.mv_check_scope.specs.Spaces.{named}
use Rattle.mv_check_declarations.specs.declared.attributes.Attribute.{Attribute}
use Rattle.mv_check_declarations.specs.declared.declarators.Entity.{Entity}
use Rattle.mv_check_declarations.specs.declared.declarators.Entity.TheVariants as entity
use Rattle.mv_check_declarations.specs.declared.globals.Designated.{Designated}
use Rattle.mv_check_declarations.specs.declared.specifiers.Specified.{Specified}
use Rattle.mv_check_declarations.specs.Globals.{file_declarator}
use Rattle.mv_check_declarations.specs.Initials.{array_size}
use Rattle.mv_check_declarations.specs.Objects.{scalar, sized}
use Rattle.mv_source_forms.specs.Typing.{IsFirstValue}
use Rattle.mv_accepts.specs.Expressions.Soundness.{Fits}
use Rattle.mv_check_outline.specs.Outlined.{declares_pointer}
use Rattle.mv_types.specs.declared.contents.Contents.{Contents}
use Rattle.mv_types.specs.declared.contents.Foreknown.{Foreknown}
use Rattle.mv_types.specs.declared.contents.Object.{Object}
use Rattle.mv_types.specs.Contents.{in_scope}
use Rattle.mv_types.specs.Functions.{function_judgement, definition_parameters}
use Rattle.mv_types.specs.Objects.{agrees, object_words, object_scope, again, object_behind, object_judgement, domain_by}
use Rattle.mv_types.specs.Units.{by_entity, nameless_values, named_declarator, base_of, declarator_judgement, program_of}
use Rattle.mv_accepts.proofs.OfStatements.Judging.{IfGood, of_good, by_good, if_any, if_then, if_more, if_both}
use Rattle.mv_accepts.specs.Globals.FirstValues.{FirstValuesAreTyped, FirstValuesAreKept, GlobalsHaveFirstValues}
use Rattle.mv_accepts.proofs.OfGlobals.Tests.{if_given}
use Rattle.mv_accepts.proofs.OfGlobals.Objects.{IsKept, object_kept, same_types, behind_have}
use Rattle.mv_accepts.proofs.OfGlobals.Units.{function_has}

module _ (p : Program) (f : Function) (typed : FirstValuesAreTyped) where
  abbrev IsFirst : Object → Type 0
  IsFirst o = All (IsFirstValue p o.global.ctype) o.global.first

  abbrev AreFirst : List Object → Type 0
  AreFirst = AllByRecursion IsFirst

  -- from objects to contents whose scope the program has
  abbrev Keeps : List Object → Contents → Type 0
  Keeps objects c = Fits p f c.scope → AreFirst objects → AreFirst c.objects

  again_first : (l : Local) (words : List ℕ) (given : Bool) (domain : Option (List ℕ)) → All (IsFirstValue p l.ctype) words → (o : Object) → IsFirst o →
      agrees o l given domain ≡ true → IsFirst (again o words given domain)
  again_first l words given domain w o h q = by given
    where
      by : (b : Bool) → All (IsFirstValue p o.global.ctype) (if b then words else o.global.first)
      by true = subst (λ t. All (IsFirstValue p t) words) (sym (same_types o l given domain q)) w
      by false = h

  module _ (k : Foreknown) (d : Declarator) (name : List ℕ) (domain : Option (List ℕ)) (c : Contents) where
    behind_first : (l : Local) (block : Bool) (before : Option Meaning) → IfGood (object_behind k d name l domain block c before) (Keeps c.objects)
    behind_first l block before =
        let s : Scope = object_scope k name before l (length c.objects) c.scope in
        let words = object_words d before c.objects l domain block s in
        let Kept : List ℕ → Type 0 = λ ws. IsKept d before c.objects l domain in
        let First : List ℕ → Type 0 = λ ws. Fits p f s → All (IsFirstValue p l.ctype) ws in
        if_then (λ ws. Kept ws × First ws) (Keeps c.objects) words _
        (if_both Kept First words (object_kept d before c.objects l domain block s)
        (if_given (Fits p f s) (All (IsFirstValue p l.ctype)) words (λ fits.
        by_good (All (IsFirstValue p l.ctype)) words (λ ws q. typed p f d before c.objects l domain block s ws fits q)))) (λ ws first fits h.
        behind_have IsFirst l ws (is_some d.initial) domain (λ n. first.1 fits) (again_first l ws (is_some d.initial) domain (first.1 fits)) c.objects name before h first.0.allowed)

    object_first : (l : Local) (block : Bool) → IfGood (object_judgement k d name l domain block c) (Keeps c.objects)
    unfolding object_judgement
    object_first l block = behind_first l block (named name c.scope.names.here)

  -- ---- declarators

  function_first : (k : Foreknown) (d : Declarator) (name : List ℕ) (result : CType) (signature : ℕ) (body : Option Line) (c : Contents) →
      IfGood (function_judgement k d name result signature body c) (Keeps c.objects)
  function_first k d name result signature body c =
      if_more (λ e. AreFirst c.objects → AreFirst e.objects) (Keeps c.objects) (function_judgement k d name result signature body c) (λ e h fits. h)
      (if_given (AreFirst c.objects) (λ (e : Contents). AreFirst e.objects) (function_judgement k d name result signature body c)
      (λ h. function_has AreFirst k d name result signature body c h))

  entity_first : (k : Foreknown) (b : Specified) (body : Option Line) (d : Declarator) (name : List ℕ) (e : Entity) (a : Option Attribute) (c : Contents) →
      IfGood (by_entity k b body d name e a c) (Keeps c.objects)
  entity_first k b body d name (entity.Function signature) a c = function_first k d name b.ctype signature body c
  entity_first k b body d name (entity.Scalar t fixed) a c = object_first k d name (domain_by (declares_pointer d) c.scope b.enumeration a) c (scalar t) (is_some body)
  entity_first k b body d name (entity.Array t fixed size) a c = object_first k d name (domain_by (declares_pointer d) c.scope b.enumeration a) c (sized t (array_size size d.initial)) (is_some body)

  named_first : (k : Foreknown) (b : Specified) (body : Option Line) (d : Declarator) (name : Option (List ℕ)) (e : Designated) (c : Contents) →
      IfGood (named_declarator k b body d name e c) (Keeps c.objects)
  unfolding named_declarator
  named_first k b body d None e c =
      if_then (λ u. Unit {0}) (Keeps c.objects) (nameless_values e.entity d.initial c.scope) _ (if_any (nameless_values e.entity d.initial c.scope)) (λ u v. tt)
  named_first k b body d (Some name) e c = entity_first k b body d name e.entity e.attribute c

  declarator_first : (k : Foreknown) (b : Specified) (body : Option Line) (d : Declarator) (c : Contents) → IfGood (declarator_judgement k b body d c) (Keeps c.objects)
  unfolding declarator_judgement
  declarator_first k b body d c =
      if_then (λ s. Unit {0}) (Keeps c.objects) (definition_parameters d body c.scope) _ (if_any (definition_parameters d body c.scope)) (λ s u.
      if_then (λ e. Unit {0}) (Keeps c.objects) (file_declarator (base_of k d b) d s) _ (if_any (file_declarator (base_of k d b) d s))
      (λ e v. named_first k b body d d.name e.1 (in_scope c e.0)))

pub first_kept : FirstValuesAreTyped → FirstValuesAreKept
first_kept typed p f k b body d before after q fits h =
    All-from_recursion (IsFirst p f typed) after.objects
    (of_good (Keeps p f typed before.objects) (declarator_judgement k b body d before) (declarator_first p f typed k b body d before) after q fits
    (recursion_from_All (IsFirst p f typed) before.objects h))

pub globals_first : GlobalsHaveFirstValues
unfolding program_of
globals_first p c pointers main h = All-map (λ (g : Global). All (IsFirstValue p g.ctype) g.first) (λ (o : Object). o.global) c.objects h
