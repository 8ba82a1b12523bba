-- The first values of globals (C11 6.7.9).
use Rattle.std.specs.Prelude.{◌≡◌, ℕ, Bool, All, List, Option}
use Rattle.mv_ast.specs.declared.program.Program.{Program}
use Rattle.mv_ast.specs.declared.program.Function.{Function}
use Rattle.mv_ast.specs.declared.program.Local.{Local}
use Rattle.mv_syntax.specs.declared.unit.Declarator.{Declarator}
use Rattle.mv_syntax.specs.declared.unit.Line.{Line}
use Rattle.mv_check_scope.specs.declared.meaning.Meaning.{Meaning}
use Rattle.mv_check_scope.specs.declared.scope.Scope.{Scope}
use Rattle.mv_check_expressions.specs.Judged.{Good}
use Rattle.mv_check_declarations.specs.declared.specifiers.Specified.{Specified}
use Rattle.mv_source_forms.specs.Typing.{IsFirstValue}
use Rattle.mv_accepts.specs.Expressions.Soundness.{Fits}
use Rattle.mv_types.specs.declared.contents.Contents.{Contents}
use Rattle.mv_types.specs.declared.contents.Foreknown.{Foreknown}
use Rattle.mv_types.specs.declared.contents.Object.{Object}
use Rattle.mv_types.specs.Objects.{object_words}
use Rattle.mv_types.specs.Units.{declarator_judgement, program_of}

-- In a program that has what the scope says, the words that a global is given are first values of its type.
abbrev pub FirstValuesAreTyped : Type 0
FirstValuesAreTyped =
    (p : Program) (f : Function) (d : Declarator) (before : Option Meaning) (objects : List Object) (l : Local) (domain : Option (List ℕ)) (block : Bool) (s : Scope)
    (words : List ℕ) → Fits p f s → object_words d before objects l domain block s ≡ Good words → All (IsFirstValue p l.ctype) words

-- what the objects so far are given are first values of their types
abbrev pub HaveFirstValues : Program → Contents → Type 0
HaveFirstValues p c = All (λ o. All (IsFirstValue p o.global.ctype) o.global.first) c.objects

-- This stays so behind a declarator where the program has what the scope behind it says.
abbrev pub FirstValuesAreKept : Type 0
FirstValuesAreKept =
    (p : Program) (f : Function) (k : Foreknown) (b : Specified) (body : Option Line) (d : Declarator) (before after : Contents) →
    declarator_judgement k b body d before ≡ Good after → Fits p f after.scope → HaveFirstValues p before → HaveFirstValues p after

-- What is so of the objects at the end is so of the program's globals.
abbrev pub GlobalsHaveFirstValues : Type 0
GlobalsHaveFirstValues =
    (p : Program) (c : Contents) (pointers : List ℕ) (main : ℕ) → HaveFirstValues p c → All (λ g. All (IsFirstValue p g.ctype) g.first) (program_of c pointers main).globals
