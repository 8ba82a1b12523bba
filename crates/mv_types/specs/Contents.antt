-- What the declarations of a unit so far come to.
use Rattle.std.specs.Prelude.{◌≡◌, ℕ, suc, List, [], ◌∷◌, ◌++◌, length, replicate, Option, Some, None, Result, Ok, Err, slice_set}
use Rattle.mv_ast.specs.declared.program.Function.{Function}
use Rattle.mv_ast.specs.declared.program.Switch.{Switch}
use Rattle.mv_check_scope.specs.declared.scope.Scope.{Scope}
use Rattle.mv_check_scope.specs.Scoped.{start}
use Rattle.mv_check_expressions.specs.declared.error.RuleError.{RuleError}
use Rattle.mv_check_expressions.specs.declared.error.RuleError.TheVariants as error
use Rattle.mv_check_expressions.specs.Judged.{Judged, Good, Broken}
use Rattle.mv_types.specs.declared.contents.Contents.{Contents}
use Rattle.mv_types.specs.declared.contents.Foreknown.{Foreknown}
use Rattle.mv_types.specs.declared.contents.Object.{Object}

-- at the start of a unit no function is defined yet
abbrev pub nothing_declared : Foreknown → Contents
nothing_declared k = record { scope = start; objects = []; functions = replicate (length k.outline.functions) None }

abbrev pub in_scope : Contents → Scope → Contents
in_scope c s = record c { scope = s }

-- a function is defined
abbrev pub with_function : Contents → ℕ → Function → Contents
with_function c number f = record c { functions = slice_set c.functions number (Some f) }

-- those of some functions that are defined
abbrev pub present : List (Option Function) → List Function
present [] = []
present (None ∷ fs) = present fs
present (Some f ∷ fs) = f ∷ present fs

-- the switch that a global is, if it has a domain
abbrev pub switch_of : (global : ℕ) → Option (List ℕ) → List Switch
switch_of n None = []
switch_of n (Some values) = record { global = n; values = values } ∷ []

-- the switches among some globals, of which the first has this number
abbrev pub switches_from : ℕ → List Object → List Switch
switches_from n [] = []
switches_from n (o ∷ os) = switch_of n o.domain ++ switches_from (suc n) os

-- What a result and the contents behind it show of a judgement: want of memory shows nothing.
abbrev pub ShowsContents : Judged Contents → Result (Unit {0}) RuleError → Contents → Type 0
ShowsContents judged (Ok done) c = judged ≡ Good c
ShowsContents judged (Err (error.Rule place rule)) c = judged ≡ Broken place rule
ShowsContents judged (Err error.Memory) c = Unit {0}

-- a judgement is what a result and the contents behind it show
pub record IsContinued (judged : Judged Contents) (result : Result (Unit {0}) RuleError) (c : Contents) : Type 0 where
  pub shown : ShowsContents judged result c
