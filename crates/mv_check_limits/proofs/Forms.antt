-- The parameters of declarators and statements, form by form.
use Rattle.std.proofs.Common.{◌≡◌, ℕ, Bool, refl, ap, ◌∙◌, List, [], ◌∷◌, ◌++◌, map, length, nat_lt, Option, Some, None}
use Rattle.std.proofs.lemmas.List.{length-map}
use Rattle.std.proofs.lemmas.List.Folds.{find-append}
use Rattle.std.specs.List.{concat}
use Rattle.std.specs.Option.{option_or}
use Rattle.mv_syntax.specs.declared.unit.Node.{Node}
use Rattle.mv_syntax.specs.declared.unit.Specs.{Specs}
use Rattle.mv_syntax.specs.declared.unit.Declarator.{Declarator, fold_out-Declarator}
use Rattle.mv_syntax.specs.declared.unit.Shape.{Shape, Shape-F, out-Shape, map-Shape, fold_out-Shape}
use Rattle.mv_syntax.specs.declared.unit.Shape as form
use Rattle.mv_syntax.specs.declared.unit.Shape.TheVariants.{outs-Plain, outs-Array, outs-Function, outs-Pointer, outs-PointerArray}
use Rattle.mv_syntax.specs.declared.unit.Param.{Param, fold_out-Param}
use Rattle.mv_syntax.specs.declared.unit.Line.{Line, fold_out-Line}
use Rattle.mv_syntax.specs.declared.unit.Act.{Act, Act-F, out-Act, map-Act, fold_out-Act}
use Rattle.mv_syntax.specs.declared.unit.Act as at
use Rattle.mv_syntax.specs.declared.unit.Act.TheVariants.{outs-Block, outs-Declare, outs-Express, outs-If, outs-While, outs-Do, outs-For, outs-Switch, outs-Case, outs-Default, outs-Break, outs-Continue, outs-Return}
use Rattle.mv_check_limits.specs.Limits.{first_above}
use Rattle.mv_check_limits.specs.Ordered.{of_type, shape_layer, declarator_layer, param_layer, shape_parameters, declarator_parameters, param_parameters, act_layer, line_layer, line_parameters, act_parameters, optional_parameters}

-- a search through two lists
pub in_both : (xs ys : List ℕ) → first_above 8 (xs ++ ys) ≡ option_or (first_above 8 xs) (first_above 8 ys)
in_both xs ys = find-append (λ c. nat_lt 8 c) xs ys

-- ---- declarators

pub declarator_is : (d : Declarator) → declarator_parameters d ≡ shape_parameters d.shape
unfolding shape_parameters declarator_parameters
declarator_is d = fold_out-Declarator (List ℕ) (List ℕ) (List ℕ) shape_layer declarator_layer param_layer d

pub param_is : (p : Param) → param_parameters p ≡ declarator_parameters p.name
unfolding declarator_parameters param_parameters
param_is p = fold_out-Param (List ℕ) (List ℕ) (List ℕ) shape_layer declarator_layer param_layer p

pub params_are : (ps : List Param) → map param_parameters ps ≡ map (λ p. declarator_parameters p.name) ps
params_are [] = refl
params_are (p ∷ ps) = ap (λ c. c ∷ map param_parameters ps) (param_is p) ∙ ap (λ cs. declarator_parameters p.name ∷ cs) (params_are ps)

type_is : (ps : List Param) → of_type (map param_parameters ps) ≡ length ps ∷ concat (map (λ p. declarator_parameters p.name) ps)
type_is ps = ap (λ n. n ∷ concat (map param_parameters ps)) (length-map ps param_parameters) ∙ ap (λ cs. length ps ∷ concat cs) (params_are ps)

abbrev pub of_shape : Shape-F Shape Declarator Param → List ℕ
of_shape x = shape_layer (map-Shape Shape Declarator Param (List ℕ) (List ℕ) (List ℕ) shape_parameters declarator_parameters param_parameters x)

pub shape_is : (s : Shape) (x : Shape-F Shape Declarator Param) → out-Shape s ≡ x → shape_parameters s ≡ of_shape x
unfolding shape_parameters declarator_parameters param_parameters
shape_is s x e = fold_out-Shape (List ℕ) (List ℕ) (List ℕ) shape_layer declarator_layer param_layer s ∙ ap of_shape e

pub shape_plain : first_above 8 (shape_parameters form.Plain) ≡ None
shape_plain = ap (first_above 8) (shape_is _ _ outs-Plain)

pub shape_array : (size : Option Node) → first_above 8 (shape_parameters (form.Array size)) ≡ None
shape_array size = ap (first_above 8) (shape_is _ _ (outs-Array size))

pub shape_function : (ps : List Param) →
    first_above 8 (shape_parameters (form.Function ps)) ≡ first_above 8 (length ps ∷ concat (map (λ p. declarator_parameters p.name) ps))
shape_function ps = ap (first_above 8) (shape_is _ _ (outs-Function ps) ∙ type_is ps)

pub shape_pointer : (constant : Bool) (ps : List Param) →
    first_above 8 (shape_parameters (form.Pointer constant ps)) ≡ first_above 8 (length ps ∷ concat (map (λ p. declarator_parameters p.name) ps))
shape_pointer constant ps = ap (first_above 8) (shape_is _ _ (outs-Pointer constant ps) ∙ type_is ps)

pub shape_pointers : (constant : Bool) (size : Option Node) (ps : List Param) →
    first_above 8 (shape_parameters (form.PointerArray constant size ps)) ≡ first_above 8 (length ps ∷ concat (map (λ p. declarator_parameters p.name) ps))
shape_pointers constant size ps = ap (first_above 8) (shape_is _ _ (outs-PointerArray constant size ps) ∙ type_is ps)

pub ruleset shapes = (shape_plain, shape_array, shape_function, shape_pointer, shape_pointers)

-- ---- statements

pub line_is : (l : Line) → line_parameters l ≡ act_parameters l.what
unfolding line_parameters act_parameters
line_is l = fold_out-Line (List ℕ) (List ℕ) act_layer line_layer l

abbrev of_act : Act-F Act Line → List ℕ
of_act x = act_layer (map-Act Act Line (List ℕ) (List ℕ) act_parameters line_parameters x)

act_is : (a : Act) (x : Act-F Act Line) → out-Act a ≡ x → act_parameters a ≡ of_act x
unfolding line_parameters act_parameters
act_is a x e = fold_out-Act (List ℕ) (List ℕ) act_layer line_layer a ∙ ap of_act e

by : (a : Act) (x : Act-F Act Line) → out-Act a ≡ x → first_above 8 (act_parameters a) ≡ first_above 8 (of_act x)
by a x e = ap (first_above 8) (act_is a x e)

pub act_block : (lines : List Line) → first_above 8 (act_parameters (at.Block lines)) ≡ first_above 8 (concat (map line_parameters lines))
act_block lines = by _ _ (outs-Block lines)

pub act_declare : (specs : Specs) (names : List Declarator) →
    first_above 8 (act_parameters (at.Declare specs names)) ≡ first_above 8 (concat (map declarator_parameters names))
act_declare specs names = by _ _ (outs-Declare specs names)

pub act_express : (e : Option Node) → first_above 8 (act_parameters (at.Express e)) ≡ None
act_express e = by _ _ (outs-Express e)

pub act_if : (e : Node) (first : Line) (second : Option Line) →
    first_above 8 (act_parameters (at.If e first second)) ≡ option_or (first_above 8 (line_parameters first)) (first_above 8 (optional_parameters second))
act_if e first None = by _ _ (outs-If e first None) ∙ in_both (line_parameters first) []
act_if e first (Some second) = by _ _ (outs-If e first (Some second)) ∙ in_both (line_parameters first) (line_parameters second)

pub act_while : (e : Node) (body : Line) → first_above 8 (act_parameters (at.While e body)) ≡ first_above 8 (line_parameters body)
act_while e body = by _ _ (outs-While e body)

pub act_do : (body : Line) (e : Node) → first_above 8 (act_parameters (at.Do body e)) ≡ first_above 8 (line_parameters body)
act_do body e = by _ _ (outs-Do body e)

pub act_for : (first : Option Line) (test step : Option Node) (body : Line) →
    first_above 8 (act_parameters (at.For first test step body)) ≡ option_or (first_above 8 (optional_parameters first)) (first_above 8 (line_parameters body))
act_for None test step body = by _ _ (outs-For None test step body)
act_for (Some first) test step body = by _ _ (outs-For (Some first) test step body) ∙ in_both (line_parameters first) (line_parameters body)

pub act_switch : (e : Node) (body : Line) → first_above 8 (act_parameters (at.Switch e body)) ≡ first_above 8 (line_parameters body)
act_switch e body = by _ _ (outs-Switch e body)

pub act_case : (e : Node) → first_above 8 (act_parameters (at.Case e)) ≡ None
act_case e = by _ _ (outs-Case e)

pub act_default : first_above 8 (act_parameters at.Default) ≡ None
act_default = by _ _ outs-Default

pub act_break : first_above 8 (act_parameters at.Break) ≡ None
act_break = by _ _ outs-Break

pub act_continue : first_above 8 (act_parameters at.Continue) ≡ None
act_continue = by _ _ outs-Continue

pub act_return : (e : Option Node) → first_above 8 (act_parameters (at.Return e)) ≡ None
act_return e = by _ _ (outs-Return e)

pub ruleset acts = (act_block, act_declare, act_express, act_if, act_while, act_do, act_for, act_switch, act_case, act_default, act_break, act_continue, act_return)
