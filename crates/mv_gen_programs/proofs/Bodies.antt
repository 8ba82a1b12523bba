-- The functions of generated texts, besides `main`: what their bodies come to.
use Rattle.std.proofs.Common.{◌≡◌, ℕ, zero, suc, ◌<◌, true, false, List, [], ◌∷◌, ◌++◌, Some, None, refl, sym, ap, ◌∙◌, arith}
use Rattle.std.specs.Prelude.{codes}
use Rattle.std.specs.Fmt.{digits}
use Rattle.mv_syntax.specs.declared.place.Place.{Place}
use Rattle.mv_ast.specs.declared.program.Expr.{Expr}
use Rattle.mv_ast.specs.declared.program.Form.{Form}
use Rattle.mv_ast.specs.declared.program.Form.TheVariants as form
use Rattle.mv_ast.specs.declared.program.Signature.{Signature}
use Rattle.mv_ast.specs.declared.program.Stmt.TheVariants as stmt
use Rattle.mv_ast.specs.declared.program.Target.TheVariants as target
use Rattle.mv_check_scope.specs.declared.meaning.Variable.{Variable}
use Rattle.mv_check_scope.specs.declared.meaning.Meaning.TheVariants as meaning
use Rattle.mv_check_scope.specs.declared.meaning.Storage.TheVariants as storage
use Rattle.mv_check_scope.specs.declared.scope.Scope.{Scope}
use Rattle.mv_check_scope.specs.Conversions.{int, typed, converted_to}
use Rattle.mv_check_scope.specs.Names.{Names}
use Rattle.mv_check_scope.specs.Scoped.{meaning_of}
use Rattle.mv_check_expressions.specs.declared.seen.Seen.{Seen}
use Rattle.mv_check_expressions.specs.declared.seen.Seen.TheVariants as seen
use Rattle.mv_check_expressions.specs.declared.seen.Use.TheVariants as «use»
use Rattle.mv_check_expressions.specs.Breaches.{concluded}
use Rattle.mv_check_expressions.specs.Found.{binary_of, choose_of}
use Rattle.mv_check_expressions.specs.Judged.{Judged, Good, and_then}
use Rattle.mv_check_expressions.specs.Judgements.{judgement, value_judgement}
use Rattle.mv_check_expressions.specs.Rules.{meet, takes_two}
use Rattle.mv_check_expressions.specs.Seen.{object_of_variable, value_of}
use Rattle.mv_check_declarations.specs.Objects.{scalar}
use Rattle.mv_check_statements.specs.Statements.{body_judgement}
use Rattle.mv_check_statements.specs.Surroundings.{in_function}
use Rattle.mv_gen_programs.proofs.Lines.{switch_name}
use Rattle.mv_gen_programs.proofs.Trees.{Places, word, number, form_tree, definition_body}
use Rattle.mv_gen_programs.proofs.Values.{object_value, number_value, binary_judged, choose_judged, read_local, read_global, constant, binary, choose}
use Rattle.mv_gen_programs.proofs.Lined.{return_line, function_body, turn_more}

-- ---- the names

-- the j-th switch, which is the j-th global
abbrev pub switch_variable : ℕ → Variable
switch_variable j = record { storage = storage.Global j; ctype = int; fixed = false; switch = Some j }

-- what the switches' names mean
abbrev pub switch_meanings : Names
switch_meanings =
    (codes "s0", meaning.Object (switch_variable 0)) ∷ (codes "s1", meaning.Object (switch_variable 1)) ∷ (codes "s2", meaning.Object (switch_variable 2))
    ∷ (codes "s3", meaning.Object (switch_variable 3)) ∷ []

-- the first local
abbrev pub local_variable : Variable
local_variable = record { storage = storage.Local 0; ctype = int; fixed = false; switch = None }

-- the scope of a function's body, where these names are declared behind the switches
abbrev pub body_scope : Names → List Signature → Scope
body_scope names signatures = record {
  names = record { here = (codes "a", meaning.Object local_variable) ∷ []; around = (switch_meanings ++ names) ∷ [] };
  tags = record { here = []; around = [] ∷ [] };
  enumerations = [];
  signatures = signatures;
  locals = scalar int ∷ [];
  attributed = true;
}

-- one of four
pub four : (P : ℕ → Type 0) (j : ℕ) → j < 4 → P 0 → P 1 → P 2 → P 3 → P j
four P zero h a b c d = a
four P (suc zero) h a b c d = b
four P (suc (suc zero)) h a b c d = c
four P (suc (suc (suc zero))) h a b c d = d
four P (suc (suc (suc (suc j)))) h a b c d = absurd (omega arith)

switch_meant : (names : Names) (signatures : List Signature) (j : ℕ) → j < 4 → meaning_of (body_scope names signatures) (switch_name j) ≡ Some (meaning.Object (switch_variable j))
unfolding digits
switch_meant names signatures j h = four (λ j. meaning_of (body_scope names signatures) (switch_name j) ≡ Some (meaning.Object (switch_variable j))) j h refl refl refl refl

-- ---- the values

abbrev pub form_expression : (form switch constant : ℕ) → Expr
form_expression zero j c = binary 12 (read_local 0) (binary 14 (read_global j) (constant c))
form_expression (suc zero) j c = choose (read_global j) (binary 19 (read_local 0) (constant c)) (read_local 0)
form_expression (suc (suc zero)) j c =
    choose (binary 29 (read_global j) (constant 2)) (binary 12 (binary 14 (read_local 0) (constant 3)) (constant c)) (binary 13 (read_local 0) (constant c))
form_expression (suc (suc (suc f))) j c = read_local 0

abbrev pub count_of : ℕ → Seen
count_of n = seen.Value (constant n)

module _ (names : Names) (signatures : List Signature) (p : Places) (j c : ℕ) (h : j < 4) where
  abbrev scope : Scope
  scope = body_scope names signatures

  abbrev argument : Seen
  argument = seen.Object (object_of_variable local_variable)

  abbrev switch : Seen
  switch = seen.Object (object_of_variable (switch_variable j))

  argument_at : (at : Place) → judgement scope (word at (codes "a")) «use».Value ≡ Good argument
  argument_at at = object_value scope at (codes "a") local_variable refl refl

  switch_at : (at : Place) → judgement scope (word at (switch_name j)) «use».Value ≡ Good switch
  switch_at at = object_value scope at (switch_name j) (switch_variable j) refl (switch_meant names signatures j h)

  number_at : (at : Place) (n : ℕ) → judgement scope (number at n) «use».Value ≡ Good (count_of n)
  number_at at n = number_value scope at n

  sum_value : judgement scope (form_tree p 0 j c) «use».Value ≡ Good (seen.Value (form_expression 0 j c))
  unfolding concluded takes_two binary_of converted_to
  sum_value =
      binary_judged scope (p 14) «use».Value 12 _ _ argument (seen.Value (binary 14 (read_global j) (constant c))) (seen.Value (form_expression 0 j c)) (argument_at (p 14))
      (binary_judged scope (p 16) «use».Value 14 _ _ switch (count_of c) (seen.Value (binary 14 (read_global j) (constant c))) (switch_at (p 16)) (number_at (p 18) c) refl) refl

  choice_value : judgement scope (form_tree p 1 j c) «use».Value ≡ Good (seen.Value (form_expression 1 j c))
  unfolding concluded takes_two meet binary_of choose_of converted_to
  choice_value =
      choose_judged scope (p 14) «use».Value _ _ _ switch (seen.Value (binary 19 (read_local 0) (constant c))) argument (seen.Value (form_expression 1 j c)) (switch_at (p 14))
      (binary_judged scope (p 16) «use».Value 19 _ _ argument (count_of c) (seen.Value (binary 19 (read_local 0) (constant c))) (argument_at (p 16)) (number_at (p 18) c) refl)
      (argument_at (p 20)) refl

  test_value : judgement scope (form_tree p 2 j c) «use».Value ≡ Good (seen.Value (form_expression 2 j c))
  unfolding concluded takes_two meet binary_of choose_of converted_to
  test_value =
      choose_judged scope (p 14) «use».Value _ _ _ (seen.Value (binary 29 (read_global j) (constant 2))) (seen.Value (binary 12 (binary 14 (read_local 0) (constant 3)) (constant c)))
      (seen.Value (binary 13 (read_local 0) (constant c))) (seen.Value (form_expression 2 j c))
      (binary_judged scope (p 14) «use».Value 29 _ _ switch (count_of 2) (seen.Value (binary 29 (read_global j) (constant 2))) (switch_at (p 14)) (number_at (p 16) 2) refl)
      (binary_judged scope (p 18) «use».Value 12 _ _ (seen.Value (binary 14 (read_local 0) (constant 3))) (count_of c) (seen.Value (binary 12 (binary 14 (read_local 0) (constant 3)) (constant c)))
      (binary_judged scope (p 18) «use».Value 14 _ _ argument (count_of 3) (seen.Value (binary 14 (read_local 0) (constant 3))) (argument_at (p 18)) (number_at (p 20) 3) refl) (number_at (p 22) c) refl)
      (binary_judged scope (p 24) «use».Value 13 _ _ argument (count_of c) (seen.Value (binary 13 (read_local 0) (constant c))) (argument_at (p 24)) (number_at (p 26) c) refl) refl

  value : (n : Seen) (t : Expr) (f : ℕ) → judgement scope (form_tree p f j c) «use».Value ≡ Good n → value_of n ≡ t → value_judgement scope (form_tree p f j c) ≡ Good t
  value n t f k e = ap (λ (v : Judged Seen). and_then v (λ x. Good (value_of x))) k ∙ ap Good e

  pub form_value : (f : ℕ) → value_judgement scope (form_tree p f j c) ≡ Good (form_expression f j c)
  form_value zero = value (seen.Value (form_expression 0 j c)) (form_expression 0 j c) 0 sum_value refl
  form_value (suc zero) = value (seen.Value (form_expression 1 j c)) (form_expression 1 j c) 1 choice_value refl
  form_value (suc (suc zero)) = value (seen.Value (form_expression 2 j c)) (form_expression 2 j c) 2 test_value refl
  form_value (suc (suc (suc f))) = value argument (read_local 0) (suc (suc (suc f))) (argument_at (p 14)) refl

  body_by : (f : ℕ) (x : Form) → form_expression f j c ≡ typed int x → body_judgement int (definition_body p f j c) scope ≡ Good (scope, stmt.Return (Some (form_expression f j c)) ∷ [])
  body_by f x e =
      function_body (p 12) _ int scope scope (stmt.Return (Some (form_expression f j c)) ∷ [])
      (turn_more _ [] (in_function int) scope scope (stmt.Return (Some (form_expression f j c))) []
      (λ ss. return_line (p 13) (in_function int) scope (form_tree p f j c) x (form_value f ∙ ap Good e) refl ss ∙ ap (λ (y : Expr). Good (scope, ss ++ stmt.Return (Some y) ∷ [])) (sym e)))

  pub body_value : (f : ℕ) → body_judgement int (definition_body p f j c) scope ≡ Good (scope, stmt.Return (Some (form_expression f j c)) ∷ [])
  body_value zero = body_by 0 (form.Binary 12 (read_local 0) (binary 14 (read_global j) (constant c))) refl
  body_value (suc zero) = body_by 1 (form.Choose (read_global j) (binary 19 (read_local 0) (constant c)) (read_local 0)) refl
  body_value (suc (suc zero)) =
      body_by 2 (form.Choose (binary 29 (read_global j) (constant 2)) (binary 12 (binary 14 (read_local 0) (constant 3)) (constant c)) (binary 13 (read_local 0) (constant c))) refl
  body_value (suc (suc (suc f))) = body_by (suc (suc (suc f))) (form.Read (target.Local 0)) refl
