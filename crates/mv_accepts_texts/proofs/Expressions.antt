-- The value of an expression that keeps the rules names the globals that the names in its text mean: by induction over it.
use Rattle.std.proofs.Common.{◌≡◌, ℕ, Bool, true, false, not, ◌&&◌, ◌||◌, refl, sym, ◌∙◌, ap, subst, if◌then◌else◌, List, [], ◌∷◌, ◌++◌, map, length, nat_eq, nat_lt, is_none, Option, Some, None}
use Rattle.std.proofs.Math.Bool.{or-false}
use Rattle.std.proofs.lemmas.Bool.{and_parts, eqb-true, not-false, or_parts, or_from}
use Rattle.std.proofs.lemmas.List.Folds.{list_any-append}
use Rattle.std.specs.List.{flat_map}
use Rattle.mv_ast.specs.declared.program.CType.{CType}
use Rattle.mv_ast.specs.declared.program.CType.TheVariants.{Void, Pointer, Scalar}
use Rattle.mv_ast.specs.declared.program.Expr.{Expr}
use Rattle.mv_ast.specs.declared.program.Known.{Known}
use Rattle.mv_ast.specs.declared.program.Known.TheVariants as known
use Rattle.mv_syntax.specs.declared.unit.Node.{Node, out-Node, fold_out-Node}
use Rattle.mv_syntax.specs.declared.unit.What.{What, What-F, out-What, map-What, fold-What, fold_out-What}
use Rattle.mv_syntax.specs.declared.unit.What.TheOpen as what
use Rattle.mv_syntax.specs.declared.unit.EnumSpec.{EnumSpec, fold-EnumSpec}
use Rattle.mv_syntax.specs.declared.unit.Mark.{Mark, fold-Mark}
use Rattle.mv_syntax.specs.declared.unit.Member.{Member, fold-Member}
use Rattle.mv_syntax.specs.declared.unit.Specs.{Specs, fold-Specs}
use Rattle.mv_check_scope.specs.Conversions.{int, typed, is_void, is_pointer, promoted}
use Rattle.mv_check_scope.specs.Scoped.{meaning_of}
use Rattle.mv_check_scope.specs.declared.meaning.Meaning.{Meaning}
use Rattle.mv_check_scope.specs.declared.meaning.Meaning.TheVariants as meaning
use Rattle.mv_check_scope.specs.declared.scope.Scope.{Scope}
use Rattle.mv_check_expressions.specs.declared.seen.Seen.{Seen}
use Rattle.mv_check_expressions.specs.declared.seen.Seen.TheVariants as seen
use Rattle.mv_check_expressions.specs.declared.seen.Use.{Use}
use Rattle.mv_check_expressions.specs.declared.seen.Use.TheVariants as «use»
use Rattle.mv_check_expressions.specs.Calls.{known_params, known_arity, planned_use, argument_use, params_of, pointed, result_of, named_function, direct_or_through, takes_count, passed, called_with, call_of}
use Rattle.mv_check_expressions.specs.Found.{is_address, is_indirection, element_of, named_switch, address_of, unary_of, unary_seen, assign_of, before_of, after_of}
use Rattle.mv_check_expressions.specs.Judged.{Good}
use Rattle.mv_check_expressions.specs.Judgements.{operand_use, cast_use, judgement, value_judgement, effect_judgement}
use Rattle.mv_check_expressions.specs.Rules.{is_bare, is_misnamed, is_misapplied, is_wrong_operand}
use Rattle.mv_check_expressions.specs.Seen.{value_of, type_of, array_of, object_of, is_array, is_assignable, is_attributed, is_function, is_named_switch, switch_of, seen_name}
use Rattle.mv_accepts.proofs.OfExpressions.Induction.{Steps, every_node}
use Rattle.mv_accepts.proofs.OfExpressions.Kept.{went_on}
use Rattle.mv_accepts_texts.specs.Expressions.{NameList, Standing, what_names, no_enum, no_mark, no_member, node_names, no_specs, standing, names_in}
use Rattle.mv_accepts_texts.specs.Meanings.{is_stored, is_global, names_global}
use Rattle.mv_accepts_texts.proofs.Globals.{either_same, Names, NamesAny, among_both, number_names, read_names, function_names, known_names, after_names, object_names, element_names, converted_names, promoted_names, one_names, two_names, three_names, assigned_names, before_names, called_names}
use Rattle.mv_accepts.proofs.OfExpressions.CallForms.{none_passed}

-- ---- the names of a node, form by form

abbrev what_standing : What → Standing
what_standing = fold-What Standing (Unit {0}) (Unit {0}) (Unit {0}) Standing (Unit {0}) what_names no_enum no_mark no_member node_names no_specs

abbrev of_enum : EnumSpec → Unit {0}
of_enum = fold-EnumSpec Standing (Unit {0}) (Unit {0}) (Unit {0}) Standing (Unit {0}) what_names no_enum no_mark no_member node_names no_specs

abbrev of_mark : Mark → Unit {0}
of_mark = fold-Mark Standing (Unit {0}) (Unit {0}) (Unit {0}) Standing (Unit {0}) what_names no_enum no_mark no_member node_names no_specs

abbrev of_member : Member → Unit {0}
of_member = fold-Member Standing (Unit {0}) (Unit {0}) (Unit {0}) Standing (Unit {0}) what_names no_enum no_mark no_member node_names no_specs

abbrev of_specs : Specs → Unit {0}
of_specs = fold-Specs Standing (Unit {0}) (Unit {0}) (Unit {0}) Standing (Unit {0}) what_names no_enum no_mark no_member node_names no_specs

abbrev Layer : Type 0
Layer = What-F What EnumSpec Mark Member Node Specs

abbrev layer_names : Layer → Standing
layer_names x = what_names (map-What What EnumSpec Mark Member Node Specs Standing (Unit {0}) (Unit {0}) (Unit {0}) Standing (Unit {0}) what_standing of_enum of_mark of_member standing of_specs x)

abbrev form_of : Node → Layer
form_of n = out-What (out-Node n).what

stands_by : (n : Node) (x : Layer) → form_of n ≡ x → (addressed : Bool) → standing n addressed ≡ layer_names x addressed
unfolding standing
stands_by n x o addressed =
    ap (λ (s : Standing). s addressed)
    (fold_out-Node Standing (Unit {0}) (Unit {0}) (Unit {0}) Standing (Unit {0}) what_names no_enum no_mark no_member node_names no_specs n ∙
    (fold_out-What Standing (Unit {0}) (Unit {0}) (Unit {0}) Standing (Unit {0}) what_names no_enum no_mark no_member node_names no_specs (out-Node n).what ∙ ap layer_names o))

arguments_stand : (nodes : List Node) → flat_map (λ (a : Standing). a false) (map standing nodes) ≡ flat_map names_in nodes
arguments_stand [] = refl
arguments_stand (n ∷ nodes) = ap (λ names. names_in n ++ names) (arguments_stand nodes)

-- ---- names, and the operand of `&`

abbrev is_name_form : Layer → Bool
is_name_form (what.Name name) = true
is_name_form x = false

abbrev is_name : Node → Bool
is_name n = is_name_form (form_of n)

-- `&` makes a difference before a name alone
addressed_name : (n : Node) → is_name n ≡ true → standing n true ≡ []
addressed_name n h = by (form_of n) refl h
  where
    by : (x : Layer) → form_of n ≡ x → is_name_form x ≡ true → standing n true ≡ []
    by (what.Name name) o q = stands_by n _ o true
    by x o q = absurd (cc)

addressed_other : (n : Node) → is_name n ≡ false → standing n true ≡ names_in n
addressed_other n h = by (form_of n) refl h
  where
    by : (x : Layer) → form_of n ≡ x → is_name_form x ≡ false → standing n true ≡ names_in n
    by (what.Name name) o q = absurd (cc)
    by x o q = stands_by n _ o true ∙ sym (stands_by n _ o false)

module _ (g : ℕ) (scope : Scope) where
  -- ---- what is shown

  abbrev Stands : NameList → Bool
  Stands = names_global g scope

  stands_both : (xs ys : NameList) → Stands (xs ++ ys) ≡ (Stands xs || Stands ys)
  stands_both xs ys = list_any-append (λ name. is_global g (meaning_of scope name)) xs ys

  -- an array's name has no value
  abbrev SeenNames : Seen → Bool
  SeenNames (seen.Array a) = is_stored g a.storage
  SeenNames x = Names g (value_of x)

  -- a name is no object where it is a function's, and nothing else is a switch's
  abbrev Kinds : Bool → Seen → Type 0
  Kinds true y = is_function y ≡ true → SeenNames y ≡ false
  Kinds false y = switch_of y ≡ None

  record Has (n : Node) (u : Use) (y : Seen) : Type 0 where
    bare : is_bare u y ≡ false
    named : is_misnamed u y ≡ false
    kind : Kinds (is_name n) y
    same : SeenNames y ≡ Stands (names_in n)

  abbrev HaveAll : List Node → Use → List Seen → Type 0
  HaveAll [] u [] = Unit {0}
  HaveAll (n ∷ nodes) u (y ∷ ys) = Has n u y × HaveAll nodes u ys
  HaveAll _ u _ = ⊥

  -- what is no name
  has : (n : Node) (u : Use) (x : Layer) → form_of n ≡ x → is_name_form x ≡ false → (y : Seen) → is_bare u y ≡ false → is_misnamed u y ≡ false →
      switch_of y ≡ None → SeenNames y ≡ Stands (layer_names x false) → Has n u y
  has n u x o other y bare named kind same = record {
    bare = bare;
    named = named;
    kind = subst (λ b. Kinds b y) (sym (ap is_name_form o ∙ other)) kind;
    same = same ∙ sym (ap Stands (stands_by n x o false));
  }

  -- ---- values

  seen_value : (x : Seen) → is_array x ≡ false → SeenNames x ≡ Names g (value_of x)
  seen_value (seen.Array a) h = absurd (cc)
  seen_value x h = refl

  value_same : (n : Node) (x : Seen) → Has n «use».Value x → Names g (value_of x) ≡ Stands (names_in n)
  value_same n x h = sym (seen_value x h.bare) ∙ h.same

  effect_same : (n : Node) (x : Seen) → Has n «use».Effect x → Names g (value_of x) ≡ Stands (names_in n)
  effect_same n x h = sym (seen_value x h.bare) ∙ h.same

  place_same : (n : Node) (x : Seen) → Has n «use».Place x → Names g (value_of x) ≡ Stands (names_in n)
  place_same n x h = sym (seen_value x h.bare) ∙ h.same

  callee_same : (n : Node) (x : Seen) → Has n «use».Callee x → Names g (value_of x) ≡ Stands (names_in n)
  callee_same n x h = sym (seen_value x h.bare) ∙ h.same

  cast_same : (t : CType) (n : Node) (x : Seen) → Has n (cast_use t) x → Names g (value_of x) ≡ Stands (names_in n)
  cast_same Void n x h = sym (seen_value x h.bare) ∙ h.same
  cast_same (Scalar k) n x h = sym (seen_value x h.bare) ∙ h.same
  cast_same (Pointer s) n x h = sym (seen_value x h.bare) ∙ h.same

  -- ---- names

  name_seen : (m : Option Meaning) → SeenNames (seen_name m) ≡ is_global g m
  name_seen None = number_names g Void 0
  name_seen (Some (meaning.Object v)) = read_names g v.ctype _ ∙ object_names g v.storage
  name_seen (Some (meaning.Array a)) = refl
  name_seen (Some (meaning.Function r)) = function_names g _ _
  name_seen (Some (meaning.Enumerator n)) = number_names g int n
  name_seen (Some (meaning.Tag e)) = number_names g Void 0
  name_seen (Some (meaning.Known k)) = number_names g Void 0

  name_kind : (m : Option Meaning) → is_function (seen_name m) ≡ true → SeenNames (seen_name m) ≡ false
  name_kind (Some (meaning.Function r)) h = function_names g _ _
  name_kind None h = absurd (cc)
  name_kind (Some m) h = absurd (cc)

  name_has : (n : Node) (u : Use) (name : List ℕ) → form_of n ≡ what.Name name → is_bare u (seen_name (meaning_of scope name)) ≡ false →
      is_misnamed u (seen_name (meaning_of scope name)) ≡ false → Has n u (seen_name (meaning_of scope name))
  name_has n u name o bare named = record {
    bare = bare;
    named = named;
    kind = subst (λ b. Kinds b (seen_name (meaning_of scope name))) (sym (ap is_name_form o)) (name_kind (meaning_of scope name));
    same = name_seen (meaning_of scope name) ∙ sym (ap Stands (stands_by n _ o false) ∙ or-false (is_global g (meaning_of scope name)));
  }

  -- ---- operators before an operand

  abbrev Shown : Seen → NameList → Type 0
  Shown y names = (SeenNames y ≡ Stands names) × (switch_of y ≡ None)

  switch_same : (o : Option ℕ) → SeenNames (named_switch o) ≡ false
  switch_same None = number_names g Void 0
  switch_same (Some s) = number_names g Void 0

  switch_none : (o : Option ℕ) → switch_of (named_switch o) ≡ None
  switch_none None = refl
  switch_none (Some s) = refl

  switch_there : (o : Option ℕ) → not (is_named_switch (named_switch o)) ≡ false → o ≡ None → ⊥
  switch_there None h q = absurd (cc)
  switch_there (Some s) h q = absurd (cc)

  function_switch : (x : Seen) → not (is_function x) ≡ false → switch_of x ≡ None
  function_switch (seen.Function f) h = refl
  function_switch (seen.Designator e) h = refl
  function_switch x h = absurd (cc)

  -- behind `&` a name is a function's, or names a switch
  address_name : (u : Use) (x : Seen) → is_array x ≡ false → (is_function x ≡ true → SeenNames x ≡ false) → is_misapplied u x ≡ false →
      (SeenNames (address_of u x) ≡ false) × (switch_of (address_of u x) ≡ None)
  address_name «use».Function x bare kind m = (kind (not-false (is_function x) m), function_switch x m)
  address_name «use».Switch x bare kind m = (switch_same (switch_of x), switch_none (switch_of x))
  address_name u x bare kind m = (sym (seen_value x bare) ∙ kind (not-false (is_function x) m), refl)

  address_other : (u : Use) (x : Seen) (names : NameList) → is_array x ≡ false → switch_of x ≡ None → SeenNames x ≡ Stands names → is_misapplied u x ≡ false →
      is_misnamed u (address_of u x) ≡ false → Shown (address_of u x) names
  address_other «use».Function x names bare kind same m q = (same, kind)
  address_other «use».Switch x names bare kind same m q = absurd (switch_there (switch_of x) q kind)
  address_other u x names bare kind same m q = (sym (seen_value x bare) ∙ same, refl)

  address_shown : (u : Use) (a : Node) (x : Seen) → Has a «use».Address x → is_misapplied u x ≡ false → is_misnamed u (address_of u x) ≡ false →
      Shown (address_of u x) (standing a true)
  address_shown u a x h m q = by (is_name a) refl h.kind
    where
      by : (b : Bool) → is_name a ≡ b → Kinds b x → Shown (address_of u x) (standing a true)
      by true e kind = let s = address_name u x h.bare kind m in (s.0 ∙ sym (ap Stands (addressed_name a e)), s.1)
      by false e kind = address_other u x (standing a true) h.bare kind (h.same ∙ sym (ap Stands (addressed_other a e))) m q

  unary_shown : (u : Use) (op : ℕ) (a : Node) (x : Seen) → Has a (operand_use op) x → is_wrong_operand u op x ≡ false → is_misnamed u (unary_seen u op x) ≡ false →
      Shown (unary_seen u op x) (standing a (is_address op))
  unary_shown u op a x h m q = by (is_address op) (is_indirection op) h m q
    where
      by : (b d : Bool) → Has a (if b then «use».Address else «use».Value) x → ((b && is_misapplied u x) || (d && not (is_pointer (type_of x)))) ≡ false →
          is_misnamed u (if b then address_of u x else if d then seen.Designator (value_of x) else seen.Value (unary_of op (value_of x))) ≡ false →
          Shown (if b then address_of u x else if d then seen.Designator (value_of x) else seen.Value (unary_of op (value_of x))) (standing a b)
      by true d i n r = address_shown u a x i (or_parts (is_misapplied u x) (d && not (is_pointer (type_of x))) n).0 r
      by false true i n r = (value_same a x i, refl)
      by false false i n r = (one_names g op (value_of x) ∙ value_same a x i, refl)

  -- ---- assignments and elements

  both_same : (xs ys : NameList) (a b : Bool) → a ≡ Stands xs → b ≡ Stands ys → (a || b) ≡ Stands (xs ++ ys)
  both_same xs ys a b h k = either_same g a b (Stands xs) (Stands ys) h k ∙ sym (stands_both xs ys)

  assign_same : (op : ℕ) (x : Seen) (b : Expr) → not (is_assignable x) ≡ false → Names g (assign_of op (object_of x) b) ≡ (Names g (value_of x) || Names g b)
  assign_same op (seen.Object o) b h = assigned_names g op o b ∙ ap (λ t. t || Names g b) (sym (read_names g o.ctype o.target))
  assign_same op x b h = absurd (cc)

  before_same : (up : Bool) (x : Seen) → not (is_assignable x) ≡ false → Names g (before_of up (object_of x)) ≡ Names g (value_of x)
  before_same up (seen.Object o) h = before_names g up o ∙ sym (read_names g o.ctype o.target)
  before_same up x h = absurd (cc)

  after_same : (up : Bool) (x : Seen) → not (is_assignable x) ≡ false → Names g (after_of up (object_of x)) ≡ Names g (value_of x)
  after_same up (seen.Object o) h = after_names g o.ctype up o.target ∙ sym (read_names g o.ctype o.target)
  after_same up x h = absurd (cc)

  element_same : (x : Seen) (i : Expr) → is_none (array_of x) ≡ false → SeenNames (element_of (array_of x) i) ≡ (SeenNames x || Names g i)
  element_same (seen.Array a) i h = read_names g a.ctype _ ∙ (element_names g a.storage (promoted i) ∙ ap (λ b. is_stored g a.storage || b) (promoted_names g i))
  element_same x i h = absurd (cc)

  element_bare : (u : Use) (x : Seen) (i : Expr) → is_none (array_of x) ≡ false → is_bare u (element_of (array_of x) i) ≡ false
  element_bare «use».Base (seen.Array a) i h = refl
  element_bare u (seen.Array a) i h = refl
  element_bare u x i h = absurd (cc)

  none_if : (b : Bool) (o : Option ℕ) → o ≡ None → (if b then None else o) ≡ None
  none_if true o q = refl
  none_if false o q = q

  element_switch : (x : Seen) (i : Expr) → is_none (array_of x) ≡ false → switch_of (element_of (array_of x) i) ≡ None
  element_switch (seen.Array a) i h = none_if (is_void a.ctype || a.fixed) None refl
  element_switch x i h = absurd (cc)

  -- ---- calls

  abbrev all_names : List Node → NameList
  all_names nodes = flat_map names_in nodes

  -- as many arguments as there are parameters
  passed_same : (ts : List CType) (nodes : List Node) (ys : List Seen) → length ys ≡ length ts → HaveAll nodes «use».Value ys →
      NamesAny g (passed ts ys) ≡ Stands (all_names nodes)
  passed_same [] [] [] q h = refl
  passed_same (t ∷ ts) [] [] q h = absurd (cc)
  passed_same [] (n ∷ nodes) (y ∷ ys) q h = absurd (cc)
  passed_same (t ∷ ts) (n ∷ nodes) (y ∷ ys) q h =
      let r : length ys ≡ length ts = cc in
      among_both g _ _ ∙
      both_same (names_in n) (all_names nodes) _ _ (converted_names g t (value_of y) ∙ value_same n y h.0) (passed_same ts nodes ys r h.1)
  passed_same ts [] (y ∷ ys) q h = absurd h
  passed_same ts (n ∷ nodes) [] q h = absurd h

  -- the names of functions and switches have no values
  function_named : (y : Seen) → not (is_attributed y) ≡ false → SeenNames y ≡ false
  function_named (seen.Function f) h = function_names g _ _
  function_named y h = absurd (cc)

  switch_named : (y : Seen) → not (is_named_switch y) ≡ false → SeenNames y ≡ false
  switch_named (seen.Switch s) h = number_names g Void 0
  switch_named y h = absurd (cc)

  functions_named : (nodes : List Node) (ys : List Seen) → HaveAll nodes «use».Function ys → Stands (all_names nodes) ≡ false
  functions_named [] [] h = refl
  functions_named (n ∷ nodes) (y ∷ ys) h =
      stands_both (names_in n) (all_names nodes) ∙ or_from _ _ (sym h.0.same ∙ function_named y h.0.named) (functions_named nodes ys h.1)
  functions_named [] (y ∷ ys) h = absurd h
  functions_named (n ∷ nodes) [] h = absurd h

  switches_named : (nodes : List Node) (ys : List Seen) → HaveAll nodes «use».Switch ys → Stands (all_names nodes) ≡ false
  switches_named [] [] h = refl
  switches_named (n ∷ nodes) (y ∷ ys) h =
      stands_both (names_in n) (all_names nodes) ∙ or_from _ _ (sym h.0.same ∙ switch_named y h.0.named) (switches_named nodes ys h.1)
  switches_named [] (y ∷ ys) h = absurd h
  switches_named (n ∷ nodes) [] h = absurd h

  planned_same : (code : ℕ) (nodes : List Node) (ys : List Seen) → nat_eq (length ys) (if nat_lt code 2 then 0 else 1) ≡ true → HaveAll nodes (planned_use code) ys →
      NamesAny g (passed [] ys) ≡ Stands (all_names nodes)
  planned_same code nodes ys q h = by (nat_lt code 2) (nat_lt code 4) q h
    where
      by : (b d : Bool) → nat_eq (length ys) (if b then 0 else 1) ≡ true → HaveAll nodes (if b then «use».Value else if d then «use».Function else «use».Switch) ys →
          NamesAny g (passed [] ys) ≡ Stands (all_names nodes)
      by true d r i = passed_same [] nodes ys (eqb-true (length ys) 0 r) i
      by false true r i = ap (NamesAny g) (none_passed ys) ∙ sym (functions_named nodes ys i)
      by false false r i = ap (NamesAny g) (none_passed ys) ∙ sym (switches_named nodes ys i)

  known_same : (k : Known) (nodes : List Node) (ys : List Seen) → nat_eq (length ys) (known_arity k) ≡ true → HaveAll nodes (argument_use (seen.Known k)) ys →
      NamesAny g (passed (known_params k) ys) ≡ Stands (all_names nodes)
  known_same known.Getchar nodes ys q h = passed_same [] nodes ys (eqb-true (length ys) 0 q) h
  known_same known.Putchar nodes ys q h = passed_same (int ∷ []) nodes ys (eqb-true (length ys) 1 q) h
  known_same known.Poll nodes ys q h = passed_same [] nodes ys (eqb-true (length ys) 0 q) h
  known_same (known.Plan code index) nodes ys q h = planned_same code nodes ys q h

  through_same : (x : Seen) (nodes : List Node) (ys : List Seen) → (is_pointer (type_of x) && nat_eq (length ys) (length (params_of (pointed scope.signatures (type_of x))))) ≡ true →
      HaveAll nodes «use».Value ys →
      Names g (typed (result_of (pointed scope.signatures (type_of x))) (direct_or_through (named_function (value_of x)) (value_of x) (passed (params_of (pointed scope.signatures (type_of x))) ys))) ≡
      (Names g (value_of x) || Stands (all_names nodes))
  through_same x nodes ys q h =
      called_names g _ (value_of x) _ ∙
      ap (λ b. Names g (value_of x) || b)
      (passed_same (params_of (pointed scope.signatures (type_of x))) nodes ys
      (eqb-true _ _ (and_parts (is_pointer (type_of x)) _ q).1) h)

  call_same : (x : Seen) (nodes : List Node) (ys : List Seen) → not (takes_count scope.signatures x (length ys)) ≡ false → HaveAll nodes (argument_use x) ys →
      Names g (call_of scope.signatures x ys) ≡ (Names g (value_of x) || Stands (all_names nodes))
  unfolding called_with
  call_same (seen.Known k) nodes ys q h =
      known_names g int _ _ ∙
      (known_same k nodes ys (not-false _ q) h ∙ sym (ap (λ b. b || Stands (all_names nodes)) (number_names g Void 0)))
  call_same (seen.Value e) nodes ys q h = through_same (seen.Value e) nodes ys (not-false _ q) h
  call_same (seen.Object o) nodes ys q h = through_same (seen.Object o) nodes ys (not-false _ q) h
  call_same (seen.Array a) nodes ys q h = through_same (seen.Array a) nodes ys (not-false _ q) h
  call_same (seen.Function r) nodes ys q h = through_same (seen.Function r) nodes ys (not-false _ q) h
  call_same (seen.Designator e) nodes ys q h = through_same (seen.Designator e) nodes ys (not-false _ q) h
  call_same (seen.Switch s) nodes ys q h = through_same (seen.Switch s) nodes ys (not-false _ q) h

  -- ---- by induction

  steps : Steps scope Has HaveAll
  steps = record {
    no_argument = λ u. tt;
    one_argument = λ a nodes u y ys h k. (h, k);
    number = λ n u m kind o k. has n u _ o refl _ k.indexed k.named refl (number_names g (Scalar kind) m);
    name = λ n u name o k. name_has n u name o k.indexed k.named;
    unary = λ n u op a o x h k. let s = unary_shown u op a x h k.misplaced k.named in has n u _ o refl (unary_seen u op x) k.indexed k.named s.1 s.0;
    binary = λ n u op a b o x y h i k.
        has n u _ o refl _ k.indexed k.named refl
        (two_names g op (value_of x) (value_of y) ∙ both_same (names_in a) (names_in b) _ _ (value_same a x h) (value_same b y i));
    choose = λ n u c a b o z x y h i j k.
        has n u _ o refl _ k.indexed k.named refl
        (three_names g (value_of z) (value_of x) (value_of y) ∙
        both_same (names_in c) (names_in a ++ names_in b) _ _ (value_same c z h) (both_same (names_in a) (names_in b) _ _ (value_same a x i) (value_same b y j)));
    assign = λ n u op a b o x y h i k.
        has n u _ o refl _ k.indexed k.named refl
        (assign_same op x (value_of y) k.assigned ∙ both_same (names_in a) (names_in b) _ _ (place_same a x h) (value_same b y i));
    before = λ n u up a o x h k. has n u _ o refl _ k.indexed k.named refl (before_same up x k.assigned ∙ place_same a x h);
    after = λ n u up a o x h k. has n u _ o refl _ k.indexed k.named refl (after_same up x k.assigned ∙ place_same a x h);
    index = λ n u a i o x y h j k.
        has n u _ o refl (element_of (array_of x) (value_of y)) (element_bare u x (value_of y) k.indexed) k.named (element_switch x (value_of y) k.indexed)
        (element_same x (value_of y) k.indexed ∙ both_same (names_in a) (names_in i) _ _ h.same (value_same i y j));
    call = λ n u f nodes o x ys h i k.
        has n u _ o refl _ k.indexed k.named refl
        (call_same x nodes ys k.called i ∙
        (both_same (names_in f) (all_names nodes) _ _ (callee_same f x h) refl ∙ ap (λ names. Stands (names_in f ++ names)) (sym (arguments_stand nodes))));
    cast = λ n u specs a o t x q h k. has n u _ o refl _ k.indexed k.named refl (converted_names g t (value_of x) ∙ cast_same t a x h);
  }

  node_has : (n : Node) (u : Use) (y : Seen) → judgement scope n u ≡ Good y → Has n u y
  node_has = every_node scope Has HaveAll steps

  pub value_names : (n : Node) (e : Expr) → value_judgement scope n ≡ Good e → Names g e ≡ Stands (names_in n)
  value_names n e h =
      let s = went_on (judgement scope n «use».Value) _ e h in
      let q : value_of s.0 ≡ e = let z : Good (value_of s.0) ≡ Good e = s.2 in cc in
      ap (Names g) (sym q) ∙ value_same n s.0 (node_has n «use».Value s.0 s.1)

  pub effect_names : (n : Node) (e : Expr) → effect_judgement scope n ≡ Good e → Names g e ≡ Stands (names_in n)
  effect_names n e h =
      let s = went_on (judgement scope n «use».Effect) _ e h in
      let q : value_of s.0 ≡ e = let z : Good (value_of s.0) ≡ Good e = s.2 in cc in
      ap (Names g) (sym q) ∙ effect_same n s.0 (node_has n «use».Effect s.0 s.1)
