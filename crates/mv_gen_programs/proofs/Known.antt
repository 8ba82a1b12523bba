-- What is known of the names of generated texts beforehand.
use Rattle.std.proofs.Common.{◌≡◌, ℕ, zero, suc, ◌<◌, ◌≤◌, List, [], ◌∷◌, ◌++◌, length, refl, sym, ap, ◌∙◌, arith, append-nil, append_assoc}
use Rattle.std.specs.Prelude.{codes}
use Rattle.mv_syntax.specs.declared.unit.Item.{Item}
use Rattle.mv_syntax.specs.declared.unit.Line.{Line}
use Rattle.mv_syntax.specs.declared.unit.Shape.TheVariants as shape
use Rattle.mv_syntax.specs.declared.unit.Specs.{out-roll-Specs}
use Rattle.mv_check_outline.specs.declared.outline.Wanted.{Wanted}
use Rattle.mv_check_outline.specs.declared.outline.Wanted.TheVariants as wanted
use Rattle.mv_check_outline.specs.Names.{each_once, among, is_among, place_of}
use Rattle.mv_check_outline.specs.Outlined as outlined
use Rattle.mv_check_outline.specs.Outlined.{is_function, declares_pointer, is_marked}
use Rattle.mv_types.specs.declared.contents.Foreknown.{Foreknown}
use Rattle.mv_types.specs.declared.foreknown.Said.TheVariants as said
use Rattle.mv_types.specs.Foreknown.{foreknown, is_constant}
use Rattle.mv_types.specs.Foreknown as types
use Rattle.mv_gen.specs.Generated.{drawn, form_of, switch_of, constant_of}
use Rattle.mv_gen_programs.proofs.Lines.{function_name}
use Rattle.mv_gen_programs.proofs.Trees.{Places, definition_tree, drawn_words, definition_trees, switch_tree, object_tree, main_tree}
use Rattle.mv_gen_programs.proofs.Scanned.{behind}
use Rattle.mv_gen_programs.proofs.Declared.{IsForeknown}
use Rattle.mv_gen_programs.proofs.Names.{function_names, all_functions, functions_once, all_once, functions_defined, functions_marked, function_at, function_among}

abbrev pub switch_names : List (List ℕ)
switch_names = codes "s0" ∷ codes "s1" ∷ codes "s2" ∷ codes "s3" ∷ []

abbrev pub known : ℕ → Foreknown
known count = record {
  outline = record {
    functions = all_functions count;
    attributed = function_names 0 count;
    objects = codes "s0" ∷ codes "s1" ∷ codes "s2" ∷ codes "s3" ∷ codes "acc" ∷ [];
    switches = switch_names;
    pointers = [];
  };
  attributed = function_names 0 count;
  constants = [];
}

-- ---- the names of one item

-- of a function
abbrev of_definition : Wanted → ℕ → List (List ℕ)
of_definition wanted.Functions i = function_name i ∷ []
of_definition wanted.DefinedFunctions i = function_name i ∷ []
of_definition wanted.MarkedFunctions i = function_name i ∷ []
of_definition wanted.Objects i = []
of_definition wanted.MarkedSwitches i = []
of_definition wanted.MarkedPointers i = []

in_definition : (w : Wanted) (p : Places) (i f j c : ℕ) → outlined.names_in w (definition_tree p i f j c) ≡ of_definition w i
in_definition wanted.Functions p i f j c = simp (shape.outs-Function, is_function)
in_definition wanted.DefinedFunctions p i f j c = simp (shape.outs-Function, is_function)
in_definition wanted.MarkedFunctions p i f j c = simp (shape.outs-Function, is_function, out-roll-Specs, is_marked)
in_definition wanted.Objects p i f j c = simp (shape.outs-Function, is_function)
in_definition wanted.MarkedSwitches p i f j c = simp (shape.outs-Function, is_function)
in_definition wanted.MarkedPointers p i f j c = simp (shape.outs-Function, declares_pointer)

-- of the switches
abbrev of_switches : Wanted → List (List ℕ)
of_switches wanted.Functions = []
of_switches wanted.DefinedFunctions = []
of_switches wanted.MarkedFunctions = []
of_switches wanted.Objects = switch_names
of_switches wanted.MarkedSwitches = switch_names
of_switches wanted.MarkedPointers = []

in_switches : (w : Wanted) (p : Places) → outlined.names_in w (switch_tree p) ≡ of_switches w
in_switches wanted.Functions p = simp (shape.outs-Plain, is_function)
in_switches wanted.DefinedFunctions p = simp (shape.outs-Plain, is_function)
in_switches wanted.MarkedFunctions p = simp (shape.outs-Plain, is_function)
in_switches wanted.Objects p = simp (shape.outs-Plain, is_function)
in_switches wanted.MarkedSwitches p = simp (shape.outs-Plain, is_function, declares_pointer, out-roll-Specs, is_marked)
in_switches wanted.MarkedPointers p = simp (shape.outs-Plain, declares_pointer)

-- of `acc`
abbrev of_object : Wanted → List (List ℕ)
of_object wanted.Functions = []
of_object wanted.DefinedFunctions = []
of_object wanted.MarkedFunctions = []
of_object wanted.Objects = codes "acc" ∷ []
of_object wanted.MarkedSwitches = []
of_object wanted.MarkedPointers = []

in_object : (w : Wanted) (p : Places) → outlined.names_in w (object_tree p) ≡ of_object w
in_object wanted.Functions p = simp (shape.outs-Plain, is_function)
in_object wanted.DefinedFunctions p = simp (shape.outs-Plain, is_function)
in_object wanted.MarkedFunctions p = simp (shape.outs-Plain, is_function)
in_object wanted.Objects p = simp (shape.outs-Plain, is_function)
in_object wanted.MarkedSwitches p = simp (shape.outs-Plain, is_function, declares_pointer, out-roll-Specs, is_marked)
in_object wanted.MarkedPointers p = simp (shape.outs-Plain, declares_pointer)

-- of `main`
abbrev of_main : Wanted → List (List ℕ)
of_main wanted.Functions = codes "main" ∷ []
of_main wanted.DefinedFunctions = codes "main" ∷ []
of_main wanted.MarkedFunctions = []
of_main wanted.Objects = []
of_main wanted.MarkedSwitches = []
of_main wanted.MarkedPointers = []

in_main : (w : Wanted) (p : Places) (body : Line) → outlined.names_in w (main_tree p body) ≡ of_main w
in_main wanted.Functions p body = simp (shape.outs-Function, is_function)
in_main wanted.DefinedFunctions p body = simp (shape.outs-Function, is_function)
in_main wanted.MarkedFunctions p body = simp (shape.outs-Function, is_function, out-roll-Specs, is_marked)
in_main wanted.Objects p body = simp (shape.outs-Function, is_function)
in_main wanted.MarkedSwitches p body = simp (shape.outs-Function, is_function)
in_main wanted.MarkedPointers p body = simp (shape.outs-Function, declares_pointer)

-- nothing is `const`
constant_definition : (p : Places) (i f j c : ℕ) → types.names_in said.Constant (definition_tree p i f j c) ≡ []
constant_definition p i f j c = simp (shape.outs-Function, out-roll-Specs, is_constant)

constant_switches : (p : Places) → types.names_in said.Constant (switch_tree p) ≡ []
constant_switches p = simp (shape.outs-Plain, out-roll-Specs, is_constant)

constant_object : (p : Places) → types.names_in said.Constant (object_tree p) ≡ []
constant_object p = simp (shape.outs-Plain, out-roll-Specs, is_constant)

constant_main : (p : Places) (body : Line) → types.names_in said.Constant (main_tree p body) ≡ []
constant_main p body = simp (shape.outs-Function, out-roll-Specs, is_constant)

-- ---- the names of all

of_definitions : Wanted → (i count : ℕ) → List (List ℕ)
of_definitions w i zero = []
of_definitions w i (suc count) = of_definition w i ++ of_definitions w (suc i) count

in_definitions : (w : Wanted) (p : Places) (seed i count : ℕ) (rest : List Item) →
    outlined.all_names w (definition_trees p seed i count ++ rest) ≡ of_definitions w i count ++ outlined.all_names w rest
unfolding definition_trees of_definitions
in_definitions w p seed i zero rest = refl
in_definitions w p seed i (suc count) rest =
    let x = drawn seed (suc i) in
    let q = behind p (length (drawn_words i x)) in
    ap (λ (ns : List (List ℕ)). ns ++ outlined.all_names w (definition_trees q seed (suc i) count ++ rest)) (in_definition w p i (form_of x) (switch_of x) (constant_of x))
    ∙ (ap (λ (ns : List (List ℕ)). of_definition w i ++ ns) (in_definitions w q seed (suc i) count rest)
    ∙ sym (append_assoc (of_definition w i) (of_definitions w (suc i) count) (outlined.all_names w rest)))

constant_definitions : (p : Places) (seed i count : ℕ) (rest : List Item) → types.all_names said.Constant (definition_trees p seed i count ++ rest) ≡ types.all_names said.Constant rest
unfolding definition_trees
constant_definitions p seed i zero rest = refl
constant_definitions p seed i (suc count) rest =
    let x = drawn seed (suc i) in
    let q = behind p (length (drawn_words i x)) in
    ap (λ (ns : List (List ℕ)). ns ++ types.all_names said.Constant (definition_trees q seed (suc i) count ++ rest)) (constant_definition p i (form_of x) (switch_of x) (constant_of x))
    ∙ constant_definitions q seed (suc i) count rest

functions_in : (w : Wanted) → ((i : ℕ) → of_definition w i ≡ function_name i ∷ []) → (i count : ℕ) → of_definitions w i count ≡ function_names i count
unfolding of_definitions function_names
functions_in w h i zero = refl
functions_in w h i (suc count) =
    ap (λ (ns : List (List ℕ)). ns ++ of_definitions w (suc i) count) (h i) ∙ ap (λ (ns : List (List ℕ)). function_name i ∷ ns) (functions_in w h (suc i) count)

none_in : (w : Wanted) → ((i : ℕ) → of_definition w i ≡ []) → (i count : ℕ) → of_definitions w i count ≡ []
unfolding of_definitions
none_in w h i zero = refl
none_in w h i (suc count) = ap (λ (ns : List (List ℕ)). ns ++ of_definitions w (suc i) count) (h i) ∙ none_in w h (suc i) count

module _ (p q r m : Places) (seed count : ℕ) (body : Line) where
  -- the items of a generated text, at whatever places
  abbrev pub unit_items : List Item
  unit_items = switch_tree p ∷ (definition_trees q seed 0 count ++ (object_tree r ∷ main_tree m body ∷ []))

  names_are : (w : Wanted) → outlined.all_names w unit_items ≡ of_switches w ++ (of_definitions w 0 count ++ (of_object w ++ (of_main w ++ [])))
  names_are w =
      ap (λ (ns : List (List ℕ)). ns ++ outlined.all_names w (definition_trees q seed 0 count ++ (object_tree r ∷ main_tree m body ∷ []))) (in_switches w p)
      ∙ ap (λ (ns : List (List ℕ)). of_switches w ++ ns) (in_definitions w q seed 0 count (object_tree r ∷ main_tree m body ∷ [])
      ∙ ap (λ (ns : List (List ℕ)). of_definitions w 0 count ++ ns)
      (ap (λ (ns : List (List ℕ)). ns ++ (outlined.names_in w (main_tree m body) ++ [])) (in_object w r) ∙ ap (λ (ns : List (List ℕ)). of_object w ++ (ns ++ [])) (in_main w m body)))

  functions_are : outlined.all_names wanted.Functions unit_items ≡ all_functions count
  functions_are = names_are wanted.Functions ∙ ap (λ (ns : List (List ℕ)). ns ++ codes "main" ∷ []) (functions_in wanted.Functions (λ i. refl) 0 count)

  defined_are : outlined.all_names wanted.DefinedFunctions unit_items ≡ all_functions count
  defined_are = names_are wanted.DefinedFunctions ∙ ap (λ (ns : List (List ℕ)). ns ++ codes "main" ∷ []) (functions_in wanted.DefinedFunctions (λ i. refl) 0 count)

  marked_are : outlined.all_names wanted.MarkedFunctions unit_items ≡ function_names 0 count
  marked_are =
      names_are wanted.MarkedFunctions
      ∙ (ap (λ (ns : List (List ℕ)). ns ++ []) (functions_in wanted.MarkedFunctions (λ i. refl) 0 count) ∙ append-nil (function_names 0 count))

  objects_are : outlined.all_names wanted.Objects unit_items ≡ switch_names ++ codes "acc" ∷ []
  objects_are = names_are wanted.Objects ∙ ap (λ (ns : List (List ℕ)). switch_names ++ (ns ++ codes "acc" ∷ [])) (none_in wanted.Objects (λ i. refl) 0 count)

  switches_are : outlined.all_names wanted.MarkedSwitches unit_items ≡ switch_names
  switches_are = names_are wanted.MarkedSwitches ∙ ap (λ (ns : List (List ℕ)). switch_names ++ (ns ++ [])) (none_in wanted.MarkedSwitches (λ i. refl) 0 count)

  pointers_are : outlined.all_names wanted.MarkedPointers unit_items ≡ []
  pointers_are = names_are wanted.MarkedPointers ∙ ap (λ (ns : List (List ℕ)). ns ++ []) (none_in wanted.MarkedPointers (λ i. refl) 0 count)

  constants_are : types.all_names said.Constant unit_items ≡ []
  constants_are =
      ap (λ (ns : List (List ℕ)). ns ++ types.all_names said.Constant (definition_trees q seed 0 count ++ (object_tree r ∷ main_tree m body ∷ []))) (constant_switches p)
      ∙ (constant_definitions q seed 0 count (object_tree r ∷ main_tree m body ∷ [])
      ∙ (ap (λ (ns : List (List ℕ)). ns ++ (types.names_in said.Constant (main_tree m body) ++ [])) (constant_object r) ∙ ap (λ (ns : List (List ℕ)). ns ++ []) (constant_main m body)))

  abbrev outline_of : (functions defined marked objects switches pointers constants : List (List ℕ)) → Foreknown
  outline_of functions defined marked objects switches pointers constants =
      let all = among (each_once defined) (each_once functions) in
      record {
        outline = record { functions = all; attributed = among (each_once marked) all; objects = each_once objects; switches = among (each_once switches) (each_once objects); pointers = among (each_once pointers) (each_once objects) };
        attributed = each_once marked;
        constants = each_once constants;
      }

  foreknown_by : foreknown unit_items ≡
      outline_of (outlined.all_names wanted.Functions unit_items) (outlined.all_names wanted.DefinedFunctions unit_items) (outlined.all_names wanted.MarkedFunctions unit_items)
      (outlined.all_names wanted.Objects unit_items) (outlined.all_names wanted.MarkedSwitches unit_items) (outlined.all_names wanted.MarkedPointers unit_items) (types.all_names said.Constant unit_items)
  unfolding foreknown
  foreknown_by = refl

  pub foreknown_is : count ≤ 40 → foreknown unit_items ≡ known count
  foreknown_is few =
      foreknown_by
      ∙ (ap (λ (ns : List (List ℕ)). outline_of ns (outlined.all_names wanted.DefinedFunctions unit_items) (outlined.all_names wanted.MarkedFunctions unit_items)
      (outlined.all_names wanted.Objects unit_items) (outlined.all_names wanted.MarkedSwitches unit_items) (outlined.all_names wanted.MarkedPointers unit_items) (types.all_names said.Constant unit_items)) functions_are
      ∙ (ap (λ (ns : List (List ℕ)). outline_of (all_functions count) ns (outlined.all_names wanted.MarkedFunctions unit_items)
      (outlined.all_names wanted.Objects unit_items) (outlined.all_names wanted.MarkedSwitches unit_items) (outlined.all_names wanted.MarkedPointers unit_items) (types.all_names said.Constant unit_items)) defined_are
      ∙ (ap (λ (ns : List (List ℕ)). outline_of (all_functions count) (all_functions count) ns
      (outlined.all_names wanted.Objects unit_items) (outlined.all_names wanted.MarkedSwitches unit_items) (outlined.all_names wanted.MarkedPointers unit_items) (types.all_names said.Constant unit_items)) marked_are
      ∙ (ap (λ (ns : List (List ℕ)). outline_of (all_functions count) (all_functions count) (function_names 0 count) ns
      (outlined.all_names wanted.MarkedSwitches unit_items) (outlined.all_names wanted.MarkedPointers unit_items) (types.all_names said.Constant unit_items)) objects_are
      ∙ (ap (λ (ns : List (List ℕ)). outline_of (all_functions count) (all_functions count) (function_names 0 count) (switch_names ++ codes "acc" ∷ []) ns
      (outlined.all_names wanted.MarkedPointers unit_items) (types.all_names said.Constant unit_items)) switches_are
      ∙ (ap (λ (ns : List (List ℕ)). outline_of (all_functions count) (all_functions count) (function_names 0 count) (switch_names ++ codes "acc" ∷ []) switch_names ns
      (types.all_names said.Constant unit_items)) pointers_are
      ∙ (ap (λ (ns : List (List ℕ)). outline_of (all_functions count) (all_functions count) (function_names 0 count) (switch_names ++ codes "acc" ∷ []) switch_names [] ns) constants_are
      ∙ settled)))))))
    where
      settled : outline_of (all_functions count) (all_functions count) (function_names 0 count) (switch_names ++ codes "acc" ∷ []) switch_names [] [] ≡ known count
      settled = rw (all_once count few, functions_once count few) (rw (functions_defined count few) (rw (functions_marked count few) refl))

-- what is known of a function
pub function_known : (count i : ℕ) → count ≤ 40 → i < count → IsForeknown (known count) i
function_known count i few h =
    let marked = function_names 0 count in
    let whole : marked ++ [] ≡ marked = append-nil marked in
    record {
      number = function_at i count (codes "main" ∷ []) few h;
      marked = ap (is_among (function_name i)) (sym whole) ∙ function_among i 0 count [] (omega arith) (omega arith) (omega arith);
      among_marked = ap (place_of (function_name i)) (sym whole) ∙ function_at i count [] few h;
      changing = refl;
    }
