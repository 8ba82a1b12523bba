-- The programs that generated texts are.
use Rattle.std.proofs.Common.{◌≡◌, ℕ, zero, suc, ◌+◌, ◌≤◌, true, false, List, [], ◌∷◌, ◌++◌, length, replicate, Option, Some, None, refl, sym, ap, subst, ◌∙◌, arith, append-nil, append_assoc, length-append}
use Rattle.std.specs.Prelude.{codes, slice_set}
use Rattle.mv_syntax.specs.declared.place.Place.{Place}
use Rattle.mv_ast.specs.declared.program.Function.{Function}
use Rattle.mv_syntax.specs.declared.unit.Act.TheVariants as a
use Rattle.mv_syntax.specs.declared.unit.Item.{Item}
use Rattle.mv_parse_grammar.specs.Statements.{line_at}
use Rattle.mv_check_scope.specs.declared.meaning.Meaning.TheVariants as meaning
use Rattle.mv_check_scope.specs.Names.{Names}
use Rattle.mv_check_scope.specs.Spaces.{named}
use Rattle.mv_check_expressions.specs.Judged.{Judged, Good, and_then}
use Rattle.mv_check_declarations.specs.Turns.{through}
use Rattle.mv_types.specs.declared.contents.Contents.{Contents}
use Rattle.mv_types.specs.Contents.{nothing_declared}
use Rattle.mv_types.specs.Units.{item_judgement}
use Rattle.mv_gen.specs.Generated.{drawn}
use Rattle.mv_gen_programs.proofs.Scanned.{behind}
use Rattle.mv_gen_programs.proofs.Trees.{Places, drawn_words, definition_trees, object_tree, main_tree}
use Rattle.mv_gen_programs.proofs.Read.{main_lines}
use Rattle.mv_gen_programs.proofs.MainBody.{function_signature, main_signature, object_variable, AreNames}
use Rattle.mv_gen_programs.proofs.Declared.{contents_at}
use Rattle.mv_gen_programs.proofs.Names.{function_meanings, function_named, other_named, function_names, names_long, all_functions, main_at, other_absent}
use Rattle.mv_gen_programs.proofs.Known.{known, unit_items}
use Rattle.mv_gen_programs.proofs.Judged.{slot_empty, slot_filled, slots, drawn_function, drawn_functions, function_step, functions_judged, switch_objects, switches_judged, all_objects, object_judged, main_routine, main_function, IsMainKnown, main_judged}

-- ---- what the names mean at the end

abbrev pub last_meanings : ℕ → Names
last_meanings count = (codes "acc", meaning.Object object_variable) ∷ (codes "main", meaning.Function (main_routine count)) ∷ []

abbrev pub all_meanings : ℕ → Names
all_meanings count = function_meanings 0 count ++ last_meanings count

names_mean : (count : ℕ) → count ≤ 40 → AreNames (all_meanings count) count
names_mean count few = record {
  object = other_named 97 (99 ∷ 99 ∷ []) 0 count (last_meanings count) refl;
  output = other_named 112 (117 ∷ 116 ∷ 99 ∷ 104 ∷ 97 ∷ 114 ∷ []) 0 count (last_meanings count) refl;
  commit = other_named 109 (117 ∷ 108 ∷ 116 ∷ 105 ∷ 118 ∷ 101 ∷ 114 ∷ 115 ∷ 101 ∷ 95 ∷ 99 ∷ 111 ∷ 109 ∷ 109 ∷ 105 ∷ 116 ∷ []) 0 count (last_meanings count) refl;
  functions = λ i h. function_named i 0 count (last_meanings count) (omega arith) (omega arith) (omega arith);
}

main_known : (count : ℕ) → IsMainKnown (known count) count
main_known count = record {
  number = main_at count;
  unmarked = other_absent 109 (97 ∷ 105 ∷ 110 ∷ []) 0 count refl;
  changing = refl;
}

-- ---- all items

abbrev pub last_contents : (count : ℕ) → List (Option Function) → Contents
last_contents count fs = contents_at (all_meanings count) (function_signature ∷ main_signature ∷ []) all_objects fs

module _ (p q r m : Places) (seed n : ℕ) (few : suc n ≤ 40) (at : Place) where
  abbrev count : ℕ
  count = suc n

  abbrev body_items : List Item
  body_items = object_tree r ∷ main_tree m (line_at at (a.Block (main_lines m count))) ∷ []

  abbrev all_items : List Item
  all_items = unit_items p q r m seed count (line_at at (a.Block (main_lines m count)))

  abbrev go : List Item → Contents → Judged Contents
  go = through (item_judgement (known count))

  abbrev done : List Function
  done = drawn_functions seed 0 count

  abbrev functions_declared : List (Option Function) → Contents
  functions_declared fs = contents_at (function_meanings 0 count) (function_signature ∷ []) switch_objects fs

  drawn_long : (i k : ℕ) → length (drawn_functions seed i k) ≡ k
  unfolding drawn_functions
  drawn_long i zero = refl
  drawn_long i (suc k) = ap suc (drawn_long (suc i) k)

  -- `acc` and `main`
  rest_judged : go body_items (functions_declared (slots done 1)) ≡ Good (last_contents count (slots (done ++ main_function count ∷ []) 0))
  rest_judged =
      let ms = function_meanings 0 count in
      let whole : ms ++ [] ≡ ms = append-nil ms in
      let new : named (codes "acc") ms ≡ None = ap (named (codes "acc")) (sym whole) ∙ other_named 97 (99 ∷ 99 ∷ []) 0 count [] refl in
      let with_object = ms ++ (codes "acc", meaning.Object object_variable) ∷ [] in
      let no_main : named (codes "main") with_object ≡ None = other_named 109 (97 ∷ 105 ∷ 110 ∷ []) 0 count ((codes "acc", meaning.Object object_variable) ∷ []) refl in
      let all : with_object ++ (codes "main", meaning.Function (main_routine count)) ∷ [] ≡ all_meanings count =
      append_assoc ms ((codes "acc", meaning.Object object_variable) ∷ []) ((codes "main", meaning.Function (main_routine count)) ∷ []) in
      let are = subst (λ (ns : Names). AreNames ns count) (sym all) (names_mean count few) in
      let long : length done ≡ count = drawn_long 0 count in
      ap (λ (v : Judged Contents). and_then v (go (main_tree m (line_at at (a.Block (main_lines m count))) ∷ []))) (object_judged count r ms (function_signature ∷ []) (slots done 1) new)
      ∙ (ap (λ (v : Judged Contents). and_then v (λ c. Good c)) (main_judged (known count) count m at with_object all_objects (slots done 1) (main_known count) are no_main (slot_empty done count 0 long))
      ∙ (ap (λ (ns : Names). Good (contents_at ns (function_signature ∷ main_signature ∷ []) all_objects (slice_set (slots done 1) count (Some (main_function count))))) all
      ∙ ap (λ (fs : List (Option Function)). Good (last_contents count fs)) (slot_filled done (main_function count) count 0 long)))

  -- the functions
  functions_all : go (definition_trees q seed 0 count ++ body_items) (contents_at [] [] switch_objects (replicate (suc count) None)) ≡ Good (last_contents count (slots (done ++ main_function count ∷ []) 0))
  unfolding definition_trees drawn_functions function_meanings
  functions_all =
      let x = drawn seed 1 in
      let q' = behind q (length (drawn_words 0 x)) in
      let enough : count ≡ n + 1 = omega arith in
      let e : 1 + n ≡ count = omega arith in
      ap (λ (v : Judged Contents). and_then v (go (definition_trees q' seed 1 n ++ body_items))) (function_step count 0 q x true switch_objects [] count few (omega arith) refl)
      ∙ (ap (λ k. go (definition_trees q' seed 1 n ++ body_items) (contents_at (function_meanings 0 1) (function_signature ∷ []) switch_objects (slots (drawn_function 0 x ∷ []) k))) enough
      ∙ (functions_judged count few seed 1 n 1 q' switch_objects (drawn_function 0 x ∷ []) body_items (omega arith) refl
      ∙ (ap (λ k. go body_items (contents_at (function_meanings 0 k) (function_signature ∷ []) switch_objects (slots done 1))) e ∙ rest_judged)))

  pub items_judged : go all_items (nothing_declared (known count)) ≡ Good (last_contents count (slots (done ++ main_function count ∷ []) 0))
  items_judged =
      let long : length (all_functions count) ≡ suc count = omega (arith, length-append (function_names 0 count) (codes "main" ∷ []), names_long 0 count) in
      ap (λ k. go all_items (record {
        scope = record {
          names = record { here = []; around = [] };
          tags = record { here = []; around = [] };
          enumerations = [];
          signatures = [];
          locals = [];
          attributed = false;
        };
        objects = [];
        functions = replicate k None;
      })) long ∙
      (ap (λ (v : Judged Contents). and_then v (go (definition_trees q seed 0 count ++ body_items)))
      (switches_judged count p (replicate (suc count) None)) ∙
      functions_all)
