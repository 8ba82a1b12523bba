-- What a program exceeds is what the text of its unit tells.
use Rattle.std.proofs.Common.{◌≡◌, ℕ, zero, suc, refl, sym, ◌∙◌, ap, subst, Bool, if◌then◌else◌, List, [], ◌∷◌, ◌++◌, map, length, nat_lt, slice_get, Option, Some, None}
use Rattle.std.specs.List.{AllByRecursion, concat, flat_map}
use Rattle.std.specs.Option.{option_or}
use Rattle.std.proofs.lemmas.List.Elements.{recursion_from_All}
use Rattle.std.proofs.lemmas.List.Folds.{find-append}
use Rattle.mv_ast.specs.declared.program.Function.{Function}
use Rattle.mv_ast.specs.declared.program.Global as program_global
use Rattle.mv_ast.specs.declared.program.Program.{Program}
use Rattle.mv_syntax.specs.declared.unit.Declarator.{Declarator}
use Rattle.mv_syntax.specs.declared.unit.Item.{Item}
use Rattle.mv_syntax.specs.declared.unit.Line.{Line}
use Rattle.mv_syntax.specs.declared.unit.Unit as tree
use Rattle.mv_ast.specs.Counts.{elements_of}
use Rattle.mv_check_expressions.specs.Judged.{Good}
use Rattle.mv_check_limits.specs.declared.excess.Exceeded.{Exceeded}
use Rattle.mv_check_limits.specs.Limits.{Limit, first_above, reported, excess, first_some, functions_limit, globals_limit, parameters_limit, switches_limit, values_limit, switches_of_function_limit, assignments_limit, elements_limit, pointers_limit, global_sizes, local_sizes}
use Rattle.mv_check_limits.specs.Ordered.{unit_parameters, global_elements, local_elements, declarator_elements, item_elements, unit_elements, in_text, first_excess}
use Rattle.mv_check_limits.proofs.Told.{both_none}
use Rattle.mv_check_rules.specs.Nodes.{Global}
use Rattle.mv_check_rules.specs.Declarations.{in_order}
use Rattle.mv_check_rules.specs.Units.{Declarations, none_declared, item, global_of, those_there, with_switches, switches_from, program, judged_by_rules}
use Rattle.mv_accepts.specs.Numbers.Numbers.{ItemsAreForeknown}
use Rattle.mv_accepts.proofs.OfStatements.Judging.{of_good}
use Rattle.mv_accepts.proofs.OfStatements.Lists.{all_at, all_mapped, mapped_back, mapped_there}
use Rattle.mv_accepts_texts.specs.Texts.{in_turn, item_objects}
use Rattle.mv_accepts_texts.specs.Told.{told_parameters, first_told}
use Rattle.mv_accepts_texts.proofs.Files.{Sound}
use Rattle.mv_accepts.proofs.OfNumbers.NameLists.{name_itself}
use Rattle.mv_accepts_texts.proofs.Programs.{TellsName, items_known, ended, those_have}
use Rattle.mv_accepts_texts.proofs.Scopes.{few, few_more}
use Rattle.mv_accepts_texts.proofs.Units.{unit_sound}

module _ (n : ℕ) where
  abbrev Within : List ℕ → Type 0
  Within xs = first_above n xs ≡ None

  within_parts : (xs ys : List ℕ) → Within (xs ++ ys) → Within xs × Within ys
  within_parts xs ys h = both_none (first_above n xs) (first_above n ys) (sym (find-append (λ c. nat_lt n c) xs ys) ∙ h)

  within_more : (xs ys : List ℕ) → Within xs → Within ys → Within (xs ++ ys)
  within_more xs ys h k = find-append (λ c. nat_lt n c) xs ys ∙ (ap (λ o. option_or o (first_above n ys)) h ∙ k)

  -- one of some parts
  within_at : {X : Type 0} (f : X → List ℕ) (xs : List X) → Within (concat (map f xs)) → (i : ℕ) (x : X) → slice_get xs i ≡ Some x → Within (f x)
  within_at f [] h i x q = absurd (cc)
  within_at f (y ∷ ys) h zero x q = let z : y ≡ x = cc in subst (λ v. Within (f v)) z (within_parts (f y) (concat (map f ys)) h).0
  within_at f (y ∷ ys) h (suc i) x q = within_at f ys (within_parts (f y) (concat (map f ys)) h).1 i x q

  within_all : {X : Type 0} (f : X → ℕ) (xs : List X) → ((i : ℕ) (x : X) → slice_get xs i ≡ Some x → Within (f x ∷ [])) → Within (map f xs)
  within_all f [] h = refl
  within_all f (x ∷ xs) h = within_more (f x ∷ []) (map f xs) (h zero x refl) (within_all f xs (λ i y q. h (suc i) y q))

  within_lists : {X : Type 0} (f : X → List ℕ) (xs : List X) → ((i : ℕ) (x : X) → slice_get xs i ≡ Some x → Within (f x)) → Within (flat_map f xs)
  within_lists f [] h = refl
  within_lists f (x ∷ xs) h = within_more (f x) (flat_map f xs) (h zero x refl) (within_lists f xs (λ i y q. h (suc i) y q))

-- the elements of a global, and of a function's locals, stand under its own name
own_global : (g : program_global.Global) → global_elements (Some g.name) g ≡ elements_of g.size ∷ []
own_global g = ap (λ (b : Bool). if b then elements_of g.size ∷ [] else []) (name_itself g.name)

own_locals : (f : Function) → local_elements (Some f.name) f ≡ map (λ l. elements_of l.size) f.locals
own_locals f = ap (λ (b : Bool). if b then map (λ l. elements_of l.size) f.locals else []) (name_itself f.name)

module _ (u : tree.Unit) (known : ItemsAreForeknown) where
  abbrev W : Type 0
  W = few (unit_parameters u)

  -- no elements that are declared with this name are too many where the text tells none
  abbrev O : List ℕ → Type 0
  O name = (p : Program) (n : ℕ) → first_above n (unit_elements u p) ≡ None → first_above n (concat (map (global_elements (Some name)) p.globals)) ≡ None

  abbrev F : List ℕ → Type 0
  F name = (p : Program) (n : ℕ) → first_above n (unit_elements u p) ≡ None → first_above n (concat (map (local_elements (Some name)) p.functions)) ≡ None

  abbrev Few : (Program → List ℕ) → Type 0
  Few counts = (p : Program) (n : ℕ) → first_above n (unit_elements u p) ≡ None → first_above n (counts p) ≡ None

  name_tells : (b : Option Line) (d : Declarator) → Few (λ p. declarator_elements p b d) → TellsName u.items W O F b d
  name_tells None d h = λ name q p n k. subst (λ o. first_above n (concat (map (global_elements o) p.globals)) ≡ None) q (h p n k)
  name_tells (Some l) d h = λ name q p n k. subst (λ o. first_above n (concat (map (local_elements o) p.functions)) ≡ None) q (h p n k)

  names_tell : (b : Option Line) (ds : List Declarator) → Few (λ p. concat (map (declarator_elements p b) ds)) → AllByRecursion (TellsName u.items W O F b) ds
  names_tell b [] h = tt
  names_tell b (d ∷ ds) h = (
    name_tells b d (λ p n k. (within_parts n (declarator_elements p b d) (concat (map (declarator_elements p b) ds)) (h p n k)).0),
    names_tell b ds (λ p n k. (within_parts n (declarator_elements p b d) (concat (map (declarator_elements p b) ds)) (h p n k)).1),
  )

  items_tell : (is : List Item) → Few (λ p. concat (map (item_elements p) is)) → AllByRecursion (λ i. AllByRecursion (TellsName u.items W O F i.body) i.names) is
  items_tell [] h = tt
  items_tell (i ∷ is) h = (
    names_tell i.body i.names (λ p n k. (within_parts n (item_elements p i) (concat (map (item_elements p) is)) (h p n k)).0),
    items_tell is (λ p n k. (within_parts n (item_elements p i) (concat (map (item_elements p) is)) (h p n k)).1),
  )

  abbrev Is : Declarations → Type 0
  Is = Sound u.items W O F (λ n. in_turn (map (item_objects n) u.items))

  sound : (c : Declarations) → in_order (item u.items) u.items (none_declared u.items) ≡ Good c → Is c
  sound c q =
      of_good Is (in_order (item u.items) u.items (none_declared u.items))
      (unit_sound u.items W O F
      (items_known u.items W O F u.items (recursion_from_All _ u.items (known u.items)) (λ w. w) (items_tell u.items (λ p n k. k)))) c q

  module _ (c : Declarations) (x : Is c) (m : ℕ) where
    abbrev P : Program
    P = program u.items c m

    abbrev changed : Function → Function
    changed = with_switches (switches_from 0 c.globals)

    functions_few : W → AllByRecursion (λ (f : Function). few (f.params ∷ [])) P.functions
    functions_few w = all_mapped _ changed (those_there c.functions) (those_have (λ f. few (f.params ∷ [])) c.functions (x.few_params w))

    functions_told : AllByRecursion (λ (f : Function). F f.name) P.functions
    functions_told = all_mapped _ changed (those_there c.functions) (those_have (λ f. F f.name) c.functions x.function_told)

    parameters_within : W → first_above 8 (parameters_limit P).counts ≡ None
    parameters_within w =
        few_more (map (λ s. length s.params) c.scope.signatures) (map (λ f. f.params) P.functions) (x.few_types w)
        (within_all 8 (λ (f : Function). f.params) P.functions (all_at (λ (f : Function). few (f.params ∷ [])) P.functions (functions_few w)))

    global_told : (i : ℕ) (g : program_global.Global) → slice_get P.globals i ≡ Some g → O g.name
    global_told i g q =
        let b = mapped_back global_of c.globals i g q in
        subst (λ (h : program_global.Global). O h.name) b.2 (x.object_told i (b.0).name (mapped_there (λ (h : Global). h.name) c.globals i b.0 b.1))

    elements_within : (n : ℕ) → first_above n (unit_elements u P) ≡ None → first_above n (global_sizes P ++ local_sizes P) ≡ None
    elements_within n h =
        within_more n (global_sizes P) (local_sizes P)
        (within_all n (λ g. elements_of g.size) P.globals (λ i g q.
        subst (λ xs. first_above n xs ≡ None) (own_global g) (within_at n (global_elements (Some g.name)) P.globals (global_told i g q P n h) i g q)))
        (within_lists n (λ f. map (λ l. elements_of l.size) f.locals) P.functions (λ i f q.
        subst (λ xs. first_above n xs ≡ None) (own_locals f)
        (within_at n (local_elements (Some f.name)) P.functions (all_at (λ (f : Function). F f.name) P.functions functions_told i f q P n h) i f q)))

  -- ---- limits

  limit_told : (told : List ℕ) (l : Limit) → (first_above l.greatest told ≡ None → first_above l.greatest l.counts ≡ None) →
      excess (in_text told l) ≡ excess (record l { counts = told })
  unfolding excess
  limit_told told l h = ap (reported l.number) (find-append (λ c. nat_lt l.greatest c) told l.counts ∙ by (first_above l.greatest told) refl)
    where
      by : (o : Option ℕ) → first_above l.greatest told ≡ o → option_or o (first_above l.greatest l.counts) ≡ o
      by None q = h q
      by (Some c) q = refl

  abbrev with_two : Program → Option Exceeded → Option Exceeded → Option Exceeded
  with_two p a b =
      first_some
      (excess (functions_limit p) ∷ excess (globals_limit p) ∷ a ∷ excess (switches_limit p) ∷ excess (values_limit p) ∷ excess (switches_of_function_limit p) ∷ excess (assignments_limit p) ∷ b ∷ excess (pointers_limit p) ∷ [])

  excess_told : (p : Program) → (first_above 8 (unit_parameters u) ≡ None → first_above 8 (parameters_limit p).counts ≡ None) →
      (first_above 262144 (unit_elements u p) ≡ None → first_above 262144 (elements_limit p).counts ≡ None) → first_excess u p ≡ first_told u p
  excess_told p h k =
      ap (λ a. with_two p a (excess (in_text (unit_elements u p) (elements_limit p)))) (limit_told (unit_parameters u) (parameters_limit p) h) ∙
      ap (with_two p (excess (told_parameters u p))) (limit_told (unit_elements u p) (elements_limit p) k)

  pub excesses_told : (p : Program) → judged_by_rules u ≡ Good p → first_excess u p ≡ first_told u p
  excesses_told p h =
      let e = ended u p h in
      let x = sound e.declarations e.judged in
      subst (λ q. first_excess u q ≡ first_told u q) (sym e.is)
      (excess_told (program u.items e.declarations e.main) (parameters_within e.declarations x e.main) (elements_within e.declarations x e.main 262144))
