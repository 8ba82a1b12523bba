-- The elements that a text tells are those of its program.
use Rattle.std.proofs.Common.{◌≡◌, ℕ, Bool, true, false, refl, sym, ap, ◌∙◌, List, [], ◌∷◌, ◌++◌, map, nat_lt, Option, Some, None, if◌then◌else◌}
use Rattle.std.proofs.lemmas.List.Folds.{find-append}
use Rattle.std.specs.List.{concat, flat_map}
use Rattle.std.specs.Option.{option_or}
use Rattle.mv_ast.specs.declared.program.Function.{Function}
use Rattle.mv_ast.specs.declared.program.Global.{Global}
use Rattle.mv_ast.specs.declared.program.Program.{Program}
use Rattle.mv_syntax.specs.declared.unit.Declarator.{Declarator}
use Rattle.mv_syntax.specs.declared.unit.Item.{Item}
use Rattle.mv_syntax.specs.declared.unit.Line.{Line}
use Rattle.mv_syntax.specs.declared.unit.Unit as unit
use Rattle.mv_ast.specs.Counts.{elements_of}
use Rattle.mv_check_limits.specs.Limits.{first_above, elements_limit, global_sizes, local_sizes}
use Rattle.mv_check_limits.specs.Ordered.{has_name, global_elements, local_elements, declarator_elements, item_elements, unit_elements, ordered_elements}

pub both_none : (a b : Option ℕ) → option_or a b ≡ None → (a ≡ None) × (b ≡ None)
both_none None b h = (refl, h)
both_none (Some c) b h = absurd (cc)

module _ (n : ℕ) where
  parts_none : (xs ys : List ℕ) → first_above n (xs ++ ys) ≡ None → (first_above n xs ≡ None) × (first_above n ys ≡ None)
  parts_none xs ys h = both_none (first_above n xs) (first_above n ys) (sym (find-append (λ c. nat_lt n c) xs ys) ∙ h)

  pub joined_none : (xs ys : List ℕ) → first_above n xs ≡ None → first_above n ys ≡ None → first_above n (xs ++ ys) ≡ None
  joined_none xs ys h k = find-append (λ c. nat_lt n c) xs ys ∙ (ap (λ o. option_or o (first_above n ys)) h ∙ k)

  pub each_none : {X : Type 0} (f : X → List ℕ) (xs : List X) → ((x : X) → first_above n (f x) ≡ None) → first_above n (concat (map f xs)) ≡ None
  each_none f [] h = refl
  each_none f (x ∷ xs) h = joined_none (f x) (concat (map f xs)) (h x) (each_none f xs h)

  chosen_none : (b : Bool) (xs : List ℕ) → first_above n xs ≡ None → first_above n (if b then xs else []) ≡ None
  chosen_none true xs h = h
  chosen_none false xs h = refl

  globals_none : (name : Option (List ℕ)) (gs : List Global) → first_above n (map (λ g. elements_of g.size) gs) ≡ None →
      first_above n (concat (map (global_elements name) gs)) ≡ None
  globals_none name [] h = refl
  globals_none name (g ∷ gs) h =
      let both = parts_none (elements_of g.size ∷ []) (map (λ g. elements_of g.size) gs) h in
      joined_none (global_elements name g) (concat (map (global_elements name) gs)) (chosen_none (has_name g.name name) (elements_of g.size ∷ []) both.0) (globals_none name gs both.1)

  functions_none : (name : Option (List ℕ)) (fs : List Function) → first_above n (flat_map (λ f. map (λ l. elements_of l.size) f.locals) fs) ≡ None →
      first_above n (concat (map (local_elements name) fs)) ≡ None
  functions_none name [] h = refl
  functions_none name (f ∷ fs) h =
      let both = parts_none (map (λ l. elements_of l.size) f.locals) (flat_map (λ f. map (λ l. elements_of l.size) f.locals) fs) h in
      joined_none (local_elements name f) (concat (map (local_elements name) fs)) (chosen_none (has_name f.name name) (map (λ l. elements_of l.size) f.locals) both.0) (functions_none name fs both.1)

  module _ (p : Program) (h : first_above n (elements_limit p).counts ≡ None) where
    declarator_none : (body : Option Line) (d : Declarator) → first_above n (declarator_elements p body d) ≡ None
    declarator_none None d = globals_none d.name p.globals ((parts_none (global_sizes p) (local_sizes p) h).0)
    declarator_none (Some body) d = functions_none d.name p.functions ((parts_none (global_sizes p) (local_sizes p) h).1)

    item_none : (i : Item) → first_above n (item_elements p i) ≡ None
    item_none i = each_none (declarator_elements p i.body) i.names (declarator_none i.body)

    all_none : (u : unit.Unit) → first_above n (ordered_elements u p).counts ≡ None
    all_none u = joined_none (unit_elements u p) (elements_limit p).counts (each_none (item_elements p) u.items item_none) h

pub none_told : (u : unit.Unit) (p : Program) → first_above 262144 (elements_limit p).counts ≡ None → first_above 262144 (ordered_elements u p).counts ≡ None
none_told u p h = all_none 262144 p h u

pub first_told : (u : unit.Unit) (p : Program) →
    first_above 262144 (ordered_elements u p).counts ≡ option_or (first_above 262144 (unit_elements u p)) (first_above 262144 (elements_limit p).counts)
first_told u p = find-append (λ c. nat_lt 262144 c) (unit_elements u p) (elements_limit p).counts

pub ruleset ordered = (none_told, first_told)
