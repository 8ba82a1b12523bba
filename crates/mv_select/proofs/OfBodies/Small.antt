-- The code of bodies within the limits is small.
use Rattle.std.proofs.Common.{◌≡◌, ℕ, suc, ◌<◌, ◌≤◌, ◌^◌, ◌&&◌, Bool, true, ltb, leb, List, [], ◌∷◌, map, refl, arith}
use Rattle.std.proofs.lemmas.Bool.{lt-ltb, le-leb, and_from}
use Rattle.mv_ast.specs.declared.program.Known.{Known}
use Rattle.mv_ast.specs.declared.program.Known.TheVariants.{Getchar, Putchar, Poll, Plan}
use Rattle.mv_ir.specs.declared.tree.Tree.{Tree}
use Rattle.mv_ir.specs.declared.stm.Array.{Array}
use Rattle.mv_ir.specs.declared.stm.Array.TheVariants as array
use Rattle.mv_ir.specs.declared.body.Body.{Body}
use Rattle.mv_ir.specs.Trees.{depth}
use Rattle.mv_ir.specs.Measures.{trees, arrays_read}
use Rattle.mv_ir.specs.Live.{flow, marks_in_order, nowhere, HasTemps}
use Rattle.mv_ir.specs.WellFormed.{named, IsWellFormed}
use Rattle.mv_ir.proofs.Induction.{Each}
use Rattle.mv_select_code.specs.Trees.TreeCode.{temps_of}
use Rattle.mv_select_code.specs.Control.FlowCode.{Uses, fine_known}
use Rattle.mv_select_code.specs.Control.Layouts.{any_global, any_known, is_small, are_small}
use Rattle.mv_select.specs.Functions.FunctionCode.{bytes_of}
use Rattle.mv_select.specs.Functions.Functions.{shape_of}
use Rattle.mv_select.specs.Bodies.SelectedBodies.{IsOrder, knowns, globals_written, BodiesAreSmall}
use Rattle.mv_select.proofs.OfBodies.Lists.{each_weaker, each_all, each_shallow}
use Rattle.mv_select.proofs.OfBodies.FineCode.{ReadsBelow, Low, low_marks, temps_below, IsScalar, IsAsked, all_fine}

-- where each temporary of a body is below a limit, each one that is marked is
pub marks_below : (b : Body) (limit : ℕ) → HasTemps b → b.temps ≤ limit → (t : ℕ) → Each (Low limit t) (marks_in_order (map (flow t) b.code) nowhere)
marks_below b limit has le t = low_marks limit t (marks_in_order (map (flow t) b.code) nowhere) (λ i marked. let low : t < b.temps = has (suc i) t marked in omega (arith, low, le))

-- a frame within the limit has few temporaries
pub few_temps : (attributed : Bool) (b : Body) → bytes_of (shape_of attributed b) ≤ 2032 → b.temps ≤ 507
few_temps attributed b h = omega (arith, h)

-- an order's numbers fit
pub order_fine : (is_fine : Tree → Bool) (may_ask : Known → Bool) (limit : ℕ) (uses : Uses) (k : Known) → may_ask k ≡ true → IsOrder k → fine_known is_fine may_ask limit uses k ≡ true
order_fine is_fine may_ask limit uses Getchar asked h = asked
order_fine is_fine may_ask limit uses Putchar asked h = asked
order_fine is_fine may_ask limit uses Poll asked h = asked
order_fine is_fine may_ask limit uses (Plan code index) asked h =
    and_from (may_ask (Plan code index)) (ltb code 256 && ltb index (2 ^ 32)) asked (and_from (ltb code 256) (ltb index (2 ^ 32)) (lt-ltb code 256 h.0) (lt-ltb index (2 ^ 32) h.1))

tree_small : (v : Tree) → depth v ≤ 4 → ReadsBelow 507 v → is_small v ≡ true
tree_small v shallow reads = and_from (leb (depth v) 4) (leb (temps_of v) 507) (le-leb (depth v) 4 shallow) (le-leb (temps_of v) 507 (temps_below 507 v reads))

module _ (b : Body) (formed : IsWellFormed b) (few : b.temps ≤ 507) (shallow : Each (λ v. depth v ≤ 4) (trees b.code)) (orders : Each IsOrder (knowns b.code)) where
  any_array : (a : Array) → IsScalar is_small any_known 507 any_global a
  any_array (array.Global g) = refl
  any_array (array.Local l) = tt
  any_array (array.SureGlobal g n) = refl
  any_array (array.SureLocal l n) = tt

  any_arrays : (xs : List Array) → Each (IsScalar is_small any_known 507 any_global) xs
  any_arrays [] = tt
  any_arrays (a ∷ xs) = (any_array a, any_arrays xs)

  any_globals : (gs : List ℕ) → Each (λ g. true ≡ true) gs
  any_globals [] = tt
  any_globals (g ∷ gs) = (refl, any_globals gs)

  code_small : are_small b.code ≡ true
  code_small =
      all_fine is_small any_known 507 any_global (λ v. depth v ≤ 4) tree_small refl b.code shallow (any_arrays (named b.code))
      (each_weaker IsOrder (IsAsked is_small any_known 507 any_global) (λ k. order_fine is_small any_known 507 any_global k refl) (knowns b.code) orders) (any_globals (arrays_read b.code)) (any_globals (globals_written b.code))
      formed.arguments (λ t. nowhere) (marks_below b 507 formed.temps few)

pub bodies_are_small : BodiesAreSmall
bodies_are_small attributed b within =
    let few : b.temps ≤ 507 = few_temps attributed b within.frame in
    (few, code_small b within.formed few (each_shallow 4 (trees b.code) within.shallow) (each_all IsOrder (knowns b.code) within.orders))
