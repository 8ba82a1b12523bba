-- The form of a lowered function's body.
use Rattle.std.proofs.Common.{◌≡◌, ℕ, ◌+◌, ◌*◌, ◌<◌, ◌≤◌, Bool, true, false, not, ltb, ◌&&◌, ◌||◌, [], ◌∷◌, map, length, Option, None, refl, sym, ◌∙◌, arith, ◌⊎◌, inl, inr}
use Rattle.std.specs.Prelude.{nat_lt}
use Rattle.std.proofs.lemmas.Bool.{ltb-true, lt-ltb, or_from, cases_lt}
use Rattle.std.proofs.lemmas.List.{length-map}
use Rattle.mv_ir.specs.declared.tree.Tree.TheOpen as tree
use Rattle.mv_ir.specs.declared.stm.Stm.TheOpen as stm
use Rattle.mv_ir.specs.declared.body.Body.{Body}
use Rattle.mv_ir.specs.Measures.{trees, scalars_read, arrays_read, statements, tree_nodes, deepest}
use Rattle.mv_ir.specs.Live.{any_reads, with_after, nowhere, live_at_start, all_marks, plain, HasTemps}
use Rattle.mv_ir.specs.WellFormed.{all_true, is_there, has_room, named, IsWellFormed}
use Rattle.mv_ir.proofs.Induction.{Each}
use Rattle.mv_ir.proofs.Rolls.{depth_roll, flow_roll, reads_temp_roll}
use Rattle.mv_ast.specs.declared.program.Program.{Program}
use Rattle.mv_ast.specs.declared.program.Function.{Function}
use Rattle.mv_ast.specs.Counts.{nodes, depth, elements_of}
use Rattle.mv_ast.specs.Names.{any_of}
use Rattle.mv_lower_spec.specs.Lowered.{number}
use Rattle.mv_source_forms.specs.Names.{is_scalar, is_void, size_in}
use Rattle.mv_lower_spec.specs.Functions.{array_sizes, lower_body, outermost, ending, lower_function}
use Rattle.mv_lower_spec.proofs.Depths.{ShallowCode, both_parts}
use Rattle.mv_lower_spec.proofs.OfShape.Asked.{Globals, IsAsked}
use Rattle.mv_lower_spec.specs.Shape.Allowances.{allowance}
use Rattle.mv_lower_spec.specs.Shape.Calls.{each_once, attributed_once}
use Rattle.mv_lower_spec.specs.Shape.Law.{CallsAsOften, IsSmall}
use Rattle.mv_lower_spec.proofs.OfShape.Expressions as limits
use Rattle.mv_lower_spec.proofs.OfShape.Expressions.{allowed, is_used}
use Rattle.mv_lower_spec.proofs.OfShape.Counted.{Counted, counted_rules, counted_blocks}
use Rattle.mv_lower_spec.proofs.OfShape.Named.{Named, named_rules, named_blocks}
use Rattle.mv_lower_spec.proofs.OfShape.Unused.{Unused, IsQuiet, unused_rules, unused_blocks}
use Rattle.mv_lower_spec.proofs.OfShape.Flowing.{live_at, marks_at, live_append, live_one, reads_one}
use Rattle.mv_lower_spec.proofs.OfShape.Functions.{room_of, body_nodes, FunctionPaid, function_paid}
use Rattle.mv_lower_spec.proofs.OfShape.Whole.{body_dead}
use Rattle.mv_lower_spec.proofs.OfShape.Shallow.{body_shallow, shallow_return}
use Rattle.mv_lower_spec.proofs.OfShape.Targets.{HasTargets, targets_append, targets_one, code_targets}
use Rattle.mv_lower_spec.proofs.OfShape.StatementTops.{body_top}
use Rattle.mv_lower_spec.proofs.OfShape.Rooms.{scalars_have_rooms, named_are_there}
use Rattle.mv_lower_spec.proofs.OfShape.Intervals.{marked_none, few_intervals, total_is}
use Rattle.mv_lower_spec.proofs.OfShape.PointerStatements.{function_calls}
use Rattle.mv_lower_spec.proofs.OfShape.SameCounts.{attributed_calls}
use Rattle.mv_num.proofs.Booleans.{from_falsity}
use Rattle.mv_lower_spec.proofs.ExpressionDepths.{deepest_up}

-- ---- depth

shallow_ending : (void : Bool) → ShallowCode (ending void)
shallow_ending true = tt
shallow_ending false = shallow_return (number 0) (omega (arith, depth_roll (tree.Number 0)))

pub lowered_shallow : (p : Program) (g : Function) → deepest (lower_function p g).code ≤ 4
lowered_shallow p g =
    deepest_up (trees (lower_function p g).code)
    (both_parts (lower_body p.pointers g).code (ending (is_void g.result)) (body_shallow p.pointers (length g.locals) (size_in g.locals) (is_void g.result) g.body outermost) (shallow_ending (is_void g.result)))

module _ (p : Program) (globals : Globals) (g : Function) (asked : IsAsked p globals g) where
  -- where these are the pointer switches
  abbrev program : Program
  program = record p { pointers = globals.pointers }

  -- the function's body
  abbrev b : Body
  b = lower_function program g

  abbrev locals : ℕ
  locals = length g.locals

  abbrev sizes : ℕ → Option ℕ
  sizes = size_in g.locals

  abbrev used : ℕ → Bool
  used = is_used locals sizes (room_of globals.pointers g)

  abbrev params : ℕ → Bool
  params l = nat_lt l g.params

  abbrev none : ℕ → ℕ
  none f = 0

  -- ---- temporaries

  quiet : IsQuiet nowhere
  quiet = record { next = refl; leaves = λ n. refl; restarts = λ n. refl }

  unused : (u : ℕ) → used u ≡ false → (live_at_start u b.code ≡ false) × (any_of (marks_at u b.code nowhere) ≡ false)
  unused u e =
      let f = function_paid globals g none 0 (Unused u) (λ declared. unused_rules u (allowed globals locals sizes (room_of globals.pointers g) none 0 declared) e) (unused_blocks u) asked.within in
      (f.made.dead refl nowhere quiet, f.made.bare refl nowhere quiet)

  -- a parameter is a scalar local, so its temporary is used
  params_used : (u : ℕ) → u < g.params → used u ≡ true
  params_used u lt = limits.local_used locals sizes (room_of globals.pointers g) u (lt-ltb u locals (omega (arith, lt, asked.params_are_locals))) (asked.params_are_scalars u lt)

  unmarked : (u : ℕ) → used u ≡ false → any_of (all_marks b u) ≡ false
  unmarked u e =
      let h = unused u e in
      or_from (live_at_start u b.code || ltb u g.params) (any_of (marks_at u b.code nowhere)) (or_from (live_at_start u b.code) (ltb u g.params) h.0 (no_param (ltb u g.params) refl)) h.1
    where
      no_param : (z : Bool) → ltb u g.params ≡ z → ltb u g.params ≡ false
      no_param true q = from_falsity (sym e ∙ params_used u (ltb-true u g.params q))
      no_param false q = q

  -- a temporary that isn't below the number of temporaries isn't used
  beyond : (u : ℕ) → room_of globals.pointers g ≤ u → used u ≡ false
  beyond u le = by (nat_lt u locals) (nat_lt u (room_of globals.pointers g)) refl refl
    where
      by : (x y : Bool) → nat_lt u locals ≡ x → nat_lt u (room_of globals.pointers g) ≡ y → ((x && is_scalar (sizes u)) || (not x && y)) ≡ false
      by true y e f = let lt = ltb-true u locals e in absurd (omega (arith, lt, le))
      by false true e f = let lt = ltb-true u (room_of globals.pointers g) f in absurd (omega (arith, lt, le))
      by false false e f = refl

  pub lowered_temps : HasTemps b
  lowered_temps i t h = by (cases_lt t (room_of globals.pointers g))
    where
      by : (t < room_of globals.pointers g) ⊎ (room_of globals.pointers g ≤ t) → t < room_of globals.pointers g
      by (inl lt) = lt
      by (inr le) = from_falsity (sym (marked_none (all_marks b t) i (unmarked t (beyond t le))) ∙ h)

  -- ---- wholeness

  ending_dead : (u : ℕ) (void : Bool) → live_at u (ending void) nowhere ≡ false
  ending_dead u true = refl
  ending_dead u false =
      live_one u (stm.Return (number 0)) (plain u (number 0 ∷ []) None (λ r. false)) nowhere (flow_roll u (stm.Return (number 0))) ∙
      or_from (any_reads u (number 0 ∷ [])) false (reads_one u (number 0) ∙ reads_temp_roll u (tree.Number 0)) refl

  dead_at_start : (u : ℕ) → nat_lt u g.params ≡ false → (nat_lt u locals ≡ true → is_scalar (sizes u) ≡ true) → live_at_start u b.code ≡ false
  dead_at_start u undeclared scalar =
      let last = ending (is_void g.result) in
      live_append u (lower_body globals.pointers g).code last nowhere ∙
      body_dead globals locals sizes (is_void g.result) (room_of globals.pointers g) u scalar g.body params asked.within undeclared outermost (omega arith) (with_after nowhere (live_at u last nowhere))
      (record { leave = refl; again = refl; around = refl }) (ending_dead u (is_void g.result))

  array_dead : (u : ℕ) → nat_lt u locals ≡ true → is_scalar (sizes u) ≡ false → live_at_start u b.code ≡ false
  array_dead u h k = (unused u (by (nat_lt u locals) (is_scalar (sizes u)) h k)).0
    where
      by : (x y : Bool) → x ≡ true → y ≡ false → ((x && y) || (not x && nat_lt u (room_of globals.pointers g))) ≡ false
      by true y e f = or_from y false f refl
      by false y e f = from_falsity e

  pub lowered_whole : (t : ℕ) → live_at_start t b.code ≡ true → t < g.params
  lowered_whole t h = by (nat_lt t g.params) refl (nat_lt t locals) refl (is_scalar (sizes t)) refl
    where
      by : (x : Bool) → nat_lt t g.params ≡ x → (y : Bool) → nat_lt t locals ≡ y → (z : Bool) → is_scalar (sizes t) ≡ z → t < g.params
      by true e y f z k = ltb-true t g.params e
      by false e true f true k = from_falsity (sym (dead_at_start t e (λ q. k)) ∙ h)
      by false e true f false k = from_falsity (sym (array_dead t f k) ∙ h)
      by false e false f z k = from_falsity (sym (dead_at_start t e (λ q. from_falsity (sym f ∙ q))) ∙ h)

  -- ---- names

  names : FunctionPaid globals g none 0 (Named globals.scalars globals.arrays (limits.is_there globals locals))
      (λ declared. named_rules (allowed globals locals sizes (room_of globals.pointers g) none 0 declared))
      (named_blocks globals.scalars globals.arrays (limits.is_there globals locals))
  names =
      function_paid globals g none 0 (Named globals.scalars globals.arrays (limits.is_there globals locals))
      (λ declared. named_rules (allowed globals locals sizes (room_of globals.pointers g) none 0 declared))
      (named_blocks globals.scalars globals.arrays (limits.is_there globals locals)) asked.within

  pub scalars_within : Each (λ k. globals.scalars k ≡ true) (scalars_read b.code)
  scalars_within = names.made.scalars tt

  pub arrays_within : Each (λ k. globals.arrays k ≡ true) (arrays_read b.code)
  arrays_within = names.made.arrays

  -- ---- calls and counts

  abbrev counting : (direct : ℕ → ℕ) (through : ℕ) →
      FunctionPaid globals g direct through (Counted direct through)
      (λ declared. counted_rules direct through (allowed globals locals sizes (room_of globals.pointers g) direct through declared) refl refl)
      (counted_blocks direct through)
  counting direct through =
      function_paid globals g direct through (Counted direct through)
      (λ declared. counted_rules direct through (allowed globals locals sizes (room_of globals.pointers g) direct through declared) refl refl)
      (counted_blocks direct through) asked.within

  pub lowered_calls : CallsAsOften program g b
  lowered_calls = record {
    all = (counting each_once 1).made.weighed ∙ (counting each_once 1).made.weight;
    attributed = (counting (attributed_once p) 0).made.weight ∙ attributed_calls p g;
    counted = λ direct through. (counting direct through).made.weight;
    pointers = λ test. function_calls test program g;
  }

  few_statements : statements b.code ≤ 6 * body_nodes g + 1
  few_statements = let c = counting none 0 in omega (arith, c.made.units, c.few_units)

  few_nodes : tree_nodes b.code ≤ 9 * body_nodes g + 1
  few_nodes = let c = counting none 0 in omega (arith, c.made.nodes, c.few_nodes)

  few_words : allowance b.code + 2 * tree_nodes b.code ≤ 40 * body_nodes g + 7
  few_words = let c = counting none 0 in omega (arith, c.made.words, c.made.nodes, c.few_words)

  top_within : (lower_body globals.pointers g).top ≤ locals + 8 * depth g
  top_within = body_top globals locals sizes (is_void g.result) g.body params asked.within outermost

  pub lowered_small : IsSmall g b
  lowered_small = record {
    temps = omega (arith, top_within);
    frame = omega (arith, few_intervals g.locals (room_of globals.pointers g) b refl (omega arith) unmarked, total_is (array_sizes g.locals), top_within);
    statements = omega (arith, few_statements);
    tree_nodes = omega (arith, few_nodes);
    words = omega (arith, few_words);
  }

  -- ---- well-formed bodies

  has_targets : HasTargets (false ∷ []) b.code
  has_targets =
      targets_append (false ∷ []) (lower_body globals.pointers g).code (ending (is_void g.result))
      (code_targets globals locals sizes (is_void g.result) g.body params asked.within false false asked.jumps outermost (false ∷ [])
      (record { leave = λ e. from_falsity e; again = λ e. from_falsity e; around = omega arith })) (last (is_void g.result))
    where
      last : (void : Bool) → HasTargets (false ∷ []) (ending void)
      last true = refl
      last false = targets_one (false ∷ []) (stm.Return (number 0)) refl

  read_there : all_true (map (has_room b.rooms) (scalars_read b.code)) ≡ true
  read_there = scalars_have_rooms globals p.globals b.code asked.scalars scalars_within

  named_there : all_true (map (is_there b.rooms b.arrays) (named b.code)) ≡ true
  named_there = named_are_there globals p.globals b.code locals (array_sizes g.locals) (length-map g.locals (λ l. elements_of l.size)) asked.there names.made.named

  size_within : nodes g ≤ 16777216 → statements b.code + tree_nodes b.code ≤ 1073741824
  size_within few = omega (arith, few, few_statements, few_nodes)

  pub lowered_well_formed : nodes g ≤ 16777216 → IsWellFormed b
  lowered_well_formed few = record {
    temps = lowered_temps;
    params = asked.params;
    targets = has_targets;
    named = named_there;
    read = read_there;
    arguments = names.made.arguments;
    size = size_within few;
  }
