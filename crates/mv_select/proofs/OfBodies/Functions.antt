-- A body within the limits, with what it names there, is one that the laws on functions speak of.
use Rattle.std.proofs.Common.{◌≡◌, ⊎_elim, ℕ, zero, suc, ◌+◌, ◌*◌, ◌<◌, ◌≤◌, ◌&&◌, ◌||◌, Bool, true, eqb, ltb, leb, length, List, [], ◌∷◌, ◌++◌, None, refl, sym, ap, ◌∙◌, subst, arith, eq-eqb}
use Rattle.std.proofs.lemmas.Bool.{cases_eq, ne_eqb, lt-ltb, le-leb, leb-true, or_right, or_left, and_from}
use Rattle.mv_num.specs.Lists.{is_among}
use Rattle.mv_ir.specs.declared.tree.Tree.{Tree}
use Rattle.mv_ir.specs.declared.stm.Array.{Array}
use Rattle.mv_ir.specs.declared.stm.Array.TheVariants as array
use Rattle.mv_ir.specs.declared.body.Body.{Body}
use Rattle.mv_ir.specs.declared.stm.Callee.{Callee}
use Rattle.mv_ir.specs.declared.stm.Callee.TheVariants as callee
use Rattle.mv_ir.specs.declared.stm.Stm.{Stm}
use Rattle.mv_ir.specs.declared.stm.Stm.TheOpen.{Stm-F}
use Rattle.mv_ir.specs.declared.stm.Stm.TheOpen as stm
use Rattle.mv_ir.specs.declared.stm.Stm.TheFolds.{map-Stm}
use Rattle.mv_ir.specs.Trees.{found, depth}
use Rattle.mv_ir.specs.World as ir
use Rattle.mv_ir.specs.Measures.{trees, tree_reads, scalars_read, array_read, callee_read, layer_arrays, stm_arrays, arrays_read}
use Rattle.mv_ir.specs.Live.{live_at_start, HasTemps, nowhere}
use Rattle.mv_ir.specs.WellFormed.{has_room, callee_named, layer_named, stm_named, named}
use Rattle.mv_ir.proofs.Induction.{Each, each_append, StmChildren, stm_ind, stms_ind}
use Rattle.mv_ir.proofs.Rolls.{named_roll, arrays_roll}
use Rattle.mv_select_code.specs.Statements.Frames.{Reach, view_of, IsFine}
use Rattle.mv_select_code.specs.Control.FlowCode.{Uses, are_fine}
use Rattle.mv_select_code.specs.Control.Laws.{uses_in}
use Rattle.mv_select_code.specs.Control.Labels.{tree_functions, functions}
use Rattle.mv_select.specs.Calls.Convention.{Layout}
use Rattle.mv_select.specs.Functions.Functions.{IsAmple, shape_of, site_of, frame_in, IsFunction}
use Rattle.mv_select.specs.Bodies.SelectedBodies.{tree_constants, constants, IsOrder, knowns, globals_read, globals_written, is_in_globals, reach_of, IsInProgram, BodiesAreFunctions}
use Rattle.mv_select.proofs.OfBodies.Lists.{IsIn, each_weaker, each_both, each_joined, each_all, each_true, each_shallow}
use Rattle.mv_select.proofs.OfBodies.FineCode.{ReadsBelow, IsScalar, IsAsked, all_fine}
use Rattle.mv_select.proofs.OfBodies.Small.{marks_below, order_fine}
use Rattle.mv_select.proofs.OfBodies.SamePlaces.{IsKnownArray, known_arrays}
use Rattle.mv_select.proofs.OfBodies.NamedTrees.{IsWord, IsOne, is_named, all_named, in_view, trees_named}
use Rattle.mv_num.proofs.Booleans.{and_right, and_left}
use Rattle.mv_ir.proofs.Common.{each_first, each_right}

-- each parameter is marked at the start, and so is one of the temporaries
params_fit : (b : Body) → HasTemps b → b.params ≤ b.temps
params_fit b has = by b.params (λ t low. has 0 t (or_right (live_at_start t b.code) (ltb t b.params) (lt-ltb t b.params low)))
  where
    by : (n : ℕ) → ((t : ℕ) → t < n → t < b.temps) → n ≤ b.temps
    by zero h = omega arith
    by (suc n) h = h n (omega arith)

-- ---- globals in a list

each_among : (f : ℕ → Bool) (gs : List ℕ) → ((g : ℕ) → is_among g gs ≡ true → f g ≡ true) → Each (λ g. f g ≡ true) gs
each_among f [] h = tt
each_among f (g ∷ gs) h = (
  h g (or_left (eqb g g) (is_among g gs) (eq-eqb g g refl)),
  each_among f gs (λ k e. h k (or_right (eqb k g) (is_among k gs) e)),
)

among_front : (g : ℕ) (xs ys : List ℕ) → is_among g xs ≡ true → is_among g (xs ++ ys) ≡ true
among_front g [] ys h = cc
among_front g (x ∷ xs) ys h = ⊎_elim
    (λ (e : g ≡ x). or_left (eqb g x) (is_among g (xs ++ ys)) (eq-eqb g x e))
    (λ (ne : g ≡ x → ⊥). or_right (eqb g x) (is_among g (xs ++ ys)) (among_front g xs ys (subst (λ c. (c || is_among g xs) ≡ true) (ne_eqb g x ne) h)))
    (cases_eq g x)

among_back : (g : ℕ) (xs ys : List ℕ) → is_among g ys ≡ true → is_among g (xs ++ ys) ≡ true
among_back g [] ys h = h
among_back g (x ∷ xs) ys h = or_right (eqb g x) (is_among g (xs ++ ys)) (among_back g xs ys h)

-- what holds of each of them holds of one
each_one : (P : ℕ → Type 0) (gs : List ℕ) → Each P gs → (g : ℕ) → is_among g gs ≡ true → P g
each_one P [] all g h = absurd cc
each_one P (x ∷ gs) all g h = ⊎_elim
    (λ (e : g ≡ x). subst P (sym e) all.0)
    (λ (ne : g ≡ x → ⊥). each_one P gs all.1 g (subst (λ c. (c || is_among g gs) ≡ true) (ne_eqb g x ne) h))
    (cases_eq g x)

-- ---- the data words of globals

module _ (y : Layout) (g i : ℕ) (lt : i < y.size g) where
  abbrev word : ℕ
  word = y.place g + 4 * i

  abbrev is_in : ℕ → Bool
  is_in x = leb (y.place x) word && ltb word (y.place x + 4 * y.size x)

  own : is_in g ≡ true
  own = and_from (leb (y.place g) word) (ltb word (y.place g + 4 * y.size g)) (le-leb (y.place g) word (omega arith)) (lt-ltb word (y.place g + 4 * y.size g) (omega (arith, lt)))

  in_globals : (gs : List ℕ) → is_among g gs ≡ true → is_in_globals y gs word ≡ true
  in_globals [] h = cc
  in_globals (x ∷ gs) h = ⊎_elim
      (λ (e : g ≡ x). or_left (is_in x) (is_in_globals y gs word) (subst (λ k. is_in k ≡ true) e own))
      (λ (ne : g ≡ x → ⊥). or_right (is_in x) (is_in_globals y gs word) (in_globals gs (subst (λ c. (c || is_among g gs) ≡ true) (ne_eqb g x ne) h)))
      (cases_eq g x)

is_ample : (y : Layout) (b : Body) → IsAmple y (reach_of y b)
is_ample y b = record {
  stack = λ a h.
      or_left (leb y.bottom a && ltb a y.top) (is_in_globals y (globals_read b.code) a) (and_from (leb y.bottom a) (ltb a y.top) (le-leb y.bottom a h.0) (lt-ltb a y.top h.1));
  globals = λ g i read lt.
      or_right (leb y.bottom (y.place g + 4 * i) && ltb (y.place g + 4 * i) y.top) (is_in_globals y (globals_read b.code) (y.place g + 4 * i)) (in_globals y g i lt (globals_read b.code) read);
}

-- ---- the arrays that code reads are among those that it names

module _ (is_known : ℕ → Bool) where
  abbrev ReadsKnownArrays : Stm → Type 0
  ReadsKnownArrays s = Each (IsKnownArray is_known) (stm_named s) → Each (λ g. is_known g ≡ true) (stm_arrays s)

  array_known : (a : Array) → IsKnownArray is_known a → Each (λ g. is_known g ≡ true) (array_read a)
  array_known (array.Global g) h = (h, tt)
  array_known (array.Local l) h = tt
  array_known (array.SureGlobal g n) h = (h, tt)
  array_known (array.SureLocal l n) h = tt

  pub callee_known : (f : Callee) → Each (IsKnownArray is_known) (callee_named f) → Each (λ g. is_known g ≡ true) (callee_read f)
  callee_known (callee.Direct f) h = tt
  callee_known (callee.Through t) h = tt
  callee_known (callee.Switched g) h = (h.0, tt)
  callee_known callee.Expanded h = tt

  inner : (code : List Stm) → Each ReadsKnownArrays code → Each (IsKnownArray is_known) (named code) → Each (λ g. is_known g ≡ true) (arrays_read code)
  inner [] c h = tt
  inner (s ∷ code) c h =
      each_append (λ g. is_known g ≡ true) (stm_arrays s) (arrays_read code) (c.0 (each_first (IsKnownArray is_known) (stm_named s) (named code) h))
      (inner code c.1 (each_right (IsKnownArray is_known) (stm_named s) (named code) h))

  layer : (x : Stm-F Stm) → StmChildren ReadsKnownArrays x → Each (IsKnownArray is_known) (layer_named (map-Stm Stm (List Array) stm_named x)) →
      Each (λ g. is_known g ≡ true) (layer_arrays (map-Stm Stm (List ℕ) stm_arrays x))
  layer (stm.Read t a i) c h = array_known a h.0
  layer (stm.If t a b) c h =
      each_append (λ g. is_known g ≡ true) (arrays_read a) (arrays_read b) (inner a c.0 (each_first (IsKnownArray is_known) (named a) (named b) h))
      (inner b c.1 (each_right (IsKnownArray is_known) (named a) (named b) h))
  layer (stm.Loop b) c h = inner b c h
  layer (stm.Block b) c h = inner b c h
  layer (stm.Call r f args) c h = callee_known f h
  layer _ c h = tt

  arrays_known : (code : List Stm) → Each (IsKnownArray is_known) (named code) → Each (λ g. is_known g ≡ true) (arrays_read code)
  arrays_known code =
      inner code (stms_ind ReadsKnownArrays (stm_ind ReadsKnownArrays (λ x c h.
      subst (Each (λ g. is_known g ≡ true)) (sym (arrays_roll x)) (layer x c (subst (Each (IsKnownArray is_known)) (named_roll x) h)))) code)

module _ (y : Layout) (setting : ir.Setting) (attributed : Bool) (bound : List (ℕ × ℕ)) (b : Body) (member : IsInProgram y setting attributed bound b) where
  abbrev reach : Reach
  reach = reach_of y b

  abbrev is_read : ℕ → Bool
  is_read = reach.is_read

  abbrev uses : Uses
  uses = uses_in y.size reach true

  abbrev count : ℕ
  count = length setting.numbers

  -- there are registers for a tree, and what it names is there
  abbrev is_fine : Tree → Bool
  is_fine v = leb (depth v) 4 && is_named b.temps count is_read v

  -- the globals that are read have rooms, and aren't read as bound
  abbrev IsFree : ℕ → Type 0
  IsFree g = found bound g ≡ None

  rooms_read : Each (IsIn (has_room b.rooms)) (globals_read b.code)
  rooms_read =
      each_append (IsIn (has_room b.rooms)) (scalars_read b.code) (arrays_read b.code) (each_true (has_room b.rooms) (scalars_read b.code) member.within.formed.read)
      (arrays_known (has_room b.rooms) b.code (known_arrays b member.within.formed))

  free_read : Each IsFree (globals_read b.code)
  free_read =
      each_append IsFree (scalars_read b.code) (arrays_read b.code) (each_all IsFree (scalars_read b.code) member.free) (each_all IsFree (arrays_read b.code) member.arrays)

  -- what is known of each tree
  record IsGood (v : Tree) : Type 0 where
    shallow : depth v ≤ 4
    words : Each IsWord (tree_constants v)
    reads : Each (IsIn is_read) (tree_reads v)
    functions : Each (IsOne b.temps count is_read) (tree_functions v)

  tree_fine : (v : Tree) → IsGood v → ReadsBelow b.temps v → is_fine v ≡ true
  tree_fine v good low =
      and_from (leb (depth v) 4) (is_named b.temps count is_read v) (le-leb (depth v) 4 good.shallow) (all_named b.temps count is_read v good.words good.reads good.functions low)

  good_trees : (ts : List Tree) → Each (λ v. depth v ≤ 4) ts → Each (λ v. Each IsWord (tree_constants v)) ts → Each (λ v. Each (IsIn is_read) (tree_reads v)) ts →
      Each (λ v. Each (IsOne b.temps count is_read) (tree_functions v)) ts → Each IsGood ts
  good_trees [] h k r f = tt
  good_trees (v ∷ ts) h k r f = (record { shallow = h.0; words = k.0; reads = r.0; functions = f.0 }, good_trees ts h.1 k.1 r.1 f.1)

  trees_good : Each IsGood (trees b.code)
  trees_good =
      good_trees (trees b.code) (each_shallow 4 (trees b.code) member.within.shallow)
      (each_joined IsWord tree_constants (trees b.code) (each_all IsWord (constants b.code) member.constants))
      (each_joined (IsIn is_read) tree_reads (trees b.code) (each_among is_read (scalars_read b.code) (λ g. among_front g (scalars_read b.code) (arrays_read b.code))))
      (trees_named (IsOne b.temps count is_read) b.code (each_all (IsOne b.temps count is_read) (functions b.code) member.functions))

  abbrev IsWordy : Array → Type 0
  IsWordy = IsScalar is_fine y.may_ask b.temps uses

  wordy : (a : Array) → IsKnownArray (has_room b.rooms) a → IsWordy a
  wordy (array.Global g) h = lt-ltb 0 (y.size g) (member.rooms.words g h)
  wordy (array.Local l) h = tt
  wordy (array.SureGlobal g n) h = lt-ltb 0 (y.size g) (member.rooms.words g h)
  wordy (array.SureLocal l n) h = tt

  asked : Each (IsAsked is_fine y.may_ask b.temps uses) (knowns b.code)
  asked =
      let both = each_both (IsIn y.may_ask) IsOrder (knowns b.code) (each_all (IsIn y.may_ask) (knowns b.code) member.knowns) (each_all IsOrder (knowns b.code) member.within.orders) in
      each_weaker (λ k. IsIn y.may_ask k × IsOrder k) (IsAsked is_fine y.may_ask b.temps uses) (λ k h. order_fine is_fine y.may_ask b.temps uses k h.0 h.1) (knowns b.code) both

  code_fine : are_fine is_fine y.may_ask b.temps uses b.code ≡ true
  code_fine =
      all_fine is_fine y.may_ask b.temps uses IsGood tree_fine refl b.code trees_good (each_weaker (IsKnownArray (has_room b.rooms)) IsWordy wordy (named b.code) (known_arrays b member.within.formed)) asked
      (each_among is_read (arrays_read b.code) (λ g. among_back g (scalars_read b.code) (arrays_read b.code)))
      (each_among reach.is_written (globals_written b.code) (λ g h. h))
      member.within.formed.arguments (λ t. nowhere) (marks_below b b.temps member.within.formed.temps (omega arith))

  fine_tree : (t : Tree) → is_fine t ≡ true → (depth_of live : ℕ) (register : ℕ → ℕ) (is_kept : ℕ → Bool) (kept : ℕ → ℕ) →
      IsFine (site_of y reach (shape_of attributed b) register is_kept kept) setting (frame_in attributed bound depth_of live) t
  fine_tree t h depth_of live register is_kept kept =
      let s = site_of y reach (shape_of attributed b) register is_kept kept in
      let frame = frame_in attributed bound depth_of live in
      record {
        named = λ l long. in_view (view_of s setting frame l) t ∙ ap (λ n. is_named n count is_read t) long ∙ and_right (leb (depth t) 4) (is_named b.temps count is_read t) h;
        shallow = leb-true (depth t) 4 (and_left (leb (depth t) 4) (is_named b.temps count is_read t) h);
      }

  is_function : IsFunction y setting attributed bound reach is_fine b
  is_function = record {
    params = member.within.formed.params;
    temps = params_fit b member.within.formed.temps;
    small = member.within.frame;
    read = λ g h. member.rooms.words g (each_one (IsIn (has_room b.rooms)) (globals_read b.code) rooms_read g h);
    free = each_one IsFree (globals_read b.code) free_read;
    fine = code_fine;
    trees = fine_tree;
  }

pub bodies_are_functions : BodiesAreFunctions
bodies_are_functions y setting attributed bound b member = (is_fine y setting attributed bound b member, is_ample y b, is_function y setting attributed bound b member)
