-- The statements that stand in place of a call set behind the caller's temporaries what the short body sets, and then the result.
use Rattle.std.proofs.Common.{arith, ◌≡◌, ℕ, zero, suc, ◌+◌, ◌-◌, ◌*◌, ◌<◌, ◌≤◌, Bool, true, false, cond, eqb, List, [], ◌∷◌, ◌++◌, map, length, Option, Some, None, refl, sym, ◌∙◌, ap, subst, ◌⊎◌, inl, inr}
use Rattle.std.specs.Prelude.{◌≢◌, slice_index, slice_set, slice_index_or}
use Rattle.std.proofs.lemmas.List.{length-set, length-map, get_or-set_other, get_or_append_left}
use Rattle.std.proofs.lemmas.Grind.{get_or-set_at}
use Rattle.std.proofs.lemmas.Bool.{cases_eq, eqb-true, or_parts}
use Rattle.mv_num.specs.Words as word
use Rattle.mv_num.specs.Lists.{is_among}
use Rattle.mv_num.proofs.Booleans.{or_cases, and_left, and_right, from_falsity}
use Rattle.mv_ir.specs.declared.tree.Tree.{Tree}
use Rattle.mv_ir.specs.declared.tree.Tree.TheOpen.{Tree-F}
use Rattle.mv_ir.specs.declared.tree.Tree.TheOpen as tree
use Rattle.mv_ir.specs.declared.tree.Tree.TheViews.{roll-Tree}
use Rattle.mv_ir.specs.declared.tree.Tree.TheFolds.{map-Tree}
use Rattle.mv_ir.specs.declared.stm.Stm.{Stm}
use Rattle.mv_ir.specs.declared.stm.Stm.TheOpen as stm
use Rattle.mv_ir.specs.declared.body.Body.{Body}
use Rattle.mv_ir.specs.World.{World, Setting, Frame}
use Rattle.mv_ir.specs.Trees as trees
use Rattle.mv_ir.specs.Trees.{Value, tree_value, unary, binary, value, nodes}
use Rattle.mv_ir.specs.Outcome.{State, Next, Run, Bound, spend, then_do}
use Rattle.mv_ir.specs.Meaning.{code_meaning, first_items, first_temps}
use Rattle.mv_ir.specs.Live.{below}
use Rattle.mv_ir.specs.Rolled.{number, temp, set, divide, return_with}
use Rattle.mv_ir.proofs.Induction.{Each, TreeChildren, tree_ind}
use Rattle.mv_ir.proofs.Rolls.{value_roll}
use Rattle.mv_ir.proofs.Keeping.{run_same, joined_runs}
use Rattle.mv_ir.proofs.Joining.{temps_enough}
use Rattle.mv_fold.proofs.Reached.{eqb_self}
use Rattle.mv_fold.proofs.NeededKept.{value_same}
use Rattle.mv_expand.specs.Straight.{short_temps, layer_reads_only, reads_only, Straight, returns, sets, divides, IsShort}
use Rattle.mv_expand.specs.Placed.{stm_sets, sets_temp, stand_in, placed_tree, given_from, result_into, placed_code, steps, straight_cost}
use Rattle.mv_expand.proofs.Rolls.{reads_only_roll, stm_sets_roll, placed_tree_roll, placed_stm_roll}
use Rattle.mv_expand.proofs.Costs.{cost_append, set_cost, divide_cost}
use Rattle.mv_expand.proofs.Still.{plain, set_first, divide_first, given, number_value, short_value}
use Rattle.mv_expand.proofs.Below.{ReadsBelow, WritesBelow}
use Rattle.mv_expand.proofs.Straightness.{below_has}

-- the temporaries where a result is put, if it is
abbrev pub written : Option ℕ → ℕ → List ℕ → List ℕ
written None v xs = xs
written (Some t) v xs = slice_set xs t v

-- from a state of the caller's, with temporaries `first`
module _ (setting : Setting) (frame : Frame) (bound : Bound) (base : ℕ) (arrays : List (List ℕ)) (world : World) (first : List ℕ) where
  abbrev val : Tree → List ℕ → ℕ
  val t ys = value setting.numbers frame.bound t ys world.globals

  abbrev pub at : List ℕ → State
  at ys = record { temps = ys; arrays = arrays; world = world }

  -- temporaries of the caller that are the first ones below the base, with room behind it
  pub record Behind (xs ys : List ℕ) : Type 0 where
    pub room : base + short_temps ≤ length ys
    pub same : (t : ℕ) → t < base → slice_index ys t ≡ slice_index xs t

  set_behind : (xs ys : List ℕ) (t n : ℕ) → Behind xs ys → Behind xs (slice_set ys (base + t) n)
  set_behind xs ys t n b = record {
    room = (let r = b.room in omega (arith, r, length-set ys (base + t) n));
    same = λ u low. get_or-set_other ys (base + t) u n 0 (λ e. omega (arith, e, low)) ∙ b.same u low;
  }

  -- ---- runs

  -- some code goes on with temporaries of which this holds, at the cost of straight code
  pub record Goes (code : List Stm) (ys : List ℕ) (P : List ℕ → Type 0) : Type 0 where
    pub temps : List ℕ
    pub runs : code_meaning setting frame code bound (at ys) ≡ record { cost = straight_cost code; outcome = Next (at temps) }
    pub holds : P temps

  nothing : (ys : List ℕ) (P : List ℕ → Type 0) → P ys → Goes [] ys P
  nothing ys P h = record { temps = ys; runs = refl; holds = h }

  abbrev after : ℕ → List ℕ → Run
  after n ys = record { cost = n; outcome = Next (at ys) }

  both : (xs zs : List Stm) (ys : List ℕ) (P Q : List ℕ → Type 0) → Goes xs ys P → ((us : List ℕ) → P us → Goes zs us Q) → Goes (xs ++ zs) ys Q
  both xs zs ys P Q h k =
      let then = k h.temps h.holds in
      record {
        temps = then.temps;
        runs = joined_runs setting frame frame frame xs zs bound (at ys) ∙ ap (λ r. then_do r (code_meaning setting frame zs bound)) h.runs ∙ ap (spend (straight_cost xs)) then.runs ∙
            run_same (spend (straight_cost xs) (after (straight_cost zs) then.temps)) (after (straight_cost (xs ++ zs)) then.temps) refl (sym (cost_append xs zs));
        holds = then.holds;
      }

  set_goes : (t : ℕ) (v : Tree) (ys : List ℕ) (n : ℕ) (P : List ℕ → Type 0) → val v ys ≡ n → P (slice_set ys t n) → Goes (set t v ∷ []) ys P
  set_goes t v ys n P e h = record {
    temps = slice_set ys t n;
    runs = set_first setting frame bound t v [] (at ys) n e ∙ run_same (spend (8 + 3 * nodes v) (after 0 (slice_set ys t n))) (after (straight_cost (set t v ∷ [])) (slice_set ys t n)) refl (let c = set_cost t v in omega (arith, c));
    holds = h;
  }

  divide_goes : (t o : ℕ) (x y : Tree) (ys : List ℕ) (n d : ℕ) (P : List ℕ → Type 0) → val x ys ≡ n → val y ys ≡ d → d ≢ 0 → P (slice_set ys t (trees.divide o n d)) → Goes (divide t o x y ∷ []) ys P
  divide_goes t o x y ys n d P ex ey some h =
      let zs = slice_set ys t (trees.divide o n d) in
      record {
        temps = zs;
        runs = divide_first setting frame bound t o x y [] (at ys) n d ex ey some ∙ run_same (spend (8 + 3 * (nodes x + nodes y)) (after 0 zs))
            (after (straight_cost (divide t o x y ∷ [])) zs) refl (let c = divide_cost t o x y in omega (arith, c));
        holds = h;
      }

  -- ---- what stands for the temporaries of the body

  module _ (keeps : ℕ → Bool) (args : List Tree) (low : Each (ReadsBelow base) args) where
    abbrev pub values : List ℕ
    values = map (λ t. val t first) args

    value_first : (v : Tree) (ys : List ℕ) → ReadsBelow base v → Behind first ys → val v ys ≡ val v first
    value_first v ys h b = value_same setting.numbers frame.bound ys first world.globals v (λ t r. b.same t (h t r))

    argument_value : (xs : List Tree) (ys : List ℕ) (u : ℕ) → Each (ReadsBelow base) xs → Behind first ys → val (slice_index_or xs u (number 0)) ys ≡ slice_index (map (λ t. val t first) xs) u
    argument_value [] ys u h b = number_value setting.numbers frame.bound 0 ys world.globals
    argument_value (x ∷ xs) ys zero h b = value_first x ys h.0 b
    argument_value (x ∷ xs) ys (suc u) h b = argument_value xs ys u h.1 b

    -- the argument, or what the caller has in the temporary that stands for it
    abbrev held : Bool → ℕ → List ℕ → ℕ
    held c u ys = cond c (slice_index values u) (slice_index ys (base + u))

    abbrev Stands : List ℕ → List ℕ → List ℕ → Type 0
    Stands known xs ys = (u : ℕ) → is_among u known ≡ true → held (keeps u) u ys ≡ slice_index xs u

    stand_value : (u : ℕ) (ys : List ℕ) → Behind first ys → val (stand_in base keeps args u) ys ≡ held (keeps u) u ys
    stand_value u ys b = by (keeps u)
      where
        by : (c : Bool) → val (cond c (slice_index_or args u (number 0)) (temp (base + u))) ys ≡ held c u ys
        by true = argument_value args ys u low b
        by false = ap (λ f. f ys world.globals) (value_roll setting.numbers frame.bound (tree.Temp (base + u)))

    abbrev again : Tree → Tree
    again = placed_tree base keeps args

    module _ (known xs ys : List ℕ) (b : Behind first ys) (stands : Stands known xs ys) where
      abbrev IsStood : Tree → Type 0
      IsStood v = reads_only known v ≡ true → val (again v) ys ≡ plain v xs

      here : (numbers : List ℕ) (reads : List (ℕ × ℕ)) (zs : List ℕ) (globals : List (List ℕ)) (x : Tree-F Tree) →
          value numbers reads (roll-Tree x) zs globals ≡ tree_value numbers reads (map-Tree Tree Value (value numbers reads) x) zs globals
      here numbers reads zs globals x = ap (λ f. f zs globals) (value_roll numbers reads x)

      through : (x y : Tree-F Tree) → again (roll-Tree x) ≡ roll-Tree y →
          tree_value setting.numbers frame.bound (map-Tree Tree Value (value setting.numbers frame.bound) y) ys world.globals ≡ tree_value [] [] (map-Tree Tree Value (value [] []) x) xs [] →
          val (again (roll-Tree x)) ys ≡ plain (roll-Tree x) xs
      through x y e k = ap (λ z. val z ys) e ∙ here setting.numbers frame.bound ys world.globals y ∙ k ∙ sym (here [] [] xs [] x)

      stood_layer : (x : Tree-F Tree) → TreeChildren IsStood x → layer_reads_only known (map-Tree Tree Bool (reads_only known) x) ≡ true → val (again (roll-Tree x)) ys ≡ plain (roll-Tree x) xs
      stood_layer (tree.Number n) h k = through (tree.Number n) (tree.Number n) (placed_tree_roll base keeps args (tree.Number n)) refl
      stood_layer (tree.Temp u) h k =
          ap (λ z. val z ys) (placed_tree_roll base keeps args (tree.Temp u)) ∙ stand_value u ys b ∙ stands u k ∙ sym (here [] [] xs [] (tree.Temp u))
      stood_layer (tree.Global g) h k = from_falsity k
      stood_layer (tree.Function f) h k = from_falsity k
      stood_layer (tree.Unary o x) h k = through (tree.Unary o x) (tree.Unary o (again x)) (placed_tree_roll base keeps args (tree.Unary o x)) (ap (unary o) (h k))
      stood_layer (tree.Binary o x y) h k =
          through (tree.Binary o x y) (tree.Binary o (again x) (again y)) (placed_tree_roll base keeps args (tree.Binary o x y))
          (ap (λ v. binary o v (val (again y) ys)) (h.0 (and_left _ _ k)) ∙ ap (binary o (plain x xs)) (h.1 (and_right _ _ k)))
      stood_layer (tree.Narrow n x) h k = through (tree.Narrow n x) (tree.Narrow n (again x)) (placed_tree_roll base keeps args (tree.Narrow n x)) (ap (word.narrow n) (h k))

      stood : (v : Tree) → IsStood v
      stood = tree_ind IsStood (λ x h k. stood_layer x h (sym (reads_only_roll known x) ∙ k))

    -- a temporary that the body sets
    still_stands : (temps : ℕ) (known xs ys : List ℕ) (t n : ℕ) → temps ≤ length xs → temps ≤ short_temps → t < temps → keeps t ≡ false → Behind first ys → Stands known xs ys →
        Stands (t ∷ known) (slice_set xs t n) (slice_set ys (base + t) n)
    still_stands temps known xs ys t n long few less free b stands u e = by (cases_eq u t)
      where
        apart : (c : Bool) → (u ≡ t → ⊥) → held c u ys ≡ slice_index xs u → held c u (slice_set ys (base + t) n) ≡ slice_index (slice_set xs t n) u
        apart true ne h = h ∙ sym (get_or-set_other xs t u n 0 ne)
        apart false ne h = get_or-set_other ys (base + t) (base + u) n 0 (λ k. ne (omega (arith, k))) ∙ h ∙ sym (get_or-set_other xs t u n 0 ne)

        known_before : (u ≡ t → ⊥) → (eqb u t ≡ true) ⊎ (is_among u known ≡ true) → is_among u known ≡ true
        known_before ne (inl k) = absurd (ne (eqb-true u t k))
        known_before ne (inr k) = k

        by : (u ≡ t) ⊎ (u ≡ t → ⊥) → held (keeps u) u (slice_set ys (base + t) n) ≡ slice_index (slice_set xs t n) u
        by (inl k) =
            ap (λ c. held c u (slice_set ys (base + t) n)) (ap keeps k ∙ free) ∙
            get_or-set_at ys (base + t) (base + u) n 0 (ap (λ i. base + i) k) (let r = b.room in omega (arith, r, few, less)) ∙
            sym (get_or-set_at xs t u n 0 k (omega (arith, long, less)))
        by (inr ne) = apart (keeps u) ne (stands u (known_before ne (or_cases (eqb u t) (is_among u known) e)))

    -- ---- the arguments

    abbrev IsGiven : ℕ → List ℕ → Type 0
    IsGiven i ys = (u : ℕ) → u < i → keeps u ≡ false → slice_index ys (base + u) ≡ slice_index values u

    abbrev HasGiven : ℕ → List ℕ → Type 0
    HasGiven i ys = Behind first ys × IsGiven i ys

    arguments_go : (xs : List Tree) (i : ℕ) → i + length xs ≤ short_temps → Each (ReadsBelow base) xs → ((k : ℕ) → slice_index values (i + k) ≡ slice_index (map (λ t. val t first) xs) k) →
        (ys : List ℕ) → HasGiven i ys → Goes (given_from base keeps args i xs) ys (HasGiven (i + length xs))
    arguments_go [] i few h rest ys g = nothing ys (HasGiven (i + 0)) (g.0, λ u l e. g.1 u (omega (arith, l)) e)
    arguments_go (x ∷ xs) i few h rest ys g =
        by (keeps i) refl (λ zs k. subst (λ n. Goes (given_from base keeps args (suc i) xs) zs (HasGiven n)) count (arguments_go xs (suc i) (omega (arith, few)) h.1 (λ k. ap (slice_index values) (shift k) ∙ rest (suc k)) zs k))
      where
        count : suc i + length xs ≡ i + length (x ∷ xs)
        count = omega arith

        shift : (k : ℕ) → suc i + k ≡ i + suc k
        shift k = omega arith

        here_is : slice_index values i ≡ val x first
        here_is = (let e : i ≡ i + 0 = omega arith in ap (slice_index values) e) ∙ rest 0

        by : (c : Bool) → keeps i ≡ c → ((zs : List ℕ) → HasGiven (suc i) zs → Goes (given_from base keeps args (suc i) xs) zs (HasGiven (i + length (x ∷ xs)))) →
            Goes (cond c [] (set (base + i) x ∷ []) ++ given_from base keeps args (suc i) xs) ys (HasGiven (i + length (x ∷ xs)))
        by true e k = k ys (g.0, λ u l f. passed u l f (cases_eq u i))
          where
            passed : (u : ℕ) → u < suc i → keeps u ≡ false → (u ≡ i) ⊎ (u ≡ i → ⊥) → slice_index ys (base + u) ≡ slice_index values u
            passed u l f (inl same) = from_falsity (sym f ∙ ap keeps same ∙ e)
            passed u l f (inr ne) = g.1 u (omega (arith, l, ne)) f
        by false e k =
            both (set (base + i) x ∷ []) (given_from base keeps args (suc i) xs) ys (HasGiven (suc i)) (HasGiven (i + length (x ∷ xs)))
            (set_goes (base + i) x ys (val x first) (HasGiven (suc i)) (value_first x ys h.0 g.0) (set_behind first ys i (val x first) g.0, λ u l f. passed u l f (cases_eq u i))) k
          where
            passed : (u : ℕ) → u < suc i → keeps u ≡ false → (u ≡ i) ⊎ (u ≡ i → ⊥) → slice_index (slice_set ys (base + i) (val x first)) (base + u) ≡ slice_index values u
            passed u l f (inl same) =
                get_or-set_at ys (base + i) (base + u) (val x first) 0 (ap (λ j. base + j) same) (let r = g.0.room in omega (arith, r, few)) ∙ sym (ap (slice_index values) same ∙ here_is)
            passed u l f (inr ne) = get_or-set_other ys (base + i) (base + u) (val x first) 0 (λ q. ne (omega (arith, q))) ∙ g.1 u (omega (arith, l, ne)) f

    -- ---- the body

    module _ (r : Option ℕ) (target : WritesBelow base r) (wide : base + short_temps ≤ length first) where
      abbrev pub Done : ℕ → List ℕ → Type 0
      Done v ys = Behind (written r v first) ys

      put_behind : (t n : ℕ) (ys : List ℕ) → t < base → Behind first ys → Behind (slice_set first t n) (slice_set ys t n)
      put_behind t n ys low b = record {
        room = (let x = b.room in omega (arith, x, length-set ys t n));
        same = λ u l. by u l (cases_eq u t);
      }
        where
          by : (u : ℕ) → u < base → (u ≡ t) ⊎ (u ≡ t → ⊥) → slice_index (slice_set ys t n) u ≡ slice_index (slice_set first t n) u
          by u l (inl e) = get_or-set_at ys t u n 0 e (let x = b.room in omega (arith, x, low)) ∙ sym (get_or-set_at first t u n 0 e (omega (arith, wide, low)))
          by u l (inr ne) = get_or-set_other ys t u n 0 ne ∙ b.same u l ∙ sym (get_or-set_other first t u n 0 ne)

      result_goes : (known xs ys : List ℕ) (v : Tree) → reads_only known v ≡ true → Behind first ys → Stands known xs ys → Goes (placed_code base keeps args r (return_with v ∷ [])) ys (Done (plain v xs))
      result_goes known xs ys v h b s = subst (λ l. Goes (l ++ []) ys (Done (plain v xs))) (sym (placed_stm_roll base keeps args r (stm.Return v))) (by r target)
        where
          by : (q : Option ℕ) → WritesBelow base q → Goes (result_into base keeps args q v ++ []) ys (Behind (written q (plain v xs) first))
          by None w = nothing ys (Behind first) b
          by (Some t) w = set_goes t (again v) ys (plain v xs) (Behind (slice_set first t (plain v xs))) (stood known xs ys b s v h) (put_behind t (plain v xs) ys (w t (eqb_self t)) b)

      abbrev IsFree : List Stm → Type 0
      IsFree code = (t : ℕ) → keeps t ≡ true → sets_temp t code ≡ false

      free_now : (t : ℕ) (s : Stm) (rest : List Stm) → stm_sets t s ≡ true → IsFree (s ∷ rest) → keeps t ≡ false
      free_now t s rest e free = by (keeps t) refl
        where
          by : (c : Bool) → keeps t ≡ c → keeps t ≡ false
          by true k = from_falsity (sym (or_parts (stm_sets t s) (sets_temp t rest) (free t k)).0 ∙ e)
          by false k = k

      free_rest : (s : Stm) (rest : List Stm) → IsFree (s ∷ rest) → IsFree rest
      free_rest s rest free t k = (or_parts (stm_sets t s) (sets_temp t rest) (free t k)).1

      abbrev Along : List ℕ → List ℕ → List ℕ → Type 0
      Along known xs ys = Behind first ys × Stands known xs ys

      body_goes : (temps : ℕ) (known : List ℕ) (code : List Stm) (h : Straight temps known code) → temps ≤ short_temps → IsFree code → (xs ys : List ℕ) → temps ≤ length xs → Along known xs ys →
          Goes (placed_code base keeps args r code) ys (Done (given temps known code h xs))
      body_goes temps known code (returns k v h) few free xs ys long a = result_goes k xs ys v h a.0 a.1
      body_goes temps known code (sets k t v rest low h more) few free xs ys long a =
          let n = plain v xs in
          let none : keeps t ≡ false = free_now t (set t v) rest (stm_sets_roll t (stm.Set t v) ∙ eqb_self t) free in
          let on : Along (t ∷ k) (slice_set xs t n) (slice_set ys (base + t) n) = (set_behind first ys t n a.0, still_stands temps k xs ys t n long few low none a.0 a.1) in
          subst (λ l. Goes (l ++ placed_code base keeps args r rest) ys (Done (given temps (t ∷ k) rest more (slice_set xs t n)))) (sym (placed_stm_roll base keeps args r (stm.Set t v)))
          (both (set (base + t) (again v) ∷ []) (placed_code base keeps args r rest) ys (Along (t ∷ k) (slice_set xs t n)) (Done (given temps (t ∷ k) rest more (slice_set xs t n)))
          (set_goes (base + t) (again v) ys n (Along (t ∷ k) (slice_set xs t n)) (stood k xs ys a.0 a.1 v h) on)
          (λ zs b. body_goes temps (t ∷ k) rest more few (free_rest (set t v) rest free) (slice_set xs t n) zs (omega (arith, long, length-set xs t n)) b))
      body_goes temps known code (divides k t o x d rest low some h more) few free xs ys long a =
          let n = trees.divide o (plain x xs) d in
          let s = divide t o x (number d) in
          let none : keeps t ≡ false = free_now t s rest (stm_sets_roll t (stm.Divide t o x (number d)) ∙ eqb_self t) free in
          let on : Along (t ∷ k) (slice_set xs t n) (slice_set ys (base + t) n) = (set_behind first ys t n a.0, still_stands temps k xs ys t n long few low none a.0 a.1) in
          let divisor : val (again (number d)) ys ≡ d = ap (λ z. val z ys) (placed_tree_roll base keeps args (tree.Number d)) ∙ number_value setting.numbers frame.bound d ys world.globals in
          subst (λ l. Goes (l ++ placed_code base keeps args r rest) ys (Done (given temps (t ∷ k) rest more (slice_set xs t n)))) (sym (placed_stm_roll base keeps args r (stm.Divide t o x (number d))))
          (both (divide (base + t) o (again x) (again (number d)) ∷ []) (placed_code base keeps args r rest) ys (Along (t ∷ k) (slice_set xs t n)) (Done (given temps (t ∷ k) rest more (slice_set xs t n)))
          (divide_goes (base + t) o (again x) (again (number d)) ys (plain x xs) d (Along (t ∷ k) (slice_set xs t n)) (stood k xs ys a.0 a.1 x h) divisor some on)
          (λ zs b. body_goes temps (t ∷ k) rest more few (free_rest s rest free) (slice_set xs t n) zs (omega (arith, long, length-set xs t n)) b))

      -- the arguments, and then the body
      pub steps_go : (b : Body) (short : IsShort b) → length args ≡ b.params → IsFree b.code → Goes (steps base keeps args r b.code) first (Done (short_value b short values))
      steps_go b short count free =
          both (given_from base keeps args 0 args) (placed_code base keeps args r b.code) first (HasGiven (0 + length args)) (Done (short_value b short values))
          (arguments_go args 0 (let p = short.params in omega (arith, count, p)) low (λ k. let e : 0 + k ≡ k = omega arith in ap (slice_index values) e) first
          (record { room = wide; same = λ u l. refl }, λ u l e. absurd (omega (arith, l))))
          (λ zs g. body_goes b.temps (below b.params) b.code short.straight short.temps free (first_temps (λ i. 0) b.temps values) zs (temps_enough (λ i. 0) b.temps values)
          (g.0, λ u e. starts zs g u (below_has b.params u e) (keeps u) refl))
        where
          starts : (zs : List ℕ) → HasGiven (0 + length args) zs → (u : ℕ) → u < b.params → (c : Bool) → keeps u ≡ c → held c u zs ≡ slice_index (first_temps (λ i. 0) b.temps values) u
          starts zs g u l c e =
              let there = sym (get_or_append_left values (first_items (b.temps - length values) (λ i. 0)) 0 u (let k = length-map args (λ t. val t first) in omega (arith, l, count, k))) in
              by c e ∙ there
            where
              by : (c : Bool) → keeps u ≡ c → held c u zs ≡ slice_index values u
              by true k = refl
              by false k = g.1 u (omega (arith, l, count)) k
