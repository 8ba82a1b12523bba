-- Arguments, known functions and direct calls.
use Rattle.std.proofs.Common.{◌≡◌, ℕ, suc, ◌+◌, ◌*◌, ◌<◌, ◌≤◌, Bool, true, false, cond, eqb, ltb, List, [], ◌∷◌, ◌++◌, map, Option, Some, None, refl, sym, ◌∙◌, subst, ap, arith}
use Rattle.std.specs.Prelude.{slice_index_or, length}
use Rattle.mv_ast.specs.Switches.{word_at}
use Rattle.mv_ir.specs.Meaning.{code_meaning, with_temp, with_world, traps, call_end, made_call, within, call_to, Goal, Null, At, goal, goal_of, goal_at, place, callee_nodes, call_cost, known_end}
use Rattle.std.proofs.lemmas.List.{get_or-set_same, length-map}
use Rattle.mv_source_forms.specs.Names.{is_callable, is_void}
use Rattle.mv_ir.specs.declared.tree.Tree.{Tree}
use Rattle.mv_ir.specs.declared.stm.Stm.{Stm}
use Rattle.mv_ast.specs.declared.program.Known.{Known}
use Rattle.mv_bindings.specs.declared.stop.Stop.{Stop}
use Rattle.mv_bindings.specs.declared.stop.Stop.TheVariants as stops
use Rattle.mv_ast.specs.Worlds.{World, Outcome, Came, Stopped, after, and_then, bind, give, counted, stop}
use Rattle.mv_meaning.specs.declared.state.Frame.{Frame}
use Rattle.mv_meaning.specs.declared.state.Lvalue.TheVariants as lvalue
use Rattle.mv_ast.specs.declared.program.CType.{CType}
use Rattle.mv_ast.specs.Numbering.{place_from, function_of_number}
use Rattle.mv_meaning.specs.Meaning.{Evaluation, Context, Denotation, callee_in, read_as, values_of, known_value, call_at, call_numbered, call_through}
use Rattle.mv_ir.specs.World as code_world
use Rattle.mv_ir.specs.Outcome.{State, Next, Ends, Bound, Call, End, spend, now}
use Rattle.mv_ir.specs.Outcome as ir
use Rattle.mv_ir.specs.Trees.{nodes, nodes_of_all}
use Rattle.mv_ir.specs.declared.stm.Callee.{Callee}
use Rattle.mv_ir.specs.declared.stm.Callee.TheVariants as callees
use Rattle.mv_ir.specs.KnownFunctions.{seen}
use Rattle.mv_lower_spec.specs.Lowered.{Lowered, Lowering, Arguments, temp, call, known, is_empty, kept_if, lower_all, result_tree, lower_call, but_last, last_of, lower_through, lower_switched, lower_known, unless_void}
use Rattle.mv_lower_spec.specs.Correct as c
use Rattle.mv_lower_spec.specs.Correct.{Scene, val, Shows, Reached, Shown, CorrectFor, Correct, AllReached, AllShown, AllCorrect}
use Rattle.mv_lower_spec.proofs.Running as run
use Rattle.mv_lower_spec.proofs.Running.{nodes_number, nodes_temp}
use Rattle.mv_meaning.proofs.Sequences as sequences
use Rattle.mv_lower_spec.proofs.Showing as show

no : {A : Type 0} → true ≡ false → A
no e = absurd (subst Is e tt)
  where
    Is : Bool → Type 0
    Is true = Unit {0}
    Is false = ⊥

-- the last tree and the others
parts_of : (ts : List Tree) → nodes (last_of ts) + nodes_of_all (but_last ts) ≤ 1 + nodes_of_all ts
parts_of [] = omega (arith, nodes_number 0)
parts_of (t ∷ []) = omega arith
parts_of (t ∷ u ∷ ts) = omega (arith, parts_of (u ∷ ts))

nothing_there : (xs : List Stm) → is_empty xs ≡ true → xs ≡ []
nothing_there [] e = refl
nothing_there (x ∷ xs) e = absurd (subst Is e tt)
  where
    Is : Bool → Type 0
    Is true = ⊥
    Is false = Unit {0}

pub trees_length : (ls : List Lowering) (n : ℕ) → length (lower_all ls n).trees ≡ length ls
trees_length [] n = refl
trees_length (l ∷ ls) n = ap suc (trees_length ls (n + 1))

module _ (scene : Scene) (bound : Bound) where
  -- ---- arguments

  one_more : (n : ℕ) (s : State) (l : Lowered) (rest : Arguments) (v work1 : ℕ) (f1 : Frame) (w1 : World) → scene.floor ≤ n →
      (r : Reached scene bound 0 0 n s (kept_if (is_empty rest.code) n l).code (kept_if (is_empty rest.code) n l).tree v f1 w1 work1) (o : Outcome Frame (List ℕ)) →
      AllShown scene bound (n + 1) r.state rest.code rest.trees o →
      AllShown scene bound n s ((kept_if (is_empty rest.code) n l).code ++ rest.code) ((kept_if (is_empty rest.code) n l).tree ∷ rest.trees) (after work1 (and_then o (λ vs. give (v ∷ vs))))
  one_more n s l rest v work1 f1 w1 le r (Came vs f2 w2 work2) h =
      let x = kept_if (is_empty rest.code) n l in
      record {
        state = h.state;
        cost = r.cost + h.cost;
        runs = run.runs_append scene bound x.code rest.code s r.state (Next h.state) r.cost h.cost r.runs h.runs;
        shows = h.shows;
        values =
            ap (λ k. k ∷ map (λ t. val scene t h.state) rest.trees)
            (show.lasts scene (is_empty rest.code) n l r.state h.state le
            (λ e. run.runs_nowhere scene bound rest.code r.state h.state h.cost (nothing_there rest.code e) h.runs) h.kept ∙ r.value) ∙
            ap (λ k. v ∷ k) h.values;
        kept = λ i a b. h.kept i a (omega (arith, b)) ∙ r.kept i a b;
        paid = omega (arith, h.paid, r.paid);
      }
  one_more n s l rest v work1 f1 w1 le r (Stopped why w2 work2) h =
      let x = kept_if (is_empty rest.code) n l in
      record {
        cost = r.cost + h.cost;
        runs = λ ne. run.runs_append scene bound x.code rest.code s r.state (Ends (c.end_of why (seen w2))) r.cost h.cost r.runs (h.runs ne);
        paid = omega (arith, h.paid, r.paid);
      }

  pub all_shown : (es : List Denotation) (ls : List Lowering) → AllCorrect scene bound es ls → (n : ℕ) (f : Frame) (w : World) (s : State) →
      scene.floor ≤ n → (lower_all ls n).top ≤ scene.room → Shows scene f w s → AllShown scene bound n s (lower_all ls n).code (lower_all ls n).trees (values_of es f w)
  all_shown [] [] cs n f w s le fits h = record {
    state = s;
    cost = 0;
    runs = run.runs_nil scene bound s;
    shows = h;
    values = refl;
    kept = show.kept_refl scene n s;
    paid = omega arith;
  }
  all_shown [] (l ∷ ls) cs n f w s le fits h = absurd cs
  all_shown (e ∷ es) [] cs n f w s le fits h = absurd cs
  all_shown (e ∷ es) (l ∷ ls) cs n f w s le fits h =
      by (e.value f w)
      (show.kept_shown scene bound 0 keep n s (l n) (e.value f w) le (omega (arith, fits)) (cs.0 n f w s le (show.kept_top scene keep n (l n) (omega (arith, fits))) h))
      (λ f1 w1 s1 h1. all_shown es ls cs.1 (n + 1) f1 w1 s1 (omega (arith, le)) (omega (arith, fits)) h1)
    where
      keep : Bool
      keep = is_empty (lower_all ls (n + 1)).code

      by : (o : Outcome Frame ℕ) → Shown scene bound 0 0 n s (kept_if keep n (l n)).code (kept_if keep n (l n)).tree o →
          ((f1 : Frame) (w1 : World) (s1 : State) → Shows scene f1 w1 s1 → AllShown scene bound (n + 1) s1 (lower_all ls (n + 1)).code (lower_all ls (n + 1)).trees (values_of es f1 w1)) →
          AllShown scene bound n s (lower_all (l ∷ ls) n).code (lower_all (l ∷ ls) n).trees (and_then o (λ v. bind (values_of es) (λ vs. give (v ∷ vs))))
      by (Came v f1 w1 work1) r others =
          one_more n s (l n) (lower_all ls (n + 1)) v work1 f1 w1 le r (values_of es f1 w1) (others f1 w1 r.state r.shows)
      by (Stopped why w1 work1) r others = record {
        cost = r.cost;
        runs = λ ne. run.runs_stop scene bound (kept_if keep n (l n)).code (lower_all ls (n + 1)).code s (c.end_of why (seen w1)) r.cost (r.runs ne);
        paid = r.paid;
      }

  -- what follows the arguments
  then_rest : (due credit n : ℕ) (s : State) (code rest : List Stm) (trees : List Tree) (t : Tree) (vs : List ℕ) (f : Frame) (w : World) (work : ℕ) (r : AllReached scene bound n s code trees vs f w work) (o : Outcome Frame ℕ) →
      Shown scene bound due (credit + 3 * nodes_of_all trees) n r.state rest t o → Shown scene bound due credit n s (code ++ rest) t (after work o)
  then_rest due credit n s code rest trees t vs f w work r (Came v2 f2 w2 work2) h = record {
    state = h.state;
    cost = r.cost + h.cost;
    runs = run.runs_append scene bound code rest s r.state (Next h.state) r.cost h.cost r.runs h.runs;
    shows = h.shows;
    value = h.value;
    kept = λ i a b. h.kept i a b ∙ r.kept i a b;
    paid = omega (arith, h.paid, r.paid);
  }
  then_rest due credit n s code rest trees t vs f w work r (Stopped why w2 work2) h = record {
    cost = r.cost + h.cost;
    runs = λ ne. run.runs_append scene bound code rest s r.state (Ends (c.end_of why (seen w2))) r.cost h.cost r.runs (h.runs ne);
    paid = omega (arith, h.paid, r.paid);
  }

  follow_all : (due credit n : ℕ) (s : State) (code rest : List Stm) (trees : List Tree) (t : Tree) (o : Outcome Frame (List ℕ)) (next : List ℕ → Evaluation ℕ) → AllShown scene bound n s code trees o →
      ((vs : List ℕ) (f : Frame) (w : World) (work : ℕ) (r : AllReached scene bound n s code trees vs f w work) → Shown scene bound due (credit + 3 * nodes_of_all trees) n r.state rest t (next vs f w)) →
      Shown scene bound due credit n s (code ++ rest) t (and_then o next)
  follow_all due credit n s code rest trees t (Came vs f w work) next h k =
      then_rest due credit n s code rest trees t vs f w work h (next vs f w) (k vs f w work h)
  follow_all due credit n s code rest trees t (Stopped why w work) next h k = record {
    cost = h.cost;
    runs = λ ne. run.runs_stop scene bound code rest s (c.end_of why (seen w)) h.cost (h.runs ne);
    paid = omega (arith, h.paid);
  }

  -- ---- what a call leaves

  shows_after : (f f2 : Frame) (w w2 : World) (s : State) → Shows scene f w s → c.Unmoved scene.p scene.frame scene.own f f2 w w2 → Shows scene f2 w2 (with_world s (seen w2))
  shows_after f f2 w w2 s h u = record {
    around = record {
      world = refl;
      depth = u.depth ∙ h.depth;
      live = u.live ∙ h.live;
      pinned = λ lt. u.pinned lt ∙ h.pinned lt;
      function = ap (λ (x : Frame). x.function) u.frame_same ∙ h.function;
      switches = λ g. h.switches g ∙ sym (u.switches g);
      globals = λ g. u.globals g ∙ h.globals g;
    };
    in_arrays = record {
      elements = λ l lt array. h.elements l lt array ∙ ap (λ (x : Frame). slice_index_or x.locals l []) (sym u.frame_same);
      untouched = λ l both e. (ap (λ (x : Frame). slice_index_or x.locals l []) u.frame_same ∙ (h.untouched l both e).0, (h.untouched l both e).1);
      words = λ l lt. ap (λ (x : Frame). size_of x l) u.frame_same ∙ h.words l lt;
      size = ap (λ (x : Frame). length x.locals) u.frame_same ∙ h.size;
      arrays = h.arrays;
    };
    in_temps = h.in_temps;
    each = λ l lt sc. h.each l lt sc ∙ ap (λ (x : Frame). local x l) (sym u.frame_same);
  }
    where
      local : Frame → ℕ → ℕ
      local x l = word_at x.locals l 0

      size_of : Frame → ℕ → ℕ
      size_of x l = length (slice_index_or x.locals l [])

  -- a value that a call puts into a temporary
  result_in : (n x : ℕ) (f : Frame) (w : World) (s : State) → n < scene.room → Shows scene f w s → val scene (temp n) (with_temp s n x) ≡ x
  result_in n x f w s lt h = run.val_temp scene n (with_temp s n x) ∙ get_or-set_same s.temps n x 0 (subst (λ j. n < j) (sym h.temps) lt)

  -- ---- known functions

  known_shown : (n : ℕ) (k : Known) (trees : List Tree) (vs : List ℕ) (f : Frame) (w : World) (s : State) (o : Outcome Frame ℕ) → scene.floor ≤ n → n < scene.room → Shows scene f w s →
      map (λ t. val scene t s) trees ≡ vs → c.KnownShown scene.p scene.frame scene.own (scene.setting.known k vs scene.frame.live (seen w)) f w o →
      Shown scene bound 11 (100 + 3 * nodes_of_all trees) n s (known n k trees ∷ []) (temp n) o
  known_shown n k trees vs f w s (Came v f2 w2 work) le lt h ev a =
      let x = (scene.setting.known k vs scene.frame.live (seen w)).value in
      let after_call = shows_after f f2 w w2 s h a.unmoved in
      record {
        state = with_temp (with_world s (seen w2)) n x;
        cost = 30 + 3 * nodes_of_all trees + (scene.setting.known k vs scene.frame.live (seen w)).cost;
        runs =
            run.runs_known scene bound n k trees s ∙
            ap (λ (l : List ℕ). spend (30 + 3 * nodes_of_all trees) (known_end scene.setting scene.frame (Some n) s (scene.setting.known k l scene.frame.live s.world))) ev ∙
            ap (λ (q : code_world.World). spend (30 + 3 * nodes_of_all trees) (known_end scene.setting scene.frame (Some n) s (scene.setting.known k vs scene.frame.live q))) h.world ∙
            ap (λ (q : code_world.World). c.ran (30 + 3 * nodes_of_all trees + (scene.setting.known k vs scene.frame.live (seen w)).cost) (Next (with_temp (with_world s q) n x))) a.world;
        shows = show.shows_temp scene f2 w2 (with_world s (seen w2)) n x le after_call;
        value = result_in n x f2 w2 (with_world s (seen w2)) lt after_call ∙ a.value;
        kept = show.kept_temp scene n (with_world s (seen w2)) x;
        paid = omega (arith, a.paid, nodes_temp n);
      }
  known_shown n k trees vs f w s (Stopped why w2 work) le lt h ev a = absurd a

  pub correct_known : (k : Known) (es : List Denotation) (ls : List Lowering) → c.KnownAgrees scene.p scene.frame scene.own scene.setting k → AllCorrect scene bound es ls →
      CorrectFor scene bound 100 (bind (values_of es) (known_value scene.p scene.setting.numbers k)) (lower_known k ls)
  correct_known k es ls agrees cs n f w s le fits h =
      let all = lower_all ls n in
      let rest = known n k all.trees ∷ [] in
      follow_all 11 100 n s all.code rest all.trees (temp n) (values_of es f w) (known_value scene.p scene.setting.numbers k) (all_shown es ls cs n f w s le (omega (arith, fits)) h)
      (λ vs f1 w1 work r.
      known_shown n k all.trees vs f1 w1 r.state (known_value scene.p scene.setting.numbers k vs f1 w1) le (omega (arith, fits)) r.shows r.values (agrees vs f1 w1 r.shows.function r.shows.live))

  -- ---- calls

  at_level : (b : Bound) (result : Option ℕ) (g : ℕ) (vs : List ℕ) (depth live : ℕ) (s : State) →
      within b (λ calls. made_call result s (calls g vs depth live s.world)) s ≡ made_call result s (c.level b g vs depth live s.world)
  at_level [] result g vs depth live s = refl
  at_level (calls ∷ below) result g vs depth live s = refl

  -- what the statement itself costs
  abbrev price : Callee → List Tree → ℕ
  price t trees = call_cost t + 3 * (callee_nodes scene.setting scene.frame t + nodes_of_all trees)

  -- the statement, where depth is left
  enters : (result : Option ℕ) (t : Callee) (g : ℕ) (trees : List Tree) (vs : List ℕ) (f : Frame) (w : World) (s : State) → Shows scene f w s →
      map (λ t. val scene t s) trees ≡ vs → goal scene.setting scene.frame t s ≡ At g → ltb scene.frame.depth 512 ≡ true →
      code_meaning scene.setting scene.frame (call result t trees ∷ []) bound s ≡
      spend (price t trees) (made_call result s (c.level bound g vs scene.frame.depth scene.frame.live (seen w)))
  enters result t g trees vs f w s h ev eg e =
      run.runs_call scene bound result t trees s ∙
      ap (λ (x : Goal). spend (price t trees) (call_to x scene.frame.depth scene.frame.live result (map (λ t. val scene t s) trees) bound s)) eg ∙
      ap (λ (l : List ℕ). spend (price t trees) (call_to (At g) scene.frame.depth scene.frame.live result l bound s)) ev ∙
      ap (λ z. spend (price t trees) (cond z (within bound (λ calls. made_call result s (calls g vs scene.frame.depth scene.frame.live s.world)) s) (now (traps 4 s)))) e ∙
      ap (λ r. spend (price t trees) r) (at_level bound result g vs scene.frame.depth scene.frame.live s) ∙
      ap (λ (q : code_world.World). spend (price t trees) (made_call result s (c.level bound g vs scene.frame.depth scene.frame.live q))) h.world

  call_shown : (void : Bool) (n g : ℕ) (t : Callee) (trees : List Tree) (vs : List ℕ) (f : Frame) (w : World) (s : State) (o : Outcome Frame ℕ) →
      scene.floor ≤ n → n < scene.room → Shows scene f w s → map (λ t. val scene t s) trees ≡ vs → goal scene.setting scene.frame t s ≡ At g →
      ltb scene.frame.depth 512 ≡ true →
      c.CallShown scene.p scene.frame scene.own void (c.level bound g vs scene.frame.depth scene.frame.live (seen w)) f w o →
      Shown scene bound 11 (37 + price t trees) n s (call (unless_void void n) t trees ∷ []) (result_tree void n) o
  call_shown true n g t trees vs f w s (Came v f2 w2 work) le lt h ev eg e a =
      let callee = c.level bound g vs scene.frame.depth scene.frame.live (seen w) in
      record {
        state = with_world s (seen w2);
        cost = price t trees + callee.cost;
        runs =
            enters None t g trees vs f w s h ev eg e ∙
            ap (λ (x : End). c.ran (price t trees + callee.cost) (call_end None s x)) a.ends;
        shows = shows_after f f2 w w2 s h a.unmoved;
        value = run.val_number scene 0 (with_world s (seen w2)) ∙ sym (a.nothing refl);
        kept = λ j low high. refl;
        paid = omega (arith, a.paid, nodes_number 0);
      }
  call_shown false n g t trees vs f w s (Came v f2 w2 work) le lt h ev eg e a =
      let callee = c.level bound g vs scene.frame.depth scene.frame.live (seen w) in
      let after_call = shows_after f f2 w w2 s h a.unmoved in
      record {
        state = with_temp (with_world s (seen w2)) n v;
        cost = price t trees + callee.cost;
        runs =
            enters (Some n) t g trees vs f w s h ev eg e ∙
            ap (λ (x : End). c.ran (price t trees + callee.cost) (call_end (Some n) s x)) a.ends;
        shows = show.shows_temp scene f2 w2 (with_world s (seen w2)) n v le after_call;
        value = result_in n v f2 w2 (with_world s (seen w2)) lt after_call;
        kept = show.kept_temp scene n (with_world s (seen w2)) v;
        paid = omega (arith, a.paid, nodes_temp n);
      }
  call_shown void n g t trees vs f w s (Stopped why w2 work) le lt h ev eg e a = record {
    cost = price t trees + a.cost;
    runs = λ ne.
        enters (unless_void void n) t g trees vs f w s h ev eg e ∙
        ap (λ (x : Call). spend (price t trees) (made_call (unless_void void n) s x)) (a.ends ne) ∙
        ap (λ (x : ir.Outcome). c.ran (price t trees + a.cost) x) (ends (unless_void void n) why);
    paid = omega (arith, a.paid);
  }
    where
      ends : (result : Option ℕ) (x : Stop) → call_end result s (c.end_of x (seen w2)) ≡ Ends (c.end_of x (seen w2))
      ends None (stops.Trapped code) = refl
      ends None stops.Unfinished = refl
      ends (Some m) (stops.Trapped code) = refl
      ends (Some m) stops.Unfinished = refl

  calls_at : (context : Context) (void : Bool) (n g : ℕ) (t : Callee) (trees : List Tree) (vs : List ℕ) (f : Frame) (w : World) (s : State) (z : Bool) → scene.floor ≤ n → n < scene.room → Shows scene f w s →
      map (λ t. val scene t s) trees ≡ vs → goal scene.setting scene.frame t s ≡ At g → is_callable scene.p g (length vs) void ≡ true → ltb scene.frame.depth 512 ≡ z → c.CallsAgree scene.p scene.frame scene.own bound context →
      Shown scene bound 11 (37 + price t trees) n s (call (unless_void void n) t trees ∷ []) (result_tree void n) (cond z (context.call g vs) (stop (stops.Trapped 4)) f w)
  calls_at context void n g t trees vs f w s true le lt h ev eg can e agrees =
      call_shown void n g t trees vs f w s (context.call g vs f w) le lt h ev eg e (agrees g void vs f w can h.function h.depth h.live h.globals)
  calls_at context void n g t trees vs f w s false le lt h ev eg can e agrees = record {
    cost = price t trees + 0;
    runs = λ ne.
        run.runs_call scene bound (unless_void void n) t trees s ∙
        ap (λ (x : Goal). spend (price t trees) (call_to x scene.frame.depth scene.frame.live (unless_void void n) (map (λ t. val scene t s) trees) bound s)) eg ∙
        ap (λ z. spend (price t trees) (cond z (within bound (λ calls. made_call (unless_void void n) s (calls g (map (λ t. val scene t s) trees) scene.frame.depth scene.frame.live s.world)) s) (now (traps 4 s)))) e ∙
        ap (λ (q : code_world.World). c.ran (price t trees + 0) (Ends (c.end_of (stops.Trapped 4) q))) h.world;
    paid = omega arith;
  }

  -- a call where the source makes it, at the depth that the source has
  called : (context : Context) (void : Bool) (n g : ℕ) (t : Callee) (trees : List Tree) (vs : List ℕ) (f : Frame) (w : World) (s : State) → scene.floor ≤ n → n < scene.room → Shows scene f w s →
      map (λ t. val scene t s) trees ≡ vs → goal scene.setting scene.frame t s ≡ At g → is_callable scene.p g (length vs) void ≡ true → c.CallsAgree scene.p scene.frame scene.own bound context →
      Shown scene bound 11 (37 + price t trees) n s (call (unless_void void n) t trees ∷ []) (result_tree void n) (call_at context g vs f w)
  called context void n g t trees vs f w s le lt h ev eg can agrees =
      subst (λ d. Shown scene bound 11 (37 + price t trees) n s (call (unless_void void n) t trees ∷ []) (result_tree void n) (cond (ltb d 512) (context.call g vs) (stop (stops.Trapped 4)) f w)) (sym h.depth)
      (calls_at context void n g t trees vs f w s (ltb scene.frame.depth 512) le lt h ev eg can refl agrees)

  values_length : (ls : List Lowering) (n : ℕ) (vs : List ℕ) (s : State) → map (λ t. val scene t s) (lower_all ls n).trees ≡ vs → length vs ≡ length ls
  values_length ls n vs s e = ap length (sym e) ∙ length-map (lower_all ls n).trees (λ t. val scene t s) ∙ trees_length ls n

  pub correct_call : (context : Context) (void : Bool) (g : ℕ) (es : List Denotation) (ls : List Lowering) →
      is_callable scene.p g (length ls) void ≡ true → c.CallsAgree scene.p scene.frame scene.own bound context → AllCorrect scene bound es ls →
      CorrectFor scene bound 100 (bind (values_of es) (call_at context g)) (lower_call void g ls)
  correct_call context void g es ls can agrees cs n f w s le fits h =
      let all = lower_all ls n in
      let rest = call (unless_void void n) (callees.Direct g) all.trees ∷ [] in
      follow_all 11 100 n s all.code rest all.trees (result_tree void n) (values_of es f w) (call_at context g) (all_shown es ls cs n f w s le (omega (arith, fits)) h)
      (λ vs f1 w1 work r.
      show.more_credit scene bound 11 11 (37 + price (callees.Direct g) all.trees) (100 + 3 * nodes_of_all all.trees) n n r.state rest (result_tree void n) (call_at context g vs f1 w1) (omega arith) (omega arith) (omega arith)
      (called context void n g (callees.Direct g) all.trees vs f1 w1 r.state le (omega (arith, fits)) r.shows r.values refl
      (subst (λ k. is_callable scene.p g k void ≡ true) (sym (values_length ls n vs r.state r.values)) can) agrees))

  -- ---- calls through pointers

  place_is : (ns : List ℕ) (v i : ℕ) → place_from i ns v ≡ place ns v i
  place_is [] v i = refl
  place_is (n ∷ ns) v i = ap (λ o. cond (eqb n v) (Some i) o) (place_is ns v (suc i))

  -- where code and source go through a pointer
  through_at : (context : Context) (strict : c.IsStrict scene.p scene.setting.numbers context) (t : CType) (n v : ℕ) (callee : Callee)
      (trees : List Tree) (vs : List ℕ) (f : Frame) (w : World) (s : State) (z : Bool) (o : Option ℕ) →
      scene.floor ≤ n → n < scene.room → Shows scene f w s → map (λ t. val scene t s) trees ≡ vs →
      goal scene.setting scene.frame callee s ≡ goal_of scene.setting.numbers v → eqb v 0 ≡ z → place scene.setting.numbers v 0 ≡ o →
      c.CallsAgree scene.p scene.frame scene.own bound context →
      Shown scene bound 11 (37 + price callee trees) n s (call (unless_void (is_void t) n) callee trees ∷ []) (result_tree (is_void t) n)
      (cond z (stop (stops.Trapped 3)) (call_numbered context t o vs) f w)
  through_at context strict t n v callee trees vs f w s true o le lt h ev eg ez eo agrees = record {
    cost = price callee trees + 0;
    runs = λ ne.
        run.runs_call scene bound (unless_void (is_void t) n) callee trees s ∙
        ap (λ (x : Goal). spend (price callee trees) (call_to x scene.frame.depth scene.frame.live (unless_void (is_void t) n) (map (λ t. val scene t s) trees) bound s)) eg ∙
        ap (λ z. spend (price callee trees) (call_to (cond z Null (goal_at (place scene.setting.numbers v 0))) scene.frame.depth scene.frame.live (unless_void (is_void t) n) (map (λ t. val scene t s) trees) bound s)) ez ∙
        ap (λ (q : code_world.World). c.ran (price callee trees + 0) (Ends (c.end_of (stops.Trapped 3) q))) h.world;
    paid = omega arith;
  }
  through_at context strict t n v callee trees vs f w s false None le lt h ev eg ez eo agrees =
      subst (λ (stray : Evaluation ℕ). Shown scene bound 11 (37 + price callee trees) n s (call (unless_void (is_void t) n) callee trees ∷ []) (result_tree (is_void t) n) (stray f w)) (sym strict.stray_is)
      (record { cost = 0; runs = λ ne. no ne; paid = omega arith })
  through_at context strict t n v callee trees vs f w s false (Some g) le lt h ev eg ez eo agrees =
      subst (λ (lets : CType → ℕ → ℕ → Bool). Shown scene bound 11 (37 + price callee trees) n s (call (unless_void (is_void t) n) callee trees ∷ [])
      (result_tree (is_void t) n) (cond (lets t g (length vs)) (call_at context g vs) context.stray f w)) (sym strict.lets_are)
      (by (is_callable scene.p g (length vs) (is_void t)) refl)
    where
      goal_is : goal scene.setting scene.frame callee s ≡ At g
      goal_is = eg ∙ ap (λ z. cond z Null (goal_at (place scene.setting.numbers v 0))) ez ∙ ap goal_at eo

      by : (z : Bool) → is_callable scene.p g (length vs) (is_void t) ≡ z →
          Shown scene bound 11 (37 + price callee trees) n s (call (unless_void (is_void t) n) callee trees ∷ []) (result_tree (is_void t) n) (cond z (call_at context g vs) context.stray f w)
      by true e = called context (is_void t) n g callee trees vs f w s le lt h ev goal_is e agrees
      by false e =
          subst (λ (stray : Evaluation ℕ). Shown scene bound 11 (37 + price callee trees) n s (call (unless_void (is_void t) n) callee trees ∷ []) (result_tree (is_void t) n) (stray f w)) (sym strict.stray_is)
          (record { cost = 0; runs = λ ne. no ne; paid = omega arith })

  pub all_appended : (es : List Denotation) (ls : List Lowering) (e : Denotation) (l : Lowering) → AllCorrect scene bound es ls → Correct scene bound e.value l → AllCorrect scene bound (es ++ e ∷ []) (ls ++ l ∷ [])
  all_appended [] [] e l h k = (k, tt)
  all_appended [] (x ∷ ls) e l h k = absurd h
  all_appended (x ∷ es) [] e l h k = absurd h
  all_appended (x ∷ es) (y ∷ ls) e l h k = (h.0, all_appended es ls e l h.1 k)

  last_is : (ts : List Tree) (s : State) → val scene (last_of ts) s ≡ sequences.last_value (map (λ t. val scene t s) ts)
  last_is [] s = run.val_number scene 0 s
  last_is (t ∷ []) s = refl
  last_is (t ∷ u ∷ ts) s = last_is (u ∷ ts) s

  others_are : (ts : List Tree) (s : State) → map (λ t. val scene t s) (but_last ts) ≡ sequences.other_values (map (λ t. val scene t s) ts)
  others_are [] s = refl
  others_are (t ∷ []) s = refl
  others_are (t ∷ u ∷ ts) s = ap (λ l. val scene t s ∷ l) (others_are (u ∷ ts) s)

  pub correct_through : (context : Context) → c.IsStrict scene.p scene.setting.numbers context →
      (t : CType) (es : List Denotation) (e : Denotation) (ls : List Lowering) (l : Lowering) →
      c.CallsAgree scene.p scene.frame scene.own bound context → AllCorrect scene bound es ls → Correct scene bound e.value l →
      CorrectFor scene bound 100 (bind (values_of es) (λ vs. bind e.value (λ v. call_through context t v vs))) (lower_through (is_void t) ls l)
  correct_through context strict t es e ls l agrees cs ce =
      show.comes_to scene bound 100
      (bind (values_of (es ++ e ∷ [])) (λ vs. call_through context t (sequences.last_value vs) (sequences.other_values vs))) _
      (lower_through (is_void t) ls l) (λ f w. sequences.values_and_last es e (λ v vs. call_through context t v vs) f w)
      (λ n f w s le fits h. let all = lower_all (ls ++ l ∷ []) n in
      let ct = last_of all.trees in
      let args = but_last all.trees in
      let rest = call (unless_void (is_void t) n) (callees.Through ct) args ∷ [] in
      follow_all 11 100 n s all.code rest all.trees (result_tree (is_void t) n) (values_of (es ++ e ∷ []) f w)
      (λ vs. call_through context t (sequences.last_value vs) (sequences.other_values vs))
      (all_shown (es ++ e ∷ []) (ls ++ l ∷ []) (all_appended es ls e l cs ce) n f w s le (omega (arith, fits)) h)
      (λ vs f1 w1 work r. let v = sequences.last_value vs in
      let us = sequences.other_values vs in
      show.more_credit scene bound 11 11 (37 + price (callees.Through ct) args) (100 + 3 * nodes_of_all all.trees) n n r.state rest
      (result_tree (is_void t) n) (call_through context t v us f1 w1) (omega arith) (omega (arith, parts_of all.trees))
      (omega (arith, parts_of all.trees))
      (subst (λ (o : Option ℕ). Shown scene bound 11 (37 + price (callees.Through ct) args) n r.state rest (result_tree (is_void t) n)
      (cond (eqb v 0) (stop (stops.Trapped 3)) (call_numbered context t o us) f1 w1))
      (sym (ap (λ ns. function_of_number ns v) strict.numbers_are ∙ place_is scene.setting.numbers v 0))
      (through_at context strict t n v (callees.Through ct) args us f1 w1 r.state (eqb v 0) (place scene.setting.numbers v 0) le
      (omega (arith, fits)) r.shows (others_are all.trees r.state ∙ ap sequences.other_values r.values)
      (ap (λ x. goal_of scene.setting.numbers x) (last_is all.trees r.state ∙ ap sequences.last_value r.values)) refl refl agrees))))

  -- ---- calls through pointer switches

  -- the number in a pointer switch, which the source reads behind the arguments and which pays for its node there
  abbrev pub switched_read : Context → (global : ℕ) → Evaluation ℕ
  switched_read context g = bind (give (lvalue.Global g 0)) (read_as scene.p context.numbers true)

  pub correct_switched : (context : Context) → c.IsStrict scene.p scene.setting.numbers context →
      (t : CType) (es : List Denotation) (ls : List Lowering) (g : ℕ) → c.CallsAgree scene.p scene.frame scene.own bound context →
      AllCorrect scene bound es ls →
      ((f : Frame) (w : World) → scene.setting.switched g (seen w) ≡ callee_in scene.p scene.setting.numbers (lvalue.Global g 0) f w) →
      CorrectFor scene bound 100 (bind (values_of es) (λ vs. bind (counted 1 (switched_read context g)) (λ v. call_through context t v vs)))
      (lower_switched (is_void t) ls g)
  correct_switched context strict t es ls g agrees cs same n f w s le fits h =
      let all = lower_all ls n in
      let callee = callees.Switched g in
      let rest = call (unless_void (is_void t) n) callee all.trees ∷ [] in
      follow_all 11 100 n s all.code rest all.trees (result_tree (is_void t) n) (values_of es f w) (λ vs. bind (counted 1 (switched_read context g)) (λ v. call_through context t v vs))
      (all_shown es ls cs n f w s le (omega (arith, fits)) h)
      (λ vs f1 w1 work r.
      let v = callee_in scene.p context.numbers (lvalue.Global g 0) f1 w1 in
      show.paid_by scene bound 11 (100 + 3 * nodes_of_all all.trees) n 1 r.state rest (result_tree (is_void t) n) (call_through context t v vs f1 w1)
      (show.more_credit scene bound 11 11 (37 + price callee all.trees) (100 + 3 * nodes_of_all all.trees + 100 * 1) n n r.state rest (result_tree (is_void t) n) (call_through context t v vs f1 w1) (omega arith) (omega arith) (omega arith)
      (subst (λ (o : Option ℕ). Shown scene bound 11 (37 + price callee all.trees) n r.state rest (result_tree (is_void t) n) (cond (eqb v 0) (stop (stops.Trapped 3)) (call_numbered context t o vs) f1 w1))
      (sym (ap (λ ns. function_of_number ns v) strict.numbers_are ∙ place_is scene.setting.numbers v 0))
      (through_at context strict t n v callee all.trees vs f1 w1 r.state (eqb v 0) (place scene.setting.numbers v 0) le (omega (arith, fits)) r.shows r.values
      (ap (goal_of scene.setting.numbers) (ap (scene.setting.switched g) r.shows.world ∙ same f1 w1 ∙ ap (λ ns. callee_in scene.p ns (lvalue.Global g 0) f1 w1) (sym strict.numbers_are))) refl refl agrees))))
