-- Leaving out the sets of temporaries that aren't needed keeps the meaning, at no greater cost.
use Rattle.std.proofs.Common.{arith, ◌≡◌, ℕ, zero, suc, ◌<◌, ◌≤◌, Bool, true, false, cond, List, [], ◌∷◌, length, map, Option, Some, None, refl, sym, ◌∙◌, ap, subst, ◌⊎◌, inl, inr}
use Rattle.std.specs.Prelude.{slice_index, slice_set}
use Rattle.std.proofs.lemmas.List.{length-set, get_or-set_other, set_past}
use Rattle.std.proofs.lemmas.Grind.{get_or-set_at}
use Rattle.std.proofs.lemmas.Bool.{cases_lt, cases_eq, or_right, or_left}
use Rattle.mv_num.specs.Words as word
use Rattle.mv_ir.specs.declared.tree.Tree.{Tree}
use Rattle.mv_ir.specs.declared.tree.Tree.TheOpen.{Tree-F}
use Rattle.mv_ir.specs.declared.tree.Tree.TheOpen as tree
use Rattle.mv_ir.specs.declared.tree.Tree.TheViews.{roll-Tree}
use Rattle.mv_ir.specs.declared.tree.Tree.TheFolds.{map-Tree}
use Rattle.mv_ir.specs.declared.stm.Callee.{Callee}
use Rattle.mv_ir.specs.declared.stm.Callee.TheVariants as callee
use Rattle.mv_ir.specs.declared.stm.Stm.{Stm}
use Rattle.mv_ir.specs.declared.stm.Stm.TheOpen.{Stm-F}
use Rattle.mv_ir.specs.declared.stm.Stm.TheOpen as stm
use Rattle.mv_ir.specs.declared.stm.Stm.TheViews.{roll-Stm}
use Rattle.mv_ir.specs.declared.stm.Stm.TheFolds.{map-Stm}
use Rattle.mv_ir.specs.World.{Setting, Frame}
use Rattle.mv_ir.specs.Trees.{Value, tree_value, unary, binary, value}
use Rattle.mv_ir.specs.Outcome.{Meaning, in_order}
use Rattle.mv_ir.specs.Meaning.{meaning, code_meaning, entry_state}
use Rattle.mv_ir.specs.Keeps.{KeepsBody}
use Rattle.mv_ir.specs.declared.body.Body.{Body}
use Rattle.mv_ir.specs.Measures.{joined, callee_trees}
use Rattle.mv_ir.specs.Live.{reads_temp}
use Rattle.mv_ir.proofs.Induction.{Each, TreeChildren, tree_ind, StmChildren}
use Rattle.mv_ir.proofs.Rolls.{value_roll, reads_temp_roll}
use Rattle.mv_ir.proofs.Keeping.{map_append, one_meaning, layer_means}
use Rattle.mv_ir.proofs.Relating.{Places, under, in_block, in_loop, RunRel, MeaningRel, nil_rel, append_rel, places_weaker, block_rel, loop_rel, end_same}
use Rattle.mv_ir.proofs.RelatedStatements.{SameIn, SameTreesIn, SameCalleeIn, Puts, set_rel, set_global_rel, divide_rel, check_rel, read_rel, write_rel, zero_rel, if_rel, break_rel, back_rel, call_rel, known_rel, return_rel}
use Rattle.mv_fold.specs.Simple.{alone}
use Rattle.mv_fold.specs.declared.uses.Use.{Use}
use Rattle.mv_fold.specs.Needed.{tree_uses, trees_uses, layer_uses, stm_uses, code_uses, IsNeeded, needed_layer, needed_stm, needed_code}
use Rattle.mv_fold.proofs.NeededEquations.{stm_uses_roll, each_left}
use Rattle.mv_fold.proofs.Reached.{eqb_self}
use Rattle.mv_fold.proofs.Closing.{Among, Closed, left, right, among, for_body, closed}

-- ---- values

-- temporaries that agree where a tree reads them
abbrev pub AgreeFor : Tree → List ℕ → List ℕ → Type 0
AgreeFor x xs ys = (t : ℕ) → reads_temp t x ≡ true → slice_index xs t ≡ slice_index ys t

module _ (numbers : List ℕ) (bound : List (ℕ × ℕ)) (xs ys : List ℕ) (globals : List (List ℕ)) where
  abbrev SameValue : Tree → Type 0
  SameValue x = AgreeFor x xs ys → value numbers bound x xs globals ≡ value numbers bound x ys globals

  here : (x : Tree-F Tree) (zs : List ℕ) → value numbers bound (roll-Tree x) zs globals ≡ tree_value numbers bound (map-Tree Tree Value (value numbers bound) x) zs globals
  here x zs = ap (λ f. f zs globals) (value_roll numbers bound x)

  value_layer : (x : Tree-F Tree) → TreeChildren SameValue x → SameValue (roll-Tree x)
  value_layer (tree.Number n) h a = here (tree.Number n) xs ∙ sym (here (tree.Number n) ys)
  value_layer (tree.Temp n) h a = here (tree.Temp n) xs ∙ a n (reads_temp_roll n (tree.Temp n) ∙ eqb_self n) ∙ sym (here (tree.Temp n) ys)
  value_layer (tree.Global n) h a = here (tree.Global n) xs ∙ sym (here (tree.Global n) ys)
  value_layer (tree.Function n) h a = here (tree.Function n) xs ∙ sym (here (tree.Function n) ys)
  value_layer (tree.Unary o x) h a = here (tree.Unary o x) xs ∙ ap (unary o) (h (λ t r. a t (reads_temp_roll t (tree.Unary o x) ∙ r))) ∙ sym (here (tree.Unary o x) ys)
  value_layer (tree.Binary o x y) h a =
      here (tree.Binary o x y) xs ∙ ap (λ v. binary o v (value numbers bound y xs globals)) (h.0 (λ t r. a t (reads_temp_roll t (tree.Binary o x y) ∙ or_left _ _ r))) ∙
      ap (binary o (value numbers bound x ys globals)) (h.1 (λ t r. a t (reads_temp_roll t (tree.Binary o x y) ∙ or_right _ _ r))) ∙ sym (here (tree.Binary o x y) ys)
  value_layer (tree.Narrow k x) h a = here (tree.Narrow k x) xs ∙ ap (word.narrow k) (h (λ t r. a t (reads_temp_roll t (tree.Narrow k x) ∙ r))) ∙ sym (here (tree.Narrow k x) ys)

  pub value_same : (x : Tree) → SameValue x
  value_same = tree_ind SameValue value_layer

-- ---- statements

module _ (setting : Setting) (frame : Frame) (needed : ℕ → Bool) where
  -- as many temporaries, of which the needed ones agree
  pub record Agree (xs ys : List ℕ) : Type 0 where
    pub long : length xs ≡ length ys
    pub same : (t : ℕ) → needed t ≡ true → slice_index xs t ≡ slice_index ys t

  abbrev pub q : Places
  q = record { next = Agree; leaves = λ n. Agree; restarts = λ n. Agree }

  same_in : (x : Tree) → Among needed x → SameIn setting frame Agree x x
  same_in x h = record {
    value = λ xs ys globals e. value_same setting.numbers frame.bound xs ys globals x (λ t r. e.same t (h t r));
    smaller = omega arith;
  }

  read_back : (xs ys : List ℕ) (t v u : ℕ) → Agree xs ys → needed u ≡ true → (t < length xs) ⊎ (length xs ≤ t) → slice_index (slice_set xs t v) u ≡ slice_index (slice_set ys t v) u
  read_back xs ys t v u e r (inr past) =
      let past' : length ys ≤ t = omega (arith, e.long) in
      ap (λ l. slice_index l u) (set_past xs t v past) ∙ e.same u r ∙ sym (ap (λ l. slice_index l u) (set_past ys t v past'))
  read_back xs ys t v u e r (inl lt) = by (cases_eq u t)
    where
      lt' : t < length ys
      lt' = omega (arith, e.long, lt)

      by : (u ≡ t) ⊎ (u ≡ t → ⊥) → slice_index (slice_set xs t v) u ≡ slice_index (slice_set ys t v) u
      by (inl h) = get_or-set_at xs t u v 0 h lt ∙ sym (get_or-set_at ys t u v 0 h lt')
      by (inr h) = get_or-set_other xs t u v 0 h ∙ e.same u r ∙ sym (get_or-set_other ys t u v 0 h)

  writes : (t : ℕ) (xs ys : List ℕ) (v : ℕ) → Agree xs ys → Agree (slice_set xs t v) (slice_set ys t v)
  writes t xs ys v e = record {
    long = length-set xs t v ∙ e.long ∙ sym (length-set ys t v);
    same = λ u r. read_back xs ys t v u e r (cases_lt t (length xs));
  }

  keeps : (xs ys : List ℕ) → Agree xs ys → Agree xs ys
  keeps xs ys e = e

  abbrev pub m : Stm → Meaning
  m = meaning setting frame

  abbrev pub R : List Meaning → List Meaning → Type 0
  R xs ys = MeaningRel Agree q (in_order xs) (in_order ys)

  abbrev IsRelated : Stm → Type 0
  IsRelated s = Closed needed (stm_uses s) → R (m s ∷ []) (map m (needed_stm needed s))

  many_in : (xs : List Tree) → Closed needed (trees_uses xs) → SameTreesIn setting frame Agree q xs xs
  many_in [] h = tt
  many_in (x ∷ xs) h = (same_in x (for_body needed x (left needed (tree_uses None x) (trees_uses xs) h)), many_in xs (right needed (tree_uses None x) (trees_uses xs) h))

  callee_in : (f : Callee) → Closed needed (trees_uses (callee_trees f)) → SameCalleeIn setting frame Agree q f f
  callee_in (callee.Direct f) h = refl
  callee_in (callee.Through t) h = same_in t (for_body needed t (left needed (tree_uses None t) [] h))
  callee_in (callee.Switched g) h = refl
  callee_in callee.Expanded h = tt

  puts : (r : Option ℕ) → Puts setting frame Agree q r r
  puts None = keeps
  puts (Some t) = writes t

  -- a list, from each of its statements
  kids : (b : List Stm) → Each IsRelated b → Closed needed (code_uses b) → R (map m b) (map m (joined (map (needed_stm needed) b)))
  kids [] h a = nil_rel Agree q
  kids (s ∷ b) h a =
      subst (λ l. R (map m (s ∷ b)) l) (sym (map_append m (needed_stm needed s) (joined (map (needed_stm needed) b))))
      (append_rel Agree Agree q (m s ∷ []) (map m (needed_stm needed s)) (map m b) (map m (joined (map (needed_stm needed) b))) (h.0 (left needed (stm_uses s) _ a)) (kids b h.1 (right needed (stm_uses s) _ a)))

  -- one statement, kept as one
  one : (x y : Stm-F Stm) → MeaningRel Agree q (layer_means setting frame x) (layer_means setting frame y) → R (m (roll-Stm x) ∷ []) (map m (alone y))
  one x y h bound s s' e =
      subst (λ r. RunRel q (code_meaning setting frame (roll-Stm x ∷ []) bound s) r) (sym (one_meaning setting frame y bound s'))
      (subst (λ r. RunRel q r (layer_means setting frame y bound s')) (sym (one_meaning setting frame x bound s)) (h bound s s' e))

  -- a set that nobody reads
  dropped : (t : ℕ) (v : Tree) → needed t ≡ false → R (m (roll-Stm (stm.Set t v)) ∷ []) []
  dropped t v e bound s s' h =
      subst (λ r. RunRel q r (in_order [] bound s')) (sym (one_meaning setting frame (stm.Set t v) bound s))
      (record {
        outcome = record {
          temps = record {
            long = length-set s.temps t _ ∙ h.temps.long;
            same = λ u r. get_or-set_other s.temps t u _ 0 (apart u r) ∙ h.temps.same u r;
          };
          arrays = h.arrays;
          world = h.world;
        };
        cheaper = omega arith;
      })
    where
      apart : (u : ℕ) → needed u ≡ true → u ≡ t → ⊥
      apart u r same = let c : true ≡ false = sym r ∙ ap needed same ∙ e in cc

  set_related : (t : ℕ) (v : Tree) (c : Bool) → needed t ≡ c → (needed t ≡ true → Among needed v) → R (m (roll-Stm (stm.Set t v)) ∷ []) (map m (cond c (alone (stm.Set t v)) []))
  set_related t v true e h = one (stm.Set t v) (stm.Set t v) (set_rel setting frame Agree q t t v v (same_in v (h e)) (writes t))
  set_related t v false e h = dropped t v e

  same_under : (n : ℕ) (xs ys : List ℕ) → Agree xs ys → under Agree Agree n (λ k. Agree) xs ys
  same_under zero xs ys e = e
  same_under (suc n) xs ys e = e

  related_layer : (x : Stm-F Stm) → StmChildren IsRelated x → Closed needed (layer_uses (map-Stm Stm (List Use) stm_uses x)) → R (m (roll-Stm x) ∷ []) (map m (needed_layer needed (map-Stm Stm (List Stm) (needed_stm needed) x)))
  related_layer (stm.Set t v) h a = set_related t v (needed t) refl (λ e. among needed (Some t) e v a)
  related_layer (stm.SetGlobal g v) h a = one (stm.SetGlobal g v) (stm.SetGlobal g v) (set_global_rel setting frame Agree q g v v (same_in v (for_body needed v a)) keeps)
  related_layer (stm.Divide t o x y) h a =
      one (stm.Divide t o x y) (stm.Divide t o x y)
      (divide_rel setting frame Agree q t t o x x y y (same_in x (for_body needed x (left needed (tree_uses None x) _ a)))
      (same_in y (for_body needed y (right needed (tree_uses None x) _ a))) (writes t))
  related_layer (stm.Check r i) h a = one (stm.Check r i) (stm.Check r i) (check_rel setting frame Agree q r i i (same_in i (for_body needed i a)) keeps)
  related_layer (stm.Read t r i) h a = one (stm.Read t r i) (stm.Read t r i) (read_rel setting frame Agree q t t r i i (same_in i (for_body needed i a)) (writes t))
  related_layer (stm.Write r i v) h a =
      one (stm.Write r i v) (stm.Write r i v)
      (write_rel setting frame Agree q r i i v v (same_in i (for_body needed i (left needed (tree_uses None i) _ a))) (same_in v (for_body needed v (right needed (tree_uses None i) _ a))) keeps)
  related_layer (stm.Zero l) h a = one (stm.Zero l) (stm.Zero l) (zero_rel setting frame Agree q l keeps)
  related_layer (stm.If t x y) h a =
      one (stm.If t x y) (stm.If t (joined (map (needed_stm needed) x)) (joined (map (needed_stm needed) y)))
      (if_rel setting frame Agree q t t (map m x) (map m (joined (map (needed_stm needed) x))) (map m y) (map m (joined (map (needed_stm needed) y)))
      (same_in t (for_body needed t (left needed (tree_uses None t) _ a)))
      (kids x h.0 (left needed (code_uses x) _ (right needed (tree_uses None t) _ a)))
      (kids y h.1 (right needed (code_uses x) _ (right needed (tree_uses None t) _ a))))
  related_layer (stm.Loop b) h a =
      one (stm.Loop b) (stm.Loop (joined (map (needed_stm needed) b)))
      (loop_rel Agree q (in_order (map m b)) (in_order (map m (joined (map (needed_stm needed) b)))) (places_weaker Agree q (in_loop Agree q) _ _ keeps same_under same_under (kids b h a)))
  related_layer (stm.Block b) h a =
      one (stm.Block b) (stm.Block (joined (map (needed_stm needed) b)))
      (block_rel Agree Agree q (in_order (map m b)) (in_order (map m (joined (map (needed_stm needed) b)))) (places_weaker Agree q (in_block Agree q) _ _ keeps same_under same_under (kids b h a)))
  related_layer (stm.Break n) h a = one (stm.Break n) (stm.Break n) (break_rel setting frame Agree q n keeps)
  related_layer (stm.Back n) h a = one (stm.Back n) (stm.Back n) (back_rel setting frame Agree q n keeps)
  related_layer (stm.Call r f args) h a =
      one (stm.Call r f args) (stm.Call r f args)
      (call_rel setting frame Agree q r r f f args args (callee_in f (left needed (trees_uses (callee_trees f)) _ a)) (many_in args (right needed (trees_uses (callee_trees f)) _ a)) (puts r))
  related_layer (stm.Known r k args) h a = one (stm.Known r k args) (stm.Known r k args) (known_rel setting frame Agree q r r k args args (many_in args a) (puts r))
  related_layer (stm.Return v) h a = one (stm.Return v) (stm.Return v) (return_rel setting frame Agree q v v (same_in v (for_body needed v a)))

  pub code_related : (code : List Stm) → Closed needed (code_uses code) → R (map m code) (map m (needed_code needed code))
  code_related code a = kids code (each_left needed (λ s left. Closed needed (stm_uses s) → R (m s ∷ []) (map m left)) (λ x h a. related_layer x h (subst (Closed needed) (stm_uses_roll x) a)) code) a

  pub agree_self : (xs : List ℕ) → Agree xs xs
  agree_self xs = record { long = refl; same = λ t r. refl }

-- ---- bodies

pub needed_keeps : (b : Body) (needed : ℕ → Bool) → IsNeeded needed (code_uses b.code) → KeepsBody b (record b { code = needed_code needed b.code })
needed_keeps b needed h setting frame contents args bound w =
    let start = entry_state contents b args w in
    let all = closed needed (code_uses b.code) (λ t e. h t ∙ e) in
    let r = code_related setting frame needed b.code all bound start start (record { temps = agree_self setting frame needed start.temps; arrays = refl; world = refl }) in
    record { same = end_same (q setting frame needed) _ _ r.outcome; cheaper = r.cheaper }
