-- Folding keeps bodies well formed.
use Rattle.std.proofs.Common.{arith, ◌≡◌, ℕ, zero, suc, ◌+◌, ◌^◌, ◌≤◌, Bool, true, false, cond, ◌&&◌, List, [], ◌∷◌, ◌++◌, length, map, Option, Some, None, refl, sym, ◌∙◌, ap, subst, Contains, nat_lt, nat_eq}
use Rattle.std.proofs.Math.Bool.{and_assoc}
use Rattle.std.proofs.lemmas.Bool.{lt-ltb, ltb-true}
use Rattle.mv_ir.specs.declared.tree.Tree.{Tree}
use Rattle.mv_ir.specs.declared.stm.Array.{Array}
use Rattle.mv_ir.specs.declared.stm.Callee.{Callee}
use Rattle.mv_ir.specs.declared.stm.Callee.TheVariants as callee
use Rattle.mv_ir.specs.declared.stm.Stm.{Stm}
use Rattle.mv_ir.specs.declared.stm.Stm.TheOpen.{Stm-F}
use Rattle.mv_ir.specs.declared.stm.Stm.TheOpen as stm
use Rattle.mv_ir.specs.declared.stm.Stm.TheViews.{roll-Stm}
use Rattle.mv_ir.specs.declared.stm.Stm.TheFolds.{map-Stm}
use Rattle.mv_ir.specs.declared.body.Body.{Body}
use Rattle.mv_ir.specs.Measures.{joined, scalars_read, statements, tree_nodes}
use Rattle.mv_ir.specs.Live.{HasTemps}
use Rattle.mv_ir.specs.WellFormed.{all_true, all_around, layer_targets, stm_targets, callee_named, layer_named, stm_named, named, has_room, is_there, known_arguments, layer_arguments, stm_arguments, IsWellFormed}
use Rattle.mv_ir.proofs.Induction.{Each, StmChildren}
use Rattle.mv_ir.proofs.Rolls.{targets_roll, named_roll, arguments_roll}
use Rattle.mv_ir.proofs.Common.{and_keeps}
use Rattle.mv_ir.proofs.Keeping.{map_append}
use Rattle.mv_ir.proofs.Lists.{joined_append}
use Rattle.mv_ir.specs.Rolled.{temp}
use Rattle.mv_fold.specs.Simple.{constant, simple_tree, jumps, ended, simple_callee, alone, division, choice, simple_layer, simple_stm, simple_code}
use Rattle.mv_fold.specs.Needed.{needed_layer, needed_stm, needed_code}
use Rattle.mv_fold.specs.Shortened.{shortened}
use Rattle.mv_fold.specs.Folded.{simple_body, IsNoGreater}
use Rattle.mv_fold.specs.Opened.{most_levels, leave, from_outside}
use Rattle.mv_fold.proofs.Opening.{Opens, blocked_is, looped_is}
use Rattle.mv_fold.proofs.OpenedTargets.{same_targets}
use Rattle.mv_fold.proofs.Reached.{cons_head, cons_tail}
use Rattle.mv_fold.proofs.SimpleKept.{each_simple}
use Rattle.mv_fold.proofs.NeededEquations.{each_left}
use Rattle.mv_fold.proofs.Shortening.{shortened_is}
use Rattle.mv_num.proofs.Booleans.{and_cases, and_true}
use Rattle.mv_num.proofs.Lists.{length_map}

-- ---- what is asked of code

pub record Facts : Type 0 where
  pub targets : List Bool → Bool
  pub arguments : Bool
  pub named : (Array → Bool) → Bool

pub record Keep (a b : Facts) : Type 0 where
  pub targets : (around : List Bool) → a.targets around ≡ true → b.targets around ≡ true
  pub arguments : a.arguments ≡ true → b.arguments ≡ true
  pub named : (p : Array → Bool) → a.named p ≡ true → b.named p ≡ true

pub keep_refl : (a : Facts) → Keep a a
keep_refl a = record { targets = λ r e. e; arguments = λ e. e; named = λ p e. e }

pub keep_trans : (a b c : Facts) → Keep a b → Keep b c → Keep a c
keep_trans a b c h k = record { targets = λ r e. k.targets r (h.targets r e); arguments = λ e. k.arguments (h.arguments e); named = λ p e. k.named p (h.named p e) }

abbrev pub both : Facts → Facts → Facts
both a b = record { targets = λ r. a.targets r && b.targets r; arguments = a.arguments && b.arguments; named = λ p. a.named p && b.named p }

keep_both : (a a' b b' : Facts) → Keep a a' → Keep b b' → Keep (both a b) (both a' b')
keep_both a a' b b' h k = record {
  targets = λ r. and_keeps (a.targets r) (b.targets r) (a'.targets r) (b'.targets r) (h.targets r) (k.targets r);
  arguments = and_keeps a.arguments b.arguments a'.arguments b'.arguments h.arguments k.arguments;
  named = λ p. and_keeps (a.named p) (b.named p) (a'.named p) (b'.named p) (h.named p) (k.named p);
}

keep_first : (a b : Facts) → Keep (both a b) a
keep_first a b = record {
  targets = λ r e. (and_cases (a.targets r) (b.targets r) e).0;
  arguments = λ e. (and_cases a.arguments b.arguments e).0;
  named = λ p e. (and_cases (a.named p) (b.named p) e).0;
}

keep_second : (a b : Facts) → Keep (both a b) b
keep_second a b = record {
  targets = λ r e. (and_cases (a.targets r) (b.targets r) e).1;
  arguments = λ e. (and_cases a.arguments b.arguments e).1;
  named = λ p e. (and_cases (a.named p) (b.named p) e).1;
}

-- ---- of lists and of statements

abbrev pub facts : List Stm → Facts
facts code = record { targets = all_around (map stm_targets code); arguments = all_true (map stm_arguments code); named = λ p. all_true (map p (named code)) }

around_append : (fs gs : List (List Bool → Bool)) (r : List Bool) → all_around (fs ++ gs) r ≡ (all_around fs r && all_around gs r)
around_append [] gs r = refl
around_append (f ∷ fs) gs r = ap (λ b. f r && b) (around_append fs gs r) ∙ sym (and_assoc (f r) (all_around fs r) (all_around gs r))

true_append : (xs ys : List Bool) → all_true (xs ++ ys) ≡ (all_true xs && all_true ys)
true_append [] ys = refl
true_append (x ∷ xs) ys = ap (λ b. x && b) (true_append xs ys) ∙ sym (and_assoc x (all_true xs) (all_true ys))

arrays_append : (p : Array → Bool) (xs ys : List Array) → all_true (map p (xs ++ ys)) ≡ (all_true (map p xs) && all_true (map p ys))
arrays_append p xs ys = ap all_true (map_append p xs ys) ∙ true_append (map p xs) (map p ys)

named_append : (xs ys : List Stm) → named (xs ++ ys) ≡ named xs ++ named ys
named_append xs ys = ap joined (map_append stm_named xs ys) ∙ joined_append (map stm_named xs) (map stm_named ys)

pub facts_append : (xs ys : List Stm) → facts (xs ++ ys) ≡ both (facts xs) (facts ys)
facts_append xs ys = λ i. record {
  targets = λ r. (ap (λ fs. all_around fs r) (map_append stm_targets xs ys) ∙ around_append (map stm_targets xs) (map stm_targets ys) r) i;
  arguments = (ap all_true (map_append stm_arguments xs ys) ∙ true_append (map stm_arguments xs) (map stm_arguments ys)) i;
  named = λ p. (ap (λ l. all_true (map p l)) (named_append xs ys) ∙ arrays_append p (named xs) (named ys)) i;
}

abbrev pub layer_facts : Stm-F Stm → Facts
layer_facts x = record {
  targets = layer_targets (map-Stm Stm (List Bool → Bool) stm_targets x);
  arguments = layer_arguments (map-Stm Stm Bool stm_arguments x);
  named = λ p. all_true (map p (layer_named (map-Stm Stm (List Array) stm_named x)));
}

pub facts_one : (x : Stm-F Stm) → facts (roll-Stm x ∷ []) ≡ layer_facts x
facts_one x = λ i. record {
  targets = λ r. (and_true (stm_targets (roll-Stm x) r) ∙ ap (λ f. f r) (targets_roll x)) i;
  arguments = (and_true (stm_arguments (roll-Stm x)) ∙ arguments_roll x) i;
  named = λ p. (arrays_append p (stm_named (roll-Stm x)) [] ∙ and_true (all_true (map p (stm_named (roll-Stm x)))) ∙ ap (λ l. all_true (map p l)) (named_roll x)) i;
}

abbrev pub Kept : List Stm → List Stm → Type 0
Kept xs ys = Keep (facts xs) (facts ys)

pub kept_append : (xs xs' ys ys' : List Stm) → Kept xs xs' → Kept ys ys' → Kept (xs ++ ys) (xs' ++ ys')
kept_append xs xs' ys ys' h k =
    subst (λ a. Keep a (facts (xs' ++ ys'))) (sym (facts_append xs ys)) (subst (Keep (both (facts xs) (facts ys))) (sym (facts_append xs' ys')) (keep_both (facts xs) (facts xs') (facts ys) (facts ys') h k))

kept_one : (x y : Stm-F Stm) → Keep (layer_facts x) (layer_facts y) → Kept (roll-Stm x ∷ []) (alone y)
kept_one x y h = subst (λ a. Keep a (facts (alone y))) (sym (facts_one x)) (subst (Keep (layer_facts x)) (sym (facts_one y)) h)

kept_many : (x : Stm-F Stm) (ys : List Stm) → Keep (layer_facts x) (facts ys) → Kept (roll-Stm x ∷ []) ys
kept_many x ys h = subst (λ a. Keep a (facts ys)) (sym (facts_one x)) h

pub kept_nothing : (xs : List Stm) → Kept xs []
kept_nothing xs = record { targets = λ r e. refl; arguments = λ e. refl; named = λ p e. refl }

-- two layers that ask the same
pub alike : (x y : Stm-F Stm) → layer_facts x ≡ layer_facts y → Kept (roll-Stm x ∷ []) (alone y)
alike x y e = kept_one x y (subst (Keep (layer_facts x)) e (keep_refl (layer_facts x)))

pub if_facts : (t : Tree) (a b : List Stm) → layer_facts (stm.If t a b) ≡ both (facts a) (facts b)
if_facts t a b = λ i. record {
  targets = λ r. all_around (map stm_targets a) r && all_around (map stm_targets b) r;
  arguments = all_true (map stm_arguments a) && all_true (map stm_arguments b);
  named = λ p. arrays_append p (named a) (named b) i;
}

pub if_kept : (t t' : Tree) (a a' b b' : List Stm) → Kept a a' → Kept b b' → Kept (roll-Stm (stm.If t a b) ∷ []) (alone (stm.If t' a' b'))
if_kept t t' a a' b b' h k =
    kept_one (stm.If t a b) (stm.If t' a' b')
    (subst (λ f. Keep f (layer_facts (stm.If t' a' b'))) (sym (if_facts t a b))
    (subst (Keep (both (facts a) (facts b))) (sym (if_facts t' a' b')) (keep_both (facts a) (facts a') (facts b) (facts b') h k)))

side_kept : (t : Tree) (a b c : List Stm) → Keep (both (facts a) (facts b)) (facts c) → Kept (roll-Stm (stm.If t a b) ∷ []) c
side_kept t a b c h = kept_many (stm.If t a b) c (subst (λ f. Keep f (facts c)) (sym (if_facts t a b)) h)

pub loop_kept : (b b' : List Stm) → Kept b b' → Kept (roll-Stm (stm.Loop b) ∷ []) (alone (stm.Loop b'))
loop_kept b b' h = kept_one (stm.Loop b) (stm.Loop b') (record { targets = λ r. h.targets (true ∷ r); arguments = h.arguments; named = h.named })

pub block_kept : (b b' : List Stm) → Kept b b' → Kept (roll-Stm (stm.Block b) ∷ []) (alone (stm.Block b'))
block_kept b b' h = kept_one (stm.Block b) (stm.Block b') (record { targets = λ r. h.targets (false ∷ r); arguments = h.arguments; named = h.named })

-- ---- constants computed

abbrev IsKept : Stm → Type 0
IsKept s = Kept (s ∷ []) (simple_stm s)

kids_kept : (b : List Stm) → Each IsKept b → Kept b (joined (map simple_stm b))
kids_kept [] h = keep_refl _
kids_kept (s ∷ b) h = kept_append (s ∷ []) (simple_stm s) b (joined (map simple_stm b)) h.0 (kids_kept b h.1)

cut_kept : (s : Stm) (xs ys : List Stm) (c : Bool) → Kept xs ys → Kept (s ∷ xs) (s ∷ cond c [] ys)
cut_kept s xs ys true h = kept_append (s ∷ []) (s ∷ []) xs [] (keep_refl _) (kept_nothing xs)
cut_kept s xs ys false h = kept_append (s ∷ []) (s ∷ []) xs ys (keep_refl _) h

ended_kept : (xs : List Stm) → Kept xs (ended xs)
ended_kept [] = keep_refl _
ended_kept (s ∷ xs) = cut_kept s xs (ended xs) (jumps s) (ended_kept xs)

code_kept : (b : List Stm) → Each IsKept b → Kept b (simple_code b)
code_kept b h = keep_trans _ _ _ (kids_kept b h) (ended_kept (joined (map simple_stm b)))

division_kept : (c d : Option ℕ) (t o : ℕ) (a b : Tree) → Kept (roll-Stm (stm.Divide t o a b) ∷ []) (division c d t o (simple_tree a) (simple_tree b))
division_kept (Some n) (Some (suc d)) t o a b = alike (stm.Divide t o a b) (stm.Set t _) refl
division_kept (Some n) (Some zero) t o a b = alike (stm.Divide t o a b) (stm.Divide t o (simple_tree a) (simple_tree b)) refl
division_kept (Some n) None t o a b = alike (stm.Divide t o a b) (stm.Divide t o (simple_tree a) (simple_tree b)) refl
division_kept None None t o a b = alike (stm.Divide t o a b) (stm.Divide t o (simple_tree a) (simple_tree b)) refl
division_kept None (Some d) t o a b = alike (stm.Divide t o a b) (stm.Divide t o (simple_tree a) (simple_tree b)) refl

choice_kept : (c : Option ℕ) (t : Tree) (a b : List Stm) → Kept a (simple_code a) → Kept b (simple_code b) → Kept (roll-Stm (stm.If t a b) ∷ []) (choice c (simple_tree t) (simple_code a) (simple_code b))
choice_kept None t a b ha hb = if_kept t (simple_tree t) a (simple_code a) b (simple_code b) ha hb
choice_kept (Some zero) t a b ha hb = side_kept t a b (simple_code b) (keep_trans _ _ _ (keep_second (facts a) (facts b)) hb)
choice_kept (Some (suc n)) t a b ha hb = side_kept t a b (simple_code a) (keep_trans _ _ _ (keep_first (facts a) (facts b)) ha)

same_length : (args : List Tree) → length args ≡ length (map simple_tree args)
same_length args = sym (length_map simple_tree args)

abbrev pub asked : (ℕ → Bool) → ℕ → List Array → Facts
asked b n arrays = record { targets = λ r. true; arguments = b n; named = λ p. all_true (map p arrays) }

pub with_arguments : (x y : Stm-F Stm) (b : ℕ → Bool) (arrays : List Array) (n m : ℕ) → layer_facts x ≡ asked b n arrays → layer_facts y ≡ asked b m arrays → n ≡ m → Kept (roll-Stm x ∷ []) (alone y)
with_arguments x y b arrays n m e f same = alike x y (e ∙ ap (λ k. asked b k arrays) same ∙ sym f)

-- the same pointer switch is named
callee_named_simple : (f : Callee) → callee_named (simple_callee f) ≡ callee_named f
callee_named_simple (callee.Direct f) = refl
callee_named_simple (callee.Through t) = refl
callee_named_simple (callee.Switched g) = refl
callee_named_simple callee.Expanded = refl

-- seen from around a loop or block
abbrev inside : Bool → Facts → Facts
inside loop a = record { targets = λ r. a.targets (loop ∷ r); arguments = a.arguments; named = a.named }

nearer : (n k : ℕ) → nat_lt (suc n) (suc k) ≡ true → nat_lt n k ≡ true
nearer n k e = lt-ltb n k (omega (arith, ltb-true (suc n) (suc k) e))

leave_kept : (loop : Bool) (end : Option ℕ) → Keep (inside loop (facts (leave end))) (facts (leave (from_outside end)))
leave_kept loop None = record { targets = λ r e. refl; arguments = λ e. refl; named = λ p e. refl }
leave_kept loop (Some zero) = record { targets = λ r e. refl; arguments = λ e. refl; named = λ p e. refl }
leave_kept loop (Some (suc n)) =
    subst (λ a. Keep (inside loop a) (facts (leave (Some n)))) (sym (facts_one (stm.Break (suc n)))) (subst (Keep (inside loop (layer_facts (stm.Break (suc n))))) (sym (facts_one (stm.Break n))) (record {
      targets = λ r e. nearer n (length r) e;
      arguments = λ e. e;
      named = λ p e. e;
    }))

front_kept : (loop : Bool) (front : List Stm) → most_levels front ≡ 0 → Keep (inside loop (facts front)) (facts front)
front_kept loop front e = record { targets = λ r h. same_targets front e r (loop ∷ r) ∙ h; arguments = λ h. h; named = λ p h. h }

contents_kept : (loop : Bool) (front : List Stm) (end : Option ℕ) → most_levels front ≡ 0 → Keep (inside loop (facts (front ++ leave end))) (facts (front ++ leave (from_outside end)))
contents_kept loop front end e =
    subst (λ a. Keep (inside loop a) (facts (front ++ leave (from_outside end)))) (sym (facts_append front (leave end)))
    (subst (Keep (both (inside loop (facts front)) (inside loop (facts (leave end))))) (sym (facts_append front (leave (from_outside end))))
    (keep_both (inside loop (facts front)) (facts front) (inside loop (facts (leave end))) (facts (leave (from_outside end))) (front_kept loop front e) (leave_kept loop end)))

open_kept : Opens Kept
open_kept = record {
  same = λ xs. keep_refl (facts xs);
  block = λ front end e. kept_many (stm.Block (front ++ leave end)) (front ++ leave (from_outside end)) (contents_kept false front end e);
  loop = λ front n e. kept_many (stm.Loop (front ++ leave (Some n))) (front ++ leave (from_outside (Some n))) (contents_kept true front (Some n) e);
}

kept_layer : (x : Stm-F Stm) → StmChildren IsKept x → Kept (roll-Stm x ∷ []) (simple_layer (map-Stm Stm (List Stm) simple_stm x))
kept_layer (stm.Set t v) h = alike (stm.Set t v) (stm.Set t (simple_tree v)) refl
kept_layer (stm.SetGlobal g v) h = alike (stm.SetGlobal g v) (stm.SetGlobal g (simple_tree v)) refl
kept_layer (stm.Divide t o a b) h = division_kept (constant (simple_tree a)) (constant (simple_tree b)) t o a b
kept_layer (stm.Check r i) h = alike (stm.Check r i) (stm.Check r (simple_tree i)) refl
kept_layer (stm.Read t r i) h = alike (stm.Read t r i) (stm.Read t r (simple_tree i)) refl
kept_layer (stm.Write r i v) h = alike (stm.Write r i v) (stm.Write r (simple_tree i) (simple_tree v)) refl
kept_layer (stm.Zero l) h = keep_refl _
kept_layer (stm.If t a b) h = choice_kept (constant (simple_tree t)) t a b (code_kept a h.0) (code_kept b h.1)
kept_layer (stm.Loop b) h = keep_trans _ _ _ (loop_kept b (simple_code b) (code_kept b h)) (looped_is Kept open_kept (simple_code b))
kept_layer (stm.Block b) h = keep_trans _ _ _ (block_kept b (simple_code b) (code_kept b h)) (blocked_is Kept open_kept (simple_code b))
kept_layer (stm.Break n) h = keep_refl _
kept_layer (stm.Back n) h = keep_refl _
kept_layer (stm.Call r f args) h = with_arguments (stm.Call r f args) (stm.Call r (simple_callee f) (map simple_tree args)) (λ n. nat_lt n 9) (callee_named f) (length args) (length (map simple_tree args)) refl
    (ap (asked (λ n. nat_lt n 9) (length (map simple_tree args))) (callee_named_simple f)) (same_length args)
kept_layer (stm.Known r k args) h = with_arguments (stm.Known r k args) (stm.Known r k (map simple_tree args)) (λ n. nat_eq n (known_arguments k)) [] (length args) (length (map simple_tree args)) refl refl (same_length args)
kept_layer (stm.Return v) h = alike (stm.Return v) (stm.Return (simple_tree v)) refl

simple_kept : (code : List Stm) → Kept code (simple_code code)
simple_kept code = code_kept code (each_simple (λ s. Kept (s ∷ [])) kept_layer code)

-- ---- without the sets that aren't needed

module _ (needed : ℕ → Bool) where
  abbrev IsLeft : Stm → Type 0
  IsLeft s = Kept (s ∷ []) (needed_stm needed s)

  kids_left : (b : List Stm) → Each IsLeft b → Kept b (needed_code needed b)
  kids_left [] h = keep_refl _
  kids_left (s ∷ b) h = kept_append (s ∷ []) (needed_stm needed s) b (needed_code needed b) h.0 (kids_left b h.1)

  set_left : (t : ℕ) (v : Tree) (c : Bool) → Kept (roll-Stm (stm.Set t v) ∷ []) (cond c (alone (stm.Set t v)) [])
  set_left t v true = keep_refl _
  set_left t v false = kept_nothing (alone (stm.Set t v))

  left_layer : (x : Stm-F Stm) → StmChildren IsLeft x → Kept (roll-Stm x ∷ []) (needed_layer needed (map-Stm Stm (List Stm) (needed_stm needed) x))
  left_layer (stm.Set t v) h = set_left t v (needed t)
  left_layer (stm.SetGlobal g v) h = keep_refl _
  left_layer (stm.Divide t o a b) h = keep_refl _
  left_layer (stm.Check r i) h = keep_refl _
  left_layer (stm.Read t r i) h = keep_refl _
  left_layer (stm.Write r i v) h = keep_refl _
  left_layer (stm.Zero l) h = keep_refl _
  left_layer (stm.If t a b) h = if_kept t t a (needed_code needed a) b (needed_code needed b) (kids_left a h.0) (kids_left b h.1)
  left_layer (stm.Loop b) h = loop_kept b (needed_code needed b) (kids_left b h)
  left_layer (stm.Block b) h = block_kept b (needed_code needed b) (kids_left b h)
  left_layer (stm.Break n) h = keep_refl _
  left_layer (stm.Back n) h = keep_refl _
  left_layer (stm.Call r f args) h = keep_refl _
  left_layer (stm.Known r k args) h = keep_refl _
  left_layer (stm.Return v) h = keep_refl _

  needed_kept : (code : List Stm) → Kept code (needed_code needed code)
  needed_kept code = kids_left code (each_left needed (λ s. Kept (s ∷ [])) left_layer code)

-- ---- its end shortened

pair_kept : (x y z : Stm-F Stm) → layer_facts y ≡ layer_facts z → Kept (roll-Stm x ∷ roll-Stm y ∷ []) (alone z)
pair_kept x y z e =
    let a = facts (roll-Stm x ∷ []) in
    let b = facts (roll-Stm y ∷ []) in
    subst (λ f. Keep f (facts (alone z))) (sym (facts_append (roll-Stm x ∷ []) (roll-Stm y ∷ []))) (keep_trans (both a b) b (facts (alone z)) (keep_second a b) (alike y z e))

short_kept : (temps : ℕ) (code : List Stm) → Kept code (shortened temps code)
short_kept temps = shortened_is temps Kept (record {
  same = λ xs. keep_refl _;
  both = λ xs ys zs. keep_trans (facts xs) (facts ys) (facts zs);
  behind = λ s xs ys h. kept_append (s ∷ []) (s ∷ []) xs ys (keep_refl _) h;
  leave = λ n. kept_nothing (alone (stm.Break n));
  unread = λ t v. kept_nothing (alone (stm.Set t v));
  stored = λ t g v lt. pair_kept (stm.Set t v) (stm.SetGlobal g (temp t)) (stm.SetGlobal g v) refl;
  returned = λ t v lt. pair_kept (stm.Set t v) (stm.Return (temp t)) (stm.Return v) refl;
})

-- ---- bodies

true_of : (p : ℕ → Bool) (xs : List ℕ) → all_true (map p xs) ≡ true → (y : ℕ) → Contains xs y → p y ≡ true
true_of p [] h y (k, lt, e) = absurd (omega (arith, lt))
true_of p (x ∷ xs) h y (zero, lt, e) = subst (λ n. p n ≡ true) e (and_cases (p x) (all_true (map p xs)) h).0
true_of p (x ∷ xs) h y (suc k, lt, e) = true_of p xs (and_cases (p x) (all_true (map p xs)) h).1 y (k, omega (arith, lt), e)

true_all : (p : ℕ → Bool) (ys : List ℕ) → ((y : ℕ) → Contains ys y → p y ≡ true) → all_true (map p ys) ≡ true
true_all p [] h = refl
true_all p (y ∷ ys) h = ap (λ b. b && all_true (map p ys)) (h y (cons_head y ys y refl)) ∙ true_all p ys (λ z c. h z (cons_tail y ys z c))

-- code in which no jump loses its target, no name its room and no call its arguments, that reads no other globals, and isn't too large
pub kept_well_formed : (b : Body) (temps : ℕ) (code : List Stm) → Kept b.code code → HasTemps (record b { temps = temps; code = code }) →
    ((g : ℕ) → Contains (scalars_read code) g → Contains (scalars_read b.code) g) → statements code + tree_nodes code ≤ 2 ^ 30 →
    IsWellFormed b → IsWellFormed (record b { temps = temps; code = code })
kept_well_formed b temps code kept has scalars size w =
    record {
      temps = has;
      params = w.params;
      targets = kept.targets (false ∷ []) w.targets;
      named = kept.named (is_there b.rooms b.arrays) w.named;
      read = true_all (has_room b.rooms) _ (λ g c. true_of (has_room b.rooms) _ w.read g (scalars g c));
      arguments = kept.arguments w.arguments;
      size = size;
    }

-- the same where there is no more of all that is counted
pub code_well_formed : (b : Body) (code : List Stm) → Kept b.code code → (HasTemps b → HasTemps (record b { code = code })) → IsNoGreater b.code code → IsWellFormed b → IsWellFormed (record b { code = code })
code_well_formed b code kept temps less w =
    kept_well_formed b b.temps code kept (temps w.temps) less.scalars (omega (arith, w.size, less.statements, less.tree_nodes)) w

pub folded_well_formed : (b : Body) (needed : ℕ → Bool) → (HasTemps b → HasTemps (record b { code = needed_code needed (simple_body b.temps b.code) })) → IsNoGreater b.code (needed_code needed (simple_body b.temps b.code)) →
    IsWellFormed b → IsWellFormed (record b { code = needed_code needed (simple_body b.temps b.code) })
folded_well_formed b needed temps less =
    let simple = simple_code b.code in
    let short = simple_body b.temps b.code in
    let code = needed_code needed short in
    let shorter = keep_trans (facts b.code) (facts simple) (facts short) (simple_kept b.code) (short_kept b.temps simple) in
    let kept = keep_trans (facts b.code) (facts short) (facts code) shorter (needed_kept needed short) in
    code_well_formed b code kept temps less
