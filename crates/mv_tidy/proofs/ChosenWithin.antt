-- Choices that are put together make no count greater, and keep bodies well formed.
use Rattle.std.proofs.Common.{arith, ◌≡◌, ℕ, ◌+◌, Bool, true, false, ◌&&◌, ◌||◌, cond, eqb, List, [], ◌∷◌, ◌++◌, refl, sym, ◌∙◌, ap, subst}
use Rattle.std.proofs.lemmas.Bool.{and_from}
use Rattle.std.proofs.lemmas.List.{append_assoc}
use Rattle.std.proofs.lemmas.List.Elements.{Contains-append_left, Contains-append_right}
use Rattle.mv_num.proofs.Booleans.{and_cases, from_falsity}
use Rattle.mv_ir.specs.declared.tree.Tree.{Tree}
use Rattle.mv_ir.specs.declared.stm.Array.{Array}
use Rattle.mv_ir.specs.declared.stm.Stm.{Stm, out-Stm}
use Rattle.mv_ir.specs.declared.stm.Stm.TheOpen.{Stm-F}
use Rattle.mv_ir.specs.declared.stm.Stm.TheOpen as stm
use Rattle.mv_ir.specs.declared.stm.Stm.TheViews.{roll-Stm, roll-out-Stm}
use Rattle.mv_ir.specs.declared.body.Body.{Body}
use Rattle.mv_ir.specs.Operators as operator
use Rattle.mv_ir.specs.Live.{HasTemps, nowhere}
use Rattle.mv_ir.specs.Rolled.{number, temp, unary, binary, set, choose}
use Rattle.mv_ir.specs.WellFormed.{IsWellFormed}
use Rattle.mv_fold.specs.Folded.{IsNoGreater}
use Rattle.mv_fold.proofs.Within.{Among, among_both, among_left, among_right, none_among, Amount, Less, less_refl, less_trans, with, less_with, less_nothing, bare, nothing, amount, amount_append, amount_one, Within, no_greater}
use Rattle.mv_fold.proofs.FoldedWithin.{of_tree, chooser, amount_choice, if_within}
use Rattle.mv_fold.proofs.WellFormed.{Facts, Keep, keep_refl, both, facts, facts_append, facts_one, if_facts, Kept, if_kept, code_well_formed}
use Rattle.mv_plain.proofs.PlainKept.{unary_part, left_part}
use Rattle.mv_tidy.specs.Choosing.{layer_jumps_only, is_jump, is_nothing, taken, sides, Attached, apart, denied, unequal, equal, pushed, jumped, Chosen}
use Rattle.mv_tidy.proofs.Structure.{IsCongruence, chosen_is}
use Rattle.mv_tidy.proofs.Measures.{within_parts, kept_parts}

-- ---- by steps

-- one of some code in place of them: nothing, or one jump
abbrev Short : List Stm → Type 0
Short xs = (is_nothing xs || is_jump xs) ≡ true

-- the code of two choices, and what the first of them becomes
abbrev choices_of : Tree → List Stm → List Stm → Tree → ℕ → ℕ → (x y : List Stm) → List Stm
choices_of c a b e t n x y = choose c (a ++ set t e ∷ []) (b ++ set t (number n) ∷ []) ∷ choose (temp t) x y ∷ []

-- A relation that is kept where the sides of a choice change places, where what it asks is less, and by each of two choices that becomes one.
record IsMerging (Q : List Stm → List Stm → Type 0) : Type 1 where
  parts : IsCongruence Q
  turned : (c : Tree) (a b : List Stm) → Q (choose c a b ∷ []) (choose c b a ∷ [])
  asks : (k k' : Tree) (x y : List Stm) → Less (of_tree k') (of_tree k) → Q (choose k x y ∷ []) (choose k' x y ∷ [])
  push : (c e : Tree) (a b x y : List Stm) (t n : ℕ) → Short (taken n x y) →
      Q (choices_of c a b e t n x y) (choose c (a ++ choose e x y ∷ []) (b ++ taken n x y) ∷ [])
  jump : (c e : Tree) (a b x y : List Stm) (t n : ℕ) →
      Q (choices_of c a b e t n x y) (choose c (a ++ choose e (cond (eqb n 0) x []) (cond (eqb n 0) [] y) ∷ []) b ∷ taken n x y)

module _ (Q : List Stm → List Stm → Type 0) (q : IsMerging Q) where
  abbrev p : IsCongruence Q
  p = q.parts

  behind : (first xs ys : List Stm) → Q xs ys → Q (first ++ xs) (first ++ ys)
  behind first xs ys h = p.both first first xs ys (p.itself first) h

  -- the condition that is asked in place of another, and its sides in the order of that
  asked : (k k' : Tree) (first x y z : List Stm) → Less (of_tree k') (of_tree k) → Q (first ++ choose k' x y ∷ []) z → Q (first ++ choose k x y ∷ []) z
  asked k k' first x y z less h = p.trans _ (first ++ choose k' x y ∷ []) z (behind first _ _ (q.asks k k' x y less)) h

  other : (k : Tree) (first x y z : List Stm) → Q (first ++ choose k y x ∷ []) z → Q (first ++ choose k x y ∷ []) z
  other k first x y z h = p.trans _ (first ++ choose k y x ∷ []) z (behind first _ _ (q.turned k x y)) h

  -- sides in their order, and so in the other
  in_order : (turned : Bool) (c : Tree) (a b : List Stm) → Q (sides turned c a b ∷ []) (choose c a b ∷ [])
  in_order true c a b = q.turned c b a
  in_order false c a b = p.itself _

  from_order : (turned : Bool) (c : Tree) (a b : List Stm) → Q (choose c a b ∷ []) (sides turned c a b ∷ [])
  from_order true c a b = q.turned c a b
  from_order false c a b = p.itself _

  -- two choices that stand behind some code, where the first side of the one that they become becomes something else
  merged : (turned : Bool) (first a b : List Stm) (c e : Tree) (t n : ℕ) (x y d z l rest : List Stm) →
      Q (choices_of c a b e t n x y) (choose c d l ∷ rest) → Q d z →
      Q ((first ++ sides turned c (a ++ set t e ∷ []) (b ++ set t (number n) ∷ []) ∷ []) ++ choose (temp t) x y ∷ []) (first ++ sides turned c z l ∷ rest)
  merged turned first a b c e t n x y d z l rest h k =
      let s = a ++ set t e ∷ [] in
      let u = b ++ set t (number n) ∷ [] in
      let next = choose (temp t) x y ∷ [] in
      subst (λ xs. Q xs (first ++ sides turned c z l ∷ rest)) (sym (append_assoc first (sides turned c s u ∷ []) next))
      (behind first _ _
      (p.trans _ (choices_of c a b e t n x y) _ (p.both _ (choose c s u ∷ []) next next (in_order turned c s u) (p.itself next))
      (p.trans _ (choose c d l ∷ rest) _ h
      (p.both (choose c d l ∷ []) (sides turned c z l ∷ []) rest rest
      (p.trans _ (choose c z l ∷ []) _ (p.branch c d z l l k (p.itself l)) (from_order turned c z l)) (p.itself rest)))))

  attach : (gone : ℕ → Type 0) (first : List Stm) (k : Tree) (x y z : List Stm) → Attached gone first k x y z → Q (first ++ choose k x y ∷ []) z
  attach gone first k x y z (apart f c a b) = p.itself _
  attach gone first k x y z (denied f c a b w h) = asked (unary operator.logical_not c) c f a b w (unary_part operator.logical_not c) (other c f a b w (attach gone f c b a w h))
  attach gone first k x y z (unequal f c a b w h) =
      asked (binary operator.not_equal c (number 0)) c f a b w (left_part operator.not_equal c (number 0)) (attach gone f c a b w h)
  attach gone first k x y z (equal f c a b w h) =
      asked (binary operator.equal c (number 0)) c f a b w (left_part operator.equal c (number 0)) (other c f a b w (attach gone f c b a w h))
  attach gone first k x y z (pushed turned f a b c e t n u v w g short h) =
      merged turned f a b c e t n u v (a ++ choose e u v ∷ []) w (b ++ taken n u v) [] (q.push c e a b u v t n short) (attach gone a e u v w h)
  attach gone first k x y z (jumped turned f a b c e t n u v w g is h) =
      let u' = cond (eqb n 0) u [] in
      let v' = cond (eqb n 0) [] v in
      merged turned f a b c e t n u v (a ++ choose e u' v' ∷ []) w b (taken n u v) (q.jump c e a b u v t n) (attach gone a e u' v' w h)

  merged_is : (temps : ℕ) (code result : List Stm) → Chosen temps (λ t. nowhere) code result → Q code result
  merged_is temps code result = chosen_is temps Q p attach (λ t. nowhere) code result

-- ---- counts

abbrev pub setting : Tree → Amount
setting e = record { nodes = (of_tree e).nodes + 0; depth = (with (of_tree e) nothing).depth; reads = (of_tree e).reads ++ []; statements = 1; calls = 0; arrays = [] }

pub amount_set : (t : ℕ) (e : Tree) → amount (set t e ∷ []) ≡ setting e
amount_set t e = amount_one (stm.Set t e)

jump_less : (s : Stm) → layer_jumps_only (out-Stm s) ≡ true → Less (amount (s ∷ [])) bare
jump_less s h = subst (λ u. Less (amount (u ∷ [])) bare) (roll-out-Stm s) (by (out-Stm s) h)
  where
    by : (x : Stm-F Stm) → layer_jumps_only x ≡ true → Less (amount (roll-Stm x ∷ [])) bare
    by (stm.Break n) e = subst (λ a. Less a bare) (sym (amount_one (stm.Break n))) (less_refl bare)
    by (stm.Back n) e = subst (λ a. Less a bare) (sym (amount_one (stm.Back n))) (less_refl bare)
    by (stm.Set t v) e = from_falsity e
    by (stm.SetGlobal g v) e = from_falsity e
    by (stm.Divide t o a b) e = from_falsity e
    by (stm.Check a i) e = from_falsity e
    by (stm.Read t a i) e = from_falsity e
    by (stm.Write a i v) e = from_falsity e
    by (stm.Zero l) e = from_falsity e
    by (stm.If t a b) e = from_falsity e
    by (stm.Loop b) e = from_falsity e
    by (stm.Block b) e = from_falsity e
    by (stm.Call r f args) e = from_falsity e
    by (stm.Known r k args) e = from_falsity e
    by (stm.Return v) e = from_falsity e

short_less : (xs : List Stm) → Short xs → Less (amount xs) bare
short_less [] h = less_nothing bare
short_less (s ∷ []) h = jump_less s h
short_less (s ∷ u ∷ xs) h = from_falsity h

-- what is read in two choices, and in their parts
module _ (c a e b n k x y : List ℕ) where
  abbrev read : List ℕ
  read = (c ++ ((a ++ e) ++ (b ++ n))) ++ (k ++ (x ++ y))

  of_first : (xs : List ℕ) → Among xs ((a ++ e) ++ (b ++ n)) → Among xs read
  of_first xs h = among_left xs (c ++ ((a ++ e) ++ (b ++ n))) (k ++ (x ++ y)) (among_right xs c ((a ++ e) ++ (b ++ n)) h)

  c_read : Among c read
  c_read = among_left c (c ++ ((a ++ e) ++ (b ++ n))) (k ++ (x ++ y)) (among_left c c ((a ++ e) ++ (b ++ n)) (λ g d. d))

  a_read : Among a read
  a_read = of_first a (among_left a (a ++ e) (b ++ n) (among_left a a e (λ g d. d)))

  e_read : Among e read
  e_read = of_first e (among_left e (a ++ e) (b ++ n) (among_right e a e (λ g d. d)))

  second_read : Among (b ++ n) read
  second_read = of_first (b ++ n) (among_right (b ++ n) (a ++ e) (b ++ n) (λ g d. d))

  b_read : Among b read
  b_read g d = second_read g (Contains-append_left b n g d)

  sides_read : Among (x ++ y) read
  sides_read = among_right (x ++ y) (c ++ ((a ++ e) ++ (b ++ n))) (k ++ (x ++ y)) (among_right (x ++ y) k (x ++ y) (λ g d. d))

  x_read : Among x read
  x_read g d = sides_read g (Contains-append_left x y g d)

  y_read : Among y read
  y_read g d = sides_read g (Contains-append_right x y g d)

  pushed_read : Among (c ++ ((a ++ (e ++ (x ++ y))) ++ (b ++ n))) read
  pushed_read =
      among_both c ((a ++ (e ++ (x ++ y))) ++ (b ++ n)) read c_read (among_both (a ++ (e ++ (x ++ y))) (b ++ n) read
      (among_both a (e ++ (x ++ y)) read a_read (among_both e (x ++ y) read e_read sides_read)) second_read)

  jumped_read : (u v w : List ℕ) → Among u read → Among v read → Among w read → Among ((c ++ ((a ++ (e ++ (u ++ v))) ++ b)) ++ w) read
  jumped_read u v w hu hv hw =
      among_both (c ++ ((a ++ (e ++ (u ++ v))) ++ b)) w read (among_both c ((a ++ (e ++ (u ++ v))) ++ b) read c_read (among_both (a ++ (e ++ (u ++ v))) b read
      (among_both a (e ++ (u ++ v)) read a_read (among_both e (u ++ v) read e_read (among_both u v read hu hv))) b_read)) hw

-- two choices as one, by what is in their parts
module _ (c a e b n k x y : Amount) where
  abbrev two : Amount
  two = with (with c (with (with a e) (with b n))) (with k (with x y))

  pushed_less : Less (with c (with (with a (with e (with x y))) (with b n))) two
  pushed_less = record {
    nodes = omega arith;
    depth = omega arith;
    reads = pushed_read c.reads a.reads e.reads b.reads n.reads k.reads x.reads y.reads;
    statements = omega arith;
    calls = omega arith;
    arrays = pushed_read c.arrays a.arrays e.arrays b.arrays n.arrays k.arrays x.arrays y.arrays;
  }

  first_less : Less (with (with c (with (with a (with e (with x nothing))) b)) y) two
  first_less = record {
    nodes = omega arith;
    depth = omega arith;
    reads = by c.reads a.reads e.reads b.reads n.reads k.reads x.reads y.reads;
    statements = omega arith;
    calls = omega arith;
    arrays = by c.arrays a.arrays e.arrays b.arrays n.arrays k.arrays x.arrays y.arrays;
  }
    where
      by : (c a e b n k x y : List ℕ) → Among ((c ++ ((a ++ (e ++ (x ++ []))) ++ b)) ++ y) (read c a e b n k x y)
      by c a e b n k x y =
          jumped_read c a e b n k x y x [] y (x_read c a e b n k x y) (none_among (read c a e b n k x y)) (y_read c a e b n k x y)

  second_less : Less (with (with c (with (with a (with e (with nothing y))) b)) x) two
  second_less = record {
    nodes = omega arith;
    depth = omega arith;
    reads = by c.reads a.reads e.reads b.reads n.reads k.reads x.reads y.reads;
    statements = omega arith;
    calls = omega arith;
    arrays = by c.arrays a.arrays e.arrays b.arrays n.arrays k.arrays x.arrays y.arrays;
  }
    where
      by : (c a e b n k x y : List ℕ) → Among ((c ++ ((a ++ (e ++ ([] ++ y))) ++ b)) ++ x) (read c a e b n k x y)
      by c a e b n k x y =
          jumped_read c a e b n k x y [] y x (none_among (read c a e b n k x y)) (y_read c a e b n k x y) (x_read c a e b n k x y)

-- what is asked in place of what is set
asked_less : (e : Tree) → Less (chooser e) (setting e)
asked_less e = record {
  nodes = omega arith;
  depth = omega arith;
  reads = among_left (of_tree e).reads (of_tree e).reads [] (λ g c. c);
  statements = omega arith;
  calls = omega arith;
  arrays = none_among [];
}

going_less : (e : Tree) → Less bare (setting e)
going_less e = record { nodes = omega arith; depth = omega arith; reads = none_among (setting e).reads; statements = omega arith; calls = omega arith; arrays = none_among [] }

module _ (c e : Tree) (a b x y : List Stm) (t n : ℕ) where
  abbrev given : Amount
  given = two (chooser c) (amount a) (setting e) (amount b) (setting (number n)) (chooser (temp t)) (amount x) (amount y)

  piece_amount : amount (choices_of c a b e t n x y) ≡ given
  piece_amount =
      amount_append (choose c (a ++ set t e ∷ []) (b ++ set t (number n) ∷ []) ∷ []) (choose (temp t) x y ∷ []) ∙
      ap (λ m. with m (amount (choose (temp t) x y ∷ [])))
      (amount_choice c (a ++ set t e ∷ []) (b ++ set t (number n) ∷ []) ∙
      ap (λ m. with (chooser c) (with m (amount (b ++ set t (number n) ∷ [])))) (amount_append a (set t e ∷ []) ∙ ap (with (amount a)) (amount_set t e)) ∙
      ap (λ m. with (chooser c) (with (with (amount a) (setting e)) m)) (amount_append b (set t (number n) ∷ []) ∙ ap (with (amount b)) (amount_set t (number n)))) ∙
      ap (with (with (chooser c) (with (with (amount a) (setting e)) (with (amount b) (setting (number n)))))) (amount_choice (temp t) x y)

  -- the first side of what they become
  side_amount : (u v : List Stm) → amount (a ++ choose e u v ∷ []) ≡ with (amount a) (with (chooser e) (with (amount u) (amount v)))
  side_amount u v = amount_append a (choose e u v ∷ []) ∙ ap (with (amount a)) (amount_choice e u v)

  push_within : Short (taken n x y) → Within (choices_of c a b e t n x y) (choose c (a ++ choose e x y ∷ []) (b ++ taken n x y) ∷ [])
  push_within short =
      subst (Less (amount (choose c (a ++ choose e x y ∷ []) (b ++ taken n x y) ∷ []))) (sym piece_amount)
      (subst (λ m. Less m given) (sym (amount_choice c (a ++ choose e x y ∷ []) (b ++ taken n x y) ∙
      ap (λ m. with (chooser c) (with m (amount (b ++ taken n x y)))) (side_amount x y) ∙
      ap (λ m. with (chooser c) (with (with (amount a) (with (chooser e) (with (amount x) (amount y)))) m)) (amount_append b (taken n x y))))
      (less_trans _ _ _
      (less_with _ _ _ _ (less_refl (chooser c)) (less_with _ _ _ _
      (less_with _ _ _ _ (less_refl (amount a)) (less_with _ _ _ _ (asked_less e) (less_refl (with (amount x) (amount y)))))
      (less_with _ _ _ _ (less_refl (amount b)) (less_trans _ _ _ (short_less (taken n x y) short) (going_less (number n))))))
      (pushed_less (chooser c) (amount a) (setting e) (amount b) (setting (number n)) (chooser (temp t)) (amount x) (amount y))))

  jump_by : (u v w : List Stm) →
      Less (with (with (chooser c) (with (with (amount a) (with (setting e) (with (amount u) (amount v)))) (amount b))) (amount w)) given →
      Within (choices_of c a b e t n x y) (choose c (a ++ choose e u v ∷ []) b ∷ w)
  jump_by u v w less =
      subst (Less (amount (choose c (a ++ choose e u v ∷ []) b ∷ w))) (sym piece_amount)
      (subst (λ m. Less m given) (sym (amount_append (choose c (a ++ choose e u v ∷ []) b ∷ []) w ∙
      ap (λ m. with m (amount w)) (amount_choice c (a ++ choose e u v ∷ []) b ∙ ap (λ m. with (chooser c) (with m (amount b))) (side_amount u v))))
      (less_trans _ _ _
      (less_with _ _ _ _ (less_with _ _ _ _ (less_refl (chooser c)) (less_with _ _ _ _
      (less_with _ _ _ _ (less_refl (amount a)) (less_with _ _ _ _ (asked_less e) (less_refl (with (amount u) (amount v))))) (less_refl (amount b))))
      (less_refl (amount w))) less))

  jump_within : (zero : Bool) → Within (choices_of c a b e t n x y) (choose c (a ++ choose e (cond zero x []) (cond zero [] y) ∷ []) b ∷ cond zero y x)
  jump_within true = jump_by x [] y (first_less (chooser c) (amount a) (setting e) (amount b) (setting (number n)) (chooser (temp t)) (amount x) (amount y))
  jump_within false = jump_by [] y x (second_less (chooser c) (amount a) (setting e) (amount b) (setting (number n)) (chooser (temp t)) (amount x) (amount y))

turned_less : (a b : Amount) → Less (with b a) (with a b)
turned_less a b = record {
  nodes = omega arith;
  depth = omega arith;
  reads = among_both b.reads a.reads (a.reads ++ b.reads) (λ g c. Contains-append_right a.reads b.reads g c) (λ g c. Contains-append_left a.reads b.reads g c);
  statements = omega arith;
  calls = omega arith;
  arrays = among_both b.arrays a.arrays (a.arrays ++ b.arrays) (λ g c. Contains-append_right a.arrays b.arrays g c) (λ g c. Contains-append_left a.arrays b.arrays g c);
}

turned_within : (c : Tree) (a b : List Stm) → Within (choose c a b ∷ []) (choose c b a ∷ [])
turned_within c a b =
    subst (Less (amount (choose c b a ∷ []))) (sym (amount_choice c a b))
    (subst (λ m. Less m (with (chooser c) (with (amount a) (amount b)))) (sym (amount_choice c b a))
    (less_with _ _ _ _ (less_refl (chooser c)) (turned_less (amount a) (amount b))))

within_merging : IsMerging Within
within_merging = record {
  parts = within_parts;
  turned = turned_within;
  asks = λ k k' x y h. if_within k k' x x y y h (less_refl _) (less_refl _);
  push = push_within;
  jump = λ c e a b x y t n. jump_within c e a b x y t n (eqb n 0);
}

-- ---- what is asked of code

facts_choice : (k : Tree) (x y : List Stm) → facts (choose k x y ∷ []) ≡ both (facts x) (facts y)
facts_choice k x y = facts_one (stm.If k x y) ∙ if_facts k x y

-- what holds of each part of two choices holds of what they become
module _ (a e b n x y t : Bool) (h : (((a && e) && (b && n)) && (x && y)) ≡ true) where
  abbrev choices : (((a && e) && (b && n)) ≡ true) × ((x && y) ≡ true)
  choices = and_cases ((a && e) && (b && n)) (x && y) h

  abbrev ends : ((a && e) ≡ true) × ((b && n) ≡ true)
  ends = and_cases (a && e) (b && n) choices.0

  a_holds : a ≡ true
  a_holds = (and_cases a e ends.0).0

  b_holds : b ≡ true
  b_holds = (and_cases b n ends.1).0

  x_holds : x ≡ true
  x_holds = (and_cases x y choices.1).0

  y_holds : y ≡ true
  y_holds = (and_cases x y choices.1).1

  push_holds : (x ≡ true → y ≡ true → t ≡ true) → ((a && (x && y)) && (b && t)) ≡ true
  push_holds k = and_from (a && (x && y)) (b && t) (and_from a (x && y) a_holds choices.1) (and_from b t b_holds (k x_holds y_holds))

  jump_holds : (u v : Bool) → (x ≡ true → y ≡ true → u ≡ true) → (x ≡ true → y ≡ true → v ≡ true) → (x ≡ true → y ≡ true → t ≡ true) →
      (((a && (u && v)) && b) && t) ≡ true
  jump_holds u v hu hv ht =
      and_from ((a && (u && v)) && b) t (and_from (a && (u && v)) b (and_from a (u && v) a_holds (and_from u v (hu x_holds y_holds) (hv x_holds y_holds))) b_holds) (ht x_holds y_holds)

-- what is asked of two parts is asked of a third
record From (x y t : Facts) : Type 0 where
  targets : (r : List Bool) → x.targets r ≡ true → y.targets r ≡ true → t.targets r ≡ true
  arguments : x.arguments ≡ true → y.arguments ≡ true → t.arguments ≡ true
  named : (p : Array → Bool) → x.named p ≡ true → y.named p ≡ true → t.named p ≡ true

from_first : (x y : Facts) → From x y x
from_first x y = record { targets = λ r h k. h; arguments = λ h k. h; named = λ p h k. h }

from_second : (x y : Facts) → From x y y
from_second x y = record { targets = λ r h k. k; arguments = λ h k. k; named = λ p h k. k }

from_either : (zero : Bool) (x y : List Stm) → From (facts x) (facts y) (facts (cond zero y x))
from_either true x y = from_second (facts x) (facts y)
from_either false x y = from_first (facts x) (facts y)

-- one of them, or nothing
from_none : (x y : Facts) → From x y (facts [])
from_none x y = record { targets = λ r h k. refl; arguments = λ h k. refl; named = λ p h k. refl }

from_left : (zero : Bool) (x y : List Stm) → From (facts x) (facts y) (facts (cond zero x []))
from_left true x y = from_first (facts x) (facts y)
from_left false x y = from_none (facts x) (facts y)

from_right : (zero : Bool) (x y : List Stm) → From (facts x) (facts y) (facts (cond zero [] y))
from_right true x y = from_none (facts x) (facts y)
from_right false x y = from_second (facts x) (facts y)

module _ (a e b n x y t : Facts) where
  abbrev two_facts : Facts
  two_facts = both (both (both a e) (both b n)) (both x y)

  push_keeps : From x y t → Keep two_facts (both (both a (both x y)) (both b t))
  push_keeps f = record {
    targets = λ r h. push_holds (a.targets r) (e.targets r) (b.targets r) (n.targets r) (x.targets r) (y.targets r) (t.targets r) h (f.targets r);
    arguments = λ h. push_holds a.arguments e.arguments b.arguments n.arguments x.arguments y.arguments t.arguments h f.arguments;
    named = λ p h. push_holds (a.named p) (e.named p) (b.named p) (n.named p) (x.named p) (y.named p) (t.named p) h (f.named p);
  }

  jump_keeps : (u v : Facts) → From x y u → From x y v → From x y t → Keep two_facts (both (both (both a (both u v)) b) t)
  jump_keeps u v hu hv ht = record {
    targets = λ r h. jump_holds (a.targets r) (e.targets r) (b.targets r) (n.targets r) (x.targets r) (y.targets r) (t.targets r) h (u.targets r) (v.targets r)
        (hu.targets r) (hv.targets r) (ht.targets r);
    arguments = λ h. jump_holds a.arguments e.arguments b.arguments n.arguments x.arguments y.arguments t.arguments h u.arguments v.arguments
        hu.arguments hv.arguments ht.arguments;
    named = λ p h. jump_holds (a.named p) (e.named p) (b.named p) (n.named p) (x.named p) (y.named p) (t.named p) h (u.named p) (v.named p)
        (hu.named p) (hv.named p) (ht.named p);
  }

module _ (c e : Tree) (a b x y : List Stm) (t n : ℕ) where
  abbrev sets_value : Facts
  sets_value = facts (set t e ∷ [])

  abbrev sets_number : Facts
  sets_number = facts (set t (number n) ∷ [])

  abbrev given_facts : Facts
  given_facts = both (both (both (facts a) sets_value) (both (facts b) sets_number)) (both (facts x) (facts y))

  piece_facts : facts (choices_of c a b e t n x y) ≡ given_facts
  piece_facts =
      facts_append (choose c (a ++ set t e ∷ []) (b ++ set t (number n) ∷ []) ∷ []) (choose (temp t) x y ∷ []) ∙
      ap (λ m. both m (facts (choose (temp t) x y ∷ [])))
      (facts_choice c (a ++ set t e ∷ []) (b ++ set t (number n) ∷ []) ∙
      ap (λ m. both m (facts (b ++ set t (number n) ∷ []))) (facts_append a (set t e ∷ [])) ∙
      ap (both (both (facts a) sets_value)) (facts_append b (set t (number n) ∷ []))) ∙
      ap (both (both (both (facts a) sets_value) (both (facts b) sets_number))) (facts_choice (temp t) x y)

  side_facts : (u v : List Stm) → facts (a ++ choose e u v ∷ []) ≡ both (facts a) (both (facts u) (facts v))
  side_facts u v = facts_append a (choose e u v ∷ []) ∙ ap (both (facts a)) (facts_choice e u v)

  push_kept : Short (taken n x y) → Kept (choices_of c a b e t n x y) (choose c (a ++ choose e x y ∷ []) (b ++ taken n x y) ∷ [])
  push_kept short =
      subst (λ m. Keep m (facts (choose c (a ++ choose e x y ∷ []) (b ++ taken n x y) ∷ []))) (sym piece_facts)
      (subst (Keep given_facts) (sym (facts_choice c (a ++ choose e x y ∷ []) (b ++ taken n x y) ∙
      ap (λ m. both m (facts (b ++ taken n x y))) (side_facts x y) ∙
      ap (both (both (facts a) (both (facts x) (facts y)))) (facts_append b (taken n x y))))
      (push_keeps (facts a) sets_value (facts b) sets_number (facts x) (facts y) (facts (taken n x y)) (from_either (eqb n 0) x y)))

  jump_kept : Kept (choices_of c a b e t n x y) (choose c (a ++ choose e (cond (eqb n 0) x []) (cond (eqb n 0) [] y) ∷ []) b ∷ taken n x y)
  jump_kept =
      let u = cond (eqb n 0) x [] in
      let v = cond (eqb n 0) [] y in
      let w = taken n x y in
      subst (λ m. Keep m (facts (choose c (a ++ choose e u v ∷ []) b ∷ w))) (sym piece_facts)
      (subst (Keep given_facts) (sym (facts_append (choose c (a ++ choose e u v ∷ []) b ∷ []) w ∙
      ap (λ m. both m (facts w)) (facts_choice c (a ++ choose e u v ∷ []) b ∙ ap (λ m. both m (facts b)) (side_facts u v))))
      (jump_keeps (facts a) sets_value (facts b) sets_number (facts x) (facts y) (facts w) (facts u) (facts v)
      (from_left (eqb n 0) x y) (from_right (eqb n 0) x y) (from_either (eqb n 0) x y)))

turned_holds : (a b : Bool) → (a && b) ≡ true → (b && a) ≡ true
turned_holds a b h = let parts = and_cases a b h in and_from b a parts.1 parts.0

turned_keeps : (a b : Facts) → Keep (both a b) (both b a)
turned_keeps a b = record {
  targets = λ r. turned_holds (a.targets r) (b.targets r);
  arguments = turned_holds a.arguments b.arguments;
  named = λ p. turned_holds (a.named p) (b.named p);
}

turned_kept : (c : Tree) (a b : List Stm) → Kept (choose c a b ∷ []) (choose c b a ∷ [])
turned_kept c a b =
    subst (λ m. Keep m (facts (choose c b a ∷ []))) (sym (facts_choice c a b))
    (subst (Keep (both (facts a) (facts b))) (sym (facts_choice c b a)) (turned_keeps (facts a) (facts b)))

kept_merging : IsMerging Kept
kept_merging = record {
  parts = kept_parts;
  turned = turned_kept;
  asks = λ k k' x y h. if_kept k k' x x y y (keep_refl _) (keep_refl _);
  push = push_kept;
  jump = jump_kept;
}

-- ---- bodies

module _ (b : Body) (code : List Stm) (k : Chosen b.temps (λ t. nowhere) b.code code) where
  pub chosen_no_greater : IsNoGreater b.code code
  chosen_no_greater = no_greater b.code code (merged_is Within within_merging b.temps b.code code k)

  pub chosen_well_formed : (HasTemps b → HasTemps (record b { code = code })) → IsWellFormed b → IsWellFormed (record b { code = code })
  chosen_well_formed temps = code_well_formed b code (merged_is Kept kept_merging b.temps b.code code k) temps chosen_no_greater
