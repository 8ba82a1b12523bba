-- The source's operators put at most two nodes on their operands, and read no more than these.
use Rattle.std.proofs.Common.{◌≡◌, ℕ, ◌+◌, ◌<◌, ◌≤◌, Bool, true, false, cond, List, [], ◌∷◌, arith}
use Rattle.std.specs.Prelude.{nat_eq, nat_lt}
use Rattle.mv_ir.specs.declared.tree.Tree.{Tree}
use Rattle.mv_ir.specs.declared.tree.Tree.TheOpen as tree
use Rattle.mv_ir.specs.declared.stm.Stm.{Stm}
use Rattle.mv_ir.specs.Trees.{depth}
use Rattle.mv_ir.proofs.Rolls.{depth_roll}
use Rattle.std.proofs.lemmas.Bool.{le-leb}
use Rattle.mv_ast.specs.declared.program.CType.{CType}
use Rattle.mv_ast.specs.declared.program.CType.TheVariants.{Void, Scalar, Pointer}
use Rattle.mv_ast.specs.Operators.{is_unsigned}
use Rattle.mv_lower_spec.specs.Lowered.{Lowering, number, temp, global, unary, binary, is_low, lower_one, lower_division}
use Rattle.mv_lower_spec.specs.Lower.{unary_tree, converted_tree, less_tree, bit_tree, quotient_number, remainder_number, lower_operator, lower_product, lower_binary, lower_changed, next_tree}
use Rattle.mv_lower_spec.proofs.OfShape.Rules.{Allowed, Rules, Covers}
use Rattle.mv_lower_spec.proofs.OfShape.Plain.{covers_unary, covers_narrowed, covers_binary, covers_number, covers_none, covers_self, covers_then, covers_before, covers_swap}
use Rattle.mv_lower_spec.proofs.OfShape.Given as given
use Rattle.mv_lower_spec.proofs.OfShape.Given.{OnOne, OnTwo}

covers_more : (ts us : List Tree) (m n : ℕ) → m ≤ n → Covers ts us m → Covers ts us n
covers_more ts us m n le h = record { temps = h.temps; scalars = h.scalars; nodes = omega (arith, h.nodes, le) }

covers_if : (ts : List Tree) (m : ℕ) (z : Bool) (x y : Tree) → Covers ts (x ∷ []) m → Covers ts (y ∷ []) m → Covers ts (cond z x y ∷ []) m
covers_if ts m true x y h k = h
covers_if ts m false x y h k = k

-- an operator with a constant
constant_too : (o : ℕ) (x : Tree) (v : ℕ) → Covers (x ∷ []) (binary o x (number v) ∷ []) 2
constant_too o x v =
    covers_then (x ∷ []) (number v ∷ x ∷ []) (binary o x (number v) ∷ []) 1 1 (covers_before [] (number v ∷ []) (x ∷ []) 1 (covers_number v))
    (covers_then (number v ∷ x ∷ []) (x ∷ number v ∷ []) (binary o x (number v) ∷ []) 0 1 (covers_swap (number v ∷ []) (x ∷ [])) (covers_binary o x (number v)))

pub on_unary : (op : ℕ) → OnOne (unary_tree op)
on_unary op x =
    covers_if (x ∷ []) 2 (nat_eq op 10) _ _ (constant_too 5 x 4294967295)
    (covers_if (x ∷ []) 2 (nat_eq op 11) _ _ (covers_more (x ∷ []) (unary 2 x ∷ []) 1 2 (omega arith) (covers_unary 2 x))
    (covers_if (x ∷ []) 2 (nat_eq op 13) _ _ (covers_more (x ∷ []) (unary 0 x ∷ []) 1 2 (omega arith) (covers_unary 0 x))
    (covers_more (x ∷ []) (x ∷ []) 0 2 (omega arith) (covers_self (x ∷ [])))))

pub converted_once : (t : CType) (x : Tree) → Covers (x ∷ []) (converted_tree t x ∷ []) 1
converted_once Void x = covers_then (x ∷ []) [] (number 0 ∷ []) 0 1 (covers_none (x ∷ [])) (covers_number 0)
converted_once (Scalar kind) x = covers_narrowed kind x
converted_once (Pointer signature) x = covers_more (x ∷ []) (x ∷ []) 0 1 (omega arith) (covers_self (x ∷ []))

pub on_converted : (t : CType) → OnOne (converted_tree t)
on_converted t x = covers_more (x ∷ []) (converted_tree t x ∷ []) 1 2 (omega arith) (converted_once t x)

-- one more or one less
pub on_next : (up : Bool) (t : CType) (n : ℕ) → Covers (temp n ∷ []) (next_tree up t (temp n) ∷ []) 3
on_next up t n =
    let x = binary (cond up 0 1) (temp n) (number 1) in
    covers_then (temp n ∷ []) (x ∷ []) (converted_tree t x ∷ []) 2 1 (constant_too (cond up 0 1) (temp n) 1) (converted_once t x)

less : (t : CType) (x y : Tree) → Covers (x ∷ y ∷ []) (less_tree t x y ∷ []) 1
less t x y = covers_if (x ∷ y ∷ []) 1 (is_unsigned t) (binary 10 x y) (binary 9 x y) (covers_binary 10 x y) (covers_binary 9 x y)

turned_less : (t : CType) (x y : Tree) → Covers (x ∷ y ∷ []) (less_tree t y x ∷ []) (0 + 1)
turned_less t x y = covers_then (x ∷ y ∷ []) (y ∷ x ∷ []) (less_tree t y x ∷ []) 0 1 (covers_swap (x ∷ []) (y ∷ [])) (less t y x)

pub on_bits : (op : ℕ) (t : CType) → OnTwo (bit_tree op t)
on_bits op t x y =
    either (nat_eq op 17) _ _ (two 3) (either (nat_eq op 18) _ _ (two 4) (either (nat_eq op 19) _ _ (two 5)
    (either (nat_eq op 20) _ _ (raised _ 1 (omega arith) (less t x y)) (either (nat_eq op 21) _ _ (raised _ (0 + 1) (omega arith) (turned_less t x y))
    (either (nat_eq op 25) _ _ (two 6) (either (nat_eq op 26) _ _ (either (is_unsigned t) _ _ (two 8) (two 7))
    (either (nat_eq op 27) _ _ (not_less (less_tree t y x) (raised _ (0 + 1) (omega arith) (turned_less t x y)) (turned_less t x y))
    (either (nat_eq op 28) _ _ (not_less (less_tree t x y) (raised _ 1 (omega arith) (less t x y)) (less t x y))
    (either (nat_eq op 29) _ _ (two 11) (two 12))))))))))
  where
    either : (z : Bool) (u v : Tree) → Covers (x ∷ y ∷ []) (u ∷ []) 2 → Covers (x ∷ y ∷ []) (v ∷ []) 2 → Covers (x ∷ y ∷ []) (cond z u v ∷ []) 2
    either z u v h k = covers_if (x ∷ y ∷ []) 2 z u v h k

    raised : (u : Tree) (m : ℕ) → m ≤ 2 → Covers (x ∷ y ∷ []) (u ∷ []) m → Covers (x ∷ y ∷ []) (u ∷ []) 2
    raised u m le h = covers_more (x ∷ y ∷ []) (u ∷ []) m 2 le h

    two : (o : ℕ) → Covers (x ∷ y ∷ []) (binary o x y ∷ []) 2
    two o = raised (binary o x y) 1 (omega arith) (covers_binary o x y)

    not_less : (u : Tree) → Covers (x ∷ y ∷ []) (u ∷ []) 2 → Covers (x ∷ y ∷ []) (u ∷ []) 1 → Covers (x ∷ y ∷ []) (unary 2 u ∷ []) 2
    not_less u h k = covers_then (x ∷ y ∷ []) (u ∷ []) (unary 2 u ∷ []) 1 1 k (covers_unary 2 u)

turned_two : (turned : Bool) (f : Tree → Tree → Tree) → OnTwo f → OnTwo (λ x y. cond turned (f y x) (f x y))
turned_two true f h x y = covers_then (x ∷ y ∷ []) (y ∷ x ∷ []) (f y x ∷ []) 0 2 (covers_swap (x ∷ []) (y ∷ [])) (h y x)
turned_two false f h x y = h x y

on_arithmetic : (o : ℕ) → OnTwo (binary o)
on_arithmetic o x y = covers_more (x ∷ y ∷ []) (binary o x y ∷ []) 1 2 (omega arith) (covers_binary o x y)

-- a temporary and a global are low
pub temp_low : (t : ℕ) → is_low (temp t) ≡ true
temp_low t = le-leb (depth (temp t)) 2 (omega (arith, depth_roll (tree.Temp t)))

pub global_low : (g : ℕ) → is_low (global g) ≡ true
global_low g = le-leb (depth (global g)) 2 (omega (arith, depth_roll (tree.Global g)))

module _ (a : Allowed) (B : ℕ → ℕ → ℕ → ℕ → List Tree → List Stm → List Tree → Type 0) (rules : Rules a B) (locals room : ℕ)
    (scratch : (t : ℕ) → locals ≤ t → t < room → a.temps t ≡ true) where
  abbrev GivesFrom : List Tree → ℕ → ℕ → ℕ → ℕ → Lowering → Type 0
  GivesFrom = given.GivesFrom a B rules locals room scratch

  abbrev SecondGives : List Tree → ℕ → ℕ → ℕ → ℕ → Lowering → Type 0
  SecondGives = given.SecondGives a B rules locals room scratch

  by_test : {s w t k : ℕ} {ts : List Tree} (z : Bool) (x y : Lowering) → GivesFrom ts s w t k x → GivesFrom ts s w t k y → GivesFrom ts s w t k (cond z x y)
  by_test true x y h k = h
  by_test false x y h k = k

  operator : {s w t k s' w' t' k' : ℕ} {ts : List Tree} (turned : Bool) (f : Tree → Tree → Tree) (x y : Lowering) → OnTwo f → GivesFrom [] s w t k x →
      SecondGives ts s' w' t' k' y → GivesFrom ts (s + s' + 1) (w + w' + 1) (t + t' + 3) (k + k') (lower_operator turned f x y)
  operator turned f x y on h h' = given.gives_two a B rules locals room scratch (λ u v. cond turned (f v u) (f u v)) x y (turned_two turned f on) h h'

  pub gives_binary : {s w t k s' w' t' k' : ℕ} {ts : List Tree} (turned : Bool) (op : ℕ) (c : CType) (x y : Lowering) → GivesFrom [] s w t k x →
      SecondGives ts s' w' t' k' y → GivesFrom ts (s + s' + 2) (w + w' + 5) (t + t' + 3) (k + k') (lower_binary turned op c x y)
  gives_binary {s} {w} {t} {k} {s'} {w'} {t'} {k'} {ts} turned op c x y h h' =
      by_test (nat_lt op 17) (lower_product turned op c x y) (lower_operator turned (bit_tree op c) x y)
      (by_test (nat_eq op 12) _ _ (plain 0) (by_test (nat_eq op 13) _ _ (plain 1) (by_test (nat_eq op 14) _ _ (plain 2)
      (by_test (nat_eq op 15) _ _ (division (quotient_number c)) (division (remainder_number c))))))
      (looser (bit_tree op c) (on_bits op c))
    where
      looser : (f : Tree → Tree → Tree) → OnTwo f → GivesFrom ts (s + s' + 2) (w + w' + 5) (t + t' + 3) (k + k') (lower_operator turned f x y)
      looser f on n le top = rules.weaken (omega arith) (omega arith) (omega arith) (omega arith) (operator turned f x y on h h' n le top)

      plain : (o : ℕ) → GivesFrom ts (s + s' + 2) (w + w' + 5) (t + t' + 3) (k + k') (lower_operator turned (binary o) x y)
      plain o = looser (binary o) (on_arithmetic o)

      division : (o : ℕ) → GivesFrom ts (s + s' + 2) (w + w' + 5) (t + t' + 3) (k + k') (lower_division turned o x y)
      division o n le top = rules.weaken (omega arith) (omega arith) (omega arith) (omega arith) (given.gives_division a B rules locals room scratch turned o x y h h' n le top)

  -- the new value of a compound assignment: what is computed is put away to be converted, but for a quotient, which stands in a temporary
  pub gives_changed : {s w t k s' w' t' k' : ℕ} {ts : List Tree} (op : ℕ) (kind c : CType) (old x : Lowering) → SecondGives ts s' w' t' k' old →
      GivesFrom [] s w t k x → GivesFrom ts (s + s' + 2) (w + w' + 5) (t + t' + 5) (k + k') (lower_changed op kind c old x)
  gives_changed {s} {w} {t} {k} {s'} {w'} {t'} {k'} {ts} op kind c old x ho hx =
      changed (nat_lt op 17) (lower_product true op kind x old) (lower_operator true (bit_tree op kind) x old)
      (changed (nat_eq op 12) _ _ (plain 0) (changed (nat_eq op 13) _ _ (plain 1) (changed (nat_eq op 14) _ _ (plain 2)
      (changed (nat_eq op 15) _ _ (division (quotient_number kind)) (division (remainder_number kind))))))
      (looser (bit_tree op kind) (on_bits op kind))
    where
      Changed : Lowering → Type 0
      Changed l = GivesFrom ts (s + s' + 2) (w + w' + 5) (t + t' + 5) (k + k') (lower_one (converted_tree c) l)

      changed : (z : Bool) (l m : Lowering) → Changed l → Changed m → Changed (cond z l m)
      changed true l m p q = p
      changed false l m p q = q

      looser : (f : Tree → Tree → Tree) → OnTwo f → Changed (lower_operator true f x old)
      looser f on n le top =
          rules.weaken (omega arith) (omega arith) (omega arith) (omega arith) (given.gives_one a B rules locals room scratch (converted_tree c) (lower_operator true f x old) (converted_once c) (operator true f x old on hx ho) n le top)

      plain : (o : ℕ) → Changed (lower_operator true (binary o) x old)
      plain o = looser (binary o) (on_arithmetic o)

      division : (o : ℕ) → Changed (lower_division true o x old)
      division o n le top =
          rules.weaken (omega arith) (omega arith) (omega arith) (omega arith)
          (given.gives_low a B rules locals room scratch (converted_tree c) (lower_division true o x old) temp_low (converted_once c) (given.gives_division a B rules locals room scratch true o x old hx ho) n le top)
