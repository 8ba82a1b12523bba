-- The plain statements of lowered code, and what trees may stand for others.
use mathlib.Core.Bool.{or-false}
use Rattle.std.proofs.Common.{◌≡◌, ℕ, suc, ◌+◌, ◌≤◌, Bool, true, false, ◌||◌, List, [], ◌∷◌, ◌++◌, length, Option, Some, None, refl, sym, ◌∙◌, ap, subst, arith, append_assoc, append-nil}
use Rattle.std.specs.Prelude.{nat_lt, nat_eq}
use Rattle.std.proofs.lemmas.Bool.{or_right, or_left}
use Rattle.mv_num.specs.declared.kind.Kind.{Kind}
use Rattle.mv_ast.specs.declared.program.Known.{Known}
use Rattle.mv_ir.specs.declared.tree.Tree.{Tree}
use Rattle.mv_ir.specs.declared.tree.Tree.TheOpen as tree
use Rattle.mv_ir.specs.declared.stm.Array.{Array}
use Rattle.mv_ir.specs.declared.stm.Array.TheVariants as array
use Rattle.mv_ir.specs.declared.stm.Callee.TheVariants as callee
use Rattle.mv_ir.specs.declared.stm.Stm.{Stm}
use Rattle.mv_ir.specs.declared.stm.Stm.TheOpen as stm
use Rattle.mv_ir.specs.Trees.{nodes}
use Rattle.mv_ir.specs.Measures.{tree_reads, array_read}
use Rattle.mv_ir.specs.Live.{reads_temp, any_reads}
use Rattle.mv_ir.specs.WellFormed.{known_arguments}
use Rattle.mv_ir.proofs.Induction.{each_append}
use Rattle.mv_ir.proofs.Rolls.{nodes_roll, reads_roll, reads_temp_roll}
use Rattle.mv_ir.proofs.Joining.{any_reads_append, nodes_append}
use Rattle.mv_lower_spec.specs.Lowered.{number, temp, function, unary, binary}
use Rattle.mv_lower_spec.specs.Lower.{narrowed}
use Rattle.mv_lower_spec.proofs.OfShape.Rules.{Allowed, IsPlain, IsAllowed, Covers, AllMay, all_read, Rules}
use Rattle.mv_num.proofs.Booleans.{from_falsity}
use Rattle.mv_ir.proofs.Common.{each_first, each_right}

-- ---- statements

module _ (a : Allowed) where
  abbrev MayName : Array → Type 0
  MayName r = a.named r ≡ true

  pub plain_set : (t : ℕ) (v : Tree) → a.temps t ≡ true → IsPlain a (stm.Set t v) (v ∷ []) (Some t) 0 1 1
  plain_set t v h = record { flows = λ u. refl; weighed = refl; trees = refl; units = omega arith; allowed = omega arith; calls = refl; arguments = refl; targets = λ r. refl; named = tt; arrays = tt; written = h }

  pub plain_set_global : (g : ℕ) (v : Tree) → MayName (array.Global g) → IsPlain a (stm.SetGlobal g v) (v ∷ []) None 0 1 2
  plain_set_global g v h = record { flows = λ u. refl; weighed = refl; trees = refl; units = omega arith; allowed = omega arith; calls = refl; arguments = refl; targets = λ r. refl; named = (h, tt); arrays = tt; written = tt }

  pub plain_divide : (t o : ℕ) (x y : Tree) → a.temps t ≡ true → IsPlain a (stm.Divide t o x y) (x ∷ y ∷ []) (Some t) 0 1 4
  plain_divide t o x y h = record { flows = λ u. refl; weighed = refl; trees = refl; units = omega arith; allowed = omega arith; calls = refl; arguments = refl; targets = λ r. refl; named = tt; arrays = tt; written = h }

  pub plain_check : (r : Array) (i : Tree) → MayName r → IsPlain a (stm.Check r i) (i ∷ []) None 0 1 4
  plain_check r i h = record { flows = λ u. refl; weighed = refl; trees = refl; units = omega arith; allowed = omega arith; calls = refl; arguments = refl; targets = λ r. refl; named = (h, tt); arrays = tt; written = tt }

  pub plain_read : (t : ℕ) (r : Array) (i : Tree) → a.temps t ≡ true → MayName r → AllMay a.arrays (array_read r) → IsPlain a (stm.Read t r i) (i ∷ []) (Some t) 0 1 9
  plain_read t r i h k m = record { flows = λ u. refl; weighed = refl; trees = refl; units = omega arith; allowed = omega arith; calls = refl; arguments = refl; targets = λ r. refl; named = (k, tt); arrays = m; written = h }

  pub plain_write : (r : Array) (i v : Tree) → MayName r → IsPlain a (stm.Write r i v) (i ∷ v ∷ []) None 0 1 8
  plain_write r i v h = record { flows = λ u. refl; weighed = refl; trees = refl; units = omega arith; allowed = omega arith; calls = refl; arguments = refl; targets = λ r. refl; named = (h, tt); arrays = tt; written = tt }

  pub plain_zero : (l : ℕ) → MayName (array.Local l) → IsPlain a (stm.Zero l) [] None 0 1 7
  plain_zero l h = record { flows = λ u. refl; weighed = refl; trees = refl; units = omega arith; allowed = omega arith; calls = refl; arguments = refl; targets = λ r. refl; named = (h, tt); arrays = tt; written = tt }

  pub plain_call : (t : Option ℕ) (f : ℕ) (args : List Tree) → IsAllowed a t → nat_lt (length args) 9 ≡ true → IsPlain a (stm.Call t (callee.Direct f) args) args t (a.direct f) 4 16
  plain_call t f args h k = record { flows = λ u. refl; weighed = refl; trees = refl; units = omega arith; allowed = omega arith; calls = refl; arguments = k; targets = λ r. refl; named = tt; arrays = tt; written = h }

  pub plain_through : (t : Option ℕ) (f : Tree) (args : List Tree) → IsAllowed a t → nat_lt (length args) 9 ≡ true → IsPlain a (stm.Call t (callee.Through f) args) (f ∷ args) t a.through 4 16
  plain_through t f args h k = record { flows = λ u. refl; weighed = refl; trees = refl; units = omega arith; allowed = omega arith; calls = refl; arguments = k; targets = λ r. refl; named = tt; arrays = tt; written = h }

  pub plain_switched : (t : Option ℕ) (g : ℕ) (args : List Tree) → IsAllowed a t → MayName (array.Global g) → a.arrays g ≡ true → nat_lt (length args) 9 ≡ true → IsPlain a (stm.Call t (callee.Switched g) args) args t a.through 4 16
  plain_switched t g args h k m few = record { flows = λ u. refl; weighed = refl; trees = refl; units = omega arith; allowed = omega arith; calls = refl; arguments = few; targets = λ r. refl; named = (k, tt); arrays = (m, tt); written = h }

  pub plain_known : (t : ℕ) (f : Known) (args : List Tree) → a.temps t ≡ true → nat_eq (length args) (known_arguments f) ≡ true → IsPlain a (stm.Known (Some t) f args) args (Some t) 0 4 7
  plain_known t f args h k = record { flows = λ u. refl; weighed = refl; trees = refl; units = omega arith; allowed = omega arith; calls = refl; arguments = k; targets = λ r. refl; named = tt; arrays = tt; written = h }

-- ---- trees

-- one tree for one
one_covers : (x y : Tree) (more : ℕ) → ((t : ℕ) → reads_temp t y ≡ reads_temp t x) → tree_reads y ≡ tree_reads x → nodes y ≤ nodes x + more → Covers (x ∷ []) (y ∷ []) more
one_covers x y more temps scalars count = record {
  temps = λ t e. ap (λ b. b || false) (sym (temps t)) ∙ e;
  scalars = λ may h. subst (λ l. AllMay may (l ++ [])) (sym scalars) h;
  nodes = omega (arith, count);
}

pub covers_unary : (o : ℕ) (x : Tree) → Covers (x ∷ []) (unary o x ∷ []) 1
covers_unary o x = one_covers x (unary o x) 1 (λ t. reads_temp_roll t (tree.Unary o x)) (reads_roll (tree.Unary o x)) (omega (arith, nodes_roll (tree.Unary o x)))

pub covers_narrowed : (k : Kind) (x : Tree) → Covers (x ∷ []) (narrowed k x ∷ []) 1
covers_narrowed k x = one_covers x (narrowed k x) 1 (λ t. reads_temp_roll t (tree.Narrow k x)) (reads_roll (tree.Narrow k x)) (let e : nodes (narrowed k x) ≡ suc (nodes x) = nodes_roll (tree.Narrow k x) in omega (arith, e))

pub covers_binary : (o : ℕ) (x y : Tree) → Covers (x ∷ y ∷ []) (binary o x y ∷ []) 1
covers_binary o x y = record {
  temps = λ t e. both t (sym (or-false (reads_temp t (binary o x y)) ∙ reads_temp_roll t (tree.Binary o x y)) ∙ e);
  scalars = λ may h. subst (λ l. AllMay may (l ++ [])) (sym (reads_roll (tree.Binary o x y))) (subst (AllMay may) (sym (append_assoc (tree_reads x) (tree_reads y) [])) h);
  nodes = omega (arith, nodes_roll (tree.Binary o x y));
}
  where
    both : (t : ℕ) → (reads_temp t x || reads_temp t y) ≡ true → (reads_temp t x || (reads_temp t y || false)) ≡ true
    both t e = ap (λ b. reads_temp t x || b) (or-false (reads_temp t y)) ∙ e

-- a constant for nothing
pub covers_number : (n : ℕ) → Covers [] (number n ∷ []) 1
covers_number n = record {
  temps = λ t e. sym (or-false (reads_temp t (number n)) ∙ reads_temp_roll t (tree.Number n)) ∙ e;
  scalars = λ may h. subst (λ l. AllMay may (l ++ [])) (sym (reads_roll (tree.Number n))) tt;
  nodes = omega (arith, nodes_roll (tree.Number n));
}

pub covers_function : (f : ℕ) → Covers [] (function f ∷ []) 1
covers_function f = record {
  temps = λ t e. sym (or-false (reads_temp t (function f)) ∙ reads_temp_roll t (tree.Function f)) ∙ e;
  scalars = λ may h. subst (λ l. AllMay may (l ++ [])) (sym (reads_roll (tree.Function f))) tt;
  nodes = omega (arith, nodes_roll (tree.Function f));
}

-- nothing for some
pub covers_none : (ts : List Tree) → Covers ts [] 0
covers_none ts = record { temps = λ t e. from_falsity e; scalars = λ may h. tt; nodes = omega arith }

pub covers_self : (ts : List Tree) → Covers ts ts 0
covers_self ts = record { temps = λ t e. e; scalars = λ may h. h; nodes = omega arith }

pub covers_then : (ts us vs : List Tree) (m n : ℕ) → Covers ts us m → Covers us vs n → Covers ts vs (m + n)
covers_then ts us vs m n h k = record { temps = λ t e. h.temps t (k.temps t e); scalars = λ may x. k.scalars may (h.scalars may x); nodes = omega (arith, h.nodes, k.nodes) }

-- ---- beside others

pub read_append : (xs ys : List Tree) → all_read (xs ++ ys) ≡ all_read xs ++ all_read ys
read_append [] ys = refl
read_append (x ∷ xs) ys = ap (λ l. tree_reads x ++ l) (read_append xs ys) ∙ sym (append_assoc (tree_reads x) (all_read xs) (all_read ys))

pub or_either : {A : Type 0} (x y : Bool) → (x || y) ≡ true → (x ≡ true → A) → (y ≡ true → A) → A
or_either true y e f g = f refl
or_either false y e f g = g e

-- what stands behind stays
pub covers_before : (ts us rest : List Tree) (m : ℕ) → Covers ts us m → Covers (ts ++ rest) (us ++ rest) m
covers_before ts us rest m h = record {
  temps = λ t e. any_reads_append t ts rest ∙ or_either (any_reads t us) (any_reads t rest) (sym (any_reads_append t us rest) ∙ e)
      (λ x. or_left (any_reads t ts) (any_reads t rest) (h.temps t x)) (λ x. or_right (any_reads t ts) (any_reads t rest) x);
  scalars = λ may x.
      let y = subst (AllMay may) (read_append ts rest) x in
      subst (AllMay may) (sym (read_append us rest))
      (each_append (λ g. may g ≡ true) (all_read us) (all_read rest) (h.scalars may (each_first (λ g. may g ≡ true) (all_read ts) (all_read rest) y)) (each_right (λ g. may g ≡ true) (all_read ts) (all_read rest) y));
  nodes = omega (arith, h.nodes, nodes_append ts rest, nodes_append us rest);
}

-- two lists in the other order
pub covers_swap : (ts us : List Tree) → Covers (ts ++ us) (us ++ ts) 0
covers_swap ts us = record {
  temps = λ t e. any_reads_append t ts us ∙ or_either (any_reads t us) (any_reads t ts) (sym (any_reads_append t us ts) ∙ e)
      (λ x. or_right (any_reads t ts) (any_reads t us) x) (λ x. or_left (any_reads t ts) (any_reads t us) x);
  scalars = λ may x.
      let y = subst (AllMay may) (read_append ts us) x in
      subst (AllMay may) (sym (read_append us ts))
      (each_append (λ g. may g ≡ true) (all_read us) (all_read ts) (each_right (λ g. may g ≡ true) (all_read ts) (all_read us) y) (each_first (λ g. may g ≡ true) (all_read ts) (all_read us) y));
  nodes = omega (arith, nodes_append ts us, nodes_append us ts);
}

-- a temporary that is read twice
pub covers_twice : (t : ℕ) → Covers (temp t ∷ []) (temp t ∷ temp t ∷ []) 1
covers_twice t = record {
  temps = λ u e. or_either (reads_temp u (temp t)) (reads_temp u (temp t) || false) e (λ x. or_left (reads_temp u (temp t)) false x) (λ x. x);
  scalars = λ may h. each_append (λ g. may g ≡ true) (tree_reads (temp t)) (tree_reads (temp t) ++ []) (each_first (λ g. may g ≡ true) (tree_reads (temp t)) [] h) h;
  nodes = omega (arith, nodes_roll (tree.Temp t));
}

-- trees that aren't used any more
pub dropped : {a : Allowed} {B : ℕ → ℕ → ℕ → ℕ → List Tree → List Stm → List Tree → Type 0} (r : Rules a B) {s w t k : ℕ} {xs : List Stm} {ts us : List Tree} → B s w t k ts xs us → B s w t k ts xs []
dropped {B = B} r {s} {w} {t} {k} {xs} {ts} {us} h =
    subst (λ x. B s w t k ts x []) (append-nil xs) (r.weaken (omega arith) (omega arith) (omega arith) (omega arith) (r.chain h (r.retree (covers_none us))))
