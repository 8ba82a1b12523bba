-- Code without temporaries that only hand a value on: two statements that stand one behind the other as one, where the temporary between them is not live
-- behind the second, or the second sets it. A value that is never read isn't computed, and what stands behind a jump goes, unless it calls.
use Rattle.std.specs.Prelude.{ℕ, ◌≡◌, ◌<◌, ◌⊎◌, Bool, true, false, cond, eqb, List, [], ◌∷◌, map, Some}
use Rattle.mv_num.specs.declared.kind.Kind.{Kind}
use Rattle.mv_ast.specs.declared.program.Known.{Known}
use Rattle.mv_ir.specs.declared.tree.Tree.{Tree, out-Tree}
use Rattle.mv_ir.specs.declared.tree.Tree.TheOpen.{Tree-F}
use Rattle.mv_ir.specs.declared.tree.Tree.TheOpen as tree
use Rattle.mv_ir.specs.declared.tree.Tree.TheViews.{roll-Tree}
use Rattle.mv_ir.specs.declared.tree.Tree.TheFolds.{fold-Tree}
use Rattle.mv_ir.specs.declared.stm.Array.{Array}
use Rattle.mv_ir.specs.declared.stm.Callee.{Callee}
use Rattle.mv_ir.specs.declared.stm.Stm.{Stm}
use Rattle.mv_ir.specs.Measures.{calls}
use Rattle.mv_ir.specs.Live.{reads_temp, Around, with_after, around_block, around_loop, live_in_order, live_at_loop, flow, nowhere}
use Rattle.mv_ir.specs.Operators as operator
use Rattle.mv_ir.specs.Rolled.{number, temp, unary, binary, narrow, set, set_global, divide, choose, call, read, write, repeat, enclosed, known}
use Rattle.mv_fold.specs.Simple.{jumps}
use Rattle.mv_plain.specs.Plain.{is_truth}

-- ---- trees

abbrev pub taking_node : ℕ → Tree → Tree-F Tree → Tree
taking_node t e (tree.Temp u) = cond (eqb u t) e (temp u)
taking_node t e x = roll-Tree x

-- a tree with a value in place of each read of a temporary
unfoldable pub taking : ℕ → Tree → Tree → Tree
taking t e = fold-Tree Tree (taking_node t e)

abbrev pub layer_is_leaf : {A : Type 0} → Tree-F A → Bool
layer_is_leaf (tree.Unary o a) = false
layer_is_leaf (tree.Binary o a b) = false
layer_is_leaf (tree.Narrow k a) = false
layer_is_leaf _ = true

-- whether a tree is one node
unfoldable pub is_leaf : Tree → Bool
is_leaf x = layer_is_leaf (out-Tree x)

-- A value takes the place of a temporary where the tree is that temporary, or the value is one node. A truth also takes the place of a tree that asks whether
-- the temporary is 0, once or twice, or that is a conversion of it.
pub data Takes (t : ℕ) (e : Tree) : Tree → Tree → Type 0 where
  whole : Takes t e (temp t) e
  truth : is_truth e ≡ true → Takes t e (binary operator.not_equal (temp t) (number 0)) e
  twice_truth : is_truth e ≡ true → Takes t e (unary operator.logical_not (unary operator.logical_not (temp t))) e
  narrowed_truth : (k : Kind) → is_truth e ≡ true → Takes t e (narrow k (temp t)) e
  through : (v : Tree) → is_leaf e ≡ true → Takes t e v (taking t e v)

-- ---- two statements as one

-- A value is computed where it is moved to: a result in the temporary that it is only moved to, or a value in the place of the temporary that it was put into.
-- Of the temporary between them `gone` holds, or the second statement sets it.
pub data IsOne (gone : ℕ → Type 0) : Stm → Stm → Stm → Type 0 where
  divided : (t x o : ℕ) (a b : Tree) → gone t → IsOne gone (divide t o a b) (set x (temp t)) (divide x o a b)
  fetched : (t x : ℕ) (r : Array) (i : Tree) → gone t → IsOne gone (read t r i) (set x (temp t)) (read x r i)
  called : (t x : ℕ) (f : Callee) (args : List Tree) → gone t → IsOne gone (call (Some t) f args) (set x (temp t)) (call (Some x) f args)
  asked : (t x : ℕ) (k : Known) (args : List Tree) → gone t → IsOne gone (known t k args) (set x (temp t)) (known x k args)
  carried : (t x : ℕ) (e v w : Tree) → gone t ⊎ (t ≡ x) → Takes t e v w → IsOne gone (set t e) (set x v) (set x w)
  stored : (t g : ℕ) (e v w : Tree) → gone t → Takes t e v w → IsOne gone (set t e) (set_global g v) (set_global g w)
  written : (t : ℕ) (r : Array) (e i v w : Tree) → gone t → reads_temp t i ≡ false → Takes t e v w → IsOne gone (set t e) (write r i v) (write r i w)

-- ---- code

-- whether a temporary is live before some code, where it is so around
abbrev pub lives : (ℕ → Around) → List Stm → ℕ → Bool
lives r code t = live_in_order (map (flow t) code) (r t)

-- around the first statement of a list
abbrev pub before : (ℕ → Around) → List Stm → ℕ → Around
before r code t = with_after (r t) (lives r code t)

-- inside a loop, and inside a block
abbrev pub in_loop : (ℕ → Around) → List Stm → ℕ → Around
in_loop r code t = around_loop (r t) (live_at_loop (map (flow t) code) (r t))

abbrev pub in_block : (ℕ → Around) → ℕ → Around
in_block r t = around_block (r t)

mutual
  -- What becomes of code whose temporaries are below `temps`, and what is live behind the first statement of that: each statement stands, with what becomes of
  -- the lists in it, or is one with the statement that has become the first behind it, or goes.
  pub data Left (temps : ℕ) : (ℕ → Around) → List Stm → (ℕ → Bool) → List Stm → Type 0 where
    none : (r : ℕ → Around) → Left temps r [] (λ t. false) []
    put : (r : ℕ → Around) (s y : Stm) (code rest : List Stm) (behind : ℕ → Bool) → Left temps r code behind rest → Becomes temps (before r code) s y → Left temps r (s ∷ code) (lives r code) (y ∷ rest)
    one : (r : ℕ → Around) (s n z : Stm) (code rest : List Stm) (behind : ℕ → Bool) → Left temps r code behind (n ∷ rest) → IsOne (λ t. (t < temps) × (behind t ≡ false)) s n z → Left temps r (s ∷ code) behind (z ∷ rest)
    dropped : (r : ℕ → Around) (t : ℕ) (e : Tree) (code rest : List Stm) (behind : ℕ → Bool) → Left temps r code behind rest → t < temps → lives r code t ≡ false → Left temps r (set t e ∷ code) behind rest
    idle : (r : ℕ → Around) (t : ℕ) (code rest : List Stm) (behind : ℕ → Bool) → Left temps r code behind rest → t < temps → Left temps r (set t (temp t) ∷ code) behind rest
    ended : (r : ℕ → Around) (s : Stm) (code rest : List Stm) (behind : ℕ → Bool) → Left temps r code behind rest → jumps s ≡ true → calls rest ≡ 0 → Left temps r (s ∷ code) (lives r []) (s ∷ [])

  -- what becomes of a statement
  pub data Becomes (temps : ℕ) : (ℕ → Around) → Stm → Stm → Type 0 where
    same : (r : ℕ → Around) (s : Stm) → Becomes temps r s s
    choice : (r : ℕ → Around) (t : Tree) (a a' b b' : List Stm) (p q : ℕ → Bool) → Left temps r a p a' → Left temps r b q b' → Becomes temps r (choose t a b) (choose t a' b')
    turns : (r : ℕ → Around) (b b' : List Stm) (p : ℕ → Bool) → Left temps (in_loop r b) b p b' → Becomes temps r (repeat b) (repeat b')
    block : (r : ℕ → Around) (b b' : List Stm) (p : ℕ → Bool) → Left temps (in_block r) b p b' → Becomes temps r (enclosed b) (enclosed b')

-- of a body: nothing is live around it
pub record IsJoinedCode (temps : ℕ) (code result : List Stm) : Type 0 where
  pub behind : ℕ → Bool
  pub left : Left temps (λ t. nowhere) code behind result
