-- A relation holds of code and what becomes of it where it is kept by each step of that.
use Rattle.std.proofs.Common.{◌≡◌, ℕ, ◌<◌, Bool, false, List, [], ◌∷◌, ◌++◌, Option, sym, subst, ◌⊎◌, inl, inr, Contains, arith}
use Rattle.mv_ast.specs.declared.program.Known.{Known}
use Rattle.mv_ir.specs.declared.tree.Tree.{Tree}
use Rattle.mv_ir.specs.declared.stm.Array.{Array}
use Rattle.mv_ir.specs.declared.stm.Callee.{Callee}
use Rattle.mv_ir.specs.declared.stm.Stm.{Stm}
use Rattle.mv_ir.specs.declared.stm.Stm.TheOpen as stm
use Rattle.mv_ir.specs.declared.stm.Stm.TheViews.{roll-Stm}
use Rattle.mv_ir.specs.Rolled as rolled
use Rattle.mv_ir.specs.Rolled.{temp, set_global, choose, return_with, break, repeat, enclosed}
use Rattle.mv_propagate.specs.declared.facts.Leaf.{Leaf}
use Rattle.mv_propagate.specs.declared.facts.Leaf.TheVariants.{Temp}
use Rattle.mv_propagate.specs.declared.facts.Held.{Held}
use Rattle.mv_propagate.specs.declared.facts.Held.TheVariants.{Value, Element}
use Rattle.mv_propagate.specs.declared.facts.Fact.{Fact}
use Rattle.mv_propagate.specs.Facts.{tree_of, IsLow, names, Staying}
use Rattle.mv_propagate.specs.Propagating.{fact, Reads, ReadsAll, ReadsCallee, Learned, Propagated, PropagatedIn, none, more, computed, copied, stored, divided, checked, fetched, kept, moved, there, written, zeroed, choice, turns, block, leave, again, called, asked, returned}

-- ---- facts of words and of temporaries that there are

abbrev pub HoldsLow : ℕ → Held → Type 0
HoldsLow temps (Value l) = IsLow temps l
HoldsLow temps (Element r i) = IsLow temps i

abbrev pub AreLow : ℕ → List Fact → Type 0
AreLow temps facts = (f : Fact) → Contains facts f → HoldsLow temps f.held × (f.temp < temps)

pub none_low : (temps : ℕ) → AreLow temps []
none_low temps f (k, lt, e) = absurd (omega (arith, lt))

pub staying_low : (temps : ℕ) (gone : Fact → Bool) (facts after : List Fact) → Staying gone facts after → AreLow temps facts → AreLow temps after
staying_low temps gone facts after s low f c = low f (s f c).0

pub learned_low : (temps t : ℕ) (h : Held) (facts after : List Fact) → HoldsLow temps h → t < temps → Learned t h facts after → AreLow temps facts → AreLow temps after
learned_low temps t h facts after holds lt learned low f c = by (learned f c)
  where
    by : (f ≡ fact t h) ⊎ (Contains facts f × (names t f ≡ false)) → HoldsLow temps f.held × (f.temp < temps)
    by (inl e) = subst (λ g. HoldsLow temps g.held × (g.temp < temps)) (sym e) (holds, lt)
    by (inr k) = low f k.0

mutual
  pub propagated_low : (temps : ℕ) (facts : List Fact) (code result : List Stm) (after : List Fact) → AreLow temps facts → Propagated temps facts code result after → AreLow temps after
  propagated_low temps facts code result after low (none fs) = low
  propagated_low temps facts code result after low (more fs mid end s y rest rest' h k) =
      propagated_low temps mid rest rest' end (statement_low temps fs s y mid low h) k

  pub statement_low : (temps : ℕ) (facts : List Fact) (s y : Stm) (after : List Fact) → AreLow temps facts → PropagatedIn temps facts s y after → AreLow temps after
  statement_low temps facts s y after low (computed fs end t v w h k) = staying_low temps _ fs end k low
  statement_low temps facts s y after low (copied fs end t v l h lt small other k) = learned_low temps t (Value l) fs end small lt k low
  statement_low temps facts s y after low (stored fs end g v w h k) = staying_low temps _ fs end k low
  statement_low temps facts s y after low (divided fs end t o a a' b b' ha hb k) = staying_low temps _ fs end k low
  statement_low temps facts s y after low (checked fs r i j h) = low
  statement_low temps facts s y after low (fetched fs end t r i j h k) = staying_low temps _ fs end k low
  statement_low temps facts s y after low (kept fs end t r i l h lt small other k) = learned_low temps t (Element r l) fs end small lt k low
  statement_low temps facts s y after low (moved fs end t u r i l h c lt lt' other k) = learned_low temps t (Value (Temp u)) fs end lt' lt k low
  statement_low temps facts s y after low (there fs t r i l h c lt) = low
  statement_low temps facts s y after low (written fs end r i j v w hi hv k) = staying_low temps _ fs end k low
  statement_low temps facts s y after low (zeroed fs end l k) = staying_low temps _ fs end k low
  statement_low temps facts s y after low (choice fs first second end t u a a' b b' h ha hb k l) =
      staying_low temps _ first end k (propagated_low temps fs a a' first low ha)
  statement_low temps facts s y after low (turns fs last b b' h) = none_low temps
  statement_low temps facts s y after low (block fs last b b' h) = none_low temps
  statement_low temps facts s y after low (leave fs n) = low
  statement_low temps facts s y after low (again fs n) = low
  statement_low temps facts s y after low (called fs end r f f' xs ys hf h k) = staying_low temps _ fs end k low
  statement_low temps facts s y after low (asked fs end r k xs ys h l) = staying_low temps _ fs end l low
  statement_low temps facts s y after low (returned fs v w h) = low

-- ---- relations

-- A relation of code that is kept by doing nothing, by one thing after the other, by a statement that stays, by one that reads what temporaries hold, and where an
-- element is read in a temporary.
pub record IsClosed (temps : ℕ) (Q : List Stm → List Stm → Type 0) : Type 0 where
  pub none : Q [] []
  pub both : (xs xs' ys ys' : List Stm) → Q xs xs' → Q ys ys' → Q (xs ++ ys) (xs' ++ ys')
  pub same : (s : Stm) → Q (s ∷ []) (s ∷ [])
  pub set : (facts : List Fact) (t : ℕ) (v w : Tree) → AreLow temps facts → Reads facts v w → Q (rolled.set t v ∷ []) (rolled.set t w ∷ [])
  pub store : (facts : List Fact) (g : ℕ) (v w : Tree) → AreLow temps facts → Reads facts v w → Q (set_global g v ∷ []) (set_global g w ∷ [])
  pub divide : (facts : List Fact) (t o : ℕ) (a a' b b' : Tree) → AreLow temps facts → Reads facts a a' → Reads facts b b' →
      Q (rolled.divide t o a b ∷ []) (rolled.divide t o a' b' ∷ [])
  pub check : (facts : List Fact) (r : Array) (i j : Tree) → AreLow temps facts → Reads facts i j → Q (rolled.check r i ∷ []) (rolled.check r j ∷ [])
  pub read : (facts : List Fact) (t : ℕ) (r : Array) (i j : Tree) → AreLow temps facts → Reads facts i j → Q (rolled.read t r i ∷ []) (rolled.read t r j ∷ [])
  pub fetched : (facts : List Fact) (t u : ℕ) (r : Array) (i : Tree) (l : Leaf) → AreLow temps facts → Reads facts i (tree_of l) → t < temps → u < temps →
      Q (rolled.read t r i ∷ []) (rolled.set t (temp u) ∷ [])
  pub write : (facts : List Fact) (r : Array) (i j v w : Tree) → AreLow temps facts → Reads facts i j → Reads facts v w → Q (rolled.write r i v ∷ []) (rolled.write r j w ∷ [])
  pub branch : (facts : List Fact) (t u : Tree) (a a' b b' : List Stm) → AreLow temps facts → Reads facts t u → Q a a' → Q b b' → Q (choose t a b ∷ []) (choose u a' b' ∷ [])
  pub loop : (b b' : List Stm) → Q b b' → Q (repeat b ∷ []) (repeat b' ∷ [])
  pub block : (b b' : List Stm) → Q b b' → Q (enclosed b ∷ []) (enclosed b' ∷ [])
  pub call : (facts : List Fact) (r : Option ℕ) (f f' : Callee) (xs ys : List Tree) → AreLow temps facts → ReadsCallee facts f f' → ReadsAll facts xs ys →
      Q (rolled.call r f xs ∷ []) (rolled.call r f' ys ∷ [])
  pub known : (facts : List Fact) (r : Option ℕ) (k : Known) (xs ys : List Tree) → AreLow temps facts → ReadsAll facts xs ys →
      Q (roll-Stm (stm.Known r k xs) ∷ []) (roll-Stm (stm.Known r k ys) ∷ [])
  pub return : (facts : List Fact) (v w : Tree) → AreLow temps facts → Reads facts v w → Q (return_with v ∷ []) (return_with w ∷ [])

module _ (temps : ℕ) (Q : List Stm → List Stm → Type 0) (q : IsClosed temps Q) where
  mutual
    pub propagated_is : (facts : List Fact) (code result : List Stm) (after : List Fact) → AreLow temps facts → Propagated temps facts code result after → Q code result
    propagated_is facts code result after low (none fs) = q.none
    propagated_is facts code result after low (more fs mid end s y rest rest' h k) =
        q.both (s ∷ []) (y ∷ []) rest rest' (statement_is fs s y mid low h) (propagated_is mid rest rest' end (statement_low temps fs s y mid low h) k)

    statement_is : (facts : List Fact) (s y : Stm) (after : List Fact) → AreLow temps facts → PropagatedIn temps facts s y after → Q (s ∷ []) (y ∷ [])
    statement_is facts s y after low (computed fs end t v w h k) = q.set fs t v w low h
    statement_is facts s y after low (copied fs end t v l h lt small other k) = q.set fs t v (tree_of l) low h
    statement_is facts s y after low (stored fs end g v w h k) = q.store fs g v w low h
    statement_is facts s y after low (divided fs end t o a a' b b' ha hb k) = q.divide fs t o a a' b b' low ha hb
    statement_is facts s y after low (checked fs r i j h) = q.check fs r i j low h
    statement_is facts s y after low (fetched fs end t r i j h k) = q.read fs t r i j low h
    statement_is facts s y after low (kept fs end t r i l h lt small other k) = q.read fs t r i (tree_of l) low h
    statement_is facts s y after low (moved fs end t u r i l h c lt lt' other k) = q.fetched fs t u r i l low h lt lt'
    statement_is facts s y after low (there fs t r i l h c lt) = q.fetched fs t t r i l low h lt lt
    statement_is facts s y after low (written fs end r i j v w hi hv k) = q.write fs r i j v w low hi hv
    statement_is facts s y after low (zeroed fs end l k) = q.same (roll-Stm (stm.Zero l))
    statement_is facts s y after low (choice fs first second end t u a a' b b' h ha hb k l) =
        q.branch fs t u a a' b b' low h (propagated_is fs a a' first low ha) (propagated_is fs b b' second low hb)
    statement_is facts s y after low (turns fs last b b' h) = q.loop b b' (propagated_is [] b b' last (none_low temps) h)
    statement_is facts s y after low (block fs last b b' h) = q.block b b' (propagated_is fs b b' last low h)
    statement_is facts s y after low (leave fs n) = q.same (break n)
    statement_is facts s y after low (again fs n) = q.same (roll-Stm (stm.Back n))
    statement_is facts s y after low (called fs end r f f' xs ys hf h k) = q.call fs r f f' xs ys low hf h
    statement_is facts s y after low (asked fs end r k xs ys h l) = q.known fs r k xs ys low h
    statement_is facts s y after low (returned fs v w h) = q.return fs v w low h
