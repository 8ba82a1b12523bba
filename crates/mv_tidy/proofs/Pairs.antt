-- Two statements and the one that they are together, as one temporary sees them.
use Rattle.std.proofs.Common.{◌≡◌, ℕ, Bool, true, false, not, eqb, ◌&&◌, ◌||◌, List, [], ◌∷◌, ◌++◌, Option, Some, None, sym, ◌∙◌, ap, subst, ◌⊎◌, inl, inr}
use Rattle.std.proofs.lemmas.Bool.{eq-eqb, eqb-false, ne_eqb, or_left, or_right}
use Rattle.mv_num.proofs.Booleans.{or_cases, and_cases, from_falsity}
use Rattle.mv_ir.specs.declared.tree.Tree.{Tree}
use Rattle.mv_ir.specs.declared.stm.Stm.{Stm}
use Rattle.mv_ir.specs.declared.stm.Stm.TheOpen.{Stm-F}
use Rattle.mv_ir.specs.declared.stm.Stm.TheOpen as stm
use Rattle.mv_ir.specs.declared.stm.Stm.TheViews.{roll-Stm}
use Rattle.mv_ir.specs.Measures.{callee_trees}
use Rattle.mv_ir.specs.Live.{reads_temp, any_reads, is, Around, plain, goes_next, with_after, flow}
use Rattle.mv_ir.specs.Rolled.{temp}
use Rattle.mv_ir.proofs.Rolls.{flow_roll}
use Rattle.mv_tidy.specs.Tidying.{Takes, IsOne, divided, fetched, called, asked, carried, stored, written}
use Rattle.mv_tidy.proofs.Values.{ReadThere, taken_reads}

-- each reads and writes what it says, and goes on behind itself
pub record Pair (gone : ℕ → Type 0) (s n z : Stm) : Type 0 where
  -- the temporary between the two
  pub temp : ℕ
  pub first : List Tree
  pub second : List Tree
  pub both : List Tree
  pub writes : Option ℕ
  pub is_over : gone temp ⊎ (writes ≡ Some temp)
  pub s_is : (t : ℕ) → flow t s ≡ plain t first (Some temp) goes_next
  pub n_is : (t : ℕ) → flow t n ≡ plain t second writes goes_next
  pub z_is : (t : ℕ) → flow t z ≡ plain t both writes goes_next
  pub reads : (t : ℕ) → any_reads t both ≡ true → (any_reads t first ≡ true) ⊎ ((any_reads t second ≡ true) × (t ≡ temp → ⊥))

-- a result that is moved
module _ (gone : ℕ → Type 0) (t x : ℕ) (g : gone t) where
  moves : (s z : Stm-F Stm) (reads : List Tree) → ((u : ℕ) → flow u (roll-Stm s) ≡ plain u reads (Some t) goes_next) → ((u : ℕ) → flow u (roll-Stm z) ≡ plain u reads (Some x) goes_next) →
      Pair gone (roll-Stm s) (roll-Stm (stm.Set x (temp t))) (roll-Stm z)
  moves s z reads hs hz = record {
    temp = t;
    first = reads;
    second = temp t ∷ [];
    both = reads;
    writes = Some x;
    is_over = inl g;
    s_is = hs;
    n_is = λ u. flow_roll u (stm.Set x (temp t));
    z_is = hz;
    reads = λ u r. inl r;
  }

-- a value that is put in its place
module _ (gone : ℕ → Type 0) (t : ℕ) (e v w : Tree) (k : Takes t e v w) where
  there : (u : ℕ) → ReadThere t e u v → (any_reads u (e ∷ []) ≡ true) ⊎ ((any_reads u (v ∷ []) ≡ true) × (u ≡ t → ⊥))
  there u (inl r) = inl (or_left (reads_temp u e) false r)
  there u (inr r) = inr (or_left (reads_temp u v) false r.0, eqb-false u t r.1)

  taken : (u : ℕ) → any_reads u (w ∷ []) ≡ true → (any_reads u (e ∷ []) ≡ true) ⊎ ((any_reads u (v ∷ []) ≡ true) × (u ≡ t → ⊥))
  taken u r = by (or_cases (reads_temp u w) false r)
    where
      by : (reads_temp u w ≡ true) ⊎ (false ≡ true) → (any_reads u (e ∷ []) ≡ true) ⊎ ((any_reads u (v ∷ []) ≡ true) × (u ≡ t → ⊥))
      by (inl h) = there u (taken_reads t e u v w k h)
      by (inr h) = from_falsity h

  puts : (n z : Stm-F Stm) (writes : Option ℕ) → gone t ⊎ (writes ≡ Some t) → ((u : ℕ) → flow u (roll-Stm n) ≡ plain u (v ∷ []) writes goes_next) → ((u : ℕ) → flow u (roll-Stm z) ≡ plain u (w ∷ []) writes goes_next) →
      Pair gone (roll-Stm (stm.Set t e)) (roll-Stm n) (roll-Stm z)
  puts n z writes over hn hz = record {
    temp = t;
    first = e ∷ [];
    second = v ∷ [];
    both = w ∷ [];
    writes = writes;
    is_over = over;
    s_is = λ u. flow_roll u (stm.Set t e);
    n_is = hn;
    z_is = hz;
    reads = taken;
  }

  -- behind an index that doesn't read the temporary
  module _ (i : Tree) (unread : reads_temp t i ≡ false) where
    other : (u : ℕ) → reads_temp u i ≡ true → u ≡ t → ⊥
    other u r same = let k : false ≡ true = sym unread ∙ subst (λ z. reads_temp z i ≡ true) same r in absurd (cc)

    further : (u : ℕ) → (any_reads u (e ∷ []) ≡ true) ⊎ ((any_reads u (v ∷ []) ≡ true) × (u ≡ t → ⊥)) → (any_reads u (e ∷ []) ≡ true) ⊎ ((any_reads u (i ∷ v ∷ []) ≡ true) × (u ≡ t → ⊥))
    further u (inl h) = inl h
    further u (inr h) = inr (or_right (reads_temp u i) (any_reads u (v ∷ [])) h.0, h.1)

    indexed : (u : ℕ) → any_reads u (i ∷ w ∷ []) ≡ true → (any_reads u (e ∷ []) ≡ true) ⊎ ((any_reads u (i ∷ v ∷ []) ≡ true) × (u ≡ t → ⊥))
    indexed u r = by (or_cases (reads_temp u i) (any_reads u (w ∷ [])) r)
      where
        by : (reads_temp u i ≡ true) ⊎ (any_reads u (w ∷ []) ≡ true) → (any_reads u (e ∷ []) ≡ true) ⊎ ((any_reads u (i ∷ v ∷ []) ≡ true) × (u ≡ t → ⊥))
        by (inl h) = inr (or_left (reads_temp u i) (any_reads u (v ∷ [])) h, other u h)
        by (inr h) = further u (taken u h)

pub pair_of : (gone : ℕ → Type 0) (s n z : Stm) → IsOne gone s n z → Pair gone s n z
pair_of gone s n z (divided t x o a b g) = moves gone t x g (stm.Divide t o a b) (stm.Divide x o a b) (a ∷ b ∷ []) (λ u. flow_roll u (stm.Divide t o a b)) (λ u. flow_roll u (stm.Divide x o a b))
pair_of gone s n z (fetched t x r i g) = moves gone t x g (stm.Read t r i) (stm.Read x r i) (i ∷ []) (λ u. flow_roll u (stm.Read t r i)) (λ u. flow_roll u (stm.Read x r i))
pair_of gone s n z (called t x f args g) =
    moves gone t x g (stm.Call (Some t) f args) (stm.Call (Some x) f args) (callee_trees f ++ args) (λ u. flow_roll u (stm.Call (Some t) f args)) (λ u. flow_roll u (stm.Call (Some x) f args))
pair_of gone s n z (asked t x k args g) = moves gone t x g (stm.Known (Some t) k args) (stm.Known (Some x) k args) args (λ u. flow_roll u (stm.Known (Some t) k args)) (λ u. flow_roll u (stm.Known (Some x) k args))
pair_of gone s n z (carried t x e v w g k) = puts gone t e v w k (stm.Set x v) (stm.Set x w) (Some x) (same g) (λ u. flow_roll u (stm.Set x v)) (λ u. flow_roll u (stm.Set x w))
  where
    same : gone t ⊎ (t ≡ x) → gone t ⊎ (Some x ≡ Some t)
    same (inl h) = inl h
    same (inr h) = inr (ap Some (sym h))
pair_of gone s n z (stored t h e v w g k) = puts gone t e v w k (stm.SetGlobal h v) (stm.SetGlobal h w) None (inl g) (λ u. flow_roll u (stm.SetGlobal h v)) (λ u. flow_roll u (stm.SetGlobal h w))
pair_of gone s n z (written t r e i v w g unread k) = record {
  temp = t;
  first = e ∷ [];
  second = i ∷ v ∷ [];
  both = i ∷ w ∷ [];
  writes = None;
  is_over = inl g;
  s_is = λ u. flow_roll u (stm.Set t e);
  n_is = λ u. flow_roll u (stm.Write r i v);
  z_is = λ u. flow_roll u (stm.Write r i w);
  reads = indexed gone t e v w k i unread;
}

-- what is live before the one is live before the first, where what is live before the second is so behind the first
module _ (gone : ℕ → Type 0) (s n z : Stm) (p : Pair gone s n z) (t : ℕ) (r r' : Around) (live : Bool) where
  pub pair_live : (gone p.temp → r'.next ≡ true → t ≡ p.temp → ⊥) → ((flow t n).live r' ≡ true → live ≡ true) → (flow t z).live r' ≡ true → (flow t s).live (with_after r live) ≡ true
  pair_live absent second e = ap (λ f. f.live (with_after r live)) (p.s_is t) ∙ by (or_cases (any_reads t p.both) (not (is p.writes t) && r'.next) (ap (λ f. f.live r') (sym (p.z_is t)) ∙ e))
    where
      passes : (t ≡ p.temp → ⊥) → live ≡ true → (any_reads t p.first || (not (eqb p.temp t) && live)) ≡ true
      passes ne h = or_right (any_reads t p.first) (not (eqb p.temp t) && live) (ap (λ c. not c && live) (ne_eqb p.temp t (λ q. ne (sym q))) ∙ h)

      -- the temporary isn't live behind the two but where the second sets it
      other : not (is p.writes t) ≡ true → r'.next ≡ true → t ≡ p.temp → ⊥
      other unset b q = by p.is_over
        where
          by : gone p.temp ⊎ (p.writes ≡ Some p.temp) → ⊥
          by (inl g) = absent g b q
          by (inr w) = let k : false ≡ true = ap not (sym (eq-eqb p.temp t (sym q))) ∙ ap (λ z. not (is z t)) (sym w) ∙ unset in absurd (cc)

      from_second : (any_reads t p.second || (not (is p.writes t) && r'.next)) ≡ true → live ≡ true
      from_second h = second (ap (λ f. f.live r') (p.n_is t) ∙ h)

      read : (any_reads t p.first ≡ true) ⊎ ((any_reads t p.second ≡ true) × (t ≡ p.temp → ⊥)) → (any_reads t p.first || (not (eqb p.temp t) && live)) ≡ true
      read (inl h) = or_left (any_reads t p.first) (not (eqb p.temp t) && live) h
      read (inr h) = passes h.1 (from_second (or_left (any_reads t p.second) (not (is p.writes t) && r'.next) h.0))

      by : (any_reads t p.both ≡ true) ⊎ ((not (is p.writes t) && r'.next) ≡ true) → (any_reads t p.first || (not (eqb p.temp t) && live)) ≡ true
      by (inl h) = read (p.reads t h)
      by (inr h) = let c = and_cases (not (is p.writes t)) r'.next h in passes (other c.0 c.1) (from_second (or_right (any_reads t p.second) (not (is p.writes t) && r'.next) h))
