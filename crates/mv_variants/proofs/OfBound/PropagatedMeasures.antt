-- A measure isn't more where what temporaries hold is read in their place, and it is the same where nothing but calls counts.
use Rattle.std.proofs.Common.{arith, ◌≡◌, ℕ, ◌≤◌, List, [], ◌∷◌, map, refl}
use Rattle.mv_ir.specs.declared.stm.Callee.{Callee}
use Rattle.mv_ir.specs.declared.stm.Stm.{Stm}
use Rattle.mv_ir.specs.declared.stm.Stm.TheOpen.{Stm-F}
use Rattle.mv_ir.specs.declared.stm.Stm.TheOpen as stm
use Rattle.mv_ir.specs.Measures.{total}
use Rattle.mv_ir.specs.Rolled.{temp}
use Rattle.mv_propagate.specs.declared.facts.Fact.{Fact}
use Rattle.mv_propagate.specs.Propagating.{ReadsCallee, same_callee, through, Propagated}
use Rattle.mv_propagate.proofs.Structure.{none_low, IsClosed, propagated_is}
use Rattle.mv_variants.proofs.OfBound.Measures.{SameGoal, Measure, all_append, Counts as SameCounts, equal, single}
use Rattle.mv_variants.proofs.OfBound.TidiedMeasures.{CountsCalls, same_goal, choice_is}

reads_goal : (facts : List Fact) (f g : Callee) → ReadsCallee facts f g → SameGoal g f
reads_goal facts f g (same_callee h) = same_goal h
reads_goal facts f g (through t u h) = tt

module _ {layer : Stm-F ℕ → ℕ} {m : Stm → ℕ} (of : Measure layer m) where
  abbrev all : List Stm → ℕ
  all code = total (map m code)

  -- the second counts no more, and as much where nothing but calls counts
  abbrev Counts : List Stm → List Stm → Type 0
  Counts xs ys = SameCounts of (CountsCalls layer) xs ys

  closed : (temps : ℕ) → IsClosed temps Counts
  closed temps = record {
    none = equal of [] [] refl;
    both = λ xs xs' ys ys' h k.
        let before = all_append of xs ys in
        let after = all_append of xs' ys' in
        record { less = omega (arith, before, after, h.less, k.less); same = λ f. omega (arith, before, after, h.same f, k.same f) };
    same = λ s. equal of (s ∷ []) (s ∷ []) refl;
    set = λ facts t v w low h. single of (stm.Set t v) (stm.Set t w) (of.set _ _ _ _);
    store = λ facts g v w low h. single of (stm.SetGlobal g v) (stm.SetGlobal g w) (of.store _ _ _ _);
    divide = λ facts t o a a' b b' low h k. single of (stm.Divide t o a b) (stm.Divide t o a' b') (of.divide _ _ _ _ _ _ _ _);
    check = λ facts r i j low h. single of (stm.Check r i) (stm.Check r j) (of.check _ _ _ _);
    read = λ facts t r i j low h. single of (stm.Read t r i) (stm.Read t r j) (of.read _ _ _ _ _ _);
    fetched = λ facts t u r i l low h lt lt'.
        let before = of.roll (stm.Read t r i) in
        let after = of.roll (stm.Set t (temp u)) in
        let fewer = of.fetched t t (temp u) r i in
        record { less = omega (arith, before, after, fewer); same = λ f. (let none = f.others (stm.Read t r i) refl in omega (arith, before, after, none)) };
    write = λ facts r i j v w low h k. single of (stm.Write r i v) (stm.Write r j w) (of.write _ _ _ _ _ _);
    branch = λ facts t u a a' b b' low h ha hb.
        let before = choice_is of t a b in
        let after = choice_is of u a' b' in
        record { less = omega (arith, before, after, ha.less, hb.less); same = λ f. omega (arith, before, after, ha.same f, hb.same f) };
    loop = λ b b' h.
        let before = of.roll (stm.Loop b) in
        let after = of.roll (stm.Loop b') in
        record {
          less = omega (arith, before, after, of.loop (map m b') (map m b) h.less);
          same = λ f. omega (arith, before, after, of.loop (map m b) (map m b') (h.same f));
        };
    block = λ b b' h.
        let before = of.roll (stm.Block b) in
        let after = of.roll (stm.Block b') in
        record {
          less = omega (arith, before, after, of.block (map m b') (map m b) h.less);
          same = λ f. omega (arith, before, after, of.block (map m b) (map m b') (h.same f));
        };
    call = λ facts r f g xs ys low hf h. single of (stm.Call r f xs) (stm.Call r g ys) (of.call _ _ _ _ _ _ (reads_goal facts f g hf));
    known = λ facts r k xs ys low h. single of (stm.Known r k xs) (stm.Known r k ys) (of.known _ _ _ _ _);
    return = λ facts v w low h. single of (stm.Return v) (stm.Return w) (of.return _ _);
  }

  pub propagated_no_more : (temps : ℕ) (code result : List Stm) (last : List Fact) → Propagated temps [] code result last → all result ≤ all code
  propagated_no_more temps code result last h = (propagated_is temps Counts (closed temps) [] code result last (none_low temps) h).less

  pub propagated_same : CountsCalls layer → (temps : ℕ) (code result : List Stm) (last : List Fact) → Propagated temps [] code result last → all result ≡ all code
  propagated_same f temps code result last h =
      let counts = propagated_is temps Counts (closed temps) [] code result last (none_low temps) h in
      omega (arith, counts.less, counts.same f)
