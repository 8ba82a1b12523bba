-- Bodies stay well formed where what temporaries hold is read in their place.
use Rattle.std.proofs.Common.{◌≡◌, ℕ, suc, List, [], ◌∷◌, length, Option, refl, sym, ap, subst, nat_lt, nat_eq}
use Rattle.mv_ast.specs.declared.program.Known.{Known}
use Rattle.mv_ir.specs.declared.tree.Tree.{Tree}
use Rattle.mv_ir.specs.declared.stm.Array.{Array}
use Rattle.mv_ir.specs.declared.stm.Callee.{Callee}
use Rattle.mv_ir.specs.declared.stm.Stm.{Stm}
use Rattle.mv_ir.specs.declared.stm.Stm.TheOpen as stm
use Rattle.mv_ir.specs.declared.stm.Stm.TheViews.{roll-Stm}
use Rattle.mv_ir.specs.declared.body.Body.{Body}
use Rattle.mv_ir.specs.WellFormed.{callee_named, known_arguments, IsWellFormed}
use Rattle.mv_fold.proofs.WellFormed.{Keep, keep_refl, facts, facts_one, layer_facts, Kept, kept_append, alike, if_kept, loop_kept, block_kept, asked, with_arguments, code_well_formed}
use Rattle.mv_propagate.specs.declared.facts.Fact.{Fact}
use Rattle.mv_propagate.specs.Propagating.{ReadsAll, no_trees, more_trees, ReadsCallee, same_callee, through, Propagated}
use Rattle.mv_propagate.proofs.Structure.{AreLow, none_low, IsClosed, propagated_is}
use Rattle.mv_propagate.proofs.Counts.{propagated_no_greater}
use Rattle.mv_propagate.proofs.Thinning.{propagated_have_temps}

same_length : (fs : List Fact) (xs ys : List Tree) → ReadsAll fs xs ys → length xs ≡ length ys
same_length fs xs ys no_trees = refl
same_length fs xs ys (more_trees t u ts us h k) = ap suc (same_length fs ts us k)

-- the same pointer switch is named
same_named : (fs : List Fact) (f f' : Callee) → ReadsCallee fs f f' → callee_named f' ≡ callee_named f
same_named fs f f' (same_callee g) = refl
same_named fs f f' (through t u h) = refl

call_kept : (fs : List Fact) (r : Option ℕ) (f f' : Callee) (xs ys : List Tree) → ReadsCallee fs f f' → ReadsAll fs xs ys →
    Kept (roll-Stm (stm.Call r f xs) ∷ []) (roll-Stm (stm.Call r f' ys) ∷ [])
call_kept fs r f f' xs ys h k =
    with_arguments (stm.Call r f xs) (stm.Call r f' ys) (λ n. nat_lt n 9) (callee_named f) (length xs) (length ys) refl (ap (asked (λ n. nat_lt n 9) (length ys)) (same_named fs f f' h))
    (same_length fs xs ys k)

known_kept : (fs : List Fact) (r : Option ℕ) (k : Known) (xs ys : List Tree) → ReadsAll fs xs ys → Kept (roll-Stm (stm.Known r k xs) ∷ []) (roll-Stm (stm.Known r k ys) ∷ [])
known_kept fs r k xs ys h =
    with_arguments (stm.Known r k xs) (stm.Known r k ys) (λ n. nat_eq n (known_arguments k)) [] (length xs) (length ys) refl refl (same_length fs xs ys h)

-- a set names no array
fetched_kept : (t u : ℕ) (r : Array) (i v : Tree) → Kept (roll-Stm (stm.Read t r i) ∷ []) (roll-Stm (stm.Set u v) ∷ [])
fetched_kept t u r i v =
    subst (λ a. Keep a (facts (roll-Stm (stm.Set u v) ∷ []))) (sym (facts_one (stm.Read t r i)))
    (subst (Keep (layer_facts (stm.Read t r i))) (sym (facts_one (stm.Set u v))) (record { targets = λ o e. refl; arguments = λ e. refl; named = λ p e. refl }))

kept_closed : (temps : ℕ) → IsClosed temps Kept
kept_closed temps = record {
  none = keep_refl _;
  both = kept_append;
  same = λ s. keep_refl _;
  set = λ fs t v w low h. alike (stm.Set t v) (stm.Set t w) refl;
  store = λ fs g v w low h. alike (stm.SetGlobal g v) (stm.SetGlobal g w) refl;
  divide = λ fs t o a a' b b' low h k. alike (stm.Divide t o a b) (stm.Divide t o a' b') refl;
  check = λ fs r i j low h. alike (stm.Check r i) (stm.Check r j) refl;
  read = λ fs t r i j low h. alike (stm.Read t r i) (stm.Read t r j) refl;
  fetched = λ fs t u r i l low h lt lt'. fetched_kept t t r i _;
  write = λ fs r i j v w low h k. alike (stm.Write r i v) (stm.Write r j w) refl;
  branch = λ fs t u a a' b b' low h. if_kept t u a a' b b';
  loop = loop_kept;
  block = block_kept;
  call = λ fs r f f' xs ys low. call_kept fs r f f' xs ys;
  known = λ fs r k xs ys low. known_kept fs r k xs ys;
  return = λ fs v w low h. alike (stm.Return v) (stm.Return w) refl;
}

-- what is asked of code stays
pub propagated_kept : (temps : ℕ) (fs : List Fact) (code result : List Stm) (after : List Fact) → AreLow temps fs → Propagated temps fs code result after → Kept code result
propagated_kept temps = propagated_is temps Kept (kept_closed temps)

pub propagated_well_formed : (body : Body) (code : List Stm) (last : List Fact) → Propagated body.temps [] body.code code last → IsWellFormed body →
    IsWellFormed (record body { code = code })
propagated_well_formed body code last h =
    let low = none_low body.temps in
    code_well_formed body code (propagated_kept body.temps [] body.code code last low h) (propagated_have_temps body code last h)
    (propagated_no_greater body.temps [] body.code code last low h)
