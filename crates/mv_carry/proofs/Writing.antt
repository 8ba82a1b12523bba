-- What a walk over code leaves of what is known is what is known of temporaries that the code doesn't write.
use Rattle.std.proofs.Common.{◌≡◌, ℕ, ◌+◌, ◌<◌, Bool, true, false, not, cond, eqb, List, [], ◌∷◌, length, map, take, get_or, Option, Some, None, refl, sym, ◌∙◌, ap}
use Rattle.std.specs.Prelude.{◌||◌}
use Rattle.mv_ast.specs.Names.{any_of}
use Rattle.mv_ast.specs.declared.program.Known.{Known}
use Rattle.mv_ir.specs.declared.tree.Tree.{Tree}
use Rattle.mv_ir.specs.declared.stm.Array.{Array}
use Rattle.mv_ir.specs.declared.stm.Callee.{Callee}
use Rattle.mv_ir.specs.declared.stm.Stm.{Stm}
use Rattle.mv_ir.specs.declared.stm.Stm as at
use Rattle.mv_ir.specs.Live.{is}
use Rattle.mv_ir.proofs.Common.{eqb_swapped}
use Rattle.mv_ir.proofs.Rolls.{same_functions}
use Rattle.mv_carry.specs.declared.facts.Fact.{Fact}
use Rattle.mv_carry.specs.declared.facts.Reach.{Reach}
use Rattle.mv_carry.specs.declared.facts.Reach.TheVariants.{Never, Knowing}
use Rattle.mv_carry.specs.declared.walk.Walk.{Walk}
use Rattle.mv_carry.specs.Facts.{number_of, without, known, with_facts}
use Rattle.mv_carry.specs.Carrying.{wrote, writes, unwritten, unwritten_by, without_result}
use Rattle.mv_carry.proofs.Equations.{any_more, writing_set, writing_setglobal, writing_divide, writing_check, writing_read, writing_write, writing_zero, writing_if, writing_loop, writing_block, writing_break, writing_back, writing_call, writing_known, writing_return}

-- ---- facts

-- what isn't known of a temporary needn't be forgotten
pub without_unknown : (t : ℕ) (fs : List Fact) → number_of fs t ≡ None → without t fs ≡ fs
without_unknown t [] e = refl
without_unknown t (f ∷ fs) e = by (eqb f.temp t) e (without_unknown t fs)
  where
    by : (c : Bool) → cond c (Some f.number) (number_of fs t) ≡ None → (number_of fs t ≡ None → without t fs ≡ fs) → cond (not c) (f ∷ without t fs) (without t fs) ≡ f ∷ fs
    by true k rest = absurd (cc)
    by false k rest = ap (λ gs. f ∷ gs) (rest k)

unknown_there : (t : ℕ) (r : Reach) → number_of (known r) t ≡ None → with_facts (without t) r ≡ r
unknown_there t Never e = refl
unknown_there t (Knowing fs) e = ap Knowing (without_unknown t fs e)

pub wrote_unknown : (t : ℕ) (w : Walk) → number_of (known w.here) t ≡ None → wrote t w ≡ w
wrote_unknown t w e = ap (λ r. record w { here = r }) (unknown_there t w.here e)

nothing_written : (fs : List Fact) → unwritten (λ t. false) fs ≡ fs
nothing_written [] = refl
nothing_written (f ∷ fs) = ap (λ gs. f ∷ gs) (nothing_written fs)

both_unwritten : (p q : ℕ → Bool) (fs : List Fact) → unwritten (λ t. p t || q t) fs ≡ unwritten q (unwritten p fs)
both_unwritten p q [] = refl
both_unwritten p q (f ∷ fs) = by (p f.temp) (both_unwritten p q fs)
  where
    by : (c : Bool) → unwritten (λ t. p t || q t) fs ≡ unwritten q (unwritten p fs) →
        cond (not (c || q f.temp)) (f ∷ unwritten (λ t. p t || q t) fs) (unwritten (λ t. p t || q t) fs) ≡ unwritten q (cond (not c) (f ∷ unwritten p fs) (unwritten p fs))
    by true rest = rest
    by false rest = ap (λ gs. cond (not (q f.temp)) (f ∷ gs) gs) rest

as_unwritten : (p q : ℕ → Bool) (fs : List Fact) → ((t : ℕ) → p t ≡ q t) → unwritten p fs ≡ unwritten q fs
as_unwritten p q fs h = ap (λ f. unwritten f fs) (same_functions p q h)

one_unwritten : (t : ℕ) (fs : List Fact) → unwritten (λ u. eqb t u) fs ≡ without t fs
one_unwritten t fs = as_unwritten (λ u. eqb t u) (λ u. eqb u t) fs (λ u. eqb_swapped t u)

result_unwritten : (r : Option ℕ) (fs : List Fact) → unwritten (λ u. is r u) fs ≡ without_result r fs
result_unwritten None fs = nothing_written fs
result_unwritten (Some t) fs = one_unwritten t fs

-- ---- a statement

-- where a statement writes a temporary alone, and where it writes none
writes_one : (s : Stm) (t : ℕ) (fs : List Fact) → ((u : ℕ) → writes u s ≡ eqb t u) → unwritten_by s fs ≡ without t fs
unfolding unwritten_by
writes_one s t fs h = as_unwritten (λ u. writes u s) (λ u. eqb t u) fs h ∙ one_unwritten t fs

writes_none : (s : Stm) (fs : List Fact) → ((u : ℕ) → writes u s ≡ false) → unwritten_by s fs ≡ fs
unfolding unwritten_by
writes_none s fs h = as_unwritten (λ u. writes u s) (λ u. false) fs h ∙ nothing_written fs

writes_result : (s : Stm) (r : Option ℕ) (fs : List Fact) → ((u : ℕ) → writes u s ≡ is r u) → unwritten_by s fs ≡ without_result r fs
unfolding unwritten_by
writes_result s r fs h = as_unwritten (λ u. writes u s) (λ u. is r u) fs h ∙ result_unwritten r fs

abbrev some_write : List Stm → ℕ → Bool
some_write b u = any_of (map (writes u) b)

pub by_set : (t : ℕ) (v : Tree) (fs : List Fact) → unwritten_by (at.Set t v) fs ≡ without t fs
by_set t v fs = writes_one (at.Set t v) t fs (λ u. writing_set u t v)

pub by_setglobal : (g : ℕ) (v : Tree) (fs : List Fact) → unwritten_by (at.SetGlobal g v) fs ≡ fs
by_setglobal g v fs = writes_none (at.SetGlobal g v) fs (λ u. writing_setglobal u g v)

pub by_divide : (t o : ℕ) (a b : Tree) (fs : List Fact) → unwritten_by (at.Divide t o a b) fs ≡ without t fs
by_divide t o a b fs = writes_one (at.Divide t o a b) t fs (λ u. writing_divide u t o a b)

pub by_check : (a : Array) (i : Tree) (fs : List Fact) → unwritten_by (at.Check a i) fs ≡ fs
by_check a i fs = writes_none (at.Check a i) fs (λ u. writing_check u a i)

pub by_read : (t : ℕ) (a : Array) (i : Tree) (fs : List Fact) → unwritten_by (at.Read t a i) fs ≡ without t fs
by_read t a i fs = writes_one (at.Read t a i) t fs (λ u. writing_read u t a i)

pub by_write : (a : Array) (i v : Tree) (fs : List Fact) → unwritten_by (at.Write a i v) fs ≡ fs
by_write a i v fs = writes_none (at.Write a i v) fs (λ u. writing_write u a i v)

pub by_zero : (l : ℕ) (fs : List Fact) → unwritten_by (at.Zero l) fs ≡ fs
by_zero l fs = writes_none (at.Zero l) fs (λ u. writing_zero u l)

pub by_if : (t : Tree) (a b : List Stm) (fs : List Fact) → unwritten_by (at.If t a b) fs ≡ unwritten (λ u. any_of (map (writes u) b)) (unwritten (λ u. any_of (map (writes u) a)) fs)
unfolding unwritten_by
by_if t a b fs = as_unwritten (λ u. writes u (at.If t a b)) (λ u. some_write a u || some_write b u) fs (λ u. writing_if u t a b) ∙ both_unwritten (some_write a) (some_write b) fs

pub by_loop : (b : List Stm) (fs : List Fact) → unwritten_by (at.Loop b) fs ≡ unwritten (λ u. any_of (map (writes u) b)) fs
unfolding unwritten_by
by_loop b fs = as_unwritten (λ u. writes u (at.Loop b)) (some_write b) fs (λ u. writing_loop u b)

pub by_block : (b : List Stm) (fs : List Fact) → unwritten_by (at.Block b) fs ≡ unwritten (λ u. any_of (map (writes u) b)) fs
unfolding unwritten_by
by_block b fs = as_unwritten (λ u. writes u (at.Block b)) (some_write b) fs (λ u. writing_block u b)

pub by_break : (n : ℕ) (fs : List Fact) → unwritten_by (at.Break n) fs ≡ fs
by_break n fs = writes_none (at.Break n) fs (λ u. writing_break u n)

pub by_back : (n : ℕ) (fs : List Fact) → unwritten_by (at.Back n) fs ≡ fs
by_back n fs = writes_none (at.Back n) fs (λ u. writing_back u n)

pub by_call : (r : Option ℕ) (f : Callee) (args : List Tree) (fs : List Fact) → unwritten_by (at.Call r f args) fs ≡ without_result r fs
by_call r f args fs = writes_result (at.Call r f args) r fs (λ u. writing_call u r f args)

pub by_known : (r : Option ℕ) (k : Known) (args : List Tree) (fs : List Fact) → unwritten_by (at.Known r k args) fs ≡ without_result r fs
by_known r k args fs = writes_result (at.Known r k args) r fs (λ u. writing_known u r k args)

pub by_return : (v : Tree) (fs : List Fact) → unwritten_by (at.Return v) fs ≡ fs
by_return v fs = writes_none (at.Return v) fs (λ u. writing_return u v)

pub ruleset unwritings = (by_set, by_setglobal, by_divide, by_check, by_read, by_write, by_zero, by_if, by_loop, by_block, by_break, by_back, by_call, by_known, by_return)

-- ---- a list, and one more of it

pub none_unwritten : (fs : List Fact) → unwritten (λ u. any_of (map (writes u) [])) fs ≡ fs
none_unwritten fs = nothing_written fs

pub unwritten_more : (code : List Stm) (i : ℕ) (d : Stm) (fs : List Fact) → i < length code →
    unwritten (λ u. any_of (map (writes u) (take (i + 1) code))) fs ≡ unwritten_by (get_or code i d) (unwritten (λ u. any_of (map (writes u) (take i code))) fs)
unfolding unwritten_by
unwritten_more code i d fs lt =
    as_unwritten (λ u. any_of (map (writes u) (take (i + 1) code))) (λ u. any_of (map (writes u) (take i code)) || writes u (get_or code i d)) fs (λ u. any_more u code i d lt) ∙
    both_unwritten (λ u. any_of (map (writes u) (take i code))) (λ u. writes u (get_or code i d)) fs

pub forgotten_more : (items code : List Stm) (i : ℕ) (s : Stm) (fs gs hs : List Fact) → items ≡ code → i < length items → s ≡ get_or items i s →
    gs ≡ unwritten (λ t. any_of (map (writes t) (take i code))) fs → hs ≡ unwritten_by s gs →
    hs ≡ unwritten (λ t. any_of (map (writes t) (take (i + 1) code))) fs
forgotten_more items code i s fs gs hs same lt is before now =
    now ∙ ap (λ z. unwritten_by z gs) is ∙ ap (unwritten_by (get_or items i s)) (before ∙ ap (λ c. unwritten (λ t. any_of (map (writes t) (take i c))) fs) (sym same)) ∙ sym (unwritten_more items i s fs lt) ∙
    ap (λ c. unwritten (λ t. any_of (map (writes t) (take (i + 1) c))) fs) same
