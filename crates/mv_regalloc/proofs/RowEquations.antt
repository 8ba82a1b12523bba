-- What is live at a statement, and its rows, at each variant.
use Rattle.std.proofs.Common.{◌≡◌, ℕ, true, false, List, [], ◌∷◌, ◌++◌, map, refl, sym, ap, ◌∙◌, Option, None, Some}
use Rattle.std.specs.Prelude.{slice_index_or}
use Rattle.mv_ir.specs.declared.tree.Tree.{Tree}
use Rattle.mv_ir.specs.declared.stm.Array.{Array}
use Rattle.mv_ir.specs.declared.stm.Callee.{Callee}
use Rattle.mv_ast.specs.declared.program.Known.{Known}
use Rattle.mv_ir.specs.declared.stm.Stm.{Stm}
use Rattle.mv_ir.specs.declared.stm.Stm as at
use Rattle.mv_ir.specs.declared.stm.Stm.TheOpen as stm
use Rattle.mv_ir.specs.declared.stm.Stm.TheViews.{roll-Stm}
use Rattle.mv_ir.specs.declared.stm.Stm.TheFolds.{fold-roll-Stm, map-Stm}
use Rattle.mv_ir.specs.declared.stm.Stm.TheVariants.{rolls-Set, rolls-SetGlobal, rolls-Divide, rolls-Check, rolls-Read, rolls-Write, rolls-Zero, rolls-If, rolls-Loop, rolls-Block, rolls-Break, rolls-Back, rolls-Call, rolls-Known, rolls-Return}
use Rattle.mv_ir.specs.Measures.{callee_trees}
use Rattle.mv_regalloc.specs.Rows.{Bits, own_layer, own_trees, with_all_reads, put_bit, either_bits, Sets, sets_inside, live_before, rows_in_order, stm_rows}
use Rattle.mv_regalloc.proofs.RowsShow.{rows_roll}

-- ---- the trees of a statement

own_roll : (x : stm.Stm-F Stm) → own_trees (roll-Stm x) ≡ own_layer x
unfolding own_trees
own_roll x = fold-roll-Stm (List Tree) own_layer x ∙ layer x
  where
    layer : (x : stm.Stm-F Stm) → own_layer (map-Stm Stm (List Tree) own_trees x) ≡ own_layer x
    layer (stm.Set t v) = refl
    layer (stm.SetGlobal g v) = refl
    layer (stm.Divide t o a b) = refl
    layer (stm.Check a i) = refl
    layer (stm.Read t a i) = refl
    layer (stm.Write a i v) = refl
    layer (stm.Zero l) = refl
    layer (stm.If t a b) = refl
    layer (stm.Loop b) = refl
    layer (stm.Block b) = refl
    layer (stm.Break n) = refl
    layer (stm.Back n) = refl
    layer (stm.Call u f args) = refl
    layer (stm.Known u k args) = refl
    layer (stm.Return v) = refl

pub own_set : (t : ℕ) (v : Tree) → own_trees (at.Set t v) ≡ v ∷ []
own_set t v = ap own_trees (sym (rolls-Set t v)) ∙ own_roll (stm.Set t v)

pub own_setglobal : (g : ℕ) (v : Tree) → own_trees (at.SetGlobal g v) ≡ v ∷ []
own_setglobal g v = ap own_trees (sym (rolls-SetGlobal g v)) ∙ own_roll (stm.SetGlobal g v)

pub own_divide : (t : ℕ) (o : ℕ) (a : Tree) (b : Tree) → own_trees (at.Divide t o a b) ≡ a ∷ b ∷ []
own_divide t o a b = ap own_trees (sym (rolls-Divide t o a b)) ∙ own_roll (stm.Divide t o a b)

pub own_check : (a : Array) (i : Tree) → own_trees (at.Check a i) ≡ i ∷ []
own_check a i = ap own_trees (sym (rolls-Check a i)) ∙ own_roll (stm.Check a i)

pub own_read : (t : ℕ) (a : Array) (i : Tree) → own_trees (at.Read t a i) ≡ i ∷ []
own_read t a i = ap own_trees (sym (rolls-Read t a i)) ∙ own_roll (stm.Read t a i)

pub own_write : (a : Array) (i : Tree) (v : Tree) → own_trees (at.Write a i v) ≡ i ∷ v ∷ []
own_write a i v = ap own_trees (sym (rolls-Write a i v)) ∙ own_roll (stm.Write a i v)

pub own_zero : (l : ℕ) → own_trees (at.Zero l) ≡ []
own_zero l = ap own_trees (sym (rolls-Zero l)) ∙ own_roll (stm.Zero l)

pub own_if : (t : Tree) (a : List Stm) (b : List Stm) → own_trees (at.If t a b) ≡ t ∷ []
own_if t a b = ap own_trees (sym (rolls-If t a b)) ∙ own_roll (stm.If t a b)

pub own_loop : (b : List Stm) → own_trees (at.Loop b) ≡ []
own_loop b = ap own_trees (sym (rolls-Loop b)) ∙ own_roll (stm.Loop b)

pub own_block : (b : List Stm) → own_trees (at.Block b) ≡ []
own_block b = ap own_trees (sym (rolls-Block b)) ∙ own_roll (stm.Block b)

pub own_break : (n : ℕ) → own_trees (at.Break n) ≡ []
own_break n = ap own_trees (sym (rolls-Break n)) ∙ own_roll (stm.Break n)

pub own_back : (n : ℕ) → own_trees (at.Back n) ≡ []
own_back n = ap own_trees (sym (rolls-Back n)) ∙ own_roll (stm.Back n)

pub own_call : (u : Option ℕ) (f : Callee) (args : List Tree) → own_trees (at.Call u f args) ≡ callee_trees f ++ args
own_call u f args = ap own_trees (sym (rolls-Call u f args)) ∙ own_roll (stm.Call u f args)

pub own_known : (u : Option ℕ) (k : Known) (args : List Tree) → own_trees (at.Known u k args) ≡ args
own_known u k args = ap own_trees (sym (rolls-Known u k args)) ∙ own_roll (stm.Known u k args)

pub own_return : (v : Tree) → own_trees (at.Return v) ≡ v ∷ []
own_return v = ap own_trees (sym (rolls-Return v)) ∙ own_roll (stm.Return v)

-- ---- what is live, and rows

module _ (r : Sets) where
  abbrev live_of : Stm → Bits
  live_of s = (stm_rows s).live r

  abbrev rows_of : Stm → List Bits
  rows_of s = (stm_rows s).rows r

  pub live_set : (t : ℕ) (v : Tree) → live_of (at.Set t v) ≡ with_all_reads (own_trees (at.Set t v)) (put_bit (Some t) false r.next)
  live_set t v = ap live_of (sym (rolls-Set t v)) ∙ ap (λ x. x.live r) (rows_roll (stm.Set t v)) ∙ ap (λ l. with_all_reads l (put_bit (Some t) false r.next)) (sym (own_set t v))

  pub rows_set : (t : ℕ) (v : Tree) → rows_of (at.Set t v) ≡ put_bit (Some t) true (live_of (at.Set t v)) ∷ []
  rows_set t v = ap rows_of (sym (rolls-Set t v)) ∙ ap (λ x. x.rows r) (rows_roll (stm.Set t v)) ∙ ap (λ l. put_bit (Some t) true l ∷ []) (ap (λ x. x.live r) (sym (rows_roll (stm.Set t v))) ∙ ap live_of (rolls-Set t v))

  pub live_setglobal : (g : ℕ) (v : Tree) → live_of (at.SetGlobal g v) ≡ with_all_reads (own_trees (at.SetGlobal g v)) (r.next)
  live_setglobal g v = ap live_of (sym (rolls-SetGlobal g v)) ∙ ap (λ x. x.live r) (rows_roll (stm.SetGlobal g v)) ∙ ap (λ l. with_all_reads l (r.next)) (sym (own_setglobal g v))

  pub rows_setglobal : (g : ℕ) (v : Tree) → rows_of (at.SetGlobal g v) ≡ put_bit None true (live_of (at.SetGlobal g v)) ∷ []
  rows_setglobal g v =
      ap rows_of (sym (rolls-SetGlobal g v)) ∙ ap (λ x. x.rows r) (rows_roll (stm.SetGlobal g v)) ∙
      ap (λ l. put_bit None true l ∷ []) (ap (λ x. x.live r) (sym (rows_roll (stm.SetGlobal g v))) ∙ ap live_of (rolls-SetGlobal g v))

  pub live_divide : (t : ℕ) (o : ℕ) (a : Tree) (b : Tree) → live_of (at.Divide t o a b) ≡ with_all_reads (own_trees (at.Divide t o a b)) (put_bit (Some t) false r.next)
  live_divide t o a b = ap live_of (sym (rolls-Divide t o a b)) ∙ ap (λ x. x.live r) (rows_roll (stm.Divide t o a b)) ∙ ap (λ l. with_all_reads l (put_bit (Some t) false r.next)) (sym (own_divide t o a b))

  pub rows_divide : (t : ℕ) (o : ℕ) (a : Tree) (b : Tree) → rows_of (at.Divide t o a b) ≡ put_bit (Some t) true (live_of (at.Divide t o a b)) ∷ []
  rows_divide t o a b =
      ap rows_of (sym (rolls-Divide t o a b)) ∙ ap (λ x. x.rows r) (rows_roll (stm.Divide t o a b)) ∙
      ap (λ l. put_bit (Some t) true l ∷ []) (ap (λ x. x.live r) (sym (rows_roll (stm.Divide t o a b))) ∙ ap live_of (rolls-Divide t o a b))

  pub live_check : (a : Array) (i : Tree) → live_of (at.Check a i) ≡ with_all_reads (own_trees (at.Check a i)) (r.next)
  live_check a i = ap live_of (sym (rolls-Check a i)) ∙ ap (λ x. x.live r) (rows_roll (stm.Check a i)) ∙ ap (λ l. with_all_reads l (r.next)) (sym (own_check a i))

  pub rows_check : (a : Array) (i : Tree) → rows_of (at.Check a i) ≡ put_bit None true (live_of (at.Check a i)) ∷ []
  rows_check a i = ap rows_of (sym (rolls-Check a i)) ∙ ap (λ x. x.rows r) (rows_roll (stm.Check a i)) ∙ ap (λ l. put_bit None true l ∷ []) (ap (λ x. x.live r) (sym (rows_roll (stm.Check a i))) ∙ ap live_of (rolls-Check a i))

  pub live_read : (t : ℕ) (a : Array) (i : Tree) → live_of (at.Read t a i) ≡ with_all_reads (own_trees (at.Read t a i)) (put_bit (Some t) false r.next)
  live_read t a i = ap live_of (sym (rolls-Read t a i)) ∙ ap (λ x. x.live r) (rows_roll (stm.Read t a i)) ∙ ap (λ l. with_all_reads l (put_bit (Some t) false r.next)) (sym (own_read t a i))

  pub rows_read : (t : ℕ) (a : Array) (i : Tree) → rows_of (at.Read t a i) ≡ put_bit (Some t) true (live_of (at.Read t a i)) ∷ []
  rows_read t a i = ap rows_of (sym (rolls-Read t a i)) ∙ ap (λ x. x.rows r) (rows_roll (stm.Read t a i)) ∙ ap (λ l. put_bit (Some t) true l ∷ []) (ap (λ x. x.live r) (sym (rows_roll (stm.Read t a i))) ∙ ap live_of (rolls-Read t a i))

  pub live_write : (a : Array) (i : Tree) (v : Tree) → live_of (at.Write a i v) ≡ with_all_reads (own_trees (at.Write a i v)) (r.next)
  live_write a i v = ap live_of (sym (rolls-Write a i v)) ∙ ap (λ x. x.live r) (rows_roll (stm.Write a i v)) ∙ ap (λ l. with_all_reads l (r.next)) (sym (own_write a i v))

  pub rows_write : (a : Array) (i : Tree) (v : Tree) → rows_of (at.Write a i v) ≡ put_bit None true (live_of (at.Write a i v)) ∷ []
  rows_write a i v = ap rows_of (sym (rolls-Write a i v)) ∙ ap (λ x. x.rows r) (rows_roll (stm.Write a i v)) ∙ ap (λ l. put_bit None true l ∷ []) (ap (λ x. x.live r) (sym (rows_roll (stm.Write a i v))) ∙ ap live_of (rolls-Write a i v))

  pub live_zero : (l : ℕ) → live_of (at.Zero l) ≡ r.next
  live_zero l = ap live_of (sym (rolls-Zero l)) ∙ ap (λ x. x.live r) (rows_roll (stm.Zero l))

  pub rows_zero : (l : ℕ) → rows_of (at.Zero l) ≡ put_bit None true (live_of (at.Zero l)) ∷ []
  rows_zero l = ap rows_of (sym (rolls-Zero l)) ∙ ap (λ x. x.rows r) (rows_roll (stm.Zero l)) ∙ ap (λ l. put_bit None true l ∷ []) (ap (λ x. x.live r) (sym (rows_roll (stm.Zero l))) ∙ ap live_of (rolls-Zero l))

  pub live_if : (t : Tree) (a : List Stm) (b : List Stm) → live_of (at.If t a b) ≡ with_all_reads (own_trees (at.If t a b)) (either_bits (live_before (map stm_rows a) r) (live_before (map stm_rows b) r))
  live_if t a b = ap live_of (sym (rolls-If t a b)) ∙ ap (λ x. x.live r) (rows_roll (stm.If t a b)) ∙ ap (λ l. with_all_reads l (either_bits (live_before (map stm_rows a) r) (live_before (map stm_rows b) r))) (sym (own_if t a b))

  pub rows_if : (t : Tree) (a : List Stm) (b : List Stm) → rows_of (at.If t a b) ≡ live_of (at.If t a b) ∷ (rows_in_order (map stm_rows a) r ++ rows_in_order (map stm_rows b) r)
  rows_if t a b =
      ap rows_of (sym (rolls-If t a b)) ∙ ap (λ x. x.rows r) (rows_roll (stm.If t a b)) ∙
      ap (λ l. l ∷ (rows_in_order (map stm_rows a) r ++ rows_in_order (map stm_rows b) r))
      (ap (λ x. x.live r) (sym (rows_roll (stm.If t a b))) ∙ ap live_of (rolls-If t a b))

  pub live_loop : (b : List Stm) → live_of (at.Loop b) ≡ live_before (map stm_rows b) (sets_inside r r.none r.none)
  live_loop b = ap live_of (sym (rolls-Loop b)) ∙ ap (λ x. x.live r) (rows_roll (stm.Loop b))

  pub rows_loop : (b : List Stm) → rows_of (at.Loop b) ≡ live_of (at.Loop b) ∷ rows_in_order (map stm_rows b) (sets_inside r (live_of (at.Loop b)) (live_of (at.Loop b)))
  rows_loop b = ap rows_of (sym (rolls-Loop b)) ∙ ap (λ x. x.rows r) (rows_roll (stm.Loop b)) ∙ ap (λ l. l ∷ rows_in_order (map stm_rows b) (sets_inside r l l)) (ap (λ x. x.live r) (sym (rows_roll (stm.Loop b))) ∙ ap live_of (rolls-Loop b))

  pub live_block : (b : List Stm) → live_of (at.Block b) ≡ live_before (map stm_rows b) (sets_inside r r.next r.none)
  live_block b = ap live_of (sym (rolls-Block b)) ∙ ap (λ x. x.live r) (rows_roll (stm.Block b))

  pub rows_block : (b : List Stm) → rows_of (at.Block b) ≡ live_of (at.Block b) ∷ rows_in_order (map stm_rows b) (sets_inside r r.next r.none)
  rows_block b =
      ap rows_of (sym (rolls-Block b)) ∙ ap (λ x. x.rows r) (rows_roll (stm.Block b)) ∙
      ap (λ l. l ∷ rows_in_order (map stm_rows b) (sets_inside r r.next r.none))
      (ap (λ x. x.live r) (sym (rows_roll (stm.Block b))) ∙ ap live_of (rolls-Block b))

  pub live_break : (n : ℕ) → live_of (at.Break n) ≡ slice_index_or r.leaves n r.none
  live_break n = ap live_of (sym (rolls-Break n)) ∙ ap (λ x. x.live r) (rows_roll (stm.Break n))

  pub rows_break : (n : ℕ) → rows_of (at.Break n) ≡ put_bit None true (live_of (at.Break n)) ∷ []
  rows_break n = ap rows_of (sym (rolls-Break n)) ∙ ap (λ x. x.rows r) (rows_roll (stm.Break n)) ∙ ap (λ l. put_bit None true l ∷ []) (ap (λ x. x.live r) (sym (rows_roll (stm.Break n))) ∙ ap live_of (rolls-Break n))

  pub live_back : (n : ℕ) → live_of (at.Back n) ≡ slice_index_or r.restarts n r.none
  live_back n = ap live_of (sym (rolls-Back n)) ∙ ap (λ x. x.live r) (rows_roll (stm.Back n))

  pub rows_back : (n : ℕ) → rows_of (at.Back n) ≡ put_bit None true (live_of (at.Back n)) ∷ []
  rows_back n = ap rows_of (sym (rolls-Back n)) ∙ ap (λ x. x.rows r) (rows_roll (stm.Back n)) ∙ ap (λ l. put_bit None true l ∷ []) (ap (λ x. x.live r) (sym (rows_roll (stm.Back n))) ∙ ap live_of (rolls-Back n))

  pub live_call : (u : Option ℕ) (f : Callee) (args : List Tree) → live_of (at.Call u f args) ≡ with_all_reads (own_trees (at.Call u f args)) (put_bit u false r.next)
  live_call u f args = ap live_of (sym (rolls-Call u f args)) ∙ ap (λ x. x.live r) (rows_roll (stm.Call u f args)) ∙ ap (λ l. with_all_reads l (put_bit u false r.next)) (sym (own_call u f args))

  pub rows_call : (u : Option ℕ) (f : Callee) (args : List Tree) → rows_of (at.Call u f args) ≡ put_bit u true (live_of (at.Call u f args)) ∷ []
  rows_call u f args =
      ap rows_of (sym (rolls-Call u f args)) ∙ ap (λ x. x.rows r) (rows_roll (stm.Call u f args)) ∙
      ap (λ l. put_bit u true l ∷ []) (ap (λ x. x.live r) (sym (rows_roll (stm.Call u f args))) ∙ ap live_of (rolls-Call u f args))

  pub live_known : (u : Option ℕ) (k : Known) (args : List Tree) → live_of (at.Known u k args) ≡ with_all_reads (own_trees (at.Known u k args)) (put_bit u false r.next)
  live_known u k args = ap live_of (sym (rolls-Known u k args)) ∙ ap (λ x. x.live r) (rows_roll (stm.Known u k args)) ∙ ap (λ l. with_all_reads l (put_bit u false r.next)) (sym (own_known u k args))

  pub rows_known : (u : Option ℕ) (k : Known) (args : List Tree) → rows_of (at.Known u k args) ≡ put_bit u true (live_of (at.Known u k args)) ∷ []
  rows_known u k args =
      ap rows_of (sym (rolls-Known u k args)) ∙ ap (λ x. x.rows r) (rows_roll (stm.Known u k args)) ∙
      ap (λ l. put_bit u true l ∷ []) (ap (λ x. x.live r) (sym (rows_roll (stm.Known u k args))) ∙ ap live_of (rolls-Known u k args))

  pub live_return : (v : Tree) → live_of (at.Return v) ≡ with_all_reads (own_trees (at.Return v)) (r.none)
  live_return v = ap live_of (sym (rolls-Return v)) ∙ ap (λ x. x.live r) (rows_roll (stm.Return v)) ∙ ap (λ l. with_all_reads l (r.none)) (sym (own_return v))

  pub rows_return : (v : Tree) → rows_of (at.Return v) ≡ put_bit None true (live_of (at.Return v)) ∷ []
  rows_return v = ap rows_of (sym (rolls-Return v)) ∙ ap (λ x. x.rows r) (rows_roll (stm.Return v)) ∙ ap (λ l. put_bit None true l ∷ []) (ap (λ x. x.live r) (sym (rows_roll (stm.Return v))) ∙ ap live_of (rolls-Return v))

pub ruleset live_stms = (live_set, live_setglobal, live_divide, live_check, live_read, live_write, live_zero, live_if, live_loop, live_block, live_break, live_back, live_call, live_known, live_return, own_zero, own_break, own_back)

pub ruleset marked_stms = (
  live_set,
  live_setglobal,
  live_divide,
  live_check,
  live_read,
  live_write,
  live_zero,
  live_if,
  live_block,
  live_break,
  live_back,
  live_call,
  live_known,
  live_return,
  own_zero,
  own_if,
  own_break,
  own_back,
  rows_set,
  rows_setglobal,
  rows_divide,
  rows_check,
  rows_read,
  rows_write,
  rows_zero,
  rows_if,
  rows_loop,
  rows_block,
  rows_break,
  rows_back,
  rows_call,
  rows_known,
  rows_return,
)

pub ruleset owned_stms = (own_set, own_setglobal, own_divide, own_check, own_read, own_write, own_zero, own_if, own_loop, own_block, own_break, own_back, own_call, own_known, own_return)
