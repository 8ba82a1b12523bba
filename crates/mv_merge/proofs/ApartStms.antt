-- A statement's variant determines its parts.
use Rattle.std.proofs.Common.{◌≡◌, ℕ, List, Option, ap, sym, ◌∙◌}
use Rattle.mv_ir.specs.declared.tree.Tree.{Tree}
use Rattle.mv_ir.specs.declared.stm.Array.{Array}
use Rattle.mv_ir.specs.declared.stm.Callee.{Callee}
use Rattle.mv_ast.specs.declared.program.Known.{Known}
use Rattle.mv_ir.specs.declared.stm.Stm.{Stm, out-Stm}
use Rattle.mv_ir.specs.declared.stm.Stm as at
use Rattle.mv_ir.specs.declared.stm.Stm.TheOpen as stm
use Rattle.mv_ir.specs.declared.stm.Stm.TheViews.{outs-Set, outs-SetGlobal, outs-Divide, outs-Check, outs-Read, outs-Write, outs-Zero, outs-If, outs-Loop, outs-Block, outs-Break, outs-Back, outs-Call, outs-Known, outs-Return}

pub apart_set_stm : (t : ℕ) (v : Tree) (t' : ℕ) (v' : Tree) → at.Set t v ≡ at.Set t' v' → (t ≡ t') × (v ≡ v')
apart_set_stm t v t' v' e = let h : stm.Set t v ≡ stm.Set t' v' = sym (outs-Set t v) ∙ ap out-Stm e ∙ outs-Set t' v' in (cc, cc)

pub apart_setglobal_stm : (g : ℕ) (v : Tree) (g' : ℕ) (v' : Tree) → at.SetGlobal g v ≡ at.SetGlobal g' v' → (g ≡ g') × (v ≡ v')
apart_setglobal_stm g v g' v' e = let h : stm.SetGlobal g v ≡ stm.SetGlobal g' v' = sym (outs-SetGlobal g v) ∙ ap out-Stm e ∙ outs-SetGlobal g' v' in (cc, cc)

pub apart_divide_stm : (t : ℕ) (o : ℕ) (a : Tree) (b : Tree) (t' : ℕ) (o' : ℕ) (a' : Tree) (b' : Tree) → at.Divide t o a b ≡ at.Divide t' o' a' b' → (t ≡ t') × (o ≡ o') × (a ≡ a') × (b ≡ b')
apart_divide_stm t o a b t' o' a' b' e = let h : stm.Divide t o a b ≡ stm.Divide t' o' a' b' = sym (outs-Divide t o a b) ∙ ap out-Stm e ∙ outs-Divide t' o' a' b' in (cc, cc, cc, cc)

pub apart_check_stm : (a : Array) (i : Tree) (a' : Array) (i' : Tree) → at.Check a i ≡ at.Check a' i' → (a ≡ a') × (i ≡ i')
apart_check_stm a i a' i' e = let h : stm.Check a i ≡ stm.Check a' i' = sym (outs-Check a i) ∙ ap out-Stm e ∙ outs-Check a' i' in (cc, cc)

pub apart_read_stm : (t : ℕ) (a : Array) (i : Tree) (t' : ℕ) (a' : Array) (i' : Tree) → at.Read t a i ≡ at.Read t' a' i' → (t ≡ t') × (a ≡ a') × (i ≡ i')
apart_read_stm t a i t' a' i' e = let h : stm.Read t a i ≡ stm.Read t' a' i' = sym (outs-Read t a i) ∙ ap out-Stm e ∙ outs-Read t' a' i' in (cc, cc, cc)

pub apart_write_stm : (a : Array) (i : Tree) (v : Tree) (a' : Array) (i' : Tree) (v' : Tree) → at.Write a i v ≡ at.Write a' i' v' → (a ≡ a') × (i ≡ i') × (v ≡ v')
apart_write_stm a i v a' i' v' e = let h : stm.Write a i v ≡ stm.Write a' i' v' = sym (outs-Write a i v) ∙ ap out-Stm e ∙ outs-Write a' i' v' in (cc, cc, cc)

pub apart_zero_stm : (l : ℕ) (l' : ℕ) → at.Zero l ≡ at.Zero l' → (l ≡ l')
apart_zero_stm l l' e = let h : stm.Zero l ≡ stm.Zero l' = sym (outs-Zero l) ∙ ap out-Stm e ∙ outs-Zero l' in cc

pub apart_if_stm : (t : Tree) (a : List Stm) (b : List Stm) (t' : Tree) (a' : List Stm) (b' : List Stm) → at.If t a b ≡ at.If t' a' b' → (t ≡ t') × (a ≡ a') × (b ≡ b')
apart_if_stm t a b t' a' b' e = let h : stm.If t a b ≡ stm.If t' a' b' = sym (outs-If t a b) ∙ ap out-Stm e ∙ outs-If t' a' b' in (cc, cc, cc)

pub apart_loop_stm : (b : List Stm) (b' : List Stm) → at.Loop b ≡ at.Loop b' → (b ≡ b')
apart_loop_stm b b' e = let h : stm.Loop b ≡ stm.Loop b' = sym (outs-Loop b) ∙ ap out-Stm e ∙ outs-Loop b' in cc

pub apart_block_stm : (b : List Stm) (b' : List Stm) → at.Block b ≡ at.Block b' → (b ≡ b')
apart_block_stm b b' e = let h : stm.Block b ≡ stm.Block b' = sym (outs-Block b) ∙ ap out-Stm e ∙ outs-Block b' in cc

pub apart_break_stm : (n : ℕ) (n' : ℕ) → at.Break n ≡ at.Break n' → (n ≡ n')
apart_break_stm n n' e = let h : stm.Break n ≡ stm.Break n' = sym (outs-Break n) ∙ ap out-Stm e ∙ outs-Break n' in cc

pub apart_back_stm : (n : ℕ) (n' : ℕ) → at.Back n ≡ at.Back n' → (n ≡ n')
apart_back_stm n n' e = let h : stm.Back n ≡ stm.Back n' = sym (outs-Back n) ∙ ap out-Stm e ∙ outs-Back n' in cc

pub apart_call_stm : (r : Option ℕ) (f : Callee) (args : List Tree) (r' : Option ℕ) (f' : Callee) (args' : List Tree) → at.Call r f args ≡ at.Call r' f' args' → (r ≡ r') × (f ≡ f') × (args ≡ args')
apart_call_stm r f args r' f' args' e = let h : stm.Call r f args ≡ stm.Call r' f' args' = sym (outs-Call r f args) ∙ ap out-Stm e ∙ outs-Call r' f' args' in (cc, cc, cc)

pub apart_known_stm : (r : Option ℕ) (k : Known) (args : List Tree) (r' : Option ℕ) (k' : Known) (args' : List Tree) → at.Known r k args ≡ at.Known r' k' args' → (r ≡ r') × (k ≡ k') × (args ≡ args')
apart_known_stm r k args r' k' args' e = let h : stm.Known r k args ≡ stm.Known r' k' args' = sym (outs-Known r k args) ∙ ap out-Stm e ∙ outs-Known r' k' args' in (cc, cc, cc)

pub apart_return_stm : (v : Tree) (v' : Tree) → at.Return v ≡ at.Return v' → (v ≡ v')
apart_return_stm v v' e = let h : stm.Return v ≡ stm.Return v' = sym (outs-Return v) ∙ ap out-Stm e ∙ outs-Return v' in cc

pub ruleset apart_stms = (
  apart_set_stm,
  apart_setglobal_stm,
  apart_divide_stm,
  apart_check_stm,
  apart_read_stm,
  apart_write_stm,
  apart_zero_stm,
  apart_if_stm,
  apart_loop_stm,
  apart_block_stm,
  apart_break_stm,
  apart_back_stm,
  apart_call_stm,
  apart_known_stm,
  apart_return_stm,
)
