-- Code with plainer trees, statement by statement and at each variant.
use Rattle.std.proofs.Common.{◌≡◌, ℕ, ◌+◌, ◌<◌, length, take, get_or, List, [], ◌∷◌, ◌++◌, Option, sym, ◌∙◌, ap, subst}
use Rattle.std.proofs.lemmas.List.{take_more}
use Rattle.mv_ast.specs.declared.program.Known.{Known}
use Rattle.mv_ir.specs.declared.tree.Tree.{Tree}
use Rattle.mv_ir.specs.declared.stm.Array.{Array}
use Rattle.mv_ir.specs.declared.stm.Callee.{Callee}
use Rattle.mv_ir.specs.declared.stm.Callee.TheVariants as callee
use Rattle.mv_ir.specs.declared.stm.Stm.{Stm}
use Rattle.mv_ir.specs.declared.stm.Stm as at
use Rattle.mv_ir.specs.declared.stm.Stm.TheVariants.{rolls-Set, rolls-SetGlobal, rolls-Divide, rolls-Check, rolls-Read, rolls-Write, rolls-If, rolls-Loop, rolls-Block, rolls-Call, rolls-Known, rolls-Return}
use Rattle.mv_plain.specs.Plain.{Plainer, ArePlainer, no_trees, more_trees, IsPlainerCallee, same_callee, through, PlainCode, no_code, more_code, PlainStm, as_was, set, set_global, divide, check, read, write, choice, turns, block, call, known, return}

-- ---- one more behind others

pub trees_push : (ts us : List Tree) (t u : Tree) → ArePlainer ts us → Plainer t u → ArePlainer (ts ++ t ∷ []) (us ++ u ∷ [])
trees_push ts us t u no_trees h = more_trees t u [] [] h no_trees
trees_push ts us t u (more_trees x y xs ys k ks) h = more_trees x y (xs ++ t ∷ []) (ys ++ u ∷ []) k (trees_push xs ys t u ks h)

pub code_push : (xs ys : List Stm) (s y : Stm) → PlainCode xs ys → PlainStm s y → PlainCode (xs ++ s ∷ []) (ys ++ y ∷ [])
code_push xs ys s y no_code h = more_code s y [] [] h no_code
code_push xs ys s y (more_code x z more rest k ks) h = more_code x z (more ++ s ∷ []) (rest ++ y ∷ []) k (code_push more rest s y ks h)

-- ---- as far as a loop over them has come

pub trees_begin : (ts us : List Tree) → us ≡ [] → ArePlainer (take 0 ts) us
trees_begin ts us e = subst (ArePlainer []) (sym e) no_trees

pub code_begins : (xs ys : List Stm) → ys ≡ [] → PlainCode (take 0 xs) ys
code_begins xs ys e = subst (PlainCode []) (sym e) no_code

pub trees_next : (ts items us us' : List Tree) (i : ℕ) (t u : Tree) → items ≡ ts → i < length items → t ≡ get_or items i t → ArePlainer (take i ts) us →
    Plainer t u → us' ≡ us ++ u ∷ [] → ArePlainer (take (i + 1) ts) us'
trees_next ts items us us' i t u same lt is h k made =
    let more = take_more items i t lt ∙ ap (λ x. take i items ++ x ∷ []) (sym is) in
    subst (λ xs. ArePlainer (take (i + 1) xs) us') same (subst (λ xs. ArePlainer xs us') (sym more) (subst (ArePlainer (take i items ++ t ∷ [])) (sym made)
    (trees_push (take i items) us t u (subst (λ xs. ArePlainer (take i xs) us) (sym same) h) k)))

pub code_next : (xs items ys ys' : List Stm) (i : ℕ) (s y : Stm) → items ≡ xs → i < length items → s ≡ get_or items i s → PlainCode (take i xs) ys →
    PlainStm s y → ys' ≡ ys ++ y ∷ [] → PlainCode (take (i + 1) xs) ys'
code_next xs items ys ys' i s y same lt is h k made =
    let more = take_more items i s lt ∙ ap (λ x. take i items ++ x ∷ []) (sym is) in
    subst (λ l. PlainCode (take (i + 1) l) ys') same (subst (λ l. PlainCode l ys') (sym more) (subst (PlainCode (take i items ++ s ∷ [])) (sym made)
    (code_push (take i items) ys s y (subst (λ l. PlainCode (take i l) ys) (sym same) h) k)))

-- ---- what a call goes to

pub callee_stays : (f g : Callee) → f ≡ g → IsPlainerCallee f g
callee_stays f g e = subst (IsPlainerCallee f) e (same_callee f)

pub callee_through : (f : Callee) (t u : Tree) → f ≡ callee.Through t → Plainer t u → IsPlainerCallee f (callee.Through u)
callee_through f t u e h = subst (λ g. IsPlainerCallee g (callee.Through u)) (sym e) (through t u h)

-- ---- statements

between : (s s' y y' : Stm) → s ≡ s' → y ≡ y' → PlainStm s y → PlainStm s' y'
between s s' y y' e f h = subst (λ x. PlainStm x y') e (subst (PlainStm s) f h)

pub plain_same : (s y : Stm) → y ≡ s → PlainStm s y
plain_same s y e = subst (PlainStm s) (sym e) (as_was s)

pub plain_set : (t : ℕ) (v w : Tree) → Plainer v w → PlainStm (at.Set t v) (at.Set t w)
plain_set t v w h = between _ _ _ _ (rolls-Set t v) (rolls-Set t w) (set t v w h)

pub plain_set_global : (g : ℕ) (v w : Tree) → Plainer v w → PlainStm (at.SetGlobal g v) (at.SetGlobal g w)
plain_set_global g v w h = between _ _ _ _ (rolls-SetGlobal g v) (rolls-SetGlobal g w) (set_global g v w h)

pub plain_divide : (t o : ℕ) (a a' b b' : Tree) → Plainer a a' → Plainer b b' → PlainStm (at.Divide t o a b) (at.Divide t o a' b')
plain_divide t o a a' b b' h k = between _ _ _ _ (rolls-Divide t o a b) (rolls-Divide t o a' b') (divide t o a a' b b' h k)

pub plain_check : (r : Array) (i j : Tree) → Plainer i j → PlainStm (at.Check r i) (at.Check r j)
plain_check r i j h = between _ _ _ _ (rolls-Check r i) (rolls-Check r j) (check r i j h)

pub plain_read : (t : ℕ) (r : Array) (i j : Tree) → Plainer i j → PlainStm (at.Read t r i) (at.Read t r j)
plain_read t r i j h = between _ _ _ _ (rolls-Read t r i) (rolls-Read t r j) (read t r i j h)

pub plain_write : (r : Array) (i j v w : Tree) → Plainer i j → Plainer v w → PlainStm (at.Write r i v) (at.Write r j w)
plain_write r i j v w h k = between _ _ _ _ (rolls-Write r i v) (rolls-Write r j w) (write r i j v w h k)

pub plain_choice : (t u : Tree) (a a' b b' : List Stm) → Plainer t u → PlainCode a a' → PlainCode b b' → PlainStm (at.If t a b) (at.If u a' b')
plain_choice t u a a' b b' h k l = between _ _ _ _ (rolls-If t a b) (rolls-If u a' b') (choice t u a a' b b' h k l)

pub plain_loop : (b b' : List Stm) → PlainCode b b' → PlainStm (at.Loop b) (at.Loop b')
plain_loop b b' h = between _ _ _ _ (rolls-Loop b) (rolls-Loop b') (turns b b' h)

pub plain_block : (b b' : List Stm) → PlainCode b b' → PlainStm (at.Block b) (at.Block b')
plain_block b b' h = between _ _ _ _ (rolls-Block b) (rolls-Block b') (block b b' h)

pub plain_call : (r : Option ℕ) (f f' : Callee) (xs ys : List Tree) → IsPlainerCallee f f' → ArePlainer xs ys → PlainStm (at.Call r f xs) (at.Call r f' ys)
plain_call r f f' xs ys h k = between _ _ _ _ (rolls-Call r f xs) (rolls-Call r f' ys) (call r f f' xs ys h k)

pub plain_known : (r : Option ℕ) (k : Known) (xs ys : List Tree) → ArePlainer xs ys → PlainStm (at.Known r k xs) (at.Known r k ys)
plain_known r k xs ys h = between _ _ _ _ (rolls-Known r k xs) (rolls-Known r k ys) (known r k xs ys h)

pub plain_return : (v w : Tree) → Plainer v w → PlainStm (at.Return v) (at.Return w)
plain_return v w h = between _ _ _ _ (rolls-Return v) (rolls-Return w) (return v w h)

pub ruleset statements = (
  plain_same,
  plain_set,
  plain_set_global,
  plain_divide,
  plain_check,
  plain_read,
  plain_write,
  plain_choice,
  plain_loop,
  plain_block,
  plain_call,
  plain_known,
  plain_return,
)
