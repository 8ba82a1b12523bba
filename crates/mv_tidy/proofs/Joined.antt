-- Two statements as one, as the code has them.
use Rattle.std.proofs.Common.{◌≡◌, ℕ, false, List, Option, Some, sym, ◌∙◌, ap, subst, ◌⊎◌}
use Rattle.mv_ast.specs.declared.program.Known.{Known}
use Rattle.mv_ir.specs.declared.tree.Tree.{Tree}
use Rattle.mv_ir.specs.declared.stm.Array.{Array}
use Rattle.mv_ir.specs.declared.stm.Callee.{Callee}
use Rattle.mv_ir.specs.declared.stm.Stm.{Stm}
use Rattle.mv_ir.specs.declared.stm.Stm as at
use Rattle.mv_ir.specs.declared.stm.Stm.TheVariants.{rolls-Set, rolls-SetGlobal, rolls-Divide, rolls-Read, rolls-Write, rolls-Call, rolls-Known}
use Rattle.mv_ir.specs.Live.{reads_temp}
use Rattle.mv_ir.specs.Rolled.{temp, set}
use Rattle.mv_tidy.specs.Tidying.{Takes, IsOne, divided, fetched, called, asked, carried, stored, written}

module _ (gone : ℕ → Type 0) where
  one_at : (s s' n n' z z' : Stm) → IsOne gone s' n' z' → s ≡ s' → n ≡ n' → z ≡ z' → IsOne gone s n z
  one_at s s' n n' z z' k es en ez = subst (λ x. IsOne gone x n z) (sym es) (subst (λ x. IsOne gone s' x z) (sym en) (subst (IsOne gone s' n') (sym ez) k))

  -- a result that is moved
  module _ (s : Stm) (t x : ℕ) (v : Tree) (g : gone t) (whole : v ≡ temp t) where
    moved : at.Set x v ≡ set x (temp t)
    moved = ap (at.Set x) whole ∙ sym (rolls-Set x (temp t))

    pub divides : (o : ℕ) (a b a' b' : Tree) → s ≡ at.Divide t o a b → a' ≡ a → b' ≡ b → IsOne gone s (at.Set x v) (at.Divide x o a' b')
    divides o a b a' b' is ea eb =
        one_at s _ _ _ _ _ (divided t x o a b g) (is ∙ sym (rolls-Divide t o a b)) moved
        (ap (λ y. at.Divide x o y b') ea ∙ ap (at.Divide x o a) eb ∙ sym (rolls-Divide x o a b))

    pub fetches : (r : Array) (i i' : Tree) → s ≡ at.Read t r i → i' ≡ i → IsOne gone s (at.Set x v) (at.Read x r i')
    fetches r i i' is e = one_at s _ _ _ _ _ (fetched t x r i g) (is ∙ sym (rolls-Read t r i)) moved (ap (at.Read x r) e ∙ sym (rolls-Read x r i))

    pub calls : (to : Option ℕ) (f f' : Callee) (args args' : List Tree) → s ≡ at.Call to f args → to ≡ Some t → f' ≡ f → args' ≡ args →
        IsOne gone s (at.Set x v) (at.Call (Some x) f' args')
    calls to f f' args args' is some ef ea =
        one_at s _ _ _ _ _ (called t x f args g) (is ∙ ap (λ r. at.Call r f args) some ∙ sym (rolls-Call (Some t) f args)) moved
        (ap (λ y. at.Call (Some x) y args') ef ∙ ap (at.Call (Some x) f) ea ∙ sym (rolls-Call (Some x) f args))

    pub asks : (to : Option ℕ) (k : Known) (args args' : List Tree) → s ≡ at.Known to k args → to ≡ Some t → args' ≡ args →
        IsOne gone s (at.Set x v) (at.Known (Some x) k args')
    asks to k args args' is some ea =
        one_at s _ _ _ _ _ (asked t x k args g) (is ∙ ap (λ r. at.Known r k args) some ∙ sym (rolls-Known (Some t) k args)) moved
        (ap (at.Known (Some x) k) ea ∙ sym (rolls-Known (Some x) k args))

  -- a value that takes the place of a temporary
  module _ (s : Stm) (t : ℕ) (e v w : Tree) (is : s ≡ at.Set t e) (k : Takes t e v w) where
    pub carries : (x : ℕ) → gone t ⊎ (t ≡ x) → IsOne gone s (at.Set x v) (at.Set x w)
    carries x g = one_at s _ _ _ _ _ (carried t x e v w g k) (is ∙ sym (rolls-Set t e)) (sym (rolls-Set x v)) (sym (rolls-Set x w))

    pub stores : (x : ℕ) → gone t → IsOne gone s (at.SetGlobal x v) (at.SetGlobal x w)
    stores x g = one_at s _ _ _ _ _ (stored t x e v w g k) (is ∙ sym (rolls-Set t e)) (sym (rolls-SetGlobal x v)) (sym (rolls-SetGlobal x w))

    pub writes : (r : Array) (i i' : Tree) → gone t → reads_temp t i ≡ false → i' ≡ i → IsOne gone s (at.Write r i v) (at.Write r i' w)
    writes r i i' g unread same =
        one_at s _ _ _ _ _ (written t r e i v w g unread k) (is ∙ sym (rolls-Set t e)) (sym (rolls-Write r i v))
        (ap (λ y. at.Write r y w) same ∙ sym (rolls-Write r i w))
