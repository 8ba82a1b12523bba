-- Contexts that are alike, and calls in them.
use Rattle.std.proofs.Common.{◌≡◌, ℕ, suc, Bool, true, false, List, [], ◌∷◌, length, refl, sym, ◌∙◌, ap, subst, arith, inl, inr, Option, Some, if◌then◌else◌, nat_eq, nat_lt, slice_get}
use Rattle.std.specs.Prelude.{slice_index}
use Rattle.std.proofs.lemmas.Option.{slice_get_within}
use Rattle.mv_ast.specs.declared.program.CType.{CType}
use Rattle.mv_ast.specs.declared.program.Signature.{Signature}
use Rattle.mv_ast.specs.declared.program.Function.{Function}
use Rattle.mv_ast.specs.declared.program.Stmt.{Stmt}
use Rattle.mv_bindings.specs.declared.stop.Stop.TheVariants.{Trapped}
use Rattle.mv_ast.specs.Worlds.{World, stop}
use Rattle.mv_ast.specs.Numbering.{function_of_number}
use Rattle.mv_meaning.specs.declared.state.Flow.{Flow}
use Rattle.mv_meaning.specs.declared.state.Flow.TheVariants.{Goes, Breaks, Continues, Returns}
use Rattle.mv_meaning.specs.Meaning.{Context, call_at, call_numbered, call_through}
use Rattle.mv_meaning_numbering.specs.Numberings.{Admits}
use Rattle.mv_source_forms.specs.Typing.{IsFunctionOf, IsTypedStmt, local_types, parameter_types}
use Rattle.mv_meaning_numbering.proofs.Numbers.{Distinguishes, number_above, number_found}
use Rattle.mv_meaning_numbering.proofs.Alike.{Setting, Same, SamePointer, SameValues}
use Rattle.mv_meaning_numbering.proofs.Outcomes.{Alike, alike_stop, alike_either}

-- one way for control to go, with values of a type
abbrev pub SameFlow : Setting → CType → Flow → Flow → Type 0
SameFlow x t Goes Goes = Unit {0}
SameFlow x t Breaks Breaks = Unit {0}
SameFlow x t Continues Continues = Unit {0}
SameFlow x t (Returns v) (Returns u) = Same x t v u
SameFlow _ _ _ _ = ⊥

-- two contexts, each with its numbering
pub record SameContext (x : Setting) (c d : Context) : Type 0 where
  pub left : c.numbers ≡ x.ns
  pub right : d.numbers ≡ x.ms
  pub left_lets : Admits x.program c.lets
  pub right_lets : Admits x.program d.lets
  pub calls : (ts : List CType) (n : ℕ) (g : Function) (vs us : List ℕ) → slice_get x.program.functions n ≡ Some g →
      SameValues x (parameter_types g) vs us → Alike x ts (Same x g.result) (c.call n vs) (d.call n us)
  pub loops : (g : Function) (s : Stmt) → IsTypedStmt x.program g s → Alike x (local_types g) (SameFlow x g.result) (c.loop s) (d.loop s)

module _ (c : Context) (t : CType) (v : ℕ) (vs : List ℕ) where
  through_function : (f : ℕ) (b : Bool) → nat_eq v 0 ≡ b → b ≡ false → function_of_number c.numbers v ≡ Some f → c.lets t f (length vs) ≡ true → call_through c t v vs ≡ call_at c f vs
  through_function f b eb e h lets =
      let P : Bool → Type 0 = λ b. (if b then stop (Trapped 3) else call_numbered c t (function_of_number c.numbers v) vs) ≡ call_at c f vs in
      subst P (sym (eb ∙ e)) (ap (λ o. call_numbered c t o vs) h ∙ ap (λ b. if b then call_at c f vs else c.stray) lets)

  through_null : v ≡ 0 → call_through c t v vs ≡ stop (Trapped 3)
  through_null e =
      let h : nat_eq v 0 ≡ true = grind (arith, e) in
      let P : Bool → Type 0 = λ b. (if b then stop (Trapped 3) else call_numbered c t (function_of_number c.numbers v) vs) ≡ stop (Trapped 3) in
      subst P (sym h) refl

module _ (x : Setting) (c d : Context) (same : SameContext x c d) (ts : List CType) where
  pub alike_call : (n : ℕ) (g : Function) (vs us : List ℕ) → slice_get x.program.functions n ≡ Some g → SameValues x (parameter_types g) vs us →
      Alike x ts (Same x g.result) (call_at c n vs) (call_at d n us)
  alike_call n g vs us h k f f' w v hf hw =
      alike_either x ts (Same x g.result) (nat_lt w.depth 512) (nat_lt v.depth 512) (c.call n vs) (d.call n us) (stop (Trapped 4)) (stop (Trapped 4))
      (sym (ap (λ (z : World). nat_lt z.depth 512) hw.others)) (same.calls ts n g vs us h k) (alike_stop x ts (Same x g.result) (Trapped 4)) f f' w v hf hw

  to_function : (a : Context) (ns : List ℕ) (numbering : Distinguishes x.program ns) (t : CType) (v n : ℕ) (g : Function) (vs : List ℕ) → a.numbers ≡ ns →
      slice_get x.program.functions n ≡ Some g → v ≡ slice_index ns n → a.lets t n (length vs) ≡ true → call_through a t v vs ≡ call_at a n vs
  to_function a ns numbering t v n g vs e h k lets =
      let within = slice_get_within x.program.functions n g h in
      let above = number_above x.program ns numbering n within in
      let test : nat_eq v 0 ≡ false = grind (arith, k, above) in
      through_function a t v vs n (nat_eq v 0) refl test
      (ap (λ l. function_of_number l v) e ∙ (ap (function_of_number ns) k ∙ number_found x.program ns numbering n within)) lets

  -- as many values on both sides as there are types
  left_long : (us : List CType) (vs ws : List ℕ) → SameValues x us vs ws → length vs ≡ length us
  left_long [] [] [] h = refl
  left_long (t ∷ us) (v ∷ vs) (w ∷ ws) h = ap suc (left_long us vs ws h.1)
  left_long _ _ _ h = absurd h

  right_long : (us : List CType) (vs ws : List ℕ) → SameValues x us vs ws → length ws ≡ length us
  right_long [] [] [] h = refl
  right_long (t ∷ us) (v ∷ vs) (w ∷ ws) h = ap suc (right_long us vs ws h.1)
  right_long _ _ _ h = absurd h

  -- a call through two pointers that are alike, with values that their signature takes
  pub alike_through : (s : ℕ) (signature : Signature) (t : CType) (v u : ℕ) (vs us : List ℕ) → slice_get x.program.signatures s ≡ Some signature → t ≡ signature.result → SamePointer x s v u →
      SameValues x signature.params vs us → Alike x ts (Same x signature.result) (call_through c t v vs) (call_through d t u us)
  alike_through s signature t v u vs us h e (inl k) q =
      subst (λ a. Alike x ts (Same x signature.result) a (call_through d t u us)) (sym (through_null c t v vs k.0))
      (subst (λ b. Alike x ts (Same x signature.result) (stop (Trapped 3)) b) (sym (through_null d t u us k.1))
      (alike_stop x ts (Same x signature.result) (Trapped 3)))
  alike_through s signature t v u vs us h e (inr k) q =
      let f : IsFunctionOf x.program s k.0 = k.1 in
      let one : signature ≡ f.signature = signature_once (slice_get x.program.signatures s) signature f.signature h f.declared in
      let params : signature.params ≡ parameter_types f.function = ap (λ (z : Signature). z.params) one ∙ f.parameters in
      let result : f.function.result ≡ signature.result = sym (ap (λ (z : Signature). z.result) one ∙ f.result) in
      let left : c.lets t k.0 (length vs) ≡ true = ap (λ z. c.lets z k.0 (length vs)) e ∙ ap (λ n. c.lets signature.result k.0 n) (left_long signature.params vs us q) ∙ same.left_lets s k.0 signature h f in
      let right : d.lets t k.0 (length us) ≡ true = ap (λ z. d.lets z k.0 (length us)) e ∙ ap (λ n. d.lets signature.result k.0 n) (right_long signature.params vs us q) ∙ same.right_lets s k.0 signature h f in
      subst (λ a. Alike x ts (Same x signature.result) a (call_through d t u us)) (sym (to_function c x.ns x.left t v k.0 f.function vs same.left f.defined k.2 left))
      (subst (λ b. Alike x ts (Same x signature.result) (call_at c k.0 vs) b) (sym (to_function d x.ms x.right t u k.0 f.function us same.right f.defined k.3 right))
      (subst (λ t. Alike x ts (Same x t) (call_at c k.0 vs) (call_at d k.0 us)) result
      (alike_call k.0 f.function vs us f.defined (subst (λ l. SameValues x l vs us) params q)))) where
        signature_once : (o : Option Signature) (a b : Signature) → o ≡ Some a → o ≡ Some b → a ≡ b
        signature_once o a b h k = cc
