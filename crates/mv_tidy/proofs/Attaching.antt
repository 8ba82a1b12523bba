-- A choice is put behind some code as `Attached` says.
use Rattle.std.proofs.Common.{arith, ◌≡◌, ℕ, ◌+◌, ◌<◌, Bool, true, false, not, cond, eqb, List, [], ◌∷◌, ◌++◌, Option, Some, IfSome, option_to_list, sym, ◌∙◌, ap, subst}
use Rattle.std.proofs.lemmas.Option.{IfSome_then}
use Rattle.mv_ir.specs.declared.tree.Tree.{Tree}
use Rattle.mv_ir.specs.declared.tree.Tree as tr
use Rattle.mv_ir.specs.declared.tree.Tree.TheVariants.{rolls-Temp, rolls-Unary, rolls-Binary}
use Rattle.mv_ir.specs.declared.stm.Stm.{Stm}
use Rattle.mv_ir.specs.Operators as operator
use Rattle.mv_ir.specs.Measures.{statements}
use Rattle.mv_ir.specs.Rolled.{number, temp, unary, binary, set, choose}
use Rattle.mv_fold.specs.Simple.{constant}
use Rattle.mv_fold.proofs.FoldedWithin.{amount_choice}
use Rattle.mv_plain.proofs.PlainTrees.{constant_is}
use Rattle.mv_tidy.specs.Choosing.{taken, sides, Attached, apart, denied, unequal, equal, pushed, jumped}
use Rattle.mv_tidy.specs.Attaching as asks
use Rattle.mv_tidy.specs.Attaching.{Asks, IsMerge, IsMergeOf, HasParts, framed, IsStep}
use Rattle.mv_tidy.specs.declared.attach.Asked.{Asked}
use Rattle.mv_tidy.specs.declared.attach.Merge.{Merge}
use Rattle.mv_tidy.specs.declared.attach.Merge.TheVariants as merge
use Rattle.mv_tidy.specs.declared.attach.Parts.{Parts}
use Rattle.mv_tidy.specs.declared.attach.Frame.{Frame}
use Rattle.mv_tidy.specs.declared.attach.Step.{Step}
use Rattle.mv_tidy.specs.declared.attach.Step.TheVariants as step
use Rattle.mv_tidy.proofs.Walked.{statements_append}

-- ---- conditions

pub asks_temp : (t : ℕ) (k : Tree) → k ≡ tr.Temp t → Asks t false k
asks_temp t k is = subst (Asks t false) (rolls-Temp t ∙ sym is) asks.itself

-- what a condition asks for, where this is made of it
abbrev AreAsked : Option Asked → Tree → Type 0
AreAsked r k = IfSome r (λ a. Asks a.temp a.denied k)

pub asks_opposite : (a : Asked) (k : Tree) → Asks a.temp a.denied k →
    Asks a.temp (not a.denied) (unary operator.logical_not k) × Asks a.temp (not a.denied) (binary operator.equal k (number 0))
asks_opposite a k h = (asks.denied a.denied k h, asks.equal a.denied k h)

unary_is : (o : ℕ) (a k : Tree) → o ≡ operator.logical_not → k ≡ tr.Unary o a → unary operator.logical_not a ≡ k
unary_is o a k e is = ap (λ p. unary p a) (sym e) ∙ rolls-Unary o a ∙ sym is

binary_is : (o p : ℕ) (a b k : Tree) → o ≡ p → b ≡ number 0 → k ≡ tr.Binary o a b → binary p a (number 0) ≡ k
binary_is o p a b k e z is = ap (λ q. binary q a (number 0)) (sym e) ∙ ap (binary o a) (sym z) ∙ rolls-Binary o a b ∙ sym is

pub asks_not : (r : Option Asked) (o : ℕ) (a k : Tree) → o ≡ operator.logical_not → k ≡ tr.Unary o a →
    IfSome r (λ s. Asks s.temp s.denied (unary operator.logical_not a) × Asks s.temp s.denied (binary operator.equal a (number 0))) → AreAsked r k
asks_not r o a k e is h = IfSome_then r h (λ s p. subst (Asks s.temp s.denied) (unary_is o a k e is) p.0)

pub asks_equal : (r : Option Asked) (o : ℕ) (a b k : Tree) → o ≡ operator.equal → b ≡ number 0 → k ≡ tr.Binary o a b →
    IfSome r (λ s. Asks s.temp s.denied (unary operator.logical_not a) × Asks s.temp s.denied (binary operator.equal a (number 0))) → AreAsked r k
asks_equal r o a b k e z is h = IfSome_then r h (λ s p. subst (Asks s.temp s.denied) (binary_is o operator.equal a b k e z is) p.1)

pub asks_unequal : (r : Option Asked) (o : ℕ) (a b k : Tree) → o ≡ operator.not_equal → b ≡ number 0 → k ≡ tr.Binary o a b → AreAsked r a → AreAsked r k
asks_unequal r o a b k e z is h =
    IfSome_then r h (λ s p. subst (Asks s.temp s.denied) (binary_is o operator.not_equal a b k e z is) (asks.unequal s.denied a p))

module _ (gone : ℕ → Type 0) (first : List Stm) (t : ℕ) where
  asks_attached : (d : Bool) (k : Tree) → Asks t d k → (x y z : List Stm) → Attached gone first (temp t) (cond d y x) (cond d x y) z → Attached gone first k x y z
  asks_attached d k asks.itself x y z h = h
  asks_attached d k (asks.denied true j a) x y z h = denied first j x y z (asks_attached true j a y x z h)
  asks_attached d k (asks.denied false j a) x y z h = denied first j x y z (asks_attached false j a y x z h)
  asks_attached d k (asks.unequal e j a) x y z h = unequal first j x y z (asks_attached e j a x y z h)
  asks_attached d k (asks.equal true j a) x y z h = equal first j x y z (asks_attached true j a y x z h)
  asks_attached d k (asks.equal false j a) x y z h = equal first j x y z (asks_attached false j a y x z h)

  asks_step : (d : Bool) (k : Tree) → Asks t d k → (x y : List Stm) (s : Step) → IsStep gone first (temp t) (cond d y x) (cond d x y) s → IsStep gone first k x y s
  asks_step d k a x y (step.Done z) h = asks_attached d k a x y z h
  asks_step d k a x y (step.Inner f b e u v) h = (h.0, λ z i. asks_attached d k a x y (framed f z) (h.1 z i))

  pub step_denied : (d : Bool) (k : Tree) → Asks t d k → d ≡ true → (x y : List Stm) (s : Step) → IsStep gone first (temp t) y x s → IsStep gone first k x y s
  step_denied d k a e x y s h = asks_step true k (subst (λ b. Asks t b k) e a) x y s h

  pub step_asked : (d : Bool) (k : Tree) → Asks t d k → d ≡ false → (x y : List Stm) (s : Step) → IsStep gone first (temp t) x y s → IsStep gone first k x y s
  step_asked d k a e x y s h = asks_step false k (subst (λ b. Asks t b k) e a) x y s h

pub stays : (gone : ℕ → Type 0) (first : List Stm) (k : Tree) (x y made : List Stm) → made ≡ first ++ choose k x y ∷ [] → Attached gone first k x y made
stays gone first k x y made e = subst (Attached gone first k x y) (sym e) (apart first k x y)

pub stays_temp : (gone : ℕ → Type 0) (first given : List Stm) (t : ℕ) (x y made : List Stm) → given ≡ first → made ≡ given ++ choose (tr.Temp t) x y ∷ [] →
    Attached gone first (temp t) x y made
stays_temp gone first given t x y made same e =
    stays gone first (temp t) x y made (e ∙ ap (λ l. l ++ choose (tr.Temp t) x y ∷ []) same ∙ ap (λ k. first ++ choose k x y ∷ []) (sym (rolls-Temp t)))

-- ---- how two sides take a choice in

pub merge_is : (r : Option Merge) (v : Tree) (n : ℕ) (zero : Bool) (x y : List Stm) → constant v ≡ Some n → eqb n 0 ≡ zero →
    IfSome r (IsMergeOf zero (cond zero y x) (cond zero x y)) → IfSome r (IsMerge v x y)
merge_is r v n zero x y is e h =
    IfSome_then r h (λ m k. (n, constant_is v n is, subst (λ z. IsMergeOf z (cond z y x) (cond z x y) m) (sym e) k))

-- ---- the side that a choice goes to

count_choice : (c : Tree) (a b : List Stm) → statements (choose c a b ∷ []) ≡ 1 + (statements a + statements b)
count_choice c a b = ap (λ m. m.statements) (amount_choice c a b)

in_choice : (turned : Bool) (c : Tree) (a b : List Stm) → statements a < statements (sides turned c a b ∷ [])
in_choice true c a b = omega (arith, count_choice c b a)
in_choice false c a b = omega (arith, count_choice c a b)

smaller : (code : List Stm) (t : ℕ) (p : Parts) (v : Tree) → HasParts code t p v → statements p.a < statements code
smaller code t p v is =
    let a = p.a ++ set t p.value ∷ [] in
    let b = p.b ++ set t v ∷ [] in
    let s = sides p.turned p.test a b ∷ [] in
    omega (arith, ap statements is, statements_append p.first s, in_choice p.turned p.test a b, statements_append p.a (set t p.value ∷ []))

module _ (gone : ℕ → Type 0) (code : List Stm) (t : ℕ) (p : Parts) (v : Tree) (x y b rest : List Stm) (g : gone t) (is : HasParts code t p v) where
  abbrev frame : Frame
  frame = record { first = p.first; turned = p.turned; test = p.test; b = b; rest = rest }

  given : (n : ℕ) → v ≡ number n → code ≡ p.first ++ sides p.turned p.test (p.a ++ set t p.value ∷ []) (p.b ++ set t (number n) ∷ []) ∷ []
  given n e = is ∙ ap (λ u. p.first ++ sides p.turned p.test (p.a ++ set t p.value ∷ []) (p.b ++ set t u ∷ []) ∷ []) e

  pub pushes : (m : Merge) (jump : Option Stm) → m ≡ merge.Pushed jump → b ≡ p.b ++ option_to_list jump → rest ≡ [] → IsMerge v x y m →
      (statements p.a < statements code) × ((z : List Stm) → Attached gone p.a p.value x y z → Attached gone code (temp t) x y (framed frame z))
  pushes m jump em eb er (n, en, k) =
      let h = subst (IsMergeOf (eqb n 0) (taken n x y) (taken n y x)) em k in (
        smaller code t p v is,
        λ z att.
            subst (λ c. Attached gone c (temp t) x y (framed frame z)) (sym (given n en))
            (subst (Attached gone (p.first ++ sides p.turned p.test (p.a ++ set t p.value ∷ []) (p.b ++ set t (number n) ∷ []) ∷ []) (temp t) x y)
            (ap (λ l. p.first ++ sides p.turned p.test z l ∷ []) (ap (λ l. p.b ++ l) h.0 ∙ sym eb) ∙ ap (λ l. p.first ++ sides p.turned p.test z b ∷ l) (sym er))
            (pushed p.turned p.first p.a p.b p.test p.value t n x y z g h.1 att)),
      )

  pub jumps : (m : Merge) (zero : Bool) (u w : List Stm) → m ≡ merge.Jumped zero → b ≡ p.b → u ≡ cond zero x [] → w ≡ cond zero [] y → rest ≡ cond zero y x → IsMerge v x y m →
      (statements p.a < statements code) × ((z : List Stm) → Attached gone p.a p.value u w z → Attached gone code (temp t) x y (framed frame z))
  jumps m zero u w em eb eu ew er (n, en, k) =
      let h = subst (IsMergeOf (eqb n 0) (taken n x y) (taken n y x)) em k in (
        smaller code t p v is,
        λ z att.
            subst (λ c. Attached gone c (temp t) x y (framed frame z)) (sym (given n en))
            (subst (Attached gone (p.first ++ sides p.turned p.test (p.a ++ set t p.value ∷ []) (p.b ++ set t (number n) ∷ []) ∷ []) (temp t) x y)
            (ap (λ l. p.first ++ sides p.turned p.test z l ∷ taken n x y) (sym eb) ∙ ap (λ c. p.first ++ sides p.turned p.test z b ∷ cond c y x) (sym h.0) ∙
            ap (λ l. p.first ++ sides p.turned p.test z b ∷ l) (sym er))
            (jumped p.turned p.first p.a p.b p.test p.value t n x y z g h.1
            (subst (λ c. Attached gone p.a p.value (cond c x []) (cond c [] y) z) h.0
            (subst (λ l. Attached gone p.a p.value l (cond zero [] y) z) eu (subst (λ l. Attached gone p.a p.value u l z) ew att))))),
      )
