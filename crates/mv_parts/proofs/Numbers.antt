-- The numbers of attributed functions: one function more, and which function has one.
use Rattle.std.proofs.Common.{arith, ◌≡◌, ℕ, zero, suc, ◌+◌, ◌<◌, Bool, true, false, cond, List, [], ◌∷◌, ◌++◌, Some, length, take, get_or, slice_get, refl, sym, ◌∙◌, ap, subst}
use Rattle.std.proofs.lemmas.List.{length-take-le, take_more}
use Rattle.std.proofs.lemmas.List.Sums.{sum_by-cons}
use Rattle.std.proofs.lemmas.Option.{slice_get-get_or, same_Some}
use Rattle.mv_ast.specs.declared.program.Program.{Program}
use Rattle.mv_ast.specs.declared.program.Function.{Function}
use Rattle.mv_ast.specs.Switches.{attributed_before}
use Rattle.mv_variants.proofs.Functions.{IsAttributed}
use Rattle.mv_parts.specs.Numbers.{attributed_from, attributed_numbers}

-- ---- one more

-- a number behind others, where a flag says so, and another before both where one does
before_both : (b c : Bool) (f n : ℕ) (l : List ℕ) →
    cond b (f ∷ cond c (l ++ n ∷ []) l) (cond c (l ++ n ∷ []) l) ≡ cond c (cond b (f ∷ l) l ++ n ∷ []) (cond b (f ∷ l) l)
before_both true true f n l = refl
before_both true false f n l = refl
before_both false true f n l = refl
before_both false false f n l = refl

from_append : (f : ℕ) (gs : List Function) (g : Function) →
    attributed_from f (gs ++ g ∷ []) ≡ cond g.attributed (attributed_from f gs ++ (f + length gs) ∷ []) (attributed_from f gs)
from_append f [] g = ap (λ k. cond g.attributed (k ∷ []) []) (let e : f ≡ f + 0 = omega arith in e)
from_append f (x ∷ gs) g =
    let rest = attributed_from (suc f) gs in
    let place : suc f + length gs ≡ f + suc (length gs) = omega arith in
    ap (λ l. cond x.attributed (f ∷ l) l) (from_append (suc f) gs g ∙ ap (λ k. cond g.attributed (rest ++ k ∷ []) rest) place) ∙
    before_both x.attributed g.attributed f (f + suc (length gs)) rest

-- the number of one function more, where it is attributed
pub numbers_step : (gs : List Function) (k n : ℕ) (g : Function) (old new : List ℕ) → k < length gs → n ≡ k → g ≡ get_or gs k g → old ≡ attributed_from 0 (take k gs) →
    new ≡ cond g.attributed (old ++ n ∷ []) old → new ≡ attributed_from 0 (take (k + 1) gs)
numbers_step gs k n g old new below place here is e =
    let before = take k gs in
    let rest = attributed_from 0 before in
    let more : take (k + 1) gs ≡ before ++ g ∷ [] = take_more gs k g below ∙ ap (λ x. before ++ x ∷ []) (sym here) in
    let count : n ≡ 0 + length before = omega (arith, place, length-take-le k gs (omega (arith, below))) in
    e ∙ ap (λ l. cond g.attributed (l ++ n ∷ []) l) is ∙ ap (λ m. cond g.attributed (rest ++ m ∷ []) rest) count ∙ sym (from_append 0 before g) ∙ ap (attributed_from 0) (sym more)

pub chosen : (b : Bool) (xs ys : List ℕ) → b ≡ true → cond b xs ys ≡ xs
chosen b xs ys e = ap (λ t. cond t xs ys) e

pub other : (b : Bool) (xs ys : List ℕ) → b ≡ false → cond b xs ys ≡ ys
other b xs ys e = ap (λ t. cond t xs ys) e

-- ---- the function of a number

-- the attributed one with a place among functions, of which the first has a number
record IsNumbered (first : ℕ) (gs : List Function) (n k : ℕ) : Type 0 where
  index : ℕ
  function : Function
  is : k ≡ first + index
  there : slice_get gs index ≡ Some function
  attributed : function.attributed ≡ true
  place : attributed_before gs index ≡ n

-- behind one function more
later : (b : Bool) (f : ℕ) (x : Function) (gs : List Function) (n k : ℕ) → x.attributed ≡ b → IsNumbered (suc f) gs n k → IsNumbered f (x ∷ gs) (cond b 1 0 + n) k
later b f x gs n k e h =
    let counted = sum_by-cons (λ (g : Function). cond g.attributed 1 0) x (take h.index gs) in
    let here = ap {B = ℕ} (λ t. cond t 1 0) e in
    record {
      index = suc h.index;
      function = h.function;
      is = omega (arith, h.is);
      there = h.there;
      attributed = h.attributed;
      place = omega (arith, counted, here, h.place);
    }

among : (f : ℕ) (x : Function) (gs : List Function) (k : ℕ) → ((n : ℕ) → slice_get (attributed_from (suc f) gs) n ≡ Some k → IsNumbered (suc f) gs n k) →
    (b : Bool) → x.attributed ≡ b → (n : ℕ) → slice_get (cond b (f ∷ attributed_from (suc f) gs) (attributed_from (suc f) gs)) n ≡ Some k → IsNumbered f (x ∷ gs) n k
among f x gs k rest true e zero h =
    let same = same_Some f k h in
    record { index = 0; function = x; is = omega (arith, same); there = refl; attributed = e; place = refl }
among f x gs k rest true e (suc n) h = subst (λ m. IsNumbered f (x ∷ gs) m k) (let one : 1 + n ≡ suc n = omega arith in one) (later true f x gs n k e (rest n h))
among f x gs k rest false e n h = subst (λ m. IsNumbered f (x ∷ gs) m k) (let none : 0 + n ≡ n = omega arith in none) (later false f x gs n k e (rest n h))

numbered : (f : ℕ) (gs : List Function) (n k : ℕ) → slice_get (attributed_from f gs) n ≡ Some k → IsNumbered f gs n k
numbered f [] n k h = absurd (cc h)
numbered f (x ∷ gs) n k h = among f x gs k (λ m. numbered (suc f) gs m k) x.attributed refl n h

module _ (p : Program) (n f : ℕ) (at : slice_get (attributed_numbers p) n ≡ Some f) where
  abbrev is : IsNumbered 0 p.functions n f
  is = numbered 0 p.functions n f at

  same : is.index ≡ f
  same = let e = is.is in omega (arith, e)

  pub attributed_at : IsAttributed p f
  attributed_at = record { function = is.function; there = subst (λ k. slice_get p.functions k ≡ Some is.function) same is.there; attributed = is.attributed }

  -- its place is that among the attributed functions
  pub place_of : attributed_before p.functions f ≡ n
  place_of = subst (λ k. attributed_before p.functions k ≡ n) same is.place

-- a number by its place
pub number_at : (p : Program) (numbers : List ℕ) → numbers ≡ attributed_numbers p → (n d : ℕ) → n < length numbers → slice_get (attributed_numbers p) n ≡ Some (get_or numbers n d)
number_at p numbers e n d below = ap (λ xs. slice_get xs n) (sym e) ∙ slice_get-get_or numbers n d below
