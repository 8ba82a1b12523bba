-- How lowered expressions are made of code that obeys the rules.
use Rattle.std.proofs.Common.{◌≡◌, ℕ, ◌+◌, ◌<◌, ◌≤◌, Bool, true, false, cond, ◌&&◌, List, [], ◌∷◌, ◌++◌, length, Option, Some, None, refl, sym, ◌∙◌, ap, subst, arith, append_assoc, append-nil}
use Rattle.std.specs.Prelude.{nat_lt, nat_eq}
use Rattle.std.proofs.lemmas.List.{length-append}
use Rattle.mv_ast.specs.declared.program.Known.{Known}
use Rattle.mv_ir.specs.declared.tree.Tree.{Tree}
use Rattle.mv_ir.specs.declared.stm.Array.{Array}
use Rattle.mv_ir.specs.declared.stm.Array.TheVariants as array
use Rattle.mv_ir.specs.declared.stm.Stm.{Stm}
use Rattle.mv_ir.specs.declared.stm.Stm.TheOpen.{Stm-F}
use Rattle.mv_ir.specs.declared.stm.Stm.TheOpen as stm
use Rattle.mv_ir.specs.declared.stm.Stm.TheViews.{roll-Stm}
use Rattle.mv_ir.specs.declared.stm.Callee.{Callee}
use Rattle.mv_ir.specs.declared.stm.Callee.TheVariants as callee
use Rattle.mv_ir.specs.Levels.{one_if}
use Rattle.mv_ir.specs.Measures.{array_read}
use Rattle.mv_ir.specs.WellFormed.{known_arguments}
use Rattle.mv_lower_spec.specs.Lowered.{Lowered, Lowering, Arguments, number, temp, unary, global, set, set_global, divide, choose, read, write, truth, truth_in, is_empty, is_low, kept_if, first, second, lower_number, lower_local, lower_global, lower_function, lower_one, lower_two, lower_division, lower_both, lower_either, lower_choice, lower_set_local, lower_set_global, lower_all, lower_call_to, lower_call, but_last, last_of, lower_through, lower_switched, lower_known, index_in, lower_element, lower_read_element, lower_set_element}
use Rattle.mv_lower_spec.proofs.Arguments.{trees_length}
use Rattle.mv_lower_spec.proofs.OfShape.Rules.{Allowed, Rules, Covers, IsPlain, IsAllowed, AllMay, result}
use Rattle.mv_lower_spec.proofs.OfShape.Plain.{plain_set, plain_set_global, plain_divide, plain_check, plain_read, plain_write, plain_call, plain_through, plain_switched, plain_known, covers_unary, covers_number, covers_function, covers_self, covers_then, covers_before, covers_swap, covers_twice}
use Rattle.mv_num.proofs.Booleans.{from_falsity}

-- operators on one and on two trees
abbrev pub OnOne : (Tree → Tree) → Type 0
OnOne f = (x : Tree) → Covers (x ∷ []) (f x ∷ []) 2

abbrev pub OnTwo : (Tree → Tree → Tree) → Type 0
OnTwo f = (x y : Tree) → Covers (x ∷ y ∷ []) (f x y ∷ []) 2

covers_turned : (turned : Bool) (x y : Tree) → Covers (x ∷ y ∷ []) (cond turned y x ∷ cond turned x y ∷ []) 0
covers_turned true x y = covers_swap (x ∷ []) (y ∷ [])
covers_turned false x y = covers_self (x ∷ y ∷ [])

covers_truth : (x : Tree) → Covers (x ∷ []) (truth x ∷ []) (1 + 1)
covers_truth x = covers_then (x ∷ []) (unary 2 x ∷ []) (truth x ∷ []) 1 1 (covers_unary 2 x) (covers_unary 2 (unary 2 x))

pub kept_top : (keep : Bool) (n : ℕ) (l : Lowered) → l.top ≤ (kept_if keep n l).top
kept_top true n l = omega arith
kept_top false n l = omega arith

last_apart : (ts : List Tree) (m : ℕ) → length ts ≡ m + 1 → but_last ts ++ last_of ts ∷ [] ≡ ts
last_apart [] m e = absurd (omega (arith, e))
last_apart (t ∷ []) m e = refl
last_apart (t ∷ u ∷ ts) m e = ap (λ l. t ∷ l) (last_apart (u ∷ ts) (length ts) (omega arith))

last_length : (ts : List Tree) (m : ℕ) → length ts ≡ m + 1 → length (but_last ts) ≡ m
last_length [] m e = absurd (omega (arith, e))
last_length (t ∷ []) m e = omega (arith, e)
last_length (t ∷ u ∷ ts) m e = let h = last_length (u ∷ ts) (length ts) (omega arith) in omega (arith, e, h)

module _ (a : Allowed) (B : ℕ → ℕ → ℕ → ℕ → List Tree → List Stm → List Tree → Type 0) (rules : Rules a B) (locals room : ℕ)
    (scratch : (t : ℕ) → locals ≤ t → t < room → a.temps t ≡ true) where
  -- ---- code beside and behind code

  -- trees in front stay
  pub behind : {s w t k : ℕ} {xs : List Stm} {ts us : List Tree} (front : List Tree) → B s w t k ts xs us → B s w t k (front ++ ts) xs (front ++ us)
  behind {s} {w} {t} {k} {xs} {ts} {us} front h =
      subst (λ c. B s w t k (front ++ ts) c (front ++ us)) (append-nil xs)
      (rules.weaken (omega arith) (omega arith) (omega arith) (omega arith)
      (rules.chain (rules.retree (covers_swap front ts)) (rules.chain (rules.beside front h) (rules.retree (covers_swap us front)))))

  pub join : {s w t k s' w' t' k' : ℕ} {xs ys : List Stm} {ts us ts' us' : List Tree} → B s w t k ts xs us → B s' w' t' k' ts' ys us' → B (s + s') (w + w') (t + t') (k + k') (ts ++ ts') (xs ++ ys) (us ++ us')
  join {us = us} {ts' = ts'} h h' = rules.chain (rules.beside ts' h) (behind us h')

  -- other trees for those that code leaves
  pub retreed : {s w t k m : ℕ} {xs : List Stm} {ts us vs : List Tree} → Covers us vs m → B s w t k ts xs us → B s w (t + m) k ts xs vs
  retreed {s} {w} {t} {k} {m} {xs} {ts} {us} {vs} c h =
      subst (λ x. B s w (t + m) k ts x vs) (append-nil xs) (rules.weaken (omega arith) (omega arith) (omega arith) (omega arith) (rules.chain h (rules.retree c)))

  -- a plain statement behind code
  pub done : {s w t k c u v : ℕ} {xs : List Stm} {ts : List Tree} {x : Stm-F Stm} {reads : List Tree} {writes : Option ℕ} (rest : List Tree) → IsPlain a x reads writes c u v → B s w t k ts xs (reads ++ rest) →
      B (s + u) (w + v) (t + one_if writes) (k + c) ts (xs ++ roll-Stm x ∷ []) (result writes ++ rest)
  done rest p h = rules.chain h (rules.beside rest (rules.does p))

  -- a statement that sets a free temporary
  set_up : {s w t k : ℕ} {xs : List Stm} {ts : List Tree} (n : ℕ) (v : Tree) (rest : List Tree) → locals ≤ n → n < room → B s w t k ts xs (v ∷ rest) → B (s + 1) (w + 1) (t + 1) k ts (xs ++ set n v ∷ []) (temp n ∷ rest)
  set_up n v rest le lt h = rules.weaken (omega arith) (omega arith) (omega arith) (omega arith) (done rest (plain_set a n v (scratch n le lt)) h)

  -- what is read twice
  twice : {s w t k : ℕ} {xs : List Stm} {ts : List Tree} (n : ℕ) (rest : List Tree) → B s w t k ts xs (temp n ∷ rest) → B s w (t + 1) k ts xs (temp n ∷ temp n ∷ rest)
  twice n rest h = retreed (covers_before (temp n ∷ []) (temp n ∷ temp n ∷ []) rest 1 (covers_twice n)) h

  constant : (n : ℕ) → B 0 0 1 0 [] [] (number n ∷ [])
  constant n = rules.retree (covers_number n)

  -- the code of an operand, kept where it stays a tree
  pub kept : {s w t k : ℕ} {ts : List Tree} (keep : Bool) (n : ℕ) (l : Lowered) → locals ≤ n → (kept_if keep n l).top ≤ room → B s w t k ts l.code (l.tree ∷ []) →
      B (s + 1) (w + 1) (t + 1) k ts (kept_if keep n l).code ((kept_if keep n l).tree ∷ [])
  kept true n l le top h = rules.weaken (omega arith) (omega arith) (omega arith) refl h
  kept false n l le top h = set_up n l.tree [] le (omega (arith, top)) h

  -- ---- lowerings

  -- what a lowering gives, from trees that are there before
  abbrev pub GivesFrom : List Tree → ℕ → ℕ → ℕ → ℕ → Lowering → Type 0
  GivesFrom ts s w t k l = (n : ℕ) → locals ≤ n → (l n).top ≤ room → B s w t k ts (l n).code ((l n).tree ∷ [])

  abbrev pub Gives : ℕ → ℕ → ℕ → ℕ → Lowering → Type 0
  Gives = GivesFrom []

  pub gives_number : (v : ℕ) → Gives 0 0 1 0 (lower_number v)
  gives_number v n le top = constant v

  pub gives_local : (l : ℕ) → a.declared l ≡ true → a.temps l ≡ true → Gives 0 0 1 0 (lower_local l)
  gives_local l h k n le top = rules.local l h k

  pub gives_global : (g : ℕ) → a.scalars g ≡ true → Gives 0 0 1 0 (lower_global g)
  gives_global g h n le top = rules.scalar g h

  pub gives_function : (f : ℕ) → Gives 0 0 1 0 (lower_function f)
  gives_function f n le top = rules.retree (covers_function f)

  pub gives_one : {s w t k m : ℕ} {ts : List Tree} (f : Tree → Tree) (x : Lowering) → ((y : Tree) → Covers (y ∷ []) (f y ∷ []) m) → GivesFrom ts s w t k x → GivesFrom ts (s + 1) (w + 1) (t + 1 + m) k (lower_one f x)
  gives_one f x op h n le top =
      let keep = is_low (x n).tree in
      let y = kept_if keep n (x n) in
      retreed (op y.tree) (kept keep n (x n) le top (h n le (omega (arith, top, kept_top keep n (x n)))))

  -- what is low isn't put away
  stays : {s w t k : ℕ} {ts : List Tree} (keep : Bool) (n : ℕ) (l : Lowered) → keep ≡ true → B s w t k ts l.code (l.tree ∷ []) → B s w t k ts (kept_if keep n l).code ((kept_if keep n l).tree ∷ [])
  stays true n l e h = h
  stays false n l e h = from_falsity e

  abbrev pub AlwaysLow : Lowering → Type 0
  AlwaysLow x = (n : ℕ) → is_low (x n).tree ≡ true

  pub gives_low : {s w t k m : ℕ} {ts : List Tree} (f : Tree → Tree) (x : Lowering) → AlwaysLow x → ((y : Tree) → Covers (y ∷ []) (f y ∷ []) m) → GivesFrom ts s w t k x → GivesFrom ts s w (t + m) k (lower_one f x)
  gives_low f x low op h n le top =
      let keep = is_low (x n).tree in
      let y = kept_if keep n (x n) in
      retreed (op y.tree) (stays keep n (x n) (low n) (h n le (omega (arith, top, kept_top keep n (x n)))))

  -- the second of two operands, which may find trees
  abbrev pub SecondGives : List Tree → ℕ → ℕ → ℕ → ℕ → Lowering → Type 0
  SecondGives ts s w t k y = (n : ℕ) → locals ≤ n → (second y n).top ≤ room → B s w t k ts (second y n).code ((second y n).tree ∷ [])

  pub second_gives : {s w t k : ℕ} {ts : List Tree} (y : Lowering) → GivesFrom ts s w t k y → SecondGives ts (s + 1) (w + 1) (t + 1) k y
  second_gives y h n le top =
      let keep = is_low (y (n + 1)).tree in
      kept keep (n + 1) (y (n + 1)) (omega (arith, le)) top (h (n + 1) (omega (arith, le)) (omega (arith, top, kept_top keep (n + 1) (y (n + 1)))))

  pub second_stays : {s w t k : ℕ} {ts : List Tree} (y : Lowering) → AlwaysLow y → GivesFrom ts s w t k y → SecondGives ts s w t k y
  second_stays y low h n le top =
      let keep = is_low (y (n + 1)).tree in
      stays keep (n + 1) (y (n + 1)) (low (n + 1)) (h (n + 1) (omega (arith, le)) (omega (arith, top, kept_top keep (n + 1) (y (n + 1)))))

  operands : {s w t k s' w' t' k' : ℕ} {ts : List Tree} (x y : Lowering) → Gives s w t k x → SecondGives ts s' w' t' k' y → (n : ℕ) → locals ≤ n → (first x y n).top ≤ room → (second y n).top ≤ room →
      B (s + 1 + s') (w + 1 + w') (t + 1 + t') (k + k') ts ((first x y n).code ++ (second y n).code) ((first x y n).tree ∷ (second y n).tree ∷ [])
  operands x y hx hy n le topx topy =
      let keep = is_empty (second y n).code && is_low (x n).tree in
      join (kept keep n (x n) le topx (hx n le (omega (arith, topx, kept_top keep n (x n))))) (hy n le topy)

  pub gives_two : {s w t k s' w' t' k' : ℕ} {ts : List Tree} (f : Tree → Tree → Tree) (x y : Lowering) → OnTwo f → Gives s w t k x →
      SecondGives ts s' w' t' k' y → GivesFrom ts (s + s' + 1) (w + w' + 1) (t + t' + 3) (k + k') (lower_two f x y)
  gives_two f x y op hx hy n le top =
      rules.weaken (omega arith) (omega arith) (omega arith) refl
      (retreed (op (first x y n).tree (second y n).tree) (operands x y hx hy n le (omega (arith, top)) (omega (arith, top))))

  pub gives_division : {s w t k s' w' t' k' : ℕ} {ts : List Tree} (turned : Bool) (o : ℕ) (x y : Lowering) → Gives s w t k x →
      SecondGives ts s' w' t' k' y → GivesFrom ts (s + s' + 2) (w + w' + 5) (t + t' + 2) (k + k') (lower_division turned o x y)
  gives_division {s} {w} {t} {k} {s'} {w'} {t'} {k'} {ts} turned o x y hx hy n le top =
      let u = first x y n in
      let v = second y n in
      subst (λ c. B (s + s' + 2) (w + w' + 5) (t + t' + 2) (k + k') ts c (temp n ∷ [])) (append_assoc u.code v.code (divide n o (cond turned v.tree u.tree) (cond turned u.tree v.tree) ∷ []))
      (rules.weaken (omega arith) (omega arith) (omega arith) (omega arith)
      (done [] (plain_divide a n o (cond turned v.tree u.tree) (cond turned u.tree v.tree) (scratch n le (omega (arith, top))))
      (retreed (covers_turned turned u.tree v.tree) (operands x y hx hy n le (omega (arith, top)) (omega (arith, top))))))

  -- `choose` behind the code of its test
  pub chosen : {s w t k s1 w1 t1 k1 s2 w2 t2 k2 : ℕ} {xs ys zs : List Stm} {us : List Tree} (x : Tree) → B s w t k [] xs (x ∷ []) → B s1 w1 t1 k1 [] ys us → B s2 w2 t2 k2 [] zs us →
      B (s + (s1 + s2 + 1)) (w + (w1 + w2 + 3)) (t + (t1 + t2)) (k + (k1 + k2)) [] (xs ++ choose x ys zs ∷ []) us
  chosen x h hy hz = rules.chain h (rules.choose x hy hz)

  truth_of : {s w t k : ℕ} (y : Lowering) → Gives s w t k y → (n : ℕ) → locals ≤ n → n < room → (kept_if (is_low (y n).tree) n (y n)).top ≤ room →
      B (s + 2) (w + 2) (t + 4) k [] (truth_in n (kept_if (is_low (y n).tree) n (y n))) (temp n ∷ [])
  truth_of y h n le lt top =
      let keep = is_low (y n).tree in
      let u = kept_if keep n (y n) in
      rules.weaken (omega arith) (omega arith) (omega arith) refl
      (set_up n (truth u.tree) [] le lt (retreed (covers_truth u.tree) (kept keep n (y n) le top (h n le (omega (arith, top, kept_top keep n (y n)))))))

  bit : (n v : ℕ) → locals ≤ n → n < room → B 1 1 2 0 [] (set n (number v) ∷ []) (temp n ∷ [])
  bit n v le lt = rules.weaken (omega arith) (omega arith) (omega arith) refl (set_up n (number v) [] le lt (constant v))

  pub gives_both : {s w t k s' w' t' k' : ℕ} (x y : Lowering) → Gives s w t k x → Gives s' w' t' k' y → Gives (s + s' + 4) (w + w' + 6) (t + t' + 6) (k + k') (lower_both x y)
  gives_both x y hx hy n le top =
      rules.weaken (omega arith) (omega arith) (omega arith) (omega arith)
      (chosen (x n).tree (hx n le (omega (arith, top))) (truth_of y hy n le (omega (arith, top)) (omega (arith, top))) (bit n 0 le (omega (arith, top))))

  pub gives_either : {s w t k s' w' t' k' : ℕ} (x y : Lowering) → Gives s w t k x → Gives s' w' t' k' y → Gives (s + s' + 4) (w + w' + 6) (t + t' + 6) (k + k') (lower_either x y)
  gives_either x y hx hy n le top =
      rules.weaken (omega arith) (omega arith) (omega arith) (omega arith)
      (chosen (x n).tree (hx n le (omega (arith, top))) (bit n 1 le (omega (arith, top))) (truth_of y hy n le (omega (arith, top)) (omega (arith, top))))

  pub gives_choice : {s w t k s1 w1 t1 k1 s2 w2 t2 k2 : ℕ} (z x y : Lowering) → Gives s w t k z → Gives s1 w1 t1 k1 x → Gives s2 w2 t2 k2 y → Gives (s + s1 + s2 + 3) (w + w1 + w2 + 5) (t + t1 + t2 + 2) (k + (k1 + k2)) (lower_choice z x y)
  gives_choice z x y hz hx hy n le top =
      rules.weaken (omega arith) (omega arith) (omega arith) refl
      (chosen (z n).tree (hz n le (omega (arith, top))) (kept false n (x n) le (omega (arith, top)) (hx n le (omega (arith, top)))) (kept false n (y n) le (omega (arith, top)) (hy n le (omega (arith, top)))))

  pub gives_set_local : {s w t k : ℕ} {ts : List Tree} (l : ℕ) (x : Lowering) → a.temps l ≡ true → GivesFrom ts s w t k x → GivesFrom ts (s + 1) (w + 1) (t + 1) k (lower_set_local l x)
  gives_set_local l x may h n le top = rules.weaken (omega arith) (omega arith) (omega arith) (omega arith) (done [] (plain_set a l (x n).tree may) (h n le top))

  pub gives_set_global : {s w t k : ℕ} {ts : List Tree} (g : ℕ) (x : Lowering) → a.named (array.Global g) ≡ true → GivesFrom ts s w t k x → GivesFrom ts (s + 2) (w + 3) (t + 2) k (lower_set_global g x)
  gives_set_global g x may h n le top =
      rules.weaken (omega arith) (omega arith) (omega arith) (omega arith)
      (done (temp n ∷ []) (plain_set_global a g (temp n) may) (twice n [] (kept false n (x n) le top (h n le (omega (arith, top))))))

  -- ---- calls

  -- what several lowerings give together
  abbrev pub AllGive : ℕ → ℕ → ℕ → ℕ → List Lowering → Type 0
  AllGive s w t k ls = (n : ℕ) → locals ≤ n → (lower_all ls n).top ≤ room → B s w t k [] (lower_all ls n).code (lower_all ls n).trees

  pub none_give : AllGive 0 0 0 0 []
  none_give n le top = rules.retree (covers_self [])

  pub more_give : {s w t k s' w' t' k' : ℕ} (l : Lowering) (ls : List Lowering) → Gives s w t k l → AllGive s' w' t' k' ls → AllGive (s + 1 + s') (w + 1 + w') (t + 1 + t') (k + k') (l ∷ ls)
  more_give l ls h hs n le top =
      let keep = is_empty (lower_all ls (n + 1)).code in
      join (kept keep n (l n) le (omega (arith, top)) (h n le (omega (arith, top, kept_top keep n (l n))))) (hs (n + 1) (omega (arith, le)) (omega (arith, top)))

  called : {s w t k c : ℕ} (void : Bool) (f : Callee) (all : Arguments) (args reads : List Tree) (n : ℕ) → locals ≤ n → n < room →
      ((x : Option ℕ) → IsAllowed a x → IsPlain a (stm.Call x f args) reads x c 4 16) → B s w t k [] all.code reads →
      B (s + 4) (w + 16) (t + 1) (k + c) [] (lower_call_to void f all args n).code ((lower_call_to void f all args n).tree ∷ [])
  called {s} {w} {t} {k} {c} true f all args reads n le lt p h =
      retreed (covers_number 0) (rules.weaken (omega arith) (omega arith) (omega arith) refl (done [] (p None tt) (subst (λ ts. B s w t k [] all.code ts) (sym (append-nil reads)) h)))
  called {s} {w} {t} {k} {c} false f all args reads n le lt p h =
      done [] (p (Some n) (scratch n le lt)) (subst (λ ts. B s w t k [] all.code ts) (sym (append-nil reads)) h)

  pub gives_call : {s w t k : ℕ} (void : Bool) (f : ℕ) (ls : List Lowering) → nat_lt (length ls) 9 ≡ true → AllGive s w t k ls → Gives (s + 4) (w + 16) (t + 1) (k + a.direct f) (lower_call void f ls)
  gives_call void f ls few h n le top =
      let all = lower_all ls n in
      called void (callee.Direct f) all all.trees all.trees n le (omega (arith, top))
      (λ w may. plain_call a w f all.trees may (subst (λ m. nat_lt m 9 ≡ true) (sym (trees_length ls n)) few)) (h n le (omega (arith, top)))

  pub gives_switched : {s w t k : ℕ} (void : Bool) (g : ℕ) (ls : List Lowering) → nat_lt (length ls) 9 ≡ true → a.named (array.Global g) ≡ true → a.arrays g ≡ true → AllGive s w t k ls →
      Gives (s + 4) (w + 16) (t + 1) (k + a.through) (lower_switched void ls g)
  gives_switched void g ls few may reads h n le top =
      let all = lower_all ls n in
      called void (callee.Switched g) all all.trees all.trees n le (omega (arith, top))
      (λ w ok. plain_switched a w g all.trees ok may reads (subst (λ m. nat_lt m 9 ≡ true) (sym (trees_length ls n)) few)) (h n le (omega (arith, top)))

  pub gives_through : {s w t k : ℕ} (void : Bool) (ls : List Lowering) (l : Lowering) → nat_lt (length ls) 9 ≡ true → AllGive s w t k (ls ++ l ∷ []) → Gives (s + 4) (w + 16) (t + 1) (k + a.through) (lower_through void ls l)
  gives_through {s} {w} {t} {k} void ls l few h n le top =
      let all = lower_all (ls ++ l ∷ []) n in
      let long = trees_length (ls ++ l ∷ []) n ∙ length-append ls (l ∷ []) in
      let turned = subst (λ ts. Covers ts (last_of all.trees ∷ but_last all.trees) 0) (last_apart all.trees (length ls) long) (covers_swap (but_last all.trees) (last_of all.trees ∷ [])) in
      called void (callee.Through (last_of all.trees)) all (but_last all.trees) (last_of all.trees ∷ but_last all.trees) n le (omega (arith, top))
      (λ w may. plain_through a w (last_of all.trees) (but_last all.trees) may (subst (λ m. nat_lt m 9 ≡ true) (sym (last_length all.trees (length ls) long)) few))
      (rules.weaken (omega arith) (omega arith) (omega arith) refl (retreed turned (h n le (omega (arith, top)))))

  pub gives_known : {s w t k : ℕ} (f : Known) (ls : List Lowering) → nat_eq (length ls) (known_arguments f) ≡ true → AllGive s w t k ls → Gives (s + 4) (w + 16) (t + 1) k (lower_known f ls)
  gives_known {s} {w} {t} {k} f ls as_many h n le top =
      let all = lower_all ls n in
      rules.weaken (omega arith) (omega arith) (omega arith) (omega arith)
      (done [] (plain_known a n f all.trees (scratch n le (omega (arith, top))) (subst (λ m. nat_eq m (known_arguments f) ≡ true) (sym (trees_length ls n)) as_many))
      (subst (λ ts. B s w t k [] all.code ts) (sym (append-nil all.trees)) (h n le (omega (arith, top)))))

  -- ---- elements of arrays

  index_up : {s w t k : ℕ} (i : Lowering) → Gives s w t k i → (n : ℕ) → locals ≤ n → (index_in n i).top ≤ room → B (s + 1) (w + 1) (t + 2) k [] (index_in n i).code (temp (n + 1) ∷ temp (n + 1) ∷ [])
  index_up i h n le top = rules.weaken (omega arith) (omega arith) (omega arith) refl (twice (n + 1) [] (set_up (n + 1) (i n).tree [] (omega (arith, le)) (omega (arith, top)) (h n le (omega (arith, top)))))

  -- an element, whose index stands in a temporary
  pub gives_element : (r : Array) (at : ℕ) → a.named r ≡ true → AllMay a.arrays (array_read r) → GivesFrom (temp at ∷ []) 1 9 1 0 (lower_element r at)
  gives_element r at may reads n le top = rules.does (plain_read a n r (temp at) (scratch n le (omega (arith, top))) may reads)

  pub gives_read_element : {s w t k : ℕ} (r : Array) (i : Lowering) → a.named r ≡ true → AllMay a.arrays (array_read r) → Gives s w t k i → Gives (s + 1) (w + 9) (t + 1) k (lower_read_element r i)
  gives_read_element r i may reads h n le top =
      rules.weaken (omega arith) (omega arith) (omega arith) (omega arith)
      (done [] (plain_read a n r (i n).tree (scratch n le (omega (arith, top))) may reads) (h n le (omega (arith, top))))

  -- a value in a temporary, in a tree and as it is, behind an index
  value_and_tree : (n : ℕ) (x at : Tree) (more : ℕ) → Covers (temp n ∷ []) (x ∷ []) more → B 0 0 (1 + more) 0 (temp n ∷ at ∷ []) [] (at ∷ x ∷ temp n ∷ [])
  value_and_tree n x at more c =
      let both = covers_then (temp n ∷ []) (temp n ∷ temp n ∷ []) (x ∷ temp n ∷ []) 1 more (covers_twice n) (covers_before (temp n ∷ []) (x ∷ []) (temp n ∷ []) more c) in
      rules.weaken (omega arith) (omega arith) (omega arith) refl
      (rules.chain (rules.retree (covers_before (temp n ∷ []) (x ∷ temp n ∷ []) (at ∷ []) (1 + more) both)) (rules.retree (covers_swap (x ∷ temp n ∷ []) (at ∷ []))))

  pub gives_set_element : {s w t k s' w' t' k' : ℕ} (r : Array) (i v : Lowering) (n : ℕ) → a.named r ≡ true → Gives s w t k i → locals ≤ n → (lower_set_element r i v n).top ≤ room →
      B s' w' t' k' (temp (n + 1) ∷ []) (v (n + 2)).code ((v (n + 2)).tree ∷ []) →
      B (s + s' + 4) (w + w' + 14) (t + t' + 5) (k + k') [] (lower_set_element r i v n).code (temp n ∷ [])
  gives_set_element r i v n may hi le top hv =
      let at = temp (n + 1) in
      let checked = rules.chain (rules.beside (at ∷ []) (rules.does (plain_check a r at may))) (rules.retree (covers_twice (n + 1))) in
      let put = rules.beside (at ∷ []) (rules.does (plain_set a n (v (n + 2)).tree (scratch n le (omega (arith, top))))) in
      let written = rules.beside (temp n ∷ []) (rules.does (plain_write a r at (temp n) may)) in
      let stored = rules.chain put (rules.chain (value_and_tree n (temp n) at 0 (covers_self (temp n ∷ []))) written) in
      rules.weaken (omega arith) (omega arith) (omega arith) (omega arith)
      (rules.chain (index_up i hi n le (omega (arith, top))) (rules.chain checked (rules.chain (rules.beside (at ∷ []) hv) stored)))

  -- ---- a value before it is changed

  abbrev Steps : (ℕ → Tree) → Type 0
  Steps next = (n : ℕ) → Covers (temp n ∷ []) (next n ∷ []) 3

  -- the old value and the new one, from the old one
  old_and_new : (n : ℕ) (x : Tree) → Covers (temp n ∷ []) (x ∷ []) 3 → B 0 0 4 0 (temp n ∷ []) [] (x ∷ temp n ∷ [])
  old_and_new n x c = rules.retree (covers_then (temp n ∷ []) (temp n ∷ temp n ∷ []) (x ∷ temp n ∷ []) 1 3 (covers_twice n) (covers_before (temp n ∷ []) (x ∷ []) (temp n ∷ []) 3 c))

  pub gives_local_after : (l : ℕ) (next : ℕ → Tree) → a.declared l ≡ true → a.temps l ≡ true → Steps next → (n : ℕ) → locals ≤ n → n < room →
      B 2 2 6 0 [] (set n (temp l) ∷ set l (next n) ∷ []) (temp n ∷ [])
  gives_local_after l next h k c n le lt =
      let put = rules.chain (rules.local l h k) (rules.does (plain_set a n (temp l) (scratch n le lt))) in
      let changed = rules.beside (temp n ∷ []) (rules.drops (plain_set a l (next n) k)) in
      rules.weaken (omega arith) (omega arith) (omega arith) (omega arith) (rules.chain put (rules.chain (old_and_new n (next n) (c n)) changed))

  pub gives_global_after : (g : ℕ) (next : ℕ → Tree) → a.scalars g ≡ true → a.named (array.Global g) ≡ true → Steps next → (n : ℕ) → locals ≤ n → n < room →
      B 2 3 6 0 [] (set n (global g) ∷ set_global g (next n) ∷ []) (temp n ∷ [])
  gives_global_after g next h k c n le lt =
      let put = rules.chain (rules.scalar g h) (rules.does (plain_set a n (global g) (scratch n le lt))) in
      let changed = rules.beside (temp n ∷ []) (rules.does (plain_set_global a g (next n) k)) in
      rules.weaken (omega arith) (omega arith) (omega arith) (omega arith) (rules.chain put (rules.chain (old_and_new n (next n) (c n)) changed))

  pub gives_element_after : {s w t k : ℕ} (r : Array) (i : Lowering) (next : ℕ → Tree) → a.named r ≡ true → AllMay a.arrays (array_read r) → Steps next → Gives s w t k i → (n : ℕ) → locals ≤ n → (index_in n i).top ≤ room →
      B (s + 3) (w + 18) (t + 7) k [] ((index_in n i).code ++ (read n r (temp (n + 1)) ∷ write r (temp (n + 1)) (next n) ∷ [])) (temp n ∷ [])
  gives_element_after r i next may reads c h n le top =
      let at = temp (n + 1) in
      let found = rules.beside (at ∷ []) (rules.does (plain_read a n r at (scratch n le (omega (arith, top))) may reads)) in
      let written = rules.beside (temp n ∷ []) (rules.does (plain_write a r at (next n) may)) in
      rules.weaken (omega arith) (omega arith) (omega arith) (omega arith)
      (rules.chain (index_up i h n le top) (rules.chain found (rules.chain (value_and_tree n (next n) at 3 (c n)) written)))
