-- What expressions of constants come to, wherever they are evaluated: one lemma for each form.
use Rattle.std.proofs.Common.{◌≡◌, ℕ, ◌+◌, Bool, true, false, refl, sym, ◌∙◌, ap, subst, Some, if◌then◌else◌, nat_eq}
use Rattle.mv_ast.specs.declared.program.Program.{Program}
use Rattle.mv_ast.specs.declared.program.Expr.{Expr}
use Rattle.mv_ast.specs.declared.program.Form.{out-Form}
use Rattle.mv_ast.specs.declared.program.Form.TheOpen as form
use Rattle.mv_ast.specs.Worlds.{World, Came, after, and_then, bind, give, counted}
use Rattle.mv_meaning.specs.declared.state.Frame.{Frame}
use Rattle.mv_ast.specs.Operators.{unary_value, binary_value, converted}
use Rattle.mv_meaning.specs.Meaning.{Evaluation, value_of, unless_zero, truth_of, value_or_trap}
use Rattle.mv_source_forms.specs.Typing.{ComesTo}
use Rattle.mv_meaning.proofs.Equations.{value_of-Number, value_of-Unary, value_of-Binary, value_of-Both, value_of-Either, value_of-Choose, value_of-Convert}

-- an evaluation comes to a value at some work and does nothing else
abbrev ComesBy : Evaluation ℕ → ℕ → ℕ → Type 0
ComesBy e v n = (f : Frame) (w : World) → e f w ≡ Came v f w n

comes_counted : (e d : Evaluation ℕ) (v n : ℕ) → e ≡ counted 1 d → ComesBy d v n → ComesBy e v (1 + n)
comes_counted e d v n q h f w = ap (λ (z : Evaluation ℕ). z f w) q ∙ ap (after 1) (h f w)

comes_bind : (e : Evaluation ℕ) (next : ℕ → Evaluation ℕ) (v n u m : ℕ) → ComesBy e v n → ComesBy (next v) u m → ComesBy (bind e next) u (n + m)
comes_bind e next v n u m h k f w = ap (λ o. and_then o next) (h f w) ∙ ap (after n) (k f w)

comes_if : (b : Bool) (d e : Evaluation ℕ) (v n : ℕ) (c : Bool) → b ≡ c → ComesBy (if c then d else e) v n → ComesBy (if b then d else e) v n
comes_if b d e v n c q h = subst (λ z. ComesBy (if z then d else e) v n) (sym q) h

module _ (p : Program) (e : Expr) where
  pub comes_number : (n : ℕ) → out-Form e.what ≡ form.Number n → ComesTo p e n
  comes_number n o = record { work = 1; value = λ c f w. ap (λ (z : Evaluation ℕ). z f w) (value_of-Number p c e n o) }

  pub comes_unary : (op : ℕ) (a : Expr) (v : ℕ) → out-Form e.what ≡ form.Unary op a → ComesTo p a v → ComesTo p e (unary_value op v)
  comes_unary op a v o h = record {
    work = 1 + (h.work + 0);
    value = λ c. comes_counted (value_of p c e) _ (unary_value op v) (h.work + 0) (value_of-Unary p c e op a o)
        (comes_bind (value_of p c a) (λ x. give (unary_value op x)) v h.work (unary_value op v) 0 (h.value c) (λ f w. refl));
  }

  pub comes_convert : (a : Expr) (v : ℕ) → out-Form e.what ≡ form.Convert a → ComesTo p a v → ComesTo p e (converted e.ctype v)
  comes_convert a v o h = record {
    work = 1 + (h.work + 0);
    value = λ c. comes_counted (value_of p c e) _ (converted e.ctype v) (h.work + 0) (value_of-Convert p c e a o)
        (comes_bind (value_of p c a) (λ x. give (converted e.ctype x)) v h.work (converted e.ctype v) 0 (h.value c) (λ f w. refl));
  }

  pub comes_binary : (op : ℕ) (a b : Expr) (x y v : ℕ) → out-Form e.what ≡ form.Binary op a b → ComesTo p a x → ComesTo p b y →
      binary_value op a.ctype x y ≡ Some v → ComesTo p e v
  comes_binary op a b x y v o h k q = record {
    work = 1 + (h.work + (k.work + 0));
    value = λ c. comes_counted (value_of p c e) _ v (h.work + (k.work + 0)) (value_of-Binary p c e op a b o)
        (comes_bind (value_of p c a) (λ x. bind (value_of p c b) (λ y. value_or_trap (binary_value op a.ctype x y))) x h.work v (k.work + 0) (h.value c)
        (comes_bind (value_of p c b) (λ y. value_or_trap (binary_value op a.ctype x y)) y k.work v 0 (k.value c)
        (λ f w. ap (λ z. value_or_trap z f w) q)));
  }

  -- `&&` and `||` that need their first operand alone
  pub comes_no : (a b : Expr) (x : ℕ) → out-Form e.what ≡ form.Both a b → ComesTo p a x → nat_eq x 0 ≡ true → ComesTo p e 0
  comes_no a b x o h q = record {
    work = 1 + (h.work + 0);
    value = λ c. comes_counted (value_of p c e) _ 0 (h.work + 0) (value_of-Both p c e a b o)
        (comes_bind (value_of p c a) (λ x. unless_zero x (give 0) (bind (value_of p c b) (λ y. give (truth_of y)))) x h.work 0 0 (h.value c)
        (comes_if (nat_eq x 0) (give 0) (bind (value_of p c b) (λ y. give (truth_of y))) 0 0 true q (λ f w. refl)));
  }

  pub comes_yes : (a b : Expr) (x : ℕ) → out-Form e.what ≡ form.Either a b → ComesTo p a x → nat_eq x 0 ≡ false → ComesTo p e 1
  comes_yes a b x o h q = record {
    work = 1 + (h.work + 0);
    value = λ c. comes_counted (value_of p c e) _ 1 (h.work + 0) (value_of-Either p c e a b o)
        (comes_bind (value_of p c a) (λ x. unless_zero x (bind (value_of p c b) (λ y. give (truth_of y))) (give 1)) x h.work 1 0 (h.value c)
        (comes_if (nat_eq x 0) (bind (value_of p c b) (λ y. give (truth_of y))) (give 1) 1 0 false q (λ f w. refl)));
  }

  -- those that need both
  pub comes_both : (a b : Expr) (x y : ℕ) → out-Form e.what ≡ form.Both a b → ComesTo p a x → ComesTo p b y → nat_eq x 0 ≡ false → ComesTo p e (truth_of y)
  comes_both a b x y o h k q = record {
    work = 1 + (h.work + (k.work + 0));
    value = λ c. comes_counted (value_of p c e) _ (truth_of y) (h.work + (k.work + 0)) (value_of-Both p c e a b o)
        (comes_bind (value_of p c a) (λ x. unless_zero x (give 0) (bind (value_of p c b) (λ y. give (truth_of y)))) x h.work (truth_of y) (k.work + 0) (h.value c)
        (comes_if (nat_eq x 0) (give 0) (bind (value_of p c b) (λ y. give (truth_of y))) (truth_of y) (k.work + 0) false q
        (comes_bind (value_of p c b) (λ y. give (truth_of y)) y k.work (truth_of y) 0 (k.value c) (λ f w. refl))));
  }

  pub comes_either : (a b : Expr) (x y : ℕ) → out-Form e.what ≡ form.Either a b → ComesTo p a x → ComesTo p b y → nat_eq x 0 ≡ true → ComesTo p e (truth_of y)
  comes_either a b x y o h k q = record {
    work = 1 + (h.work + (k.work + 0));
    value = λ c. comes_counted (value_of p c e) _ (truth_of y) (h.work + (k.work + 0)) (value_of-Either p c e a b o)
        (comes_bind (value_of p c a) (λ x. unless_zero x (bind (value_of p c b) (λ y. give (truth_of y))) (give 1)) x h.work (truth_of y) (k.work + 0) (h.value c)
        (comes_if (nat_eq x 0) (bind (value_of p c b) (λ y. give (truth_of y))) (give 1) (truth_of y) (k.work + 0) true q
        (comes_bind (value_of p c b) (λ y. give (truth_of y)) y k.work (truth_of y) 0 (k.value c) (λ f w. refl))));
  }

  -- `?:`, of which one arm is evaluated
  pub comes_first : (t a b : Expr) (x y : ℕ) → out-Form e.what ≡ form.Choose t a b → ComesTo p t x → ComesTo p a y → nat_eq x 0 ≡ false → ComesTo p e y
  comes_first t a b x y o h k q = record {
    work = 1 + (h.work + k.work);
    value = λ c. comes_counted (value_of p c e) _ y (h.work + k.work) (value_of-Choose p c e t a b o)
        (comes_bind (value_of p c t) (λ x. unless_zero x (value_of p c b) (value_of p c a)) x h.work y k.work (h.value c)
        (comes_if (nat_eq x 0) (value_of p c b) (value_of p c a) y k.work false q (k.value c)));
  }

  pub comes_second : (t a b : Expr) (x y : ℕ) → out-Form e.what ≡ form.Choose t a b → ComesTo p t x → ComesTo p b y → nat_eq x 0 ≡ true → ComesTo p e y
  comes_second t a b x y o h k q = record {
    work = 1 + (h.work + k.work);
    value = λ c. comes_counted (value_of p c e) _ y (h.work + k.work) (value_of-Choose p c e t a b o)
        (comes_bind (value_of p c t) (λ x. unless_zero x (value_of p c b) (value_of p c a)) x h.work y k.work (h.value c)
        (comes_if (nat_eq x 0) (value_of p c b) (value_of p c a) y k.work true q (k.value c)));
  }
