-- One computation after another, in whatever way they are put together.
use Rattle.std.proofs.Common.{◌≡◌, ℕ, ◌+◌, List, [], ◌∷◌, ◌++◌, refl, sym, ◌∙◌, ap, arith}
use Rattle.mv_ast.specs.Worlds.{World, Outcome, Came, Stopped, after, and_then, bind, give}
use Rattle.mv_meaning.specs.declared.state.Frame.{Frame}
use Rattle.mv_meaning.specs.declared.state.Flow.{Flow}
use Rattle.mv_meaning.specs.declared.state.Flow.TheVariants.{Goes, Breaks, Continues, Returns}
use Rattle.mv_meaning.specs.Meaning.{Evaluation, Denotation, values_of, in_order, then_on}

pub after_zero : {A : Type 0} (o : Outcome Frame A) → after 0 o ≡ o
after_zero (Came v f w k) = ap (λ j. Came v f w j) (omega arith)
after_zero (Stopped why w k) = ap (λ j. Stopped why w j) (omega arith)

pub after_twice : {A : Type 0} (n m : ℕ) (o : Outcome Frame A) → after (n + m) o ≡ after n (after m o)
after_twice n m (Came v f w k) = ap (λ j. Came v f w j) (omega arith)
after_twice n m (Stopped why w k) = ap (λ j. Stopped why w j) (omega arith)

pub after_then : {A B : Type 0} (n : ℕ) (o : Outcome Frame A) (next : A → Evaluation B) → and_then (after n o) next ≡ after n (and_then o next)
after_then n (Came v f w k) next = after_twice n k (next v f w)
after_then n (Stopped why w k) next = refl

-- the same at each value
pub under : {A B : Type 0} (o : Outcome Frame A) (g h : A → Evaluation B) → ((v : A) (f : Frame) (w : World) → g v f w ≡ h v f w) → and_then o g ≡ and_then o h
under (Came v f w k) g h e = ap (after k) (e v f w)
under (Stopped why w k) g h e = refl

pub assoc : {A B C : Type 0} (m : Evaluation A) (g : A → Evaluation B) (h : B → Evaluation C) (f : Frame) (w : World) →
    bind (bind m g) h f w ≡ bind m (λ x. bind (g x) h) f w
assoc m g h f w = by (m f w)
  where
    by : (o : Outcome Frame _) → and_then (and_then o g) h ≡ and_then o (λ x. bind (g x) h)
    by (Came v f1 w1 k) = after_then k (g v f1 w1) h
    by (Stopped why w1 k) = refl

pub given : {A B : Type 0} (v : A) (h : A → Evaluation B) (f : Frame) (w : World) → bind (give v) h f w ≡ h v f w
given v h f w = after_zero (h v f w)

-- statements in order
pub in_order_both : (xs ys : List (Evaluation Flow)) (f : Frame) (w : World) → in_order (xs ++ ys) f w ≡ bind (in_order xs) (λ flow. then_on flow (in_order ys)) f w
in_order_both [] ys f w = sym (given Goes (λ flow. then_on flow (in_order ys)) f w)
in_order_both (x ∷ xs) ys f w =
    under (x f w) (λ flow. then_on flow (in_order (xs ++ ys))) (λ flow. bind (then_on flow (in_order xs)) (λ fl. then_on fl (in_order ys))) (by (λ f1 w1. in_order_both xs ys f1 w1)) ∙
    sym (assoc x (λ flow. then_on flow (in_order xs)) (λ fl. then_on fl (in_order ys)) f w)
  where
    by : ((f1 : Frame) (w1 : World) → in_order (xs ++ ys) f1 w1 ≡ bind (in_order xs) (λ flow. then_on flow (in_order ys)) f1 w1) →
        (flow : Flow) (f1 : Frame) (w1 : World) → then_on flow (in_order (xs ++ ys)) f1 w1 ≡ bind (then_on flow (in_order xs)) (λ fl. then_on fl (in_order ys)) f1 w1
    by rest Goes f1 w1 = rest f1 w1
    by rest Breaks f1 w1 = sym (given Breaks (λ fl. then_on fl (in_order ys)) f1 w1)
    by rest Continues f1 w1 = sym (given Continues (λ fl. then_on fl (in_order ys)) f1 w1)
    by rest (Returns v) f1 w1 = sym (given (Returns v) (λ fl. then_on fl (in_order ys)) f1 w1)

-- the new value of a compound assignment, and then its store
pub changed_and_stored : (ma old : Evaluation ℕ) (new : ℕ → ℕ → Evaluation ℕ) (into : ℕ → ℕ) (store : ℕ → Evaluation ℕ) (f : Frame) (w : World) →
    bind (bind (bind ma (λ v. bind old (λ o. new o v))) (λ n. give (into n))) store f w ≡ bind ma (λ v. bind old (λ o. bind (new o v) (λ n. store (into n)))) f w
changed_and_stored ma old new into store f w =
    assoc (bind ma (λ v. bind old (λ o. new o v))) (λ n. give (into n)) store f w ∙
    assoc ma (λ v. bind old (λ o. new o v)) (λ n. bind (give (into n)) store) f w ∙
    under (ma f w) (λ v. bind (bind old (λ o. new o v)) (λ n. bind (give (into n)) store)) (λ v. bind old (λ o. bind (new o v) (λ n. store (into n))))
    (λ v f1 w1. assoc old (λ o. new o v) (λ n. bind (give (into n)) store) f1 w1 ∙
    under (old f1 w1) (λ o. bind (new o v) (λ n. bind (give (into n)) store)) (λ o. bind (new o v) (λ n. store (into n)))
    (λ o f2 w2. under (new o v f2 w2) (λ n. bind (give (into n)) store) (λ n. store (into n)) (λ n f3 w3. given (into n) store f3 w3)))

-- ---- the last of some values

abbrev pub last_value : List ℕ → ℕ
last_value [] = 0
last_value (v ∷ []) = v
last_value (v ∷ u ∷ vs) = last_value (u ∷ vs)

abbrev pub other_values : List ℕ → List ℕ
other_values [] = []
other_values (v ∷ []) = []
other_values (v ∷ u ∷ vs) = v ∷ other_values (u ∷ vs)

last_appended : (vs : List ℕ) (v : ℕ) → last_value (vs ++ v ∷ []) ≡ v
last_appended [] v = refl
last_appended (u ∷ []) v = refl
last_appended (u ∷ x ∷ vs) v = last_appended (x ∷ vs) v

others_appended : (vs : List ℕ) (v : ℕ) → other_values (vs ++ v ∷ []) ≡ vs
others_appended [] v = refl
others_appended (u ∷ []) v = refl
others_appended (u ∷ x ∷ vs) v = ap (λ l. u ∷ l) (others_appended (x ∷ vs) v)

-- some expressions and one more
values_appended : (es : List Denotation) (e : Denotation) (f : Frame) (w : World) → values_of (es ++ e ∷ []) f w ≡ bind (values_of es) (λ vs. bind e.value (λ v. give (vs ++ v ∷ []))) f w
values_appended [] e f w =
    under (e.value f w) (λ v. bind (give []) (λ vs. give (v ∷ vs))) (λ v. give (v ∷ [])) (λ v f1 w1. given [] (λ vs. give (v ∷ vs)) f1 w1) ∙
    sym (given [] (λ vs. bind e.value (λ v. give (vs ++ v ∷ []))) f w)
values_appended (x ∷ es) e f w =
    under (x.value f w) (λ u. bind (values_of (es ++ e ∷ [])) (λ vs. give (u ∷ vs))) (λ u. bind (bind (values_of es) (λ vs. bind e.value (λ v. give (vs ++ v ∷ [])))) (λ vs. give (u ∷ vs)))
    (λ u f1 w1. ap (λ (o : Outcome Frame (List ℕ)). and_then o (λ vs. give (u ∷ vs))) (values_appended es e f1 w1)) ∙
    under (x.value f w) (λ u. bind (bind (values_of es) (λ vs. bind e.value (λ v. give (vs ++ v ∷ [])))) (λ vs. give (u ∷ vs))) (λ u. bind (values_of es) (λ vs. bind e.value (λ v. give (u ∷ (vs ++ v ∷ [])))))
    (λ u f1 w1. assoc (values_of es) (λ vs. bind e.value (λ v. give (vs ++ v ∷ []))) (λ vs. give (u ∷ vs)) f1 w1 ∙
    under (values_of es f1 w1) (λ vs. bind (bind e.value (λ v. give (vs ++ v ∷ []))) (λ vs. give (u ∷ vs))) (λ vs. bind e.value (λ v. give (u ∷ (vs ++ v ∷ []))))
    (λ vs f2 w2. assoc e.value (λ v. give (vs ++ v ∷ [])) (λ vs. give (u ∷ vs)) f2 w2 ∙
    under (e.value f2 w2) (λ v. bind (give (vs ++ v ∷ [])) (λ vs. give (u ∷ vs))) (λ v. give (u ∷ (vs ++ v ∷ []))) (λ v f3 w3. given (vs ++ v ∷ []) (λ vs. give (u ∷ vs)) f3 w3))) ∙
    under (x.value f w) (λ u. bind (values_of es) (λ vs. bind e.value (λ v. give (u ∷ (vs ++ v ∷ []))))) (λ u. bind (bind (values_of es) (λ vs. give (u ∷ vs))) (λ vs. bind e.value (λ v. give (vs ++ v ∷ []))))
    (λ u f1 w1. sym (assoc (values_of es) (λ vs. give (u ∷ vs)) (λ vs. bind e.value (λ v. give (vs ++ v ∷ []))) f1 w1 ∙
    under (values_of es f1 w1) (λ vs. bind (give (u ∷ vs)) (λ vs. bind e.value (λ v. give (vs ++ v ∷ [])))) (λ vs. bind e.value (λ v. give (u ∷ (vs ++ v ∷ []))))
    (λ vs f2 w2. given (u ∷ vs) (λ vs. bind e.value (λ v. give (vs ++ v ∷ []))) f2 w2))) ∙
    sym (assoc x.value (λ u. bind (values_of es) (λ vs. give (u ∷ vs))) (λ vs. bind e.value (λ v. give (vs ++ v ∷ []))) f w)

-- what is done with some values and the last one is done with all of them
pub values_and_last : (es : List Denotation) (e : Denotation) (next : ℕ → List ℕ → Evaluation ℕ) (f : Frame) (w : World) →
    bind (values_of (es ++ e ∷ [])) (λ vs. next (last_value vs) (other_values vs)) f w ≡ bind (values_of es) (λ vs. bind e.value (λ v. next v vs)) f w
values_and_last es e next f w =
    ap (λ (o : Outcome Frame (List ℕ)). and_then o (λ vs. next (last_value vs) (other_values vs))) (values_appended es e f w) ∙
    assoc (values_of es) (λ vs. bind e.value (λ v. give (vs ++ v ∷ []))) (λ vs. next (last_value vs) (other_values vs)) f w ∙
    under (values_of es f w) (λ vs. bind (bind e.value (λ v. give (vs ++ v ∷ []))) (λ vs. next (last_value vs) (other_values vs))) (λ vs. bind e.value (λ v. next v vs))
    (λ vs f1 w1. assoc e.value (λ v. give (vs ++ v ∷ [])) (λ vs. next (last_value vs) (other_values vs)) f1 w1 ∙
    under (e.value f1 w1) (λ v. bind (give (vs ++ v ∷ [])) (λ vs. next (last_value vs) (other_values vs))) (λ v. next v vs)
    (λ v f2 w2. given (vs ++ v ∷ []) (λ vs. next (last_value vs) (other_values vs)) f2 w2 ∙
    ap (λ x. next x (other_values (vs ++ v ∷ [])) f2 w2) (last_appended vs v) ∙ ap (λ l. next v l f2 w2) (others_appended vs v)))
