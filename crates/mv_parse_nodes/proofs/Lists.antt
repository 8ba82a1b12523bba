-- The answers of the functions that read lists in braces.
use Rattle.std.proofs.Common.{◌≡◌, ℕ, zero, suc, Bool, true, false, cond, Some, None, Result, Ok, Err, List, [], ◌∷◌, ◌++◌, refl, sym, ap, subst, ◌∙◌}
use Rattle.mv_parse_nodes.specs.declared.fault.Fault.{Fault}
use Rattle.mv_parse_nodes.specs.Gives.{Gives, Told, IsTaken}
use Rattle.mv_parse_grammar.specs.Terminals.{Terminal, is_mark}
use Rattle.mv_parse_grammar.specs.Reader as R
use Rattle.mv_parse_grammar.specs.Reader.{Read, Ends, Deep, next, go_on}
use Rattle.mv_parse_nodes.proofs.Answers.{Loops, taken_next, token_read, token_ok, given_ok, then_ok, then_err, loop_begins, loop_goes_on, loop_fails, go_on_give, regrouped, same_read}

-- All that is to be read is what the closing of the list reads from here, unless the bound was too small.
pub record Closes {X Y : Type 0} (whole : Read Y) (p : List Terminal → Read X) (fin : List X → List Terminal → Read Y) (xs : List X) (ts : List Terminal) : Type 0 where
  pub turns : ℕ
  pub same : whole ≡ go_on fin (R.closing turns p xs ts)

pub closes_at : {X Y : Type 0} {whole : Read Y} {p : List Terminal → Read X} {fin : List X → List Terminal → Read Y} {xs ys : List X} {ts : List Terminal}
    → Closes whole p fin xs ts → xs ≡ ys → Closes whole p fin ys ts
closes_at {X} {Y} {whole} {p} {fin} {xs} {ys} {ts} l e = subst (λ z. Closes whole p fin z ts) e l

moved : {A X Y : Type 0} (view : A → X × List Terminal) (whole : Read Y) (p : List Terminal → Read X) (fin : List X → List Terminal → Read Y) (xs : List X) (n : ℕ) (a : A) (read : Read X)
    → Told view (Ok a) read → whole ≡ go_on fin (go_on (λ x. R.closing n p (xs ++ x ∷ [])) read) → Closes whole p fin (xs ++ (view a).0 ∷ []) (view a).1
moved view whole p fin xs n a Deep h e = record { turns = zero; same = e }
moved view whole p fin xs n a (Ends None s) h e = absurd h
moved view whole p fin xs n a (Ends (Some x) s) h e =
    record { turns = n; same = e ∙ (ap (λ z. go_on fin (R.closing n p (xs ++ z ∷ []) s)) h.0 ∙ ap (λ z. go_on fin (R.closing n p (xs ++ (view a).0 ∷ []) z)) h.1) }

pub closes_begins : {A X Y : Type 0} {view : A → X × List Terminal} {whole : Read Y} (p : List Terminal → Read X) (fin : List X → List Terminal → Read Y) (n : ℕ) (a : A) (read : Read X)
    → Gives view (Ok a) read → whole ≡ go_on fin (go_on (λ x. R.closing n p (x ∷ [])) read) → Closes whole p fin ((view a).0 ∷ []) (view a).1
closes_begins {view = view} {whole = whole} p fin n a read h e = moved view whole p fin [] n a read h.told e

-- a comma, and another item
more_after : {X : Type 0} (p : List Terminal → Read X) (n : ℕ) (xs : List X) (ts : List Terminal) (t : Terminal) (rest : List Terminal)
    → IsTaken (is_mark 7) ts t rest → next (is_mark 5) rest ≡ false → R.closing (suc n) p xs ts ≡ go_on (λ x. R.closing n p (xs ++ x ∷ [])) (p rest)
more_after p n xs ts t rest h k =
    ap (λ v. cond v (go_on
    (λ _. R.choice (is_mark 5) (R.◌>>=◌ (R.token (is_mark 5)) (λ _. R.give xs)) (R.◌>>=◌ p (λ x. R.closing n p (xs ++ x ∷ []))))
    (R.token (is_mark 7) ts))
    (go_on (λ _. R.give xs) (R.token (is_mark 5) ts)))
    (taken_next (is_mark 7) ts t rest h) ∙
    (ap (λ z. go_on (λ _. R.choice (is_mark 5) (R.◌>>=◌ (R.token (is_mark 5)) (λ _. R.give xs)) (R.◌>>=◌ p (λ x. R.closing n p (xs ++ x ∷ [])))) z)
    (token_read (is_mark 7) ts t rest h) ∙
    ap (λ v. cond v (go_on (λ _. R.give xs) (R.token (is_mark 5) rest)) (go_on (λ x. R.closing n p (xs ++ x ∷ [])) (p rest))) k)

-- a comma, and the end
ended_after : {X : Type 0} (p : List Terminal → Read X) (n : ℕ) (xs : List X) (ts : List Terminal) (t : Terminal) (rest : List Terminal) (u : Terminal) (left : List Terminal)
    → IsTaken (is_mark 7) ts t rest → IsTaken (is_mark 5) rest u left → R.closing (suc n) p xs ts ≡ Ends (Some xs) left
ended_after p n xs ts t rest u left h k =
    ap (λ v. cond v (go_on
    (λ _. R.choice (is_mark 5) (R.◌>>=◌ (R.token (is_mark 5)) (λ _. R.give xs)) (R.◌>>=◌ p (λ x. R.closing n p (xs ++ x ∷ []))))
    (R.token (is_mark 7) ts))
    (go_on (λ _. R.give xs) (R.token (is_mark 5) ts)))
    (taken_next (is_mark 7) ts t rest h) ∙
    (ap (λ z. go_on (λ _. R.choice (is_mark 5) (R.◌>>=◌ (R.token (is_mark 5)) (λ _. R.give xs)) (R.◌>>=◌ p (λ x. R.closing n p (xs ++ x ∷ [])))) z)
    (token_read (is_mark 7) ts t rest h) ∙
    (ap (λ v. cond v (go_on (λ _. R.give xs) (R.token (is_mark 5) rest)) (go_on (λ x. R.closing n p (xs ++ x ∷ [])) (p rest)))
    (taken_next (is_mark 5) rest u left k) ∙
    ap (λ z. go_on (λ _. R.give xs) z) (token_read (is_mark 5) rest u left k)))

pub closes_goes_on : {A X Y : Type 0} {view : A → X × List Terminal} {whole : Read Y} {p : List Terminal → Read X} {fin : List X → List Terminal → Read Y} {xs : List X} {ts : List Terminal} {t : Terminal} {rest : List Terminal} {a : A}
    → Closes whole p fin xs ts → IsTaken (is_mark 7) ts t rest → next (is_mark 5) rest ≡ false → Gives view (Ok a) (p rest) → Closes whole p fin (xs ++ (view a).0 ∷ []) (view a).1
closes_goes_on {A} {X} {Y} {view} {whole} {p} {fin} {xs} {ts} {t} {rest} {a} l h k g = go l.turns l.same
  where
    go : (n : ℕ) → whole ≡ go_on fin (R.closing n p xs ts) → Closes whole p fin (xs ++ (view a).0 ∷ []) (view a).1
    go zero e = record { turns = zero; same = e }
    go (suc n) e = moved view whole p fin xs n a (p rest) g.told (e ∙ ap (λ z. go_on fin z) (more_after p n xs ts t rest h k))

pub closes_fails : {A B X Y : Type 0} {view : A → X × List Terminal} {view2 : B → Y × List Terminal} {e : Fault} {whole : Read Y}
    {p : List Terminal → Read X} {fin : List X → List Terminal → Read Y} {xs : List X} {ts : List Terminal} {t : Terminal} {rest : List Terminal} →
    Closes whole p fin xs ts → IsTaken (is_mark 7) ts t rest → next (is_mark 5) rest ≡ false → Gives view (Err e) (p rest) → Gives view2 (Err e) whole
closes_fails {A} {B} {X} {Y} {view} {view2} {e} {whole} {p} {fin} {xs} {ts} {t} {rest} l h k g = same_read (sym l.same) (go l.turns)
  where
    go : (n : ℕ) → Gives view2 (Err e) (go_on fin (R.closing n p xs ts))
    go zero = record { told = tt }
    go (suc n) = same_read (ap (λ z. go_on fin z) (sym (more_after p n xs ts t rest h k)))
        (same_read (sym (regrouped (λ x. R.closing n p (xs ++ x ∷ [])) fin (p rest))) (then_err (λ x r. go_on fin (R.closing n p (xs ++ x ∷ []) r)) g))

pub closes_early : {B X Y : Type 0} {view : B → Y × List Terminal} {r : Result B Fault} {whole : Read Y} {p : List Terminal → Read X}
    {fin : List X → List Terminal → Read Y} {xs : List X} {ts : List Terminal} {t : Terminal} {rest : List Terminal} {u : Terminal}
    {left : List Terminal} →
    Closes whole p fin xs ts → IsTaken (is_mark 7) ts t rest → IsTaken (is_mark 5) rest u left → Gives view r (fin xs left) → Gives view r whole
closes_early {B} {X} {Y} {view} {r} {whole} {p} {fin} {xs} {ts} {t} {rest} {u} {left} l h k g = same_read (sym l.same) (go l.turns)
  where
    go : (n : ℕ) → Gives view r (go_on fin (R.closing n p xs ts))
    go zero = record { told = tt }
    go (suc n) = same_read (ap (λ z. go_on fin z) (sym (ended_after p n xs ts t rest u left h k))) g

pub closes_stops : {B X Y : Type 0} {view : B → Y × List Terminal} {r : Result B Fault} {whole : Read Y} {p : List Terminal → Read X} {fin : List X → List Terminal → Read Y} {xs : List X} {ts : List Terminal}
    → Closes whole p fin xs ts → next (is_mark 7) ts ≡ false → Gives view r (go_on (λ _ s. fin xs s) (R.token (is_mark 5) ts)) → Gives view r whole
closes_stops {B} {X} {Y} {view} {r} {whole} {p} {fin} {xs} {ts} l h g = same_read (sym l.same) (go l.turns)
  where
    go : (n : ℕ) → Gives view r (go_on fin (R.closing n p xs ts))
    go zero = record { told = tt }
    go (suc n) =
        same_read (sym (regrouped (λ _. R.give xs) fin (R.token (is_mark 5) ts)) ∙
        ap (λ v. go_on fin (cond v (go_on (λ _.
        R.choice (is_mark 5) (R.◌>>=◌ (R.token (is_mark 5)) (λ _. R.give xs)) (R.◌>>=◌ p (λ x. R.closing n p (xs ++ x ∷ []))))
        (R.token (is_mark 7) ts))
        (go_on (λ _. R.give xs) (R.token (is_mark 5) ts)))) (sym h)) g

-- a token that was read is the first
token_told : {A : Type 0} (view : A → Terminal × List Terminal) (a : A) (t : Terminal) (ts : List Terminal) (v : Bool)
    → Told view (Ok a) (cond v (Ends (Some t) ts) (Ends None (t ∷ ts))) → cond v (Ends (Some t) ts) (Ends None (t ∷ ts)) ≡ Ends (Some (view a).0) (view a).1
token_told view a t ts true h = ap (λ z. Ends (Some z) ts) h.0 ∙ ap (λ z. Ends (Some (view a).0) z) h.1
token_told view a t ts false h = absurd h

token_is : {A : Type 0} (view : A → Terminal × List Terminal) (a : A) (test : Terminal → Bool) (ts : List Terminal) → Told view (Ok a) (R.token test ts) → R.token test ts ≡ Ends (Some (view a).0) (view a).1
token_is view a test [] h = absurd h
token_is view a test (t ∷ ts) h = token_told view a t ts (test t) h

pub braced_begins : {A B X : Type 0} {view : A → X × List Terminal} {view2 : B → Terminal × List Terminal} {a : A} {b : B} (n : ℕ) (p : List Terminal → Read X) (ts : List Terminal)
    → Gives view2 (Ok b) (R.token (is_mark 4) ts) → Gives view (Ok a) (p (view2 b).1) → Closes (R.braced_list n p ts) p (λ xs r. R.give xs r) ((view a).0 ∷ []) (view a).1
braced_begins {A} {B} {X} {view} {view2} {a} {b} n p ts h k =
    closes_begins p (λ xs r. R.give xs r) n a (p (view2 b).1) k
    (ap (λ z. go_on (λ _. R.◌>>=◌ p (λ x. R.closing n p (x ∷ []))) z) (token_is view2 b (is_mark 4) ts h.told) ∙ go_on_give (go_on (λ x. R.closing n p (x ∷ [])) (p (view2 b).1)))

-- lists with commas

pub comma_begins : {A X : Type 0} {view : A → X × List Terminal} {a : A} (n : ℕ) (p : List Terminal → Read X) (ts : List Terminal)
    → Gives view (Ok a) (p ts) → Loops (R.comma_list n p ts) (is_mark 7) (R.comma_pushed p) (λ xs r. R.give xs r) ((view a).0 ∷ []) (view a).1
comma_begins {a = a} n p ts h =
    loop_begins (R.comma_pushed p) (λ xs r. R.give xs r) (λ x. x ∷ []) n a (p ts) h
    (go_on_give (R.comma_list n p ts) ∙ regrouped (λ x. R.chain (is_mark 7) (R.comma_pushed p) n (x ∷ [])) (λ xs r. R.give xs r) (p ts))

pub comma_goes_on : {A X Y : Type 0} {view : A → X × List Terminal} {a : A} {whole : Read Y} {fin : List X → List Terminal → Read Y} {xs : List X} {ts : List Terminal} {t : Terminal} {rest : List Terminal} (p : List Terminal → Read X)
    → Loops whole (is_mark 7) (R.comma_pushed p) fin xs ts → IsTaken (is_mark 7) ts t rest → Gives view (Ok a) (p rest) → Loops whole (is_mark 7) (R.comma_pushed p) fin (xs ++ (view a).0 ∷ []) (view a).1
comma_goes_on {view = view} {a = a} {xs = xs} p l h k =
    loop_goes_on l h (token_ok (λ _. R.pushed p xs) h (then_ok (λ x. R.give (xs ++ x ∷ [])) k (given_ok (xs ++ (view a).0 ∷ [], (view a).1) (xs ++ (view a).0 ∷ []) (view a).1 refl refl)))

pub comma_fails : {A B X Y : Type 0} {view : A → X × List Terminal} {view2 : B → Y × List Terminal} {e : Fault} {whole : Read Y}
    {fin : List X → List Terminal → Read Y} {xs : List X} {ts : List Terminal} {t : Terminal} {rest : List Terminal} (p : List Terminal → Read X) →
    Loops whole (is_mark 7) (R.comma_pushed p) fin xs ts → IsTaken (is_mark 7) ts t rest → Gives view (Err e) (p rest) → Gives view2 (Err e) whole
comma_fails {xs = xs} p l h k = loop_fails l h (token_ok (λ _. R.pushed p xs) h (then_err (λ x. R.give (xs ++ x ∷ [])) k))
