-- How the answers of the parser's functions follow from those of the functions that they call.
use Rattle.std.proofs.Common.{◌≡◌, ℕ, zero, suc, Bool, true, false, cond, Some, None, Result, Ok, Err, List, [], ◌∷◌, length, refl, sym, ap, subst, ◌∙◌}
use Rattle.mv_syntax.specs.declared.place.Place.{Place}
use Rattle.mv_parse_grammar.specs.Terminals.{Terminal}
use Rattle.mv_parse_nodes.specs.declared.fault.Fault.{Fault}
use Rattle.mv_parse_nodes.specs.declared.fault.Fault.TheVariants.{Memory, Syntax}
use Rattle.mv_parse_grammar.specs.Language.{place_of}
use Rattle.mv_parse_grammar.specs.Reader as R
use Rattle.mv_parse_grammar.specs.Reader.{Read, Ends, Deep, next, go_on}
use Rattle.mv_parse_nodes.specs.Gives.{Gives, Told, IsTaken}

memory_told : {A X : Type 0} (view : A → X × List Terminal) (read : Read X) → Told view (Err Memory) read
memory_told view Deep = tt
memory_told view (Ends None s) = tt
memory_told view (Ends (Some x) s) = tt

pub memory : {A X : Type 0} {view : A → X × List Terminal} (read : Read X) → Gives view (Err Memory) read
memory {view = view} read = record { told = memory_told view read }

pub given_ok : {A X : Type 0} {view : A → X × List Terminal} (a : A) (x : X) (ts : List Terminal) → x ≡ (view a).0 → ts ≡ (view a).1 → Gives view (Ok a) (R.give x ts)
given_ok a x ts e f = record { told = (e, f) }

then_ok_told : {A B X Y : Type 0} (view : A → X × List Terminal) (view2 : B → Y × List Terminal) (a : A) (r : Result B Fault) (read : Read X) (f : X → List Terminal → Read Y)
    → Told view (Ok a) read → Told view2 r (f (view a).0 (view a).1) → Told view2 r (go_on f read)
then_ok_told view view2 a r Deep f h k = tt
then_ok_told view view2 a r (Ends None s) f h k = absurd h
then_ok_told view view2 a r (Ends (Some x) s) f h k = subst (λ z. Told view2 r (f z s)) (sym h.0) (subst (λ z. Told view2 r (f (view a).0 z)) (sym h.1) k)

pub then_ok : {A B X Y : Type 0} {view : A → X × List Terminal} {view2 : B → Y × List Terminal} {a : A} {r : Result B Fault} {read : Read X} (f : X → List Terminal → Read Y)
    → Gives view (Ok a) read → Gives view2 r (f (view a).0 (view a).1) → Gives view2 r (go_on f read)
then_ok {view = view} {view2 = view2} {a = a} {r = r} {read = read} f h k = record { told = then_ok_told view view2 a r read f h.told k.told }

pub then_err_told : {A B X Y : Type 0} (view : A → X × List Terminal) (view2 : B → Y × List Terminal) (e : Fault) (read : Read X) (f : X → List Terminal → Read Y)
    → Told view (Err e) read → Told view2 (Err e) (go_on f read)
then_err_told view view2 e Deep f h = tt
then_err_told view view2 Memory (Ends None s) f h = tt
then_err_told view view2 (Syntax n) (Ends None s) f h = h
then_err_told view view2 Memory (Ends (Some x) s) f h = memory_told view2 (f x s)
then_err_told view view2 (Syntax n) (Ends (Some x) s) f h = absurd h

pub then_err : {A B X Y : Type 0} {view : A → X × List Terminal} {view2 : B → Y × List Terminal} {e : Fault} {read : Read X} (f : X → List Terminal → Read Y)
    → Gives view (Err e) read → Gives view2 (Err e) (go_on f read)
then_err {view = view} {view2 = view2} {e = e} {read = read} f h = record { told = then_err_told view view2 e read f h.told }

-- a phrase with its place

marked_ok : {A X : Type 0} (view : A → X × List Terminal) (a : A) (ts : List Terminal) (read : Read X) → Told view (Ok a) read
    → Told (λ (b : A). ((place_of ts, (view b).0), (view b).1)) (Ok a) (go_on {Y = Place × X} (λ x. R.give (place_of ts, x)) read)
marked_ok view a ts Deep h = tt
marked_ok view a ts (Ends None s) h = absurd h
marked_ok view a ts (Ends (Some x) s) h = (ap (λ z. (place_of ts, z)) h.0, h.1)

pub placed_ok : {A B X Y : Type 0} {view : A → X × List Terminal} {view2 : B → Y × List Terminal} {a : A} {r : Result B Fault} {ts : List Terminal} (p : List Terminal → Read X) (f : Place × X → List Terminal → Read Y)
    → Gives view (Ok a) (p ts) → Gives view2 r (f (place_of ts, (view a).0) (view a).1) → Gives view2 r (go_on f (R.marked p ts))
placed_ok {A} {B} {X} {Y} {view} {view2} {a} {r} {ts} p f h k =
    record { told = then_ok_told (λ (b : A). ((place_of ts, (view b).0), (view b).1)) view2 a r (R.marked p ts) f (marked_ok view a ts (p ts) h.told) k.told }

pub placed_err : {A B X Y : Type 0} {view : A → X × List Terminal} {view2 : B → Y × List Terminal} {e : Fault} {ts : List Terminal} (p : List Terminal → Read X) (f : Place × X → List Terminal → Read Y)
    → Gives view (Err e) (p ts) → Gives view2 (Err e) (go_on f (R.marked p ts))
placed_err {A} {B} {X} {Y} {view} {view2} {e} {ts} p f h =
    record {
      told = then_err_told (λ (b : A). ((place_of ts, (view b).0), (view b).1)) view2 e (R.marked p ts) f
          (then_err_told view (λ (b : A). ((place_of ts, (view b).0), (view b).1)) e (p ts) (λ x. R.give (place_of ts, x)) h.told);
    }

-- a token

pub taken_next : (test : Terminal → Bool) (ts : List Terminal) (t : Terminal) (rest : List Terminal) → IsTaken test ts t rest → next test ts ≡ true
taken_next test ts t rest h = ap (next test) h.whole ∙ h.kind

pub token_read : (test : Terminal → Bool) (ts : List Terminal) (t : Terminal) (rest : List Terminal) → IsTaken test ts t rest → R.token test ts ≡ Ends (Some t) rest
token_read test ts t rest h = ap (R.token test) h.whole ∙ ap (λ v. cond v (Ends (Some t) rest) (Ends None (t ∷ rest))) h.kind

pub token_ok : {B Y : Type 0} {view : B → Y × List Terminal} {r : Result B Fault} {test : Terminal → Bool} {ts : List Terminal} {t : Terminal} {rest : List Terminal} (f : Terminal → List Terminal → Read Y)
    → IsTaken test ts t rest → Gives view r (f t rest) → Gives view r (go_on f (R.token test ts))
token_ok {view = view} {r = r} {test = test} {ts = ts} {t = t} {rest = rest} f h k = subst (λ z. Gives view r (go_on f z)) (sym (token_read test ts t rest h)) k

pub token_missing : (test : Terminal → Bool) (ts : List Terminal) → next test ts ≡ false → R.token test ts ≡ Ends None ts
token_missing test [] h = refl
token_missing test (t ∷ ts) h = ap (λ v. cond v (Ends (Some t) ts) (Ends None (t ∷ ts))) h

pub token_taken : {A : Type 0} {view : A → Terminal × List Terminal} {test : Terminal → Bool} {ts : List Terminal} {t : Terminal} {rest : List Terminal} (a : A)
    → t ≡ (view a).0 → rest ≡ (view a).1 → IsTaken test ts t rest → Gives view (Ok a) (R.token test ts)
token_taken {view = view} {test = test} {ts = ts} {t = t} {rest = rest} a e f h = subst (λ z. Gives view (Ok a) z) (sym (token_read test ts t rest h)) (record { told = (e, f) })

pub token_missed : {A : Type 0} {view : A → Terminal × List Terminal} (test : Terminal → Bool) (ts : List Terminal) → next test ts ≡ false → Gives view (Err (Syntax (length ts))) (R.token test ts)
token_missed {view = view} test ts h = subst (λ z. Gives view (Err (Syntax (length ts))) z) (sym (token_missing test ts h)) (record { told = refl })

-- a choice

pub choice_yes : {B Y : Type 0} {view : B → Y × List Terminal} {r : Result B Fault} {test : Terminal → Bool} {ts : List Terminal} {t : Terminal} {rest : List Terminal} (one two : Read Y)
    → IsTaken test ts t rest → Gives view r one → Gives view r (cond (next test ts) one two)
choice_yes {view = view} {r = r} {test = test} {ts = ts} {t = t} {rest = rest} one two h k = subst (λ z. Gives view r (cond z one two)) (sym (taken_next test ts t rest h)) k

pub choice_no : {B Y : Type 0} {view : B → Y × List Terminal} {r : Result B Fault} (v : Bool) (one two : Read Y)
    → v ≡ false → Gives view r two → Gives view r (cond v one two)
choice_no {view = view} {r = r} v one two h k = subst (λ z. Gives view r (cond z one two)) (sym h) k

-- a loop

-- All that is to be read is what the loop reads from here, unless the bound was too small.
pub record Loops {X Y : Type 0} (whole : Read Y) (test : Terminal → Bool) (f : X → List Terminal → Read X) (fin : X → List Terminal → Read Y) (x : X) (ts : List Terminal) : Type 0 where
  pub turns : ℕ
  pub same : whole ≡ go_on fin (R.chain test f turns x ts)

begun : {A X Y Z : Type 0} (view : A → X × List Terminal) (whole : Read Y) (test : Terminal → Bool) (f : Z → List Terminal → Read Z) (fin : Z → List Terminal → Read Y) (g : X → Z) (n : ℕ) (a : A) (read : Read X)
    → Told view (Ok a) read → whole ≡ go_on (λ x r. go_on fin (R.chain test f n (g x) r)) read → Loops whole test f fin (g (view a).0) (view a).1
begun view whole test f fin g n a Deep h e = record { turns = zero; same = e }
begun view whole test f fin g n a (Ends None s) h e = absurd h
begun view whole test f fin g n a (Ends (Some x) s) h e =
    record { turns = n; same = e ∙ (ap (λ z. go_on fin (R.chain test f n (g z) s)) h.0 ∙ ap (λ z. go_on fin (R.chain test f n (g (view a).0) z)) h.1) }

-- the loop begins after a phrase, or after one with its place

pub loop_begins : {A X Y Z : Type 0} {view : A → X × List Terminal} {whole : Read Y} {test : Terminal → Bool} (f : Z → List Terminal → Read Z) (fin : Z → List Terminal → Read Y) (g : X → Z) (n : ℕ) (a : A) (read : Read X)
    → Gives view (Ok a) read → whole ≡ go_on (λ x r. go_on fin (R.chain test f n (g x) r)) read → Loops whole test f fin (g (view a).0) (view a).1
loop_begins {view = view} {whole = whole} {test = test} f fin g n a read h e = begun view whole test f fin g n a read h.told e

pub loop_begins_at : {A X Y : Type 0} {view : A → X × List Terminal} {whole : Read Y} {test : Terminal → Bool}
    (f : Place × X → List Terminal → Read (Place × X)) (fin : Place × X → List Terminal → Read Y) (n : ℕ) (a : A) (ts : List Terminal)
    (p : List Terminal → Read X) →
    Gives view (Ok a) (p ts) → whole ≡ go_on (λ x r. go_on fin (R.chain test f n x r)) (R.marked p ts) →
    Loops whole test f fin (place_of ts, (view a).0) (view a).1
loop_begins_at {A} {X} {Y} {view} {whole} {test} f fin n a ts p h e = begun (λ (b : A). ((place_of ts, (view b).0), (view b).1)) whole test f fin (λ z. z) n a (R.marked p ts) (marked_ok view a ts (p ts) h.told) e

pub loops_at : {X Y : Type 0} {whole : Read Y} {test : Terminal → Bool} {f : X → List Terminal → Read X} {fin : X → List Terminal → Read Y} {x y : X} {ts us : List Terminal}
    → Loops whole test f fin x ts → x ≡ y → ts ≡ us → Loops whole test f fin y us
loops_at {X} {Y} {whole} {test} {f} {fin} {x} {y} {ts} {us} l e h = subst (λ z. Loops whole test f fin z us) e (subst (λ z. Loops whole test f fin x z) h l)

pub skipped : {Y : Type 0} (v : Bool) (p q : Read Y) → v ≡ false → cond v p q ≡ q
skipped v p q h = ap (λ z. cond z p q) h

err_any_told : {A B X : Type 0} (view : A → X × List Terminal) (view2 : B → X × List Terminal) (e : Fault) (read : Read X) → Told view (Err e) read → Told view2 (Err e) read
err_any_told view view2 e Deep h = tt
err_any_told view view2 Memory (Ends None s) h = tt
err_any_told view view2 (Syntax n) (Ends None s) h = h
err_any_told view view2 Memory (Ends (Some x) s) h = tt
err_any_told view view2 (Syntax n) (Ends (Some x) s) h = absurd h

pub err_any : {A B X : Type 0} {view : A → X × List Terminal} {view2 : B → X × List Terminal} {e : Fault} {read : Read X} → Gives view (Err e) read → Gives view2 (Err e) read
err_any {view = view} {view2 = view2} {e = e} {read = read} h = record { told = err_any_told view view2 e read h.told }

-- what was read, as it is
abbrev pub plain : {X : Type 0} → X × List Terminal → X × List Terminal
plain z = z

ok_any_told : {A X : Type 0} (view : A → X × List Terminal) (a : A) (read : Read X) → Told view (Ok a) read → Told plain (Ok (view a)) read
ok_any_told view a Deep h = tt
ok_any_told view a (Ends None s) h = absurd h
ok_any_told view a (Ends (Some x) s) h = h

pub ok_any : {A X : Type 0} {view : A → X × List Terminal} {a : A} {read : Read X} → Gives view (Ok a) read → Gives plain (Ok (view a)) read
ok_any {view = view} {a = a} {read = read} h = record { told = ok_any_told view a read h.told }

pub loop_goes_on : {X Y : Type 0} {whole : Read Y} {test : Terminal → Bool} {f : X → List Terminal → Read X} {fin : X → List Terminal → Read Y} {x : X} {ts : List Terminal} {t : Terminal} {rest : List Terminal} {a : X × List Terminal}
    → Loops whole test f fin x ts → IsTaken test ts t rest → Gives plain (Ok a) (f x ts) → Loops whole test f fin a.0 a.1
loop_goes_on {X} {Y} {whole} {test} {f} {fin} {x} {ts} {t} {rest} {a} l h k = go l.turns l.same
  where
    turned : (n : ℕ) (read : Read X) → Told plain (Ok a) read → whole ≡ go_on fin (go_on (R.chain test f n) read) → Loops whole test f fin a.0 a.1
    turned n Deep u e = record { turns = zero; same = e }
    turned n (Ends None s) u e = absurd u
    turned n (Ends (Some y) s) u e = record { turns = n; same = e ∙ (ap (λ z. go_on fin (R.chain test f n z s)) u.0 ∙ ap (λ z. go_on fin (R.chain test f n a.0 z)) u.1) }

    go : (n : ℕ) → whole ≡ go_on fin (R.chain test f n x ts) → Loops whole test f fin a.0 a.1
    go zero e = record { turns = zero; same = e }
    go (suc n) e = turned n (f x ts) k.told (e ∙ ap (λ z. go_on fin (cond z (go_on (R.chain test f n) (f x ts)) (R.give x ts))) (taken_next test ts t rest h))

pub loop_stops : {B X Y : Type 0} {view : B → Y × List Terminal} {r : Result B Fault} {whole : Read Y} {test : Terminal → Bool} {f : X → List Terminal → Read X} {fin : X → List Terminal → Read Y} {x : X} {ts : List Terminal}
    → Loops whole test f fin x ts → next test ts ≡ false → Gives view r (fin x ts) → Gives view r whole
loop_stops {B} {X} {Y} {view} {r} {whole} {test} {f} {fin} {x} {ts} l h k = subst (λ z. Gives view r z) (sym l.same) (go l.turns)
  where
    go : (n : ℕ) → Gives view r (go_on fin (R.chain test f n x ts))
    go zero = record { told = tt }
    go (suc n) = subst (λ z. Gives view r (go_on fin (cond z (go_on (R.chain test f n) (f x ts)) (R.give x ts)))) (sym h) k

pub loop_fails : {B X Y : Type 0} {view2 : B → Y × List Terminal} {e : Fault} {whole : Read Y} {test : Terminal → Bool}
    {f : X → List Terminal → Read X} {fin : X → List Terminal → Read Y} {x : X} {ts : List Terminal} {t : Terminal} {rest : List Terminal} →
    Loops whole test f fin x ts → IsTaken test ts t rest → Gives plain (Err e) (f x ts) → Gives view2 (Err e) whole
loop_fails {B} {X} {Y} {view2} {e} {whole} {test} {f} {fin} {x} {ts} {t} {rest} l h k = subst (λ z. Gives view2 (Err e) z) (sym l.same) (go l.turns)
  where
    go : (n : ℕ) → Gives view2 (Err e) (go_on fin (R.chain test f n x ts))
    go zero = record { told = tt }
    go (suc n) = subst (λ z. Gives view2 (Err e) (go_on fin (cond z (go_on (R.chain test f n) (f x ts)) (R.give x ts)))) (sym (taken_next test ts t rest h))
        (record { told = then_err_told plain view2 e (go_on (R.chain test f n) (f x ts)) fin (then_err_told plain plain e (f x ts) (R.chain test f n) k.told) })

pub loop_starts : {X Y : Type 0} (whole : Read Y) (test : Terminal → Bool) (f : X → List Terminal → Read X) (fin : X → List Terminal → Read Y) (x : X) (ts : List Terminal) (n : ℕ)
    → whole ≡ go_on fin (R.chain test f n x ts) → Loops whole test f fin x ts
loop_starts whole test f fin x ts n e = record { turns = n; same = e }

pub go_on_give : {X : Type 0} (read : Read X) → read ≡ go_on (λ x r. R.give x r) read
go_on_give Deep = refl
go_on_give (Ends None s) = refl
go_on_give (Ends (Some x) s) = refl

pub none_at_end : (test : Terminal → Bool) (ts : List Terminal) → ts ≡ [] → next test ts ≡ false
none_at_end test ts e = ap (next test) e

-- a phrase, another, and a third: grouped from the right
pub regrouped : {X Y Z : Type 0} (f : X → List Terminal → Read Y) (fin : Y → List Terminal → Read Z) (read : Read X) → go_on fin (go_on f read) ≡ go_on (λ x r. go_on fin (f x r)) read
regrouped f fin Deep = refl
regrouped f fin (Ends None s) = refl
regrouped f fin (Ends (Some x) s) = refl

pub choice_true : {B Y : Type 0} {view : B → Y × List Terminal} {r : Result B Fault} (v : Bool) (one two : Read Y)
    → v ≡ true → Gives view r one → Gives view r (cond v one two)
choice_true {view = view} {r = r} v one two h k = subst (λ z. Gives view r (cond z one two)) (sym h) k

-- a phrase that was read, with its place
pub marked_gives : {A X : Type 0} {view : A → X × List Terminal} {a : A} (ts : List Terminal) (p : List Terminal → Read X)
    → Gives view (Ok a) (p ts) → Gives (λ (b : A). ((place_of ts, (view b).0), (view b).1)) (Ok a) (R.marked p ts)
marked_gives {view = view} {a = a} ts p h = record { told = marked_ok view a ts (p ts) h.told }

pub same_read : {A X : Type 0} {view : A → X × List Terminal} {r : Result A Fault} {one two : Read X} → one ≡ two → Gives view r one → Gives view r two
same_read {view = view} {r = r} e h = subst (λ z. Gives view r z) e h

-- a choice before something more

pub then_no : {B X Y : Type 0} {view : B → Y × List Terminal} {r : Result B Fault} (f : X → List Terminal → Read Y) (v : Bool) (one two : Read X)
    → v ≡ false → Gives view r (go_on f two) → Gives view r (go_on f (cond v one two))
then_no {view = view} {r = r} f v one two h k = subst (λ z. Gives view r (go_on f (cond z one two))) (sym h) k

pub then_taken : {B X Y : Type 0} {view : B → Y × List Terminal} {r : Result B Fault} {test : Terminal → Bool} {ts : List Terminal} {t : Terminal}
    {rest : List Terminal} (f : X → List Terminal → Read Y) (g : Terminal → List Terminal → Read X) (two : Read X) →
    IsTaken test ts t rest → Gives view r (go_on f (g t rest)) → Gives view r (go_on f (cond (next test ts) (go_on g (R.token test ts)) two))
then_taken {view = view} {r = r} {test = test} {ts = ts} {t = t} {rest = rest} f g two h k =
    subst (λ z. Gives view r (go_on f (cond z (go_on g (R.token test ts)) two))) (sym (taken_next test ts t rest h))
    (subst (λ z. Gives view r (go_on f (go_on g z))) (sym (token_read test ts t rest h)) k)
