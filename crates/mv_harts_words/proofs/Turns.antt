-- One turn more of a schedule.
use Rattle.std.proofs.Common.{ℕ, ◌≡◌, ◌+◌, ◌-◌, ◌<◌, ◌/◌, zero, suc, ◌∙◌, ap, ap₂, sym, refl, List, [], ◌∷◌, ◌++◌, length, replicate, set, arith}
use Rattle.std.specs.Prelude.{All}
use Rattle.std.proofs.Math.Seq.{set-append_seam}
use Rattle.std.proofs.lemmas.List.{append_assoc, append-nil, length-append}
use Rattle.std.proofs.lemmas.List.Elements.{All-nil, All-push}
use Rattle.std.proofs.lemmas.Nat.{mod_below}
use Rattle.mv_gen.specs.Generated.{drawn, next}
use Rattle.mv_harts_words.specs.Schedules.{hart_of, schedule_of}

pub word_first : (number : ℕ) → number ≡ drawn number 0
unfolding drawn
word_first number = refl

pub word_more : (number t word word' : ℕ) → word ≡ drawn number t → word' ≡ next word → word' ≡ drawn number (t + 1)
unfolding drawn
word_more number t word word' e f = let on : suc t ≡ t + 1 = omega arith in f ∙ ap next e ∙ ap (drawn number) on

pub no_turns : (count number turns : ℕ) (items : List ℕ) → items ≡ replicate turns 0 → items ≡ schedule_of count number 0 ++ replicate (turns - 0) 0
unfolding schedule_of
no_turns count number turns items e = let all : turns ≡ turns - 0 = omega arith in e ∙ ap (λ (n : ℕ). replicate n 0) all

length_of : (count number t : ℕ) → length (schedule_of count number t) ≡ t
unfolding schedule_of
length_of count number zero = refl
length_of count number (suc t) = let ih : length (schedule_of count number t) ≡ t = length_of count number t in let both = length-append (schedule_of count number t) (hart_of count (drawn number (suc t)) ∷ []) in omega (arith, ih, both)

one_more : (count number t word hart : ℕ) → word ≡ drawn number (t + 1) → hart ≡ hart_of count word → schedule_of count number t ++ hart ∷ [] ≡ schedule_of count number (t + 1)
unfolding schedule_of
one_more count number t word hart f g =
    let on : suc t ≡ t + 1 = omega arith in
    ap (λ (x : ℕ). schedule_of count number t ++ x ∷ []) (g ∙ ap (hart_of count) (f ∙ ap (drawn number) (sym on))) ∙ ap (schedule_of count number) on

seam : (count number t word hart k : ℕ) → word ≡ drawn number (t + 1) → hart ≡ hart_of count word →
    set (schedule_of count number t ++ replicate (suc k) 0) t hart ≡ schedule_of count number (t + 1) ++ replicate k 0
seam count number t word hart k f g =
    let old = schedule_of count number t in
    ap (λ (i : ℕ). set (old ++ 0 ∷ replicate k 0) i hart) (sym (length_of count number t)) ∙ set-append_seam old 0 (replicate k 0) hart ∙ sym (append_assoc old (hart ∷ []) (replicate k 0))
    ∙ ap (λ (xs : List ℕ). xs ++ replicate k 0) (one_more count number t word hart f g)

-- a turn is set in its place
pub turn_set : (count number turns t word hart : ℕ) (items : List ℕ) → items ≡ schedule_of count number t ++ replicate (turns - t) 0 → t < turns → word ≡ drawn number (t + 1) → hart ≡ hart_of count word →
    set items t hart ≡ schedule_of count number (t + 1) ++ replicate (turns - (t + 1)) 0
turn_set count number turns t word hart items e below f g =
    let left : turns - t ≡ suc (turns - (t + 1)) = omega (arith, below) in
    ap (λ (xs : List ℕ). set xs t hart) (e ∙ ap (λ (n : ℕ). schedule_of count number t ++ replicate n 0) left) ∙ seam count number t word hart (turns - (t + 1)) f g

pub all_turns : (count number turns t : ℕ) (items : List ℕ) → items ≡ schedule_of count number t ++ replicate (turns - t) 0 → t ≡ turns → items ≡ schedule_of count number turns
all_turns count number turns t items e done =
    let none : turns - t ≡ 0 = omega (arith, done) in
    e ∙ ap₂ (λ (n k : ℕ). schedule_of count number n ++ replicate k 0) done none ∙ append-nil (schedule_of count number turns)

pub turns_below : (count number turns : ℕ) → 0 < count → All (λ hart. hart < count) (schedule_of count number turns)
unfolding schedule_of
turns_below count number zero some = All-nil (λ hart. hart < count)
turns_below count number (suc t) some = All-push (λ hart. hart < count) (schedule_of count number t) (hart_of count (drawn number (suc t))) (turns_below count number t some) (mod_below (drawn number (suc t) / 65536) count some)
