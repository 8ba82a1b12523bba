-- One more item in front, for definitions that go down a list.
use Rattle.std.proofs.Common.{◌≡◌, ℕ, zero, suc, ◌+◌, ◌-◌, ◌/◌, ◌%◌, ◌<◌, lit≤, map, refl, sym, ap, ◌∙◌, List, [], ◌∷◌, ◌++◌, length, drop, get_or, Bool, Some, None, cond, arith, append_assoc}
use Rattle.std.specs.List.{find, position_from}
use Rattle.std.specs.Str.{bytes_eq}
use Rattle.std.specs.Int.Digits.{digits_of}
use Rattle.std.proofs.lemmas.Int.Digits.{digits_of_step}
use Rattle.std.proofs.lemmas.List.{at_drop_more, map-append}
use Rattle.mv_asmtext.specs.declared.operand.Element.{Element}
use Rattle.mv_asmtext.specs.declared.operand.Element.TheVariants.{Rd}
use Rattle.mv_asmtext.specs.declared.parts.Parts.{Parts}
use Rattle.mv_asmtext.specs.declared.statement.Operands.{Operands}
use Rattle.mv_asmtext.specs.Printing.{hex, hex_digit, digit_bytes, elements_text, operands_text}
use Rattle.mv_asmtext.specs.Registers.{register_names}
use Rattle.mv_asmtext.specs.Statements.{filled}

pub find_turn : {X : Type 0} (p : X → Bool) (xs : List X) (i : ℕ) (x : X) → i < length xs → x ≡ get_or xs i x → find p (drop i xs) ≡ cond (p x) (Some x) (find p (drop (i + 1) xs))
find_turn p xs i x h e = at_drop_more (find p) xs i x h ∙ ap (λ y. cond (p y) (Some y) (find p (drop (i + 1) xs))) (sym e)

pub filled_short : (es : List Element) (i : ℕ) (o : Operands) → i < length es → filled (drop i es) [] o ≡ None
unfolding filled
filled_short es i o h = at_drop_more (λ xs. filled xs [] o) es i Rd h

-- the last digit apart
pub hex_more : (k w : ℕ) → 0 < k → hex k w ≡ hex (k - 1) (w / 16) ++ hex_digit (w % 16) ∷ []
unfolding hex
hex_more zero w h = absurd (omega arith)
hex_more (suc k) w h = let e : suc k - 1 ≡ k = omega arith in rw e refl

pub digits_more : (n : ℕ) → 0 < n → digit_bytes n ≡ digit_bytes (n / 10) ++ (48 + n % 10) ∷ []
unfolding digit_bytes
digits_more n h = ap (λ ds. map (λ d. 48 + d) ds) (digits_of_step 10 n (lit≤ tt) h) ∙ map-append (λ d. 48 + d) (digits_of 10 (n / 10)) (n % 10 ∷ [])

-- what is there already, the digits before the last, and the last
pub hex_end : (out mid final : List ℕ) (k w d : ℕ) → 0 < k → mid ≡ out ++ hex (k - 1) (w / 16) → d ≡ hex_digit (w % 16) → final ≡ mid ++ d ∷ [] → final ≡ out ++ hex k w
hex_end out mid final k w d h front last all =
    all ∙ (ap (λ m. m ++ d ∷ []) front ∙ (ap (λ x. (out ++ hex (k - 1) (w / 16)) ++ x ∷ []) last ∙
    (append_assoc out (hex (k - 1) (w / 16)) (hex_digit (w % 16) ∷ []) ∙ ap (λ x. out ++ x) (sym (hex_more k w h)))))

pub digits_end : (out mid final : List ℕ) (n : ℕ) → 0 < n → mid ≡ out ++ digit_bytes (n / 10) → final ≡ mid ++ (48 + n % 10) ∷ [] → final ≡ out ++ digit_bytes n
digits_end out mid final n h front all =
    all ∙ (ap (λ m. m ++ (48 + n % 10) ∷ []) front ∙
    (append_assoc out (digit_bytes (n / 10)) ((48 + n % 10) ∷ []) ∙ ap (λ x. out ++ x) (sym (digits_more n h))))

-- an entry of the first of two lists
pub entry_front : {X : Type 0} (xs ys : List X) (i : ℕ) (d : X) → i < length xs → get_or (xs ++ ys) i d ≡ get_or xs i d
entry_front [] ys i d h = absurd (omega arith)
entry_front (x ∷ xs) ys zero d h = refl
entry_front (x ∷ xs) ys (suc i) d h = entry_front xs ys i d (omega arith)

-- a register's name among those from an index on
pub register_turn : (w name : List ℕ) (i : ℕ) → i < 64 → name ≡ get_or register_names i []
    → position_from (λ n. bytes_eq n w) i (drop i register_names) ≡ cond (bytes_eq name w) (Some i)
    (position_from (λ n. bytes_eq n w) (i + 1) (drop (i + 1) register_names))
register_turn w name i h e = at_drop_more (position_from (λ n. bytes_eq n w) i) register_names i [] h ∙ ap (λ y. cond (bytes_eq y w) (Some i) (position_from (λ n. bytes_eq n w) (i + 1) (drop (i + 1) register_names))) (sym e)

pub operands_more : (p : Parts) (es : List Element) → 0 < length es → operands_text p es ≡ 32 ∷ elements_text p es
operands_more p [] h = absurd (omega arith)
operands_more p (e ∷ es) h = refl

pub operands_none : (p : Parts) (es : List Element) → length es ≡ 0 → operands_text p es ≡ []
operands_none p [] h = refl
operands_none p (e ∷ es) h = absurd (omega arith)
