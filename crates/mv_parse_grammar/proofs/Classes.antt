-- Classes of terminals: what a test says of each terminal of a class.
use Rattle.std.proofs.Common.{◌≡◌, ℕ, suc, ◌<◌, Bool, true, false, List, [], ◌∷◌, inl, inr, refl, ap, ◌∙◌, arith}
use Rattle.std.specs.Prelude.{nat_eq, nat_le, ◌||◌, ◌&&◌, not}
use Rattle.std.proofs.lemmas.Bool.{eqb-true, lt-leb}
use Rattle.std.proofs.lemmas.Bool.Decides.{nat_tests}
use Rattle.mv_syntax.specs.declared.place.Place.{Place}
use Rattle.mv_syntax.specs.declared.token.Piece.{Piece}
use Rattle.mv_syntax.specs.declared.token.Piece.TheVariants.{Keyword, Name, Number, Chars, Mark}
use Rattle.mv_num.specs.declared.kind.Kind.{Kind}
use Rattle.mv_num.specs.declared.kind.Kind.TheVariants.{Int}
use Rattle.mv_parse_grammar.specs.Terminals.{Terminal, mark_of, is_mark, keyword_of, is_keyword, is_name, is_name_piece, is_number, is_number_piece, is_string, is_string_piece, rank, is_rank, within_rank, is_sign, is_step, is_type_word, is_type_part, is_specifier}
use Rattle.mv_num.proofs.Booleans.{or_cases, and_cases}

abbrev pub terminal_at : Place → List ℕ → Piece → Terminal
terminal_at p s w = record { place = p; what = w; spelling = s }

-- a terminal of a kind
abbrev pub sample : Piece → Terminal
sample p = terminal_at (record { line = 0; column = 0 }) [] p

pub or_none : (a b : Bool) → (a ≡ false) → (b ≡ false) → (a || b) ≡ false
or_none true b h k = h
or_none false b h k = k

-- a terminal that is one of two classes
abbrev pub either : (Terminal → Bool) → (Terminal → Bool) → Terminal → Bool
either f g t = f t || g t

-- all terminals that aren't of a class
abbrev pub all_but : (Terminal → Bool) → Terminal → Bool
all_but f t = not (f t)

pub of_all_but : (f : Terminal → Bool) (t : Terminal) → all_but f t ≡ false → f t ≡ true
of_all_but f t h = go (f t) h
  where
    go : (v : Bool) → not v ≡ false → v ≡ true
    go true h = refl
    go false h = absurd (cc)

-- a class that leaves out two, as the two tell
pub but_two : (f g h : Terminal → Bool) → ((t : Terminal) → f t ≡ true → h t ≡ false) → ((t : Terminal) → g t ≡ true → h t ≡ false) → (t : Terminal) → all_but (either f g) t ≡ false → h t ≡ false
but_two f g h a b t k = elim (or_cases (f t) (g t) (of_all_but (either f g) t k)) [ inl m ↦ a t m | inr m ↦ b t m ]

-- single kinds

piece_of_mark : (n : ℕ) (p : Piece) → nat_eq 255 n ≡ false → nat_eq (mark_of p) n ≡ true → p ≡ Mark n
piece_of_mark n (Mark m) d h = ap Mark (eqb-true m n h)
piece_of_mark n (Keyword m) d h = absurd (cc)
piece_of_mark n Name d h = absurd (cc)
piece_of_mark n (Number m k) d h = absurd (cc)
piece_of_mark n (Chars cs) d h = absurd (cc)

piece_of_keyword : (n : ℕ) (p : Piece) → nat_eq 255 n ≡ false → nat_eq (keyword_of p) n ≡ true → p ≡ Keyword n
piece_of_keyword n (Keyword m) d h = ap Keyword (eqb-true m n h)
piece_of_keyword n (Mark m) d h = absurd (cc)
piece_of_keyword n Name d h = absurd (cc)
piece_of_keyword n (Number m k) d h = absurd (cc)
piece_of_keyword n (Chars cs) d h = absurd (cc)

pub at_mark : (n : ℕ) (f : Terminal → Bool) {v : Bool} → nat_eq 255 n ≡ false → ((p : Place) (s : List ℕ) → f (terminal_at p s (Mark n)) ≡ v) → (t : Terminal) → is_mark n t ≡ true → f t ≡ v
at_mark n f {v} d h t k = ap (λ p. f (terminal_at t.place t.spelling p)) (piece_of_mark n t.what d k) ∙ h t.place t.spelling

pub at_keyword : (n : ℕ) (f : Terminal → Bool) {v : Bool} → nat_eq 255 n ≡ false → ((p : Place) (s : List ℕ) → f (terminal_at p s (Keyword n)) ≡ v) → (t : Terminal) → is_keyword n t ≡ true → f t ≡ v
at_keyword n f {v} d h t k = ap (λ p. f (terminal_at t.place t.spelling p)) (piece_of_keyword n t.what d k) ∙ h t.place t.spelling

piece_of_name : (p : Piece) → is_name_piece p ≡ true → p ≡ Name
piece_of_name Name h = refl
piece_of_name (Mark m) h = absurd (cc)
piece_of_name (Keyword m) h = absurd (cc)
piece_of_name (Number m k) h = absurd (cc)
piece_of_name (Chars cs) h = absurd (cc)

pub at_name : (f : Terminal → Bool) {v : Bool} → ((p : Place) (s : List ℕ) → f (terminal_at p s Name) ≡ v) → (t : Terminal) → is_name t ≡ true → f t ≡ v
at_name f {v} h t k = ap (λ p. f (terminal_at t.place t.spelling p)) (piece_of_name t.what k) ∙ h t.place t.spelling

piece_of_number : (p : Piece) → is_number_piece p ≡ true → (n : ℕ) × (k : Kind) × (p ≡ Number n k)
piece_of_number (Number n k) h = (n, k, refl)
piece_of_number Name h = absurd (cc)
piece_of_number (Mark m) h = absurd (cc)
piece_of_number (Keyword m) h = absurd (cc)
piece_of_number (Chars cs) h = absurd (cc)

pub at_number : (f : Terminal → Bool) {v : Bool} → ((p : Place) (s : List ℕ) (n : ℕ) (k : Kind) → f (terminal_at p s (Number n k)) ≡ v) → (t : Terminal) → is_number t ≡ true → f t ≡ v
at_number f {v} h t k =
    let m = piece_of_number t.what k in
    ap (λ p. f (terminal_at t.place t.spelling p)) m.2 ∙ h t.place t.spelling m.0 m.1

piece_of_string : (p : Piece) → is_string_piece p ≡ true → (cs : List ℕ) × (p ≡ Chars cs)
piece_of_string (Chars cs) h = (cs, refl)
piece_of_string Name h = absurd (cc)
piece_of_string (Mark m) h = absurd (cc)
piece_of_string (Keyword m) h = absurd (cc)
piece_of_string (Number m k) h = absurd (cc)

pub at_string : (f : Terminal → Bool) {v : Bool} → ((p : Place) (s : List ℕ) (cs : List ℕ) → f (terminal_at p s (Chars cs)) ≡ v) → (t : Terminal) → is_string t ≡ true → f t ≡ v
at_string f {v} h t k =
    let m = piece_of_string t.what k in
    ap (λ p. f (terminal_at t.place t.spelling p)) m.1 ∙ h t.place t.spelling m.0

-- classes by their members

-- some marks, some keywords, and each or none of the names, the numbers and the strings
pub record Class : Type 0 where
  pub marks : List ℕ
  pub keywords : List ℕ
  pub names : Bool
  pub numbers : Bool
  pub strings : Bool

abbrev has : ℕ → List ℕ → Bool
has n [] = false
has n (m ∷ ms) = nat_eq n m || has n ms

abbrev piece_in : Class → Piece → Bool
piece_in c (Mark n) = has n c.marks
piece_in c (Keyword n) = has n c.keywords
piece_in c Name = c.names
piece_in c (Number n k) = c.numbers
piece_in c (Chars cs) = c.strings

abbrev pub is_in : Class → Terminal → Bool
is_in c t = piece_in c t.what

abbrev same : Bool → Bool → Bool
same true true = true
same true false = false
same false true = false
same false false = true

abbrev each : (ℕ → Bool) → List ℕ → Bool → Bool
each g [] v = true
each g (m ∷ ms) v = same (g m) v && each g ms v

abbrev held : Bool → Bool → Bool
held true b = b
held false b = true

-- whether a test says v of each member
abbrev says : Class → (Piece → Bool) → ℕ → Kind → List ℕ → Bool → Bool
says c g n k cs v =
    each (λ m. g (Mark m)) c.marks v && (each (λ m. g (Keyword m)) c.keywords v && (held c.names (same (g Name) v) && (held c.numbers (same (g (Number n k)) v) && held c.strings (same (g (Chars cs)) v))))

of_same : (a b : Bool) → same a b ≡ true → a ≡ b
of_same true true h = refl
of_same true false h = absurd (cc)
of_same false true h = absurd (cc)
of_same false false h = refl

of_each : (g : ℕ → Bool) (ms : List ℕ) (v : Bool) (n : ℕ) → each g ms v ≡ true → has n ms ≡ true → g n ≡ v
of_each g [] v n e h = absurd (cc)
of_each g (m ∷ ms) v n e h =
    let u = and_cases (same (g m) v) (each g ms v) e in
    elim (or_cases (nat_eq n m) (has n ms) h) [ inl k ↦ ap g (eqb-true n m k) ∙ of_same (g m) v u.0 | inr k ↦ of_each g ms v n u.1 k ]

of_held : (c a v : Bool) → held c (same a v) ≡ true → c ≡ true → a ≡ v
of_held true a v h k = of_same a v h
of_held false a v h k = absurd (cc)

-- the same, member by member
record Said (c : Class) (g : Piece → Bool) (n : ℕ) (k : Kind) (cs : List ℕ) (v : Bool) : Type 0 where
  pub marks : each (λ m. g (Mark m)) c.marks v ≡ true
  pub keywords : each (λ m. g (Keyword m)) c.keywords v ≡ true
  pub names : held c.names (same (g Name) v) ≡ true
  pub numbers : held c.numbers (same (g (Number n k)) v) ≡ true
  pub strings : held c.strings (same (g (Chars cs)) v) ≡ true

split : (a b c d e : Bool) → (a && (b && (c && (d && e)))) ≡ true → (a ≡ true) × (b ≡ true) × (c ≡ true) × (d ≡ true) × (e ≡ true)
split a b c d e h =
    let u = and_cases a (b && (c && (d && e))) h in
    let x = and_cases b (c && (d && e)) u.1 in
    let y = and_cases c (d && e) x.1 in
    let z = and_cases d e y.1 in
    (u.0, x.0, y.0, z.0, z.1)

said : (c : Class) (g : Piece → Bool) (n : ℕ) (k : Kind) (cs : List ℕ) (v : Bool) → says c g n k cs v ≡ true → Said c g n k cs v
said c g n k cs v h =
    let u = split (each (λ m. g (Mark m)) c.marks v) (each (λ m. g (Keyword m)) c.keywords v) (held c.names (same (g Name) v)) (held c.numbers (same (g (Number n k)) v)) (held c.strings (same (g (Chars cs)) v)) h in
    record { marks = u.0; keywords = u.1; names = u.2; numbers = u.3; strings = u.4 }

of_class : (c : Class) (g : Piece → Bool) (v : Bool) → ((n : ℕ) (k : Kind) (cs : List ℕ) → says c g n k cs v ≡ true) → (w : Piece) → piece_in c w ≡ true → g w ≡ v
of_class c g v h (Mark m) k = let u = said c g 0 Int [] v (h 0 Int []) in of_each (λ m. g (Mark m)) c.marks v m u.marks k
of_class c g v h (Keyword m) k = let u = said c g 0 Int [] v (h 0 Int []) in of_each (λ m. g (Keyword m)) c.keywords v m u.keywords k
of_class c g v h Name k = let u = said c g 0 Int [] v (h 0 Int []) in of_held c.names (g Name) v u.names k
of_class c g v h (Number n i) k = let u = said c g n i [] v (h n i []) in of_held c.numbers (g (Number n i)) v u.numbers k
of_class c g v h (Chars cs) k = let u = said c g 0 Int cs v (h 0 Int cs) in of_held c.strings (g (Chars cs)) v u.strings k

-- what a test says of each terminal of a class
pub at_class : (c : Class) (f : Terminal → Bool) {v : Bool} → ((p : Place) (s : List ℕ) (n : ℕ) (k : Kind) (cs : List ℕ) → says c (λ w. f (terminal_at p s w)) n k cs v ≡ true) → (t : Terminal) → is_in c t ≡ true → f t ≡ v
at_class c f {v} h t k = of_class c (λ w. f (terminal_at t.place t.spelling w)) v (h t.place t.spelling) t.what k

-- what a test says of each terminal of a class within such a one
pub at_in : (c : Class) {test : Terminal → Bool} → ((t : Terminal) → test t ≡ true → is_in c t ≡ true) → (f : Terminal → Bool) {v : Bool}
    → ((p : Place) (s : List ℕ) (n : ℕ) (k : Kind) (cs : List ℕ) → says c (λ w. f (terminal_at p s w)) n k cs v ≡ true) → (t : Terminal) → test t ≡ true → f t ≡ v
at_in c i f h t k = at_class c f h t (i t k)

-- the classes of the grammar, by their members

pub at_either : (f g h : Terminal → Bool) {v : Bool} → ((t : Terminal) → f t ≡ true → h t ≡ v) → ((t : Terminal) → g t ≡ true → h t ≡ v) → (t : Terminal) → (f t || g t) ≡ true → h t ≡ v
at_either f g h {v} a b t k = elim (or_cases (f t) (g t) k) [ inl m ↦ a t m | inr m ↦ b t m ]

abbrev pub signs : Class
signs = record { marks = 10 ∷ 11 ∷ 12 ∷ 13 ∷ 14 ∷ 17 ∷ []; keywords = []; names = false; numbers = false; strings = false }

abbrev pub steps : Class
steps = record { marks = 23 ∷ 24 ∷ []; keywords = []; names = false; numbers = false; strings = false }

abbrev pub type_words : Class
type_words = record { marks = []; keywords = 0 ∷ 3 ∷ 12 ∷ 14 ∷ 15 ∷ 18 ∷ 19 ∷ []; names = false; numbers = false; strings = false }

abbrev pub type_parts : Class
type_parts = record { marks = []; keywords = 0 ∷ 3 ∷ 4 ∷ 9 ∷ 12 ∷ 14 ∷ 15 ∷ 18 ∷ 19 ∷ []; names = false; numbers = false; strings = false }

abbrev pub specifiers : Class
specifiers = record { marks = []; keywords = 0 ∷ 3 ∷ 4 ∷ 9 ∷ 12 ∷ 14 ∷ 15 ∷ 16 ∷ 18 ∷ 19 ∷ 21 ∷ []; names = false; numbers = false; strings = false }

-- how an expression begins
abbrev pub expression_starts : Class
expression_starts = record { marks = 0 ∷ 10 ∷ 11 ∷ 12 ∷ 13 ∷ 14 ∷ 17 ∷ 23 ∷ 24 ∷ []; keywords = []; names = true; numbers = true; strings = false }

m : (n : ℕ) (c : Class) → nat_eq 255 n ≡ false → has n c.marks ≡ true → (t : Terminal) → is_mark n t ≡ true → is_in c t ≡ true
m n c d h = at_mark n (is_in c) d (λ _ _. h)

w : (n : ℕ) (c : Class) → nat_eq 255 n ≡ false → has n c.keywords ≡ true → (t : Terminal) → is_keyword n t ≡ true → is_in c t ≡ true
w n c d h = at_keyword n (is_in c) d (λ _ _. h)

pub in_signs : (t : Terminal) → is_sign t ≡ true → is_in signs t ≡ true
in_signs =
    at_either _ _ _ (at_either _ _ _ (at_either _ _ _ (at_either _ _ _ (at_either _ _ _
    (m 10 signs refl refl) (m 11 signs refl refl)) (m 12 signs refl refl)) (m 13 signs refl refl)) (m 14 signs refl refl)) (m 17 signs refl refl)

pub in_steps : (t : Terminal) → is_step t ≡ true → is_in steps t ≡ true
in_steps = at_either _ _ _ (m 23 steps refl refl) (m 24 steps refl refl)

pub in_type_words : (t : Terminal) → is_type_word t ≡ true → is_in type_words t ≡ true
in_type_words =
    at_either _ _ _ (at_either _ _ _ (at_either _ _ _ (at_either _ _ _ (at_either _ _ _ (at_either _ _ _
    (w 0 type_words refl refl) (w 3 type_words refl refl)) (w 12 type_words refl refl)) (w 14 type_words refl refl)) (w 15 type_words refl refl)) (w 18 type_words refl refl)) (w 19 type_words refl refl)

-- one class within another
pub wider : (c d : Class) → ((p : Place) (s : List ℕ) (n : ℕ) (k : Kind) (cs : List ℕ) → says c (λ w. is_in d (terminal_at p s w)) n k cs true ≡ true) → (t : Terminal) → is_in c t ≡ true → is_in d t ≡ true
wider c d h = at_class c (is_in d) h

pub in_type_parts : (t : Terminal) → is_type_part t ≡ true → is_in type_parts t ≡ true
in_type_parts =
    at_either _ _ _ (at_either _ _ _ (w 4 type_parts refl refl) (λ t k. wider type_words type_parts (λ _ _ _ _ _. refl) t (in_type_words t k))) (w 9 type_parts refl refl)

pub in_specifiers : (t : Terminal) → is_specifier t ≡ true → is_in specifiers t ≡ true
in_specifiers =
    at_either _ _ _ (at_either _ _ _ (w 16 specifiers refl refl) (λ t k. wider type_parts specifiers (λ _ _ _ _ _. refl) t (in_type_parts t k))) (w 21 specifiers refl refl)

-- ranks

pub rank_apart : (j k : ℕ) → k < j → (t : Terminal) → is_rank j t ≡ true → within_rank k t ≡ false
rank_apart j k l t h = let e : rank t ≡ j = eqb-true (rank t) j h in lt-leb (rank t) k (omega (arith, e, l))

pub rank_wide : (k : ℕ) (t : Terminal) → (within_rank k t ≡ false) → (is_rank (suc k) t ≡ false) → within_rank (suc k) t ≡ false
rank_wide k t h i = go (rank t) h i
  where
    go : (r : ℕ) → nat_le r k ≡ false → nat_eq r (suc k) ≡ false → nat_le r (suc k) ≡ false
    go r h i = grind (arith, nat_tests)

pub rank_narrow : (k : ℕ) (t : Terminal) → within_rank (suc k) t ≡ false → (within_rank k t ≡ false) × (is_rank (suc k) t ≡ false)
rank_narrow k t h = (go (rank t) h, go2 (rank t) h)
  where
    go : (r : ℕ) → nat_le r (suc k) ≡ false → nat_le r k ≡ false
    go r h = grind (arith, nat_tests)

    go2 : (r : ℕ) → nat_le r (suc k) ≡ false → nat_eq r (suc k) ≡ false
    go2 r h = grind (arith, nat_tests)

pub rank_zero : (t : Terminal) → is_rank 0 t ≡ false → within_rank 0 t ≡ false
rank_zero t h = go (rank t) h
  where
    go : (r : ℕ) → nat_eq r 0 ≡ false → nat_le r 0 ≡ false
    go r h = grind (arith, nat_tests)

pub zero_rank : (t : Terminal) → within_rank 0 t ≡ false → is_rank 0 t ≡ false
zero_rank t h = go (rank t) h
  where
    go : (r : ℕ) → nat_le r 0 ≡ false → nat_eq r 0 ≡ false
    go r h = grind (arith, nat_tests)
