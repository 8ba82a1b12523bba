-- Where labels and slots of a function's code stand, wherever the code stands.
use Rattle.std.proofs.Common.{◌≡◌, ℕ, zero, suc, ◌+◌, ◌<◌, ◌≤◌, ◌⊎◌, inl, inr, ⊎_elim, true, false, List, [], ◌∷◌, ◌++◌, Bool, length, Option, Some, None, length-append, refl, sym, ap, ◌∙◌, subst, arith}
use Rattle.std.proofs.lemmas.Bool.{cases_lt}
use Rattle.std.proofs.lemmas.List.Sums.{sum_by_more}
use Rattle.mv_isa.specs.declared.labelled.Line.{Line}
use Rattle.mv_isa.specs.declared.labelled.Line.TheVariants.{Word, Label, Jump, Branch, Entry, Slot, Point}
use Rattle.mv_isa.specs.Code.{nop, line_at, least_words, offset, label_index, label_address, IsSizing}
use Rattle.mv_ir.specs.declared.stm.Stm.{Stm}
use Rattle.mv_select.specs.Functions.FunctionCode.{Shape, end_label, body_lines, entry_by, return_by, led, function_lines}
use Rattle.mv_select.specs.Laws.{IsPlain}
use Rattle.mv_select.specs.Bodies.Lines.{Stays, StaysBefore, IsApart, Links, FirstsAreNoLabels, NoLinkIsSlot}
use Rattle.mv_select.proofs.OfBodies.FunctionNames.{function_apart}
use Rattle.mv_isa.proofs.Common.{offset-cons}

-- ---- offsets

offset_rises : (sizing : List ℕ) (i j : ℕ) → i ≤ j → offset sizing i ≤ offset sizing j
offset_rises [] zero j le = omega arith
offset_rises [] (suc i) (suc j) le = omega arith
offset_rises [] (suc i) zero le = absurd (omega arith)
offset_rises (x ∷ sizing) zero j le = omega arith
offset_rises (x ∷ sizing) (suc i) zero le = absurd (omega arith)
offset_rises (x ∷ sizing) (suc i) (suc j) le = omega (arith, offset-cons x sizing i, offset-cons x sizing j, offset_rises sizing i j (omega arith))

module _ (lines : List Line) (sizing : List ℕ) (sizes : IsSizing lines sizing) where
  -- the next line stands behind at least so many words
  behind : (k n : ℕ) → k < length lines → n ≤ least_words (line_at lines k) → offset sizing k + n ≤ offset sizing (k + 1)
  behind k n lt le = let more = sum_by_more (λ (x : ℕ). x) sizing k 0 (omega (arith, sizes.one_each)) in omega (arith, more, sizes.at_least k lt)

-- ---- the first line

plain_words : (x : Line) → IsPlain x → 1 ≤ least_words x
plain_words (Word i) h = omega arith
plain_words (Label l) h = absurd h
plain_words (Jump rd l) h = omega arith
plain_words (Branch funct3 a b l) h = omega arith
plain_words (Entry rd f) h = omega arith
plain_words (Slot f) h = absurd h
plain_words (Point a) h = absurd h

plain_index : (x : Line) (rest : List Line) (l : ℕ) → IsPlain x → label_index (x ∷ rest) l ≡ 1 + label_index rest l
plain_index (Word i) rest l h = refl
plain_index (Label n) rest l h = absurd h
plain_index (Jump rd n) rest l h = refl
plain_index (Branch funct3 a b n) rest l h = refl
plain_index (Entry rd f) rest l h = refl
plain_index (Slot f) rest l h = absurd h
plain_index (Point a) rest l h = absurd h

-- where the first line is plain, each label is behind it
label_behind : (x : Line) (rest : List Line) → IsPlain x → (base : ℕ) (sizing : List ℕ) → IsSizing (x ∷ rest) sizing → (l : ℕ) → base + 4 ≤ label_address base (x ∷ rest) sizing l
label_behind x rest plain base sizing sizes l =
    let word = behind (x ∷ rest) sizing sizes 0 1 (omega arith) (plain_words x plain) in
    let later = offset_rises sizing 1 (1 + label_index rest l) (omega arith) in
    omega (arith, word, later, ap (offset sizing) (plain_index x rest l plain))

-- lines begin with a plain one
abbrev pub Opens : List Line → Type 0
Opens lines = (x : Line) × (rest : List Line) × (lines ≡ x ∷ rest) × IsPlain x

led_opens : (lines : List Line) → 0 < length lines → IsApart None (led lines) → Opens (led lines)
led_opens [] some apart = absurd (omega (arith, some))
led_opens (Word i ∷ lines) some apart = (Word i, lines, refl, tt)
led_opens (Label l ∷ lines) some apart = (Word nop, Label l ∷ lines, refl, tt)
led_opens (Jump rd l ∷ lines) some apart = (Jump rd l, lines, refl, tt)
led_opens (Branch funct3 a b l ∷ lines) some apart = (Branch funct3 a b l, lines, refl, tt)
led_opens (Entry rd f ∷ lines) some apart = (Entry rd f, lines, refl, tt)
led_opens (Slot f ∷ lines) some apart = absurd apart.0
led_opens (Point a ∷ lines) some apart = absurd apart.0

pub function_opens : (place size : ℕ → ℕ) (is_attributed : ℕ → Bool) (shape : Shape) (code : List Stm) → Opens (function_lines place size is_attributed shape code)
function_opens place size is_attributed shape code =
    let entry = entry_by shape.keeping shape in
    let stop = Label end_label ∷ return_by shape.keeping shape in
    let body = body_lines place size is_attributed shape code in
    led_opens (entry ++ (body ++ stop)) (omega (arith, length-append entry (body ++ stop), length-append body stop)) (function_apart place size is_attributed shape code)

pub firsts_are_no_labels : FirstsAreNoLabels
firsts_are_no_labels place size is_attributed shape code base sizing sizes l =
    let o = function_opens place size is_attributed shape code in
    subst (λ lines. base + 4 ≤ label_address base lines sizing l) (sym o.2) (label_behind o.0 o.1 o.3 base sizing (subst (λ lines. IsSizing lines sizing) o.2 sizes) l)

-- ---- slots

abbrev IsSlot : Line → Type 0
IsSlot (Slot f) = Unit {0}
IsSlot (Point a) = Unit {0}
IsSlot _ = ⊥

slot_words : (x : Line) → IsSlot x → 2 ≤ least_words x
slot_words (Word i) h = absurd h
slot_words (Label l) h = absurd h
slot_words (Jump rd l) h = absurd h
slot_words (Branch funct3 a b l) h = absurd h
slot_words (Entry rd f) h = absurd h
slot_words (Slot f) h = omega arith
slot_words (Point a) h = omega arith

stays_words : (x : Line) → Stays x → 1 ≤ least_words x
stays_words (Word i) h = omega arith
stays_words (Label l) h = absurd h
stays_words (Jump rd l) h = absurd h
stays_words (Branch funct3 a b l) h = absurd h
stays_words (Entry rd f) h = omega arith
stays_words (Slot f) h = absurd h
stays_words (Point a) h = absurd h

stays_links : (x : Line) → Stays x → Links x → ⊥
stays_links (Word i) h k = let wrong : true ≡ false = sym k ∙ h in cc
stays_links (Label l) h k = h
stays_links (Jump rd l) h k = h
stays_links (Branch funct3 a b l) h k = h
stays_links (Entry rd f) h k = k
stays_links (Slot f) h k = h
stays_links (Point a) h k = h

-- before the line of an index stands one that stays
abbrev Before : Option Line → List Line → ℕ → Type 0
Before before lines k = ((k ≡ 0) × StaysBefore before) ⊎ ((i : ℕ) × (k ≡ suc i) × Stays (line_at lines i))

abbrev Behind : List Line → ℕ → Type 0
Behind lines k = (i : ℕ) × (k ≡ suc i) × Stays (line_at lines i)

-- one line on
on : (x : Line) (lines : List Line) (k : ℕ) → Before (Some x) lines k → Behind (x ∷ lines) (suc k)
on x lines k (inl h) = (0, ap suc h.0, h.1)
on x lines k (inr h) = (suc h.0, ap suc h.1, h.2)

on_slot : (x : Line) (lines : List Line) (k : ℕ) → Before None lines k → Behind (x ∷ lines) (suc k)
on_slot x lines k (inl h) = absurd h.1
on_slot x lines k (inr h) = (suc h.0, ap suc h.1, h.2)

-- a slot stands behind such a line
slot_apart : (lines : List Line) (before : Option Line) → IsApart before lines → (k : ℕ) → k < length lines → IsSlot (line_at lines k) → Before before lines k
slot_apart [] before h k lt s = absurd (omega arith)
slot_apart (Slot f ∷ lines) before h zero lt s = inl (refl, h.0)
slot_apart (Point a ∷ lines) before h zero lt s = inl (refl, h.0)
slot_apart (Word i ∷ lines) before h zero lt s = absurd s
slot_apart (Label l ∷ lines) before h zero lt s = absurd s
slot_apart (Jump rd l ∷ lines) before h zero lt s = absurd s
slot_apart (Branch funct3 a b l ∷ lines) before h zero lt s = absurd s
slot_apart (Entry rd g ∷ lines) before h zero lt s = absurd s
slot_apart (Word i ∷ lines) before h (suc k) lt s = inr (on (Word i) lines k (slot_apart lines (Some (Word i)) h k (omega arith) s))
slot_apart (Label l ∷ lines) before h (suc k) lt s = inr (on (Label l) lines k (slot_apart lines (Some (Label l)) h k (omega arith) s))
slot_apart (Jump rd l ∷ lines) before h (suc k) lt s = inr (on (Jump rd l) lines k (slot_apart lines (Some (Jump rd l)) h k (omega arith) s))
slot_apart (Branch funct3 a b l ∷ lines) before h (suc k) lt s =
    inr (on (Branch funct3 a b l) lines k (slot_apart lines (Some (Branch funct3 a b l)) h k (omega arith) s))
slot_apart (Entry rd g ∷ lines) before h (suc k) lt s = inr (on (Entry rd g) lines k (slot_apart lines (Some (Entry rd g)) h k (omega arith) s))
slot_apart (Slot f ∷ lines) before h (suc k) lt s = inr (on_slot (Slot f) lines k (slot_apart lines None h.1 k (omega arith) s))
slot_apart (Point a ∷ lines) before h (suc k) lt s = inr (on_slot (Point a) lines k (slot_apart lines None h.1 k (omega arith) s))

module _ (lines : List Line) (sizing : List ℕ) (sizes : IsSizing lines sizing) (j k : ℕ) (lt : j < length lines) (lt' : k < length lines)
    (links : Links (line_at lines j)) (slot : IsSlot (line_at lines k)) (same : offset sizing (j + 1) ≡ offset sizing k) where
  -- the slot stands before the end of the line
  slot_ends : k ≤ j → ⊥
  slot_ends le = omega (arith, behind lines sizing sizes k 2 lt' (slot_words (line_at lines k) slot), offset_rises sizing (k + 1) (j + 1) (omega arith), same)

  module _ (i : ℕ) (next : k ≡ suc i) (stays : Stays (line_at lines i)) where
    -- so does the line before it
    before_ends : j < i → ⊥
    before_ends less =
        let here : offset sizing (i + 1) ≡ offset sizing k = ap (offset sizing) (omega (arith, next)) in
        omega (arith, behind lines sizing sizes i 1 (omega (arith, lt', next)) (stays_words (line_at lines i) stays), here, offset_rises sizing (j + 1) i (omega arith), same)

    itself : j ≡ i → ⊥
    itself e = stays_links (line_at lines i) stays (subst Links (ap (line_at lines) e) links)

    nowhere : ⊥
    nowhere = ⊎_elim before_ends (λ (le : i ≤ j). ⊎_elim (λ (less : i < j). slot_ends (omega (arith, less, next))) (λ (ge : j ≤ i). itself (omega (arith, le, ge))) (cases_lt i j)) (cases_lt j i)

  no_link : Before None lines k → ⊥
  no_link (inl h) = h.1
  no_link (inr h) = nowhere h.0 h.1 h.2

either_slot : (x : Line) (n : ℕ) → (x ≡ Slot n) ⊎ (x ≡ Point n) → IsSlot x
either_slot x n (inl e) = subst IsSlot (sym e) tt
either_slot x n (inr e) = subst IsSlot (sym e) tt

pub no_link_is_slot : NoLinkIsSlot
no_link_is_slot place size is_attributed shape code base sizing sizes j k n lt lt' links slot same =
    let lines = function_lines place size is_attributed shape code in
    let is = either_slot (line_at lines k) n slot in
    no_link lines sizing sizes j k lt lt' links is (omega (arith, same)) (slot_apart lines None (function_apart place size is_attributed shape code) k lt' is)
