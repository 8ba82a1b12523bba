-- How often a label stands in the parts of functions.
use Rattle.std.proofs.Common.{◌≡◌, ℕ, zero, suc, ◌+◌, ◌-◌, ◌<◌, ◌≤◌, Bool, true, false, cond, eqb, nat_lt, List, [], ◌∷◌, Some, length, take, slice_get, map, count_by, All, refl, ap, sym, subst, ◌∙◌, ⊎_elim, arith, eq-eqb}
use Rattle.std.proofs.lemmas.List.Elements.{All-head, All-tail}
use Rattle.std.proofs.lemmas.List.Sums.{sum_by-cons}
use Rattle.std.proofs.lemmas.Bool.{cases_eq, ne_eqb}
use Rattle.std.proofs.lemmas.Bool.Decides.{nat_tests}
use Rattle.mv_num.specs.Words.{as_word}
use Rattle.mv_isa.specs.declared.labelled.Labelled.{Labelled}
use Rattle.mv_isa.specs.declared.labelled.Line.{Line}
use Rattle.mv_isa.specs.declared.labelled.Line.TheVariants.{Word, Label, Jump, Branch, Entry, Slot, Point}
use Rattle.mv_isa.specs.Code.{is_label}
use Rattle.mv_linker.specs.Linked.{entry_label, trap_label, shared, own, relabelled, function_part, function_parts, label_count, NamesAreThere, IsFunction}
use Rattle.mv_isa.proofs.Common.{count_append}

pub count_cons : (m : ℕ) (x : Line) (xs : List Line) → count_by (is_label m) (x ∷ xs) ≡ as_word (is_label m x) + count_by (is_label m) xs
count_cons m x xs = sum_by-cons (λ y. cond (is_label m y) 1 0) x xs

pub marked : (m l : ℕ) → l ≡ m → as_word (eqb l m) ≡ 1
marked m l e = ap as_word (eq-eqb l m e)

pub unmarked : (m l : ℕ) → (l ≡ m → ⊥) → as_word (eqb l m) ≡ 0
unmarked m l ne = ap as_word (ne_eqb l m ne)

-- ---- own labels

pub own_is : (first count l : ℕ) → l < count → own first count l ≡ first + l
own_is first count l below =
    let test : nat_lt l count ≡ true = grind (arith, nat_tests) in
    ap (λ b. cond b (first + l) (shared l)) test

own_shared : (first count l : ℕ) → count ≤ l → own first count l ≡ shared l
own_shared first count l above =
    let test : nat_lt l count ≡ false = grind (arith, nat_tests) in
    ap (λ b. cond b (first + l) (shared l)) test

-- the label of a stub stays
pub own_stays : (first count l : ℕ) → count ≤ l → trap_label 0 ≤ l → own first count l ≡ l
own_stays first count l above stub =
    let entry : nat_lt l (entry_label 0) ≡ false = grind (arith, nat_tests) in
    let test : nat_lt l (trap_label 0) ≡ false = grind (arith, nat_tests) in
    own_shared first count l above
    ∙ ap (λ b. cond b l (cond (nat_lt l (trap_label 0)) (l - entry_label 0) l)) entry
    ∙ ap (λ b. cond b (l - entry_label 0) l) test

-- the label of an entry becomes the number of its function
pub own_entry : (first count f : ℕ) → count ≤ entry_label f → entry_label f < trap_label 0 → own first count (entry_label f) ≡ f
own_entry first count f above below =
    let entry : nat_lt (entry_label f) (entry_label 0) ≡ false = grind (arith, nat_tests) in
    let test : nat_lt (entry_label f) (trap_label 0) ≡ true = grind (arith, nat_tests) in
    own_shared first count (entry_label f) above
    ∙ ap (λ b. cond b (entry_label f) (cond (nat_lt (entry_label f) (trap_label 0)) (entry_label f - entry_label 0) (entry_label f))) entry
    ∙ ap (λ b. cond b (entry_label f - entry_label 0) (entry_label f)) test
    ∙ omega arith

-- an own label stands after the renaming where it stood before
mark_own : (first l m : ℕ) → as_word (eqb (first + l) (first + m)) ≡ as_word (eqb l m)
mark_own first l m =
    ⊎_elim (λ e. marked (first + m) (first + l) (omega (arith, e)) ∙ sym (marked m l e))
    (λ ne. unmarked (first + m) (first + l) (λ e. ne (omega (arith, e))) ∙ sym (unmarked m l ne))
    (cases_eq l m)

module _ (functions : ℕ) (checks : Bool) (first : ℕ) (code : Labelled) where
  line_own : (m : ℕ) (x : Line) → NamesAreThere functions checks code x → as_word (is_label (first + m) (relabelled first code.labels x)) ≡ as_word (is_label m x)
  line_own m (Word instr) h = refl
  line_own m (Label l) h = ap (λ o. as_word (eqb o (first + m))) (own_is first code.labels l h) ∙ mark_own first l m
  line_own m (Jump rd l) h = refl
  line_own m (Branch funct3 rs1 rs2 l) h = refl
  line_own m (Entry rd f) h = refl
  line_own m (Slot f) h = refl
  line_own m (Point a) h = refl

  line_other : (m : ℕ) (x : Line) → NamesAreThere functions checks code x → (first ≤ m → first + code.labels ≤ m) → as_word (is_label m (relabelled first code.labels x)) ≡ 0
  line_other m (Word instr) h apart = refl
  line_other m (Label l) h apart =
      ap (λ o. as_word (eqb o m)) (own_is first code.labels l h)
      ∙ unmarked m (first + l) (λ e. let above = apart (omega (arith, e)) in omega (arith, above, e, h))
  line_other m (Jump rd l) h apart = refl
  line_other m (Branch funct3 rs1 rs2 l) h apart = refl
  line_other m (Entry rd f) h apart = refl
  line_other m (Slot f) h apart = refl
  line_other m (Point a) h apart = refl

  lines_own : (m : ℕ) (xs : List Line) → All (NamesAreThere functions checks code) xs → count_by (is_label (first + m)) (map (relabelled first code.labels) xs) ≡ count_by (is_label m) xs
  lines_own m [] all = refl
  lines_own m (x ∷ xs) all =
      let here = line_own m x (All-head (NamesAreThere functions checks code) x xs all) in
      let later = lines_own m xs (All-tail (NamesAreThere functions checks code) x xs all) in
      omega (arith, count_cons (first + m) (relabelled first code.labels x) (map (relabelled first code.labels) xs), count_cons m x xs, here, later)

  lines_other : (m : ℕ) (xs : List Line) → All (NamesAreThere functions checks code) xs → (first ≤ m → first + code.labels ≤ m) → count_by (is_label m) (map (relabelled first code.labels) xs) ≡ 0
  lines_other m [] all apart = refl
  lines_other m (x ∷ xs) all apart =
      let here = line_other m x (All-head (NamesAreThere functions checks code) x xs all) apart in
      let later = lines_other m xs (All-tail (NamesAreThere functions checks code) x xs all) apart in
      omega (arith, count_cons m (relabelled first code.labels x) (map (relabelled first code.labels) xs), here, later)

  -- a part has the label of its entry, and own labels as often as the function's code
  module _ (f : ℕ) (fun : IsFunction functions checks code) where
    pub part_own : (m : ℕ) → (f ≡ first + m → ⊥) → count_by (is_label (first + m)) (function_part f first code) ≡ count_by (is_label m) code.items
    part_own m ne =
        omega (arith, count_cons (first + m) (Label f) (map (relabelled first code.labels) code.items), unmarked (first + m) f ne, lines_own m code.items fun.names)

    pub part_entry : (first ≤ f → first + code.labels ≤ f) → count_by (is_label f) (function_part f first code) ≡ 1
    part_entry apart =
        omega (arith, count_cons f (Label f) (map (relabelled first code.labels) code.items), marked f f refl, lines_other f code.items fun.names apart)

    pub part_other : (m : ℕ) → (f ≡ m → ⊥) → (first ≤ m → first + code.labels ≤ m) → count_by (is_label m) (function_part f first code) ≡ 0
    part_other m ne apart =
        omega (arith, count_cons m (Label f) (map (relabelled first code.labels) code.items), unmarked m f ne, lines_other m code.items fun.names apart)

-- ---- functions in order

pub label_count_more : (code : Labelled) (rest : List Labelled) → label_count (code ∷ rest) ≡ code.labels + label_count rest
label_count_more code rest = sum_by-cons (λ (x : Labelled). x.labels) code rest

module _ (n : ℕ) (checks : Bool) where
  -- a label that is no entry and no own label of them stands nowhere
  pub parts_other : (functions : List Labelled) (f first m : ℕ) → All (IsFunction n checks) functions
      → (f ≤ m → f + length functions ≤ m) → (first ≤ m → first + label_count functions ≤ m) → count_by (is_label m) (function_parts f first functions) ≡ 0
  parts_other [] f first m all entries owns = refl
  parts_other (code ∷ rest) f first m all entries owns =
      let fun = All-head (IsFunction n checks) code rest all in
      let count = label_count_more code rest in
      let here = part_other n checks first code f fun m (λ e. omega (arith, e, entries (omega (arith, e)))) (λ le. omega (arith, owns le, count)) in
      let later = parts_other rest (f + 1) (first + code.labels) m (All-tail (IsFunction n checks) code rest all)
      (λ le. omega (arith, entries (omega (arith, le)))) (λ le. omega (arith, owns (omega (arith, le)), count)) in
      omega (arith, count_append m (function_part f first code) (function_parts (f + 1) (first + code.labels) rest), here, later)

  -- each entry's label stands once
  pub parts_entry : (functions : List Labelled) (f first m : ℕ) → All (IsFunction n checks) functions
      → f ≤ m → m < f + length functions → m < first → count_by (is_label m) (function_parts f first functions) ≡ 1
  parts_entry [] f first m all from to below = absurd (omega arith)
  parts_entry (code ∷ rest) f first m all from to below =
      let fun = All-head (IsFunction n checks) code rest all in
      let others = All-tail (IsFunction n checks) code rest all in
      let joined = count_append m (function_part f first code) (function_parts (f + 1) (first + code.labels) rest) in
      ⊎_elim
      (λ (e : f ≡ m).
      let here = part_entry n checks first code f fun (λ le. absurd (omega (arith, le, e))) in
      let here' : count_by (is_label m) (function_part f first code) ≡ 1 = rw (← e) here in
      let later = parts_other rest (f + 1) (first + code.labels) m others (λ le. absurd (omega (arith, le, e))) (λ le. absurd (omega (arith, le, e))) in
      omega (arith, joined, here', later))
      (λ (ne : f ≡ m → ⊥).
      let here = part_other n checks first code f fun m ne (λ le. absurd (omega (arith, le))) in
      let later = parts_entry rest (f + 1) (first + code.labels) m others (omega (arith, ne)) (omega arith) (omega arith) in
      omega (arith, joined, here, later))
      (cases_eq f m)

  -- an own label stands as often as in the function's code
  pub parts_own : (functions : List Labelled) (f first k : ℕ) (code : Labelled) (l m : ℕ) → All (IsFunction n checks) functions → f + length functions ≤ first
      → slice_get functions k ≡ Some code → l < code.labels → m ≡ first + label_count (take k functions) + l
      → count_by (is_label m) (function_parts f first functions) ≡ count_by (is_label l) code.items
  parts_own [] f first k code l m all low found below m_is = cc
  parts_own (x ∷ rest) f first zero code l m all low found below m_is =
      let found' : Some x ≡ Some code = found in
      let same : x ≡ code = cc in
      let labels : x.labels ≡ code.labels = ap (λ (c : Labelled). c.labels) same in
      let items : count_by (is_label l) x.items ≡ count_by (is_label l) code.items = ap (λ (c : Labelled). count_by (is_label l) c.items) same in
      let at : m ≡ first + l = omega arith in
      let here = part_own n checks first x f (All-head (IsFunction n checks) x rest all) l (λ e. omega (arith, e)) in
      let here' = subst (λ (o : ℕ). count_by (is_label o) (function_part f first x) ≡ count_by (is_label l) x.items) (sym at) here in
      let later = parts_other rest (f + 1) (first + x.labels) m (All-tail (IsFunction n checks) x rest all)
      (λ le. omega (arith, le)) (λ le. absurd (omega (arith, le))) in
      omega (arith, count_append m (function_part f first x) (function_parts (f + 1) (first + x.labels) rest), here', items, later)
  parts_own (x ∷ rest) f first (suc k) code l m all low found below m_is =
      let more = label_count_more x (take k rest) in
      let here = part_other n checks first x f (All-head (IsFunction n checks) x rest all) m (λ e. omega (arith, e)) (λ le. omega (arith, more)) in
      let later = parts_own rest (f + 1) (first + x.labels) k code l m (All-tail (IsFunction n checks) x rest all) (omega arith) found below (omega (arith, more)) in
      omega (arith, count_append m (function_part f first x) (function_parts (f + 1) (first + x.labels) rest), here, later)

-- the labels before a function and its own are among those of all
pub labels_within : (functions : List Labelled) (k : ℕ) (code : Labelled) → slice_get functions k ≡ Some code → label_count (take k functions) + code.labels ≤ label_count functions
labels_within [] k code found = absurd (let bad : ⊥ = cc in bad)
labels_within (x ∷ rest) zero code found =
    let found' : Some x ≡ Some code = found in
    let same : x ≡ code = cc in
    let labels : x.labels ≡ code.labels = ap (λ (c : Labelled). c.labels) same in
    omega (arith, label_count_more x rest)
labels_within (x ∷ rest) (suc k) code found = omega (arith, label_count_more x rest, label_count_more x (take k rest), labels_within rest k code found)
