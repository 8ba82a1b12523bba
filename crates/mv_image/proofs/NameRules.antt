-- The names of an image, one after the other.
use Rattle.std.proofs.Common.{◌≡◌, ℕ, ◌+◌, ◌-◌, ◌*◌, ◌<◌, ◌≤◌, ◌⊎◌, Bool, true, false, ltb, eqb, ◌||◌, ◌&&◌, not, List, [], ◌∷◌, ◌++◌, length, take, drop, map, slice_index, slice_range, get_or, All, refl, sym, ap, subst, ◌∙◌, arith, inl, inr, eq-eqb, append_assoc}
use Rattle.std.specs.Prelude.{sum_by}
use Rattle.std.proofs.lemmas.Bool.{lt-ltb, le-ltb, cases_lt, ne_eqb, not-true, or_right, or_left, and_from}
use Rattle.std.proofs.lemmas.List.{take-append-drop, drop_more, length-append, length-map, get_or-map}
use Rattle.std.proofs.lemmas.List.Concat.{length-flat_map, flat_map-cons}
use Rattle.std.proofs.lemmas.Grind.{flat_map-append}
use Rattle.std.proofs.Math.Seq.{take-length}
use Rattle.mv_descriptors.specs.declared.rows.SwitchRow.{SwitchRow}
use Rattle.mv_descriptors.specs.declared.rows.FunctionRow.{FunctionRow}
use Rattle.mv_descriptors.specs.declared.rows.PointerRow.{PointerRow}
use Rattle.mv_descriptors.specs.declared.rows.TargetRow.{TargetRow}
use Rattle.mv_image.specs.Places.{switch_rows, function_rows, pointer_rows, name_bytes, words_end, switch_field, function_field, pointer_field, target_field, sum_below, owner, name_length, pointer_names_at, target_names_at, names}
use Rattle.mv_image.specs.Rules.{name_fits}
use Rattle.mv_image.specs.Names.{is_letter, is_digit, is_keyword}
use Rattle.mv_image.specs.Spelling.{Fields, joined}
use Rattle.mv_image.specs.Faults.{lengths_in}
use Rattle.mv_image.specs.Format.{IsIdentifier}
use Rattle.mv_image.proofs.WhatIsRead.{not_last}
use Rattle.mv_image.proofs.RowsStand.{StandIn, behind}
use Rattle.mv_image.proofs.Sums.{sums_are, any_switch, any_function}
use Rattle.mv_num.proofs.Booleans.{and_right, and_left}
use Rattle.mv_num.proofs.Lists.{index_left}

-- ---- how long the names are

-- the lengths that each table gives

abbrev switch_lengths : Fields → List ℕ
switch_lengths a = map (λ (row : SwitchRow). row.length) a.switches

abbrev function_lengths : Fields → List ℕ
function_lengths a = map (λ (row : FunctionRow). row.length) a.functions

abbrev pointer_lengths : Fields → List ℕ
pointer_lengths a = map (λ (row : PointerRow). row.length) a.pointers

abbrev target_lengths : Fields → List ℕ
target_lengths a = map (λ (row : TargetRow). row.length) a.targets

-- how many names stand before those of the pointer switches, and before those of the targets

abbrev before_pointer_names : Fields → ℕ
before_pointer_names a = length a.switches + length a.functions

abbrev before_target_names : Fields → ℕ
before_target_names a = before_pointer_names a + length a.pointers

-- the lengths of all, one table after the other
in_parts : (a : Fields) → lengths_in a ≡ switch_lengths a ++ (function_lengths a ++ (pointer_lengths a ++ target_lengths a))
in_parts a = simp append_assoc

pub names_count : (a : Fields) → map length a.names ≡ lengths_in a → length a.names ≡ length a.switches + length a.functions + length a.pointers + length a.targets
names_count a n =
    sym (length-map a.names length) ∙ ap length (n ∙ in_parts a)
    ∙ omega (
      arith,
      length-append (switch_lengths a) (function_lengths a ++ (pointer_lengths a ++ target_lengths a)),
      length-append (function_lengths a) (pointer_lengths a ++ target_lengths a),
      length-append (pointer_lengths a) (target_lengths a),
      length-map a.switches (λ (row : SwitchRow). row.length),
      length-map a.functions (λ (row : FunctionRow). row.length),
      length-map a.pointers (λ (row : PointerRow). row.length),
      length-map a.targets (λ (row : TargetRow). row.length),
    )

switch_length : (a : Fields) (k : ℕ) (d : SwitchRow) → k < length a.switches → slice_index (lengths_in a) k ≡ (get_or a.switches k d).length
switch_length a k d lt =
    let f : SwitchRow → ℕ = λ row. row.length in
    ap (λ (xs : List ℕ). slice_index xs k) (in_parts a)
    ∙ index_left (switch_lengths a) (function_lengths a ++ (pointer_lengths a ++ target_lengths a)) k (omega (arith, lt, length-map a.switches f)) ∙ get_or-map f a.switches k d 0 lt

-- those behind the switches' names
behind_switches : (a : Fields) (i k : ℕ) → i ≡ length a.switches + k → slice_index (lengths_in a) i ≡ slice_index (function_lengths a ++ (pointer_lengths a ++ target_lengths a)) k
behind_switches a i k e =
    let f : SwitchRow → ℕ = λ row. row.length in
    ap (λ (xs : List ℕ). slice_index xs i) (in_parts a) ∙ behind (switch_lengths a) (function_lengths a ++ (pointer_lengths a ++ target_lengths a)) i k (omega (arith, e, length-map a.switches f))

function_length : (a : Fields) (k : ℕ) (d : FunctionRow) → k < length a.functions → slice_index (lengths_in a) (length a.switches + k) ≡ (get_or a.functions k d).length
function_length a k d lt =
    let f : FunctionRow → ℕ = λ row. row.length in
    behind_switches a (length a.switches + k) k refl ∙ index_left (function_lengths a) (pointer_lengths a ++ target_lengths a) k (omega (arith, lt, length-map a.functions f)) ∙ get_or-map f a.functions k d 0 lt

-- and behind the functions' names
behind_functions : (a : Fields) (i k : ℕ) → i ≡ before_pointer_names a + k → slice_index (lengths_in a) i ≡ slice_index (pointer_lengths a ++ target_lengths a) k
behind_functions a i k e =
    let f : FunctionRow → ℕ = λ row. row.length in
    behind_switches a i (length a.functions + k) (omega (arith, e)) ∙ behind (function_lengths a) (pointer_lengths a ++ target_lengths a) (length a.functions + k) k (omega (arith, length-map a.functions f))

pointer_length : (a : Fields) (k : ℕ) (d : PointerRow) → k < length a.pointers → slice_index (lengths_in a) (before_pointer_names a + k) ≡ (get_or a.pointers k d).length
pointer_length a k d lt =
    let f : PointerRow → ℕ = λ row. row.length in
    behind_functions a (before_pointer_names a + k) k refl ∙ index_left (pointer_lengths a) (target_lengths a) k (omega (arith, lt, length-map a.pointers f)) ∙ get_or-map f a.pointers k d 0 lt

target_length : (a : Fields) (k : ℕ) (d : TargetRow) → k < length a.targets → slice_index (lengths_in a) (before_target_names a + k) ≡ (get_or a.targets k d).length
target_length a k d lt =
    let f : PointerRow → ℕ = λ row. row.length in
    let g : TargetRow → ℕ = λ row. row.length in
    behind_functions a (before_target_names a + k) (length a.pointers + k) (omega arith) ∙ behind (pointer_lengths a) (target_lengths a) (length a.pointers + k) k (omega (arith, length-map a.pointers f))
    ∙ get_or-map g a.targets k d 0 lt

pub any_pointer : PointerRow
any_pointer = record { length = 0; address = 0 }

pub any_target : TargetRow
any_target = record { length = 0; entry = 0 }

-- Of which table a name is, and of which row there.
abbrev NameOf : Fields → ℕ → Type 0
NameOf a k = (k < length a.switches)
    ⊎ (((j : ℕ) × (j < length a.functions) × (k ≡ length a.switches + j))
    ⊎ (((j : ℕ) × (j < length a.pointers) × (k ≡ before_pointer_names a + j))
    ⊎ ((j : ℕ) × (j < length a.targets) × (k ≡ before_target_names a + j))))

name_of : (a : Fields) (k : ℕ) → map length a.names ≡ lengths_in a → k < length a.names → NameOf a k
name_of a k n lt =
    elim (cases_lt k (length a.switches)) [
      | inl few ↦ inl few
      | inr first ↦ elim (cases_lt k (before_pointer_names a)) [
        | inl here ↦ inr (inl (k - length a.switches, omega arith, omega arith))
        | inr second ↦ elim (cases_lt k (before_target_names a)) [
          | inl here ↦ inr (inr (inl (k - before_pointer_names a, omega arith, omega arith)))
          | inr third ↦ inr (inr (inr (k - before_target_names a, omega (arith, names_count a n, lt), omega arith)))
        ]
      ]
    ]

-- the lengths of the names, by their rows
pub length_in : (a : Fields) → map length a.names ≡ lengths_in a → (k : ℕ) (d : List ℕ) → k < length a.names → length (get_or a.names k d) ≡ slice_index (lengths_in a) k
length_in a n k d lt = sym (get_or-map length a.names k d 0 lt) ∙ ap (λ (xs : List ℕ). slice_index xs k) n

-- Of the lengths in the rows.
pub record LengthsKeep (a : Fields) (P : ℕ → Type 0) : Type 0 where
  pub switches : All (λ (row : SwitchRow). P row.length) a.switches
  pub functions : All (λ (row : FunctionRow). P row.length) a.functions
  pub pointers : All (λ (row : PointerRow). P row.length) a.pointers
  pub targets : All (λ (row : TargetRow). P row.length) a.targets

-- what the lengths in the rows keep, the lengths of the names keep
pub lengths_keep : (a : Fields) (P : ℕ → Type 0) → map length a.names ≡ lengths_in a → LengthsKeep a P → All (λ (name : List ℕ). P (length name)) a.names
lengths_keep a P n keep k d lt =
    let it = length_in a n k d lt in
    elim (name_of a k n lt) [
      | inl few ↦ subst P (sym (it ∙ switch_length a k any_switch few)) (keep.switches k any_switch few)
      | inr other ↦ elim other [
        | inl one ↦ subst P (sym (it ∙ ap (slice_index (lengths_in a)) one.2 ∙ function_length a one.0 any_function one.1)) (keep.functions one.0 any_function one.1)
        | inr later ↦ elim later [
          | inl one ↦ subst P (sym (it ∙ ap (slice_index (lengths_in a)) one.2 ∙ pointer_length a one.0 any_pointer one.1)) (keep.pointers one.0 any_pointer one.1)
          | inr one ↦ subst P (sym (it ∙ ap (slice_index (lengths_in a)) one.2 ∙ target_length a one.0 any_target one.1)) (keep.targets one.0 any_target one.1)
        ]
      ]
    ]

length_of_switch : (ws : List ℕ) (k : ℕ) → k < switch_rows ws → name_length ws k ≡ switch_field ws k 0
unfolding name_length
length_of_switch ws k lt = let t : ltb k (switch_rows ws) ≡ true = lt-ltb _ _ lt in rw t refl

length_of_function : (ws : List ℕ) (k i : ℕ) → k < function_rows ws → i ≡ switch_rows ws + k → name_length ws i ≡ function_field ws k 0
unfolding name_length
length_of_function ws k i lt e =
    let t : ltb i (switch_rows ws) ≡ false = le-ltb _ _ (omega (arith, e)) in
    let u : ltb i (pointer_names_at ws) ≡ true = lt-ltb _ _ (omega (arith, e, lt)) in
    let m : i - switch_rows ws ≡ k = omega (arith, e) in
    rw (t, u, m) refl

length_of_pointer : (ws : List ℕ) (k i : ℕ) → k < pointer_rows ws → i ≡ pointer_names_at ws + k → name_length ws i ≡ pointer_field ws k 0
unfolding name_length
length_of_pointer ws k i lt e =
    let t : ltb i (switch_rows ws) ≡ false = le-ltb _ _ (omega (arith, e)) in
    let u : ltb i (pointer_names_at ws) ≡ false = le-ltb _ _ (omega (arith, e)) in
    let v : ltb i (target_names_at ws) ≡ true = lt-ltb _ _ (omega (arith, e, lt)) in
    let m : i - pointer_names_at ws ≡ k = omega (arith, e) in
    rw (t, u, v, m) refl

length_of_target : (ws : List ℕ) (k i : ℕ) → i ≡ target_names_at ws + k → name_length ws i ≡ target_field ws k 0
unfolding name_length
length_of_target ws k i e =
    let t : ltb i (switch_rows ws) ≡ false = le-ltb _ _ (omega (arith, e)) in
    let u : ltb i (pointer_names_at ws) ≡ false = le-ltb _ _ (omega (arith, e)) in
    let v : ltb i (target_names_at ws) ≡ false = le-ltb _ _ (omega (arith, e)) in
    let m : i - target_names_at ws ≡ k = omega (arith, e) in
    rw (t, u, v, m) refl

pub length_stands : (ws : List ℕ) (a : Fields) → StandIn ws a → map length a.names ≡ lengths_in a → (k : ℕ) (d : List ℕ) → k < length a.names → name_length ws k ≡ length (get_or a.names k d)
length_stands ws a s n k d lt =
    let c = s.counts in
    let it = sym (length_in a n k d lt) in
    elim (name_of a k n lt) [
      | inl few ↦ length_of_switch ws k (omega (arith, c.switches, few)) ∙ s.switch k 0 any_switch few (omega arith) ∙ sym (switch_length a k any_switch few) ∙ it
      | inr other ↦ elim other [
        | inl one ↦
            length_of_function ws one.0 k (omega (arith, c.functions, one.1)) (omega (arith, one.2, c.switches)) ∙ s.function one.0 0 any_function one.1 (omega arith)
            ∙ sym (function_length a one.0 any_function one.1) ∙ ap (slice_index (lengths_in a)) (sym one.2) ∙ it
        | inr later ↦ elim later [
          | inl one ↦
              length_of_pointer ws one.0 k (omega (arith, c.pointers, one.1)) (omega (arith, one.2, c.switches, c.functions)) ∙ s.pointer one.0 0 any_pointer one.1 (omega arith)
              ∙ sym (pointer_length a one.0 any_pointer one.1) ∙ ap (slice_index (lengths_in a)) (sym one.2) ∙ it
          | inr one ↦
              length_of_target ws one.0 k (omega (arith, one.2, c.switches, c.functions, c.pointers)) ∙ s.target one.0 0 any_target one.1 (omega arith)
              ∙ sym (target_length a one.0 any_target one.1) ∙ ap (slice_index (lengths_in a)) (sym one.2) ∙ it
        ]
      ]
    ]

-- ---- where the names are among their bytes

pub joined_length : (names : List (List ℕ)) → length (joined names) ≡ sum_by length names
joined_length names = length-flat_map (λ (name : List ℕ). name) names

pub starts_are : (ws : List ℕ) (a : Fields) → StandIn ws a → map length a.names ≡ lengths_in a → (k : ℕ) → k ≤ length a.names → sum_below (name_length ws) k ≡ length (joined (take k a.names))
starts_are ws a s n k le = sums_are (name_length ws) length a.names (λ j d lt. length_stands ws a s n j d lt) k [] le ∙ sym (joined_length (take k a.names))

pub names_add_up : (ws : List ℕ) (a : Fields) → StandIn ws a → map length a.names ≡ lengths_in a → sum_below (name_length ws) (names ws) ≡ name_bytes ws
names_add_up ws a s n =
    let c = s.counts in
    let all : names ws ≡ length a.names = omega (arith, c.switches, c.functions, c.pointers, c.targets, names_count a n) in
    ap (sum_below (name_length ws)) all ∙ starts_are ws a s n (length a.names) (omega arith) ∙ ap (λ (x : List (List ℕ)). length (joined x)) (take-length a.names) ∙ sym c.names

-- a name between those before it and those behind it
pub joined_split : (names : List (List ℕ)) (k : ℕ) (d : List ℕ) → k < length names → joined names ≡ joined (take k names) ++ (get_or names k d ++ joined (drop (k + 1) names))
joined_split names k d lt =
    let parts : names ≡ take k names ++ (get_or names k d ∷ drop (k + 1) names) = sym (take-append-drop k names) ∙ ap (λ (x : List (List ℕ)). take k names ++ x) (drop_more names k d lt) in
    ap joined parts ∙ flat_map-append (λ (name : List ℕ). name) (take k names) (get_or names k d ∷ drop (k + 1) names)
    ∙ ap (λ (x : List ℕ). joined (take k names) ++ x) (flat_map-cons (λ (name : List ℕ). name) (get_or names k d) (drop (k + 1) names))

-- ---- the rule of a byte

-- A byte of a name: it stands there in the bytes, and so does the whole name.
pub record StandsInName (ws bytes : List ℕ) (j k : ℕ) (name : List ℕ) : Type 0 where
  pub within : j < name_bytes ws
  pub own : owner (name_length ws) (names ws) j ≡ k
  pub size : name_length ws k ≡ length name
  pub from : sum_below (name_length ws) k ≤ j
  pub to : j < sum_below (name_length ws) k + length name
  pub byte : slice_index bytes (4 * words_end ws + j) ≡ slice_index name (j - sum_below (name_length ws) k)
  pub whole : slice_range bytes (4 * words_end ws + sum_below (name_length ws) k) (4 * words_end ws + (sum_below (name_length ws) k + length name)) ≡ name

byte_fits : (name : List ℕ) (start j : ℕ) → IsIdentifier name → start ≤ j → j < start + length name → (is_letter (slice_index name (j - start)) || (ltb start j && is_digit (slice_index name (j - start)))) ≡ true
byte_fits name start j is from to =
    elim (cases_lt start j) [
      | inl later ↦ let t : ltb start j ≡ true = lt-ltb _ _ later in rw t (is.others (j - start) (omega arith))
      | inr first ↦ let z : 0 ≡ j - start = omega arith in or_left _ _ (subst (λ (i : ℕ). is_letter (slice_index name i) ≡ true) z is.first)
    ]

end_fits : (bytes name : List ℕ) (base start j : ℕ) → IsIdentifier name → j < start + length name → slice_range bytes (base + start) (base + (start + length name)) ≡ name
    → (not (eqb (j + 1) (start + length name)) || not (is_keyword (slice_range bytes (base + start) (base + j + 1)))) ≡ true
end_fits bytes name base start j is to whole =
    elim (cases_lt (j + 1) (start + length name)) [
      | inl within ↦ let t : eqb (j + 1) (start + length name) ≡ false = ne_eqb _ _ (λ e. omega (arith, e, within)) in rw t refl
      | inr last ↦
          let e : base + j + 1 ≡ base + (start + length name) = omega arith in
          let here : slice_range bytes (base + start) (base + j + 1) ≡ name = ap (λ (n : ℕ). slice_range bytes (base + start) n) e ∙ whole in
          or_right _ _ (ap (λ (x : List ℕ). not (is_keyword x)) here ∙ ap not is.no_keyword)
    ]

pub name_byte_fits : (ws bytes : List ℕ) (j k : ℕ) (name : List ℕ) → StandsInName ws bytes j k name → IsIdentifier name → name_fits ws bytes j ≡ true
unfolding name_fits
name_byte_fits ws bytes j k name s is =
    let t : ltb j (name_bytes ws) ≡ true = lt-ltb _ _ s.within in
    let own = s.own in
    let size = s.size in
    let byte = s.byte in
    rw (t, own, size, byte) (and_from _ _ (byte_fits name (sum_below (name_length ws) k) j is s.from s.to) (end_fits bytes name (4 * words_end ws) (sum_below (name_length ws) k) j is s.to s.whole))

pub fill_byte_fits : (ws bytes : List ℕ) (j : ℕ) → name_bytes ws ≤ j → slice_index bytes (4 * words_end ws + j) ≡ 0 → name_fits ws bytes j ≡ true
unfolding name_fits
fill_byte_fits ws bytes j le e = let t : ltb j (name_bytes ws) ≡ false = le-ltb _ _ le in rw t (eq-eqb _ _ e)

-- ---- the other way

letter_of : (a b : Bool) → (a || (false && b)) ≡ true → a ≡ true
letter_of true b e = refl
letter_of false b e = absurd cc

either_of : (a t b : Bool) → (a || (t && b)) ≡ true → (a || b) ≡ true
either_of true t b e = refl
either_of false true b e = e
either_of false false b e = absurd cc

-- What the rules of the bytes of a name say of it.
pub record NameSays (name : List ℕ) (start j : ℕ) : Type 0 where
  pub letter : (is_letter (slice_index name (j - start)) || (ltb start j && is_digit (slice_index name (j - start)))) ≡ true
  pub last : j + 1 ≡ start + length name → is_keyword name ≡ false

last_says : (bytes name : List ℕ) (base start j : ℕ) → slice_range bytes (base + start) (base + (start + length name)) ≡ name → j + 1 ≡ start + length name
    → (not (eqb (j + 1) (start + length name)) || not (is_keyword (slice_range bytes (base + start) (base + j + 1)))) ≡ true → is_keyword name ≡ false
last_says bytes name base start j whole last h =
    let e : base + j + 1 ≡ base + (start + length name) = omega arith in
    let here : slice_range bytes (base + start) (base + j + 1) ≡ name = ap (λ (n : ℕ). slice_range bytes (base + start) n) e ∙ whole in
    not-true (is_keyword name) (ap (λ (x : List ℕ). not (is_keyword x)) (sym here) ∙ not_last (j + 1) (start + length name) _ last h)

pub name_says : (ws bytes : List ℕ) (j k : ℕ) (name : List ℕ) → StandsInName ws bytes j k name → name_fits ws bytes j ≡ true → NameSays name (sum_below (name_length ws) k) j
unfolding name_fits
name_says ws bytes j k name s fits =
    let t : ltb j (name_bytes ws) ≡ true = lt-ltb _ _ s.within in
    let own = s.own in
    let size = s.size in
    let byte = s.byte in
    let h = rw (t, own, size, byte) at fits in
    record {
      letter = and_left _ _ h;
      last = λ last. last_says bytes name (4 * words_end ws) (sum_below (name_length ws) k) j s.whole last (and_right _ _ h);
    }

-- a name whose bytes keep their rules
pub is_identifier : (name : List ℕ) (start : ℕ) → 1 ≤ length name → ((i : ℕ) → i < length name → NameSays name start (start + i)) → IsIdentifier name
is_identifier name start some says =
    let n : ℕ = length name in
    let first = (says 0 (omega arith)).letter in
    let z : start + 0 - start ≡ 0 = omega arith in
    let none : ltb start (start + 0) ≡ false = le-ltb _ _ (omega arith) in
    record {
      first = letter_of (is_letter (slice_index name 0)) (is_digit (slice_index name 0)) (rw (z, none) at first);
      others = λ i lt. (
          let here = (says i lt).letter in
          let e : start + i - start ≡ i = omega arith in
          either_of (is_letter (slice_index name i)) (ltb start (start + i)) (is_digit (slice_index name i)) (subst (λ (x : ℕ). (is_letter (slice_index name x) || (ltb start (start + i) && is_digit (slice_index name x))) ≡ true) e here));
      no_keyword = (says (n - 1) (omega arith)).last (omega arith);
    }
