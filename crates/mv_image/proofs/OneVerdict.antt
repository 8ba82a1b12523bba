-- Bytes have one verdict: they spell one image, or have one first fault.
use Rattle.std.proofs.Common.{◌≡◌, ℕ, suc, ◌+◌, ◌*◌, ◌<◌, true, false, eqb, drop, slice_index, List, [], ◌∷◌, ◌++◌, length, map, refl, sym, ap, subst, ◌∙◌, arith, inl, inr, All, append_assoc, Result, Ok, Err}
use Rattle.std.specs.Prelude.{IfOk, IfErr, MatchResult}
use Rattle.std.specs.List.{flat_map}
use Rattle.std.proofs.lemmas.Bool.{cases_lt, cases_Bool}
use Rattle.std.proofs.lemmas.List.{length-append}
use Rattle.std.proofs.lemmas.List.Concat.{flat_map-cons}
use Rattle.mv_num.specs.Bytes.{words_of, bytes_of, AreWords}
use Rattle.mv_num.proofs.ByteLaws.{bytes-number}
use Rattle.mv_descriptors.specs.Widths.{switch_words, function_words, variant_words, guard_words, site_words, pointer_words, point_words, target_words, SwitchWhole, FunctionWhole, VariantWhole, GuardWhole, SiteWhole, PointerWhole, PointWhole, TargetWhole}
use Rattle.mv_descriptors.specs.WidthLaws.{one_switch, one_function, one_variant, one_guard, one_site, one_pointer, one_point, one_target, switch_width, function_width, variant_width, guard_width, site_width, pointer_width, point_width, target_width, parted}
use Rattle.mv_descriptors.specs.declared.rows.SwitchRow.{SwitchRow}
use Rattle.mv_descriptors.specs.declared.rows.FunctionRow.{FunctionRow}
use Rattle.mv_descriptors.specs.declared.rows.VariantRow.{VariantRow}
use Rattle.mv_descriptors.specs.declared.rows.GuardRow.{GuardRow}
use Rattle.mv_descriptors.specs.declared.rows.SiteRow.{SiteRow}
use Rattle.mv_descriptors.specs.declared.rows.PointerRow.{PointerRow}
use Rattle.mv_descriptors.specs.declared.rows.PointRow.{PointRow}
use Rattle.mv_descriptors.specs.declared.rows.TargetRow.{TargetRow}
use Rattle.mv_image.specs.Places.{switch_row_words, function_row_words, variant_row_words, guard_row_words, site_row_words, pointer_row_words, point_row_words, target_row_words}
use Rattle.mv_image.specs.declared.fault.ImageError.{ImageError}
use Rattle.mv_image.specs.declared.fault.ImageError.TheVariants.{Memory, Truncated, BadField, Trailing}
use Rattle.mv_image.specs.Spelling.{Fields, joined, later_of, header_of, words_in, names_in, spelling}
use Rattle.mv_image.specs.Faults.{places, offset, place_fits, IsThere, AllBefore, Spelled, IsTruncated, IsBad, FirstFault, IsMemory, Rules, Spells, lengths_in}
use Rattle.mv_num.proofs.Lists.{all_tail, all_head}

-- ---- one fault

-- the first place that is missing or breaks its rule
record IsFirst (bytes : List ℕ) (p : ℕ) : Type 0 where
  is_place : p < places bytes
  before : AllBefore bytes p
  fails : IsThere bytes p → place_fits bytes p ≡ true → ⊥

first_of_truncated : (bytes : List ℕ) (at p : ℕ) → IsTruncated bytes at p → IsFirst bytes p
first_of_truncated bytes at p t = record { is_place = t.is_place; before = t.before; fails = λ there fits. omega (arith, there, t.missing) }

first_of_bad : (bytes : List ℕ) (at p : ℕ) → IsBad bytes at p → IsFirst bytes p
first_of_bad bytes at p b = record { is_place = b.is_place; before = b.before; fails = λ there fits. (let e : true ≡ false = sym fits ∙ b.breaks in cc) }

one_first : (bytes : List ℕ) (p q : ℕ) → IsFirst bytes p → IsFirst bytes q → p ≡ q
one_first bytes p q f g =
    elim (cases_lt p q) [
      | inl lt ↦ absurd (f.fails (g.before p lt).0 (g.before p lt).1)
      | inr le ↦ elim (cases_lt q p) [
        | inl lt ↦ absurd (g.fails (f.before q lt).0 (f.before q lt).1)
        | inr ge ↦ omega arith
      ]
    ]

none_first : (bytes : List ℕ) (p : ℕ) → IsFirst bytes p → AllBefore bytes (places bytes) → ⊥
none_first bytes p f all = f.fails (all p f.is_place).0 (all p f.is_place).1

pub spelled_has_none : (bytes : List ℕ) (f : ImageError) → Spelled bytes → FirstFault bytes f → IsMemory f
spelled_has_none bytes (Memory e) sp f = tt
spelled_has_none bytes (Truncated at) sp f = none_first bytes f.0 (first_of_truncated bytes at f.0 f.1) sp.all
spelled_has_none bytes (BadField at) sp f = none_first bytes f.0 (first_of_bad bytes at f.0 f.1) sp.all
spelled_has_none bytes (Trailing at) sp f = omega (arith, sp.end, f.at_is, f.more)

pub one_fault : (bytes : List ℕ) (f g : ImageError) → FirstFault bytes f → FirstFault bytes g → (IsMemory f → ⊥) → (IsMemory g → ⊥) → f ≡ g
one_fault bytes (Memory e) g hf hg nf ng = absurd (nf tt)
one_fault bytes (Truncated at) (Memory e) hf hg nf ng = absurd (ng tt)
one_fault bytes (Truncated at) (Truncated to) hf hg nf ng =
    let same : hf.0 ≡ hg.0 = one_first bytes hf.0 hg.0 (first_of_truncated bytes at hf.0 hf.1) (first_of_truncated bytes to hg.0 hg.1) in
    ap (λ (n : ℕ). Truncated n) (hf.1.at_is ∙ ap (offset bytes) same ∙ sym hg.1.at_is)
one_fault bytes (Truncated at) (BadField to) hf hg nf ng =
    let same : hf.0 ≡ hg.0 = one_first bytes hf.0 hg.0 (first_of_truncated bytes at hf.0 hf.1) (first_of_bad bytes to hg.0 hg.1) in
    let there : IsThere bytes hf.0 = subst (λ (p : ℕ). IsThere bytes p) (sym same) hg.1.there in
    absurd (omega (arith, there, hf.1.missing))
one_fault bytes (Truncated at) (Trailing to) hf hg nf ng = absurd (none_first bytes hf.0 (first_of_truncated bytes at hf.0 hf.1) hg.all)
one_fault bytes (BadField at) (Memory e) hf hg nf ng = absurd (ng tt)
one_fault bytes (BadField at) (Truncated to) hf hg nf ng =
    let same : hf.0 ≡ hg.0 = one_first bytes hf.0 hg.0 (first_of_bad bytes at hf.0 hf.1) (first_of_truncated bytes to hg.0 hg.1) in
    let there : IsThere bytes hg.0 = subst (λ (p : ℕ). IsThere bytes p) same hf.1.there in
    absurd (omega (arith, there, hg.1.missing))
one_fault bytes (BadField at) (BadField to) hf hg nf ng =
    let same : hf.0 ≡ hg.0 = one_first bytes hf.0 hg.0 (first_of_bad bytes at hf.0 hf.1) (first_of_bad bytes to hg.0 hg.1) in
    ap (λ (n : ℕ). BadField n) (hf.1.at_is ∙ ap (offset bytes) same ∙ sym hg.1.at_is)
one_fault bytes (BadField at) (Trailing to) hf hg nf ng = absurd (none_first bytes hf.0 (first_of_bad bytes at hf.0 hf.1) hg.all)
one_fault bytes (Trailing at) (Memory e) hf hg nf ng = absurd (ng tt)
one_fault bytes (Trailing at) (Truncated to) hf hg nf ng = absurd (none_first bytes hg.0 (first_of_truncated bytes to hg.0 hg.1) hf.all)
one_fault bytes (Trailing at) (BadField to) hf hg nf ng = absurd (none_first bytes hg.0 (first_of_bad bytes to hg.0 hg.1) hf.all)
one_fault bytes (Trailing at) (Trailing to) hf hg nf ng = ap (λ (n : ℕ). Trailing n) (hf.at_is ∙ sym hg.at_is)

-- ---- one image

rows_same : {R : Type 0} (words_are : R → List ℕ) (Whole : R → Type 0) (w : ℕ) → ((x : R) → Whole x → length (words_are x) ≡ w) → ((x y : R) → Whole x → Whole y → words_are x ≡ words_are y → x ≡ y)
    → (xs ys : List R) → All Whole xs → All Whole ys → length xs ≡ length ys → flat_map words_are xs ≡ flat_map words_are ys → xs ≡ ys
rows_same f Whole w size one [] [] hx hy len e = refl
rows_same f Whole w size one [] (y ∷ ys) hx hy len e = absurd (omega (arith, len))
rows_same f Whole w size one (x ∷ xs) [] hx hy len e = absurd (omega (arith, len))
rows_same {R} f Whole w size one (x ∷ xs) (y ∷ ys) hx hy len e =
    let wx = all_head Whole x xs hx in
    let wy = all_head Whole y ys hy in
    let p = parted w (f x) (f y) (flat_map f xs) (flat_map f ys) (size x wx) (size y wy) (sym (flat_map-cons f x xs) ∙ e ∙ flat_map-cons f y ys) in
    let rest = rows_same f Whole w size one xs ys (all_tail Whole x xs hx) (all_tail Whole y ys hy) (omega (arith, len)) p.1 in
    ap (λ (r : R). r ∷ xs) (one x y wx wy p.0) ∙ ap (λ (r : List R). y ∷ r) rest

pub flat_length : {R : Type 0} (f : R → List ℕ) (Whole : R → Type 0) (w : ℕ) → ((x : R) → Whole x → length (f x) ≡ w) → (xs : List R) → All Whole xs → length (flat_map f xs) ≡ w * length xs
flat_length f Whole w size [] h = omega arith
flat_length f Whole w size (x ∷ xs) h =
    let rest = flat_length f Whole w size xs (all_tail Whole x xs h) in
    let n : w * suc (length xs) ≡ w + w * length xs = omega arith in
    ap length (flat_map-cons f x xs) ∙ length-append (f x) (flat_map f xs) ∙ omega (arith, n, rest, size x (all_head Whole x xs h))

names_same : (xs ys : List (List ℕ)) (c d : List ℕ) → map length xs ≡ map length ys → joined xs ++ c ≡ joined ys ++ d → xs ≡ ys
names_same [] [] c d len e = refl
names_same [] (y ∷ ys) c d len e = absurd cc
names_same (x ∷ xs) [] c d len e = absurd cc
names_same (x ∷ xs) (y ∷ ys) c d len e =
    let first : length x ≡ length y = cc in
    let others : map length xs ≡ map length ys = cc in
    let grouped : x ++ (joined xs ++ c) ≡ y ++ (joined ys ++ d) =
    sym (append_assoc x (joined xs) c) ∙ ap (λ (t : List ℕ). t ++ c) (sym (flat_map-cons (λ (name : List ℕ). name) x xs)) ∙ e ∙ ap (λ (t : List ℕ). t ++ d) (flat_map-cons (λ (name : List ℕ). name) y ys) ∙ append_assoc y (joined ys) d in
    let p = parted (length x) x y (joined xs ++ c) (joined ys ++ d) refl (sym first) grouped in
    ap (λ (n : List ℕ). n ∷ xs) p.0 ∙ ap (λ (n : List (List ℕ)). y ∷ n) (names_same xs ys c d others p.1)

pub words_in_front : (ws rest : List ℕ) → AreWords ws → words_of (bytes_of ws ++ rest) ≡ ws ++ words_of rest
words_in_front [] rest fits = refl
words_in_front (w ∷ ws) rest fits =
    let front = bytes-number w (fits 0) in
    let back = words_in_front ws rest (λ i. fits (suc i)) in
    cc (front, back)

-- the parts behind the header, one after the other
body_of : Fields → List ℕ → List ℕ
body_of a rest =
    a.text ++ (a.globals ++ (flat_map switch_words a.switches
    ++ (flat_map function_words a.functions
    ++ (flat_map variant_words a.variants
    ++ (flat_map guard_words a.guards ++ (flat_map site_words a.sites
    ++ (flat_map pointer_words a.pointers ++ (flat_map point_words a.points ++ (flat_map target_words a.targets ++ rest)))))))))

regrouped : (a : Fields) (rest : List ℕ) → words_in a ++ rest ≡ header_of a ++ body_of a rest
unfolding words_in body_of
regrouped a rest = simp append_assoc

-- the version alone says how long the header is
pub later_long : (a : Fields) → eqb a.version 2 ≡ true → length (later_of a) ≡ 4
unfolding later_of
later_long a e = rw e refl

pub later_short : (a : Fields) → eqb a.version 2 ≡ false → length (later_of a) ≡ 0
unfolding later_of
later_short a e = rw e refl

later_length : (a b : Fields) → a.version ≡ b.version → length (later_of a) ≡ length (later_of b)
later_length a b v =
    let same : eqb b.version 2 ≡ eqb a.version 2 = ap (λ (n : ℕ). eqb n 2) (sym v) in
    elim (cases_Bool (eqb a.version 2)) [
      | inl e ↦ later_long a e ∙ sym (later_long b (same ∙ e))
      | inr e ↦ later_short a e ∙ sym (later_short b (same ∙ e))
    ]

header_same : (a b : Fields) (x y : List ℕ) → header_of a ++ x ≡ header_of b ++ y → (header_of a ≡ header_of b) × (x ≡ y)
unfolding header_of
header_same a b x y e =
    let v : a.version ≡ b.version = ap (λ (t : List ℕ). slice_index t 1) e in
    let long : length (header_of a) ≡ length (header_of b) = omega (arith, later_length a b v) in
    parted (length (header_of b)) (header_of a) (header_of b) x y long refl e

record Counts (a b : Fields) : Type 0 where
  version : a.version ≡ b.version
  entry : a.entry ≡ b.entry
  text : length a.text ≡ length b.text
  globals : length a.globals ≡ length b.globals
  switches : length a.switches ≡ length b.switches
  functions : length a.functions ≡ length b.functions
  variants : length a.variants ≡ length b.variants
  guards : length a.guards ≡ length b.guards
  sites : length a.sites ≡ length b.sites
  later : later_of a ≡ later_of b

counts_same : (a b : Fields) → header_of a ≡ header_of b → Counts a b
unfolding header_of
counts_same a b e = record { version = cc; entry = cc; text = cc; globals = cc; switches = cc; functions = cc; variants = cc; guards = cc; sites = cc; later = ap (drop 12) e }

record Later (a b : Fields) : Type 0 where
  pointers : length a.pointers ≡ length b.pointers
  points : length a.points ≡ length b.points
  targets : length a.targets ≡ length b.targets
  check : a.check ≡ b.check

-- in version 2 these are words of the header, and else there is nothing
later_words : (a b : Fields) → eqb a.version 2 ≡ true → eqb b.version 2 ≡ true → later_of a ≡ later_of b → Later a b
unfolding later_of
later_words a b ea eb e = let these = rw (ea, eb) at e in record { pointers = cc (these); points = cc (these); targets = cc (these); check = cc (these) }

later_same : (a b : Fields) → Rules a → Rules b → Counts a b → Later a b
later_same a b ra rb n =
    let same : eqb b.version 2 ≡ eqb a.version 2 = ap (λ (k : ℕ). eqb k 2) (sym n.version) in
    elim (cases_Bool (eqb a.version 2)) [
      | inl e ↦ later_words a b e (same ∙ e) n.later
      | inr e ↦
          let na = ra.first e in
          let nb = rb.first (same ∙ e) in
          record {
            pointers = ap length na.pointers ∙ sym (ap length nb.pointers);
            points = ap length na.points ∙ sym (ap length nb.points);
            targets = ap length na.targets ∙ sym (ap length nb.targets);
            check = na.check ∙ sym nb.check;
          }
    ]

record Parts (a b : Fields) : Type 0 where
  text : a.text ≡ b.text
  globals : a.globals ≡ b.globals
  switches : a.switches ≡ b.switches
  functions : a.functions ≡ b.functions
  variants : a.variants ≡ b.variants
  guards : a.guards ≡ b.guards
  sites : a.sites ≡ b.sites
  pointers : a.pointers ≡ b.pointers
  points : a.points ≡ b.points
  targets : a.targets ≡ b.targets

pub whole_switches : (a : Fields) → Rules a → All SwitchWhole a.switches
whole_switches a r k d lt = (r.switches k d lt).0

pub whole_functions : (a : Fields) → Rules a → All FunctionWhole a.functions
whole_functions a r k d lt = (r.functions k d lt).0

pub whole_variants : (a : Fields) → Rules a → All VariantWhole a.variants
whole_variants a r k d lt = (r.variants k d lt).0

parts_same : (a b : Fields) (x y : List ℕ) → Rules a → Rules b → Counts a b → Later a b → body_of a x ≡ body_of b y → Parts a b
unfolding body_of
parts_same a b x y ra rb n m e =
    let p1 = parted (length b.text) a.text b.text _ _ n.text refl e in
    let p2 = parted (length b.globals) a.globals b.globals _ _ n.globals refl p1.1 in
    let la3 = flat_length switch_words SwitchWhole switch_row_words switch_width a.switches (whole_switches a ra) in
    let lb3 = flat_length switch_words SwitchWhole switch_row_words switch_width b.switches (whole_switches b rb) in
    let p3 = parted (switch_row_words * length b.switches) (flat_map switch_words a.switches) (flat_map switch_words b.switches) _ _ (la3 ∙ ap (λ (k : ℕ). switch_row_words * k) n.switches) lb3 p2.1 in
    let la4 = flat_length function_words FunctionWhole function_row_words function_width a.functions (whole_functions a ra) in
    let lb4 = flat_length function_words FunctionWhole function_row_words function_width b.functions (whole_functions b rb) in
    let p4 = parted (function_row_words * length b.functions) (flat_map function_words a.functions) (flat_map function_words b.functions) _ _ (la4 ∙ ap (λ (k : ℕ). function_row_words * k) n.functions) lb4 p3.1 in
    let la5 = flat_length variant_words VariantWhole variant_row_words variant_width a.variants (whole_variants a ra) in
    let lb5 = flat_length variant_words VariantWhole variant_row_words variant_width b.variants (whole_variants b rb) in
    let p5 = parted (variant_row_words * length b.variants) (flat_map variant_words a.variants) (flat_map variant_words b.variants) _ _ (la5 ∙ ap (λ (k : ℕ). variant_row_words * k) n.variants) lb5 p4.1 in
    let la6 = flat_length guard_words GuardWhole guard_row_words guard_width a.guards ra.guards in
    let lb6 = flat_length guard_words GuardWhole guard_row_words guard_width b.guards rb.guards in
    let p6 = parted (guard_row_words * length b.guards) (flat_map guard_words a.guards) (flat_map guard_words b.guards) _ _ (la6 ∙ ap (λ (k : ℕ). guard_row_words * k) n.guards) lb6 p5.1 in
    let la7 = flat_length site_words SiteWhole site_row_words site_width a.sites (λ k d lt. tt) in
    let lb7 = flat_length site_words SiteWhole site_row_words site_width b.sites (λ k d lt. tt) in
    let p7 = parted (site_row_words * length b.sites) (flat_map site_words a.sites) (flat_map site_words b.sites) _ _ (la7 ∙ ap (λ (k : ℕ). site_row_words * k) n.sites) lb7 p6.1 in
    let la8 = flat_length pointer_words PointerWhole pointer_row_words pointer_width a.pointers (λ k d lt. tt) in
    let lb8 = flat_length pointer_words PointerWhole pointer_row_words pointer_width b.pointers (λ k d lt. tt) in
    let p8 = parted (pointer_row_words * length b.pointers) (flat_map pointer_words a.pointers) (flat_map pointer_words b.pointers) _ _ (la8 ∙ ap (λ (k : ℕ). pointer_row_words * k) m.pointers) lb8 p7.1 in
    let la9 = flat_length point_words PointWhole point_row_words point_width a.points (λ k d lt. tt) in
    let lb9 = flat_length point_words PointWhole point_row_words point_width b.points (λ k d lt. tt) in
    let p9 = parted (point_row_words * length b.points) (flat_map point_words a.points) (flat_map point_words b.points) _ _ (la9 ∙ ap (λ (k : ℕ). point_row_words * k) m.points) lb9 p8.1 in
    let la10 = flat_length target_words TargetWhole target_row_words target_width a.targets (λ k d lt. tt) in
    let lb10 = flat_length target_words TargetWhole target_row_words target_width b.targets (λ k d lt. tt) in
    let p10 = parted (target_row_words * length b.targets) (flat_map target_words a.targets) (flat_map target_words b.targets) x y (la10 ∙ ap (λ (k : ℕ). target_row_words * k) m.targets) lb10 p9.1 in
    record {
      text = p1.0;
      globals = p2.0;
      switches = rows_same switch_words SwitchWhole switch_row_words switch_width one_switch a.switches b.switches (whole_switches a ra) (whole_switches b rb) n.switches p3.0;
      functions = rows_same function_words FunctionWhole function_row_words function_width one_function a.functions b.functions (whole_functions a ra) (whole_functions b rb) n.functions p4.0;
      variants = rows_same variant_words VariantWhole variant_row_words variant_width one_variant a.variants b.variants (whole_variants a ra) (whole_variants b rb) n.variants p5.0;
      guards = rows_same guard_words GuardWhole guard_row_words guard_width one_guard a.guards b.guards ra.guards rb.guards n.guards p6.0;
      sites = rows_same site_words SiteWhole site_row_words site_width one_site a.sites b.sites (λ k d lt. tt) (λ k d lt. tt) n.sites p7.0;
      pointers = rows_same pointer_words PointerWhole pointer_row_words pointer_width one_pointer a.pointers b.pointers (λ k d lt. tt) (λ k d lt. tt) m.pointers p8.0;
      points = rows_same point_words PointWhole point_row_words point_width one_point a.points b.points (λ k d lt. tt) (λ k d lt. tt) m.points p9.0;
      targets = rows_same target_words TargetWhole target_row_words target_width one_target a.targets b.targets (λ k d lt. tt) (λ k d lt. tt) m.targets p10.0;
    }

words_same : (a b : Fields) → header_of a ≡ header_of b → Parts a b → words_in a ≡ words_in b
unfolding words_in
words_same a b h p =
    let t = p.text in
    let g = p.globals in
    let s = p.switches in
    let f = p.functions in
    let v = p.variants in
    let u = p.guards in
    let i = p.sites in
    let j = p.pointers in
    let k = p.points in
    let l = p.targets in
    cc

lengths_same : (a b : Fields) → Parts a b → lengths_in a ≡ lengths_in b
lengths_same a b p =
    ap (λ (rows : List SwitchRow). map (λ (row : SwitchRow). row.length) rows ++ map (λ (row : FunctionRow). row.length) a.functions
    ++ map (λ (row : PointerRow). row.length) a.pointers ++ map (λ (row : TargetRow). row.length) a.targets) p.switches
    ∙ ap (λ (rows : List FunctionRow). map (λ (row : SwitchRow). row.length) b.switches ++ map (λ (row : FunctionRow). row.length) rows
    ++ map (λ (row : PointerRow). row.length) a.pointers ++ map (λ (row : TargetRow). row.length) a.targets) p.functions
    ∙ ap (λ (rows : List PointerRow). map (λ (row : SwitchRow). row.length) b.switches ++ map (λ (row : FunctionRow). row.length) b.functions
    ++ map (λ (row : PointerRow). row.length) rows ++ map (λ (row : TargetRow). row.length) a.targets) p.pointers
    ∙ ap (λ (rows : List TargetRow). map (λ (row : SwitchRow). row.length) b.switches ++ map (λ (row : FunctionRow). row.length) b.functions
    ++ map (λ (row : PointerRow). row.length) b.pointers ++ map (λ (row : TargetRow). row.length) rows) p.targets

fields_same : (a b : Fields) → a.version ≡ b.version → a.entry ≡ b.entry → Parts a b → a.check ≡ b.check → a.names ≡ b.names → a ≡ b
fields_same a b ev ee p ec en =
    let made : ℕ → ℕ → List ℕ → List ℕ → List SwitchRow → List FunctionRow → List VariantRow → List GuardRow → List SiteRow → List PointerRow → List PointRow → List TargetRow → ℕ → List (List ℕ) → Fields =
    λ v x t g s f w u i p q r c m. record { version = v; entry = x; text = t; globals = g; switches = s; functions = f; variants = w; guards = u; sites = i; pointers = p; points = q; targets = r; check = c; names = m } in
    ap (λ (x : ℕ). made x a.entry a.text a.globals a.switches a.functions a.variants a.guards a.sites a.pointers a.points a.targets a.check a.names) ev
    ∙ ap (λ (x : ℕ). made b.version x a.text a.globals a.switches a.functions a.variants a.guards a.sites a.pointers a.points a.targets a.check a.names) ee
    ∙ ap (λ (x : List ℕ). made b.version b.entry x a.globals a.switches a.functions a.variants a.guards a.sites a.pointers a.points a.targets a.check a.names) p.text
    ∙ ap (λ (x : List ℕ). made b.version b.entry b.text x a.switches a.functions a.variants a.guards a.sites a.pointers a.points a.targets a.check a.names) p.globals
    ∙ ap (λ (x : List SwitchRow). made b.version b.entry b.text b.globals x a.functions a.variants a.guards a.sites a.pointers a.points a.targets a.check a.names) p.switches
    ∙ ap (λ (x : List FunctionRow). made b.version b.entry b.text b.globals b.switches x a.variants a.guards a.sites a.pointers a.points a.targets a.check a.names) p.functions
    ∙ ap (λ (x : List VariantRow). made b.version b.entry b.text b.globals b.switches b.functions x a.guards a.sites a.pointers a.points a.targets a.check a.names) p.variants
    ∙ ap (λ (x : List GuardRow). made b.version b.entry b.text b.globals b.switches b.functions b.variants x a.sites a.pointers a.points a.targets a.check a.names) p.guards
    ∙ ap (λ (x : List SiteRow). made b.version b.entry b.text b.globals b.switches b.functions b.variants b.guards x a.pointers a.points a.targets a.check a.names) p.sites
    ∙ ap (λ (x : List PointerRow). made b.version b.entry b.text b.globals b.switches b.functions b.variants b.guards b.sites x a.points a.targets a.check a.names) p.pointers
    ∙ ap (λ (x : List PointRow). made b.version b.entry b.text b.globals b.switches b.functions b.variants b.guards b.sites b.pointers x a.targets a.check a.names) p.points
    ∙ ap (λ (x : List TargetRow). made b.version b.entry b.text b.globals b.switches b.functions b.variants b.guards b.sites b.pointers b.points x a.check a.names) p.targets
    ∙ ap (λ (x : ℕ). made b.version b.entry b.text b.globals b.switches b.functions b.variants b.guards b.sites b.pointers b.points b.targets x a.names) ec
    ∙ ap (λ (x : List (List ℕ)). made b.version b.entry b.text b.globals b.switches b.functions b.variants b.guards b.sites b.pointers b.points b.targets b.check x) en

pub same_spelling : (a b : Fields) → Rules a → Rules b → spelling a ≡ spelling b → a ≡ b
unfolding spelling
same_spelling a b ra rb e =
    let wa = words_in_front (words_in a) (names_in a) ra.words in
    let wb = words_in_front (words_in b) (names_in b) rb.words in
    let all : header_of a ++ body_of a (words_of (names_in a)) ≡ header_of b ++ body_of b (words_of (names_in b)) =
    sym (regrouped a (words_of (names_in a))) ∙ sym wa ∙ ap words_of e ∙ wb ∙ regrouped b (words_of (names_in b)) in
    let h = header_same a b _ _ all in
    let n = counts_same a b h.0 in
    let m = later_same a b ra rb n in
    let p = parts_same a b _ _ ra rb n m h.1 in
    let w = words_same a b h.0 p in
    let t = parted (length (bytes_of (words_in b))) (bytes_of (words_in a)) (bytes_of (words_in b)) (names_in a) (names_in b) (ap (λ (x : List ℕ). length (bytes_of x)) w) refl e in
    let names = names_same a.names b.names _ _ (ra.name_lengths ∙ lengths_same a b p ∙ sym rb.name_lengths) t.1 in
    fields_same a b n.version n.entry p m.check names

pub one_image : (bytes : List ℕ) (a b : Fields) → Spells bytes a → Spells bytes b → a ≡ b
one_image bytes a b sa sb = same_spelling a b sa.rules sb.rules (sym sa.bytes_are ∙ sb.bytes_are)

pub spells_spelled : (bytes : List ℕ) (a : Fields) → Spells bytes a → Spelled bytes
spells_spelled bytes a s = subst Spelled (sym s.bytes_are) s.rules.spelled

-- what a reader answered, where the bytes spell an image: it, or want of memory
pub only_that : (bytes : List ℕ) (image : Fields) (r : Result Fields ImageError) → Spells bytes image → IfOk r (λ a. Spells bytes a) → IfErr r (λ f. FirstFault bytes f) → MatchResult r (λ a. a ≡ image) IsMemory
only_that bytes image (Ok a) s found fault = one_image bytes a image found s
only_that bytes image (Err f) s found fault = spelled_has_none bytes f (spells_spelled bytes image s) fault
