-- Code calls through pointer switches that have rooms, at the addresses of these.
use Rattle.std.proofs.Common.{◌≡◌, ◌⊎◌, inl, inr, ℕ, suc, ◌+◌, ◌*◌, ◌≤◌, Bool, true, false, cond, eqb, ◌||◌, List, [], ◌∷◌, map, sum, take, Some, slice_get, All, refl, sym, ap, ◌∙◌, subst, arith}
use Rattle.std.specs.Prelude.{if◌then◌else◌}
use Rattle.std.proofs.lemmas.Bool.{cases_eq, eq-eqb, eqb-true, ne_eqb, or_left, or_right}
use Rattle.std.proofs.lemmas.List.Elements.{All-nil, All-cons, All-head, All-tail}
use Rattle.std.proofs.lemmas.List.Sums.{sum_by-cons, sum_by-take-le, sum-map}
use Rattle.mv_num.specs.Lists.{is_among}
use Rattle.mv_num.specs.Regions.{data_limit}
use Rattle.mv_ast.specs.declared.program.Program.{Program}
use Rattle.mv_ast.specs.declared.program.Global.{Global}
use Rattle.mv_isa.specs.declared.labelled.Line.{Line}
use Rattle.mv_isa.specs.declared.labelled.Line.TheVariants.{Word, Label, Jump, Branch, Entry, Slot, Point}
use Rattle.mv_ir.specs.declared.body.Room.{Room}
use Rattle.mv_ir.specs.declared.stm.Array.{Array}
use Rattle.mv_ir.specs.declared.stm.Stm.{Stm}
use Rattle.mv_ir.specs.declared.stm.Stm.TheOpen.{Stm-F}
use Rattle.mv_ir.specs.declared.stm.Stm.TheOpen as stm
use Rattle.mv_ir.specs.declared.stm.Stm.TheFolds.{map-Stm}
use Rattle.mv_ir.specs.WellFormed.{has_room, layer_named, stm_named, named}
use Rattle.mv_ir.proofs.Common.{each_first, each_right}
use Rattle.mv_ir.proofs.Induction.{Each, each_append, StmChildren, stm_ind, stms_ind}
use Rattle.mv_ir.proofs.Rolls.{named_roll}
use Rattle.mv_lower_spec.specs.Functions.{address_behind, rooms_from}
use Rattle.mv_select_code.specs.Control.Labels.{pointers_layer, stm_pointers, pointers}
use Rattle.mv_select_code.specs.Trees.Rooms.{place_in}
use Rattle.mv_select_code.proofs.OfControl.TreeNames.{pointers_roll}
use Rattle.mv_select.specs.Bodies.Lines.{NamesThese}
use Rattle.mv_select.proofs.OfBodies.Functions.{callee_known}
use Rattle.mv_select.proofs.OfBodies.SamePlaces.{IsKnownArray}
use Rattle.mv_link_data.specs.FirstData.{data_words, global_sizes}
use Rattle.mv_link_data.proofs.Places.{size_of}
use Rattle.mv_linker.specs.Tables.{GoesThrough, pointer_address, pointer_addresses}
use Rattle.mv_variants.specs.Bound.Slots.{points_where}
use Rattle.mv_parts.specs.Switches.{word_of, part_pointer, part_pointers}
use Rattle.mv_parts.proofs.PartSwitches.{words_are}

-- ---- the pointer switches through which code calls are among the globals that it names

module _ (is_known : ℕ → Bool) where
  abbrev CallsKnown : Stm → Type 0
  CallsKnown s = Each (IsKnownArray is_known) (stm_named s) → Each (λ g. is_known g ≡ true) (stm_pointers s)

  inner : (code : List Stm) → Each CallsKnown code → Each (IsKnownArray is_known) (named code) → Each (λ g. is_known g ≡ true) (pointers code)
  inner [] c h = tt
  inner (s ∷ code) c h =
      each_append (λ g. is_known g ≡ true) (stm_pointers s) (pointers code) (c.0 (each_first (IsKnownArray is_known) (stm_named s) (named code) h))
      (inner code c.1 (each_right (IsKnownArray is_known) (stm_named s) (named code) h))

  layer : (x : Stm-F Stm) → StmChildren CallsKnown x → Each (IsKnownArray is_known) (layer_named (map-Stm Stm (List Array) stm_named x)) →
      Each (λ g. is_known g ≡ true) (pointers_layer (map-Stm Stm (List ℕ) stm_pointers x))
  layer (stm.If t a b) c h =
      each_append (λ g. is_known g ≡ true) (pointers a) (pointers b) (inner a c.0 (each_first (IsKnownArray is_known) (named a) (named b) h))
      (inner b c.1 (each_right (IsKnownArray is_known) (named a) (named b) h))
  layer (stm.Loop b) c h = inner b c h
  layer (stm.Block b) c h = inner b c h
  layer (stm.Call r f args) c h = callee_known is_known f h
  layer _ c h = tt

  pub calls_known : (code : List Stm) → Each (IsKnownArray is_known) (named code) → Each (λ g. is_known g ≡ true) (pointers code)
  calls_known code =
      inner code (stms_ind CallsKnown (stm_ind CallsKnown (λ x c h.
      subst (Each (λ g. is_known g ≡ true)) (sym (pointers_roll x)) (layer x c (subst (Each (IsKnownArray is_known)) (named_roll x) h)))) code)

-- what follows of two facts holds of each element that has both
pub all_both : {X : Type 0} (P Q R : X → Type 0) → ((x : X) → P x → Q x → R x) → (xs : List X) → Each P xs → All Q xs → All R xs
all_both P Q R both [] e a = All-nil R
all_both P Q R both (x ∷ xs) e a = All-cons R x xs (both x e.0 (All-head Q x xs a)) (all_both P Q R both xs e.1 (All-tail Q x xs a))

-- ---- rooms

-- a global of some that are counted from one on, and the address of its room
record IsPlaced (g from before : ℕ) (xs : List Global) (at : ℕ) : Type 0 where
  index : ℕ
  there : g ≡ from + index
  place : at ≡ address_behind (before + sum (take index (map size_of xs)))

room_place : (is_named : ℕ → Bool) (g from before : ℕ) (xs : List Global) → has_room (rooms_from is_named from before xs) g ≡ true →
    IsPlaced g from before xs (place_in (rooms_from is_named from before xs) g)
room_place is_named g from before [] h = absurd cc
room_place is_named g from before (x ∷ xs) h = by (is_named from) (room_place is_named g (suc from) (before + size_of x) xs) h
  where
    rest : List Room
    rest = rooms_from is_named (suc from) (before + size_of x) xs

    first : Room
    first = record { global = from; at = address_behind before; size = size_of x }

    later : IsPlaced g (suc from) (before + size_of x) xs (place_in rest g) → IsPlaced g from before (x ∷ xs) (place_in rest g)
    later next =
        let all = sum_by-cons (λ (n : ℕ). n) (size_of x) (take next.index (map size_of xs)) in
        let words : before + size_of x + sum (take next.index (map size_of xs)) ≡ before + sum (take (suc next.index) (map size_of (x ∷ xs))) = omega (arith, all) in
        record { index = suc next.index; there = let e = next.there in omega (arith, e); place = next.place ∙ ap address_behind words }

    has : (b : Bool) → eqb from g ≡ b → (has_room rest g ≡ true → IsPlaced g (suc from) (before + size_of x) xs (place_in rest g)) → (b || has_room rest g) ≡ true →
        IsPlaced g from before (x ∷ xs) (cond b (address_behind before) (place_in rest g))
    has true e next h =
        let none : before ≡ before + sum (take 0 (map size_of (x ∷ xs))) = omega arith in
        let same = eqb-true from g e in
        record { index = 0; there = omega (arith, same); place = ap address_behind none }
    has false e next h = later (next h)

    by : (b : Bool) → (has_room rest g ≡ true → IsPlaced g (suc from) (before + size_of x) xs (place_in rest g)) → has_room (cond b (first ∷ rest) rest) g ≡ true →
        IsPlaced g from before (x ∷ xs) (place_in (cond b (first ∷ rest) rest) g)
    by false next h = later (next h)
    by true next h = has (eqb from g) refl next h

module _ (p : Program) where
  abbrev pub pointer_at : ℕ → ℕ
  pointer_at g = pointer_address (part_pointer p g)

  abbrev pub is_here : ℕ → Bool
  is_here a = is_among a (pointer_addresses (part_pointers p))

  pub word_below : data_words p ≤ data_limit → (g : ℕ) → word_of p g ≤ data_limit
  word_below few g =
      let first = sum_by-take-le size_of p.globals g in
      omega (arith, first, few, words_are p g, sum-map size_of (take g p.globals), sum-map size_of p.globals)

  -- the room of a global is at its words
  pub place_is : (g : ℕ) → word_of p g ≤ data_limit → (is_named : ℕ → Bool) → has_room (rooms_from is_named 0 0 p.globals) g ≡ true →
      place_in (rooms_from is_named 0 0 p.globals) g ≡ pointer_at g
  place_is g below is_named room =
      let at = room_place is_named g 0 0 p.globals room in
      let index : at.index ≡ g = let e = at.there in omega (arith, e) in
      let behind = ap (λ i. sum (take i (global_sizes p))) index in
      let words : 0 + sum (take at.index (map size_of p.globals)) ≡ word_of p g = omega (arith, behind) in
      at.place ∙ ap address_behind words ∙ address (word_of p g) below
    where
      address : (n : ℕ) → n ≤ 262144 → address_behind n ≡ 0x0010_0000 + 4 * n
      address n le = omega (arith, le)

  -- the address of a pointer switch is among those of the pointer switches
  among_here : (g : ℕ) (gs : List ℕ) → is_among g gs ≡ true → is_among (pointer_at g) (pointer_addresses (map (part_pointer p) gs)) ≡ true
  among_here g [] h = absurd cc
  among_here g (x ∷ gs) h = by (cases_eq g x) (among_here g gs)
    where
      rest : List ℕ
      rest = pointer_addresses (map (part_pointer p) gs)

      by : (g ≡ x) ⊎ (g ≡ x → ⊥) → (is_among g gs ≡ true → is_among (pointer_at g) rest ≡ true) → (eqb (pointer_at g) (pointer_at x) || is_among (pointer_at g) rest) ≡ true
      by (inl e) next = or_left (eqb (pointer_at g) (pointer_at x)) (is_among (pointer_at g) rest) (eq-eqb (pointer_at g) (pointer_at x) (ap pointer_at e))
      by (inr ne) next = or_right (eqb (pointer_at g) (pointer_at x)) (is_among (pointer_at g) rest) (next (subst (λ c. (c || is_among g gs) ≡ true) (ne_eqb g x ne) h))

  pub pointer_here : (g : ℕ) → is_among g p.pointers ≡ true → is_here (pointer_at g) ≡ true
  pointer_here g h = among_here g p.pointers h

-- ---- lines

pub among_at : (a : ℕ) (xs : List ℕ) → is_among a xs ≡ true → (n : ℕ) × (slice_get xs n ≡ Some a)
among_at a [] h = absurd cc
among_at a (x ∷ xs) h = by (cases_eq a x) (among_at a xs)
  where
    by : (a ≡ x) ⊎ (a ≡ x → ⊥) → (is_among a xs ≡ true → (n : ℕ) × (slice_get xs n ≡ Some a)) → (n : ℕ) × (slice_get (x ∷ xs) n ≡ Some a)
    by (inl e) next = (0, ap (λ y. Some y) (sym e))
    by (inr ne) next = let (n, is) = next (subst (λ c. (c || is_among a xs) ≡ true) (ne_eqb a x ne) h) in (suc n, is)

-- whether an address isn't one of these
abbrev pub is_elsewhere : (is_one : ℕ → Bool) → ℕ → Bool
is_elsewhere is_one a = cond (is_one a) false true

module _ (labels : ℕ) (is_named is_attributed is_one : ℕ → Bool) where
  abbrev Named : Line → Type 0
  Named = NamesThese labels is_named is_attributed is_one

  -- no slot of four words is for another address
  pub none_elsewhere : (lines : List Line) → All Named lines → points_where (is_elsewhere is_one) lines ≡ 0
  none_elsewhere [] h = refl
  none_elsewhere (Word i ∷ lines) h = none_elsewhere lines (All-tail Named (Word i) lines h)
  none_elsewhere (Label l ∷ lines) h = none_elsewhere lines (All-tail Named (Label l) lines h)
  none_elsewhere (Jump rd l ∷ lines) h = none_elsewhere lines (All-tail Named (Jump rd l) lines h)
  none_elsewhere (Branch funct3 a b l ∷ lines) h = none_elsewhere lines (All-tail Named (Branch funct3 a b l) lines h)
  none_elsewhere (Entry rd f ∷ lines) h = none_elsewhere lines (All-tail Named (Entry rd f) lines h)
  none_elsewhere (Slot f ∷ lines) h = none_elsewhere lines (All-tail Named (Slot f) lines h)
  none_elsewhere (Point a ∷ lines) h =
      let here : is_one a ≡ true = All-head Named (Point a) lines h in
      let none : ◌≡◌ {A = ℕ} (if is_elsewhere is_one a then 1 else 0) 0 = ap (λ b. if cond b false true then 1 else 0) here in
      let rest = none_elsewhere lines (All-tail Named (Point a) lines h) in
      omega (arith, none, rest)

-- where none is for another address, each goes through one of these
module _ (addresses : List ℕ) where
  abbrev other : ℕ → Bool
  other = is_elsewhere (λ a. is_among a addresses)

  pub all_through : (lines : List Line) → points_where other lines ≡ 0 → All (GoesThrough addresses) lines
  all_through [] h = All-nil (GoesThrough addresses)
  all_through (Word i ∷ lines) h = All-cons (GoesThrough addresses) (Word i) lines tt (all_through lines h)
  all_through (Label l ∷ lines) h = All-cons (GoesThrough addresses) (Label l) lines tt (all_through lines h)
  all_through (Jump rd l ∷ lines) h = All-cons (GoesThrough addresses) (Jump rd l) lines tt (all_through lines h)
  all_through (Branch funct3 a b l ∷ lines) h = All-cons (GoesThrough addresses) (Branch funct3 a b l) lines tt (all_through lines h)
  all_through (Entry rd f ∷ lines) h = All-cons (GoesThrough addresses) (Entry rd f) lines tt (all_through lines h)
  all_through (Slot f ∷ lines) h = All-cons (GoesThrough addresses) (Slot f) lines tt (all_through lines h)
  all_through (Point a ∷ lines) h = All-cons (GoesThrough addresses) (Point a) lines (by (is_among a addresses) refl h) (all_through lines (omega (arith, h)))
    where
      by : (b : Bool) → is_among a addresses ≡ b → ◌≡◌ {A = ℕ} ((if cond b false true then 1 else 0) + points_where other lines) 0 → (n : ℕ) × (slice_get addresses n ≡ Some a)
      by true e none = among_at a addresses e
      by false e none = absurd (omega (arith, none))
