-- To a variant's code its function's switches are closed, and at a site all switches are: so none is loaded there.
use Rattle.std.proofs.Common.{◌≡◌, ◌⊎◌, inl, inr, ⊎_elim, ℕ, zero, suc, ◌+◌, ◌-◌, ◌*◌, ◌%◌, ◌<◌, ◌≤◌, Bool, true, false, not, cond, ◌&&◌, ◌||◌, eqb, leb, ltb, List, [], ◌∷◌, filter, All, Option, Some, None, length, map, take, slice_get, refl, sym, ap, ◌∙◌, subst, arith, eq-eqb}
use Rattle.std.specs.Prelude.{Contains, nat_eq}
use Rattle.std.specs.List.{position_or_len}
use Rattle.std.proofs.lemmas.Bool.{and_from, cases_eq, cases_lt, le-leb, lt-ltb, or_right, or_left}
use Rattle.std.proofs.lemmas.List.{length-append, length-map}
use Rattle.std.proofs.lemmas.List.Sums.{sum_by_more}
use Rattle.std.proofs.lemmas.List.Folds.{find_at}
use Rattle.std.proofs.lemmas.Option.{get_or_from_slice_get, none-some, slice_get_within, same_Some}
use Rattle.mv_ast.specs.declared.program.Program.{Program}
use Rattle.mv_ast.specs.declared.program.Function.{Function}
use Rattle.mv_ast.specs.declared.program.Global.{Global}
use Rattle.mv_ast.specs.declared.program.Switch.{Switch}
use Rattle.mv_ast.specs.Switches.{attributed_functions, switch_global, global_or_none}
use Rattle.mv_num.specs.Lists.{is_among}
use Rattle.mv_descriptors.specs.declared.rows.SiteRow.{SiteRow}
use Rattle.mv_descriptors.specs.declared.rows.VariantRow.{VariantRow}
use Rattle.mv_fetch.specs.Held.{Held, choices, choices_in, region_of, index_of}
use Rattle.mv_ir_worlds.proofs.Functions.{attributed_at}
use Rattle.mv_image.specs.Patched.{site_at, site_before, variants_before}
use Rattle.mv_image.specs.Spelling.{Fields}
use Rattle.mv_image.specs.WellFormed.{FitsSite}
use Rattle.mv_lower_spec.specs.Functions.{lower_function}
use Rattle.mv_source_forms.specs.Names.{words_of_global}
use Rattle.mv_source_forms.specs.Uses.{is_own, is_switch}
use Rattle.mv_select.specs.Bodies.SelectedBodies.{globals_read}
use Rattle.mv_machine.specs.Acts.{PollActs}
use Rattle.mv_machine.specs.Runs.{State, bytes_to_come, runs}
use Rattle.mv_select.specs.Calls.Convention.{Layout}
use Rattle.mv_refine_machine.specs.Commits.Tabled.{IsTabled}
use Rattle.mv_refine_machine.specs.Runs.Behaves.{LoadsWhatIsOpen}
use Rattle.mv_linker.specs.declared.parts.PartFunction.{PartFunction}
use Rattle.mv_linker.specs.declared.parts.PartVariant.{PartVariant}
use Rattle.mv_linker.specs.Linked.{codes, function_variants, variant_codes}
use Rattle.mv_linker.specs.Tables.{variant_rows}
use Rattle.mv_parts.proofs.Lists.{map_at, one_of_all}
use Rattle.mv_parts.proofs.Numbers as numbered
use Rattle.mv_refine_images.proofs.LinkedProgram.{Basis, linked_program}
use Rattle.mv_refine_images.specs.Closed.{is_closed_to_function, is_closed_to_variant, is_closed_to_variants_of, closed_to_codes, is_data_of, is_data_among, is_data_where, is_word_of, is_closed_from, is_closed_beside, closed}
use Rattle.mv_refine_images.specs.Own.{IsSwitchWord, IsOwnSwitch, IsSiteWord, IsVariantWord, LoadsNoOwnSwitch}
use Rattle.mv_refine_images.proofs.Data.{as_many}
use Rattle.mv_refine_images.proofs.Host.{tables}
use Rattle.mv_refine_images.proofs.Listed.{rows_count, test_of_variant, variants_of}
use Rattle.mv_refine_images.proofs.OwnReads.{own_read}
use Rattle.mv_num.proofs.Lists.{there_at}

-- ---- tests that hold

-- a test holds of an address in the data words of a global that passes it
in_data : (y : Layout) (test : ℕ → Bool) (x a : ℕ) → (is_data_of y x a && test x) ≡ true → (count : ℕ) → x < count → is_data_among y test count a ≡ true
in_data y test x a h zero lt = absurd (omega (arith, lt))
in_data y test x a h (suc c) lt = ⊎_elim
    (λ (e : x ≡ c). or_left (is_data_of y c a && test c) (is_data_among y test c a) (subst (λ z. (is_data_of y z a && test z) ≡ true) e h))
    (λ (ne : x ≡ c → ⊥). or_right (is_data_of y c a && test c) (is_data_among y test c a) (in_data y test x a h c (less ne)))
    (cases_eq x c)
  where
    less : (x ≡ c → ⊥) → x < c
    less ne = grind (arith, lt, ne)

-- an element is among what its list is mapped to
is_mapped : {A : Type 0} (f : A → ℕ) (ss : List A) (i : ℕ) (s : A) → slice_get ss i ≡ Some s → is_among (f s) (map f ss) ≡ true
is_mapped f [] i s e = absurd (cc e)
is_mapped f (z ∷ ss) zero s e = let same : z ≡ s = same_Some z s e in or_left (nat_eq (f s) (f z)) (is_among (f s) (map f ss)) (eq-eqb (f s) (f z) (ap f (sym same)))
is_mapped f (z ∷ ss) (suc i) s e = or_right (nat_eq (f s) (f z)) (is_among (f s) (map f ss)) (is_mapped f ss i s e)

-- the address of a variant's row is that of its code
row_at : (address : ℕ → ℕ) (vs : List PartVariant) (number k : ℕ) (row : VariantRow) → slice_get (variant_rows address number vs) k ≡ Some row → row.address ≡ address (number + k)
row_at address [] number k row e = absurd (cc e)
row_at address (v ∷ vs) number zero row e =
    let none : number ≡ number + 0 = omega arith in ap (λ (r : VariantRow). r.address) (sym (same_Some _ row e)) ∙ ap address none
row_at address (v ∷ vs) number (suc k) row e =
    let one : suc number + k ≡ number + suc k = omega arith in row_at address vs (suc number) k row e ∙ ap address one

rows_many : (address : ℕ → ℕ) (vs : List PartVariant) (number : ℕ) → length (variant_rows address number vs) ≡ length vs
rows_many address [] number = refl
rows_many address (v ∷ vs) number = ap suc (rows_many address vs (suc number))

-- instructions stand at multiples of 4
aligned : (h : Held) (pc word : ℕ) → Contains (choices h pc) word → eqb (pc % 4) 0 ≡ true
unfolding choices
aligned h pc word has = by (eqb (pc % 4) 0) refl has
  where
    by : (b : Bool) → eqb (pc % 4) 0 ≡ b → Contains (cond b (choices_in h (region_of pc) (index_of pc)) []) word → eqb (pc % 4) 0 ≡ true
    by true e k = e
    by false e k = absurd (none k)
      where
        none : Contains [] word → ⊥
        none c = let lt = c.1 in omega (arith, lt)

not_both : false ≡ true → ⊥
not_both e = cc

-- an attributed function among all
record Attributed (fs : List Function) (g : Function) : Type 0 where
  number : ℕ
  there : slice_get fs number ≡ Some g
  attributed : g.attributed ≡ true

attributed_of : (fs : List Function) (n : ℕ) (g : Function) → slice_get (filter (λ (x : Function). x.attributed) fs) n ≡ Some g → Attributed fs g
attributed_of [] n g e = absurd (cc e)
attributed_of (x ∷ fs) n g e = by (λ m h. let a = attributed_of fs m g h in record { number = suc a.number; there = a.there; attributed = a.attributed }) x.attributed refl n e
  where
    by : ((m : ℕ) → slice_get (filter (λ (y : Function). y.attributed) fs) m ≡ Some g → Attributed (x ∷ fs) g) → (b : Bool) → x.attributed ≡ b → (m : ℕ) →
        slice_get (cond b (x ∷ filter (λ (y : Function). y.attributed) fs) (filter (λ (y : Function). y.attributed) fs)) m ≡ Some g → Attributed (x ∷ fs) g
    by later true q zero h = let same : x ≡ g = same_Some x g h in record { number = 0; there = ap Some same; attributed = ap (λ (y : Function). y.attributed) (sym same) ∙ q }
    by later true q (suc m) h = later m h
    by later false q m h = later m h

-- a switch that is read is one of the function's
one_of_own : (switch own : Bool) → switch ≡ true → (not switch || own) ≡ true → own ≡ true
one_of_own true own e h = h
one_of_own false own e h = absurd (not_both e)

module _ (p : Program) (image : Fields) (basis : Basis p image) where
  open basis use {built}
  open linked_program p image built use {parts, sizing, y, numbers, at, shut}

  tabled : IsTabled p numbers y image
  tabled = (tables p image basis).tabled y (λ x. refl) (λ x. refl)

  -- the function of a number
  function_at : (n : ℕ) → n < length image.functions → (g : Function) × (slice_get (attributed_functions p) n ≡ Some g)
  function_at n lt = let same = tabled.functions in there_at (attributed_functions p) n (omega (arith, lt, same))

  a_global : (x : ℕ) → 0 < y.size x → x < length p.globals
  a_global x some = by (slice_get p.globals x) refl some
    where
      by : (o : Option Global) → slice_get p.globals x ≡ o → 0 < words_of_global o → x < length p.globals
      by None e h = absurd (omega (arith, h))
      by (Some g) e h = slice_get_within p.globals x g e

  -- ---- the data of a switch

  module _ (number a : ℕ) (w : IsSwitchWord image number a) where
    switch : (s : Switch) × (slice_get p.switches number ≡ Some s)
    switch =
        let lt = slice_get_within image.switches number w.switch w.is_switch in
        let same = tabled.switches in
        there_at p.switches number (omega (arith, lt, same))

    abbrev x : ℕ
    x = switch.0.global

    inside : is_data_of y x a ≡ true
    inside =
        let place = tabled.switch number switch.0 w.switch switch.1 w.is_switch in
        let some = tabled.sizes number switch.0 switch.1 in
        let from = w.from in let to = w.to in
        and_from (leb (y.place x) a) (ltb a (y.place x + 4 * y.size x)) (le-leb (y.place x) a (omega (arith, from, place))) (lt-ltb a (y.place x + 4 * y.size x) (omega (arith, to, place, some)))

    -- what passes a test for its global does so there
    in_where : (test : ℕ → Bool) → test x ≡ true → is_data_where image parts sizing p test a ≡ true
    in_where test passes = in_data y test x a (and_from (is_data_of y x a) (test x) inside passes) (length p.globals) (a_global x (tabled.sizes number switch.0 switch.1))

    is_global : switch_global p number ≡ x
    is_global = ap global_or_none switch.1

    -- a variant of a function may read none of the function's switches, and the function no other
    closed_to_each : (g : Function) (n : ℕ) → slice_get (attributed_functions p) n ≡ Some g → is_closed_to_variant p g x ≡ true
    closed_to_each g n here = by (is_among x (globals_read (lower_function p g).code)) refl
      where
        of : Attributed p.functions g
        of = attributed_of p.functions n g here

        own : is_among x (globals_read (lower_function p g).code) ≡ true → is_own p g x ≡ true
        own among = own_read basis.laws.reads_no_more p of.number g (record { formed = basis.formed; there = of.there }) of.attributed x among

        by : (read : Bool) → is_among x (globals_read (lower_function p g).code) ≡ read → is_closed_to_variant p g x ≡ true
        by false e = or_right (is_among x (lower_function p g).switches) (is_closed_to_function p g x) (ap not e)
        by true e =
            or_left (is_among x (lower_function p g).switches) (is_closed_to_function p g x)
            (one_of_own (is_switch p x) (is_among x (map (switch_global p) g.switches)) (is_mapped (λ (s : Switch). s.global) p.switches number switch.0 switch.1) (own e))

    site_closed : (site : SiteRow) → FitsSite image site → is_data_where image parts sizing p (is_closed_to_variants_of p (slice_get (attributed_functions p) site.function)) a ≡ true
    site_closed site fits =
        let f = function_at site.function fits.function in
        ap (λ (t : Option Function). is_data_where image parts sizing p (is_closed_to_variants_of p t) a) f.1
        ∙ in_where (is_closed_to_variant p f.0) (closed_to_each f.0 site.function f.1)

  -- ---- sites

  sites_fit : All (FitsSite image) image.sites
  sites_fit = (basis.laws.typed image built.rules).1.fit.sites

  at_site : (pc : ℕ) (site : SiteRow) → site_at image pc ≡ Some site → FitsSite image site
  unfolding site_at
  at_site pc site e =
      let test : SiteRow → Bool = λ s. eqb s.address pc in
      one_of_all (FitsSite image) image.sites sites_fit (position_or_len test image.sites) site (sym (find_at test image.sites) ∙ e)

  behind_site : (pc : ℕ) (site : SiteRow) → site_before image pc ≡ Some site → FitsSite image site
  unfolding site_before
  behind_site pc site e =
      let test : SiteRow → Bool = λ s. eqb (s.address + 4) pc in
      one_of_all (FitsSite image) image.sites sites_fit (position_or_len test image.sites) site (sym (find_at test image.sites) ∙ e)

  -- at the words of a site each switch is closed
  site_word_closed : (number a pc : ℕ) → IsSwitchWord image number a → (s t : Option SiteRow) → site_at image pc ≡ s → site_before image pc ≡ t → IsSiteWord image pc →
      is_closed_beside image parts sizing p s t pc a ≡ true
  site_word_closed number a pc w (Some site) t e q h = site_closed number a w site (at_site pc site e)
  site_word_closed number a pc w None (Some site) e q h = site_closed number a w site (behind_site pc site q)
  site_word_closed number a pc w None None e q h = by h.here
    where
      by : (site_at image pc ≡ Some h.site) ⊎ (site_before image pc ≡ Some h.site) → is_closed_beside image parts sizing p None None pc a ≡ true
      by (inl f) = absurd (none-some h.site (sym e ∙ f))
      by (inr f) = absurd (none-some h.site (sym q ∙ f))

  own_closed : (n a : ℕ) (o : IsOwnSwitch image n a) (g : Function) → slice_get (attributed_functions p) n ≡ Some g → is_data_where image parts sizing p (is_closed_to_variant p g) a ≡ true
  own_closed n a o g here =
      let number : slice_get g.switches o.place ≡ Some o.number = ap (λ (l : List ℕ). slice_get l o.place) (sym (tabled.function n g o.function here o.there)) ∙ o.is_own in
      let global = x o.number a o.word in
      let among : is_among global (lower_function p g).switches ≡ true =
      subst (λ z. is_among z (map (switch_global p) g.switches) ≡ true) (is_global o.number a o.word) (is_mapped (switch_global p) g.switches o.place o.number number) in
      in_where o.number a o.word (is_closed_to_variant p g) (or_left (is_among global (lower_function p g).switches) (is_closed_to_function p g global) among)

  -- ---- code of its variants

  from_closed : (tests : List (ℕ → Bool)) (f k pc a : ℕ) (test : ℕ → Bool) → slice_get tests k ≡ Some test → is_word_of image parts sizing p (f + k) pc ≡ true →
      is_data_where image parts sizing p test a ≡ true → is_closed_from image parts sizing p f tests pc a ≡ true
  from_closed [] f k pc a test e word holds = absurd (cc e)
  from_closed (t ∷ tests) f zero pc a test e word holds =
      let same : t ≡ test = same_Some t test e in
      let none : f + 0 ≡ f = omega arith in
      or_left (is_word_of image parts sizing p f pc && is_data_where image parts sizing p t a) (is_closed_from image parts sizing p (suc f) tests pc a)
      (and_from (is_word_of image parts sizing p f pc) (is_data_where image parts sizing p t a) (subst (λ z. is_word_of image parts sizing p z pc ≡ true) none word)
      (subst (λ (u : ℕ → Bool). is_data_where image parts sizing p u a ≡ true) (sym same) holds))
  from_closed (t ∷ tests) f (suc k) pc a test e word holds =
      let one : f + suc k ≡ suc f + k = omega arith in
      or_right (is_word_of image parts sizing p f pc && is_data_where image parts sizing p t a) (is_closed_from image parts sizing p (suc f) tests pc a)
      (from_closed tests (suc f) k pc a test e (subst (λ z. is_word_of image parts sizing p z pc ≡ true) one word) holds)

  module _ (n a pc : ℕ) (o : IsOwnSwitch image n a) where
    abbrev is_there : n < length image.functions
    is_there = slice_get_within image.functions n o.function o.there

    abbrev g : Function
    g = (function_at n is_there).0

    abbrev here : slice_get (attributed_functions p) n ≡ Some g
    here = (function_at n is_there).1

    module _ (v : IsVariantWord image n pc) where
      variants_are : image.variants ≡ variant_rows at (length parts.functions) (function_variants parts.attributed)
      variants_are = ap (λ (i : Fields). i.variants) built.linked.image_is

      before_is : (m : ℕ) → variants_before image m ≡ variants_of (take m parts.attributed)
      before_is m = ap (λ (i : Fields). variants_before i m) built.linked.image_is ∙ rows_count at parts.attributed m

      part : (b : PartFunction) × (slice_get parts.attributed n ≡ Some b)
      part =
          let lt = slice_get_within image.functions n o.function o.there in
          let count : length image.functions ≡ length parts.attributed = ap (λ (i : Fields). length i.functions) built.linked.image_is ∙ length-map parts.attributed _ in
          there_at parts.attributed n (omega (arith, lt, count))

      -- its place among the function's own
      j : ℕ
      j = v.variant - variants_of (take n parts.attributed)

      counted : variants_of (take (n + 1) parts.attributed) ≡ variants_of (take n parts.attributed) + length part.0.variants
      counted =
          sum_by_more (λ (b : PartFunction). length b.variants) parts.attributed n part.0 (slice_get_within parts.attributed n part.0 part.1)
          ∙ ap (λ (b : PartFunction). variants_of (take n parts.attributed) + length b.variants) (get_or_from_slice_get parts.attributed n part.0 part.0 part.1)

      variant : (w : PartVariant) × (slice_get part.0.variants j ≡ Some w)
      unfolding j
      variant =
          let from = v.from in let to = v.to in
          let low = before_is n in let high = before_is (n + 1) in
          there_at part.0.variants (v.variant - variants_of (take n parts.attributed)) (omega (arith, from, to, low, high, counted))

      abbrev number : ℕ
      number = length parts.functions + variants_of (take n parts.attributed) + j

      number_is : number ≡ length parts.functions + v.variant
      unfolding j
      number_is = let from = v.from in let low = before_is n in omega (arith, from, low)

      address_is : (k : ℕ) (row : VariantRow) → slice_get image.variants k ≡ Some row → row.address ≡ at (length parts.functions + k)
      address_is k row e =
          row_at at (function_variants parts.attributed) (length parts.functions) k row (ap (λ (rows : List VariantRow). slice_get rows k) (sym variants_are) ∙ e)

      many : length (codes parts) ≡ length parts.functions + length image.variants
      many =
          length-append parts.functions (variant_codes (function_variants parts.attributed))
          ∙ ap (λ c. length parts.functions + c) (length-map (function_variants parts.attributed) (λ (w : PartVariant). w.code)
          ∙ sym (rows_many at (function_variants parts.attributed) (length parts.functions)) ∙ ap length (sym variants_are))

      abbrev last : Bool
      last = eqb (suc (length parts.functions + v.variant)) (length (codes parts))

      abbrev below : Bool
      below = ltb pc (at (suc (length parts.functions + v.variant)))

      ends : (v.variant + 1 < length image.variants) ⊎ (length image.variants ≤ v.variant + 1) → (last || below) ≡ true
      ends (inl more) =
          let next = there_at image.variants (v.variant + 1) more in
          let address = address_is (v.variant + 1) next.0 next.1 in
          let same : length parts.functions + (v.variant + 1) ≡ suc (length parts.functions + v.variant) = omega arith in
          let behind = v.ends next.0 next.1 in
          or_right last below (lt-ltb pc (at (suc (length parts.functions + v.variant))) (subst (λ z. pc < z) (address ∙ ap at same) behind))
      ends (inr end) =
          let lt = slice_get_within image.variants v.variant v.row v.there in
          let count = many in
          or_left last below (eq-eqb (suc (length parts.functions + v.variant)) (length (codes parts)) (omega (arith, end, lt, count)))

      is_its_word : is_word_of image parts sizing p (length parts.functions + v.variant) pc ≡ true
      is_its_word =
          let begins = v.begins in
          let address = address_is v.variant v.row v.there in
          and_from (leb (at (length parts.functions + v.variant)) pc) (last || below) (le-leb (at (length parts.functions + v.variant)) pc (omega (arith, begins, address)))
          (ends (cases_lt (v.variant + 1) (length image.variants)))

      -- the function of its number is the n-th attributed one
      function_is : slice_get p.functions part.0.function ≡ Some g
      function_is =
          let number : slice_get _ n ≡ Some part.0.function = ap (λ (ns : List ℕ). slice_get ns n) (sym built.are.codes.variants.numbers) ∙ map_at (λ (b : PartFunction). b.function) parts.attributed n part.0 part.1 in
          let h = numbered.attributed_at p n part.0.function number in
          let place = numbered.place_of p n part.0.function number in
          let nth = attributed_at p.functions part.0.function h.function h.there h.attributed in
          let same : h.function ≡ g = same_Some h.function g (sym nth ∙ ap (slice_get (attributed_functions p)) place ∙ here) in
          h.there ∙ ap Some same

      word_closed : is_closed_from image parts sizing p 0 (closed_to_codes p parts) pc a ≡ true
      word_closed =
          let test = test_of_variant p parts (as_many p image basis) n j part.0.function g part.0 variant.0 part.1 variant.1 refl function_is in
          let none_more : length parts.functions + v.variant ≡ 0 + number = omega (arith, number_is) in
          from_closed (closed_to_codes p parts) 0 number pc a (is_closed_to_variant p g) test (subst (λ z. is_word_of image parts sizing p z pc ≡ true) none_more is_its_word) (own_closed n a o g here)

    beside_closed : (s t : Option SiteRow) → site_at image pc ≡ s → site_before image pc ≡ t → IsVariantWord image n pc → is_closed_beside image parts sizing p s t pc a ≡ true
    beside_closed (Some site) t e q v = site_closed o.number a o.word site (at_site pc site e)
    beside_closed None (Some site) e q v = site_closed o.number a o.word site (behind_site pc site q)
    beside_closed None None e q v = word_closed v

  pub no_own_switch : (bytes : List ℕ) (polls : PollActs) (picks : List ℕ) → LoadsWhatIsOpen image shut bytes polls picks → LoadsNoOwnSwitch image bytes polls picks
  no_own_switch bytes polls picks opens t a going word has loads =
      let s : State = runs image (bytes_to_come bytes) polls picks t in
      let closed_there : is_closed_beside image parts sizing p (site_at image s.pc) (site_before image s.pc) s.pc a ≡ true → ⊥ =
      λ h.
      let is_closed : closed image parts sizing p s.pc a ≡ true =
      and_from (eqb (s.pc % 4) 0) (is_closed_beside image parts sizing p (site_at image s.pc) (site_before image s.pc) s.pc a) (aligned s.room.held s.pc word has) h in
      not_both (sym (opens t a going word has loads) ∙ is_closed) in (
        (λ n v o. closed_there (beside_closed n a s.pc o (site_at image s.pc) (site_before image s.pc) refl refl v)),
        (λ number h w. closed_there (site_word_closed number a s.pc w (site_at image s.pc) (site_before image s.pc) refl refl h)),
      )
