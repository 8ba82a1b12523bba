-- What the code of a function, of a variant and of an inline body may load isn't closed to its words.
use Rattle.std.proofs.Common.{◌≡◌, ◌⊎◌, inl, inr, ⊎_elim, ℕ, zero, suc, ◌+◌, ◌*◌, ◌%◌, ◌<◌, ◌≤◌, Bool, true, false, not, cond, ◌&&◌, ◌||◌, eqb, leb, ltb, List, [], ◌∷◌, Option, Some, None, is_some, length, slice_get, refl, sym, ap, ap₂, ◌∙◌, subst, arith, eq-eqb}
use Rattle.std.proofs.lemmas.Bool.{cases_eq, cases_lt, and_parts, or_right, eqb-true, leb-true, ltb-true, lt-leb, le-ltb, ne_eqb}
use Rattle.std.proofs.lemmas.Option.{slice_get_within}
use Rattle.mv_ast.specs.declared.program.Program.{Program}
use Rattle.mv_ast.specs.declared.program.Function.{Function}
use Rattle.mv_ast.specs.Switches.{attributed_functions}
use Rattle.mv_num.specs.Lists.{is_among}
use Rattle.mv_descriptors.specs.declared.rows.SiteRow.{SiteRow}
use Rattle.mv_image.specs.Spelling.{Fields}
use Rattle.mv_image.specs.Patched.{entry_at, site_at, site_before, point_at}
use Rattle.mv_ir.specs.declared.body.Body.{Body}
use Rattle.mv_lower_spec.specs.Functions.{lower_function}
use Rattle.mv_select.specs.Bodies.SelectedBodies.{globals_read, is_in_globals, reach_of}
use Rattle.mv_select.specs.Calls.Convention.{Layout}
use Rattle.mv_refine_machine.specs.Commits.Served.{IsPlanOpen}
use Rattle.mv_select.specs.Functions.Functions.{IsOpen}
use Rattle.mv_refine_machine.specs.Layout.{IsSetOut}
use Rattle.mv_refine_machine.specs.MachineRuns.{image_word, unpatched_word, machine_text}
use Rattle.mv_refine_machine.proofs.Bound.{site_behind}
use Rattle.mv_linker.specs.declared.parts.Parts.{Parts}
use Rattle.mv_linker.specs.Linked.{codes}
use Rattle.mv_refine_images.specs.Programs.Hosts.{IsOpenIn}
use Rattle.mv_refine_images.specs.Closed.{is_closed_to_function, is_closed_to_variant, is_closed_to_variants_of, closed_to_codes, is_data_of, is_data_among, is_data_where, is_word_of, is_closed_from, is_closed_beside, closed}
use Rattle.mv_refine_images.specs.Layouts.{address_of, layout_of}
use Rattle.mv_num.proofs.Booleans.{and_false}

-- ---- globals

module _ (y : Layout) (out : IsSetOut y) (a : ℕ) where
  -- an address in the data words of a global
  pub record In (x : ℕ) : Type 0 where
    pub from : y.place x ≤ a
    pub to : a < y.place x + 4 * y.size x

  in_data : (x : ℕ) → is_data_of y x a ≡ true → In x
  in_data x h =
      let p = and_parts (leb (y.place x) a) (ltb a (y.place x + 4 * y.size x)) h in record { from = leb-true (y.place x) a p.0; to = ltb-true a (y.place x + 4 * y.size x) p.1 }

  some : (x : ℕ) → In x → 0 < y.size x
  some x h = omega (arith, h.from, h.to)

  -- lies in those of no other, and not in the stack
  pub one : (x z : ℕ) → In x → In z → x ≡ z
  one x z h k = ⊎_elim (λ (e : x ≡ z). e) (λ (ne : x ≡ z → ⊥). absurd (⊎_elim
      (λ (lt : x < z). let apart = out.globals_ascend x z lt (some x h) (some z k) in omega (arith, apart, h.to, k.from))
      (λ (le : z ≤ x). let apart = out.globals_ascend z x (less le ne) (some z k) (some x h) in omega (arith, apart, k.to, h.from))
      (cases_lt x z))) (cases_eq x z)
    where
      less : z ≤ x → (x ≡ z → ⊥) → z < x
      less le ne = grind (arith, le, ne)

  off_stack : (x : ℕ) → In x → y.bottom ≤ a → ⊥
  off_stack x h le = let end = out.data_ends x (some x h) in let begin = out.stack_begins in omega (arith, end, begin, le, h.to)

  -- an address in the data words of some globals lies in those of one of them
  abbrev Among : List ℕ → Type 0
  Among gs = (x : ℕ) × (is_among x gs ≡ true) × In x

  first_or_later : (g : ℕ) (gs : List ℕ) (b : Bool) → is_data_of y g a ≡ b → (is_in_globals y gs a ≡ true → Among gs) → (b || is_in_globals y gs a) ≡ true → Among (g ∷ gs)
  first_or_later g gs true e rest h = (g, ap (λ c. c || is_among g gs) (eq-eqb g g refl), in_data g e)
  first_or_later g gs false e rest h = let r = rest h in (r.0, or_right (eqb r.0 g) (is_among r.0 gs) r.1, r.2)

  among : (gs : List ℕ) → is_in_globals y gs a ≡ true → Among gs
  among [] h = absurd cc
  among (g ∷ gs) h = first_or_later g gs (is_data_of y g a) refl (among gs) h

  -- what the code of a body may load is data of a global that the body reads, if it is data
  read : (b : Body) (x : ℕ) → (reach_of y b).may_load a ≡ true → In x → is_among x (globals_read b.code) ≡ true
  read b x may h = by (leb y.bottom a && ltb a y.top) refl may
    where
      by : (s : Bool) → (leb y.bottom a && ltb a y.top) ≡ s → (s || is_in_globals y (globals_read b.code) a) ≡ true → is_among x (globals_read b.code) ≡ true
      by true e k = absurd (off_stack x h (leb-true y.bottom a (and_parts (leb y.bottom a) (ltb a y.top) e).0))
      by false e k = let r = among (globals_read b.code) k in subst (λ z. is_among z (globals_read b.code) ≡ true) (one r.0 x r.2 h) r.1

  -- an address in the data words of no global that passes a test
  shut : (a b : Bool) → (a ≡ true → b ≡ false) → (a && b) ≡ false
  shut true b h = h refl
  shut false b h = refl

  pub none_where : (test : ℕ → Bool) → ((x : ℕ) → In x → test x ≡ false) → (count : ℕ) → is_data_among y test count a ≡ false
  none_where test h zero = refl
  none_where test h (suc x) =
      ap (λ c. c || is_data_among y test x a) (shut (is_data_of y x a) (test x) (λ e. h x (in_data x e))) ∙ none_where test h x

  -- what code may load is in the data words of no global that it reads
  none_read : (test : ℕ → Bool) (b : Body) → ((x : ℕ) → is_among x (globals_read b.code) ≡ true → test x ≡ false) → (reach_of y b).may_load a ≡ true → (count : ℕ) → is_data_among y test count a ≡ false
  none_read test b reads may = none_where test (λ x h. reads x (read b x may h))

  -- nothing of the plan area is data
  none_behind : (test : ℕ → Bool) → 0x0020_0000 ≤ a → (count : ℕ) → is_data_among y test count a ≡ false
  none_behind test behind = none_where test (λ x h. let end = out.data_ends x (some x h) in let to = h.to in absurd (omega (arith, end, to, behind)))

-- ---- what functions and variants may read

module _ (p : Program) (g : Function) (b : Body) (reads : (x : ℕ) → is_among x (globals_read b.code) ≡ true → is_among x (globals_read (lower_function p g).code) ≡ true) where
  pub function_reads : (x : ℕ) → is_among x (globals_read b.code) ≡ true → is_closed_to_function p g x ≡ false
  function_reads x h = ap not (reads x h)

  pub variant_reads : ((x : ℕ) → is_among x (globals_read b.code) ≡ true → is_among x (lower_function p g).switches ≡ false) →
      (x : ℕ) → is_among x (globals_read b.code) ≡ true → is_closed_to_variant p g x ≡ false
  variant_reads free x h = ap₂ (λ (s r : Bool). s || not r) (free x h) (reads x h)

-- ---- sites

-- a word that is never patched is one of no site
record IsBeside (image : Fields) (pc : ℕ) : Type 0 where
  first : site_at image pc ≡ None
  second : site_before image pc ≡ None

beside : (image : Fields) (pc word : ℕ) → unpatched_word image pc ≡ Some word → IsBeside image pc
unfolding unpatched_word
beside image pc word e = by (entry_at image pc) (site_at image pc) (site_before image pc) refl refl e
  where
    by : (o : Option ℕ) (s t : Option SiteRow) → site_at image pc ≡ s → site_before image pc ≡ t → cond (is_some o || (is_some s || (is_some t || is_some (point_at image pc)))) None (image_word image pc) ≡ Some word → IsBeside image pc
    by None None None q r h = record { first = q; second = r }
    by None None (Some t) q r h = absurd (cc)
    by None (Some s) t q r h = absurd (cc)
    by (Some o) s t q r h = absurd (cc)

module _ (image : Fields) (parts : Parts) (sizing : List ℕ) (p : Program) (out : IsSetOut (layout_of parts sizing p)) where
  abbrev y : Layout
  y = layout_of parts sizing p

  abbrev shuts : (ℕ → Bool) → ℕ → Type 0
  shuts test a = is_data_where image parts sizing p test a ≡ false

  -- ---- the words of codes

  from_shut : (tests : List (ℕ → Bool)) (f pc a : ℕ) → ((k : ℕ) (test : ℕ → Bool) → slice_get tests k ≡ Some test → (is_word_of image parts sizing p (f + k) pc && is_data_where image parts sizing p test a) ≡ false) →
      is_closed_from image parts sizing p f tests pc a ≡ false
  from_shut [] f pc a h = refl
  from_shut (test ∷ tests) f pc a h =
      let zero_more : f + 0 ≡ f = omega arith in
      let here = subst (λ z. (is_word_of image parts sizing p z pc && is_data_where image parts sizing p test a) ≡ false) zero_more (h 0 test refl) in
      ap (λ c. c || is_closed_from image parts sizing p (suc f) tests pc a) here
      ∙ from_shut tests (suc f) pc a (λ k x e. let one_more : f + suc k ≡ suc f + k = omega arith in
      subst (λ z. (is_word_of image parts sizing p z pc && is_data_where image parts sizing p x a) ≡ false) one_more (h (suc k) x e))

  -- An address that code may load isn't closed to its words, which go from the code's label up to where it ends.
  module _ (f : ℕ) (test : ℕ → Bool) (here : slice_get (closed_to_codes p parts) f ≡ Some test) (one_each : length (closed_to_codes p parts) ≡ length (codes parts)) (end : ℕ)
      (ascend : (h k : ℕ) → h < k → k < length (codes parts) → address_of parts sizing h < address_of parts sizing k)
      (ends : (k : ℕ) → f < k → k < length (codes parts) → end ≤ address_of parts sizing k) where
    abbrev count : ℕ
    count = length (codes parts)

    within : f < count
    within = let lt = slice_get_within (closed_to_codes p parts) f test here in omega (arith, lt, one_each)

    -- no other code's words are there
    other : (k pc : ℕ) → k < count → (k ≡ f → ⊥) → address_of parts sizing f ≤ pc → pc < end → is_word_of image parts sizing p k pc ≡ false
    other k pc there ne low high = ⊎_elim earlier later (cases_lt k f)
      where
        more : k < f → (suc k ≡ f → ⊥) → suc k < f
        more lt apart = grind (arith, lt, apart)

        upper : k < f → address_of parts sizing (suc k) ≤ pc
        upper lt = ⊎_elim
            (λ (e : suc k ≡ f). subst (λ z. address_of parts sizing z ≤ pc) (sym e) low)
            (λ (apart : suc k ≡ f → ⊥). let less = ascend (suc k) f (more lt apart) within in omega (arith, less, low))
            (cases_eq (suc k) f)

        earlier : k < f → is_word_of image parts sizing p k pc ≡ false
        earlier lt =
            let last = ne_eqb (suc k) count (λ e. omega (arith, e, lt, within)) in
            let behind = le-ltb pc (address_of parts sizing (suc k)) (upper lt) in
            ap (λ c. leb (address_of parts sizing k) pc && (c || ltb pc (address_of parts sizing (suc k)))) last
            ∙ ap (λ c. leb (address_of parts sizing k) pc && c) behind ∙ and_false (leb (address_of parts sizing k) pc)

        later : f ≤ k → is_word_of image parts sizing p k pc ≡ false
        later le =
            let from = ends k (more_than le) there in
            ap (λ c. c && (eqb (suc k) count || ltb pc (address_of parts sizing (suc k)))) (lt-leb (address_of parts sizing k) pc (omega (arith, from, high)))
          where
            more_than : f ≤ k → f < k
            more_than le = grind (arith, le, ne)

    pub open_from : (pc a : ℕ) → address_of parts sizing f ≤ pc → pc < end → shuts test a → is_closed_from image parts sizing p 0 (closed_to_codes p parts) pc a ≡ false
    open_from pc a low high free = from_shut (closed_to_codes p parts) 0 pc a (λ k x e. by k x e (cases_eq k f))
      where
        some_same : (u v : ℕ → Bool) → Some u ≡ Some v → u ≡ v
        some_same u v q = cc

        by : (k : ℕ) (x : ℕ → Bool) → slice_get (closed_to_codes p parts) k ≡ Some x → (k ≡ f) ⊎ (k ≡ f → ⊥) → (is_word_of image parts sizing p (0 + k) pc && is_data_where image parts sizing p x a) ≡ false
        by k x e (inl is) =
            let same : x ≡ test = some_same x test (sym e ∙ ap (slice_get (closed_to_codes p parts)) is ∙ here) in
            ap (λ c. is_word_of image parts sizing p (0 + k) pc && c) (subst (λ (t : ℕ → Bool). shuts t a) (sym same) free) ∙ and_false (is_word_of image parts sizing p (0 + k) pc)
        by k x e (inr ne) =
            let zero_more : k ≡ 0 + k = omega arith in
            let lt = slice_get_within (closed_to_codes p parts) k x e in
            let none = subst (λ z. is_word_of image parts sizing p z pc ≡ false) zero_more (other k pc (omega (arith, lt, one_each)) ne low high) in
            ap (λ c. c && is_data_where image parts sizing p x a) none

    pub code_open : (attributed : List ℕ) (b : Body) → ((x : ℕ) → is_among x (globals_read b.code) ≡ true → test x ≡ false) → (from : ℕ) → address_of parts sizing f ≤ from →
        IsOpenIn (machine_text attributed image) (closed image parts sizing p) from end (reach_of (layout_of parts sizing p) b)
    code_open attributed b reads from low pc a word ge lt stands may =
        let h = beside image pc word stands in
        ap₂ (λ (s t : Option SiteRow). eqb (pc % 4) 0 && is_closed_beside image parts sizing p s t pc a) h.first h.second
        ∙ ap (λ c. eqb (pc % 4) 0 && c) (open_from pc a (omega (arith, low, ge)) lt (none_read y out a test b reads may (length p.globals)))
        ∙ and_false (eqb (pc % 4) 0)

  -- ---- sites

  -- An address that a variant may load isn't closed to the two words of a site of its function.
  module _ (g : Function) (at : ℕ) (site : SiteRow) (is_site : site_at image at ≡ Some site) (none_behind_site : site_at image (at + 4) ≡ None) (even : at % 4 ≡ 0)
      (of : slice_get (attributed_functions p) site.function ≡ Some g) where
    abbrev test_of : Option Function → ℕ → Bool
    test_of = is_closed_to_variants_of p

    site_shut : (a : ℕ) → shuts (is_closed_to_variant p g) a → shuts (test_of (slice_get (attributed_functions p) site.function)) a
    site_shut a h = ap (λ (o : Option Function). is_data_where image parts sizing p (test_of o) a) of ∙ h

    which : (pc : ℕ) → at ≤ pc → pc < at + 8 → pc % 4 ≡ 0 → (pc ≡ at) ⊎ (pc ≡ at + 4)
    which pc ge lt aligned = ⊎_elim
        (λ (e : pc ≡ at). inl e)
        (λ (ne : pc ≡ at → ⊥). inr (second ne)) (cases_eq pc at)
      where
        second : (pc ≡ at → ⊥) → pc ≡ at + 4
        second ne = let more : at < pc = grind (arith, ge, ne) in omega (arith, more, lt, aligned, even)

    first_open : (a : ℕ) → shuts (is_closed_to_variant p g) a → is_closed_beside image parts sizing p (site_at image at) (site_before image at) at a ≡ false
    first_open a h = ap (λ (s : Option SiteRow). is_closed_beside image parts sizing p s (site_before image at) at a) is_site ∙ site_shut a h

    second_open : (a : ℕ) → shuts (is_closed_to_variant p g) a → is_closed_beside image parts sizing p (site_at image (at + 4)) (site_before image (at + 4)) (at + 4) a ≡ false
    second_open a h =
        ap₂ (λ (s t : Option SiteRow). is_closed_beside image parts sizing p s t (at + 4) a) none_behind_site (site_behind image at ∙ is_site) ∙ site_shut a h

    beside_open : (pc a : ℕ) → (pc ≡ at) ⊎ (pc ≡ at + 4) → shuts (is_closed_to_variant p g) a → is_closed_beside image parts sizing p (site_at image pc) (site_before image pc) pc a ≡ false
    beside_open pc a (inl e) h = subst (λ z. is_closed_beside image parts sizing p (site_at image z) (site_before image z) z a ≡ false) (sym e) (first_open a h)
    beside_open pc a (inr e) h = subst (λ z. is_closed_beside image parts sizing p (site_at image z) (site_before image z) z a ≡ false) (sym e) (second_open a h)

    pub site_open : (b : Body) → ((x : ℕ) → is_among x (globals_read b.code) ≡ true → is_closed_to_variant p g x ≡ false) →
        IsOpen (closed image parts sizing p) at (at + 8) (reach_of (layout_of parts sizing p) b)
    site_open b reads pc a ge lt may = by (eqb (pc % 4) 0) refl
      where
        by : (aligned : Bool) → eqb (pc % 4) 0 ≡ aligned → (aligned && is_closed_beside image parts sizing p (site_at image pc) (site_before image pc) pc a) ≡ false
        by false e = refl
        by true e = beside_open pc a (which pc ge lt (eqb-true (pc % 4) 0 e)) (none_read y out a (is_closed_to_variant p g) b reads may (length p.globals))

  -- ---- the plan area

  -- none of it is closed to any code
  pub plan_open : (stub : ℕ) → IsPlanOpen (closed image parts sizing p) stub
  plan_open stub pc a ge lt plan = ap (λ c. eqb (pc % 4) 0 && c) (all_open (site_at image pc) (site_before image pc)) ∙ and_false (eqb (pc % 4) 0)
    where
      none : (test : ℕ → Bool) → shuts test a
      none test = none_behind y out a test (omega (arith, plan)) (length p.globals)

      all_open : (s t : Option SiteRow) → is_closed_beside image parts sizing p s t pc a ≡ false
      all_open (Some s) t = none (is_closed_to_variants_of p (slice_get (attributed_functions p) s.function))
      all_open None (Some t) = none (is_closed_to_variants_of p (slice_get (attributed_functions p) t.function))
      all_open None None =
          from_shut (closed_to_codes p parts) 0 pc a (λ k test e. ap (λ c. is_word_of image parts sizing p (0 + k) pc && c) (none test) ∙ and_false (is_word_of image parts sizing p (0 + k) pc))
