-- The code of a program's functions and of the first of their variants, by counts over the source.
use Rattle.std.proofs.Common.{arith, lit≤, ◌≡◌, ℕ, zero, suc, ◌*◌, ◌≤◌, Bool, true, false, cond, All, List, [], ◌∷◌, length, map, Some, refl, sym, subst}
use Rattle.std.specs.Prelude.{sum, sum_by, filter, nat_lt, slice_get}
use Rattle.std.proofs.lemmas.List.{length-map}
use Rattle.std.proofs.lemmas.List.Elements.{All-head, All-tail, All-weaker}
use Rattle.std.proofs.lemmas.List.Sums.{sum_by-cons}
use Rattle.std.proofs.Math.Nat.{mul-le-mul_right, mul_comm, suc-mul}
use Rattle.mv_ast.specs.declared.program.Program.{Program}
use Rattle.mv_ast.specs.declared.program.Function.{Function}
use Rattle.mv_ast.specs.Counts.{assignments, call_sites}
use Rattle.mv_ast.specs.Switches.{attributed_functions}
use Rattle.mv_isa.specs.declared.labelled.Labelled.{Labelled}
use Rattle.mv_isa.specs.declared.labelled.Line.{Line}
use Rattle.mv_isa.specs.declared.labelled.Line.TheVariants.{Word, Label, Jump, Branch, Entry, Slot, Point}
use Rattle.mv_isa.specs.Code.{greatest_words, least_words}
use Rattle.mv_ir.specs.declared.body.Body.{Body}
use Rattle.mv_source_forms.specs.WellFormed.{IsWellFormed}
use Rattle.mv_linker.specs.Linked.{stub_lines}
use Rattle.mv_select.specs.Selected.{selected_lines}
use Rattle.mv_variants.specs.Bound.Slots.{AtMost, sites}
use Rattle.mv_variants.specs.Sizes.{body_sites, body_words, line_sites, lines_sites, lines_words}
use Rattle.mv_count_code.specs.Sizes.{IsBodyOf, bound, LinesAreShort, words_of}
use Rattle.mv_count_code.specs.Texts.{HaveCode, IsCodeOf, SitesAreFew, SlotsAreFewInCode}
use Rattle.mv_count_code.specs.Fronts.{AreCounted, FrontsAreCounted, HaveVariantBodies, IsCodedOf}
use Rattle.mv_count_code.proofs.Sites.{at_most, one_of}
use Rattle.mv_count_code.proofs.Texts.{all_words, code_words, functions_short, variant_words, words}
use Rattle.mv_num.proofs.Lists.{sum_cons}

-- ---- lines

least : (lines : List Line) → lines_words lines ≤ words lines
least [] = omega arith
least (line ∷ lines) = let rest = least lines in let here = one line in omega (arith, rest, here, sum_by-cons least_words line lines, sum_by-cons greatest_words line lines)
  where
    one : (line : Line) → least_words line ≤ greatest_words line
    one (Word i) = omega arith
    one (Label l) = omega arith
    one (Jump rd l) = omega arith
    one (Branch funct3 rs1 rs2 l) = omega arith
    one (Entry rd f) = omega arith
    one (Slot f) = omega arith
    one (Point a) = omega arith

sites_counted : (lines : List Line) → lines_sites lines ≡ sites lines
sites_counted [] = refl
sites_counted (Slot f ∷ lines) = let rest = sites_counted lines in omega (arith, rest, sum_by-cons line_sites (Slot f) lines)
sites_counted (Point a ∷ lines) = let rest = sites_counted lines in omega (arith, rest, sum_by-cons line_sites (Point a) lines)
sites_counted (line ∷ lines) = let rest = sites_counted lines in omega (arith, rest, sum_by-cons line_sites line lines)

stub_words : (checks : Bool) → lines_words (stub_lines 0 checks) ≤ 400
stub_words true = lit≤ tt
stub_words false = lit≤ tt

-- ---- functions

abbrev least_in : Labelled → ℕ
least_in code = lines_words code.items

abbrev sites_in : Labelled → ℕ
sites_in code = lines_sites code.items

all_least : (codes : List Labelled) → sum_by least_in codes ≤ sum_by code_words codes
all_least [] = omega arith
all_least (code ∷ codes) = let rest = all_least codes in let here = least code.items in omega (arith, rest, here, sum_by-cons least_in code codes, sum_by-cons code_words code codes)

all_sites : (codes : List Labelled) → sum_by sites_in codes ≡ sum (map (λ (code : Labelled). sites code.items) codes)
all_sites [] = refl
all_sites (code ∷ codes) =
    let rest = all_sites codes in
    let here = sites_counted code.items in
    omega (arith, rest, here, sum_by-cons sites_in code codes, sum_cons (sites code.items) (map (λ (c : Labelled). sites c.items) codes))

-- ---- variants

-- no more than so many for each
most : (n : Body → ℕ) (limit : ℕ) (bodies : List Body) → All (λ b. n b ≤ limit) bodies → sum_by n bodies ≤ length bodies * limit
most n limit [] all = omega arith
most n limit (b ∷ bodies) all =
    let here = All-head (λ x. n x ≤ limit) b bodies all in
    let rest = most n limit bodies (All-tail (λ x. n x ≤ limit) b bodies all) in
    omega (arith, here, rest, sum_by-cons n b bodies, suc-mul (length bodies) limit)

sums : (n : Body → ℕ) (lists : List (List Body)) → sum_by (sum_by n) lists ≡ sum (map (sum_by n) lists)
sums n [] = refl
sums n (bodies ∷ lists) =
    let rest = sums n lists in omega (arith, rest, sum_by-cons (sum_by n) bodies lists, sum_cons (sum_by n bodies) (map (sum_by n) lists))

-- a number for each of the first functions with a flag, each at most so many
numbers_few : (h : Function → ℕ) (gs : List Function) (ns : List ℕ) → length ns ≤ length (filter (λ (g : Function). g.attributed) gs) →
    ((n : ℕ) (g : Function) (m : ℕ) → slice_get (filter (λ (x : Function). x.attributed) gs) n ≡ Some g → slice_get ns n ≡ Some m → m ≤ h g) → sum ns ≤ sum (map h gs)
numbers_few h gs [] few each = omega arith
numbers_few h [] (m ∷ ns) few each = absurd (omega (arith, few))
numbers_few h (g ∷ gs) (m ∷ ns) few each = by (λ others less those. numbers_few h gs others less those) g.attributed refl few each
  where
    rest : List Function
    rest = filter (λ (x : Function). x.attributed) gs

    Each : List Function → List ℕ → Type 0
    Each hs others = (n : ℕ) (x : Function) (k : ℕ) → slice_get hs n ≡ Some x → slice_get others n ≡ Some k → k ≤ h x

    Rest : Type 0
    Rest = (others : List ℕ) → length others ≤ length rest → Each rest others → sum others ≤ sum (map h gs)

    by : Rest → (b : Bool) → g.attributed ≡ b → length (m ∷ ns) ≤ length (cond b (g ∷ rest) rest) → Each (cond b (g ∷ rest) rest) (m ∷ ns) → sum (m ∷ ns) ≤ sum (map h (g ∷ gs))
    by fewer true e few each =
        let here = each 0 g m refl refl in
        let more = fewer ns (omega (arith, few)) (λ n x k a b. each (suc n) x k a b) in
        omega (arith, here, more, sum_cons m ns, sum_cons (h g) (map h gs))
    by fewer false e few each = let more = fewer (m ∷ ns) few each in omega (arith, more, sum_cons (h g) (map h gs))

-- with none for the others
record Padded (f : Function → ℕ) (gs : List Function) (ns : List ℕ) : Type 0 where
  numbers : List ℕ
  few : AtMost f gs numbers
  same : sum numbers ≡ sum ns

padded : (f : Function → ℕ) (gs : List Function) (ns : List ℕ) → length ns ≤ length gs →
    ((n : ℕ) (g : Function) (m : ℕ) → slice_get gs n ≡ Some g → slice_get ns n ≡ Some m → m ≤ f g) → Padded f gs ns
padded f [] [] few each = record { numbers = []; few = tt; same = refl }
padded f [] (m ∷ ns) few each = absurd (omega (arith, few))
padded f (g ∷ gs) [] few each =
    let rest = padded f gs [] (omega arith) (λ n x m a b. each (suc n) x m a (absurd (let bad : ⊥ = cc in bad))) in
    record { numbers = 0 ∷ rest.numbers; few = (omega arith, rest.few); same = let s = rest.same in omega (arith, s, sum_cons 0 rest.numbers) }
padded f (g ∷ gs) (m ∷ ns) few each =
    let rest = padded f gs ns (omega (arith, few)) (λ n x k a b. each (suc n) x k a b) in
    record {
      numbers = m ∷ rest.numbers;
      few = (each 0 g m refl refl, rest.few);
      same = let s = rest.same in omega (arith, s, sum_cons m rest.numbers, sum_cons m ns);
    }

-- where a number stands, a list does
unmapped : (n : List Body → ℕ) (lists : List (List Body)) (i m : ℕ) → slice_get (map n lists) i ≡ Some m → (bodies : List Body) × (slice_get lists i ≡ Some bodies) × (n bodies ≡ m)
unmapped n [] i m e = absurd (let bad : ⊥ = cc in bad)
unmapped n (bodies ∷ lists) zero m e = (bodies, refl, let same : n bodies ≡ m = cc in same)
unmapped n (bodies ∷ lists) (suc i) m e = unmapped n lists i m e

-- ---- a program

module _ (short : LinesAreShort) (few_slots : SlotsAreFewInCode) (p : Program) (formed : IsWellFormed p) where
  coded_body : (g : Function) (b : Body) → IsCodedOf p g b → IsBodyOf p g b
  coded_body g b m = bound m.coded.values (record { shorts = m.shorts; known = m.known; made = m.coded.made })

  body_short : (f : ℕ) (g : Function) → slice_get p.functions f ≡ Some g → (b : Body) → IsCodedOf p g b → body_words b ≤ words_of g
  body_short f g there b m =
      let all = short p f g (record { formed = formed; there = there }) b (coded_body g b m) m.coded.suitable m.coded.frame true in
      let here = least (selected_lines true b) in
      omega (arith, all, here)

  body_slots : (f : ℕ) (g : Function) → slice_get p.functions f ≡ Some g → (b : Body) → IsCodedOf p g b → body_sites b ≤ call_sites p g
  body_slots f g there b m =
      let code : Labelled = record { items = selected_lines true b; labels = 0 } in
      let of : IsCodeOf p g code = record { body = b; of = coded_body g b m; suitable = m.coded.suitable; fits = m.coded.frame; attributed = true; items = refl } in
      let few = few_slots p f g (record { formed = formed; there = there }) code of in
      let same = sites_counted (selected_lines true b) in
      omega (arith, few, same)

  module _ (lists : List (List Body)) (have : HaveVariantBodies p lists) where
    -- the bodies of a function together, where each has no more than so many
    together : (n : Body → ℕ) (limit : Function → ℕ) →
        ((f : ℕ) (g : Function) → slice_get p.functions f ≡ Some g → (b : Body) → IsCodedOf p g b → n b ≤ limit g) →
        (i : ℕ) (g : Function) (m : ℕ) → slice_get (attributed_functions p) i ≡ Some g → slice_get (map (sum_by n) lists) i ≡ Some m → m ≤ assignments p g * limit g
    together n limit each i g m nth is =
        let (bodies, at, same) = unmapped (sum_by n) lists i m is in
        let (f, there) = one_of p.functions i g nth in
        let all = All-weaker (IsCodedOf p g) (λ b. n b ≤ limit g) (each f g there) bodies (have.each i g bodies nth at) in
        let sum = most n (limit g) bodies all in
        let less = mul-le-mul_right (limit g) (have.each_few i g bodies nth at) in
        omega (arith, sum, less, same)

    words_few : sum_by (sum_by body_words) lists ≤ sum (map (variant_words p) p.functions)
    words_few =
        let few = have.few in
        let all = numbers_few (variant_words p) p.functions (map (sum_by body_words) lists) (omega (arith, few, length-map lists (sum_by body_words)))
        (together body_words words_of body_short) in
        let same = sums body_words lists in
        omega (arith, all, same)

    sites_padded : Padded (λ g. call_sites p g * assignments p g) (attributed_functions p) (map (sum_by body_sites) lists)
    sites_padded =
        let few = have.few in
        padded (λ g. call_sites p g * assignments p g) (attributed_functions p) (map (sum_by body_sites) lists) (omega (arith, few, length-map lists (sum_by body_sites)))
        (λ i g m nth is. let less = together body_sites (call_sites p) body_slots i g m nth is in omega (arith, less, mul_comm (assignments p g) (call_sites p g)))

    module _ (functions : List Labelled) (own : HaveCode p functions) where
      own_short : (f : ℕ) (g : Function) (code : Labelled) → slice_get p.functions f ≡ Some g → slice_get functions f ≡ Some code → code_words code ≤ words_of g
      own_short f g code there is =
          let c = own.each f g code there is in
          subst (λ lines. words lines ≤ words_of g) (sym c.items) (short p f g (record { formed = formed; there = there }) c.body c.of c.suitable c.fits c.attributed)

      own_slots : AtMost (call_sites p) p.functions (map (λ (code : Labelled). sites code.items) functions)
      own_slots =
          at_most (call_sites p) (λ (code : Labelled). sites code.items) p.functions functions own.one_each
          (λ f g code there is. few_slots p f g (record { formed = formed; there = there }) code (own.each f g code there is))

      pub are_counted : SitesAreFew → AreCounted p functions lists
      are_counted few_sites =
          let all = functions_short p.functions functions own.one_each own_short in
          let least = all_least functions in
          let more = words_few in
          let slots_of = all_sites functions in
          let same = sums body_sites lists in
          let pad = sites_padded in
          let kept = pad.same in
          let counted = few_sites p (map (λ (code : Labelled). sites code.items) functions) pad.numbers own_slots pad.few in
          record {
            words = omega (arith, all, least, more, stub_words (nat_lt 0 (length p.pointers)), all_words p p.functions);
            sites = omega (arith, counted, slots_of, same, kept);
          }

pub fronts_counted : LinesAreShort → SlotsAreFewInCode → SitesAreFew → FrontsAreCounted
fronts_counted short few_slots few_sites p formed functions own lists have = are_counted short few_slots p formed lists have functions own few_sites
