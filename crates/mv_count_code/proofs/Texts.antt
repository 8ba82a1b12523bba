-- The words of linked code.
use Rattle.std.proofs.Common.{arith, lit≤, ◌≡◌, ℕ, zero, suc, ◌+◌, ◌*◌, ◌<◌, ◌≤◌, Bool, true, false, cond, All, List, [], ◌∷◌, length, map, Some, refl, sym, ap, ◌∙◌, subst}
use Rattle.std.specs.Prelude.{sum, sum_by, filter, slice_get, slice_index}
use Rattle.std.proofs.lemmas.List.{map-append}
use Rattle.std.proofs.lemmas.List.Elements.{All-head, All-tail, All-weaker}
use Rattle.std.proofs.lemmas.List.Sums.{sum_by-append, sum_by-cons}
use Rattle.std.proofs.Math.Nat.{mul_comm, mul_left_comm, suc-mul, mul-le-mul_right}
use Rattle.mv_ast.specs.declared.program.Program.{Program}
use Rattle.mv_ast.specs.declared.program.Function.{Function}
use Rattle.mv_ast.specs.Counts.{nodes, assignments}
use Rattle.mv_ast.specs.Switches.{attributed_functions}
use Rattle.mv_isa.specs.declared.labelled.Labelled.{Labelled}
use Rattle.mv_isa.specs.declared.labelled.Line.{Line}
use Rattle.mv_isa.specs.declared.labelled.Line.TheVariants.{Word, Label, Jump, Branch, Entry, Slot, Point}
use Rattle.mv_isa.specs.Code.{line_at, greatest_words}
use Rattle.mv_linker.specs.declared.parts.PartFunction.{PartFunction}
use Rattle.mv_linker.specs.declared.parts.PartVariant.{PartVariant}
use Rattle.mv_linker.specs.Linked.{function_variants, variant_codes, codes, relabelled, stub_lines, has_pointers, function_part, function_parts, linked_lines}
use Rattle.mv_count_code.specs.Sizes.{LinesAreShort, words_of}
use Rattle.mv_count_code.specs.Texts.{IsCodeOf, TextsPass}

abbrev pub words : List Line → ℕ
words = sum_by greatest_words

-- ---- a sizing takes no more words than the greatest

sized : (lines : List Line) (sizing : List ℕ) → length sizing ≡ length lines → ((k : ℕ) → k < length lines → slice_index sizing k ≤ greatest_words (line_at lines k)) → sum sizing ≤ words lines
sized [] [] e h = omega arith
sized [] (n ∷ sizing) e h = absurd (omega (arith, e))
sized (line ∷ lines) [] e h = absurd (omega (arith, e))
sized (line ∷ lines) (n ∷ sizing) e h =
    let rest = sized lines sizing (omega (arith, e)) (λ k lt. h (suc k) (omega (arith, lt))) in
    let here = h 0 (omega arith) in
    omega (arith, rest, here, sum_by-cons greatest_words line lines, sum_by-cons (λ x. x) n sizing)

-- ---- linked code

relabelled_words : (first count : ℕ) (lines : List Line) → words (map (relabelled first count) lines) ≡ words lines
relabelled_words first count [] = refl
relabelled_words first count (line ∷ lines) =
    let rest = relabelled_words first count lines in
    omega (arith, rest, one line, sum_by-cons greatest_words line lines, sum_by-cons greatest_words (relabelled first count line) (map (relabelled first count) lines))
  where
    one : (line : Line) → greatest_words (relabelled first count line) ≡ greatest_words line
    one (Word i) = refl
    one (Label l) = refl
    one (Jump rd l) = refl
    one (Branch funct3 rs1 rs2 l) = refl
    one (Entry rd f) = refl
    one (Slot f) = refl
    one (Point a) = refl

abbrev pub code_words : Labelled → ℕ
code_words code = words code.items

part_words : (f first : ℕ) (code : Labelled) → words (function_part f first code) ≡ code_words code
part_words f first code =
    let lines = map (relabelled first code.labels) code.items in
    omega (arith, sum_by-cons greatest_words (Label f) lines, relabelled_words first code.labels code.items)

parts_words : (f first : ℕ) (codes : List Labelled) → words (function_parts f first codes) ≡ sum_by code_words codes
parts_words f first [] = refl
parts_words f first (code ∷ rest) =
    omega (
      arith,
      sum_by-append greatest_words (function_part f first code) (function_parts (f + 1) (first + code.labels) rest),
      part_words f first code,
      parts_words (f + 1) (first + code.labels) rest,
      sum_by-cons code_words code rest,
    )

stub_words : (main : ℕ) (checks : Bool) → words (stub_lines main checks) ≤ 400
stub_words main true = lit≤ tt
stub_words main false = lit≤ tt

-- ---- the code of each function

abbrev allowed : Program → Function → ℕ
allowed p g = (1 + nodes g) * (1 + assignments p g)

pub functions_short : (gs : List Function) (cs : List Labelled) → length cs ≡ length gs →
    ((f : ℕ) (g : Function) (code : Labelled) → slice_get gs f ≡ Some g → slice_get cs f ≡ Some code → code_words code ≤ words_of g) →
    sum_by code_words cs ≤ sum (map words_of gs)
functions_short [] [] e h = omega arith
functions_short [] (code ∷ cs) e h = absurd (omega (arith, e))
functions_short (g ∷ gs) [] e h = absurd (omega (arith, e))
functions_short (g ∷ gs) (code ∷ cs) e h =
    let rest = functions_short gs cs (omega (arith, e)) (λ f g code there is. h (suc f) g code there is) in
    let here = h 0 g code refl refl in
    omega (arith, rest, here, sum_by-cons code_words code cs, sum_by-cons (λ x. x) (words_of g) (map words_of gs))

-- ---- the code of variants

abbrev pub variant_words : Program → Function → ℕ
variant_words p g = assignments p g * words_of g

-- an attributed function is one of all
attributed_there : (gs : List Function) (n : ℕ) (g : Function) → slice_get (filter (λ (h : Function). h.attributed) gs) n ≡ Some g → (f : ℕ) × (slice_get gs f ≡ Some g)
attributed_there [] n g is = absurd (let bad : ⊥ = cc in bad)
attributed_there (x ∷ gs) n g is = by (λ k e. attributed_there gs k g e) x.attributed refl n is
  where
    rest : List Function
    rest = filter (λ (h : Function). h.attributed) gs

    Finds : Type 0
    Finds = (k : ℕ) → slice_get rest k ≡ Some g → (f : ℕ) × (slice_get gs f ≡ Some g)

    later : Finds → (k : ℕ) → slice_get rest k ≡ Some g → (f : ℕ) × (slice_get (x ∷ gs) f ≡ Some g)
    later found k e = let h = found k e in (suc h.0, h.1)

    by : Finds → (b : Bool) → x.attributed ≡ b → (k : ℕ) → slice_get (cond b (x ∷ rest) rest) k ≡ Some g → (f : ℕ) × (slice_get (x ∷ gs) f ≡ Some g)
    by found true e zero is = (0, is)
    by found true e (suc k) is = later found k is
    by found false e k is = later found k is

each_short : (limit : ℕ) (vs : List PartVariant) → All (λ (v : PartVariant). code_words v.code ≤ limit) vs → sum_by code_words (variant_codes vs) ≤ length vs * limit
each_short limit [] all = omega arith
each_short limit (v ∷ vs) all =
    let here = All-head (λ (x : PartVariant). code_words x.code ≤ limit) v vs all in
    let rest = each_short limit vs (All-tail (λ (x : PartVariant). code_words x.code ≤ limit) v vs all) in
    omega (arith, here, rest, sum_by-cons code_words v.code (variant_codes vs), suc-mul (length vs) limit)

-- those of some functions, of which the attributed ones have variants
variants_short : (p : Program) (gs : List Function) (attributed : List PartFunction) → length attributed ≤ length (filter (λ (h : Function). h.attributed) gs) →
    ((n : ℕ) (g : Function) (a : PartFunction) → slice_get (filter (λ (h : Function). h.attributed) gs) n ≡ Some g → slice_get attributed n ≡ Some a →
    sum_by code_words (variant_codes a.variants) ≤ variant_words p g) →
    sum_by code_words (variant_codes (function_variants attributed)) ≤ sum (map (variant_words p) gs)
variants_short p gs [] few each = omega arith
variants_short p [] (a ∷ attributed) few each = absurd (omega (arith, few))
variants_short p (g ∷ gs) (a ∷ attributed) few each = by (λ others less those. variants_short p gs others less those) g.attributed refl few each
  where
    rest : List Function
    rest = filter (λ (h : Function). h.attributed) gs

    Each : List Function → List PartFunction → Type 0
    Each hs others = (n : ℕ) (h : Function) (b : PartFunction) → slice_get hs n ≡ Some h → slice_get others n ≡ Some b → sum_by code_words (variant_codes b.variants) ≤ variant_words p h

    Rest : Type 0
    Rest = (others : List PartFunction) → length others ≤ length rest → Each rest others → sum_by code_words (variant_codes (function_variants others)) ≤ sum (map (variant_words p) gs)

    by : Rest → (b : Bool) → g.attributed ≡ b → length (a ∷ attributed) ≤ length (cond b (g ∷ rest) rest) → Each (cond b (g ∷ rest) rest) (a ∷ attributed) →
        sum_by code_words (variant_codes (function_variants (a ∷ attributed))) ≤ sum (map (variant_words p) (g ∷ gs))
    by shorter true e few each =
        let here = each 0 g a refl refl in
        let more = shorter attributed (omega (arith, few)) (λ n h b x y. each (suc n) h b x y) in
        omega (
          arith,
          here,
          more,
          ap (sum_by code_words) (map-append (λ (v : PartVariant). v.code) a.variants (function_variants attributed)),
          sum_by-append code_words (variant_codes a.variants) (variant_codes (function_variants attributed)),
          sum_by-cons (λ x. x) (variant_words p g) (map (variant_words p) gs),
        )
    by shorter false e few each =
        let more = shorter (a ∷ attributed) few each in
        omega (arith, more, sum_by-cons (λ x. x) (variant_words p g) (map (variant_words p) gs))

-- a function's own code, and its variants'
pub all_words : (p : Program) (gs : List Function) → sum (map words_of gs) + sum (map (variant_words p) gs) ≤ 40 * sum (map (allowed p) gs)
all_words p [] = omega arith
all_words p (g ∷ gs) =
    let n = 1 + nodes g in
    let m = assignments p g in
    let one : 1 + m ≡ suc m = omega arith in
    let here : n * (1 + m) ≡ m * n + n = ap (λ x. n * x) one ∙ mul_comm n (suc m) ∙ suc-mul m n in
    let own : m * (40 * n) ≡ 40 * (m * n) = mul_left_comm m 40 n in
    omega (
      arith,
      here,
      own,
      all_words p gs,
      sum_by-cons (λ x. x) (words_of g) (map words_of gs),
      sum_by-cons (λ x. x) (variant_words p g) (map (variant_words p) gs),
      sum_by-cons (λ x. x) (allowed p g) (map (allowed p) gs),
    )

pub texts_pass : LinesAreShort → TextsPass
texts_pass short p formed parts own variants count text =
    let sizes = text.least.fits.sizes in
    let past = text.under.past in
    let is = text.under.count_is in
    let few = sized (linked_lines parts) text.sizing sizes.one_each sizes.at_most in
    let all = functions_short p.functions parts.functions own.one_each each in
    let more = variants_short p p.functions parts.attributed variants.few each_variants in
    omega (
      arith,
      past,
      is,
      few,
      all,
      more,
      all_words p p.functions,
      sum_by-append greatest_words (stub_lines parts.main (has_pointers parts)) (function_parts 0 (length (codes parts)) (codes parts)),
      stub_words parts.main (has_pointers parts),
      parts_words 0 (length (codes parts)) (codes parts),
      sum_by-append code_words parts.functions (variant_codes (function_variants parts.attributed)),
    )
  where
    short_code : (f : ℕ) (g : Function) → slice_get p.functions f ≡ Some g → (code : Labelled) → IsCodeOf p g code → code_words code ≤ words_of g
    short_code f g there code c =
        subst (λ lines. words lines ≤ words_of g) (sym c.items)
        (short p f g (record { formed = formed; there = there }) c.body c.of c.suitable c.fits c.attributed)

    each : (f : ℕ) (g : Function) (code : Labelled) → slice_get p.functions f ≡ Some g → slice_get parts.functions f ≡ Some code → code_words code ≤ words_of g
    each f g code there is = short_code f g there code (own.each f g code there is)

    each_variants : (n : ℕ) (g : Function) (a : PartFunction) → slice_get (attributed_functions p) n ≡ Some g → slice_get parts.attributed n ≡ Some a →
        sum_by code_words (variant_codes a.variants) ≤ variant_words p g
    each_variants n g a there is =
        let h = variants.each n g a there is in
        let at = attributed_there p.functions n g there in
        let most = each_short (words_of g) a.variants
        (All-weaker (λ (v : PartVariant). IsCodeOf p g v.code) (λ (v : PartVariant). code_words v.code ≤ words_of g) (λ v c. short_code at.0 g at.1 v.code c) a.variants h.each) in
        let less = mul-le-mul_right (words_of g) h.few in
        omega (arith, most, less)
