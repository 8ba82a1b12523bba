-- Tables of variants, and what is linked of them, one more at a time.
use Rattle.std.proofs.Common.{arith, ◌≡◌, ℕ, ◌+◌, ◌<◌, List, [], ◌∷◌, ◌++◌, Some, length, map, take, get_or, slice_get, refl, sym, ap, ◌∙◌, subst}
use Rattle.std.proofs.lemmas.List.{take_more, length-map, length-take-le, map-append}
use Rattle.std.proofs.lemmas.Option.{slice_get_within, slice_get_read, same_Some}
use Rattle.mv_ast.specs.declared.program.Program.{Program}
use Rattle.mv_ast.specs.declared.program.Function.{Function}
use Rattle.mv_ir.specs.declared.body.Body.{Body}
use Rattle.mv_linker.specs.declared.parts.PartFunction.{PartFunction}
use Rattle.mv_linker.specs.declared.parts.PartVariant.{PartVariant}
use Rattle.mv_lower_spec.specs.Functions.{lower_function}
use Rattle.mv_variants.specs.declared.variant.Variant.{Variant}
use Rattle.mv_variants.specs.Variants.{AreVariantsOf, IsLoweredFrom}
use Rattle.mv_parts.specs.Fronts.{AreFirstTables}
use Rattle.mv_parts.specs.Numbers.{attributed_numbers}
use Rattle.mv_parts.specs.Parts.{AreTables, IsPartVariant, IsPartFunction}
use Rattle.mv_parts.proofs.Lists.{each_push, map_at}
use Rattle.mv_parts.proofs.Numbers.{attributed_at}

-- ---- tables

-- a body is that of its function
pub lowered_from : (p : Program) (bodies : List Body) → bodies ≡ map (lower_function p) p.functions → (f : ℕ) (body : Body) → f < length bodies → body ≡ get_or bodies f body →
    IsLoweredFrom p f body
lowered_from p bodies e f body below is g there =
    let here : slice_get bodies f ≡ Some body = slice_get_read bodies (length bodies) f body refl below is in
    same_Some body (lower_function p g) (sym here ∙ ap (λ xs. slice_get xs f) e ∙ map_at (lower_function p) p.functions f g there)

module _ (p : Program) where
  pub table_push : (tables : List (List Variant)) → AreFirstTables p tables → (n f : ℕ) → length tables ≡ n → slice_get (attributed_numbers p) n ≡ Some f → (variants : List Variant) →
      AreVariantsOf p f variants → AreFirstTables p (tables ++ variants ∷ [])
  table_push tables each n f count at variants are m k vs there is = each_push P tables variants before last m vs is k there
    where
      P : ℕ → List Variant → Type 0
      P i y = (h : ℕ) → slice_get (attributed_numbers p) i ≡ Some h → AreVariantsOf p h y

      before : (i : ℕ) (y : List Variant) → slice_get tables i ≡ Some y → P i y
      before i y here h with_number = each i h y with_number here

      last : P (length tables) variants
      last h with_number =
          let same = same_Some f h (sym at ∙ (ap (λ i. slice_get (attributed_numbers p) i) (sym count) ∙ with_number)) in
          subst (λ i. AreVariantsOf p i variants) same are

-- ---- variants that are linked

-- each of some parts is that of its variant
abbrev pub EachVariant : List Variant → List PartVariant → Type 0
EachVariant variants parts = (j : ℕ) (v : Variant) (part : PartVariant) → slice_get variants j ≡ Some v → slice_get parts j ≡ Some part → IsPartVariant v part

pub variant_push : (variants : List Variant) (parts : List PartVariant) → EachVariant variants parts → (j : ℕ) → length parts ≡ j → (v : Variant) → slice_get variants j ≡ Some v →
    (part : PartVariant) → IsPartVariant v part → EachVariant variants (parts ++ part ∷ [])
variant_push variants parts each j count v at part is k w q there here = each_push P parts part before last k q here w there
  where
    P : ℕ → PartVariant → Type 0
    P i y = (x : Variant) → slice_get variants i ≡ Some x → IsPartVariant x y

    before : (i : ℕ) (y : PartVariant) → slice_get parts i ≡ Some y → P i y
    before i y behind x with_variant = each i x y with_variant behind

    last : P (length parts) part
    last x with_variant =
        let same = same_Some v x (sym at ∙ (ap (λ i. slice_get variants i) (sym count) ∙ with_variant)) in
        subst (λ (z : Variant). IsPartVariant z part) same is

-- ---- functions that are linked

module _ (p : Program) (tables : List (List Variant)) where
  -- each of some parts is that of its function
  abbrev pub EachPart : List PartFunction → Type 0
  EachPart parts =
      (n f : ℕ) (g : Function) (variants : List Variant) (part : PartFunction) → slice_get (attributed_numbers p) n ≡ Some f → slice_get p.functions f ≡ Some g →
      slice_get tables n ≡ Some variants → slice_get parts n ≡ Some part → IsPartFunction g f variants part

  pub part_push : (parts : List PartFunction) → EachPart parts → (n : ℕ) → length parts ≡ n → (f : ℕ) → slice_get (attributed_numbers p) n ≡ Some f →
      (g : Function) → slice_get p.functions f ≡ Some g → (variants : List Variant) → slice_get tables n ≡ Some variants → (part : PartFunction) → IsPartFunction g f variants part →
      EachPart (parts ++ part ∷ [])
  part_push parts each n count f at g there variants in_table part is m k h vs q number function table here = each_push P parts part before last m q here k h vs number function table
    where
      P : ℕ → PartFunction → Type 0
      P i y =
          (i_is : ℕ) (x : Function) (zs : List Variant) → slice_get (attributed_numbers p) i ≡ Some i_is → slice_get p.functions i_is ≡ Some x → slice_get tables i ≡ Some zs →
          IsPartFunction x i_is zs y

      before : (i : ℕ) (y : PartFunction) → slice_get parts i ≡ Some y → P i y
      before i y behind i_is x zs a b c = each i i_is x zs y a b c behind

      last : P (length parts) part
      last i_is x zs a b c =
          let same_number = same_Some f i_is (sym at ∙ (ap (λ i. slice_get (attributed_numbers p) i) (sym count) ∙ a)) in
          let same_function = same_Some g x (sym there ∙ (ap (λ i. slice_get p.functions i) same_number ∙ b)) in
          let same_variants = same_Some variants zs (sym in_table ∙ (ap (λ i. slice_get tables i) (sym count) ∙ c)) in
          subst (λ i. IsPartFunction x i zs part) same_number
          (subst (λ (ys : List Variant). IsPartFunction x f ys part) same_variants (subst (λ (y : Function). IsPartFunction y f variants part) same_function is))

-- the function of an attributed number
pub function_at : (p : Program) (n f : ℕ) → slice_get (attributed_numbers p) n ≡ Some f → (functions : List Function) → functions ≡ p.functions → (g : Function) → g ≡ get_or functions f g →
    slice_get p.functions f ≡ Some g
function_at p n f at functions e g is =
    let a = attributed_at p n f at in
    slice_get_read p.functions (length p.functions) f g refl (slice_get_within p.functions f a.function a.there) (is ∙ ap (λ xs. get_or xs f g) e)

-- the table of its place
pub table_at : (p : Program) (tables : List (List Variant)) → AreTables p tables → (numbers : List ℕ) → numbers ≡ attributed_numbers p → (n : ℕ) → n < length numbers →
    (variants : List Variant) → variants ≡ get_or tables n variants → slice_get tables n ≡ Some variants
table_at p tables are numbers e n below variants is = slice_get_read tables (length tables) n variants refl (omega (arith, are.one_each, ap length e, below)) is

-- the numbers of one part more
pub numbers_push : (numbers : List ℕ) (n d : ℕ) (parts : List PartFunction) (part : PartFunction) → n < length numbers → map (λ (a : PartFunction). a.function) parts ≡ take n numbers →
    part.function ≡ get_or numbers n d → map (λ (a : PartFunction). a.function) (parts ++ part ∷ []) ≡ take (n + 1) numbers
numbers_push numbers n d parts part below is e =
    map-append (λ (a : PartFunction). a.function) parts (part ∷ []) ∙ ap (λ xs. xs ++ part.function ∷ []) is ∙ ap (λ k. take n numbers ++ k ∷ []) e ∙ sym (take_more numbers n d below)

-- there are as many parts as numbers
pub parts_count : (numbers : List ℕ) (n : ℕ) (parts : List PartFunction) → n < length numbers → map (λ (a : PartFunction). a.function) parts ≡ take n numbers → length parts ≡ n
parts_count numbers n parts below is =
    let long = length-map parts (λ (a : PartFunction). a.function) in
    omega (arith, long, ap length is, length-take-le n numbers (omega (arith, below)))
