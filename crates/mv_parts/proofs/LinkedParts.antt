-- The code of a program's functions and variants, one by one: what each is made of.
use Rattle.std.proofs.Common.{◌≡◌, ℕ, true, List, Some, length, slice_get, sym, ap, ◌∙◌, subst, arith}
use Rattle.std.proofs.lemmas.List.{length-map}
use Rattle.std.proofs.lemmas.Option.{slice_get_within}
use Rattle.mv_ast.specs.declared.program.Program.{Program}
use Rattle.mv_ast.specs.declared.program.Function.{Function}
use Rattle.mv_ast.specs.Switches.{attributed_functions}
use Rattle.mv_isa.specs.declared.labelled.Labelled.{Labelled}
use Rattle.mv_ir.specs.declared.body.Body.{Body}
use Rattle.mv_variants.specs.Bound.Programs.{IsGeneralOf}
use Rattle.mv_linker.specs.declared.parts.PartFunction.{PartFunction}
use Rattle.mv_linker.specs.declared.parts.PartVariant.{PartVariant}
use Rattle.mv_variants.specs.declared.variant.Variant.{Variant}
use Rattle.mv_variants.specs.Variants.{AreVariants}
use Rattle.mv_parts.specs.Codes.{IsCodeOf}
use Rattle.mv_parts.specs.Numbers.{attributed_numbers}
use Rattle.mv_parts.specs.Parts.{IsPartVariant, ArePartVariants, IsPartFunction, AreCodesOf}
use Rattle.mv_ir_worlds.proofs.Functions.{attributed_at as nth_attributed}
use Rattle.mv_parts.proofs.LinkedNumbers.{as_many}
use Rattle.mv_parts.proofs.Numbers.{attributed_at, place_of}
use Rattle.mv_num.proofs.Lists.{there_at}

-- the code of the function with a number, and the body that it is selected for
pub record IsOwnCode (p : Program) (f : ℕ) (code : Labelled) : Type 0 where
  pub function : Function
  pub there : slice_get p.functions f ≡ Some function
  pub body : Body
  pub general : IsGeneralOf p function body
  pub is_code : IsCodeOf function.attributed body code

-- an attributed function that is linked, by its place among these, and its variants
pub record IsAttributedPart (p : Program) (n : ℕ) (a : PartFunction) : Type 0 where
  pub number : ℕ
  pub function : Function
  pub there : slice_get p.functions number ≡ Some function
  pub attributed : function.attributed ≡ true
  pub nth : slice_get (attributed_functions p) n ≡ Some function
  pub variants : List Variant
  pub variants_are : AreVariants p function variants
  pub part : IsPartFunction function number variants a

-- a variant that is linked, by its place among those of its function
pub record IsVariantPart (variants : List Variant) (j : ℕ) (part : PartVariant) : Type 0 where
  pub variant : Variant
  pub there : slice_get variants j ≡ Some variant
  pub is : IsPartVariant variant part

pub variant_part : (variants : List Variant) (parts : List PartVariant) → ArePartVariants variants parts → (j : ℕ) (part : PartVariant) → slice_get parts j ≡ Some part →
    IsVariantPart variants j part
variant_part variants parts h j part is =
    let within = slice_get_within parts j part is in
    let count = h.one_each in
    let (v, there) = there_at variants j (omega (arith, within, count)) in
    record { variant = v; there = there; is = h.each j v part there is }

module _ (p : Program) (bodies : List Body) (tables : List (List Variant)) (functions : List Labelled) (attributed : List PartFunction)
    (are : AreCodesOf p bodies tables functions attributed) where
  pub own_code : (f : ℕ) (code : Labelled) → slice_get functions f ≡ Some code → IsOwnCode p f code
  own_code f code is =
      let within = slice_get_within functions f code is in
      let count = are.code.one_each in
      let bodies_count = are.generics.one_each in
      let (b, of) = there_at bodies f (omega (arith, within, count, bodies_count)) in
      let has = are.code.each f b code of is in
      record { function = has.function; there = has.there; body = b; general = are.generics.each f has.function b has.there of; is_code = has.is_code }

  pub part_count : length attributed ≡ length (attributed_numbers p)
  part_count = sym (length-map attributed (λ (a : PartFunction). a.function)) ∙ ap length are.variants.numbers

  -- the part of a function by its number among the attributed ones
  pub part_there : (n f : ℕ) → slice_get (attributed_numbers p) n ≡ Some f → (a : PartFunction) × (slice_get attributed n ≡ Some a)
  part_there n f number = let within = slice_get_within (attributed_numbers p) n f number in there_at attributed n (omega (arith, part_count, within))

  pub as_many_parts : length attributed ≡ length (attributed_functions p)
  as_many_parts = part_count ∙ as_many 0 p.functions

  pub attributed_part : (n : ℕ) (a : PartFunction) → slice_get attributed n ≡ Some a → IsAttributedPart p n a
  attributed_part n a is =
      let within = slice_get_within attributed n a is in
      let count = part_count in
      let tables_count = are.are_tables.one_each in
      let (f, among) = there_at (attributed_numbers p) n (omega (arith, within, count)) in
      let (variants, table) = there_at tables n (omega (arith, within, count, tables_count)) in
      let at = attributed_at p n f among in
      record {
        number = f;
        function = at.function;
        there = at.there;
        attributed = at.attributed;
        nth = subst (λ m. slice_get (attributed_functions p) m ≡ Some at.function) (place_of p n f among) (nth_attributed p.functions f at.function at.there at.attributed);
        variants = variants;
        variants_are = are.are_tables.each n f variants among table at.function at.there;
        part = are.variants.each n f at.function variants a among at.there table is;
      }
