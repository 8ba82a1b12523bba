-- Tables of variants that there is room for, one more at a time.
use Rattle.std.proofs.Common.{◌≡◌, ℕ, List, [], ◌∷◌, ◌++◌, All, None, Some, length, slice_get, sym, ap, ◌∙◌, subst}
use Rattle.std.proofs.lemmas.List.{append-nil}
use Rattle.std.proofs.lemmas.List.Concat.{flat_map-append}
use Rattle.std.proofs.lemmas.List.Elements.{All-weaker}
use Rattle.std.proofs.lemmas.Option.{same_Some}
use Rattle.mv_ast.specs.declared.program.Program.{Program}
use Rattle.mv_ast.specs.declared.program.Function.{Function}
use Rattle.mv_ir.specs.declared.body.Body.{Body}
use Rattle.mv_ir.specs.Shorts.{Shorts}
use Rattle.mv_lower_spec.specs.Functions.{lower_function}
use Rattle.mv_variants.specs.declared.size.Size.{Size}
use Rattle.mv_variants.specs.declared.variant.Variant.{Variant}
use Rattle.mv_variants.specs.Bound.Shorts.{AreShortsOf}
use Rattle.mv_variants.specs.Fronts.{PassesWithin}
use Rattle.mv_variants.specs.Sizes.{Fits, IsMadeAndSelected, IsWith}
use Rattle.mv_variants.specs.Variants.{bodies_of, IsLoweredFrom}
use Rattle.mv_count_code.specs.Fronts.{IsCodedOf}
use Rattle.mv_variants.proofs.Sizes.{with_less, with_more, with_none}
use Rattle.mv_parts.specs.Fronts.{all_bodies, AreCoded, AreFirstTables, PassesFront}
use Rattle.mv_parts.specs.Numbers.{attributed_numbers}
use Rattle.mv_parts.proofs.Lists.{each_push}

all_push : (tables : List (List Variant)) (variants : List Variant) → all_bodies (tables ++ variants ∷ []) ≡ all_bodies tables ++ bodies_of variants
all_push tables variants = flat_map-append bodies_of tables (variants ∷ []) ∙ ap (λ bs. all_bodies tables ++ bs) (append-nil (bodies_of variants))

-- bodies that are made of a function with short bodies of the program
all_coded : (p : Program) (g : Function) (shorts : Shorts) → AreShortsOf p shorts → (bodies : List Body) → All (IsMadeAndSelected shorts (lower_function p g)) bodies → All (IsCodedOf p g) bodies
all_coded p g shorts known =
    All-weaker (IsMadeAndSelected shorts (lower_function p g)) (IsCodedOf p g) (λ b h. record { shorts = shorts; known = known; coded = h })

-- at first there are none
module _ (p : Program) (tables : List (List Variant)) (none : tables ≡ []) where
  pub none_first : AreFirstTables p tables
  none_first n f variants nth is =
      let bad : None ≡ Some variants = ap (λ (xs : List (List Variant)). slice_get xs n) (sym none) ∙ is in absurd (cc bad)

  pub none_coded : AreCoded p tables
  none_coded n f g variants nth there is =
      let bad : None ≡ Some variants = ap (λ (xs : List (List Variant)). slice_get xs n) (sym none) ∙ is in absurd (cc bad)

  pub none_with : (size : Size) → Fits size → IsWith size (all_bodies tables) size
  none_with size fits = subst (λ (xs : List (List Variant)). IsWith size (all_bodies xs) size) (sym none) (with_none size fits)

module _ (p : Program) (size : Size) where
  module _ (tables : List (List Variant)) (coded : AreCoded p tables) (n f : ℕ) (count : length tables ≡ n) (nth : slice_get (attributed_numbers p) n ≡ Some f)
      (before : Size) (behind : IsWith size (all_bodies tables) before) where
    pub coded_push : (body : Body) → IsLoweredFrom p f body → (shorts : Shorts) → AreShortsOf p shorts → (variants : List Variant) →
        All (IsMadeAndSelected shorts body) (bodies_of variants) → AreCoded p (tables ++ variants ∷ [])
    coded_push body lowered shorts known variants all m k g vs number there is = each_push P tables variants earlier last m vs is k g number there
      where
        P : ℕ → List Variant → Type 0
        P i y = (j : ℕ) (h : Function) → slice_get (attributed_numbers p) i ≡ Some j → slice_get p.functions j ≡ Some h → All (IsCodedOf p h) (bodies_of y)

        earlier : (i : ℕ) (y : List Variant) → slice_get tables i ≡ Some y → P i y
        earlier i y here j h with_number with_function = coded i j h y with_number with_function here

        last : P (length tables) variants
        last j h with_number with_function =
            let same : f ≡ j = same_Some f j (sym nth ∙ (ap (λ i. slice_get (attributed_numbers p) i) (sym count) ∙ with_number)) in
            let is_lowered : body ≡ lower_function p h = lowered h (ap (λ i. slice_get p.functions i) same ∙ with_function) in
            all_coded p h shorts known (bodies_of variants) (subst (λ (b : Body). All (IsMadeAndSelected shorts b) (bodies_of variants)) is_lowered all)

    pub with_push : (variants : List Variant) (after : Size) → IsWith before (bodies_of variants) after → IsWith size (all_bodies (tables ++ variants ∷ [])) after
    with_push variants after is =
        subst (λ (bs : List Body). IsWith size bs after) (sym (all_push tables variants)) (with_more size before after (all_bodies tables) (bodies_of variants) behind is)

    pub front_over : AreFirstTables p tables → (g : Function) → slice_get p.functions f ≡ Some g → (over : Size) → PassesWithin p g before over → PassesFront p size over
    front_over first g there over h = record {
      tables = tables;
      earlier = h.earlier;
      last = h.last;
      front = record {
        first_tables = first;
        coded = coded;
        number = f;
        function = g;
        nth = ap (λ i. slice_get (attributed_numbers p) i) count ∙ nth;
        there = there;
        first_bodies = h.first;
        each = all_coded p g h.first.shorts h.first.known (h.earlier ++ h.last ∷ []) h.passes.each;
      };
      before = λ with is. h.passes.before with (with_less size before with (all_bodies tables) h.earlier behind is);
      is = with_more size before over (all_bodies tables) (h.earlier ++ h.last ∷ []) behind h.passes.is;
      past = h.passes.past;
    }
