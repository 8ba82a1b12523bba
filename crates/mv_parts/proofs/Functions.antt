-- The bodies of functions and their code, one by one.
use Rattle.std.proofs.Common.{◌≡◌, ℕ, ◌<◌, ◌≤◌, false, List, [], ◌∷◌, ◌++◌, Option, None, Some, length, map, slice_get, get_or, refl, sym, ◌∙◌, ap, subst, arith}
use Rattle.std.specs.Prelude.{IfSome}
use Rattle.std.proofs.lemmas.List.{length-map}
use Rattle.std.proofs.lemmas.Option.{slice_get-get_or, same_Some}
use Rattle.mv_ast.specs.declared.program.Program.{Program}
use Rattle.mv_ast.specs.declared.program.Function.{Function}
use Rattle.mv_ast.specs.Counts.{is_attributed}
use Rattle.mv_isa.specs.declared.labelled.Labelled.{Labelled}
use Rattle.mv_ir.specs.declared.body.Body.{Body}
use Rattle.mv_ir.specs.Keeps.{KeepsBody}
use Rattle.mv_ir.specs.Live.{IsWhole}
use Rattle.mv_ir.specs.Shorts.{Shorts}
use Rattle.mv_ir.specs.WellFormed as ir
use Rattle.mv_select.specs.Calls.Convention.{frame_limit}
use Rattle.mv_lower_spec.specs.Functions.{lower_function}
use Rattle.mv_lower_spec.specs.Shape.Law.{LoweredAreWhole, LoweredAreWellFormed}
use Rattle.mv_source_forms.specs.WellFormed.{IsWellFormed}
use Rattle.mv_expand.specs.Straight.{AllShort}
use Rattle.mv_variants.specs.Bound.Shorts.{AreShortsOf, IsShortOf, IsShortened, ShortsHaveWords}
use Rattle.mv_variants.specs.Bound.General.{IsGeneral}
use Rattle.mv_variants.specs.Bound.Programs.{IsGeneralOf}
use Rattle.mv_select.specs.declared.error.SelectError.{SelectError}
use Rattle.mv_select.specs.declared.error.SelectError.TheVariants.{Frame, Memory}
use Rattle.mv_select.specs.Selected.{OnFrame}
use Rattle.mv_parts.specs.Codes.{AreGenerics, IsGeneric, IsLowered, HasCode, FramesFit, PassesFrame, PassesFirstFrame, frame_size}
use Rattle.mv_parts.proofs.Lists.{each_push, map_at}
use Rattle.mv_num.proofs.Lists.{there_at}

-- ---- short bodies

pub shorts_have_words : (p : Program) (shorts : Shorts) → AreShortsOf p shorts → ShortsHaveWords shorts
shorts_have_words p shorts known f b there = let short = known f b there in (short.short, short.words)

pub all_short : (p : Program) (shorts : Shorts) → AreShortsOf p shorts → AllShort shorts
all_short p shorts known f b there = (known f b there).short

module _ (p : Program) where
  pub none_known : (shorts : Shorts) → shorts ≡ [] → AreShortsOf p shorts
  none_known shorts none f b there = let bad : None ≡ Some (Some b) = ap (λ (xs : Shorts). slice_get xs f) (sym none) ∙ there in absurd (cc bad)

  -- one that is none, or a short body of the function with a number
  abbrev IfShort : ℕ → Option Body → Type 0
  IfShort i short = (b : Body) → short ≡ Some b → IsShortOf p i b

  pub shorts_push : (shorts : Shorts) → AreShortsOf p shorts → (i : ℕ) → length shorts ≡ i → (short : Option Body) → IfSome short (IsShortOf p i) → AreShortsOf p (shorts ++ short ∷ [])
  shorts_push shorts known i count short is f b there = each_push IfShort shorts short before last f (Some b) there b refl
    where
      before : (k : ℕ) (o : Option Body) → slice_get shorts k ≡ Some o → IfShort k o
      before k o at c e = known k c (at ∙ ap Some e)

      last : IfShort (length shorts) short
      last c e = subst (λ k. IsShortOf p k c) (sym count) (by short is e)
        where
          by : (o : Option Body) → IfSome o (IsShortOf p i) → o ≡ Some c → IsShortOf p i c
          by None h f = absurd (let bad : ⊥ = cc in bad)
          by (Some d) h f = subst (IsShortOf p i) (same_Some d c f) h

  -- what is short of a body is short of the function that it is lowered from, where that isn't attributed
  pub short_is : (i : ℕ) (body : Body) → IsLowered p i body → is_attributed (slice_get p.functions i) ≡ false → (short : Option Body) → IfSome short (IsShortened body) →
      IfSome short (IsShortOf p i)
  short_is i body lowered plain None h = tt
  short_is i body lowered plain (Some b) h = record {
    function = lowered.function;
    there = lowered.there;
    plain = sym (ap is_attributed lowered.there) ∙ plain;
    params = h.params ∙ ap (λ (x : Body). x.params) lowered.is;
    keeps = subst (λ (x : Body). KeepsBody x b) lowered.is h.keeps;
    short = h.short;
    words = h.words;
  }

-- ---- bodies

module _ (p : Program) where
  pub lowered_at : (bodies : List Body) (i : ℕ) (body : Body) → bodies ≡ map (lower_function p) p.functions → i < length bodies → body ≡ get_or bodies i body → IsLowered p i body
  lowered_at bodies i body e below is =
      let long = ap length e ∙ length-map p.functions (lower_function p) in
      let g = there_at p.functions i (omega (arith, below, long)) in
      let here : slice_get bodies i ≡ Some body = slice_get-get_or bodies i body below ∙ ap Some (sym is) in
      let there : slice_get bodies i ≡ Some (lower_function p g.0) = ap (λ xs. slice_get xs i) e ∙ map_at (lower_function p) p.functions i g.0 g.1 in
      record { function = g.0; there = g.1; is = same_Some body (lower_function p g.0) (sym here ∙ there) }

  pub whole_at : LoweredAreWhole → IsWellFormed p → (i : ℕ) (body : Body) → IsLowered p i body → IsWhole body
  whole_at whole formed i body h = subst IsWhole (sym h.is) (whole p i h.function (record { formed = formed; there = h.there }))

  pub formed_at : LoweredAreWellFormed → IsWellFormed p → (i : ℕ) (body : Body) → IsLowered p i body → ir.IsWellFormed body
  formed_at well formed i body h = subst ir.IsWellFormed (sym h.is) (well p i h.function (record { formed = formed; there = h.there }))

  -- each of some bodies is that of its function
  abbrev pub EachGeneral : List Body → Type 0
  EachGeneral bodies = (f : ℕ) (g : Function) (body : Body) → slice_get p.functions f ≡ Some g → slice_get bodies f ≡ Some body → IsGeneralOf p g body

  pub general_push : (bodies : List Body) → EachGeneral bodies → (i : ℕ) → length bodies ≡ i → (body other : Body) → IsLowered p i body → (shorts : Shorts) →
      AreShortsOf p shorts → IsGeneral shorts body other → EachGeneral (bodies ++ other ∷ [])
  general_push bodies each i count body other lowered shorts known general f g b there is = each_push P bodies other before last f b is g there
    where
      P : ℕ → Body → Type 0
      P k y = (h : Function) → slice_get p.functions k ≡ Some h → IsGeneralOf p h y

      before : (k : ℕ) (y : Body) → slice_get bodies k ≡ Some y → P k y
      before k y at h here = each k h y here at

      last : P (length bodies) other
      last h here =
          let same = same_Some lowered.function h (sym lowered.there ∙ (ap (λ k. slice_get p.functions k) (sym count) ∙ here)) in
          subst (λ (x : Function). IsGeneralOf p x other) same (record { shorts = shorts; known = known; general = subst (λ x. IsGeneral shorts x other) lowered.is general })

  -- ---- code

  pub generic_at : (bodies : List Body) → AreGenerics p bodies → (i : ℕ) (body : Body) → i < length bodies → body ≡ get_or bodies i body → IsGeneric p i body
  generic_at bodies are i body below is =
      let g = there_at p.functions i (omega (arith, below, are.one_each)) in
      let here = slice_get-get_or bodies i body below ∙ ap Some (sym is) in
      record { function = g.0; there = g.1; general = are.each i g.0 body g.1 here }

  module _ (bodies : List Body) where
    -- each of some code is that of its body
    abbrev pub EachCode : List Labelled → Type 0
    EachCode codes = (f : ℕ) (body : Body) (code : Labelled) → slice_get bodies f ≡ Some body → slice_get codes f ≡ Some code → HasCode p f body code

    pub code_push : (codes : List Labelled) → EachCode codes → (i : ℕ) → length codes ≡ i → i < length bodies → (body : Body) → body ≡ get_or bodies i body →
        (code : Labelled) → HasCode p i body code → EachCode (codes ++ code ∷ [])
    code_push codes each i count below body is code has f b c there at = each_push P codes code before last f c at b there
      where
        P : ℕ → Labelled → Type 0
        P k y = (x : Body) → slice_get bodies k ≡ Some x → HasCode p k x y

        before : (k : ℕ) (y : Labelled) → slice_get codes k ≡ Some y → P k y
        before k y here x with_body = each k x y with_body here

        body_is : slice_get bodies i ≡ Some body
        body_is = slice_get-get_or bodies i body below ∙ ap Some (sym is)

        last : P (length codes) code
        last x with_body =
            let same = same_Some body x (sym body_is ∙ (ap (λ k. slice_get bodies k) (sym count) ∙ with_body)) in
            subst (λ (z : Body). HasCode p (length codes) z code) same (subst (λ k. HasCode p k body code) (sym count) has)

    -- the functions that have code have frames that are small enough
    pub frames_before : (codes : List Labelled) → EachCode codes → (n : ℕ) → length codes ≡ n → n ≤ length bodies → FramesFit p n
    frames_before codes each n count within f g below there =
        let body = there_at bodies f (omega (arith, below, within)) in
        let code = there_at codes f (omega (arith, count, below)) in
        let has = each f body.0 code.0 body.1 code.1 in
        subst (λ (k : Function). frame_size p k ≤ frame_limit) (same_Some has.function g (sym has.there ∙ there)) has.frame

  -- ---- refusals

  -- a frame that is too large behind those that aren't
  first_frame : (f named bytes : ℕ) → FramesFit p f → PassesFrame p f named bytes → PassesFirstFrame p named bytes
  first_frame f named bytes fit h = record {
    before = subst (FramesFit p) (sym h.is_function) fit;
    first = subst (λ k. PassesFrame p k named bytes) (sym h.is_function) h;
  }

  pub frame_refused : (f : ℕ) (e : SelectError) → FramesFit p f → OnFrame e (PassesFrame p f) → OnFrame e (PassesFirstFrame p)
  frame_refused f (Frame named bytes) fit h = first_frame f named bytes fit h
  frame_refused f (Memory e) fit h = tt
