-- The limits that a program passes, by the answers of the steps.
use Rattle.std.proofs.Common.{◌≡◌, ◌⊎◌, inl, inr, ℕ, ◌<◌, ◌≤◌, Bool, true, false, cond, List, length, refl, ap₂, subst, sym, ◌∙◌, arith}
use Rattle.std.specs.Prelude.{nat_lt}
use Rattle.std.proofs.lemmas.Bool.{cases_lt, ltb-false, ltb-true}
use Rattle.mv_ast.specs.declared.program.Program.{Program}
use Rattle.mv_ast.specs.declared.program.Function.{Function}
use Rattle.mv_image.specs.Spelling.{Fields}
use Rattle.mv_isa.specs.declared.labelled.Labelled.{Labelled}
use Rattle.mv_ir.specs.declared.body.Body.{Body}
use Rattle.mv_front.specs.Refusals.{counted}
use Rattle.mv_front.specs.declared.refusal.Refusal.{Refusal}
use Rattle.mv_select.specs.Calls.Convention.{frame_limit}
use Rattle.mv_select.specs.declared.error.SelectError.{SelectError}
use Rattle.mv_select.specs.declared.error.SelectError.TheVariants as selecting
use Rattle.mv_select.specs.Selected.{OnFrame}
use Rattle.mv_linker.specs.declared.parts.Parts.{Parts}
use Rattle.mv_linker.specs.declared.parts.PartFunction.{PartFunction}
use Rattle.mv_linker.specs.declared.parts.Datum.{Datum}
use Rattle.mv_linker.specs.declared.error.LinkError.{LinkError}
use Rattle.mv_linker.specs.declared.error.LinkError.TheVariants as linking
use Rattle.mv_linker.specs.Tables.{site_count}
use Rattle.mv_linker.specs.Outcome.{data_limit, site_limit, HasFewSites, IsRefusal}
use Rattle.mv_link_data.specs.FirstData.{first_data, data_words}
use Rattle.mv_parts.specs.Codes.{frame_size, AreGenerics, FramesFit, HaveCode, PassesFirstFrame}
use Rattle.mv_parts.specs.Counts.{up_to_greatest}
use Rattle.mv_parts.specs.Fronts.{IsSizeOf, PassesFront}
use Rattle.mv_parts.specs.Laws.{DataIsCounted, PartsCanBeLinked}
use Rattle.mv_parts.specs.Parts.{ArePartsOf}
use Rattle.mv_variants.specs.declared.size.Size.{Size}
use Rattle.mv_variants.specs.declared.error.VariantError.{VariantError}
use Rattle.mv_variants.specs.declared.error.VariantError.TheVariants as varying
use Rattle.mv_variants.specs.Sizes.{Fits, OnLimit}
use Rattle.mv_build.specs.declared.error.BuildError.{BuildError}
use Rattle.mv_build.specs.declared.error.BuildError.TheVariants.{Refused, Memory}
use Rattle.mv_build.specs.Compiled.{IsLinkedOf, IsLinkedTo, IsLinkRefusal, IsSound, IsWithinLimits, OnRefusal, PassesVarying, parts_of, without_data}
use Rattle.mv_build.specs.Errors.{of_linking, of_selecting, of_varying, refusal_at}
use Rattle.mv_num.specs.Regions.{text_limit}
use Rattle.mv_build.specs.Verdicts.{IsAllWithin, IsCoded, IsWithin, PassesAt, PassesLimit, PassesWith, large_frame, large_functions, large_parts, large_variants, many_sites, much_data, long_text, too_many_sites, too_many_words}
use Rattle.mv_num.proofs.Lists.{there_at}
use Rattle.std.proofs.lemmas.Option.{same_Some}

-- ---- frames

pub frame_refused : (p : Program) → (e : SelectError) → OnFrame e (PassesFirstFrame p) → OnRefusal (of_selecting e) (PassesLimit p)
frame_refused p (selecting.Frame f bytes) h = large_frame f bytes h
frame_refused p (selecting.Memory e) h = tt

pub frames_fit : (p : Program) (bodies : List Body) (codes : List Labelled) → AreGenerics p bodies → HaveCode p bodies codes → FramesFit p (length p.functions)
frames_fit p bodies codes generics have f g below there =
    let body = there_at bodies f (omega (arith, generics.one_each, below)) in
    let code = there_at codes f (omega (arith, have.one_each, below)) in
    let h = have.each f body.0 code.0 body.1 code.1 in
    subst (λ (x : Function). frame_size p x ≤ frame_limit) (same_Some h.function g (sym h.there ∙ there)) h.frame

-- ---- sizes

module _ (p : Program) (size : Size) where
  -- code that doesn't fit has too many sites, or too many words
  at_limit : data_words p ≤ data_limit → (Fits size → ⊥) → PassesAt p size (refusal_at size)
  at_limit fits past = by (nat_lt site_limit size.sites) refl (cases_lt text_limit size.words)
    where
      by : (b : Bool) → nat_lt site_limit size.sites ≡ b → (text_limit < size.words) ⊎ (size.words ≤ text_limit) →
          PassesAt p size (cond b (counted 14 0 size.sites) (counted 9 0 size.words))
      by true many words = too_many_sites (ltb-true site_limit size.sites many)
      by false few (inl long) = too_many_words (ltb-false site_limit size.sites few) fits long
      by false few (inr short) = absurd (past (record { words = short; sites = ltb-false site_limit size.sites few }))

module _ (p : Program) (size : Size) (within : IsWithin p size) where
  -- where the variants are more than there is room for
  pub varying_refused : (e : VariantError) → OnLimit e (PassesFront p size) → OnRefusal (of_varying e) (PassesVarying p size)
  varying_refused (varying.Limit over) h = record { over = over; front = h; why = at_limit p over within.data_fits h.past }
  varying_refused (varying.Memory e) h = tt

module _ (p : Program) (bodies : List Body) (functions : List Labelled) (frames : FramesFit p (length p.functions))
    (generics : AreGenerics p bodies) (have : HaveCode p bodies functions) (size : Size) (is : IsSizeOf p functions size) where
  -- and so the program passes a limit
  pub functions_refused : (e : BuildError) → OnRefusal e (PassesAt p size) → OnRefusal e (PassesLimit p)
  functions_refused (Refused r) h = large_functions bodies functions size r frames generics have is h
  functions_refused (Memory e) h = tt

  pub variants_refused : IsWithin p size → (e : BuildError) → OnRefusal e (PassesVarying p size) → OnRefusal e (PassesLimit p)
  variants_refused within (Refused r) h = large_variants bodies functions size h.over r frames generics have is within h.front h.why
  variants_refused within (Memory e) h = tt

-- ---- links

-- why parts aren't linked
pub cause_told : (parts : Parts) (cause : LinkError) → IsRefusal parts cause → OnRefusal (of_linking cause) (IsLinkRefusal parts)
cause_told parts (linking.Sites n) h = record { cause = linking.Sites n; is = refl; why = h }
cause_told parts (linking.DataLimit n) h = record { cause = linking.DataLimit n; is = refl; why = h }
cause_told parts (linking.TextLimit n) h = record { cause = linking.TextLimit n; is = refl; why = h }
cause_told parts (linking.Memory e) h = tt

module _ (p : Program) (parts : Parts) where
  pub sites_past : (sites : ℕ) → sites ≡ up_to_greatest (site_count parts) → site_limit < sites → PassesWith p parts (counted 14 0 sites)
  sites_past sites is past = subst (λ n. PassesWith p parts (counted 14 0 n)) (sym is) (many_sites (omega (arith, is, past)))

  pub few_sites : (sites : ℕ) → sites ≡ up_to_greatest (site_count parts) → sites ≤ site_limit → HasFewSites parts
  few_sites sites is few = omega (arith, is, few)

  pub data_past : HasFewSites parts → data_limit < data_words p → PassesWith p parts (counted 13 0 (data_words p))
  data_past few past = much_data few past

  module _ (few : HasFewSites parts) (fits : data_words p ≤ data_limit) (count : length parts.globals ≡ data_words p) where
    link_refused : (r : Refusal) (cause : LinkError) → Refused r ≡ of_linking cause → IsRefusal parts cause → PassesWith p parts r
    link_refused r (linking.Sites n) e h = absurd (omega (arith, h.0, h.1, few))
    link_refused r (linking.DataLimit n) e h = absurd (omega (arith, h.1, h.2, count, fits))
    link_refused r (linking.TextLimit n) e h =
        let same : counted 9 0 n ≡ r = cc e in
        subst (PassesWith p parts) same (long_text n few fits h.2)
    link_refused r (linking.Memory m) e h = absurd (cc e)

    pub refusal_is : (e : BuildError) → OnRefusal e (IsLinkRefusal parts) → OnRefusal e (PassesWith p parts)
    refusal_is (Refused r) h = link_refused r h.cause h.is h.why
    refusal_is (Memory e) h = tt

  -- and so the program passes it
  pub limit_of : FramesFit p (length p.functions) → (coded : IsCoded p parts) → IsAllWithin p parts.functions coded.tables → (e : BuildError) → OnRefusal e (PassesWith p parts) →
      OnRefusal e (PassesLimit p)
  limit_of frames coded within (Refused r) h = large_parts parts r frames coded within h
  limit_of frames coded within (Memory e) h = tt

-- ---- parts with their data

module _ (p : Program) (functions : List Labelled) (attributed : List PartFunction) where
  pub with_data : (parts : Parts) (words : List Datum) → parts ≡ without_data (parts_of p functions attributed) → words ≡ first_data p →
      record parts { globals = words } ≡ parts_of p functions attributed
  with_data parts words is all = ap₂ (λ (x : Parts) (ds : List Datum). record x { globals = ds }) is all

  -- a limit that they pass without their data is one that they pass
  passes_with : (r : Refusal) → PassesWith p (without_data (parts_of p functions attributed)) r → PassesWith p (parts_of p functions attributed) r
  passes_with r (many_sites past) = many_sites past
  passes_with r (much_data few past) = much_data few past
  passes_with r (long_text count few fits past) = long_text count few fits past

  pub limit_with : (parts : Parts) → parts ≡ without_data (parts_of p functions attributed) → (e : BuildError) → OnRefusal e (PassesWith p parts) →
      OnRefusal e (PassesWith p (parts_of p functions attributed))
  limit_with parts is (Refused r) h = passes_with r (subst (λ (x : Parts). PassesWith p x r) is h)
  limit_with parts is (Memory e) h = tt

  pub within : (parts : Parts) → parts ≡ without_data (parts_of p functions attributed) → IsWithinLimits p parts → IsWithinLimits p (parts_of p functions attributed)
  within parts is h =
      let own = subst (IsWithinLimits p) is h in record { sites = own.sites; data_fits = own.data_fits; labels = own.labels }

  module _ (can_be_linked : PartsCanBeLinked) (counts : DataIsCounted) (sound : IsSound p) (coded : IsCoded p (parts_of p functions attributed))
      (fit : IsWithinLimits p (parts_of p functions attributed)) where
    pub linkable : ArePartsOf p coded.bodies coded.tables (parts_of p functions attributed)
    linkable = can_be_linked p sound.formed sound.facts coded.bodies coded.tables (parts_of p functions attributed) coded.codes refl refl refl refl refl fit.labels fit.data_fits

    pub linked_to : (image : Fields) → IsLinkedOf (parts_of p functions attributed) image → IsLinkedTo p (parts_of p functions attributed) image
    linked_to image of = record { data_fits = fit.data_fits; labels = fit.labels; of = of }

    pub not_linked : (e : BuildError) → OnRefusal e (IsLinkRefusal (parts_of p functions attributed)) → OnRefusal e (PassesWith p (parts_of p functions attributed))
    not_linked = refusal_is p (parts_of p functions attributed) fit.sites fit.data_fits (counts p sound.formed)
