-- A limit that is passed passes its count.
use Rattle.std.proofs.Common.{arith}
use Rattle.mv_front.specs.declared.refusal.Refusal.{Refusal}
use Rattle.mv_accepts_programs.specs.Checked.{ProgramsOfTextsAreWellFormed}
use Rattle.mv_count_code.specs.Sizes.{LoweredFramesPass}
use Rattle.mv_linker.specs.declared.parts.Parts.{Parts}
use Rattle.mv_variants.specs.declared.size.Size.{Size}
use Rattle.mv_parts.specs.Laws.{IsSizeCounted, PartsAreCounted, SizesAreCounted}
use Rattle.mv_build.specs.Verdicts.{IsCoded, PassesAt, PassesLimit, PassesWith, large_frame, large_functions, large_parts, large_variants, many_sites, much_data, long_text, too_many_sites, too_many_words, too_much_data}
use Rattle.mv_count_limits.specs.Counted.{FramesAreCounted, SitesAreCounted, TextsAreCounted, CountedPassNone}

module _ (formed : ProgramsOfTextsAreWellFormed) where
  pub frames_counted : LoweredFramesPass → FramesAreCounted
  frames_counted pass text p is f g there past = pass p f g (record { formed = formed text p is; there = there }) past

  pub sites_counted : PartsAreCounted → SitesAreCounted
  sites_counted counts text p is parts coded = (counts p (formed text p is) coded.bodies coded.tables parts coded.codes).sites

  pub texts_counted : PartsAreCounted → TextsAreCounted
  texts_counted counts text p is parts coded words past = (counts p (formed text p is) coded.bodies coded.tables parts coded.codes).text words past

  pub pass_none : LoweredFramesPass → PartsAreCounted → SizesAreCounted → CountedPassNone
  pass_none frames counts sizes text p is within r past = by past
    where
      by_size : (size : Size) → IsSizeCounted p size → {s : Refusal} → PassesAt p size s → ⊥
      by_size size counted (too_many_sites past) = let few = counted.sites in let small = within.sites in omega (arith, past, few, small)
      by_size size counted (too_much_data few past) = let small = within.data_fits in omega (arith, past, small)
      by_size size counted (too_many_words few fits past) = let all = counted.words in let small = within.text in omega (arith, past, all, small)

      by_parts : (parts : Parts) → IsCoded p parts → {s : Refusal} → PassesWith p parts s → ⊥
      by_parts parts coded (many_sites past) =
          let few = sites_counted counts text p is parts coded in
          let small = within.sites in
          omega (arith, past, few, small)
      by_parts parts coded (much_data few past) = let small = within.data_fits in omega (arith, past, small)
      by_parts parts coded (long_text words few fits past) =
          let large = texts_counted counts text p is parts coded words past in
          let small = within.text in
          omega (arith, large, small)

      by : {s : Refusal} → PassesLimit p s → ⊥
      by (large_frame f bytes h) =
          let large = frames_counted frames text p is f h.first.function h.first.there h.first.past in
          let small = within.frames f h.first.function h.first.there in
          omega (arith, large, small)
      by (large_functions bodies functions size s before generics code of past) = by_size size (sizes p (formed text p is) bodies functions generics code size of).0 past
      by (large_variants bodies functions size over s before generics code of fits front past) =
          by_size over ((sizes p (formed text p is) bodies functions generics code size of).1 over front) past
      by (large_parts parts s before coded fits past) = by_parts parts coded past
