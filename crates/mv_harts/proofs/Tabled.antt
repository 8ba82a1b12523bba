-- The tables of what is built are as several harts ask for.
use Rattle.std.proofs.Common.{◌≡◌, ◌+◌, ◌*◌, ◌<◌, false, length, take, refl, ap, ◌∙◌}
use Rattle.std.specs.Prelude.{sum}
use Rattle.std.proofs.lemmas.List.FromFn.{length-range_with_len}
use Rattle.mv_num.proofs.Lists.{length_map}
use Rattle.mv_ast.specs.declared.program.Program.{Program}
use Rattle.mv_accepts_programs.specs.Checked.{ProgramsOfTextsAreWellFormed}
use Rattle.mv_source_forms.specs.Names.{global_words}
use Rattle.mv_source_forms.specs.WellFormed.{IsWellFormed}
use Rattle.mv_linker.specs.Tables.{data_start}
use Rattle.mv_link_data.specs.FirstData.{global_sizes}
use Rattle.mv_select.specs.Calls.Convention.{Layout}
use Rattle.mv_refine_machine.specs.Commits.Tabled.{IsTabled}
use Rattle.mv_refine_images.specs.Layouts.{numbers_of}
use Rattle.mv_refine_images.specs.Tables.Laws.{ImagesHaveTables}
use Rattle.mv_harts.specs.Runnable.{BuiltAreRunnable}

-- a layout that has the program's globals where they are linked; what else it has is nothing to tables
abbrev layout_of : Program → Layout
layout_of p = record {
  place = λ x. data_start + 4 * sum (take x (global_sizes p));
  size = global_words p;
  entry = λ f. 0;
  trap = λ c. 0;
  commit = 0;
  may_ask = λ k. false;
  bottom = 0;
  top = 0;
}

pub runnable : ImagesHaveTables → ProgramsOfTextsAreWellFormed → BuiltAreRunnable
runnable laws formed text built is rules = record {
  typed = well.typed;
  behaves = is.image.behaves;
  rules = rules;
  tables = record { count = tabled.functions; switches = tabled.function; others = tabled.others; pointers = tabled.pointers; targets = targets };
  fits = is.image.fits;
}
  where
    well : IsWellFormed built.program
    well = formed text built.program is.program

    tabled : IsTabled built.program (numbers_of is.image.parts is.image.linked.sizing) (layout_of built.program) built.image
    tabled =
        (laws built.program well built.generics built.variants is.image.parts is.image.are_parts built.image is.image.linked).tabled (layout_of built.program)
        (λ x. refl) (λ x. refl)

    targets : 0 < length built.program.pointers → length built.image.targets ≡ length built.program.functions
    targets some =
        let entries : length built.image.targets ≡ length is.image.parts.functions = simp (length_map, length-range_with_len) at (ap length (tabled.targets some)) in
        entries ∙ is.image.are_parts.codes.code.one_each
