use Rattle.mv_refine_images.proofs.Facts.{Laws}
use Rattle.mv_refine_images.proofs.Main.{follows}
use Rattle.mv_refine_images.proofs.Whole.{built_behaves}
use Rattle.mv_refine_images.proofs.laws.built_programs_behave.Goals as goal

pub returns : goal.returns
returns c = built_behaves laws
  where
    laws : Laws
    laws = record {
      words_there = c.linked_text_law.ensures.words;
      stubs = c.linked_text_law.ensures.stubs;
      codes_ascend = c.linked_text_law.ensures.codes;
      plain = c.linked_text_law.ensures.plain;
      patched = c.linked_text_law.ensures.patched;
      slots = c.linked_text_law.ensures.slots;
      points = c.linked_text_law.ensures.points;
      calls_in_codes = c.linked_text_law.ensures.calls_in_codes;
      check = c.linked_text_law.ensures.check;
      checks_stand = c.checks_stand.ensures;
      show_free = c.functions_show.ensures.free;
      show_bound = c.functions_show.ensures.bound;
      show_points = c.functions_show.ensures.points;
      tabled = c.rows_lead_on.ensures.tables;
      lead = c.rows_lead_on.ensures.leads;
      rows = c.rows_lead_on.ensures.rows;
      tables = c.images_have_tables.ensures;
      own_code = c.bodies_are_in_program.ensures.functions;
      variant_code = c.bodies_are_in_program.ensures.variants;
      bodies_are_functions = c.bodies_are_functions.ensures;
      opens = c.selection_law.ensures.opens;
      reads_no_more = c.lowered_forms_are_right.ensures.reads;
      words_first = c.data_law.ensures.words;
      sizes_are_counts = c.data_law.ensures.sizes;
      data_is_counted = c.parts_law.ensures.data;
      packed_is_laid_out = c.packed_is_laid_out.ensures;
      typed = c.format_law.ensures.needed;
      runs_alone = c.watched_runs_law.ensures.alone;
      runs_under = c.watched_runs_law.ensures.under;
      memory = c.watched_machine_law.ensures.memory;
      calls = c.watched_machine_law.ensures.calls;
      orders = c.tabled_orders_are_served.ensures;
      starts = c.watched_ends_law.ensures.starts;
      images_behave = c.images_behave.ensures;
      main_follows = follows (record {
        right = c.bodies_are_right.ensures;
        right_main = c.main_is_right.ensures;
        alike = c.main_ends_alike.ensures;
        bindings = c.calls_keep_bindings.ensures;
        free_or_bound = c.fit_frames_law.ensures.functions;
        pointers = c.fit_frames_law.ensures.pointers;
        frames_free = c.fit_frames_law.ensures.free;
        frames_bound = c.fit_frames_law.ensures.bound;
        told = c.fit_worlds_law.ensures.told;
        knowns = c.fit_worlds_law.ensures.knowns;
        first = c.fit_worlds_law.ensures.first;
      });
      ends_are_reached = c.ends_are_reached.ensures;
    }
