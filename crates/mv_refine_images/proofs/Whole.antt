-- The run of a built image does what its program means.
use Rattle.std.proofs.Common.{◌≡◌, ℕ, ◌+◌, ◌*◌, ◌<◌, ◌^◌, ◌%◌, List, [], Option, Some, None, map, take, sum, length, get_or, slice_get, All, refl, sym, ap, ◌∙◌, subst, arith}
use Rattle.std.specs.Prelude.{IsTrue}
use Rattle.std.specs.List.{flat_map}
use Rattle.std.proofs.Math.ListN as lists
use Rattle.std.proofs.lemmas.List.{length-map}
use Rattle.std.proofs.lemmas.List.Elements.{All-from_get_or}
use Rattle.mv_ast.specs.declared.program.Program.{Program}
use Rattle.mv_ast.specs.Actions.{act_fits}
use Rattle.mv_bindings.specs.Acts.{IsActOfWord}
use Rattle.mv_image.specs.Spelling.{Fields}
use Rattle.mv_ir.specs.World.{World}
use Rattle.mv_ir.specs.Levels.{Code}
use Rattle.mv_ir.specs.Programs.{setting_of, code_of, call_of_main}
use Rattle.mv_ir.specs.Reached.{IsReached, EndsAreReached}
use Rattle.mv_machine.specs.Acts.{PollActs}
use Rattle.mv_lower_spec.specs.Functions.{lower_program}
use Rattle.mv_select.specs.Calls.Convention.{Stands}
use Rattle.mv_select.specs.Functions.Functions.{Begins}
use Rattle.mv_refine_machine.specs.Laws.{IsFirst}
use Rattle.mv_refine_machine.specs.Under.{words_under}
use Rattle.mv_refine_machine.specs.Stubs.Laws.{HoldsData}
use Rattle.mv_refine_machine.specs.Stubs.Stubs.{return_address, start_steps}
use Rattle.mv_refine_machine.specs.Commits.Ends.{EntersQuietly}
use Rattle.mv_refine_machine.specs.Commits.Watched.{access}
use Rattle.mv_refine_machine.specs.Runs.Behaves.{Behaves, LoadsWhatIsOpen}
use Rattle.mv_refine_machine.specs.Runs.Main.{HasStubs, CallsMain}
use Rattle.mv_refine_images.specs.Programs.Laws.{first_seen}
use Rattle.mv_linker.specs.Outcome as linker
use Rattle.mv_refine_images.proofs.LinkedProgram.{Basis, linked_program}
use Rattle.mv_refine_images.specs.Layouts.{address_of}
use Rattle.mv_refine_images.specs.Laws.{BuiltProgramsBehave}
use Rattle.mv_refine_images.specs.Own.{LoadsNoOwnSwitch}
use Rattle.mv_refine_images.proofs.Calls.{calls_are_plain}
use Rattle.mv_refine_images.proofs.Data.{addresses, numbering, size_is, sizes_counted}
use Rattle.mv_refine_images.proofs.Facts.{Laws}
use Rattle.mv_refine_images.proofs.Host.{loaded, stubs, tables}
use Rattle.mv_refine_images.proofs.Own.{no_own_switch}
use Rattle.mv_parts.proofs.LinkedTables.{first_values}

-- the run of a lowered program ends so, also where it has no main
run_reached : EndsAreReached → (p : Program) (numbers : List ℕ) (codes : List Code) (main : Option Code) (bound : ℕ) (w : World) → IsReached w (call_of_main (setting_of numbers p) codes main bound w).end
run_reached reached p numbers codes None bound w = tt
run_reached reached p numbers codes (Some main) bound w = reached p numbers codes main bound w

module _ (p : Program) (image : Fields) (basis : Basis p image) (bytes : List ℕ) (polls : PollActs) (picks : List ℕ)
    (are_bytes : All (λ b. b < 2 ^ 8) bytes) (of_words : All IsActOfWord polls.acts) (fit : All (λ a. IsTrue (act_fits p polls.hart a)) polls.acts) where
  open basis use {laws, formed, built}
  open linked_program p image built use {parts, sizing, y, numbers, attributed, shut, machine}

  abbrev first : World
  first = first_seen p numbers polls.hart bytes polls.acts

  has_stubs : HasStubs attributed image y
  has_stubs = let s = stubs p image basis in record {
    place = address_of parts sizing;
    entry = address_of parts sizing;
    main_label = parts.main;
    start_ends = s.start_ends;
    start = s.start;
    trap_ends = s.trap_ends;
    traps = s.traps;
  }

  -- ---- the first world

  is_first : IsFirst image bytes first
  is_first = record { input = refl; output = refl; bindings = (tables p image basis).bindings numbers polls.hart bytes polls.acts; log = refl }

  data_is : image.globals ≡ map (linker.datum_word (address_of parts sizing)) parts.globals
  data_is = ap (λ (i : Fields). i.globals) built.linked.image_is

  globals_are : image.globals ≡ flat_map (λ words. words) first.globals
  globals_are =
      data_is ∙ ap (map (linker.datum_word (address_of parts sizing))) built.are.globals
      ∙ laws.words_first p (address_of parts sizing) numbers (first_values p formed.typed.globals) (addresses p image basis)

  size_counted : (g : ℕ) → y.size g ≡ length (get_or first.globals g [])
  size_counted g =
      sym (size_is p.globals g) ∙ ap (λ (ns : List ℕ). get_or ns g 0) (sym (sizes_counted p image basis)) ∙ lists.get_or-map length first.globals g []

  holds : HoldsData y image first
  holds = record {
    are = globals_are;
    sizes = size_counted;
    places = λ g lt. ap (λ (ns : List ℕ). 0x0010_0000 + 4 * sum (take g ns)) (sym (sizes_counted p image basis));
    words = let words = (laws.typed image built.rules).0.words.globals in All-from_get_or (λ word. word < 2 ^ 32) image.globals 0 (λ i lt. words i);
    room = let fits = built.linked.data_fits in
        let count : length image.globals ≡ length parts.globals = ap length data_is ∙ length-map parts.globals (linker.datum_word (address_of parts sizing)) in omega (arith, fits, count);
  }

  -- ---- main is called

  module _ (budget far : ℕ) where
    enters : EntersQuietly y (machine bytes polls picks) budget far (address_of parts sizing parts.main) first start_steps
    enters =
        let s = stubs p image basis in
        laws.starts attributed shut image built.rules bytes polls picks y budget far first is_first refl refl holds (ap (λ (i : Fields). i.entry) built.linked.image_is) (address_of parts sizing) (address_of parts sizing)
        parts.main s.start_ends s.start

    begins : Begins access y (machine bytes polls picks) start_steps
    begins =
        let sp = enters.stack in record {
          live = enters.live;
          left = enters.left;
          even = ap (λ n. n % 4) sp;
          room = omega (arith, sp);
          within = omega (arith, sp);
        }

    stands : Stands access y (machine bytes polls picks) budget far (y.entry p.main) first start_steps
    stands = subst (λ f. Stands access y (machine bytes polls picks) budget far (address_of parts sizing f) first start_steps) built.are.main enters.stands

    calls_main : (k : ℕ) → CallsMain attributed shut p image bytes polls picks y first budget far k
    calls_main k =
        let m = laws.main_follows access y (machine bytes polls picks) (words_under image) shut budget far p numbers
        (loaded p image basis bytes polls picks are_bytes of_words budget far)
        (numbering p image basis) polls.hart bytes polls.acts fit return_address start_steps (omega arith, refl) enters.link begins stands k in record {
          call = m.0;
          means = m.1;
          reached = subst (IsReached first) (sym m.2) (run_reached laws.ends_are_reached p numbers (code_of (lower_program p)) (slice_get (code_of (lower_program p)) p.main) k first);
          returns = m.3;
          follows = m.4;
        }

  pub behaves_and_loads : Behaves p image bytes polls picks × LoadsWhatIsOpen image shut bytes polls picks × LoadsNoOwnSwitch image bytes polls picks
  behaves_and_loads =
      let behaves = laws.images_behave attributed shut p image bytes polls picks y built.rules (calls_are_plain p image basis) has_stubs record { first = first; input = omega arith; calls = calls_main } in
      (behaves.0, behaves.1, no_own_switch p image basis bytes polls picks behaves.1)

pub built_behaves : Laws → BuiltProgramsBehave
built_behaves laws p image formed have_words built bytes polls picks are_bytes of_words fit =
    behaves_and_loads p image (record { laws = laws; formed = formed; have_words = have_words; built = built }) bytes polls picks are_bytes of_words fit
