-- Which data words what stands in text isn't to load: those of the globals that a function doesn't read, and for its variants also its switches.
use Rattle.std.specs.Prelude.{ℕ, zero, suc, ◌+◌, ◌*◌, ◌%◌, Bool, false, not, ◌&&◌, ◌||◌, eqb, leb, ltb, List, [], ◌∷◌, ◌++◌, length, map, slice_get, Option, Some, None}
use Rattle.std.specs.List.{flat_map}
use Rattle.mv_ast.specs.declared.program.Program.{Program}
use Rattle.mv_ast.specs.declared.program.Function.{Function}
use Rattle.mv_ast.specs.Switches.{attributed_functions}
use Rattle.mv_num.specs.Lists.{is_among}
use Rattle.mv_descriptors.specs.declared.rows.SiteRow.{SiteRow}
use Rattle.mv_image.specs.Spelling.{Fields}
use Rattle.mv_image.specs.Patched.{site_at, site_before}
use Rattle.mv_lower_spec.specs.Functions.{lower_function}
use Rattle.mv_select.specs.Bodies.SelectedBodies.{globals_read}
use Rattle.mv_select.specs.Calls.Convention.{Layout}
use Rattle.mv_linker.specs.declared.parts.Parts.{Parts}
use Rattle.mv_linker.specs.declared.parts.PartFunction.{PartFunction}
use Rattle.mv_linker.specs.Linked.{codes}
use Rattle.mv_refine_images.specs.Layouts.{address_of, layout_of}

-- ---- globals

module _ (p : Program) where
  -- The code of a function loads from no global that the function doesn't read.
  abbrev pub is_closed_to_function : Function → (global : ℕ) → Bool
  is_closed_to_function g x = not (is_among x (globals_read (lower_function p g).code))

  -- No more does a variant of it, nor does that load a switch of the function.
  abbrev pub is_closed_to_variant : Function → (global : ℕ) → Bool
  is_closed_to_variant g x = is_among x (lower_function p g).switches || is_closed_to_function g x

  -- for the variants of a function that there is
  abbrev pub is_closed_to_variants_of : Option Function → (global : ℕ) → Bool
  is_closed_to_variants_of None x = false
  is_closed_to_variants_of (Some g) x = is_closed_to_variant g x

  abbrev pub closed_to_variants : PartFunction → List (ℕ → Bool)
  closed_to_variants a = map (λ v. is_closed_to_variants_of (slice_get p.functions a.function)) a.variants

  -- for each code that is linked: those of the functions, and behind them those of the variants
  abbrev pub closed_to_codes : Parts → List (ℕ → Bool)
  closed_to_codes parts = map is_closed_to_function p.functions ++ flat_map closed_to_variants parts.attributed

-- ---- addresses

-- whether an address lies in the data words of a global
abbrev pub is_data_of : Layout → (global address : ℕ) → Bool
is_data_of y x a = leb (y.place x) a && ltb a (y.place x + 4 * y.size x)

-- whether it lies in those of one of the first so many globals, which passes a test
abbrev pub is_data_among : Layout → (ℕ → Bool) → (globals address : ℕ) → Bool
is_data_among y test zero a = false
is_data_among y test (suc x) a = (is_data_of y x a && test x) || is_data_among y test x a

module _ (image : Fields) (parts : Parts) (sizing : List ℕ) (p : Program) where
  -- whether an address lies in the data words of a global of the program that passes a test
  abbrev pub is_data_where : (ℕ → Bool) → (address : ℕ) → Bool
  is_data_where test a = is_data_among (layout_of parts sizing p) test (length p.globals) a

  -- The words of a code go from its label to that of the next one, and those of the last to the end of text.
  abbrev pub is_word_of : (code pc : ℕ) → Bool
  is_word_of k pc = leb (address_of parts sizing k) pc && (eqb (suc k) (length (codes parts)) || ltb pc (address_of parts sizing (suc k)))

  -- the data words of globals that are closed to some codes, which have the numbers from one on
  abbrev pub is_closed_from : ℕ → List (ℕ → Bool) → (pc address : ℕ) → Bool
  is_closed_from k [] pc a = false
  is_closed_from k (test ∷ tests) pc a = (is_word_of k pc && is_data_where test a) || is_closed_from (suc k) tests pc a

  -- At a word of a site stands a call of a function or the inline body of a variant of it, which loads as variants of it do. At any other stands code.
  abbrev pub is_closed_beside : (first second : Option SiteRow) → (pc address : ℕ) → Bool
  is_closed_beside (Some site) second pc a = is_data_where (is_closed_to_variants_of p (slice_get (attributed_functions p) site.function)) a
  is_closed_beside None (Some site) pc a = is_data_where (is_closed_to_variants_of p (slice_get (attributed_functions p) site.function)) a
  is_closed_beside None None pc a = is_closed_from 0 (closed_to_codes p parts) pc a

  -- The data words of a global are closed to the words of a function that doesn't read the global, and to the words of a variant, and to an inline body at a
  -- site, also those of each switch of its function. Instructions stand at multiples of 4 alone.
  abbrev pub closed : (pc address : ℕ) → Bool
  closed pc a = eqb (pc % 4) 0 && is_closed_beside (site_at image pc) (site_before image pc) pc a
