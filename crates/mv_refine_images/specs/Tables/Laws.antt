-- What the tables have of a program in the image that is linked of its parts.
use Rattle.std.specs.Prelude.{ℕ, ◌≡◌, ◌+◌, ◌*◌, ◌≤◌, true, List, take, sum, Some, slice_get}
use Rattle.mv_ast.specs.declared.program.Program.{Program}
use Rattle.mv_ast.specs.declared.program.Function.{Function}
use Rattle.mv_ast.specs.declared.program.Known.TheVariants.{Plan}
use Rattle.mv_bindings.specs.declared.action.Action.{Action}
use Rattle.mv_ast.specs.Actions as source
use Rattle.mv_ast.specs.Counts as counts
use Rattle.mv_ast.specs.Switches.{attributed_before}
use Rattle.mv_ast.specs.Starts.{first_world_under}
use Rattle.mv_bindings.specs.Acts.{Act}
use Rattle.mv_ir.specs.declared.body.Body.{Body}
use Rattle.mv_source_forms.specs.Names.{global_words}
use Rattle.mv_source_forms.specs.Uses.{known_is_there}
use Rattle.mv_source_forms.specs.WellFormed.{IsWellFormed}
use Rattle.mv_image.specs.Spelling.{Fields}
use Rattle.mv_patch.specs.Orders.{is_known_order, first_bindings}
use Rattle.mv_patch.specs.Tables.{patchable}
use Rattle.mv_machine.specs.Actions as machine
use Rattle.mv_select.specs.Calls.Convention.{Layout}
use Rattle.mv_linker.specs.declared.parts.Parts.{Parts}
use Rattle.mv_linker.specs.Outcome.{IsLinked}
use Rattle.mv_linker.specs.Tables.{data_start}
use Rattle.mv_link_data.specs.FirstData.{global_sizes}
use Rattle.mv_variants.specs.declared.variant.Variant.{Variant}
use Rattle.mv_parts.specs.Parts.{ArePartsOf}
use Rattle.mv_refine_machine.specs.Commits.Tabled.{IsTabled}
use Rattle.mv_refine_images.specs.Layouts.{numbers_of}
use Rattle.mv_refine_images.specs.Tables.Leads.{IsLedTo, LeadsToVariants}
use Rattle.mv_refine_images.specs.Tables.Rows.{IsNth, HasRowOf}

-- ---- rows

-- Each attributed function has a table of variants, at its place among these functions.
abbrev pub AttributedAreTabled : Type 0
AttributedAreTabled =
    (p : Program) (bodies : List Body) (tables : List (List Variant)) (parts : Parts) → ArePartsOf p bodies tables parts →
    (f : ℕ) (g : Function) → slice_get p.functions f ≡ Some g → g.attributed ≡ true → (variants : List Variant) × IsNth p tables (attributed_before p.functions f) f g variants

-- The rows lead from each assignment of a function to the variant that means what the function means under it.
abbrev pub RowsLeadToVariants : Type 0
RowsLeadToVariants =
    (p : Program) (bodies : List Body) (tables : List (List Variant)) (parts : Parts) → ArePartsOf p bodies tables parts → (image : Fields) → IsLinked parts image →
    (n f : ℕ) (g : Function) (variants : List Variant) → IsNth p tables n f g variants → LeadsToVariants p g image variants n

-- The variant that values lead to has its row.
abbrev pub VariantsHaveRows : Type 0
VariantsHaveRows =
    (p : Program) → IsWellFormed p → (bodies : List Body) (tables : List (List Variant)) (parts : Parts) → ArePartsOf p bodies tables parts →
    (image : Fields) (linked : IsLinked parts image) (n f : ℕ) (g : Function) (variants : List Variant) → IsNth p tables n f g variants → (vs : List ℕ) (led : IsLedTo p g image variants n vs) →
    HasRowOf p g parts linked.sizing image variants n vs led

-- ---- the whole

-- Tables have of a program what serves its orders and polls: its switches, attributed functions and pointer switches in order, and its functions as targets; rows that lead from assignments and from no other
-- words; no more words that may be patched than are counted of the program; each order that is there is one that a machine knows; the same actions fit; and in
-- each hart the program and the machine start with the same bindings.
pub record HaveTables (p : Program) (numbers : List ℕ) (image : Fields) : Type 0 where
  pub tabled : (y : Layout) → ((x : ℕ) → y.place x ≡ data_start + 4 * sum (take x (global_sizes p))) → ((x : ℕ) → y.size x ≡ global_words p x) → IsTabled p numbers y image
  pub places : patchable image ≤ counts.patchable_places p
  pub orders : (code index : ℕ) → known_is_there p (Plan code index) ≡ true → is_known_order image code index ≡ true
  pub fits : (action : Action) → machine.fits_rows image.switches action ≡ source.fits p action
  pub bindings : (numbers : List ℕ) (hart : ℕ) (bytes : List ℕ) (acts : List Act) → (first_world_under p numbers hart bytes acts).bindings ≡ first_bindings image

-- So those of the image of a program, whose functions have the addresses of their entries as numbers.
abbrev pub ImagesHaveTables : Type 0
ImagesHaveTables =
    (p : Program) → IsWellFormed p → (bodies : List Body) (tables : List (List Variant)) (parts : Parts) → ArePartsOf p bodies tables parts →
    (image : Fields) (linked : IsLinked parts image) → HaveTables p (numbers_of parts linked.sizing) image
