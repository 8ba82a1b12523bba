-- The bodies that are linked of a program: what they mean, read and name, and their code as the program's layout has it.
use Rattle.std.specs.Prelude.{ℕ, ◌≡◌, ◌+◌, ◌*◌, ◌≤◌, Bool, true, false, List, [], All, Some, length, sum, sum_by, take, slice_get}
use Rattle.std.specs.List.{zip}
use Rattle.mv_num.specs.Regions.{data_start}
use Rattle.mv_ast.specs.declared.program.Program.{Program}
use Rattle.mv_ast.specs.declared.program.Function.{Function}
use Rattle.mv_ast.specs.declared.program.Global.{Global}
use Rattle.mv_ast.specs.declared.program.Known.{Known}
use Rattle.mv_ast.specs.Counts.{words_of_size}
use Rattle.mv_num.specs.Lists.{is_among}
use Rattle.mv_isa.specs.declared.labelled.Labelled.{Labelled}
use Rattle.mv_ir.specs.declared.stm.Stm.{Stm}
use Rattle.mv_ir.specs.declared.body.Body.{Body}
use Rattle.mv_ir.specs.Programs.{setting_of}
use Rattle.mv_ir.specs.Shorts.{Shorts, KeepsBodyWith, KeepsUnderWith}
use Rattle.mv_lower_spec.specs.Functions.{lower_function}
use Rattle.mv_source_forms.specs.Names.{global_words}
use Rattle.mv_source_forms.specs.Uses.{known_is_there}
use Rattle.mv_source_forms.specs.WellFormed.{IsWellFormed}
use Rattle.mv_select_code.specs.Control.Labels.{OwnLabels}
use Rattle.mv_select.specs.Calls.CallCode.{is_marked}
use Rattle.mv_select.specs.Calls.Convention.{Layout}
use Rattle.mv_select.specs.Functions.FunctionCode.{function_lines}
use Rattle.mv_select.specs.Functions.Functions.{shape_of}
use Rattle.mv_select.specs.Bodies.SelectedBodies.{HasWords, IsInProgram, globals_read}
use Rattle.mv_select.specs.Inline.InlineOf.{inline_words}
use Rattle.mv_linker.specs.declared.parts.Parts.{Parts}
use Rattle.mv_linker.specs.declared.parts.PartFunction.{PartFunction}
use Rattle.mv_linker.specs.declared.parts.PartVariant.{PartVariant}
use Rattle.mv_linker.specs.Linked.{codes}
use Rattle.mv_linker.specs.Outcome.{data_limit}
use Rattle.mv_link_data.specs.FirstData.{data_words, global_sizes}
use Rattle.mv_variants.specs.Bound.Shorts.{AreShortsOf}
use Rattle.mv_variants.specs.declared.variant.Variant.{Variant}
use Rattle.mv_parts.specs.Numbers.{attributed_numbers}
use Rattle.mv_parts.specs.Parts.{ArePartsOf}

-- ---- what is linked

-- A layout has a program's globals one behind the other from the start of data on, and lets the known functions be asked for that the program has.
pub record IsLayoutOf (p : Program) (y : Layout) : Type 0 where
  pub places : (x : ℕ) → y.place x ≡ data_start + 4 * sum (take x (global_sizes p))
  pub sizes : (x : ℕ) → y.size x ≡ global_words p x
  pub asked : (k : Known) → y.may_ask k ≡ known_is_there p k

-- What is linked of a well-formed program, with a layout and a number for each function. Each global has a word, their words fit into data, and the constants
-- in the functions' own bodies are words.
pub record AreLaidOut (p : Program) (bodies : List Body) (tables : List (List Variant)) (parts : Parts) (y : Layout) (numbers : List ℕ) : Type 0 where
  pub formed : IsWellFormed p
  pub globals : All (λ (x : Global). 1 ≤ words_of_size x.size) p.globals
  pub data_fits : data_words p ≤ data_limit
  pub parts_are : ArePartsOf p bodies tables parts
  pub words : All (λ (b : Body). HasWords b.code) bodies
  pub layout : IsLayoutOf p y
  pub numbered : length numbers ≡ length p.functions

-- a variant of a program: the j-th of the n-th attributed function, whose number among all functions is f
pub record IsVariantAt (p : Program) (tables : List (List Variant)) (n f j : ℕ) (g : Function) (v : Variant) : Type 0 where
  pub number : slice_get (attributed_numbers p) n ≡ Some f
  pub there : slice_get p.functions f ≡ Some g
  pub variants : List Variant
  pub table : slice_get tables n ≡ Some variants
  pub at : slice_get variants j ≡ Some v

-- its number among all code: variants come behind the functions, one attributed function's behind another's
abbrev pub variant_number : Parts → (n j : ℕ) → ℕ
variant_number parts n j = length parts.functions + sum_by (λ (a : PartFunction). length a.variants) (take n parts.attributed) + j

-- ---- bodies and their code

module _ (p : Program) (g : Function) where
  -- code reads no global but those that the function's lowered code does
  abbrev pub ReadsNoMore : List Stm → Type 0
  ReadsNoMore code = (x : ℕ) → is_among x (globals_read code) ≡ true → is_among x (globals_read (lower_function p g).code) ≡ true

  -- it reads no switch of the function, neither as a scalar nor an element of it
  abbrev pub ReadsNoSwitch : List Stm → Type 0
  ReadsNoSwitch code = (x : ℕ) → is_among x (globals_read code) ≡ true → is_among x (lower_function p g).switches ≡ false

-- Code is that of a body, as it is written from a layout. Each label below its count stands once in it, and no other does.
pub record IsWritten (y : Layout) (attributed : Bool) (body : Body) (code : Labelled) : Type 0 where
  pub items : code.items ≡ function_lines y.place y.size (is_marked body.marked) (shape_of attributed body) body.code
  pub labels : OwnLabels 0 code.labels code.items

module _ (p : Program) (y : Layout) (numbers : List ℕ) (g : Function) where
  -- The code of a function is that of a body of the program that means what the function is lowered to, at no greater cost, over callees that do what some short
  -- bodies do, and reads no more.
  pub record IsOwnCode (code : Labelled) : Type 0 where
    pub body : Body
    pub shorts : Shorts
    pub known : AreShortsOf p shorts
    pub keeps : KeepsBodyWith shorts (lower_function p g) body
    pub params : body.params ≡ g.params
    pub in_program : IsInProgram y (setting_of numbers p) g.attributed [] body
    pub reads : ReadsNoMore p g body.code
    pub written : IsWritten y g.attributed body code

  -- A variant of an attributed function is a body of the program that means what the function is lowered to, at no greater cost, wherever its switches are read
  -- as these values. It reads no more, and none of the switches. What is linked of it are its code, and the two words that stand for a call of it.
  pub record IsVariantCode (values : List ℕ) (body : Body) (part : PartVariant) : Type 0 where
    pub shorts : Shorts
    pub known : AreShortsOf p shorts
    pub keeps : KeepsUnderWith shorts (zip (lower_function p g).switches values) (lower_function p g) body
    pub params : body.params ≡ g.params
    pub in_program : IsInProgram y (setting_of numbers p) true (zip (lower_function p g).switches values) body
    pub reads : ReadsNoMore p g body.code
    pub no_switch : ReadsNoSwitch p g body.code
    pub written : IsWritten y true body part.code
    pub inline : part.inline ≡ inline_words y.place body

-- what is linked of a variant, and where it stands
pub record IsLinkedVariant (parts : Parts) (n j : ℕ) (part : PartVariant) : Type 0 where
  pub function : PartFunction
  pub there : slice_get parts.attributed n ≡ Some function
  pub at : slice_get function.variants j ≡ Some part
  pub code_at : slice_get (codes parts) (variant_number parts n j) ≡ Some part.code
