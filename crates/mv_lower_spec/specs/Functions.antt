-- What functions and programs are lowered to.
use Rattle.std.specs.Prelude.{ℕ, suc, ◌+◌, ◌*◌, ◌%◌, ◌^◌, max, Bool, ◌&&◌, ◌||◌, List, [], ◌∷◌, ◌++◌, map, length, cond}
use Rattle.mv_num.specs.Regions.{data_start}
use Rattle.mv_ir.specs.declared.stm.Callee.{Callee}
use Rattle.mv_ir.specs.declared.stm.Callee.TheVariants as callee
use Rattle.mv_ir.specs.declared.stm.Stm.{Stm}
use Rattle.mv_ir.specs.declared.stm.Stm.TheOpen.{Stm-F}
use Rattle.mv_ir.specs.declared.stm.Stm.TheOpen as stm
use Rattle.mv_ir.specs.declared.stm.Stm.TheFolds.{fold-Stm}
use Rattle.mv_ir.specs.declared.body.Room.{Room}
use Rattle.mv_ir.specs.declared.body.Body.{Body}
use Rattle.mv_ir.specs.declared.body.IrProgram.{IrProgram}
use Rattle.mv_ir.specs.Measures.{joined, array_read, scalars_read}
use Rattle.mv_ir.specs.WellFormed.{named}
use Rattle.mv_ast.specs.declared.program.Program.{Program}
use Rattle.mv_ast.specs.declared.program.Global.{Global}
use Rattle.mv_ast.specs.declared.program.Function.{Function}
use Rattle.mv_ast.specs.declared.program.Local.{Local}
use Rattle.mv_ast.specs.Counts.{words_of_size, elements_of}
use Rattle.mv_num.specs.Lists.{is_among}
use Rattle.mv_ast.specs.Switches.{switch_global}
use Rattle.mv_source_forms.specs.Names.{size_in, is_void}
use Rattle.mv_lower_spec.specs.Lowered.{number}
use Rattle.mv_lower_spec.specs.Statements.{Jumps, Code, in_sequence, return_with}
use Rattle.mv_lower_spec.specs.LowerStatements.{lower_stmt}

-- ---- locals

-- for each local the size of the array with its number: none for a scalar
abbrev pub array_sizes : List Local → List ℕ
array_sizes locals = map (λ l. elements_of l.size) locals

-- ---- code

-- around a function's body stands nothing: what leaves it ends the function
abbrev pub outermost : Jumps
outermost = record { leave = 0; again = 0; around = 0 }

-- the code of a function's statements
abbrev pub lower_body : (pointers : List ℕ) → Function → Code
lower_body pointers g = in_sequence (length g.locals) (map (lower_stmt pointers (length g.locals) (size_in g.locals) (is_void g.result)) g.body) outermost

-- what follows it: the end of a function that isn't void gives 0
abbrev pub ending : Bool → List Stm
ending void = cond void [] (return_with (number 0) ∷ [])

abbrev pub lower_function_code : (pointers : List ℕ) → Function → Code
lower_function_code pointers g = record { code = (lower_body pointers g).code ++ ending (is_void g.result); top = (lower_body pointers g).top }

-- ---- what code names

abbrev pub names_global : List Stm → ℕ → Bool
names_global code g = is_among g (scalars_read code) || is_among g (joined (map array_read (named code)))

abbrev pub callee_called : Callee → List ℕ
callee_called (callee.Direct f) = f ∷ []
callee_called (callee.Through t) = []
callee_called (callee.Switched g) = []
callee_called callee.Expanded = []

abbrev pub layer_called : Stm-F (List ℕ) → List ℕ
layer_called (stm.If t a b) = joined a ++ joined b
layer_called (stm.Loop b) = joined b
layer_called (stm.Block b) = joined b
layer_called (stm.Call r f args) = callee_called f
layer_called _ = []

unfoldable pub stm_called : Stm → List ℕ
stm_called = fold-Stm (List ℕ) layer_called

-- the functions that some code calls directly
abbrev pub functions_called : List Stm → List ℕ
functions_called code = joined (map stm_called code)

-- ---- rooms and marks

-- the address of the first of the words behind so many words of globals
abbrev pub address_behind : ℕ → ℕ
address_behind words = (data_start + 4 * words) % 2 ^ 32

-- rooms for those globals that are named, of globals from this number on, before which so many words stand
abbrev pub rooms_from : (ℕ → Bool) → (global before : ℕ) → List Global → List Room
rooms_from is_named g before [] = []
rooms_from is_named g before (x ∷ xs) =
    let size = words_of_size x.size in
    let rest = rooms_from is_named (suc g) (before + size) xs in
    cond (is_named g) (record { global = g; at = address_behind before; size = size } ∷ rest) rest

-- the attributed ones among those that are called, of functions from this number on
abbrev pub marked_from : (ℕ → Bool) → ℕ → List Function → List ℕ
marked_from is_called f [] = []
marked_from is_called f (g ∷ gs) = cond (g.attributed && is_called f) (f ∷ marked_from is_called (suc f) gs) (marked_from is_called (suc f) gs)

-- ---- functions and programs

-- The lowering of a function.
abbrev pub lower_function : Program → Function → Body
lower_function p g =
    let l = lower_function_code p.pointers g in
    record {
      params = g.params;
      temps = max (length g.locals) l.top;
      arrays = array_sizes g.locals;
      code = l.code;
      rooms = rooms_from (names_global l.code) 0 0 p.globals;
      marked = marked_from (λ f. is_among f (functions_called l.code)) 0 p.functions;
      switches = map (switch_global p) g.switches;
    }

-- The lowering of a program.
abbrev pub lower_program : Program → IrProgram
lower_program p = record { program = p; bodies = map (lower_function p) p.functions }
