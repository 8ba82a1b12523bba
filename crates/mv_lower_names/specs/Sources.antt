-- That the numbers that stand in a program are words.
use Rattle.std.specs.Prelude.{ℕ, ◌≡◌, ◌+◌, ◌^◌, Bool, true, ◌&&◌, length, map, Some, nat_lt, slice_get}
use Rattle.mv_ast.specs.declared.program.Program.{Program}
use Rattle.mv_ast.specs.declared.program.Function.{Function}
use Rattle.mv_ast.specs.declared.program.Known.{Known}
use Rattle.mv_ast.specs.declared.program.Known.TheVariants.{Plan}
use Rattle.mv_ast.specs.declared.program.Expr.{Expr, fold-Expr}
use Rattle.mv_ast.specs.declared.program.Form.{Form-F}
use Rattle.mv_ast.specs.declared.program.Form.TheOpen as form
use Rattle.mv_ast.specs.declared.program.Stmt.{Stmt, Stmt-F, fold-Stmt}
use Rattle.mv_ast.specs.declared.program.Stmt.TheOpen as stmt
use Rattle.mv_ast.specs.declared.program.Arm.{Arm-F}
use Rattle.mv_source_forms.specs.Lists.{all_of}
use Rattle.mv_source_forms.specs.Scopes.{form_in, layer_in}
use Rattle.mv_source_forms.specs.Uses.{target_in_parts, all_layer}

-- whether a number is a word
abbrev pub is_word : ℕ → Bool
is_word n = nat_lt n (2 ^ 32)

-- whether an order's numbers are a byte and a word
abbrev pub fits_order : Known → Bool
fits_order (Plan code index) = nat_lt code 256 && is_word index
fits_order _ = true

-- whether a form's own constant or order fits, and all its parts do
abbrev pub form_has_words : Form-F Bool Bool Bool → Bool
form_has_words (form.Number n) = is_word n
form_has_words (form.Known k args) = fits_order k && all_of args
form_has_words f = form_in f

-- whether the constants of an expression are words, and the numbers of its orders fit
abbrev pub has_words : Expr → Bool
has_words = fold-Expr Bool Bool Bool form_has_words target_in_parts layer_in

-- how many values a declaration gives, and how many arms a `switch` has
abbrev pub counted : {A B : Type 0} → Stmt-F A B → ℕ
counted (stmt.Clear l values) = length values
counted (stmt.Switch e arms) = length arms
counted _ = 0

-- the same of a statement, and of what it counts
abbrev pub layer_has_words : Stmt-F Bool Bool → Bool
layer_has_words s = is_word (counted s + 1) && all_layer has_words s

-- the same of an arm, and of its labels
abbrev pub arm_has_words : Arm-F Bool Bool → Bool
arm_has_words a = all_of (map is_word a.labels) && all_of a.body

-- whether the constants of a statement, its labels, and the numbers of its values and arms are words
abbrev pub stmt_has_words : Stmt → Bool
stmt_has_words = fold-Stmt Bool Bool layer_has_words arm_has_words

-- The constants in a program's functions, the labels of their arms, and the numbers of values in a declaration and of arms in a `switch` are words, and the
-- numbers of its orders are a byte and a word.
abbrev pub NumbersAreWords : Program → Type 0
NumbersAreWords p = (f : ℕ) (g : Function) → slice_get p.functions f ≡ Some g → all_of (map stmt_has_words g.body) ≡ true
