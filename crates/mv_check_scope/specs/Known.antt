-- The functions that are known without a declaration.
use Rattle.std.specs.Prelude.{ℕ, List, Option, Some, None, nat_eq, if◌then◌else◌, codes, Bool}
use Rattle.std.specs.Cmp.Lexicographic.{pointwise}
use Rattle.mv_ast.specs.declared.program.Known.{Known}
use Rattle.mv_ast.specs.declared.program.Known.TheVariants.{Getchar, Putchar, Poll, Plan}
use Rattle.mv_bindings.specs.OrderNumbers as orders

abbrev pub is_named : List ℕ → List ℕ → Bool
is_named = pointwise nat_eq

-- by its name; a plan's index is that of its argument, which the name doesn't give
abbrev pub known_function : List ℕ → Option Known
known_function name =
    if is_named name (codes "getchar") then Some Getchar
    else if is_named name (codes "putchar") then Some Putchar
    else if is_named name (codes "multiverse_poll") then Some Poll
    else if is_named name (codes "multiverse_commit") then Some (Plan orders.commit 0)
    else if is_named name (codes "multiverse_revert") then Some (Plan orders.revert 0)
    else if is_named name (codes "multiverse_commit_func") then Some (Plan orders.commit_function 0)
    else if is_named name (codes "multiverse_revert_func") then Some (Plan orders.revert_function 0)
    else if is_named name (codes "multiverse_commit_refs") then Some (Plan orders.commit_references 0)
    else if is_named name (codes "multiverse_revert_refs") then Some (Plan orders.revert_references 0)
    else None
