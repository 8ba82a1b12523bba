-- The switches of the functions of a unit's program, by the text of the unit.
use Rattle.std.specs.Prelude.{◌≡◌, ℕ, Bool, false, All, if◌then◌else◌, List, [], Option, Some, None, slice_get}
use Rattle.mv_ast.specs.declared.program.Global.{Global}
use Rattle.mv_ast.specs.declared.program.Program.{Program}
use Rattle.mv_syntax.specs.declared.unit.Item.{Item}
use Rattle.mv_syntax.specs.declared.unit.Unit as tree
use Rattle.mv_check_expressions.specs.Judged.{Good}
use Rattle.mv_check_outline.specs.Names.{is_among}
use Rattle.mv_check_rules.specs.Units.{judged_by_rules}
use Rattle.mv_check_uses.specs.Uses.{numbers_from}
use Rattle.mv_accepts_texts.specs.Expressions.{NameList}
use Rattle.mv_accepts_texts.specs.Texts.{objects_named}

abbrev pub has_name_among : NameList → Option Global → Bool
has_name_among names None = false
has_name_among names (Some g) = is_among g.name names

-- the numbers of the switches whose names the body of a function has
abbrev pub switches_in_text : List Item → Program → List ℕ → List ℕ
switches_in_text items p name = numbers_from (λ g. has_name_among (objects_named name items) (slice_get p.globals g)) 0 p.switches

-- The switches of an attributed function are those that its text names; another function has none.
abbrev pub SwitchesAreThoseOfTheText : Type 0
SwitchesAreThoseOfTheText =
    (u : tree.Unit) (p : Program) → judged_by_rules u ≡ Good p →
    All (λ f. f.switches ≡ (if f.attributed then switches_in_text u.items p f.name else [])) p.functions
