-- What holds of a unit that keeps the rules, through its declarations.
use Rattle.std.specs.Prelude.{◌≡◌, List}
use Rattle.mv_syntax.specs.declared.unit.Item.{Item}
use Rattle.mv_check_expressions.specs.Judged.{Good}
use Rattle.mv_types.specs.declared.contents.Contents.{Contents}
use Rattle.mv_types.specs.declared.contents.Foreknown.{Foreknown}
use Rattle.mv_types.specs.Foreknown.{foreknown}
use Rattle.mv_types.specs.Units.{item_judgement}
use Rattle.mv_accepts.specs.Numbers.Numbers.{AreJudged, IsForeknown}
use Rattle.mv_accepts.specs.Names.Declared.{Extends, IsSound}
use Rattle.mv_accepts.specs.Names.Defined.{WereDefined}

-- A declaration that keeps the rules leads from sound contents to sound ones that have what those before them had.
pub record IsSoundBehind (k : Foreknown) (before after : Contents) : Type 0 where
  pub extends : Extends before after
  pub sound : IsSound k after
  pub defined : WereDefined k before → WereDefined k after

abbrev pub ItemIsSound : Type 0
ItemIsSound =
    (k : Foreknown) (i : Item) (before after : Contents) → IsForeknown k i → IsSound k before → item_judgement k i before ≡ Good after →
    IsSoundBehind k before after

abbrev pub FileScopeIsSound : Type 0
FileScopeIsSound = (items : List Item) (c : Contents) → AreJudged items c → IsSound (foreknown items) c × WereDefined (foreknown items) c
