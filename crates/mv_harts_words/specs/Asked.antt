-- What the words of `mvharts` ask for: `clap` assigns them to the operands of the table, and the texts of numbers are read here.
use Rattle.std.specs.Prelude.{ℕ, ◌≡◌, ◌≤◌, true, Option, Some, List, [], fold, map}
use Rattle.std.specs.Fmt.{decimal}
use Rattle.clap.specs.Walk.{Row, Text, first_of}
use Rattle.clap.specs.Simple.{App, new_app, new_rule, on_top, with_rule, matches_of}
use Rattle.clap.specs.Faults.{fault_of}
use Rattle.mv_harts_words.specs.declared.command.Command.{Command}
use Rattle.mv_harts_words.specs.declared.options.TheConstants.{PROGRAM, OPERANDS, FILE, COUNT, LEAST_COUNT, MOST_COUNT, NUMBER, MOST_NUMBER, TURNS, LEAST_TURNS, MOST_TURNS}

-- ---- what clap is told of the table

-- one operand more, a word by itself
abbrev pub with_operand : App → Text → App
with_operand a name = with_rule a (new_rule name)

-- the program, whose words have no name of it before them, and which has no help
abbrev pub no_operands : App
no_operands = on_top (λ s. record s { no_binary_name = true; disable_help_flag = true }) (new_app PROGRAM.now)

-- the program with each operand of the table
unfoldable pub app : App
app = fold with_operand no_operands (map (λ name. name.now) OPERANDS)

-- ---- what is read of the operands

-- the text of an operand, where it stands among the words
abbrev pub given : Text → List Row → Option Text
given = first_of

-- the operand is a decimal numeral of this number, which is within its bounds
pub record IsNumber (name : Text) (least most : ℕ) (rows : List Row) (n : ℕ) : Type 0 where
  pub text : given name rows ≡ Some (decimal n)
  pub least_or_more : least ≤ n
  pub most_or_less : n ≤ most

-- a run of the program of a file in so many harts, by the schedule of a number, for so many turns
pub record Asked : Type 0 where
  pub file : List ℕ
  pub count : ℕ
  pub number : ℕ
  pub turns : ℕ

-- what a command in code asks for
abbrev pub asked : Command → Asked
asked command = record { file = command.file.now; count = command.count; number = command.number; turns = command.turns }

-- what operands with these values ask for
pub record IsRead (rows : List Row) (a : Asked) : Type 0 where
  pub file : given FILE.now rows ≡ Some a.file
  pub count : IsNumber COUNT.now LEAST_COUNT MOST_COUNT rows a.count
  pub number : IsNumber NUMBER.now 0 MOST_NUMBER rows a.number
  pub turns : IsNumber TURNS.now LEAST_TURNS MOST_TURNS rows a.turns

-- The words ask for this: clap has no fault to find with them, and what it gives the operands asks for it.
pub record IsAsked (words : List Text) (a : Asked) : Type 0 where
  pub faultless : fault_of app words ≡ []
  pub read : IsRead (matches_of app words) a

-- the words ask for nothing
abbrev pub IsNotAsked : List Text → Type 0
IsNotAsked words = (a : Asked) → IsAsked words a → ⊥
