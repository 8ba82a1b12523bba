-- The words that are a command: `clap` assigns them to the operands and the options of the table, and the texts of numbers and lists
-- are read here.
use Rattle.std.specs.Prelude.{ℕ, ◌≡◌, ◌≤◌, ◌⊎◌, Bool, true, false, Option, Some, None, List, [], fold, map, codes, MatchOption}
use Rattle.std.specs.Option.{option_map_or}
use Rattle.std.specs.Str.{bytes_eq}
use Rattle.std.specs.Fmt.{decimal}
use Rattle.clap.specs.Walk.{Row, Rule, Text, first_of}
use Rattle.clap.specs.Simple.{App, new_app, new_rule, on_top, subcommand_of, with_rule, with_subcommand}
use Rattle.clap.specs.Faults.{fault_of}
use Rattle.clap.specs.declared.builder.action.ArgAction.TheVariants.{SetTrue}
use Rattle.mv_command.specs.declared.items.Item.{Item}
use Rattle.mv_command.specs.declared.command.Command.{Command}
use Rattle.mv_command.specs.declared.command.Command.TheVariants as command
use Rattle.mv_command.specs.declared.command.RunOptions.{RunOptions}
use Rattle.mv_command.specs.declared.conversion.Conversion.{Conversion}
use Rattle.mv_command.specs.declared.options.Kind.{Kind}
use Rattle.mv_command.specs.declared.options.Kind.TheVariants.{Operand, Optional, Needed, Valued, Flag}
use Rattle.mv_command.specs.declared.options.Argument as declared_argument
use Rattle.mv_command.specs.declared.options.Form as declared_form
use Rattle.mv_command.specs.Spelled as spelled
use Rattle.mv_command.specs.Spelled.{Argument, Form}
use Rattle.mv_command.specs.Conversions.{name_of, from_of, to_of}
use Rattle.mv_command.specs.Help.{help_on, version_text}
use Rattle.mv_command.specs.Items.{IsList}
use Rattle.mv_command.specs.Oracles.{IsOracle}
use Rattle.mv_command.specs.declared.oracles.Oracle.{Oracle}
use Rattle.mv_command.specs.declared.oracles.Oracle.TheVariants.{Oldest}

-- ---- what clap is told of the table

-- a word by itself; `--NAME VALUE` or `--NAME=VALUE`; `--NAME`
abbrev pub rule : Kind → Text → Rule
rule Operand name = new_rule name
rule Optional name = new_rule name
rule Needed name = record (new_rule name) { long = Some name }
rule Valued name = record (new_rule name) { long = Some name }
rule Flag name = record (new_rule name) { long = Some name; action = Some SetTrue }

abbrev pub with_argument : App → Argument → App
with_argument a argument = with_rule a (rule argument.kind argument.name)

-- a command of the table
abbrev pub form : Text → List Argument → App
form name arguments = fold with_argument (new_app name) arguments

abbrev pub with_form : App → Form → App
with_form a f = with_subcommand a (form f.name f.arguments).top

-- an argument and a command of the code's table
abbrev pub argument_of : declared_argument.Argument → Argument
argument_of a = record { kind = a.kind; name = a.name.now; value = a.value.now; about = a.about.now }

abbrev pub form_of : declared_form.Form → Form
form_of f = record { name = f.name.now; does = f.does.now; arguments = map argument_of f.arguments.now }

-- each command once
abbrev pub table : List Form
table = spelled.commands

-- the program, whose words begin with the command's name, and which has no help
abbrev pub no_forms : App
no_forms = on_top (λ s. record s { no_binary_name = true; disable_help_flag = true; disable_help_subcommand = true }) (new_app spelled.program)

-- the program with each command of the table
unfoldable pub app : App
app = fold with_form no_forms table

-- ---- what is read of the values

-- the text of an operand or of an option with a value, where it stands among the words
abbrev pub given : Text → List Row → Option Text
given = first_of

-- whether an option without a value stands among the words
abbrev pub is_set : Text → List Row → Bool
is_set name rows = option_map_or (λ text. bytes_eq text (codes "true")) (given name rows) false

-- the step limit that this value gives, or that none gives
abbrev pub IsLimit : Option Text → ℕ → Type 0
IsLimit None steps = steps ≡ spelled.default_steps
IsLimit (Some text) steps = (text ≡ decimal steps) × (1 ≤ steps) × (steps ≤ spelled.most_steps)

-- the items that this list has, or that none gives
abbrev pub AreItems : Option Text → List Item → Type 0
AreItems None items = items ≡ []
AreItems (Some text) items = IsList text items

-- `[--steps N] [--at LIST] [--oracle WAY] [--bindings] [--words] [--log] [--stats]`
pub record AreOptions (rows : List Row) (options : RunOptions) : Type 0 where
  pub limit : IsLimit (given spelled.steps rows) options.steps
  pub items : AreItems (given spelled.at rows) options.items
  pub oracle : IsOracle (given spelled.oracle rows) options.oracle
  pub bindings : options.bindings ≡ is_set spelled.bindings rows
  pub words : options.words ≡ is_set spelled.words rows
  pub log : options.log ≡ is_set spelled.log rows
  pub stats : options.stats ≡ is_set spelled.stats rows

-- ---- commands

-- what a command asks for
pub data Asked : Type 0 where
  Runs : (file : List ℕ) → RunOptions → Asked
  Builds : (file image : List ℕ) → Asked
  Executes : (image : List ℕ) → RunOptions → Asked
  Lists : (image : List ℕ) → (words : Bool) → Asked
  Evaluates : (file : List ℕ) → (bound : ℕ) → Asked
  Generates : (number : ℕ) → (source : Bool) → Asked
  Converts : Conversion → (from to : List ℕ) → Asked
  Disassembles : (image : List ℕ) → Asked
  Checks : (file image : List ℕ) → Asked
  Prints : (text : List ℕ) → Asked

abbrev pub asked : Command → Asked
asked (command.Run file options) = Runs file.now options
asked (command.Build file image) = Builds file.now image.now
asked (command.Exec image options) = Executes image.now options
asked (command.List image words) = Lists image.now words
asked (command.Eval file bound) = Evaluates file.now bound
asked (command.Gen number source) = Generates number source
asked (command.Convert conversion from to) = Converts conversion from.now to.now
asked (command.Disassemble image) = Disassembles image.now
asked (command.Check file image) = Checks file.now image.now
asked (command.Print text) = Prints text.items

-- The command with this name, with these values, asks for this; numbers are decimal numerals.
abbrev pub Asks : (name : Text) → List Row → Asked → Type 0
Asks name rows (Runs file options) = (name ≡ spelled.run) × (given spelled.file rows ≡ Some file) × AreOptions rows options
Asks name rows (Builds file image) = (name ≡ spelled.build) × (given spelled.file rows ≡ Some file) × (given spelled.image rows ≡ Some image)
Asks name rows (Executes image options) = (name ≡ spelled.exec) × (given spelled.image rows ≡ Some image) × AreOptions rows options
Asks name rows (Lists image words) = (name ≡ spelled.list) × (given spelled.image rows ≡ Some image) × (words ≡ is_set spelled.words rows)
Asks name rows (Evaluates file bound) = (name ≡ spelled.eval) × (given spelled.file rows ≡ Some file) × (given spelled.bound rows ≡ Some (decimal bound)) × (bound ≤ spelled.most_bound)
Asks name rows (Generates number source) = (name ≡ spelled.gen) × (given spelled.number rows ≡ Some (decimal number)) × (number ≤ spelled.most_number) × (source ≡ is_set spelled.source rows)
Asks name rows (Converts conversion from to) = (name ≡ name_of conversion) × (given (from_of conversion) rows ≡ Some from) × (given (to_of conversion) rows ≡ Some to)
Asks name rows (Disassembles image) = (name ≡ spelled.disasm) × (given spelled.image rows ≡ Some image)
Asks name rows (Checks file image) = (name ≡ spelled.check) × (given spelled.file rows ≡ Some file) × (given spelled.image rows ≡ Some image)
Asks name rows (Prints text) =
    ((name ≡ spelled.help) × (help_on (given spelled.command rows) ≡ Some text)) ⊎ ((name ≡ spelled.version) × (text ≡ version_text))

-- The words are a command that asks for this: clap has no fault to find with them, and what it gives the command that they name asks for it.
pub record IsCommand (words : List Text) (a : Asked) : Type 0 where
  pub name : Text
  pub rows : List Row
  pub faultless : fault_of app words ≡ []
  pub read : subcommand_of app words ≡ Some (name, rows)
  pub asks : Asks name rows a

-- What is read of these values of the command with this name: what they ask for, or nothing where they ask for nothing.
abbrev pub IsReading : (name : Text) → List Row → Option Command → Type 0
IsReading name rows found = MatchOption found ((a : Asked) → Asks name rows a → ⊥) (λ command. Asks name rows (asked command))

abbrev pub IsNoCommand : List Text → Type 0
IsNoCommand words = (a : Asked) → IsCommand words a → ⊥

-- the oracle by which a command picks: that of its options, and of one that takes none the one that always picks the oldest word
abbrev pub oracle_asked : Asked → Oracle
oracle_asked (Runs file options) = options.oracle
oracle_asked (Builds file image) = Oldest
oracle_asked (Executes image options) = options.oracle
oracle_asked (Lists image words) = Oldest
oracle_asked (Evaluates file bound) = Oldest
oracle_asked (Generates number source) = Oldest
oracle_asked (Converts conversion from to) = Oldest
oracle_asked (Disassembles image) = Oldest
oracle_asked (Checks file image) = Oldest
oracle_asked (Prints text) = Oldest

-- the oracle by which these words pick, whether they are a command or not
pub data PicksBy (words : List Text) : Oracle → Type 0 where
  by_command : (a : Asked) → IsCommand words a → PicksBy words (oracle_asked a)
  by_none : IsNoCommand words → PicksBy words Oldest
