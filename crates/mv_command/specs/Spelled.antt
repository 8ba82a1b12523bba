-- The commands with what may stand behind each, as they are spelled, and the numbers that they allow.
use Rattle.std.specs.Prelude.{ℕ, List, [], ◌∷◌, codes}
use Rattle.clap.specs.Walk.{Text}
use Rattle.mv_command.specs.declared.options.Kind.{Kind}
use Rattle.mv_command.specs.declared.options.Kind.TheVariants.{Operand, Optional, Needed, Valued, Flag}

-- the name of the program
abbrev pub program : Text
program = codes "multiverse"

-- ---- the names of commands

abbrev pub run : Text
run = codes "run"

abbrev pub build : Text
build = codes "build"

abbrev pub exec : Text
exec = codes "exec"

abbrev pub list : Text
list = codes "list"

abbrev pub eval : Text
eval = codes "eval"

abbrev pub gen : Text
gen = codes "gen"

abbrev pub upgrade : Text
upgrade = codes "upgrade"

abbrev pub asm : Text
asm = codes "asm"

abbrev pub disasm : Text
disasm = codes "disasm"

abbrev pub elf : Text
elf = codes "elf"

abbrev pub unelf : Text
unelf = codes "unelf"

abbrev pub check : Text
check = codes "check"

abbrev pub help : Text
help = codes "help"

abbrev pub version : Text
version = codes "version"

-- ---- those of operands and options

abbrev pub command : Text
command = codes "command"

abbrev pub file : Text
file = codes "file"

abbrev pub image : Text
image = codes "image"

abbrev pub out : Text
out = codes "out"

abbrev pub number : Text
number = codes "number"

abbrev pub steps : Text
steps = codes "steps"

abbrev pub at : Text
at = codes "at"

abbrev pub oracle : Text
oracle = codes "oracle"

abbrev pub bindings : Text
bindings = codes "bindings"

abbrev pub words : Text
words = codes "words"

abbrev pub log : Text
log = codes "log"

abbrev pub stats : Text
stats = codes "stats"

abbrev pub bound : Text
bound = codes "bound"

abbrev pub source : Text
source = codes "source"

-- ---- those of oracles

abbrev pub fresh : Text
fresh = codes "fresh"

abbrev pub oldest : Text
oldest = codes "oldest"

-- ---- the table

-- an operand or an option: its name, what is written in place of its value, and what it is for
pub record Argument : Type 0 where
  pub kind : Kind
  pub name : Text
  pub value : Text
  pub about : Text

abbrev argument : Kind → (name value about : Text) → Argument
argument kind name value about = record { kind = kind; name = name; value = value; about = about }

-- a command: its name, what it does, and what may stand behind it, the operands in this order, the options anywhere
pub record Form : Type 0 where
  pub name : Text
  pub does : Text
  pub arguments : List Argument

abbrev form : (name does : Text) → List Argument → Form
form name does arguments = record { name = name; does = does; arguments = arguments }

abbrev pub source_file : Argument
source_file = argument Operand file (codes "FILE") (codes "a file with a C program")

abbrev pub image_file : Argument
image_file = argument Operand image (codes "IMAGE") (codes "a file with an image")

abbrev pub assembler_file : Argument
assembler_file = argument Operand file (codes "FILE") (codes "a file with assembler text")

abbrev pub elf_file : Argument
elf_file = argument Operand file (codes "FILE") (codes "an ELF file")

abbrev pub made_image : Argument
made_image = argument Operand image (codes "IMAGE") (codes "the file that is made")

abbrev pub made_file : Argument
made_file = argument Operand out (codes "OUT") (codes "the file that is made")

-- what may stand behind a command that runs an image
abbrev pub of_runs : List Argument
of_runs =
    argument Valued steps (codes "N") (codes "at most N instructions, 1 to 1000000000000; without it 1000000000") ∷
    argument Valued at (codes "LIST") (codes "what the operator does: items POLL:SWITCH=VALUE, with commas between") ∷
    argument Valued oracle (codes "WAY") (codes "which of its words a fetch gives: fresh, oldest, or numbers with commas between; without it oldest") ∷
    argument Flag bindings [] (codes "notes for each attributed function and pointer switch what it is bound to at the end") ∷
    argument Flag words [] (codes "notes each word of text that is another at the end than at the start") ∷
    argument Flag log [] (codes "notes each change of what an attributed function or pointer switch is bound to") ∷
    argument Flag stats [] (codes "notes how many instructions were executed") ∷ []

-- each command once
abbrev pub commands : List Form
commands =
    form run (codes "compiles FILE and runs it") (source_file ∷ of_runs) ∷
    form build (codes "compiles FILE and saves its image as IMAGE") (source_file ∷ image_file ∷ []) ∷
    form exec (codes "runs IMAGE") (image_file ∷ of_runs) ∷
    form list (codes "writes what stands in IMAGE")
    (image_file ∷ argument Flag words [] (codes "writes in place of that the words that commits change, as instructions") ∷ []) ∷
    form eval (codes "evaluates what FILE means at the bound K")
    (source_file ∷ argument Needed bound (codes "K") (codes "0 to 4294967295, for calls within calls and turns of loops") ∷ []) ∷
    form gen (codes "makes the program of NUMBER and runs it")
    (argument Operand number (codes "NUMBER") (codes "0 to 4294967295") ∷ argument Flag source [] (codes "writes its text in place of its run") ∷ []) ∷
    form upgrade (codes "saves IMAGE in version 2 as OUT") (image_file ∷ made_file ∷ []) ∷
    form asm (codes "assembles FILE and saves its image as IMAGE") (assembler_file ∷ made_image ∷ []) ∷
    form disasm (codes "writes the code of IMAGE as assembler text") (image_file ∷ []) ∷
    form elf (codes "saves IMAGE as an ELF file OUT") (image_file ∷ made_file ∷ []) ∷
    form unelf (codes "saves the image that the ELF file FILE holds as OUT") (elf_file ∷ made_file ∷ []) ∷
    form check (codes "compiles FILE and tells whether IMAGE is its image") (source_file ∷ image_file ∷ []) ∷
    form help (codes "tells of the commands, or of COMMAND") (argument Optional command (codes "COMMAND") (codes "the name of a command") ∷ []) ∷
    form version (codes "tells the version") [] ∷ []

-- ---- numbers

-- the step limit where none is given, and the greatest
abbrev pub default_steps : ℕ
default_steps = 1000000000

abbrev pub most_steps : ℕ
most_steps = 1000000000000

-- the greatest number of a program, and the greatest bound of an evaluation
abbrev pub most_number : ℕ
most_number = 4294967295

abbrev pub most_bound : ℕ
most_bound = 4294967295

-- the greatest number of a poll in a list, and the greatest value there, and how far below 0 one may be
abbrev pub most_poll : ℕ
most_poll = 65535

abbrev pub most_value : ℕ
most_value = 4294967295

abbrev pub least_value : ℕ
least_value = 2147483648

-- the greatest number of an oracle
abbrev pub most_pick : ℕ
most_pick = 4294967295
