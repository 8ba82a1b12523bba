-- What the program tells of itself, made of the table of commands.
use Rattle.std.specs.Prelude.{◌++◌, List, [], ◌∷◌, Option, Some, None, option_map, find, codes}
use Rattle.std.specs.Str.{bytes_eq}
use Rattle.clap.specs.Walk.{Text}
use Rattle.mv_command.specs.declared.options.TheConstants.{VERSION}
use Rattle.mv_command.specs.declared.options.Kind.{Kind}
use Rattle.mv_command.specs.declared.options.Kind.TheVariants.{Operand, Optional, Needed, Valued, Flag}
use Rattle.mv_command.specs.Spelled.{Argument, Form, commands, program}

-- how an argument of this kind is written, with this name and this in place of its value: in brackets, where it may be left out
abbrev pub written_as : Kind → (name value : Text) → Text
written_as Operand name value = value
written_as Optional name value = codes "[" ++ (value ++ codes "]")
written_as Needed name value = codes "--" ++ (name ++ (codes " " ++ value))
written_as Valued name value = codes "[--" ++ (name ++ (codes " " ++ (value ++ codes "]")))
written_as Flag name value = codes "[--" ++ (name ++ codes "]")

abbrev pub written : Argument → Text
written argument = written_as argument.kind argument.name argument.value

-- some arguments, each behind a space
unfoldable pub arguments_text : List Argument → Text
arguments_text [] = []
arguments_text (argument ∷ rest) = codes " " ++ (written argument ++ arguments_text rest)

-- a command with what may stand behind its name, and what it does
abbrev pub summary : Form → Text
summary form = form.name ++ (arguments_text form.arguments ++ (codes "\n    " ++ (form.does ++ codes "\n")))

unfoldable pub summaries_text : List Form → Text
summaries_text [] = []
summaries_text (form ∷ rest) = summary form ++ summaries_text rest

-- an argument, and what it is for
abbrev pub line : Argument → Text
line argument = codes "  " ++ (written argument ++ (codes ": " ++ (argument.about ++ codes "\n")))

unfoldable pub lines_text : List Argument → Text
lines_text [] = []
lines_text (argument ∷ rest) = line argument ++ lines_text rest

-- a command, with a line for each argument
abbrev pub details : Form → Text
details form = summary form ++ lines_text form.arguments

abbrev pub version_text : Text
version_text = program ++ (codes " " ++ (VERSION.now ++ codes "\n"))

abbrev pub help_text : Text
help_text = version_text ++ summaries_text commands

-- the first of some commands with a name
abbrev pub form_named : Text → List Form → Option Form
form_named name forms = find (λ form. bytes_eq form.name name) forms

-- what is told of all commands, or of the one with this name, where there is one
abbrev pub help_on : Option Text → Option Text
help_on None = Some help_text
help_on (Some name) = option_map details (form_named name commands)
