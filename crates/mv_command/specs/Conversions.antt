-- What one file is made of another by: the command, and its operands.
use Rattle.clap.specs.Walk.{Text}
use Rattle.mv_command.specs.declared.conversion.Conversion.{Conversion}
use Rattle.mv_command.specs.declared.conversion.Conversion.TheVariants.{Upgrade, Assemble, ToElf, FromElf}
use Rattle.mv_command.specs.Spelled as spelled

-- the name of its command
abbrev pub name_of : Conversion → Text
name_of Upgrade = spelled.upgrade
name_of Assemble = spelled.asm
name_of ToElf = spelled.elf
name_of FromElf = spelled.unelf

-- the operand of which it makes a file
abbrev pub from_of : Conversion → Text
from_of Upgrade = spelled.image
from_of Assemble = spelled.file
from_of ToElf = spelled.image
from_of FromElf = spelled.file

-- the operand that names what is made
abbrev pub to_of : Conversion → Text
to_of Upgrade = spelled.out
to_of Assemble = spelled.image
to_of ToElf = spelled.out
to_of FromElf = spelled.out
