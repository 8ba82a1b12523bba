-- The keywords of the language by their numbers (C11 6.4.1), and the one of the attribute.
use Rattle.std.specs.Prelude.{ℕ}

-- `_Bool`
abbrev pub bool : ℕ
bool = 0

-- `break`
abbrev pub break : ℕ
break = 1

-- `case`
abbrev pub case : ℕ
case = 2

-- `char`
abbrev pub char : ℕ
char = 3

-- `const`
abbrev pub const : ℕ
const = 4

-- `continue`
abbrev pub continue : ℕ
continue = 5

-- `default`
abbrev pub default : ℕ
default = 6

-- `do`
abbrev pub «do» : ℕ
«do» = 7

-- `else`
abbrev pub «else» : ℕ
«else» = 8

-- `enum`
abbrev pub enum : ℕ
enum = 9

-- `for`
abbrev pub for : ℕ
for = 10

-- `if`
abbrev pub «if» : ℕ
«if» = 11

-- `int`
abbrev pub int : ℕ
int = 12

-- `return`
abbrev pub return : ℕ
return = 13

-- `short`
abbrev pub short : ℕ
short = 14

-- `signed`
abbrev pub signed : ℕ
signed = 15

-- `static`
abbrev pub static : ℕ
static = 16

-- `switch`
abbrev pub switch : ℕ
switch = 17

-- `unsigned`
abbrev pub unsigned : ℕ
unsigned = 18

-- `void`
abbrev pub void : ℕ
void = 19

-- `while`
abbrev pub while : ℕ
while = 20

-- `__attribute__`
abbrev pub attribute : ℕ
attribute = 21
