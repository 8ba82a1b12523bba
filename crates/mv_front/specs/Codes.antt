-- The codes of refusals. 10 to 12 are those of faults of an image.
use Rattle.std.specs.Prelude.{ℕ}

-- no token begins here, or a malformed one
abbrev pub token : ℕ
token = 1

-- it is C, but not of the profile
abbrev pub unsupported : ℕ
unsupported = 2

-- a name or the source is too long
abbrev pub length : ℕ
length = 3

-- the tokens begin no translation unit
abbrev pub unit : ℕ
unit = 4

-- tokens are nested too deep
abbrev pub nesting : ℕ
nesting = 5

-- a rule is broken
abbrev pub rule : ℕ
rule = 6

-- a limit on the program is passed
abbrev pub limit : ℕ
limit = 7

-- the frame of a function is too large
abbrev pub frame : ℕ
frame = 8

-- there is too much code
abbrev pub text : ℕ
text = 9

-- the globals have too many words
abbrev pub globals : ℕ
globals = 13

-- there are too many sites
abbrev pub sites : ℕ
sites = 14

-- an item of the operator is no action of the program
abbrev pub action : ℕ
action = 15
