-- The limits on what a program and an image may have: the greatest number of each that is allowed. How many words text and data may have stands beside
-- their regions.
use Rattle.std.specs.Prelude.{ℕ, ◌*◌}
use Rattle.mv_num.specs.Regions.{data_limit}

-- the bytes of an identifier
abbrev pub name_limit : ℕ
name_limit = 63

-- the bytes of a source
abbrev pub source_limit : ℕ
source_limit = 1048576

-- the functions of a program, and so the attributed ones
abbrev pub function_limit : ℕ
function_limit = 1000

-- its globals
abbrev pub global_limit : ℕ
global_limit = 4096

-- the parameters of a function, or of a type of functions
abbrev pub parameter_limit : ℕ
parameter_limit = 8

-- the switches of a program
abbrev pub switch_limit : ℕ
switch_limit = 64

-- its pointer switches
abbrev pub pointer_limit : ℕ
pointer_limit = 64

-- the values of the domain of a switch
abbrev pub value_limit : ℕ
value_limit = 16

-- the switches of an attributed function
abbrev pub own_switch_limit : ℕ
own_switch_limit = 6

-- the assignments of its switches, and so its variants, and the guard rows of each
abbrev pub assignment_limit : ℕ
assignment_limit = 64

-- the elements of an array: more words than there are of data never fit
abbrev pub element_limit : ℕ
element_limit = data_limit

-- the expressions, statements, labels, declared names, parameters and given values of a program
abbrev pub node_limit : ℕ
node_limit = 16777216

-- the temporaries of a function: the words of the greatest frame, but for that of the return address
abbrev pub temp_limit : ℕ
temp_limit = 507

-- the bytes of a frame
abbrev pub frame_limit : ℕ
frame_limit = 2032

-- the temporaries and words of arrays that fit a frame in any case
abbrev pub slot_limit : ℕ
slot_limit = 480

-- the rows of variants in an image, and those of guards
abbrev pub row_limit : ℕ
row_limit = function_limit * assignment_limit

-- its sites
abbrev pub site_limit : ℕ
site_limit = 16384
