-- The punctuators of the language by their numbers (C11 6.4.6). Operators have the numbers of their marks.
use Rattle.std.specs.Prelude.{ℕ}

-- `(`
abbrev pub open_parenthesis : ℕ
open_parenthesis = 0

-- `)`
abbrev pub close_parenthesis : ℕ
close_parenthesis = 1

-- `[`
abbrev pub open_bracket : ℕ
open_bracket = 2

-- `]`
abbrev pub close_bracket : ℕ
close_bracket = 3

-- `{`
abbrev pub open_brace : ℕ
open_brace = 4

-- `}`
abbrev pub close_brace : ℕ
close_brace = 5

-- `;`
abbrev pub semicolon : ℕ
semicolon = 6

-- `,`
abbrev pub comma : ℕ
comma = 7

-- `:`
abbrev pub colon : ℕ
colon = 8

-- `?`
abbrev pub question : ℕ
question = 9

-- `~`
abbrev pub tilde : ℕ
tilde = 10

-- `!`
abbrev pub exclamation : ℕ
exclamation = 11

-- `+`
abbrev pub plus : ℕ
plus = 12

-- `-`
abbrev pub minus : ℕ
minus = 13

-- `*`
abbrev pub star : ℕ
star = 14

-- `/`
abbrev pub slash : ℕ
slash = 15

-- `%`
abbrev pub percent : ℕ
percent = 16

-- `&`
abbrev pub ampersand : ℕ
ampersand = 17

-- `|`
abbrev pub bar : ℕ
bar = 18

-- `^`
abbrev pub caret : ℕ
caret = 19

-- `<`
abbrev pub less : ℕ
less = 20

-- `>`
abbrev pub greater : ℕ
greater = 21

-- `=`
abbrev pub assign : ℕ
assign = 22

-- `++`
abbrev pub increment : ℕ
increment = 23

-- `--`
abbrev pub decrement : ℕ
decrement = 24

-- `<<`
abbrev pub shift_left : ℕ
shift_left = 25

-- `>>`
abbrev pub shift_right : ℕ
shift_right = 26

-- `<=`
abbrev pub less_or_equal : ℕ
less_or_equal = 27

-- `>=`
abbrev pub greater_or_equal : ℕ
greater_or_equal = 28

-- `==`
abbrev pub equal : ℕ
equal = 29

-- `!=`
abbrev pub not_equal : ℕ
not_equal = 30

-- `&&`
abbrev pub logical_and : ℕ
logical_and = 31

-- `||`
abbrev pub logical_or : ℕ
logical_or = 32

-- `+=`
abbrev pub plus_assign : ℕ
plus_assign = 33

-- `-=`
abbrev pub minus_assign : ℕ
minus_assign = 34

-- `*=`
abbrev pub star_assign : ℕ
star_assign = 35

-- `/=`
abbrev pub slash_assign : ℕ
slash_assign = 36

-- `%=`
abbrev pub percent_assign : ℕ
percent_assign = 37

-- `&=`
abbrev pub ampersand_assign : ℕ
ampersand_assign = 38

-- `|=`
abbrev pub bar_assign : ℕ
bar_assign = 39

-- `^=`
abbrev pub caret_assign : ℕ
caret_assign = 40

-- `<<=`
abbrev pub shift_left_assign : ℕ
shift_left_assign = 41

-- `>>=`
abbrev pub shift_right_assign : ℕ
shift_right_assign = 42

-- how many there are
abbrev pub count : ℕ
count = 43
