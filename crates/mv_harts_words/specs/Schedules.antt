-- The schedule of a number.
use Rattle.std.specs.Prelude.{ℕ, zero, suc, ◌/◌, ◌%◌, List, [], ◌∷◌, ◌++◌}
use Rattle.mv_gen.specs.Generated.{drawn}

-- the hart that a word stands for, of so many
abbrev pub hart_of : (count word : ℕ) → ℕ
hart_of count word = word / 65536 % count

-- Whose turn each is: the t-th, from 1, is that of the hart that the t-th word stands for which is drawn from the number.
unfoldable pub schedule_of : (count number turns : ℕ) → List ℕ
schedule_of count number zero = []
schedule_of count number (suc t) = schedule_of count number t ++ hart_of count (drawn number (suc t)) ∷ []
