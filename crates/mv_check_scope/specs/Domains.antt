-- The values of domains.
use Rattle.std.specs.Prelude.{ℕ, List, [], ◌∷◌, ◌++◌, if◌then◌else◌}
use Rattle.mv_num.specs.Lists.{is_among}

abbrev pub distinct_behind : List ℕ → List ℕ → List ℕ
distinct_behind done [] = done
distinct_behind done (v ∷ vs) = distinct_behind (if is_among v done then done else done ++ v ∷ []) vs

-- the different ones of some values, in order of first appearance
abbrev pub distinct : List ℕ → List ℕ
distinct vs = distinct_behind [] vs
