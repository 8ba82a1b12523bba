-- Which arm of a `switch` a value leads to (C11 6.8.4.2).
use Rattle.std.specs.Prelude.{ℕ, suc, Bool, List, [], ◌∷◌, ◌++◌, if◌then◌else◌}
use Rattle.mv_ast.specs.declared.program.Arm.{Arm}
use Rattle.mv_meaning.specs.Meaning.{tried_labels}

-- the index of the first one that a test picks, and the number of all where it picks none
abbrev pub index_of : {A : Type 0} → (A → Bool) → List A → ℕ
index_of is_picked [] = 0
index_of is_picked (a ∷ rest) = if is_picked a then 0 else suc (index_of is_picked rest)

-- whether a value is a label of an arm
abbrev pub has_label : ℕ → Arm → Bool
has_label v a = (tried_labels v a.labels).found

abbrev pub has_default : Arm → Bool
has_default a = a.other

-- the labels of all arms, in order
abbrev pub all_labels : List Arm → List ℕ
all_labels [] = []
all_labels (a ∷ arms) = a.labels ++ all_labels arms

-- the index of the arm to which a value leads
abbrev pub first_arm : ℕ → List Arm → ℕ
first_arm v arms = if (tried_labels v (all_labels arms)).found then index_of (has_label v) arms else index_of has_default arms
