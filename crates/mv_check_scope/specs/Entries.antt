-- What the entries of an ordered map have at a text.
use Rattle.std.specs.Prelude.{ℕ, List, Option}
use Rattle.std.specs.Cmp.Lexicographic.{slice_cmp}
use Rattle.std.specs.Ordering.{is_eq, nat_cmp}
use Rattle.std.specs.Map.{lookup}
use Rattle.std.specs.declared.vec.Vec.{Vec}
use Rattle.std.specs.declared.alloc.Global.{Global}

abbrev pub value_at : {X : Type 0} → List ℕ → List (Vec ℕ Global × X) → Option X
value_at text = lookup (λ k. is_eq (slice_cmp nat_cmp text k.items))
