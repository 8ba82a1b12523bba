-- Which global a name means.
use Rattle.std.specs.Prelude.{ℕ, Bool, false, nat_eq, Option, Some}
use Rattle.std.specs.List.{list_any}
use Rattle.mv_check_scope.specs.declared.meaning.Meaning.{Meaning}
use Rattle.mv_check_scope.specs.declared.meaning.Meaning.TheVariants as meaning
use Rattle.mv_check_scope.specs.declared.meaning.Storage.{Storage}
use Rattle.mv_check_scope.specs.declared.meaning.Storage.TheVariants as storage
use Rattle.mv_check_scope.specs.declared.scope.Scope.{Scope}
use Rattle.mv_check_scope.specs.Scoped.{meaning_of}
use Rattle.mv_accepts_texts.specs.Expressions.{NameList}

abbrev pub is_stored : ℕ → Storage → Bool
is_stored g (storage.Global n) = nat_eq g n
is_stored g (storage.Local l) = false

-- whether the global with a number is meant
abbrev pub is_global : ℕ → Option Meaning → Bool
is_global g (Some (meaning.Object v)) = is_stored g v.storage
is_global g (Some (meaning.Array a)) = is_stored g a.storage
is_global g _ = false

-- whether one of some names means it
abbrev pub names_global : ℕ → Scope → NameList → Bool
names_global g scope names = list_any (λ name. is_global g (meaning_of scope name)) names
