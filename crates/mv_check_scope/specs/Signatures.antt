-- Each signature once: the number of one is its place in the list.
use Rattle.std.specs.Prelude.{◌≡◌, ℕ, List, [], ◌∷◌, ◌++◌, ◌+◌, if◌then◌else◌, nat_eq, Option, Some, None}
use Rattle.std.specs.Cmp.Lexicographic.{pointwise}
use Rattle.std.specs.declared.vec.Vec.{Vec}
use Rattle.std.specs.declared.alloc.Global.{Global}
use Rattle.mv_ast.specs.declared.program.CType.{CType}
use Rattle.mv_ast.specs.declared.program.CType.TheVariants.{Void, Scalar, Pointer}
use Rattle.mv_ast.specs.declared.program.Signature.{Signature}
use Rattle.mv_num.specs.Kinds.{kind_number}
use Rattle.mv_check_scope.specs.Conversions.{same_signature}
use Rattle.mv_check_scope.specs.Entries.{value_at}

-- the place of a signature in a list, or the list's length
abbrev pub place_of : Signature → List Signature → ℕ
place_of s [] = 0
place_of s (t ∷ ts) = if same_signature s t then 0 else place_of s ts + 1

-- the list with a signature that it may have already
abbrev pub with_signature : Signature → List Signature → List Signature
with_signature s [] = s ∷ []
with_signature s (t ∷ ts) = if same_signature s t then t ∷ ts else t ∷ with_signature s ts

-- which of the three a type is, and which it is among those
abbrev pub sort_of : CType → ℕ
sort_of Void = 0
sort_of (Scalar kind) = 1
sort_of (Pointer signature) = 2

abbrev pub number_of : CType → ℕ
number_of Void = 0
number_of (Scalar kind) = kind_number kind
number_of (Pointer signature) = signature

-- the words that tell a type, and a signature, from all others
abbrev pub type_words : CType → List ℕ
type_words t = sort_of t ∷ number_of t ∷ []

abbrev pub types_words : List CType → List ℕ
types_words [] = []
types_words (t ∷ ts) = type_words t ++ types_words ts

abbrev pub spelling : Signature → List ℕ
spelling s = types_words (s.result ∷ s.params)

-- the place of the first signature with a spelling
abbrev pub next : Option ℕ → Option ℕ
next None = None
next (Some n) = Some (n + 1)

abbrev pub place_spelled : List ℕ → List Signature → Option ℕ
place_spelled words [] = None
place_spelled words (s ∷ ss) = if pointwise nat_eq words (spelling s) then Some 0 else next (place_spelled words ss)

-- an ordered map finds each signature at its place
abbrev pub ArePlaces : List (Vec ℕ Global × ℕ) → List Signature → Type 0
ArePlaces entries ss = (words : List ℕ) → value_at words entries ≡ place_spelled words ss
