-- A map from texts to vectors, as names with their bytes.
use Rattle.std.proofs.Common.{◌≡◌, ◌≢◌, ℕ, true, false, cond, List, [], ◌∷◌, Option, Some, String, Vec, Global, string_bytes, refl, sym}
use Rattle.std.specs.Prelude.{option_map}
use Rattle.std.specs.Map.{lookup}
use Rattle.std.specs.Str.{bytes_eq}
use Rattle.std.specs.BTreeMap.{BTreeMap, get_by_text, UpdatesBy}
use Rattle.std.specs.Ordering.{nat_cmp, is_eq}
use Rattle.std.specs.Cmp.Lexicographic.{slice_cmp}
use Rattle.std.specs.String.{string_cmp}
use Rattle.std.proofs.lemmas.Map.Text.{btree_map_updates_text, is_eq-slice_cmp}
use Rattle.std.proofs.lemmas.Slice.Eq.{bytes_eq-Decides}
use Rattle.std.proofs.lemmas.Bool.{false_from_ne_true}
use Rattle.mv_io.specs.Memory.{named_bytes}

-- an entry counts for a name where its key's bytes are the name's
one : (name : List ℕ) (key : String Global) (v : Vec ℕ Global) (rest : Option (Vec ℕ Global)) (named : Option (List ℕ)) →
    named ≡ option_map (λ w. w.items) rest →
    cond (bytes_eq name (string_bytes key)) (Some v.items) named ≡ option_map (λ w. w.items) (cond (is_eq (slice_cmp nat_cmp name (string_bytes key))) (Some v) rest)
one name key v rest named same =
    rw (is_eq-slice_cmp name (string_bytes key), same)
    (elim (bytes_eq name (string_bytes key)) as (λ b. cond b (Some v.items) (option_map (λ w. w.items) rest) ≡ option_map (λ w. w.items) (cond b (Some v) rest)) [ true ↦ refl | false ↦ refl ])

found_in : (name : List ℕ) (entries : List (String Global × Vec ℕ Global)) →
    lookup (bytes_eq name) (named_bytes entries) ≡ option_map (λ w. w.items) (lookup (λ k. is_eq (slice_cmp nat_cmp name (string_bytes k))) entries)
found_in name [] = refl
found_in name (e ∷ es) = one name e.0 e.1 _ _ (found_in name es)

-- a name's bytes are those of the vector that the map has under it
pub found : (name : List ℕ) (m : BTreeMap (String Global) (Vec ℕ Global)) →
    lookup (bytes_eq name) (named_bytes m.entries) ≡ option_map (λ w. w.items) (get_by_text m name)
found name m = found_in name m.entries

module _ (name : List ℕ) (m n : BTreeMap (String Global) (Vec ℕ Global)) (v : Vec ℕ Global) (updates : UpdatesBy string_cmp (λ k. slice_cmp nat_cmp name (string_bytes k)) m n (Some v)) where
  looked_up : (other : List ℕ) → get_by_text n other ≡ cond (bytes_eq name other) (Some v) (get_by_text m other)
  looked_up = btree_map_updates_text name m n (Some v) updates

  -- the name has the bytes of the vector that was put under it
  pub put_own : lookup (bytes_eq name) (named_bytes n.entries) ≡ Some v.items
  put_own = rw (found name n, looked_up name, (bytes_eq-Decides name name).1 refl) refl

  -- another name has what it had
  pub put_other : (other : List ℕ) → other ≢ name → lookup (bytes_eq other) (named_bytes n.entries) ≡ lookup (bytes_eq other) (named_bytes m.entries)
  put_other other differs =
      rw (found other n, found other m, looked_up other, false_from_ne_true (bytes_eq name other) (λ same. differs (sym ((bytes_eq-Decides name other).0 same)))) refl
