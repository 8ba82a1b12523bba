-- In whose code an address stands, by the names of an image.
use Rattle.std.specs.Prelude.{ℕ, ◌+◌, ◌&&◌, nat_le, nat_lt, List, [], ◌∷◌, Option, Some, None, option_map, unwrap_or, take, drop, if◌then◌else◌}
use Rattle.mv_descriptors.specs.declared.rows.FunctionRow.{FunctionRow}
use Rattle.mv_descriptors.specs.declared.rows.VariantRow.{VariantRow}
use Rattle.mv_descriptors.specs.declared.rows.TargetRow.{TargetRow}
use Rattle.mv_image.specs.Spelling.{Fields}
use Rattle.mv_list.specs.Listing.{function_name, target_name}
use Rattle.mv_list.specs.Numbers.{address_text}
use Rattle.mv_list.specs.declared.places.Owner.{Owner}
use Rattle.mv_list.specs.declared.places.Owner.TheVariants.{Target, Attributed}
use Rattle.mv_list.specs.declared.places.Start.{Start}

-- the later of two starts, of which the second counts where it isn't behind the address; of two at one place the first
abbrev pub later : (address : ℕ) → Option Start → Start → Option Start
later address None start = if nat_le start.address address then Some start else None
later address (Some best) start = if nat_le start.address address && nat_lt best.address start.address then Some start else Some best

-- among the targets from the n-th on: the code of each begins at its entry
unfoldable pub last_target : (address n : ℕ) → Option Start → List TargetRow → Option Start
last_target address n best [] = best
last_target address n best (row ∷ rows) = last_target address (n + 1) (later address best (record { address = row.entry; owner = Target n })) rows

-- among variants of one function
unfoldable pub last_variant : (address function : ℕ) → Option Start → List VariantRow → Option Start
last_variant address function best [] = best
last_variant address function best (row ∷ rows) = last_variant address function (later address best (record { address = row.address; owner = Attributed function })) rows

-- among the variants of the functions from the n-th on, each of which has the first of those that are left
unfoldable pub last_of_variants : (address n : ℕ) → Option Start → List FunctionRow → List VariantRow → Option Start
last_of_variants address n best [] variants = best
last_of_variants address n best (row ∷ rows) variants =
    last_of_variants address (n + 1) (last_variant address n best (take row.variants variants)) rows (drop row.variants variants)

-- The code that begins last at or before an address; a target's before a variant's.
abbrev pub last_start : Fields → (address : ℕ) → Option Start
last_start image address = last_of_variants address 0 (last_target address 0 None image.targets) image.functions image.variants

-- a variant has the name of its function
abbrev pub owner_name : Fields → Owner → List ℕ
owner_name image (Target target) = target_name image target
owner_name image (Attributed function) = function_name image function

-- The function in whose code an address stands. Without targets an image names attributed functions alone, so it tells none.
abbrev pub owner_among : Fields → (address : ℕ) → List TargetRow → Option (List ℕ)
owner_among image address [] = None
owner_among image address (row ∷ rows) = option_map (λ (start : Start). owner_name image start.owner) (last_start image address)

abbrev pub place_name : Fields → (address : ℕ) → Option (List ℕ)
place_name image address = owner_among image address image.targets

-- the name, or else the address
abbrev pub place_text : Fields → (address : ℕ) → List ℕ
place_text image address = unwrap_or (place_name image address) (address_text address)
