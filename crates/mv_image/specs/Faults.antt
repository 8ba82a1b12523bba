-- The first place at which bytes are no image, and what an image and its spelling are to each other.
use Rattle.std.specs.Prelude.{ℕ, ◌≡◌, ◌+◌, ◌-◌, ◌*◌, ◌<◌, ◌≤◌, ◌^◌, List, [], length, map, ◌++◌, slice_index, ◌==◌, Bool, true, false, nat_lt, if◌then◌else◌}
use Rattle.std.specs.Prelude.{All}
use Rattle.mv_num.specs.Bytes.{words_of, AreWords}
use Rattle.mv_descriptors.specs.declared.rows.SwitchRow.{SwitchRow}
use Rattle.mv_descriptors.specs.declared.rows.FunctionRow.{FunctionRow}
use Rattle.mv_descriptors.specs.declared.rows.VariantRow.{VariantRow}
use Rattle.mv_descriptors.specs.declared.rows.PointerRow.{PointerRow}
use Rattle.mv_descriptors.specs.declared.rows.TargetRow.{TargetRow}
use Rattle.mv_descriptors.specs.Widths.{SwitchWhole, FunctionWhole, VariantWhole, GuardWhole, SwitchClean, FunctionClean, VariantClean}
use Rattle.mv_image.specs.declared.fault.ImageError.{ImageError}
use Rattle.mv_image.specs.declared.fault.ImageError.TheVariants.{Memory, Truncated, BadField, Trailing}
use Rattle.mv_image.specs.Places.{version_place, entry_address, words_end, text_words, data_words, switch_rows, function_rows, variant_rows, guard_rows, site_rows, pointer_rows, point_rows, target_rows, check_of, name_bytes}
use Rattle.mv_image.specs.Rules.{word_fits, name_fits}
use Rattle.mv_image.specs.Spelling.{Fields, joined, filled, words_in, spelling}

-- The places of an image are its words and then each byte of the names and of what fills them up.
abbrev pub places : List ℕ → ℕ
places bytes = words_end (words_of bytes) + filled (name_bytes (words_of bytes))

-- where a place begins
unfoldable pub offset : List ℕ → ℕ → ℕ
offset bytes place =
    let words = words_end (words_of bytes) in
    if nat_lt place words then 4 * place else 4 * words + (place - words)

-- The bytes of a place are there.
abbrev pub IsThere : List ℕ → ℕ → Type 0
IsThere bytes place = offset bytes (place + 1) ≤ length bytes

unfoldable pub place_fits : List ℕ → ℕ → Bool
place_fits bytes place =
    let words = words_end (words_of bytes) in
    if nat_lt place words then word_fits (words_of bytes) place else name_fits (words_of bytes) bytes (place - words)

-- Each word of an image keeps its rule.
abbrev pub AllFit : List ℕ → Type 0
AllFit ws = (i : ℕ) → i < words_end ws → word_fits ws i ≡ true

-- Each place before one is there and keeps its rule.
abbrev pub AllBefore : List ℕ → ℕ → Type 0
AllBefore bytes n = (place : ℕ) → place < n → IsThere bytes place × (place_fits bytes place ≡ true)

-- Bytes spell an image.
pub record Spelled (bytes : List ℕ) : Type 0 where
  pub all : AllBefore bytes (places bytes)
  pub end : length bytes ≡ offset bytes (places bytes)

-- A place is the first that isn't there.
pub record IsTruncated (bytes : List ℕ) (at place : ℕ) : Type 0 where
  pub is_place : place < places bytes
  pub before : AllBefore bytes place
  pub at_is : at ≡ offset bytes place
  pub missing : length bytes < offset bytes (place + 1)

-- A place is there and is the first that breaks its rule.
pub record IsBad (bytes : List ℕ) (at place : ℕ) : Type 0 where
  pub is_place : place < places bytes
  pub before : AllBefore bytes place
  pub at_is : at ≡ offset bytes place
  pub there : IsThere bytes place
  pub breaks : place_fits bytes place ≡ false

-- All places are there and keep their rules, and bytes follow.
pub record IsTrailing (bytes : List ℕ) (at : ℕ) : Type 0 where
  pub all : AllBefore bytes (places bytes)
  pub at_is : at ≡ offset bytes (places bytes)
  pub more : at < length bytes

abbrev pub IsMemory : ImageError → Type 0
IsMemory (Memory _) = Unit {0}
IsMemory (Truncated at) = ⊥
IsMemory (BadField at) = ⊥
IsMemory (Trailing at) = ⊥

abbrev pub FirstFault : List ℕ → ImageError → Type 0
FirstFault bytes (Memory _) = Unit {0}
FirstFault bytes (Truncated at) = (place : ℕ) × IsTruncated bytes at place
FirstFault bytes (BadField at) = (place : ℕ) × IsBad bytes at place
FirstFault bytes (Trailing at) = IsTrailing bytes at

-- The numbers of the header are words.
pub record CountsFit (image : Fields) : Type 0 where
  pub text : length image.text < 2 ^ 32
  pub globals : length image.globals < 2 ^ 32
  pub switches : length image.switches < 2 ^ 32
  pub functions : length image.functions < 2 ^ 32
  pub variants : length image.variants < 2 ^ 32
  pub guards : length image.guards < 2 ^ 32
  pub sites : length image.sites < 2 ^ 32
  pub pointers : length image.pointers < 2 ^ 32
  pub points : length image.points < 2 ^ 32
  pub targets : length image.targets < 2 ^ 32
  pub names : length (joined image.names) < 2 ^ 32

-- the words of an image as a reader of its bytes sees them
abbrev pub image_words : Fields → List ℕ
image_words image = words_of (spelling image)

-- The numbers of the header are those of the lists.
pub record Counts (ws : List ℕ) (image : Fields) : Type 0 where
  pub version : slice_index ws version_place ≡ image.version
  pub entry : entry_address ws ≡ image.entry
  pub text : text_words ws ≡ length image.text
  pub globals : data_words ws ≡ length image.globals
  pub switches : switch_rows ws ≡ length image.switches
  pub functions : function_rows ws ≡ length image.functions
  pub variants : variant_rows ws ≡ length image.variants
  pub guards : guard_rows ws ≡ length image.guards
  pub sites : site_rows ws ≡ length image.sites
  pub pointers : pointer_rows ws ≡ length image.pointers
  pub points : point_rows ws ≡ length image.points
  pub targets : target_rows ws ≡ length image.targets
  pub check : check_of ws ≡ image.check
  pub names : name_bytes ws ≡ length (joined image.names)

abbrev pub IsSwitch : SwitchRow → Type 0
IsSwitch row = SwitchWhole row × SwitchClean row

abbrev pub IsFunction : FunctionRow → Type 0
IsFunction row = FunctionWhole row × FunctionClean row

abbrev pub IsVariant : VariantRow → Type 0
IsVariant row = VariantWhole row × VariantClean row

-- the lengths that the rows give for the names
abbrev pub lengths_in : Fields → List ℕ
lengths_in image =
    map (λ (row : SwitchRow). row.length) image.switches ++ map (λ (row : FunctionRow). row.length) image.functions
    ++ map (λ (row : PointerRow). row.length) image.pointers ++ map (λ (row : TargetRow). row.length) image.targets

-- What version 2 alone has isn't there.
pub record HasNoPointers (image : Fields) : Type 0 where
  pub pointers : image.pointers ≡ []
  pub points : image.points ≡ []
  pub targets : image.targets ≡ []
  pub check : image.check ≡ 0

-- What an image keeps: its spelling breaks no rule, its rows are whole and their unused words 0, its fields are words, its names have the lengths that the rows give, and only version 2 has anything of pointers.
pub record Rules (image : Fields) : Type 0 where
  pub spelled : Spelled (spelling image)
  pub words : AreWords (words_in image)
  pub switches : All IsSwitch image.switches
  pub functions : All IsFunction image.functions
  pub variants : All IsVariant image.variants
  pub guards : All GuardWhole image.guards
  pub name_lengths : map length image.names ≡ lengths_in image
  pub first : (image.version == 2) ≡ false → HasNoPointers image

pub record Spells (bytes : List ℕ) (image : Fields) : Type 0 where
  pub rules : Rules image
  pub bytes_are : bytes ≡ spelling image
