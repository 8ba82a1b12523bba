-- No code of a variant loads a switch of its function, by the tables of the image alone.
use Rattle.std.specs.Prelude.{ℕ, ◌≡◌, ◌+◌, ◌<◌, ◌≤◌, ◌⊎◌, List, take, Some, slice_get, Contains}
use Rattle.mv_descriptors.specs.declared.rows.FunctionRow.{FunctionRow}
use Rattle.mv_descriptors.specs.declared.rows.SiteRow.{SiteRow}
use Rattle.mv_descriptors.specs.declared.rows.SwitchRow.{SwitchRow}
use Rattle.mv_descriptors.specs.declared.rows.VariantRow.{VariantRow}
use Rattle.mv_fetch.specs.Held.{choices}
use Rattle.mv_image.specs.Patched.{site_at, site_before, variants_before}
use Rattle.mv_image.specs.Spelling.{Fields}
use Rattle.mv_machine.specs.Acts.{PollActs}
use Rattle.mv_machine.specs.Runs.{Going, bytes_to_come, runs}
use Rattle.mv_refine_machine.specs.Runs.Behaves.{word_loads}

module _ (image : Fields) where
  -- an address is in the data word of a switch
  pub record IsSwitchWord (number a : ℕ) : Type 0 where
    pub switch : SwitchRow
    pub is_switch : slice_get image.switches number ≡ Some switch
    pub from : switch.address ≤ a
    pub to : a < switch.address + 4

  -- in that of a switch of a function, by its number in the table
  pub record IsOwnSwitch (n a : ℕ) : Type 0 where
    pub function : FunctionRow
    pub there : slice_get image.functions n ≡ Some function
    pub place : ℕ
    pub number : ℕ
    pub is_own : slice_get (take function.count function.switches) place ≡ Some number
    pub word : IsSwitchWord number a

  -- A place is in the words of one of a function's variants, which go from the variant's address to that of the next one, or to the end of text.
  pub record IsVariantWord (n pc : ℕ) : Type 0 where
    pub variant : ℕ
    pub from : variants_before image n ≤ variant
    pub to : variant < variants_before image (n + 1)
    pub row : VariantRow
    pub there : slice_get image.variants variant ≡ Some row
    pub begins : row.address ≤ pc
    pub ends : (next : VariantRow) → slice_get image.variants (variant + 1) ≡ Some next → pc < next.address

  -- A place is one of the two words of a site.
  pub record IsSiteWord (pc : ℕ) : Type 0 where
    pub site : SiteRow
    pub here : (site_at image pc ≡ Some site) ⊎ (site_before image pc ≡ Some site)

-- No instruction of a run that stands in the words of a function's variants, at a site among them or not, loads a data word of a switch of the function; and
-- none at a site, wherever the site is, loads one of any switch. That is so whatever is picked.
abbrev pub LoadsNoOwnSwitch : Fields → (bytes : List ℕ) → PollActs → (picks : List ℕ) → Type 0
LoadsNoOwnSwitch image bytes polls picks =
    (t a : ℕ) → let s = runs image (bytes_to_come bytes) polls picks t in
    s.stop ≡ Going → (word : ℕ) → Contains (choices s.room.held s.pc) word → word_loads s.regs word ≡ Some a →
    ((n : ℕ) → IsVariantWord image n s.pc → IsOwnSwitch image n a → ⊥) × ((number : ℕ) → IsSiteWord image s.pc → IsSwitchWord image number a → ⊥)
