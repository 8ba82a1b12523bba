-- Which status comes of a file that is built, converted, shown or checked.
use Rattle.std.proofs.Common.{ℕ, ◌≡◌, ◌⊎◌, inl, inr, List, true, refl, ap}
use Rattle.std.specs.Prelude.{Result, Ok, Err, ⊤}
use Rattle.mv_ast.specs.declared.program.Program.{Program}
use Rattle.mv_command.specs.declared.conversion.Conversion.{Conversion}
use Rattle.mv_command.specs.declared.conversion.Conversion.TheVariants.{Upgrade, Assemble, ToElf, FromElf}
use Rattle.mv_convert.specs.Causes.{Fails, IsMemory, IsNotConverted, of_image}
use Rattle.mv_convert.specs.Conversions.{IsConverted}
use Rattle.mv_convert.specs.declared.error.ConvertError.{ConvertError}
use Rattle.mv_convert.specs.declared.error.ConvertError.TheVariants as convert
use Rattle.mv_convert.proofs.Answer.{converted_not_error, one_error}
use Rattle.mv_io.specs.Shelves.{Lacks}
use Rattle.mv_io.specs.declared.outside.ShelfError.{ShelfError}
use Rattle.mv_io.specs.declared.outside.ShelfError.TheVariants as shelf
use Rattle.mv_image.specs.Faults.{FirstFault, Spells}
use Rattle.mv_image.specs.Spelling.{Fields}
use Rattle.mv_image.specs.declared.fault.ImageError.TheVariants as fault
use Rattle.mv_front.specs.Verdicts.{IsProgram, IsRefused}
use Rattle.mv_front.specs.declared.refusal.Refusal.{Refusal}
use Rattle.mv_front.proofs.OneVerdict.{not_both}
use Rattle.mv_exec.specs.Loading as loading
use Rattle.mv_exec.specs.Loading.{IsBadImage}
use Rattle.mv_exec.proofs.Answer.{one_bad, spells_not_bad}
use Rattle.mv_gen_accepted.specs.Counted.{CountedPassNone}
use Rattle.mv_refine.specs.Environment.{Environment, WriteFailed}
use Rattle.mv_notes.specs.declared.status.Status.{Status}
use Rattle.mv_notes.specs.declared.status.Status.TheVariants.{Refused, Memory, ShelfFault, BadImage, Done}
use Rattle.mv_top.specs.Building as building
use Rattle.mv_top.specs.Building.{IsBuiltAs, IsUnbuilt}
use Rattle.mv_top.specs.Checking as checking
use Rattle.mv_top.specs.Checking.{CheckDoes, CompareDoes}
use Rattle.mv_top.specs.Converting as converting
use Rattle.mv_top.specs.Converting.{IsUnconverted, status_of_conversion}
use Rattle.mv_top.specs.Decisions.{Is, IsCompared, IsTooLarge, IsWithinLimits, converts_image}
use Rattle.mv_top.specs.Listing as listing
use Rattle.mv_top.specs.Listing.{ShowDoes}
use Rattle.mv_top.specs.Outside as outsides
use Rattle.mv_top.specs.Outside.{Outside, ShelfFailed, Tells, Writes}
use Rattle.mv_top.specs.Saving as saving
use Rattle.mv_top.specs.Saving.{SaveDoes}
use Rattle.mv_top.proofs.RunsDecided.{one_cause, only_limits, too_large}
use Rattle.mv_top.proofs.ToldFiles.{given, lacking}

-- ---- a text that is written

pub written_whole : (before after : Environment) (text : List ℕ) (due : Status) → (WriteFailed before after → ⊥) → {status : Status} → Writes before after text due status → status ≡ due
written_whole before after text due no_fault (outsides.whole wrote) = refl
written_whole before after text due no_fault (outsides.part less rose) = absurd (no_fault rose)

-- ---- a text without an image

unbuilt_refused : (text : List ℕ) {status : Status} → IsUnbuilt text status → (r : Refusal) → IsRefused text r → Is status (Refused r)
unbuilt_refused text building.no_memory r is = inr refl
unbuilt_refused text (building.refused s why) r is = inl (ap Refused (one_cause text s r why is))

-- one that is a program passes a limit
unbuilt_large : CountedPassNone → (text : List ℕ) (p : Program) → IsProgram text p → {status : Status} → IsUnbuilt text status → (status ≡ Memory) ⊎ IsTooLarge p status
unbuilt_large counted text p is building.no_memory = inl refl
unbuilt_large counted text p is (building.refused s why) = inr (too_large counted text p is s (only_limits text p is s why))

within_limits : (due : Status) {p : Program} {status : Status} → (status ≡ Memory) ⊎ IsTooLarge p status → IsWithinLimits status due p
within_limits due (inl none) = inl (inr none)
within_limits due (inr large) = inr large

-- ---- a save

save_is : (before after : Outside) → (ShelfFailed before after → ⊥) → (result : Result ⊤ ShelfError) → (result ≡ Err shelf.Failed → ShelfFailed before after) → Is (saving.status_of_save result) Done
save_is before after no_fault (Ok done) failed = inl refl
save_is before after no_fault (Err shelf.Failed) failed = absurd (no_fault (failed refl))
save_is before after no_fault (Err (shelf.Memory e)) failed = inr refl

module _ (before after : Outside) (no_shelf_fault : ShelfFailed before after → ⊥) (name bytes : List ℕ) where
  -- a build
  abbrev Builds : Status → Type 0
  Builds status = SaveDoes before after name (IsBuiltAs bytes) (IsUnbuilt bytes) status

  pub build_refused : {status : Status} → Builds status → (r : Refusal) → IsRefused bytes r → Is status (Refused r)
  build_refused (saving.unmade s why keeps) r is = unbuilt_refused bytes why r is
  build_refused (saving.made image result built saves failed) r is = absurd (not_both bytes built.of.program r built.built.program is)

  pub build_done : CountedPassNone → {status : Status} → Builds status → (p : Program) → IsProgram bytes p → IsWithinLimits status Done p
  build_done counted (saving.unmade s why keeps) p is = within_limits Done (unbuilt_large counted bytes p is why)
  build_done counted (saving.made image result built saves failed) p is = inl (save_is before after no_shelf_fault result failed)

-- ---- a conversion

memory_status : (error : ConvertError) → IsMemory error → status_of_conversion error ≡ Memory
memory_status (convert.BadImage code offset) memory = absurd memory
memory_status (convert.BadLine code line) memory = absurd memory
memory_status (convert.TooMany code count) memory = absurd memory
memory_status (convert.Memory e) memory = refl

is_memory : (error : ConvertError) → IsMemory error ⊎ (IsMemory error → ⊥)
is_memory (convert.BadImage code offset) = inr (λ h. h)
is_memory (convert.BadLine code line) = inr (λ h. h)
is_memory (convert.TooMany code count) = inr (λ h. h)
is_memory (convert.Memory e) = inl tt

bad_cause : {bytes : List ℕ} {code offset : ℕ} → IsBadImage bytes code offset → Fails (FirstFault bytes) of_image (convert.BadImage code offset)
bad_cause (loading.truncated offset first) = record { fault = fault.Truncated offset; first = first; is = refl }
bad_cause (loading.bad_field offset first) = record { fault = fault.BadField offset; first = first; is = refl }
bad_cause (loading.trailing offset first) = record { fault = fault.Trailing offset; first = first; is = refl }

module _ (before after : Outside) (no_shelf_fault : ShelfFailed before after → ⊥) (name bytes : List ℕ) (conversion : Conversion) where
  abbrev Converts : Status → Type 0
  Converts status = SaveDoes before after name (IsConverted conversion bytes) (IsUnconverted conversion bytes) status

  unconverted_done : {status : Status} → IsUnconverted conversion bytes status → (made : List ℕ) → IsConverted conversion bytes made → status ≡ Memory
  unconverted_done (converting.unconverted error why) made is = memory_status error (converted_not_error conversion bytes made error is why)

  pub convert_done : {status : Status} → Converts status → (made : List ℕ) → IsConverted conversion bytes made → Is status Done
  convert_done (saving.unmade s why keeps) made is = inr (unconverted_done why made is)
  convert_done (saving.made other result converted saves failed) made is = save_is before after no_shelf_fault result failed

  same_cause : (error other : ConvertError) → IsNotConverted conversion bytes error → IsNotConverted conversion bytes other → (IsMemory other → ⊥) → IsMemory error ⊎ (IsMemory error → ⊥) →
      Is (status_of_conversion error) (status_of_conversion other)
  same_cause error other why is some (inl memory) = inr (memory_status error memory)
  same_cause error other why is some (inr not) = inl (ap status_of_conversion (one_error conversion bytes error other why is not some))

  unconverted_as : {status : Status} → IsUnconverted conversion bytes status → (error : ConvertError) → IsNotConverted conversion bytes error → (IsMemory error → ⊥) →
      Is status (status_of_conversion error)
  unconverted_as (converting.unconverted other why) error is some = same_cause other error why is some (is_memory other)

  pub convert_fails : {status : Status} → Converts status → (error : ConvertError) → IsNotConverted conversion bytes error → (IsMemory error → ⊥) → Is status (status_of_conversion error)
  convert_fails (saving.unmade s why keeps) error is some = unconverted_as why error is some
  convert_fails (saving.made made result converted saves failed) error is some = absurd (some (converted_not_error conversion bytes made error converted is))

module _ (before after : Outside) (no_shelf_fault : ShelfFailed before after → ⊥) (name bytes : List ℕ) where
  pub convert_bad : (conversion : Conversion) → converts_image conversion ≡ true → {status : Status} →
      SaveDoes before after name (IsConverted conversion bytes) (IsUnconverted conversion bytes) status → (code offset : ℕ) → IsBadImage bytes code offset → Is status (BadImage code offset)
  convert_bad Upgrade image does code offset bad = convert_fails before after no_shelf_fault name bytes Upgrade does (convert.BadImage code offset) (bad_cause bad) (λ h. h)
  convert_bad Assemble image does code offset bad = cc
  convert_bad ToElf image does code offset bad = convert_fails before after no_shelf_fault name bytes ToElf does (convert.BadImage code offset) (bad_cause bad) (λ h. h)
  convert_bad FromElf image does code offset bad = cc

-- ---- a text of an image

module _ (text_of : Fields → List ℕ) (before after : Environment) (no_output_fault : WriteFailed before after → ⊥) (bytes : List ℕ) where
  pub show_bad : {status : Status} → ShowDoes text_of before after bytes status → (code offset : ℕ) → IsBadImage bytes code offset → Is status (BadImage code offset)
  show_bad (listing.unlisted untouched) code offset bad = inr refl
  show_bad (listing.no_image c o there untouched) code offset bad =
      let same = one_bad bytes c o code offset there bad in inl (λ i. BadImage (same.0 i) (same.1 i))
  show_bad (listing.listed image status spells writes) code offset bad = absurd (spells_not_bad bytes image code offset spells bad)

  pub show_done : {status : Status} → ShowDoes text_of before after bytes status → (image : Fields) → Spells bytes image → Is status Done
  show_done (listing.unlisted untouched) image spells = inr refl
  show_done (listing.no_image c o there untouched) image spells = absurd (spells_not_bad bytes image c o spells there)
  show_done (listing.listed other status there writes) image spells = inl (written_whole before after _ Done no_output_fault writes)

-- ---- a check

module _ (before after : Outside) (no_shelf_fault : ShelfFailed before after → ⊥) (image text : List ℕ) where
  pub check_refused : {status : Status} → CheckDoes before after image text status → (r : Refusal) → IsRefused text r → Is status (Refused r)
  check_refused (checking.unbuilt s why) r is = unbuilt_refused text why r is
  check_refused (checking.built due s built does) r is = absurd (not_both text built.of.program r built.built.program is)

  pub check_lacks : CountedPassNone → {status : Status} → CheckDoes before after image text status → (p : Program) → IsProgram text p → Lacks before.shelf.files image →
      IsWithinLimits status ShelfFault p
  check_lacks counted (checking.unbuilt s why) p is lacks = within_limits ShelfFault (unbuilt_large counted text p is why)
  check_lacks counted (checking.built due s built does) p is lacks = inl (lacking before after no_shelf_fault _ image _ does image refl lacks)

  compared_with : (due bytes : List ℕ) (status : Status) → IsBuiltAs text due → CompareDoes due bytes status ⊎ (status ≡ Memory) → IsCompared status text bytes
  compared_with due bytes status built (inl compared) = inr (due, built, compared)
  compared_with due bytes status built (inr none) = inl none

  not_compared : (p : Program) (bytes : List ℕ) {status : Status} → (status ≡ Memory) ⊎ IsTooLarge p status → IsCompared status text bytes ⊎ IsTooLarge p status
  not_compared p bytes (inl none) = inl (inl none)
  not_compared p bytes (inr large) = inr large

  pub check_compared : CountedPassNone → {status : Status} → CheckDoes before after image text status → (p : Program) → IsProgram text p → (bytes : List ℕ) → Tells before.shelf.files image bytes →
      IsCompared status text bytes ⊎ IsTooLarge p status
  check_compared counted (checking.unbuilt s why) p is bytes tells = not_compared p bytes (unbuilt_large counted text p is why)
  check_compared counted (checking.built due s built does) p is bytes tells =
      inl (compared_with due bytes s built (given before after no_shelf_fault _ image _ does image bytes refl tells))
