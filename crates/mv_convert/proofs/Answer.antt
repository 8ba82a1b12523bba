-- A file gives a conversion one answer.
use Rattle.std.proofs.Common.{◌≡◌, ℕ, List, refl, sym, ap, ◌∙◌, subst}
use Rattle.std.specs.Prelude.{Result, Ok, Err}
use Rattle.std.specs.declared.alloc.AllocError.{AllocError}
use Rattle.mv_asmtext.specs.Scans.{IsCause, scanned}
use Rattle.mv_asmtext.specs.declared.code.Code.{Code}
use Rattle.mv_asmtext.specs.declared.error.ScanError.{ScanError}
use Rattle.mv_asmtext.specs.declared.error.ScanError.TheVariants as scan
use Rattle.mv_command.specs.declared.conversion.Conversion.{Conversion}
use Rattle.mv_command.specs.declared.conversion.Conversion.TheVariants.{Upgrade, Assemble, ToElf, FromElf}
use Rattle.mv_elf.specs.Faults as file
use Rattle.mv_elf.specs.declared.fault.ElfError.{ElfError}
use Rattle.mv_elf.specs.declared.fault.ElfError.TheVariants as elf
use Rattle.mv_elf.proofs.OneFault as elf_faults
use Rattle.mv_elf.proofs.OneVerdict as elf_laws
use Rattle.mv_image.specs.Faults.{FirstFault}
use Rattle.mv_image.specs.Faults as images
use Rattle.mv_image.specs.Spelling.{Fields, bare}
use Rattle.mv_image.specs.declared.fault.ImageError.{ImageError}
use Rattle.mv_image.specs.declared.fault.ImageError.TheVariants as image
use Rattle.mv_image.proofs.OneVerdict.{one_fault, one_image, spelled_has_none, spells_spelled}
use Rattle.mv_convert.specs.Causes.{Fails, IsMemory, IsNotConverted, of_elf, of_image, of_scan}
use Rattle.mv_convert.specs.Conversions.{Assembles, IsConverted, Makes, Takes}
use Rattle.mv_convert.specs.declared.error.ConvertError.{ConvertError}
use Rattle.mv_convert.specs.declared.error.ConvertError.TheVariants.{Memory}

-- ---- what is made

same_code : (a b : Code) (r : Result Code ScanError) → r ≡ Ok a → r ≡ Ok b → a ≡ b
same_code a b r one other = cc

assembled_once : (text : List ℕ) (a b : Fields) → Assembles text a → Assembles text b → a ≡ b
assembled_once text a b one other =
    let same = same_code one.code other.code (scanned text) one.reads other.reads in
    one.image_is ∙ ap (λ (code : Code). bare code.entry code.text code.globals) same ∙ sym other.image_is

taken_once : (conversion : Conversion) (bytes : List ℕ) (a b : Fields) → Takes conversion bytes a → Takes conversion bytes b → a ≡ b
taken_once Upgrade bytes a b one other = one_image bytes a b one other
taken_once Assemble bytes a b one other = assembled_once bytes a b one other
taken_once ToElf bytes a b one other = one_image bytes a b one other
taken_once FromElf bytes a b one other = elf_laws.one_held bytes a b one other

made_once : (conversion : Conversion) (image : Fields) (a b : List ℕ) → Makes conversion image a → Makes conversion image b → a ≡ b
made_once Upgrade image a b one other = one.bytes_are ∙ sym other.bytes_are
made_once Assemble image a b one other = one.bytes_are ∙ sym other.bytes_are
made_once ToElf image a b one other = one ∙ sym other
made_once FromElf image a b one other = one.bytes_are ∙ sym other.bytes_are

pub one_made : (conversion : Conversion) (bytes a b : List ℕ) → IsConverted conversion bytes a → IsConverted conversion bytes b → a ≡ b
one_made conversion bytes a b one other =
    let same : other.image ≡ one.image = taken_once conversion bytes other.image one.image other.takes one.takes in
    made_once conversion one.image a b one.makes (subst (λ (i : Fields). Makes conversion i b) same other.makes)

-- ---- want of memory

image_memory : (f : ImageError) → images.IsMemory f → IsMemory (of_image f)
image_memory (image.Truncated offset) h = h
image_memory (image.BadField offset) h = h
image_memory (image.Trailing offset) h = h
image_memory (image.Memory e) h = tt

elf_memory : (f : ElfError) → file.IsMemory f → IsMemory (of_elf f)
elf_memory (elf.Truncated offset) h = h
elf_memory (elf.BadField offset) h = h
elf_memory (elf.BadSegment offset) h = h
elf_memory (elf.Foreign offset) h = h
elf_memory (elf.BadNote offset) h = h
elf_memory (elf.Memory e) h = tt

scan_memory : (f : ScanError) (r : Result Code ScanError) (code : Code) → r ≡ Ok code → IsCause f r → IsMemory (of_scan f)
scan_memory (scan.TooLong n) r code is cause = cc
scan_memory (scan.Line n line) r code is cause = cc
scan_memory (scan.TextLimit n) r code is cause = cc
scan_memory (scan.DataLimit n) r code is cause = cc
scan_memory (scan.Memory e) r code is cause = tt

module _ {Fault : Type 0} (IsFirst : Fault → Type 0) (coded : Fault → ConvertError) (error : ConvertError) (fails : Fails IsFirst coded error) where
  wants : IsMemory (coded fails.fault) → IsMemory error
  wants h = subst IsMemory (sym fails.is) h

-- it may come of each file
pub no_memory : (conversion : Conversion) (bytes : List ℕ) (e : AllocError) → IsNotConverted conversion bytes (Memory e)
no_memory Upgrade bytes e = record { fault = image.Memory e; first = tt; is = refl }
no_memory Assemble bytes e = record { fault = scan.Memory e; first = tt; is = refl }
no_memory ToElf bytes e = record { fault = image.Memory e; first = tt; is = refl }
no_memory FromElf bytes e = record { fault = elf.Memory e; first = tt; is = refl }

-- ---- a file that is taken has no cause

taken_not_error : (conversion : Conversion) (bytes : List ℕ) (i : Fields) (error : ConvertError) → Takes conversion bytes i → IsNotConverted conversion bytes error → IsMemory error
taken_not_error Upgrade bytes i error takes fails = wants _ _ error fails (image_memory fails.fault (spelled_has_none bytes fails.fault (spells_spelled bytes i takes) fails.first))
taken_not_error Assemble bytes i error takes fails = wants _ _ error fails (scan_memory fails.fault (scanned bytes) takes.code takes.reads fails.first)
taken_not_error ToElf bytes i error takes fails = wants _ _ error fails (image_memory fails.fault (spelled_has_none bytes fails.fault (spells_spelled bytes i takes) fails.first))
taken_not_error FromElf bytes i error takes fails = wants _ _ error fails (elf_memory fails.fault (elf_laws.held_has_none bytes i fails.fault takes fails.first))

pub converted_not_error : (conversion : Conversion) (bytes made : List ℕ) (error : ConvertError) → IsConverted conversion bytes made → IsNotConverted conversion bytes error → IsMemory error
converted_not_error conversion bytes made error is fails = taken_not_error conversion bytes is.image error is.takes fails

-- ---- one cause

caused : (f : ScanError) (r : Result Code ScanError) → IsCause f r → (IsMemory (of_scan f) → ⊥) → r ≡ Err f
caused (scan.TooLong n) r cause some = cause
caused (scan.Line n line) r cause some = cause
caused (scan.TextLimit n) r cause some = cause
caused (scan.DataLimit n) r cause some = cause
caused (scan.Memory e) r cause some = absurd (some tt)

same_refusal : (f g : ScanError) (r : Result Code ScanError) → r ≡ Err f → r ≡ Err g → f ≡ g
same_refusal f g r one other = cc

same_error : {Fault : Type 0} (coded : Fault → ConvertError) (f g : Fault) (a b : ConvertError) → a ≡ coded f → b ≡ coded g → f ≡ g → a ≡ b
same_error coded f g a b one other same = one ∙ ap coded same ∙ sym other

image_error : (bytes : List ℕ) (a b : ConvertError) → Fails (FirstFault bytes) of_image a → Fails (FirstFault bytes) of_image b → (IsMemory a → ⊥) → (IsMemory b → ⊥) → a ≡ b
image_error bytes a b one other some more =
    same_error of_image one.fault other.fault a b one.is other.is
    (one_fault bytes one.fault other.fault one.first other.first (λ h. some (wants _ _ a one (image_memory one.fault h))) (λ h. more (wants _ _ b other (image_memory other.fault h))))

pub one_error : (conversion : Conversion) (bytes : List ℕ) (a b : ConvertError) → IsNotConverted conversion bytes a → IsNotConverted conversion bytes b → (IsMemory a → ⊥) → (IsMemory b → ⊥) → a ≡ b
one_error Upgrade bytes a b one other some more = image_error bytes a b one other some more
one_error Assemble bytes a b one other some more =
    same_error of_scan one.fault other.fault a b one.is other.is
    (same_refusal one.fault other.fault (scanned bytes) (caused one.fault (scanned bytes) one.first (λ h. some (wants _ _ a one h))) (caused other.fault (scanned bytes) other.first (λ h. more (wants _ _ b other h))))
one_error ToElf bytes a b one other some more = image_error bytes a b one other some more
one_error FromElf bytes a b one other some more =
    same_error of_elf one.fault other.fault a b one.is other.is
    (elf_faults.one_fault bytes one.fault other.fault one.first other.first (λ h. some (wants _ _ a one (elf_memory one.fault h))) (λ h. more (wants _ _ b other (elf_memory other.fault h))))
