-- The file of an image holds the image in version 2.
use Rattle.std.proofs.Common.{◌≡◌, ◌+◌, ◌*◌, ◌∙◌, ◌++◌, ℕ, List, length, take, drop, ap, Result, Ok, Err}
use Rattle.std.specs.Prelude.{IfOk, OnOk}
use Rattle.mv_image.specs.Spelling.{Fields, spelling}
use Rattle.mv_image.specs.Versions.{upgraded}
use Rattle.mv_image.specs.Faults.{Rules}
use Rattle.mv_elf.specs.Notes.{front_size, without_code}
use Rattle.mv_elf.specs.Writing.{file_of, note_of}
use Rattle.mv_elf.specs.Faults.{Holds}
use Rattle.mv_elf.proofs.Filed.{file_is}
use Rattle.mv_elf.proofs.FileHolds.{file_holds}
use Rattle.mv_elf.proofs.ContentSize.{is_small, is_entry}

pub file_law : (image : Fields) → Rules (upgraded image) → Holds (file_of image) (upgraded image)
file_law image rules = file_holds (file_of image) image (file_is image (is_small image rules)) (is_small image rules) (is_entry image rules) rules

-- ---- the note, as code makes it

taken_out : (image : Fields) (whole : List ℕ) (code : ℕ) → whole ≡ spelling (upgraded image) → code ≡ 4 * (length image.text + length image.globals) → take front_size whole ++ drop (front_size + code) whole ≡ note_of image
unfolding without_code
taken_out image whole code is size =
    ap (λ (n : ℕ). take front_size whole ++ drop (front_size + n) whole) size
    ∙ ap (λ (w : List ℕ). take front_size w ++ drop (front_size + 4 * (length image.text + length image.globals)) w) is

pub note_is : {V E : Type 0} (image : Fields) (whole : List ℕ) (code : ℕ) (r : Result V E) (items : V → List ℕ) → whole ≡ spelling (upgraded image) → code ≡ 4 * (length image.text + length image.globals)
    → IfOk r (λ note. items note ≡ take front_size whole ++ drop (front_size + code) whole) → IfOk r (λ note. items note ≡ note_of image)
note_is image whole code (Ok note) items is size made = made ∙ taken_out image whole code is size
note_is image whole code (Err e) items is size made = tt

pub with_rules : {V E : Type 0} (image : Fields) (r : Result V E) → Rules (upgraded image) → OnOk r (Rules (upgraded image))
with_rules image (Ok note) rules = rules
with_rules image (Err e) rules = tt
