-- What the scanner answers: the code of a text within the limits, or the first refusal in their order.
use Rattle.std.specs.Prelude.{ℕ, ◌≡◌, ◌+◌, ◌*◌, ◌%◌, ◌^◌, ◌<◌, ◌≤◌, ◌==◌, nat_lt, List, length, if◌then◌else◌, Result, Ok, Err}
use Rattle.mv_num.specs.Regions.{text_start, text_limit, data_limit}
use Rattle.mv_asmtext.specs.declared.assembly.Fault.{Fault}
use Rattle.mv_asmtext.specs.declared.assembly.Fault.TheVariants as faults
use Rattle.mv_asmtext.specs.declared.code.Code.{Code}
use Rattle.mv_asmtext.specs.declared.error.ScanError.{ScanError}
use Rattle.mv_asmtext.specs.declared.error.ScanError.TheVariants.{TooLong, Line, TextLimit, DataLimit, Memory}
use Rattle.mv_asmtext.specs.declared.source.Reading.{Reading}
use Rattle.mv_asmtext.specs.Assembly.{FaultAt, assembled}
use Rattle.mv_asmtext.specs.Sources.{read}

-- an image has room for the code, which begins at one of its words of text
pub record FitsImage (code : Code) : Type 0 where
  pub text : length code.text ≤ text_limit
  pub globals : length code.globals ≤ data_limit
  pub entry_from : text_start ≤ code.entry
  pub entry_before : code.entry < text_start + 4 * length code.text
  pub entry_aligned : code.entry % 4 ≡ 0

abbrev pub code_within_limits : Code → Result Code ScanError
code_within_limits code =
    if nat_lt text_limit (length code.text) then Err (TextLimit (length code.text))
    else (if nat_lt data_limit (length code.globals) then Err (DataLimit (length code.globals))
    else Ok code)

abbrev pub fault_code : Fault → ℕ
fault_code faults.Range = 18
fault_code faults.Label = 19

abbrev pub of_assembled : Result Code FaultAt → Result Code ScanError
of_assembled (Ok code) = code_within_limits code
of_assembled (Err at) = Err (Line (fault_code at.0) at.1)

-- a text without a word is refused at its first line
abbrev pub of_reading : Result Reading ℕ → Result Code ScanError
of_reading (Ok r) = if r.place.text_words == 0 then Err (Line 17 1) else of_assembled (assembled r.place.text_words r.lines)
of_reading (Err line) = Err (Line 17 line)

-- the code that a text reads as, or its refusal
unfoldable pub scanned : List ℕ → Result Code ScanError
scanned text = if nat_lt (2 ^ 24) (length text) then Err (TooLong (length text)) else of_reading (read text)

-- why there is no code: want of memory, or the text's refusal
abbrev pub IsCause : ScanError → Result Code ScanError → Type 0
IsCause (Memory e) r = Unit {0}
IsCause (TooLong n) r = r ≡ Err (TooLong n)
IsCause (Line code line) r = r ≡ Err (Line code line)
IsCause (TextLimit n) r = r ≡ Err (TextLimit n)
IsCause (DataLimit n) r = r ≡ Err (DataLimit n)
