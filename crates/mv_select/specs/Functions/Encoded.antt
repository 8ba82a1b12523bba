-- The code of entry and return has encodings, and few words.
use Rattle.std.specs.Prelude.{◌≤◌}
use Rattle.mv_num.specs.Limits.{parameter_limit, frame_limit}
use Rattle.mv_select_code.specs.Statements.Encoded.{IsCode}
use Rattle.mv_select.specs.Functions.FunctionCode.{Shape, HasPins, bytes_of, entry_by, return_by}

abbrev pub FramesAreEncoded : Type 0
FramesAreEncoded = (shape : Shape) → HasPins shape → shape.params ≤ parameter_limit → bytes_of shape ≤ frame_limit → IsCode 20 (entry_by shape.keeping shape) × IsCode 13 (return_by shape.keeping shape)
