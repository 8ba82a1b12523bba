-- The text of a run of harts.
use Rattle.std.specs.Prelude.{ℕ, suc, Bool, true, false, List, [], ◌∷◌, ◌++◌, length, codes}
use Rattle.std.specs.Fmt.{decimal}
use Rattle.mv_machine.specs.Runs.{Stop, Going, Exit, Trap, Fault}
use Rattle.mv_harts_runs.specs.Harts.{Hart, Harts}
use Rattle.mv_harts.specs.declared.ends.HartStop.{HartStop}
use Rattle.mv_harts.specs.declared.ends.HartEnd.{HartEnd}
use Rattle.mv_harts.specs.declared.devices.Keeping.{Keeping}
use Rattle.mv_harts.specs.Ends.{stop_text}

-- how a hart stands, by its stop and by whether its last turn waited; a fault never comes
abbrev pub standing : Stop → (waited : Bool) → List ℕ
standing Going true = codes "waiting"
standing Going false = codes "going"
standing (Exit status) waited = codes "ended " ++ decimal status
standing (Trap code) waited = codes "trapped " ++ decimal code
standing (Fault why) waited = codes "fault"

-- the line of a hart that has written so many bytes
abbrev pub line_of : (number : ℕ) (stands : List ℕ) (count : ℕ) → List ℕ
line_of number stands count = codes "hart " ++ (decimal number ++ (codes " " ++ (stands ++ (codes " bytes " ++ (decimal count ++ codes "\n")))))

-- its line, its bytes, and a line feed
abbrev pub lines_of : (number : ℕ) (stands bytes : List ℕ) → List ℕ
lines_of number stands bytes = line_of number stands (length bytes) ++ (bytes ++ 10 ∷ [])

-- the lines of harts, from this number on
abbrev pub text_from : (number : ℕ) → List Hart → List ℕ
text_from number [] = []
text_from number (o ∷ os) = lines_of number (standing o.state.stop o.waited) o.state.output ++ text_from (suc number) os

-- the lines of each hart, in order
abbrev pub text_of : Harts → List ℕ
text_of hs = text_from 0 (hs.leader ∷ hs.others)

-- ---- in code

-- the lines of what is told of a hart
unfoldable pub hart_text : (number : ℕ) → HartStop → (bytes : List ℕ) → List ℕ
hart_text number stop bytes = lines_of number (stop_text stop) bytes

-- the lines of what is told of harts with their sinks, from this number on
unfoldable pub texts_from : (number : ℕ) → List HartEnd → List Keeping → List ℕ
texts_from number [] sinks = []
texts_from number (end ∷ ends) [] = []
texts_from number (end ∷ ends) (sink ∷ sinks) = hart_text number end.stop sink.bytes.items ++ texts_from (suc number) ends sinks
