-- The shape of a function, as its code is written.
use Rattle.mv_select.specs.declared.functions.frames.Outline.{Outline}
use Rattle.mv_select.specs.Functions.FunctionCode.{Shape}

abbrev pub outlined : Outline → Shape
outlined o = record { attributed = o.attributed; keeping = o.keeping; params = o.params; temps = o.temps; arrays = o.arrays.now; pins = o.pins.now }
