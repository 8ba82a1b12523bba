-- What is counted of the code of parts.
use Rattle.std.specs.Prelude.{ℕ, ◌+◌, ◌<◌, min, length, sum_by}
use Rattle.mv_isa.specs.declared.labelled.Labelled.{Labelled}
use Rattle.mv_linker.specs.declared.parts.Parts.{Parts}
use Rattle.mv_linker.specs.declared.parts.PartFunction.{PartFunction}
use Rattle.mv_linker.specs.declared.parts.PartVariant.{PartVariant}
use Rattle.mv_linker.specs.Linked.{codes, label_count, label_limit}
use Rattle.mv_linker.specs.Tables.{site_weight}
use Rattle.mv_parts.specs.declared.counts.Counted.{Counted}
use Rattle.mv_parts.specs.declared.counts.Counted.TheVariants.{Sites, Labels}
use Rattle.mv_parts.specs.Codes.{greatest_count}

-- a count, as far as a word of 64 bits goes
abbrev pub up_to_greatest : ℕ → ℕ
up_to_greatest n = min n greatest_count

abbrev pub count_in : Counted → Labelled → ℕ
count_in Sites code = site_weight code.items
count_in Labels code = code.labels + 1

abbrev pub count_in_variant : Counted → PartVariant → ℕ
count_in_variant what v = count_in what v.code

abbrev pub count_in_function : Counted → PartFunction → ℕ
count_in_function what a = sum_by (count_in_variant what) a.variants

abbrev pub count_in_parts : Counted → Parts → ℕ
count_in_parts what parts = sum_by (count_in what) (codes parts)

-- there are numbers for all labels below those of entries, and one for each entry
abbrev pub HaveFewLabels : Parts → Type 0
HaveFewLabels parts = length (codes parts) + label_count (codes parts) < label_limit
