-- The switches and pointer switches of a program, as they are linked.
use Rattle.std.specs.Prelude.{ℕ, ◌<◌, ◌^◌, List, [], map, sum, take, length, All, Option, Some, None, slice_get, nat_lt, if◌then◌else◌}
use Rattle.mv_ast.specs.declared.program.Program.{Program}
use Rattle.mv_ast.specs.declared.program.Global.{Global}
use Rattle.mv_ast.specs.declared.program.Function.{Function}
use Rattle.mv_ast.specs.declared.program.Switch.{Switch}
use Rattle.mv_ast.specs.Counts.{words_of_size}
use Rattle.mv_linker.specs.declared.parts.PartSwitch.{PartSwitch}
use Rattle.mv_linker.specs.declared.parts.PartPointer.{PartPointer}
use Rattle.mv_link_data.specs.FirstData.{global_sizes, data_words}
use Rattle.mv_variants.specs.Domains.{kind_or_int}

abbrev pub name_or_none : Option Global → List ℕ
name_or_none None = []
name_or_none (Some g) = g.name

-- how many words some globals have together
abbrev pub words_of : List Global → ℕ
words_of gs = sum (map (λ (g : Global). words_of_size g.size) gs)

-- the index of a global's word in data, behind those of the globals before it
abbrev pub word_of : Program → ℕ → ℕ
word_of p global = sum (take global (global_sizes p))

-- a switch: the name, the word and the type of its global, and its domain
abbrev pub part_switch : Program → Switch → PartSwitch
part_switch p s = record {
  name = name_or_none (slice_get p.globals s.global);
  word = word_of p s.global;
  kind = kind_or_int (slice_get p.globals s.global);
  values = s.values;
}

abbrev pub part_switches : Program → List PartSwitch
part_switches p = map (part_switch p) p.switches

-- a pointer switch: the name and the word of its global
abbrev pub part_pointer : Program → (global : ℕ) → PartPointer
part_pointer p global = record { name = name_or_none (slice_get p.globals global); word = word_of p global }

abbrev pub part_pointers : Program → List PartPointer
part_pointers p = map (part_pointer p) p.pointers

-- what pointer switches may be bound to: all functions, by their names, where there is one
abbrev pub part_targets : Program → List (List ℕ)
part_targets p = if nat_lt 0 (length p.pointers) then map (λ (g : Function). g.name) p.functions else []

-- the switches and pointer switches are globals, and the words of data have numbers of 32 bits
pub record HasSwitches (p : Program) : Type 0 where
  pub there : All (λ (s : Switch). s.global < length p.globals) p.switches
  pub few : length p.switches < 2 ^ 32
  pub pointers : All (λ (g : ℕ). g < length p.globals) p.pointers
  pub words : data_words p < 2 ^ 32
