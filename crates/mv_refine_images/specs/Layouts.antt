-- Where a program's functions and globals stand in a linked image.
use Rattle.std.specs.Prelude.{ℕ, ◌+◌, ◌*◌, List, length, map, take, sum}
use Rattle.std.specs.List.{range_with_len}
use Rattle.mv_num.specs.Regions.{data_start, stack_start, plan_area}
use Rattle.mv_ast.specs.declared.program.Program.{Program}
use Rattle.mv_isa.specs.Code.{text_start, label_address}
use Rattle.mv_source_forms.specs.Names.{global_words}
use Rattle.mv_source_forms.specs.Uses.{known_is_there}
use Rattle.mv_select_code.specs.Statements.StatementCode.{trap_label}
use Rattle.mv_select.specs.Calls.CallCode.{commit_label}
use Rattle.mv_select.specs.Calls.Convention.{Layout}
use Rattle.mv_linker.specs.declared.parts.Parts.{Parts}
use Rattle.mv_linker.specs.Linked.{linked_lines}
use Rattle.mv_link_data.specs.FirstData.{global_sizes}

module _ (parts : Parts) (sizing : List ℕ) where
  -- the address of a label in the linked code, where codes have the labels from 0 on: the functions, and behind them the variants
  abbrev pub address_of : ℕ → ℕ
  address_of = label_address text_start (linked_lines parts) sizing

  -- the numbers of the functions: where each begins
  abbrev pub numbers_of : List ℕ
  numbers_of = map address_of (range_with_len 0 (length parts.functions))

  -- Globals stand one behind the other from the start of data on, and the stack is that of the machine. Code may ask for the known functions that
  -- there are: of orders, those for functions and switches of the program.
  abbrev pub layout_of : Program → Layout
  layout_of p = record {
    place = λ g. data_start + 4 * sum (take g (global_sizes p));
    size = global_words p;
    entry = address_of;
    trap = λ c. address_of (trap_label c);
    commit = address_of commit_label;
    may_ask = known_is_there p;
    bottom = stack_start;
    top = plan_area;
  }
