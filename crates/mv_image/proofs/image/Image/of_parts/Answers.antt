use Rattle.std.proofs.Common.{List, All, subst}
use Rattle.mv_num.specs.Bytes.{AreWords}
use Rattle.mv_descriptors.specs.Widths.{SwitchWhole, FunctionWhole, VariantWhole, GuardWhole}
use Rattle.mv_descriptors.specs.declared.rows.SwitchRow.{SwitchRow}
use Rattle.mv_descriptors.specs.declared.rows.FunctionRow.{FunctionRow}
use Rattle.mv_descriptors.specs.declared.rows.VariantRow.{VariantRow}
use Rattle.mv_descriptors.specs.declared.rows.GuardRow.{GuardRow}
use Rattle.mv_image.proofs.TablesAreRules.{tables_are_rules}
use Rattle.mv_image.proofs.image.Image.of_parts.Goals as goal

pub new-requires : goal.new-requires
new-requires c =
    tables_are_rules _ (record {
      widths = record {
        switches = subst (λ (rows : List SwitchRow). All SwitchWhole rows) c.as_slice-3.ensures c.switches.ensures.whole;
        functions = subst (λ (rows : List FunctionRow). All FunctionWhole rows) c.as_slice-4.ensures c.functions.ensures;
        variants = subst (λ (rows : List VariantRow). All VariantWhole rows) c.as_slice-5.ensures c.variants.ensures.whole;
        guards = subst (λ (rows : List GuardRow). All GuardWhole rows) c.as_slice-6.ensures c.guards.ensures.whole;
      };
      words = record {
        text = subst AreWords c.as_slice.ensures c.words.ensures;
        globals = subst AreWords c.as_slice-2.ensures c.words-2.ensures;
        values = subst (λ (rows : List SwitchRow). All (λ (row : SwitchRow). AreWords row.values) rows) c.as_slice-3.ensures c.switches.ensures.values;
        inlined = subst (λ (rows : List VariantRow). All (λ (row : VariantRow). AreWords row.words) rows) c.as_slice-5.ensures c.variants.ensures.words;
        lowest = subst (λ (rows : List GuardRow). All (λ (row : GuardRow). AreWords row.low) rows) c.as_slice-6.ensures c.guards.ensures.lowest;
        highest = subst (λ (rows : List GuardRow). All (λ (row : GuardRow). AreWords row.high) rows) c.as_slice-6.ensures c.guards.ensures.highest;
      };
    }) c.requires
