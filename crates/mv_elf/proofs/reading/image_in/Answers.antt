use Rattle.std.proofs.Common.{◌%◌, ◌∙◌, ℕ, ap, arith, length}
use Rattle.mv_elf.specs.declared.segment.Region.TheVariants.{Text}
use Rattle.mv_elf.proofs.ReadLaws.{noted, note_fault, enters, loaded_length, text_short, data_short, plain}
use Rattle.mv_elf.proofs.reading.image_in.Goals as goal

pub returns-in-Some-clause-found : goal.returns-in-Some-clause-found
returns-in-Some-clause-found c = noted c.args.bytes.now c.in-Some.note c.in-Some.ensures.some.0 c.image_of.result c.requires c.in-Some.ensures.some.1 c.image_of.ensures.found

pub returns-in-Some-clause-fault : goal.returns-in-Some-clause-fault
returns-in-Some-clause-fault c = note_fault c.args.bytes.now c.in-Some.note c.in-Some.ensures.some.0 c.image_of.result c.requires c.in-Some.ensures.some.1 c.image_of.ensures.fault

pub without_tables-requires-clause-aligned : goal.without_tables-requires-clause-aligned
without_tables-requires-clause-aligned c = ap (λ (n : ℕ). n % 4) c.word_at-entry.ensures ∙ (enters c.args.bytes.now c.requires.entry).aligned

pub without_tables-requires-clause-not_before : goal.without_tables-requires-clause-not_before
without_tables-requires-clause-not_before c = omega (arith, c.word_at-entry.ensures, (enters c.args.bytes.now c.requires.entry).not_before)

pub without_tables-requires-clause-within : goal.without_tables-requires-clause-within
without_tables-requires-clause-within c = omega (arith, c.word_at-entry.ensures, (enters c.args.bytes.now c.requires.entry).within, ap length c.in_ok-text.ensures, loaded_length Text c.args.bytes.now)

pub without_tables-requires-clause-text : goal.without_tables-requires-clause-text
without_tables-requires-clause-text c = omega (arith, ap length c.in_ok-text.ensures, text_short c.args.bytes.now)

pub without_tables-requires-clause-globals : goal.without_tables-requires-clause-globals
without_tables-requires-clause-globals c = omega (arith, ap length c.in_ok-globals.ensures, data_short c.args.bytes.now)

pub returns-in-None-clause-found : goal.returns-in-None-clause-found
returns-in-None-clause-found c = plain c.args.bytes.now c.without_tables.result _ _ _ c.requires c.in-None.ensures.none c.without_tables.ensures c.word_at-entry.ensures c.in_ok-text.ensures c.in_ok-globals.ensures
