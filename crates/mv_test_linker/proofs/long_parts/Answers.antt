use Rattle.std.proofs.Common.{ℕ, false, [], ◌∷◌, length, replicate, pos, All, refl, subst, sym, arith, rules}
use Rattle.std.proofs.lemmas.List.Elements.{All-nil, All-from_recursion, All-replicate}
use Rattle.std.proofs.lemmas.Grind.{common_steps}
use Rattle.mv_isa.specs.declared.instr.Instr.TheVariants.{Addi}
use Rattle.mv_isa.specs.declared.labelled.Labelled.{Labelled}
use Rattle.mv_isa.specs.declared.labelled.Line.TheVariants.{Word}
use Rattle.mv_isa.specs.Code.{LineFits}
use Rattle.mv_linker.specs.declared.parts.Parts.{Parts}
use Rattle.mv_linker.specs.declared.parts.Datum.TheVariants.{Number}
use Rattle.mv_linker.specs.Linked.{NamesAreThere, IsFunction, IsDatum, AreParts}
use Rattle.mv_linker.specs.Tables.{CallsAmong, GoesThrough, IsName, FitsPartSwitch, FitsPartFunction, FitsPartPointer, FitTables}
use Rattle.mv_test_linker.proofs.long_parts.Goals as goal

abbrev long : ℕ → Labelled
long n = record { items = replicate n (Word (Addi 0 0 (pos 0))); labels = 0 }

-- a function of NOPs, and words that are 0
abbrev parts_of : ℕ → ℕ → Parts
parts_of n words = record { functions = long n ∷ []; main = 0; globals = replicate words (Number 0); switches = []; attributed = []; pointers = []; targets = [] }

long_fits : (n : ℕ) → IsFunction 1 false (long n)
long_fits n = record {
  fields = All-replicate LineFits n (Word (Addi 0 0 (pos 0))) (search rules);
  names = All-replicate (NamesAreThere 1 false (long n)) n (Word (Addi 0 0 (pos 0))) tt;
}

long_are_parts : (n words : ℕ) → AreParts (parts_of n words)
long_are_parts n words = record {
  main = omega arith;
  functions = All-from_recursion (IsFunction 1 false) (long n ∷ []) (long_fits n, tt);
  globals = All-replicate (IsDatum 1) words (Number 0) tt;
  labels = omega arith;
}

long_fit_tables : (n words : ℕ) → FitTables (parts_of n words)
long_fit_tables n words = record {
  few_switches = omega arith;
  switches = All-nil (FitsPartSwitch (length (replicate words (Number 0))));
  few_functions = omega arith;
  functions = All-nil (FitsPartFunction (parts_of n words));
  ascend = λ i below. absurd (omega (arith, below));
  slots = All-from_recursion (λ (code : Labelled). All (CallsAmong []) code.items) (long n ∷ []) (All-replicate (CallsAmong []) n (Word (Addi 0 0 (pos 0))) tt, tt);
  few_pointers = omega arith;
  pointers = All-nil (FitsPartPointer (length (replicate words (Number 0))));
  through = All-from_recursion (λ (code : Labelled). All (GoesThrough []) code.items) (long n ∷ []) (All-replicate (GoesThrough []) n (Word (Addi 0 0 (pos 0))) tt, tt);
  few_targets = omega arith;
  targets = All-nil IsName;
  targets_there = omega arith;
  targets_begin = λ some. absurd (some refl);
}

pub returns-clause-parts : goal.returns-clause-parts
returns-clause-parts c = subst AreParts (sym (grind (arith, common_steps))) (long_are_parts c.args.nops c.args.words)

pub returns-clause-tables : goal.returns-clause-tables
returns-clause-tables c = subst FitTables (sym (grind (arith, common_steps))) (long_fit_tables c.args.nops c.args.words)
