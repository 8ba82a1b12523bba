use Rattle.std.proofs.Common.{◌≡◌, ◌<◌, ◌≤◌, ◌||◌, ℕ, zero, suc, true, false, Some, None, [], ◌∷◌, slice_index, pos, All, refl, ap, sym, subst, inl, inr, arith, rules}
use Rattle.std.proofs.lemmas.List.Elements.{All-from_recursion, All-nil}
use Rattle.std.proofs.lemmas.Grind.{common_steps}
use Rattle.mv_num.specs.Kinds.{is_value, is_at_most}
use Rattle.mv_num.specs.declared.kind.Kind.TheVariants as kinds
use Rattle.mv_descriptors.specs.declared.rows.GuardRow.{GuardRow}
use Rattle.mv_isa.specs.declared.instr.Instr.TheVariants.{Addi, Jalr}
use Rattle.mv_isa.specs.declared.labelled.Labelled.{Labelled}
use Rattle.mv_isa.specs.declared.labelled.Line.TheVariants.{Word, Label, Jump, Branch, Entry, Slot}
use Rattle.mv_isa.specs.Code.{LineFits}
use Rattle.mv_image.specs.Names.{is_letter, is_digit, is_keyword}
use Rattle.mv_linker.specs.declared.parts.Parts.{Parts}
use Rattle.mv_linker.specs.declared.parts.PartSwitch.{PartSwitch}
use Rattle.mv_linker.specs.declared.parts.PartFunction.{PartFunction}
use Rattle.mv_linker.specs.declared.parts.PartVariant.{PartVariant}
use Rattle.mv_linker.specs.declared.parts.Datum.TheVariants.{Number, Function}
use Rattle.mv_linker.specs.Linked.{NamesAreThere, IsFunction, IsDatum, AreParts}
use Rattle.mv_linker.specs.Tables.{BeginsWithWords, CallsAmong, GoesThrough, IsName, IsRange, FitsPartSwitch, FitsPartFunction, FitsPartVariant, FitsPartPointer, FitTables}
use Rattle.mv_test_linker.proofs.two_functions.Goals as goal

abbrev called : Labelled
called = record { items = Branch 1 10 0 0 ∷ Jump 0 4294967290 ∷ Label 0 ∷ Word (Jalr 0 1 (pos 0)) ∷ []; labels = 1 }

abbrev caller : Labelled
caller = record { items = Slot 0 ∷ Jump 1 2147483648 ∷ Label 0 ∷ Entry 10 0 ∷ Jump 0 0 ∷ []; labels = 1 }

abbrev bound : Labelled
bound = record { items = Word (Addi 11 0 (pos 1)) ∷ Slot 0 ∷ Word (Jalr 0 1 (pos 0)) ∷ []; labels = 0 }

abbrev guard : GuardRow
guard = record { low = 0 ∷ 0 ∷ 0 ∷ 0 ∷ 0 ∷ 0 ∷ []; high = 1 ∷ 0 ∷ 0 ∷ 0 ∷ 0 ∷ 0 ∷ [] }

abbrev switch : PartSwitch
switch = record { name = 115 ∷ []; word = 0; kind = kinds.Int; values = 0 ∷ 1 ∷ [] }

abbrev variant : PartVariant
variant = record { code = bound; inline = None; guards = guard ∷ [] }

abbrev function : PartFunction
function = record { name = 102 ∷ []; function = 0; switches = 0 ∷ []; variants = variant ∷ [] }

abbrev both : Parts
both = record { functions = called ∷ caller ∷ []; main = 1; globals = Number 7 ∷ Function 1 ∷ Function 0 ∷ []; switches = switch ∷ []; attributed = function ∷ []; pointers = []; targets = [] }

called_fits : IsFunction 2 false called
called_fits = record {
  fields = All-from_recursion LineFits called.items (search rules);
  names = All-from_recursion (NamesAreThere 2 false called) called.items (inl (omega arith, refl), (inl (inr (inl (omega arith, omega arith))), (omega arith, (tt, tt))));
}

caller_fits : IsFunction 2 false caller
caller_fits = record {
  fields = All-from_recursion LineFits caller.items (search rules);
  names = All-from_recursion (NamesAreThere 2 false caller) caller.items (omega arith, (inr (omega arith, omega arith), (omega arith, (omega arith, (inl (inl (omega arith, refl)), tt)))));
}

bound_fits : IsFunction 2 false bound
bound_fits = record {
  fields = All-from_recursion LineFits bound.items (search rules);
  names = All-from_recursion (NamesAreThere 2 false bound) bound.items (tt, (omega arith, (tt, tt)));
}

are_parts : AreParts both
are_parts = record {
  main = omega arith;
  functions = All-from_recursion (IsFunction 2 false) (called ∷ caller ∷ bound ∷ []) (called_fits, (caller_fits, (bound_fits, tt)));
  globals = All-from_recursion (IsDatum 2) both.globals (tt, (omega arith, (omega arith, tt)));
  labels = omega arith;
}

-- a name of one letter
letter : (c : ℕ) → is_letter c ≡ true → is_keyword (c ∷ []) ≡ false → IsName (c ∷ [])
letter c is none = record { identifier = record { first = is; others = others; no_keyword = none }; short = omega arith }
  where
    others : (i : ℕ) → i < 1 → (is_letter (slice_index (c ∷ []) i) || is_digit (slice_index (c ∷ []) i)) ≡ true
    others zero below = ap (λ b. b || is_digit c) is
    others (suc i) below = absurd (omega (arith, below))

no_keywords : (is_keyword (115 ∷ []) ≡ false) × (is_keyword (102 ∷ []) ≡ false)
unfolding is_keyword
no_keywords = (refl, refl)

range : IsRange (5 ∷ []) guard
range = record { low = low; high = high; ordered = ordered; low_unused = low_unused; high_unused = high_unused }
  where
    low : (i : ℕ) → i < 1 → is_value (slice_index (5 ∷ []) i) (slice_index guard.low i) ≡ true
    low zero below = refl
    low (suc i) below = absurd (omega (arith, below))

    high : (i : ℕ) → i < 1 → is_value (slice_index (5 ∷ []) i) (slice_index guard.high i) ≡ true
    high zero below = refl
    high (suc i) below = absurd (omega (arith, below))

    ordered : (i : ℕ) → i < 1 → is_at_most (slice_index (5 ∷ []) i) (slice_index guard.low i) (slice_index guard.high i) ≡ true
    ordered zero below = refl
    ordered (suc i) below = absurd (omega (arith, below))

    low_unused : (i : ℕ) → 1 ≤ i → i < 6 → slice_index guard.low i ≡ 0
    low_unused zero from below = refl
    low_unused (suc zero) from below = refl
    low_unused (suc (suc zero)) from below = refl
    low_unused (suc (suc (suc zero))) from below = refl
    low_unused (suc (suc (suc (suc zero)))) from below = refl
    low_unused (suc (suc (suc (suc (suc zero))))) from below = refl
    low_unused (suc (suc (suc (suc (suc (suc i)))))) from below = absurd (omega (arith, below))

    high_unused : (i : ℕ) → 1 ≤ i → i < 6 → slice_index guard.high i ≡ 0
    high_unused zero from below = absurd (omega (arith, from))
    high_unused (suc zero) from below = refl
    high_unused (suc (suc zero)) from below = refl
    high_unused (suc (suc (suc zero))) from below = refl
    high_unused (suc (suc (suc (suc zero)))) from below = refl
    high_unused (suc (suc (suc (suc (suc zero))))) from below = refl
    high_unused (suc (suc (suc (suc (suc (suc i)))))) from below = absurd (omega (arith, below))

called_begins : (code : Labelled) → Some called ≡ Some code → BeginsWithWords code
called_begins code is = let same : called ≡ code = cc in subst BeginsWithWords same (record { some = omega arith; no_slot = refl; no_point = refl })

variant_fits : FitsPartVariant (5 ∷ []) variant
variant_fits = record { begins = record { some = omega arith; no_slot = refl; no_point = refl }; some = omega arith; ranges = All-from_recursion (IsRange (5 ∷ [])) (guard ∷ []) (range, tt) }

function_fits : FitsPartFunction both function
function_fits = record {
  name = letter 102 refl no_keywords.1;
  there = omega arith;
  begins = called_begins;
  few_switches = omega arith;
  switches = All-from_recursion (λ (s : ℕ). s < 1) (0 ∷ []) (omega arith, tt);
  ascend = λ i below. absurd (omega (arith, below));
  some = omega arith;
  variants = All-from_recursion (FitsPartVariant (5 ∷ [])) (variant ∷ []) (variant_fits, tt);
  few_guards = omega arith;
}

fit_tables : FitTables both
fit_tables = record {
  few_switches = omega arith;
  switches = All-from_recursion (FitsPartSwitch 3) (switch ∷ []) (
    record {
      name = letter 115 refl no_keywords.0;
      word = omega arith;
      some = omega arith;
      few = omega arith;
      values = All-from_recursion (λ (v : ℕ). is_value 5 v ≡ true) (0 ∷ 1 ∷ []) (refl, (refl, tt));
    },
    tt,
  );
  few_functions = omega arith;
  functions = All-from_recursion (FitsPartFunction both) (function ∷ []) (function_fits, tt);
  ascend = λ i below. absurd (omega (arith, below));
  slots = All-from_recursion (λ (code : Labelled). All (CallsAmong (0 ∷ [])) code.items) (called ∷ caller ∷ bound ∷ []) (
    All-from_recursion (CallsAmong (0 ∷ [])) called.items (tt, (tt, (tt, (tt, tt)))),
    (
      All-from_recursion (CallsAmong (0 ∷ [])) caller.items ((0, refl), (tt, (tt, (tt, (tt, tt))))),
      (All-from_recursion (CallsAmong (0 ∷ [])) bound.items (tt, ((0, refl), (tt, tt))), tt),
    ),
  );
  few_pointers = omega arith;
  pointers = All-nil (FitsPartPointer 3);
  through = All-from_recursion (λ (code : Labelled). All (GoesThrough []) code.items) (called ∷ caller ∷ bound ∷ []) (
    All-from_recursion (GoesThrough []) called.items (tt, (tt, (tt, (tt, tt)))),
    (
      All-from_recursion (GoesThrough []) caller.items (tt, (tt, (tt, (tt, (tt, tt))))),
      (All-from_recursion (GoesThrough []) bound.items (tt, (tt, (tt, tt))), tt),
    ),
  );
  few_targets = omega arith;
  targets = All-nil IsName;
  targets_there = omega arith;
  targets_begin = λ some. absurd (some refl);
}

pub returns-clause-parts : goal.returns-clause-parts
returns-clause-parts c = subst AreParts (sym (grind (arith, common_steps))) are_parts

pub returns-clause-tables : goal.returns-clause-tables
returns-clause-tables c = subst FitTables (sym (grind (arith, common_steps))) fit_tables
