-- Where the stubs and the parts of functions stand.
use Rattle.std.proofs.Common.{◌≡◌, ℕ, zero, suc, ◌+◌, ◌≤◌, ◌++◌, Bool, true, false, List, [], ◌∷◌, Some, length, take, slice_get, refl, ap, sym, subst, ◌∙◌, arith}
use Rattle.std.proofs.lemmas.List.{append_assoc, length-append, length-map, get_or-append-add, get_or_append_left}
use Rattle.std.proofs.lemmas.Option.{slice_get_within}
use Rattle.mv_isa.specs.declared.labelled.Labelled.{Labelled}
use Rattle.mv_isa.specs.declared.labelled.Line.{Line}
use Rattle.mv_isa.specs.declared.labelled.Line.TheVariants.{Label}
use Rattle.mv_linker.specs.declared.parts.Parts.{Parts}
use Rattle.mv_linker.specs.Linked.{codes, relabelled, start_lines, trap_lines, commit_lines, check_lines, check_lines_where, stub_lines, has_pointers, function_part, function_parts, linked_lines, label_count, first_label, line_count, trap_index, commit_index, check_index, part_index, AreParts}
use Rattle.mv_linker.specs.Laws.{StandFrom, TrapStands, CommitStands, CheckStands, FunctionStands}
use Rattle.mv_linker.proofs.Counting.{label_count_more}
use Rattle.mv_linker.proofs.Fits.{entry_once, own_once, trap_once, commit_once, check_once}
use Rattle.mv_linker.proofs.Joining.{line_count_more, stub_length}

pub stand_in : (before part after : List Line) (k : ℕ) → k ≡ length before → StandFrom (before ++ (part ++ after)) k part
stand_in before part after k e = record {
  within = omega (arith, length-append before (part ++ after), length-append part after);
  each = λ j l. rw e (get_or-append-add before (part ++ after) j (Label 0) ∙ get_or_append_left part after (Label 0) j l);
}

-- lines in front of others that have a part
in_front : (front before part after rest : List Line) → rest ≡ before ++ (part ++ after) → front ++ rest ≡ (front ++ before) ++ (part ++ after)
in_front front before part after rest e = ap (λ ls. front ++ ls) e ∙ sym (append_assoc front before (part ++ after))

-- ---- stubs

module _ (main : ℕ) (checks : Bool) (rest : List Line) where
  abbrev last : List Line
  last = commit_lines ++ check_lines_where checks

  start_stands : StandFrom (stub_lines main checks ++ rest) 0 (start_lines main)
  start_stands = stand_in [] (start_lines main) ((trap_lines 1 ++ (trap_lines 2 ++ (trap_lines 3 ++ (trap_lines 4 ++ last)))) ++ rest) 0 refl

  trap_stands : (c : ℕ) → 1 ≤ c → c ≤ 4 → StandFrom (stub_lines main checks ++ rest) (trap_index c) (trap_lines c)
  trap_stands zero from to = absurd (omega arith)
  trap_stands (suc zero) from to = stand_in (start_lines main) (trap_lines 1) ((trap_lines 2 ++ (trap_lines 3 ++ (trap_lines 4 ++ last))) ++ rest) 9 refl
  trap_stands (suc (suc zero)) from to = stand_in (start_lines main ++ trap_lines 1) (trap_lines 2) ((trap_lines 3 ++ (trap_lines 4 ++ last)) ++ rest) 13 refl
  trap_stands (suc (suc (suc zero))) from to = stand_in (start_lines main ++ (trap_lines 1 ++ trap_lines 2)) (trap_lines 3) ((trap_lines 4 ++ last) ++ rest) 17 refl
  trap_stands (suc (suc (suc (suc zero)))) from to = stand_in (start_lines main ++ (trap_lines 1 ++ (trap_lines 2 ++ trap_lines 3))) (trap_lines 4) (last ++ rest) 21 refl
  trap_stands (suc (suc (suc (suc (suc c))))) from to = absurd (omega arith)

  commit_stands : StandFrom (stub_lines main checks ++ rest) commit_index commit_lines
  commit_stands = stand_in (start_lines main ++ (trap_lines 1 ++ (trap_lines 2 ++ (trap_lines 3 ++ trap_lines 4)))) commit_lines (check_lines_where checks ++ rest) 25 refl

check_stands : (main : ℕ) (checks : Bool) (rest : List Line) → checks ≡ true → StandFrom (stub_lines main checks ++ rest) check_index check_lines
check_stands main true rest e = stand_in (start_lines main ++ (trap_lines 1 ++ (trap_lines 2 ++ (trap_lines 3 ++ (trap_lines 4 ++ commit_lines))))) check_lines rest 38 refl
check_stands main false rest e = absurd (let bad : ⊥ = cc in bad)

-- ---- functions

-- lines are a part with so many before it, and some after it
record IsSplit (lines : List Line) (count : ℕ) (part : List Line) : Type 0 where
  before : List Line
  after : List Line
  lines_are : lines ≡ before ++ (part ++ after)
  count_is : count ≡ length before

parts_split : (functions : List Labelled) (f first k : ℕ) (code : Labelled) (g m : ℕ) → slice_get functions k ≡ Some code → g ≡ f + k → m ≡ first + label_count (take k functions)
    → IsSplit (function_parts f first functions) (line_count (take k functions)) (function_part g m code)
parts_split [] f first k code g m found g_is m_is = absurd (let bad : ⊥ = cc in bad)
parts_split (x ∷ rest) f first zero code g m found g_is m_is =
    let found' : Some x ≡ Some code = found in
    let same : x ≡ code = cc in
    let g' : g ≡ f = omega arith in
    let m' : m ≡ first = omega arith in
    let part : function_part f first x ≡ function_part g m code = rw (g', m', same) refl in
    record {
      before = [];
      after = function_parts (f + 1) (first + x.labels) rest;
      lines_are = ap (λ ls. ls ++ function_parts (f + 1) (first + x.labels) rest) part;
      count_is = refl;
    }
parts_split (x ∷ rest) f first (suc k) code g m found g_is m_is =
    let s = parts_split rest (f + 1) (first + x.labels) k code g m found (omega arith) (omega (arith, label_count_more x (take k rest))) in
    let part = function_part f first x in
    record {
      before = part ++ s.before;
      after = s.after;
      lines_are = in_front part s.before (function_part g m code) s.after _ s.lines_are;
      count_is = omega (arith, line_count_more x (take k rest), s.count_is, length-append part s.before, length-map x.items (relabelled first x.labels));
    }

module _ (parts : Parts) (are : AreParts parts) where
  pub start_law : StandFrom (linked_lines parts) 0 (start_lines parts.main)
  start_law = start_stands parts.main (has_pointers parts) (function_parts 0 (length (codes parts)) (codes parts))

  pub trap_law : (c : ℕ) → 1 ≤ c → c ≤ 4 → TrapStands (linked_lines parts) c
  trap_law c from to = record {
    stub = trap_stands parts.main (has_pointers parts) (function_parts 0 (length (codes parts)) (codes parts)) c from to;
    label = trap_once parts are c from to;
  }

  pub commit_law : CommitStands (linked_lines parts)
  commit_law = record {
    stub = commit_stands parts.main (has_pointers parts) (function_parts 0 (length (codes parts)) (codes parts));
    label = commit_once parts are;
  }

  pub check_law : has_pointers parts ≡ true → CheckStands (linked_lines parts)
  check_law checks = record {
    stub = check_stands parts.main (has_pointers parts) (function_parts 0 (length (codes parts)) (codes parts)) checks;
    label = check_once parts are checks;
  }

  module _ (f : ℕ) (code : Labelled) (found : slice_get (codes parts) f ≡ Some code) where
    part_stands : StandFrom (linked_lines parts) (part_index (has_pointers parts) (codes parts) f) (function_part f (first_label (codes parts) f) code)
    part_stands =
        let n = length (codes parts) in
        let stubs = stub_lines parts.main (has_pointers parts) in
        let part = function_part f (first_label (codes parts) f) code in
        let s = parts_split (codes parts) 0 n f code f (first_label (codes parts) f) found (omega arith) refl in
        let lines_are : linked_lines parts ≡ (stubs ++ s.before) ++ (part ++ s.after) = in_front stubs s.before part s.after _ s.lines_are in
        let index_is : part_index (has_pointers parts) (codes parts) f ≡ length (stubs ++ s.before) = omega (arith, s.count_is, length-append stubs s.before, stub_length parts.main (has_pointers parts)) in
        subst (λ (ls : List Line). StandFrom ls (part_index (has_pointers parts) (codes parts) f) part) (sym lines_are) (stand_in (stubs ++ s.before) part s.after (part_index (has_pointers parts) (codes parts) f) index_is)

    pub function_law : FunctionStands (linked_lines parts) (has_pointers parts) (codes parts) f code
    function_law = record {
      part = part_stands;
      entry = entry_once parts are f (slice_get_within (codes parts) f code found);
      own = own_once parts are f code found;
    }
