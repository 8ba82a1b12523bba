-- The linked lines keep the assembler's condition.
use Rattle.std.proofs.Common.{◌≡◌, ℕ, zero, suc, ◌+◌, ◌-◌, ◌<◌, ◌≤◌, ◌++◌, List, [], ◌∷◌, Some, length, take, slice_get, map, count_by, All, Bool, true, false, cond, eqb, pos, negsuc, refl, sym, subst, ap, ◌∙◌, ◌⊎◌, ⊎_elim, arith, rules}
use Rattle.std.proofs.lemmas.List.{length-append}
use Rattle.std.proofs.lemmas.List.Elements.{All-nil, All-cons, All-append, All-map, All-head, All-tail, All-from_recursion}
use Rattle.mv_num.specs.Words.{as_word}
use Rattle.mv_isa.specs.declared.instr.Instr.TheVariants.{Jalr, Addi, Ecall}
use Rattle.mv_isa.specs.declared.labelled.Labelled.{Labelled}
use Rattle.mv_isa.specs.declared.labelled.Line.{Line}
use Rattle.mv_isa.specs.declared.labelled.Line.TheVariants.{Word, Label, Jump, Branch, Entry, Slot, Point}
use Rattle.mv_isa.specs.Code.{is_label, StandsOnce, TargetStands, LineFits, CodeFits}
use Rattle.mv_linker.specs.declared.parts.Parts.{Parts}
use Rattle.mv_linker.specs.Linked.{function_variants, variant_codes, codes, entry_label, trap_label, label_limit, check_label, commit_label, own, relabelled, start_lines, trap_lines, commit_instrs, commit_lines, unless_lines, check_lines, check_lines_where, stub_lines, has_pointers, function_part, function_parts, linked_lines, label_count, first_label, IsStubLabel, IsEntryLabel, IsOwnLabel, IsTarget, NamesAreThere, IsFunction, AreParts}
use Rattle.mv_linker.proofs.Counting.{count_cons, unmarked, own_is, own_stays, own_entry, label_count_more, labels_within, parts_other, parts_entry, parts_own}
use Rattle.mv_isa.proofs.Common.{count_append}

-- ---- labels of the stubs

trap_count : (m c : ℕ) → count_by (is_label m) (trap_lines c) ≡ as_word (eqb (trap_label c) m)
trap_count m c = omega (arith, count_cons m (Label (trap_label c)) (Word (Addi 10 0 (pos c)) ∷ Word (Addi 17 0 (pos 3)) ∷ Word Ecall ∷ []))

commit_count : (m : ℕ) → count_by (is_label m) commit_lines ≡ as_word (eqb commit_label m)
commit_count m = omega (arith, count_cons m (Label commit_label) (map Word commit_instrs))

check_count : (checks : Bool) (m : ℕ) → count_by (is_label m) (check_lines_where checks) ≡ cond checks (as_word (eqb check_label m)) 0
check_count true m = omega (arith, count_cons m (Label check_label) (unless_lines 5 3 ++ (unless_lines 27 4 ++ (Word (Addi 27 27 (negsuc 0)) ∷ Word (Jalr 0 6 (pos 0)) ∷ []))))
check_count false m = refl

stub_count : (main : ℕ) (checks : Bool) (m : ℕ) → count_by (is_label m) (stub_lines main checks)
    ≡ as_word (eqb (trap_label 1) m) + (as_word (eqb (trap_label 2) m) + (as_word (eqb (trap_label 3) m) + (as_word (eqb (trap_label 4) m) + (as_word (eqb commit_label m) + cond checks (as_word (eqb check_label m)) 0))))
stub_count main checks m =
    let start : count_by (is_label m) (start_lines main) ≡ 0 = refl in
    let last = commit_lines ++ check_lines_where checks in
    omega (
      arith,
      start,
      trap_count m 1,
      trap_count m 2,
      trap_count m 3,
      trap_count m 4,
      commit_count m,
      check_count checks m,
      count_append m (start_lines main) (trap_lines 1 ++ (trap_lines 2 ++ (trap_lines 3 ++ (trap_lines 4 ++ last)))),
      count_append m (trap_lines 1) (trap_lines 2 ++ (trap_lines 3 ++ (trap_lines 4 ++ last))),
      count_append m (trap_lines 2) (trap_lines 3 ++ (trap_lines 4 ++ last)),
      count_append m (trap_lines 3) (trap_lines 4 ++ last),
      count_append m (trap_lines 4) last,
      count_append m commit_lines (check_lines_where checks),
    )

check_other : (checks : Bool) (m : ℕ) → m < trap_label 1 → cond checks (as_word (eqb check_label m)) 0 ≡ 0
check_other true m below = unmarked m check_label (λ e. omega (arith, e))
check_other false m below = refl

stubs_other : (main : ℕ) (checks : Bool) (m : ℕ) → m < trap_label 1 → count_by (is_label m) (stub_lines main checks) ≡ 0
stubs_other main checks m below =
    omega (
      arith,
      stub_count main checks m,
      unmarked m (trap_label 1) (λ e. omega (arith, e)),
      unmarked m (trap_label 2) (λ e. omega (arith, e)),
      unmarked m (trap_label 3) (λ e. omega (arith, e)),
      unmarked m (trap_label 4) (λ e. omega (arith, e)),
      unmarked m commit_label (λ e. omega (arith, e)),
      check_other checks m below,
    )

stubs_trap : (main : ℕ) (checks : Bool) (c : ℕ) → 1 ≤ c → c ≤ 4 → StandsOnce (stub_lines main checks) (trap_label c)
stubs_trap main checks zero from to = absurd (omega arith)
stubs_trap main true (suc zero) from to = refl
stubs_trap main false (suc zero) from to = refl
stubs_trap main true (suc (suc zero)) from to = refl
stubs_trap main false (suc (suc zero)) from to = refl
stubs_trap main true (suc (suc (suc zero))) from to = refl
stubs_trap main false (suc (suc (suc zero))) from to = refl
stubs_trap main true (suc (suc (suc (suc zero)))) from to = refl
stubs_trap main false (suc (suc (suc (suc zero)))) from to = refl
stubs_trap main checks (suc (suc (suc (suc (suc c))))) from to = absurd (omega arith)

stubs_commit : (main : ℕ) (checks : Bool) → StandsOnce (stub_lines main checks) commit_label
stubs_commit main true = refl
stubs_commit main false = refl

stubs_check : (main : ℕ) (checks : Bool) → checks ≡ true → StandsOnce (stub_lines main checks) check_label
stubs_check main true e = refl
stubs_check main false e = absurd (let bad : ⊥ = cc in bad)

-- the labels of the stubs are above all others
stub_above : (l : ℕ) → IsStubLabel l → trap_label 1 ≤ l
stub_above l is = ⊎_elim (λ (trap : (trap_label 1 ≤ l) × (l ≤ trap_label 4)). trap.0) (λ (commit : l ≡ commit_label). omega (arith, commit)) is

-- ---- labels that stand once in the linked lines

pub within_all : (parts : Parts) → length parts.functions ≤ length (codes parts)
within_all parts = omega (arith, length-append parts.functions (variant_codes (function_variants parts.attributed)))

-- each function is among the codes
pub within_codes : (parts : Parts) (f : ℕ) → f < length parts.functions → f < length (codes parts)
within_codes parts f below = omega (arith, within_all parts)

module _ (parts : Parts) (are : AreParts parts) where
  counted : (m : ℕ) → count_by (is_label m) (linked_lines parts)
      ≡ count_by (is_label m) (stub_lines parts.main (has_pointers parts)) + count_by (is_label m) (function_parts 0 (length (codes parts)) (codes parts))
  counted m = count_append m (stub_lines parts.main (has_pointers parts)) (function_parts 0 (length (codes parts)) (codes parts))

  pub entry_once : (f : ℕ) → f < length (codes parts) → StandsOnce (linked_lines parts) f
  entry_once f below =
      omega (
        arith,
        counted f,
        stubs_other parts.main (has_pointers parts) f (omega (arith, are.labels)),
        parts_entry (length parts.functions) (has_pointers parts) (codes parts) 0 (length (codes parts)) f are.functions (omega arith) (omega arith) below,
      )

  pub own_once : (f : ℕ) (code : Labelled) → slice_get (codes parts) f ≡ Some code → (l : ℕ) → IsOwnLabel code l → StandsOnce (linked_lines parts) (first_label (codes parts) f + l)
  own_once f code found l is =
      let m = first_label (codes parts) f + l in
      let within = labels_within (codes parts) f code found in
      omega (
        arith,
        counted m,
        stubs_other parts.main (has_pointers parts) m (omega (arith, are.labels, is.0)),
        is.1,
        parts_own (length parts.functions) (has_pointers parts) (codes parts) 0 (length (codes parts)) f code l m are.functions (omega arith) found is.0 refl,
      )

  pub trap_once : (c : ℕ) → 1 ≤ c → c ≤ 4 → StandsOnce (linked_lines parts) (trap_label c)
  trap_once c from to =
      omega (
        arith,
        counted (trap_label c),
        stubs_trap parts.main (has_pointers parts) c from to,
        parts_other (length parts.functions) (has_pointers parts) (codes parts) 0 (length (codes parts)) (trap_label c) are.functions
            (λ le. omega (arith, are.labels)) (λ le. omega (arith, are.labels)),
      )

  pub commit_once : StandsOnce (linked_lines parts) commit_label
  commit_once =
      omega (
        arith,
        counted commit_label,
        stubs_commit parts.main (has_pointers parts),
        parts_other (length parts.functions) (has_pointers parts) (codes parts) 0 (length (codes parts)) commit_label are.functions
            (λ le. omega (arith, are.labels)) (λ le. omega (arith, are.labels)),
      )

  pub check_once : has_pointers parts ≡ true → StandsOnce (linked_lines parts) check_label
  check_once checks =
      omega (
        arith,
        counted check_label,
        stubs_check parts.main (has_pointers parts) checks,
        parts_other (length parts.functions) (has_pointers parts) (codes parts) 0 (length (codes parts)) check_label are.functions
            (λ le. omega (arith, are.labels)) (λ le. omega (arith, are.labels)),
      )

  trap_target : (l : ℕ) → trap_label 1 ≤ l → l ≤ trap_label 4 → StandsOnce (linked_lines parts) l
  trap_target l from to =
      let c_is : trap_label (l - trap_label 0) ≡ l = omega (arith, from, to) in
      subst (StandsOnce (linked_lines parts)) c_is (trap_once (l - trap_label 0) (omega (arith, from, to)) (omega (arith, from, to)))

  stub_target : (l : ℕ) → IsStubLabel l → StandsOnce (linked_lines parts) l
  stub_target l is =
      ⊎_elim (λ (trap : (trap_label 1 ≤ l) × (l ≤ trap_label 4)). trap_target l trap.0 trap.1)
      (λ (commit : l ≡ commit_label). subst (StandsOnce (linked_lines parts)) (sym commit) commit_once)
      is

-- ---- what lines name stands once

module _ (whole : List Line) (n : ℕ) (checks : Bool) (few : n ≤ label_limit) (entries : (f : ℕ) → f < n → StandsOnce whole f)
    (stubs : (l : ℕ) → IsStubLabel l → StandsOnce whole l)
    (check : checks ≡ true → StandsOnce whole check_label) where
  module _ (first : ℕ) (code : Labelled) (owns : (l : ℕ) → IsOwnLabel code l → StandsOnce whole (first + l)) (room : code.labels ≤ label_limit) where
    target_once : (l : ℕ) → IsTarget code l → StandsOnce whole (own first code.labels l)
    target_once l is =
        ⊎_elim (λ (mine : IsOwnLabel code l). subst (StandsOnce whole) (sym (own_is first code.labels l mine.0)) (owns l mine))
        (λ (stub : IsStubLabel l). let above = stub_above l stub in
        subst (StandsOnce whole) (sym (own_stays first code.labels l (omega (arith, above)) (omega (arith, above)))) (stubs l stub))
        is

    jump_once : (l : ℕ) → IsTarget code l ⊎ IsEntryLabel n l → StandsOnce whole (own first code.labels l)
    jump_once l is =
        ⊎_elim (target_once l)
        (λ (entry : IsEntryLabel n l).
        let f = l - entry_label 0 in
        let l_is : entry_label f ≡ l = omega (arith, entry.0) in
        let same = own_entry first code.labels f (omega arith) (omega (arith, entry.0, entry.1)) in
        let e : own first code.labels l ≡ f = ap (own first code.labels) (sym l_is) ∙ same in
        subst (StandsOnce whole) (sym e) (entries f (omega (arith, entry.0, entry.1))))
        is

    line_target : (x : Line) → NamesAreThere n checks code x → TargetStands whole (relabelled first code.labels x)
    line_target (Word instr) h = tt
    line_target (Label l) h = tt
    line_target (Jump rd l) h = jump_once l h
    line_target (Branch funct3 rs1 rs2 l) h = target_once l h
    line_target (Entry rd f) h = entries f h
    line_target (Slot f) h = entries f h
    line_target (Point a) h = check h

    part_targets : (f : ℕ) → IsFunction n checks code → All (TargetStands whole) (function_part f first code)
    part_targets f fun =
        All-cons (TargetStands whole) (Label f) (map (relabelled first code.labels) code.items) tt
        (All-map (TargetStands whole) (relabelled first code.labels) code.items (λ k d l. line_target _ (fun.names k d l)))

  parts_targets : (functions : List Labelled) (f first : ℕ) → All (IsFunction n checks) functions → label_count functions ≤ label_limit
      → ((k : ℕ) (code : Labelled) → slice_get functions k ≡ Some code → (l : ℕ) → IsOwnLabel code l → StandsOnce whole (first + label_count (take k functions) + l))
      → All (TargetStands whole) (function_parts f first functions)
  parts_targets [] f first all room owns = All-nil (TargetStands whole)
  parts_targets (code ∷ rest) f first all room owns =
      let more = label_count_more code rest in
      All-append (TargetStands whole) (function_part f first code) (function_parts (f + 1) (first + code.labels) rest)
      (part_targets first code (λ l is. let e : first + label_count (take 0 (code ∷ rest)) + l ≡ first + l = omega arith in subst (StandsOnce whole) e (owns 0 code refl l is)) (omega arith) f (All-head (IsFunction n checks) code rest all))
      (parts_targets rest (f + 1) (first + code.labels) (All-tail (IsFunction n checks) code rest all) (omega arith)
      (λ k x found l is. let e : first + label_count (take (suc k) (code ∷ rest)) + l ≡ first + code.labels + label_count (take k rest) + l = omega (arith, label_count_more code (take k rest)) in
      subst (StandsOnce whole) e (owns (suc k) x found l is)))

-- ---- fields

line_fields : (first count : ℕ) (x : Line) → LineFits x → LineFits (relabelled first count x)
line_fields first count (Word instr) h = h
line_fields first count (Label l) h = tt
line_fields first count (Jump rd l) h = h
line_fields first count (Branch funct3 rs1 rs2 l) h = h
line_fields first count (Entry rd f) h = h
line_fields first count (Slot f) h = tt
line_fields first count (Point a) h = tt

parts_fields : (n : ℕ) (checks : Bool) (functions : List Labelled) (f first : ℕ) → All (IsFunction n checks) functions → All LineFits (function_parts f first functions)
parts_fields n checks [] f first all = All-nil LineFits
parts_fields n checks (code ∷ rest) f first all =
    let fun = All-head (IsFunction n checks) code rest all in
    All-append LineFits (function_part f first code) (function_parts (f + 1) (first + code.labels) rest)
    (All-cons LineFits (Label f) (map (relabelled first code.labels) code.items) tt
    (All-map LineFits (relabelled first code.labels) code.items (λ k d l. line_fields first code.labels _ (fun.fields k d l))))
    (parts_fields n checks rest (f + 1) (first + code.labels) (All-tail (IsFunction n checks) code rest all))

-- of the stubs
module _ (P : Line → Type 0) (main : ℕ) (start : All P (start_lines main)) (traps : (c : ℕ) → c ≤ 4 → All P (trap_lines c)) (commit : All P commit_lines) (check : All P check_lines) where
  check_all : (checks : Bool) → All P (check_lines_where checks)
  check_all true = check
  check_all false = All-nil P

  pub stubs_all : (checks : Bool) → All P (stub_lines main checks)
  stubs_all checks =
      let last = commit_lines ++ check_lines_where checks in
      All-append P (start_lines main) (trap_lines 1 ++ (trap_lines 2 ++ (trap_lines 3 ++ (trap_lines 4 ++ last)))) start
      (All-append P (trap_lines 1) (trap_lines 2 ++ (trap_lines 3 ++ (trap_lines 4 ++ last))) (traps 1 (omega arith))
      (All-append P (trap_lines 2) (trap_lines 3 ++ (trap_lines 4 ++ last)) (traps 2 (omega arith))
      (All-append P (trap_lines 3) (trap_lines 4 ++ last) (traps 3 (omega arith))
      (All-append P (trap_lines 4) last (traps 4 (omega arith))
      (All-append P commit_lines (check_lines_where checks) commit (check_all checks))))))

start_fields : (main : ℕ) → All LineFits (start_lines main)
start_fields main = All-from_recursion LineFits (start_lines main) (search rules)

trap_fields : (c : ℕ) → c ≤ 4 → All LineFits (trap_lines c)
trap_fields c le = All-from_recursion LineFits (trap_lines c) (search rules)

commit_fields : All LineFits commit_lines
commit_fields = All-from_recursion LineFits commit_lines (search rules)

check_fields : All LineFits check_lines
check_fields = All-from_recursion LineFits check_lines (search rules)

start_targets : (whole : List Line) (main : ℕ) → StandsOnce whole main → All (TargetStands whole) (start_lines main)
start_targets whole main once = All-from_recursion (TargetStands whole) (start_lines main) (tt, (tt, (tt, (tt, (tt, (tt, (once, (tt, (tt, tt)))))))))

trap_targets : (whole : List Line) (c : ℕ) → c ≤ 4 → All (TargetStands whole) (trap_lines c)
trap_targets whole c le = All-from_recursion (TargetStands whole) (trap_lines c) (tt, (tt, (tt, (tt, tt))))

commit_targets : (whole : List Line) → All (TargetStands whole) commit_lines
commit_targets whole =
    All-from_recursion (TargetStands whole) commit_lines (tt, (tt, (tt, (tt, (tt, (tt, (tt, (tt, (tt, (tt, (tt, (tt, (tt, tt)))))))))))))

check_targets : (whole : List Line) → StandsOnce whole (trap_label 3) → StandsOnce whole (trap_label 4) → All (TargetStands whole) check_lines
check_targets whole null deep = All-from_recursion (TargetStands whole) check_lines (tt, (tt, (null, (tt, (deep, (tt, (tt, tt)))))))

-- ---- all lines

pub lines_fit : (parts : Parts) → AreParts parts → CodeFits (linked_lines parts)
lines_fit parts are =
    let n = length parts.functions in
    let m = length (codes parts) in
    let rest = function_parts 0 m (codes parts) in
    let fields : All LineFits (linked_lines parts) =
    All-append LineFits (stub_lines parts.main (has_pointers parts)) rest
    (stubs_all LineFits parts.main (start_fields parts.main) trap_fields commit_fields check_fields (has_pointers parts))
    (parts_fields n (has_pointers parts) (codes parts) 0 m are.functions) in
    let whole = linked_lines parts in
    let entries : (f : ℕ) → f < n → StandsOnce whole f = λ f below. entry_once parts are f (within_codes parts f below) in
    let targets : All (TargetStands whole) whole =
    All-append (TargetStands whole) (stub_lines parts.main (has_pointers parts)) rest
    (stubs_all (TargetStands whole) parts.main (start_targets whole parts.main (entries parts.main are.main)) (trap_targets whole) (commit_targets whole)
    (check_targets whole (trap_once parts are 3 (omega arith) (omega arith)) (trap_once parts are 4 (omega arith) (omega arith))) (has_pointers parts))
    (parts_targets whole n (has_pointers parts) (omega (arith, are.labels, within_all parts)) entries (stub_target parts are) (check_once parts are) (codes parts) 0 m are.functions (omega (arith, are.labels)) (own_once parts are)) in
    record { fields = λ k l. fields k (Label 0) l; targets = λ k l. targets k (Label 0) l }
