-- The program of a text that is accepted has what tables need to know of it.
use Rattle.std.proofs.Common.{◌≡◌, ◌≢◌, ℕ, ◌<◌, ◌≤◌, arith, refl, sym, ◌∙◌, ap, subst, Bool, true, false, cond, if◌then◌else◌, List, [], ◌∷◌, length, map, get_or, Some, slice_get, AllPairs}
use Rattle.std.specs.Prelude.{All, filter}
use Rattle.std.specs.List.{AllByRecursion}
use Rattle.std.specs.List.Sorted.{IsStrictlyIncreasing}
use Rattle.std.proofs.lemmas.List.Elements.{All-from_recursion, All-weaker, All-get_or}
use Rattle.std.proofs.lemmas.List.Kept.{AllPairs-from_increasing}
use Rattle.std.proofs.lemmas.Option.{same_Some, slice_get-get_or, slice_get_within}
use Rattle.mv_num.specs.declared.kind.Kind.{Kind}
use Rattle.mv_ast.specs.declared.program.CType.{CType}
use Rattle.mv_ast.specs.declared.program.CType.TheVariants.{Void, Scalar, Pointer}
use Rattle.mv_ast.specs.declared.program.Function.{Function}
use Rattle.mv_ast.specs.declared.program.Global.{Global}
use Rattle.mv_ast.specs.declared.program.Program.{Program}
use Rattle.mv_ast.specs.declared.program.Switch.{Switch}
use Rattle.mv_ast.specs.Actions.{is_value_of}
use Rattle.mv_ast.specs.Counts.{assignments, product_of, words_of_size}
use Rattle.mv_ast.specs.Switches.{attributed_functions, switch_global, switch_domain, global_or_none, values_or_none}
use Rattle.mv_check_declarations.specs.Turns.{through}
use Rattle.mv_source_forms.specs.Typing.{IsInteger, global_types}
use Rattle.mv_source_forms.specs.WellFormed.{IsWellFormed, IsWellFormedPointer, IsWellFormedSwitch}
use Rattle.mv_accepts.specs.Statements.Bodies.{BodyGrows, ParametersFit}
use Rattle.mv_accepts.proofs.OfStatements.Judging.{of_good}
use Rattle.mv_accepts.proofs.OfStatements.Lists.{all_more, all_mapped, mapped_there}
use Rattle.mv_types.specs.declared.contents.Contents.{Contents}
use Rattle.mv_types.specs.declared.contents.Foreknown.{Foreknown}
use Rattle.mv_types.specs.declared.contents.Object.{Object}
use Rattle.mv_types.specs.Contents.{nothing_declared, present, switches_from}
use Rattle.mv_types.specs.Foreknown.{foreknown, pointers_of}
use Rattle.mv_types.specs.Units.{item_judgement, with_switches, program_of}
use Rattle.mv_accepts.specs.Globals.Globals.{HasFormedGlobals, GlobalsAreFormed}
use Rattle.mv_accepts_programs.specs.Checked.{ProgramsOfTextsAreWellFormed}
use Rattle.mv_accepts_programs.proofs.Lists.{all_at, all_by, one_there}
use Rattle.mv_accepts_programs.proofs.Units.{ComesFrom, comes_from}
use Rattle.mv_check_rules.proofs.Units.{same_judgement}
use Rattle.mv_front.specs.Verdicts.{IsProgram}
use Rattle.mv_source_facts.specs.Facts.{IsName, IsTablePointer, IsTableSwitch, IsTableFunction, HasTableFacts}
use Rattle.mv_accepts_programs.specs.Identifiers.Written.{UnitsOfTextsAreWritten}
use Rattle.mv_accepts_programs.proofs.OfFacts.Declarators.{IsWrittenObject, AreWritten}
use Rattle.mv_accepts_programs.proofs.OfFacts.Functions.{IsOwner, owners, present_named, product_some}
use Rattle.mv_accepts_programs.proofs.OfFacts.Switches.{HasDomain, AreApart, domains_some, all_apart}
use Rattle.mv_accepts_programs.proofs.OfFacts.Units.{items_written}

-- ---- what the unit gives

-- names, domains with values, switches that are different globals, and the switches of functions
record IsWritten (p : Program) : Type 0 where
  globals : All (λ (g : Global). IsName g.name) p.globals
  names : All (λ (f : Function). IsName f.name) p.functions
  domains : All HasDomain p.switches
  apart : AllPairs AreApart p.switches
  owners : All (IsOwner p.switches) (attributed_functions p)

program_written : (c : Contents) (pointers : List ℕ) (main : ℕ) → AreWritten c → IsWritten (program_of c pointers main)
unfolding program_of
program_written c pointers main h =
    let ss : List Switch = switches_from 0 c.objects in
    record {
      globals = All-from_recursion (λ (g : Global). IsName g.name) (map (λ (o : Object). o.global) c.objects)
          (all_mapped (λ (g : Global). IsName g.name) (λ (o : Object). o.global) c.objects (all_more IsWrittenObject (λ o. IsName o.global.name) (λ o w. w.0) c.objects h.objects));
      names = All-from_recursion (λ (f : Function). IsName f.name) (map (with_switches ss) (present c.functions))
          (all_mapped (λ (f : Function). IsName f.name) (with_switches ss) (present c.functions) (present_named c.functions h.functions));
      domains = All-from_recursion HasDomain ss (domains_some 0 c.objects h.objects);
      apart = all_apart 0 c.objects;
      owners = All-from_recursion (IsOwner ss) (attributed_functions (program_of c pointers main)) (owners ss c.functions h.functions);
    }

module _ (p : Program) (w : IsWritten p) (formed : IsWellFormed p) (globals : HasFormedGlobals p) where
  -- ---- switches

  -- the kind of an integer type
  kind_of : (t : CType) → IsInteger t → (k : Kind) × (t ≡ Scalar k)
  kind_of Void h = absurd h
  kind_of (Scalar k) h = (k, refl)
  kind_of (Pointer s) h = absurd h

  -- the type of a switch's global is an integer type
  integer_type : (n : ℕ) (s : Switch) (g : Global) → slice_get p.switches n ≡ Some s → slice_get p.globals s.global ≡ Some g → n < length p.switches → IsInteger g.ctype
  integer_type n s g q there l =
      let i = globals.integers n l in
      let same : i.switch ≡ s = same_Some i.switch s (sym i.there ∙ q) in
      let types : slice_get (global_types p) s.global ≡ Some g.ctype = mapped_there (λ (x : Global). x.ctype) p.globals s.global g there in
      let at : slice_get (global_types p) s.global ≡ Some i.ctype = ap (λ (x : Switch). slice_get (global_types p) x.global) (sym same) ∙ i.global in
      subst IsInteger (same_Some i.ctype g.ctype (sym at ∙ types)) i.integer

  one_switch : (n : ℕ) (s : Switch) → slice_get p.switches n ≡ Some s → IsTableSwitch p s
  one_switch n s q =
      let f : IsWellFormedSwitch p s = all_at (IsWellFormedSwitch p) p.switches formed.switches n s q in
      let k = kind_of f.global.ctype (integer_type n s f.global q f.there (slice_get_within p.switches n s q)) in
      record {
        global = f.global;
        there = f.there;
        named = all_at (λ (g : Global). IsName g.name) p.globals w.globals s.global f.global f.there;
        kind = k.0;
        integer = k.1;
        scalar = f.scalar;
        some = all_at HasDomain p.switches w.domains n s q;
        most = all_at (λ (s : Switch). length s.values ≤ 16) p.switches formed.limits.domains n s q;
        values = subst (λ t. All (λ v. is_value_of t v ≡ true) s.values) k.1 f.values;
        different = f.different;
      }

  switches_are : All (IsTableSwitch p) p.switches
  switches_are = all_by (IsTableSwitch p) p.switches one_switch

  -- ---- functions

  -- two of the program's switches, by their numbers
  globals_differ : (s t : ℕ) → s < t → t < length p.switches → switch_global p s ≢ switch_global p t
  globals_differ s t l k =
      let none : Switch = record { global = 0; values = [] } in
      let here : switch_global p s ≡ (get_or p.switches s none).global = ap global_or_none (slice_get-get_or p.switches s none (omega (arith, l, k))) in
      let there : switch_global p t ≡ (get_or p.switches t none).global = ap global_or_none (slice_get-get_or p.switches t none k) in
      λ q. w.apart s t none l k (sym here ∙ (q ∙ there))

  own_apart : (ns : List ℕ) → All (λ s. s < length p.switches) ns → IsStrictlyIncreasing ns → AllPairs (λ s t. switch_global p s ≢ switch_global p t) ns
  own_apart ns below ascend i j d l k =
      globals_differ (get_or ns i d) (get_or ns j d) (AllPairs-from_increasing ns ascend i j d l k) (All-get_or (λ s. s < length p.switches) ns j d k below)

  domain_some : (s : ℕ) → s < length p.switches → 1 ≤ length (switch_domain p s)
  domain_some s l =
      let x = one_there p.switches s l in
      subst (λ o. 1 ≤ length (values_or_none o)) (sym x.1) (all_at HasDomain p.switches w.domains s x.0 x.1)

  assignments_some : (f : Function) → IsOwner p.switches f → 1 ≤ assignments p f
  assignments_some f o =
      let all : AllByRecursion (λ n. 1 ≤ n) (map (λ s. length (switch_domain p s)) f.switches) =
      all_mapped (λ n. 1 ≤ n) (λ s. length (switch_domain p s)) f.switches
      (all_more (λ s. s < length p.switches) (λ s. 1 ≤ length (switch_domain p s)) domain_some f.switches o.below) in
      subst (λ b. 1 ≤ (if b then product_of (map (λ s. length (switch_domain p s)) f.switches) else 0)) (sym o.attributed) (product_some _ all)

  one_function : (n : ℕ) (f : Function) → slice_get (attributed_functions p) n ≡ Some f → IsTableFunction p f
  one_function n f q =
      let o : IsOwner p.switches f = all_at (IsOwner p.switches) (attributed_functions p) w.owners n f q in
      let there : All (λ s. s < length p.switches) f.switches = All-from_recursion (λ s. s < length p.switches) f.switches o.below in
      record {
        named = o.named;
        most = all_at (λ (f : Function). length f.switches ≤ 6) (attributed_functions p) formed.limits.own_switches n f q;
        there = there;
        ascend = o.ascend;
        apart = own_apart f.switches there o.ascend;
        some_assignment = assignments_some f o;
        assignments_most = all_at (λ (f : Function). assignments p f ≤ 64) (attributed_functions p) formed.limits.assignments n f q;
      }

  filter_few : (fs : List Function) → length (filter (λ (f : Function). f.attributed) fs) ≤ length fs
  filter_few [] = omega arith
  filter_few (f ∷ fs) = by f.attributed (filter_few fs)
    where
      by : (b : Bool) → length (filter (λ (f : Function). f.attributed) fs) ≤ length fs → length (cond b (f ∷ filter (λ (f : Function). f.attributed) fs) (filter (λ (f : Function). f.attributed) fs)) ≤ length (f ∷ fs)
      by true rest = omega (arith, rest)
      by false rest = omega (arith, rest)

  functions_few : length (attributed_functions p) ≤ 1000
  functions_few = omega (arith, filter_few p.functions, formed.limits.functions)

  -- ---- pointer switches

  one_pointer : (n k : ℕ) → slice_get p.pointers n ≡ Some k → IsTablePointer p k
  one_pointer n k q =
      let f : IsWellFormedPointer p k = all_at (IsWellFormedPointer p) p.pointers formed.pointers n k q in
      record {
        global = f.global;
        there = f.there;
        named = all_at (λ (g : Global). IsName g.name) p.globals w.globals k f.global f.there;
        scalar = f.scalar;
      }

  facts : HasTableFacts p
  facts = record {
    switches = switches_are;
    apart = w.apart;
    functions = all_by (IsTableFunction p) (attributed_functions p) one_function;
    words = All-weaker (λ (g : Global). 0 < words_of_size g.size) (λ (g : Global). 1 ≤ words_of_size g.size) (λ g h. omega (arith, h)) p.globals globals.words;
    few_switches = formed.limits.switches;
    few_functions = functions_few;
    names = w.names;
    few_targets = formed.limits.functions;
    pointers = all_by (IsTablePointer p) p.pointers one_pointer;
    few_pointers = formed.limits.pointers;
  }

-- ---- texts

pub programs_have_facts : ParametersFit → BodyGrows → GlobalsAreFormed → ProgramsOfTextsAreWellFormed → UnitsOfTextsAreWritten →
    (text : List ℕ) (p : Program) → IsProgram text p → HasTableFacts p
programs_have_facts fit grow globals formed written text p is =
    let k : Foreknown = foreknown is.unit.items in
    let from : ComesFrom is.unit p = comes_from is.unit p (sym (same_judgement is.unit) ∙ is.good) in
    let a : AreWritten from.0 =
    of_good AreWritten (through (item_judgement k) is.unit.items (nothing_declared k))
    (items_written fit grow k is.unit.items (written text is.unit is.reads.reads)) from.0 from.2 in
    facts p (subst IsWritten (sym from.4) (program_written from.0 (pointers_of k) from.1 a)) (formed text p is) (globals is.unit p (sym (same_judgement is.unit) ∙ is.good))
