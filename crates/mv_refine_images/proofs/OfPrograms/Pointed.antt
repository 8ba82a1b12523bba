-- Slots of four words keep the convention at a bound, where the functions do at the next one below.
use Rattle.std.proofs.Common.{◌≡◌, ◌≢◌, ◌⊎◌, inl, inr, ℕ, zero, suc, ◌+◌, ◌-◌, ◌*◌, ◌^◌, ◌<◌, ◌≤◌, Bool, true, false, cond, eqb, ltb, if◌then◌else◌, List, [], ◌∷◌, length, Option, Some, None, refl, sym, ap, subst, ◌∙◌, arith}
use Rattle.std.specs.Prelude.{slice_get, slice_index, slice_index_or, unwrap_or}
use Rattle.std.proofs.lemmas.Bool.{eqb-true, eqb-false, ltb-true, ltb-false}
use Rattle.std.proofs.lemmas.Option.{slice_get_within, get_or_from_slice_get, unwrap_or-slice_get, same_Some}
use Rattle.mv_ast.specs.declared.program.Program.{Program}
use Rattle.mv_bindings.specs.declared.binding.Binding.{Binding}
use Rattle.mv_bindings.specs.Bindings.{bound_to}
use Rattle.mv_bindings.specs.Traps.{null_call, call_too_deep}
use Rattle.mv_ast.specs.Numbering.{place_from}
use Rattle.mv_ast.specs.Switches.{attributed_functions, bound_function, called_number, called_word, word_at}
use Rattle.mv_ast.proofs.Common.{objects_at, place_at, first_has, first_has_not}
use Rattle.mv_isa.specs.declared.instr.Instr.TheVariants.{Lw}
use Rattle.mv_isa.specs.Code.{IsPlace, lower_part}
use Rattle.mv_isa.specs.Execution.{Access, reg}
use Rattle.mv_isa.specs.Registers.{t0, s11}
use Rattle.mv_isa.specs.Standing.{InstrStands, PointStands}
use Rattle.mv_ir.specs.KnownFunctions.{switched_at}
use Rattle.mv_ir.specs.Meaning.{Null, At, goal_at, goal_of, place}
use Rattle.mv_ast.specs.Counts.{words_of_size}
use Rattle.mv_ir.specs.Outcome.{Bound, End, Returned, Trapped, More, Stuck}
use Rattle.mv_ir.specs.Programs.{setting_of}
use Rattle.mv_ir.specs.World.{World}
use Rattle.mv_ir_worlds.specs.Functions.{IsFreeIn, IsBoundIn}
use Rattle.mv_ir_worlds.specs.Laws.{PointersAreFreeOrBound}
use Rattle.mv_source_forms.specs.Names.{global_words, words_of_global}
use Rattle.mv_source_forms.specs.WellFormed.{IsWellFormed, IsWellFormedPointer}
use Rattle.mv_select_code.specs.Control.Placed.{Text}
use Rattle.mv_select_code.specs.Control.Runs.{Machine, outside}
use Rattle.mv_select_code.specs.Statements.StatementCode.{trap_label}
use Rattle.mv_select.specs.Calls.Convention.{Layout, Stands, Comes, Stops, Returns, FollowsCall, FollowsCounted, Convention, PointsKeep, call_at, call_within}
use Rattle.mv_select.specs.Functions.Functions.{IsOpen, RunsWithin, part}
use Rattle.mv_select.proofs.OfFunctions.Alone.{word_in}
use Rattle.mv_select.specs.Slots.Narrowed.{narrowed, has_bindings, words_alone}
use Rattle.mv_select.specs.Slots.Laws as narrow
use Rattle.mv_select.specs.Slots.Points.{CheckStands, CallsBound, Arrives, ArrivalsFollow, Calls, PointsUnder, loading}
use Rattle.mv_refine_machine.specs.Stubs.Stubs.{HasCheck}
use Rattle.mv_refine_images.specs.Programs.Hosts.{IsLoaded}
use Rattle.mv_refine_images.proofs.OfPrograms.Entries.{nothing_open}

-- ---- numbers

-- a number of a list has a first place there
found_from : (i : ℕ) (ns : List ℕ) (v k : ℕ) → slice_get ns k ≡ Some v → (n : ℕ) × (place_from i ns v ≡ Some n)
found_from i [] v k e = absurd (cc)
found_from i (n ∷ ns) v zero e = (i, first_has v i n ns (same_Some n v e))
found_from i (n ∷ ns) v (suc k) e = by (eqb n v) refl (found_from (suc i) ns v k e)
  where
    by : (b : Bool) → eqb n v ≡ b → (m : ℕ) × (place_from (suc i) ns v ≡ Some m) → (m : ℕ) × (place_from i (n ∷ ns) v ≡ Some m)
    by true q later = (i, first_has v i n ns (eqb-true n v q))
    by false q later = (later.0, first_has_not v i n ns (eqb-false n v q) ∙ later.1)

first_place : (i : ℕ) (ns : List ℕ) (v k : ℕ) → slice_get ns k ≡ Some v → (j : ℕ) × (place_from i ns v ≡ Some (i + j)) × (slice_get ns j ≡ Some v)
first_place i ns v k e =
    let found = found_from i ns v k e in
    let at = place_at i ns v found.0 found.1 in
    (at.0, found.1 ∙ ap Some at.1, at.2)

-- code finds it by the same walk
place_is : (ns : List ℕ) (v i : ℕ) → place ns v i ≡ place_from i ns v
place_is [] v i = refl
place_is (n ∷ ns) v i = ap (λ (o : Option ℕ). cond (eqb n v) (Some i) o) (place_is ns v (suc i))

-- and each number that has a place is that of it
placed : (ns : List ℕ) (v f : ℕ) → place ns v 0 ≡ Some f → slice_get ns f ≡ Some v
placed ns v f e =
    let at = place_at 0 ns v f (sym (place_is ns v 0) ∙ e) in
    let same : f ≡ at.0 = (let k = at.1 in omega (arith, k)) in
    ap (slice_get ns) same ∙ at.2

-- ---- bindings

-- a pointer switch that is free has the number in memory
free_number : (numbers : List ℕ) (o : Option Binding) (v : ℕ) → ((b : Binding) → o ≡ Some b → b.bound ≡ false) → called_number numbers (bound_function o) v ≡ v
free_number numbers None v free = refl
free_number numbers (Some b) v free = ap (λ z. called_number numbers (if z then Some (slice_index b.values 0 - 1) else None) v) (free b refl)

-- one that is bound that of its function
bound_number : (numbers : List ℕ) (o : Option Binding) (v f : ℕ) → o ≡ Some (bound_to (suc f ∷ [])) → called_number numbers (bound_function o) v ≡ slice_index numbers f
bound_number numbers o v f e =
    let one : suc f - 1 ≡ f = omega arith in
    ap (λ (x : Option Binding). called_number numbers (bound_function x) v) e ∙ ap (slice_index numbers) one

-- a pointer switch has one word
pub one_word : (p : Program) → IsWellFormed p → (q x : ℕ) → slice_get p.pointers q ≡ Some x → global_words p x ≡ 1
one_word p formed q x there =
    let own : IsWellFormedPointer p x = subst (IsWellFormedPointer p) (get_or_from_slice_get p.pointers q x x there) (formed.pointers q x (slice_get_within p.pointers q x there)) in
    ap words_of_global own.there ∙ ap words_of_size own.scalar

-- ---- what follows

module _ {M : Type 0} (access : Access M) (y : Layout) (machine : Machine M) (budget far : ℕ) where
  -- so many functions keep the convention at the next bound below
  abbrev pub NextKeeps : (count : ℕ) → Bound → Type 0
  NextKeeps count [] = Unit {0}
  NextKeeps count (calls ∷ below) = Convention access y machine budget far count calls (length below)

  -- what follows at a bound follows at one above
  above : (spare k i back : ℕ) (e : End) → FollowsCall access y machine budget far spare k i back e → FollowsCall access y machine budget far spare (suc k) i back e
  above spare k i back (Returned None w) h = (h.0, returns h.0 h.1)
    where
      returns : (j : ℕ) → Returns access y machine budget far spare k i back w j → Returns access y machine budget far spare (suc k) i back w j
      returns j r = let asked = r.asked in record { stands = r.stands; kept = r.kept; paid = r.paid; asked = omega (arith, asked) }
  above spare k i back (Returned (Some v) w) h = (h.0, returns h.0 h.1, h.2)
    where
      returns : (j : ℕ) → Returns access y machine budget far spare k i back w j → Returns access y machine budget far spare (suc k) i back w j
      returns j r = let asked = r.asked in record { stands = r.stands; kept = r.kept; paid = r.paid; asked = omega (arith, asked) }
  above spare k i back (Trapped c w) h = h
  above spare k i back (More w) h = h
  above spare k i back Stuck h = tt

  -- the pointer of a slot at time i was tested: null is a trap, and else its target is called
  abbrev pub Tested : (number back : ℕ) → World → ℕ → Type 0
  Tested v back w i = (v ≡ 0 → i + 8 ≤ budget → (j : ℕ) × Stops access y machine budget far null_call w j) × (v ≢ 0 → Calls access y machine budget far v back w i)

  module _ (arrivals : ArrivalsFollow M) (numbers : List ℕ) (entries : (f : ℕ) → f < length numbers → (slice_index numbers f ≡ y.entry f) × IsPlace (y.entry f))
      (bound : Bound) (next : NextKeeps (length numbers) bound) (depth frames : ℕ) (args : List ℕ) (few : length args < 9) (at i : ℕ) (here : IsPlace at)
      (spare : ℕ) (w : World) (stands : Stands access y machine budget far at w i) (comes : Comes access y machine budget far depth frames args i) (asked : far ≤ i + length bound) where
    abbrev FC : End → Type 0
    FC = FollowsCounted access y machine budget far spare (length bound) i (at + 16)

    follows_arrival : (bound : Bound) → NextKeeps (length numbers) bound → (f : ℕ) (j : ℕ) → far ≤ i + length bound → Arrives access y machine budget far (y.entry f) (at + 16) w i j →
        i + (spare + 55 + (call_within bound f args depth frames w).cost) ≤ budget → FollowsCounted access y machine budget far spare (length bound) i (at + 16) (call_within bound f args depth frames w).end
    follows_arrival [] next f j asked a paid = (i, record { calm = stands.calm; sound = stands.sound; paid = omega (arith, paid); asked = omega (arith, asked) })
    follows_arrival (calls ∷ below) next f j asked a paid =
        let late = a.late in
        let soon = a.soon in
        let follows = arrivals access y machine budget far (y.entry f) (at + 16) w i j a in
        let e = (calls f args depth frames w).end in
        follows.1 spare (suc (length below)) e (above spare (length below) j (at + 16) e
        (next.functions f depth frames args (at + 16) j few (let end = here.1 in (omega (arith, end), (let even = here.2 in omega (arith, even)))) a.link spare w a.stands (follows.0 depth frames args few comes)
        (omega (arith, paid, soon)) (omega (arith, asked, late))))

    follows_call : (f : ℕ) → Calls access y machine budget far (y.entry f) (at + 16) w i → IsPlace (y.entry f) → i + (spare + 55 + (call_at (At f) bound args depth frames w).cost) ≤ budget →
        FC (call_at (At f) bound args depth frames w).end
    follows_call f calls entry paid = by (ltb depth 512) refl paid
      where
        by : (b : Bool) → ltb depth 512 ≡ b → i + (spare + 55 + (cond b (call_within bound f args depth frames w) (record { cost = 0; end = Trapped call_too_deep w })).cost) ≤ budget →
            FC (cond b (call_within bound f args depth frames w) (record { cost = 0; end = Trapped call_too_deep w })).end
        by true e paid =
            let left = comes.left in
            let few = ltb-true depth 512 e in
            let came = calls.1 (λ (none : reg (machine.run i).regs s11 ≡ 0). omega (arith, left, few, none)) entry in
            follows_arrival bound next f came.0 asked came.1 paid
        by false e paid =
            let left = comes.left in
            let many = ltb-false depth 512 e in
            calls.0 (omega (arith, left, many)) (omega (arith, paid))

    pub follows_goal : (v : ℕ) → Tested v (at + 16) w i → i + (spare + 55 + (call_at (goal_of numbers v) bound args depth frames w).cost) ≤ budget → FC (call_at (goal_of numbers v) bound args depth frames w).end
    follows_goal v tested paid = by (eqb v 0) (place numbers v 0) refl refl paid
      where
        by : (z : Bool) (o : Option ℕ) → eqb v 0 ≡ z → place numbers v 0 ≡ o → i + (spare + 55 + (call_at (cond z Null (goal_at o)) bound args depth frames w).cost) ≤ budget →
            FC (call_at (cond z Null (goal_at o)) bound args depth frames w).end
        by true o ez eo paid = tested.0 (eqb-true v 0 ez) (omega (arith, paid))
        by false None ez eo paid = tt
        by false (Some f) ez eo paid =
            let there = placed numbers v f eo in
            let entry = entries f (slice_get_within numbers f v there) in
            let is : v ≡ y.entry f = sym (get_or_from_slice_get numbers f v 0 there) ∙ entry.0 in
            follows_call f (subst (λ x. Calls access y machine budget far x (at + 16) w i) is (tested.1 (eqb-false v 0 ez))) entry.1 paid

-- ---- slots of four words

module _ {M : Type 0} (access : Access M) (y : Layout) (machine : Machine M) (words : List Binding → ℕ → Option ℕ) (closed : (pc address : ℕ) → Bool) (budget far : ℕ) (p : Program) (numbers : List ℕ)
    (loaded : IsLoaded access y machine words closed budget far p numbers) (points : PointsUnder M) (arrivals : ArrivalsFollow M) (told : narrow.BindingsAreTold) (free_or_bound : PointersAreFreeOrBound) where
  open loaded use {host, check, pointed}

  has_word : (q x : ℕ) → slice_get p.pointers q ≡ Some x → 0 < y.size x
  has_word q x there = let size = host.sizes x in let one = one_word p loaded.formed q x there in omega (arith, size, one)

  module _ (g at : ℕ) (some : 0 < y.size g) (point : machine.text.point at ≡ Some (y.place g)) where
    -- it is the one at this place
    pointer : (q : ℕ) × (slice_get p.pointers q ≡ Some g)
    pointer =
        let found = (host.points at (y.place g) point).1 in
        let same = host.laid.apart found.1 0 g 0 (has_word found.0 found.1 found.2) some (let e = found.3 in omega (arith, e)) in
        (found.0, found.2 ∙ ap Some same.0)

    abbrev here : IsPlace at
    here = (host.points at (y.place g) point).0

    first : (j : ℕ) × (place_from (length (attributed_functions p)) p.pointers g ≡ Some (length (attributed_functions p) + j)) × (slice_get p.pointers j ≡ Some g)
    first = first_place (length (attributed_functions p)) p.pointers g pointer.0 pointer.1

    abbrev q : ℕ
    q = first.0

    abbrev n : ℕ
    n = length (attributed_functions p) + q

    module _ (w : World) (i : ℕ) (stands : Stands access y machine budget far at w i) where
      abbrev bs : List Binding
      bs = w.bindings

      number_is : (setting_of numbers p).switched g w ≡ called_word numbers bs w.globals n g
      number_is = ap (λ (o : Option ℕ). switched_at numbers o g w) first.1

      abbrev shown : Text
      shown = part at (at + 16) (words_alone (words bs))

      abbrev stub : Text
      stub = part check (check + 24) machine.text

      has_check : (place : ℕ → ℕ) × ((c : ℕ) → place (trap_label c) ≡ y.trap c) × HasCheck machine.text place check
      has_check = let s = pointed.stub (let lt = slice_get_within p.pointers q g first.2 in omega (arith, lt)) in (s.0, s.1.traps, s.2)

      stub_stands : CheckStands stub.word check (y.trap null_call) (y.trap call_too_deep)
      stub_stands =
          let traps = has_check.1 in
          let s = has_check.2.stands in
          subst (λ null. CheckStands stub.word check null (y.trap call_too_deep)) (traps null_call) (subst (λ deep. CheckStands stub.word check (has_check.0 (trap_label null_call)) deep) (traps call_too_deep) (record {
            null_test = word_in machine.text check (check + 24) check (omega arith) (omega arith) s.null_test;
            null_trap = word_in machine.text check (check + 24) (check + 4) (omega arith) (omega arith) s.null_trap;
            depth_test = word_in machine.text check (check + 24) (check + 8) (omega arith) (omega arith) s.depth_test;
            depth_trap = word_in machine.text check (check + 24) (check + 12) (omega arith) (omega arith) s.depth_trap;
            count = word_in machine.text check (check + 24) (check + 16) (omega arith) (omega arith) s.count;
            back = word_in machine.text check (check + 24) (check + 20) (omega arith) (omega arith) s.back;
          }))

      at_slot : ((load : Text) (pointer v : ℕ) → RunsWithin access y (narrowed machine (has_bindings bs) load) (loading pointer) → PointStands shown.word at (at + 16) check pointer →
          InstrStands load.word (at + 4) (Lw t0 t0 (lower_part pointer)) → pointer < 2 ^ 32 → access.load (machine.run i).memory pointer 4 ≡ Some v → v < 2 ^ 32 → Tested access y machine budget far v (at + 16) w i)
          × ((target : ℕ) → CallsBound shown.word at check target → Calls access y machine budget far target (at + 16) w i)
      at_slot =
          points access y host.laid machine budget far (λ w. true) stub (host.runs check (check + 24) narrow.nothing (λ pc a word le lt there loads. absurd cc)) (has_bindings bs) shown
          (host.runs_under bs at (at + 16) narrow.nothing (nothing_open closed at (at + 16))) check at stub_stands has_check.2.here has_check.2.last
          (subst IsPlace (has_check.1 null_call) has_check.2.null) (subst IsPlace (has_check.1 call_too_deep) has_check.2.deep) here w i refl ((told bs bs).1 refl) stands

      -- while it is free the word in memory is tested
      free_tested : IsFreeIn bs n → Tested access y machine budget far ((setting_of numbers p).switched g w) (at + 16) w i
      free_tested free =
          let s = pointed.free bs q g at first.2 point free in
          let load = part (at + 4) (at + 5) (words_alone (words bs)) in
          let zero : y.place g + 4 * 0 ≡ y.place g = omega arith in
          let same : slice_index (slice_index_or w.globals g []) 0 ≡ (setting_of numbers p).switched g w = sym (number_is ∙ free_number numbers (slice_get bs n) (word_at w.globals g 0) free ∙ word_is) in
          subst (λ v. Tested access y machine budget far v (at + 16) w i) same
          (at_slot.0 load (y.place g) (slice_index (slice_index_or w.globals g []) 0) (host.runs_under bs (at + 4) (at + 5) (loading (y.place g)) open_there)
          (record {
            upper = word_in (words_alone (words bs)) at (at + 16) at (omega arith) (omega arith) s.upper;
            load = word_in (words_alone (words bs)) at (at + 16) (at + 4) (omega arith) (omega arith) s.load;
            test = word_in (words_alone (words bs)) at (at + 16) (at + 8) (omega arith) (omega arith) s.test;
            call = word_in (words_alone (words bs)) at (at + 16) (at + 12) (omega arith) (omega arith) s.call;
            end_is = refl;
          })
          (word_in (words_alone (words bs)) (at + 4) (at + 5) (at + 4) (omega arith) (omega arith) s.load)
          (let less = host.laid.addresses g 0 some in omega (arith, less)) (subst (λ a. access.load (machine.run i).memory a 4 ≡ Some (slice_index (slice_index_or w.globals g []) 0)) zero (stands.globals.loads g 0 some))
          (stands.globals.words g 0 some))
        where
          word_is : word_at w.globals g 0 ≡ slice_index (slice_index_or w.globals g []) 0
          word_is = ap (λ (ws : List ℕ). unwrap_or (slice_get ws 0) 0) (objects_at w.globals g) ∙ unwrap_or-slice_get (slice_index_or w.globals g []) 0 0

          open_there : IsOpen closed (at + 4) (at + 5) (loading (y.place g))
          open_there pc a le lt loads =
              let pc_is : at + 4 ≡ pc = omega (arith, le, lt) in
              let a_is : y.place g ≡ a = eqb-true (y.place g) a loads in
              subst (λ z. closed z a ≡ false) pc_is (subst (λ z. closed (at + 4) z ≡ false) a_is (pointed.open_there q g at first.2 point))

      -- while it is bound the function that it is bound to is called
      bound_tested : (f : ℕ) → IsBoundIn bs n (suc f ∷ []) → f < length numbers → Tested access y machine budget far ((setting_of numbers p).switched g w) (at + 16) w i
      bound_tested f bound within =
          let s = pointed.bound bs q g f at first.2 point within bound in
          let entry = host.entries f within in
          let same : y.entry f ≡ (setting_of numbers p).switched g w = sym (number_is ∙ bound_number numbers (slice_get bs n) (word_at w.globals g 0) f bound ∙ entry.0) in
          let calls = at_slot.1 (y.entry f) (record {
            test = word_in (words_alone (words bs)) at (at + 16) at (omega arith) (omega arith) s.test;
            first_pad = word_in (words_alone (words bs)) at (at + 16) (at + 4) (omega arith) (omega arith) s.first_pad;
            second_pad = word_in (words_alone (words bs)) at (at + 16) (at + 8) (omega arith) (omega arith) s.second_pad;
            call = word_in (words_alone (words bs)) at (at + 16) (at + 12) (omega arith) (omega arith) s.call;
          }) in
          let begin = entry.1.0 in
          subst (λ v. Tested access y machine budget far v (at + 16) w i) same
          ((λ none. absurd (omega (arith, none, begin))), (λ more. calls))

      tested : Tested access y machine budget far ((setting_of numbers p).switched g w) (at + 16) w i
      tested = by (free_or_bound p bs q g (host.fit (outside w) (machine.run i).memory stands.calm).bindings first.2)
        where
          by : IsFreeIn bs n ⊎ ((f : ℕ) × IsBoundIn bs n (suc f ∷ []) × (f < length p.functions)) → Tested access y machine budget far ((setting_of numbers p).switched g w) (at + 16) w i
          by (inl free) = free_tested free
          by (inr b) = let count = host.count in let lt = b.2 in bound_tested b.0 b.1 (omega (arith, lt, count))

  -- slots of four words keep the convention
  pub points_keep : (bound : Bound) → NextKeeps access y machine budget far (length numbers) bound → PointsKeep access y machine budget far (setting_of numbers p) bound
  points_keep bound next g depth frames args at i some few point spare w stands comes paid asked =
      follows_goal access y machine budget far arrivals numbers host.entries bound next depth frames args few at i (here g at some point) spare w stands comes asked ((setting_of numbers p).switched g w)
      (tested g at some point w i stands) paid
