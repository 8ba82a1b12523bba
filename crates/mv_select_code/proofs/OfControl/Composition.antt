-- How stretches of code compose: by cases on the outcome, over any meanings.
use Rattle.std.proofs.Common.{◌≡◌, ℕ, zero, suc, ◌+◌, ◌<◌, ◌≤◌, ◌&&◌, Bool, true, false, cond, eqb, ltb, List, [], ◌∷◌, length, Some, None, inl, inr, ⊎_elim, refl, sym, ap, subst, arith, eq-eqb}
use Rattle.std.proofs.lemmas.Bool.{cases_lt, lt-ltb, le-ltb, eqb-true}
use Rattle.mv_isa.specs.Execution.{Access}
use Rattle.mv_ir.specs.Outcome.{State, End, Returned, Trapped, More, Stuck, Outcome, Next, Leaves, Restarts, Ends, Run, Bound, Meaning, now, goes_on, then_do, block_end, block, turn_end, turn, loop}
use Rattle.mv_select_code.specs.Statements.Frames.{Site}
use Rattle.mv_select_code.specs.declared.control.enclosing.Enclosing.{Enclosing}
use Rattle.mv_select_code.specs.declared.control.enclosing.Way.{Way}
use Rattle.mv_select_code.specs.Control.FlowCode.{enclosing_at, fall_to, jump_to, jumps, loop_at, block_at}
use Rattle.mv_select_code.specs.Control.Runs.{Machine}
use Rattle.mv_select_code.specs.Control.Flow.{IsWithin, IsCut}
use Rattle.mv_select_code.proofs.OfControl.Course.{course}

-- a bound within one that is within another
pub within_within : (a b c : Bound) → IsWithin a b → IsWithin b c → IsWithin a c
within_within a b [] h e = subst (IsWithin a) e h
within_within a b (calls ∷ below) h k =
    ⊎_elim (λ (e : b ≡ calls ∷ below). subst (IsWithin a) e h) (λ (w : IsWithin b below). inr (within_within a b below h w)) k

-- How many instructions are certain where code goes to a label: none where it falls there, and else the jump. That is said of labels below a bar, which
-- the code doesn't take itself.
abbrev pub least : (bar : ℕ) → Way → ℕ → ℕ
least bar way l = cond (way.falls && eqb way.after l) 0 (cond (ltb l bar) 1 0)

pub least_one : (bar : ℕ) (way : Way) (l : ℕ) → least bar way l ≤ 1
least_one bar way l = one (way.falls && eqb way.after l) (ltb l bar)
  where
    one : (b c : Bool) → cond b 0 (cond c 1 0) ≤ 1
    one true c = omega arith
    one false true = omega arith
    one false false = omega arith

pub one_at_most : (b : Bool) → cond b 0 1 ≤ 1
one_at_most true = omega arith
one_at_most false = omega arith

pub least_go : (bar : ℕ) (way : Way) (l : ℕ) → least bar way l ≤ cond (way.falls && eqb way.after l) 0 1
least_go bar way l = go (way.falls && eqb way.after l) (ltb l bar)
  where
    go : (b c : Bool) → cond b 0 (cond c 1 0) ≤ cond b 0 1
    go true c = omega arith
    go false true = omega arith
    go false false = omega arith

-- a jump is no fewer, also where the bar is higher
pub least_jump : (bar bar' after l : ℕ) (way : Way) → bar ≤ bar' → least bar way l ≤ least bar' (jump_to after) l
least_jump bar bar' after l way le =
    ⊎_elim (λ (lt : l < bar). subst (λ c. least bar way l ≤ cond c 1 0) (sym (lt-ltb l bar' (omega (arith, lt, le)))) (least_one bar way l))
    (λ (ge : bar ≤ l). none (way.falls && eqb way.after l) (ltb l bar) (le-ltb l bar ge)) (cases_lt l bar)
  where
    none : (b c : Bool) → c ≡ false → cond b 0 (cond c 1 0) ≤ cond (ltb l bar') 1 0
    none true c e = omega arith
    none false true e = absurd cc
    none false false e = omega arith

-- nor are those to another label than one that is fallen to
pub least_fall : (bar label l : ℕ) (way : Way) → bar ≤ label → least bar way l ≤ least bar (fall_to label) l
least_fall bar label l way le = by (eqb label l) refl
  where
    less : (b : Bool) (n : ℕ) → cond b 0 n ≤ n
    less true n = omega arith
    less false n = omega arith

    none : (b c : Bool) → c ≡ false → cond b 0 (cond c 1 0) ≤ 0
    none true c e = omega arith
    none false true e = absurd cc
    none false false e = omega arith

    by : (d : Bool) → eqb label l ≡ d → least bar way l ≤ cond d 0 (cond (ltb l bar) 1 0)
    by true e = none (way.falls && eqb way.after l) (ltb l bar) (le-ltb l bar (omega (arith, le, eqb-true label l e)))
    by false e = less (way.falls && eqb way.after l) (cond (ltb l bar) 1 0)

-- going on is no more than its jump
pub least_on : (bar after : ℕ) (falls : Bool) → least bar (record { after = after; falls = falls }) after ≤ cond falls 0 1
least_on bar after true = at_once (eqb after after) (cond (ltb after bar) 1 0) (eq-eqb after after refl)
  where
    at_once : (b : Bool) (n : ℕ) → b ≡ true → cond b 0 n ≤ 0
    at_once true n e = omega arith
    at_once false n e = absurd cc
least_on bar after false = least_one bar (jump_to after) after

pub least_again : (label : ℕ) → least (label + 1) (jump_to label) label ≡ 1
least_again label = ap (λ b. cond b 1 0) (lt-ltb label (label + 1) (omega arith))

module _ {M : Type 0} (access : Access M) (s : Site) (machine : Machine M) (place : ℕ → ℕ) (end budget far : ℕ) where
  open course access s machine place end budget far use {Here as H, FollowsEnd as FE, Follows as F}

  -- what isn't needed is let go
  pub rest : (over spare k over' spare' k' pc : ℕ) (l : State) (i : ℕ) → over' + k ≤ over + k' → spare' ≤ spare → H over spare k pc l i → H over' spare' k' pc l i
  rest over spare k over' spare' k' pc l i le le' h =
      let paid = h.paid in let asked = h.asked in
      record { at = h.at; calm = h.calm; shows = h.shows; sound = h.sound; paid = omega (arith, paid, le'); asked = omega (arith, asked, le) }

  -- a place under another name
  pub at_place : (over spare k pc pc' : ℕ) (l : State) (i : ℕ) → pc ≡ pc' → H over spare k pc l i → H over spare k pc' l i
  at_place over spare k pc pc' l i e h = subst (λ z. H over spare k z l i) e h

  fewer_end : (spare spare' k k' : ℕ) (x : End) → spare' ≤ spare → k ≤ k' → FE spare k x → FE spare' k' x
  fewer_end spare spare' k k' (Returned None w) le up f = f
  fewer_end spare spare' k k' (Returned (Some v) w) le up f = (f.0, f.1, f.2, rest 0 spare k 0 spare' k' (place end) f.1 f.0 (omega (arith, up)) le f.3, f.4)
  fewer_end spare spare' k k' (Trapped c w) le up f = f
  fewer_end spare spare' k k' (More w) le up f = f
  fewer_end spare spare' k k' Stuck le up f = f

  -- less of what is paid for, or a greater bound
  pub fewer : (spare spare' k k' : ℕ) (around : List Enclosing) (next : ℕ) (r : Outcome) → spare' ≤ spare → k ≤ k' → F spare k around next r → F spare' k' around next r
  fewer spare spare' k k' around next (Next l) le up f = (f.0, rest 0 spare k 0 spare' k' _ l f.0 (omega (arith, up)) le f.1)
  fewer spare spare' k k' around next (Leaves n l) le up f = (f.0, rest 0 spare k 0 spare' k' _ l f.0 (omega (arith, up)) le f.1)
  fewer spare spare' k k' around next (Restarts n l) le up f = (f.0, rest 1 spare k 1 spare' k' _ l f.0 (omega (arith, up)) le f.1)
  fewer spare spare' k k' around next (Ends x) le up f = fewer_end spare spare' k k' x le up f

  -- ---- where code arrives by where control goes behind it

  -- what follows, with the instructions that are certain
  abbrev pub Arrives : (bar spare k : ℕ) → List Enclosing → Way → Outcome → Type 0
  Arrives bar spare k around way (Next l) = (j : ℕ) × H (least bar way way.after) spare k (place way.after) l j
  Arrives bar spare k around way (Leaves n l) = (j : ℕ) × H (least bar way (enclosing_at around n end).end) spare k (place (enclosing_at around n end).end) l j
  Arrives bar spare k around way (Restarts n l) = (j : ℕ) × H 1 spare k (place (enclosing_at around n end).start) l j
  Arrives bar spare k around way (Ends x) = FE spare k x

  abbrev pub Gets : (bar spare k : ℕ) → List Enclosing → Way → (pc : ℕ) → (State → Run) → Type 0
  Gets bar spare k around way pc m = (l : State) (i : ℕ) → H 0 (spare + (jumps way + (m l).cost)) k pc l i → Arrives bar spare k around way (m l).outcome

  -- fewer instructions, or less of what is paid for, or a greater bound
  pub less : (bar bar' spare spare' k k' : ℕ) (around : List Enclosing) (way way' : Way) (r : Outcome) → way.after ≡ way'.after → ((l : ℕ) → least bar' way' l ≤ least bar way l) → spare' ≤ spare → k ≤ k'
      → Arrives bar spare k around way r → Arrives bar' spare' k' around way' r
  less bar bar' spare spare' k k' around way way' (Next l) same fewer le up f =
      let most = fewer way'.after in
      let equal = ap (least bar way) same in (
        f.0,
        at_place (least bar' way' way'.after) spare' k' (place way.after) (place way'.after) l f.0 (ap place same)
            (rest (least bar way way.after) spare k (least bar' way' way'.after) spare' k' (place way.after) l f.0 (sum (least bar way way.after) (least bar way way'.after) (least bar' way' way'.after) equal most up) le f.1),
      )
    where
      sum : (a b c : ℕ) → a ≡ b → c ≤ b → k ≤ k' → c + k ≤ a + k'
      sum a b c e le up = omega (arith, e, le, up)
  less bar bar' spare spare' k k' around way way' (Leaves n l) same fewer le up f =
      let to = (enclosing_at around n end).end in
      (f.0, rest (least bar way to) spare k (least bar' way' to) spare' k' (place to) l f.0 (sum (least bar way to) (least bar' way' to) (fewer to) up) le f.1)
    where
      sum : (a c : ℕ) → c ≤ a → k ≤ k' → c + k ≤ a + k'
      sum a c le up = omega (arith, le, up)
  less bar bar' spare spare' k k' around way way' (Restarts n l) same fewer le up f = (f.0, rest 1 spare k 1 spare' k' (place (enclosing_at around n end).start) l f.0 (omega (arith, up)) le f.1)
  less bar bar' spare spare' k k' around way way' (Ends x) same fewer le up f = fewer_end spare spare' k k' x le up f

  -- without them
  pub arrived : (bar spare k : ℕ) (around : List Enclosing) (way : Way) (r : Outcome) → Arrives bar spare k around way r → F spare k around (place way.after) r
  arrived bar spare k around way (Next l) f = (f.0, rest (least bar way way.after) spare k 0 spare k (place way.after) l f.0 (omega arith) (omega arith) f.1)
  arrived bar spare k around way (Leaves n l) f =
      let to = (enclosing_at around n end).end in (f.0, rest (least bar way to) spare k 0 spare k (place to) l f.0 (omega arith) (omega arith) f.1)
  arrived bar spare k around way (Restarts n l) f = f
  arrived bar spare k around way (Ends x) f = f

  -- ---- one stretch after another

  -- behind a label of the first one's own
  both_arrive : (bar label spare k : ℕ) (around : List Enclosing) (way : Way) (mid : ℕ) (r : Outcome) (m : State → Run) → bar ≤ label → place label ≡ mid
      → Arrives bar (spare + (jumps way + (goes_on r m).cost)) k around (fall_to label) r → Gets bar spare k around way mid m → Arrives bar spare k around way (goes_on r m).outcome
  both_arrive bar label spare k around way mid (Next l) m le here f does =
      let more = spare + (jumps way + (m l).cost) in
      does l f.0 (at_place 0 more k (place label) mid l f.0 here (rest (least bar (fall_to label) label) more k 0 more k (place label) l f.0 (omega arith) (omega arith) f.1))
  both_arrive bar label spare k around way mid (Leaves n l) m le here f does =
      let to = (enclosing_at around n end).end in
      (f.0, rest (least bar (fall_to label) to) (spare + (jumps way + 0)) k (least bar way to) spare k (place to) l f.0 (sum (least bar (fall_to label) to) (least bar way to) (least_fall bar label to way le)) (omega arith) f.1)
    where
      sum : (a c : ℕ) → c ≤ a → c + k ≤ a + k
      sum a c le = omega (arith, le)
  both_arrive bar label spare k around way mid (Restarts n l) m le here f does =
      (f.0, rest 1 (spare + (jumps way + 0)) k 1 spare k (place (enclosing_at around n end).start) l f.0 (omega arith) (omega arith) f.1)
  both_arrive bar label spare k around way mid (Ends x) m le here f does = fewer_end (spare + (jumps way + 0)) spare k k x (omega arith) (omega arith) f

  pub both_get : (bar label spare k : ℕ) (around : List Enclosing) (way : Way) (pc mid : ℕ) (m m' : State → Run) → bar ≤ label → place label ≡ mid → ((spare : ℕ) → Gets bar spare k around (fall_to label) pc m)
      → Gets bar spare k around way mid m' → Gets bar spare k around way pc (λ l. then_do (m l) m')
  both_get bar label spare k around way pc mid m m' le here a b l i h =
      let c = (goes_on (m l).outcome m').cost in
      both_arrive bar label spare k around way mid (m l).outcome m' le here
      (a (spare + (jumps way + c)) l i (rest 0 (spare + (jumps way + ((m l).cost + c))) k 0 (spare + (jumps way + c) + (0 + (m l).cost)) k pc l i (omega arith) (omega arith) h)) b

  -- a last one
  last_arrives : (bar spare k : ℕ) (around : List Enclosing) (way : Way) (r : Outcome) → Arrives bar spare k around way r → Arrives bar spare k around way (goes_on r (λ l. now (Next l))).outcome
  last_arrives bar spare k around way (Next l) f = f
  last_arrives bar spare k around way (Leaves n l) f = f
  last_arrives bar spare k around way (Restarts n l) f = f
  last_arrives bar spare k around way (Ends x) f = f

  pub last_gets : (bar spare k : ℕ) (around : List Enclosing) (way : Way) (pc : ℕ) (m : State → Run) → Gets bar spare k around way pc m → Gets bar spare k around way pc (λ l. then_do (m l) (λ l. now (Next l)))
  last_gets bar spare k around way pc m a l i h =
      let c = (goes_on (m l).outcome (λ l. now (Next l))).cost in
      last_arrives bar spare k around way (m l).outcome (a l i (rest 0 (spare + (jumps way + ((m l).cost + c))) k 0 (spare + (jumps way + (m l).cost)) k pc l i (omega arith) (omega arith) h))

  -- ---- blocks

  block_arrives : (bar spare k : ℕ) (around : List Enclosing) (way : Way) (r : Outcome) → Arrives bar spare k (block_at way ∷ around) way r → Arrives bar spare k around way (block_end r)
  block_arrives bar spare k around way (Next l) f = f
  block_arrives bar spare k around way (Leaves zero l) f = f
  block_arrives bar spare k around way (Leaves (suc n) l) f = f
  block_arrives bar spare k around way (Restarts zero l) f = tt
  block_arrives bar spare k around way (Restarts (suc n) l) f = f
  block_arrives bar spare k around way (Ends x) f = f

  pub block_gets : (bar spare k : ℕ) (around : List Enclosing) (way : Way) (pc : ℕ) (bound : Bound) (m : Meaning) → Gets bar spare k (block_at way ∷ around) way pc (m bound)
      → Gets bar spare k around way pc (block m bound)
  block_gets bar spare k around way pc bound m does l i h = block_arrives bar spare k around way (m bound l).outcome (does l i h)

  -- ---- loops

  -- what is asked of the next turns of a loop, from where turns start, with so many instructions more than are asked for
  abbrev pub Again : (bar over spare k : ℕ) → List Enclosing → Way → (pc : ℕ) → (State → Run) → Type 0
  Again bar over spare k around way pc again = (l : State) (j : ℕ) → H over (spare + (jumps way + (again l).cost)) k pc l j → Arrives bar spare k around way (again l).outcome

  -- what follows a turn of a loop, which goes on to where turns start
  pub turn_arrives : (bar bar' over spare k : ℕ) (around : List Enclosing) (way next : Way) (pc : ℕ) (r : Outcome) (again : State → Run) → ((l : ℕ) → least bar way l ≤ least bar' next l)
      → over ≤ least bar' next next.after → place next.after ≡ pc → Arrives bar' (spare + (jumps way + (turn_end r again).cost)) k (loop_at next.after way ∷ around) next r → Again bar over spare k around way pc again
      → Arrives bar spare k around way (turn_end r again).outcome
  turn_arrives bar bar' over spare k around way next pc (Next l) again fewer certain start f g =
      let more = spare + (jumps way + (again l).cost) in
      g l f.0 (at_place over more k (place next.after) pc l f.0 start (rest (least bar' next next.after) more k over more k (place next.after) l f.0 (sum (least bar' next next.after) over certain) (omega arith) f.1))
    where
      sum : (a c : ℕ) → c ≤ a → c + k ≤ a + k
      sum a c le = omega (arith, le)
  turn_arrives bar bar' over spare k around way next pc (Leaves zero l) again fewer certain start f g = (
    f.0,
    rest (least bar' next way.after) (spare + (jumps way + 0)) k (least bar way way.after) spare k (place way.after) l f.0 (sum (least bar' next way.after) (least bar way way.after) (fewer way.after)) (omega arith) f.1,
  )
    where
      sum : (a c : ℕ) → c ≤ a → c + k ≤ a + k
      sum a c le = omega (arith, le)
  turn_arrives bar bar' over spare k around way next pc (Leaves (suc n) l) again fewer certain start f g =
      let to = (enclosing_at around n end).end in
      (f.0, rest (least bar' next to) (spare + (jumps way + 0)) k (least bar way to) spare k (place to) l f.0 (sum (least bar' next to) (least bar way to) (fewer to)) (omega arith) f.1)
    where
      sum : (a c : ℕ) → c ≤ a → c + k ≤ a + k
      sum a c le = omega (arith, le)
  turn_arrives bar bar' over spare k around way next pc (Restarts zero l) again fewer certain start f g =
      let more = spare + (jumps way + (again l).cost) in
      g l f.0 (at_place over more k (place next.after) pc l f.0 start (rest 1 more k over more k (place next.after) l f.0 (sum (least bar' next next.after) certain (least_one bar' next next.after)) (omega arith) f.1))
    where
      sum : (a : ℕ) → over ≤ a → a ≤ 1 → over + k ≤ 1 + k
      sum a le le' = omega (arith, le, le')
  turn_arrives bar bar' over spare k around way next pc (Restarts (suc n) l) again fewer certain start f g =
      (f.0, rest 1 (spare + (jumps way + 0)) k 1 spare k (place (enclosing_at around n end).start) l f.0 (omega arith) (omega arith) f.1)
  turn_arrives bar bar' over spare k around way next pc (Ends x) again fewer certain start f g = fewer_end (spare + (jumps way + 0)) spare k k x (omega arith) (omega arith) f

  -- one turn of a loop, which goes back to its start by a jump, and its other turns
  turn_gets : (bar label spare k : ℕ) (around : List Enclosing) (way : Way) (pc : ℕ) (m again : State → Run) → bar ≤ label → place label ≡ pc
      → ((spare : ℕ) → Gets (label + 1) spare k (loop_at label way ∷ around) (jump_to label) pc m) → Again bar 1 spare k around way pc again
      → Gets bar spare k around way pc (λ l. turn (m l) again)
  turn_gets bar label spare k around way pc m again le start a g l i h =
      let t = jumps way + (turn_end (m l).outcome again).cost in
      turn_arrives bar (label + 1) 1 spare k around way (jump_to label) pc (m l).outcome again (λ n. least_jump bar (label + 1) label n way (omega (arith, le))) (omega (arith, least_again label)) start
      (a (spare + t) l i (rest 0 (spare + (jumps way + (8 + ((m l).cost + (turn_end (m l).outcome again).cost)))) k 0 (spare + t + (1 + (m l).cost)) k pc l i (omega arith) (omega arith) h)) g

  -- where the bound is used up
  pub cut : (over spare pc : ℕ) (l : State) (i : ℕ) → H over spare 0 pc l i → IsCut access s machine place end budget far l.world i
  cut over spare pc l i h =
      let paid = h.paid in let asked = h.asked in
      record { calm = h.calm; sound = h.sound; paid = omega (arith, paid); asked = omega (arith, asked) }

  -- a loop, by recursion on the bound: each turn may use what its body does at every bound below
  pub loop_gets : (bar label spare : ℕ) (around : List Enclosing) (way : Way) (pc : ℕ) (m : Meaning) (bound : Bound) → bar ≤ label → place label ≡ pc
      → ((spare : ℕ) (b : Bound) → IsWithin b bound → Gets (label + 1) spare (length b) (loop_at label way ∷ around) (jump_to label) pc (m b))
      → Gets bar spare (length bound) around way pc (loop m bound)
  loop_gets bar label spare around way pc m [] le start does =
      turn_gets bar label spare 0 around way pc (m []) (λ l. now (Ends (More l.world))) le start (λ spare. does spare [] refl) (λ l j h. (j, cut 1 (spare + (jumps way + 0)) pc l j h))
  loop_gets bar label spare around way pc m (calls ∷ below) le start does =
      turn_gets bar label spare (suc (length below)) around way pc (m (calls ∷ below)) (loop m below) le start (λ spare. does spare (calls ∷ below) (inl refl))
      (λ l j h. less bar bar spare spare (length below) (suc (length below)) around way way (loop m below l).outcome refl (λ n. omega arith) (omega arith) (omega arith)
      (loop_gets bar label spare around way pc m below le start (λ spare b le. does spare b (inr le)) l j
      (rest 1 (spare + (jumps way + (loop m below l).cost)) (suc (length below)) 0 (spare + (jumps way + (loop m below l).cost)) (length below) pc l j (omega arith) (omega arith) h)))
