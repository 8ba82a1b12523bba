-- The code of pins leaves each number in its register.
use Rattle.std.proofs.Common.{◌≡◌, ◌≢◌, ⊎_elim, inl, inr, ℕ, suc, ◌+◌, ◌^◌, ◌<◌, ◌≤◌, ◌⊎◌, Bool, true, false, cond, eqb, List, [], ◌∷◌, ◌++◌, Some, unwrap_or, sum_by, refl, sym, ap, ◌∙◌, subst, append-nil, arith}
use Rattle.std.proofs.lemmas.Bool.{cases_lt, eqb-true}
use Rattle.std.proofs.lemmas.Option.{none-some}
use Rattle.mv_isa.specs.declared.labelled.Line.{Line}
use Rattle.mv_isa.specs.Code.{greatest_words}
use Rattle.mv_isa.specs.Execution.{Access, reg}
use Rattle.mv_ir.specs.World.{World}
use Rattle.mv_select_code.specs.Trees.Straight.{Straight}
use Rattle.mv_select_code.specs.Trees.TreeCode.{number_lines, pinned_in}
use Rattle.mv_select_code.specs.Trees.View.{AreRegisters, Gives}
use Rattle.mv_select_code.specs.declared.trees.places.Keeping.{Keeping}
use Rattle.mv_select_code.specs.declared.trees.places.Pin.{Pin}
use Rattle.mv_select_code.specs.Statements.Frames.{Reach}
use Rattle.mv_select_code.specs.Statements.Leads.{Past, limited}
use Rattle.mv_select_code.specs.Control.Runs.{Machine}
use Rattle.mv_select_code.proofs.OfTrees.Gives.{number_gives}
use Rattle.mv_select_code.proofs.OfTrees.Registers.{free_above}
use Rattle.mv_select_code.proofs.OfStatements.Walks.{leads_straight}
use Rattle.mv_select_code.proofs.OfControl.Walk.{placed_split, stands_at, reaches_more, leads_walk}
use Rattle.mv_select.specs.Calls.Convention.{Layout}
use Rattle.mv_select.specs.Functions.Functions.{IsLaid, IsMemory, IsAmple, RunsWithin}
use Rattle.mv_select.specs.Functions.Pins.{pin_lines, pin_words, StandFrom}
use Rattle.mv_select.specs.Functions.Uses.{number_words}
use Rattle.mv_select.proofs.OfFunctions.FrameWords.{words_site, ok, frame_course}
use Rattle.mv_select.proofs.OfFunctions.Pins.{AreApart, seat_within, one_seat, pins_apart, number_count}

module _ {M : Type 0} (access : Access M) (y : Layout) (laid : IsLaid y) (machine : Machine M) (memory : IsMemory access y machine)
    (reach : Reach) (ample : IsAmple y reach) (runs : RunsWithin access y machine reach) (budget far : ℕ) (place : ℕ → ℕ) where
  open frame_course access y laid machine memory reach ample runs budget far place use {of.{Placed as Ps}, Stands as Ws, Reaches as Rs}

  -- lines that run one after the other
  straight : (ls : List Line) (n : ℕ) (w : World) (pc next : ℕ) (regs after : List ℕ) (m : M) (i : ℕ) → sum_by greatest_words ls ≤ n → Ps ls pc next
      → Straight (limited access (words_site y reach)) m y.entry ls regs after → Ws w pc regs m i → Rs w next after m i n
  straight ls n w pc next regs after m i le p run a =
      let s = words_site y reach in
      let o = ok access y laid machine memory reach ample runs budget far place in
      reaches_more access s machine o place 0 budget far w next after m i i (sum_by greatest_words ls + 0) n (omega arith) (omega (arith, le))
      (leads_walk access s machine o place 0 budget far (ls ++ []) (sum_by greatest_words ls + 0) w pc next regs m Past after m i (subst (λ l. Ps l pc next) (sym (append-nil ls)) p)
      (leads_straight access s ls [] 0 regs after m Past after m run (refl, (refl, refl))) a)

  pub record Pinned (pins : List Pin) (w : World) (next : ℕ) (regs : List ℕ) (m : M) (i : ℕ) : Type 0 where
    pub after : List ℕ
    pub time : ℕ
    pub late : i ≤ time
    pub soon : time ≤ i + pin_words pins
    pub stands : Ws w next after m time
    pub are : AreRegisters after
    pub holds : (n q : ℕ) → pinned_in pins n ≡ Some q → reg after q ≡ n
    pub others : (q : ℕ) → AreApart q pins → reg after q ≡ reg regs q

  outside : (q r : ℕ) → q ≢ r → (q < r) ⊎ (r + 1 ≤ q)
  outside q r ne = ⊎_elim (λ (lt : q < r). inl lt) (λ (le : r ≤ q). inr (grind (arith, le, ne))) (cases_lt q r)

  -- the first number comes into its register
  record First (x : Pin) (rest : List Line) (w : World) (next : ℕ) (regs : List ℕ) (m : M) (i : ℕ) : Type 0 where
    mid : ℕ
    placed : Ps rest mid next
    after : List ℕ
    time : ℕ
    late : i ≤ time
    soon : time ≤ i + number_words x.number
    stands : Ws w mid after m time
    are : AreRegisters after
    holds : reg after x.register ≡ x.number
    others : (q : ℕ) → q ≢ x.register → reg after q ≡ reg regs q

  first_walk : (x : Pin) (rest : List Line) (w : World) (pc next : ℕ) (regs : List ℕ) (m : M) (i : ℕ) → (9 ≤ x.register) × (x.register < 26) → x.number < 2 ^ 32 → AreRegisters regs
      → Ps (number_lines x.number x.register ++ rest) pc next → Ws w pc regs m i → First x rest w next regs m i
  first_walk x rest w pc next regs m i within word are p a = record {
    mid = q.0;
    placed = q.2;
    after = g.after;
    time = f.time;
    late = f.late;
    soon = f.soon;
    stands = f.stands;
    are = g.changes.are;
    holds = g.holds;
    others = λ q ne. g.changes.others q (outside q x.register ne);
  }
    where
      q : (mid : ℕ) × Ps (number_lines x.number x.register) pc mid × Ps rest mid next
      q = placed_split machine.text place y.entry (number_lines x.number x.register) rest pc next p

      g : Gives (limited access (words_site y reach)) m y.entry x.register (x.register + 1) x.register x.number (number_lines x.number x.register) regs
      g =
          let low = within.0 in let high = within.1 in
          number_gives (limited access (words_site y reach)) m y.entry x.register (x.register + 1) x.register x.number regs are
          (record { from = omega arith; below = omega arith; free = free_above x.register (omega arith) (omega arith) }) word

      f : Rs w q.0 g.after m i (number_words x.number)
      f = straight (number_lines x.number x.register) (number_words x.number) w pc q.0 regs g.after m i (number_count x.number x.register) q.1 g.runs a

  pinned_more : (x : Pin) (pins : List Pin) (w : World) (next : ℕ) (regs : List ℕ) (m : M) (i : ℕ) → AreApart x.register pins → (f : First x (pin_lines pins) w next regs m i)
      → Pinned pins w next f.after m f.time → Pinned (x ∷ pins) w next regs m i
  pinned_more x pins w next regs m i own f rest = record {
    after = rest.after;
    time = rest.time;
    late = let late = rest.late in let before = f.late in omega (arith, late, before);
    soon = let soon = rest.soon in let before = f.soon in omega (arith, soon, before);
    stands = rest.stands;
    are = rest.are;
    holds = λ n q. by n q (eqb x.number n) refl;
    others = λ q away. rest.others q away.1 ∙ f.others q away.0;
  }
    where
      here : reg rest.after x.register ≡ x.number
      here = rest.others x.register own ∙ f.holds

      by : (n q : ℕ) (same : Bool) → eqb x.number n ≡ same → cond same (Some x.register) (pinned_in pins n) ≡ Some q → reg rest.after q ≡ n
      by n q true is e = ap (reg rest.after) (sym (ap (λ o. unwrap_or o 0) e)) ∙ here ∙ eqb-true x.number n is
      by n q false is e = rest.holds n q e

  pub pin_walk : (k : Keeping) (t : ℕ) (pins : List Pin) (w : World) (pc next : ℕ) (regs : List ℕ) (m : M) (i : ℕ) → StandFrom k t pins → AreRegisters regs → Ps (pin_lines pins) pc next
      → Ws w pc regs m i → Pinned pins w next regs m i
  pin_walk k t [] w pc next regs m i stand are p a = record {
    after = regs;
    time = i;
    late = omega arith;
    soon = omega arith;
    stands = stands_at access (words_site y reach) machine (ok access y laid machine memory reach ample runs budget far place) place 0 budget far w pc next regs m i (sym p) a;
    are = are;
    holds = λ n q e. absurd (none-some q e);
    others = λ q away. refl;
  }
  pin_walk k t (x ∷ pins) w pc next regs m i stand are p a =
      let f = first_walk x (pin_lines pins) w pc next regs m i (seat_within k t x.register stand.0) stand.1.0 are p a in
      let own = pins_apart k (suc t) pins x.register stand.1.1 (λ u le lt e. omega (arith, le, one_seat k t u x.register stand.0 e)) in
      pinned_more x pins w next regs m i own f (pin_walk k (suc t) pins w f.mid next f.after m f.time stand.1.1 f.are f.placed f.stands)
