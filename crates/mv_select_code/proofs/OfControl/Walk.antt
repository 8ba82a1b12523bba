-- A run walks where lines lead.
use Rattle.std.proofs.Common.{◌≡◌, inl, inr, ⊎_elim, ℕ, ◌+◌, ◌<◌, ◌≤◌, Bool, true, false, cond, List, [], ◌∷◌, ◌++◌, length, refl, sym, ap, ◌∙◌, subst, arith}
use Rattle.std.proofs.lemmas.Bool.{cases_eq}
use Rattle.mv_num.specs.Words.{add}
use Rattle.mv_isa.specs.declared.labelled.Line.{Line}
use Rattle.mv_isa.specs.declared.labelled.Line.TheVariants.{Word, Label, Jump, Branch, Entry, Slot, Point}
use Rattle.mv_isa.specs.Execution.{Access, Goes, reg, put, step}
use Rattle.mv_isa.specs.Standing.{LineStands}
use Rattle.mv_isa.specs.LineSteps.{branch_holds, named, BranchRuns, LineRuns}
use Rattle.mv_isa.proofs.LineSteps.{line_runs}
use Rattle.mv_ir.specs.World.{World}
use Rattle.mv_ir.specs.Outcome.{State}
use Rattle.mv_select_code.specs.Statements.Frames.{Site, Shows}
use Rattle.mv_select_code.specs.Statements.Leads.{Exit, Past, To, limited, Writes, Stays, Leads}
use Rattle.mv_select_code.proofs.OfStatements.TreesFirst.{add_small}
use Rattle.mv_select_code.specs.Control.Placed.{Text, IsPlaced, Placed}
use Rattle.mv_select_code.specs.Control.Runs.{Spot, Machine, outside, Calm, LeadsOn, IsRun}
use Rattle.mv_select_code.specs.Control.Flow.{SoundBefore, Here}
use Rattle.mv_select_code.proofs.OfControl.Course.{course}

-- what holds below a number and at it holds below the next one
pub before_next : (P : ℕ → Type 0) (i : ℕ) → ((t : ℕ) → t < i → P t) → P i → (t : ℕ) → t < i + 1 → P t
before_next P i before here t lt = ⊎_elim (λ (e : t ≡ i). subst P (sym e) here) (λ (ne : t ≡ i → ⊥). before t (less ne)) (cases_eq t i)
  where
    less : (t ≡ i → ⊥) → t < i
    less ne = grind (arith, ne)

pub put_zero : (regs : List ℕ) (v : ℕ) → put regs 0 v ≡ regs
unfolding put
put_zero regs v = refl

-- the lines of a list stand where those of its parts do
pub placed_split : (text : Text) (place entry : ℕ → ℕ) (a b : List Line) (at end : ℕ) → Placed text place entry (a ++ b) at end
    → (mid : ℕ) × Placed text place entry a at mid × Placed text place entry b mid end
placed_split text place entry [] b at end h = (at, refl, h)
placed_split text place entry (x ∷ a) b at end h = let r = placed_split text place entry a b h.0 end h.2 in (r.0, (h.0, h.1, r.1), r.2)

module _ {M : Type 0} (access : Access M) (s : Site) (machine : Machine M) (ok : IsRun access s machine) (place : ℕ → ℕ) (end budget far : ℕ) where
  open course access s machine place end budget far use {Placed as P}

  abbrev spot : ℕ → List ℕ → M → Spot M
  spot pc regs m = record { regs = regs; pc = pc; memory = m }

  -- time i of the run stands at a place with these registers and this memory, in calm
  pub record Stands (w : World) (pc : ℕ) (regs : List ℕ) (m : M) (i : ℕ) : Type 0 where
    pub is : machine.run i ≡ spot pc regs m
    pub calm : Calm access s machine w m
    pub sound : SoundBefore access s machine place end budget far i

  pub stands_at : (w : World) (pc to : ℕ) (regs : List ℕ) (m : M) (i : ℕ) → pc ≡ to → Stands w pc regs m i → Stands w to regs m i
  stands_at w pc to regs m i e h = subst (λ z. Stands w z regs m i) e h

  -- one step
  pub steps_on : (w : World) (pc to : ℕ) (regs regs' : List ℕ) (m m' : M) (i : ℕ) → step (limited access s) (machine.text.word pc) regs pc m ≡ Goes regs' to m' → Writes access s m m'
      → Stands w pc regs m i → Stands w to regs' m' (i + 1)
  steps_on w pc to regs regs' m m' i e writes h = record {
    is = ok.goes i w (spot to regs' m') leads;
    calm = ok.stays i w (spot to regs' m') leads;
    sound = before_next (λ t. machine.is_sound (machine.run t) ≡ true) i h.sound (ok.sound i w (spot to regs' m') leads);
  }
    where
      leads : LeadsOn access s machine i w (spot to regs' m')
      leads = record {
        calm = subst (λ (x : Spot M). Calm access s machine w x.memory) (sym h.is) h.calm;
        steps = subst (λ (x : Spot M). step (limited access s) (machine.text.word x.pc) x.regs x.pc x.memory ≡ Goes regs' to m') (sym h.is) e;
        writes = subst (λ (x : Spot M). Writes access s x.memory m') (sym h.is) writes;
      }

  has_registers : (w : World) (pc : ℕ) (regs : List ℕ) (m : M) (i : ℕ) → Stands w pc regs m i → length regs ≡ 32
  has_registers w pc regs m i h = subst (λ (x : Spot M). length x.regs ≡ 32) h.is (ok.registers i)

  -- what a line does from where the run stands
  pub line_does : (w : World) (pc mid : ℕ) (regs : List ℕ) (m : M) (i : ℕ) (line : Line) → LineStands machine.text.word place s.entry pc mid line → (p : IsPlaced machine.text place s.entry pc mid line) → Stands w pc regs m i
      → LineRuns (limited access s) machine.text.word m pc mid (named place s.entry pc line) regs line
  line_does w pc mid regs m i line stands p h = line_runs (limited access s) m machine.text.word place s.entry pc mid line stands p.fits p.here p.there regs (has_registers w pc regs m i h)

  abbrev target : Exit → ℕ → ℕ
  target Past next = next
  target (To l) next = place l

  -- a later time, at most so many instructions on
  pub record Reaches (w : World) (pc : ℕ) (regs : List ℕ) (m : M) (i n : ℕ) : Type 0 where
    pub time : ℕ
    pub late : i ≤ time
    pub soon : time ≤ i + n
    pub stands : Stands w pc regs m time

  pub reaches_more : (w : World) (pc : ℕ) (regs : List ℕ) (m : M) (i i' n n' : ℕ) → i' ≤ i → i + n ≤ i' + n' → Reaches w pc regs m i n → Reaches w pc regs m i' n'
  reaches_more w pc regs m i i' n n' le le' h = let late = h.late in let soon = h.soon in record { time = h.time; late = omega (arith, late, le); soon = omega (arith, soon, le'); stands = h.stands }

  reached : (w : World) (pc : ℕ) (regs : List ℕ) (m : M) (i j n : ℕ) → i ≤ j → j ≤ i + n → Stands w pc regs m j → Reaches w pc regs m i n
  reached w pc regs m i j n le le' h = record { time = j; late = le; soon = le'; stands = h }

  -- where lines end
  ended : (w : World) (next : ℕ) (exit e : Exit) (regs regs' : List ℕ) (m m' : M) (i n : ℕ) → exit ≡ e → Stays access s regs m regs' m' → Reaches w (target e next) regs m i n → Reaches w (target exit next) regs' m' i n
  ended w next exit e regs regs' m m' i n f stays h =
      subst (λ x. Reaches w (target x next) regs' m' i n) (sym f)
      (subst (λ r. Reaches w (target e next) r m' i n) (sym stays.0) (subst (λ x. Reaches w (target e next) regs x i n) (sym stays.1) h))

  -- a jump
  pub jump_stands : (w : World) (pc mid rd l : ℕ) (regs : List ℕ) (m : M) (i : ℕ) → rd ≡ 0 → IsPlaced machine.text place s.entry pc mid (Jump rd l) → Stands w pc regs m i
      → Stands w (place l) regs m (i + 1)
  jump_stands w pc mid rd l regs m i zero p a =
      let same : put regs rd mid ≡ regs = ap (λ r. put regs r mid) zero ∙ put_zero regs mid in
      steps_on w pc (place l) regs regs m m i (line_does w pc mid regs m i (Jump rd l) p.stands p a ∙ ap (λ r. Goes r (place l) m) same) (inl refl) a

  -- a branch that isn't taken
  pub branch_passes : (w : World) (pc mid funct3 rs1 rs2 l : ℕ) (regs : List ℕ) (m : M) (i : ℕ) → branch_holds funct3 (reg regs rs1) (reg regs rs2) ≡ false
      → IsPlaced machine.text place s.entry pc mid (Branch funct3 rs1 rs2 l) → Stands w pc regs m i → Stands w mid regs m (i + 1)
  branch_passes w pc mid funct3 rs1 rs2 l regs m i passes p a =
      steps_on w pc mid regs regs m m i
      (subst (λ b. BranchRuns (limited access s) machine.text.word m b pc mid (place l) regs) passes (line_does w pc mid regs m i (Branch funct3 rs1 rs2 l) p.stands p a)) (inl refl) a

  -- a branch that is taken, in one step or in two
  pub taken_later : (w : World) (pc mid to : ℕ) (regs : List ℕ) (m : M) (i : ℕ) → BranchRuns (limited access s) machine.text.word m true pc mid to regs → Stands w pc regs m i
      → Reaches w to regs m (i + 1) 1
  taken_later w pc mid to regs m i (inl e) h = reached w to regs m (i + 1) (i + 1) 1 (omega arith) (omega arith) (steps_on w pc to regs regs m m i e (inl refl) h)
  taken_later w pc mid to regs m i (inr e) h =
      reached w to regs m (i + 1) (i + 1 + 1) 1 (omega arith) (omega arith)
      (steps_on w (pc + 4) to regs regs m m (i + 1) e.1 (inl refl) (steps_on w pc (pc + 4) regs regs m m i e.0 (inl refl) h))

  pub taken : (w : World) (pc mid to : ℕ) (regs : List ℕ) (m : M) (i : ℕ) → BranchRuns (limited access s) machine.text.word m true pc mid to regs → Stands w pc regs m i → Reaches w to regs m i 2
  taken w pc mid to regs m i e h = reaches_more w to regs m (i + 1) i 1 2 (omega arith) (omega arith) (taken_later w pc mid to regs m i e h)

  pub leads_walk : (ls : List Line) (n : ℕ) (w : World) (pc next : ℕ) (regs : List ℕ) (m : M) (exit : Exit) (regs' : List ℕ) (m' : M) (i : ℕ)
      → P ls pc next → Leads access s ls n regs m exit regs' m' → Stands w pc regs m i → Reaches w (target exit next) regs' m' i n
  leads_walk [] n w pc next regs m exit regs' m' i p h a =
      ended w next exit Past regs regs' m m' i n h.0 h.1 (reached w next regs m i i n (omega arith) (omega arith) (stands_at w pc next regs m i (sym p) a))
  leads_walk (Word x ∷ ls) n w pc next regs m exit regs' m' i p h a =
      let here = p.1.here in
      let on : add pc 4 ≡ p.0 = add_small pc 4 (omega (arith, here.1)) ∙ sym p.1.stands.1 in
      let e = line_does w pc p.0 regs m i (Word x) p.1.stands p.1 a ∙ h.4.0 pc ∙ ap (λ z. Goes h.2 z h.3) on in
      let b = steps_on w pc p.0 regs h.2 m h.3 i e h.4.1 a in
      reaches_more w (target exit next) regs' m' (i + 1) i h.0 n (omega arith) (omega (arith, h.1)) (leads_walk ls h.0 w p.0 next h.2 h.3 exit regs' m' (i + 1) p.2 h.5 b)
  leads_walk (Label l ∷ ls) n w pc next regs m exit regs' m' i p h a =
      leads_walk ls n w p.0 next regs m exit regs' m' i p.2 h (stands_at w pc p.0 regs m i (sym p.1.stands) a)
  leads_walk (Jump rd l ∷ ls) n w pc next regs m exit regs' m' i p h a =
      ended w next exit (To l) regs regs' m m' i n h.2 h.3 (reached w (place l) regs m i (i + 1) n (omega arith) (omega (arith, h.1)) (jump_stands w pc p.0 rd l regs m i h.0 p.1 a))
  leads_walk (Branch funct3 rs1 rs2 l ∷ ls) n w pc next regs m exit regs' m' i p (inl h) a =
      let e = subst (λ b. BranchRuns (limited access s) machine.text.word m b pc p.0 (place l) regs) h.0 (line_does w pc p.0 regs m i (Branch funct3 rs1 rs2 l) p.1.stands p.1 a) in
      ended w next exit (To l) regs regs' m m' i n h.2 h.3 (reaches_more w (place l) regs m i i 2 n (omega arith) (omega (arith, h.1)) (taken w pc p.0 (place l) regs m i e a))
  leads_walk (Branch funct3 rs1 rs2 l ∷ ls) n w pc next regs m exit regs' m' i p (inr h) a =
      let b = branch_passes w pc p.0 funct3 rs1 rs2 l regs m i h.0 p.1 a in
      reaches_more w (target exit next) regs' m' (i + 1) i h.1 n (omega arith) (omega (arith, h.2)) (leads_walk ls h.1 w p.0 next regs m exit regs' m' (i + 1) p.2 h.3 b)
  leads_walk (Entry rd f ∷ ls) n w pc next regs m exit regs' m' i p h a =
      let e = line_does w pc p.0 regs m i (Entry rd f) p.1.stands p.1 a in
      let b = steps_on w pc (pc + 4) regs e.0 m m i e.1 (inl refl) a in
      let c = steps_on w (pc + 4) p.0 e.0 (put regs rd (s.entry f)) m m (i + 1) e.2 (inl refl) b in
      reaches_more w (target exit next) regs' m' (i + 1 + 1) i h.0 n (omega arith) (omega (arith, h.1)) (leads_walk ls h.0 w p.0 next (put regs rd (s.entry f)) m exit regs' m' (i + 1 + 1) p.2 h.2 c)
  leads_walk (Slot f ∷ ls) n w pc next regs m exit regs' m' i p h a = absurd h
  leads_walk (Point b ∷ ls) n w pc next regs m exit regs' m' i p h a = absurd h

  -- lines that lead to a label take an instruction at least
  pub leads_later : (ls : List Line) (n : ℕ) (w : World) (pc next : ℕ) (regs : List ℕ) (m : M) (l : ℕ) (regs' : List ℕ) (m' : M) (i : ℕ)
      → P ls pc next → Leads access s ls n regs m (To l) regs' m' → Stands w pc regs m i → Reaches w (place l) regs' m' (i + 1) n
  leads_later [] n w pc next regs m l regs' m' i p h a = absurd (let other : To l ≡ Past = h.0 in cc)
  leads_later (Word x ∷ ls) n w pc next regs m l regs' m' i p h a =
      let here = p.1.here in
      let on : add pc 4 ≡ p.0 = add_small pc 4 (omega (arith, here.1)) ∙ sym p.1.stands.1 in
      let e = line_does w pc p.0 regs m i (Word x) p.1.stands p.1 a ∙ h.4.0 pc ∙ ap (λ z. Goes h.2 z h.3) on in
      let b = steps_on w pc p.0 regs h.2 m h.3 i e h.4.1 a in
      reaches_more w (place l) regs' m' (i + 1) (i + 1) h.0 n (omega arith) (omega (arith, h.1)) (leads_walk ls h.0 w p.0 next h.2 h.3 (To l) regs' m' (i + 1) p.2 h.5 b)
  leads_later (Label k ∷ ls) n w pc next regs m l regs' m' i p h a =
      leads_later ls n w p.0 next regs m l regs' m' i p.2 h (stands_at w pc p.0 regs m i (sym p.1.stands) a)
  leads_later (Jump rd k ∷ ls) n w pc next regs m l regs' m' i p h a =
      ended w next (To l) (To k) regs regs' m m' (i + 1) n h.2 h.3 (reached w (place k) regs m (i + 1) (i + 1) n (omega arith) (omega (arith, h.1)) (jump_stands w pc p.0 rd k regs m i h.0 p.1 a))
  leads_later (Branch funct3 rs1 rs2 k ∷ ls) n w pc next regs m l regs' m' i p (inl h) a =
      let e = subst (λ b. BranchRuns (limited access s) machine.text.word m b pc p.0 (place k) regs) h.0 (line_does w pc p.0 regs m i (Branch funct3 rs1 rs2 k) p.1.stands p.1 a) in
      ended w next (To l) (To k) regs regs' m m' (i + 1) n h.2 h.3 (reaches_more w (place k) regs m (i + 1) (i + 1) 1 n (omega arith) (omega (arith, h.1)) (taken_later w pc p.0 (place k) regs m i e a))
  leads_later (Branch funct3 rs1 rs2 k ∷ ls) n w pc next regs m l regs' m' i p (inr h) a =
      let b = branch_passes w pc p.0 funct3 rs1 rs2 k regs m i h.0 p.1 a in
      reaches_more w (place l) regs' m' (i + 1) (i + 1) h.1 n (omega arith) (omega (arith, h.2)) (leads_walk ls h.1 w p.0 next regs m (To l) regs' m' (i + 1) p.2 h.3 b)
  leads_later (Entry rd f ∷ ls) n w pc next regs m l regs' m' i p h a =
      let e = line_does w pc p.0 regs m i (Entry rd f) p.1.stands p.1 a in
      let b = steps_on w pc (pc + 4) regs e.0 m m i e.1 (inl refl) a in
      let c = steps_on w (pc + 4) p.0 e.0 (put regs rd (s.entry f)) m m (i + 1) e.2 (inl refl) b in
      reaches_more w (place l) regs' m' (i + 1 + 1) (i + 1) h.0 n (omega arith) (omega (arith, h.1)) (leads_walk ls h.0 w p.0 next (put regs rd (s.entry f)) m (To l) regs' m' (i + 1 + 1) p.2 h.2 c)
  leads_later (Slot f ∷ ls) n w pc next regs m l regs' m' i p h a = absurd h
  leads_later (Point b ∷ ls) n w pc next regs m l regs' m' i p h a = absurd h

  -- on to a label, by a jump where it doesn't stand right behind
  pub jumps_or_falls : (w : World) (pc stop l : ℕ) (falls : Bool) (regs : List ℕ) (m : M) (i : ℕ) → P (cond falls [] (Jump 0 l ∷ [])) pc stop → (falls ≡ true → place l ≡ stop) → Stands w pc regs m i
      → Stands w (place l) regs m (i + cond falls 0 1)
  jumps_or_falls w pc stop l true regs m i p behind h =
      let same : i ≡ i + 0 = omega arith in
      subst (Stands w (place l) regs m) same (stands_at w pc (place l) regs m i (sym (behind refl ∙ p)) h)
  jumps_or_falls w pc stop l false regs m i p behind h = jump_stands w pc p.0 0 l regs m i refl p.1 h

  -- ---- between what is shown and what stands

  pub to_stands : (over spare k pc : ℕ) (l : State) (i : ℕ) → Here access s machine place end budget far over spare k pc l i → Stands l.world pc (machine.run i).regs (machine.run i).memory i
  to_stands over spare k pc l i h = stands_at l.world (machine.run i).pc pc (machine.run i).regs (machine.run i).memory i h.at (record { is = refl; calm = h.calm; sound = h.sound })

  pub to_here : (over spare k pc : ℕ) (l : State) (w : World) (regs : List ℕ) (m : M) (i : ℕ) → outside l.world ≡ outside w → Shows s access l regs m → i + spare ≤ budget → far + over ≤ i + k
      → Stands w pc regs m i → Here access s machine place end budget far over spare k pc l i
  to_here over spare k pc l w regs m i same shows paid asked h = record {
    at = ap (λ (x : Spot M). x.pc) h.is;
    calm = calm_at;
    shows = subst (λ (x : Spot M). Shows s access l x.regs x.memory) (sym h.is) shows;
    sound = h.sound;
    paid = paid;
    asked = asked;
  }
    where
      calm_at : Calm access s machine l.world (machine.run i).memory
      calm_at = subst (λ z. machine.is_calm z (machine.run i).memory ≡ true) (sym same) (subst (λ (x : Spot M). Calm access s machine w x.memory) (sym h.is) h.calm)
