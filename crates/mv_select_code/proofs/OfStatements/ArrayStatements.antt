-- The code of the statements that test an index, read and write.
use Rattle.std.proofs.Common.{◌≡◌, ◌≢◌, ◌⊎◌, inl, inr, ℕ, ◌+◌, ◌*◌, ◌<◌, ◌≤◌, Bool, true, false, not, cond, leb, ltb, List, [], ◌∷◌, ◌++◌, length, slice_index, slice_set, Option, Some, None, unwrap_or, sum_by, refl, sym, ap, ◌∙◌, subst, arith, append_assoc}
use Rattle.std.proofs.lemmas.Bool.{cases_lt, not-false, leb-true, ltb-true, ltb-false, lt-ltb, le-ltb}
use Rattle.mv_num.specs.Words.{lt_u}
use Rattle.mv_isa.specs.declared.instr.Instr.TheVariants.{Lw, Sw}
use Rattle.mv_isa.specs.declared.labelled.Line.{Line}
use Rattle.mv_isa.specs.declared.labelled.Line.TheVariants.{Word, Branch}
use Rattle.mv_isa.specs.Code.{greatest_words}
use Rattle.mv_isa.specs.Execution.{Access, reg, put}
use Rattle.mv_ir.specs.declared.tree.Tree.{Tree}
use Rattle.mv_ir.specs.declared.stm.Array.{Array}
use Rattle.mv_ir.specs.declared.stm.Array.TheVariants as array
use Rattle.mv_ir.specs.declared.stm.Stm.TheOpen as stm
use Rattle.mv_ir.specs.World as ir
use Rattle.mv_ir.specs.Outcome.{State, Trapped, Stuck, Outcome, Next, Ends}
use Rattle.mv_ir.specs.Trees.{nodes}
use Rattle.mv_ir.specs.Meaning.{of_tree, elements, with_temp, with_elements, outside}
use Rattle.mv_select_code.specs.Trees.TreeCode.{Seats, one, number_lines, literal, unless, operand_lines, operand_register}
use Rattle.mv_select_code.specs.Trees.Straight.{Straight}
use Rattle.mv_select_code.specs.Trees.View.{AreSeats, Changes}
use Rattle.mv_select_code.proofs.OfTrees.Gives.{Within, number_gives}
use Rattle.mv_select_code.proofs.OfTrees.Instructions.{lw_sets}
use Rattle.mv_select_code.proofs.OfTrees.Registers.{changes_none, free_above, put_same, put_other, put_registers}
use Rattle.mv_select_code.proofs.OfTrees.TreesAreShort.{number_size}
use Rattle.mv_select_code.specs.Statements.StatementCode.{first, second, third, trap_label, target, keep_lines, element_offset, element_lines, fixed, element_at, fetch_lines, put_lines, test_lines, tested_lines, check_by, check_lines, read_by, read_lines, write_by, write_lines}
use Rattle.mv_select_code.specs.Statements.Leads.{Exit, Past, To, limited, Leads}
use Rattle.mv_select_code.specs.Statements.Frames.{Site, Element, IsRead, IsWritten, home_of, size_of, is_tested, address, IsFine, IsFit, Shows}
use Rattle.mv_select_code.specs.Statements.Laws.{Follows, LeadsTo, Does}
use Rattle.mv_select_code.proofs.OfStatements.ElementPlaces.{fixed_is, element_placed, element_size, element_fetched, fetch_size}
use Rattle.mv_select_code.proofs.OfStatements.FrameChanges.{updates_element, frame_scratch}
use Rattle.mv_select_code.proofs.OfStatements.PlainArrays.{plain, plain_there, plain_loaded, plain_own, element_word, element_stands}
use Rattle.mv_select_code.proofs.OfStatements.ScalarStatements.{at_first, at_second, after_operand}
use Rattle.mv_select_code.proofs.OfStatements.Stores.{element_put}
use Rattle.mv_select_code.proofs.OfStatements.TempsKept.{target_free, temp_kept}
use Rattle.mv_select_code.proofs.OfStatements.TreesFirst.{operand_aside, operand_beside, cell_loaded, HasOperand, operand_first, cell_written}
use Rattle.mv_select_code.proofs.OfStatements.Walks.{leads_more, leads_straight, leads_one, leads_next}
use Rattle.mv_select_code.proofs.OfStatements.Written.{written_value}

-- an operand's register isn't that of a size
size_beside : (s : Seats) → AreSeats s → (t : Tree) (r : ℕ) → r < third → (operand_register s t r < third) ⊎ (third + 1 ≤ operand_register s t r)
size_beside s seats t r lt = operand_aside s seats t r third (third + 1) (inr (omega arith, omega arith)) (inl lt)

apart : (z d : ℕ) → z ≢ d → (z < d) ⊎ (d ≤ z) → (z < d) ⊎ (d + 1 ≤ z)
apart z d ne (inl l) = inl l
apart z d ne (inr u) = inr (grind (arith, ne))

less_is : (a b : ℕ) → a < b → not (lt_u a b) ≡ false
unfolding lt_u
less_is a b h = ap not (lt-ltb a b h)

not_less_is : (a b : ℕ) → b ≤ a → not (lt_u a b) ≡ true
unfolding lt_u
not_less_is a b h = ap not (le-ltb a b h)

module _ {M : Type 0} (access : Access M) (s : Site) (setting : ir.Setting) (frame : ir.Frame) (fit : IsFit s access setting frame) where
  abbrev L : List Line → ℕ → List ℕ → M → Exit → List ℕ → M → Type 0
  L = Leads access s

  abbrev V : Tree → State → ℕ
  V = of_tree setting frame

  -- ---- the test of an index

  -- the number of elements stands in its register, or else in the third one
  record SizedBy (own : Option ℕ) (size : ℕ) (l : State) (regs : List ℕ) (m : M) : Type 0 where
    after : List ℕ
    runs : Straight (limited access s) m s.entry (unless own (number_lines size third)) regs after
    changes : Changes third (third + 1) regs after
    holds : reg after (unwrap_or own third) ≡ size
    shown : Shows s access l after m

  abbrev own_of : Array → Option ℕ
  own_of a = s.seats.pinned (size_of s a)

  abbrev IsSized : Array → State → List ℕ → M → Type 0
  IsSized a = SizedBy (own_of a) (size_of s a)

  sized : (a : Array) (l : State) (regs : List ℕ) (m : M) → Shows s access l regs m → IsSized a l regs m
  sized a l regs m f = by_place (own_of a) refl
    where
      by_place : (own : Option ℕ) → own_of a ≡ own → SizedBy own (size_of s a) l regs m
      by_place (Some q) is =
          record { after = regs; runs = refl; changes = changes_none third (third + 1) regs f.are; holds = f.pinned (size_of s a) q is; shown = f }
      by_place None is =
          let free : Within third (third + 1) third = record { from = omega arith; below = omega arith; free = free_above third (omega arith) (omega arith) } in
          let g = number_gives (limited access s) m s.entry third (third + 1) third (size_of s a) regs f.are free (fit.sizes a) in
          record {
            after = g.after;
            runs = g.runs;
            changes = g.changes;
            holds = g.holds;
            shown = frame_scratch s access fit.left fit.seats third (third + 1) l regs g.after m (inr (omega arith, omega arith)) g.changes f;
          }

  abbrev size_lines : Array → List Line
  size_lines a = unless (own_of a) (number_lines (size_of s a) third)

  size_words : (a : Array) → sum_by greatest_words (size_lines a) ≤ 2
  size_words a = by_place (own_of a)
    where
      by_place : (own : Option ℕ) → sum_by greatest_words (unless own (number_lines (size_of s a) third)) ≤ 2
      by_place (Some q) = omega arith
      by_place None = number_size (size_of s a) third

  abbrev limit : Array → ℕ
  limit a = unwrap_or (own_of a) third

  abbrev branch : Array → ℕ → Line
  branch a q = Branch 7 q (limit a) (trap_label 2)

  after_size : (a : Array) (q : ℕ) (ks : List Line) (n : ℕ) (l : State) (regs : List ℕ) (m : M) (exit : Exit) (regs' : List ℕ) (m' : M) (z : IsSized a l regs m)
      → L (branch a q ∷ ks) n z.after m exit regs' m' → L (size_lines a ++ (branch a q ∷ ks)) (n + 2) regs m exit regs' m'
  after_size a q ks n l regs m exit regs' m' z h =
      let ls = size_lines a in
      leads_more access s (ls ++ (branch a q ∷ ks)) (sum_by greatest_words ls + n) (n + 2) regs m exit regs' m' (omega (arith, size_words a)) (leads_straight access s ls (branch a q ∷ ks) n regs z.after m exit regs' m' z.runs h)

  -- the same, for a test that is put before lines as a whole
  after_test : (a : Array) (q : ℕ) (ks : List Line) (n : ℕ) (l : State) (regs : List ℕ) (m : M) (exit : Exit) (regs' : List ℕ) (m' : M) (z : IsSized a l regs m)
      → L (branch a q ∷ ks) n z.after m exit regs' m' → L (test_lines s.seats (size_of s a) q ++ ks) (n + 2) regs m exit regs' m'
  after_test a q ks n l regs m exit regs' m' z h =
      subst (λ lines. L lines (n + 2) regs m exit regs' m') (sym (append_assoc (size_lines a) (branch a q ∷ []) ks)) (after_size a q ks n l regs m exit regs' m' z h)

  -- an index that is too great leads to the stub
  failed : (a : Array) (q k : ℕ) (ks : List Line) (l : State) (regs : List ℕ) (m : M) (z : IsSized a l regs m) → reg z.after q ≡ k → size_of s a ≤ k → L (branch a q ∷ ks) 2 z.after m (To (trap_label 2)) z.after m
  failed a q k ks l regs m z index le = inl (not_less_is (reg z.after q) (reg z.after (limit a)) (omega (arith, index, z.holds, le)), omega arith, refl, (refl, refl))

  -- one below the number goes on
  passed : (a : Array) (q k n : ℕ) (ks : List Line) (l : State) (regs : List ℕ) (m : M) (regs' : List ℕ) (m' : M) (z : IsSized a l regs m) → reg z.after q ≡ k
      → k < size_of s a → L ks n z.after m Past regs' m' → L (branch a q ∷ ks) (n + 1) z.after m Past regs' m'
  passed a q k n ks l regs m regs' m' z index lt h = inr (less_is (reg z.after q) (reg z.after (limit a)) (omega (arith, index, z.holds, lt)), n, omega arith, h)

  -- ---- an index that isn't below the length

  -- lines do what an outcome says, at an index of an array
  abbrev F : List Line → ℕ → List ℕ → M → Outcome → Type 0
  F = Follows access s setting frame

  -- a trap is right, whatever is promised of the index
  trap_unless : (promised : Bool) (w : ir.World) (ls : List Line) (c : ℕ) (regs : List ℕ) (m : M) → F ls c regs m (Ends (Trapped 2 w)) → F ls c regs m (Ends (cond promised (Trapped 2 w) Stuck))
  trap_unless true w ls c regs m h = h
  trap_unless false w ls c regs m h = tt

  trap_does : (a : Array) (k : ℕ) (w : ir.World) (ls : List Line) (c : ℕ) (regs : List ℕ) (m : M) → F ls c regs m (Ends (Trapped 2 w)) → F ls c regs m (Ends (outside a k w))
  trap_does (array.Global g) k w ls c regs m h = h
  trap_does (array.Local a) k w ls c regs m h = h
  trap_does (array.SureGlobal g n) k w ls c regs m h = trap_unless (ltb k n) w ls c regs m h
  trap_does (array.SureLocal a n) k w ls c regs m h = trap_unless (ltb k n) w ls c regs m h

  -- and where no index is tested, code at one that isn't below the length has no meaning
  none_meant : (n size k : ℕ) (w : ir.World) → not (leb n size) ≡ false → size ≤ k → cond (ltb k n) (Trapped 2 w) Stuck ≡ Stuck
  none_meant n size k w e above = ap (λ b. cond b (Trapped 2 w) Stuck) (le-ltb k n (grind (arith, leb-true n size (not-false (leb n size) e), above)))

  untested_does : (a : Array) (k : ℕ) (w : ir.World) (ls : List Line) (c : ℕ) (regs : List ℕ) (m : M) → is_tested s a ≡ false → size_of s a ≤ k → F ls c regs m (Ends (outside a k w))
  untested_does (array.Global g) k w ls c regs m e above = absurd cc
  untested_does (array.Local a) k w ls c regs m e above = absurd cc
  untested_does (array.SureGlobal g n) k w ls c regs m e above = subst (λ x. F ls c regs m (Ends x)) (sym (none_meant n (s.size g) k w e above)) tt
  untested_does (array.SureLocal a n) k w ls c regs m e above = subst (λ x. F ls c regs m (Ends x)) (sym (none_meant n (s.array_size a) k w e above)) tt

  -- ---- an index that is known

  known : (a : Array) (i : Tree) (n : ℕ) (l : State) (regs : List ℕ) (m : M) → fixed (size_of s a) (literal i) ≡ Some n → Shows s access l regs m → (V i l ≡ n) × (n < size_of s a) × (ltb n (length (elements a l)) ≡ true)
  known a i n l regs m is f =
      let h = fixed_is (size_of s a) n (literal i) is in
      let lt = h.1 in
      (written_value setting.numbers frame.bound l.temps l.world.globals i n h.0, lt, lt-ltb n (length (elements a l)) (omega (arith, f.sizes a)))

  -- what a statement on an element does, by its index
  abbrev at_index : Array → Tree → State → (ℕ → State) → Outcome
  at_index a i l next = cond (ltb (V i l) (length (elements a l))) (Next (next (V i l))) (Ends (outside a (V i l) l.world))

  -- that, of what it does where the index is below the length
  at_known : (ls : List Line) (c : ℕ) (regs : List ℕ) (m : M) (a : Array) (i : Tree) (n : ℕ) (l : State) (next : ℕ → State) → fixed (size_of s a) (literal i) ≡ Some n → Shows s access l regs m
      → F ls c regs m (Next (next n)) → F ls c regs m (at_index a i l next)
  at_known ls c regs m a i n l next is f h =
      let k = known a i n l regs m is f in
      subst (λ v. F ls c regs m (cond (ltb v (length (elements a l))) (Next (next v)) (Ends (outside a v l.world)))) (sym k.0)
      (subst (λ d. F ls c regs m (cond d (Next (next n)) (Ends (outside a n l.world)))) (sym k.2) h)

  -- ---- an index that is computed

  -- what a statement does of lines by whether it tests the index: where the index is below the length, and of those that test one that isn't
  by_test : (ls : Bool → List Line) (c : ℕ) (regs : List ℕ) (m : M) (a : Array) (i : Tree) (l : State) (next : State) → Shows s access l regs m
      → ((tested : Bool) → V i l < size_of s a → F (ls tested) c regs m (Next next)) → (size_of s a ≤ V i l → F (ls true) c regs m (Ends (Trapped 2 l.world)))
      → F (ls (is_tested s a)) c regs m (cond (ltb (V i l) (length (elements a l))) (Next next) (Ends (outside a (V i l) l.world)))
  by_test ls c regs m a i l next f inside beyond = by_index (ltb (V i l) (length (elements a l))) refl
    where
      by_index : (d : Bool) → ltb (V i l) (length (elements a l)) ≡ d → F (ls (is_tested s a)) c regs m (cond d (Next next) (Ends (outside a (V i l) l.world)))
      by_index true is = inside (is_tested s a) (omega (arith, ltb-true (V i l) (length (elements a l)) is, f.sizes a))
      by_index false is = by_tested (is_tested s a) refl
        where
          above : size_of s a ≤ V i l
          above = omega (arith, ltb-false (V i l) (length (elements a l)) is, f.sizes a)

          by_tested : (tested : Bool) → is_tested s a ≡ tested → F (ls tested) c regs m (Ends (outside a (V i l) l.world))
          by_tested true e = trap_does a (V i l) l.world (ls true) c regs m (beyond above)
          by_tested false e = untested_does a (V i l) l.world (ls false) c regs m e above

  -- registers that the number of elements doesn't come into are kept
  abbrev IsBeside : ℕ → Type 0
  IsBeside o = (o < third) ⊎ (third + 1 ≤ o)

  abbrev Keeps : List ℕ → List ℕ → Type 0
  Keeps regs after = (o : ℕ) → IsBeside o → reg after o ≡ reg regs o

  -- what lines lead to from an index in a register that is below the length, behind its test if it is tested
  after_tested : (a : Array) (q k : ℕ) (ks : List Line) (n : ℕ) (l next : State) (regs : List ℕ) (m : M) (tested : Bool) → IsSized a l regs m → IsBeside q → reg regs q ≡ k → k < size_of s a → Shows s access l regs m
      → ((b : List ℕ) → Keeps regs b → Shows s access l b m → LeadsTo access s setting frame ks n b m Past next)
      → LeadsTo access s setting frame (tested_lines s.seats tested (size_of s a) q ++ ks) (n + 3) regs m Past next
  after_tested a q k ks n l next regs m true z beside index below f leads =
      let g = leads z.after z.changes.others z.shown in
      let test = test_lines s.seats (size_of s a) q in (
        g.0,
        g.1,
        leads_more access s (test ++ ks) (n + 1 + 2) (n + 3) regs m Past g.0 g.1 (omega arith)
            (after_test a q ks (n + 1) l regs m Past g.0 g.1 z (passed a q k n ks l regs m g.0 g.1 z (z.changes.others q beside ∙ index) below g.2)),
        g.3,
      )
  after_tested a q k ks n l next regs m false z beside index below f leads =
      let g = leads regs (λ o h. refl) f in
      (g.0, g.1, leads_more access s ks n (n + 3) regs m Past g.0 g.1 (omega arith) g.2, g.3)

  -- and from one that isn't
  beyond_test : (a : Array) (q k : ℕ) (ks : List Line) (l : State) (regs : List ℕ) (m : M) → IsSized a l regs m → IsBeside q → reg regs q ≡ k → size_of s a ≤ k
      → LeadsTo access s setting frame (test_lines s.seats (size_of s a) q ++ ks) 4 regs m (To (trap_label 2)) l
  beyond_test a q k ks l regs m z beside index above =
      (z.after, m, after_test a q ks 2 l regs m (To (trap_label 2)) z.after m z (failed a q k ks l regs m z (z.changes.others q beside ∙ index) above), z.shown)

  pub check_done : (a : Array) (i : Tree) → IsFine s setting frame i → Does access s setting frame (check_lines s.seats (size_of s a) (is_tested s a) i) (stm.Check a i)
  check_done a i fine bound l regs m f = by_fixed (fixed (size_of s a) (literal i)) refl
    where
      q : ℕ
      q = operand_register s.seats i first

      x : HasOperand access s setting frame fit first i l regs m
      x = operand_first access s setting frame fit first i l regs m at_first fine f

      z : IsSized a l x.after m
      z = sized a l x.after m x.shown

      index : reg z.after q ≡ V i l
      index = z.changes.others q (size_beside s.seats fit.seats i first (omega arith)) ∙ x.holds

      inside : (tested : Bool) → V i l < size_of s a → F (check_by s.seats None (size_of s a) tested i) (8 + 3 * nodes i) regs m (Next l)
      inside true below = (
        z.after,
        m,
        after_operand access s setting frame fit first i (test_lines s.seats (size_of s a) q) (0 + 1 + 2) (8 + 3 * nodes i) l regs m Past z.after m (omega arith) x
            (after_size a q [] (0 + 1) l x.after m Past z.after m z (passed a q (V i l) 0 [] l x.after m z.after m z index below (refl, (refl, refl)))),
        z.shown,
      )
      inside false below = (regs, m, (refl, (refl, refl)), f)

      beyond : size_of s a ≤ V i l → F (check_by s.seats None (size_of s a) true i) (8 + 3 * nodes i) regs m (Ends (Trapped 2 l.world))
      beyond above = (
        l,
        refl,
        (
          z.after,
          m,
          after_operand access s setting frame fit first i (test_lines s.seats (size_of s a) q) (2 + 2) (8 + 3 * nodes i) l regs m (To (trap_label 2)) z.after m (omega arith) x
              (after_size a q [] 2 l x.after m (To (trap_label 2)) z.after m z (failed a q (V i l) [] l x.after m z index above)),
          z.shown,
        ),
      )

      by_fixed : (index : Option ℕ) → fixed (size_of s a) (literal i) ≡ index → F (check_by s.seats index (size_of s a) (is_tested s a) i) (8 + 3 * nodes i) regs m (at_index a i l (λ k. l))
      by_fixed None is = by_test (λ tested. check_by s.seats None (size_of s a) tested i) (8 + 3 * nodes i) regs m a i l l f inside beyond
      by_fixed (Some n) is = at_known [] (8 + 3 * nodes i) regs m a i n l (λ k. l) is f (regs, m, (refl, (refl, refl)), f)

  pub read_done : (t : ℕ) (a : Array) (i : Tree) → t < s.temps → IsRead s a → IsFine s setting frame i → Does access s setting frame (read_lines s.seats t (home_of s a) (size_of s a) (is_tested s a) i) (stm.Read t a i)
  read_done t a i lt may fine bound l regs m f = by_fixed (fixed (size_of s a) (literal i)) refl
    where
      q : ℕ
      q = operand_register s.seats i first

      load : List Line
      load = Word (Lw (target s.seats t) first (element_offset (home_of s a))) ∷ keep_lines s.seats t

      ks : List Line
      ks = element_lines (home_of s a) q ++ load

      x : HasOperand access s setting frame fit first i l regs m
      x = operand_first access s setting frame fit first i l regs m at_first fine f

      z : IsSized a l x.after m
      z = sized a l x.after m x.shown

      beside : IsBeside q
      beside = size_beside s.seats fit.seats i first (omega arith)

      read : ℕ → State
      read k = with_temp l t (slice_index (elements a l) k)

      loaded : V i l < size_of s a → (b : List ℕ) → reg b q ≡ V i l → Shows s access l b m → LeadsTo access s setting frame ks 5 b m Past (read (V i l))
      loaded below b holds shown =
          let p = element_placed access s setting frame fit a q (V i l) l b m below holds shown in
          let w = slice_index (elements a l) (V i l) in
          let word = element_word s access a (V i l) l p.after m below p.shown in
          let d = target s.seats t in
          let free = target_free s.seats fit.seats t in
          let mid = put p.after d w in
          let are = put_registers p.after d w p.shown.are free word in
          let g = temp_kept access s setting frame fit t w l p.after mid m lt word are (λ z o ne. put_other p.after d z w free.above ne) (put_same p.after d w free.above (omega (arith, p.shown.are.count, free.below))) p.shown in
          let lw = Lw d first (element_offset (home_of s a)) in
          let cell = Element (plain a) (V i l) in
          let loads = leads_next access s lw (keep_lines s.seats t) 1 p.after m mid m Past g.after g.memory (
            lw_sets (limited access s) m d first (element_offset (home_of s a)) p.after (address s cell) w p.to
                (cell_loaded access s setting frame fit m cell w (plain_there s a (V i l) below) (plain_loaded s a (V i l) may) (element_stands s access a (V i l) l p.after m below p.shown)),
            inl refl,
          )
          g.leads in
          let placed = leads_more access s ks (sum_by greatest_words (element_lines (home_of s a) q) + 2) 5 b m Past g.after g.memory (omega (arith, element_size access s setting frame fit a q))
          (leads_straight access s (element_lines (home_of s a) q) load 2 b p.after m Past g.after g.memory p.runs loads) in
          (g.after, g.memory, placed, g.shown)

      inside : (tested : Bool) → V i l < size_of s a → F (read_by s.seats None t (home_of s a) (size_of s a) tested i) (8 + 3 * nodes i) regs m (Next (read (V i l)))
      inside tested below =
          let g = after_tested a q (V i l) ks 5 l (read (V i l)) x.after m tested z beside x.holds below x.shown (λ b keeps shown. loaded below b (keeps q beside ∙ x.holds) shown) in
          (g.0, g.1, after_operand access s setting frame fit first i (tested_lines s.seats tested (size_of s a) q ++ ks) (5 + 3) (8 + 3 * nodes i) l regs m Past g.0 g.1 (omega arith) x g.2, g.3)

      beyond : size_of s a ≤ V i l → F (read_by s.seats None t (home_of s a) (size_of s a) true i) (8 + 3 * nodes i) regs m (Ends (Trapped 2 l.world))
      beyond above =
          let g = beyond_test a q (V i l) ks l x.after m z beside x.holds above in
          (l, refl, (g.0, g.1, after_operand access s setting frame fit first i (test_lines s.seats (size_of s a) q ++ ks) 4 (8 + 3 * nodes i) l regs m (To (trap_label 2)) g.0 g.1 (omega arith) x g.2, g.3))

      fetched : (n : ℕ) → n < size_of s a → F (read_by s.seats (Some n) t (home_of s a) (size_of s a) (is_tested s a) i) (8 + 3 * nodes i) regs m (Next (read n))
      fetched n below =
          let d = target s.seats t in
          let w = slice_index (elements a l) n in
          let free = target_free s.seats fit.seats t in
          let p = element_fetched access s setting frame fit a n d l regs m may below free f in
          let g = temp_kept access s setting frame fit t w l regs p.after m lt (element_word s access a n l regs m below f) p.changes.are (λ z o ne. p.changes.others z (apart z d ne (cases_lt z d))) p.holds f in
          let ls = fetch_lines (element_at (home_of s a) n) d in
          let ks = keep_lines s.seats t in (
            g.after,
            g.memory,
            leads_more access s (ls ++ ks) (sum_by greatest_words ls + 1) (8 + 3 * nodes i) regs m Past g.after g.memory (omega (arith, fetch_size access s setting frame fit a n d))
                (leads_straight access s ls ks 1 regs p.after m Past g.after g.memory p.runs g.leads),
            g.shown,
          )

      by_fixed : (index : Option ℕ) → fixed (size_of s a) (literal i) ≡ index → F (read_by s.seats index t (home_of s a) (size_of s a) (is_tested s a) i) (8 + 3 * nodes i) regs m (at_index a i l read)
      by_fixed None is = by_test (λ tested. read_by s.seats None t (home_of s a) (size_of s a) tested i) (8 + 3 * nodes i) regs m a i l (read (V i l)) f inside beyond
      by_fixed (Some n) is =
          let k = known a i n l regs m is f in
          at_known (read_by s.seats (Some n) t (home_of s a) (size_of s a) (is_tested s a) i) (8 + 3 * nodes i) regs m a i n l read is f (fetched n k.1)

  pub write_done : (a : Array) (i v : Tree) → IsWritten s a → IsFine s setting frame i → IsFine s setting frame v
      → Does access s setting frame (write_lines s.seats (home_of s a) (size_of s a) (is_tested s a) i v) (stm.Write a i v)
  write_done a i v may fi fv bound l regs m f = by_fixed (fixed (size_of s a) (literal i)) refl
    where
      q : ℕ
      q = operand_register s.seats i first

      w : ℕ
      w = operand_register s.seats v second

      store : List Line
      store = one (Sw first w (element_offset (home_of s a)))

      ks : List Line
      ks = element_lines (home_of s a) q ++ store

      x : HasOperand access s setting frame fit first i l regs m
      x = operand_first access s setting frame fit first i l regs m at_first fi f

      y : HasOperand access s setting frame fit second v l x.after m
      y = operand_first access s setting frame fit second v l x.after m at_second fv x.shown

      z : IsSized a l y.after m
      z = sized a l y.after m y.shown

      beside : IsBeside q
      beside = size_beside s.seats fit.seats i first (omega arith)

      index : reg y.after q ≡ V i l
      index = y.changes.others q (operand_aside s.seats fit.seats i first second (second + 4) at_second (inr (omega arith))) ∙ x.holds

      both : (tested : Bool) (n : ℕ) (exit : Exit) (regs' : List ℕ) (m' : M) → n ≤ 8 → L (tested_lines s.seats tested (size_of s a) q ++ ks) n y.after m exit regs' m'
          → L (write_by s.seats None (home_of s a) (size_of s a) tested i v) (8 + 3 * (nodes i + nodes v)) regs m exit regs' m'
      both tested n exit regs' m' le h =
          let rest = tested_lines s.seats tested (size_of s a) q ++ ks in
          after_operand access s setting frame fit first i (operand_lines s.seats v second ++ rest) (8 + 2 * nodes v) (8 + 3 * (nodes i + nodes v)) l regs m exit regs' m' (omega arith) x
          (after_operand access s setting frame fit second v rest n (8 + 2 * nodes v) l x.after m exit regs' m' (omega arith) y h)

      written : ℕ → State
      written k = with_elements a l (slice_set (elements a l) k (V v l))

      stored : V i l < size_of s a → (b : List ℕ) → reg b w ≡ V v l → reg b q ≡ V i l → Shows s access l b m → LeadsTo access s setting frame ks 4 b m Past (written (V i l))
      stored below b value holds shown =
          let many : V i l < length (elements a l) = omega (arith, below, f.sizes a) in
          let p = element_placed access s setting frame fit a q (V i l) l b m below holds shown in
          let kept : reg p.after w ≡ V v l =
          p.beside w (operand_beside s.seats fit.seats v second first (inr (omega arith, omega arith)) (inl (omega arith)))
          (operand_beside s.seats fit.seats v second third (inr (omega arith, omega arith)) (inl (omega arith)))
          ∙ value in
          let cell = Element (plain a) (V i l) in
          let g = cell_written access s setting frame fit first w (element_offset (home_of s a)) cell (V v l) l (written (V i l)) p.after m p.to kept y.below (plain_own s a (V i l) may) (plain_there s a (V i l) below)
          (updates_element s l a (V i l) (V v l) many) p.shown in
          let placed = leads_more access s ks (sum_by greatest_words (element_lines (home_of s a) q) + 1) 4 b m Past g.after g.memory (omega (arith, element_size access s setting frame fit a q))
          (leads_straight access s (element_lines (home_of s a) q) store 1 b p.after m Past g.after g.memory p.runs (leads_one access s (Sw first w (element_offset (home_of s a))) p.after m g.after g.memory g.moves)) in
          (g.after, g.memory, placed, g.shown)

      inside : (tested : Bool) → V i l < size_of s a → F (write_by s.seats None (home_of s a) (size_of s a) tested i v) (8 + 3 * (nodes i + nodes v)) regs m (Next (written (V i l)))
      inside tested below =
          let g = after_tested a q (V i l) ks 4 l (written (V i l)) y.after m tested z beside index below y.shown
          (λ b keeps shown. stored below b (keeps w (size_beside s.seats fit.seats v second (omega arith)) ∙ y.holds) (keeps q beside ∙ index) shown) in
          (g.0, g.1, both tested (4 + 3) Past g.0 g.1 (omega arith) g.2, g.3)

      beyond : size_of s a ≤ V i l → F (write_by s.seats None (home_of s a) (size_of s a) true i v) (8 + 3 * (nodes i + nodes v)) regs m (Ends (Trapped 2 l.world))
      beyond above =
          let g = beyond_test a q (V i l) ks l y.after m z beside index above in
          (l, refl, (g.0, g.1, both true 4 (To (trap_label 2)) g.0 g.1 (omega arith) g.2, g.3))

      at_fixed : (n : ℕ) → n < size_of s a → ltb n (length (elements a l)) ≡ true → F (write_by s.seats (Some n) (home_of s a) (size_of s a) (is_tested s a) i v) (8 + 3 * (nodes i + nodes v)) regs m (Next (written n))
      at_fixed n below is =
          let u = operand_register s.seats v first in
          let o = operand_first access s setting frame fit first v l regs m at_first fv f in
          let apart = operand_beside s.seats fit.seats v first second (inl (omega arith, omega arith)) (inr (omega arith)) in
          let g = element_put access s setting frame fit a n (V v l) l (written n) u o.after m o.below may below (updates_element s l a n (V v l) (ltb-true n (length (elements a l)) is)) apart o.holds o.shown in
          let ks = put_lines (element_at (home_of s a) n) u in
          (g.after, g.memory, after_operand access s setting frame fit first v ks 2 (8 + 3 * (nodes i + nodes v)) l regs m Past g.after g.memory (omega arith) o g.leads, g.shown)

      by_fixed : (index : Option ℕ) → fixed (size_of s a) (literal i) ≡ index → F (write_by s.seats index (home_of s a) (size_of s a) (is_tested s a) i v) (8 + 3 * (nodes i + nodes v)) regs m (at_index a i l written)
      by_fixed None is = by_test (λ tested. write_by s.seats None (home_of s a) (size_of s a) tested i v) (8 + 3 * (nodes i + nodes v)) regs m a i l (written (V i l)) f inside beyond
      by_fixed (Some n) is =
          let k = known a i n l regs m is f in
          at_known (write_by s.seats (Some n) (home_of s a) (size_of s a) (is_tested s a) i v) (8 + 3 * (nodes i + nodes v)) regs m a i n l written is f (at_fixed n k.1 k.2)
