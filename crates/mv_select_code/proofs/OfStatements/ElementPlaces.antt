-- Where the elements of arrays stand: at an index in a register, and at one that is known.
use Rattle.std.proofs.Common.{◌≡◌, ◌≢◌, inr, ℕ, ◌+◌, ◌*◌, ◌%◌, ◌^◌, ◌<◌, ◌≤◌, Bool, true, false, cond, ltb, List, ◌∷◌, slice_index, ℤ, pos, Option, Some, None, sum_by, refl, ap, ◌∙◌, arith}
use Rattle.std.proofs.lemmas.Bool.{ltb-true}
use Rattle.std.proofs.lemmas.List.Sums.{sum_by-cons}
use Rattle.std.proofs.lemmas.Option.{none-some}
use Rattle.mv_num.specs.Words.{word_of, add, shl}
use Rattle.mv_isa.specs.declared.instr.Instr.TheVariants.{Lw, Slli}
use Rattle.mv_isa.specs.declared.labelled.Line.{Line}
use Rattle.mv_isa.specs.declared.labelled.Line.TheVariants.{Word}
use Rattle.mv_isa.specs.Code.{greatest_words}
use Rattle.mv_isa.specs.Execution.{Access, reg, put, upper}
use Rattle.mv_ir.specs.declared.stm.Array.{Array}
use Rattle.mv_ir.specs.declared.stm.Array.TheVariants as array
use Rattle.mv_ir.specs.World as ir
use Rattle.mv_ir.specs.Outcome.{State}
use Rattle.mv_ir.specs.Meaning.{elements}
use Rattle.mv_select_code.specs.Trees.TreeCode.{upper_bits, lower_bits, near}
use Rattle.mv_select_code.specs.Trees.Straight.{Sets, Straight}
use Rattle.mv_select_code.specs.Trees.View.{Changes, Gives}
use Rattle.mv_select_code.specs.declared.trees.leaves.Based.{Based}
use Rattle.mv_select_code.proofs.OfTrees.Gives.{one_gives, load_gives}
use Rattle.mv_select_code.proofs.OfTrees.Instructions.{lui_sets, lw_sets, slli_sets, add_sets}
use Rattle.mv_select_code.proofs.OfTrees.Near.{near_adds}
use Rattle.mv_select_code.proofs.OfTrees.Registers.{IsFree, free_above, put_same, put_other, changes_put, changes_both}
use Rattle.mv_select_code.proofs.OfTrees.TreesAreShort.{load_size}
use Rattle.mv_select_code.proofs.OfTrees.Words.{add_word, add_below, parts_add, upper_below}
use Rattle.mv_select_code.specs.declared.statements.elements.Home.TheVariants as home
use Rattle.mv_select_code.specs.Statements.StatementCode.{first, third, offset_by, element_offset, base_by, element_lines, fixed, element_at, fetch_lines}
use Rattle.mv_select_code.specs.Statements.Leads.{limited}
use Rattle.mv_select_code.specs.Statements.Frames.{Site, Element, IsRead, home_of, size_of, address, IsFit, Shows}
use Rattle.mv_select_code.proofs.OfStatements.FrameChanges.{frame_scratch}
use Rattle.mv_select_code.proofs.OfStatements.PlainArrays.{plain}
use Rattle.mv_select_code.proofs.OfStatements.TreesFirst.{add_small, cell_loaded}
use Rattle.mv_num.proofs.Numbers.{word_of_pos}

-- ---- places of elements

shl_two : (k : ℕ) → 4 * k < 2 ^ 32 → shl k 2 ≡ 4 * k
unfolding shl
shl_two k h = omega arith

-- an address in two parts, with an offset put in between
sum_of_parts : (k up low a : ℕ) → (up + low) % 2 ^ 32 ≡ a → a + 4 * k < 2 ^ 32 → ((4 * k + up) % 2 ^ 32 + low) % 2 ^ 32 ≡ a + 4 * k
sum_of_parts k up low a e h = omega arith

data_address : (k up low a : ℕ) → add up low ≡ a → a + 4 * k < 2 ^ 32 → add (add (4 * k) up) low ≡ a + 4 * k
unfolding add
data_address k up low a e h = sum_of_parts k up low a e h

frame_address : (k sp at : ℕ) → sp + at + 4 * k < 2 ^ 32 → add (add (4 * k) sp) at ≡ sp + at + 4 * k
unfolding add
frame_address k sp at h = omega arith

-- an index that is known is below the length
pub fixed_is : (size n : ℕ) (written : Option ℕ) → fixed size written ≡ Some n → (written ≡ Some n) × (n < size)
unfolding fixed
fixed_is size n None h = absurd (none-some n h)
fixed_is size n (Some k) h = by_test (ltb k size) refl h
  where
    by_test : (is_below : Bool) → ltb k size ≡ is_below → cond is_below (Some k) None ≡ Some n → (Some k ≡ Some n) × (n < size)
    by_test true is e = let same : k ≡ n = cc in (e, omega (arith, same, ltb-true k size is))
    by_test false is e = absurd (none-some n e)

module _ {M : Type 0} (access : Access M) (s : Site) (setting : ir.Setting) (frame : ir.Frame) (fit : IsFit s access setting frame) where
  -- what is added to the first register gives the place of the element
  pub record IsPlaced (lines : List Line) (offset : ℤ) (a : ℕ) (l : State) (regs : List ℕ) (m : M) : Type 0 where
    pub after : List ℕ
    pub runs : Straight (limited access s) m s.entry lines regs after
    pub to : add (reg after first) (word_of offset) ≡ a
    pub beside : (w : ℕ) → w ≢ first → w ≢ third → reg after w ≡ reg regs w
    pub shown : Shows s access l after m

  -- an array's place that is reached by gp or tp, and one that isn't
  data_placed : (at q k : ℕ) (l : State) (regs : List ℕ) (m : M) → at + 4 * k < 2 ^ 32 → reg regs q ≡ k → Shows s access l regs m → IsPlaced (element_lines (home.Data at) q) (element_offset (home.Data at)) (at + 4 * k) l regs m
  data_placed at q k l regs m small index f = by_base (near at) refl
    where
      scaled : List ℕ
      scaled = put regs first (4 * k)

      free : IsFree first
      free = free_above first (omega arith) (omega arith)

      change : Changes 28 32 regs scaled
      change = changes_put 28 32 first (4 * k) regs f.are (omega arith) (omega arith) free (omega arith)

      scales : Sets (limited access s) m (Slli first q (pos 2)) regs scaled
      scales = slli_sets (limited access s) m first q (pos 2) regs k 2 (4 * k) index (word_of_pos 2 (omega arith)) (shl_two k (omega arith))

      holds : reg scaled first ≡ 4 * k
      holds = put_same regs first (4 * k) (omega arith) (omega (arith, f.are.count))

      shown : (b : List ℕ) → Changes 28 32 scaled b → Shows s access l b m
      shown b c = frame_scratch s access fit.left fit.seats 28 32 l regs b m (inr (omega arith, omega arith)) (changes_both 28 32 regs scaled b change c) f

      by_base : (base : Option Based) → near at ≡ base → IsPlaced (Word (Slli first q (pos 2)) ∷ base_by base at) (offset_by base at) (at + 4 * k) l regs m
      by_base (Some n) is =
          let base = reg scaled n.base in
          let mix = add (4 * k) base in
          let after = put scaled first mix in
          record {
            after = after;
            runs = (scaled, scales, (after, add_sets (limited access s) m first first n.base scaled (4 * k) base mix holds refl refl, refl));
            to = ap (λ z. add z (word_of n.offset)) (put_same scaled first mix (omega arith) (omega (arith, change.are.count))) ∙ data_address k base (word_of n.offset) at (near_adds at n is scaled change.are) small;
            beside = λ w ne other. put_other scaled first w mix (omega arith) ne ∙ put_other regs first w (4 * k) (omega arith) ne;
            shown = shown after (changes_put 28 32 first mix scaled change.are (omega arith) (omega arith) free (add_below (4 * k) base));
          }
      by_base None is =
          let up = upper (pos (upper_bits at)) in
          let mix = add (4 * k) up in
          let mid = put scaled third up in
          let after = put mid first mix in
          let c2 = changes_put 28 32 third up scaled change.are (omega arith) (omega arith) (free_above third (omega arith) (omega arith)) (upper_below at) in
          let c3 = changes_put 28 32 first mix mid c2.are (omega arith) (omega arith) free (add_below (4 * k) up) in
          let adds = add_sets (limited access s) m first first third mid (4 * k) up mix
          (put_other scaled third first up (omega arith) (λ e. omega arith) ∙ holds)
          (put_same scaled third up (omega arith) (omega (arith, change.are.count))) refl in
          record {
            after = after;
            runs = (scaled, scales, (mid, lui_sets (limited access s) m third (pos (upper_bits at)) scaled up refl, (after, adds, refl)));
            to = ap (λ z. add z (word_of (lower_bits at))) (put_same mid first mix (omega arith) (omega (arith, c2.are.count))) ∙ data_address k up (word_of (lower_bits at)) at (parts_add at (omega arith)) small;
            beside = λ w ne other. put_other mid first w mix (omega arith) ne ∙ put_other scaled third w up (omega arith) other ∙ put_other regs first w (4 * k) (omega arith) ne;
            shown = shown after (changes_both 28 32 scaled mid after c2 c3);
          }

  frame_placed : (a q k : ℕ) (l : State) (regs : List ℕ) (m : M) → s.register 2 + s.array_at a + 4 * k < 2 ^ 32 → reg regs q ≡ k → Shows s access l regs m
      → IsPlaced (element_lines (home.Frame (s.array_at a)) q) (element_offset (home.Frame (s.array_at a))) (s.register 2 + s.array_at a + 4 * k) l regs m
  frame_placed a q k l regs m small index f =
      let at = s.array_at a in
      let sp = s.register 2 in
      let free = free_above first (omega arith) (omega arith) in
      let mix = add (4 * k) sp in
      let r1 = put regs first (4 * k) in
      let r2 = put r1 first mix in
      let c1 = changes_put 28 32 first (4 * k) regs f.are (omega arith) (omega arith) free (omega arith) in
      let c2 = changes_put 28 32 first mix r1 c1.are (omega arith) (omega arith) free (add_below (4 * k) sp) in
      let stack : reg r1 2 ≡ sp = put_other regs first 2 (4 * k) (omega arith) (λ e. omega arith) ∙ f.left 2 fit.left.stack in
      let s1 = slli_sets (limited access s) m first q (pos 2) regs k 2 (4 * k) index (word_of_pos 2 (omega arith)) (shl_two k (omega arith)) in
      let s2 = add_sets (limited access s) m first first 2 r1 (4 * k) sp mix (put_same regs first (4 * k) (omega arith) (omega (arith, f.are.count))) stack refl in
      record {
        after = r2;
        runs = (r1, s1, (r2, s2, refl));
        to = ap (λ z. add z (word_of (pos at))) (put_same r1 first mix (omega arith) (omega (arith, c1.are.count))) ∙ add_word mix at ∙ frame_address k sp at small;
        beside = λ w ne other. put_other r1 first w mix (omega arith) ne ∙ put_other regs first w (4 * k) (omega arith) ne;
        shown = frame_scratch s access fit.left fit.seats 28 32 l regs r2 m (inr (omega arith, omega arith)) (changes_both 28 32 regs r1 r2 c1 c2) f;
      }

  pub element_placed : (a : Array) (q k : ℕ) (l : State) (regs : List ℕ) (m : M) → k < size_of s a → reg regs q ≡ k → Shows s access l regs m
      → IsPlaced (element_lines (home_of s a) q) (element_offset (home_of s a)) (address s (Element (plain a) k)) l regs m
  element_placed (array.Global g) q k l regs m lt index f = data_placed (s.seats.place g) q k l regs m (fit.addresses (Element (array.Global g) k) lt) index f
  element_placed (array.Local a) q k l regs m lt index f = frame_placed a q k l regs m (fit.addresses (Element (array.Local a) k) lt) index f
  element_placed (array.SureGlobal g n) q k l regs m lt index f = data_placed (s.seats.place g) q k l regs m (fit.addresses (Element (array.Global g) k) lt) index f
  element_placed (array.SureLocal a n) q k l regs m lt index f = frame_placed a q k l regs m (fit.addresses (Element (array.Local a) k) lt) index f

  base_size : (base : Option Based) (at : ℕ) → sum_by greatest_words (base_by base at) ≤ 2
  base_size (Some n) at = omega arith
  base_size None at = omega arith

  data_size : (at q : ℕ) → sum_by greatest_words (element_lines (home.Data at) q) ≤ 3
  data_size at q = omega (arith, base_size (near at) at, sum_by-cons greatest_words (Word (Slli first q (pos 2))) (base_by (near at) at))

  pub element_size : (a : Array) (q : ℕ) → sum_by greatest_words (element_lines (home_of s a) q) ≤ 3
  element_size (array.Global g) q = data_size (s.seats.place g) q
  element_size (array.Local a) q = omega arith
  element_size (array.SureGlobal g n) q = data_size (s.seats.place g) q
  element_size (array.SureLocal a n) q = omega arith

  -- ---- at an index that is known

  abbrev FetchedFrom : Array → Type 0
  FetchedFrom a = (k d : ℕ) (l : State) (regs : List ℕ) (m : M) → IsRead s a → k < size_of s a → IsFree d → Shows s access l regs m
      → Gives (limited access s) m s.entry d (d + 1) d (slice_index (elements a l) k) (fetch_lines (element_at (home_of s a) k) d) regs

  global_fetched : (g : ℕ) → FetchedFrom (array.Global g)
  global_fetched g k d l regs m may lt free f =
      let x = Element (array.Global g) k in
      let at = s.seats.place g in
      let small = fit.addresses x lt in
      let same = add_small at (4 * k) small in
      let v = slice_index (elements (array.Global g) l) k in
      load_gives (limited access s) m s.entry d (d + 1) d (add at (4 * k)) v regs f.are (record { from = omega arith; below = omega arith; free = free }) (omega (arith, same, small)) (f.words x lt)
      (ap (λ a. (limited access s).load m a 4) same ∙ cell_loaded access s setting frame fit m x v lt may (f.in_memory x lt))

  local_fetched : (a : ℕ) → FetchedFrom (array.Local a)
  local_fetched a k d l regs m may lt free f =
      let x = Element (array.Local a) k in
      let at = s.array_at a + 4 * k in
      let sp = s.register 2 in
      let same : sp + at ≡ address s x = omega arith in
      let small : sp + at < 2 ^ 32 = omega (arith, same, fit.addresses x lt) in
      let to : add (reg regs 2) (word_of (pos at)) ≡ address s x = add_word (reg regs 2) at ∙ ap (λ z. add z at) (f.left 2 fit.left.stack) ∙ add_small sp at small ∙ same in
      let v = slice_index (elements (array.Local a) l) k in
      one_gives (limited access s) m s.entry d (d + 1) d v (Lw d 2 (pos at)) regs f.are (record { from = omega arith; below = omega arith; free = free }) (f.words x lt)
      (lw_sets (limited access s) m d 2 (pos at) regs (address s x) v to (cell_loaded access s setting frame fit m x v lt may (f.in_memory x lt)))

  pub element_fetched : (a : Array) → FetchedFrom a
  element_fetched (array.Global g) = global_fetched g
  element_fetched (array.Local a) = local_fetched a
  element_fetched (array.SureGlobal g n) = global_fetched g
  element_fetched (array.SureLocal a n) = local_fetched a

  pub fetch_size : (a : Array) (k d : ℕ) → sum_by greatest_words (fetch_lines (element_at (home_of s a) k) d) ≤ 2
  fetch_size (array.Global g) k d = load_size (add (s.seats.place g) (4 * k)) d
  fetch_size (array.Local a) k d = omega arith
  fetch_size (array.SureGlobal g n) k d = load_size (add (s.seats.place g) (4 * k)) d
  fetch_size (array.SureLocal a n) k d = omega arith
