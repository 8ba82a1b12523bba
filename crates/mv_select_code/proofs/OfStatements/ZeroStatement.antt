-- The code that makes an array of the frame 0: what comes before its loop, and one turn of it.
use Rattle.std.proofs.Common.{◌≡◌, inl, inr, ℕ, zero, suc, ◌+◌, ◌*◌, ◌%◌, ◌<◌, ◌^◌, List, [], ◌∷◌, length, get_or, set, map, slice_set, pos, refl, sym, ap, ◌∙◌, subst, arith}
use Rattle.std.proofs.lemmas.List.{set-set}
use Rattle.mv_num.specs.Words.{word_of, add}
use Rattle.mv_isa.specs.declared.instr.Instr.TheVariants.{Sw, Addi}
use Rattle.mv_isa.specs.Execution.{Access, reg, put}
use Rattle.mv_ir.specs.declared.stm.Array.TheVariants as array
use Rattle.mv_ir.specs.World as ir
use Rattle.mv_ir.specs.Outcome.{State}
use Rattle.mv_ir.specs.Meaning.{elements, with_elements}
use Rattle.mv_select_code.specs.Trees.TreeCode.{one}
use Rattle.mv_select_code.specs.Trees.View.{AreScratch}
use Rattle.mv_select_code.proofs.OfTrees.Instructions.{addi_sets}
use Rattle.mv_select_code.proofs.OfTrees.Registers.{reg_zero, put_same, put_other, changes_put, scratch_free}
use Rattle.mv_select_code.proofs.OfTrees.Words.{add_below, add_word, zero_add}
use Rattle.mv_select_code.specs.Statements.StatementCode.{first, second, bounds_lines, clear_lines}
use Rattle.mv_select_code.specs.Statements.Leads.{limited, Past}
use Rattle.mv_select_code.specs.Statements.Frames.{Site, Element, address, content, IsFit, Shows}
use Rattle.mv_select_code.specs.Statements.Laws.{cleared, IsCleared, Clears}
use Rattle.mv_select_code.proofs.OfStatements.FrameChanges.{elements_same, updates_element, frame_scratch, frame_stored}
use Rattle.mv_select_code.proofs.OfStatements.TreesFirst.{add_small}
use Rattle.mv_select_code.proofs.OfStatements.Walks.{leads_one, leads_next, sw_moves}
use Rattle.mv_num.proofs.Numbers.{word_of_pos}

cleared_next : (n : ℕ) (xs : List ℕ) → set (cleared n xs) n 0 ≡ cleared (suc n) xs
cleared_next zero [] = refl
cleared_next zero (x ∷ xs) = refl
cleared_next (suc n) [] = refl
cleared_next (suc n) (x ∷ xs) = ap (λ l. 0 ∷ l) (cleared_next n xs)

pub cleared_all : (xs : List ℕ) → cleared (length xs) xs ≡ map (λ x. 0) xs
cleared_all [] = refl
cleared_all (x ∷ xs) = ap (λ l. 0 ∷ l) (cleared_all xs)

cleared_count : (n : ℕ) (xs : List ℕ) → length (cleared n xs) ≡ length xs
cleared_count zero xs = refl
cleared_count (suc n) [] = refl
cleared_count (suc n) (x ∷ xs) = ap suc (cleared_count n xs)

set_own : (xs : List (List ℕ)) (g : ℕ) → set xs g (get_or xs g []) ≡ xs
set_own [] g = refl
set_own (x ∷ xs) zero = refl
set_own (x ∷ xs) (suc g) = ap (λ l. x ∷ l) (set_own xs g)

-- the address of the next word
add_next : (r at n : ℕ) → r + (at + 4 * n) < 2 ^ 32 → add (r + (at + 4 * n)) 4 ≡ add r (at + 4 * suc n)
unfolding add
add_next r at n h = let e : r + (at + 4 * n) + 4 ≡ r + (at + 4 * suc n) = omega arith in ap (λ k. k % 2 ^ 32) e

module _ {M : Type 0} (access : Access M) (s : Site) (setting : ir.Setting) (frame : ir.Frame) (fit : IsFit s access setting frame) where
  -- a scratch register gets a number above another
  adds_to : (rd rs n v : ℕ) (l : State) (regs : List ℕ) (m : M) → AreScratch rd (rd + 1) → add (reg regs rs) n ≡ v → Shows s access l regs m → Shows s access l (put regs rd v) m
  adds_to rd rs n v l regs m scratch e f =
      frame_scratch s access fit.left fit.seats rd (rd + 1) l regs (put regs rd v) m scratch
      (changes_put rd (rd + 1) rd v regs f.are (omega arith) (omega arith) (scratch_free rd (rd + 1) rd scratch (omega arith) (omega arith)) (subst (λ z. z < 2 ^ 32) e (add_below (reg regs rs) n))) f

  module _ (a : ℕ) (l : State) where
    abbrev xs : List ℕ
    xs = elements (array.Local a) l

    -- the state in which the first elements are 0
    abbrev X : ℕ → State
    X n = with_elements (array.Local a) l (cleared n xs)

    none_yet : X 0 ≡ l
    none_yet = ap (λ (ys : List (List ℕ)). record l { arrays = ys }) (set_own l.arrays a)

    one_more : (n : ℕ) → n < length xs → with_elements (array.Local a) (X n) (slice_set (elements (array.Local a) (X n)) n 0) ≡ X (suc n)
    one_more n lt =
        ap (λ (ys : List (List ℕ)). record l { arrays = ys })
        (set-set l.arrays a (cleared n xs) (slice_set (elements (array.Local a) (X n)) n 0) ∙ ap (λ zs. set l.arrays a (set zs n 0)) (elements_same (array.Local a) l (cleared n xs) n lt) ∙ ap (set l.arrays a) (cleared_next n xs))

    pub bounds_done : (regs : List ℕ) (m : M) → Shows s access l regs m → Clears access s setting frame (bounds_lines (s.array_at a) (s.array_size a)) 2 regs m a 0 l
    bounds_done regs m f =
        let at = s.array_at a in
        let stop = at + 4 * s.array_size a in
        let x = add (s.register 2) at in
        let y = add (s.register 2) stop in
        let sp = f.left 2 fit.left.stack in
        let mid = put regs first x in
        let after = put mid second y in
        let low : add (reg regs 2) at ≡ x = ap (λ r. add r at) sp in
        let shown = adds_to first 2 at x l regs m (inr (omega arith, omega arith)) low f in
        let sp' = shown.left 2 fit.left.stack in
        let high : add (reg mid 2) stop ≡ y = ap (λ r. add r stop) sp' in
        let shown' = adds_to second 2 stop y l mid m (inl (omega arith, omega arith)) high shown in
        let i = Addi first 2 (pos at) in
        let j = Addi second 2 (pos stop) in (
          after,
          m,
          leads_next access s i (one j) 1 regs m mid m Past after m
              (addi_sets (limited access s) m first 2 (pos at) regs (reg regs 2) (word_of (pos at)) x refl refl (add_word (reg regs 2) at ∙ low), inl refl)
              (leads_one access s j mid m after m (addi_sets (limited access s) m second 2 (pos stop) mid (reg mid 2) (word_of (pos stop)) y refl refl (add_word (reg mid 2) stop ∙ high), inl refl)),
          record {
            size = f.sizes (array.Local a);
            shown = subst (λ (z : State). Shows s access z after m) (sym none_yet) shown';
            next = put_other mid second first y (omega arith) (λ e. omega (arith, e)) ∙ put_same regs first x (omega arith) (omega (arith, f.are.count)) ∙ ap (add (s.register 2)) here;
            stop = put_same mid second y (omega arith) (omega (arith, shown.are.count));
          },
        )
      where
        here : s.array_at a ≡ s.array_at a + 4 * 0
        here = omega arith

    pub clear_done : (n : ℕ) (regs : List ℕ) (m : M) → n < s.array_size a → IsCleared access s setting frame a n l regs m → Clears access s setting frame clear_lines 2 regs m a (n + 1) l
    clear_done n regs m there f =
        let at = s.array_at a + 4 * n in
        let size = f.size in
        let x = Element (array.Local a) n in
        let small : s.register 2 + at < 2 ^ 32 = subst (λ k. k < 2 ^ 32) (sym (moved n)) (fit.addresses x there) in
        let here : reg regs first ≡ s.register 2 + at = f.next ∙ add_small (s.register 2) at small in
        let to : add (reg regs first) (word_of (pos 0)) ≡ address s x =
        add_word (reg regs first) 0 ∙ ap (λ r. add r 0) here ∙ zero_add (s.register 2 + at) small ∙ moved n in
        let inside : n < length (elements (array.Local a) (X n)) = omega (arith, ap length (elements_same (array.Local a) l (cleared n xs) n (omega (arith, size))), cleared_count n xs, size) in
        let l' = with_elements (array.Local a) (X n) (slice_set (elements (array.Local a) (X n)) n 0) in
        let st = fit.stores m x 0 (content s (X n) x) there (omega arith) (f.shown.in_memory x there) in
        let stores = sw_moves (limited access s) s first 0 (pos 0) regs m st.after (address s x) 0 to (reg_zero regs) st.stored in
        let stored = frame_stored s access setting frame fit (X n) l' regs m x 0 there (omega arith) (updates_element s (X n) (array.Local a) n 0 inside) st f.shown in
        let next = s.register 2 + at in
        let v = add next 4 in
        let after = put regs first v in
        let moves = addi_sets (limited access s) st.after first first (pos 4) regs next 4 v here (word_of_pos 4 (omega arith)) refl in
        let shown = adds_to first first 4 v l' regs st.after (inr (omega arith, omega arith)) (ap (λ r. add r 4) here) stored in
        let suc_is : suc n ≡ n + 1 = omega arith in (
          after,
          st.after,
          leads_next access s (Sw first 0 (pos 0)) (one (Addi first first (pos 4))) 1 regs m regs st.after Past after st.after (stores, inr (x, 0, tt, there, omega arith, st.stored))
              (leads_one access s (Addi first first (pos 4)) regs st.after after st.after (moves, inl refl)),
          subst (λ k. IsCleared access s setting frame a k l after st.after) suc_is
              (record {
                size = size;
                shown = subst (λ (z : State). Shows s access z after st.after) (one_more n (omega (arith, size))) shown;
                next = put_same regs first v (omega arith) (omega (arith, f.shown.are.count)) ∙ add_next (s.register 2) (s.array_at a) n small;
                stop = put_other regs first second v (omega arith) (λ e. omega (arith, e)) ∙ f.stop;
              }),
        )
      where
        moved : (n : ℕ) → s.register 2 + (s.array_at a + 4 * n) ≡ address s (Element (array.Local a) n)
        moved n = omega arith
