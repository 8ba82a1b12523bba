-- Stores to a word of memory: at an address, and where an element stands.
use Rattle.std.proofs.Common.{◌≡◌, ◌≢◌, inl, ℕ, ◌+◌, ◌*◌, ◌^◌, ◌<◌, List, pos, Option, Some, None, refl, ap, ◌∙◌, arith}
use Rattle.mv_num.specs.Words.{word_of, add}
use Rattle.mv_isa.specs.declared.instr.Instr.TheVariants.{Lui, Sw}
use Rattle.mv_isa.specs.declared.labelled.Line.{Line}
use Rattle.mv_isa.specs.Execution.{Access, reg, put, upper}
use Rattle.mv_ir.specs.declared.stm.Array.{Array}
use Rattle.mv_ir.specs.declared.stm.Array.TheVariants as array
use Rattle.mv_ir.specs.World as ir
use Rattle.mv_ir.specs.Outcome.{State}
use Rattle.mv_select_code.specs.Trees.TreeCode.{upper_bits, lower_bits, near, one}
use Rattle.mv_select_code.specs.declared.trees.leaves.Based.{Based}
use Rattle.mv_select_code.proofs.OfTrees.Instructions.{lui_sets}
use Rattle.mv_select_code.proofs.OfTrees.Near.{near_adds}
use Rattle.mv_select_code.proofs.OfTrees.Registers.{free_above, put_same, put_other, changes_put}
use Rattle.mv_select_code.proofs.OfTrees.Words.{add_word, parts_add, upper_below}
use Rattle.mv_select_code.specs.Statements.StatementCode.{second, element_at, store_by, store_lines, put_lines}
use Rattle.mv_select_code.specs.Statements.Leads.{Past, limited, Leads}
use Rattle.mv_select_code.specs.Statements.Frames.{Site, Cell, Element, IsWritten, IsOwn, IsThere, address, home_of, size_of, IsFit, Shows}
use Rattle.mv_select_code.proofs.OfStatements.FrameChanges.{Updates, frame_scratch}
use Rattle.mv_select_code.proofs.OfStatements.PlainArrays.{plain}
use Rattle.mv_select_code.proofs.OfStatements.TreesFirst.{add_small, cell_written}
use Rattle.mv_select_code.proofs.OfStatements.Walks.{leads_more, leads_one, leads_next}

module _ {M : Type 0} (access : Access M) (s : Site) (setting : ir.Setting) (frame : ir.Frame) (fit : IsFit s access setting frame) where
  -- lines show a state, in at most two instructions
  pub record Puts (lines : List Line) (l : State) (regs : List ℕ) (m : M) : Type 0 where
    pub after : List ℕ
    pub memory : M
    pub leads : Leads access s lines 2 regs m Past after memory
    pub shown : Shows s access l after memory

  module _ (x : Cell) (v : ℕ) (below : v < 2 ^ 32) (own : IsOwn s x) (there : IsThere s x) (l l' : State) (updates : Updates s l l' x v) (q : ℕ) (m : M) where
    pub stored_at : (at : ℕ) (regs : List ℕ) → at ≡ address s x → q ≢ second → reg regs q ≡ v → Shows s access l regs m → Puts (store_lines at q) l' regs m
    unfolding store_lines
    stored_at at regs same beside value f = by_base (near at) refl
      where
        small : at < 2 ^ 32
        small = let bound = fit.addresses x there in omega arith

        by_base : (base : Option Based) → near at ≡ base → Puts (store_by base at q) l' regs m
        by_base (Some n) is =
            let w = cell_written access s setting frame fit n.base q n.offset x v l l' regs m (near_adds at n is regs f.are ∙ same) value below own there updates f in
            let store = Sw n.base q n.offset in
            record { after = w.after; memory = w.memory; leads = leads_more access s (one store) 1 2 regs m Past w.after w.memory (omega arith) (leads_one access s store regs m w.after w.memory w.moves); shown = w.shown }
        by_base None is =
            let up = upper (pos (upper_bits at)) in
            let mid = put regs second up in
            let changes = changes_put 5 6 second up regs f.are (omega arith) (omega arith) (free_above second (omega arith) (omega arith)) (upper_below at) in
            let shown = frame_scratch s access fit.left fit.seats 5 6 l regs mid m (inl (omega arith, omega arith)) changes f in
            let to : add (reg mid second) (word_of (lower_bits at)) ≡ address s x =
            ap (λ z. add z (word_of (lower_bits at))) (put_same regs second up (omega arith) (omega (arith, f.are.count))) ∙ parts_add at small ∙ same in
            let held : reg mid q ≡ v = put_other regs second q up (omega arith) beside ∙ value in
            let w = cell_written access s setting frame fit second q (lower_bits at) x v l l' mid m to held below own there updates shown in
            let high = Lui second (pos (upper_bits at)) in
            let store = Sw second q (lower_bits at) in
            record {
              after = w.after;
              memory = w.memory;
              leads = leads_next access s high (one store) 1 regs m mid m Past w.after w.memory (lui_sets (limited access s) m second (pos (upper_bits at)) regs up refl, inl refl)
                  (leads_one access s store mid m w.after w.memory w.moves);
              shown = w.shown;
            }

  -- to an element at an index that is known
  abbrev PutsAt : Array → Type 0
  PutsAt a = (k v : ℕ) (l l' : State) (q : ℕ) (regs : List ℕ) (m : M) → v < 2 ^ 32 → IsWritten s a → k < size_of s a → Updates s l l' (Element (plain a) k) v
      → q ≢ second → reg regs q ≡ v → Shows s access l regs m → Puts (put_lines (element_at (home_of s a) k) q) l' regs m

  global_put : (g : ℕ) → PutsAt (array.Global g)
  global_put g k v l l' q regs m below own there updates beside value f =
      stored_at (Element (array.Global g) k) v below own there l l' updates q m (add (s.seats.place g) (4 * k)) regs (add_small (s.seats.place g) (4 * k) (fit.addresses (Element (array.Global g) k) there)) beside value f

  local_put : (a : ℕ) → PutsAt (array.Local a)
  local_put a k v l l' q regs m below own there updates beside value f =
      let at = s.array_at a + 4 * k in
      let same : s.register 2 + at ≡ address s (Element (array.Local a) k) = omega arith in
      let small : s.register 2 + at < 2 ^ 32 = omega (arith, same, fit.addresses (Element (array.Local a) k) there) in
      let to : add (reg regs 2) (word_of (pos at)) ≡ address s (Element (array.Local a) k) =
      add_word (reg regs 2) at ∙ ap (λ z. add z at) (f.left 2 fit.left.stack) ∙ add_small (s.register 2) at small ∙ same in
      let w = cell_written access s setting frame fit 2 q (pos at) (Element (array.Local a) k) v l l' regs m to value below own there updates f in
      let store = Sw 2 q (pos at) in
      record { after = w.after; memory = w.memory; leads = leads_more access s (one store) 1 2 regs m Past w.after w.memory (omega arith) (leads_one access s store regs m w.after w.memory w.moves); shown = w.shown }

  pub element_put : (a : Array) → PutsAt a
  element_put (array.Global g) = global_put g
  element_put (array.Local a) = local_put a
  element_put (array.SureGlobal g n) = global_put g
  element_put (array.SureLocal a n) = local_put a
