-- Trees of a frame: their values come into registers, and the frame is still shown. What is then put into a temporary or into a cell.
use Rattle.std.proofs.Common.{inr, refl, ◌≡◌, ◌≢◌, ◌⊎◌, inl, ⊎_elim, ℕ, ◌+◌, ◌^◌, ◌<◌, ◌≤◌, true, cond, List, slice_index, pos, ℤ, Option, Some, None, ap, ◌∙◌, subst, arith}
use Rattle.mv_num.specs.Words.{word_of, add}
use Rattle.mv_isa.specs.declared.instr.Instr.{Instr}
use Rattle.mv_isa.specs.declared.instr.Instr.TheVariants.{Sw}
use Rattle.mv_isa.specs.Execution.{Access, reg, put}
use Rattle.mv_ir.specs.declared.tree.Tree.{Tree}
use Rattle.mv_ir.specs.declared.stm.Array.TheVariants as array
use Rattle.mv_ir.specs.World as ir
use Rattle.mv_ir.specs.Outcome.{State}
use Rattle.mv_ir.specs.Trees.{depth, scalar}
use Rattle.mv_ir.specs.Meaning.{of_tree, with_temp}
use Rattle.mv_select_code.specs.Trees.TreeCode.{Seats, temp_offset, tree_lines, operand_lines, operand_register}
use Rattle.mv_select_code.specs.Trees.Straight.{Straight}
use Rattle.mv_select_code.specs.Trees.View.{AreScratch, AreSeats, Changes, HoldsTemps, HoldsNamed}
use Rattle.mv_select_code.proofs.OfTrees.Instructions.{addi_sets}
use Rattle.mv_select_code.proofs.OfTrees.Operands.{operand_stands}
use Rattle.mv_select_code.proofs.OfTrees.Registers.{InFrame, frame_outside, changes_wider, scratch_part}
use Rattle.mv_select_code.proofs.OfTrees.TreesRun.{trees_run, operands_stand}
use Rattle.mv_select_code.proofs.OfTrees.Words.{zero_add, add_word}
use Rattle.mv_select_code.specs.Statements.StatementCode.{write_to, write_temp}
use Rattle.mv_select_code.specs.Statements.Leads.{limited, Moves}
use Rattle.mv_select_code.specs.Statements.Frames.{Site, Cell, TempCell, Element, IsLoaded, IsOwn, address, IsThere, content, view_of, IsFine, IsFit, Shows}
use Rattle.mv_select_code.proofs.OfStatements.FrameChanges.{Updates, updates_temp, frame_scratch, frame_register, frame_stored}
use Rattle.mv_select_code.proofs.OfStatements.Walks.{sw_moves}
use Rattle.mv_num.proofs.Numbers.{word_of_pos}

pub add_small : (a b : ℕ) → a + b < 2 ^ 32 → add a b ≡ a + b
unfolding add
add_small a b h = omega arith

-- an operand doesn't stand in other scratch registers than its own
pub operand_aside : (s : Seats) → AreSeats s → (t : Tree) (r lo hi : ℕ) → AreScratch lo hi → (r < lo) ⊎ (hi ≤ r) → (operand_register s t r < lo) ⊎ (hi ≤ operand_register s t r)
operand_aside s seats t r lo hi scratch outside =
    let q = operand_register s t r in
    ⊎_elim (λ (h : q ≡ r). ⊎_elim (λ (l : r < lo). inl (omega arith)) (λ (u : hi ≤ r). inr (omega arith)) outside) (λ (h : InFrame q). frame_outside lo hi q scratch h) (operand_stands s seats t r)

pub operand_beside : (s : Seats) → AreSeats s → (t : Tree) (r c : ℕ) → AreScratch c (c + 1) → (r < c) ⊎ (c + 1 ≤ r) → operand_register s t r ≢ c
operand_beside s seats t r c scratch outside e =
    let q = operand_register s t r in
    ⊎_elim (λ (l : q < c). omega arith) (λ (u : c + 1 ≤ q). omega arith) (operand_aside s seats t r c (c + 1) scratch outside)

module _ {M : Type 0} (access : Access M) (s : Site) (setting : ir.Setting) (frame : ir.Frame) (fit : IsFit s access setting frame) where
  abbrev Sh : State → List ℕ → M → Type 0
  Sh = Shows s access

  -- a cell that the code may load
  pub cell_loaded : (m : M) (x : Cell) (v : ℕ) → IsThere s x → IsLoaded s x → access.load m (address s x) 4 ≡ Some v → (limited access s).load m (address s x) 4 ≡ Some v
  cell_loaded m x v there may e = ap (λ b. cond b (access.load m (address s x) 4) None) (fit.loads x there may) ∙ e

  pub temps_held : (l : State) (regs : List ℕ) (m : M) → Sh l regs m → HoldsTemps (limited access s) m (view_of s setting frame l) regs
  temps_held l regs m f = record {
    seats = fit.seats;
    words = λ t p. word t (omega (arith, p, f.count)) (s.seats.register t) refl;
    in_register = λ t q p h. f.in_register t q (omega (arith, p, f.count)) h;
    pinned = f.pinned;
    in_frame = λ t p h. loaded t (h, omega (arith, p, f.count));
  }
    where
      word : (t : ℕ) → t < s.temps → (place : Option ℕ) → s.seats.register t ≡ place → slice_index l.temps t < 2 ^ 32
      word t p None h = f.words (TempCell t) (h, p)
      word t p (Some q) h = f.temp_words t q p h

      loaded : (t : ℕ) → IsThere s (TempCell t) → (limited access s).load m (add (reg regs 2) (temp_offset t)) 4 ≡ Some (slice_index l.temps t)
      loaded t h =
          ap (λ a. (limited access s).load m a 4) (ap (λ x. add x (temp_offset t)) (f.left 2 fit.left.stack) ∙ add_small (s.register 2) (temp_offset t) (fit.addresses (TempCell t) h))
          ∙ cell_loaded m (TempCell t) (slice_index l.temps t) h tt (f.in_memory (TempCell t) h)

  pub named_held : (l : State) (regs : List ℕ) (m : M) → Sh l regs m → HoldsNamed (limited access s) m (view_of s setting frame l)
  named_held l regs m f = record {
    places = λ g k. omega (arith, fit.addresses (Element (array.Global g) 0) (fit.has_word g k));
    words = λ g k. f.words (Element (array.Global g) 0) (fit.has_word g k);
    loads = λ g k. loaded g k;
    free = fit.free;
    entries = fit.entries;
    entry_words = fit.entry_words;
  }
    where
      loaded : (g : ℕ) → s.reach.is_read g ≡ true → (limited access s).load m (s.seats.place g) 4 ≡ Some (scalar l.world.globals g)
      loaded g k =
          let same : s.seats.place g ≡ address s (Element (array.Global g) 0) = omega arith in
          ap (λ a. (limited access s).load m a 4) same ∙ cell_loaded m (Element (array.Global g) 0) (scalar l.world.globals g) (fit.has_word g k) k (f.in_memory (Element (array.Global g) 0) (fit.has_word g k))

  -- a tree's value stands in a register, and the frame is shown as before
  pub record HasValue (r : ℕ) (t : Tree) (l : State) (regs : List ℕ) (m : M) : Type 0 where
    pub after : List ℕ
    pub runs : Straight (limited access s) m s.entry (tree_lines s.seats t r) regs after
    pub changes : Changes r (r + 4) regs after
    pub holds : reg after r ≡ of_tree setting frame t l
    pub below : of_tree setting frame t l < 2 ^ 32
    pub shown : Sh l after m

  pub tree_first : (r : ℕ) (t : Tree) (l : State) (regs : List ℕ) (m : M) → AreScratch r (r + 4) → IsFine s setting frame t → Sh l regs m → HasValue r t l regs m
  tree_first r t l regs m scratch fine f =
      let low = fine.shallow in
      let part = scratch_part r (r + 4) r (r + depth t) (omega arith) (omega arith) scratch in
      let g = trees_run _ (limited access s) m (view_of s setting frame l) (named_held l regs m f) t r regs (fine.named l f.count) f.are (temps_held l regs m f) part in
      record {
        after = g.after;
        runs = g.runs;
        changes = changes_wider r (r + depth t) r (r + 4) regs g.after (omega arith) (omega arith) g.changes;
        holds = g.holds;
        below = subst (λ z. z < 2 ^ 32) g.holds (g.changes.are.words r);
        shown = frame_scratch s access fit.left fit.seats r (r + depth t) l regs g.after m part g.changes f;
      }

  -- The same where the tree's value may stay in its own register.
  pub record HasOperand (r : ℕ) (t : Tree) (l : State) (regs : List ℕ) (m : M) : Type 0 where
    pub after : List ℕ
    pub runs : Straight (limited access s) m s.entry (operand_lines s.seats t r) regs after
    pub changes : Changes r (r + 4) regs after
    pub holds : reg after (operand_register s.seats t r) ≡ of_tree setting frame t l
    pub below : of_tree setting frame t l < 2 ^ 32
    pub shown : Sh l after m

  -- where there are as many registers as the tree is deep
  pub operand_within : (r : ℕ) (t : Tree) (l : State) (regs : List ℕ) (m : M) → AreScratch r (r + depth t) → IsFine s setting frame t → Sh l regs m → HasOperand r t l regs m
  operand_within r t l regs m part fine f =
      let low = fine.shallow in
      let g = operands_stand _ (limited access s) m (view_of s setting frame l) (named_held l regs m f) t r regs (fine.named l f.count) f.are (temps_held l regs m f) part in
      record {
        after = g.after;
        runs = g.runs;
        changes = changes_wider r (r + depth t) r (r + 4) regs g.after (omega arith) (omega arith) g.changes;
        holds = g.holds;
        below = subst (λ z. z < 2 ^ 32) g.holds (g.changes.are.words (operand_register s.seats t r));
        shown = frame_scratch s access fit.left fit.seats r (r + depth t) l regs g.after m part g.changes f;
      }

  pub operand_first : (r : ℕ) (t : Tree) (l : State) (regs : List ℕ) (m : M) → AreScratch r (r + 4) → IsFine s setting frame t → Sh l regs m → HasOperand r t l regs m
  operand_first r t l regs m scratch fine =
      let low = fine.shallow in
      operand_within r t l regs m (scratch_part r (r + 4) r (r + depth t) (omega arith) (omega arith) scratch) fine

  -- an instruction shows a state
  pub record Makes (i : Instr) (l : State) (regs : List ℕ) (m : M) : Type 0 where
    pub after : List ℕ
    pub memory : M
    pub moves : Moves access s i regs m after memory
    pub shown : Sh l after memory

  -- a word is stored to a cell
  pub cell_written : (rs1 rs2 : ℕ) (imm : ℤ) (x : Cell) (v : ℕ) (l l' : State) (regs : List ℕ) (m : M)
      → add (reg regs rs1) (word_of imm) ≡ address s x → reg regs rs2 ≡ v → v < 2 ^ 32 → IsOwn s x → IsThere s x → Updates s l l' x v → Sh l regs m → Makes (Sw rs1 rs2 imm) l' regs m
  cell_written rs1 rs2 imm x v l l' regs m a e b own there u f =
      let st = fit.stores m x v (content s l x) there b (f.in_memory x there) in
      record {
        after = regs;
        memory = st.after;
        moves = (sw_moves (limited access s) s rs1 rs2 imm regs m st.after (address s x) v a e st.stored, inr (x, v, own, there, b, st.stored));
        shown = frame_stored s access setting frame fit l l' regs m x v there b u st f;
      }

  -- a register's value goes into a temporary
  pub temp_written : (t r v : ℕ) (l : State) (regs : List ℕ) (m : M) → t < s.temps → v < 2 ^ 32 → reg regs r ≡ v → Sh l regs m → Makes (write_temp s.seats t r) (with_temp l t v) regs m
  unfolding write_temp
  temp_written t r v l regs m lt b e f = by_place (s.seats.register t) refl
    where
      by_place : (place : Option ℕ) → s.seats.register t ≡ place → Makes (write_to place t r) (with_temp l t v) regs m
      by_place (Some q) is = record {
        after = put regs q v;
        memory = m;
        moves = (addi_sets (limited access s) m q r (pos 0) regs v 0 v e (word_of_pos 0 (omega arith)) (zero_add v b), inl refl);
        shown = frame_register s access fit.left fit.seats l regs m t q v lt is b f;
      }
      by_place None is =
          let a : add (reg regs 2) (word_of (pos (temp_offset t))) ≡ address s (TempCell t) =
          add_word (reg regs 2) (temp_offset t) ∙ ap (λ z. add z (temp_offset t)) (f.left 2 fit.left.stack) ∙ add_small (s.register 2) (temp_offset t) (fit.addresses (TempCell t) (is, lt)) in
          cell_written 2 r (pos (temp_offset t)) (TempCell t) v l (with_temp l t v) regs m a e b tt (is, lt) (updates_temp s l t v (omega (arith, lt, f.count)) is) f
