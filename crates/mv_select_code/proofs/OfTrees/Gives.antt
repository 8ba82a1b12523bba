-- Lines that leave a value in a register, put together of instructions that do.
use Rattle.std.proofs.Common.{◌≡◌, ◌≢◌, ◌⊎◌, inl, inr, ℕ, ◌+◌, ◌^◌, ◌<◌, ◌≤◌, List, [], ◌∷◌, ◌++◌, pos, Option, Some, None, Bool, eqb, cond, ⊎_elim, refl, sym, ap, ◌∙◌, subst, arith}
use Rattle.std.proofs.lemmas.Bool.{cases_eq, cases_lt, eq-eqb, ne_eqb}
use Rattle.mv_num.specs.Words.{word_of, add}
use Rattle.mv_isa.specs.declared.instr.Instr.{Instr}
use Rattle.mv_isa.specs.declared.instr.Instr.TheVariants.{Lui, Lw, Addi}
use Rattle.mv_isa.specs.declared.labelled.Line.{Line}
use Rattle.mv_isa.specs.declared.labelled.Line.TheVariants.{Entry}
use Rattle.mv_isa.specs.Execution.{Access, reg, put, upper}
use Rattle.mv_select_code.specs.Trees.TreeCode.{upper_bits, lower_bits, near, one, two, number_lines, load_by, load_lines, clear}
use Rattle.mv_select_code.specs.declared.trees.leaves.Based.{Based}
use Rattle.mv_select_code.specs.Trees.Straight.{Sets, Straight}
use Rattle.mv_select_code.specs.Trees.View.{AreRegisters, Changes, Gives, Leaves}
use Rattle.mv_select_code.proofs.OfTrees.Instructions.{lui_sets, lw_sets, addi_sets}
use Rattle.mv_select_code.proofs.OfTrees.Near.{near_adds}
use Rattle.mv_select_code.proofs.OfTrees.Registers.{IsFree, reg_zero, put_same, put_registers, changes_both, changes_put}
use Rattle.mv_select_code.proofs.OfTrees.Words.{parts_add, lower_add, upper_below, add_zero}
use Rattle.mv_num.proofs.Numbers.{word_of_pos}

-- a register among those that may change
pub record Within (lo hi r : ℕ) : Type 0 where
  pub from : lo ≤ r
  pub below : r < hi
  pub free : IsFree r

pub put_within : (lo hi r v : ℕ) (regs : List ℕ) → AreRegisters regs → Within lo hi r → reg (put regs r v) r ≡ v
put_within lo hi r v regs h w = put_same regs r v w.free.above (omega (arith, h.count, w.free.below))

module _ {M : Type 0} (access : Access M) (m : M) (entry : ℕ → ℕ) where
  pub straight_append : (ls ks : List Line) (a b c : List ℕ) → Straight access m entry ls a b → Straight access m entry ks b c → Straight access m entry (ls ++ ks) a c
  straight_append [] ks a b c h k = subst (λ z. Straight access m entry ks z c) h k
  straight_append (l ∷ ls) ks a b c h k = (h.0, h.1, straight_append ls ks h.0 b c h.2 k)

  module _ (lo hi : ℕ) where
    abbrev pub G : ℕ → ℕ → List Line → List ℕ → Type 0
    G = Gives access m entry lo hi

    -- lines that leave a value, after others
    pub gives_after : (r v : ℕ) (ls ks : List Line) (regs mid : List ℕ) → Straight access m entry ls regs mid → Changes lo hi regs mid → G r v ks mid → G r v (ls ++ ks) regs
    gives_after r v ls ks regs mid runs h g = record {
      after = g.after;
      runs = straight_append ls ks regs mid g.after runs g.runs;
      changes = changes_both lo hi regs mid g.after h g.changes;
      holds = g.holds;
    }

    changes_within : (r v : ℕ) (regs : List ℕ) → AreRegisters regs → Within lo hi r → v < 2 ^ 32 → Changes lo hi regs (put regs r v)
    changes_within r v regs h w b = changes_put lo hi r v regs h w.from w.below w.free b

    pub one_gives : (r v : ℕ) (i : Instr) (regs : List ℕ) → AreRegisters regs → Within lo hi r → v < 2 ^ 32 → Sets access m i regs (put regs r v) → G r v (one i) regs
    one_gives r v i regs h w b sets = record {
      after = put regs r v;
      runs = (put regs r v, sets, refl);
      changes = changes_within r v regs h w b;
      holds = put_within lo hi r v regs h w;
    }

    -- by way of a value in the same register or another
    pub two_gives : (r v q u : ℕ) (i j : Instr) (regs : List ℕ) → AreRegisters regs → Within lo hi r → v < 2 ^ 32 → Within lo hi q → u < 2 ^ 32
        → Sets access m i regs (put regs q u) → Sets access m j (put regs q u) (put (put regs q u) r v) → G r v (two i j) regs
    two_gives r v q u i j regs h w b x c first second =
        gives_after r v (one i) (one j) regs (put regs q u) (put regs q u, first, refl) (changes_within q u regs h x c)
        (one_gives r v j (put regs q u) (put_registers regs q u h x.free c) w b second)

    pub clear_gives : (r : ℕ) (regs : List ℕ) → AreRegisters regs → Within lo hi r → G r 0 (clear r) regs
    clear_gives r regs h w = one_gives r 0 (Addi r 0 (pos 0)) regs h w (omega arith) (addi_sets access m r 0 (pos 0) regs 0 0 0 (reg_zero regs) (word_of_pos 0 (omega arith)) (add_zero 0 (omega arith)))

    abbrev long_or_short : ℕ → ℕ → Bool → List Line
    long_or_short r n is_short = cond is_short (one (Addi r 0 (lower_bits n))) (two (Lui r (pos (upper_bits n))) (Addi r r (lower_bits n)))

    pub number_gives : (r n : ℕ) (regs : List ℕ) → AreRegisters regs → Within lo hi r → n < 2 ^ 32 → G r n (number_lines n r) regs
    unfolding number_lines
    number_gives r n regs h w b = ⊎_elim short long (cases_eq (upper_bits n) 0)
      where
        short : upper_bits n ≡ 0 → G r n (long_or_short r n (eqb (upper_bits n) 0)) regs
        short e =
            subst (λ is_short. G r n (long_or_short r n is_short) regs) (sym (eq-eqb (upper_bits n) 0 e))
            (one_gives r n (Addi r 0 (lower_bits n)) regs h w b (addi_sets access m r 0 (lower_bits n) regs 0 (word_of (lower_bits n)) n (reg_zero regs) refl (lower_add n b e)))

        long : (upper_bits n ≡ 0 → ⊥) → G r n (long_or_short r n (eqb (upper_bits n) 0)) regs
        long ne =
            let up = upper (pos (upper_bits n)) in
            subst (λ is_short. G r n (long_or_short r n is_short) regs) (sym (ne_eqb (upper_bits n) 0 ne))
            (two_gives r n r up (Lui r (pos (upper_bits n))) (Addi r r (lower_bits n)) regs h w b w (upper_below n)
            (lui_sets access m r (pos (upper_bits n)) regs up refl)
            (addi_sets access m r r (lower_bits n) (put regs r up) up (word_of (lower_bits n)) n (put_within lo hi r up regs h w) refl (parts_add n b)))

    pub entry_gives : (r f : ℕ) (regs : List ℕ) → AreRegisters regs → Within lo hi r → entry f < 2 ^ 32 → G r (entry f) (Entry r f ∷ []) regs
    entry_gives r f regs h w b = record {
      after = put regs r (entry f);
      runs = (put regs r (entry f), refl, refl);
      changes = changes_within r (entry f) regs h w b;
      holds = put_within lo hi r (entry f) regs h w;
    }

    pub load_gives : (r a v : ℕ) (regs : List ℕ) → AreRegisters regs → Within lo hi r → a < 2 ^ 32 → v < 2 ^ 32 → access.load m a 4 ≡ Some v → G r v (load_lines a r) regs
    unfolding load_lines
    load_gives r a v regs h w b k e = by_base (near a) refl
      where
        by_base : (base : Option Based) → near a ≡ base → G r v (load_by base a r) regs
        by_base (Some n) is = one_gives r v (Lw r n.base n.offset) regs h w k (lw_sets access m r n.base n.offset regs a v (near_adds a n is regs h) e)
        by_base None is =
            let up = upper (pos (upper_bits a)) in
            two_gives r v r up (Lui r (pos (upper_bits a))) (Lw r r (lower_bits a)) regs h w k w (upper_below a)
            (lui_sets access m r (pos (upper_bits a)) regs up refl)
            (lw_sets access m r r (lower_bits a) (put regs r up) a v (ap (λ z. add z (word_of (lower_bits a))) (put_within lo hi r up regs h w) ∙ parts_add a b) e)

    -- ---- lines that change one register besides some from lo to below hi

    -- nothing but that one
    pub leaves_alone : (d v : ℕ) (ls : List Line) (regs : List ℕ) → Gives access m entry d (d + 1) d v ls regs → Leaves access m entry lo hi d v ls regs
    leaves_alone d v ls regs g = record {
      after = g.after;
      runs = g.runs;
      are = g.changes.are;
      others = λ q o ne. g.changes.others q (apart q ne (cases_lt q d));
      holds = g.holds;
    }
      where
        apart : (q : ℕ) → q ≢ d → (q < d) ⊎ (d ≤ q) → (q < d) ⊎ (d + 1 ≤ q)
        apart q ne (inl l) = inl l
        apart q ne (inr l) = inr (grind (arith, ne))

    pub leaves_after : (d v : ℕ) (ls ks : List Line) (regs mid : List ℕ) → Straight access m entry ls regs mid → Changes lo hi regs mid → Leaves access m entry lo hi d v ks mid
        → Leaves access m entry lo hi d v (ls ++ ks) regs
    leaves_after d v ls ks regs mid runs h g = record {
      after = g.after;
      runs = straight_append ls ks regs mid g.after runs g.runs;
      are = g.are;
      others = λ q o ne. g.others q o ne ∙ h.others q o;
      holds = g.holds;
    }

    pub leaves_within : (d v : ℕ) (ls : List Line) (regs : List ℕ) → lo ≤ d → d < hi → Leaves access m entry lo hi d v ls regs → G d v ls regs
    leaves_within d v ls regs p q g = record {
      after = g.after;
      runs = g.runs;
      changes = record { are = g.are; others = λ x o. g.others x o (⊎_elim (λ (l : x < lo) (e : x ≡ d). omega arith) (λ (l : hi ≤ x) (e : x ≡ d). omega arith) o) };
      holds = g.holds;
    }
