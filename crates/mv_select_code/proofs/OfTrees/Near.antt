-- Addresses that gp or tp reaches.
use Rattle.std.proofs.Common.{◌≡◌, ◌⊎◌, inl, inr, ⊎_elim, ℕ, suc, ◌+◌, ◌-◌, ◌%◌, ◌^◌, ◌<◌, ◌≤◌, Bool, true, false, ◌&&◌, leb, ltb, cond, Option, Some, None, pos, negsuc, ◌-ℤ◌, List, refl, ap, ◌∙◌, subst, arith}
use Rattle.std.proofs.lemmas.Bool.{cases_lt, ltb-true, leb-true}
use Rattle.std.proofs.lemmas.Int.{ints}
use Rattle.mv_num.specs.Words.{word_of, add}
use Rattle.mv_num.specs.Regions.{data_start, gp_value, tp_value}
use Rattle.mv_num.proofs.Numbers.{word_of_pos, word_of_negsuc}
use Rattle.mv_num.proofs.Booleans.{and_left, and_right}
use Rattle.mv_isa.specs.Execution.{reg}
use Rattle.mv_isa.specs.Encoding.{IsSigned}
use Rattle.mv_isa.specs.Registers.{gp, tp}
use Rattle.mv_select_code.specs.Trees.TreeCode.{near}
use Rattle.mv_select_code.specs.Trees.View.{AreRegisters}
use Rattle.mv_select_code.specs.declared.trees.leaves.Based.{Based}

-- from 2,048 below what the register has to 2,047 above
record Reaches (value a : ℕ) : Type 0 where
  from : value ≤ a + 2048
  below : a < value + 2048

within : (from value a : ℕ) → value ≡ from + 2048 → (leb from a && ltb a (from + 4096)) ≡ true → Reaches value a
within from value a e h =
    let low = leb-true from a (and_left (leb from a) (ltb a (from + 4096)) h) in
    let high = ltb-true a (from + 4096) (and_right (leb from a) (ltb a (from + 4096)) h) in
    record { from = omega arith; below = omega arith }

offset_fits : (value a : ℕ) → Reaches value a → IsSigned (2 ^ 11) (pos a -ℤ pos value)
offset_fits value a h = let p = h.from in let q = h.below in (omega (arith, ints), omega (arith, ints))

offset_adds : (value a : ℕ) → value < 2 ^ 31 → Reaches value a → add value (word_of (pos a -ℤ pos value)) ≡ a
unfolding add
offset_adds value a l h = ⊎_elim below above (cases_lt a value)
  where
    below : a < value → (value + word_of (pos a -ℤ pos value)) % 2 ^ 32 ≡ a
    below k =
        let d = value - suc a in
        let e : pos a -ℤ pos value ≡ negsuc d = omega (arith, ints) in
        rw (e, word_of_negsuc d (omega arith)) (omega arith)

    above : value ≤ a → (value + word_of (pos a -ℤ pos value)) % 2 ^ 32 ≡ a
    above k =
        let d = a - value in
        let e : pos a -ℤ pos value ≡ pos d = omega (arith, ints) in
        let top = h.below in
        rw (e, word_of_pos d (omega arith)) (omega arith)

-- how a register reaches an address
record IsReached (n : Based) (a : ℕ) : Type 0 where
  bases : (n.base ≡ gp) ⊎ (n.base ≡ tp)
  fits : IsSigned (2 ^ 11) n.offset
  adds : (regs : List ℕ) → AreRegisters regs → add (reg regs n.base) (word_of n.offset) ≡ a

abbrev by_tp : ℕ → Bool → Option Based
by_tp a is_near = cond is_near (Some (record { base = tp; offset = pos a -ℤ pos tp_value })) None

near_is : (a : ℕ) (n : Based) → near a ≡ Some n → IsReached n a
unfolding near
near_is a n = by_gp (leb data_start a && ltb a (data_start + 4096)) refl
  where
    of_gp : Reaches gp_value a → IsReached (record { base = gp; offset = pos a -ℤ pos gp_value }) a
    of_gp h = record {
      bases = inl refl;
      fits = offset_fits gp_value a h;
      adds = λ regs are. ap (λ x. add x (word_of (pos a -ℤ pos gp_value))) are.global ∙ offset_adds gp_value a (omega arith) h;
    }

    of_tp : Reaches tp_value a → IsReached (record { base = tp; offset = pos a -ℤ pos tp_value }) a
    of_tp h = record {
      bases = inr refl;
      fits = offset_fits tp_value a h;
      adds = λ regs are. ap (λ x. add x (word_of (pos a -ℤ pos tp_value))) are.thread ∙ offset_adds tp_value a (omega arith) h;
    }

    further : (is_near : Bool) → (leb (data_start + 4096) a && ltb a (data_start + 8192)) ≡ is_near → by_tp a is_near ≡ Some n → IsReached n a
    further true h e = let same : (record { base = tp; offset = pos a -ℤ pos tp_value }) ≡ n = cc in subst (λ x. IsReached x a) same (of_tp (within (data_start + 4096) tp_value a refl h))
    further false h e = absurd cc

    by_gp : (is_near : Bool) → (leb data_start a && ltb a (data_start + 4096)) ≡ is_near
        → cond is_near (Some (record { base = gp; offset = pos a -ℤ pos gp_value })) (by_tp a (leb (data_start + 4096) a && ltb a (data_start + 8192))) ≡ Some n → IsReached n a
    by_gp true h e = let same : (record { base = gp; offset = pos a -ℤ pos gp_value }) ≡ n = cc in subst (λ x. IsReached x a) same (of_gp (within data_start gp_value a refl h))
    by_gp false h e = further (leb (data_start + 4096) a && ltb a (data_start + 8192)) refl e

pub near_adds : (a : ℕ) (n : Based) → near a ≡ Some n → (regs : List ℕ) → AreRegisters regs → add (reg regs n.base) (word_of n.offset) ≡ a
near_adds a n e = (near_is a n e).adds

pub near_fits : (a : ℕ) (n : Based) → near a ≡ Some n → IsSigned (2 ^ 11) n.offset
near_fits a n e = (near_is a n e).fits

pub near_base : (a : ℕ) (n : Based) → near a ≡ Some n → (n.base ≡ gp) ⊎ (n.base ≡ tp)
near_base a n e = (near_is a n e).bases

pub near_below : (a : ℕ) (n : Based) → near a ≡ Some n → n.base < 32
near_below a n e = ⊎_elim (λ (b : n.base ≡ gp). omega arith) (λ (b : n.base ≡ tp). omega arith) (near_base a n e)
