-- What a word says spells that word again: one lemma for each format, on its fields, and one line for each row of a table.
use Rattle.std.proofs.Common.{ℕ, ◌≡◌, ◌+◌, ◌-◌, ◌*◌, ◌/◌, ◌%◌, ◌^◌, ◌<◌, ◌≤◌, eqb, List, [], ◌∷◌, pos, negsuc, unsigned_abs, ◌-ℤ◌, Option, Some, None, refl, sym, ap, ◌∙◌, arith, ⊎_elim}
use Rattle.std.specs.Option.{IfSome, IfNone}
use Rattle.std.proofs.lemmas.Bool.{cases_lt, eqb-true, cond_both}
use Rattle.std.proofs.lemmas.Int.{ints}
use Rattle.std.proofs.Math.Nat.{mod-eq_of_lt}
use Rattle.mv_isa.proofs.RoundTrip.{decode-encode}
use Rattle.mv_isa.proofs.Immediates.{signed_low, signed_high}
use Rattle.mv_isa.specs.declared.instr.Instr.{Instr}
use Rattle.mv_isa.specs.declared.instr.Instr.TheVariants.{Jalr, Fence, FenceI}
use Rattle.mv_isa.specs.Formats.{opcode_of, rd_of, funct3_of, funct7_of, rs1_of, rs2_of, functs_of, i_imm, s_imm, b_imm, u_imm, j_imm, low_in, signed_in, r_word, i_word, s_word, b_word, u_word, j_word}
use Rattle.mv_isa.specs.Encoding.{encode, decode, choose, opcode_rows, register_rows, register_at, shift_rows, shift_at, immediate_at, immediate_rows, load_at, load_rows, store_at, store_rows, branch_at, branch_rows, jalr_at, fence_at, fence_rows, system_at, system_rows, IsSigned, IsOffset, IsUnsigned, IsEncodingOf}

-- ---- a look-up gives one of its rows, or the rest

abbrev EachRow : {A : Type 0} → (ℕ → A → Type 0) → List (ℕ × A) → Type 0
EachRow P [] = Unit {0}
EachRow P (row ∷ rows) = P row.0 row.1 × EachRow P rows

choose_each : {A B : Type 0} (Q : B → Type 0) (key : ℕ) (take : A → B) (rest : B) (rows : List (ℕ × A)) → EachRow (λ n a. key ≡ n → Q (take a)) rows → Q rest → Q (choose rows key take rest)
choose_each Q key take rest [] each last = last
choose_each Q key take rest (row ∷ rows) each last =
    cond_both (eqb key row.0) (take row.1) (choose rows key take rest) Q
    (λ e. each.0 (eqb-true key row.0 e))
    (λ e. choose_each Q key take rest rows each.1 last)

-- ---- the fields of a word

rd_small : (w : ℕ) → rd_of w < 32
unfolding rd_of
rd_small w = omega arith

rs1_small : (w : ℕ) → rs1_of w < 32
unfolding rs1_of
rs1_small w = omega arith

rs2_small : (w : ℕ) → rs2_of w < 32
unfolding rs2_of
rs2_small w = omega arith

-- what stands from one bit on is the field there and what stands above it
from_0 : (w : ℕ) → w ≡ w % 2 ^ 7 + w / 2 ^ 7 * 2 ^ 7
from_0 w = omega arith

from_7 : (w : ℕ) → w / 2 ^ 7 ≡ w / 2 ^ 7 % 2 ^ 5 + w / 2 ^ 12 * 2 ^ 5
from_7 w = omega arith

from_12 : (w : ℕ) → w / 2 ^ 12 ≡ w / 2 ^ 12 % 2 ^ 3 + w / 2 ^ 15 * 2 ^ 3
from_12 w = omega arith

from_15 : (w : ℕ) → w / 2 ^ 15 ≡ w / 2 ^ 15 % 2 ^ 5 + w / 2 ^ 20 * 2 ^ 5
from_15 w = omega arith

from_20 : (w : ℕ) → w / 2 ^ 20 ≡ w / 2 ^ 20 % 2 ^ 5 + w / 2 ^ 25 * 2 ^ 5
from_20 w = omega arith

from_25 : (w : ℕ) → w / 2 ^ 25 ≡ w / 2 ^ 25 % 2 ^ 6 + w / 2 ^ 31 * 2 ^ 6
from_25 w = omega arith

-- the sum of the fields of all formats but those with upper immediates
fields : (w : ℕ) → w ≡ w % 2 ^ 7 + w / 2 ^ 7 % 2 ^ 5 * 2 ^ 7 + w / 2 ^ 12 % 2 ^ 3 * 2 ^ 12 + w / 2 ^ 15 % 2 ^ 5 * 2 ^ 15 + w / 2 ^ 20 * 2 ^ 20
fields w =
    let a = from_0 w in let b = from_7 w in let c = from_12 w in let d = from_15 w in
    sum w (w % 2 ^ 7) (w / 2 ^ 7) (w / 2 ^ 7 % 2 ^ 5) (w / 2 ^ 12) (w / 2 ^ 12 % 2 ^ 3) (w / 2 ^ 15) (w / 2 ^ 15 % 2 ^ 5) (w / 2 ^ 20) a b c d
  where
    sum : (w o a7 d a12 f a15 r a20 : ℕ) → w ≡ o + a7 * 2 ^ 7 → a7 ≡ d + a12 * 2 ^ 5 → a12 ≡ f + a15 * 2 ^ 3 → a15 ≡ r + a20 * 2 ^ 5 → w ≡ o + d * 2 ^ 7 + f * 2 ^ 12 + r * 2 ^ 15 + a20 * 2 ^ 20
    sum w o a7 d a12 f a15 r a20 p q s t = omega arith

-- ---- a signed number and its low bits

minus : (half x : ℕ) → x < 2 * half → pos x -ℤ pos (2 * half) ≡ negsuc (2 * half - 1 - x)
minus half x h = omega (arith, ints)

low_signed : (half x : ℕ) → x < 2 * half → low_in (2 * half) (signed_in half x) ≡ x
unfolding low_in
low_signed half x h = ⊎_elim
    (λ (l : x < half). rw (signed_low half x l) (mod-eq_of_lt h))
    (λ (l : half ≤ x).
    let e : (2 * half - 1 - x) % (2 * half) ≡ 2 * half - 1 - x = mod-eq_of_lt (omega arith) in
    rw (signed_high half x l, minus half x h, e) (omega arith))
    (cases_lt x half)

signed_fits : (half x : ℕ) → x < 2 * half → IsSigned half (signed_in half x)
signed_fits half x h = ⊎_elim
    (λ (l : x < half). rw (signed_low half x l) (omega (arith, ints), omega (arith, ints)))
    (λ (l : half ≤ x). rw (signed_high half x l) (omega (arith, ints), omega (arith, ints)))
    (cases_lt x half)

signed_even : (half x : ℕ) → x < 2 * half → x % 2 ≡ 0 → unsigned_abs (signed_in half x) % 2 ≡ 0
signed_even half x h e = ⊎_elim
    (λ (l : x < half). rw (signed_low half x l) e)
    (λ (l : half ≤ x). rw (signed_high half x l, minus half x h) (omega arith))
    (cases_lt x half)

-- ---- words with two source registers

r_again : (w o f : ℕ) → opcode_of w ≡ o → functs_of w ≡ f → w ≡ r_word o f (rd_of w) (rs1_of w) (rs2_of w)
unfolding opcode_of functs_of funct7_of funct3_of rd_of rs1_of rs2_of r_word
r_again w o f p q =
    let a = fields w in let b = from_20 w in
    let high : f / 2 ^ 3 ≡ w / 2 ^ 25 = omega arith in
    let low : f % 2 ^ 3 ≡ w / 2 ^ 12 % 2 ^ 3 = omega arith in
    rw (high, low) (omega arith)

-- ---- words with an immediate

i_again : (w o f : ℕ) → w < 2 ^ 32 → opcode_of w ≡ o → funct3_of w ≡ f → w ≡ i_word o f (rd_of w) (rs1_of w) (i_imm w)
unfolding opcode_of funct3_of rd_of rs1_of i_imm i_word
i_again w o f h p q =
    let a = fields w in
    rw (low_signed (2 ^ 11) (w / 2 ^ 20) (omega arith)) (omega arith)

i_fits : (w : ℕ) → w < 2 ^ 32 → IsSigned (2 ^ 11) (i_imm w)
unfolding i_imm
i_fits w h = signed_fits (2 ^ 11) (w / 2 ^ 20) (omega arith)

s_again : (w o f : ℕ) → w < 2 ^ 32 → opcode_of w ≡ o → funct3_of w ≡ f → w ≡ s_word o f (rs1_of w) (rs2_of w) (s_imm w)
unfolding opcode_of funct3_of rs1_of rs2_of s_imm s_word
s_again w o f h p q =
    let a = fields w in let b = from_20 w in
    let x = w / 2 ^ 25 * 2 ^ 5 + w / 2 ^ 7 % 2 ^ 5 in
    let low : x % 2 ^ 5 ≡ w / 2 ^ 7 % 2 ^ 5 = omega arith in
    let high : x / 2 ^ 5 ≡ w / 2 ^ 25 = omega arith in
    rw (low_signed (2 ^ 11) x (omega arith), low, high) (omega arith)

s_fits : (w : ℕ) → w < 2 ^ 32 → IsSigned (2 ^ 11) (s_imm w)
unfolding s_imm
s_fits w h = signed_fits (2 ^ 11) (w / 2 ^ 25 * 2 ^ 5 + w / 2 ^ 7 % 2 ^ 5) (omega arith)

-- the parts of a branch's offset: its sign, bit 11, bits 10 to 5 and bits 4 to 1
b_parts : (s t u v : ℕ) → t < 2 → u < 2 ^ 6 → v < 2 ^ 4 → let x = s * 2 ^ 12 + t * 2 ^ 11 + u * 2 ^ 5 + v * 2 in (x / 2 ^ 11 % 2 ≡ t) × (x / 2 % 2 ^ 4 ≡ v) × (x / 2 ^ 5 % 2 ^ 6 ≡ u) × (x / 2 ^ 12 ≡ s)
b_parts s t u v p q r = (omega arith, omega arith, omega arith, omega arith)

b_again : (w o f : ℕ) → w < 2 ^ 32 → opcode_of w ≡ o → funct3_of w ≡ f → w ≡ b_word o f (rs1_of w) (rs2_of w) (b_imm w)
unfolding opcode_of funct3_of rs1_of rs2_of b_imm b_word
b_again w o f h p q =
    let a = fields w in let b = from_20 w in let c = from_25 w in
    let d : w / 2 ^ 7 % 2 ^ 5 ≡ w / 2 ^ 7 % 2 + w / 2 ^ 8 % 2 ^ 4 * 2 = omega arith in
    let x = w / 2 ^ 31 * 2 ^ 12 + w / 2 ^ 7 % 2 * 2 ^ 11 + w / 2 ^ 25 % 2 ^ 6 * 2 ^ 5 + w / 2 ^ 8 % 2 ^ 4 * 2 in
    let e = b_parts (w / 2 ^ 31) (w / 2 ^ 7 % 2) (w / 2 ^ 25 % 2 ^ 6) (w / 2 ^ 8 % 2 ^ 4) (omega arith) (omega arith) (omega arith) in
    rw (low_signed (2 ^ 12) x (omega arith), e.0, e.1, e.2, e.3) (omega arith)

b_fits : (w : ℕ) → w < 2 ^ 32 → IsOffset (2 ^ 12) (b_imm w)
unfolding b_imm
b_fits w h =
    let x = w / 2 ^ 31 * 2 ^ 12 + w / 2 ^ 7 % 2 * 2 ^ 11 + w / 2 ^ 25 % 2 ^ 6 * 2 ^ 5 + w / 2 ^ 8 % 2 ^ 4 * 2 in
    let l : x < 2 * 2 ^ 12 = omega arith in
    (signed_fits (2 ^ 12) x l, signed_even (2 ^ 12) x l (omega arith))

u_again : (w o : ℕ) → opcode_of w ≡ o → w ≡ u_word o (rd_of w) (u_imm w)
unfolding opcode_of rd_of u_imm u_word
u_again w o p = let a = from_0 w in let b = from_7 w in omega arith

u_fits : (w : ℕ) → w < 2 ^ 32 → IsUnsigned (2 ^ 20) (u_imm w)
unfolding u_imm
u_fits w h = (omega (arith, ints), omega (arith, ints))

-- the parts of a jump's offset: its sign, bits 19 to 12, bit 11 and bits 10 to 1
j_parts : (s t u v : ℕ) → t < 2 ^ 8 → u < 2 → v < 2 ^ 10 → let x = s * 2 ^ 20 + t * 2 ^ 12 + u * 2 ^ 11 + v * 2 in (x / 2 ^ 12 % 2 ^ 8 ≡ t) × (x / 2 ^ 11 % 2 ≡ u) × (x / 2 % 2 ^ 10 ≡ v) × (x / 2 ^ 20 ≡ s)
j_parts s t u v p q r = (omega arith, omega arith, omega arith, omega arith)

j_again : (w o : ℕ) → w < 2 ^ 32 → opcode_of w ≡ o → w ≡ j_word o (rd_of w) (j_imm w)
unfolding opcode_of rd_of j_imm j_word
j_again w o h p =
    let a = from_0 w in let b = from_7 w in
    let c : w / 2 ^ 12 ≡ w / 2 ^ 12 % 2 ^ 8 + w / 2 ^ 20 * 2 ^ 8 = omega arith in
    let d : w / 2 ^ 20 ≡ w / 2 ^ 20 % 2 + w / 2 ^ 21 * 2 = omega arith in
    let g : w / 2 ^ 21 ≡ w / 2 ^ 21 % 2 ^ 10 + w / 2 ^ 31 * 2 ^ 10 = omega arith in
    let x = w / 2 ^ 31 * 2 ^ 20 + w / 2 ^ 12 % 2 ^ 8 * 2 ^ 12 + w / 2 ^ 20 % 2 * 2 ^ 11 + w / 2 ^ 21 % 2 ^ 10 * 2 in
    let e = j_parts (w / 2 ^ 31) (w / 2 ^ 12 % 2 ^ 8) (w / 2 ^ 20 % 2) (w / 2 ^ 21 % 2 ^ 10) (omega arith) (omega arith) (omega arith) in
    rw (low_signed (2 ^ 20) x (omega arith), e.0, e.1, e.2, e.3) (omega arith)

j_fits : (w : ℕ) → w < 2 ^ 32 → IsOffset (2 ^ 20) (j_imm w)
unfolding j_imm
j_fits w h =
    let x = w / 2 ^ 31 * 2 ^ 20 + w / 2 ^ 12 % 2 ^ 8 * 2 ^ 12 + w / 2 ^ 20 % 2 * 2 ^ 11 + w / 2 ^ 21 % 2 ^ 10 * 2 in
    let l : x < 2 * 2 ^ 20 = omega arith in
    (signed_fits (2 ^ 20) x l, signed_even (2 ^ 20) x l (omega arith))

-- ---- the tables

abbrev IsSaid : ℕ → Option Instr → Type 0
IsSaid w o = IfSome o (IsEncodingOf w)

register_said : (w : ℕ) → w < 2 ^ 32 → opcode_of w ≡ 0x33 → IsSaid w (register_at w)
unfolding register_at encode
register_said w h o =
    let d = rd_small w in let a = rs1_small w in let b = rs2_small w in
    choose_each (IsSaid w) (functs_of w) (λ k. Some (k (rd_of w) (rs1_of w) (rs2_of w))) None register_rows (
      (λ e. ((d, a, b), r_again w 0x33 0x000 o e)),
      (
        (λ e. ((d, a, b), r_again w 0x33 0x100 o e)),
        (
          (λ e. ((d, a, b), r_again w 0x33 0x001 o e)),
          (
            (λ e. ((d, a, b), r_again w 0x33 0x002 o e)),
            (
              (λ e. ((d, a, b), r_again w 0x33 0x003 o e)),
              (
                (λ e. ((d, a, b), r_again w 0x33 0x004 o e)),
                (
                  (λ e. ((d, a, b), r_again w 0x33 0x005 o e)),
                  (
                    (λ e. ((d, a, b), r_again w 0x33 0x105 o e)),
                    (
                      (λ e. ((d, a, b), r_again w 0x33 0x006 o e)),
                      (
                        (λ e. ((d, a, b), r_again w 0x33 0x007 o e)),
                        (
                          (λ e. ((d, a, b), r_again w 0x33 0x008 o e)),
                          (
                            (λ e. ((d, a, b), r_again w 0x33 0x009 o e)),
                            (
                              (λ e. ((d, a, b), r_again w 0x33 0x00a o e)),
                              (
                                (λ e. ((d, a, b), r_again w 0x33 0x00b o e)),
                                (
                                  (λ e. ((d, a, b), r_again w 0x33 0x00c o e)),
                                  (
                                    (λ e. ((d, a, b), r_again w 0x33 0x00d o e)),
                                    (
                                      (λ e. ((d, a, b), r_again w 0x33 0x00e o e)),
                                      (
                                        (λ e. ((d, a, b), r_again w 0x33 0x00f o e)),
                                        tt,
                                      ),
                                    ),
                                  ),
                                ),
                              ),
                            ),
                          ),
                        ),
                      ),
                    ),
                  ),
                ),
              ),
            ),
          ),
        ),
      ),
    )
    tt

pub count_fits : (n : ℕ) → n < 32 → IsUnsigned 32 (pos n)
count_fits n h = (omega (arith, ints), omega (arith, ints))

shift_said : (w : ℕ) → w < 2 ^ 32 → opcode_of w ≡ 0x13 → IsSaid w (shift_at w)
unfolding shift_at encode
shift_said w h o =
    let d = rd_small w in let a = rs1_small w in let b = rs2_small w in
    choose_each (IsSaid w) (functs_of w) (λ k. Some (k (rd_of w) (rs1_of w) (pos (rs2_of w)))) None shift_rows (
      (λ e. ((d, a, count_fits (rs2_of w) b), r_again w 0x13 0x001 o e)),
      (
        (λ e. ((d, a, count_fits (rs2_of w) b), r_again w 0x13 0x005 o e)),
        (
          (λ e. ((d, a, count_fits (rs2_of w) b), r_again w 0x13 0x105 o e)),
          tt,
        ),
      ),
    )
    tt

immediate_said : (w : ℕ) → w < 2 ^ 32 → opcode_of w ≡ 0x13 → IsSaid w (immediate_at w)
unfolding immediate_at encode
immediate_said w h o =
    let d = rd_small w in let a = rs1_small w in let z = i_fits w h in
    choose_each (IsSaid w) (funct3_of w) (λ k. Some (k (rd_of w) (rs1_of w) (i_imm w))) (shift_at w) immediate_rows (
      (λ e. ((d, a, z), i_again w 0x13 0 h o e)),
      (
        (λ e. ((d, a, z), i_again w 0x13 2 h o e)),
        (
          (λ e. ((d, a, z), i_again w 0x13 3 h o e)),
          (
            (λ e. ((d, a, z), i_again w 0x13 4 h o e)),
            (
              (λ e. ((d, a, z), i_again w 0x13 6 h o e)),
              (
                (λ e. ((d, a, z), i_again w 0x13 7 h o e)),
                tt,
              ),
            ),
          ),
        ),
      ),
    )
    (shift_said w h o)

load_said : (w : ℕ) → w < 2 ^ 32 → opcode_of w ≡ 0x03 → IsSaid w (load_at w)
unfolding load_at encode
load_said w h o =
    let d = rd_small w in let a = rs1_small w in let z = i_fits w h in
    choose_each (IsSaid w) (funct3_of w) (λ k. Some (k (rd_of w) (rs1_of w) (i_imm w))) None load_rows (
      (λ e. ((d, a, z), i_again w 0x03 0 h o e)),
      (
        (λ e. ((d, a, z), i_again w 0x03 1 h o e)),
        (
          (λ e. ((d, a, z), i_again w 0x03 2 h o e)),
          (
            (λ e. ((d, a, z), i_again w 0x03 4 h o e)),
            (
              (λ e. ((d, a, z), i_again w 0x03 5 h o e)),
              tt,
            ),
          ),
        ),
      ),
    )
    tt

store_said : (w : ℕ) → w < 2 ^ 32 → opcode_of w ≡ 0x23 → IsSaid w (store_at w)
unfolding store_at encode
store_said w h o =
    let a = rs1_small w in let b = rs2_small w in let z = s_fits w h in
    choose_each (IsSaid w) (funct3_of w) (λ k. Some (k (rs1_of w) (rs2_of w) (s_imm w))) None store_rows (
      (λ e. ((a, b, z), s_again w 0x23 0 h o e)),
      (
        (λ e. ((a, b, z), s_again w 0x23 1 h o e)),
        (
          (λ e. ((a, b, z), s_again w 0x23 2 h o e)),
          tt,
        ),
      ),
    )
    tt

branch_said : (w : ℕ) → w < 2 ^ 32 → opcode_of w ≡ 0x63 → IsSaid w (branch_at w)
unfolding branch_at encode
branch_said w h o =
    let a = rs1_small w in let b = rs2_small w in let z = b_fits w h in
    choose_each (IsSaid w) (funct3_of w) (λ k. Some (k (rs1_of w) (rs2_of w) (b_imm w))) None branch_rows (
      (λ e. ((a, b, z), b_again w 0x63 0 h o e)),
      (
        (λ e. ((a, b, z), b_again w 0x63 1 h o e)),
        (
          (λ e. ((a, b, z), b_again w 0x63 4 h o e)),
          (
            (λ e. ((a, b, z), b_again w 0x63 5 h o e)),
            (
              (λ e. ((a, b, z), b_again w 0x63 6 h o e)),
              (
                (λ e. ((a, b, z), b_again w 0x63 7 h o e)),
                tt,
              ),
            ),
          ),
        ),
      ),
    )
    tt

fence_said : (w : ℕ) → w < 2 ^ 32 → opcode_of w ≡ 0x0f → IsSaid w (fence_at w)
unfolding fence_at encode
fence_said w h o =
    choose_each (IsSaid w) (funct3_of w) (λ i. Some i) None fence_rows (
      (λ e. (tt, (o, e))),
      (
        (λ e. (tt, (o, e))),
        tt,
      ),
    )
    tt

system_said : (w : ℕ) → IsSaid w (system_at w)
unfolding system_at encode
system_said w = choose_each (IsSaid w) w (λ i. Some i) None system_rows ((λ e. (tt, e)), ((λ e. (tt, e)), tt)) tt

jalr_said : (w : ℕ) → w < 2 ^ 32 → opcode_of w ≡ 0x67 → IsSaid w (jalr_at w)
unfolding jalr_at encode
jalr_said w h o = cond_both (eqb (funct3_of w) 0) (Some (Jalr (rd_of w) (rs1_of w) (i_imm w))) None (IsSaid w)
    (λ e. ((rd_small w, rs1_small w, i_fits w h), i_again w 0x67 0 h o (eqb-true (funct3_of w) 0 e)))
    (λ e. tt)

-- what a word says fits, and spells that word
pub decode_said : (w : ℕ) → w < 2 ^ 32 → IfSome (decode w) (IsEncodingOf w)
unfolding decode encode
decode_said w h =
    choose_each (IsSaid w) (opcode_of w) (λ read. read w) None opcode_rows (
      (λ o. ((rd_small w, u_fits w h), u_again w 0x37 o)),
      (
        (λ o. ((rd_small w, u_fits w h), u_again w 0x17 o)),
        (
          (λ o. ((rd_small w, j_fits w h), j_again w 0x6f h o)),
          (
            jalr_said w h,
            (
              branch_said w h,
              (
                load_said w h,
                (
                  store_said w h,
                  (
                    immediate_said w h,
                    (
                      register_said w h,
                      (
                        fence_said w h,
                        (
                          (λ o. system_said w),
                          tt,
                        ),
                      ),
                    ),
                  ),
                ),
              ),
            ),
          ),
        ),
      ),
    )
    tt

-- a word of an instruction that fits says that instruction
pub decode_encoding : (w : ℕ) (i : Instr) → IsEncodingOf w i → decode w ≡ Some i
unfolding decode fence_at
decode_encoding w Fence h = rw (h.1.0, h.1.1) refl
decode_encoding w FenceI h = rw (h.1.0, h.1.1) refl
decode_encoding w i h = ap decode h.1 ∙ decode-encode i h.0

-- where a look-up gives nothing, the word is a word of no instruction
nothing_encodes : (w : ℕ) (o : Option Instr) → decode w ≡ o → IfNone o ((i : Instr) → IsEncodingOf w i → ⊥)
nothing_encodes w None e = λ i h. let f : None ≡ Some i = sym e ∙ decode_encoding w i h in cc
nothing_encodes w (Some j) e = tt

pub decode_none : (w : ℕ) → IfNone (decode w) ((i : Instr) → IsEncodingOf w i → ⊥)
decode_none w = nothing_encodes w (decode w) refl
