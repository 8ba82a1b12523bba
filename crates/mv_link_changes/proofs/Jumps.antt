-- Words of jumps differ where they lead to others, and those of slots of four words where they are bound.
use Rattle.std.proofs.Common.{◌≡◌, ◌≢◌, ℕ, zero, suc, ◌+◌, ◌*◌, ◌/◌, ◌%◌, ◌^◌, ◌<◌, slice_index, ap, arith}
use Rattle.mv_image.specs.Jumps.{distance, jal_word, jump, slot_words, bound_words}

-- it is a JAL
pub jump_opcode : (rd from to : ℕ) → jump rd from to % 128 ≡ 111
unfolding jump
jump_opcode rd from to =
    let d : ℕ = distance from to in
    opcode (d / 1048576 % 2) (d / 2 % 1024) (d / 2048 % 2) (d / 4096 % 256)
  where
    opcode : (p q s t : ℕ) → (p * 2147483648 + q * 2097152 + s * 1048576 + t * 4096 + rd * 128 + 111) % 128 ≡ 111
    opcode p q s t = omega arith

-- the parts of a distance
record Same (p q s t p' q' s' t' : ℕ) : Type 0 where
  first : p ≡ p'
  second : q ≡ q'
  third : s ≡ s'
  fourth : t ≡ t'

same_parts : (p q s t p' q' s' t' : ℕ) → q < 1024 → s < 2 → t < 256 → q' < 1024 → s' < 2 → t' < 256
    → p * 2147483648 + q * 2097152 + s * 1048576 + t * 4096 + 1 * 128 + 111 ≡ p' * 2147483648 + q' * 2097152 + s' * 1048576 + t' * 4096 + 1 * 128 + 111 → Same p q s t p' q' s' t'
same_parts p q s t p' q' s' t' a b c a' b' c' e =
    record {
      first = omega (arith, a, b, c, a', b', c', e);
      second = omega (arith, a, b, c, a', b', c', e);
      third = omega (arith, a, b, c, a', b', c', e);
      fourth = omega (arith, a, b, c, a', b', c', e);
    }

-- a distance of 21 bits that is even is the sum of its parts
parts_of : (d : ℕ) → d % 2 ≡ 0 → d < 2 ^ 21 → d ≡ d / 1048576 % 2 * 1048576 + d / 4096 % 256 * 4096 + d / 2048 % 2 * 2048 + d / 2 % 1024 * 2
parts_of d even lt = omega (arith, even, lt)

same_distance : (d d' : ℕ) → d % 2 ≡ 0 → d < 2 ^ 21 → d' % 2 ≡ 0 → d' < 2 ^ 21 → jal_word 1 d ≡ jal_word 1 d' → d ≡ d'
same_distance d d' even lt even' lt' e =
    let s = same_parts (d / 1048576 % 2) (d / 2 % 1024) (d / 2048 % 2) (d / 4096 % 256) (d' / 1048576 % 2) (d' / 2 % 1024) (d' / 2048 % 2) (d' / 4096 % 256)
    (omega arith) (omega arith) (omega arith) (omega arith) (omega arith) (omega arith) e in
    let p = s.first in
    let q = s.second in
    let r = s.third in
    let t = s.fourth in
    let x = parts_of d even lt in
    let y = parts_of d' even' lt' in omega (arith, p, q, r, t, x, y)

-- of jumps from an address, two that lead to different addresses are different words
pub same_jump : (from to to' : ℕ) → from % 4 ≡ 0 → to % 4 ≡ 0 → to' % 4 ≡ 0 → from < 2 ^ 20 → to < 2 ^ 20 → to' < 2 ^ 20 → jump 1 from to ≡ jump 1 from to' → to ≡ to'
unfolding jump
same_jump from to to' a b c f g h e =
    let d = same_distance (distance from to) (distance from to') (omega (arith, a, b, f, g)) (omega arith) (omega (arith, a, c, f, h)) (omega arith) e in
    omega (arith, a, b, c, f, g, h, d)

-- ---- slots of four words

upper : (u : ℕ) → (u * 4096 + 5 * 128 + 55) % 128 ≡ 55
upper u = omega arith

load : (l : ℕ) → (l * 1048576 + 5 * 32768 + 2 * 4096 + 5 * 128 + 3) % 128 ≡ 3
load l = omega arith

-- each of the four words is another where the slot is bound
pub slot_changes : (check at pointer target j : ℕ) → j < 4 → slice_index (slot_words check at pointer) j ≢ slice_index (bound_words check at target) j
unfolding slot_words bound_words
slot_changes check at pointer target zero few e =
    let own = upper ((pointer + 2048) / 4096 % 1048576) in let jumps = jump_opcode 6 at (check + 8) in let same = ap (λ (w : ℕ). w % 128) e in omega (arith, own, jumps, same)
slot_changes check at pointer target (suc zero) few e = let own = load (pointer % 4096) in let same = ap (λ (w : ℕ). w % 128) e in omega (arith, own, same)
slot_changes check at pointer target (suc (suc zero)) few e = let jumps = jump_opcode 6 (at + 8) check in omega (arith, jumps, e)
slot_changes check at pointer target (suc (suc (suc zero))) few e = let jumps = jump_opcode 1 (at + 12) target in omega (arith, jumps, e)
slot_changes check at pointer target (suc (suc (suc (suc j)))) few e = absurd (omega (arith, few))
