-- What operators compute of words is a word.
use Rattle.std.proofs.Common.{arith, ℕ, zero, suc, ◌^◌, ◌<◌, Bool, true, false, cond, eqb, not}
use Rattle.std.proofs.lemmas.Nat.{or_lt, xor_lt, mod_below}
use Rattle.mv_num.specs.declared.kind.Kind.{Kind}
use Rattle.mv_num.specs.declared.kind.Kind.TheVariants as kind
use Rattle.mv_num.specs.Words.{rem_u, lt_s, lt_u, narrow}
use Rattle.mv_ir.specs.Trees.{binary, divide}
use Rattle.mv_plain.proofs.PlainNumbers.{byte_word, half_word}
use Rattle.mv_select_code.proofs.OfTrees.Words.{add_below, sub_below, mul_below, and_below, shl_below, shr_s_below, shr_u_below, flag_below}
use Rattle.mv_select_code.proofs.OfStatements.Divisions.{div_s_below, rem_s_below, div_u_below}

pub binary_word : (o a b : ℕ) → a < 2 ^ 32 → b < 2 ^ 32 → binary o a b < 2 ^ 32
unfolding binary
binary_word zero a b p q = add_below a b
binary_word (suc zero) a b p q = sub_below a b
binary_word (suc (suc zero)) a b p q = mul_below a b
binary_word (suc (suc (suc zero))) a b p q = and_below a b p
binary_word (suc (suc (suc (suc zero)))) a b p q = or_lt 32 a b p q
binary_word (suc (suc (suc (suc (suc zero))))) a b p q = xor_lt 32 a b p q
binary_word (suc (suc (suc (suc (suc (suc zero)))))) a b p q = shl_below a b
binary_word (suc (suc (suc (suc (suc (suc (suc zero))))))) a b p q = shr_s_below a b
binary_word (suc (suc (suc (suc (suc (suc (suc (suc zero)))))))) a b p q = shr_u_below a b p
binary_word (suc (suc (suc (suc (suc (suc (suc (suc (suc zero))))))))) a b p q = flag_below (lt_s a b)
binary_word (suc (suc (suc (suc (suc (suc (suc (suc (suc (suc zero)))))))))) a b p q = flag_below (lt_u a b)
binary_word (suc (suc (suc (suc (suc (suc (suc (suc (suc (suc (suc zero))))))))))) a b p q = flag_below (eqb a b)
binary_word (suc (suc (suc (suc (suc (suc (suc (suc (suc (suc (suc (suc zero)))))))))))) a b p q = flag_below (not (eqb a b))
binary_word (suc (suc (suc (suc (suc (suc (suc (suc (suc (suc (suc (suc (suc o))))))))))))) a b p q = omega arith

rem_u_word : (a d : ℕ) → suc d < 2 ^ 32 → rem_u a (suc d) < 2 ^ 32
unfolding rem_u
rem_u_word a d q = let below = mod_below a (suc d) (omega arith) in omega (arith, below)

pub divide_word : (o a d : ℕ) → a < 2 ^ 32 → suc d < 2 ^ 32 → divide o a (suc d) < 2 ^ 32
unfolding divide
divide_word zero a d p q = div_s_below a (suc d)
divide_word (suc zero) a d p q = div_u_below a (suc d) p
divide_word (suc (suc zero)) a d p q = rem_s_below a (suc d)
divide_word (suc (suc (suc zero))) a d p q = rem_u_word a d q
divide_word (suc (suc (suc (suc o)))) a d p q = omega arith

choose_word : (b : Bool) (n m : ℕ) → n < 2 ^ 32 → m < 2 ^ 32 → cond b n m < 2 ^ 32
choose_word true n m p q = p
choose_word false n m p q = q

pub narrow_word : (k : Kind) (a : ℕ) → a < 2 ^ 32 → narrow k a < 2 ^ 32
unfolding narrow
narrow_word kind.Bool a p = choose_word (eqb a 0) 0 1 (omega arith) (omega arith)
narrow_word kind.SChar a p = byte_word a
narrow_word kind.UChar a p = omega arith
narrow_word kind.Short a p = half_word a
narrow_word kind.UShort a p = omega arith
narrow_word kind.Int a p = p
narrow_word kind.UInt a p = p
