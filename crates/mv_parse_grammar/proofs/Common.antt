-- Lemmas on this crate's words that the crates above share.
use Rattle.std.proofs.Common.{◌≡◌, ℕ, zero, suc, ◌-◌, ◌<◌, List, ap, arith}
use Rattle.mv_syntax.specs.declared.place.Place.{Place}
use Rattle.mv_syntax.specs.declared.unit.Node.{Node}
use Rattle.mv_parse_grammar.specs.Terminals.{Terminal, is_rank}
use Rattle.mv_parse_grammar.specs.Reader.{go_on}
use Rattle.mv_parse_grammar.specs.Reader as R
use Rattle.mv_parse_grammar.specs.ExpressionReader as M

pub level_opened : (n : ℕ) (S : M.Readers) (rank : ℕ) (ts : List Terminal) → 0 < rank
    → M.level n S rank ts ≡ go_on (λ x r. go_on (λ (y : Place × Node). R.give y.1) (R.chain (is_rank rank) (M.operation (M.level n S (rank - 1)) rank) n x r)) (R.marked (M.level n S (rank - 1)) ts)
unfolding M.level
level_opened n S zero ts h = absurd (omega arith)
level_opened n S (suc k) ts h = let e : k ≡ suc k - 1 = omega arith in ap (λ j. go_on (λ x r. go_on (λ (y : Place × Node). R.give y.1) (R.chain (is_rank (suc k)) (M.operation (M.level n S j) (suc k)) n x r)) (R.marked (M.level n S j) ts)) e
