use Rattle.std.proofs.Common.{ℕ, ◌≡◌, ◌<◌, slice_index, subst, arith}
use Rattle.std.proofs.lemmas.Bool.Decides.{nat_tests}
use Rattle.mv_fetch.specs.Held.{index_of}
use Rattle.mv_fetch.proofs.Choices.{only_where_none_stored, none_where_stored}
use Rattle.mv_fetch.proofs.memory.Memory.has_older.Goals as goal

pub returns-clause-more : goal.returns-clause-more
returns-clause-more c older =
    let m = c.self.inside in
    let stored : 0 < slice_index c.as_slice.result.now c.index_of.result = grind (arith, nat_tests, c.is_stored.ensures, older) in
    let end : 0 < slice_index m.ends.items (index_of c.args.address) = subst (λ (k : ℕ). 0 < slice_index m.ends.items k) c.index_of.ensures (subst (λ xs. 0 < slice_index xs c.index_of.result) c.as_slice.ensures.value stored) in
    none_where_stored m c.args.self.now c.args.address c.self.view_is c.self.invariant end

pub returns-clause-first : goal.returns-clause-first
returns-clause-first c alone =
    let m = c.self.inside in
    let none : slice_index c.as_slice.result.now c.index_of.result ≡ 0 = grind (arith, nat_tests, c.is_stored.ensures, alone) in
    let end : slice_index m.ends.items (index_of c.args.address) ≡ 0 = subst (λ (k : ℕ). slice_index m.ends.items k ≡ 0) c.index_of.ensures (subst (λ xs. slice_index xs c.index_of.result ≡ 0) c.as_slice.ensures.value none) in
    only_where_none_stored m c.args.self.now c.args.address c.self.view_is c.self.invariant end
