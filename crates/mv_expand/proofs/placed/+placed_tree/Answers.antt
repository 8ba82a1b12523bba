use Rattle.std.proofs.Common.{◌≡◌, true, arith, sym, subst, ap, ◌∙◌}
use Rattle.mv_ir.specs.Trees.{nodes}
use Rattle.mv_expand.specs.Walking.{is_small}
use Rattle.mv_expand.proofs.Counting.{nodes_unary, nodes_binary, nodes_narrow}
use Rattle.mv_expand.proofs.Straightness.{small_temp, small_unary, small_left, small_right, small_narrow}
use Rattle.mv_expand.proofs.placed.+placed_tree.Goals as goal

pub stand_in-requires-clause-temp : goal.stand_in-requires-clause-temp
stand_in-requires-clause-temp t c = small_temp c.in-Temp.t (subst (λ x. is_small x ≡ true) c.in-Temp.is c.requires.small)

pub placed_tree-requires : goal.placed_tree-requires
placed_tree-requires t c =
    let s = c.in-Unary in
    let e = ap nodes s.is ∙ nodes_unary s.o s.a in
    let f = ap nodes c.get.ensures in (
      omega (arith, e, f, c.decreases),
      (c.requires.base, subst (λ x. is_small x ≡ true) (sym c.get.ensures) (small_unary s.o s.a (subst (λ x. is_small x ≡ true) s.is c.requires.small))),
    )

pub placed_tree-requires-in-Binary : goal.placed_tree-requires-in-Binary
placed_tree-requires-in-Binary t c =
    let s = c.in-Binary in
    let e = ap nodes s.is ∙ nodes_binary s.o s.a s.b in
    let f = ap nodes c.get-in-Binary.ensures in (
      omega (arith, e, f, c.decreases),
      (c.requires.base, subst (λ x. is_small x ≡ true) (sym c.get-in-Binary.ensures) (small_left s.o s.a s.b (subst (λ x. is_small x ≡ true) s.is c.requires.small))),
    )

pub placed_tree-requires-in-Binary-2 : goal.placed_tree-requires-in-Binary-2
placed_tree-requires-in-Binary-2 t c =
    let s = c.in-Binary in
    let e = ap nodes s.is ∙ nodes_binary s.o s.a s.b in
    let f = ap nodes c.get-in-Binary-2.ensures in (
      omega (arith, e, f, c.decreases),
      (c.requires.base, subst (λ x. is_small x ≡ true) (sym c.get-in-Binary-2.ensures) (small_right s.o s.a s.b (subst (λ x. is_small x ≡ true) s.is c.requires.small))),
    )

pub placed_tree-requires-in-Narrow : goal.placed_tree-requires-in-Narrow
placed_tree-requires-in-Narrow t c =
    let s = c.in-Narrow in
    let e = ap nodes s.is ∙ nodes_narrow s.k s.a in
    let f = ap nodes c.get-in-Narrow.ensures in (
      omega (arith, e, f, c.decreases),
      (c.requires.base, subst (λ x. is_small x ≡ true) (sym c.get-in-Narrow.ensures) (small_narrow s.k s.a (subst (λ x. is_small x ≡ true) s.is c.requires.small))),
    )
