use Rattle.std.proofs.Common.{◌≡◌, ◌<◌, ◌++◌, true, rules, append-nil, sym, ap, subst, ◌∙◌}
use Rattle.mv_expand.specs.Straight.{short_temps}
use Rattle.mv_expand.specs.Walking.{fits}
use Rattle.mv_ast.specs.Flags.{is_set}
use Rattle.mv_expand.proofs.Stepwise.{nothing_placed_of}
use Rattle.mv_expand.proofs.Straightness.{set_temp, set_small, divide_temp, divide_first, divide_second, return_small}
use Rattle.mv_expand.proofs.placed.put_placed.Goals as goal

pub placed_tree-requires-clause-small : goal.placed_tree-requires-clause-small
placed_tree-requires-clause-small c = let s = c.in-Set in set_small s.t s.v (subst (λ x. fits x ≡ true) s.is c.requires.fitting)

pub overflow_add-base : goal.overflow_add-base
overflow_add-base c =
    let s = c.in-Set in
    let lt : s.t < short_temps = set_temp s.t s.v (subst (λ x. fits x ≡ true) s.is c.requires.fitting) in
    search rules

pub placed_tree-requires-in-Divide-clause-small : goal.placed_tree-requires-in-Divide-clause-small
placed_tree-requires-in-Divide-clause-small c =
    let s = c.in-Divide in divide_first s.t s.o s.a s.b (subst (λ x. fits x ≡ true) s.is c.requires.fitting)

pub placed_tree-requires-in-Divide-2-clause-small : goal.placed_tree-requires-in-Divide-2-clause-small
placed_tree-requires-in-Divide-2-clause-small c =
    let s = c.in-Divide in divide_second s.t s.o s.a s.b (subst (λ x. fits x ≡ true) s.is c.requires.fitting)

pub overflow_add-base-in-Divide : goal.overflow_add-base-in-Divide
overflow_add-base-in-Divide c =
    let s = c.in-Divide in
    let lt : s.t < short_temps = divide_temp s.t s.o s.a s.b (subst (λ x. fits x ≡ true) s.is c.requires.fitting) in
    search rules

pub put_result-requires-clause-small : goal.put_result-requires-clause-small
put_result-requires-clause-small c = let s = c.in-Return in return_small s.v (subst (λ x. fits x ≡ true) s.is c.requires.fitting)

pub returns-in_default : goal.returns-in_default
returns-in_default c =
    let code = c.args.code.now in
    let other = c.in_default in
    let none = nothing_placed_of c.args.base (is_set c.args.keeps.now) c.args.args.now c.args.target c.args.stm.now (other.not-Set, other.not-Divide, other.not-Return) in
    sym (ap (λ l. code ++ l) none ∙ append-nil code)
