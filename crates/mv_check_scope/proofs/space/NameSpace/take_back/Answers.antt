use Rattle.std.proofs.Common.{◌≡◌, ◌∙◌, ◌++◌, ◌∷◌, [], ap, sym, subst, arith, ◌+◌, length}
use Rattle.mv_check_scope.specs.Scopes.{no_names, left, with_name}
use Rattle.mv_check_scope.specs.Steps.{led_to, name_at, Represents}
use Rattle.mv_check_scope.proofs.Steps.{declaration, was_bound, taken_back, deeper, leaves, block_left}
use Rattle.mv_check_scope.proofs.space.NameSpace.take_back.Goals as goal

pub restore-requires : goal.restore-requires
restore-requires c =
    let s = c.self.inside in
    let d = c.in-Some-Declared in
    let rest = c.pop.new.self.items in
    was_bound s.bindings.names rest s.depth s.bindings.declared.entries d.declaration s.steps.items (d.ensures.items ∙ ap (λ x. rest ++ x ∷ []) d.field-0-is)
    c.self.invariant

pub invariant_of-self : goal.invariant_of-self
invariant_of-self c =
    let s = c.self.inside in
    let d = c.in-Some-Declared in
    let rest = c.pop.new.self.items in
    let after = c.restore.new.self.declared.entries in
    subst (λ names. Represents names rest s.depth after) (sym c.restore.ensures.names)
    (taken_back s.bindings.names rest s.depth s.bindings.declared.entries d.declaration s.steps.items (d.ensures.items ∙ ap (λ x. rest ++ x ∷ []) d.field-0-is)
    c.self.invariant after c.restore.ensures.bound)

pub overflow_sub-self : goal.overflow_sub-self
overflow_sub-self c =
    let s = c.self.inside in
    let e = c.in-Some-Entered in
    let rest = c.pop.new.self.items in
    let one : s.depth ≡ length (led_to s.bindings.names no_names rest).around + 1 =
    deeper s.bindings.names rest s.depth s.bindings.declared.entries s.steps.items (e.ensures.items ∙ ap (λ x. rest ++ x ∷ []) e.field-0-is) c.self.invariant in
    omega arith

pub invariant_of-self-in-Some-Entered : goal.invariant_of-self-in-Some-Entered
invariant_of-self-in-Some-Entered c =
    let s = c.self.inside in
    let e = c.in-Some-Entered in
    let rest = c.pop.new.self.items in
    leaves s.bindings.names rest s.depth s.bindings.declared.entries s.steps.items (e.ensures.items ∙ ap (λ x. rest ++ x ∷ []) e.field-0-is) c.self.invariant

pub returns-in-Some-Declared-clause-declaration : goal.returns-in-Some-Declared-clause-declaration
returns-in-Some-Declared-clause-declaration c = λ _.
    let s = c.self.inside in
    let d = c.in-Some-Declared in
    let rest = c.pop.new.self.items in (
      name_at s.bindings.names d.declaration.number,
      d.declaration.meaning,
      sym c.self.view_is ∙
          (declaration s.bindings.names rest s.depth s.bindings.declared.entries d.declaration s.steps.items (d.ensures.items ∙ ap (λ x. rest ++ x ∷ []) d.field-0-is) ∙
          ap (λ names. with_name (led_to names no_names rest) (name_at s.bindings.names d.declaration.number) d.declaration.meaning) (sym c.restore.ensures.names)),
    )

pub returns-in-Some-Entered-clause-block : goal.returns-in-Some-Entered-clause-block
returns-in-Some-Entered-clause-block c = λ _.
    let s = c.self.inside in
    let e = c.in-Some-Entered in
    let rest = c.pop.new.self.items in
    block_left s.bindings.names rest s.depth s.bindings.declared.entries s.steps.items (e.ensures.items ∙ ap (λ x. rest ++ x ∷ []) e.field-0-is) ∙ ap left c.self.view_is
