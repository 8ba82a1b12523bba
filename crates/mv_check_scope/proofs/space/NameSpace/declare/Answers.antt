use Rattle.std.proofs.Common.{◌≡◌, ◌∙◌, ap, sym, subst, Some}
use Rattle.mv_check_outline.specs.Names.{place_of}
use Rattle.mv_check_scope.specs.Names.{Space}
use Rattle.mv_check_scope.specs.Spaces.{named}
use Rattle.mv_check_scope.specs.Scopes.{no_names, with_name}
use Rattle.mv_check_scope.specs.Steps.{led_to, name_at, Represents}
use Rattle.mv_check_scope.proofs.Numbers.{itself}
use Rattle.mv_check_scope.proofs.Steps.{declaration, declares, with_its_number, space_as_before}
use Rattle.mv_check_scope.proofs.space.NameSpace.declare.Goals as goal

pub invariant_of-self-in_err-bind : goal.invariant_of-self-in_err-bind
invariant_of-self-in_err-bind c =
    let s = c.self.inside in
    subst (λ es. Represents c.bind.new.self.names c.reserve.new.self.items s.depth es) (sym c.in_err-bind.ensures.kept)
    (with_its_number s.bindings.names c.bind.new.self.names c.args.name.now (c.in_err-bind.ensures.names ∙ c.in_ok-number.ensures.added) s.steps.items
    c.reserve.new.self.items c.in_ok-reserve.ensures.items s.depth s.bindings.declared.entries c.self.invariant)

pub invariant_of-self-2 : goal.invariant_of-self-2
invariant_of-self-2 c =
    let s = c.self.inside in
    let name = c.args.name.now in
    let names = c.bind.new.self.names in
    let steps = c.reserve.new.self.items in
    let es = s.bindings.declared.entries in
    let n = c.in_ok-number.number in
    let is_names = c.in_ok-bind.ensures.names ∙ c.in_ok-number.ensures.added in
    let is_steps = c.in_ok-reserve.ensures.items in
    let at : place_of name names ≡ Some n = ap (place_of name) c.in_ok-bind.ensures.names ∙ c.in_ok-number.ensures.number in
    let itself_at : name ≡ name_at names n = itself names name n at in
    let before : led_to names no_names steps ≡ c.args.self.now =
    space_as_before s.bindings.names names name is_names s.steps.items steps is_steps s.depth es c.self.invariant ∙ c.self.view_is in
    declares names steps s.depth es (record { number = n; meaning = c.args.meaning; hidden = c.at-hidden.result }) c.push_reserved.new.self.items
    c.push_reserved.ensures.items c.bind.new.self.declared.entries
    (with_its_number s.bindings.names names name is_names s.steps.items steps is_steps s.depth es c.self.invariant)
    (ap (λ x. place_of x names) (sym itself_at) ∙ at) c.at-hidden.ensures
    (ap (λ x. named x (led_to names no_names steps).here) (sym itself_at) ∙ (ap (λ (space : Space). named name space.here) before ∙ c.requires))
    c.in_ok-bind.ensures.bound

pub returns : goal.returns
returns c =
    let s = c.self.inside in
    let name = c.args.name.now in
    let names = c.bind.new.self.names in
    let steps = c.reserve.new.self.items in
    let es = s.bindings.declared.entries in
    let n = c.in_ok-number.number in
    let at : place_of name names ≡ Some n = ap (place_of name) c.in_ok-bind.ensures.names ∙ c.in_ok-number.ensures.number in
    declaration names steps s.depth es (record { number = n; meaning = c.args.meaning; hidden = c.at-hidden.result }) c.push_reserved.new.self.items
    c.push_reserved.ensures.items ∙
    (ap (λ x. with_name (led_to names no_names steps) x c.args.meaning) (sym (itself names name n at)) ∙
    ap (λ space. with_name space name c.args.meaning)
    (space_as_before s.bindings.names names name (c.in_ok-bind.ensures.names ∙ c.in_ok-number.ensures.added) s.steps.items steps c.in_ok-reserve.ensures.items s.depth es
    c.self.invariant ∙
    c.self.view_is))
