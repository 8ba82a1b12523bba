use Rattle.std.proofs.Common.{◌≡◌, ◌∙◌, ap, sym, subst, IfOk, OnOk, Some, None}
use Rattle.mv_check_scope.specs.Signatures.{place_of, with_signature, place_spelled, spelling}
use Rattle.mv_check_scope.proofs.SignatureLists.{found, missing}
use Rattle.mv_check_scope.proofs.signatures.SignatureList.number.Goals as goal

pub returns-in-Some-clause-number : goal.returns-in-Some-clause-number
returns-in-Some-clause-number c =
    let ss = c.self.inside.signatures.items in
    let there : place_spelled (spelling c.args.s) ss ≡ Some c.in-Some.place.now =
    sym
    (c.in-Some.ensures.value ∙
    (c.self.invariant c.as_slice.result.now ∙ ap (λ w. place_spelled w ss) (c.as_slice.ensures ∙ c.in_ok-words.ensures))) in
    (found c.args.s ss c.in-Some.place.now there).0 ∙ ap (place_of c.args.s) c.self.view_is

pub returns-in-Some-clause-added : goal.returns-in-Some-clause-added
returns-in-Some-clause-added c =
    let ss = c.self.inside.signatures.items in
    let there : place_spelled (spelling c.args.s) ss ≡ Some c.in-Some.place.now =
    sym
    (c.in-Some.ensures.value ∙
    (c.self.invariant c.as_slice.result.now ∙ ap (λ w. place_spelled w ss) (c.as_slice.ensures ∙ c.in_ok-words.ensures))) in
    sym c.self.view_is ∙ ((found c.args.s ss c.in-Some.place.now there).1 ∙ ap (with_signature c.args.s) c.self.view_is)

pub returns-in-None-clause-number : goal.returns-in-None-clause-number
returns-in-None-clause-number c =
    let ss = c.self.inside.signatures.items in
    let none : place_spelled (spelling c.args.s) c.args.self.now ≡ None =
    sym
    (c.in-None.ensures.value ∙
    (c.self.invariant c.as_slice.result.now ∙
    (ap (λ w. place_spelled w ss) (c.as_slice.ensures ∙ c.in_ok-words.ensures) ∙ ap (place_spelled (spelling c.args.s)) c.self.view_is))) in
    subst (λ k. IfOk c.push.result (λ n. n ≡ k)) (missing c.args.s c.args.self.now none).0 c.push.ensures.number

pub returns-in-None-clause-added : goal.returns-in-None-clause-added
returns-in-None-clause-added c =
    let ss = c.self.inside.signatures.items in
    let none : place_spelled (spelling c.args.s) c.args.self.now ≡ None =
    sym
    (c.in-None.ensures.value ∙
    (c.self.invariant c.as_slice.result.now ∙
    (ap (λ w. place_spelled w ss) (c.as_slice.ensures ∙ c.in_ok-words.ensures) ∙ ap (place_spelled (spelling c.args.s)) c.self.view_is))) in
    subst (λ l. OnOk c.push.result (c.push.new.self ≡ l)) (missing c.args.s c.args.self.now none).1 c.push.ensures.added
