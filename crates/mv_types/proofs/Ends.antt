-- The globals, switches and functions of one object or function more.
use Rattle.std.proofs.Common.{◌≡◌, ℕ, suc, ◌+◌, List, [], ◌∷◌, ◌++◌, map, length, Option, Some, None, refl, sym, ap, ◌∙◌, arith, append_assoc, append-nil}
use Rattle.std.proofs.lemmas.List.{map-append}
use Rattle.mv_ast.specs.declared.program.Function.{Function}
use Rattle.mv_ast.specs.declared.program.Switch.{Switch}
use Rattle.mv_types.specs.declared.contents.Object.{Object}
use Rattle.mv_types.specs.Contents.{present, switch_of, switches_from}
use Rattle.mv_types.specs.Units.{with_switches}

switches_last : (n m : ℕ) (os : List Object) (o : Object) → n + length os ≡ m → switches_from n (os ++ o ∷ []) ≡ switches_from n os ++ switch_of m o.domain
switches_last n m [] o e =
    let same : n ≡ m = omega (arith, e) in
    append-nil (switch_of n o.domain) ∙ ap (λ k. switch_of k o.domain) same
switches_last n m (p ∷ os) o e =
    ap (λ l. switch_of n p.domain ++ l) (switches_last (suc n) m os o (omega (arith, e))) ∙ sym (append_assoc (switch_of n p.domain) (switches_from (suc n) os) (switch_of m o.domain))

pub switches_more : (os : List Object) (o : Object) → switches_from 0 (os ++ o ∷ []) ≡ switches_from 0 os ++ switch_of (length os) o.domain
switches_more os o = switches_last 0 (length os) os o (omega arith)

pub globals_more : (os : List Object) (o : Object) → map (λ p. p.global) (os ++ o ∷ []) ≡ map (λ p. p.global) os ++ o.global ∷ []
globals_more os o = map-append (λ p. p.global) os (o ∷ [])

pub ruleset objects = (switches_more, globals_more)

present_more : (fs : List (Option Function)) (f : Option Function) → present (fs ++ f ∷ []) ≡ present fs ++ present (f ∷ [])
present_more [] f = refl
present_more (None ∷ fs) f = present_more fs f
present_more (Some g ∷ fs) f = ap (λ l. g ∷ l) (present_more fs f)

pub function_more : (switches : List Switch) (fs : List (Option Function)) (f : Function) →
    map (with_switches switches) (present (fs ++ Some f ∷ [])) ≡ map (with_switches switches) (present fs) ++ with_switches switches f ∷ []
function_more switches fs f = ap (λ l. map (with_switches switches) l) (present_more fs (Some f)) ∙ map-append (with_switches switches) (present fs) (f ∷ [])

pub none_more : (switches : List Switch) (fs : List (Option Function)) →
    map (with_switches switches) (present (fs ++ None ∷ [])) ≡ map (with_switches switches) (present fs)
none_more switches fs = ap (λ l. map (with_switches switches) l) (present_more fs None ∙ append-nil (present fs))

pub ruleset functions = (function_more, none_more)
