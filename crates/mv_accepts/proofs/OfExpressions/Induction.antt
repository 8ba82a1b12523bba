-- By induction over an expression: what its judgement finds has a property, where that comes from its parts and from the rules that are kept.
use Rattle.std.proofs.Common.{◌≡◌, ℕ, Bool, sym, ◌∙◌, ap, subst, List, [], ◌∷◌, map}
use Rattle.mv_num.specs.declared.kind.Kind.{Kind}
use Rattle.mv_ast.specs.declared.program.CType.{CType}
use Rattle.mv_syntax.specs.declared.unit.Node.{Node, Node-F, roll-Node, out-Node, map-Node, ind-Node}
use Rattle.mv_syntax.specs.declared.unit.What.{What, What-F, roll-What, out-What, out-roll-What, map-What}
use Rattle.mv_syntax.specs.declared.unit.What.TheOpen as what
use Rattle.mv_syntax.specs.declared.unit.EnumSpec.{EnumSpec}
use Rattle.mv_syntax.specs.declared.unit.Mark.{Mark}
use Rattle.mv_syntax.specs.declared.unit.Member.{Member}
use Rattle.mv_syntax.specs.declared.unit.Specs.{Specs}
use Rattle.mv_check_scope.specs.declared.scope.Scope.{Scope}
use Rattle.mv_check_expressions.specs.declared.seen.Seen.{Seen}
use Rattle.mv_check_expressions.specs.declared.seen.Use.{Use}
use Rattle.mv_check_expressions.specs.declared.seen.Use.TheVariants as «use»
use Rattle.mv_check_expressions.specs.Judged.{Good}
use Rattle.mv_check_expressions.specs.TypeNames.{type_of}
use Rattle.mv_check_expressions.specs.Calls.{argument_use}
use Rattle.mv_check_expressions.specs.Found.{Layer, found}
use Rattle.mv_check_expressions.specs.Breaches.{by_itself}
use Rattle.mv_check_expressions.specs.Judgements.{operand_use, cast_use, judgement, judgements}
use Rattle.mv_check_expressions.proofs.Equations.{judged-Number, judged-Name, judged-Unary, judged-Binary, judged-Choose, judged-Assign, judged-Before, judged-After, judged-Index, judged-Call, judged-Cast}
use Rattle.mv_accepts.proofs.OfExpressions.Kept.{went_on, same_good, Keeps, kept}

abbrev form_of : Node → What-F What EnumSpec Mark Member Node Specs
form_of n = out-What (out-Node n).what

-- what is found of a node by what it is used as, and of arguments that are used alike
module _ (scope : Scope) (Has : Node → Use → Seen → Type 0) (HaveAll : List Node → Use → List Seen → Type 0) where
  abbrev Follows : Node → Use → Layer → Type 0
  Follows n u layer = Keeps scope u layer → Has n u (found scope u layer)

  -- that it comes from the parts, for each form of expression
  pub record Steps : Type 0 where
    pub no_argument : (u : Use) → HaveAll [] u []
    pub one_argument : (a : Node) (nodes : List Node) (u : Use) (y : Seen) (ys : List Seen) → Has a u y → HaveAll nodes u ys → HaveAll (a ∷ nodes) u (y ∷ ys)
    pub number : (n : Node) (u : Use) (m : ℕ) (kind : Kind) → form_of n ≡ what.Number m kind → Follows n u (what.Number m kind)
    pub name : (n : Node) (u : Use) (name : List ℕ) → form_of n ≡ what.Name name → Follows n u (what.Name name)
    pub unary : (n : Node) (u : Use) (op : ℕ) (a : Node) → form_of n ≡ what.Unary op a → (x : Seen) → Has a (operand_use op) x → Follows n u (what.Unary op x)
    pub binary : (n : Node) (u : Use) (op : ℕ) (a b : Node) → form_of n ≡ what.Binary op a b → (x y : Seen) → Has a «use».Value x → Has b «use».Value y →
        Follows n u (what.Binary op x y)
    pub choose : (n : Node) (u : Use) (c a b : Node) → form_of n ≡ what.Choose c a b → (z x y : Seen) → Has c «use».Value z → Has a «use».Value x → Has b «use».Value y →
        Follows n u (what.Choose z x y)
    pub assign : (n : Node) (u : Use) (op : ℕ) (a b : Node) → form_of n ≡ what.Assign op a b → (x y : Seen) → Has a «use».Place x → Has b «use».Value y →
        Follows n u (what.Assign op x y)
    pub before : (n : Node) (u : Use) (up : Bool) (a : Node) → form_of n ≡ what.Before up a → (x : Seen) → Has a «use».Place x → Follows n u (what.Before up x)
    pub after : (n : Node) (u : Use) (up : Bool) (a : Node) → form_of n ≡ what.After up a → (x : Seen) → Has a «use».Place x → Follows n u (what.After up x)
    pub index : (n : Node) (u : Use) (a i : Node) → form_of n ≡ what.Index a i → (x y : Seen) → Has a «use».Base x → Has i «use».Value y → Follows n u (what.Index x y)
    pub call : (n : Node) (u : Use) (f : Node) (nodes : List Node) → form_of n ≡ what.Call f nodes → (x : Seen) (ys : List Seen) → Has f «use».Callee x →
        HaveAll nodes (argument_use x) ys → Follows n u (what.Call x ys)
    pub cast : (n : Node) (u : Use) (specs : Specs) (a : Node) → form_of n ≡ what.Cast specs a → (t : CType) (x : Seen) → type_of scope specs ≡ Good t →
        Has a (cast_use t) x → Follows n u (what.Cast t x)

  module _ (steps : Steps) where
    abbrev NodeIs : Node → Type 0
    NodeIs n = (u : Use) (y : Seen) → judgement scope n u ≡ Good y → Has n u y

    abbrev WhatIs : What → Type 0
    WhatIs w = (n : Node) → (out-Node n).what ≡ w → NodeIs n

    abbrev EnumIs : EnumSpec → Type 0
    EnumIs e = Unit {0}

    abbrev MarkIs : Mark → Type 0
    MarkIs m = Unit {0}

    abbrev MemberIs : Member → Type 0
    MemberIs m = Unit {0}

    abbrev SpecsAre : Specs → Type 0
    SpecsAre s = Unit {0}

    abbrev W : Type 0
    W = (x : What) × WhatIs x

    abbrev E : Type 0
    E = (x : EnumSpec) × EnumIs x

    abbrev K : Type 0
    K = (x : Mark) × MarkIs x

    abbrev M : Type 0
    M = (x : Member) × MemberIs x

    abbrev N : Type 0
    N = (x : Node) × NodeIs x

    abbrev S : Type 0
    S = (x : Specs) × SpecsAre x

    abbrev below : What-F W E K M N S → What-F What EnumSpec Mark Member Node Specs
    below = map-What W E K M N S What EnumSpec Mark Member Node Specs (λ a. a.0) (λ a. a.0) (λ a. a.0) (λ a. a.0) (λ a. a.0) (λ a. a.0)

    all_have : (args : List N) (u : Use) (ys : List Seen) → judgements scope (map (λ (a : N). a.0) args) u ≡ Good ys → HaveAll (map (λ (a : N). a.0) args) u ys
    all_have [] u ys h = subst (HaveAll [] u) (same_good [] ys h) (steps.no_argument u)
    all_have (a ∷ args) u ys h =
        let nodes : List Node = map (λ (a : N). a.0) args in
        let s = went_on (judgement scope a.0 u) _ ys h in
        let r = went_on (judgements scope nodes u) _ ys s.2 in
        subst (HaveAll (a.0 ∷ nodes) u) (same_good (s.0 ∷ r.0) ys r.2) (steps.one_argument a.0 nodes u s.0 r.0 (a.1 u s.0 s.1) (all_have args u r.0 r.1))

    -- what a node is by itself
    settled : (n : Node) (u : Use) (layer : Layer) (y : Seen) → by_itself scope (out-Node n).place u layer ≡ Good y → Follows n u layer → Has n u y
    settled n u layer y h k = let s = kept (out-Node n).place (found scope u layer) y scope u layer h in subst (Has n u) s.1 (k s.0)

    by_what : (x : What-F W E K M N S) (n : Node) → form_of n ≡ below x → NodeIs n
    by_what (what.Number m kind) n o u y h = settled n u (what.Number m kind) y (sym (judged-Number scope n u m kind o) ∙ h) (steps.number n u m kind o)
    by_what (what.Name name) n o u y h = settled n u (what.Name name) y (sym (judged-Name scope n u name o) ∙ h) (steps.name n u name o)
    by_what (what.Unary op a) n o u y h =
        let s = went_on (judgement scope a.0 (operand_use op)) _ y (sym (judged-Unary scope n u op a.0 o) ∙ h) in
        settled n u (what.Unary op s.0) y s.2 (steps.unary n u op a.0 o s.0 (a.1 (operand_use op) s.0 s.1))
    by_what (what.Binary op a b) n o u y h =
        let s = went_on (judgement scope a.0 «use».Value) _ y (sym (judged-Binary scope n u op a.0 b.0 o) ∙ h) in
        let r = went_on (judgement scope b.0 «use».Value) _ y s.2 in
        settled n u (what.Binary op s.0 r.0) y r.2 (steps.binary n u op a.0 b.0 o s.0 r.0 (a.1 «use».Value s.0 s.1) (b.1 «use».Value r.0 r.1))
    by_what (what.Choose c a b) n o u y h =
        let q = went_on (judgement scope c.0 «use».Value) _ y (sym (judged-Choose scope n u c.0 a.0 b.0 o) ∙ h) in
        let s = went_on (judgement scope a.0 «use».Value) _ y q.2 in
        let r = went_on (judgement scope b.0 «use».Value) _ y s.2 in
        settled n u (what.Choose q.0 s.0 r.0) y r.2
        (steps.choose n u c.0 a.0 b.0 o q.0 s.0 r.0 (c.1 «use».Value q.0 q.1) (a.1 «use».Value s.0 s.1) (b.1 «use».Value r.0 r.1))
    by_what (what.Assign op a b) n o u y h =
        let s = went_on (judgement scope a.0 «use».Place) _ y (sym (judged-Assign scope n u op a.0 b.0 o) ∙ h) in
        let r = went_on (judgement scope b.0 «use».Value) _ y s.2 in
        settled n u (what.Assign op s.0 r.0) y r.2 (steps.assign n u op a.0 b.0 o s.0 r.0 (a.1 «use».Place s.0 s.1) (b.1 «use».Value r.0 r.1))
    by_what (what.Before up a) n o u y h =
        let s = went_on (judgement scope a.0 «use».Place) _ y (sym (judged-Before scope n u up a.0 o) ∙ h) in
        settled n u (what.Before up s.0) y s.2 (steps.before n u up a.0 o s.0 (a.1 «use».Place s.0 s.1))
    by_what (what.After up a) n o u y h =
        let s = went_on (judgement scope a.0 «use».Place) _ y (sym (judged-After scope n u up a.0 o) ∙ h) in
        settled n u (what.After up s.0) y s.2 (steps.after n u up a.0 o s.0 (a.1 «use».Place s.0 s.1))
    by_what (what.Index a i) n o u y h =
        let s = went_on (judgement scope a.0 «use».Base) _ y (sym (judged-Index scope n u a.0 i.0 o) ∙ h) in
        let r = went_on (judgement scope i.0 «use».Value) _ y s.2 in
        settled n u (what.Index s.0 r.0) y r.2 (steps.index n u a.0 i.0 o s.0 r.0 (a.1 «use».Base s.0 s.1) (i.1 «use».Value r.0 r.1))
    by_what (what.Call f args) n o u y h =
        let nodes : List Node = map (λ (a : N). a.0) args in
        let s = went_on (judgement scope f.0 «use».Callee) _ y (sym (judged-Call scope n u f.0 nodes o) ∙ h) in
        let r = went_on (judgements scope nodes (argument_use s.0)) _ y s.2 in
        settled n u (what.Call s.0 r.0) y r.2 (steps.call n u f.0 nodes o s.0 r.0 (f.1 «use».Callee s.0 s.1) (all_have args (argument_use s.0) r.0 r.1))
    by_what (what.Cast specs a) n o u y h =
        let s = went_on (type_of scope specs.0) _ y (sym (judged-Cast scope n u specs.0 a.0 o) ∙ h) in
        let r = went_on (judgement scope a.0 (cast_use s.0)) _ y s.2 in
        settled n u (what.Cast s.0 r.0) y r.2 (steps.cast n u specs.0 a.0 o s.0 r.0 s.1 (a.1 (cast_use s.0) r.0 r.1))

    what_case : (z : What-F What EnumSpec Mark Member Node Specs) (x : What-F W E K M N S) → below x ≡ z → WhatIs (roll-What z)
    what_case z x q n w = by_what x n (ap out-What w ∙ (out-roll-What z ∙ sym q))

    node_case : (z : Node-F What EnumSpec Mark Member Node Specs) (x : Node-F W E K M N S) →
        map-Node W E K M N S What EnumSpec Mark Member Node Specs (λ a. a.0) (λ a. a.0) (λ a. a.0) (λ a. a.0) (λ a. a.0) (λ a. a.0) x ≡ z → NodeIs (roll-Node z)
    node_case z x q = x.what.1 (roll-Node z) (ap (λ (w : Node-F What EnumSpec Mark Member Node Specs). w.what) (sym q))

    pub every_node : (n : Node) → NodeIs n
    every_node n = ind-Node WhatIs EnumIs MarkIs MemberIs NodeIs SpecsAre what_case (λ z x q. tt) (λ z x q. tt) (λ z x q. tt) node_case (λ z x q. tt) n
