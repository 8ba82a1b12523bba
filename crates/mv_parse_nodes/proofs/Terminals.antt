-- A list of tokens has as many terminals.
use Rattle.std.proofs.Common.{◌≡◌, ◌∙◌, ℕ, Bool, true, false, Err, List, [], ◌∷◌, length, refl, ap, subst}
use Rattle.std.specs.Prelude.{◌&&◌}
use Rattle.mv_syntax.specs.declared.token.Token.{Token}
use Rattle.mv_parse_grammar.specs.Terminals.{Terminal, terminals}
use Rattle.mv_parse_grammar.specs.Reader.{Read, next, next_two}
use Rattle.mv_parse_grammar.proofs.Verdict.{length_terminals}
use Rattle.mv_parse_nodes.specs.Gives.{Gives, IsTaken, IsTakenBefore}
use Rattle.mv_parse_nodes.specs.declared.fault.Fault.TheVariants.{Syntax}

pub gives_left : {A X : Type 0} {view : A → X × List Terminal} {read : Read X} (text : List ℕ) (ts : List Token) → Gives view (Err (Syntax (length (terminals text ts)))) read → Gives view (Err (Syntax (length ts))) read
gives_left {view = view} {read = read} text ts h = subst (λ n. Gives view (Err (Syntax n)) read) (length_terminals text ts) h

-- two terminals that come next

two_of : (first second : Terminal → Bool) (t : Terminal) (rest : List Terminal) (v : Bool) → first t ≡ true → next second rest ≡ v → next_two first second (t ∷ rest) ≡ v
two_of first second t [] v h k = k
two_of first second t (u ∷ rest) v h k = ap (λ b. b && second u) h ∙ k

pub both_come : (first second : Terminal → Bool) (ts : List Terminal) (t : Terminal) (rest : List Terminal) (u : Terminal) (more : List Terminal)
    → IsTaken first ts t rest → IsTaken second rest u more → IsTakenBefore first second ts t rest
both_come first second ts t rest u more h k = record {
  taken = h;
  both = ap (next_two first second) h.whole ∙ two_of first second t rest true h.kind (ap (next second) k.whole ∙ k.kind);
}

pub second_missing : (first second : Terminal → Bool) (ts : List Terminal) (t : Terminal) (rest : List Terminal) → IsTaken first ts t rest → next second rest ≡ false → next_two first second ts ≡ false
second_missing first second ts t rest h k = ap (next_two first second) h.whole ∙ two_of first second t rest false h.kind k

pub first_missing : (first second : Terminal → Bool) (ts : List Terminal) → next first ts ≡ false → next_two first second ts ≡ false
first_missing first second [] h = refl
first_missing first second (t ∷ []) h = refl
first_missing first second (t ∷ u ∷ ts) h = ap (λ b. b && second u) h
