-- The table is built as its definition says, and `clap`'s promise holds of it.
use Rattle.std.proofs.Common.{ℕ, ◌≡◌, ◌≢◌, ◌<◌, ◌≤◌, ◌+◌, ◌∙◌, ◌⊎◌, ⊎_elim, true, false, refl, sym, ap, ap₂, subst, List, [], map, take, length, get_or, fold}
use Rattle.std.proofs.lemmas.List.{take_all}
use Rattle.std.proofs.lemmas.List.Folds.{fold-map}
use Rattle.std.proofs.lemmas.List.Sums.{fold_more}
use Rattle.clap.specs.Walk.{Row, Text, rule_of}
use Rattle.clap.specs.Simple.{App, app_of, is_simple, matches_of, new_rule, with_rule}
use Rattle.clap.specs.Faults.{fault_of, is_simple_and_free}
use Rattle.clap.specs.Kinds.{IsAmong}
use Rattle.clap.specs.Built.{AddsArg}
use Rattle.clap.specs.declared.builder.arg.Arg.{Arg}
use Rattle.clap.specs.declared.builder.command.Command.{Command}
use Rattle.clap.specs.declared.error.kind.ErrorKind.{ErrorKind}
use Rattle.clap.specs.declared.error.kind.ErrorKind.TheVariants.{OutOfMemory}
use Rattle.mv_harts_words.specs.declared.options.TheConstants.{OPERANDS}
use Rattle.mv_harts_words.specs.Asked.{app, no_operands, with_operand}
use denote.Ref.{Bor}

-- one operand more
pub operand_more : (start : App) (xs : List (Bor Text)) (i : ℕ) (d : Bor Text) (old new : Command) (arg : Arg) → i < length xs → AddsArg old arg new → arg.global ≡ false →
    rule_of arg ≡ new_rule (get_or xs i d).now → app_of old ≡ fold (λ a x. with_operand a x.now) start (take i xs) →
    app_of new ≡ fold (λ a x. with_operand a x.now) start (take (i + 1) xs)
operand_more start xs i d old new arg here adds local is before =
    adds.shape local ∙ ap₂ with_rule before is ∙ sym (fold_more (λ a x. with_operand a x.now) start xs i d here)

pub whole : (xs : List (Bor Text)) (i : ℕ) (program : Command) → length xs ≤ i → map (λ x. x.now) xs ≡ map (λ name. name.now) OPERANDS →
    app_of program ≡ fold (λ a x. with_operand a x.now) no_operands (take i xs) → app_of program ≡ app
unfolding app
whole xs i program all same is =
    is ∙ ap (fold (λ a x. with_operand a x.now) no_operands) (take_all i xs all) ∙ sym (fold-map with_operand (λ x. x.now) no_operands xs) ∙ ap (fold with_operand no_operands) same

app_simple : is_simple app ≡ true
unfolding app
app_simple = refl

app_free : is_simple_and_free app ≡ true
unfolding app
app_free = refl

-- what a parse says that succeeds, and one that fails for another cause than memory
pub taken : {R : Type 0} (a : App) (words : List Text) (rows : List Row) → a ≡ app → (is_simple_and_free a ≡ true → fault_of a words ≡ []) →
    (is_simple a ≡ true → (rows ≡ matches_of a words) × R) → (fault_of app words ≡ []) × (rows ≡ matches_of app words)
taken a words rows is faultless matches =
    (ap (λ x. fault_of x words) (sym is) ∙ faultless (ap is_simple_and_free is ∙ app_free), (matches (ap is_simple is ∙ app_simple)).0 ∙ ap (λ x. matches_of x words) is)

pub refused : (a : App) (words : List Text) (kind : ErrorKind) → a ≡ app → (is_simple_and_free a ≡ true → (kind ≡ OutOfMemory) ⊎ IsAmong kind (fault_of a words)) →
    (kind ≡ OutOfMemory → ⊥) → fault_of app words ≢ []
refused a words kind is fails other none =
    ⊎_elim other (λ among. subst (IsAmong kind) (ap (λ x. fault_of x words) is ∙ none) among) (fails (ap is_simple_and_free is ∙ app_free))
