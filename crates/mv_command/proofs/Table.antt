-- The table is built as its definition says, and `clap`'s promise holds of it.
use Rattle.std.proofs.Common.{ℕ, ◌≡◌, ◌≢◌, ◌<◌, ◌≤◌, ◌+◌, ◌||◌, ◌∙◌, ◌⊎◌, ⊎_elim, true, false, refl, sym, ap, ap₂, subst, List, [], map, take, length, get_or, fold, Option}
use Rattle.std.proofs.lemmas.List.{take_all}
use Rattle.std.proofs.lemmas.List.Folds.{fold-map}
use Rattle.std.proofs.lemmas.List.Sums.{fold_more}
use Rattle.clap.specs.Walk.{Row, Text, rule_of}
use Rattle.clap.specs.Simple.{App, app_of, is_simple, subcommand_of, with_rule, with_subcommand}
use Rattle.clap.specs.Faults.{fault_of, is_simple_and_free}
use Rattle.clap.specs.Kinds.{IsAmong}
use Rattle.clap.specs.Built.{AddsArg, AddsSubcommand}
use Rattle.clap.specs.declared.builder.arg.Arg.{Arg}
use Rattle.clap.specs.declared.builder.command.Command.{Command}
use Rattle.clap.specs.declared.builder.command.Command.TheViews.{out-Command}
use Rattle.clap.specs.declared.error.kind.ErrorKind.{ErrorKind}
use Rattle.clap.specs.declared.error.kind.ErrorKind.TheVariants.{OutOfMemory}
use Rattle.mv_command.specs.declared.options.Argument as declared_argument
use Rattle.mv_command.specs.declared.options.Form as declared_form
use Rattle.mv_command.specs.Commands.{app, argument_of, form, form_of, no_forms, rule, table, with_argument, with_form}

-- one argument more
pub argument_more : (start : App) (xs : List declared_argument.Argument) (i : ℕ) (d : declared_argument.Argument) (old new : Command) (arg : Arg) → i < length xs → AddsArg old arg new → arg.global ≡ false →
    rule_of arg ≡ rule (get_or xs i d).kind (get_or xs i d).name.now → app_of old ≡ fold (λ a x. with_argument a (argument_of x)) start (take i xs) →
    app_of new ≡ fold (λ a x. with_argument a (argument_of x)) start (take (i + 1) xs)
argument_more start xs i d old new arg here adds local is before =
    adds.shape local ∙ ap₂ with_rule before is ∙ sym (fold_more (λ a x. with_argument a (argument_of x)) start xs i d here)

pub local_more : (old new : Command) (arg : Arg) → AddsArg old arg new → arg.global ≡ false → (out-Command old).has_globals ≡ false → (out-Command new).has_globals ≡ false
local_more old new arg adds local before = adds.globals ∙ ap₂ (λ a b. a || b) before local

pub arguments_all : (start : App) (xs : List declared_argument.Argument) (i : ℕ) (command : Command) → length xs ≤ i → app_of command ≡ fold (λ a x. with_argument a (argument_of x)) start (take i xs) →
    app_of command ≡ fold with_argument start (map argument_of xs)
arguments_all start xs i command all is = is ∙ ap (fold (λ a x. with_argument a (argument_of x)) start) (take_all i xs all) ∙ sym (fold-map with_argument argument_of start xs)

-- one command more
pub form_more : (start : App) (xs : List declared_form.Form) (i : ℕ) (d : declared_form.Form) (old new sub : Command) → i < length xs → AddsSubcommand old sub new → (out-Command sub).has_globals ≡ false →
    app_of sub ≡ form (get_or xs i d).name.now (map argument_of (get_or xs i d).arguments.now) → app_of old ≡ fold (λ a x. with_form a (form_of x)) start (take i xs) →
    app_of new ≡ fold (λ a x. with_form a (form_of x)) start (take (i + 1) xs)
form_more start xs i d old new sub here adds local is before =
    adds.shape local ∙ ap₂ (λ a b. with_subcommand a b.top) before is ∙ sym (fold_more (λ a x. with_form a (form_of x)) start xs i d here)

pub whole : (xs : List declared_form.Form) (i : ℕ) (program : Command) → length xs ≤ i → map form_of xs ≡ table → app_of program ≡ fold (λ a x. with_form a (form_of x)) no_forms (take i xs) → app_of program ≡ app
unfolding app
whole xs i program all same is =
    is ∙ ap (fold (λ a x. with_form a (form_of x)) no_forms) (take_all i xs all) ∙ sym (fold-map with_form form_of no_forms xs) ∙ ap (fold with_form no_forms) same

pub app_simple : is_simple app ≡ true
unfolding app
app_simple = refl

pub app_free : is_simple_and_free app ≡ true
unfolding app
app_free = refl

-- what a parse says that succeeds, and one that fails for another cause than memory
pub taken : {R : Type 0} (a : App) (words : List Text) (met : Option (Text × List Row)) → a ≡ app → (is_simple_and_free a ≡ true → fault_of a words ≡ []) →
    (is_simple a ≡ true → R × (met ≡ subcommand_of a words)) → (fault_of app words ≡ []) × (met ≡ subcommand_of app words)
taken a words met is faultless matches =
    (ap (λ x. fault_of x words) (sym is) ∙ faultless (ap is_simple_and_free is ∙ app_free), (matches (ap is_simple is ∙ app_simple)).1 ∙ ap (λ x. subcommand_of x words) is)

pub refused : (a : App) (words : List Text) (kind : ErrorKind) → a ≡ app → (is_simple_and_free a ≡ true → (kind ≡ OutOfMemory) ⊎ IsAmong kind (fault_of a words)) →
    (kind ≡ OutOfMemory → ⊥) → fault_of app words ≢ []
refused a words kind is fails other none =
    ⊎_elim other (λ among. subst (IsAmong kind) (ap (λ x. fault_of x words) is ∙ none) among) (fails (ap is_simple_and_free is ∙ app_free))
