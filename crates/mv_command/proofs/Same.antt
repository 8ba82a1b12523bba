-- Words are one command at most.
use Rattle.std.proofs.Common.{ℕ, ◌≡◌, List, length, inl, inr, refl, sym, ap, ap₂, ◌∙◌, subst, arith, eqb}
use Rattle.std.specs.Prelude.{Option, Some, None, [], ◌∷◌, if◌then◌else◌}
use Rattle.std.specs.List.{list_any, slice_split, position_or_len}
use Rattle.std.specs.Str.{bytes_eq}
use Rattle.std.proofs.lemmas.Fmt.{decimal_injective}
use Rattle.std.proofs.lemmas.Option.{same_Some}
use Rattle.clap.specs.Walk.{Row, Text}
use Rattle.mv_command.specs.declared.items.Item.{Item}
use Rattle.mv_command.specs.declared.command.RunOptions.{RunOptions}
use Rattle.mv_command.specs.declared.conversion.Conversion.{Conversion}
use Rattle.mv_command.specs.declared.conversion.Conversion.TheVariants.{Upgrade, Assemble, ToElf, FromElf}
use Rattle.mv_command.specs.declared.options.TheConstants.{AT, ORACLE, STEPS}
use Rattle.mv_command.specs.Spelled.{run, build, exec, list, eval, gen, upgrade, asm, disasm, elf, unelf, check}
use Rattle.mv_command.specs.Conversions.{from_of, name_of, to_of}
use Rattle.mv_command.specs.Items.{Ascend}
use Rattle.mv_command.specs.Oracles.{IsOracle}
use Rattle.mv_command.specs.declared.oracles.Oracle.{Oracle}
use Rattle.mv_command.specs.Commands.{Asked, Runs, Builds, Executes, Lists, Evaluates, Generates, Converts, Disassembles, Checks, Prints, IsLimit, AreItems, AreOptions, Asks, IsCommand, PicksBy, by_command, by_none, given, oracle_asked}
use Rattle.mv_command.proofs.ItemTexts.{same_items, list_pieces}
use Rattle.mv_command.proofs.OracleTexts.{same_named}

-- the names of the commands that do more than print, by what they ask for
abbrev names : List (List Text)
names =
    (run ∷ []) ∷ (build ∷ []) ∷ (exec ∷ []) ∷ (list ∷ []) ∷ (eval ∷ []) ∷ (gen ∷ []) ∷ (upgrade ∷ asm ∷ elf ∷ unelf ∷ []) ∷ (disasm ∷ []) ∷ (check ∷ []) ∷ []

-- where a command stands among these, by its name and by what it asks for
abbrev pub place : Text → ℕ
place name = position_or_len (λ ns. list_any (λ n. bytes_eq n name) ns) names

abbrev pub order : Asked → ℕ
order (Runs file options) = 0
order (Builds file image) = 1
order (Executes image options) = 2
order (Lists image words) = 3
order (Evaluates file bound) = 4
order (Generates number source) = 5
order (Converts conversion from to) = 6
order (Disassembles image) = 7
order (Checks file image) = 8
order (Prints text) = 9

pub placed : (name : Text) (rows : List Row) (a : Asked) → Asks name rows a → place name ≡ order a
placed name rows (Runs file options) h = ap place h.0
placed name rows (Builds file image) h = ap place h.0
placed name rows (Executes image options) h = ap place h.0
placed name rows (Lists image words) h = ap place h.0
placed name rows (Evaluates file bound) h = ap place h.0
placed name rows (Generates number source) h = ap place h.0
placed name rows (Converts Upgrade from to) h = ap place h.0
placed name rows (Converts Assemble from to) h = ap place h.0
placed name rows (Converts ToElf from to) h = ap place h.0
placed name rows (Converts FromElf from to) h = ap place h.0
placed name rows (Disassembles image) h = ap place h.0
placed name rows (Checks file image) h = ap place h.0
placed name rows (Prints text) (inl h) = ap place h.0
placed name rows (Prints text) (inr h) = ap place h.0

-- a conversion by the name of its command
abbrev by_name : Text → Conversion
by_name name = if bytes_eq name upgrade then Upgrade else (if bytes_eq name asm then Assemble else (if bytes_eq name elf then ToElf else FromElf))

its_own : (conversion : Conversion) → by_name (name_of conversion) ≡ conversion
its_own Upgrade = refl
its_own Assemble = refl
its_own ToElf = refl
its_own FromElf = refl

same_conversion : (c d : Conversion) → name_of c ≡ name_of d → c ≡ d
same_conversion c d e = sym (its_own c) ∙ ap by_name e ∙ its_own d

pub same_limit : (text : Option Text) (steps more : ℕ) → IsLimit text steps → IsLimit text more → steps ≡ more
same_limit None steps more l m = l ∙ sym m
same_limit (Some text) steps more l m = decimal_injective steps more (omega (arith, l.2)) (omega (arith, m.2)) (sym l.0 ∙ m.0)

same_list : (text : Option Text) (items more : List Item) → AreItems text items → AreItems text more → items ≡ more
same_list None items more l m = l ∙ sym m
same_list (Some text) items more l m =
    same_items items more l.each m.each (list_pieces text items (slice_split (λ b. eqb b 44) text) refl l ∙ sym (list_pieces text more (slice_split (λ b. eqb b 44) text) refl m))

same_oracle : (text : Option Text) (oracle more : Oracle) → IsOracle text oracle → IsOracle text more → oracle ≡ more
same_oracle None oracle more l m = l ∙ sym m
same_oracle (Some text) oracle more l m = same_named text oracle more l m

same_options : (rows : List Row) (options more : RunOptions) → AreOptions rows options → AreOptions rows more → options ≡ more
same_options rows options more one other =
    let steps = same_limit (given STEPS.now rows) options.steps more.steps one.limit other.limit in
    let items = same_list (given AT.now rows) options.items more.items one.items other.items in
    let oracle = same_oracle (given ORACLE.now rows) options.oracle more.oracle one.oracle other.oracle in
    let bindings = one.bindings ∙ sym other.bindings in
    let words = one.words ∙ sym other.words in
    let log = one.log ∙ sym other.log in
    let stats = one.stats ∙ sym other.stats in
    λ i. record { steps = steps i; items = items i; oracle = oracle i; bindings = bindings i; words = words i; log = log i; stats = stats i }

same_text : {value : Option Text} {x y : Text} → value ≡ Some x → value ≡ Some y → x ≡ y
same_text {x = x} {y = y} e f = same_Some x y (sym e ∙ f)

same_asks : (name : Text) (rows : List Row) (a b : Asked) → Asks name rows a → Asks name rows b → a ≡ b
same_asks name rows (Runs f o) (Runs g p) h k = ap₂ Runs (same_text h.1 k.1) (same_options rows o p h.2 k.2)
same_asks name rows (Builds f i) (Builds g j) h k = ap₂ Builds (same_text h.1 k.1) (same_text h.2 k.2)
same_asks name rows (Executes f o) (Executes g p) h k = ap₂ Executes (same_text h.1 k.1) (same_options rows o p h.2 k.2)
same_asks name rows (Lists i s) (Lists j t) h k = ap₂ Lists (same_text h.1 k.1) (h.2 ∙ sym k.2)
same_asks name rows (Evaluates f m) (Evaluates g n) h k =
    ap₂ Evaluates (same_text h.1 k.1) (decimal_injective m n (omega (arith, h.3)) (omega (arith, k.3)) (same_text h.2 k.2))
same_asks name rows (Generates m s) (Generates n t) h k =
    ap₂ Generates (decimal_injective m n (omega (arith, h.2)) (omega (arith, k.2)) (same_text h.1 k.1)) (h.3 ∙ sym k.3)
same_asks name rows (Converts c f t) (Converts d g u) h k =
    let same = same_conversion c d (sym h.0 ∙ k.0) in
    let from = same_text (subst (λ x. given (from_of x) rows ≡ Some f) same h.1) k.1 in
    let to = same_text (subst (λ x. given (to_of x) rows ≡ Some t) same h.2) k.2 in
    λ i. Converts (same i) (from i) (to i)
same_asks name rows (Disassembles i) (Disassembles j) h k = ap Disassembles (same_text h.1 k.1)
same_asks name rows (Checks f i) (Checks g j) h k = ap₂ Checks (same_text h.1 k.1) (same_text h.2 k.2)
same_asks name rows (Prints s) (Prints t) (inl h) (inl k) = ap Prints (same_Some s t (sym h.1 ∙ k.1))
same_asks name rows (Prints s) (Prints t) (inr h) (inr k) = ap Prints (h.1 ∙ sym k.1)
same_asks name rows (Prints s) (Prints t) (inl h) (inr k) = let l : 4 ≡ 7 = ap length (sym h.0 ∙ k.0) in absurd (omega (arith, l))
same_asks name rows (Prints s) (Prints t) (inr h) (inl k) = let l : 7 ≡ 4 = ap length (sym h.0 ∙ k.0) in absurd (omega (arith, l))
same_asks name rows a b h k = let l : order a ≡ order b = sym (placed name rows a h) ∙ placed name rows b k in absurd (omega (arith, l))

pub same_asked : {words : List Text} {a b : Asked} → IsCommand words a → IsCommand words b → a ≡ b
same_asked {a = a} {b = b} c d =
    let same = same_Some (d.name, d.rows) (c.name, c.rows) (sym d.read ∙ c.read) in
    same_asks c.name c.rows a b c.asks (subst (λ (p : Text × List Row). Asks p.0 p.1 b) same d.asks)

-- words pick by one oracle
pub same_picks : {words : List Text} {a b : Oracle} → PicksBy words a → PicksBy words b → a ≡ b
same_picks (by_command a c) (by_command b d) = ap oracle_asked (same_asked c d)
same_picks (by_command a c) (by_none none) = absurd (none a c)
same_picks (by_none none) (by_command a c) = absurd (none a c)
same_picks (by_none none) (by_none more) = refl

ascend_of : (list : Option Text) (items : List Item) → AreItems list items → Ascend 0 items
ascend_of None items none = subst (Ascend 0) (sym none) tt
ascend_of (Some text) items list = list.ascend

-- the polls of the operator's items ascend
pub run_items : {words : List Text} {file : List ℕ} {options : RunOptions} → IsCommand words (Runs file options) → Ascend 0 options.items
run_items {options = options} c = ascend_of (given AT.now c.rows) options.items c.asks.2.items

pub exec_items : {words : List Text} {image : List ℕ} {options : RunOptions} → IsCommand words (Executes image options) → Ascend 0 options.items
exec_items {options = options} c = ascend_of (given AT.now c.rows) options.items c.asks.2.items
