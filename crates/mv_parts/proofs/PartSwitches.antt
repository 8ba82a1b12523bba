-- Switches, and the words of the globals before one, one more at a time.
use Rattle.std.proofs.Common.{arith, ◌≡◌, ℕ, ◌+◌, ◌<◌, ◌≤◌, ◌^◌, List, [], ◌∷◌, ◌++◌, Some, length, map, sum, take, get_or, slice_get, sym, ap, ◌∙◌}
use Rattle.std.proofs.lemmas.List.{take-map, map_more}
use Rattle.std.proofs.lemmas.List.Sums.{sum_by-take-le, sum_by_more, sum_by_more_le, sum-map}
use Rattle.mv_num.specs.declared.kind.Kind.{Kind}
use Rattle.mv_ast.specs.declared.program.Program.{Program}
use Rattle.mv_ast.specs.declared.program.Global.{Global}
use Rattle.mv_ast.specs.declared.program.Switch.{Switch}
use Rattle.mv_ast.specs.Counts.{words_of_size}
use Rattle.mv_ast.specs.Switches.{global_or_none}
use Rattle.mv_linker.specs.declared.parts.PartSwitch.{PartSwitch}
use Rattle.mv_link_data.proofs.Places.{size_of}
use Rattle.mv_variants.specs.Domains.{kind_or_int, switch_kind}
use Rattle.mv_parts.specs.Switches.{name_or_none, words_of, word_of, part_switch, HasSwitches}
use Rattle.mv_parts.proofs.Lists.{one_of_all}

-- ---- switches

pub global_there : (p : Program) → HasSwitches p → (number : ℕ) (s : Switch) → slice_get p.switches number ≡ Some s → s.global < length p.globals
global_there p has number s there = one_of_all (λ (x : Switch). x.global < length p.globals) p.switches has.there number s there

pub is_part : (p : Program) (number : ℕ) (s : Switch) → slice_get p.switches number ≡ Some s → (g : Global) → slice_get p.globals s.global ≡ Some g → (name : List ℕ) (word : ℕ) (kind : Kind)
    (values : List ℕ) → name ≡ g.name → word ≡ word_of p s.global → kind ≡ switch_kind p number → values ≡ s.values →
    record { name = name; word = word; kind = kind; values = values } ≡ part_switch p s
is_part p number s there g global_at name word kind values name_is word_is kind_is values_are =
    let named : name ≡ name_or_none (slice_get p.globals s.global) = name_is ∙ sym (ap name_or_none global_at) in
    let typed : kind ≡ kind_or_int (slice_get p.globals s.global) = kind_is ∙ ap (λ o. kind_or_int (slice_get p.globals (global_or_none o))) there in
    cc (named, typed)

-- one more
pub switches_step : (p : Program) (n : ℕ) (s : Switch) (old new : List PartSwitch) (part : PartSwitch) → n < length p.switches → s ≡ get_or p.switches n s →
    old ≡ map (part_switch p) (take n p.switches) → part ≡ part_switch p s → new ≡ old ++ part ∷ [] → new ≡ map (part_switch p) (take (n + 1) p.switches)
switches_step p n s old new part below here is part_is e =
    let before = map (part_switch p) (take n p.switches) in
    e ∙ ap (λ l. l ++ part ∷ []) is ∙ ap (λ x. before ++ x ∷ []) (part_is ∙ ap (part_switch p) here) ∙ sym (map_more (part_switch p) p.switches n s below)

-- ---- words

-- the words of the first globals, and of the next, are among those of all
pub next_fits : (gs : List Global) (k : ℕ) (g : Global) → k < length gs → g ≡ get_or gs k g → words_of (take k gs) + words_of_size g.size ≤ words_of gs
next_fits gs k g below here =
    let next = sum_by_more_le size_of gs k g below in
    let same = ap size_of here in
    omega (arith, next, same, sum-map size_of (take k gs), sum-map size_of gs)

pub next_counts : (gs : List Global) (k : ℕ) (g : Global) → k < length gs → g ≡ get_or gs k g → words_of (take (k + 1) gs) ≡ words_of (take k gs) + words_of_size g.size
next_counts gs k g below here =
    let next = sum_by_more size_of gs k g below in
    let same = ap size_of here in
    omega (arith, next, same, sum-map size_of (take k gs), sum-map size_of (take (k + 1) gs))

-- the words of the first globals are few
pub first_fit : (p : Program) → HasSwitches p → (global : ℕ) → words_of (take global p.globals) < 2 ^ 32
first_fit p has global =
    let first = sum_by-take-le size_of p.globals global in
    let few = has.words in
    omega (arith, first, few, sum-map size_of (take global p.globals), sum-map size_of p.globals)

-- they are those of the first sizes
pub words_are : (p : Program) (global : ℕ) → words_of (take global p.globals) ≡ word_of p global
words_are p global = ap sum (sym (take-map size_of global p.globals))
