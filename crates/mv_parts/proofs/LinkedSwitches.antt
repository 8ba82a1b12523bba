-- The switches and pointer switches of a well-formed program: their places in data, and the kinds of switches.
use Rattle.std.proofs.Common.{◌≡◌, ℕ, zero, suc, ◌<◌, ◌≤◌, true, List, [], ◌∷◌, Some, Option, length, map, get_or, slice_get, slice_index, sum_by, All, refl, sym, ap, ◌∙◌, subst, arith}
use Rattle.std.proofs.lemmas.List.{length-map}
use Rattle.std.proofs.lemmas.List.Elements.{All-head, All-tail, All-map, All-weaker}
use Rattle.std.proofs.lemmas.List.Sums.{sum-map, sum_by-le, sum_by_more_le}
use Rattle.std.proofs.lemmas.Option.{slice_get_within, get_or_from_slice_get, same_Some}
use Rattle.mv_num.specs.Kinds.{kind_number, is_value, is_at_most}
use Rattle.mv_ast.specs.declared.program.Program.{Program}
use Rattle.mv_ast.specs.declared.program.Global.{Global}
use Rattle.mv_ast.specs.declared.program.Switch.{Switch}
use Rattle.mv_ast.specs.Counts.{words_of_size}
use Rattle.mv_ast.specs.Switches.{global_or_none, values_or_none}
use Rattle.mv_source_forms.specs.WellFormed.{IsWellFormed, IsWellFormedGlobal, IsWellFormedPointer, IsWellFormedSwitch}
use Rattle.mv_source_facts.specs.Facts.{IsTablePointer, IsTableSwitch, HasTableFacts}
use Rattle.mv_merge.specs.declared.rows.Domain.{Domain}
use Rattle.mv_merge.specs.Guards.{kinds, HasRanges}
use Rattle.mv_descriptors.specs.declared.rows.GuardRow.{GuardRow}
use Rattle.mv_descriptors.specs.Rows.{ZerosFrom}
use Rattle.mv_ir.specs.Combinations.{In}
use Rattle.mv_linker.specs.Tables.{FitsPartPointer, FitsPartSwitch, IsName, IsRange, kind_in, kinds_of}
use Rattle.mv_link_data.specs.FirstData.{global_sizes, data_words}
use Rattle.mv_link_data.specs.Laws.{HasRoom, CountIsSum}
use Rattle.mv_variants.specs.Domains.{integer_kind, kind_or_int, switch_kind, domain}
use Rattle.mv_parts.specs.Switches.{name_or_none, word_of, part_switch, part_switches, part_pointer, part_pointers}
use Rattle.mv_parts.specs.Laws.{SwitchesAreThere, DataIsCounted}
use Rattle.mv_parts.proofs.LinkedLists.{one_in}
use Rattle.mv_parts.proofs.Lists.{map_at, one_of_all}
use Rattle.mv_parts.proofs.LinkedNames.{name_fits}
use Rattle.mv_num.proofs.Lists.{there_at}

-- ---- data

has_room : (p : Program) → IsWellFormed p → HasRoom p
has_room p formed = All-weaker IsWellFormedGlobal (λ (g : Global). length g.first ≤ words_of_size g.size) (λ g h. h.given) p.globals formed.globals

pub data_counted : CountIsSum → DataIsCounted
data_counted count p formed = count p (has_room p formed)

pub switches_there : SwitchesAreThere
switches_there p formed =
    let limits = formed.limits in
    let size = λ (g : Global). words_of_size g.size in
    let most = sum_by-le size 262144 p.globals limits.global_elements in
    let same : data_words p ≡ sum_by size p.globals = sum-map size p.globals in record {
      there = All-weaker (IsWellFormedSwitch p) (λ (s : Switch). s.global < length p.globals) (λ s h. slice_get_within p.globals s.global h.global h.there) p.switches formed.switches;
      few = omega (arith, limits.switches);
      pointers = All-weaker (IsWellFormedPointer p) (λ (g : ℕ). g < length p.globals) (λ g h. slice_get_within p.globals g h.global h.there) p.pointers formed.pointers;
      words = omega (arith, same, most, limits.globals);
    }

-- the word of a global that has one is among all
word_within : (p : Program) (i : ℕ) (g : Global) → slice_get p.globals i ≡ Some g → 1 ≤ words_of_size g.size → word_of p i < data_words p
word_within p i g there some =
    let size = λ (x : Global). words_of_size x.size in
    let within = slice_get_within p.globals i g there in
    let long = length-map p.globals size in
    let own : get_or (global_sizes p) i 0 ≡ words_of_size g.size = get_or_from_slice_get (global_sizes p) i (words_of_size g.size) 0 (map_at size p.globals i g there) in
    let all = sum_by_more_le (λ (n : ℕ). n) (global_sizes p) i 0 (omega (arith, within, long)) in omega (arith, own, all, some)

-- ---- a switch of the program

module _ (p : Program) (s : Switch) (t : IsTableSwitch p s) where
  kind_is : kind_or_int (slice_get p.globals s.global) ≡ t.kind
  kind_is = ap kind_or_int t.there ∙ ap integer_kind t.integer

  pub values_fit : All (λ v. is_value (kind_number (kind_or_int (slice_get p.globals s.global))) v ≡ true) s.values
  values_fit = subst (λ k. All (λ v. is_value (kind_number k) v ≡ true) s.values) (sym kind_is) t.values

  one : words_of_size t.global.size ≡ 1
  one = ap words_of_size t.scalar

  switch_fits : (words : ℕ) → words ≡ data_words p → FitsPartSwitch words (part_switch p s)
  switch_fits words count = record {
    name = subst (λ (o : Option Global). IsName (name_or_none o)) (sym t.there) (name_fits t.global.name t.named);
    word = let size = one in let within = word_within p s.global t.global t.there (omega (arith, size)) in omega (arith, within, count);
    some = t.some;
    few = t.most;
    values = values_fit;
  }

pub all_switches_fit : (p : Program) → HasTableFacts p → (words : ℕ) → words ≡ data_words p → All (FitsPartSwitch words) (part_switches p)
all_switches_fit p facts words count =
    All-map (FitsPartSwitch words) (part_switch p) p.switches
    (All-weaker (IsTableSwitch p) (λ (s : Switch). FitsPartSwitch words (part_switch p s)) (λ s t. switch_fits p s t words count) p.switches facts.switches)

-- ---- a pointer switch of the program

pointer_fits : (p : Program) (g : ℕ) → IsTablePointer p g → (words : ℕ) → words ≡ data_words p → FitsPartPointer words (part_pointer p g)
pointer_fits p g t words count = record {
  name = subst (λ (o : Option Global). IsName (name_or_none o)) (sym t.there) (name_fits t.global.name t.named);
  word = let size : words_of_size t.global.size ≡ 1 = ap words_of_size t.scalar in let within = word_within p g t.global t.there (omega (arith, size)) in omega (arith, within, count);
}

pub all_pointers_fit : (p : Program) → HasTableFacts p → (words : ℕ) → words ≡ data_words p → All (FitsPartPointer words) (part_pointers p)
all_pointers_fit p facts words count =
    All-map (FitsPartPointer words) (part_pointer p) p.pointers
    (All-weaker (IsTablePointer p) (λ (g : ℕ). FitsPartPointer words (part_pointer p g)) (λ g t. pointer_fits p g t words count) p.pointers facts.pointers)

-- ---- the switches of a function

-- a switch by its number
pub record IsSwitchOf (p : Program) (n : ℕ) : Type 0 where
  pub switch : Switch
  pub there : slice_get p.switches n ≡ Some switch
  pub table : IsTableSwitch p switch

pub switch_of : (p : Program) → HasTableFacts p → (n : ℕ) → n < length p.switches → IsSwitchOf p n
switch_of p facts n below =
    let (s, is) = there_at p.switches n below in record { switch = s; there = is; table = one_of_all (IsTableSwitch p) p.switches facts.switches n s is }

-- its kind in the table is that of its domain
same_kind : (p : Program) (n : ℕ) → IsSwitchOf p n → kind_in (slice_get (part_switches p) n) ≡ kind_number (switch_kind p n)
same_kind p n h =
    ap kind_in (map_at (part_switch p) p.switches n h.switch h.there)
    ∙ ap (λ (o : Option Switch). kind_number (kind_or_int (slice_get p.globals (global_or_none o)))) (sym h.there)

pub same_kinds : (p : Program) → HasTableFacts p → (ns : List ℕ) → All (λ n. n < length p.switches) ns → kinds_of (part_switches p) ns ≡ kinds (map (domain p) ns)
same_kinds p facts [] all = refl
same_kinds p facts (n ∷ ns) all =
    let here = same_kind p n (switch_of p facts n (All-head (λ k. k < length p.switches) n ns all)) in
    let rest = same_kinds p facts ns (All-tail (λ k. k < length p.switches) n ns all) in
    ap (λ k. k ∷ kinds_of (part_switches p) ns) here ∙ ap (λ l. kind_number (switch_kind p n) ∷ l) rest

-- the values of a domain are values of its kind
abbrev pub IsValued : Domain → Type 0
IsValued d = All (λ v. is_value (kind_number d.kind) v ≡ true) d.values

valued : (p : Program) (n : ℕ) → IsSwitchOf p n → IsValued (domain p n)
valued p n h =
    subst (λ (o : Option Switch). All (λ v. is_value (kind_number (kind_or_int (slice_get p.globals (global_or_none o)))) v ≡ true) (values_or_none o)) (sym h.there)
    (values_fit p h.switch h.table)

pub all_valued : (p : Program) → HasTableFacts p → (ns : List ℕ) → All (λ n. n < length p.switches) ns → (i : ℕ) (d : Domain) → slice_get (map (domain p) ns) i ≡ Some d → IsValued d
all_valued p facts [] all i d e = absurd (let bad : ⊥ = cc in bad)
all_valued p facts (n ∷ ns) all zero d e =
    subst IsValued (same_Some (domain p n) d e) (valued p n (switch_of p facts n (All-head (λ k. k < length p.switches) n ns all)))
all_valued p facts (n ∷ ns) all (suc i) d e = all_valued p facts ns (All-tail (λ k. k < length p.switches) n ns all) i d e

-- rows that give ranges of such domains
pub range_fits : (domains : List Domain) → ((i : ℕ) (d : Domain) → slice_get domains i ≡ Some d → IsValued d) → (row : GuardRow) → HasRanges domains row →
    ZerosFrom (length domains) row.low × ZerosFrom (length domains) row.high → IsRange (kinds domains) row
range_fits domains all row ranges clean = record {
  low = λ i below. let (d, at) = there i below in valued_at i d at (slice_index row.low i) (ranges i d at).lowest;
  high = λ i below. let (d, at) = there i below in valued_at i d at (slice_index row.high i) (ranges i d at).highest;
  ordered = λ i below.
      let (d, at) = there i below in
      subst (λ k. is_at_most k (slice_index row.low i) (slice_index row.high i) ≡ true) (sym (kind_at i d at)) (ranges i d at).ordered;
  low_unused = λ i past below. clean.0 i (omega (arith, past, long));
  high_unused = λ i past below. clean.1 i (omega (arith, past, long));
}
  where
    long : length (kinds domains) ≡ length domains
    long = length-map domains (λ (d : Domain). kind_number d.kind)

    there : (i : ℕ) → i < length (kinds domains) → (d : Domain) × (slice_get domains i ≡ Some d)
    there i below = there_at domains i (omega (arith, below, long))

    kind_at : (i : ℕ) (d : Domain) → slice_get domains i ≡ Some d → slice_index (kinds domains) i ≡ kind_number d.kind
    kind_at i d at = get_or_from_slice_get (kinds domains) i (kind_number d.kind) 0 (map_at (λ (x : Domain). kind_number x.kind) domains i d at)

    valued_at : (i : ℕ) (d : Domain) → slice_get domains i ≡ Some d → (v : ℕ) → In v d.values → is_value (slice_index (kinds domains) i) v ≡ true
    valued_at i d at v is =
        subst (λ k. is_value k v ≡ true) (sym (kind_at i d at)) (one_in (λ x. is_value (kind_number d.kind) x ≡ true) d.values (all i d at) v is)
