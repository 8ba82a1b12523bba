-- The header of a file that is written holds what it has to.
use Rattle.std.proofs.Common.{◌≡◌, ◌≤◌, ◌+◌, ◌*◌, ◌++◌, ◌==◌, ℕ, List, length, slice_index, true, arith, refl}
use Rattle.std.proofs.lemmas.Bool.{cond_both, eqb-true, eq-eqb, le-leb, and_from}
use Rattle.std.proofs.lemmas.List.{length-append}
use Rattle.mv_num.specs.Bytes.{bytes_of, AreWords}
use Rattle.mv_num.proofs.ByteLaws.{length-bytes_of}
use Rattle.mv_image.specs.Spelling.{Fields}
use Rattle.mv_elf.specs.Numbers.{half_at, word_at}
use Rattle.mv_elf.specs.Header.{magic_at, class_at, order_at, format_at, type_at, machine_at, version_at, flags_at, header_size_at, program_size_at, count_at, magic, executable, riscv, header_size, program_size, program_limit, field_fits, HasHeader}
use Rattle.mv_elf.specs.Writing.{count_in, note_of, front_words, file_of}
use Rattle.mv_elf.proofs.WordReads.{bytes_are, word_read, low_read, high_read}

record HasFields (bytes : List ℕ) : Type 0 where
  starts : word_at bytes magic_at ≡ magic
  class : slice_index bytes class_at ≡ 1
  order : slice_index bytes order_at ≡ 1
  format : slice_index bytes format_at ≡ 1
  sort : half_at bytes type_at ≡ executable
  machine : half_at bytes machine_at ≡ riscv
  version : word_at bytes version_at ≡ 1
  flags : word_at bytes flags_at ≡ 0
  size : half_at bytes header_size_at ≡ header_size
  programs : half_at bytes program_size_at ≡ program_size
  some : 1 ≤ half_at bytes count_at
  few : half_at bytes count_at ≤ program_limit

all_fit : (bytes : List ℕ) → HasFields bytes → (at : ℕ) → field_fits bytes at ≡ true
unfolding field_fits
all_fit bytes h at =
    cond_both (at == magic_at) _ _ (λ v. v ≡ true) (λ e. (let z : at ≡ magic_at = eqb-true _ _ e in rw z (eq-eqb _ _ h.starts))) (λ _.
    cond_both (at == class_at) _ _ (λ v. v ≡ true) (λ e. (let z : at ≡ class_at = eqb-true _ _ e in rw z (eq-eqb _ _ h.class))) (λ _.
    cond_both (at == order_at) _ _ (λ v. v ≡ true) (λ e. (let z : at ≡ order_at = eqb-true _ _ e in rw z (eq-eqb _ _ h.order))) (λ _.
    cond_both (at == format_at) _ _ (λ v. v ≡ true) (λ e. (let z : at ≡ format_at = eqb-true _ _ e in rw z (eq-eqb _ _ h.format))) (λ _.
    cond_both (at == type_at) _ _ (λ v. v ≡ true) (λ e. (let z : at ≡ type_at = eqb-true _ _ e in rw z (eq-eqb _ _ h.sort))) (λ _.
    cond_both (at == machine_at) _ _ (λ v. v ≡ true) (λ e. (let z : at ≡ machine_at = eqb-true _ _ e in rw z (eq-eqb _ _ h.machine))) (λ _.
    cond_both (at == version_at) _ _ (λ v. v ≡ true) (λ e. (let z : at ≡ version_at = eqb-true _ _ e in rw z (eq-eqb _ _ h.version))) (λ _.
    cond_both (at == flags_at) _ _ (λ v. v ≡ true) (λ e. (let z : at ≡ flags_at = eqb-true _ _ e in rw z (eq-eqb _ _ h.flags))) (λ _.
    cond_both (at == header_size_at) _ _ (λ v. v ≡ true) (λ e. (let z : at ≡ header_size_at = eqb-true _ _ e in rw z (eq-eqb _ _ h.size))) (λ _.
    cond_both (at == program_size_at) _ _ (λ v. v ≡ true) (λ e. (let z : at ≡ program_size_at = eqb-true _ _ e in rw z (eq-eqb _ _ h.programs))) (λ _.
    cond_both (at == count_at) _ _ (λ v. v ≡ true) (λ e. (let z : at ≡ count_at = eqb-true _ _ e in rw z (and_from _ _ (le-leb _ _ h.some) (le-leb _ _ h.few)))) (λ _. refl)))))))))))

-- the words of the header that are looked at
record HasWords (ws : List ℕ) (count : ℕ) : Type 0 where
  long : 13 ≤ length ws
  starts : slice_index ws 0 ≡ magic
  kinds : slice_index ws 1 ≡ 0x0001_0101
  machine : slice_index ws 4 ≡ executable + 0x1_0000 * riscv
  version : slice_index ws 5 ≡ 1
  flags : slice_index ws 9 ≡ 0
  sizes : slice_index ws 10 ≡ header_size + 0x1_0000 * program_size
  programs : slice_index ws 11 ≡ count

has_words : (image : Fields) → HasWords (front_words image) (count_in image)
unfolding front_words
has_words image = record { long = omega arith; starts = refl; kinds = refl; machine = refl; version = refl; flags = refl; sizes = refl; programs = refl }

has_fields : (ws rest : List ℕ) (count : ℕ) → HasWords ws count → AreWords ws → 1 ≤ count → count ≤ 3 → HasFields (bytes_of ws ++ rest)
has_fields ws rest count has fits some few =
    let kinds = bytes_are ws rest 1 4 refl (omega (arith, has.long)) in
    let programs = low_read ws rest 11 44 count refl (omega (arith, has.long)) (omega (arith, has.programs, few)) in
    record {
      starts = word_read ws rest 0 0 magic refl (omega (arith, has.long)) fits has.starts;
      class = omega (arith, kinds.first, has.kinds);
      order = omega (arith, kinds.second, has.kinds);
      format = omega (arith, kinds.third, has.kinds);
      sort = low_read ws rest 4 16 executable refl (omega (arith, has.long)) (omega (arith, has.machine));
      machine = high_read ws rest 4 18 riscv refl (omega (arith, has.long)) (omega (arith, has.machine));
      version = word_read ws rest 5 20 1 refl (omega (arith, has.long)) fits has.version;
      flags = word_read ws rest 9 36 0 refl (omega (arith, has.long)) fits has.flags;
      size = low_read ws rest 10 40 header_size refl (omega (arith, has.long)) (omega (arith, has.sizes));
      programs = high_read ws rest 10 42 program_size refl (omega (arith, has.long)) (omega (arith, has.sizes));
      some = omega (arith, programs, some);
      few = omega (arith, programs, few);
    }

whole : (ws rest : List ℕ) → 13 ≤ length ws → header_size ≤ length (bytes_of ws ++ rest)
whole ws rest long = omega (arith, long, length-append (bytes_of ws) rest, length-bytes_of ws)

pub header_has : (image : Fields) → AreWords (front_words image) → 1 ≤ count_in image → count_in image ≤ 3 → HasHeader (file_of image)
unfolding file_of
header_has image fits some few =
    let h = has_fields (front_words image) (note_of image) (count_in image) (has_words image) fits some few in
    record { whole = whole (front_words image) (note_of image) (has_words image).long; fields = λ at _. all_fit (bytes_of (front_words image) ++ note_of image) h at }
