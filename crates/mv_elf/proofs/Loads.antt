-- What is loaded where one segment has a byte for an address, and no other.
use Rattle.std.proofs.Common.{◌≡◌, ◌<◌, ◌+◌, ◌-◌, ◌∙◌, ℕ, zero, suc, List, slice_index, Bool, true, false, subst, ap, sym, refl, arith, inl, inr}
use Rattle.std.proofs.lemmas.Bool.{cases_lt}
use Rattle.mv_elf.specs.declared.segment.Segment.{Segment}
use Rattle.mv_elf.specs.Segments.{segment_of, reach}
use Rattle.mv_elf.specs.Memory.{covers, byte_of}
use Rattle.mv_elf.proofs.MemoryLaws.{loaded_byte, left_alone}

pub byte_of_one : (bytes : List ℕ) (n j a : ℕ) → j < n → covers (segment_of bytes j) a ≡ true → ((i : ℕ) → i < n → (i ≡ j → ⊥) → covers (segment_of bytes i) a ≡ false)
    → byte_of bytes n a ≡ slice_index bytes ((segment_of bytes j).offset + (a - (segment_of bytes j).address))
unfolding byte_of
byte_of_one bytes zero j a lt here others = absurd (omega arith)
byte_of_one bytes (suc n) j a lt here others =
    elim (cases_lt j n) [
      | inl below ↦
          left_alone bytes (segment_of bytes n) a (byte_of bytes n a) (others n (omega arith) (λ e. omega (arith, e, below)))
          ∙ byte_of_one bytes n j a below here (λ i l other. others i (omega (arith, l)) other)
      | inr last ↦
          let same : j ≡ n = omega arith in
          loaded_byte bytes (segment_of bytes n) a (byte_of bytes n a) (subst (λ (k : ℕ). covers (segment_of bytes k) a ≡ true) same here)
          ∙ ap (λ (k : ℕ). slice_index bytes ((segment_of bytes k).offset + (a - (segment_of bytes k).address))) (sym same)
    ]

pub reach_nothing : (test : Segment → Bool) (bytes : List ℕ) (n : ℕ) → ((i : ℕ) → i < n → test (segment_of bytes i) ≡ false) → reach test bytes n ≡ 0
unfolding reach
reach_nothing test bytes zero others = refl
reach_nothing test bytes (suc n) others =
    let last : test (segment_of bytes n) ≡ false = others n (omega arith) in
    rw last (reach_nothing test bytes n (λ i l. others i (omega (arith, l))))

pub reach_one : (test : Segment → Bool) (bytes : List ℕ) (n j : ℕ) → j < n → test (segment_of bytes j) ≡ true → ((i : ℕ) → i < n → (i ≡ j → ⊥) → test (segment_of bytes i) ≡ false)
    → reach test bytes n ≡ (segment_of bytes j).address + (segment_of bytes j).memory_size
unfolding reach
reach_one test bytes zero j lt here others = absurd (omega arith)
reach_one test bytes (suc n) j lt here others =
    elim (cases_lt j n) [
      | inl below ↦
          let last : test (segment_of bytes n) ≡ false = others n (omega arith) (λ e. omega (arith, e, below)) in
          rw last (reach_one test bytes n j below here (λ i l other. others i (omega (arith, l)) other))
      | inr from ↦
          let same : j ≡ n = omega arith in
          let last : test (segment_of bytes n) ≡ true = subst (λ (k : ℕ). test (segment_of bytes k) ≡ true) same here in
          let none = reach_nothing test bytes n (λ i l. others i (omega (arith, l)) (λ e. omega (arith, e, l, same))) in
          let end : (segment_of bytes n).address + (segment_of bytes n).memory_size ≡ (segment_of bytes j).address + (segment_of bytes j).memory_size =
          ap (λ (k : ℕ). (segment_of bytes k).address + (segment_of bytes k).memory_size) (sym same) in
          rw last (omega (arith, none, end))
    ]
