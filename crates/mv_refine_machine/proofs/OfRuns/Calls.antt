-- Where text is settled, an environment call is fetched at a word that no binding changes.
use Rattle.std.proofs.Common.{◌≡◌, ℕ, ◌%◌, List, length, Option, Some, None, slice_get, option_and_then, refl, sym, ap, ◌∙◌, subst, arith}
use Rattle.mv_isa.specs.declared.instr.Instr.TheVariants.{Ecall}
use Rattle.mv_isa.specs.Encoding.{decode}
use Rattle.mv_fetch.specs.Held.{index_of, older_at, choices_of, choices}
use Rattle.mv_fetch.proofs.Choices.{choices_text}
use Rattle.mv_image.specs.Spelling.{Fields}
use Rattle.mv_machine.specs.Commits.{fetched_instr}
use Rattle.mv_machine.specs.Runs.{State, choices_at}
use Rattle.mv_refine_machine.specs.Runs.Behaves.{IsTextSettled, IsPlain, CallsArePlain}

-- a word is there, and is an environment call
abbrev IsCall : Option ℕ → Type 0
IsCall o = (word : ℕ) × (o ≡ Some word) × (decode word ≡ Some Ecall)

-- the first of some choices is an environment call
abbrev BeginsWithCall : List ℕ → Type 0
BeginsWithCall words = option_and_then decode (slice_get words 0) ≡ Some Ecall

of_word : (o : Option ℕ) (older : List ℕ) → BeginsWithCall (choices_of o older) → IsCall o
of_word None older e = absurd (cc)
of_word (Some word) older e = (word, refl, e)

-- the only choice is the word of text
fetched_there : (s : State) → choices_at s ≡ 1 → fetched_instr s 0 ≡ Some Ecall → IsCall (slice_get s.room.held.text (index_of s.pc))
unfolding choices_at
fetched_there s one e =
    let first : 0 % length (choices s.room.held s.pc) ≡ 0 = ap (λ n. 0 % n) one in
    let of_text = choices_text s.room.held s.pc 0 (omega (arith, one)) in
    of_word (slice_get s.room.held.text (index_of s.pc)) (older_at s.room.held.older (index_of s.pc))
    (subst BeginsWithCall of_text (subst (λ i. option_and_then decode (slice_get (choices s.room.held s.pc) i) ≡ Some Ecall) first e))

pub call_is_plain : (image : Fields) → CallsArePlain image → (s : State) → IsTextSettled image s → choices_at s ≡ 1 → fetched_instr s 0 ≡ Some Ecall → IsPlain image s.pc
call_is_plain image plain s settled one e =
    let c = fetched_there s one e in
    plain s.bindings s.pc c.0 (ap (λ (text : List ℕ). slice_get text (index_of s.pc)) (sym settled.words) ∙ c.1) c.2
