-- Which words are those of an environment call, a store and FENCE.I.
use Rattle.std.proofs.Common.{ℕ, ◌≡◌, ◌≢◌, ◌⊎◌, inl, inr, ◌%◌, ◌^◌, ◌<◌, Bool, true, false, nat_eq, cond, List, [], ◌∷◌, length, slice_get, Option, Some, None, ℤ, refl, sym, ap, ap₂, ◌∙◌, subst, arith}
use Rattle.std.specs.Prelude.{option_and_then}
use Rattle.std.specs.Option.{IfSome}
use Rattle.std.proofs.lemmas.Bool.{ne_eqb, eqb-true, eqb-false}
use Rattle.mv_num.specs.Words.{add, word_of}
use Rattle.mv_isa.specs.declared.instr.Instr.{Instr}
use Rattle.mv_isa.specs.declared.instr.Instr.TheVariants.{Sb, Sh, Sw, FenceI, Ecall}
use Rattle.mv_isa.specs.Formats.{opcode_of, funct3_of, rs1_of, rs2_of, s_imm, s_word}
use Rattle.mv_isa.specs.Encoding.{encode, decode, store_at, IsEncodingOf}
use Rattle.mv_isa.specs.Execution.{reg}
use Rattle.mv_isa.proofs.Again.{decode_said, decode_encoding}
use Rattle.mv_fetch.specs.Held.{choices, only}
use Rattle.mv_machine.specs.Runs.{State, Request, Exits, Reads, Writes, Traps, Plans, Polls, Unknown, request_of, choices_at}
use Rattle.mv_machine.specs.Commits.{fetched_instr}
use Rattle.mv_harts_runs.specs.Harts.{Place, AtOrder, AtPoll, Elsewhere, place_by, place_of, Store, store_of}
use Rattle.mv_harts_runs.proofs.Acts.{IsNoCall, ecall_or}
use Rattle.mv_harts_one.specs.Executions.{is_fence_i}

-- what is fetched is an instruction with this word
said : (w : ℕ) (i : Instr) → w < 2 ^ 32 → decode w ≡ Some i → IsEncodingOf w i
said w i h e = subst (λ o. IfSome o (IsEncodingOf w)) e (decode_said w h)

-- ---- environment calls

pub ecall_word : (w : ℕ) → w ≡ 0x73 → decode w ≡ Some Ecall
unfolding encode
ecall_word w e = decode_encoding w Ecall (tt, e)

call_word : (w : ℕ) → w < 2 ^ 32 → decode w ≡ Some Ecall → w ≡ 0x73
unfolding encode
call_word w h e = (said w Ecall h e).1

pub elsewhere : (w : ℕ) (p : Place) → w < 2 ^ 32 → w ≢ 0x73 → Elsewhere ≡ place_of (decode w) p
elsewhere w p h n = by_call (ecall_or (decode w))
  where
    by_call : (decode w ≡ Some Ecall) ⊎ IsNoCall (decode w) → Elsewhere ≡ place_of (decode w) p
    by_call (inl e) = absurd (n (call_word w h e))
    by_call (inr q) = sym (q.place p)

-- ---- stores

byte_opcode : (a b : ℕ) (c : ℤ) → opcode_of (encode (Sb a b c)) ≡ 0x23
unfolding encode opcode_of s_word
byte_opcode a b c = omega arith

half_opcode : (a b : ℕ) (c : ℤ) → opcode_of (encode (Sh a b c)) ≡ 0x23
unfolding encode opcode_of s_word
half_opcode a b c = omega arith

word_opcode : (a b : ℕ) (c : ℤ) → opcode_of (encode (Sw a b c)) ≡ 0x23
unfolding encode opcode_of s_word
word_opcode a b c = omega arith

stores_none : (w : ℕ) (o : Option Instr) → w < 2 ^ 32 → decode w ≡ o → opcode_of w ≢ 0x23 → (regs : List ℕ) → None ≡ option_and_then (λ i. store_of i regs) o
stores_none w (Some (Sb a b c)) h e n regs = absurd (n (ap opcode_of (said w (Sb a b c) h e).1 ∙ byte_opcode a b c))
stores_none w (Some (Sh a b c)) h e n regs = absurd (n (ap opcode_of (said w (Sh a b c) h e).1 ∙ half_opcode a b c))
stores_none w (Some (Sw a b c)) h e n regs = absurd (n (ap opcode_of (said w (Sw a b c) h e).1 ∙ word_opcode a b c))
stores_none w o h e n regs = refl

pub no_store : (w : ℕ) (regs : List ℕ) → w < 2 ^ 32 → opcode_of w ≢ 0x23 → None ≡ option_and_then (λ i. store_of i regs) (decode w)
no_store w regs h n = stores_none w (decode w) h refl n regs

-- a store's word
store_decoded : (w : ℕ) → opcode_of w ≡ 0x23 → decode w ≡ store_at w
unfolding decode
store_decoded w e = rw e refl

module _ (w : ℕ) (regs : List ℕ) (opcode : opcode_of w ≡ 0x23) where
  abbrev stored : ℕ → Store
  stored n = record { address = add (reg regs (rs1_of w)) (word_of (s_imm w)); width = n; value = reg regs (rs2_of w) }

  abbrev Is : Option Store → Type 0
  Is o = o ≡ option_and_then (λ i. store_of i regs) (decode w)

  at_store : (o : Option Store) → o ≡ option_and_then (λ i. store_of i regs) (store_at w) → Is o
  at_store o e = e ∙ sym (ap (λ d. option_and_then (λ i. store_of i regs) d) (store_decoded w opcode))

  pub byte_store : (st : Store) → funct3_of w ≡ 0 → st ≡ stored 1 → Is (Some st)
  unfolding store_at
  byte_store st f e = at_store (Some st) (rw f (ap Some e))

  pub half_store : (st : Store) → funct3_of w ≡ 1 → st ≡ stored 2 → Is (Some st)
  unfolding store_at
  half_store st f e = at_store (Some st) (rw f (ap Some e))

  pub word_store : (st : Store) → funct3_of w ≡ 2 → st ≡ stored 4 → Is (Some st)
  unfolding store_at
  word_store st f e = at_store (Some st) (rw f (ap Some e))

  pub other_width : funct3_of w ≢ 0 → funct3_of w ≢ 1 → funct3_of w ≢ 2 → Is None
  unfolding store_at
  other_width a b c = at_store None (rw (ne_eqb (funct3_of w) 0 a, ne_eqb (funct3_of w) 1 b, ne_eqb (funct3_of w) 2 c) refl)

-- ---- FENCE.I

fence_or : (i : Option Instr) → (i ≡ Some FenceI) ⊎ (is_fence_i i ≡ false)
fence_or (Some FenceI) = inl refl
fence_or i = inr refl

pub fence_word : (w : ℕ) → opcode_of w ≡ 0x0f → funct3_of w ≡ 1 → is_fence_i (decode w) ≡ true
fence_word w o f = ap is_fence_i (decode_encoding w FenceI (tt, (o, f)))

pub no_fence : (w : ℕ) → w < 2 ^ 32 → (opcode_of w ≡ 0x0f → funct3_of w ≡ 1 → ⊥) → is_fence_i (decode w) ≡ false
no_fence w h n = by_fence (fence_or (decode w))
  where
    by_fence : (decode w ≡ Some FenceI) ⊎ (is_fence_i (decode w) ≡ false) → is_fence_i (decode w) ≡ false
    by_fence (inl e) = let s = (said w FenceI h e).1 in absurd (n s.0 s.1)
    by_fence (inr e) = e

pub fence_is : (w f : ℕ) → w < 2 ^ 32 → opcode_of w ≡ 0x0f → f ≡ funct3_of w → nat_eq f 1 ≡ is_fence_i (decode w)
fence_is w f h o e = by_test (nat_eq f 1) refl
  where
    by_test : (b : Bool) → nat_eq f 1 ≡ b → b ≡ is_fence_i (decode w)
    by_test true q = sym (fence_word w o (sym e ∙ eqb-true f 1 q))
    by_test false q = sym (no_fence w h (λ p r. eqb-false f 1 q (e ∙ r)))

-- ---- where a call stands

at_poll : (known : Bool) → AtPoll ≡ place_by Polls known true
at_poll true = refl
at_poll false = refl

at_other_order : (idle : Bool) → Elsewhere ≡ place_by Plans false idle
at_other_order true = refl
at_other_order false = refl

other : (q : Request) (known idle : Bool) → (q ≡ Plans → ⊥) → (q ≡ Polls → ⊥) → Elsewhere ≡ place_by q known idle
other Plans known idle a b = absurd (a refl)
other Polls known idle a b = absurd (b refl)
other q true true a b = refl
other q true false a b = refl
other q false true a b = refl
other q false false a b = refl

not_plans : (b0 b1 b2 b3 b5 : Bool) → cond b0 Exits (cond b1 Reads (cond b2 Writes (cond b3 Traps (cond b5 Polls Unknown)))) ≡ Plans → ⊥
not_plans true b1 b2 b3 b5 e = cc
not_plans false true b2 b3 b5 e = cc
not_plans false false true b3 b5 e = cc
not_plans false false false true b5 e = cc
not_plans false false false false true e = cc
not_plans false false false false false e = cc

not_polls : (b0 b1 b2 b3 b4 : Bool) → cond b0 Exits (cond b1 Reads (cond b2 Writes (cond b3 Traps (cond b4 Plans Unknown)))) ≡ Polls → ⊥
not_polls true b1 b2 b3 b4 e = cc
not_polls false true b2 b3 b4 e = cc
not_polls false false true b3 b4 e = cc
not_polls false false false true b4 e = cc
not_polls false false false false true e = cc
not_polls false false false false false e = cc

module _ (n r : ℕ) (known idle : Bool) (same : n ≡ r) where
  pub stands_at_poll : (live l : ℕ) → n ≡ 5 → live ≡ 0 → live ≡ l → AtPoll ≡ place_by (request_of r) known (nat_eq l 0)
  unfolding request_of
  stands_at_poll live l e z q = at_poll known ∙ ap₂ (λ (k : ℕ) (m : ℕ). place_by (request_of k) known (nat_eq m 0)) (sym e ∙ same) (sym z ∙ q)

  pub stands_at_order : (live l : ℕ) → n ≡ 4 → known ≡ true → live ≡ 0 → live ≡ l → AtOrder ≡ place_by (request_of r) known (nat_eq l 0)
  unfolding request_of
  stands_at_order live l e k z q =
      ap₂ (λ (i : ℕ) (m : ℕ). place_by (request_of i) true (nat_eq m 0)) (sym e ∙ same) (sym z ∙ q)
      ∙ ap (λ b. place_by (request_of r) b (nat_eq l 0)) (sym k)

  pub at_no_order : n ≡ 4 → known ≡ false → Elsewhere ≡ place_by (request_of r) known idle
  unfolding request_of
  at_no_order e k = at_other_order idle ∙ ap (λ i. place_by (request_of i) false idle) (sym e ∙ same) ∙ ap (λ b. place_by (request_of r) b idle) (sym k)

  pub at_no_call : n ≢ 4 → n ≢ 5 → Elsewhere ≡ place_by (request_of r) known idle
  unfolding request_of
  at_no_call a b =
      other (request_of r) known idle
      (λ e. not_plans (nat_eq r 0) (nat_eq r 1) (nat_eq r 2) (nat_eq r 3) (nat_eq r 5)
      (sym (ap (λ t. cond (nat_eq r 0) Exits (cond (nat_eq r 1) Reads (cond (nat_eq r 2) Writes (cond (nat_eq r 3) Traps (cond t Plans (cond (nat_eq r 5) Polls Unknown)))))) (ne_eqb r 4 (λ q. a (same ∙ q)))) ∙ e))
      (λ e. not_polls (nat_eq r 0) (nat_eq r 1) (nat_eq r 2) (nat_eq r 3) (nat_eq r 4)
      (sym (ap (λ t. cond (nat_eq r 0) Exits (cond (nat_eq r 1) Reads (cond (nat_eq r 2) Writes (cond (nat_eq r 3) Traps (cond (nat_eq r 4) Plans (cond t Polls Unknown)))))) (ne_eqb r 5 (λ q. b (same ∙ q)))) ∙ e))

pub stands_as_called : (w : ℕ) (p q : Place) → w ≡ 0x73 → q ≡ p → q ≡ place_of (decode w) p
stands_as_called w p q e same = same ∙ sym (ap (λ i. place_of i p) (ecall_word w e))

-- ---- one choice

single : (ws : List ℕ) → length ws ≡ 1 → (w : ℕ) × (ws ≡ w ∷ [])
single [] e = absurd (omega (arith, e))
single (w ∷ []) e = (w, refl)
single (w ∷ v ∷ ws) e = absurd (omega (arith, e))

pub one_word : (s : State) → choices_at s ≡ 1 → (w : ℕ) × (choices s.room.held s.pc ≡ w ∷ [])
unfolding choices_at
one_word s e = single (choices s.room.held s.pc) e

pub fetched_word : (s : State) (w : ℕ) → choices s.room.held s.pc ≡ w ∷ [] → fetched_instr s 0 ≡ decode w
unfolding choices_at
fetched_word s w e = ap (λ ws. option_and_then decode (slice_get ws (0 % length ws))) e

pub only_word : (ws : List ℕ) (w : ℕ) → Some w ≡ only ws → ws ≡ w ∷ []
only_word [] w e = absurd (cc)
only_word (v ∷ []) w e = let q : v ≡ w = cc in ap (λ u. u ∷ []) q
only_word (v ∷ u ∷ ws) w e = absurd (cc)

-- no answer comes only where there are more choices or none
pub no_only : (ws : List ℕ) (w : ℕ) → None ≡ only ws → ws ≡ w ∷ [] → ⊥
no_only ws w e q = let s : Some w ≡ only ws = sym (ap only q) in cc
