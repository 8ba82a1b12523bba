-- What is known of a hart whose run alone is right.
use Rattle.std.proofs.Common.{◌≡◌, ℕ, List, [], ◌∷◌, ◌++◌, append-nil, length, slice_get, Option, Some, None, refl, sym, ap, ap₂, ◌∙◌, subst}
use Rattle.std.specs.List.{All}
use Rattle.std.specs.Prelude.{◌⊎◌}
use Rattle.std.proofs.Common.{inl, inr}
use Rattle.std.proofs.lemmas.List.Elements.{All-append, All-nil, All-cons}
use Rattle.mv_bindings.specs.declared.binding.Binding.{Binding}
use Rattle.mv_isa.specs.declared.instr.Cause.{Cause}
use Rattle.mv_fetch.specs.Held.{Held, Room, older_at, choices_of}
use Rattle.mv_image.specs.Spelling.{Fields}
use Rattle.mv_refine_machine.specs.Stores.Between.{IsWhole, IsSettled, IsWordBetween, IsBetween}
use Rattle.mv_refine_machine.specs.Stores.Laws.{RoomsAreWhole}
use Rattle.mv_refine_machine.proofs.Starts.{none_older}
use Rattle.mv_refine_machine.specs.Commits.Watch.{texts_of}
use Rattle.mv_bindings.specs.Acts.{Act}
use Rattle.mv_machine.specs.Runs.{State, Going, Fault, choices_at, first}
use Rattle.mv_harts_runs.specs.Harts.{first_of, Place, AtPoll, AtOrder, Elsewhere, place, took}
use Rattle.mv_harts_runs.specs.Alone.{IsPlain, alone, under_alone, BehavesAlone, Fitting, IsAlone, IsOutside}
use Rattle.mv_harts_runs.proofs.Acts.{with_acts}
use Rattle.mv_harts_runs.proofs.Owners.{runs_own}
use Rattle.mv_harts_runs.proofs.Reserves.{runs_reserve}
use Rattle.mv_patch.specs.Tables.{patchable}

place_acts : (s : State) (acts : List Act) → place (with_acts s acts) 0 ≡ place s 0
unfolding place choices_at
place_acts s acts = refl

count_acts : (s : State) (acts : List Act) → choices_at (with_acts s acts) ≡ choices_at s
unfolding choices_at
count_acts s acts = refl

first_is : (h : ℕ) (image : Fields) (input : List (Option ℕ)) (acts : List Act) → (first_of h image input acts).image ≡ image
unfolding first
first_is h image input acts = refl

first_is_hart : (h : ℕ) (image : Fields) (input : List (Option ℕ)) (acts : List Act) → (first_of h image input acts).hart ≡ h
unfolding first
first_is_hart h image input acts = refl

first_reserve : (h : ℕ) (image : Fields) (input : List (Option ℕ)) (acts : List Act) → (first_of h image input acts).room.reserve ≡ patchable image
unfolding first
first_reserve h image input acts = refl

-- of a state
pub record Facts (h : ℕ) (image : Fields) (s : State) : Type 0 where
  pub image_is : s.image ≡ image
  pub hart_is : s.hart ≡ h
  pub reserved : s.room.reserve ≡ patchable image
  pub one : s.stop ≡ Going → choices_at s ≡ 1
  pub sane : (why : Cause) → s.stop ≡ Fault why → ⊥
  pub old : List Binding
  pub between : IsBetween (texts_of image old) (texts_of image s.bindings) s.room.held
  pub calm : (place s 0 ≡ Elsewhere → ⊥) → IsBetween (texts_of image s.bindings) (texts_of image s.bindings) s.room.held × IsPlain image s.pc

pub none_or_some : (o : Option (List Binding)) → (o ≡ None) ⊎ ((x : List Binding) × (o ≡ Some x))
none_or_some None = inl refl
none_or_some (Some x) = inr (x, refl)

module _ (image : Fields) (input : ℕ → List (Option ℕ)) (Fits : ℕ → Act → Type 0) (fitting : Fitting image input Fits)
    (h : ℕ) (s : State) (taken : List Act) (count : ℕ) (fits : All (Fits h) taken) (is : IsAlone image input h s taken count) where
  b : BehavesAlone h image (input h) (taken ++ [])
  b = fitting.behaves h (taken ++ []) (All-append (Fits h) taken [] fits (All-nil (Fits h)))

  a : State
  a = alone h image (input h) (taken ++ []) count

  same : alone h image (input h) (taken ++ []) count ≡ with_acts s []
  same = is []

  settled_none : under_alone h image (input h) (taken ++ []) count ≡ None → IsBetween (texts_of image s.bindings) (texts_of image s.bindings) s.room.held
  settled_none e = subst (λ (x : State). IsBetween (texts_of image x.bindings) (texts_of image x.bindings) x.room.held) same (b.settled count e)

  between_some : (old : List Binding) → under_alone h image (input h) (taken ++ []) count ≡ Some old → IsBetween (texts_of image old) (texts_of image s.bindings) s.room.held
  between_some old e = subst (λ (x : State). IsBetween (texts_of image old) (texts_of image x.bindings) x.room.held) same (b.between count old e)

  some_between : (old : List Binding) × IsBetween (texts_of image old) (texts_of image s.bindings) s.room.held
  some_between = by_under (none_or_some (under_alone h image (input h) (taken ++ []) count))
    where
      by_under : (under_alone h image (input h) (taken ++ []) count ≡ None) ⊎ ((x : List Binding) × (under_alone h image (input h) (taken ++ []) count ≡ Some x))
          → (old : List Binding) × IsBetween (texts_of image old) (texts_of image s.bindings) s.room.held
      by_under (inl e) = (s.bindings, settled_none e)
      by_under (inr x) = (x.0, between_some x.0 x.1)

  at_call : (place s 0 ≡ Elsewhere → ⊥) → (under_alone h image (input h) (taken ++ []) count ≡ None) × IsPlain image (alone h image (input h) (taken ++ []) count).pc
  at_call called = b.calls count (λ e. called (sym (place_acts s []) ∙ ap (λ (x : State). place x 0) (sym same) ∙ e))

  pub facts : Facts h image s
  facts =
      let own = runs_own (first_of h image (input h) (taken ++ [])) [] count in
      record {
        image_is = ap (λ (x : State). x.image) (sym same) ∙ own.image ∙ first_is h image (input h) (taken ++ []);
        hart_is = ap (λ (x : State). x.hart) (sym same) ∙ own.hart ∙ first_is_hart h image (input h) (taken ++ []);
        reserved = ap (λ (x : State). x.room.reserve) (sym same) ∙ runs_reserve (first_of h image (input h) (taken ++ [])) [] count ∙ first_reserve h image (input h) (taken ++ []);
        one = λ going. sym (count_acts s []) ∙ ap choices_at (sym same) ∙ b.fetches count (ap (λ (x : State). x.stop) same ∙ going);
        sane = λ why e. b.faults count why (ap (λ (x : State). x.stop) same ∙ e);
        old = some_between.0;
        between = some_between.1;
        calm = λ called. (let c = at_call called in (settled_none c.0, subst (λ (x : State). IsPlain image x.pc) same c.1));
      }

  -- of hart 0, by the commit that is under way
  pub facts_settled : (u : Option (List Binding)) → ((more : List Act) → under_alone h image (input h) (taken ++ more) count ≡ u) → u ≡ None → IsBetween (texts_of image s.bindings) (texts_of image s.bindings) s.room.held
  facts_settled u under e = settled_none (under [] ∙ e)

  pub facts_between : (u : Option (List Binding)) → ((more : List Act) → under_alone h image (input h) (taken ++ more) count ≡ u) → (old : List Binding) → u ≡ Some old → IsBetween (texts_of image old) (texts_of image s.bindings) s.room.held
  facts_between u under old e = between_some old (under [] ∙ e)

  pub facts_calm : (u : Option (List Binding)) → ((more : List Act) → under_alone h image (input h) (taken ++ more) count ≡ u) → (place s 0 ≡ Elsewhere → ⊥) → u ≡ None
  facts_calm u under called = sym (under []) ∙ (at_call called).0

  pub outside : IsOutside (alone h image (input h) taken count) s
  outside =
      let e = ap (λ acts. alone h image (input h) acts count) (sym (append-nil taken)) ∙ same in
      record {
        regs = ap (λ (x : State). x.regs) e;
        pc = ap (λ (x : State). x.pc) e;
        bindings = ap (λ (x : State). x.bindings) e;
        input = ap (λ (x : State). x.input) e;
        output = ap (λ (x : State). x.output) e;
        log = ap (λ (x : State). x.log) e;
        stop = ap (λ (x : State). x.stop) e;
      }

-- ---- memory that is calm and whole is settled

pub settles : RoomsAreWhole → (text : List ℕ) (r : Room) → IsWhole r → IsBetween text text r.held → IsSettled text r
settles rooms text r whole b =
    let same = (rooms.same text r.held).0 b in
    rooms.settles text r whole same.0 (λ k. ap (λ (l : List (List ℕ)). older_at l k) same.1 ∙ none_older (length text) k)

pub between_text : RoomsAreWhole → (text : List ℕ) (h : Held) → IsBetween text text h → h.text ≡ text
between_text rooms text h b = ((rooms.same text h).0 b).0

pub between_like : (old new : List ℕ) (g h : Held) → IsBetween old new g → h.text ≡ g.text → h.older ≡ g.older → IsBetween old new h
between_like old new g h b e f = record {
  size = b.size;
  text = ap (λ (l : List ℕ). length l) e ∙ b.text;
  older = ap (λ (l : List (List ℕ)). length l) f ∙ b.older;
  words = λ k o n x y. subst (IsWordBetween o n) (ap₂ (λ (t : List ℕ) (l : List (List ℕ)). choices_of (slice_get t k) (older_at l k)) (sym e) (sym f)) (b.words k o n x y);
}

-- what was taken fits
pub took_fits : (P : Act → Type 0) (p : Place) (a : Act) (taken : List Act) → All P taken → P a → All P (took p a taken)
took_fits P AtPoll a taken all here = All-append P taken (a ∷ []) all (All-cons P a [] here (All-nil P))
took_fits P AtOrder a taken all here = all
took_fits P Elsewhere a taken all here = all
