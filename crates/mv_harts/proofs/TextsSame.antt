-- The text that code makes of what is told is that of the harts.
use Rattle.std.proofs.Common.{◌≡◌, ℕ, suc, ◌<◌, ◌≤◌, ◌+◌, false, List, [], ◌∷◌, ◌++◌, length, drop, get_or, slice_get, Some, refl, sym, ap, ap₂, ◌∙◌, arith, append_assoc, append-nil}
use Rattle.std.specs.Prelude.{All}
use Rattle.std.proofs.Math.Seq.{drop-cons}
use Rattle.std.proofs.lemmas.List.{drop_all}
use Rattle.std.proofs.lemmas.Option.{none-some, same_Some}
use Rattle.std.proofs.lemmas.List.Elements.{All-cons, All-head, All-nil, All-tail}
use Rattle.mv_bindings.specs.declared.binding.Binding.{Binding}
use Rattle.mv_harts_runs.specs.Harts.{Hart}
use Rattle.mv_harts_turns.specs.Pairs.{Pairs}
use Rattle.mv_harts.specs.declared.ends.HartStop.{HartStop}
use Rattle.mv_harts.specs.declared.ends.HartEnd.{HartEnd}
use Rattle.mv_harts.specs.declared.devices.Keeping.{Keeping}
use Rattle.mv_harts.specs.Ends.{IsEnd, is_fault, stop_text}
use Rattle.mv_harts.specs.Texts.{hart_text, line_of, lines_of, standing, text_from, texts_from}
use Rattle.mv_harts.proofs.Stops.{stands, unfailed}

-- a sink has what each hart has written
abbrev pub HaveOutputs : List Keeping → List Hart → Type 0
HaveOutputs sinks os = (h : ℕ) (o : Hart) → slice_get os h ≡ Some o → (sink : Keeping) × (slice_get sinks h ≡ Some sink) × (sink.bytes.items ≡ o.state.output)

abbrev pub AreFaultless : List HartEnd → Type 0
AreFaultless ends = All (λ end. is_fault end.stop ≡ false) ends

module _ (commits : List (List Binding)) where
  hart_same : (n : ℕ) (end : HartEnd) (bytes : List ℕ) (o : Hart) → IsEnd commits end o → is_fault end.stop ≡ false → bytes ≡ o.state.output →
      hart_text n end.stop bytes ≡ lines_of n (standing o.state.stop o.waited) o.state.output
  unfolding hart_text
  hart_same n end bytes o is faultless written = ap₂ (λ (s b : List ℕ). lines_of n s b) (stands o end.stop is.stop faultless) written

  pub texts_same : (n : ℕ) (ends : List HartEnd) (sinks : List Keeping) (os : List Hart) → Pairs (λ h. IsEnd commits) ends os → HaveOutputs sinks os → AreFaultless ends →
      texts_from n ends sinks ≡ text_from n os
  unfolding texts_from
  texts_same n [] sinks [] pairs outputs faultless = refl
  texts_same n [] sinks (o ∷ os) pairs outputs faultless = absurd (pairs 0)
  texts_same n (end ∷ ends) sinks [] pairs outputs faultless = absurd (pairs 0)
  texts_same n (end ∷ ends) [] (o ∷ os) pairs outputs faultless = absurd (none-some (outputs 0 o refl).0 (outputs 0 o refl).1)
  texts_same n (end ∷ ends) (sink ∷ sinks) (o ∷ os) pairs outputs faultless =
      let first = outputs 0 o refl in
      ap₂ (λ (x y : List ℕ). x ++ y)
      (hart_same n end sink.bytes.items o (pairs 0) (All-head (λ e. is_fault e.stop ≡ false) end ends faultless) (ap (λ (k : Keeping). k.bytes.items) (same_Some sink first.0 first.1) ∙ first.2))
      (texts_same (suc n) ends sinks os (λ h. pairs (suc h)) (λ h. outputs (suc h)) (All-tail (λ e. is_fault e.stop ≡ false) end ends faultless))

  -- no hart has failed
  pub unfailed_all : (ends : List HartEnd) (os : List Hart) → Pairs (λ h. IsEnd commits) ends os → AreFaultless ends → All (λ o. o.failed ≡ false) os
  unfailed_all ends [] pairs faultless = All-nil (λ o. o.failed ≡ false)
  unfailed_all [] (o ∷ os) pairs faultless = absurd (pairs 0)
  unfailed_all (end ∷ ends) (o ∷ os) pairs faultless =
      let here = pairs 0 in
      All-cons (λ (o : Hart). o.failed ≡ false) o os (unfailed o end.stop here.stop (All-head (λ e. is_fault e.stop ≡ false) end ends faultless))
      (unfailed_all ends os (λ h. pairs (suc h)) (All-tail (λ e. is_fault e.stop ≡ false) end ends faultless))

-- ---- the loop over what is told

-- what is to come behind some lines
abbrev pub rest_of : (i : ℕ) → List HartEnd → List Keeping → List ℕ
rest_of i ends sinks = texts_from i (drop i ends) (drop i sinks)

pub rest_more : (i : ℕ) (ends : List HartEnd) (sinks : List Keeping) (end : HartEnd) (sink : Keeping) → i < length ends → i < length sinks → end ≡ get_or ends i end → sink ≡ get_or sinks i sink →
    rest_of i ends sinks ≡ hart_text i end.stop sink.bytes.items ++ rest_of (i + 1) ends sinks
unfolding texts_from
rest_more i ends sinks end sink here there is at =
    let on : suc i ≡ i + 1 = omega arith in
    ap₂ (texts_from i) (drop-cons ends i end here ∙ ap₂ (λ (e : HartEnd) (es : List HartEnd). e ∷ es) (sym is) (ap (λ (k : ℕ). drop k ends) on))
    (drop-cons sinks i sink there ∙ ap₂ (λ (k : Keeping) (ks : List Keeping). k ∷ ks) (sym at) (ap (λ (k : ℕ). drop k sinks) on)) ∙
    ap (λ k. hart_text i end.stop sink.bytes.items ++ texts_from k (drop (i + 1) ends) (drop (i + 1) sinks)) on

pub lines_more : (i : ℕ) (ends : List HartEnd) (sinks : List Keeping) (end : HartEnd) (sink : Keeping) (old new bytes : List ℕ) (stop : HartStop) → i < length ends → i < length sinks → end ≡ get_or ends i end →
    sink ≡ get_or sinks i sink → stop ≡ end.stop → bytes ≡ sink.bytes.items → new ≡ old ++ hart_text i stop bytes → old ++ rest_of i ends sinks ≡ texts_from 0 ends sinks →
    new ++ rest_of (i + 1) ends sinks ≡ texts_from 0 ends sinks
lines_more i ends sinks end sink old new bytes stop here there is at stops kept grown before =
    ap (λ t. t ++ rest_of (i + 1) ends sinks) (grown ∙ ap₂ (λ s b. old ++ hart_text i s b) stops kept) ∙
    append_assoc old (hart_text i end.stop sink.bytes.items) (rest_of (i + 1) ends sinks) ∙ ap (λ t. old ++ t) (sym (rest_more i ends sinks end sink here there is at)) ∙ before

-- nothing is to come behind the last
pub rest_none : (i : ℕ) (ends : List HartEnd) (sinks : List Keeping) (text : List ℕ) → length ends ≤ i → text ++ rest_of i ends sinks ≡ texts_from 0 ends sinks → text ≡ texts_from 0 ends sinks
unfolding texts_from
rest_none i ends sinks text past is =
    sym (append-nil text) ∙ ap (λ (t : List ℕ). text ++ t) (sym (ap (λ (xs : List HartEnd). texts_from i xs (drop i sinks)) (drop_all i ends past))) ∙ is

-- the lines of a hart are added piece by piece
pub pushed : (old one two new line bytes : List ℕ) (number count : ℕ) (stop : HartStop) → one ≡ old ++ line → two ≡ one ++ bytes → new ≡ two ++ 10 ∷ [] → count ≡ length bytes →
    line ≡ line_of number (stop_text stop) count → new ≡ old ++ hart_text number stop bytes
unfolding hart_text
pushed old one two new line bytes number count stop a b d many is =
    d ∙ ap (λ (t : List ℕ). t ++ 10 ∷ []) (b ∙ ap (λ (t : List ℕ). t ++ bytes) a) ∙ append_assoc (old ++ line) bytes (10 ∷ []) ∙ append_assoc old line (bytes ++ 10 ∷ []) ∙
    ap (λ (t : List ℕ). old ++ (t ++ (bytes ++ 10 ∷ []))) (is ∙ ap (λ (n : ℕ). line_of number (stop_text stop) n) many)
