-- Code that is written a part at a time.
use Rattle.std.proofs.Common.{◌≡◌, inl, inr, ℕ, suc, ◌+◌, ◌^◌, ◌<◌, ◌≤◌, Bool, true, false, cond, Option, None, List, [], ◌∷◌, ◌++◌, ◌-◌, length, take, drop, drop-cons, map, get_or, refl, sym, ap, ◌∙◌, subst, arith, append_assoc, add-one}
use Rattle.std.proofs.lemmas.List.{drop_all, take_all}
use Rattle.mv_isa.specs.declared.labelled.Line.{Line}
use Rattle.mv_isa.specs.declared.labelled.Line.TheVariants.{Label}
use Rattle.mv_ir.specs.declared.tree.Tree.{Tree}
use Rattle.mv_ir.specs.declared.stm.Stm.{Stm}
use Rattle.mv_ir.specs.declared.stm.Stm as at
use Rattle.mv_ir.specs.declared.stm.Stm.TheOpen.{Stm-F}
use Rattle.mv_ir.specs.declared.stm.Stm.TheOpen as stm
use Rattle.mv_ir.specs.declared.stm.Stm.TheViews.{roll-Stm}
use Rattle.mv_ir.specs.declared.stm.Stm.TheFolds.{map-Stm}
use Rattle.mv_ir.specs.declared.stm.Stm.TheVariants.{rolls-If, rolls-Break, rolls-Back}
use Rattle.mv_ir.specs.Measures.{stm_size, statements}
use Rattle.mv_ir.proofs.Induction.{stm_ind}
use Rattle.mv_ir.specs.declared.body.Room.{Room}
use Rattle.mv_select_code.specs.Trees.TreeCode.{seats_at}
use Rattle.mv_select_code.specs.declared.trees.places.Keeping.{Keeping}
use Rattle.mv_select_code.specs.declared.trees.places.Pin.{Pin}
use Rattle.mv_select_code.specs.declared.control.emitter.Emitter.{Emitter}
use Rattle.mv_select_code.specs.declared.control.enclosing.Leading.{Leading}
use Rattle.mv_select_code.specs.declared.control.enclosing.Way.{Way}
use Rattle.mv_select_code.specs.Control.FlowCode.{Plan, Emitted, go_on, plain, nothing, fall_to, both, zero_lines, zero_code, short_cut, if_by, code_layer, statement_code, code_of}
use Rattle.mv_select_code.proofs.OfControl.Equations.{code_roll, code_if, if_alone, loop_alone, loop_unstaying}
use Rattle.mv_select_code.specs.Control.Staying.{BranchesTo}
use Rattle.mv_select_code.specs.Control.Layouts.{is_small, is_small_statement, are_small}
use Rattle.mv_select_code.proofs.OfControl.Small.{small_if, size_if}
use Rattle.mv_select_code.specs.Control.Emitters.{with_lines, emitted, label_taken}

pub lines_two : (xs : List Line) (a b : Line) → (xs ++ (a ∷ [])) ++ (b ∷ []) ≡ xs ++ (a ∷ b ∷ [])
lines_two xs a b = append_assoc xs (a ∷ []) (b ∷ [])

-- an emitter with other lines and another free label
at_both : (e : Emitter) (ls ks : List Line) (n k : ℕ) → ls ≡ ks → n ≡ k
    → (let x : Emitter = record e { lines = ls; free = n } in x) ≡ (let y : Emitter = record e { lines = ks; free = k } in y)
at_both e ls ks n k p q = λ i. record e { lines = p i; free = q i }

pub plain_emitted : (e : Emitter) (lines : List Line) (way : Way) → with_lines (with_lines e lines) (go_on way) ≡ emitted e (plain lines) way
plain_emitted e lines way = at_both e ((e.lines ++ lines) ++ go_on way) (e.lines ++ (lines ++ go_on way)) e.free (e.free + 0) (append_assoc e.lines lines (go_on way)) (omega arith)

-- code that takes no labels
pub silent_emitted : (e : Emitter) (code : Emitted) (way : Way) → code.labels ≡ 0 → with_lines e (code.lines e.around e.free way) ≡ emitted e code way
silent_emitted e code way none = let ls = e.lines ++ code.lines e.around e.free way in at_both e ls ls e.free (e.free + code.labels) (λ i. ls) (omega (arith, none))

pub zero_written : (e zeroed new : Emitter) (way : Way) (at n : ℕ) → zeroed ≡ (let x : Emitter = record e { lines = e.lines ++ zero_lines e.free at n; free = e.free + 2 } in x)
    → new ≡ with_lines zeroed (go_on way) → new ≡ emitted e (zero_code at n) way
zero_written e zeroed new way at n p h =
    let ls = zero_lines e.free at n in
    h ∙ ap (λ x. with_lines x (go_on way)) p
    ∙ at_both e ((e.lines ++ ls) ++ go_on way) (e.lines ++ (ls ++ go_on way)) (e.free + 2) (e.free + 2) (append_assoc e.lines ls (go_on way)) refl

-- one before another
pub both_emitted : (e : Emitter) (a b : Emitted) (way : Way) → emitted (with_lines (emitted (label_taken e) a (fall_to e.free)) (Label e.free ∷ [])) b way ≡ emitted e (both a b) way
both_emitted e a b way =
    let one = a.lines e.around (e.free + 1) (fall_to e.free) in
    let other = b.lines e.around (e.free + 1 + a.labels) way in
    let lines : ((e.lines ++ one) ++ (Label e.free ∷ [])) ++ other ≡ e.lines ++ (one ++ (Label e.free ∷ other)) = simp append_assoc in
    at_both e (((e.lines ++ one) ++ (Label e.free ∷ [])) ++ other) (e.lines ++ (one ++ (Label e.free ∷ other))) (e.free + 1 + a.labels + b.labels) (e.free + (1 + (a.labels + b.labels))) lines (omega arith)

pub seats_same : {rooms rooms' : List Room} {k k' : Keeping} {pins pins' : List Pin} → rooms ≡ rooms' → k ≡ k' → pins ≡ pins'
    → seats_at rooms k pins ≡ seats_at rooms' k' pins'
seats_same p q r = λ i. seats_at (p i) (q i) (r i)

-- ---- statements in order

pub next_item : (xs : List Stm) (i : ℕ) (s : Stm) → i < length xs → s ≡ get_or xs i s → drop i xs ≡ s ∷ drop (i + 1) xs
next_item xs i s lt is = rw (add-one i) (drop-cons xs i s lt ∙ ap (λ x. x ∷ drop (suc i) xs) (sym is))

pub tail_is : (xs : List Stm) (s : Stm) (rest : List Stm) → xs ≡ s ∷ rest → take (length xs - 1) (drop 1 xs) ≡ rest
tail_is xs s rest is = ap (λ l. take (length l - 1) (drop 1 l)) is ∙ take_all (suc (length rest) - 1) rest (omega arith)

module _ (plan : Plan) (xs : List Stm) (s : Stm) where
  last_is : (rest : List Stm) → length rest ≡ 0 → xs ≡ s ∷ rest → code_of plan xs ≡ statement_code plan s
  last_is [] none is = ap (code_of plan) is
  last_is (t ∷ rest) none is = absurd (omega (arith, none))

  next_is : (rest : List Stm) → 0 < length rest → xs ≡ s ∷ rest → code_of plan xs ≡ both (statement_code plan s) (code_of plan rest)
  next_is [] some is = absurd (omega (arith, some))
  next_is (t ∷ rest) some is = ap (code_of plan) is

  pub labels_last : (rest : List Stm) → length rest ≡ 0 → xs ≡ s ∷ rest → (code_of plan xs).labels ≡ (statement_code plan s).labels
  labels_last rest none is = ap (λ (c : Emitted). c.labels) (last_is rest none is)

  pub labels_next : (rest : List Stm) → 0 < length rest → xs ≡ s ∷ rest → (code_of plan xs).labels ≡ 1 + ((statement_code plan s).labels + (code_of plan rest).labels)
  labels_next rest some is = ap (λ (c : Emitted). c.labels) (next_is rest some is)

  -- the last one
  pub last_written : (e new : Emitter) (way : Way) (rest : List Stm) → length rest ≡ 0 → xs ≡ s ∷ rest → new ≡ emitted e (statement_code plan s) way → new ≡ emitted e (code_of plan xs) way
  last_written e new way rest none is h = h ∙ ap (λ c. emitted e c way) (sym (last_is rest none is))

  -- one before others, with a label between them
  pub next_written : (e taken one labelled : Emitter) (label : ℕ) (way : Way) (rest : List Stm) → 0 < length rest → xs ≡ s ∷ rest → label ≡ e.free → taken ≡ label_taken e
      → one ≡ emitted taken (statement_code plan s) (fall_to label) → labelled ≡ with_lines one (Label label ∷ []) → emitted labelled (code_of plan rest) way ≡ emitted e (code_of plan xs) way
  next_written e taken one labelled label way rest some is at_free p q r =
      ap (λ x. emitted x (code_of plan rest) way)
      (r ∙ ap (λ x. with_lines x (Label label ∷ [])) (q ∙ ap (λ x. emitted x (statement_code plan s) (fall_to label)) p)
      ∙ ap (λ n. with_lines (emitted (label_taken e) (statement_code plan s) (fall_to n)) (Label n ∷ [])) at_free)
      ∙ both_emitted e (statement_code plan s) (code_of plan rest) way ∙ ap (λ c. emitted e c way) (sym (next_is rest some is))

-- behind them all
pub end_written : (plan : Plan) (xs : List Stm) (i : ℕ) (e new : Emitter) (way : Way) → length xs ≤ i → new ≡ with_lines e (go_on way) → new ≡ emitted e (code_of plan (drop i xs)) way
end_written plan xs i e new way le h = h ∙ silent_emitted e nothing way refl ∙ ap (λ l. emitted e (code_of plan l) way) (sym (drop_all i xs le))

pub free_same : (e f : Emitter) (a b : Emitted) (way : Way) → emitted e a way ≡ emitted f b way → e.free + a.labels ≡ f.free + b.labels
free_same e f a b way is = ap (λ (x : Emitter). x.free) is

-- ---- statements of a kind

module _ (plan : Plan) (e : Emitter) (s x : Stm) (same : s ≡ x) where
  pub as_kind : (way : Way) (code : Emitted) (new : Emitter) → statement_code plan x ≡ code → new ≡ emitted e code way → new ≡ emitted e (statement_code plan s) way
  as_kind way code new is h = h ∙ ap (λ c. emitted e c way) (sym is ∙ ap (statement_code plan) (sym same))

  pub as_plain : (way : Way) (lines written : List Line) (new : Emitter) → statement_code plan x ≡ plain lines → written ≡ e.lines ++ lines
      → new ≡ (let w : Emitter = record e { lines = written } in with_lines w (go_on way)) → new ≡ emitted e (statement_code plan s) way
  as_plain way lines written new is h k =
      as_kind way (plain lines) new is (k ∙ ap (λ l. let w : Emitter = record e { lines = l } in with_lines w (go_on way)) h ∙ plain_emitted e lines way)

  pub labels_of : (code : Emitted) → statement_code plan x ≡ code → e.free + (statement_code plan s).labels < 2 ^ 32 → e.free + code.labels < 2 ^ 32
  labels_of code is h = subst (λ c. e.free + c.labels < 2 ^ 32) (ap (statement_code plan) same ∙ is) h

-- ---- the branch that a statement is

pub branches_to : (d : Bool) (s : Stm) (t u : Tree) (a b list : List Stm) → s ≡ at.If t a b → u ≡ t → list ≡ cond d b a → BranchesTo u list s
branches_to true s t u a b list same eu el = (a, inr (same ∙ ap (λ z. at.If z a b) (sym eu) ∙ ap (λ z. at.If u a z) (sym el)))
branches_to false s t u a b list same eu el = (b, inl (same ∙ ap (λ z. at.If z a b) (sym eu) ∙ ap (λ z. at.If u z b) (sym el)))

-- what is small of such a branch, and how many statements there are
pub branch_small : (t : Tree) (list : List Stm) (s : Stm) → BranchesTo t list s → is_small_statement s ≡ true → (is_small t ≡ true) × (are_small list ≡ true)
branch_small t list s (other, inl same) small = let h = small_if s small t list other same in (h.0, h.1)
branch_small t list s (other, inr same) small = let h = small_if s small t other list same in (h.0, h.2)

pub branch_size : (t : Tree) (list : List Stm) (s : Stm) → BranchesTo t list s → statements list + 1 ≤ stm_size s
branch_size t list s (other, inl same) = omega (arith, size_if s t list other same)
branch_size t list s (other, inr same) = omega (arith, size_if s t other list same)

-- ---- where code leads that does nothing else

module _ (plan : Plan) where
  abbrev LeadsNowhere : Stm → Type 0
  LeadsNowhere s = ((n : ℕ) → s ≡ at.Break n → ⊥) → ((n : ℕ) → s ≡ at.Back n → ⊥) → (statement_code plan s).alone ≡ None

  unled_layer : (x : Stm-F Stm) → ((n : ℕ) → roll-Stm x ≡ at.Break n → ⊥) → ((n : ℕ) → roll-Stm x ≡ at.Back n → ⊥) → (code_layer plan (map-Stm Stm Emitted (statement_code plan) x)).alone ≡ None
  unled_layer (stm.Break n) p q = absurd (p n (rolls-Break n))
  unled_layer (stm.Back n) p q = absurd (q n (rolls-Back n))
  unled_layer (stm.Loop b) p q = loop_alone plan.seats (map (statement_code plan) b)
  unled_layer (stm.If t a b) p q = let one = code_of plan a in let other = code_of plan b in if_alone plan.seats plan.end t one.alone other.alone one other
  unled_layer _ p q = refl

  pub unled : (s : Stm) → LeadsNowhere s
  unled = stm_ind LeadsNowhere (λ x h p q. ap (λ (c : Emitted). c.alone) (code_roll plan x) ∙ unled_layer x p q)

  pub unled_list : (xs : List Stm) → 2 ≤ length xs → (code_of plan xs).alone ≡ None
  unled_list [] le = absurd (omega (arith, le))
  unled_list (s ∷ []) le = absurd (omega (arith, le))
  unled_list (s ∷ t ∷ xs) le = refl

  -- ---- what a statement stays for

  abbrev StaysForNothing : Stm → Type 0
  StaysForNothing s = ((t : Tree) (a b : List Stm) → s ≡ at.If t a b → ⊥) → (statement_code plan s).stays ≡ None

  unstaying_layer : (x : Stm-F Stm) → ((t : Tree) (a b : List Stm) → roll-Stm x ≡ at.If t a b → ⊥) → (code_layer plan (map-Stm Stm Emitted (statement_code plan) x)).stays ≡ None
  unstaying_layer (stm.If t a b) p = absurd (p t a b (rolls-If t a b))
  unstaying_layer (stm.Loop b) p = loop_unstaying plan.seats (map (statement_code plan) b)
  unstaying_layer _ p = refl

  pub unstaying : (s : Stm) → StaysForNothing s
  unstaying = stm_ind StaysForNothing (λ x h p. ap (λ (c : Emitted). c.stays) (code_roll plan x) ∙ unstaying_layer x p)

  -- a branch, by the way that it goes in place of one of its lists
  pub stays_by : (s : Stm) (t : Tree) (a b : List Stm) (x y : Option Leading) (to : Option (Bool × Leading)) → s ≡ at.If t a b → x ≡ (code_of plan a).alone → y ≡ (code_of plan b).alone → to ≡ short_cut x y
      → (statement_code plan s).stays ≡ (if_by plan.seats plan.end t to (code_of plan a) (code_of plan b)).stays
  stays_by s t a b x y to same ex ey et =
      ap (λ (z : Stm). (statement_code plan z).stays) same ∙ ap (λ (c : Emitted). c.stays) (code_if plan t a b)
      ∙ ap (λ z. (if_by plan.seats plan.end t z (code_of plan a) (code_of plan b)).stays) (ap (λ z. short_cut z (code_of plan b).alone) (sym ex) ∙ ap (λ z. short_cut x z) (sym ey) ∙ sym et)

  pub chosen : (d : Bool) (a b list : List Stm) → list ≡ cond d b a → cond d (code_of plan b) (code_of plan a) ≡ code_of plan list
  chosen true a b list e = ap (code_of plan) (sym e)
  chosen false a b list e = ap (code_of plan) (sym e)
