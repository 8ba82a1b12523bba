-- What a load gives after a store, and where addresses lie.
use Rattle.std.proofs.Common.{◌≡◌, ⊎_elim, inl, inr, ◌⊎◌, ℕ, zero, suc, ◌-◌, ◌/◌, ◌%◌, ◌^◌, ◌<◌, ◌≤◌, Bool, true, false, cond, eqb, ltb, List, [], ◌∷◌, length, set, slice_get, get_or, unwrap_or, Option, Some, None, option_map, Err, refl, sym, ap, ap₂, ◌∙◌, subst, arith, length-set}
use Rattle.std.specs.Result.{result_ok}
use Rattle.std.proofs.lemmas.Option.{slice_get-get_or}
use Rattle.std.proofs.lemmas.Bool.{lt-ltb, le-ltb, cases_lt, eqb-true}
use Rattle.mv_fetch.specs.declared.memory.AccessError.TheVariants.{Misaligned}
use Rattle.mv_fetch.specs.Held.{Held, Room, IsInText, region_of, index_of, words_of, present, part, joined, with_word, found, load, store}
use Rattle.mv_rv32.specs.Stepping.{access as room_access, with_held}
use Rattle.mv_refine_machine.specs.Calm.{Rest, stack_words}
use Rattle.mv_refine_machine.specs.MachineRuns.{access, with_room}
use Rattle.mv_refine_machine.specs.Layout.{IsOutsideText}
use Rattle.mv_num.proofs.Lists.{get_set_same}
use Rattle.mv_fetch.proofs.Places.{stack_index}

-- ---- where an address lies

-- a region, by its first address, and an address of none
data Part : Type 0 where
  Text : Part
  Globals : Part
  Stack : Part
  Plan : Part
  Nowhere : Part

abbrev begin : Part → ℕ
begin Text = 0x1000
begin Globals = 0x0010_0000
begin Stack = 0x0020_0000
begin Plan = 0x0040_0000
begin Nowhere = 0

-- An address lies in a region, which with its index there tells it.
record LiesIn (r : Part) (a : ℕ) : Type 0 where
  same : region_of a ≡ region_of (begin r)
  told : (r ≡ Nowhere) ⊎ (index_of a ≡ (a - begin r) / 4)
  after : begin r ≤ a

in_text : (a : ℕ) → 0x1000 ≤ a → a < 0x0010_0000 → LiesIn Text a
unfolding region_of index_of
in_text a ge lt =
    let e : ltb a 0x1000 ≡ false = le-ltb a 0x1000 ge in
    let f : ltb a 0x0010_0000 ≡ true = lt-ltb a 0x0010_0000 lt in
    record { same = rw (e, f) refl; told = inr (rw (f) refl); after = ge }

in_globals : (a : ℕ) → 0x0010_0000 ≤ a → a < 0x0020_0000 → LiesIn Globals a
unfolding region_of index_of
in_globals a ge lt =
    let e : ltb a 0x1000 ≡ false = le-ltb a 0x1000 (omega (arith, ge)) in
    let f : ltb a 0x0010_0000 ≡ false = le-ltb a 0x0010_0000 ge in
    let g : ltb a 0x0020_0000 ≡ true = lt-ltb a 0x0020_0000 lt in
    record { same = rw (e, f, g) refl; told = inr (rw (f, g) refl); after = ge }

in_stack : (a : ℕ) → 0x0020_0000 ≤ a → a < 0x0040_0000 → LiesIn Stack a
unfolding region_of index_of
in_stack a ge lt =
    let e : ltb a 0x1000 ≡ false = le-ltb a 0x1000 (omega (arith, ge)) in
    let f : ltb a 0x0010_0000 ≡ false = le-ltb a 0x0010_0000 (omega (arith, ge)) in
    let g : ltb a 0x0020_0000 ≡ false = le-ltb a 0x0020_0000 ge in
    let h : ltb a 0x0040_0000 ≡ true = lt-ltb a 0x0040_0000 lt in
    record { same = rw (e, f, g, h) refl; told = inr (rw (f, g, h) refl); after = ge }

in_plan : (a : ℕ) → 0x0040_0000 ≤ a → a < 0x0048_0000 → LiesIn Plan a
unfolding region_of index_of
in_plan a ge lt =
    let e : ltb a 0x1000 ≡ false = le-ltb a 0x1000 (omega (arith, ge)) in
    let f : ltb a 0x0010_0000 ≡ false = le-ltb a 0x0010_0000 (omega (arith, ge)) in
    let g : ltb a 0x0020_0000 ≡ false = le-ltb a 0x0020_0000 (omega (arith, ge)) in
    let h : ltb a 0x0040_0000 ≡ false = le-ltb a 0x0040_0000 ge in
    let k : ltb a 0x0048_0000 ≡ true = lt-ltb a 0x0048_0000 lt in
    record { same = rw (e, f, g, h, k) refl; told = inr (rw (f, g, h) refl); after = ge }

below_all : (a : ℕ) → a < 0x1000 → region_of a ≡ region_of 0
unfolding region_of
below_all a lt = let e : ltb a 0x1000 ≡ true = lt-ltb a 0x1000 lt in rw e refl

above_all : (a : ℕ) → 0x0048_0000 ≤ a → region_of a ≡ region_of 0
unfolding region_of
above_all a ge =
    let e : ltb a 0x1000 ≡ false = le-ltb a 0x1000 (omega (arith, ge)) in
    let f : ltb a 0x0010_0000 ≡ false = le-ltb a 0x0010_0000 (omega (arith, ge)) in
    let g : ltb a 0x0020_0000 ≡ false = le-ltb a 0x0020_0000 (omega (arith, ge)) in
    let h : ltb a 0x0040_0000 ≡ false = le-ltb a 0x0040_0000 (omega (arith, ge)) in
    let k : ltb a 0x0048_0000 ≡ false = le-ltb a 0x0048_0000 ge in rw (e, f, g, h, k) refl

in_none : (a : ℕ) → (a < 0x1000) ⊎ (0x0048_0000 ≤ a) → LiesIn Nowhere a
in_none a o = record { same = ⊎_elim below above o; told = inl refl; after = omega arith }
  where
    below : a < 0x1000 → region_of a ≡ region_of (begin Nowhere)
    below lt = below_all a lt

    above : 0x0048_0000 ≤ a → region_of a ≡ region_of (begin Nowhere)
    above ge = above_all a ge

-- each address lies in one
lies : (a : ℕ) → (r : Part) × LiesIn r a
lies a = ⊎_elim (λ (l : a < 0x1000). (Nowhere, in_none a (inl l))) from_text (cases_lt a 0x1000)
  where
    from_plan : 0x0040_0000 ≤ a → (r : Part) × LiesIn r a
    from_plan ge = ⊎_elim (λ (l : a < 0x0048_0000). (Plan, in_plan a ge l)) (λ (l : 0x0048_0000 ≤ a). (Nowhere, in_none a (inr l))) (cases_lt a 0x0048_0000)

    from_stack : 0x0020_0000 ≤ a → (r : Part) × LiesIn r a
    from_stack ge = ⊎_elim (λ (l : a < 0x0040_0000). (Stack, in_stack a ge l)) from_plan (cases_lt a 0x0040_0000)

    from_globals : 0x0010_0000 ≤ a → (r : Part) × LiesIn r a
    from_globals ge = ⊎_elim (λ (l : a < 0x0020_0000). (Globals, in_globals a ge l)) from_stack (cases_lt a 0x0020_0000)

    from_text : 0x1000 ≤ a → (r : Part) × LiesIn r a
    from_text ge = ⊎_elim (λ (l : a < 0x0010_0000). (Text, in_text a ge l)) from_globals (cases_lt a 0x0010_0000)

-- ---- words of lists

get_set_other : (xs : List ℕ) (k j v : ℕ) → (j ≡ k → ⊥) → slice_get (set xs k v) j ≡ slice_get xs j
get_set_other [] k j v ne = refl
get_set_other (x ∷ xs) zero zero v ne = absurd (ne refl)
get_set_other (x ∷ xs) zero (suc j) v ne = refl
get_set_other (x ∷ xs) (suc k) zero v ne = refl
get_set_other (x ∷ xs) (suc k) (suc j) v ne = get_set_other xs k j v (λ e. ne (ap suc e))

-- ---- words of regions

words_set_in : (r : Part) (h : Held) (k old new : ℕ) → words_of (with_word h (region_of (begin r)) k old new) (region_of (begin r)) ≡ set (words_of h (region_of (begin r))) k new
unfolding region_of
words_set_in Text h k old new = refl
words_set_in Globals h k old new = refl
words_set_in Stack h k old new = refl
words_set_in Plan h k old new = refl
words_set_in Nowhere h k old new = refl

-- a word is put into the words of its region
words_set : (h : Held) (a k old new : ℕ) → words_of (with_word h (region_of a) k old new) (region_of a) ≡ set (words_of h (region_of a)) k new
words_set h a k old new =
    let l = lies a in subst (λ r. words_of (with_word h r k old new) r ≡ set (words_of h r) k new) (sym l.1.same) (words_set_in l.0 h k old new)

-- another region is as it was
abbrev Unlike : Part → Part → Type 0
Unlike r q =
    (q ≡ r) ⊎ ((h : Held) (k old new : ℕ) → words_of (with_word h (region_of (begin r)) k old new) (region_of (begin q)) ≡ words_of h (region_of (begin q)))

unlike : (r q : Part) → Unlike r q
unfolding region_of
unlike Text Text = inl refl
unlike Text Globals = inr (λ h k old new. refl)
unlike Text Stack = inr (λ h k old new. refl)
unlike Text Plan = inr (λ h k old new. refl)
unlike Text Nowhere = inr (λ h k old new. refl)
unlike Globals Text = inr (λ h k old new. refl)
unlike Globals Globals = inl refl
unlike Globals Stack = inr (λ h k old new. refl)
unlike Globals Plan = inr (λ h k old new. refl)
unlike Globals Nowhere = inr (λ h k old new. refl)
unlike Stack Text = inr (λ h k old new. refl)
unlike Stack Globals = inr (λ h k old new. refl)
unlike Stack Stack = inl refl
unlike Stack Plan = inr (λ h k old new. refl)
unlike Stack Nowhere = inr (λ h k old new. refl)
unlike Plan Text = inr (λ h k old new. refl)
unlike Plan Globals = inr (λ h k old new. refl)
unlike Plan Stack = inr (λ h k old new. refl)
unlike Plan Plan = inl refl
unlike Plan Nowhere = inr (λ h k old new. refl)
unlike Nowhere Text = inr (λ h k old new. refl)
unlike Nowhere Globals = inr (λ h k old new. refl)
unlike Nowhere Stack = inr (λ h k old new. refl)
unlike Nowhere Plan = inr (λ h k old new. refl)
unlike Nowhere Nowhere = inl refl

present_same : (h : Held) (a w old new : ℕ) → present h a ≡ Some w → present (with_word h (region_of a) (index_of a) old new) a ≡ Some new
unfolding present
present_same h a w old new there =
    ap (λ xs. slice_get xs (index_of a)) (words_set h a (index_of a) old new) ∙ get_set_same (words_of h (region_of a)) (index_of a) new w there

nowhere_present : (h : Held) (a w : ℕ) → region_of a ≡ region_of (begin Nowhere) → present h a ≡ Some w → ⊥
unfolding present region_of
nowhere_present h a w e there = let none = ap (λ r. slice_get (words_of h r) (index_of a)) e in absurd (cc)

begins_even : (r : Part) → begin r % 4 ≡ 0
begins_even Text = refl
begins_even Globals = refl
begins_even Stack = refl
begins_even Plan = refl
begins_even Nowhere = refl

-- in one region, another address has another index
index_apart : (h : Held) (a b w : ℕ) (r : Part) → LiesIn r a → LiesIn r b → a % 4 ≡ 0 → b % 4 ≡ 0 → present h a ≡ Some w → index_of b ≡ index_of a → b ≡ a
index_apart h a b w r p q ha hb there e = ⊎_elim
    (λ (n : r ≡ Nowhere). absurd (nowhere_present h a w (p.same ∙ ap (λ x. region_of (begin x)) n) there))
    (λ (i : index_of a ≡ (a - begin r) / 4).
    ⊎_elim
    (λ (n : r ≡ Nowhere). absurd (nowhere_present h a w (p.same ∙ ap (λ x. region_of (begin x)) n) there))
    (λ (j : index_of b ≡ (b - begin r) / 4).
    let m = begins_even r in let pa = p.after in let qa = q.after in omega (arith, m, pa, qa, i, j, e, ha, hb))
    q.told)
    p.told

present_other : (h : Held) (a b w old new : ℕ) → a % 4 ≡ 0 → b % 4 ≡ 0 → present h a ≡ Some w → (b ≡ a → ⊥) → present (with_word h (region_of a) (index_of a) old new) b ≡ present h b
unfolding present
present_other h a b w old new ha hb there ne = ⊎_elim same other (unlike (lies a).0 (lies b).0)
  where
    same : (lies b).0 ≡ (lies a).0 → slice_get (words_of (with_word h (region_of a) (index_of a) old new) (region_of b)) (index_of b) ≡ slice_get (words_of h (region_of b)) (index_of b)
    same e =
        let q : LiesIn (lies a).0 b = subst (λ r. LiesIn r b) e (lies b).1 in
        let regions : region_of b ≡ region_of a = q.same ∙ sym (lies a).1.same in
        ap (λ r. slice_get (words_of (with_word h (region_of a) (index_of a) old new) r) (index_of b)) regions
        ∙ ap (λ xs. slice_get xs (index_of b)) (words_set h a (index_of a) old new)
        ∙ get_set_other (words_of h (region_of a)) (index_of a) (index_of b) new (λ i. ne (index_apart h a b w (lies a).0 (lies a).1 q ha hb there i))
        ∙ ap (λ r. slice_get (words_of h r) (index_of b)) (sym regions)

    other : ((g : Held) (k o n : ℕ) → words_of (with_word g (region_of (begin (lies a).0)) k o n) (region_of (begin (lies b).0)) ≡ words_of g (region_of (begin (lies b).0)))
        → slice_get (words_of (with_word h (region_of a) (index_of a) old new) (region_of b)) (index_of b) ≡ slice_get (words_of h (region_of b)) (index_of b)
    other f =
        ap₂ (λ r q. slice_get (words_of (with_word h r (index_of a) old new) q) (index_of b)) (lies a).1.same (lies b).1.same
        ∙ ap (λ xs. slice_get xs (index_of b)) (f h (index_of a) old new)
        ∙ ap (λ q. slice_get (words_of h q) (index_of b)) (sym (lies b).1.same)

-- ---- loads and stores

-- what a load that works finds
pub record Loaded (h : Held) (a : ℕ) : Type 0 where
  pub word : ℕ
  pub aligned : a % 4 ≡ 0
  pub there : present h a ≡ Some word

loaded_parts : (h : Held) (a w : ℕ) (b : Bool) (o : Option ℕ) → eqb (a % 4) 0 ≡ b → present h a ≡ o → result_ok (cond b (found a o (part a 4)) (Err (Misaligned a))) ≡ Some w → Loaded h a
loaded_parts h a w true (Some word) e there k = record { word = word; aligned = eqb-true (a % 4) 0 e; there = there }
loaded_parts h a w true None e there k = absurd (cc)
loaded_parts h a w false o e there k = absurd (cc)

load_finds : (m : Rest) (a w : ℕ) → access.load m a 4 ≡ Some w → Loaded m.room.held a
unfolding access room_access load
load_finds m a w h = loaded_parts m.room.held a w (eqb (a % 4) 0) (present m.room.held a) refl refl h

load_is : (m : Rest) (a w : ℕ) → a % 4 ≡ 0 → present m.room.held a ≡ Some w → access.load m a 4 ≡ Some (part a 4 w)
unfolding access room_access load
load_is m a w aligned there = rw (aligned, there) refl

-- the rest after a store
abbrev stored_to : Rest → (a word v : ℕ) → Rest
stored_to m a word v = with_room m (with_held a m.room (with_word m.room.held (region_of a) (index_of a) word (joined a 4 word v)))

store_is : (m : Rest) (a word v : ℕ) → a % 4 ≡ 0 → present m.room.held a ≡ Some word → access.store m a 4 v ≡ Some (stored_to m a word v)
unfolding access room_access store
store_is m a word v aligned there = rw (aligned, there) refl

-- what is loaded of a word into which all bytes were put
pub whole_word : (a word v : ℕ) → a % 4 ≡ 0 → v < 2 ^ 32 → part a 4 (joined a 4 word v) ≡ v
unfolding part joined
whole_word a word v aligned lt = rw aligned (omega (arith, lt))

cond_other : (b : Bool) (a : ℕ) (o p : Option ℕ) → (b ≡ true → o ≡ p) → result_ok (cond b (found a o (part a 4)) (Err (Misaligned a))) ≡ result_ok (cond b (found a p (part a 4)) (Err (Misaligned a)))
cond_other true a o p h = ap (λ x. result_ok (found a x (part a 4))) (h refl)
cond_other false a o p h = refl

load_other : (m m' : Rest) (b : ℕ) → (b % 4 ≡ 0 → present m'.room.held b ≡ present m.room.held b) → access.load m' b 4 ≡ access.load m b 4
unfolding access room_access load
load_other m m' b h = cond_other (eqb (b % 4) 0) b (present m'.room.held b) (present m.room.held b) (λ e. h (eqb-true (b % 4) 0 e))

-- a word that is stored where one can be loaded is read back, and other addresses are as they were
pub record StoredAt (m : Rest) (a v : ℕ) : Type 0 where
  pub after : Rest
  pub stored : access.store m a 4 v ≡ Some after
  pub same : access.load after a 4 ≡ Some v
  pub others : (b : ℕ) → (b ≡ a → ⊥) → access.load after b 4 ≡ access.load m b 4

pub stored_at : (m : Rest) (a v w : ℕ) → v < 2 ^ 32 → access.load m a 4 ≡ Some w → StoredAt m a v
stored_at m a v w lt h =
    let l = load_finds m a w h in
    let new = joined a 4 l.word v in record {
      after = stored_to m a l.word v;
      stored = store_is m a l.word v l.aligned l.there;
      same =
          load_is (stored_to m a l.word v) a new l.aligned (present_same m.room.held a l.word l.word new l.there)
          ∙ ap Some (whole_word a l.word v l.aligned lt);
      others = λ b ne. load_other m (stored_to m a l.word v) b (λ hb. present_other m.room.held a b l.word l.word new l.aligned hb l.there ne);
    }

-- ---- words of the stack

pub load_word : (m : Rest) (a w : ℕ) → access.load m a 4 ≡ Some w → w < 2 ^ 32
unfolding part
load_word m a w h =
    let l = load_finds m a w h in
    let e : part a 4 l.word ≡ w = ap (λ o. unwrap_or o 0) (sym (load_is m a l.word l.aligned l.there) ∙ h) in
    omega (arith, e)

stack_region : (h : Held) → words_of h (region_of (begin Stack)) ≡ h.stack
unfolding region_of
stack_region h = refl

stack_present : (h : Held) (a : ℕ) → 0x0020_0000 ≤ a → a < 0x0040_0000 → length h.stack ≡ stack_words → present h a ≡ Some (get_or h.stack ((a - 0x0020_0000) / 4) 0)
unfolding present
stack_present h a ge lt count =
    ap₂ (λ xs i. slice_get xs i) (ap (words_of h) (in_stack a ge lt).same ∙ stack_region h) (stack_index a ge lt)
    ∙ slice_get-get_or h.stack ((a - 0x0020_0000) / 4) 0 (omega (arith, ge, lt, count))

-- where the stack has all its words, each can be loaded
pub stack_loads : (m : Rest) (a : ℕ) → 0x0020_0000 ≤ a → a < 0x0040_0000 → a % 4 ≡ 0 → length m.room.held.stack ≡ stack_words → (v : ℕ) × (access.load m a 4 ≡ Some v)
stack_loads m a ge lt aligned count =
    let word = get_or m.room.held.stack ((a - 0x0020_0000) / 4) 0 in
    (part a 4 word, load_is m a word aligned (stack_present m.room.held a ge lt count))

-- ---- stores outside text

-- memory changed, and text and its older words did not, nor the number of the stack's words
pub record KeepsText (m m' : Rest) : Type 0 where
  pub room : Room
  pub rest : m' ≡ with_room m room
  pub text : room.held.text ≡ m.room.held.text
  pub older : room.held.older ≡ m.room.held.older
  pub stack : length room.held.stack ≡ length m.room.held.stack

-- the text, the older words, and how many words the stack has
abbrev SameText : Held → Held → Type 0
SameText h h' = (h'.text ≡ h.text) × (h'.older ≡ h.older) × (length h'.stack ≡ length h.stack)

globals_kept : (h : Held) (k old new : ℕ) → SameText h (with_word h (region_of (begin Globals)) k old new)
unfolding region_of
globals_kept h k old new = (refl, refl, refl)

stack_kept : (h : Held) (k old new : ℕ) → SameText h (with_word h (region_of (begin Stack)) k old new)
unfolding region_of
stack_kept h k old new = (refl, refl, length-set h.stack k new)

text_kept : (h : Held) (a k old new : ℕ) → IsOutsideText a → SameText h (with_word h (region_of a) k old new)
text_kept h a k old new out = ⊎_elim
    (λ (lt : a < 0x0020_0000). subst (λ r. SameText h (with_word h r k old new)) (sym (in_globals a out.0 lt).same) (globals_kept h k old new))
    (λ (ge : 0x0020_0000 ≤ a). subst (λ r. SameText h (with_word h r k old new)) (sym (in_stack a ge out.1).same) (stack_kept h k old new))
    (cases_lt a 0x0020_0000)

store_parts : (m m' : Rest) (a v : ℕ) (b : Bool) (o : Option ℕ) → IsOutsideText a
    → option_map (with_room m) (option_map (with_held a m.room) (result_ok (cond b (found a o (λ w. with_word m.room.held (region_of a) (index_of a) w (joined a 4 w v))) (Err (Misaligned a))))) ≡ Some m'
    → KeepsText m m'
store_parts m m' a v true (Some w) out e =
    let kept = text_kept m.room.held a (index_of a) w (joined a 4 w v) out in
    record { room = (stored_to m a w v).room; rest = cc; text = kept.0; older = kept.1; stack = kept.2 }
store_parts m m' a v true None out e = absurd (cc)
store_parts m m' a v false o out e = absurd (cc)

pub store_keeps : (m m' : Rest) (a v : ℕ) → IsOutsideText a → access.store m a 4 v ≡ Some m' → KeepsText m m'
unfolding access room_access store
store_keeps m m' a v out e = store_parts m m' a v (eqb (a % 4) 0) (present m.room.held a) out e

-- an address of text, and its index
pub record InText (a : ℕ) : Type 0 where
  pub is : IsInText a
  pub index : index_of a ≡ (a - 0x1000) / 4
  pub after : 0x1000 ≤ a

pub text_at : (a : ℕ) → 0x1000 ≤ a → a < 0x0010_0000 → InText a
unfolding region_of index_of
text_at a ge lt =
    let e : ltb a 0x1000 ≡ false = le-ltb a 0x1000 ge in
    let f : ltb a 0x0010_0000 ≡ true = lt-ltb a 0x0010_0000 lt in
    record { is = rw (e, f) refl; index = rw f refl; after = ge }
