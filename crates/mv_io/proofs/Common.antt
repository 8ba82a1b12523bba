-- Lemmas on this crate's words that the crates above share.
use Rattle.std.proofs.Common.{ℕ, ◌≡◌, ◌≤◌, ◌<◌, ◌+◌, ◌^◌, Bool, true, false, List, [], ◌∷◌, ◌++◌, Option, Some, None, refl, sym, ap, ◌∙◌, arith, subst}
use Rattle.std.specs.Prelude.{All, IfSome}
use Rattle.std.proofs.lemmas.List.{append-nil, append_assoc}
use Rattle.std.proofs.lemmas.List.Elements.{All-append, All-nil}
use Rattle.mv_io.specs.Outside.{AreToldBytes, CountAfter, Lost, MayCome, OnInput, Rose}

pub rose_later : (a b c : ℕ) → a ≤ b → Rose b c → Rose a c
rose_later a b c h r = omega arith

-- a count that stands may stand behind each call
pub count_kept : (failed : Bool) (before now : ℕ) → now ≡ before → CountAfter failed before now
count_kept true before now same = omega (arith, same)
count_kept false before now same = same

pub count_since : (failed : Bool) (a b c : ℕ) → b ≡ a → CountAfter failed b c → CountAfter failed a c
count_since failed a b c same h = subst (λ k. CountAfter failed k c) same h

pub rose_since : (a b c : ℕ) → b ≡ a → Rose b c → Rose a c
rose_since a b c same r = subst (λ k. Rose k c) same r

pub count_most : (failed : Bool) (before now : ℕ) → CountAfter failed before now → now ≤ before + 1
count_most true before now h = h
count_most false before now h = omega (arith, h)

-- ---- what is taken of a source

-- nothing was taken
pub lost_none : (left : Option (List ℕ)) → Lost left left []
lost_none None = (All-nil (λ b. b < 2 ^ 8), tt)
lost_none (Some told) = (told, refl, refl)

pub lost_same : (before now : Option (List ℕ)) → now ≡ before → Lost before now []
lost_same before now same = subst (λ (o : Option (List ℕ)). Lost before o []) (sym same) (lost_none before)

-- a source that is at its end gives nothing more
at_end : (rest now : Option (List ℕ)) (taken : List ℕ) → IfSome rest (λ bytes. bytes ≡ []) → Lost rest now taken → All (λ b. b < 2 ^ 8) taken × IfSome now (λ bytes. bytes ≡ [])
at_end None now taken over l = l
at_end (Some bytes) now taken over (rest, is, here) =
    let none : [] ≡ taken ++ rest = sym over ∙ is in
    no_more taken rest now none here
  where
    no_more : (taken rest : List ℕ) (now : Option (List ℕ)) → [] ≡ taken ++ rest → now ≡ Some rest → All (λ b. b < 2 ^ 8) taken × IfSome now (λ bytes. bytes ≡ [])
    no_more [] rest now none here = (All-nil (λ b. b < 2 ^ 8), subst (λ (o : Option (List ℕ)). IfSome o (λ bytes. bytes ≡ [])) (sym here) (sym none))
    no_more (b ∷ taken) rest now none here = cc

-- some bytes and then others
pub lost_both : (before mid now : Option (List ℕ)) (xs ys : List ℕ) → Lost before mid xs → Lost mid now ys → Lost before now (xs ++ ys)
lost_both None mid now xs ys l m =
    let end = at_end mid now ys l.1 m in (All-append (λ b. b < 2 ^ 8) xs ys l.0 end.0, end.1)
lost_both (Some told) mid now xs ys (rest, is, here) m =
    let n : Lost (Some rest) now ys = subst (λ (o : Option (List ℕ)). Lost o now ys) here m in
    (n.0, is ∙ ap (λ (z : List ℕ). xs ++ z) n.1 ∙ sym (append_assoc xs ys n.0), n.2)

-- what may come behind what was taken may come with it
pub may_come : (before now : Option (List ℕ)) (taken later : List ℕ) → Lost before now taken → MayCome now later → MayCome before (taken ++ later)
may_come None None taken later l may = All-append (λ b. b < 2 ^ 8) taken later l.0 may
may_come None (Some rest) taken later l may =
    subst (All (λ b. b < 2 ^ 8)) (sym (ap (λ (z : List ℕ). taken ++ z) (may ∙ l.1) ∙ append-nil taken)) l.0
may_come (Some told) now taken later (rest, is, here) may =
    let same : later ≡ rest = subst (λ (o : Option (List ℕ)). MayCome o later) here may in
    ap (λ (z : List ℕ). taken ++ z) same ∙ sym is

-- something may come
pub some_later : (left : Option (List ℕ)) → (later : List ℕ) × MayCome left later
some_later None = ([], All-nil (λ b. b < 2 ^ 8))
some_later (Some told) = (told, refl)

-- it is bytes, where what is told is
pub are_bytes : (left : Option (List ℕ)) (bytes : List ℕ) → AreToldBytes left → MayCome left bytes → All (λ b. b < 2 ^ 8) bytes
are_bytes None bytes told may = may
are_bytes (Some all) bytes told may = subst (All (λ b. b < 2 ^ 8)) (sym may) told

-- of a source that tells its bytes they are what was taken and the rest
pub of_told : (bytes : List ℕ) (now : Option (List ℕ)) (F : (taken later : List ℕ) → Type 0) → OnInput (Some bytes) now F →
    (taken : List ℕ) × (later : List ℕ) × (bytes ≡ taken ++ later) × F taken later
of_told bytes now F (taken, (rest, is, here), each) = (taken, rest, is, each rest (subst (λ (o : Option (List ℕ)). MayCome o rest) (sym here) refl))
