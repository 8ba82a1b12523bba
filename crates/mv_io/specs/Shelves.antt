-- What a shelf of files holds, loads and saves.
use Rattle.std.specs.Prelude.{ℕ, ◌≡◌, ◌≢◌, Bool, true, false, List, ◌∷◌, Option, Some, None, option_map, Result, Ok, Err, IfOk, Vec, ⊤}
use Rattle.std.specs.declared.alloc.Global.{Global}
use Rattle.mv_io.specs.declared.outside.ShelfError.{ShelfError}
use Rattle.mv_io.specs.declared.outside.ShelfError.TheVariants.{Failed, Memory}

-- the bytes of each name that has a file
abbrev pub Files : Type 0
Files = List ℕ → Option (List ℕ)

-- a shelf that doesn't tell its files
abbrev pub untold : Option Files
untold = None

-- a shelf that doesn't tell which names it was asked for
abbrev pub unasked : Option (List (List ℕ))
unasked = None

-- a load or a save ended by a fault of the outside or, a load, for want of the file
abbrev pub is_fault : {T : Type 0} → Result T ShelfError → Bool
is_fault (Ok given) = false
is_fault (Err Failed) = true
is_fault (Err (Memory e)) = false

-- the names that loads were asked for, the last first, where they are told; this is one more
abbrev pub AsksFor : (before now : Option (List (List ℕ))) → (name : List ℕ) → Type 0
AsksFor before now name = now ≡ option_map (λ names. name ∷ names) before

-- the files are told, and none has this name
abbrev pub Lacks : Option Files → List ℕ → Type 0
Lacks None name = ⊥
Lacks (Some files) name = files name ≡ None

-- what was loaded is the file of this name
abbrev pub Loads : Option Files → List ℕ → Result (Vec ℕ Global) ShelfError → Type 0
Loads None name result = ⊤
Loads (Some files) name result = IfOk result (λ v. files name ≡ Some v.items)

-- each other name has the bytes that it had
abbrev pub KeepsOthers : Files → Files → List ℕ → Type 0
KeepsOthers old now name = (other : List ℕ) → other ≢ name → now other ≡ old other

-- the name has these bytes after success, and its old ones after an error
abbrev pub Puts : Files → Files → List ℕ → List ℕ → Result ⊤ ShelfError → Type 0
Puts old now name bytes (Ok done) = now name ≡ Some bytes
Puts old now name bytes (Err e) = now name ≡ old name

abbrev pub Saves : Option Files → Option Files → List ℕ → List ℕ → Result ⊤ ShelfError → Type 0
Saves None now name bytes result = now ≡ None
Saves (Some old) now name bytes result = (files : Files) × (now ≡ Some files) × (KeepsOthers old files name) × (Puts old files name bytes result)
