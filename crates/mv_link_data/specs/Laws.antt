-- What holds of the first words of data.
use Rattle.std.specs.Prelude.{ℕ, ◌<◌, ◌≤◌, ◌≡◌, Some, List, length, map, sum, take, drop, slice_get, All}
use Rattle.std.specs.List.{flat_map}
use Rattle.mv_ast.specs.declared.program.CType.{CType}
use Rattle.mv_ast.specs.declared.program.CType.TheVariants.{Void, Scalar, Pointer}
use Rattle.mv_ast.specs.declared.program.Program.{Program}
use Rattle.mv_ast.specs.declared.program.Global.{Global}
use Rattle.mv_ast.specs.Counts.{words_of_size}
use Rattle.mv_ast.specs.Starts.{first_words_under}
use Rattle.mv_linker.specs.Linked.{IsDatum}
use Rattle.mv_linker.specs.Outcome.{datum_word}
use Rattle.mv_link_data.specs.FirstData.{global_data, first_data, global_sizes, data_words}

-- a first value of a type among so many functions: a function pointer is 0, or one more than the number of one of them
abbrev pub IsFirstValueAmong : (functions : ℕ) → CType → ℕ → Type 0
IsFirstValueAmong functions Void v = Unit {0}
IsFirstValueAmong functions (Scalar kind) v = Unit {0}
IsFirstValueAmong functions (Pointer signature) v = v ≤ functions

-- the function pointers among a program's first values are null or lead to its functions
abbrev pub HasFirstValues : Program → Type 0
HasFirstValues p = All (λ (g : Global). All (IsFirstValueAmong (length p.functions) g.ctype) g.first) p.globals

-- no global is given more values than it has words
abbrev pub HasRoom : Program → Type 0
HasRoom p = All (λ (g : Global). length g.first ≤ words_of_size g.size) p.globals

-- a list has the address of each of so many functions
abbrev pub AreAddresses : (functions : ℕ) → (address : ℕ → ℕ) → List ℕ → Type 0
AreAddresses functions address numbers = (f : ℕ) → f < functions → slice_get numbers f ≡ Some (address f)

-- Where functions have addresses, the data are the first words of all globals with them for function pointers, one global behind the other.
abbrev pub WordsAreFirst : Type 0
WordsAreFirst =
    (p : Program) (address : ℕ → ℕ) (numbers : List ℕ) → HasFirstValues p → AreAddresses (length p.functions) address numbers →
    map (datum_word address) (first_data p) ≡ flat_map (λ words. words) (map (first_words_under numbers) p.globals)

-- there are as many words as all globals have
abbrev pub CountIsSum : Type 0
CountIsSum = (p : Program) → HasRoom p → length (first_data p) ≡ data_words p

-- the words of a global begin behind those of the globals before it
abbrev pub PlacesAreSums : Type 0
PlacesAreSums =
    (p : Program) → HasRoom p → (n : ℕ) (g : Global) → slice_get p.globals n ≡ Some g →
    take (words_of_size g.size) (drop (sum (take n (global_sizes p))) (first_data p)) ≡ global_data g

-- with addresses for function pointers, each global has as many first words as its size says
abbrev pub SizesAreCounts : Type 0
SizesAreCounts = (p : Program) (numbers : List ℕ) → HasRoom p → map length (map (first_words_under numbers) p.globals) ≡ global_sizes p

-- the functions that data names are functions of the program
abbrev pub FunctionsAreThere : Type 0
FunctionsAreThere = (p : Program) → HasFirstValues p → All (IsDatum (length p.functions)) (first_data p)
