-- Sets of processors, as lists of flags: the processor c is in the set if flag c, counted from 0,
-- is true.
use Rattle.std.specs.Prelude.{ℕ, ◌≡◌, ◌⊎◌, ◌<◌, ◌≤◌, Bool, false, not, ◌&&◌, ◌||◌, List, length}
use Rattle.std.specs.Prelude.{map, count_by, slice_index_or}
use Rattle.std.specs.List.{range_with_len}
use Rattle.rcu_seq.specs.declared.fault.Fault.{Fault}
use Rattle.rcu_seq.specs.declared.fault.Fault.TheVariants.{NoMemory, TooManyCpus}

-- the processor is in the set
abbrev pub is_in : List Bool → ℕ → Bool
is_in set cpu = slice_index_or set cpu false

-- how many processors are in the set
abbrev pub size_of : List Bool → ℕ
size_of set = count_by (λ flag. flag) set

-- the processors below n that pass a test
unfoldable pub listed : ℕ → (ℕ → Bool) → List Bool
listed n test = map test (range_with_len 0 n)

-- the processors in one of two sets or in both
abbrev pub union : List Bool → List Bool → List Bool
union a b = listed (length a) (λ cpu. is_in a cpu || is_in b cpu)

-- the processors in both of two sets
abbrev pub intersection : List Bool → List Bool → List Bool
intersection a b = listed (length a) (λ cpu. is_in a cpu && is_in b cpu)

-- the processors of a set that were not heard
abbrev pub unheard : List Bool → (ℕ → Bool) → List Bool
unheard set heard = listed (length set) (λ cpu. is_in set cpu && not (heard cpu))

-- the fault if a set of this number of processors is not made: the number is 0 or above 4,096; else
-- memory was refused
abbrev pub IsSetFault : ℕ → Fault → Type 0
IsSetFault cpus fault =
    ((fault ≡ TooManyCpus) × ((cpus ≡ 0) ⊎ (4096 < cpus)))
    ⊎ ((fault ≡ NoMemory) × (0 < cpus) × (cpus ≤ 4096))
