-- Sets of processors put together by words.
use Rattle.std.proofs.Common.{◌≡◌, ℕ, ◌*◌, ◌/◌, ◌%◌, ◌<◌, ◌≤◌, ◌||◌, Bool, List, ◌++◌, length, take}
use Rattle.std.proofs.Common.{drop, slice_index, bit_or, sym, ap, ◌∙◌, arith, inl, inr}
use Rattle.std.proofs.lemmas.Bool.{cases_lt}
use Rattle.std.proofs.lemmas.List.{take-append-le, take_all}
use Rattle.rcu_node.specs.CpuSet.{is_in, size_of, union}
use Rattle.rcu_node.specs.Words.{flags_in, has_bit, HasNoneFrom}
use Rattle.rcu_node.proofs.Bits.{has_bit_or}
use Rattle.rcu_node.proofs.CpuSetLemmas.{length-listed, is_in-listed, listed_same}
use Rattle.rcu_node.proofs.Ones.{size_of-listed_rest}
use Rattle.rcu_node.proofs.Words.{flag_in, flag_in_past, cpus-is}

-- the new words are those of two sets together, word by word
pub record AreMerged (words others new : List ℕ) : Type 0 where
  pub alike : length others ≡ length words
  pub sized : length new ≡ length words
  pub merged : (place : ℕ) → place < length words
      → slice_index new place ≡ bit_or (slice_index words place) (slice_index others place)

-- a flag of words put together is one of either
flag_in-merged : (words others new : List ℕ) (cpu : ℕ) → AreMerged words others new
    → flag_in new cpu ≡ (flag_in words cpu || flag_in others cpu)
flag_in-merged words others new cpu h = elim (cases_lt (cpu / 64) (length words)) [
  | inl l ↦ ap (λ word. has_bit word (cpu % 64)) (h.merged (cpu / 64) l)
      ∙ has_bit_or (slice_index words (cpu / 64)) (slice_index others (cpu / 64)) (cpu % 64)
  | inr l ↦ (let first = flag_in_past words cpu l in
      let second = flag_in_past others cpu (omega (arith, l, h.alike)) in
      rw (first, second) (flag_in_past new cpu (omega (arith, l, h.sized))))
]

-- words put together are the sets put together
pub union-is : (cpus : ℕ) (words others new : List ℕ) (set other : List Bool)
    → flags_in cpus words ≡ set → flags_in cpus others ≡ other → AreMerged words others new
    → flags_in cpus new ≡ union set other
union-is cpus words others new set other e f h =
    let size = cpus-is cpus words set e in
    let both = λ (cpu : ℕ). is_in set cpu || is_in other cpu in
    listed_same cpus (flag_in new) (union set other) (length-listed (length set) both ∙ sym size)
    (λ cpu l.
    let first =
    sym (is_in-listed cpus (flag_in words) cpu l) ∙ ap (λ (s : List Bool). is_in s cpu) e in
    let second =
    sym (is_in-listed cpus (flag_in others) cpu l) ∙ ap (λ (s : List Bool). is_in s cpu) f in
    flag_in-merged words others new cpu h
    ∙ rw (first, second) (sym (is_in-listed (length set) both cpu (omega (arith, l, size)))))

-- and no bit beyond the set is set
pub none_beyond-merged : (cpus : ℕ) (words others new : List ℕ)
    → HasNoneFrom cpus words → HasNoneFrom cpus others → AreMerged words others new
    → HasNoneFrom cpus new
none_beyond-merged cpus words others new none neither h = λ i beyond.
    let first = none i beyond in
    let second = neither i beyond in
    flag_in-merged words others new i h ∙ rw (first, second)

-- all set bits of words are those of the set
pub count-is : (cpus : ℕ) (words : List ℕ) → cpus ≤ 64 * length words → HasNoneFrom cpus words
    → size_of (flags_in (64 * length words) words) ≡ size_of (flags_in cpus words)
count-is cpus words l none = size_of-listed_rest cpus (64 * length words) (flag_in words) l none

-- merged words that are written back into a vector of as many
pub written_merged : (n : ℕ) (words others new items stored : List ℕ) → length others ≡ length words
    → length new ≡ length words → length words ≡ n
    → ((place : ℕ) → place < length words → slice_index new place
    ≡ bit_or (slice_index words place) (slice_index others place))
    → stored ≡ take n (new ++ drop (length new) items) → AreMerged words others stored
written_merged n words others new items stored alike sized long merged e =
    let all : stored ≡ new =
    e ∙ take-append-le n new (drop (length new) items) (omega (arith, sized, long))
    ∙ take_all n new (omega (arith, sized, long)) in
    rw all (record { alike = alike; sized = sized; merged = merged })
