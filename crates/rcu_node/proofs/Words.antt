-- Sets of processors in words of 64 bits: the result of a read, and the words after a write.
use Rattle.std.proofs.Common.{◌≡◌, ◌≢◌, ℕ, ◌*◌, ◌+◌, ◌/◌, ◌%◌, ◌^◌, ◌<◌, ◌≤◌, ◌==◌, Bool, true}
use Rattle.std.proofs.Common.{false, List, length, get_or, slice_index, slice_set, replicate}
use Rattle.std.proofs.Common.{bit_and, bit_or, sym, ap, ◌∙◌, arith, inl, inr, lit<}
use Rattle.std.specs.Int.{bit_not, w64}
use Rattle.std.proofs.lemmas.Bool.{cases_eq, cases_lt}
use Rattle.std.proofs.lemmas.Nat.{mod_below, div-add-mod', div_below}
use Rattle.std.proofs.lemmas.List.{get_or_past, get_or-set_same, get_or-set_other, get_or-replicate}
use Rattle.std.proofs.lemmas.List.{get_or_read, length-replicate}
use Rattle.rcu_node.specs.CpuSet.{is_in, size_of}
use Rattle.rcu_node.specs.Words.{flags_in, has_bit, HasNoneFrom}
use Rattle.rcu_node.proofs.Bits.{has_bit_shr, has_bit-zero, has_bit_set_same, has_bit_set_other}
use Rattle.rcu_node.proofs.Bits.{has_bit_clear_same, has_bit_clear_other}
use Rattle.rcu_node.proofs.CpuSetLemmas.{length-listed, listed_set, listed_none, is_in-listed}
use Rattle.rcu_node.proofs.CpuSetLemmas.{size_of-none}

-- a processor's flag in words
abbrev pub flag_in : List ℕ → ℕ → Bool
flag_in words cpu = has_bit (slice_index words (cpu / 64)) (cpu % 64)

-- the bit in a word is below 64
bit_below : (cpu : ℕ) → cpu % 64 < 64
bit_below cpu = mod_below cpu 64 (lit< tt)

-- the word of a processor is there
pub word_below : (cpus cpu words : ℕ) → cpu < cpus → cpus ≤ 64 * words → cpu / 64 < words
word_below cpus cpu words l h = div_below cpu 64 words (lit< tt) (omega arith)

-- two processors in one word have different bits
bits_differ : (a b : ℕ) → a / 64 ≡ b / 64 → a ≢ b → a % 64 ≢ b % 64
bits_differ a b same n e =
    n (sym (div-add-mod' a 64)
    ∙ (ap (λ q. q * 64 + a % 64) same ∙ ap (λ r. b / 64 * 64 + r) e)
    ∙ div-add-mod' b 64)

-- the set has a flag for each processor
pub cpus-is : (cpus : ℕ) (words : List ℕ) (set : List Bool) → flags_in cpus words ≡ set
    → cpus ≡ length set
cpus-is cpus words set e = sym (length-listed cpus (flag_in words)) ∙ ap length e

-- if a word changes at one processor's bit alone, the flags of the others stay
flag_in-set_other : (words : List ℕ) (cpu word k : ℕ) → cpu / 64 < length words → k ≢ cpu
    → ((i : ℕ) → i < 64 → i ≢ cpu % 64 → has_bit word i ≡ has_bit (slice_index words (cpu / 64)) i)
    → flag_in (slice_set words (cpu / 64) word) k ≡ flag_in words k
flag_in-set_other words cpu word k here n h = elim (cases_eq (k / 64) (cpu / 64)) [
  | inl i ↦ rw (i, get_or-set_same words (cpu / 64) word 0 here)
      (h (k % 64) (bit_below k) (bits_differ k cpu i n))
  | inr i ↦ ap (λ v. has_bit v (k % 64)) (get_or-set_other words (cpu / 64) (k / 64) word 0 i)
]

-- a word in which the processor's bit alone is changed
flags_in-set : (cpus : ℕ) (words : List ℕ) (cpu word : ℕ) (flag : Bool)
    → cpu < cpus
    → cpus ≤ 64 * length words
    → has_bit word (cpu % 64) ≡ flag
    → ((i : ℕ) → i < 64 → i ≢ cpu % 64 → has_bit word i ≡ has_bit (slice_index words (cpu / 64)) i)
    → flags_in cpus (slice_set words (cpu / 64) word) ≡ slice_set (flags_in cpus words) cpu flag
flags_in-set cpus words cpu word flag l m e h =
    let here : cpu / 64 < length words = word_below cpus cpu (length words) l m in
    let now : slice_index (slice_set words (cpu / 64) word) (cpu / 64) ≡ word =
    get_or-set_same words (cpu / 64) word 0 here in
    listed_set cpus (flag_in words) (flag_in (slice_set words (cpu / 64) word)) cpu flag l
    (ap (λ v. has_bit v (cpu % 64)) now ∙ e)
    (λ k kl n. flag_in-set_other words cpu word k here n h)

-- if no flag is set from a processor beyond on, that stays
none_beyond-set : (cpus : ℕ) (words : List ℕ) (cpu word : ℕ) → cpu < cpus → cpus ≤ 64 * length words
    → ((i : ℕ) → i < 64 → i ≢ cpu % 64 → has_bit word i ≡ has_bit (slice_index words (cpu / 64)) i)
    → HasNoneFrom cpus words → HasNoneFrom cpus (slice_set words (cpu / 64) word)
none_beyond-set cpus words cpu word l m h none = λ k beyond.
    let another : k ≢ cpu = λ e. (let x : ⊥ = omega arith in x) in
    flag_in-set_other words cpu word k (word_below cpus cpu (length words) l m) another h
    ∙ none k beyond

-- the word that was read
read_is : (cpus : ℕ) (words : List ℕ) (cpu word : ℕ) → cpu < cpus → cpus ≤ 64 * length words
    → word ≡ get_or words (cpu / 64) word → word ≡ slice_index words (cpu / 64)
read_is cpus words cpu word l m r =
    get_or_read words (cpu / 64) word (word_below cpus cpu (length words) l m) r 0

-- the bit that was read shows whether the processor is in the set
pub contains-is : (cpus : ℕ) (words : List ℕ) (set : List Bool) (cpu word : ℕ)
    → flags_in cpus words ≡ set
    → cpu < cpus
    → cpus ≤ 64 * length words
    → word ≡ get_or words (cpu / 64) word
    → (bit_and (word / 2 ^ (cpu % 64)) 1 == 1) ≡ is_in set cpu
contains-is cpus words set cpu word e l m r =
    has_bit_shr word (cpu % 64) ∙ ap (λ v. has_bit v (cpu % 64)) (read_is cpus words cpu word l m r)
    ∙ sym (is_in-listed cpus (flag_in words) cpu l) ∙ ap (λ s. is_in s cpu) e

-- with its bit set the processor is in
pub insert-is : (cpus : ℕ) (words : List ℕ) (set : List Bool) (cpu word : ℕ)
    → flags_in cpus words ≡ set
    → cpu < cpus
    → cpus ≤ 64 * length words
    → word ≡ get_or words (cpu / 64) word
    → flags_in cpus (slice_set words (cpu / 64) (bit_or word (1 * 2 ^ (cpu % 64) % 2 ^ 64)))
    ≡ slice_set set cpu true
insert-is cpus words set cpu word e l m r =
    flags_in-set cpus words cpu (bit_or word (1 * 2 ^ (cpu % 64) % 2 ^ 64)) true l m
    (has_bit_set_same word (cpu % 64) (bit_below cpu))
    (λ i il n.
    has_bit_set_other word (cpu % 64) i (bit_below cpu) n
    ∙ ap (λ v. has_bit v i) (read_is cpus words cpu word l m r))
    ∙ ap (λ s. slice_set s cpu true) e

-- and no bit beyond the set is set
pub none_beyond-insert : (cpus : ℕ) (words : List ℕ) (cpu word : ℕ)
    → cpu < cpus
    → cpus ≤ 64 * length words
    → word ≡ get_or words (cpu / 64) word
    → HasNoneFrom cpus words
    → HasNoneFrom cpus (slice_set words (cpu / 64) (bit_or word (1 * 2 ^ (cpu % 64) % 2 ^ 64)))
none_beyond-insert cpus words cpu word l m r =
    none_beyond-set cpus words cpu (bit_or word (1 * 2 ^ (cpu % 64) % 2 ^ 64)) l m
    (λ i il n.
    has_bit_set_other word (cpu % 64) i (bit_below cpu) n
    ∙ ap (λ v. has_bit v i) (read_is cpus words cpu word l m r))

-- with its bit cleared the processor is out
pub remove-is : (cpus : ℕ) (words : List ℕ) (set : List Bool) (cpu word : ℕ)
    → flags_in cpus words ≡ set
    → cpu < cpus
    → cpus ≤ 64 * length words
    → word ≡ get_or words (cpu / 64) word
    → flags_in cpus
    (slice_set words (cpu / 64) (bit_and word (bit_not w64 (1 * 2 ^ (cpu % 64) % 2 ^ 64))))
    ≡ slice_set set cpu false
remove-is cpus words set cpu word e l m r =
    flags_in-set cpus words cpu (bit_and word (bit_not w64 (1 * 2 ^ (cpu % 64) % 2 ^ 64))) false l m
    (has_bit_clear_same word (cpu % 64) (bit_below cpu))
    (λ i il n.
    has_bit_clear_other word (cpu % 64) i (bit_below cpu) il n
    ∙ ap (λ v. has_bit v i) (read_is cpus words cpu word l m r))
    ∙ ap (λ s. slice_set s cpu false) e

-- and no bit beyond the set is set
pub none_beyond-remove : (cpus : ℕ) (words : List ℕ) (cpu word : ℕ)
    → cpu < cpus
    → cpus ≤ 64 * length words
    → word ≡ get_or words (cpu / 64) word
    → HasNoneFrom cpus words
    → HasNoneFrom cpus
    (slice_set words (cpu / 64) (bit_and word (bit_not w64 (1 * 2 ^ (cpu % 64) % 2 ^ 64))))
none_beyond-remove cpus words cpu word l m r =
    none_beyond-set cpus words cpu (bit_and word (bit_not w64 (1 * 2 ^ (cpu % 64) % 2 ^ 64))) l m
    (λ i il n.
    has_bit_clear_other word (cpu % 64) i (bit_below cpu) il n
    ∙ ap (λ v. has_bit v i) (read_is cpus words cpu word l m r))

-- no bit of a word beyond the last is set
pub flag_in_past : (words : List ℕ) (cpu : ℕ) → length words ≤ cpu / 64 → flag_in words cpu ≡ false
flag_in_past words cpu l =
    ap (λ v. has_bit v (cpu % 64)) (get_or_past words (cpu / 64) 0 l) ∙ has_bit-zero (cpu % 64)

-- no bit is set in words of zeros
none_in_zeros : (n from : ℕ) → HasNoneFrom from (replicate n 0)
none_in_zeros n from = λ i beyond. elim (cases_lt (i / 64) n) [
  | inl l ↦ ap (λ v. has_bit v (i % 64)) (get_or-replicate n (i / 64) 0 0 l) ∙ has_bit-zero (i % 64)
  | inr l ↦ flag_in_past (replicate n 0) i (omega (arith, l, length-replicate {A = ℕ} n 0))
]

-- words of zeros are the empty set
flags_in-zeros : (cpus n : ℕ) → cpus ≤ 64 * n → flags_in cpus (replicate n 0) ≡ replicate cpus false
flags_in-zeros cpus n h =
    listed_none cpus (flag_in (replicate n 0))
    (λ cpu l.
    ap (λ v. has_bit v (cpu % 64)) (get_or-replicate n (cpu / 64) 0 0 (word_below cpus cpu n l h))
    ∙ has_bit-zero (cpu % 64))

-- n words of zeros
pub zeros : (cpus n : ℕ) (words : List ℕ) → words ≡ replicate n 0 → cpus ≤ 64 * n → record {
  length : length words ≡ n;
  flags : flags_in cpus words ≡ replicate cpus false;
  none_beyond : HasNoneFrom cpus words;
  size : size_of (flags_in cpus words) ≡ 0;
}
zeros cpus n words e h =
    let empty = flags_in-zeros cpus n h in
    rw e (record {
      length = length-replicate n 0;
      flags = empty;
      none_beyond = none_in_zeros n cpus;
      size = ap (λ (set : List Bool). size_of set) empty ∙ size_of-none cpus;
    })
