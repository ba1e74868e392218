-- The keys of entries, and the buckets that they belong to.
use Rattle.std.specs.Prelude.{◌≡◌, ℕ, ◌+◌, ◌*◌, ◌/◌, ◌%◌, ◌^◌, ◌<◌, ◌==◌, if◌then◌else◌, List}
use Rattle.std.specs.Prelude.{length, replicate}
use Rattle.std.specs.Prelude.{slice_index, slice_set}

-- the key in a node's words: word 0, which is 0 in a root
abbrev pub key_in : List ℕ → ℕ
key_in words = slice_index words 0

-- the odd number by which a map of this seed multiplies its keys
abbrev pub multiplier_of : ℕ → ℕ
multiplier_of seed = (11400714819323198485 + (seed * 2) % 2 ^ 64) % 2 ^ 64

-- the bucket of a key, out of this number: the key times the map's number, as a share of 2^64
abbrev pub bucket_of : ℕ → ℕ → ℕ → ℕ
bucket_of buckets seed key = (key * seed) % 2 ^ 64 * buckets / 2 ^ 64

-- the words of the root of a bucket: 0, but for the word 1, which is the bucket
abbrev pub root_words : ℕ → ℕ → List ℕ
root_words width bucket = slice_set (replicate width 0) 1 bucket

-- the bucket that a node of these words belongs to
abbrev pub bucket_in : ℕ → ℕ → List ℕ → ℕ
bucket_in buckets seed words =
    if key_in words == 0 then slice_index words 1 else bucket_of buckets seed (key_in words)

-- a node of these words may lead to one of those: of the same bucket, with a greater key
pub record GoesUp (buckets seed : ℕ) (from to : List ℕ) : Type 0 where
  pub up : key_in from < key_in to
  pub same : bucket_in buckets seed from ≡ bucket_in buckets seed to

-- there are this many words, and they are an entry's if they have a key
pub record IsWhole (holds : List ℕ → Type 0) (width : ℕ) (words : List ℕ) : Type 0 where
  pub sized : length words ≡ width
  pub entry : 0 < key_in words → holds words
