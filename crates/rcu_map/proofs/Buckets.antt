-- The keys and the buckets of words.
use Rattle.std.proofs.Common.{◌≡◌, ℕ, ◌*◌, ◌%◌, ◌^◌, ◌<◌, ◌==◌, Bool, false, List, replicate, ap}
use Rattle.std.proofs.Common.{◌∙◌, arith}
use Rattle.std.specs.Prelude.{if◌then◌else◌, slice_index}
use Rattle.std.proofs.lemmas.Bool.Decides.{nat_tests}
use Rattle.std.proofs.lemmas.List.{get_or-set_same}
use Rattle.rcu_map.specs.Keys.{bucket_in, bucket_of, key_in, root_words}
use Rattle.rcu_map.proofs.Rows.{root_key, zeros}

-- a root is of its own bucket
pub root_bucket : (buckets seed width i : ℕ) → 1 < width → bucket_in buckets seed
    (root_words width i) ≡ i
root_bucket buckets seed width i room =
    let many = zeros width in
    ap (λ (k : ℕ). if k == 0 then slice_index (root_words width i) 1 else bucket_of buckets seed k)
    (root_key width i)
    ∙ get_or-set_same (replicate width 0) 1 i 0 (omega (arith, room, many))

no_root : (key : ℕ) → 0 < key → (key == 0) ≡ false
no_root key up = grind (arith, nat_tests)

-- an entry is of the bucket of its key
pub entry_bucket : (buckets seed key : ℕ) (words : List ℕ) → 0 < key → key_in words ≡ key
    → bucket_in buckets seed words ≡ bucket_of buckets seed key
entry_bucket buckets seed key words up is =
    ap (λ (k : ℕ). if k == 0 then slice_index words 1 else bucket_of buckets seed k) is
    ∙ ap (λ (b : Bool). if b then slice_index words 1 else bucket_of buckets seed key)
    (no_root key up)

-- a share of this number is less
share : (x n : ℕ) → x < 2 ^ 64 → 0 < n → x * n < 2 ^ 64 * n
share x n low some = grind (arith, low, some)

-- a key's bucket is one of the buckets
pub bucket_inside : (buckets seed key : ℕ) → 0 < buckets → bucket_of buckets seed key < buckets
bucket_inside buckets seed key some =
    let x = (key * seed) % 2 ^ 64 in
    let low : x < 2 ^ 64 = omega arith in
    let less = share x buckets low some in
    omega (arith, less)
