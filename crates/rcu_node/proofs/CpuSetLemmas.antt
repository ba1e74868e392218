-- Sets of processors as flags, for proofs about them: listed sets, empty sets, the effect of one
-- write, sizes, intersections and unions, and equal sets.
use Rattle.std.proofs.Common.{◌≡◌, ◌≢◌, ℕ, zero, suc, ◌+◌, ◌<◌, ◌≤◌, ◌==◌, ◌&&◌, ◌||◌, Bool, true}
use Rattle.std.proofs.Common.{false, not, cond, if◌then◌else◌, nat_lt, List, [], ◌∷◌, length}
use Rattle.std.proofs.Common.{slice_set, replicate, refl, sym, ◌∙◌, arith, ap, inl, inr}
use Rattle.std.specs.Bool.{Decides, beq}
use Rattle.std.specs.Cmp.{booleans_Decides}
use Rattle.std.specs.List.{range_with_len}
use Rattle.std.specs.Prelude.{count_by}
use Rattle.std.proofs.Math.Bool.{and-true, and-false}
use Rattle.std.proofs.lemmas.Bool.{and_right, cases_Bool, cases_eq, cases_lt, true≢false}
use Rattle.std.proofs.lemmas.Bool.Decides.{nat_tests}
use Rattle.std.proofs.lemmas.List.{get_or_past, get_or-set_same, get_or-set_other, length-set}
use Rattle.std.proofs.lemmas.List.{ext_get_or, get_or-replicate, length-replicate}
use Rattle.std.proofs.lemmas.List.Folds.{sum_by-replicate}
use Rattle.std.proofs.lemmas.List.FromFn.{fill_by_all, length-map-range_with_len}
use Rattle.std.proofs.lemmas.List.FromFn.{get_or-map-range_with_len}
use Rattle.std.proofs.lemmas.List.Sums.{sum_by-set, count_by-le-length}
use Rattle.std.proofs.lemmas.Slice.Eq.{slice_eq-Decides}
use Rattle.rcu_node.specs.CpuSet.{listed, intersection, is_in, size_of, unheard}
use Rattle.rcu_node.specs.Merging.{same_set}
use Rattle.rcu_node.proofs.RangeLemmas.{count_by-map}

-- ---- flags

-- no processor beyond its flags is in a set
pub is_in-beyond : (set : List Bool) (cpu : ℕ) → length set ≤ cpu → is_in set cpu ≡ false
is_in-beyond set cpu l = get_or_past set cpu false l

-- sets with as many flags that have the same processors are equal
pub same_from_flags : (a b : List Bool)
    → length a ≡ length b → ((cpu : ℕ) → is_in a cpu ≡ is_in b cpu) → a ≡ b
same_from_flags a b e h = ext_get_or false a b e (λ cpu l. h cpu)

-- ---- listed sets

-- a listed set has a flag for each processor
pub length-listed : (n : ℕ) (test : ℕ → Bool) → length (listed n test) ≡ n
unfolding listed
length-listed n test = length-map-range_with_len test 0 n

-- its flags are the test's
pub is_in-listed : (n : ℕ) (test : ℕ → Bool) (cpu : ℕ) → cpu < n
    → is_in (listed n test) cpu ≡ test cpu
unfolding listed
is_in-listed n test cpu l = get_or-map-range_with_len test 0 n cpu cpu false l (omega arith)

-- a processor is in it if it is below the number and passes
pub is_in-listed_any : (n : ℕ) (test : ℕ → Bool) (cpu : ℕ)
    → is_in (listed n test) cpu ≡ (nat_lt cpu n && test cpu)
is_in-listed_any n test cpu = elim (cases_lt cpu n) [
  | inl l ↦ is_in-listed n test cpu l ∙ grind (arith, nat_tests, l)
  | inr l ↦
      is_in-beyond (listed n test) cpu (omega (arith, l, length-listed n test))
      ∙ grind (arith, nat_tests, l)
]

-- so if only processors of a set pass, all that pass are in
pub is_in-listed_within : (set : List Bool) (test : ℕ → Bool) (cpu : ℕ)
    → (is_in set cpu ≡ false → test cpu ≡ false) → is_in (listed (length set) test) cpu ≡ test cpu
is_in-listed_within set test cpu none = elim (cases_lt cpu (length set)) [
  | inl l ↦ is_in-listed (length set) test cpu l
  | inr l ↦
      is_in-beyond (listed (length set) test) cpu
      (omega (arith, l, length-listed (length set) test))
      ∙ sym (none (is_in-beyond set cpu l))
]

-- it is the list that has those flags
pub listed_same : (n : ℕ) (test : ℕ → Bool) (set : List Bool) → length set ≡ n
    → ((cpu : ℕ) → cpu < n → test cpu ≡ is_in set cpu) → listed n test ≡ set
listed_same n test set e h =
    ext_get_or false (listed n test) set (length-listed n test ∙ sym e)
    (λ cpu l.
    let m : cpu < n = omega (arith, length-listed n test) in is_in-listed n test cpu m ∙ h cpu m)

-- two tests that differ at one processor alone list sets that differ in its flag
pub listed_set : (n : ℕ) (test changed : ℕ → Bool) (cpu : ℕ) (flag : Bool)
    → cpu < n → changed cpu ≡ flag → ((k : ℕ) → k < n → k ≢ cpu → changed k ≡ test k)
    → listed n changed ≡ slice_set (listed n test) cpu flag
listed_set n test changed cpu flag l e h =
    listed_same n changed (slice_set (listed n test) cpu flag)
    (length-set (listed n test) cpu flag ∙ length-listed n test)
    (λ k m. elim (cases_eq k cpu) [
      | inl i ↦ rw i (e ∙ sym (get_or-set_same (listed n test) cpu flag false (rw length-listed l)))
      | inr i ↦
          h k m i
          ∙ sym (is_in-listed n test k m)
          ∙ sym (get_or-set_other (listed n test) cpu k flag false i)
    ])

-- a test that none passes lists the empty set
pub listed_none : (n : ℕ) (test : ℕ → Bool) → ((cpu : ℕ) → cpu < n → test cpu ≡ false)
    → listed n test ≡ replicate n false
listed_none n test h =
    listed_same n test (replicate n false) (length-replicate n false)
    (λ cpu l. h cpu l ∙ sym (get_or-replicate n cpu false false l))

-- the flag of the first, before the others
pub listed_first : (n : ℕ) (test : ℕ → Bool)
    → listed (suc n) test ≡ test 0 ∷ listed n (λ cpu. test (suc cpu))
listed_first n test =
    let long = ap suc (length-listed n (λ cpu. test (suc cpu))) in
    listed_same (suc n) test (test 0 ∷ listed n (λ cpu. test (suc cpu))) long (flag n test)
  where
    flag : (n : ℕ) (test : ℕ → Bool) (cpu : ℕ) → cpu < suc n
        → test cpu ≡ is_in (test 0 ∷ listed n (λ k. test (suc k))) cpu
    flag n test zero l = refl
    flag n test (suc cpu) l = sym (is_in-listed n (λ k. test (suc k)) cpu (omega arith))

-- ---- empty sets

-- no processor is in the empty set
pub in_none : (n cpu : ℕ) → is_in (replicate n false) cpu ≡ false
in_none n cpu = elim (cases_lt cpu n) [
  | inl l ↦ get_or-replicate n cpu false false l
  | inr l ↦ is_in-beyond (replicate n false) cpu (omega (arith, l, length-replicate n false))
]

-- a set without a processor is the empty one
pub is_none : (set : List Bool) → ((cpu : ℕ) → is_in set cpu ≡ false)
    → set ≡ replicate (length set) false
is_none set none =
    same_from_flags set (replicate (length set) false) (sym (length-replicate (length set) false))
    (λ cpu. none cpu ∙ sym (in_none (length set) cpu))

-- no processor is in a part of the empty set
pub none_within : (part set : List Bool) (n : ℕ)
    → set ≡ replicate n false
    → ((cpu : ℕ) → is_in part cpu ≡ true → is_in set cpu ≡ true)
    → (cpu : ℕ)
    → is_in part cpu ≡ false
none_within part set n e h cpu = elim (cases_Bool (is_in part cpu)) [
  | inl there ↦
      absurd
      (true≢false (sym (h cpu there) ∙ ap (λ (s : List Bool). is_in s cpu) e ∙ in_none n cpu))
  | inr out ↦ out
]

-- ---- one write

-- a processor is removed, whether it was in or not
pub is_in-remove : (set : List Bool) (cpu k : ℕ)
    → is_in (slice_set set cpu false) k ≡ (is_in set k && not (cpu == k))
is_in-remove [] cpu k = refl
is_in-remove (x ∷ xs) zero zero = sym (and_right x false refl)
is_in-remove (x ∷ xs) zero (suc k) = grind (arith, nat_tests)
is_in-remove (x ∷ xs) (suc cpu) zero = grind (arith, nat_tests)
is_in-remove (x ∷ xs) (suc cpu) (suc k) = is_in-remove xs cpu k ∙ grind (arith, nat_tests)

-- the same under a test
pub is_in-remove_where : (found : Bool) (set : List Bool) (cpu k : ℕ)
    → is_in (if found then slice_set set cpu false else set) k
    ≡ (is_in set k && not (cpu == k && found))
is_in-remove_where true set cpu k =
    is_in-remove set cpu k ∙ ap (λ b. is_in set k && not b) (sym (and-true (cpu == k)))
is_in-remove_where false set cpu k =
    sym (and-true (is_in set k)) ∙ ap (λ b. is_in set k && not b) (sym (and-false (cpu == k)))

-- and there is still a flag for each
pub length-remove_where : (found : Bool) (set : List Bool) (cpu : ℕ)
    → length (if found then slice_set set cpu false else set) ≡ length set
length-remove_where true set cpu = length-set set cpu false
length-remove_where false set cpu = refl

-- a processor is put in
pub is_in-insert : (set : List Bool) (cpu k : ℕ) → cpu < length set
    → is_in (slice_set set cpu true) k ≡ (cpu == k || is_in set k)
is_in-insert set cpu k l = elim (cases_eq k cpu) [
  | inl e ↦ rw (e, get_or-set_same set cpu true false l) (grind (arith, nat_tests))
  | inr n ↦ rw (get_or-set_other set cpu k true false n) (grind (arith, nat_tests, n))
]

-- ---- how many are in

-- the empty set has size 0
pub size_of-none : (n : ℕ) → size_of (replicate n false) ≡ 0
size_of-none n = sum_by-replicate (λ (flag : Bool). cond flag 1 0) n false ∙ omega arith

-- no flag, no processor
pub none_listed : (test : ℕ → Bool) → size_of (listed 0 test) ≡ 0
none_listed test =
    ap (λ (set : List Bool). size_of set) (listed_none 0 test (λ i l. absurd (omega (arith, l))))
    ∙ size_of-none 0

-- a new processor adds one to the size
pub size_of-insert : (set : List Bool) (cpu : ℕ) → cpu < length set → is_in set cpu ≡ false
    → size_of (slice_set set cpu true) ≡ size_of set + 1
size_of-insert set cpu l e =
    let written = sum_by-set (λ (flag : Bool). cond flag 1 0) set cpu true false l in
    let before : ◌≡◌ {A = ℕ} (cond (is_in set cpu) 1 0) 0 = rw e in
    omega (arith, written, before)

-- removing a processor that was in takes one from the size
pub size_of-remove : (set : List Bool) (cpu : ℕ) → cpu < length set → is_in set cpu ≡ true
    → size_of (slice_set set cpu false) + 1 ≡ size_of set
size_of-remove set cpu l e =
    let written = sum_by-set (λ (flag : Bool). cond flag 1 0) set cpu false false l in
    let before : ◌≡◌ {A = ℕ} (cond (is_in set cpu) 1 0) 1 = rw e in
    omega (arith, written, before)

-- no set has more processors than flags
pub size_of-within : (set : List Bool) → size_of set ≤ length set
size_of-within set = count_by-le-length (λ flag. flag) set

-- a set without a processor has size 0
pub size_of-empty : (set : List Bool) → ((cpu : ℕ) → cpu < length set → is_in set cpu ≡ false)
    → size_of set ≡ 0
size_of-empty set h =
    let none = is_none set (λ cpu. elim (cases_lt cpu (length set)) [
      | inl l ↦ h cpu l
      | inr l ↦ is_in-beyond set cpu l
    ]) in
    ap (λ (s : List Bool). size_of s) none ∙ size_of-none (length set)

-- a set with a processor in it has some
pub size_of-some : (set : List Bool) (cpu : ℕ) → cpu < length set → is_in set cpu ≡ true
    → 0 < size_of set
size_of-some set cpu l e = omega (arith, size_of-remove set cpu l e)

-- and a set of size 0 has no processor
pub nobody_in : (set : List Bool) → size_of set ≡ 0 → (cpu : ℕ) → is_in set cpu ≡ false
nobody_in set e cpu = elim (cases_lt cpu (length set)) [
  | inl l ↦ elim (cases_Bool (is_in set cpu)) [
    | inl there ↦ absurd (omega (arith, e, size_of-some set cpu l there))
    | inr out ↦ out
  ]
  | inr l ↦ is_in-beyond set cpu l
]

-- a set has as many processors as pass its test
pub count_by-is_in : (set : List Bool) (n : ℕ) → n ≡ length set
    → count_by (is_in set) (range_with_len 0 n) ≡ size_of set
count_by-is_in set n e =
    sym (count_by-map (λ flag. flag) (is_in set) (range_with_len 0 n))
    ∙ ap (λ (flags : List Bool). size_of flags)
    (sym (fill_by_all (is_in set) set n false (sym e) (λ k lt. refl)))

-- ---- sets put together

-- there are as many flags as in the first set
pub length-intersection : (a b : List Bool) → length (intersection a b) ≡ length a
length-intersection a b = length-listed (length a) (λ cpu. is_in a cpu && is_in b cpu)

-- a processor is in an intersection if it is in both
pub is_in-intersection : (a b : List Bool) (cpu : ℕ)
    → is_in (intersection a b) cpu ≡ (is_in a cpu && is_in b cpu)
is_in-intersection a b cpu =
    is_in-listed_within a (λ k. is_in a k && is_in b k) cpu (λ e. rw e refl)

-- there are as many flags as in the set
pub length-unheard : (set : List Bool) (heard : ℕ → Bool) → length (unheard set heard) ≡ length set
length-unheard set heard = length-listed (length set) (λ cpu. is_in set cpu && not (heard cpu))

-- a processor is unheard if it is in the set and was not heard
pub is_in-unheard : (set : List Bool) (heard : ℕ → Bool) (cpu : ℕ)
    → is_in (unheard set heard) cpu ≡ (is_in set cpu && not (heard cpu))
is_in-unheard set heard cpu =
    is_in-listed_within set (λ k. is_in set k && not (heard k)) cpu (λ e. rw e refl)

-- ---- equal sets

-- the test of two sets decides whether they are equal
pub same_set-Decides : (a b : List Bool) → Decides (same_set a b) (a ≡ b)
same_set-Decides a b = slice_eq-Decides booleans_Decides a b (same_set a b) refl

-- sets of as many flags in which all agree are the same
pub same_when_all_agree : (a b : List Bool) → length a ≡ length b
    → ((cpu : ℕ) → cpu < length a → is_in a cpu ≡ is_in b cpu) → same_set a b ≡ true
same_when_all_agree a b e h = (same_set-Decides a b).1 (ext_get_or false a b e h)

-- sets that differ in the flag of a processor are not the same
pub other_where_one_differs : (a b : List Bool) (cpu : ℕ) (x y : Bool)
    → x ≡ is_in a cpu → y ≡ is_in b cpu → not (beq x y) ≡ true → same_set a b ≡ false
other_where_one_differs a b cpu x y e f n = elim (cases_Bool (same_set a b)) [
  | inl same ↦
      (let agree =
      e ∙ ap (λ (s : List Bool). is_in s cpu) ((same_set-Decides a b).0 same) ∙ sym f in
      let yes = (booleans_Decides x y).1 agree in
      absurd (let never : ⊥ = cc in never))
  | inr other ↦ other
]
