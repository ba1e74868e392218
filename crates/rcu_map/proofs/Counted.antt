-- The number of entries if the state of one node changes, and if none does.
use Rattle.std.proofs.Common.{◌≡◌, ◌≢◌, ℕ, zero, suc, ◌+◌, ◌-◌, ◌<◌, ◌≤◌, Bool, true, false, List}
use Rattle.std.proofs.Common.{[], ◌∷◌, length, drop, refl, sym, ap, ◌∙◌, arith}
use Rattle.std.proofs.lemmas.List.{get_or-drop, length-drop}
use Rattle.std.proofs.lemmas.List.Sums.{sum_by-cons}
use Rattle.rcu_graph.specs.Counts.{one_if}
use Rattle.rcu_graph.specs.Nodes.{is_live, no_node, state_at}
use Rattle.rcu_graph.specs.Collecting.{live_in}
use Rattle.rcu_graph.specs.declared.known.Node.{Node}
use Rattle.rcu_graph.proofs.Tending.{live_in-le}
use Rattle.rcu_graph.proofs.Counting.{live_inside}
use Rattle.rcu_map.specs.Entries.{IsEntry, entries_in}

-- whether the node i is live
abbrev live_at : List Node → ℕ → Bool
live_at nodes i = is_live (state_at nodes i)

live_in-cons : (v : Node) (nodes : List Node)
    → live_in (v ∷ nodes) ≡ one_if (is_live v.state) + live_in nodes
live_in-cons v nodes = sum_by-cons (λ (x : Node). one_if (is_live x.state)) v nodes

none_live : (nodes : List Node) → ((i : ℕ) → i < length nodes → live_at nodes i ≡ false)
    → live_in nodes ≡ 0
none_live [] none = refl
none_live (v ∷ nodes) none =
    let a = live_in-cons v nodes in
    let b : one_if (is_live v.state) ≡ 0 = ap one_if (none 0 (omega arith)) in
    let d = none_live nodes (λ i low. none (suc i) (omega (arith, low))) in
    omega (arith, a, b, d)

as_many_live : (xs ys : List Node) → length ys ≡ length xs → ((i : ℕ) → live_at ys i ≡ live_at xs i)
    → live_in ys ≡ live_in xs
as_many_live [] [] few same = refl
as_many_live [] (w ∷ ys) few same = absurd (omega (arith, few))
as_many_live (v ∷ xs) [] few same = absurd (omega (arith, few))
as_many_live (v ∷ xs) (w ∷ ys) few same =
    let a = live_in-cons v xs in
    let b = live_in-cons w ys in
    let d : one_if (is_live w.state) ≡ one_if (is_live v.state) = ap one_if (same 0) in
    let e = as_many_live xs ys (omega (arith, few)) (λ i. same (suc i)) in
    omega (arith, a, b, d, e)

one_more_live : (xs ys : List Node) (i : ℕ)
    → length ys ≡ length xs
    → i < length xs
    → live_at xs i ≡ false
    → live_at ys i ≡ true
    → ((j : ℕ) → j ≢ i → live_at ys j ≡ live_at xs j)
    → live_in ys ≡ live_in xs + 1
one_more_live [] ys i few low off on same = absurd (omega (arith, low))
one_more_live (v ∷ xs) [] i few low off on same = absurd (omega (arith, few))
one_more_live (v ∷ xs) (w ∷ ys) zero few low off on same =
    let a = live_in-cons v xs in
    let b = live_in-cons w ys in
    let d : one_if (is_live v.state) ≡ 0 = ap one_if off in
    let e : one_if (is_live w.state) ≡ 1 = ap one_if on in
    let f = as_many_live xs ys (omega (arith, few)) (λ j. same (suc j) (λ is. omega (arith, is))) in
    omega (arith, a, b, d, e, f)
one_more_live (v ∷ xs) (w ∷ ys) (suc i) few low off on same =
    let a = live_in-cons v xs in
    let b = live_in-cons w ys in
    let d : one_if (is_live w.state) ≡ one_if (is_live v.state) =
    ap one_if (same 0 (λ is. omega (arith, is))) in
    let f = one_more_live xs ys i (omega (arith, few)) (omega (arith, low)) off on
    (λ j ne. same (suc j) (λ is. ne (omega (arith, is)))) in
    omega (arith, a, b, d, f)

-- of the nodes behind the roots
behind : (buckets : ℕ) (nodes : List Node) (i : ℕ)
    → live_at (drop buckets nodes) i ≡ live_at nodes (buckets + i)
behind buckets nodes i = ap (λ (v : Node). is_live v.state) (get_or-drop buckets nodes i no_node)

few_behind : (buckets : ℕ) (xs ys : List Node) → length ys ≡ length xs
    → length (drop buckets ys) ≡ length (drop buckets xs)
few_behind buckets xs ys few =
    let a = length-drop buckets xs in let b = length-drop buckets ys in omega (arith, a, b, few)

pub no_entries : (buckets : ℕ) (nodes : List Node)
    → ((i : ℕ) → buckets ≤ i → i < length nodes → is_live (state_at nodes i) ≡ false)
    → entries_in buckets nodes ≡ 0
no_entries buckets nodes none = none_live (drop buckets nodes)
    (λ i low.
    let long = length-drop buckets nodes in
    behind buckets nodes i ∙ none (buckets + i) (omega arith) (omega (arith, low, long)))

pub as_many_entries : (buckets : ℕ) (xs ys : List Node)
    → length ys ≡ length xs → ((i : ℕ) → is_live (state_at ys i) ≡ is_live (state_at xs i))
    → entries_in buckets ys ≡ entries_in buckets xs
as_many_entries buckets xs ys few same =
    as_many_live (drop buckets xs) (drop buckets ys) (few_behind buckets xs ys few)
    (λ i. behind buckets ys i ∙ (same (buckets + i) ∙ sym (behind buckets xs i)))

pub one_entry_more : (buckets : ℕ) (xs ys : List Node) (i : ℕ)
    → length ys ≡ length xs
    → buckets ≤ i
    → i < length xs
    → is_live (state_at xs i) ≡ false
    → is_live (state_at ys i) ≡ true
    → ((j : ℕ) → j ≢ i → is_live (state_at ys j) ≡ is_live (state_at xs j))
    → entries_in buckets ys ≡ entries_in buckets xs + 1
one_entry_more buckets xs ys i few past low off on same =
    let long = length-drop buckets xs in
    let back : buckets + (i - buckets) ≡ i = omega (arith, past) in
    one_more_live (drop buckets xs) (drop buckets ys) (i - buckets) (few_behind buckets xs ys few)
    (omega (arith, low, long, past))
    (behind buckets xs (i - buckets) ∙ (ap (λ (n : ℕ). is_live (state_at xs n)) back ∙ off))
    (behind buckets ys (i - buckets) ∙ (ap (λ (n : ℕ). is_live (state_at ys n)) back ∙ on))
    (λ j ne.
    behind buckets ys j
    ∙ (same (buckets + j) (λ is. ne (omega (arith, is, past))) ∙ sym (behind buckets xs j)))

one_live : (nodes : List Node) (i : ℕ) → i < length nodes → live_at nodes i ≡ true
    → 0 < live_in nodes
one_live [] i low live = absurd (omega (arith, low))
one_live (v ∷ nodes) zero low live =
    let a = live_in-cons v nodes in
    let b : one_if (is_live v.state) ≡ 1 = ap one_if live in
    omega (arith, a, b)
one_live (v ∷ nodes) (suc i) low live =
    let a = live_in-cons v nodes in
    let d = one_live nodes i (omega (arith, low)) live in
    omega (arith, a, d)

-- if there is an entry, the number is not 0
pub some_entries : (buckets : ℕ) (nodes : List Node) (i : ℕ) → IsEntry buckets nodes i
    → 0 < entries_in buckets nodes
some_entries buckets nodes i entry =
    let past = entry.behind in
    let low = live_inside nodes i entry.live in
    let long = length-drop buckets nodes in
    let back : buckets + (i - buckets) ≡ i = omega (arith, past) in
    one_live (drop buckets nodes) (i - buckets) (omega (arith, past, low, long))
    (behind buckets nodes (i - buckets)
    ∙ (ap (λ (n : ℕ). is_live (state_at nodes n)) back ∙ ap is_live entry.live))

-- no more entries than nodes
pub entries_few : (buckets : ℕ) (nodes : List Node) → entries_in buckets nodes ≤ length nodes
entries_few buckets nodes =
    let a = live_in-le (drop buckets nodes) in
    let b = length-drop buckets nodes in omega (arith, a, b)

many_live : (nodes : List Node) → ((i : ℕ) → i < length nodes → live_at nodes i ≡ true)
    → live_in nodes ≡ length nodes
many_live [] all = refl
many_live (v ∷ nodes) all =
    let a = live_in-cons v nodes in
    let b : one_if (is_live v.state) ≡ 1 = ap one_if (all 0 (omega arith)) in
    let d = many_live nodes (λ i low. all (suc i) (omega (arith, low))) in
    omega (arith, a, b, d)

pub many_behind : (buckets : ℕ) (nodes : List Node)
    → buckets ≤ length nodes → ((i : ℕ) → i < length nodes → is_live (state_at nodes i) ≡ true)
    → entries_in buckets nodes + buckets ≡ length nodes
many_behind buckets nodes room all =
    let long = length-drop buckets nodes in
    let many = many_live (drop buckets nodes)
    (λ i low. behind buckets nodes i ∙ all (buckets + i) (omega (arith, low, long))) in
    omega (arith, long, many, room)

-- entries and roots are no more than the nodes
pub entries_and_roots : (buckets : ℕ) (nodes : List Node) → buckets ≤ length nodes
    → entries_in buckets nodes + buckets ≤ length nodes
entries_and_roots buckets nodes room =
    let a = live_in-le (drop buckets nodes) in
    let b = length-drop buckets nodes in omega (arith, a, b, room)
