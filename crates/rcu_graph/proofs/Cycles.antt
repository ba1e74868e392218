-- Each node that is not live is in the stack or in the queue, after each step of one.
use Rattle.std.proofs.Common.{◌≡◌, ◌≢◌, ℕ, ◌+◌, ◌-◌, ◌<◌, ◌≤◌, Bool, true, false, List, [], ◌∷◌}
use Rattle.std.proofs.Common.{◌++◌, length, get_or, set, refl, sym, ◌∙◌, arith, subst, replicate}
use Rattle.std.proofs.lemmas.List.{get_or-replicate, length-append, length-replicate, length-set}
use Rattle.std.proofs.lemmas.List.Folds.{sum_by-replicate}
use Rattle.std.proofs.lemmas.List.Sums.{sum_by-cons, sum_by-set}
use Rattle.std.specs.Prelude.{if◌then◌else◌}
use Rattle.rcu_seq.specs.Numbers.{Number}
use Rattle.rcu_live.specs.Numbers.{is_past}
use Rattle.rcu_graph.specs.Counts.{one_if}
use Rattle.rcu_graph.specs.Cycle.{IsCycle, IsGone, StandsAt, how_many, is_idle, is_over, state_in}
use Rattle.rcu_graph.specs.Nodes.{IsBy, is_free, reclaimed_state}
use Rattle.rcu_graph.specs.declared.node_state.NodeState.{NodeState}
use Rattle.rcu_graph.specs.declared.node_state.NodeState.TheVariants.{Free, Live, Retired, Unlinked}
use Rattle.rcu_graph.proofs.Queues.{queue_aside, queue_popped, queue_pushed, queue_retired}
use Rattle.rcu_graph.proofs.Stacks.{stack_aside, stack_left, stack_pushed}

abbrev weight : NodeState → ℕ
weight s = one_if (is_idle s)

light : (s : NodeState) → weight s ≤ 1
light Free = omega arith
light Live = omega arith
light Unlinked = omega arith
light (Retired a) = omega arith

-- no more states pass the test than there are
all_idle : (states : List NodeState) → how_many is_idle states ≤ length states
all_idle [] = omega arith
all_idle (s ∷ states) =
    let a = sum_by-cons weight s states in
    let b = light s in let c = all_idle states in omega (arith, a, b, c)

none_gone : (s t : NodeState) → s ≡ t → (IsGone t → ⊥) → IsGone s → ⊥
none_gone s t e none g = none (subst IsGone e g)

module _ (states : List NodeState) (free heights waiting : List ℕ) (retired : ℕ)
    (c : IsCycle states free heights waiting retired) where
  pub room : length free + length waiting ≤ length states
  room = let a = c.many in let b = all_idle states in omega (arith, a, b)

  module _ (node : ℕ) (low : node < length states) where
    abbrev after : NodeState → List NodeState
    after s = set states node s

    weighed : (s t : NodeState) → state_in states node ≡ t
        → how_many is_idle (after s) + weight t ≡ how_many is_idle states + weight s
    weighed s t e = subst (λ (u : NodeState).
        how_many is_idle (after s) + weight u ≡ how_many is_idle states + weight s) e
        (sum_by-set weight states node s Free low)

    -- a free node becomes live, and the one on top takes its height
    module _ (is_free : state_in states node ≡ Free) (rest : List ℕ)
        (fewer : length rest + 1 ≡ length free)
        (moved : get_or heights node 0 + 1 < length free
        → get_or rest (get_or heights node 0) 0 ≡ get_or free (length free - 1) 0)
        (kept : (k : ℕ)
        → k ≢ get_or heights node 0 → k + 1 < length free → get_or rest k 0 ≡ get_or free k 0) where
      pub cycle_published : IsCycle (after Live) rest
          (set heights (get_or free (length free - 1) 0) (get_or heights node 0)) waiting retired
      cycle_published = record {
        stack = stack_left states node Live low free heights c.stack is_free
            (λ (e : Live ≡ Free). cc) rest fewer moved kept;
        queue = queue_aside states node Live low waiting retired c.queue
            (none_gone (state_in states node) Free is_free (λ g. g)) (λ g. g);
        many =
            let a = weighed Live Free is_free in
            let b = c.many in omega (arith, a, b, fewer);
      }

    -- a live node is unlinked
    pub cycle_unlinked : state_in states node ≡ Live
        → IsCycle (after Unlinked) free heights (waiting ++ node ∷ []) retired
    cycle_unlinked is_live = record {
      stack = stack_aside states node Unlinked low free heights c.stack
          (λ (e : state_in states node ≡ Free). live_or_free (sym is_live ∙ e))
          (λ (e : Unlinked ≡ Free). cc);
      queue = queue_pushed states node Unlinked low waiting retired c.queue
          (none_gone (state_in states node) Live is_live (λ g. g)) refl;
      many =
          let a = weighed Unlinked Live is_live in
          let b = c.many in
          let m = length-append waiting (node ∷ []) in omega (arith, a, b, m);
    }
      where
        live_or_free : Live ≡ Free → ⊥
        live_or_free e = cc

    -- there is room for one more if a node is live
    pub room_left : state_in states node ≡ Live → length waiting < length states
    room_left is_live =
        let a = (cycle_unlinked is_live).many in
        let b = all_idle (after Unlinked) in
        let m = length-append waiting (node ∷ []) in
        let n = length-set states node Unlinked in omega (arith, a, b, m, n)

    -- the node that was retired first is free
    pub cycle_freed : (at : Number) (rest : List ℕ)
        → state_in states node ≡ Retired at
        → 0 < retired
        → get_or waiting 0 0 ≡ node
        → length rest + 1 ≡ length waiting
        → ((k : ℕ) → get_or rest k 0 ≡ get_or waiting (1 + k) 0)
        → IsCycle (after Free) (free ++ node ∷ []) (set heights node (length free)) rest
        (retired - 1)
    cycle_freed at rest is_retired some first fewer shift = record {
      stack = stack_pushed states node Free low free heights c.stack
          (λ (e : state_in states node ≡ Free). retired_or_free (sym is_retired ∙ e)) refl;
      queue = queue_popped states node Free low waiting retired c.queue some first (λ g. g) rest
          fewer shift;
      many =
          let a = weighed Free (Retired at) is_retired in
          let b = c.many in
          let m = length-append free (node ∷ []) in omega (arith, a, b, m, fewer);
    }
      where
        retired_or_free : Retired at ≡ Free → ⊥
        retired_or_free e = cc

    -- the node that was unlinked first is retired
    pub cycle_retired : (number : Number)
        → state_in states node ≡ Unlinked
        → retired < length waiting
        → get_or waiting retired 0 ≡ node
        → ((i : ℕ) → i < length states → IsBy number (state_in states i))
        → IsCycle (after (Retired number)) free heights waiting (retired + 1)
    cycle_retired number is_unlinked there next late = record {
      stack = stack_aside states node (Retired number) low free heights c.stack
          (λ (e : state_in states node ≡ Free). unlinked_or_free (sym is_unlinked ∙ e))
          (λ (e : Retired number ≡ Free). cc);
      queue = queue_retired states node (Retired number) low waiting retired c.queue number refl
          there next late;
      many =
          let a = weighed (Retired number) Unlinked is_unlinked in let b = c.many in omega
          (arith, a, b);
    }
      where
        unlinked_or_free : Unlinked ≡ Free → ⊥
        unlinked_or_free e = cc

-- all nodes are free at first, and those with low numbers are on top
module _ (count : ℕ) (free heights : List ℕ) (many : length free ≡ count)
    (all : length heights ≡ count) (each : (i : ℕ) → i < count → get_or free i 0 ≡ count - 1 - i)
    (at : (i : ℕ) → i < count → get_or heights i 0 ≡ count - 1 - i) where
  abbrev first : List NodeState
  first = replicate count Free

  first_many : length first ≡ count
  first_many = length-replicate count Free

  all_free : (i : ℕ) → i < count → state_in first i ≡ Free
  all_free i low = get_or-replicate count i Free Free low

  in_count : (k : ℕ) → k < length free → k < count
  in_count k l = omega (arith, l, many)

  turned_place : (k : ℕ) → k < count → get_or free k 0 < count
  turned_place k l = let a = each k l in omega (arith, a, l)

  place_turned : (k : ℕ) → k < count → get_or heights k 0 < count
  place_turned k l = let a = at k l in omega (arith, a, l)

  pub cycle_first : IsCycle first free heights [] 0
  cycle_first = record {
    stack = record {
      many = all ∙ sym first_many;
      holds = λ k l.
          let low = in_count k l in
          let a = turned_place k low in
          let b = each k low in
          let d = at (get_or free k 0) a in (
            omega (arith, a, first_many),
            all_free (get_or free k 0) a,
            omega (arith, d, b, low),
          );
      home = λ i l is.
          let low : i < count = omega (arith, l, first_many) in
          let a = place_turned i low in
          let b = at i low in
          let d = each (get_or heights i 0) a in (omega (arith, a, many), omega (arith, d, b, low));
    };
    queue = record {
      fit = omega arith;
      inside = λ k l. absurd (omega (arith, l));
      stands = λ k l. absurd (omega (arith, l));
      once = λ j k jl kl same. absurd (omega (arith, jl));
      found = λ i l g. absurd (subst IsGone (all_free i (omega (arith, l, first_many))) g);
      ordered = λ j k a b up l j_is k_is. absurd (omega (arith, l));
    };
    many = let a = sum_by-replicate weight count Free in omega (arith, a, many);
  }

-- the node that was retired first is free if a load frees it
pub is_retired : (number retired : ℕ) (s : NodeState) → StandsAt retired s 0 → 0 < retired
    → is_free (reclaimed_state number number s) ≡ true
    → (at : Number) × (s ≡ Retired at) × (is_over number s ≡ true)
is_retired number retired Free h some so = absurd h
is_retired number retired Live h some so = absurd h
is_retired number retired Unlinked h some so =
    let a : retired ≤ 0 = h in absurd (omega (arith, a, some))
is_retired number retired (Retired at) h some so = (at, refl, go (is_past at number) so)
  where
    go : (b : Bool) → is_free (if b then Free else Retired at) ≡ true → b ≡ true
    go true e = refl
    go false e = absurd (cc)

-- the node that was unlinked first is unlinked
pub is_unlinked_at : (retired : ℕ) (s : NodeState) → StandsAt retired s retired → s ≡ Unlinked
is_unlinked_at retired Free h = absurd h
is_unlinked_at retired Live h = absurd h
is_unlinked_at retired Unlinked h = refl
is_unlinked_at retired (Retired at) h = let a : retired < retired = h in absurd (omega (arith, a))
