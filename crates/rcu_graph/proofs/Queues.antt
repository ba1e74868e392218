-- Each node that is gone waits in the queue, in its order, after a step of one node.
use Rattle.std.proofs.Common.{◌≡◌, ◌≢◌, ℕ, suc, zero, ◌+◌, ◌-◌, ◌<◌, ◌≤◌, List, [], ◌∷◌, ◌++◌}
use Rattle.std.proofs.Common.{length, get_or, set, refl, sym, ap, ◌∙◌, arith, subst}
use Rattle.std.proofs.lemmas.List.{get_or_append_left, get_or_push, length-append}
use mathlib.Core.Logic.{dite}
use native.Mathlib.Decide.{ℕ_discrete}
use Rattle.rcu_seq.specs.Numbers.{Number}
use Rattle.rcu_graph.specs.Cycle.{IsGone, IsQueue, StandsAt, StandsIn, state_in}
use Rattle.rcu_graph.specs.Nodes.{IsBy}
use Rattle.rcu_graph.specs.declared.node_state.NodeState.{NodeState}
use Rattle.rcu_graph.specs.declared.node_state.NodeState.TheVariants.{Free, Live, Retired, Unlinked}
use Rattle.rcu_graph.proofs.Stacks.{at_node, at_other, inside_now, inside_then}

is_gone : (retired k : ℕ) (s : NodeState) → StandsAt retired s k → IsGone s
is_gone retired k Free h = h
is_gone retired k Live h = h
is_gone retired k Unlinked h = tt
is_gone retired k (Retired a) h = tt

-- one moves a place nearer to the front, or one more is retired
nearer : (retired k : ℕ) (s : NodeState) → 0 < retired → StandsAt retired s (1 + k)
    → StandsAt (retired - 1) s k
nearer retired k Free some h = h
nearer retired k Live some h = h
nearer retired k Unlinked some h = let a : retired ≤ 1 + k = h in omega (arith, a, some)
nearer retired k (Retired n) some h = let a : 1 + k < retired = h in omega (arith, a, some)

one_more : (retired k : ℕ) (s : NodeState) → k ≢ retired → StandsAt retired s k
    → StandsAt (retired + 1) s k
one_more retired k Free ne h = h
one_more retired k Live ne h = h
one_more retired k Unlinked ne h = let a : retired ≤ k = h in grind arith
one_more retired k (Retired n) ne h = let a : k < retired = h in omega (arith, a)

in_front : (retired k b : ℕ) (s : NodeState) → s ≡ Retired b → StandsAt retired s k → k < retired
in_front retired k b s e h = subst (λ (t : NodeState). StandsAt retired t k) e h

by_number : (number a : Number) (s : NodeState) → s ≡ Retired a → IsBy number s → a ≤ number
by_number number a s e by = subst (λ (t : NodeState). IsBy number t) e by

retired_at : (a b : Number) → Retired a ≡ Retired b → a ≡ b
retired_at a b e = cc

module _ (states : List NodeState) (node : ℕ) (s : NodeState) (low : node < length states)
    (waiting : List ℕ) (retired : ℕ) (h : IsQueue states waiting retired) where
  abbrev now : List NodeState
  now = set states node s

  -- a node that is not gone does not wait
  apart : (IsGone (state_in states node) → ⊥) → (k : ℕ) → k < length waiting
      → get_or waiting k 0 ≢ node
  apart none k l e = none (is_gone retired k (state_in states node)
      (subst (λ (i : ℕ). StandsAt retired (state_in states i) k) e (h.stands k l)))

  other_then : (i : ℕ) → i ≢ node → IsGone (state_in now i) → IsGone (state_in states i)
  other_then i ne g = subst IsGone (at_other states node s low i ne) g

  -- a node that is not gone before or after
  pub queue_aside : (IsGone (state_in states node) → ⊥) → (IsGone s → ⊥)
      → IsQueue now waiting retired
  queue_aside none never = record {
    fit = h.fit;
    inside = λ k l. inside_now states node s low (get_or waiting k 0) (h.inside k l);
    stands = λ k l.
        subst (λ (t : NodeState). StandsAt retired t k)
        (sym (at_other states node s low (get_or waiting k 0) (apart none k l))) (h.stands k l);
    once = h.once;
    found = λ i l g.
        h.found i (inside_then states node s low i l) (other_then i (still_apart i g) g);
    ordered = λ j k a b up l j_is k_is.
        h.ordered j k a b up l
        (sym (at_other states node s low (get_or waiting j 0) (apart none j (omega (arith, up, l))))
        ∙ j_is)
        (sym (at_other states node s low (get_or waiting k 0) (apart none k l)) ∙ k_is);
  }
    where
      still_apart : (i : ℕ) → IsGone (state_in now i) → i ≢ node
      still_apart i g e = never (subst IsGone (at_node states node s low)
          (subst (λ (j : ℕ). IsGone (state_in now j)) e g))

  -- the node is unlinked
  module _ (none : IsGone (state_in states node) → ⊥) (is_unlinked : s ≡ Unlinked) where
    abbrev longer : List ℕ
    longer = waiting ++ node ∷ []

    many : length longer ≡ length waiting + 1
    many = length-append waiting (node ∷ [])

    inner : (k : ℕ) → k < length longer → k ≢ length waiting → k < length waiting
    inner k l ne = let m = many in grind arith

    the_last : (k : ℕ) → k ≡ length waiting → get_or longer k 0 ≡ node
    the_last k e = get_or_push waiting node 0 k (sym e)

    as_before : (k : ℕ) → k < length waiting → get_or longer k 0 ≡ get_or waiting k 0
    as_before k l = get_or_append_left waiting (node ∷ []) 0 k l

    unlinked_there : (k : ℕ) → k ≡ length waiting → state_in now (get_or longer k 0) ≡ Unlinked
    unlinked_there k e =
        ap (λ (i : ℕ). state_in now i) (the_last k e) ∙ (at_node states node s low ∙ is_unlinked)

    state_before : (k : ℕ) → k < length waiting
        → state_in now (get_or longer k 0) ≡ state_in states (get_or waiting k 0)
    state_before k l =
        ap (λ (i : ℕ). state_in now i) (as_before k l)
        ∙ at_other states node s low (get_or waiting k 0) (apart none k l)

    retired_inner : (k : ℕ) (a : Number) → k < length longer
        → state_in now (get_or longer k 0) ≡ Retired a → k < length waiting
    retired_inner k a l is = inner k l (λ (e : k ≡ length waiting).
        unlinked_or_retired a (sym (unlinked_there k e) ∙ is))
      where
        unlinked_or_retired : (a : Number) → Unlinked ≡ Retired a → ⊥
        unlinked_or_retired a e = cc

    once_unlinked : (j k : ℕ) → j < length longer → k < length longer
        → get_or longer j 0 ≡ get_or longer k 0 → j ≡ k
    once_unlinked j k jl kl same = dite (ℕ_discrete j (length waiting))
        (λ (je : j ≡ length waiting). dite (ℕ_discrete k (length waiting))
        (λ (ke : k ≡ length waiting). je ∙ sym ke)
        (λ (kn : k ≢ length waiting). absurd (apart none k (inner k kl kn)
        (sym (as_before k (inner k kl kn)) ∙ (sym same ∙ the_last j je)))))
        (λ (jn : j ≢ length waiting). dite (ℕ_discrete k (length waiting))
        (λ (ke : k ≡ length waiting). absurd (apart none j (inner j jl jn)
        (sym (as_before j (inner j jl jn)) ∙ (same ∙ the_last k ke))))
        (λ (kn : k ≢ length waiting). h.once j k (inner j jl jn) (inner k kl kn)
        (sym (as_before j (inner j jl jn)) ∙ (same ∙ as_before k (inner k kl kn)))))

    pub queue_pushed : IsQueue now longer retired
    queue_pushed = record {
      fit = let m = many in let f = h.fit in omega (arith, m, f);
      inside = λ k l. dite (ℕ_discrete k (length waiting))
          (λ (e : k ≡ length waiting). subst (λ (i : ℕ). i < length now) (sym (the_last k e))
          (inside_now states node s low node low))
          (λ (ne : k ≢ length waiting). subst (λ (i : ℕ). i < length now)
          (sym (as_before k (inner k l ne)))
          (inside_now states node s low (get_or waiting k 0) (h.inside k (inner k l ne))));
      stands = λ k l. dite (ℕ_discrete k (length waiting))
          (λ (e : k ≡ length waiting). subst (λ (t : NodeState). StandsAt retired t k)
          (sym (unlinked_there k e)) (let f = h.fit in omega (arith, f, e)))
          (λ (ne : k ≢ length waiting). subst (λ (t : NodeState). StandsAt retired t k)
          (sym (state_before k (inner k l ne))) (h.stands k (inner k l ne)));
      once = once_unlinked;
      found = λ i l g. dite (ℕ_discrete i node)
          (λ (e : i ≡ node). (
            length waiting,
            (let m = many in omega (arith, m), the_last (length waiting) refl ∙ sym e),
          ))
          (λ (ne : i ≢ node).
          let f = h.found i (inside_then states node s low i l) (other_then i ne g) in
          let a = f.1.0 in
          (f.0, (let m = many in omega (arith, m, a), as_before f.0 a ∙ f.1.1)));
      ordered = λ j k a b up l j_is k_is.
          let kl = retired_inner k b l k_is in
          let jl : j < length waiting = omega (arith, up, kl) in
          h.ordered j k a b up kl (sym (state_before j jl) ∙ j_is) (sym (state_before k kl) ∙ k_is);
    }

  -- the first one is free
  module _ (some : 0 < retired) (first : get_or waiting 0 0 ≡ node) (never : IsGone s → ⊥)
      (rest : List ℕ) (fewer : length rest + 1 ≡ length waiting)
      (shift : (k : ℕ) → get_or rest k 0 ≡ get_or waiting (1 + k) 0) where
    later : (k : ℕ) → k < length rest → 1 + k < length waiting
    later k l = omega (arith, l, fewer)

    behind : (k : ℕ) → k < length rest → get_or waiting (1 + k) 0 ≢ node
    behind k l e =
        let a : 1 + k ≡ 0 =
        h.once (1 + k) 0 (later k l) (let m = fewer in omega (arith, m)) (e ∙ sym first) in
        omega (arith, a)

    state_later : (k : ℕ) → k < length rest
        → state_in now (get_or rest k 0) ≡ state_in states (get_or waiting (1 + k) 0)
    state_later k l =
        ap (λ (i : ℕ). state_in now i) (shift k)
        ∙ at_other states node s low (get_or waiting (1 + k) 0) (behind k l)

    found_later : (i : ℕ) → i < length now → IsGone (state_in now i) → (k : ℕ) × StandsIn rest k i
    found_later i l g = go f.0 f.1.0 f.1.1
      where
        ne : i ≢ node
        ne e = never (subst IsGone (at_node states node s low)
            (subst (λ (j : ℕ). IsGone (state_in now j)) e g))

        f : (k : ℕ) × StandsIn waiting k i
        f = h.found i (inside_then states node s low i l) (other_then i ne g)

        go : (k : ℕ) → k < length waiting → get_or waiting k 0 ≡ i → (k : ℕ) × StandsIn rest k i
        go zero there is = absurd (ne (sym is ∙ first))
        go (suc k) there is = (
          k,
          (
            omega (arith, there, fewer),
            shift k ∙ (ap (λ (m : ℕ). get_or waiting m 0) (omega arith) ∙ is),
          ),
        )

    pub queue_popped : IsQueue now rest (retired - 1)
    queue_popped = record {
      fit = let f = h.fit in omega (arith, f, fewer);
      inside = λ k l. subst (λ (i : ℕ). i < length now) (sym (shift k))
          (inside_now states node s low (get_or waiting (1 + k) 0)
          (h.inside (1 + k) (later k l)));
      stands = λ k l. subst (λ (t : NodeState). StandsAt (retired - 1) t k) (sym (state_later k l))
          (nearer retired k (state_in states (get_or waiting (1 + k) 0)) some
          (h.stands (1 + k) (later k l)));
      once = λ j k jl kl same.
          let a : 1 + j ≡ 1 + k = h.once (1 + j) (1 + k) (later j jl) (later k kl)
          (sym (shift j) ∙ (same ∙ shift k)) in
          omega (arith, a);
      found = found_later;
      ordered = λ j k a b up l j_is k_is.
          h.ordered (1 + j) (1 + k) a b (omega (arith, up)) (later k l)
          (sym (state_later j (omega (arith, up, l))) ∙ j_is) (sym (state_later k l) ∙ k_is);
    }

  -- the one that was unlinked first is retired
  module _ (number : Number) (is_retired : s ≡ Retired number) (there : retired < length waiting)
      (next : get_or waiting retired 0 ≡ node)
      (late : (i : ℕ) → i < length states → IsBy number (state_in states i)) where
    other_place : (k : ℕ) → k < length waiting → k ≢ retired → get_or waiting k 0 ≢ node
    other_place k l ne e = ne (h.once k retired l there (e ∙ sym next))

    state_there : (k : ℕ) → k ≡ retired → state_in now (get_or waiting k 0) ≡ Retired number
    state_there k e =
        ap (λ (i : ℕ). state_in now i) (ap (λ (m : ℕ). get_or waiting m 0) e ∙ next)
        ∙ (at_node states node s low ∙ is_retired)

    state_apart : (k : ℕ) → k < length waiting → k ≢ retired
        → state_in now (get_or waiting k 0) ≡ state_in states (get_or waiting k 0)
    state_apart k l ne =
        at_other states node s low (get_or waiting k 0) (other_place k l ne)

    stands_retired : (k : ℕ) → k < length waiting
        → StandsAt (retired + 1) (state_in now (get_or waiting k 0)) k
    stands_retired k l = dite (ℕ_discrete k retired)
        (λ (e : k ≡ retired). subst (λ (t : NodeState). StandsAt (retired + 1) t k)
        (sym (state_there k e)) (omega (arith, e)))
        (λ (ne : k ≢ retired). subst (λ (t : NodeState). StandsAt (retired + 1) t k)
        (sym (state_apart k l ne))
        (one_more retired k (state_in states (get_or waiting k 0)) ne (h.stands k l)))

    by_now : (j : ℕ) (a : Number) → j < length waiting
        → state_in now (get_or waiting j 0) ≡ Retired a → a ≤ number
    by_now j a l is = dite (ℕ_discrete j retired)
        (λ (e : j ≡ retired).
        let same : a ≡ number = retired_at a number (sym is ∙ state_there j e) in
        omega (arith, same))
        (λ (ne : j ≢ retired).
        by_number number a (state_in states (get_or waiting j 0)) (sym (state_apart j l ne) ∙ is)
        (late (get_or waiting j 0) (h.inside j l)))

    ordered_retired : (j k : ℕ) (a b : Number) → j ≤ k → k < length waiting
        → state_in now (get_or waiting j 0) ≡ Retired a
        → state_in now (get_or waiting k 0) ≡ Retired b
        → a ≤ b
    ordered_retired j k a b up l j_is k_is =
        let jl : j < length waiting = omega (arith, up, l) in
        dite (ℕ_discrete k retired)
        (λ (e : k ≡ retired).
        let same : b ≡ number = retired_at b number (sym k_is ∙ state_there k e) in
        let early : a ≤ number = by_now j a jl j_is in
        omega (arith, same, early))
        (λ (ne : k ≢ retired).
        let then : state_in states (get_or waiting k 0) ≡ Retired b =
        sym (state_apart k l ne) ∙ k_is in
        let front : k < retired =
        in_front retired k b (state_in states (get_or waiting k 0)) then (h.stands k l) in
        let jn : j ≢ retired = λ (e : j ≡ retired). omega (arith, e, up, front) in
        h.ordered j k a b up l (sym (state_apart j jl jn) ∙ j_is) then)

    pub queue_retired : IsQueue now waiting (retired + 1)
    queue_retired = record {
      fit = omega (arith, there);
      inside = λ k l. inside_now states node s low (get_or waiting k 0) (h.inside k l);
      stands = stands_retired;
      once = h.once;
      found = λ i l g. dite (ℕ_discrete i node)
          (λ (e : i ≡ node). (retired, (there, next ∙ sym e)))
          (λ (ne : i ≢ node).
          h.found i (inside_then states node s low i l) (other_then i ne g));
      ordered = ordered_retired;
    }
