-- Each free node is in the stack at its height after a step of one node.
use Rattle.std.proofs.Common.{◌≡◌, ◌≢◌, ℕ, ◌+◌, ◌-◌, ◌<◌, List, [], ◌∷◌, ◌++◌, length, get_or}
use Rattle.std.proofs.Common.{set, refl, sym, ap, ◌∙◌, arith, subst}
use Rattle.std.proofs.lemmas.List.{get_or-set_other, get_or-set_same, get_or_append_left}
use Rattle.std.proofs.lemmas.List.{get_or_push, length-append, length-set}
use mathlib.Core.Logic.{dite}
use native.Mathlib.Decide.{ℕ_discrete}
use Rattle.rcu_graph.specs.Cycle.{IsFreeAt, IsStack, StandsIn, state_in}
use Rattle.rcu_graph.specs.declared.node_state.NodeState.{NodeState}
use Rattle.rcu_graph.specs.declared.node_state.NodeState.TheVariants.{Free}

-- one node comes into another state
module _ (states : List NodeState) (node : ℕ) (s : NodeState) (low : node < length states) where
  abbrev now : List NodeState
  now = set states node s

  pub at_node : state_in now node ≡ s
  at_node = get_or-set_same states node s Free low

  pub at_other : (i : ℕ) → i ≢ node → state_in now i ≡ state_in states i
  at_other i ne = get_or-set_other states node i s Free ne

  -- for a state in which the node was not, the nodes in it are as before, and conversely
  pub stays : (i : ℕ) (t : NodeState) → state_in states node ≢ t → state_in states i ≡ t
      → (i ≢ node) × (state_in now i ≡ t)
  stays i t ne is =
      let apart : i ≢ node =
      λ (e : i ≡ node). ne (sym (ap (λ (k : ℕ). state_in states k) e) ∙ is) in
      (apart, at_other i apart ∙ is)

  pub was : (i : ℕ) (t : NodeState) → s ≢ t → state_in now i ≡ t
      → (i ≢ node) × (state_in states i ≡ t)
  was i t ne is =
      let apart : i ≢ node =
      λ (e : i ≡ node). ne (sym at_node ∙ (sym (ap (λ (k : ℕ). state_in now k) e) ∙ is)) in
      (apart, sym (at_other i apart) ∙ is)

  pub inside_now : (i : ℕ) → i < length states → i < length now
  inside_now i l = subst (λ (n : ℕ). i < n) (sym (length-set states node s)) l

  pub inside_then : (i : ℕ) → i < length now → i < length states
  inside_then i l = subst (λ (n : ℕ). i < n) (length-set states node s) l

  module _ (free heights : List ℕ) (h : IsStack states free heights) where
    -- a node that is not free before or after
    pub stack_aside : state_in states node ≢ Free → s ≢ Free → IsStack now free heights
    stack_aside nf sf = record {
      many = h.many ∙ sym (length-set states node s);
      holds = λ k l.
          let on = h.holds k l in (
            inside_now (get_or free k 0) on.0,
            (stays (get_or free k 0) Free nf on.1).1,
            on.2,
          );
      home = λ i l is. h.home i (inside_then i l) (was i Free sf is).1;
    }

    -- a free node is put on top
    module _ (nf : state_in states node ≢ Free) (sf : s ≡ Free) where
      abbrev pushed : List ℕ
      pushed = free ++ node ∷ []

      abbrev pushed_heights : List ℕ
      pushed_heights = set heights node (length free)

      in_heights : node < length heights
      in_heights = subst (λ (n : ℕ). node < n) (sym h.many) low

      longer : length pushed ≡ length free + 1
      longer = length-append free (node ∷ [])

      holds : (k : ℕ) → k < length pushed → IsFreeAt now pushed_heights k (get_or pushed k 0)
      holds k l = dite (ℕ_discrete k (length free))
          (λ (e : k ≡ length free).
          subst (λ (i : ℕ). IsFreeAt now pushed_heights k i)
          (sym (get_or_push free node 0 k (sym e))) (
            inside_now node low,
            at_node ∙ sf,
            get_or-set_same heights node (length free) 0 in_heights ∙ sym e,
          ))
          (λ (ne : k ≢ length free).
          let inner : k < length free = let m = longer in grind (arith) in
          let on = stays (get_or free k 0) Free nf ((h.holds k inner).1) in
          subst (λ (i : ℕ). IsFreeAt now pushed_heights k i)
          (sym (get_or_append_left free (node ∷ []) 0 k inner)) (
            inside_now (get_or free k 0) ((h.holds k inner).0),
            on.1,
            get_or-set_other heights node (get_or free k 0) (length free) 0 on.0
                ∙ (h.holds k inner).2,
          ))

      home : (i : ℕ) → i < length now → state_in now i ≡ Free
          → StandsIn pushed (get_or pushed_heights i 0) i
      home i l is = dite (ℕ_discrete i node)
          (λ (e : i ≡ node).
          subst (λ (k : ℕ). StandsIn pushed k i)
          (sym (ap (λ (j : ℕ). get_or pushed_heights j 0) e
          ∙ get_or-set_same heights node (length free) 0 in_heights))
          (let m = longer in omega (arith, m), get_or_push free node 0 (length free) refl ∙ sym e))
          (λ (ne : i ≢ node).
          let then : state_in states i ≡ Free = sym (at_other i ne) ∙ is in
          let there = h.home i (inside_then i l) then in
          subst (λ (k : ℕ). StandsIn pushed k i)
          (sym (get_or-set_other heights node i (length free) 0 ne)) (
            let m = longer in let a = there.0 in omega (arith, m, a),
            get_or_append_left free (node ∷ []) 0 (get_or heights i 0) there.0 ∙ there.1,
          ))

      pub stack_pushed : IsStack now pushed pushed_heights
      stack_pushed = record {
        many = length-set heights node (length free) ∙ (h.many ∙ sym (length-set states node s));
        holds = holds;
        home = home;
      }

    -- a free node is taken out, and the one on top takes its height
    module _ (is_free : state_in states node ≡ Free) (sf : s ≢ Free) (left : List ℕ)
        (fewer : length left + 1 ≡ length free) where
      abbrev p : ℕ
      p = get_or heights node 0

      abbrev last : ℕ
      last = length free - 1

      abbrev top : ℕ
      top = get_or free last 0

      abbrev left_heights : List ℕ
      left_heights = set heights top p

      last_low : last < length free
      last_low = let m = fewer in omega (arith, m)

      top_in_heights : top < length heights
      top_in_heights = subst (λ (n : ℕ). top < n) (sym h.many) ((h.holds last last_low).0)

      p_low : p < length free
      p_low = (h.home node low is_free).0

      module _ (moved : p + 1 < length free → get_or left p 0 ≡ top)
          (kept : (k : ℕ) → k ≢ p → k + 1 < length free → get_or left k 0 ≡ get_or free k 0) where
        holds_left : (k : ℕ) → k < length left → IsFreeAt now left_heights k (get_or left k 0)
        holds_left k l = dite (ℕ_discrete k p)
            (λ (e : k ≡ p).
            let inner : p + 1 < length free = let m = fewer in omega (arith, m, l, e) in
            let apart : top ≢ node = λ (same : top ≡ node).
            let a : last ≡ p =
            sym ((h.holds last last_low).2) ∙ ap (λ (j : ℕ). get_or heights j 0) same in
            omega (arith, a, inner) in
            subst (λ (i : ℕ). IsFreeAt now left_heights k i)
            (sym (ap (λ (j : ℕ). get_or left j 0) e ∙ moved inner)) (
              inside_now top ((h.holds last last_low).0),
              at_other top apart ∙ (h.holds last last_low).1,
              get_or-set_same heights top p 0 top_in_heights ∙ sym e,
            ))
            (λ (ne : k ≢ p).
            let inner : k + 1 < length free = let m = fewer in omega (arith, m, l) in
            let k_low : k < length free = omega (arith, inner) in
            let m : ℕ = get_or free k 0 in
            let apart : m ≢ node = λ (same : m ≡ node).
            ne (sym ((h.holds k k_low).2) ∙ ap (λ (j : ℕ). get_or heights j 0) same) in
            let below : m ≢ top = λ (same : m ≡ top).
            let a : k ≡ last =
            sym ((h.holds k k_low).2)
            ∙ (ap (λ (j : ℕ). get_or heights j 0) same ∙ (h.holds last last_low).2) in
            omega (arith, a, inner) in
            subst (λ (i : ℕ). IsFreeAt now left_heights k i) (sym (kept k ne inner)) (
              inside_now m ((h.holds k k_low).0),
              at_other m apart ∙ (h.holds k k_low).1,
              get_or-set_other heights top m p 0 below ∙ (h.holds k k_low).2,
            ))

        home_left : (i : ℕ) → i < length now → state_in now i ≡ Free
            → StandsIn left (get_or left_heights i 0) i
        home_left i l is =
            let before = was i Free sf is in
            let i_low = inside_then i l in
            dite (ℕ_discrete i top)
            (λ (e : i ≡ top).
            let apart : p ≢ last = λ (same : p ≡ last).
            before.0 (e
            ∙ (sym (ap (λ (j : ℕ). get_or free j 0) same) ∙ (h.home node low is_free).1)) in
            let inner : p + 1 < length free = let a = p_low in grind arith in
            subst (λ (k : ℕ). StandsIn left k i)
            (sym (ap (λ (j : ℕ). get_or left_heights j 0) e
            ∙ get_or-set_same heights top p 0 top_in_heights))
            (let m = fewer in omega (arith, m, inner), moved inner ∙ sym e))
            (λ (ne : i ≢ top).
            let q : ℕ = get_or heights i 0 in
            let q_low : q < length free = (h.home i i_low before.1).0 in
            let back : get_or free q 0 ≡ i = (h.home i i_low before.1).1 in
            let below : q ≢ last = λ (same : q ≡ last).
            ne (sym back ∙ ap (λ (j : ℕ). get_or free j 0) same) in
            let apart : q ≢ p = λ (same : q ≡ p).
            before.0 (sym back
            ∙ (ap (λ (j : ℕ). get_or free j 0) same ∙ (h.home node low is_free).1)) in
            let inner : q + 1 < length free = grind arith in
            subst (λ (k : ℕ). StandsIn left k i)
            (sym (get_or-set_other heights top i p 0 ne))
            (let m = fewer in omega (arith, m, inner), kept q apart inner ∙ back))

        pub stack_left : IsStack now left left_heights
        stack_left = record {
          many = length-set heights top p ∙ (h.many ∙ sym (length-set states node s));
          holds = holds_left;
          home = home_left;
        }
